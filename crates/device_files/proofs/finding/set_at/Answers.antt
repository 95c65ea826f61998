use Rattle.std.proofs.Common.{inr, refl, subst}
use Rattle.device_files.specs.Superblocks.{HasSector}
use Rattle.device_files.proofs.Found.{none_spelled}
use Rattle.device_files.proofs.finding.set_at.Goals as goal

pub returns-in_err-superblock : goal.returns-in_err-superblock
returns-in_err-superblock g c = rw c.from_residual-in_err-superblock.ensures
    (inr (λ tells. none_spelled _ _ c.in_ok-sector.sector (c.in_ok-sector.ensures.some tells)
    (λ superblock spelled. let same = c.in_err-superblock.ensures.exact superblock spelled in cc)))

pub returns : goal.returns
returns g c = λ tells. record {
  superblock = c.in_ok-superblock.superblock;
  spelled = subst (HasSector (g.F.Growing.told c.args.file.now) c.args.number) c.in_ok-superblock.ensures.some (c.in_ok-sector.ensures.some tells);
  of_set = refl;
}
