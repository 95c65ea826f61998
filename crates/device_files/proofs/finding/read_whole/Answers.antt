use Rattle.std.proofs.Common.{arith, refl}
use Rattle.sector_model.proofs.DeviceParts.{read_more, read_same}
use Rattle.device_files.specs.BankFiles.{contents_by}
use Rattle.device_files.proofs.Found.{sector_read}
use Rattle.device_files.proofs.finding.read_whole.Goals as goal
use Rattle.device_files.proofs.finding.read_whole.Goals.{in-Ok, in-Err+else-ne}

pub returns-then-done-clause-read : goal.returns-then-done-clause-read
returns-then-done-clause-read g c = λ tells.
    sector_read (g.F.Growing.told c.args.file.now) (g.F.BankFile.left c.args.file.now) c.loop.sector c.args.place 512 c.loop.invariant.long
    (c.requires.within tells)
    (read_same _ _ _ _ _ _ (omega (arith, c.if-done.true, c.loop.invariant.done)) (c.loop.invariant.read tells) (λ k within. refl))

pub loop-preserved : goal.loop-preserved
loop-preserved g c =
    let file = contents_by g.F.Growing.told g.F.BankFile.left c.args.file.now in
    elim c.match-read_rest.branch [
      | in-Ok w ↦ record {
        done = omega (arith, w.done-is, w.in-Ok.ensures.bound);
        read = λ tells. read_more {a = file} {b = file} _ _ _ _ _ _ w.done-is refl (c.loop.invariant.read tells) c.read_rest.ensures.front
            (w.in-Ok.ensures.read tells);
        long = c.read_rest.array_long;
        failed = λ under. c.loop.invariant.failed (omega (arith, under, w.done-is));
      }
      | in-Err+else-ne w ↦ record {
        done = omega (arith, w.done-is, c.loop.invariant.done);
        read = λ tells. read_same _ _ _ _ _ _ w.done-is (c.loop.invariant.read tells) c.read_rest.ensures.front;
        long = c.read_rest.array_long;
        failed = λ under. w.in-Err.ensures.failed;
      }
    ]
