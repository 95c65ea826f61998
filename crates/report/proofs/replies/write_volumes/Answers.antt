use Rattle.std.proofs.Common.{sym}
use Rattle.std.proofs.lemmas.Result.{err_from_is_err_and}
use Rattle.report.specs.Replies.{volume_line}
use Rattle.report.specs.Written.{volume_of}
use Rattle.report.proofs.WriteLemmas.{AppendsPart-item}
use Rattle.report.proofs.replies.write_volumes.Goals as goal

pub returns-in_err-write_volume : goal.returns-in_err-write_volume
returns-in_err-write_volume g c =
    let p = err_from_is_err_and c.from_residual.result c.from_residual.ensures.1 in
    let it = c.in_err-write_volume.ensures in
    rw (p.1, p.2) (record {
      ok = tt;
      part = AppendsPart-item (λ volume. volume_line (volume_of volume)) _ _ _ c.args.volumes.now c.loop-volume.volume-index c.volume-item.result
          c.loop-volume-test.true c.loop-volume.invariant (rw (sym c.volume-item.is) it.part);
      kind = it.kind;
    })
