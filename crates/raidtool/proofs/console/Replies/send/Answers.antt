use Rattle.std.proofs.Common.{◌≡◌}
use Rattle.std.specs.IoError.{error_kind}
use Rattle.std.specs.declared.io.ErrorKind.TheVariants.{Other}
use Rattle.raidtool.proofs.SomeReplies.{both_ok, err_or_other}
use Rattle.raidtool.proofs.console.Replies.send.Goals as goal

pub returns-clause-sent : goal.returns-clause-sent
returns-clause-sent g c =
    both_ok c.send.result (λ sent whole. record { old = c.deref_mut.result.now; new = c.send.new.self; sent = sent; whole = whole }) c.send.ensures.sent
    c.send.ensures.left

pub returns-clause-stopped : goal.returns-clause-stopped
returns-clause-stopped g c = err_or_other (λ error. error_kind error ≡ Other) c.send.result (λ broken. record {
  old = c.deref_mut.result.now;
  new = c.send.new.self;
  kept = c.send.ensures.kept;
  broken = broken;
  untried = λ was. (c.send.ensures.untried was).1;
}) c.send.ensures.broken
