use Rattle.std.proofs.Common.{◌≡◌}
use Rattle.std.proofs.lemmas.Result.{on_ok_weaker}
use Rattle.std.specs.IoError.{error_kind}
use Rattle.std.specs.declared.io.ErrorKind.TheVariants.{Other}
use Rattle.raidtool.proofs.SomeReplies.{err_not}
use Rattle.raidtool.proofs.console.Replies.make_way.Goals as goal

pub returns-clause-way : goal.returns-clause-way
returns-clause-way g c = on_ok_weaker c.make_way.result (λ way. record {
  old = c.deref_mut.result.now;
  new = c.make_way.new.self;
  kept = c.make_way.ensures.kept;
  waits = λ may. (c.make_way.ensures.waits may).1;
  way = way;
}) c.make_way.ensures.way

pub returns-clause-stopped : goal.returns-clause-stopped
returns-clause-stopped g c = err_not (λ error. error_kind error ≡ Other) c.make_way.result (λ broken. record {
  old = c.deref_mut.result.now;
  new = c.make_way.new.self;
  kept = c.make_way.ensures.kept;
  broken = broken;
  untried = c.make_way.ensures.untried;
}) c.make_way.ensures.broken c.make_way.ensures.waits
