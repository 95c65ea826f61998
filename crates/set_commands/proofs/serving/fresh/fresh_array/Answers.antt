use Rattle.std.proofs.Common.{refl}
use Rattle.set_commands.proofs.FreshLemmas.{made_fresh, make_refused}
use Rattle.set_commands.proofs.serving.fresh.fresh_array.Goals as goal

-- src/serving/fresh.rt:60:1
pub returns-in-Ok-clause-fresh : goal.returns-in-Ok-clause-fresh
returns-in-Ok-clause-fresh c = made_fresh _ c.in_ok-geometry.geometry _ _ refl c.in_ok-geometry.ensures.format c.in_ok-geometry.ensures.members
    c.in_ok-geometry.ensures.chunk
    c.in_ok-geometry.ensures.stripes
    (c.in_ok-bank.ensures.quiet _) c.in-Ok.ensures.made

-- src/serving/fresh.rt:60:1
pub returns-in-Err-clause-err : goal.returns-in-Err-clause-err
returns-in-Err-clause-err c = make_refused _ c.in_ok-geometry.geometry _ _ c.in-Err.unmade.refusal
    c.in_ok-geometry.ensures.members c.in_ok-bank.ensures.devices c.in-Err.ensures.refused
