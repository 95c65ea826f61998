use Rattle.std.proofs.Common.{ℕ, List, ◌∷◌, [], ◌++◌, replicate, sym, ap, ◌∙◌}
use Rattle.std.proofs.lemmas.Grind.{replicate_next}
use Rattle.set_commands.proofs.serving.fresh.zero_device.Goals as goal

-- src/serving/fresh.rt:110:5
pub loop-preserved : goal.loop-preserved
loop-preserved c = rw (c.in_ok-push.ensures.items) (
    ap (λ (disk : List (List ℕ)). disk ++ replicate 512 0 ∷ []) c.loop.invariant ∙ sym (replicate_next c.loop.counter (replicate 512 0)))
