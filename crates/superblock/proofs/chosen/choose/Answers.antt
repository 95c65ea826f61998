use Rattle.std.proofs.Common.{◌≡◌, ◌+◌, Option, Some, None, sym, refl, subst, ◌∙◌, Bor, arith}
use Rattle.std.proofs.lemmas.List.{get_or_default}
use Rattle.superblock.specs.Chosen.{found_at}
use Rattle.superblock.specs.declared.table.Superblock.{Superblock}
use Rattle.superblock.proofs.Choice.{IsBest, best_after_none, best_after_lower, best_from_greater, best_of_all}
use Rattle.superblock.proofs.chosen.choose.Goals.{in-Some+then-is_below, in-Some+else-is_below, in_default}
use Rattle.superblock.proofs.chosen.choose.Goals as goal

pub loop-place-preserved : goal.loop-place-preserved
loop-place-preserved c =
    let found = c.args.found.now in
    let n = c.loop-place.place-index in
    let here = get_or_default found n c.place-item.result None c.loop-place-test.true in
    let there : found_at found n ≡ c.place-item.result = sym (c.place-item.is ∙ here) in
    let so_far : IsBest n found c.loop-place.best = c.loop-place.invariant in
    elim c.match-place.branch [
      | in-Some+then-is_below w ↦
          best_from_greater n found c.loop-place.best c.match-place.best _ w.in-Some.superblock (there ∙ w.in-Some.is) (w.is_below.ensures.0 w.if-is_below.true)
          w.best-is so_far
      | in-Some+else-is_below w ↦
          subst (λ (best : Option (Bor Superblock)). IsBest (n + 1) found best) (sym w.best-is)
          (best_after_lower n found c.loop-place.best w.in-Some.superblock (there ∙ w.in-Some.is)
          (λ greater. let is_below = w.is_below.ensures.1 greater in let not_below = w.if-is_below.false in absurd cc) so_far)
      | in_default w ↦ subst (λ (best : Option (Bor Superblock)). IsBest (n + 1) found best) (sym w.best-is)
          (best_after_none n found c.loop-place.best (there ∙ w.in_default.is) so_far)
    ]

pub returns-in-Some-best-clause-some : goal.returns-in-Some-best-clause-some
returns-in-Some-best-clause-some c =
    let found = c.args.found.now in
    let n = c.loop-place.place-index in
    let best = c.in-Some-best.superblock in
    let so_far : IsBest n found c.loop-place.best = c.loop-place.invariant in
    let chosen : IsBest n found (Some best) = subst (λ (b : Option (Bor Superblock)). IsBest n found b) c.in-Some-best.is so_far in
    (best.now, best_of_all n found best.now (omega arith) chosen, refl)
