use Rattle.std.proofs.Common.{ℕ, subst, below_more}
use Rattle.extents.specs.Checks.{PlacesOccur}
use Rattle.extents.proofs.checks.all_places_occur.Goals as goal

pub loop-volume-preserved : goal.loop-volume-preserved
loop-volume-preserved c =
    let P : ℕ → Type 0 = λ n. PlacesOccur c.args.extents.now c.loop-volume.volume n in
    below_more _ _ c.loop-volume.invariant (subst P c.extents_of_volume.ensures (c.places_occur.ensures.0 c.if-not-places_occur.false))
