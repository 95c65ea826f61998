use Rattle.std.proofs.Common.{ℕ, sym, subst, refl}
use Rattle.std.specs.Prelude.{length, slice_set}
use Rattle.batch.specs.Listed.{places_in}
use Rattle.batch.specs.Staging.{IsPut}
use Rattle.batch.proofs.Staged.{put_there, waits_placed}
use Rattle.batch.proofs.staging.put_one.Goals as goal

pub returns-in-Some : goal.returns-in-Some
returns-in-Some c =
    let places = places_in c.args.places.now in
    subst (λ (n : ℕ). IsPut c.args.sector.now (length places) c.args.all.now (slice_set c.args.all.now n c.args.sector.now)) (sym c.from.ensures)
    (put_there c.args.geometry.now c.args.all.now places c.requires.held c.place-place.result.row c.place-place.result.member c.in-Some.at
    c.args.sector.now c.place-place.ensures.placed c.in-Some.ensures.some)

pub returns-in_default : goal.returns-in_default
returns-in_default c = absurd (c.in_default.ensures.none refl
    (waits_placed c.args.geometry.now c.args.all.now (places_in c.args.places.now) c.requires.held c.args.sector.now.0 c.place-place.result.row
    c.place-place.result.member c.place-place.ensures.placed c.requires.has))
