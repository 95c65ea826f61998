use Rattle.std.proofs.Common.{◌≡◌, ℕ, ◌<◌, ◌≤◌, Some, ◌∙◌, sym, refl, subst, below_more, arith}
use Rattle.extents.specs.declared.owned.Owned.{Owned}
use Rattle.extents.specs.VolumeTables.{record_of, extents_of}
use Rattle.extents.specs.Checks.{Fits}
use Rattle.extents.specs.Owners.{IsAt}
use Rattle.extents.proofs.Tables.{some_within, found_owner, is_number, not_false}
use Rattle.extents.proofs.checks.owners_fit.Goals as goal
use Rattle.extents.proofs.checks.owners_fit.Goals.{in-Some+else-not-within+else-ne, in_default}

pub loop-extent-preserved : goal.loop-extent-preserved
loop-extent-preserved c =
    let extents = c.args.extents.now in
    let extent = c.loop-extent.extent in
    below_more _ _ c.loop-extent.invariant (elim c.match-owner.branch [
      | in-Some+else-not-within+else-ne w ↦ λ owner at.
          let mine : Owned = w.in-Some.owner in
          let same : mine ≡ owner = let is = w.in-Some.is in cc in
          let within : mine.place < extents_of c.args.layout.now.blocks (record_of c.args.records.now mine.volume) = let one =
          w.extents_of_volume.ensures in let two = w.if-not-within.false in omega arith in
          let found : w.first_at.result ≡ Some extent = is_number w.first_at.result extent (not_false (sym w.ne.ensures ∙ w.if-ne.false)) in
          let P : Owned → Type 0 = λ one. Fits c.args.layout.now.blocks c.args.records.now extents extent one in
          let First : ℕ → Type 0 = λ place. (other : ℕ) → IsAt extents other mine.volume place → extent ≤ other in
          let first : First mine.place = subst First w.from-place.ensures
          (found_owner extents extent mine.volume w.from-place.result w.first_at.result w.first_at.ensures found) in
          subst P same (record { within = within; first = first })
      | in_default w ↦ λ owner at. absurd (w.in_default.not-Some owner at)
    ])

pub returns : goal.returns
returns c = (
  λ yes extent owner at. c.loop-extent.invariant extent (let within = some_within c.args.extents.now extent owner at in omega arith) owner at,
  λ fit. refl,
)
