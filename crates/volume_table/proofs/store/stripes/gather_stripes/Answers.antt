use Rattle.std.proofs.Common.{◌≡◌, ℕ, ◌+◌, ◌-◌, ◌*◌, ◌%◌, ◌<◌, ◌≤◌, Bool, false, true, List, Option, inl, inr, length, sym, ◌∙◌, ap, ap₂, subst, subst₂, arith}
use Rattle.std.proofs.lemmas.Bool.{cases_lt, true≢false}
use Rattle.layout_map.specs.declared.geometry.Geometry.{Geometry}
use Rattle.layout_map.specs.Placement.{stripe_blocks}
use Rattle.layout_map.proofs.Places.{chunk_least, stripe_least}
use Rattle.entry_runs.specs.declared.run.Run.{Run}
use Rattle.batch.specs.ZeroRows.{HasMore}
use Rattle.batch.specs.ZeroRuns.{zero_runs}
use Rattle.extents.specs.declared.extent_layout.ExtentLayout.{ExtentLayout}
use Rattle.extents.specs.declared.owned.Owned.{Owned}
use Rattle.extents.specs.ExtentMaps.{HasPlace, place_of}
use Rattle.extents.specs.SetExtents.{extents_in}
use Rattle.volume_table.specs.WholeStripes.{FillStripe, GathersStripes}
use Rattle.volume_table.proofs.AlignedExtents.{stripe_after, stripe_before}
use Rattle.volume_table.proofs.WholeStripes.{none_gathered, one_stripe_more, rows_fit, stripe_fits, stripe_is_new}
use Rattle.volume_table.proofs.store.stripes.gather_stripes.Goals as goal

-- the blocks of a stripe, one at least
stripe_is : (geometry : Geometry) (chunk others : ℕ) → chunk ≡ geometry.chunk → others ≡ geometry.members - 1
    → (chunk * others ≡ stripe_blocks geometry.members geometry.chunk) × (1 ≤ chunk * others)
stripe_is geometry chunk others one two =
    let same : chunk * others ≡ stripe_blocks geometry.members geometry.chunk = ap₂ (λ (a b : ℕ). a * b) one two in
    (same, omega (arith, same, stripe_least geometry.members geometry.chunk geometry.limits.members_least (chunk_least geometry.limits)))

some_blocks : (geometry : Geometry) → 0 < stripe_blocks geometry.members geometry.chunk
some_blocks geometry = omega (arith, stripe_least geometry.members geometry.chunk geometry.limits.members_least (chunk_least geometry.limits))

-- there is a stripe before the last block
stripe_more : (geometry : Geometry) (end last : ℕ) → end % stripe_blocks geometry.members geometry.chunk ≡ 0
    → last % stripe_blocks geometry.members geometry.chunk ≡ 0 → end < last → end + stripe_blocks geometry.members geometry.chunk ≤ last
stripe_more geometry end last first whole less = stripe_before end last (stripe_blocks geometry.members geometry.chunk) (some_blocks geometry) first whole less

-- the stripe, by where the extents of the set lie
fill_in : (geometry : Geometry) (extents : ExtentLayout) (owners : List (Option Owned)) (number block stripe : ℕ) → extents ≡ extents_in geometry
    → FillStripe geometry extents owners number block stripe → FillStripe geometry (extents_in geometry) owners number block stripe
fill_in geometry extents owners number block stripe is fill = subst (λ (e : ExtentLayout). FillStripe geometry e owners number block stripe) is fill

-- there is room for its rows
rows_below : (geometry : Geometry) (extents : ExtentLayout) (owners : List (Option Owned)) (number block stripe : ℕ)
    → length owners ≤ (extents_in geometry).count → extents ≡ extents_in geometry → HasPlace owners number (place_of (extents_in geometry) block)
    → FillStripe geometry extents owners number block stripe → stripe * geometry.chunk + geometry.chunk < 4294967296
rows_below geometry extents owners number block stripe sized is there fill =
    rows_fit geometry stripe (stripe_fits geometry owners number block stripe sized there (fill_in geometry extents owners number block stripe is fill))

pub loop-end-init : goal.loop-end-init
loop-end-init c = record {
  least = omega arith;
  most = omega (arith, c.requires.order);
  begins = c.requires.first;
  none = λ same. c.clear.ensures;
  gathers = subst (λ (runs : List Run). GathersStripes c.args.geometry.now (extents_in c.args.geometry.now) c.args.map.now c.args.volume c.args.at c.args.at
      runs)
      (sym c.clear.ensures) (none_gathered c.args.geometry.now (extents_in c.args.geometry.now) c.args.map.now c.args.volume c.args.at);
}

pub stripe_at-number-requires-clause-placed : goal.stripe_at-number-requires-clause-placed
stripe_at-number-requires-clause-placed c =
    subst (λ (e : ExtentLayout). HasPlace c.args.map.now c.args.volume (place_of e c.loop-end.end)) (sym c.of-extents.ensures)
    (c.requires.placed c.loop-end.end c.loop-end.invariant.least c.loop-end-test.true)

pub overflow_mul-first : goal.overflow_mul-first
overflow_mul-first c =
    let fits = rows_below c.args.geometry.now c.of-extents.result c.args.map.now c.args.volume c.loop-end.end c.stripe_at-number.result c.requires.sized
    c.of-extents.ensures (c.requires.placed c.loop-end.end c.loop-end.invariant.least c.loop-end-test.true) c.stripe_at-number.ensures in
    omega (arith, fits, ap (λ (n : ℕ). c.stripe_at-number.result * n) c.from-in-loop-end.ensures)

pub overflow_cast-first : goal.overflow_cast-first
overflow_cast-first c =
    let fits = rows_below c.args.geometry.now c.of-extents.result c.args.map.now c.args.volume c.loop-end.end c.stripe_at-number.result c.requires.sized
    c.of-extents.ensures (c.requires.placed c.loop-end.end c.loop-end.invariant.least c.loop-end-test.true) c.stripe_at-number.ensures in
    omega (arith, fits, ap (λ (n : ℕ). c.stripe_at-number.result * n) c.from-in-loop-end.ensures)

pub add-requires-clause-below : goal.add-requires-clause-below
add-requires-clause-below c =
    let fits = rows_below c.args.geometry.now c.of-extents.result c.args.map.now c.args.volume c.loop-end.end c.stripe_at-number.result c.requires.sized
    c.of-extents.ensures (c.requires.placed c.loop-end.end c.loop-end.invariant.least c.loop-end-test.true) c.stripe_at-number.ensures in
    omega (arith, fits, ap (λ (n : ℕ). c.stripe_at-number.result * n) c.from-in-loop-end.ensures, c.from-in-loop-end-2.ensures)

pub add-requires-clause-apart : goal.add-requires-clause-apart
add-requires-clause-apart c = λ row least below has.
    let more = stripe_more c.args.geometry.now c.loop-end.end c.args.last c.loop-end.invariant.begins c.requires.whole c.loop-end-test.true in
    let fill = fill_in c.args.geometry.now c.of-extents.result c.args.map.now c.args.volume c.loop-end.end c.stripe_at-number.result c.of-extents.ensures
    c.stripe_at-number.ensures in
    let first = ap (λ (n : ℕ). c.stripe_at-number.result * n) c.from-in-loop-end.ensures in
    stripe_is_new c.args.geometry.now (extents_in c.args.geometry.now) c.args.map.now c.args.volume c.args.at c.loop-end.end c.stripe_at-number.result
    (zero_runs c.loop-end.rows) c.loop-end.invariant.gathers c.loop-end.invariant.least
    (λ block from until. c.requires.placed block from (omega (arith, until, more)))
    fill row (omega (arith, least, first)) (omega (arith, below, first, c.from-in-loop-end-2.ensures)) has

pub overflow_add-end : goal.overflow_add-end
overflow_add-end c =
    let stripe = stripe_is c.args.geometry.now c.from.result c.from-2.result c.from.ensures c.from-2.ensures in
    let more = stripe_more c.args.geometry.now c.loop-end.end c.args.last c.loop-end.invariant.begins c.requires.whole c.loop-end-test.true in
    omega (arith, more, stripe.0, c.requires.within)

pub loop-end-smaller : goal.loop-end-smaller
loop-end-smaller c =
    let stripe = stripe_is c.args.geometry.now c.from.result c.from-2.result c.from.ensures c.from-2.ensures in
    omega (arith, c.loop-end-test.true, stripe.1)

pub loop-end-preserved : goal.loop-end-preserved
loop-end-preserved c =
    let stripe = stripe_is c.args.geometry.now c.from.result c.from-2.result c.from.ensures c.from-2.ensures in
    let geometry = c.args.geometry.now in
    let more = stripe_more geometry c.loop-end.end c.args.last c.loop-end.invariant.begins c.requires.whole c.loop-end-test.true in
    let fill = fill_in geometry c.of-extents.result c.args.map.now c.args.volume c.loop-end.end c.stripe_at-number.result c.of-extents.ensures
    c.stripe_at-number.ensures in
    record {
      least = omega (arith, c.loop-end.invariant.least);
      most = omega (arith, more, stripe.0);
      begins = ap (λ (n : ℕ). (c.loop-end.end + n) % stripe_blocks geometry.members geometry.chunk) stripe.0
          ∙ stripe_after c.loop-end.end (stripe_blocks geometry.members geometry.chunk) (some_blocks geometry) c.loop-end.invariant.begins;
      none = λ same. absurd (omega (arith, same, c.loop-end.invariant.least, stripe.1));
      gathers = subst (λ (n : ℕ). GathersStripes geometry (extents_in geometry) c.args.map.now c.args.volume c.args.at (c.loop-end.end + n)
          (zero_runs c.add.new.self)) (sym stripe.0)
          (one_stripe_more geometry (extents_in geometry) c.args.map.now c.args.volume c.args.at c.loop-end.end c.stripe_at-number.result
          (zero_runs c.loop-end.rows) c.loop-end.invariant.gathers c.loop-end.invariant.least
          (λ block from until. c.requires.placed block from (omega (arith, until, more)))
          fill (zero_runs c.add.new.self)
          (subst₂ (λ (first count : ℕ). HasMore (zero_runs c.loop-end.rows) first count (zero_runs c.add.new.self))
          (ap (λ (n : ℕ). c.stripe_at-number.result * n) c.from-in-loop-end.ensures) c.from-in-loop-end-2.ensures
          (c.add.ensures.more c.if-not-add.false)));
    }

pub returns-after-loop-end-clause-gathers : goal.returns-after-loop-end-clause-gathers
returns-after-loop-end-clause-gathers c = c.loop-end.invariant.gathers

pub returns-after-loop-end-clause-least : goal.returns-after-loop-end-clause-least
returns-after-loop-end-clause-least c = omega (arith, c.loop-end-test.false, c.requires.order)

pub returns-after-loop-end-clause-most : goal.returns-after-loop-end-clause-most
returns-after-loop-end-clause-most c = c.loop-end.invariant.most

pub returns-after-loop-end-clause-rest : goal.returns-after-loop-end-clause-rest
returns-after-loop-end-clause-rest c = c.loop-end.invariant.begins

pub returns-then-not-add-clause-gathers : goal.returns-then-not-add-clause-gathers
returns-then-not-add-clause-gathers c =
    subst (λ (runs : List Run). GathersStripes c.args.geometry.now (extents_in c.args.geometry.now) c.args.map.now c.args.volume c.args.at c.loop-end.end runs)
    (sym (c.add.ensures.kept c.if-not-add.true)) c.loop-end.invariant.gathers

-- the first stripe is always added
pub returns-then-not-add-clause-least : goal.returns-then-not-add-clause-least
returns-then-not-add-clause-least c = elim (cases_lt c.args.at c.loop-end.end) [
  | inl before ↦ before
  | inr past ↦ absurd (not_both c.add.result c.if-not-add.true
      (c.add.ensures.at_once (c.loop-end.invariant.none (omega (arith, past, c.loop-end.invariant.least)))))
]
  where
    not_both : (flag : Bool) → flag ≡ false → flag ≡ true → ⊥
    not_both flag off on = true≢false (sym on ∙ off)

pub returns-then-not-add-clause-most : goal.returns-then-not-add-clause-most
returns-then-not-add-clause-most c = c.loop-end.invariant.most

pub returns-then-not-add-clause-rest : goal.returns-then-not-add-clause-rest
returns-then-not-add-clause-rest c = c.loop-end.invariant.begins
