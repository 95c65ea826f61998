use Rattle.std.proofs.Common.{◌≡◌, ◌↔◌, inl, inr, ℕ, ◌<◌, true, length, refl, sym, ap, subst, arith}
use Rattle.std.proofs.lemmas.Bool.{cases_eq}
use Rattle.layout_map.specs.Placement.{rows_of}
use Rattle.entry_runs.specs.Body.{has_bit}
use Rattle.batch.specs.Places.{HasParityOn, placed_at}
use Rattle.batch.specs.Rows.{IsChangedBy}
use Rattle.batch.proofs.PlannedRows.{data_row, next_is, parity_bit, placed_bit}
use Rattle.batch.proofs.planning.next_row.Goals as goal

pub parity_member-parity-requires : goal.parity_member-parity-requires
parity_member-parity-requires c =
    let place = placed_at c.args.places.now c.args.first in
    subst (λ (r : ℕ). r < rows_of c.args.geometry.now.chunk c.args.geometry.now.stripes) (sym c.from.ensures)
    (data_row c.args.geometry.now place.row place.member (c.requires.data c.args.first c.requires.starts.within))

pub loop-i-init : goal.loop-i-init
loop-i-init c =
    let geometry = c.args.geometry.now in
    let places = c.args.places.now in
    let first = c.args.first in
    let row : ℕ = (placed_at places first).row in
    let parity = c.parity_member-parity in
    let there = subst (λ (r : ℕ). HasParityOn geometry r parity.result) c.from.ensures parity.ensures.parity in
    let only = subst (λ (r : ℕ). (member : ℕ) → HasParityOn geometry r member → member ≡ parity.result) c.from.ensures parity.ensures.only in
    record {
      here = λ j least below. ap (λ (n : ℕ). (placed_at places n).row) (omega (arith, least, below));
      bits = placed_bit geometry places row c.with_bit.result c.with_bit-mask.result first refl c.with_bit-mask.ensures.has c.with_bit-mask.ensures.others
          (parity_bit geometry places row c.with_bit.result parity.result c.with_bit.ensures.has c.with_bit.ensures.others there only first
          c.requires.starts.starts);
    }

pub returns-then-places-i : goal.returns-then-places-i
returns-then-places-i c =
    let geometry = c.args.geometry.now in
    let parity = c.parity_member-parity in
    let there = subst (λ (r : ℕ). HasParityOn geometry r parity.result) c.from.ensures parity.ensures.parity in
    next_is geometry c.args.places.now c.args.first c.loop-i.i c.loop-i.mask parity.result c.requires.rising c.requires.data c.requires.starts
    (omega (arith, c.loop-i.auto.i)) (omega (arith, c.loop-i-test.true)) c.loop-i.invariant.here c.loop-i.invariant.bits (λ inside. c.if-places-i.true) there

pub loop-i-preserved : goal.loop-i-preserved
loop-i-preserved c =
    let geometry = c.args.geometry.now in
    let places = c.args.places.now in
    let row : ℕ = (placed_at places c.args.first).row in
    let more = c.with_bit-mask-in-loop-i in
    record {
      here = λ j least below. elim (cases_eq j c.loop-i.i) [
        | inl same ↦ subst (λ (n : ℕ). (placed_at places n).row ≡ row) (sym same) c.if-places-i.false
        | inr other ↦ c.loop-i.invariant.here j least (omega (arith, below, other))
      ];
      bits = placed_bit geometry places row c.loop-i.mask more.result c.loop-i.i c.if-places-i.false more.ensures.has more.ensures.others
          c.loop-i.invariant.bits;
    }

pub returns : goal.returns
returns c =
    let geometry = c.args.geometry.now in
    let places = c.args.places.now in
    let parity = c.parity_member-parity in
    let row : ℕ = (placed_at places c.args.first).row in
    let there = subst (λ (r : ℕ). HasParityOn geometry r parity.result) c.from.ensures parity.ensures.parity in
    let all : c.loop-i.i ≡ length places = omega (arith, c.loop-i-test.false, c.loop-i.auto.i-end, c.requires.starts.within) in
    next_is geometry places c.args.first (length places) c.loop-i.mask parity.result c.requires.rising c.requires.data c.requires.starts
    c.requires.starts.within (omega arith) (λ j least below. c.loop-i.invariant.here j least (omega (arith, below, all)))
    (subst (λ (n : ℕ). (member : ℕ) → (has_bit c.loop-i.mask member ≡ true) ↔ IsChangedBy geometry places n row member) all c.loop-i.invariant.bits)
    (λ inside. absurd (omega (arith, inside))) there
