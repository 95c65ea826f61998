use Rattle.std.proofs.Common.{◌≡◌, ℕ, ◌+◌, ◌-◌, ◌*◌, ◌<◌, length, get_or, refl, sym, ap, ap₂, ◌∙◌, inl, inr, eqb-true, eq-eqb, arith}
use Rattle.std.specs.Prelude.{bit_or}
use Rattle.std.specs.Simd.Lanes.{zip2, fold_l}
use Rattle.std.proofs.lemmas.Bool.{cases_lt}
use Rattle.std.proofs.lemmas.List.{get_or-replicate}
use Rattle.std.proofs.lemmas.Nat.{le_or_l, le_or_r}
use Rattle.std.proofs.lemmas.Simd.{length-chunk, get_or-chunk, length-zip2, get_or-zip2}
use Rattle.parity.proofs.Lanes.{zeros_from_union, union_of_zeros}
use Rattle.parity.proofs.Laws.{zero_sector_is, get_or-zero_sector}
use Rattle.parity.proofs.is_zero.Goals as goal

pub loop-k-init : goal.loop-k-init
loop-k-init c = record {
  long = refl;
  zeros = λ none j below. absurd (omega (arith, below));
  union = λ each i below. get_or-replicate 64 i 0 0 below;
}

pub loop-k-preserved : goal.loop-k-preserved
loop-k-preserved c =
    let bytes = c.args.sector.now in
    let k = c.loop-k.k in
    let union = c.loop-k.union in
    let part = c.part-union.result in
    let so_far = c.loop-k.invariant in
    let long : length part ≡ 64 = ap length c.part-union.ensures ∙ length-chunk (64 * k) 64 bytes (omega (arith, c.told-sector, c.loop-k-test.true)) in
    let lane : (i : ℕ) → i < 64 → get_or (zip2 bit_or union part) i 0 ≡ bit_or (get_or union i 0) (get_or bytes (64 * k + i) 0) =
    λ i below. get_or-zip2 bit_or union part i 0 0 0 (omega (arith, so_far.long, below)) (omega (arith, long, below))
    ∙ ap (bit_or (get_or union i 0)) (ap (λ s. get_or s i 0) c.part-union.ensures ∙ get_or-chunk (64 * k) 64 bytes i 0 below) in
    record {
      long = length-zip2 bit_or union part (so_far.long ∙ sym long) ∙ so_far.long;
      zeros = λ none j below. elim (cases_lt j (64 * k)) [
        | inl before ↦ so_far.zeros (λ i within. omega (arith, le_or_l (get_or union i 0) (get_or bytes (64 * k + i) 0), lane i within, none i within)) j before
        | inr after ↦
            let i = j - 64 * k in
            let within : i < 64 = omega (arith, below, after) in
            let at : 64 * k + i ≡ j = omega (arith, after) in
            ap (λ n. get_or bytes n 0) (sym at) ∙ omega (arith, le_or_r (get_or union i 0) (get_or bytes (64 * k + i) 0), lane i within, none i within)
      ];
      union = λ each i below. lane i below ∙ ap₂ bit_or (so_far.union (λ j before. each j (omega (arith, before))) i below)
          (each (64 * k + i) (omega (arith, below)));
    }

pub returns : goal.returns
returns c =
    let bytes = c.args.sector.now in
    let union = c.loop-k.union in
    let so_far = c.loop-k.invariant in (
      λ is_true.
          let zeros = zeros_from_union 0 union (eqb-true (fold_l bit_or 0 union) 0 is_true) in
          zero_sector_is bytes c.told-sector (λ j within. so_far.zeros (λ i below. zeros.1 i (omega (arith, so_far.long, below))) j
          (omega (arith, within, c.loop-k-test.false))),
      λ same. eq-eqb (fold_l bit_or 0 union) 0 (union_of_zeros union (λ i within.
          so_far.union (λ j below. ap (λ s. get_or s j 0) same ∙ get_or-zero_sector j (omega (arith, below, c.loop-k.auto.k-end))) i
          (omega (arith, so_far.long, within)))),
    )
