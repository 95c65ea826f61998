use Rattle.std.proofs.Common.{rules, arith, [], ◌≡◌, ◌≤◌, ◌<◌, inl, inr, ℕ, false, length, sym, ◌∙◌, ap, take}
use Rattle.std.proofs.lemmas.Bool.{cases_eq, false≢true}
use Rattle.std.proofs.lemmas.List.{get_or-take, length-take-le}
use Rattle.layout_map.specs.Placement.{data_sectors_of}
use Rattle.array_io.specs.Steps.FormingRows.{Given, HasLogical, logical_at}
use Rattle.recovery.proofs.SurveyedOut.{below_one_more}
use Rattle.recovery.proofs.tests.committing.check_may_commit.Goals as goal

among : (i j : ℕ) (sectors : Given) (logical : ℕ) → j < i → i ≤ length sectors → logical_at sectors j ≡ logical → HasLogical (take i sectors) logical
among i j sectors logical below within is = record {
  which = j;
  within = omega (arith, below, length-take-le i sectors within);
  is = ap (λ pair. pair.0) (get_or-take i sectors j (0, []) below) ∙ is;
}

pub loop-i-init : goal.loop-i-init
loop-i-init g c = record {
  of_set = λ k below. absurd (omega (arith, below));
  apart = λ j k _ below. absurd (omega (arith, below));
}

pub loop-i-preserved : goal.loop-i-preserved
loop-i-preserved g c =
    let sectors = c.args.sectors.now in
    let i = c.loop-i.i in
    let none : c.is_among.result ≡ false = search rules in
    record {
      of_set = below_one_more (λ (k : ℕ). logical_at sectors k < data_sectors_of c.args.table.now.geometry.members c.args.table.now.geometry.chunk
          c.args.table.now.geometry.stripes)
          i c.loop-i.invariant.of_set (omega (arith, c.data_sectors.ensures));
      apart = λ j k below within. elim (cases_eq k i) [
        | inl same ↦ λ equal. false≢true (sym none ∙ c.is_among.ensures.1
            (among i j sectors (logical_at sectors i) (omega (arith, below, same)) c.loop-i.auto.i-end (equal ∙ ap (logical_at sectors) same)))
        | inr other ↦ c.loop-i.invariant.apart j k below (omega (arith, within, other))
      ];
    }

pub returns : goal.returns
returns g c = record {
  least = search rules;
  most = search rules;
  of_set = λ i below. c.loop-i.invariant.of_set i (omega (arith, below, c.loop-i-test.false));
  apart = λ i j before below. c.loop-i.invariant.apart i j before (omega (arith, below, c.loop-i-test.false));
}
