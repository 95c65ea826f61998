-- Whole rows that one entry makes zero: which logical sectors these are, and that the rows are formed.
use Rattle.std.proofs.Common.{◌≡◌, inl, inr, ℕ, zero, suc, ◌<◌, ◌==◌, Bool, true, false, cond, List, [], ◌∷◌, length, refl, sym, ◌∙◌, ap, subst, arith}
use Rattle.std.specs.Prelude.{◌||◌}
use Rattle.std.proofs.lemmas.Bool.{cases_eq, eq-eqb, eqb-true, or_left, or_right}
use Rattle.layout_map.specs.declared.geometry.Geometry.{Geometry}
use Rattle.layout_map.specs.Placement.{data_sectors_of}
use Rattle.parity.specs.Xor.{zero_sector}
use Rattle.array_io.specs.Believed.ZeroRows.{is_row, row_of_logical, zeros_below, zeros_in}
use Rattle.array_io.specs.Steps.FormingRows.{AreApart, AreOfSet, Given, HasLogical, HasRow, bytes_at, logical_at}
use Rattle.stripe_journal.specs.Seals.{row_at}

-- a row that is one of these has a place among them
pub row_there : (rows : List ℕ) (row : ℕ) → is_row rows row ≡ true → HasRow rows row
row_there [] row is = absurd (cc)
row_there (first ∷ rows) row is = by_first (first == row) refl is (row_there rows row)
  where
    by_first : (b : Bool) → (first == row) ≡ b → (b || is_row rows row) ≡ true → (is_row rows row ≡ true → HasRow rows row) → HasRow (first ∷ rows) row
    by_first true same is later = record { place = 0; within = omega arith; is = eqb-true first row same }
    by_first false other is later =
        let has = later is in
        record { place = suc has.place; within = omega (arith, has.within); is = has.is }

-- and one that has a place is one of them
pub row_is_one : (rows : List ℕ) (i : ℕ) → i < length rows → is_row rows (row_at rows i) ≡ true
row_is_one [] i within = absurd (omega (arith, within))
row_is_one (first ∷ rows) zero within = or_left (first == first) (is_row rows first) (eq-eqb first first refl)
row_is_one (first ∷ rows) (suc i) within =
    or_right (first == row_at rows i) (is_row rows (row_at rows i)) (row_is_one rows i (omega (arith, within)))

-- what stands at a place of the list of zeros
record IsZeroAt (geometry : Geometry) (rows : List ℕ) (count : ℕ) (zeros : Given) (i : ℕ) : Type 0 where
  pub below : logical_at zeros i < count
  pub in_rows : is_row rows (row_of_logical geometry (logical_at zeros i)) ≡ true
  pub zero : bytes_at zeros i ≡ zero_sector

module _ (geometry : Geometry) (rows : List ℕ) where
  abbrev zeros : ℕ → Given
  zeros count = zeros_below geometry rows count

  abbrev is_in : ℕ → Bool
  is_in logical = is_row rows (row_of_logical geometry logical)

  more : (count : ℕ) (b : Bool) → is_in count ≡ b → zeros (suc count) ≡ cond b ((count, zero_sector) ∷ zeros count) (zeros count)
  unfolding zeros_below
  more count b is = ap (λ (c : Bool). cond c ((count, zero_sector) ∷ zeros count) (zeros count)) is

  none : zeros 0 ≡ []
  unfolding zeros_below
  none = refl

  -- what stands in the list of zeros
  abbrev AllBelow : ℕ → Given → Type 0
  AllBelow count list = (i : ℕ) → i < length list → IsZeroAt geometry rows count list i

  -- with one logical sector more
  last_below : (count : ℕ) → is_in count ≡ true → AllBelow count (zeros count) → AllBelow (suc count) ((count, zero_sector) ∷ zeros count)
  last_below count is before zero within = record { below = omega arith; in_rows = is; zero = refl }
  last_below count is before (suc k) within =
      let at = before k (omega (arith, within)) in
      record { below = omega (arith, at.below); in_rows = at.in_rows; zero = at.zero }

  beside_below : (count : ℕ) → AllBelow count (zeros count) → AllBelow (suc count) (zeros count)
  beside_below count before i within =
      let at = before i within in
      record { below = omega (arith, at.below); in_rows = at.in_rows; zero = at.zero }

  each_below : (count : ℕ) → AllBelow count (zeros count)
  each_below zero = λ i within. absurd (omega (arith, within, ap length none))
  each_below (suc count) = by_in (is_in count) refl (each_below count)
    where
      by_in : (b : Bool) → is_in count ≡ b → AllBelow count (zeros count) → AllBelow (suc count) (zeros (suc count))
      by_in true is before = subst (λ (l : Given). AllBelow (suc count) l) (sym (more count true is)) (last_below count is before)
      by_in false is before = subst (λ (l : Given). AllBelow (suc count) l) (sym (more count false is)) (beside_below count before)

  -- no logical sector is there twice
  last_apart : (count : ℕ) → AllBelow count (zeros count) → AreApart (zeros count) → AreApart ((count, zero_sector) ∷ zeros count)
  last_apart count all apart zero zero less within same = absurd (omega (arith, less))
  last_apart count all apart zero (suc j) less within same = absurd (omega (arith, same, (all j (omega (arith, within))).below))
  last_apart count all apart (suc i) zero less within same = absurd (omega (arith, less))
  last_apart count all apart (suc i) (suc j) less within same = apart i j (omega (arith, less)) (omega (arith, within)) same

  apart_below : (count : ℕ) → AreApart (zeros count)
  apart_below zero = λ i j less within. absurd (omega (arith, within, ap length none))
  apart_below (suc count) = by_in (is_in count) refl (apart_below count)
    where
      by_in : (b : Bool) → is_in count ≡ b → AreApart (zeros count) → AreApart (zeros (suc count))
      by_in true is before = subst (λ (l : Given). AreApart l) (sym (more count true is)) (last_apart count (each_below count) before)
      by_in false is before = subst (λ (l : Given). AreApart l) (sym (more count false is)) before

  -- each logical sector in these rows is there
  has_below : (count logical : ℕ) → logical < count → is_in logical ≡ true → HasLogical (zeros count) logical
  has_below zero logical below is = absurd (omega (arith, below))
  has_below (suc count) logical below is = elim (cases_eq logical count) [
    | inl same ↦ subst (λ (l : Given). HasLogical l logical) (sym (more count true (ap is_in (sym same) ∙ is)))
        (record { which = 0; within = omega arith; is = sym same })
    | inr other ↦ by_in (is_in count) refl (has_below count logical (omega (arith, below, other)) is)
  ]
    where
      by_in : (b : Bool) → is_in count ≡ b → HasLogical (zeros count) logical → HasLogical (zeros (suc count)) logical
      by_in true in_rows has = subst (λ (l : Given). HasLogical l logical) (sym (more count true in_rows))
          (record { which = suc has.which; within = omega (arith, has.within); is = has.is })
      by_in false in_rows has = subst (λ (l : Given). HasLogical l logical) (sym (more count false in_rows)) has

  abbrev all : Given
  all = zeros_in geometry rows

  pub zeros_apart : AreApart all
  zeros_apart = apart_below (data_sectors_of geometry.members geometry.chunk geometry.stripes)

  pub zeros_of_set : AreOfSet geometry all
  zeros_of_set k within = (each_below (data_sectors_of geometry.members geometry.chunk geometry.stripes) k within).below

  -- the row of each of them is one of these
  pub zeros_in_rows : (k : ℕ) → k < length all → HasRow rows (row_of_logical geometry (logical_at all k))
  zeros_in_rows k within = row_there rows (row_of_logical geometry (logical_at all k))
      (each_below (data_sectors_of geometry.members geometry.chunk geometry.stripes) k within).in_rows

  pub zeros_are_zero : (k : ℕ) → k < length all → bytes_at all k ≡ zero_sector
  zeros_are_zero k within = (each_below (data_sectors_of geometry.members geometry.chunk geometry.stripes) k within).zero

  -- and each data sector of these rows is one of them
  pub zeros_have : (logical i : ℕ) → logical < data_sectors_of geometry.members geometry.chunk geometry.stripes → i < length rows
      → row_of_logical geometry logical ≡ row_at rows i → HasLogical all logical
  zeros_have logical i below within same =
      has_below (data_sectors_of geometry.members geometry.chunk geometry.stripes) logical below (ap (is_row rows) same ∙ row_is_one rows i within)
