-- Sectors that become zero, as given sectors with zeros.
use Rattle.std.proofs.Common.{◌≡◌, ℕ, ◌+◌, ◌<◌, ◌≤◌, List, [], length, take, refl, sym, ◌∙◌, ap, subst, arith}
use Rattle.std.specs.List.{range_with_len}
use Rattle.std.specs.Prelude.{Bool, slice_set}
use Rattle.std.proofs.lemmas.List.{get_or-map, length-map, map-set, take-map}
use Rattle.std.proofs.lemmas.List.FromFn.{get_or-map-range_with_len, length-range_with_len}
use Rattle.sector_model.specs.History.{Bytes}
use Rattle.layout_map.specs.declared.geometry.Geometry.{Geometry}
use Rattle.parity.specs.Xor.{zero_sector}
use Rattle.entry_runs.specs.declared.run.Run.{Run}
use Rattle.entry_runs.specs.Built.{runs_in}
use Rattle.entry_runs.specs.Runs.{FitEntry}
use Rattle.entry_runs.specs.WrittenOut.{masks_of_runs, rows_of_runs}
use Rattle.batch.specs.declared.placed.Placed.{Placed}
use Rattle.batch.specs.declared.zero_sectors.ZeroSectors.{ZeroSectors}
use Rattle.batch.specs.Listed.{places_in}
use Rattle.batch.specs.Places.{AreApart, AreOfSet, ArePlacesOf, ArePlanned, Given, bytes_at, logical_at}
use Rattle.batch.specs.Staging.{AreAdded, AreHeld, ArePut, HasLogical, IsAdded, IsFull, IsStaged, KeepsPlaces, NoneFits, first_of, most_of, sector_at}
use Rattle.batch.specs.Zeroed.{IsZeroed, listed, zeroed}
use Rattle.batch.specs.ZeroSectors.{with_zeros, zeros_from}
use Rattle.batch.proofs.Kept.{held_of, keeps_places, most_below, planned_of, same_first, still_keeps}
use Rattle.batch.proofs.Refusals.{planned_there, too_many}
use Rattle.batch.proofs.Staged.{all_staged, held_taken}

-- a logical sector with zeros
abbrev with_zero : ℕ → ℕ × Bytes
with_zero logical = (logical, zero_sector)

pub zeros_long : (sectors : List ℕ) → length (with_zeros sectors) ≡ length sectors
zeros_long sectors = length-map sectors with_zero

pub zeros_set : (sectors : List ℕ) (at logical : ℕ)
    → with_zeros (slice_set sectors at logical) ≡ slice_set (with_zeros sectors) at (logical, zero_sector)
zeros_set sectors at logical = map-set with_zero sectors at logical

pub zeros_taken : (n : ℕ) (sectors : List ℕ) → take n (with_zeros sectors) ≡ with_zeros (take n sectors)
zeros_taken n sectors = take-map with_zero n sectors

pub zero_bytes : (sectors : List ℕ) (k : ℕ) → k < length sectors → bytes_at (with_zeros sectors) k ≡ zero_sector
zero_bytes sectors k inside = ap (λ (sector : ℕ × Bytes). sector.1) (get_or-map with_zero sectors k 0 (0, []) inside)

-- of those from one on

pub from_long : (first count : ℕ) → length (zeros_from first count) ≡ count
from_long first count = zeros_long (range_with_len first count) ∙ length-range_with_len first count

pub from_at : (first count i : ℕ) → i < count → sector_at (zeros_from first count) i ≡ (first + i, zero_sector)
from_at first count i inside = get_or-map-range_with_len with_zero first count i (first + i) (0, []) inside refl

pub from_inside : (first count i : ℕ) → i < count → i < length (zeros_from first count)
from_inside first count i inside = omega (arith, inside, from_long first count)

-- one of them is added
pub one_added : (geometry : Geometry) (limit first count i at : ℕ) (old new : Given) (places more : List Placed) (result : Bool) → at ≡ i → i < count
    → IsAdded geometry limit (first + at, zero_sector) old new places more result
    → IsAdded geometry limit (sector_at (zeros_from first count) i) old new places more result
one_added geometry limit first count i at old new places more result same inside added =
    subst (λ (sector : ℕ × Bytes). IsAdded geometry limit sector old new places more result)
    (ap (λ (n : ℕ). with_zero (first + n)) same ∙ sym (from_at first count i inside)) added

-- one that has no place is one of them
pub logical_from : (first count i at : ℕ) (all : Given) (places : List Placed) → at ≡ i → i < count → ¬ HasLogical all (length places) (first + at)
    → ¬ HasLogical all (length places) (logical_at (zeros_from first count) i)
logical_from first count i at all places same inside none =
    subst (λ (logical : ℕ). ¬ HasLogical all (length places) logical)
    (ap (λ (n : ℕ). first + n) same ∙ sym (ap (λ (sector : ℕ × Bytes). sector.0) (from_at first count i inside))) none

-- the zeros that were put there are those that are given
pub zeros_put : (first count many : ℕ) (sectors : List ℕ) → many ≤ length sectors
    → ArePut (zeros_from first count) (length (zeros_from first count)) many (with_zeros sectors) (with_zeros sectors)
zeros_put first count many sectors room = record {
  same = λ k within. refl;
  put = λ i k inside within same. zero_bytes sectors k (omega (arith, within, room))
      ∙ sym (ap (λ (sector : ℕ × Bytes). sector.1) (from_at first count i (omega (arith, inside, from_long first count))));
  others = λ k within none. refl;
}

-- a list that keeps what it does

pub held_in : (zeros : ZeroSectors) → AreHeld zeros.geometry (with_zeros zeros.sectors) (places_in zeros.places)
held_in zeros = held_of zeros.geometry (with_zeros zeros.sectors) (places_in zeros.places) zeros.places.rising zeros.held

pub zeroed_first : (zeros : ZeroSectors) → first_of (places_in zeros.places) (with_zeros zeros.sectors) ≡ zeroed zeros
zeroed_first zeros = zeros_taken (length (places_in zeros.places)) zeros.sectors

-- as many are listed as have a place
pub zeroed_long : (zeros : ZeroSectors) → length (zeroed zeros) ≡ length (places_in zeros.places)
zeroed_long zeros = sym (ap length (zeroed_first zeros))
    ∙ held_taken zeros.geometry (with_zeros zeros.sectors) (places_in zeros.places) (held_in zeros)

-- each list is one of `IsZeroed`
pub is_zeroed : (zeros : ZeroSectors) → IsZeroed zeros
is_zeroed zeros =
    let all = zeroed_first zeros in
    let held = held_in zeros in
    record {
      few = omega (arith, zeroed_long zeros, zeros.held.as_many);
      of_set = subst (λ (given : Given). AreOfSet zeros.geometry given) all held.of_set;
      apart = subst (λ (given : Given). AreApart given) all held.apart;
      zero = λ k inside. zero_bytes (listed zeros) k (omega (arith, inside, zeros_long (listed zeros)));
      placed = subst (λ (given : Given). ArePlacesOf zeros.geometry given (places_in zeros.places)) all held.placed;
      planned = planned_of zeros.geometry (places_in zeros.places) (rows_of_runs (runs_in zeros.runs)) (masks_of_runs (runs_in zeros.runs)) zeros.planned;
    }

-- the list with other sectors after those that have a place
module _ (zeros : ZeroSectors) (copy : List Placed) (put : List ℕ) (same : copy ≡ places_in zeros.places) (long : length put ≡ length zeros.sectors)
    (kept : (k : ℕ) → k < length copy → sector_at (with_zeros put) k ≡ sector_at (with_zeros zeros.sectors) k) where
  whole : length (with_zeros put) ≡ length (with_zeros zeros.sectors)
  whole = zeros_long put ∙ long ∙ sym (zeros_long zeros.sectors)

  there : (k : ℕ) → k < length (places_in zeros.places) → sector_at (with_zeros put) k ≡ sector_at (with_zeros zeros.sectors) k
  there k inside = kept k (omega (arith, inside, ap length same))

  pub keeps_zeros : KeepsPlaces zeros.geometry (with_zeros put) (places_in zeros.places)
  keeps_zeros = still_keeps zeros.geometry (with_zeros zeros.sectors) (with_zeros put) (places_in zeros.places) zeros.places.rising whole there zeros.held

  pub same_zeros : with_zeros (take (length (places_in zeros.places)) put) ≡ zeroed zeros
  same_zeros = sym (zeros_taken (length (places_in zeros.places)) put)
      ∙ same_first (with_zeros zeros.sectors) (with_zeros put) (places_in zeros.places) whole
      (omega (arith, zeros.held.as_many, zeros.held.long, most_below zeros.geometry.format)) there
      ∙ zeroed_first zeros

-- sectors are added to it
module _ (zeros : ZeroSectors) (first count limit : ℕ) (copy : List Placed) (put : List ℕ) (more : List Placed) (same : copy ≡ places_in zeros.places)
    (most_is : limit ≡ most_of zeros.geometry.format) where
  module _ (added : AreAdded zeros.geometry limit (zeros_from first count) count (with_zeros zeros.sectors) (with_zeros put) copy more) where
    all_added : AreAdded zeros.geometry (most_of zeros.geometry.format) (zeros_from first count) (length (zeros_from first count)) (with_zeros zeros.sectors)
        (with_zeros put) (places_in zeros.places) more
    all_added =
        subst (λ (places : List Placed). AreAdded zeros.geometry (most_of zeros.geometry.format) (zeros_from first count) (length (zeros_from first count))
        (with_zeros zeros.sectors) (with_zeros put) places more) same
        (subst (λ (n : ℕ). AreAdded zeros.geometry n (zeros_from first count) (length (zeros_from first count)) (with_zeros zeros.sectors)
        (with_zeros put) copy more) most_is
        (subst (λ (n : ℕ). AreAdded zeros.geometry limit (zeros_from first count) n (with_zeros zeros.sectors) (with_zeros put) copy more)
        (sym (from_long first count)) added))

    module _ (long : length put ≡ length zeros.sectors) where
      pub added_keeps : KeepsPlaces zeros.geometry (with_zeros put) more
      added_keeps = keeps_places zeros.geometry (with_zeros put) more
          (zeros_long put ∙ long ∙ sym (zeros_long zeros.sectors) ∙ zeros.held.long) (all_added.within zeros.held.as_many) all_added.held

      pub added_staged : IsStaged (zeroed zeros) (zeros_from first count) (with_zeros (take (length more) put))
      added_staged =
          let keeps = added_keeps in
          subst (λ (new : Given). IsStaged (zeroed zeros) (zeros_from first count) new) (zeros_taken (length more) put)
          (subst (λ (old : Given). IsStaged old (zeros_from first count) (first_of more (with_zeros put))) (zeroed_first zeros)
          (all_staged zeros.geometry (most_of zeros.geometry.format) (zeros_from first count) (with_zeros zeros.sectors) (with_zeros put) (with_zeros put)
          (places_in zeros.places) more (held_in zeros) all_added refl
          (zeros_put first count (length more) put
          (omega (arith, keeps.as_many, keeps.long, zeros_long put, most_below zeros.geometry.format)))))

    -- where no runs have the rows, none fits
    pub unplanned : ((fit : List Run) → FitEntry fit → ¬ ArePlanned zeros.geometry more (rows_of_runs fit) (masks_of_runs fit))
        → NoneFits zeros.geometry (zeroed zeros) (zeros_from first count)
    unplanned none = subst (λ (old : Given). NoneFits zeros.geometry old (zeros_from first count)) (zeroed_first zeros)
        (λ new places fit staged few placed fits planned.
        none fit fits (planned_there zeros.geometry (most_of zeros.geometry.format) (zeros_from first count) (length (zeros_from first count))
        (with_zeros zeros.sectors) (with_zeros put) (places_in zeros.places) more (held_in zeros) all_added (omega arith) new places staged placed refl
        (rows_of_runs fit) (masks_of_runs fit) planned))

  -- nor where there is no room
  pub no_room : IsFull zeros.geometry limit (zeros_from first count) (with_zeros zeros.sectors) copy
      → NoneFits zeros.geometry (zeroed zeros) (zeros_from first count)
  no_room full =
      let here : IsFull zeros.geometry limit (zeros_from first count) (with_zeros zeros.sectors) (places_in zeros.places) =
      subst (λ (places : List Placed). IsFull zeros.geometry limit (zeros_from first count) (with_zeros zeros.sectors) places) same full in
      subst (λ (old : Given). NoneFits zeros.geometry old (zeros_from first count)) (zeroed_first zeros)
      (λ new places fit staged few placed fits planned.
      too_many zeros.geometry limit (zeros_from first count) here.count (with_zeros zeros.sectors) here.mid (places_in zeros.places) here.more (held_in zeros)
      here.added (omega (arith, here.inside)) new places staged placed here.inside here.full here.none (omega (arith, few, most_is)))
