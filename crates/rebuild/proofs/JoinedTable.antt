-- A slot that was missing has a new device: the table says what it may.
use Rattle.std.proofs.Common.{◌≡◌, ◌≢◌, inl, inr, ℕ, ◌+◌, ◌<◌, refl, sym, ◌∙◌, ap, arith}
use Rattle.std.specs.Prelude.{slice_set}
use Rattle.std.proofs.lemmas.Bool.{cases_eq}
use Rattle.std.proofs.lemmas.List.{get_or-set_other, get_or-set_same, length-set}
use Rattle.std.proofs.lemmas.Nat.{mul-le}
use Rattle.sector_model.specs.declared.calls.TheConstants.{GREATEST_COUNT}
use Rattle.layout_map.specs.Placement.{rows_of}
use Rattle.layout_map.specs.declared.geometry.Geometry.{Geometry}
use Rattle.layout_map.proofs.Places.{chunk_least}
use Rattle.superblock.specs.declared.state.State.{State}
use Rattle.superblock.specs.declared.state.State.TheVariants.{InSync, Missing, Rebuilding}
use Rattle.superblock.specs.declared.table.Table.{Table}
use Rattle.superblock.specs.NextTables.{slots_of}
use Rattle.superblock.specs.Tables.{IsTable, incarnation_at, state_at}

-- a set has rows
some_rows : (geometry : Geometry) → 0 < rows_of geometry.chunk geometry.stripes
some_rows geometry = omega (arith, mul-le 2 8 geometry.stripes geometry.chunk geometry.limits.stripes_least (chunk_least geometry.limits))

differ : Missing ≢ InSync
differ e = cc

-- with this state, of a rebuilding one only where the slot is a member, it is a table's
pub joined_is_table : (table : Table) (slot : ℕ) (state : State) → slot < slots_of table → state_at table.states slot ≡ Missing
    → table.generation < GREATEST_COUNT → incarnation_at table.incarnations slot < GREATEST_COUNT → (state ≡ Rebuilding → slot < table.geometry.members)
    → IsTable (table.generation + 1) table.geometry (slice_set table.states slot state)
    (slice_set table.incarnations slot (incarnation_at table.incarnations slot + 1)) 0
joined_is_table table slot state of_set missing more more_of_slot of_member = record {
  ten_states = length-set table.states slot state ∙ table.allowed.ten_states;
  ten_incarnations = length-set table.incarnations slot next ∙ table.allowed.ten_incarnations;
  generation_least = omega arith;
  generation_most = omega (arith, more);
  incarnation_least = λ k within. elim (cases_eq k slot) [
    | inl same ↦ omega (arith, incarnation_now k same)
    | inr apart ↦ omega (arith, incarnation_then k apart, table.allowed.incarnation_least k within)
  ];
  incarnation_most = λ k within. elim (cases_eq k slot) [
    | inl same ↦ omega (arith, incarnation_now k same, more_of_slot)
    | inr apart ↦ omega (arith, incarnation_then k apart, table.allowed.incarnation_most k within)
  ];
  missing_beyond = λ k beyond. state_then k (omega (arith, of_set, beyond)) ∙ table.allowed.missing_beyond k beyond;
  zero_beyond = λ k beyond. incarnation_then k (omega (arith, of_set, beyond)) ∙ table.allowed.zero_beyond k beyond;
  one_out = λ first second within within' out out'. out_is first within out ∙ sym (out_is second within' out');
  rebuilds_member = λ k is. elim (cases_eq k slot) [
    | inl same ↦ omega (arith, same, of_member (sym (state_now k same) ∙ is))
    | inr apart ↦ table.allowed.rebuilds_member k (sym (state_then k apart) ∙ is)
  ];
  position_below = λ k is. some_rows table.geometry;
  no_position = λ none. refl;
}
  where
    next : ℕ
    next = incarnation_at table.incarnations slot + 1

    state_then : (k : ℕ) → k ≢ slot → state_at (slice_set table.states slot state) k ≡ state_at table.states k
    state_then k apart = get_or-set_other table.states slot k state Missing apart

    state_now : (k : ℕ) → k ≡ slot → state_at (slice_set table.states slot state) k ≡ state
    state_now k same = ap (state_at (slice_set table.states slot state)) same
        ∙ get_or-set_same table.states slot state Missing (omega (arith, of_set, table.geometry.limits.members_most, table.allowed.ten_states))

    incarnation_then : (k : ℕ) → k ≢ slot → incarnation_at (slice_set table.incarnations slot next) k ≡ incarnation_at table.incarnations k
    incarnation_then k apart = get_or-set_other table.incarnations slot k next 0 apart

    incarnation_now : (k : ℕ) → k ≡ slot → incarnation_at (slice_set table.incarnations slot next) k ≡ next
    incarnation_now k same = ap (incarnation_at (slice_set table.incarnations slot next)) same
        ∙ get_or-set_same table.incarnations slot next 0 (omega (arith, of_set, table.geometry.limits.members_most, table.allowed.ten_incarnations))

    out_is : (k : ℕ) → k < slots_of table → state_at (slice_set table.states slot state) k ≢ InSync → k ≡ slot
    out_is k within out = elim (cases_eq k slot) [
      | inl same ↦ same
      | inr apart ↦ table.allowed.one_out k slot within of_set (λ is. out (state_then k apart ∙ is)) (λ is. differ (sym missing ∙ is))
    ]
