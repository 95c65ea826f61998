-- A slot marked missing, where all others are in sync: the table has no position.
use Rattle.std.proofs.Common.{◌≡◌, ◌≢◌, inl, inr, ℕ, ◌+◌, ◌<◌, Bool, false, cond, length, refl, sym, ◌∙◌, ap, arith}
use Rattle.std.specs.Prelude.{All, get_or}
use Rattle.std.proofs.lemmas.Bool.{cases_eq, cases_lt}
use Rattle.std.proofs.lemmas.List.{get_or-set_other, get_or-set_same, get_or_default, length-set}
use Rattle.std.proofs.lemmas.List.Folds.{list_any_none}
use Rattle.sector_model.specs.declared.calls.TheConstants.{GREATEST_COUNT}
use Rattle.superblock.specs.declared.state.State.{State}
use Rattle.superblock.specs.declared.state.State.TheVariants.{InSync, Missing, Rebuilding}
use Rattle.superblock.specs.declared.table.Table.{Table}
use Rattle.superblock.specs.NextTables.{slots_of, without_slot}
use Rattle.superblock.specs.States.{is_rebuilding, position_in}
use Rattle.superblock.specs.Tables.{IsTable, state_at}

-- each state of a table whose other slots are in sync, once this one is missing
not_rebuilding : (table : Table) (slot : ℕ) → slot < slots_of table
    → ((other : ℕ) → other < slots_of table → other ≢ slot → state_at table.states other ≡ InSync)
    → All (λ (s : State). is_rebuilding s ≡ false) (without_slot table slot)
not_rebuilding table slot of_set others k d below = elim (cases_eq k slot) [
  | inl is ↦ ap is_rebuilding (ap (λ (j : ℕ). get_or (without_slot table slot) j d) is ∙ get_or-set_same table.states slot Missing d slot_below)
  | inr apart ↦ ap is_rebuilding (get_or-set_other table.states slot k Missing d apart ∙ get_or_default table.states k d Missing within) ∙ by_place apart
]
  where
    slot_below : slot < length table.states
    slot_below = omega (arith, of_set, table.geometry.limits.members_most, table.allowed.ten_states)

    within : k < length table.states
    within = omega (arith, below, length-set table.states slot Missing)

    by_place : k ≢ slot → is_rebuilding (state_at table.states k) ≡ false
    by_place apart = elim (cases_lt k (slots_of table)) [
      | inl of_set' ↦ ap is_rebuilding (others k of_set' apart)
      | inr beyond ↦ ap is_rebuilding (table.allowed.missing_beyond k beyond)
    ]

-- it has no position
pub no_position : (table : Table) (slot position : ℕ) → slot < slots_of table
    → ((other : ℕ) → other < slots_of table → other ≢ slot → state_at table.states other ≡ InSync)
    → position_in (without_slot table slot) position ≡ 0
no_position table slot position of_set others =
    ap (λ (b : Bool). cond b position 0) (list_any_none is_rebuilding (without_slot table slot) (not_rebuilding table slot of_set others))

-- it is a table's
pub marked_is_table : (table : Table) (slot : ℕ) → slot < slots_of table → table.generation < GREATEST_COUNT
    → ((other : ℕ) → other < slots_of table → other ≢ slot → state_at table.states other ≡ InSync)
    → IsTable (table.generation + 1) table.geometry (without_slot table slot) table.incarnations 0
marked_is_table table slot of_set more others = record {
  ten_states = length-set table.states slot Missing ∙ table.allowed.ten_states;
  ten_incarnations = table.allowed.ten_incarnations;
  generation_least = omega arith;
  generation_most = omega (arith, more);
  incarnation_least = table.allowed.incarnation_least;
  incarnation_most = table.allowed.incarnation_most;
  missing_beyond = λ k beyond. apart_is k (omega (arith, of_set, beyond)) ∙ table.allowed.missing_beyond k beyond;
  zero_beyond = table.allowed.zero_beyond;
  one_out = λ first second within within' out out'. out_is first within out ∙ sym (out_is second within' out');
  rebuilds_member = λ k is. absurd (none_rebuilds k is);
  position_below = λ k is. absurd (none_rebuilds k is);
  no_position = λ none. refl;
}
  where
    apart_is : (k : ℕ) → k ≢ slot → state_at (without_slot table slot) k ≡ state_at table.states k
    apart_is k apart = get_or-set_other table.states slot k Missing Missing apart

    slot_is : state_at (without_slot table slot) slot ≡ Missing
    slot_is = get_or-set_same table.states slot Missing Missing (omega (arith, of_set, table.geometry.limits.members_most, table.allowed.ten_states))

    out_is : (k : ℕ) → k < slots_of table → state_at (without_slot table slot) k ≢ InSync → k ≡ slot
    out_is k within out = elim (cases_eq k slot) [
      | inl same ↦ same
      | inr apart ↦ absurd (out (apart_is k apart ∙ others k within apart))
    ]

    differ : Missing ≢ Rebuilding
    differ e = cc

    differ' : InSync ≢ Rebuilding
    differ' e = cc

    none_rebuilds : (k : ℕ) → state_at (without_slot table slot) k ≢ Rebuilding
    none_rebuilds k is = elim (cases_eq k slot) [
      | inl same ↦ differ (sym slot_is ∙ ap (state_at (without_slot table slot)) (sym same) ∙ is)
      | inr apart ↦ elim (cases_lt k (slots_of table)) [
        | inl within ↦ differ' (sym (others k within apart) ∙ sym (apart_is k apart) ∙ is)
        | inr beyond ↦ differ (sym (table.allowed.missing_beyond k beyond) ∙ sym (apart_is k apart) ∙ is)
      ]
    ]
