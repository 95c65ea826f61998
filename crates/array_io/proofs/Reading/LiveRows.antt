-- Rows read by what a table says of the members are those of an open array.
use Rattle.std.proofs.Common.{◌≡◌, ◌≢◌, inl, inr, ℕ, ◌+◌, ◌<◌, Bool, true, false, List, length, Option, Some, None, refl, sym, ◌∙◌, ap, subst, arith}
use Rattle.std.specs.Prelude.{◌&&◌, ◌||◌, not, nat_lt, slice_index_or, slice_set}
use Rattle.std.proofs.lemmas.Bool.{cases_eq, eq-eqb, ne_eqb}
use Rattle.std.proofs.lemmas.List.{get_or-set_same, get_or-set_other, length-set}
use Rattle.sector_model.specs.Bank.{Panel}
use Rattle.sector_model.specs.History.{Slots}
use Rattle.layout_map.proofs.Places.{rows_most}
use Rattle.superblock.proofs.LeastSectors.{member_least}
use Rattle.superblock.specs.declared.state.State.{State}
use Rattle.superblock.specs.declared.state.State.TheVariants.{Missing, InSync, Rebuilding}
use Rattle.superblock.specs.declared.table.Table.{Table}
use Rattle.superblock.specs.Tables.{state_at}
use Rattle.degraded.specs.LiveView.{AtMostOneOut, CanRead, rebuilding_of}
use Rattle.degraded.specs.ReadMember.{LiveSlots, is_below, is_read, rows_of}
use Rattle.degraded.specs.RowValue.{value}
use Rattle.degraded.proofs.Values.{value-agree}
use Rattle.array_io.specs.Believed.Holds.{row_count}
use Rattle.array_io.specs.Steps.LiveByTable.{AreThere, IsRebuildingBy, is_there}
use Rattle.array_io.specs.Believed.Settled.{rows_by, trusts}
use Rattle.array_io.specs.Believed.Views.{HasItsSlots}

-- before the first member
pub none_there : (table : Table) (flags : List Bool) → length flags ≡ 10 → AreThere table 0 flags
none_there table flags long = record { long = long; each = λ member below. absurd (omega (arith, below)) }

-- and one member more
pub one_more_there : (table : Table) (count : ℕ) (flags : List Bool) (there : Bool) → count < table.geometry.members → AreThere table count flags
    → there ≡ is_there (state_at table.states count) → AreThere table (count + 1) (slice_set flags count there)
one_more_there table count flags there below_members are tells = record {
  long = length-set flags count there ∙ are.long;
  each = λ member below. elim (cases_eq member count) [
    | inl is ↦ subst (λ (k : ℕ). slice_index_or (slice_set flags count there) k false ≡ is_there (state_at table.states k)) (sym is)
        (get_or-set_same flags count there false within ∙ tells)
    | inr apart ↦ get_or-set_other flags count member there false apart ∙ are.each member (omega (arith, below, apart))
  ];
}
  where
    within : count < length flags
    within = omega (arith, below_members, are.long, table.geometry.limits.members_most)

-- a member's own sector counts in the rows in which the table trusts it
reads_by : (table : Table) (live : Bool) (option : Option (ℕ × ℕ)) (row member : ℕ) → member < table.geometry.members
    → live ≡ is_there (state_at table.states member)
    → IsRebuildingBy table option → (live && is_below (rebuilding_of option) row member) ≡ trusts (state_at table.states member) row table.position
reads_by table live option row member within there rebuilds =
    ap (λ (b : Bool). b && is_below (rebuilding_of option) row member) there ∙ by_state (state_at table.states member) refl option rebuilds
  where
    in_sync_apart : InSync ≢ Rebuilding
    in_sync_apart is = cc

    rebuilding_apart : Rebuilding ≢ InSync
    rebuilding_apart is = cc

    apart_from : (other : ℕ) → state_at table.states member ≡ InSync → state_at table.states other ≡ Rebuilding → other ≢ member
    apart_from other here there same = in_sync_apart (sym here ∙ ap (state_at table.states) (sym same) ∙ there)

    same_as : (other : ℕ) → state_at table.states member ≡ Rebuilding → state_at table.states other ≡ Rebuilding → other ≡ member
    same_as other here there =
        table.allowed.one_out other member (omega (arith, table.allowed.rebuilds_member other there)) (omega (arith, within))
        (λ is. rebuilding_apart (sym there ∙ is)) (λ is. rebuilding_apart (sym here ∙ is))

    by_state : (state : State) → state_at table.states member ≡ state → (option : Option (ℕ × ℕ)) → IsRebuildingBy table option
        → (is_there state && is_below (rebuilding_of option) row member) ≡ trusts state row table.position
    by_state Missing is option by = refl
    by_state InSync is None by = refl
    by_state InSync is (Some one) by = ap (λ (b : Bool). not b || nat_lt row one.1) (ne_eqb one.0 member (apart_from one.0 is by.found.0))
    by_state Rebuilding is None by = absurd (by.none refl member within is)
    by_state Rebuilding is (Some one) by =
        ap (λ (b : Bool). not b || nat_lt row one.1) (eq-eqb one.0 member (same_as one.0 is by.found.0))
        ∙ ap (λ (position : ℕ). nat_lt row position) by.found.1

-- the members' own sectors count in the rows in which the table trusts them
abbrev pub ReadsBy : Table → LiveSlots → Type 0
ReadsBy table slots = (row member : ℕ) → member < table.geometry.members → is_read slots row member ≡ trusts (state_at table.states member) row table.position

-- the members that flags say are live, and the one that is rebuilding
abbrev pub slots_by : Table → List Bool → Option (ℕ × ℕ) → LiveSlots
slots_by table flags option = record { members = table.geometry.members; live = λ member. slice_index_or flags member false; rebuilding = rebuilding_of option }

-- such flags, and that one, by the table
pub slots_read : (table : Table) (flags : List Bool) (option : Option (ℕ × ℕ)) → AreThere table table.geometry.members flags → IsRebuildingBy table option
    → ReadsBy table (slots_by table flags option)
slots_read table flags option there rebuilds = λ row member within. reads_by table (slice_index_or flags member false) option row member within
    (there.each member within) rebuilds

-- a member whose own sector doesn't count is not in sync, and there is one such at most
pub at_most_one : (table : Table) (slots : LiveSlots) → slots.members ≡ table.geometry.members → ReadsBy table slots → AtMostOneOut slots
at_most_one table slots width reads = λ row first second first_in second_in first_out second_out.
    table.allowed.one_out first second (omega (arith, width, first_in)) (omega (arith, width, second_in))
    (not_in_sync row first (omega (arith, width, first_in)) first_out) (not_in_sync row second (omega (arith, width, second_in)) second_out)
  where
    differ : true ≡ false → ⊥
    differ is = cc

    not_in_sync : (row member : ℕ) → member < table.geometry.members → is_read slots row member ≡ false → state_at table.states member ≢ InSync
    not_in_sync row member within out is = differ (sym (reads row member within ∙ ap (λ (state : State). trusts state row table.position) is) ∙ out)

-- each member has the same value by the live members as by the table
pub live_value : (table : Table) (slots : LiveSlots) → slots.members ≡ table.geometry.members → ReadsBy table slots → (image : Slots) (row member : ℕ)
    → member < table.geometry.members
    → value (rows_of slots image) row member ≡ value (rows_by table image) row member
live_value table slots width reads image row member within =
    value-agree row member (rows_of slots image) (rows_by table image)
    record { width = width; entries = λ k below. refl; trusts = λ k below. reads row k below; owns = λ k below none counts. refl } within

-- a row of a set each of whose slots is long enough can be read
pub can_read : (table : Table) (slots : LiveSlots) (row : ℕ) (panel : Panel) → HasItsSlots table panel → slots.members ≡ table.geometry.members
    → ((member : ℕ) → member < table.geometry.members → slots.live member ≡ is_there (state_at table.states member)) → AtMostOneOut slots
    → row < row_count table
    → CanRead slots row panel
can_read table slots row panel its_slots width there one_out below = record {
  devices = omega (arith, width, its_slots.of_bank);
  small = omega (arith, below, rows_most table.geometry.limits);
  within = λ member in_set live up.
      let within : member < table.geometry.members = omega (arith, width, in_set) in
      let fit = its_slots.fit member (omega (arith, within)) (not_missing member within live) up in
      omega (arith, below, fit, member_least table.geometry member within);
  one_out = one_out;
}
  where
    differ : true ≡ false → ⊥
    differ is = cc

    not_missing : (member : ℕ) → member < table.geometry.members → slots.live member ≡ true → state_at table.states member ≢ Missing
    not_missing member within live is = differ (sym live ∙ there member within ∙ ap is_there is)
