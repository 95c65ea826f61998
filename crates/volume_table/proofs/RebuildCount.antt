-- How far a rebuild goes by the events of a store, and when it ends.
use Rattle.std.proofs.Common.{◌≡◌, ◌≢◌, ◌⊎◌, inl, inr, ℕ, zero, suc, ◌+◌, ◌*◌, ◌<◌, ◌≤◌, ◌==◌, Bool, true, false, cond, not, List, [], ◌∷◌}
use Rattle.std.proofs.Common.{length, get_or, Option, Some, None, refl, sym, ap, subst, ◌∙◌, arith}
use Rattle.std.proofs.lemmas.Bool.{cases_lt, eqb-false, true≢false}
use Rattle.std.proofs.lemmas.List.{get_or-take}
use Rattle.std.proofs.lemmas.List.Folds.{list_any_at}
use Rattle.sector_model.specs.declared.refusal.Refusal.{Refusal}
use Rattle.sector_model.specs.declared.refusal.Refusal.TheVariants.{NothingToRebuild, TwoLost, Worn}
use Rattle.layout_map.specs.declared.geometry.Geometry.{Geometry}
use Rattle.layout_map.specs.Placement.{rows_of}
use Rattle.superblock.specs.declared.state.State.{State}
use Rattle.superblock.specs.declared.state.State.TheVariants.{InSync, Missing, Rebuilding}
use Rattle.superblock.specs.declared.table.Table.{Table}
use Rattle.superblock.specs.Tables.{state_at}
use Rattle.superblock.specs.States.{has_rebuilding, is_missing, is_rebuilding}
use Rattle.superblock.specs.NextTables.{IsComplete, IsOut, slots_of}
use Rattle.array_io.specs.Believed.Holds.{row_count}
use Rattle.array_io.specs.Believed.Views.{EndsIt, IsSlotOut, IsTwoLost}
use Rattle.layout_map.specs.declared.format.Format.{Format}
use Rattle.layout_map.specs.Formats.{rebuild_rows}
use Rattle.rebuild.specs.Rebuilding.{Complete, IsRebuilding, Position, stepped, steps_left_of}
use Rattle.volume_table.specs.VolumeStep.{Done, Event, Fail, OnSet, OnVolumes, Progressed, RebuildStep, Refused, Reply, first_refusal, or_refused}
use Rattle.volume_table.specs.SetReplies.{Devices, SetState, rebuilt, set_after, set_refusal, set_reply, with_faults}
use Rattle.volume_table.specs.SetLaw.{LetsRebuildGoOn, NoFaults, steps_of}
use Rattle.volume_table.specs.Stands.{StoreView}
use Rattle.volume_table.specs.StoreCalls.{Applies, AreDevicesOf, EndsStore, GoesThrough, LeavesSet, SetIsLeft, no_devices, set_of}
use Rattle.volume_table.specs.StoreFunctions.{Chain, none_done, then_done}
use Rattle.volume_table.specs.RebuildLaw.{AllLeaveRebuilding, AllUp, IsRebuildingOn, LeavesRebuilding, RebuildsBy, step_rows, steps_from, steps_in}
use Rattle.volume_table.specs.RebuildLaw.{steps_to_do}
use Rattle.volume_table.proofs.SingleFailure.{refused_beside}
use Rattle.volume_table.proofs.SetLemmas.{call_leaves, made, none_missing, step_is_last, tables_have_one_out}
use Rattle.volume_table.proofs.StoreSteps.{length-set_of}
use Rattle.volume_table.proofs.StepRows.{fewer_below, last_left, none_stepped, one_fewer, some_left, stepped_both, stepped_last, stepped_on}

rebuilding_not_in_sync : (state : State) → state ≡ Rebuilding → state ≢ InSync
rebuilding_not_in_sync state is in_sync = let never : Rebuilding ≡ InSync = sym is ∙ in_sync in cc

of_the_set : (table : Table) (member : ℕ) → IsRebuilding table member → member < slots_of table
of_the_set table member is = omega (arith, is.of_set)

-- a table's set has a slot's state
set_has : (table : Table) (slot : ℕ) → slot < slots_of table
    → get_or (set_of table).states slot Missing ≡ state_at table.states slot
set_has table slot of_set = get_or-take (slots_of table) table.states slot Missing of_set

-- the set of a table by which a member is rebuilding has a rebuilding one
pub set_rebuilds : (table : Table) (member : ℕ) → IsRebuilding table member → has_rebuilding (set_of table).states ≡ true
set_rebuilds table member is =
    list_any_at is_rebuilding (set_of table).states member Missing
    (omega (arith, of_the_set table member is, length-set_of table))
    (ap is_rebuilding (set_has table member (of_the_set table member is) ∙ is.state))

-- the states and position after an event, whatever it is on
left_is : (event : Event) (devices : Devices) (before left : SetState) (reply : Reply)
    → LeavesSet event devices before left reply → left ≡ set_after devices event before
left_is (OnVolumes command) devices before left reply is = is
left_is (OnSet command) devices before left reply is = is.leaves

-- where each device is up at the return, none answered a fault
none_faults : (honest : Type 0) (old new : StoreView) (devices : Devices)
    → AreDevicesOf honest old.array.table old.array.panel new.array.panel new.array.history devices
    → slots_of new.array.table ≡ slots_of old.array.table → AllUp new → NoFaults devices (set_of old.array.table)
none_faults honest old new devices are same up slot below = by_fault (devices.faults slot) refl
  where
    of_set : slot < slots_of old.array.table
    of_set = omega (arith, below, length-set_of old.array.table)

    by_fault : (b : Bool) → devices.faults slot ≡ b → b ≡ false
    by_fault false is = refl
    by_fault true is = absurd (true≢false (sym (are.is_down slot of_set is) ∙ up slot (omega (arith, of_set, same))))

-- beside a rebuilding member no other slot is given up
fail_not_done : (devices : Devices) (table : Table) (member slot : ℕ) → IsRebuilding table member → member ≢ slot
    → set_reply devices (Fail slot) (set_of table) ≢ Done
fail_not_done devices table member slot is apart = by_refusal (set_refusal no_devices (Fail slot) (set_of table)) refl
  where
    out : IsOut table member
    out = record {
      of_set = of_the_set table member is;
      out = rebuilding_not_in_sync (state_at table.states member) is.state;
    }

    by_refusal : (refusal : Option Refusal) → set_refusal no_devices (Fail slot) (set_of table) ≡ refusal
        → or_refused refusal Done ≢ Done
    by_refusal None none = absurd (refused_beside table slot member out apart none)
    by_refusal (Some refusal) some = λ never. cc

-- how far a rebuild is after some events of a store, none of which ended it
record IsAhead (member steps : ℕ) (old new : StoreView) : Type 0 where
  on : IsRebuildingOn member (step_rows old.array.table * steps) old.array.table new.array.table
  geometry : new.array.table.geometry ≡ old.array.table.geometry
  going : new.ended ≡ None

-- one event that leaves a row to be done
one_ahead : (honest : Type 0) (member : ℕ) (event : Event) (old new : StoreView) (reply : Reply)
    → GoesThrough honest event old new reply → ¬ EndsStore reply
    → IsRebuilding old.array.table member → LeavesRebuilding member event new
    → old.array.table.position + step_rows old.array.table * steps_of event < row_count old.array.table
    → IsAhead member (steps_of event) old new
one_ahead honest member event old new reply through goes is leaves more = record {
  on = record {
    still = record {
      of_set = subst (λ (g : Geometry). member < g.members) (sym geometry) is.of_set;
      state = sym (set_has new.array.table member (omega (arith, of_the_set old.array.table member is, same)))
          ∙ ap (λ (s : SetState). get_or s.states member Missing) after
          ∙ set_has old.array.table member (of_the_set old.array.table member is) ∙ is.state;
    };
    position = ap (λ (s : SetState). s.position) after;
  };
  geometry = geometry;
  going = through.goes goes;
}
  where
    left : SetIsLeft honest event old new reply
    left = through.set_left goes

    geometry : new.array.table.geometry ≡ old.array.table.geometry
    geometry = through.goes_on.not_older.same_geometry

    same : slots_of new.array.table ≡ slots_of old.array.table
    same = ap (λ (g : Geometry). g.members + 2) geometry

    -- the rows of a step are those of the set before and after it
    rows_now : step_rows new.array.table ≡ rebuild_rows left.devices.format
    rows_now = ap (λ (g : Geometry). rebuild_rows g.format) geometry ∙ ap rebuild_rows (sym left.are.format)

    lets : LetsRebuildGoOn left.devices (set_of old.array.table) (record { devices = left.devices; event = event })
    lets = record {
      of_rows = refl;
      of_format = refl;
      no_faults = none_faults honest old new left.devices left.are same leaves.all_up;
      none_given_up = λ slot is_fail. fail_not_done left.devices old.array.table member slot is
          (λ one. leaves.not_given_up (is_fail ∙ ap (λ (n : ℕ). OnSet (Fail n)) (sym one)));
      whole = λ rows is_step. leaves.whole rows is_step ∙ rows_now;
    }

    there : Format → ℕ
    there format = old.array.table.position + rebuild_rows format * steps_of event

    more_rows : there left.devices.format < left.devices.rows
    more_rows = omega (arith, more, ap there left.are.format, left.are.rows)

    after : set_of new.array.table ≡ made (set_of old.array.table).states (there old.array.table.geometry.format)
    after = left_is event left.devices (set_of old.array.table) (set_of new.array.table) reply left.left
        ∙ call_leaves left.devices event (set_of old.array.table) (tables_have_one_out old.array.table)
        (set_rebuilds old.array.table member is) lets more_rows
        ∙ ap (λ (format : Format). made (set_of old.array.table).states (there format)) left.are.format

rows_are : (old new : Geometry) → new ≡ old → rows_of new.chunk new.stripes ≡ rows_of old.chunk old.stripes
rows_are old new same = ap (λ (g : Geometry). rows_of g.chunk g.stripes) same

-- and some, one after another
ahead : (member : ℕ) (events : List Event) (acks : List ℕ) (old new : StoreView) → old.ended ≡ None
    → IsRebuilding old.array.table member
    → (chain : Chain (Unit {0}) events acks old new) → AllLeaveRebuilding member chain
    → old.array.table.position + step_rows old.array.table * steps_in events < row_count old.array.table
    → IsAhead member (steps_in events) old new
ahead member [] [] old new goes is none_done leave more = record {
  on = record { still = is; position = none_stepped old.array.table.geometry.format old.array.table.position };
  geometry = refl;
  going = goes;
}
ahead member [] (_ ∷ acks) old new goes is chain leave more = elim chain [ ]
ahead member (_ ∷ events) [] old new goes is chain leave more = elim chain [ ]
ahead member (_ ∷ events) (_ ∷ acks) old new goes is (then_done mid event reply ack applies on same chain) leave more =
    let format = old.array.table.geometry.format in
    let position = old.array.table.position in
    let less = fewer_below format (row_count old.array.table) position (steps_of event) (steps_in events) more in
    let first = one_ahead (Unit {0}) member event old mid reply (applies.going goes) on is leave.0 less in
    let both = stepped_both format position (steps_of event) (steps_in events) in
    let step : step_rows mid.array.table * steps_in events ≡ step_rows old.array.table * steps_in events =
    ap (λ (g : Geometry). rebuild_rows g.format * steps_in events) first.geometry in
    let beyond : mid.array.table.position + step_rows mid.array.table * steps_in events < row_count mid.array.table =
    omega (arith, more, both, step, rows_are old.array.table.geometry mid.array.table.geometry first.geometry, first.on.position) in
    let rest = ahead member events acks mid new first.going first.on.still chain leave.1 beyond in
    record {
      on = record { still = rest.on.still; position = omega (arith, rest.on.position, first.on.position, both, step) };
      geometry = rest.geometry ∙ first.geometry;
      going = rest.going;
    }

pub rebuild_advances : (member : ℕ) (events : List Event) (acks : List ℕ) (old new : StoreView)
    → RebuildsBy member events acks old new
    → steps_in events < steps_to_do old.array.table
    → IsRebuildingOn member (step_rows old.array.table * steps_in events) old.array.table new.array.table
rebuild_advances member events acks old new by more =
    (ahead member events acks old new by.going by.rebuilding by.chain by.all_leave
    (some_left old.array.table.geometry.format (row_count old.array.table) old.array.table.position (steps_in events) more)).on

-- no two devices are out where each is up
not_two_out : (store : StoreView) → AllUp store → IsTwoLost store.array → ⊥
not_two_out store up two = two.apart
    (store.array.table.allowed.one_out two.first two.second two.first_of_set two.second_of_set
    (out two.first two.first_of_set two.first_out) (out two.second two.second_of_set two.second_out))
  where
    out : (slot : ℕ) → slot < slots_of store.array.table → IsSlotOut store.array slot
        → state_at store.array.table.states slot ≢ InSync
    out slot of_set (inl down) = absurd (true≢false (sym down ∙ up slot of_set))
    out slot of_set (inr is) = is

-- so a store does not end but for a counter
not_ended : (honest : Type 0) (event : Event) (old new : StoreView) (reply : Reply)
    → GoesThrough honest event old new reply → AllUp new → reply ≢ Refused Worn → ¬ EndsStore reply
not_ended honest event old new (Refused refusal) through up not_worn ends = by_refusal refusal refl ends
  where
    by_refusal : (other : Refusal) → refusal ≡ other → EndsIt other → ⊥
    by_refusal TwoLost is e = not_two_out new up (through.ends TwoLost (ap Refused is) e).1
    by_refusal Worn is e = not_worn (ap Refused is)
    by_refusal other is e = absurd e
not_ended honest event old new reply through up not_worn ends = absurd ends

-- in a set that was rebuilt each slot is in sync that was not missing
rebuilt_in_sync : (states : List State) (slot : ℕ) → slot < length states
    → is_missing (get_or states slot InSync) ≡ false → get_or (rebuilt states) slot Missing ≡ InSync
rebuilt_in_sync [] slot below there = absurd (omega (arith, below))
rebuilt_in_sync (Missing ∷ states) zero below there = absurd (true≢false there)
rebuilt_in_sync (InSync ∷ states) zero below there = refl
rebuilt_in_sync (Rebuilding ∷ states) zero below there = refl
rebuilt_in_sync (state ∷ states) (suc slot) below there = rebuilt_in_sync states slot (omega (arith, below)) there

-- the last step
last_ends : (honest : Type 0) (member : ℕ) (old new : StoreView) (reply : Reply)
    → GoesThrough honest (OnSet (RebuildStep (step_rows old.array.table))) old new reply → ¬ EndsStore reply
    → IsRebuilding old.array.table member → AllUp new → old.array.table.position ≤ row_count old.array.table
    → row_count old.array.table ≤ old.array.table.position + step_rows old.array.table
    → (reply ≡ Progressed Complete) × IsComplete new.array.table
last_ends honest member old new reply through goes is up within near = (
  left.left.replied ∙ ap (λ (rows : ℕ). set_reply left.devices (RebuildStep rows) (set_of old.array.table)) (sym step) ∙ done.1,
  record
      { in_sync = in_sync },
)
  where
    left : SetIsLeft honest (OnSet (RebuildStep (step_rows old.array.table))) old new reply
    left = through.set_left goes

    same : slots_of new.array.table ≡ slots_of old.array.table
    same = ap (λ (g : Geometry). g.members + 2) through.goes_on.not_older.same_geometry

    step : rebuild_rows left.devices.format ≡ step_rows old.array.table
    step = ap rebuild_rows left.are.format

    done : (set_after left.devices (OnSet (RebuildStep (rebuild_rows left.devices.format))) (set_of old.array.table)
        ≡ made (rebuilt (set_of old.array.table).states) 0)
        × (set_reply left.devices (RebuildStep (rebuild_rows left.devices.format)) (set_of old.array.table) ≡ Progressed Complete)
    done = step_is_last left.devices (set_of old.array.table)
        (none_faults honest old new left.devices left.are same up) (set_rebuilds old.array.table member is)
        (omega (arith, within, left.are.rows)) (omega (arith, near, step, left.are.rows))

    there : (slot : ℕ) → is_missing (get_or (set_of old.array.table).states slot InSync) ≡ false
    there slot = none_missing (set_of old.array.table).states slot (tables_have_one_out old.array.table)
        (set_rebuilds old.array.table member is)

    in_sync : (slot : ℕ) → slot < slots_of new.array.table → state_at new.array.table.states slot ≡ InSync
    in_sync slot of_set = sym (set_has new.array.table slot of_set)
        ∙ ap (λ (s : SetState). get_or s.states slot Missing) (left.left.leaves
        ∙ ap (λ (rows : ℕ). set_after left.devices (OnSet (RebuildStep rows)) (set_of old.array.table)) (sym step) ∙ done.0)
        ∙ rebuilt_in_sync (set_of old.array.table).states slot
        (omega (arith, of_set, same, length-set_of old.array.table)) (there slot)

pub rebuild_ends : (member : ℕ) (events : List Event) (acks : List ℕ) (old mid new : StoreView) (reply : Reply)
    → RebuildsBy member events acks old mid → steps_in events + 1 ≡ steps_to_do old.array.table
    → Applies (Unit {0}) (OnSet (RebuildStep (step_rows mid.array.table))) mid new reply → AllUp new → reply ≢ Refused Worn
    → (reply ≡ Progressed Complete) × IsComplete new.array.table
rebuild_ends member events acks old mid new reply by last applies up not_worn =
    let rows = last_left old.array.table.geometry.format (row_count old.array.table) old.array.table.position (steps_in events) last in
    let there = ahead member events acks old mid by.going by.rebuilding by.chain by.all_leave rows.0 in
    let all = rows_are old.array.table.geometry mid.array.table.geometry there.geometry in
    let step : step_rows mid.array.table ≡ step_rows old.array.table = ap (λ (g : Geometry). rebuild_rows g.format) there.geometry in
    let through = applies.going there.going in
    let on = not_ended (Unit {0}) (OnSet (RebuildStep (step_rows mid.array.table))) mid new reply through up not_worn in
    last_ends (Unit {0}) member mid new reply through on there.on.still up
    (omega (arith, rows.0, there.on.position, all)) (omega (arith, rows.1, there.on.position, all, step))

-- the position is within the rows
pub position_within : (table : Table) → table.position ≤ row_count table
position_within table = by_order (cases_lt (row_count table) table.position)
  where
    by_order : (row_count table < table.position) ⊎ (table.position ≤ row_count table) → table.position ≤ row_count table
    by_order (inr within) = within
    by_order (inl past) =
        let none : table.position ≡ 0 = table.allowed.no_position (λ slot is. absurd (omega (arith, past, table.allowed.position_below slot is))) in
        absurd (omega (arith, past, none))

-- what is answered with a position, by whether a member is rebuilding still and whether the last row is reached
answered_by_case : (rebuilding last : Bool) (position there : ℕ)
    → Progressed (Position position) ≡ or_refused (first_refusal ((not rebuilding, NothingToRebuild) ∷ []))
    (cond last (Progressed Complete) (Progressed (Position there)))
    → (last ≡ false) × (position ≡ there)
answered_by_case false last position there is = absurd (cc)
answered_by_case true true position there is = absurd (cc)
answered_by_case true false position there is = (refl, cc)

-- a step that does not reach the last row leaves one step fewer
one_step_fewer : (format : Format) (rows position was : ℕ) → was ≤ rows → position ≡ stepped (rebuild_rows format) rows (rebuild_rows format) was
    → position ≢ rows
    → steps_left_of (rebuild_rows format) was rows ≡ steps_left_of (rebuild_rows format) position rows + 1
one_step_fewer format rows position was within is apart = by_order (cases_lt (was + rebuild_rows format) rows)
  where
    by_order : (was + rebuild_rows format < rows) ⊎ (rows ≤ was + rebuild_rows format)
        → steps_left_of (rebuild_rows format) was rows ≡ steps_left_of (rebuild_rows format) position rows + 1
    by_order (inl more) = one_fewer format rows was more
        ∙ ap (λ (at : ℕ). steps_left_of (rebuild_rows format) at rows + 1) (sym (is ∙ stepped_on format rows was more))
    by_order (inr near) = absurd (apart (is ∙ stepped_last format rows was within near))

step_counts : (honest : Type 0) (position : ℕ) (old new : StoreView)
    → GoesThrough honest (OnSet (RebuildStep (step_rows old.array.table))) old new (Progressed (Position position))
    → steps_to_do old.array.table ≡ steps_from old.array.table position + 1
step_counts honest position old new through =
    let left = through.set_left (λ ends. ends) in
    let was = set_of old.array.table in
    let there = stepped (rebuild_rows left.devices.format) left.devices.rows (step_rows old.array.table) was.position in
    let case = answered_by_case (has_rebuilding (with_faults left.devices.faults was.states)) (there == left.devices.rows) position there left.left.replied in
    let apart : there ≢ left.devices.rows = eqb-false there left.devices.rows case.0 in
    let is : there ≡ stepped (step_rows old.array.table) (row_count old.array.table) (step_rows old.array.table) was.position =
    ap (λ (most : ℕ). stepped most left.devices.rows (step_rows old.array.table) was.position) (ap rebuild_rows left.are.format)
    ∙ ap (λ (all : ℕ). stepped (step_rows old.array.table) all (step_rows old.array.table) was.position) left.are.rows in
    one_step_fewer old.array.table.geometry.format (row_count old.array.table) position old.array.table.position (position_within old.array.table)
    (case.1 ∙ is) (λ same. apart (sym case.1 ∙ same ∙ sym left.are.rows))

-- a store that answered a step with a position was open
pub rebuild_counts : (position : ℕ) (old new : StoreView)
    → Applies (Unit {0}) (OnSet (RebuildStep (step_rows old.array.table))) old new (Progressed (Position position))
    → steps_to_do old.array.table ≡ steps_from old.array.table position + 1
rebuild_counts position old new applies = by_end old.ended refl
  where
    by_end : (ended : Option Refusal) → old.ended ≡ ended
        → steps_to_do old.array.table ≡ steps_from old.array.table position + 1
    by_end None going = step_counts (Unit {0}) position old new (applies.going going)
    by_end (Some refusal) ended = let never : Progressed (Position position) ≡ Refused refusal =
        (applies.ended refusal ended).refused refusal ended in absurd (cc)
