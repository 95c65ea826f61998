-- Small cases that meet what the calls of an array promise.
use Rattle.std.proofs.Common.{◌≡◌, inl, inr, ℕ, zero, suc, ◌+◌, ◌<◌, true, false, List, [], ◌∷◌, Option, Some, None, Ok, refl, sym, ◌∙◌, ap, subst, arith}
use Rattle.std.specs.Prelude.{map, slice_index_or}
use Rattle.std.specs.List.{range_with_len}
use Rattle.std.proofs.lemmas.Bool.{false≢true}
use Rattle.std.proofs.lemmas.Option.{none-some}
use Rattle.sector_model.specs.declared.event.Event.TheVariants.{Quiet}
use Rattle.sector_model.specs.Bank.{AfterCall, IsTrueTo, Panel}
use Rattle.sector_model.specs.History.{After, Began, Bytes, History, Slots, disk_of, sector_of}
use Rattle.sector_model.specs.Moments.{here, then_also}
use Rattle.sector_model.specs.Readable.{readable}
use Rattle.sector_model.proofs.Readable.{readable_left}
use Rattle.layout_map.specs.declared.geometry.Geometry.{Geometry}
use Rattle.layout_map.specs.declared.sizes.TheConstants.{FIRST_ROW}
use Rattle.parity.specs.Xor.{IsSoundRow}
use Rattle.superblock.specs.declared.state.State.TheVariants.{InSync, Missing}
use Rattle.superblock.specs.declared.table.Table.{Table}
use Rattle.superblock.specs.Tables.{state_at}
use Rattle.superblock.specs.Cases.{IsLostAfter, Lost, lost_from}
use Rattle.superblock.specs.NextTables.{IsComplete, IsOut, slots_of}
use Rattle.superblock.proofs.LaterTables.{not_older_same}
use Rattle.degraded.specs.RowValue.{logical_list, row_values, value}
use Rattle.degraded.proofs.Others.{map-range}
use Rattle.array_io.specs.Believed.ArrayCalls.{KeepsTheList, MarksMissing, Reads}
use Rattle.array_io.specs.Believed.Fresh.{IsFresh, zeros_of}
use Rattle.array_io.specs.Believed.Holds.{row_count}
use Rattle.array_io.specs.Believed.Moments.{HoldsThroughout}
use Rattle.array_io.specs.Believed.Settled.{IsLostSlot, IsSettled, rows_by}
use Rattle.array_io.specs.Believed.Views.{ArrayView, DeviceFailed, GoesOn, RestsOn, StaysButForFailures}
use Rattle.array_io.proofs.Reading.Scanning.{own_value}
use Rattle.array_io.proofs.Laws.Beginning.{holds_at_rest, state_in_sync}
use Rattle.array_io.proofs.Images.Codecs.{spellings}
use Rattle.array_io.proofs.Laws.Fresh.{fresh_set_holds}
use Rattle.array_io.proofs.Laws.FromCore.{holds_from_core}
use Rattle.array_io.proofs.Laws.SettledBegins.{settled_begins}

-- with none lost, the table is complete
pub complete_at_rest : (table : Table) → IsLostSlot table None → IsComplete table
complete_at_rest table is = record {
  in_sync = λ slot of_set. elim (state_in_sync (state_at table.states slot)) [
    | inl in_sync ↦ in_sync
    | inr out ↦ absurd (false≢true (is.out slot record { of_set = of_set; out = out }).1)
  ];
}

-- the lost slot is one that the table lacks
out_at_rest : (table : Table) (lost : Lost) → lost.slot < slots_of table → IsLostSlot table (Some lost) → IsOut table lost.slot
out_at_rest table lost of_set is = record {
  of_set = of_set;
  out = λ in_sync. none-some lost (sym (is.none record {
    in_sync = λ slot below. elim (state_in_sync (state_at table.states slot)) [
      | inl there ↦ there
      | inr out ↦ subst (λ (k : ℕ). state_at table.states k ≡ InSync) (is.out slot record { of_set = below; out = out }).0 in_sync
    ];
  }));
}

-- so of a settled array the slot that was lost is lost after a call that keeps the table
still_lost : (devices : ℕ) (table : Table) (number : ℕ) (h : History) (lost : Option Lost) (V : List Bytes) → IsSettled devices table number h lost V
    → IsLostAfter lost table lost
still_lost devices table number h None V settled = inl (complete_at_rest table settled.lost_slot, refl)
still_lost devices table number h (Some lost) V settled =
    let holds = settled.holds (readable h) (readable_left h) in
    inr (out_at_rest table lost (subst (λ (g : Geometry). lost.slot < g.members + 2) holds.not_older.same_geometry holds.lost_in_set) settled.lost_slot, refl)

-- also where a slot is given up that the table lacks, or none
still_lost_from : (devices : ℕ) (table : Table) (number : ℕ) (h : History) (lost : Option Lost) (V : List Bytes) (slot : ℕ)
    → IsSettled devices table number h lost V
    → IsLostAfter (lost_from lost slot) table lost
still_lost_from devices table number h None V slot settled = inl (complete_at_rest table settled.lost_slot, refl)
still_lost_from devices table number h (Some lost) V slot settled = still_lost devices table number h (Some lost) V settled

-- a run that goes on with so many reads, each of which was answered
abbrev pub after_reads : ℕ → History → History
after_reads zero h = h
after_reads (suc n) h = After Quiet (after_reads n h)

-- an array after them
abbrev pub with_reads : ℕ → ArrayView → ArrayView
with_reads n array = record {
  panel = record { devices = array.panel.devices; sectors = array.panel.sectors; down = array.panel.down; calls = array.panel.calls + n };
  history = after_reads n array.history;
  table = array.table;
  number = array.number;
}

-- a read leaves a settled array settled
settled_after_read : (devices : ℕ) (table : Table) (number : ℕ) (h : History) (lost : Option Lost) (V : List Bytes) → IsSettled devices table number h lost V
    → IsSettled devices table number (After Quiet h) lost V
settled_after_read devices table number h lost V settled = record {
  nothing_pending = settled.nothing_pending;
  holds = settled.holds;
  there = settled.there;
  listed = settled.listed;
  sound = settled.sound;
  chosen = record { whole = settled.chosen.whole; weakened = settled.chosen.weakened };
  numbered = record { whole = settled.numbered.whole; weakened = settled.numbered.weakened };
  none_back = settled.none_back;
  lost_slot = settled.lost_slot;
}

pub settled_after_reads : (n devices : ℕ) (table : Table) (number : ℕ) (h : History) (lost : Option Lost) (V : List Bytes)
    → IsSettled devices table number h lost V
    → IsSettled devices table number (after_reads n h) lost V
settled_after_reads zero devices table number h lost V settled = settled
settled_after_reads (suc n) devices table number h lost V settled =
    settled_after_read devices table number (after_reads n h) lost V (settled_after_reads n devices table number h lost V settled)

-- at each moment of them what a crash may leave holds
held_in_reads : (n devices : ℕ) (table : Table) (number : ℕ) (h : History) (lost : Option Lost) (V : List Bytes) → IsSettled devices table number h lost V
    → HoldsThroughout table devices lost (V ∷ []) h (after_reads n h)
held_in_reads zero devices table number h lost V settled = here (holds_at_rest devices table number h lost V settled)
held_in_reads (suc n) devices table number h lost V settled =
    then_also Quiet (after_reads n h) (held_in_reads n devices table number h lost V settled)
    (holds_at_rest devices table number (after_reads (suc n) h) lost V (settled_after_reads (suc n) devices table number h lost V settled))

pub keeps_in_reads : (honest : Type 0) (n : ℕ) (array : ArrayView) (ends : Type 0) → KeepsTheList honest array (with_reads n array) ends
keeps_in_reads honest n array ends = record {
  moments = λ true_bank lost V rests. held_in_reads n array.panel.devices array.table array.number array.history lost V rests;
  rests = λ true_bank goes lost V rests. record {
    lost = lost;
    is_lost = still_lost array.panel.devices array.table array.number array.history lost V rests;
    rests = settled_after_reads n array.panel.devices array.table array.number array.history lost V rests;
  };
}

pub goes_on_in_reads : (n : ℕ) (array : ArrayView) → GoesOn array (with_reads n array)
goes_on_in_reads n array = record {
  later = record { devices = refl; sectors = λ d. refl; calls = omega arith; down = λ d is. is };
  not_older = not_older_same array.table;
  number = omega arith;
  its_slots = λ has. record { of_bank = has.of_bank; fit = has.fit };
}

not_failed : (slot : ℕ) (array new : ArrayView) → new.panel.down slot ≡ array.panel.down slot → DeviceFailed slot array.panel new.panel → ⊥
not_failed slot array new same failed = false≢true (sym failed.was_up ∙ sym same ∙ failed.is_down)

pub stays_in_reads : (honest : Type 0) (n : ℕ) (array : ArrayView) (ended : Type 0) → StaysButForFailures honest array (with_reads n array) ended
stays_in_reads honest n array ended = record {
  table = inl refl;
  failure = λ is goes slot of_set failed. absurd (not_failed slot array (with_reads n array) refl failed);
}

-- each of them is a call that a bank may make of a device that is up
pub one_read_is_a_call : (dev : ℕ) (array : ArrayView) → array.panel.down dev ≡ false → AfterCall dev true array.panel (with_reads 1 array).panel
one_read_is_a_call dev array up = record {
  devices = refl;
  sectors = λ d. refl;
  calls = refl;
  answer = up;
  others = λ d apart. refl;
  stays = λ down. absurd (false≢true (sym up ∙ down));
}

true_after_read : (panel : Panel) (h : History) (calls : ℕ) → calls ≡ panel.calls + 1 → IsTrueTo panel h
    → IsTrueTo record panel { calls = calls } (After Quiet h)
true_after_read panel h calls counted was = record {
  down = was.down;
  sectors = was.sectors;
  calls = counted ∙ ap (λ (n : ℕ). n + 1) was.calls;
  beyond = was.beyond;
  whole = was.whole;
}

-- and on an honest bank the array is true to its run after them
pub true_in_reads : (n : ℕ) (array : ArrayView) → IsTrueTo array.panel array.history → IsTrueTo (with_reads n array).panel (with_reads n array).history
true_in_reads zero array was = record {
  down = was.down;
  sectors = was.sectors;
  calls = omega (arith, was.calls);
  beyond = was.beyond;
  whole = was.whole;
}
true_in_reads (suc n) array was =
    true_after_read (with_reads n array).panel (after_reads n array.history) (array.panel.calls + suc n) (omega arith) (true_in_reads n array was)

-- a call that made no device call keeps all of it
pub keeps_at_rest : (honest : Type 0) (array : ArrayView) (ends : Type 0) → KeepsTheList honest array array ends
keeps_at_rest honest array ends = record {
  moments = λ true_bank lost V rests. here (holds_at_rest array.panel.devices array.table array.number array.history lost V rests);
  rests = λ true_bank goes lost V rests. record {
    lost = lost;
    is_lost = still_lost array.panel.devices array.table array.number array.history lost V rests;
    rests = rests;
  };
}

pub goes_on_at_rest : (array : ArrayView) → GoesOn array array
goes_on_at_rest array = record {
  later = record { devices = refl; sectors = λ d. refl; calls = omega arith; down = λ d is. is };
  not_older = not_older_same array.table;
  number = omega arith;
  its_slots = λ has. has;
}

pub stays_at_rest : (honest : Type 0) (array : ArrayView) (ended : Type 0) → StaysButForFailures honest array array ended
stays_at_rest honest array ended = record {
  table = inl refl;
  failure = λ is goes slot of_set failed. absurd (not_failed slot array array refl failed);
}

-- the members' own sectors in a row
abbrev pub own_row : Table → Slots → (row : ℕ) → List Bytes
own_row table image row = map (λ member. sector_of (disk_of (image member)) (FIRST_ROW + row)) (range_with_len 0 table.geometry.members)

-- of a complete set the rows as an array reads them are these
rows_are_own : (table : Table) (image : Slots) → IsComplete table → (row : ℕ) → row_values (rows_by table image) row ≡ own_row table image row
rows_are_own table image complete row =
    map-range (λ member. value (rows_by table image) row member) (λ member. sector_of (disk_of (image member)) (FIRST_ROW + row)) 0 table.geometry.members
    (λ member within. own_value table image complete row member (omega (arith, within)))

-- so they are sound where a complete array is settled
pub own_rows_are_sound : (array : ArrayView) (lost : Option Lost) (V : List Bytes) → IsComplete array.table → RestsOn array lost V
    → (row : ℕ) → row < row_count array.table → IsSoundRow (own_row array.table (readable array.history) row)
own_rows_are_sound array lost V complete rests row below =
    subst (λ (sectors : List Bytes). IsSoundRow sectors) (rows_are_own array.table (readable array.history) complete row) (rests.sound row below)

-- a sector is read by so many device reads that were answered, and is what the rows say
pub read_is_answered : (honest : Type 0) (logical n : ℕ) (array : ArrayView)
    → Reads honest logical array (with_reads n array) (slice_index_or (logical_list array.table.geometry (rows_by array.table (readable array.history))) logical
    []) (Ok tt)
read_is_answered honest logical n array = record {
  goes_on = goes_on_in_reads n array;
  stays = stays_in_reads _ n array _;
  number = refl;
  keeps = keeps_in_reads honest n array _;
  sector = λ true_bank answered lost V rests. ap (λ (l : List Bytes). slice_index_or l logical []) rests.listed;
  cause = λ refusal refused. absurd (cc);
}

-- so it is the sector of the list on which the array is settled
pub read_of_settled : (honest : Type 0) (logical n : ℕ) (array : ArrayView) (lost : Option Lost) (V : List Bytes) → RestsOn array lost V
    → Reads honest logical array (with_reads n array) (slice_index_or V logical []) (Ok tt)
read_of_settled honest logical n array lost V rests =
    subst (λ (l : List Bytes). Reads honest logical array (with_reads n array) (slice_index_or l logical []) (Ok tt)) rests.listed
    (read_is_answered honest logical n array)

-- the array of a set that was just made, in its first run
abbrev pub fresh_array : Panel → Table → Slots → ArrayView
fresh_array panel table image = record { panel = panel; history = Began image; table = table; number = 0 }

-- it is settled, so the premise can be met
pub fresh_rests : (panel : Panel) (table : Table) (image : Slots) → IsFresh panel.devices table image
    → RestsOn (fresh_array panel table image) None (zeros_of table.geometry)
fresh_rests panel table image fresh = settled_begins spellings (fresh_set_holds spellings (holds_from_core spellings)) panel.devices table image fresh

pub read_of_fresh : (honest : Type 0) (logical n : ℕ) (panel : Panel) (table : Table) (image : Slots) → IsFresh panel.devices table image
    → Reads honest logical (fresh_array panel table image) (with_reads n (fresh_array panel table image)) (slice_index_or (zeros_of table.geometry) logical [])
    (Ok tt)
read_of_fresh honest logical n panel table image fresh =
    read_of_settled honest logical n (fresh_array panel table image) None (zeros_of table.geometry) (fresh_rests panel table image fresh)

-- a slot that is missing already is marked by doing nothing
pub missing_stays : (honest : Type 0) (slot : ℕ) (array : ArrayView) → state_at array.table.states slot ≡ Missing → MarksMissing honest slot array array (Ok tt)
missing_stays honest slot array missing = record {
  goes_on = goes_on_at_rest array;
  number = refl;
  marked = λ answered. inl (missing, refl);
  marked_or_not = inl refl;
  untouched = λ is. (refl, refl);
  moments = λ true_bank lost X give. here give.holds;
  chosen = λ true_bank answered lost X give. give.chosen;
  rests = λ true_bank answered lost V may rests. record {
    lost = lost;
    is_lost = still_lost_from array.panel.devices array.table array.number array.history lost V slot rests;
    rests = rests;
  };
  cause = λ may refusal refused. absurd (cc);
}
