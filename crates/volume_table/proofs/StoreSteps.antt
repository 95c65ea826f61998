-- From what calls of an array do to its logical list to what a command on volumes does to its store.
use Rattle.std.proofs.Common.{◌≡◌, ◌⊎◌, inl, inr, ℕ, zero, suc, ◌+◌, ◌<◌, ◌≤◌, Bool, true, false, cond, not, ◌&&◌, ◌||◌, nat_lt, List, [], ◌∷◌, length, take}
use Rattle.std.proofs.Common.{Contains, Option, Some, None, Ok, Err, refl, sym, ◌∙◌, ap, ap₂, subst, arith}
use Rattle.std.specs.List.{filter, list_any, range_with_len}
use Rattle.std.specs.List.Sorted.{IsStrictlyIncreasing}
use Rattle.std.proofs.lemmas.Bool.{and_from, and_parts, cases_eq, not-false, not-true, true≢false}
use Rattle.std.proofs.lemmas.List.{get_or-take, length-take-le}
use Rattle.std.proofs.lemmas.List.Elements.{All-contains, All-contains_itself, All-filter, Contains-append_left, Contains-push, filter_passes}
use Rattle.std.proofs.lemmas.List.Folds.{list_any_at}
use Rattle.std.proofs.lemmas.List.FromFn.{get_or-range_with_len, length-range_with_len}
use Rattle.std.proofs.lemmas.List.Kept.{IsStrictlyIncreasing-filter}
use Rattle.sector_model.specs.declared.refusal.Refusal.{Refusal}
use Rattle.sector_model.specs.declared.refusal.Refusal.TheVariants.{TwoLost, Worn}
use Rattle.sector_model.specs.Bank.{IsTrueTo}
use Rattle.sector_model.specs.History.{Bytes, History, Slots}
use Rattle.sector_model.specs.Readable.{readable}
use Rattle.sector_model.proofs.Steps.{throughout_more}
use Rattle.layout_map.specs.declared.geometry.Geometry.{Geometry}
use Rattle.parity.specs.Xor.{IsSoundRow, xor_of_all, zero_sector}
use Rattle.superblock.specs.declared.state.State.{State}
use Rattle.superblock.specs.declared.state.State.TheVariants.{InSync, Missing, Rebuilding}
use Rattle.superblock.specs.declared.table.Table.{Table}
use Rattle.superblock.specs.Cases.{Lost}
use Rattle.superblock.specs.Counted.{least_sectors}
use Rattle.superblock.specs.NextTables.{IsMarked, slots_of}
use Rattle.superblock.specs.States.{has_rebuilding, is_missing, is_rebuilding, position_in}
use Rattle.superblock.specs.Tables.{incarnation_at, state_at}
use Rattle.array_io.specs.Believed.ArrayCalls.{Answer}
use Rattle.array_io.specs.Believed.Holds.{row_count}
use Rattle.array_io.specs.Believed.Views.{ArrayView, EndsIt, GoesOn, HasLostOne, IsEndOf, KeepsItsState, RestsOn, StaysButForFailures}
use Rattle.array_io.proofs.Marks.MarkingHolds.{incarnation_stays, missing_then, state_stays}
use Rattle.extents.specs.declared.extent_layout.ExtentLayout.{ExtentLayout}
use Rattle.extents.specs.SetExtents.{extents_in}
use Rattle.extents.specs.VolumeTables.{most_blocks}
use Rattle.extents.specs.TableLaw.{IsOfFormat}
use Rattle.extents.specs.TableSpelling.{Spell}
use Rattle.extents.proofs.TableLaws.{one_table}
use Rattle.scrub.specs.Scrubbing.{AreUnsound, row_in}
use Rattle.volume_table.specs.Names.{is_same_name}
use Rattle.volume_table.specs.Volumes.{Block, VolumeMap}
use Rattle.volume_table.specs.VolumeStep.{Command, Create, Done, Event, Extend, HasBlocks, Names, OnVolumes, Read, Refused, Remove, Rename, Reply}
use Rattle.volume_table.specs.VolumeStep.{Upgrade, Write, answer, done, or_refused, refusal_of, unless_refused, volumes_after}
use Rattle.volume_table.specs.SetReplies.{Devices, SetState, settled, with_faults}
use Rattle.volume_table.specs.Shows.{Shows}
use Rattle.volume_table.specs.Stands.{IsSettledAfter, IsSettledOn, ShowsOneOf, StandsNow, StandsThroughout, StoreView}
use Rattle.volume_table.specs.StoreCalls.{Applies, IncarnationsStay, IsCounterFull, IsListed, IsOfItsKind, SetIsLeft, extents_for_store, refusals_of, set_of}
use Rattle.volume_table.specs.Admission.{ShowsBy}
use Rattle.volume_table.specs.ListChanges.{Change, ChangesList, HoldsForSomeNow, IsNumberFull, IsSame, Kind}
use Rattle.volume_table.proofs.ListChanges.{changes_none, end_is}
use Rattle.volume_table.proofs.StepLemmas.{changed_if_done}
use Rattle.volume_table.proofs.VolumeLemmas.{same_name_is, same_name_itself}

-- ---- the rows that are not sound

-- whether the sectors of a row do not XOR to zero; their bytes are compared as those of two names are
is_unsound : Table → Slots → ℕ → Bool
is_unsound table image row = not (is_same_name (xor_of_all (row_in table image row)) zero_sector)

pub unsound_rows : Table → Slots → List ℕ
unsound_rows table image = filter (is_unsound table image) (range_with_len 0 (row_count table))

not_sound : (table : Table) (image : Slots) (row : ℕ) → is_unsound table image row ≡ true → ¬ IsSoundRow (row_in table image row)
unfolding is_unsound
not_sound table image row is sound = true≢false (sym (same_name_itself zero_sector)
    ∙ ap (λ (bytes : List ℕ). is_same_name bytes zero_sector) (sym sound) ∙ not-true (is_same_name (xor_of_all (row_in table image row)) zero_sector) is)

is_sound : (table : Table) (image : Slots) (row : ℕ) → is_unsound table image row ≡ false → IsSoundRow (row_in table image row)
unfolding is_unsound
is_sound table image row is = same_name_is (xor_of_all (row_in table image row)) zero_sector
    (not-false (is_same_name (xor_of_all (row_in table image row)) zero_sector) is)

-- what passes a test is kept
pub kept : (test : ℕ → Bool) (rows : List ℕ) (row : ℕ) → Contains rows row → test row ≡ true → Contains (filter test rows) row
kept test [] row (k, below, is) passes = absurd (omega (arith, below))
kept test (first ∷ rows) row (zero, below, is) passes =
    subst (λ (b : Bool). Contains (cond b (first ∷ filter test rows) (filter test rows)) row) (sym (ap test is ∙ passes)) (0, omega arith, is)
kept test (first ∷ rows) row (suc k, below, is) passes = by_test (test first) (kept test rows row (k, omega (arith, below), is) passes)
  where
    by_test : (b : Bool) → Contains (filter test rows) row → Contains (cond b (first ∷ filter test rows) (filter test rows)) row
    by_test true rest = (suc rest.0, omega (arith, rest.1), rest.2)
    by_test false rest = rest

rises : (count : ℕ) → IsStrictlyIncreasing (range_with_len 0 count)
rises count k below =
    let within : k + 1 < count = omega (arith, below, length-range_with_len 0 count) in
    omega (arith, get_or-range_with_len 0 count k 0 (omega (arith, within)), get_or-range_with_len 0 count (k + 1) 0 within)

below_count : (count row : ℕ) → Contains (range_with_len 0 count) row → row < count
below_count count row (k, below, is) =
    let within : k < count = omega (arith, below, length-range_with_len 0 count) in
    omega (arith, within, sym is ∙ get_or-range_with_len 0 count k row within)

in_range : (count row : ℕ) → row < count → Contains (range_with_len 0 count) row
in_range count row below =
    let plain : 0 + row ≡ row = omega arith in
    (row, omega (arith, below, length-range_with_len 0 count), get_or-range_with_len 0 count row row below ∙ plain)

pub are_unsound : (table : Table) (image : Slots) → AreUnsound table image (unsound_rows table image)
unfolding unsound_rows
are_unsound table image = record {
  rising = IsStrictlyIncreasing-filter (is_unsound table image) (range_with_len 0 (row_count table)) (rises (row_count table));
  unsound = λ row among. (
    below_count (row_count table) row (All-contains (Contains (range_with_len 0 (row_count table))) (unsound_rows table image) row
        (All-filter (is_unsound table image) (Contains (range_with_len 0 (row_count table))) (range_with_len 0 (row_count table))
        (All-contains_itself (range_with_len 0 (row_count table)))) among),
    not_sound table image row
        (All-contains (λ r. is_unsound table image r ≡ true) (unsound_rows table image) row
        (filter_passes (is_unsound table image) (range_with_len 0 (row_count table))) among),
  );
  all = λ row below. by_test row below (is_unsound table image row) refl;
}
  where
    by_test : (row : ℕ) → row < row_count table → (b : Bool) → is_unsound table image row ≡ b → Contains (unsound_rows table image) row
        ⊎ IsSoundRow (row_in table image row)
    by_test row below true is = inl (kept (is_unsound table image) (range_with_len 0 (row_count table)) row (in_range (row_count table) row below) is)
    by_test row below false is = inr (is_sound table image row is)

-- ---- the states and the position that a call leaves

-- a device that is down, and whose slot is missing after a call, answered a fault in it
abbrev pub has_fault : ArrayView → ℕ → Bool
has_fault new slot = is_missing (state_at new.table.states slot) && new.panel.down slot

-- what the devices of a set did in a call
abbrev pub devices_in : ArrayView → ArrayView → Devices
devices_in old new = record {
  faults = has_fault new;
  unusable = λ slot. old.panel.down slot || nat_lt (old.panel.sectors slot) (least_sectors old.table.geometry slot);
  format = old.table.geometry.format;
  rows = row_count old.table;
  unsound = unsound_rows old.table (readable new.history);
}

pub missing_is : (state : State) → is_missing state ≡ true → state ≡ Missing
missing_is Missing is = refl
missing_is InSync is = absurd (cc)
missing_is Rebuilding is = absurd (cc)

-- In a call that marks at most a slot whose device is down, each slot keeps its state, or is missing for that.
pub stays_or_fails : (old new : ArrayView) → (new.table ≡ old.table) ⊎ HasLostOne old new → (slot : ℕ) → KeepsItsState old new slot
stays_or_fails old new (inl same) slot = record { state = inl (ap (λ (t : Table). state_at t.states slot) same) }
stays_or_fails old new (inr lost) slot = elim (cases_eq slot lost.slot) [
  | inl one ↦ record {
    state = inr (ap new.panel.down one ∙ lost.is_down, ap (state_at new.table.states) one ∙ missing_then old.table new.table lost.slot lost.marked lost.of_set);
  }
  | inr apart ↦ record { state = inl (state_stays old.table new.table lost.slot lost.marked slot apart) }
]

-- so it is missing where its device answered a fault, and else as it was
state_left : (old new : ArrayView) (slot : ℕ) → KeepsItsState old new slot → (b : Bool) → has_fault new slot ≡ b
    → cond b Missing (state_at old.table.states slot) ≡ state_at new.table.states slot
state_left old new slot keeps true is = sym (missing_is (state_at new.table.states slot)
    (and_parts (is_missing (state_at new.table.states slot)) (new.panel.down slot) is).0)
state_left old new slot keeps false is = elim keeps.state [
  | inl same ↦ sym same
  | inr (down, missing) ↦ absurd (true≢false (sym (and_from (is_missing (state_at new.table.states slot)) (new.panel.down slot) (ap is_missing missing) down)
      ∙ is))
]

faults_leave : (faults : ℕ → Bool) (before after : List State) → length before ≡ length after
    → ((slot : ℕ) → slot < length before → cond (faults slot) Missing (state_at before slot) ≡ state_at after slot) → with_faults faults before ≡ after
faults_leave faults [] [] long each = refl
faults_leave faults [] (next ∷ after) long each = absurd (omega (arith, long))
faults_leave faults (state ∷ before) [] long each = absurd (omega (arith, long))
faults_leave faults (state ∷ before) (next ∷ after) long each =
    ap₂ (λ s ss. s ∷ ss) (each 0 (omega arith)) (faults_leave (λ slot. faults (slot + 1)) before after (omega (arith, long)) (λ slot below.
    let one_more : slot + 1 ≡ suc slot = omega arith in
    ap (λ (k : ℕ). cond (faults k) Missing (state_at before slot)) one_more ∙ each (suc slot) (omega (arith, below))))

pub length-set_of : (table : Table) → length (set_of table).states ≡ slots_of table
length-set_of table = length-take-le (slots_of table) table.states (omega (arith, table.allowed.ten_states, table.geometry.limits.members_most))

pub same_slots : (old new : ArrayView) → GoesOn old new → slots_of new.table ≡ slots_of old.table
same_slots old new goes = ap (λ (g : Geometry). g.members + 2) goes.not_older.same_geometry

pub states_left : (old new : ArrayView) → GoesOn old new → ((slot : ℕ) → slot < slots_of old.table → KeepsItsState old new slot)
    → with_faults (has_fault new) (set_of old.table).states ≡ (set_of new.table).states
states_left old new goes keeps =
    faults_leave (has_fault new) (set_of old.table).states (set_of new.table).states
    (length-set_of old.table ∙ sym (same_slots old new goes) ∙ sym (length-set_of new.table)) (λ slot below.
    let of_set : slot < slots_of old.table = omega (arith, below, length-set_of old.table) in
    ap (λ (s : State). cond (has_fault new slot) Missing s) (get_or-take (slots_of old.table) old.table.states slot Missing of_set)
    ∙ state_left old new slot (keeps slot of_set) (has_fault new slot) refl
    ∙ sym (get_or-take (slots_of new.table) new.table.states slot Missing (omega (arith, of_set, same_slots old new goes))))

-- a test that passes in the first part of a list passes in the list
any_more : (test : State → Bool) (n : ℕ) (states : List State) → list_any test (take n states) ≡ true → list_any test states ≡ true
any_more test zero states any = absurd (true≢false (sym any))
any_more test (suc n) [] any = any
any_more test (suc n) (state ∷ states) any = by_test (any_more test n states) (test state) any
  where
    by_test : (list_any test (take n states) ≡ true → list_any test states ≡ true) → (b : Bool) → (b || list_any test (take n states)) ≡ true
        → (b || list_any test states) ≡ true
    by_test beyond true any = refl
    by_test beyond false any = beyond any

-- the position is 0 where no slot of the set is rebuilding
pub no_position : (table : Table) → has_rebuilding (set_of table).states ≡ false → table.position ≡ 0
no_position table none = table.allowed.no_position (λ slot is.
    let of_set : slot < slots_of table = omega (arith, table.allowed.rebuilds_member slot is) in
    true≢false (sym (list_any_at is_rebuilding (set_of table).states slot Missing (omega (arith, of_set, length-set_of table))
    (ap is_rebuilding (get_or-take (slots_of table) table.states slot Missing of_set ∙ is))) ∙ none))

pub position_left : (old new : ArrayView) → (new.table ≡ old.table) ⊎ HasLostOne old new → (b : Bool) → has_rebuilding (set_of new.table).states ≡ b
    → cond b old.table.position 0 ≡ new.table.position
position_left old new table false none = sym (no_position new.table none)
position_left old new (inl same) true is = ap (λ (t : Table). t.position) (sym same)
position_left old new (inr lost) true is =
    sym (lost.marked.has_position ∙ ap (λ (b : Bool). cond b old.table.position 0)
    (ap has_rebuilding (sym lost.marked.has_states) ∙ any_more is_rebuilding (slots_of new.table) new.table.states is))

-- a set of these states and this position
abbrev pub made : List State → ℕ → SetState
made states position = record { states = states; position = position }

-- what failures leave of a table's set
pub failures_leave : (old new : ArrayView) → GoesOn old new → (new.table ≡ old.table) ⊎ HasLostOne old new
    → settled (devices_in old new) (set_of old.table) ≡ set_of new.table
failures_leave old new goes table =
    ap (λ (states : List State). made states (position_in states old.table.position))
    (states_left old new goes (λ slot of_set. stays_or_fails old new table slot))
    ∙ ap (made (set_of new.table).states) (position_left old new table (has_rebuilding (set_of new.table).states) refl)

pub set_is_left : (honest : Type 0) (command : Command) (old new : StoreView) (reply : Reply) (ended : Type 0) → GoesOn old.array new.array
    → StaysButForFailures honest old.array new.array ended
    → ¬ ended → SetIsLeft honest (OnVolumes command) old new reply
set_is_left honest command old new reply ended goes stays unended = record {
  devices = devices_in old.array new.array;
  are = record {
    failed = λ fair slot of_set failed. and_from (is_missing (state_at new.array.table.states slot)) (new.array.panel.down slot)
        (ap is_missing (stays.failure fair unended slot of_set failed)) failed.is_down;
    is_down = λ slot of_set fault. (and_parts (is_missing (state_at new.array.table.states slot)) (new.array.panel.down slot) fault).1;
    unusable = λ slot of_set. refl;
    format = refl;
    rows = refl;
    unsound = λ fair. are_unsound old.array.table (readable new.array.history);
  };
  left = sym (failures_leave old.array new.array goes stays.table);
}

-- a slot that was in sync is so still, or its device is down
pub slot_spared : (old new : ArrayView) (slot : ℕ) → KeepsItsState old new slot → state_at old.table.states slot ≡ InSync
    → (state_at new.table.states slot ≡ InSync) ⊎ (new.panel.down slot ≡ true)
slot_spared old new slot keeps in_sync = elim keeps.state [
  | inl same ↦ inl (same ∙ in_sync)
  | inr (down, missing) ↦ inr down
]

-- a table in which one slot is marked missing is the next one, and has the incarnations of the one before
pub generation_marked : (old new : Table) (slot : ℕ) → IsMarked old slot new → new.generation ≤ old.generation + 2
generation_marked old new slot marked = omega (arith, marked.generation)

pub incarnations_marked : (event : Event) (old new : Table) (slot : ℕ) → IsMarked old slot new → IncarnationsStay event old new
incarnations_marked event old new slot marked other = inl (incarnation_stays old new slot marked other)

-- and so has one that stays
pub generation_same : (old new : Table) → new ≡ old → new.generation ≤ old.generation + 2
generation_same old new same = omega (arith, ap (λ (t : Table). t.generation) same)

pub incarnations_same : (event : Event) (old new : Table) → new ≡ old → IncarnationsStay event old new
incarnations_same event old new same other = inl (ap (λ (t : Table). incarnation_at t.incarnations other) same)

pub generation_left : (old new : ArrayView) → (new.table ≡ old.table) ⊎ HasLostOne old new → new.table.generation ≤ old.table.generation + 2
generation_left old new (inl same) = generation_same old.table new.table same
generation_left old new (inr lost) = generation_marked old.table new.table lost.slot lost.marked

pub incarnations_left : (event : Event) (old new : ArrayView) → (new.table ≡ old.table) ⊎ HasLostOne old new → IncarnationsStay event old.table new.table
incarnations_left event old new (inl same) = incarnations_same event old.table new.table same
incarnations_left event old new (inr lost) = incarnations_marked event old.table new.table lost.slot lost.marked

-- ---- the volumes that a case stands for

-- where a store is settled, its list shows the volumes by the table that it keeps
pub shown_by : (store : StoreView) (lost : Option Lost) (volumes : VolumeMap) (settled : IsSettledOn store lost volumes)
    → ShowsBy (extents_for_store store) store.keeps settled.logical volumes
shown_by store lost volumes settled = record {
  shows = settled.shown;
  by = one_table (extents_for_store store).format settled.logical settled.shown.table store.keeps settled.shown.of_set.version settled.of_format
      settled.shown.spelled settled.spelled;
}

stands_by : (base : Table) (devices : ℕ) (lost : Option Lost) (kind : Kind) (maps : List VolumeMap)
    → ((W : List Bytes) → kind W → ShowsOneOf base.geometry maps W) → (h : History)
    → HoldsForSomeNow base devices lost kind h → StandsNow base devices lost maps h
stands_by base devices lost kind maps shows h now after image is may =
    let some = now after image is may in
    record { lists = some.lists; holds = some.holds; shown = λ logical among. shows logical (some.each logical among) }

-- the volumes before a command, or those after it
one_of_both : (geometry : Geometry) (volumes left : VolumeMap) (W : List Bytes) → Shows (extents_in geometry) W volumes ⊎ Shows (extents_in geometry) W left
    → ShowsOneOf geometry (volumes ∷ left ∷ []) W
one_of_both geometry volumes left W (inl shown) = record {
  volumes = volumes;
  among =
      Contains-append_left (volumes ∷ []) (left ∷ []) volumes (Contains-push [] volumes);
  shown = shown;
}
one_of_both geometry volumes left W (inr shown) = record { volumes = left; among = Contains-push (volumes ∷ []) left; shown = shown }

-- how a change shows in volumes that a list shows by the table kept
abbrev pub ShowsEither : StoreView → (VolumeMap → VolumeMap) → Change → Type 0
ShowsEither old after passes = (V W : List Block) (volumes : VolumeMap) → ShowsBy (extents_for_store old) old.keeps V volumes → passes V W
    → Shows (extents_for_store old) W volumes ⊎ Shows (extents_for_store old) W (after volumes)

pub moments : (honest : Type 0) (entries : ℕ) (passes leaves : Change) (old new : StoreView) (result : Answer) (after : VolumeMap → VolumeMap)
    → ChangesList honest entries passes leaves old.array new.array result → ShowsEither old after passes
    → honest → (lost : Option Lost) (volumes : VolumeMap) → IsSettledOn old lost volumes
    → StandsThroughout old.array.table old.array.panel.devices lost (volumes ∷ after volumes ∷ []) old.array.history new.array.history
moments honest entries passes leaves old new result after changes on_the_way fair lost volumes settled =
    throughout_more (stands_by old.array.table old.array.panel.devices lost (passes settled.logical) (volumes ∷ after volumes ∷ []) (λ W passed.
    one_of_both old.array.table.geometry volumes (after volumes) W (on_the_way settled.logical W volumes (shown_by old lost volumes settled) passed)))
    new.array.history (changes.moments fair lost settled.logical settled.rests)

-- after a row of calls that was answered the store is settled on the volumes that its new list shows by its new table
pub settled_then : (honest : Type 0) (entries : ℕ) (passes leaves : Change) (old new : StoreView) (after : VolumeMap → VolumeMap) → new.ended ≡ None
    → ChangesList honest entries passes leaves old.array new.array (Ok tt)
    → ((V W : List Block) (volumes : VolumeMap) → ShowsBy (extents_for_store old) old.keeps V volumes → leaves V W
    → ShowsBy (extents_for_store old) new.keeps W (after volumes))
    → honest → (lost : Option Lost) (volumes : VolumeMap) → IsSettledOn old lost volumes → IsSettledAfter lost new (after volumes)
settled_then honest entries passes leaves old new after going changes done fair lost volumes settled =
    let some = changes.rests fair refl lost settled.logical settled.rests in
    let now : ShowsBy (extents_for_store old) new.keeps some.logical (after volumes) =
    done settled.logical some.logical volumes (shown_by old lost volumes settled) some.is in
    record {
      lost = some.rests.lost;
      is_lost = some.rests.is_lost;
      settled = record {
        logical = some.logical;
        rests = some.rests.rests;
        shown = subst (λ (n : ExtentLayout). Shows n some.logical (after volumes)) (ap extents_in (sym changes.goes_on.not_older.same_geometry)) now.shows;
        spelled = subst (Spell some.logical) now.by now.shows.spelled;
        of_format = subst (λ (n : ExtentLayout). IsOfFormat n.format new.keeps) (ap extents_in (sym changes.goes_on.not_older.same_geometry))
            (subst (IsOfFormat (extents_for_store old).format) now.by now.shows.of_set.version);
        going = going;
      };
    }

-- ---- the records

none_ended : (refusal : Refusal) → Some refusal ≡ None → ⊥
none_ended refusal is = cc

same_refusal : (first second : Refusal) → Refused first ≡ Refused second → first ≡ second
same_refusal first second is = cc

done_differs : (refusal : Refusal) → Done ≡ Refused refusal → ⊥
done_differs refusal is = cc

-- an answer of a command's kind is no refusal
not_refused : (command : Command) (reply : Reply) (refusal : Refusal) → IsOfItsKind command reply → reply ≡ Refused refusal → ⊥
not_refused (Create name count) reply refusal kind is = done_differs refusal (sym kind ∙ is)
not_refused (Extend name growth) reply refusal kind is = done_differs refusal (sym kind ∙ is)
not_refused (Remove name) reply refusal kind is = done_differs refusal (sym kind ∙ is)
not_refused (Read name at count) reply refusal (blocks, kind, long) is = let both = sym kind ∙ is in cc
not_refused (Write name at blocks) reply refusal kind is = done_differs refusal (sym kind ∙ is)
not_refused (Rename old new) reply refusal kind is = done_differs refusal (sym kind ∙ is)
not_refused Upgrade reply refusal kind is = done_differs refusal (sym kind ∙ is)
not_refused Names reply refusal (listed, kind) is = let both = sym kind ∙ is in cc

kind_is_listed : (command : Command) (reply : Reply) → IsOfItsKind command reply → IsListed (OnVolumes command) reply
kind_is_listed command (Refused refusal) kind = absurd (not_refused command (Refused refusal) refusal kind refl)
kind_is_listed command reply kind = kind

-- the entries of a command are counted
end_more : (command : Command) (entries : ℕ) (old new : ArrayView) (refusal : Refusal)
    → entries ≤ most_blocks (extents_in old.table.geometry).blocks + 1
    → IsEndOf old new (IsNumberFull entries old new) refusal
    → IsEndOf old new (IsCounterFull (OnVolumes command) old new) refusal
end_more command entries old new TwoLost few end = end
end_more command entries old new Worn few (inl worn) = inl worn
end_more command entries old new Worn few (inr full) = inr (omega (arith, few, full.0), full.1)
end_more command entries old new refusal few end = absurd end

-- the store does not refuse the command, by the table that it keeps
abbrev IsAdmitted : Command → StoreView → Type 0
IsAdmitted command old = (sectors : List Block) (volumes : VolumeMap) → ShowsBy (extents_for_store old) old.keeps sectors volumes
    → None ≡ refusal_of (extents_for_store old) command volumes

-- so it leaves the changed volumes
left_then : (command : Command) (old : StoreView) (lost : Option Lost) (volumes : VolumeMap) → IsSettledOn old lost volumes → IsAdmitted command old
    → done command volumes ≡ volumes_after (extents_for_store old) command volumes
left_then command old lost volumes settled admitted =
    sym (changed_if_done (extents_for_store old) command volumes (sym (admitted settled.logical volumes (shown_by old lost volumes settled))))

-- A command that its store refuses at once leaves it as it is.
pub refused_at_once : (honest : Type 0) (command : Command) (store : StoreView) (refusal : Refusal) → store.ended ≡ None
    → Contains (refusals_of command) refusal → ¬ EndsIt refusal
    → ((sectors : List Block) (volumes : VolumeMap) → ShowsBy (extents_for_store store) store.keeps sectors volumes
    → Some refusal ≡ refusal_of (extents_for_store store) command volumes)
    → Applies honest (OnVolumes command) store store (Refused refusal)
refused_at_once honest command store refusal going among goes refuses = record {
  ended = λ other is. absurd (none_ended other (sym is ∙ going));
  going = λ is. record {
    goes_on = nothing.goes_on;
    generation = generation_same store.array.table store.array.table refl;
    incarnations = incarnations_same (OnVolumes command) store.array.table store.array.table refl;
    spared = λ slot of_set in_sync kept. inl in_sync;
    set_left = λ unended. set_is_left honest command store store (Refused refusal) ⊥ nothing.goes_on nothing.stays (λ e. e);
    ends = λ other is ends. absurd (goes (subst EndsIt (sym (same_refusal refusal other is)) ends));
    goes = λ unended. going;
    listed = inl among;
    scrubs = λ fair scrub. absurd scrub;
    moments = moments honest 0 IsSame IsSame store store (Ok tt) (volumes_after (extents_for_store store) command) nothing
        (λ V W volumes shown same. inl (subst (λ (l : List Block). Shows (extents_for_store store) l volumes) (sym same) shown.shows));
    answered = λ fair unended lost volumes settled. inl
        (ap (λ o. or_refused o (answer command volumes.volumes)) (refuses settled.logical volumes (shown_by store lost volumes settled)));
    settled = λ fair unended lost volumes settled. subst (IsSettledAfter lost store) (same volumes settled.logical (shown_by store lost volumes settled))
        (settled_then honest 0 IsSame IsSame store store (λ those. those) going nothing
        (λ V W those shown is. subst (λ (l : List Block). ShowsBy (extents_for_store store) store.keeps l those) (sym is) shown) fair lost volumes settled);
  };
}
  where
    nothing : ChangesList honest 0 IsSame IsSame store.array store.array (Ok tt)
    nothing = changes_none honest 0 IsSame IsSame store.array (λ V. refl) (λ V. refl)

    same : (volumes : VolumeMap) (V : List Block) → ShowsBy (extents_for_store store) store.keeps V volumes
        → volumes ≡ volumes_after (extents_for_store store) command volumes
    same volumes V shown = ap (λ o. unless_refused o (done command volumes) volumes) (refuses V volumes shown)

-- A command that is admitted, and whose calls were all answered, is done.
pub done_with_volumes : (honest : Type 0) (command : Command) (entries : ℕ) (passes leaves : Change) (old new : StoreView) (reply : Reply) → HasBlocks command
    → entries ≤ most_blocks (extents_for_store old).blocks + 1
    → old.ended ≡ None → new.ended ≡ None → (honest → IsTrueTo new.array.panel new.array.history)
    → ChangesList honest entries passes leaves old.array new.array (Ok tt) → IsOfItsKind command reply
    → ((sectors : List Block) (volumes : VolumeMap) → ShowsBy (extents_for_store old) old.keeps sectors volumes
    → None ≡ refusal_of (extents_for_store old) command volumes)
    → (honest → (lost : Option Lost) (V : List Block) (volumes : VolumeMap) → RestsOn old.array lost V → ShowsBy (extents_for_store old) old.keeps V volumes
    → reply ≡ answer command volumes.volumes)
    → ((V W : List Block) (volumes : VolumeMap) → ShowsBy (extents_for_store old) old.keeps V volumes → passes V W
    → Shows (extents_for_store old) W volumes ⊎ Shows (extents_for_store old) W (done command volumes))
    → ((V W : List Block) (volumes : VolumeMap) → ShowsBy (extents_for_store old) old.keeps V volumes → leaves V W
    → ShowsBy (extents_for_store old) new.keeps W (done command volumes))
    → Applies honest (OnVolumes command) old new reply
done_with_volumes honest command entries passes leaves old new reply whole few going goes true_to changes kind admitted replied on_the_way left = record {
  ended = λ other is. absurd (none_ended other (sym is ∙ going));
  going = λ is. record {
    goes_on = changes.goes_on;
    generation = generation_left old.array new.array changes.stays.table;
    incarnations = incarnations_left (OnVolumes command) old.array new.array changes.stays.table;
    spared = λ slot of_set in_sync kept. slot_spared old.array new.array slot (stays_or_fails old.array new.array changes.stays.table slot) in_sync;
    set_left = λ unended. set_is_left honest command old new reply ⊥ changes.goes_on changes.stays (λ e. e);
    ends = λ other is ends. absurd (not_refused command reply other kind is);
    goes = λ unended. goes;
    listed = kind_is_listed command reply kind;
    scrubs = λ fair scrub. absurd scrub;
    moments = λ fair lost volumes settled.
        subst (λ (after : VolumeMap). StandsThroughout old.array.table old.array.panel.devices lost (volumes ∷ after ∷ []) old.array.history new.array.history)
        (left_then command old lost volumes settled admitted)
        (moments honest entries passes leaves old new (Ok tt) (done command) changes on_the_way fair lost volumes settled);
    answered = λ fair unended lost volumes settled.
        let shown = shown_by old lost volumes settled in
        inl (replied fair lost settled.logical volumes settled.rests shown
        ∙ ap (λ o. or_refused o (answer command volumes.volumes)) (admitted settled.logical volumes shown));
    settled = λ fair unended lost volumes settled. subst (IsSettledAfter lost new) (left_then command old lost volumes settled admitted)
        (settled_then honest entries passes leaves old new (done command) goes changes left fair lost volumes settled);
  };
}

-- A command that is admitted, and whose calls ended with 15 or 16, ends the store.
pub ended_with_volumes : (honest : Type 0) (command : Command) (entries : ℕ) (passes leaves : Change) (old new : StoreView) (refusal : Refusal)
    → HasBlocks command → entries ≤ most_blocks (extents_for_store old).blocks + 1
    → old.ended ≡ None → new.ended ≡ Some refusal → (honest → IsTrueTo new.array.panel new.array.history)
    → ChangesList honest entries passes leaves old.array new.array (Err refusal)
    → ((sectors : List Block) (volumes : VolumeMap) → ShowsBy (extents_for_store old) old.keeps sectors volumes
    → None ≡ refusal_of (extents_for_store old) command volumes)
    → ((V W : List Block) (volumes : VolumeMap) → ShowsBy (extents_for_store old) old.keeps V volumes → passes V W
    → Shows (extents_for_store old) W volumes ⊎ Shows (extents_for_store old) W (done command volumes))
    → Applies honest (OnVolumes command) old new (Refused refusal)
ended_with_volumes honest command entries passes leaves old new refusal whole few going ended true_to changes admitted on_the_way = record {
  ended = λ other is. absurd (none_ended other (sym is ∙ going));
  going = λ is. record {
    goes_on = changes.goes_on;
    generation = generation_left old.array new.array changes.stays.table;
    incarnations = incarnations_left (OnVolumes command) old.array new.array changes.stays.table;
    spared = λ slot of_set in_sync kept. slot_spared old.array new.array slot (stays_or_fails old.array new.array changes.stays.table slot) in_sync;
    set_left = λ unended. absurd (unended it_ends);
    ends = λ other is ends. subst (λ (r : Refusal). (new.ended ≡ Some r)
        × IsEndOf old.array new.array (IsCounterFull (OnVolumes command) old.array new.array) r) (same_refusal refusal other is)
        (ended, end_more command entries old.array new.array refusal few (changes.cause refusal refl));
    goes = λ unended. absurd (unended it_ends);
    listed = inr it_ends;
    scrubs = λ fair scrub. absurd scrub;
    moments = λ fair lost volumes settled.
        subst (λ (after : VolumeMap). StandsThroughout old.array.table old.array.panel.devices lost (volumes ∷ after ∷ []) old.array.history new.array.history)
        (left_then command old lost volumes settled admitted)
        (moments honest entries passes leaves old new (Err refusal) (done command) changes on_the_way fair lost volumes settled);
    answered = λ fair unended. absurd (unended it_ends);
    settled = λ fair unended. absurd (unended it_ends);
  };
}
  where
    it_ends : EndsIt refusal
    it_ends = end_is honest entries passes leaves old.array new.array refusal changes
