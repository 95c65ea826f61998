-- Small cases that meet what opening a store promises, and what a list of volumes and a refused event of an open one promise.
use Rattle.extents.specs.SetExtents.{extents_in, IsOfSet}
use Rattle.std.proofs.Common.{◌≡◌, inl, inr, ℕ, zero, suc, ◌<◌, ◌||◌, nat_lt, Bool, true, false, cond, List, [], ◌∷◌, length, map, take, Option, Some}
use Rattle.std.proofs.Common.{None, refl, sym, ◌∙◌, ap, subst, arith}
use Rattle.std.specs.Prelude.{is_none}
use Rattle.std.proofs.lemmas.List.{get_or-take}
use Rattle.std.proofs.lemmas.List.Elements.{Contains-append_left, Contains-push}
use Rattle.sector_model.specs.declared.refusal.Refusal.{Refusal}
use Rattle.sector_model.specs.declared.refusal.Refusal.TheVariants.{BadTable, NoVolume}
use Rattle.sector_model.specs.History.{Bytes}
use Rattle.sector_model.specs.Moments.{here}
use Rattle.sector_model.specs.Readable.{readable}
use Rattle.sector_model.proofs.Panels.{later_same}
use Rattle.sector_model.proofs.Reading.{read_none}
use Rattle.superblock.specs.declared.state.State.{State}
use Rattle.superblock.specs.declared.state.State.TheVariants.{InSync, Missing, Rebuilding}
use Rattle.superblock.specs.declared.table.Table.{Table}
use Rattle.superblock.specs.Tables.{state_at}
use Rattle.superblock.specs.Cases.{IsLostAfter, Lost}
use Rattle.superblock.specs.Counted.{least_sectors}
use Rattle.superblock.specs.States.{has_rebuilding}
use Rattle.superblock.specs.NextTables.{IsComplete, IsOut, slots_of}
use Rattle.superblock.proofs.LaterTables.{not_older_same}
use Rattle.array_io.specs.Believed.Holds.{row_count}
use Rattle.array_io.specs.Believed.ReadWhole.{list_read}
use Rattle.array_io.specs.Believed.Settled.{IsLostSlot}
use Rattle.array_io.specs.Believed.Views.{ArrayView, DeviceFailed, GoesOn, RestsOn, StaysButForFailures}
use Rattle.array_io.proofs.Laws.Beginning.{lost_at_rest, state_in_sync}
use Rattle.array_io.proofs.Images.Codecs.{spellings}
use Rattle.extents.specs.declared.volume_table.VolumeTable.{VolumeTable}
use Rattle.extents.specs.TableLaw.{IsOfFormat}
use Rattle.extents.specs.TableSpelling.{Spell}
use Rattle.extents.proofs.TableLaws.{one_table}
use Rattle.recovery.specs.Making.{BankView}
use Rattle.scrub.specs.Scrubbing.{AreUnsound}
use Rattle.volume_table.specs.Volumes.{VolumeMap, blocks_of}
use Rattle.volume_table.specs.VolumeStep.{Command, Done, Names, OnVolumes, Refused, Remove, Reply, Volumes, done, has_no_volume, or_refused, reply_to}
use Rattle.volume_table.specs.VolumeStep.{unless_refused, volumes_after}
use Rattle.volume_table.specs.SetLaw.{IsZeroUnlessRebuilding}
use Rattle.volume_table.specs.SetReplies.{Devices}
use Rattle.volume_table.specs.StoreCalls.{Applies, EndsStore, GoesThrough, IsListed, SetIsLeft, extents_for_store, set_of}
use Rattle.volume_table.specs.Shows.{Shows}
use Rattle.volume_table.specs.ShowsLaw.{TablesHaveOneSpelling}
use Rattle.volume_table.specs.Stands.{IsSettledAfter, IsSettledOn, StandsNow, StoreView}
use Rattle.volume_table.specs.Opening.{IsNoOpening, Opened, Opens, Outcome, Returned, ShowsNothing, SpellsNoTable}
use Rattle.volume_table.proofs.Opened.{stands_at_rest}
use Rattle.volume_table.proofs.Scrubbed.{sound_row}
use Rattle.volume_table.proofs.SetLemmas.{volumes_leave_set}
use Rattle.volume_table.proofs.ShowsLemmas.{list_shows_one}

-- what is said of the store of an outcome, and of its refusal
abbrev OnOpened : (StoreView → Type 0) → Outcome → Type 0
OnOpened P (Opened store) = P store
OnOpened P (Returned bank refusal) = Unit {0}

abbrev OnReturned : (BankView → Refusal → Type 0) → Outcome → Type 0
OnReturned P (Opened store) = Unit {0}
OnReturned P (Returned bank refusal) = P bank refusal

opened_is : (P : StoreView → Type 0) (given store : StoreView) → Opened given ≡ Opened store → P given → P store
opened_is P given store is of_given = subst (OnOpened P) is of_given

returned_is : (P : BankView → Refusal → Type 0) (given bank : BankView) (cause refusal : Refusal) → Returned given cause ≡ Returned bank refusal → P given cause
    → P bank refusal
returned_is P given bank cause refusal is of_given = subst (OnReturned P) is of_given

not_opened : (A : Type 0) (bank : BankView) (refusal : Refusal) (store : StoreView) → Returned bank refusal ≡ Opened store → A
not_opened A bank refusal store is = absurd (subst (OnOpened (λ s. ⊥)) is tt)

not_returned : (A : Type 0) (store : StoreView) (bank : BankView) (refusal : Refusal) → Opened store ≡ Returned bank refusal → A
not_returned A store bank refusal is = absurd (subst (OnReturned (λ b r. ⊥)) is tt)

differ : false ≡ true → ⊥
differ is = cc

-- an array that stays as it is goes on, and no device failed
pub array_goes_on : (array : ArrayView) → GoesOn array array
array_goes_on array = record { later = later_same array.panel; not_older = not_older_same array.table; number = omega arith; its_slots = λ slots. slots }

none_failed : (array : ArrayView) (slot : ℕ) → DeviceFailed slot array.panel array.panel → ⊥
none_failed array slot failed = differ (sym failed.was_up ∙ failed.is_down)

array_stays : (honest : Type 0) (array : ArrayView) (ended : Type 0) → StaysButForFailures honest array array ended
array_stays honest array ended = record { table = inl refl; failure = λ is goes slot of_set failed. absurd (none_failed array slot failed) }

-- where an array is settled, the slot that is lost is the one that its table lacks
complete_where_none : (table : Table) → IsLostSlot table None → IsComplete table
complete_where_none table is = record {
  in_sync = λ slot of_set. elim (state_in_sync (state_at table.states slot)) [
    | inl in_sync ↦ in_sync
    | inr out ↦ absurd (differ (is.out slot record { of_set = of_set; out = out }).1)
  ];
}

out_where_some : (table : Table) (lost : Lost) → lost.slot < slots_of table → IsLostSlot table (Some lost) → IsOut table lost.slot
out_where_some table lost of_set is = elim (state_in_sync (state_at table.states lost.slot)) [
  | inl in_sync ↦ absurd (some_is_none (is.none record {
    in_sync = λ slot below. elim (state_in_sync (state_at table.states slot)) [
      | inl same ↦ same
      | inr out ↦ absurd (out (subst (λ (s : ℕ). state_at table.states s ≡ InSync) (is.out slot record { of_set = below; out = out }).0 in_sync))
    ];
  }))
  | inr out ↦ record { of_set = of_set; out = out }
]
  where
    some_is_none : Some lost ≡ None → ⊥
    some_is_none is = cc

lost_stays : (array : ArrayView) (lost : Option Lost) (V : List Bytes) → RestsOn array lost V → IsLostAfter lost array.table lost
lost_stays array None V rests = inl (complete_where_none array.table rests.lost_slot, refl)
lost_stays array (Some lost) V rests = inr (
  out_where_some array.table lost
      (lost_at_rest spellings array.panel.devices array.table array.number array.history (Some lost) V rests).0 rests.lost_slot,
  refl,
)

-- the store of an array that keeps this table
abbrev store_of : ArrayView → VolumeTable → StoreView
store_of array keeps = record { array = array; keeps = keeps; ended = None }

-- the bank of an array
abbrev bank_of : ArrayView → BankView
bank_of array = record { panel = array.panel; history = array.history }

rests_spelled : (array : ArrayView) (keeps : VolumeTable) → Spell (list_read array) keeps → (lost : Option Lost) (V : List Bytes) → RestsOn array lost V
    → Spell V keeps
rests_spelled array keeps spelled lost V rests = subst (λ (l : List Bytes). Spell l keeps) rests.listed spelled

stays_settled : (array : ArrayView) (keeps : VolumeTable) → Spell (list_read array) keeps
    → IsOfFormat (extents_in array.table.geometry).format keeps → (lost : Option Lost) (V : List Bytes) (volumes : VolumeMap)
    → RestsOn array lost V → Shows (extents_in array.table.geometry) V volumes → IsSettledAfter lost (store_of array keeps) volumes
stays_settled array keeps spelled of_format lost V volumes rests shown = record {
  lost = lost;
  is_lost = lost_stays array lost V rests;
  settled = record {
    logical = V;
    rests = rests;
    shown = shown;
    spelled = rests_spelled array keeps spelled lost V rests;
    of_format = of_format;
    going = refl;
  };
}

-- Opening an array whose list spells a table gives the array itself, with that table kept.
pub opens_at_rest : (honest : Type 0) (array : ArrayView) (keeps : VolumeTable) → Spell (list_read array) keeps
    → IsOfSet (extents_in array.table.geometry) keeps → Opens honest array (Opened (store_of array keeps))
opens_at_rest honest array keeps spelled of_set = record {
  later = later_same array.panel;
  going = λ store is. opened_is (λ s. s.ended ≡ None) (store_of array keeps) store is refl;
  goes_on = λ store is. opened_is (λ s. GoesOn array s.array) (store_of array keeps) store is (array_goes_on array);
  stays = λ store is. opened_is (λ s. StaysButForFailures honest array s.array ⊥) (store_of array keeps) store is (array_stays honest array ⊥);
  moments = λ fair lost V volumes rests shown. here (stands_at_rest array.panel.devices array.table array.number array.history lost V volumes rests shown);
  settled = λ fair lost V volumes rests shown store is.
      opened_is (λ s. IsSettledAfter lost s volumes) (store_of array keeps) store is
      (stays_settled array keeps spelled of_set.version lost V volumes rests shown);
  spelled = λ fair lost V rests store is.
      opened_is (λ s. Spell V s.keeps) (store_of array keeps) store is (rests_spelled array keeps spelled lost V rests);
  of_set = λ store is. opened_is (λ s. IsOfSet (extents_in array.table.geometry) s.keeps) (store_of array keeps) store is of_set;
  cause = λ bank refusal is. not_returned (IsNoOpening honest array bank refusal) (store_of array keeps) bank refusal is;
}

-- where it spells none, the bank comes back as it was, with a bad table
pub opens_none : (honest : Type 0) (array : ArrayView) → SpellsNoTable array → Opens honest array (Returned (bank_of array) BadTable)
opens_none honest array none = record {
  later = later_same array.panel;
  going = λ store is. not_opened (store.ended ≡ None) (bank_of array) BadTable store is;
  goes_on = λ store is. not_opened (GoesOn array store.array) (bank_of array) BadTable store is;
  stays = λ store is. not_opened (StaysButForFailures honest array store.array ⊥) (bank_of array) BadTable store is;
  moments = λ fair lost V volumes rests shown. here (stands_at_rest array.panel.devices array.table array.number array.history lost V volumes rests shown);
  settled = λ fair lost V volumes rests shown store is. not_opened (IsSettledAfter lost store volumes) (bank_of array) BadTable store is;
  spelled = λ fair lost V rests store is. not_opened (Spell V store.keeps) (bank_of array) BadTable store is;
  of_set = λ store is. not_opened (IsOfSet (extents_in array.table.geometry) store.keeps) (bank_of array) BadTable store is;
  cause = λ bank refusal is. returned_is (λ b r. IsNoOpening honest array b r) (bank_of array) bank BadTable refusal is
      (λ fair. shows_nothing, λ fair up. none);
}
  where
    shows_nothing : ShowsNothing array
    shows_nothing lost V volumes rests shown =
        none shown.table (subst (λ (l : List Bytes). Spell l shown.table) (sym rests.listed) shown.spelled) shown.of_set

-- ---- events that leave a store as it is

same_spelling : TablesHaveOneSpelling
same_spelling = one_table

-- a store is settled on one map of volumes at most
one_map : (store : StoreView) (lost other : Option Lost) (volumes those : VolumeMap) → IsSettledOn store lost volumes → IsSettledOn store other those
    → those ≡ volumes
one_map store lost other volumes those settled also =
    let same : also.logical ≡ settled.logical = sym also.rests.listed ∙ settled.rests.listed in
    list_shows_one same_spelling (extents_for_store store) settled.logical those volumes
    (subst (λ (V : List Bytes). Shows (extents_for_store store) V those) same also.shown) settled.shown

-- the devices of a call in which none failed
abbrev idle_devices : StoreView → List ℕ → Devices
idle_devices store unsound = record {
  faults = λ slot. false;
  unusable = λ slot. store.array.panel.down slot || nat_lt (store.array.panel.sectors slot) (least_sectors store.array.table.geometry slot);
  format = store.array.table.geometry.format;
  rows = row_count store.array.table;
  unsound = unsound;
}

is_rebuilt_there : (states : List State) (slot : ℕ) → state_at states slot ≡ Rebuilding → has_rebuilding states ≡ true
is_rebuilt_there [] slot is = let never : Missing ≡ Rebuilding = is in cc
is_rebuilt_there (Rebuilding ∷ states) slot is = refl
is_rebuilt_there (Missing ∷ states) zero is = let never : Missing ≡ Rebuilding = is in cc
is_rebuilt_there (Missing ∷ states) (suc slot) is = is_rebuilt_there states slot is
is_rebuilt_there (InSync ∷ states) zero is = let never : InSync ≡ Rebuilding = is in cc
is_rebuilt_there (InSync ∷ states) (suc slot) is = is_rebuilt_there states slot is

zero_position : (table : Table) → IsZeroUnlessRebuilding (set_of table)
zero_position table none = table.allowed.no_position (λ slot is. differ (sym none
    ∙ is_rebuilt_there (take (slots_of table) table.states) slot
    (get_or-take (slots_of table) table.states slot Missing (omega (arith, table.allowed.rebuilds_member slot is)) ∙ is)))

set_is_left : (honest : Type 0) (store : StoreView) (command : Command) (reply : Reply) (unsound : List ℕ)
    → AreUnsound store.array.table (readable store.array.history) unsound
    → SetIsLeft honest (OnVolumes command) store store reply
set_is_left honest store command reply unsound are = record {
  devices = idle_devices store unsound;
  are = record {
    failed = λ is_honest slot of_set failed. absurd (none_failed store.array slot failed);
    is_down = λ slot of_set fault. absurd (differ fault);
    unusable = λ slot of_set. refl;
    format = refl;
    rows = refl;
    unsound = λ fair. are;
  };
  left = sym (volumes_leave_set (idle_devices store unsound) command (set_of store.array.table) (λ slot below. refl) (zero_position store.array.table));
}

stands_with : (array : ArrayView) (lost : Option Lost) (V : List Bytes) (volumes other : VolumeMap) → RestsOn array lost V
    → Shows (extents_in array.table.geometry) V volumes
    → StandsNow array.table array.panel.devices lost (volumes ∷ other ∷ []) array.history
stands_with array lost V volumes other rests shown after image is may =
    let stands = stands_at_rest array.panel.devices array.table array.number array.history lost V volumes rests shown after image is may in
    record {
      lists = stands.lists;
      holds = stands.holds;
      shown = λ logical among.
          let one = stands.shown logical among in
          record { volumes = one.volumes; among = Contains-append_left (volumes ∷ []) (other ∷ []) one.volumes one.among; shown = one.shown };
    }

-- a command on volumes that leaves them, and is answered or refused as it has to be
record LeavesThem (store : StoreView) (command : Command) (reply : Reply) (volumes : VolumeMap) : Type 0 where
  pub goes : store.ended ≡ None
  pub leaves : volumes_after (extents_for_store store) command volumes ≡ volumes
  pub replied : reply ≡ reply_to (extents_for_store store) command volumes
  pub of_kind : IsListed (OnVolumes command) reply
  pub no_end : ¬ EndsStore reply

leaves_settled : (store : StoreView) (command : Command) (reply : Reply) (volumes : VolumeMap) (lost : Option Lost) → LeavesThem store command reply volumes
    → IsSettledOn store lost volumes
    → (other : Option Lost) (those : VolumeMap) → IsSettledOn store other those
    → IsSettledAfter other store (volumes_after (extents_for_store store) command those)
leaves_settled store command reply volumes lost stays settled other those also =
    let one = one_map store lost other volumes those settled also in
    let same : volumes_after (extents_for_store store) command those ≡ those = ap (volumes_after (extents_for_store store) command) one ∙ stays.leaves
    ∙ sym one in
    record {
      lost = other;
      is_lost = lost_stays store.array other also.logical also.rests;
      settled = subst (λ (v : VolumeMap). IsSettledOn store other v) (sym same) also;
    }

goes_through : (honest : Type 0) (store : StoreView) (command : Command) (reply : Reply) (volumes : VolumeMap) (lost : Option Lost) (unsound : List ℕ)
    → LeavesThem store command reply volumes → IsSettledOn store lost volumes → AreUnsound store.array.table (readable store.array.history) unsound
    → GoesThrough honest (OnVolumes command) store store reply
goes_through honest store command reply volumes lost unsound stays settled are = record {
  goes_on = array_goes_on store.array;
  generation = omega arith;
  incarnations = λ slot. inl refl;
  spared = λ slot of_set in_sync kept. inl in_sync;
  set_left = λ going. set_is_left honest store command reply unsound are;
  ends = λ refusal is e. absurd (stays.no_end (subst EndsStore (sym is) e));
  goes = λ going. stays.goes;
  listed = stays.of_kind;
  scrubs = λ fair is rows bad first_bad answered. read_none store.array.history;
  moments = λ fair other those also. here (stands_with store.array other also.logical those (volumes_after (extents_for_store store) command those) also.rests
      also.shown);
  answered = λ fair going other those also. inl (stays.replied
      ∙ ap (reply_to (extents_for_store store) command) (sym (one_map store lost other volumes those settled also)));
  settled = λ fair going other those also. leaves_settled store command reply volumes lost stays settled other those also;
}

applies : (honest : Type 0) (store : StoreView) (command : Command) (reply : Reply) (volumes : VolumeMap) (lost : Option Lost) (unsound : List ℕ)
    → LeavesThem store command reply volumes → IsSettledOn store lost volumes → AreUnsound store.array.table (readable store.array.history) unsound
    → Applies honest (OnVolumes command) store store reply
applies honest store command reply volumes lost unsound stays settled are = record {
  ended = λ refusal kept. absurd (none_ended refusal (sym kept ∙ stays.goes));
  going = λ going. goes_through honest store command reply volumes lost unsound stays settled are;
}
  where
    none_ended : (refusal : Refusal) → Some refusal ≡ None → ⊥
    none_ended refusal is = cc

-- a list of a settled store tells its volumes, and leaves the store as it is
pub list_at_rest : (honest : Type 0) (store : StoreView) (volumes : VolumeMap) (lost : Option Lost) (unsound : List ℕ) → IsSettledOn store lost volumes
    → AreUnsound store.array.table (readable store.array.history) unsound
    → Applies honest (OnVolumes Names) store store (Volumes (map (λ volume. (volume.name, length volume.blocks)) volumes.volumes))
list_at_rest honest store volumes lost unsound settled are =
    applies honest store Names (Volumes (map (λ volume. (volume.name, length volume.blocks)) volumes.volumes)) volumes lost unsound
    record {
      goes = settled.going;
      leaves = refl;
      replied = refl;
      of_kind =
          (map (λ volume. (volume.name, length volume.blocks)) volumes.volumes, refl);
      no_end = λ e. e;
    } settled are

-- a volume that is not there is not removed, and the store stays as it is
pub remove_of_none : (honest : Type 0) (store : StoreView) (name : List ℕ) (volumes : VolumeMap) (lost : Option Lost) (unsound : List ℕ)
    → IsSettledOn store lost volumes
    → AreUnsound store.array.table (readable store.array.history) unsound → blocks_of name volumes.volumes ≡ None
    → Applies honest (OnVolumes (Remove name)) store store (Refused NoVolume)
remove_of_none honest store name volumes lost unsound settled are none =
    let absent : has_no_volume name volumes.volumes ≡ true = ap is_none none in
    applies honest store (Remove name) (Refused NoVolume) volumes lost unsound
    record {
      goes = settled.going;
      leaves = ap (λ (b : Bool). unless_refused (cond b (Some NoVolume) None) (done (Remove name) volumes) volumes) absent;
      replied = sym (ap (λ (b : Bool). or_refused (cond b (Some NoVolume) None) Done) absent);
      of_kind = inl (Contains-push [] NoVolume);
      no_end = λ e. e;
    } settled are

-- where the set is complete and settled, no row is unsound
pub no_row_unsound : (store : StoreView) (volumes : VolumeMap) (lost : Option Lost) → IsSettledOn store lost volumes → IsComplete store.array.table
    → AreUnsound store.array.table (readable store.array.history) []
no_row_unsound store volumes lost settled complete = record {
  rising = λ k below. absurd (omega (arith, below));
  unsound = λ row among. absurd (omega (arith, among.1));
  all = λ row below. inr (sound_row store.array.table (readable store.array.history) complete settled.rests.sound row below);
}
