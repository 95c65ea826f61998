-- What a crash may leave of a set at rest is what reads give, but for slots that the table calls missing; and it is held by the table that is chosen.
use Rattle.std.proofs.Common.{◌≡◌, ◌≢◌, inl, inr, ℕ, ◌+◌, ◌<◌, ◌≤◌, Bool, true, false, List, [], length, Option, Some, None, refl, sym, ◌∙◌, ap, subst, arith}
use Rattle.std.proofs.lemmas.List.{ext_get_or}
use Rattle.sector_model.specs.History.{Bytes, History, IsSector, MayHold, MayLeave, SlotMayHold, Slots, disk_of, is_down, sector_of, seen, start_of}
use Rattle.sector_model.specs.MemoryLaw.{length-seen}
use Rattle.sector_model.specs.Readable.{NothingPending, readable}
use Rattle.sector_model.proofs.Readable.{readable_down, readable_up}
use Rattle.sector_model.proofs.Steps.{is_there, up_seen}
use Rattle.layout_map.specs.declared.geometry.Geometry.{Geometry}
use Rattle.superblock.specs.declared.state.State.TheVariants.{Missing}
use Rattle.superblock.specs.declared.table.Table.{Table}
use Rattle.superblock.specs.declared.table.Superblock.{Superblock}
use Rattle.superblock.specs.Tables.{state_at}
use Rattle.superblock.specs.Cases.{HasWholeSectors, Lost, MayBeOut, MayStand, with_slot}
use Rattle.superblock.specs.Counted.{Content, Counts, IsChosen, IsLive}
use Rattle.superblock.specs.Losses.{IsLostAt, OthersAreUp}
use Rattle.superblock.specs.NextTables.{slots_of}
use Rattle.stripe_journal.specs.LastEntry.{IsLastSealed, sector_in}
use Rattle.array_io.specs.Laws.Core.{IsKnown}
use Rattle.array_io.specs.Steps.EntryAtRest.{HasEntryAtRest}
use Rattle.array_io.specs.Believed.Holds.{Holds, HoldsIn, IsLiveJournal}
use Rattle.array_io.specs.Believed.Settled.{IsAllThere}
use Rattle.array_io.proofs.Rest.AtRestRows.{IsRestImage, image_values}
use Rattle.array_io.proofs.Laws.Beginning.{live_is_up}
use Rattle.array_io.proofs.Laws.Begun.{between}
use Rattle.array_io.proofs.Images.Beyond.{carrier_of_set}
use Rattle.array_io.proofs.Images.Counting.{none_counts}
use Rattle.array_io.proofs.Images.LossBefore.{HoldsBy, by_own_table}
use Rattle.array_io.proofs.Images.Put.{put_elsewhere, put_there}
use Rattle.array_io.proofs.Images.Spellings.{Spellings}

-- each sector that a crash may leave has 512 bytes
pub record LeavesSectors (h : History) : Type 0 where
  pub whole : (device at : ℕ) (value : Bytes) → at < length (disk_of (start_of h device)) → MayHold h device at value → IsSector value

pub slot_whole : (h : History) (slot a : ℕ) (content : Content) → LeavesSectors h → SlotMayHold h slot content → a < length (disk_of content)
    → IsSector (sector_of (disk_of content) a)
slot_whole h slot a None leaves may below = absurd (omega (arith, below))
slot_whole h slot a (Some disk) leaves may below = leaves.whole slot a (sector_of disk a) (omega (arith, below, may.1)) (may.2 a)

pub whole_left : (h : History) (image : Slots) → LeavesSectors h → MayLeave h image → HasWholeSectors image
whole_left h image leaves may slot a below = slot_whole h slot a (image slot) leaves (may slot) below

-- with nothing pending, a device that is up is left with what reads give
slot_seen : (h : History) (slot : ℕ) (disk : List Bytes) → NothingPending h → is_down h slot ≡ false → SlotMayHold h slot (Some disk) → disk ≡ seen h slot
slot_seen h slot disk nothing up may = ext_get_or [] disk (seen h slot) (may.1 ∙ sym (length-seen h slot))
    (λ a below. nothing slot a (sector_of disk a) (sector_of (seen h slot) a) up (may.2 a) (up_seen h slot a up))

-- what may be left in its slot is what reads give
pub content_left : (h : History) (slot : ℕ) (content : Content) → NothingPending h → SlotMayHold h slot content → is_down h slot ≡ false
    → content ≡ readable h slot
content_left h slot None nothing may up = absurd (flags_differ (sym may ∙ up))
  where
    flags_differ : true ≡ false → ⊥
    flags_differ e = cc
content_left h slot (Some disk) nothing may up = ap (λ (l : List Bytes). Some l) (slot_seen h slot disk nothing up may) ∙ sym (readable_up h slot up)

pub same_left : (h : History) (image : Slots) (slot : ℕ) → NothingPending h → MayLeave h image → is_down h slot ≡ false → image slot ≡ readable h slot
same_left h image slot nothing may up =
    let there = is_there h slot image up may in
    there.1 ∙ ap (λ (l : List Bytes). Some l) (slot_seen h slot there.0 nothing up (subst (SlotMayHold h slot) there.1 (may slot)))
    ∙ sym (readable_up h slot up)

-- a device on which a superblock counts is up
counted_is_up : Spellings → (id : List ℕ) (devices slot place : ℕ) (superblock : Superblock) (h : History)
    → Counts id devices slot (readable h slot) place superblock
    → is_down h slot ≡ false
counted_is_up spellings id devices slot place superblock h counts = by_state (is_down h slot) refl
  where
    by_state : (b : Bool) → is_down h slot ≡ b → is_down h slot ≡ false
    by_state true is = absurd (none_counts spellings id devices slot place superblock
        (subst (λ (c : Content). Counts id devices slot c place superblock) (readable_down h slot is) counts))
    by_state false is = is

-- what is known of a run at rest
pub record IsQuiet (devices : ℕ) (table : Table) (number : ℕ) (h : History) : Type 0 where
  pub nothing_pending : NothingPending h
  pub there : IsAllThere devices table h
  pub entry : HasEntryAtRest devices table number (readable h)
  pub sectors : LeavesSectors h

-- an image with what reads give in each slot that the table doesn't call missing has their last entry
entry_stays : (devices : ℕ) (table : Table) (number : ℕ) (reads image : Slots)
    → ((slot : ℕ) → slot < slots_of table → state_at table.states slot ≢ Missing → image slot ≡ reads slot)
    → HasEntryAtRest devices table number reads → HasEntryAtRest devices table number image
entry_stays devices table number reads image same entry = record {
  last = entry.last;
  numbered = entry.numbered;
  sealed = λ journal live. subst (λ (c : Content). IsLastSealed table.id table.geometry c entry.last) (sym (here journal live))
      (entry.sealed journal (before journal live));
  bodies = λ journal seal live is row member sector below within has.
      entry.bodies journal seal (before journal live) is row member sector below within
      (subst (λ (c : Content). sector_in table.geometry.members c seal row member ≡ Some sector) (here journal live) has)
      ∙ sym (image_values table reads image same row member within);
}
  where
    here : (journal : ℕ) → IsLiveJournal devices table image journal → image journal ≡ reads journal
    here journal live = same journal live.of_set live.live.not_missing

    before : (journal : ℕ) → IsLiveJournal devices table image journal → IsLiveJournal devices table reads journal
    before journal live = record {
      beyond_members = live.beyond_members;
      of_set = live.of_set;
      live = subst (IsLive devices table journal) (here journal live) live.live;
    }

-- each image that a crash may leave of it
pub rest_image : Spellings → (devices : ℕ) (table : Table) (number : ℕ) (h : History) → IsQuiet devices table number h → (image : Slots) → MayLeave h image
    → IsRestImage devices table number (readable h) image
rest_image spellings devices table number h quiet image may = record {
  live = λ slot of_set there. subst (IsLive devices table slot) (sym (same slot of_set there)) (quiet.there slot of_set there);
  same = same;
  entry = entry_stays devices table number (readable h) image same quiet.entry;
  whole = whole_left h image quiet.sectors may;
}
  where
    same : (slot : ℕ) → slot < slots_of table → state_at table.states slot ≢ Missing → image slot ≡ readable h slot
    same slot of_set there = same_left h image slot quiet.nothing_pending may (live_is_up spellings devices table h slot (quiet.there slot of_set there))

-- a case that holds by this table, from its image and what is lost
abbrev pub Held : (base : Table) (devices : ℕ) (table : Table) (X : List (List Bytes)) (image : Slots) (lost : Option Lost) → Type 0
Held base devices table X image lost = HoldsBy base devices table X record { image = image; lost = lost }

pub held_by : (base : Table) (devices : ℕ) (image : Slots) (lost : Option Lost) (X : List (List Bytes))
    (holds : Holds base devices record { image = image; lost = lost } X)
    → Held base devices holds.table X image lost
held_by base devices image lost X holds = by_own_table base devices X record { image = image; lost = lost } holds

-- a slot that may be out at a moment, where the devices of all other slots of the set are up
record OnlyOut (slots : ℕ) (h : History) (lost : Option Lost) : Type 0 where
  out : ℕ
  may_be_out : MayBeOut lost out
  others : OthersAreUp slots h out

only_out : (slots : ℕ) (h : History) (before after : Option Lost) → IsLostAt slots before h after → OnlyOut slots h after
only_out slots h None after (inl (none, up)) = record {
  out = 0;
  may_be_out = subst (λ (l : Option Lost). MayBeOut l 0) (sym none) tt;
  others = λ other of_set apart. up other of_set;
}
only_out slots h None after (inr failure) = record {
  out = failure.slot;
  may_be_out = subst (λ (l : Option Lost). MayBeOut l failure.slot) (sym failure.lost) refl;
  others = failure.others;
}
only_out slots h (Some lost) after (of_set, same, up) = record {
  out = lost.slot;
  may_be_out = subst (λ (l : Option Lost). MayBeOut l lost.slot) (sym same) refl;
  others = up;
}

-- what is known where an image may be held by another table than the one that reads choose
record Choices (base : Table) (devices : ℕ) (table other : Table) (X : List (List Bytes)) (h : History) (image : Slots) (lost : Option Lost) : Type 0 where
  nothing_pending : NothingPending h
  chosen : IsChosen base.id devices (readable h) table
  left : MayLeave h image
  held : Held base devices other X image lost
  only : OnlyOut (slots_of base) h lost

-- the table that holds the image stands on a device that is up
other_is_older : Spellings → (base : Table) (devices : ℕ) (table other : Table) (X : List (List Bytes)) (h : History) (image : Slots) (lost : Option Lost)
    → Choices base devices table other X h image lost → other.generation ≤ table.generation
other_is_older spellings base devices table other X h image lost has =
    subst (λ (t : Table). t.generation ≤ table.generation) chosen.carried
    (has.chosen.greatest chosen.slot chosen.place chosen.best
    (subst (λ (i : List ℕ). Counts i devices chosen.slot (readable h chosen.slot) chosen.place chosen.best) has.held.not_older.same_id
    (subst (λ (c : Content). Counts other.id devices chosen.slot c chosen.place chosen.best)
    (put_elsewhere image has.only.out None chosen.slot apart ∙ same_left h image chosen.slot has.nothing_pending has.left up) chosen.counted)))
  where
    chosen : IsChosen other.id devices (with_slot image has.only.out None) other
    chosen = (has.held.weakened has.only.out None has.only.may_be_out (inl refl)).chosen

    apart : chosen.slot ≢ has.only.out
    apart is = none_counts spellings other.id devices has.only.out chosen.place chosen.best
        (subst (λ (c : Content). Counts other.id devices has.only.out c chosen.place chosen.best) (put_there image has.only.out None)
        (subst (λ (k : ℕ). Counts other.id devices k (with_slot image has.only.out None k) chosen.place chosen.best) is chosen.counted))

    of_set : chosen.slot < slots_of base
    of_set = subst (λ (g : Geometry). chosen.slot < g.members + 2) has.held.not_older.same_geometry
        (carrier_of_set devices other chosen.slot chosen.place (with_slot image has.only.out None chosen.slot) chosen.best chosen.carried chosen.counted)

    up : is_down h chosen.slot ≡ false
    up = has.only.others chosen.slot of_set apart

-- so it is the one that reads choose
one_table : Spellings → (base : Table) (devices : ℕ) (table other : Table) (X : List (List Bytes)) (h : History) (image : Slots) (lost : Option Lost)
    → Choices base devices table other X h image lost → other ≡ table
one_table spellings base devices table other X h image lost has =
    sym (has.held.whole.one_content mine.slot mine.place mine.best counts (between mine.best.table.generation other.generation newest older)) ∙ mine.carried
  where
    mine : IsChosen base.id devices (readable h) table
    mine = has.chosen

    up : is_down h mine.slot ≡ false
    up = counted_is_up spellings base.id devices mine.slot mine.place mine.best h mine.counted

    counts : Counts other.id devices mine.slot (image mine.slot) mine.place mine.best
    counts = subst (λ (i : List ℕ). Counts i devices mine.slot (image mine.slot) mine.place mine.best) (sym has.held.not_older.same_id)
        (subst (λ (c : Content). Counts base.id devices mine.slot c mine.place mine.best) (sym (same_left h image mine.slot has.nothing_pending has.left up))
        mine.counted)

    newest : mine.best.table.generation ≤ other.generation
    newest = has.held.whole.chosen.greatest mine.slot mine.place mine.best counts

    older : other.generation ≤ mine.best.table.generation
    older = subst (λ (t : Table). other.generation ≤ t.generation) (sym mine.carried) (other_is_older spellings base devices table other X h image lost has)

-- what is known where each case that a crash may leave holds
pub record HoldsLeft (base : Table) (devices : ℕ) (table : Table) (X : List (List Bytes)) (h : History) (before after : Option Lost) : Type 0 where
  pub nothing_pending : NothingPending h
  pub chosen : IsChosen base.id devices (readable h) table
  pub lost : IsLostAt (slots_of base) before h after
  pub holds : (image : Slots) → MayLeave h image → Holds base devices record { image = image; lost = after } X

-- each such case holds by the table that reads choose
pub held_left : Spellings → (base : Table) (devices : ℕ) (table : Table) (X : List (List Bytes)) (h : History) (before after : Option Lost)
    → HoldsLeft base devices table X h before after → (image : Slots) → MayLeave h image → Held base devices table X image after
held_left spellings base devices table X h before after left image may =
    let held = held_by base devices image after X (left.holds image may) in
    let other = (left.holds image may).table in
    subst (λ (t : Table). Held base devices t X image after)
    (one_table spellings base devices table other X h image after record {
      nothing_pending = left.nothing_pending;
      chosen = left.chosen;
      left = may;
      held = held;
      only = only_out (slots_of base) h before after left.lost;
    }) held

-- what an image that holds has in a slot is known to its table
pub known_in : (devices : ℕ) (table : Table) (X : List (List Bytes)) (image : Slots) → HoldsIn devices table X image → (slot : ℕ)
    → IsKnown devices table slot (image slot)
known_in devices table X image holds slot = record {
  no_newer = holds.chosen.greatest slot;
  as_new = holds.one_content slot;
  no_higher = holds.none_higher slot;
}

-- the same of a device that is away
pub known_away : (base : Table) (devices : ℕ) (table : Table) (X : List (List Bytes)) (image : Slots) (lost : Option Lost)
    → Held base devices table X image lost
    → (slot : ℕ) (disk : List Bytes) → MayBeOut lost slot → MayStand devices table lost slot (Some disk) → IsKnown devices table slot (Some disk)
known_away base devices table X image lost held slot disk may stands = subst (IsKnown devices table slot) (put_there image slot (Some disk))
    (known_in devices table X (with_slot image slot (Some disk)) (held.weakened slot (Some disk) may stands) slot)
