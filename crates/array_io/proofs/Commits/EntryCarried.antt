-- The last entry of a set goes on saying what the members hold while nothing is written after the superblocks: over reads, and when a slot is marked missing.
use Rattle.std.proofs.Common.{◌≡◌, ◌≢◌, inl, inr, ℕ, ◌+◌, ◌<◌, ◌≤◌, ◌==◌, Bool, true, false, IsTrue, List, Option, Some, None, refl, sym, ◌∙◌, ap, subst}
use Rattle.std.proofs.Common.{subst₂, arith}
use Rattle.std.proofs.lemmas.Bool.{or_right}
use Rattle.sector_model.specs.declared.event.Event.TheVariants.{Quiet, Wrote, Lost as LostWrite, Flushed, DeviceFailed}
use Rattle.sector_model.specs.History.{After, Began, Bytes, History, Slots, disk_of, is_down, sector_of, seen}
use Rattle.sector_model.specs.Moments.{Contents, Throughout, here, then_also}
use Rattle.sector_model.specs.Readable.{readable}
use Rattle.sector_model.specs.Reads.{HasRead, OnlyRead}
use Rattle.sector_model.proofs.Readable.{readable_left, readable_up}
use Rattle.sector_model.proofs.Reading.{throughout_read}
use Rattle.sector_model.proofs.Steps.{throughout_last}
use Rattle.layout_map.specs.declared.geometry.Geometry.{Geometry}
use Rattle.layout_map.specs.Placement.{rows_of}
use Rattle.layout_map.specs.declared.sizes.TheConstants.{FIRST_ROW, FIRST_SEAL, SUPERBLOCK_PLACES}
use Rattle.superblock.specs.declared.state.State.{State}
use Rattle.superblock.specs.declared.state.State.TheVariants.{InSync, Missing}
use Rattle.superblock.specs.declared.table.Table.{Table}
use Rattle.superblock.specs.Tables.{state_at}
use Rattle.superblock.specs.Cases.{HasWholeSectors, Lost}
use Rattle.superblock.specs.Counted.{Content}
use Rattle.superblock.specs.Losses.{IsSingleFailure}
use Rattle.superblock.specs.NextTables.{IsMarked, slots_of}
use Rattle.stripe_journal.specs.LastEntry.{IsLastSealed, sector_in}
use Rattle.degraded.proofs.Values.{value-own}
use Rattle.array_io.specs.Steps.Bringing.{CountsOn}
use Rattle.array_io.specs.Steps.EntryAtRest.{HasEntryAtRest}
use Rattle.array_io.specs.Believed.Holds.{HoldsIn, IsLiveJournal, row_count}
use Rattle.array_io.specs.Believed.Settled.{IsAllThere, rows_by, trusts}
use Rattle.array_io.specs.Steps.Writing.{IsWriting, WritesFrom}
use Rattle.array_io.proofs.Writes.Written.{KeepsRows}
use Rattle.array_io.proofs.Rest.AtRestRows.{trusts_tells}
use Rattle.array_io.proofs.Laws.Beginning.{live_is_up}
use Rattle.array_io.proofs.Images.EntryByRows.{HaveOwnSectors, entry_at_rest_in_case}
use Rattle.array_io.proofs.Rest.LastAtRest.{HasOneLast}
use Rattle.array_io.proofs.Images.LossBefore.{by_table}
use Rattle.array_io.proofs.Marks.MarkingHolds.{missing_then, state_stays}
use Rattle.array_io.proofs.Images.SameBeyond.{AgreeBeyond, sealed_beyond, sector_beyond}
use Rattle.array_io.proofs.Images.SayingTheSame.{SayTheSame, says_the_same, steps_the_same}
use Rattle.array_io.proofs.Images.Spellings.{Spellings}
use Rattle.array_io.proofs.Writes.Writing.{writing_none}
use Rattle.array_io.proofs.Writes.WritingImages.{written_alive}

-- A table of the same set that counts on no more than an earlier one: on no further slot, and of a member on no further row.
pub record CountsOnNoMore (old_table new_table : Table) : Type 0 where
  pub same_id : new_table.id ≡ old_table.id
  pub same_geometry : new_table.geometry ≡ old_table.geometry
  pub counts : (slot : ℕ) → CountsOn new_table slot → CountsOn old_table slot
  pub trusts_it : (row member : ℕ) → member < new_table.geometry.members → IsTrue (trusts (state_at new_table.states member) row new_table.position)
      → IsTrue (trusts (state_at old_table.states member) row old_table.position)

-- a table counts on no more than it does
pub counts_on_the_same : (table : Table) → CountsOnNoMore table table
counts_on_the_same table = record { same_id = refl; same_geometry = refl; counts = λ slot counted. counted; trusts_it = λ row member within is. is }

-- reads give the same after the superblocks of each slot that the table counts on
pub record ReadsTheSame (table : Table) (old new : History) : Type 0 where
  pub beyond : (slot at : ℕ) → CountsOn table slot → SUPERBLOCK_PLACES ≤ at → sector_of (seen new slot) at ≡ sector_of (seen old slot) at

module _ (spellings : Spellings) (devices : ℕ) (old_table new_table : Table) (number : ℕ) (old new : History)
    (entry : HasEntryAtRest devices old_table number (readable old))
    (was_there : IsAllThere devices old_table old) (goes : CountsOnNoMore old_table new_table) (is_there : IsAllThere devices new_table new)
    (reads : ReadsTheSame new_table old new) where
  -- after the superblocks of a slot that counts stands what stood there
  agree : (slot : ℕ) → CountsOn new_table slot → AgreeBeyond (readable old slot) (readable new slot)
  agree slot counted = record {
    same = λ at beyond.
        let was = goes.counts slot counted in
        let was_up = live_is_up spellings devices old_table old slot (was_there slot was.of_set was.there) in
        let is_up = live_is_up spellings devices new_table new slot (is_there slot counted.of_set counted.there) in
        ap (λ (c : Content). sector_of (disk_of c) at) (readable_up old slot was_up)
        ∙ sym (reads.beyond slot at counted beyond)
        ∙ sym (ap (λ (c : Content). sector_of (disk_of c) at) (readable_up new slot is_up));
  }

  members_are : new_table.geometry.members ≡ old_table.geometry.members
  members_are = ap (λ (g : Geometry). g.members) goes.same_geometry

  rows_are : row_count new_table ≡ row_count old_table
  rows_are = ap (λ (g : Geometry). rows_of g.chunk g.stripes) goes.same_geometry

  journal_counts : (journal : ℕ) → IsLiveJournal devices new_table (readable new) journal → CountsOn new_table journal
  journal_counts journal live = record { of_set = live.of_set; there = live.live.not_missing }

  -- a live journal was live
  was_journal : (journal : ℕ) → IsLiveJournal devices new_table (readable new) journal → IsLiveJournal devices old_table (readable old) journal
  was_journal journal live =
      let was = goes.counts journal (journal_counts journal live) in
      record {
        beyond_members = subst (λ (n : ℕ). n ≤ journal) members_are live.beyond_members;
        of_set = was.of_set;
        live = was_there journal was.of_set was.there;
      }

  -- its last seal is the same
  sealed_now : (journal : ℕ) → IsLiveJournal devices new_table (readable new) journal
      → IsLastSealed new_table.id new_table.geometry (readable new journal) entry.last
  sealed_now journal live =
      subst₂ (λ (id : List ℕ) (g : Geometry). IsLastSealed id g (readable new journal) entry.last) (sym goes.same_id) (sym goes.same_geometry)
      (sealed_beyond old_table.id old_table.geometry (readable old journal) (readable new journal) (agree journal (journal_counts journal live)) entry.last
      (entry.sealed journal (was_journal journal live)))

  one_last : HasOneLast devices new_table (readable new)
  one_last = record { last = entry.last; sealed = sealed_now; there = is_there }

  -- a member that the table trusts in a row is one that it counts on
  member_counts : (row member : ℕ) → member < new_table.geometry.members → IsTrue (trusts (state_at new_table.states member) row new_table.position)
      → CountsOn new_table member
  member_counts row member within trusted = record {
    of_set = omega (arith, within);
    there = ((trusts_tells (state_at new_table.states member) row new_table.position).0 trusted).there;
  }

  -- the bodies have the own sectors of members that are trusted
  owns_now : HaveOwnSectors devices new_table (readable new) entry.last
  owns_now journal seal live is row member sector below within trusted stands =
      entry.bodies journal seal (was_journal journal live) is row member sector (subst (λ (n : ℕ). row < n) rows_are below)
      (subst (λ (n : ℕ). member < n) members_are within) stood
      ∙ value-own (rows_by old_table (readable old)) row member refl (goes.trusts_it row member within trusted)
      ∙ (agree member (member_counts row member within trusted)).same (FIRST_ROW + row) (omega arith)
    where
      stood : sector_in old_table.geometry.members (readable old journal) seal row member ≡ Some sector
      stood =
          sector_beyond old_table.geometry.members (readable old journal) (readable new journal) (agree journal (journal_counts journal live)) seal row member
          ∙ subst (λ (n : ℕ). sector_in n (readable new journal) seal row member ≡ Some sector) members_are stands

  -- so in a case that holds the entry says what the members hold
  carried_in_case : (X : List (List Bytes)) → HoldsIn devices new_table X (readable new) → HasWholeSectors (readable new)
      → HasEntryAtRest devices new_table number (readable new)
  unfolding one_last
  carried_in_case X holds whole = entry_at_rest_in_case spellings devices new_table X (readable new) holds one_last number whole entry.numbered owns_now

-- What the last entry says stays.
pub entry_carried : Spellings → (devices : ℕ) (base old_table new_table : Table) (lost : Option Lost) (X : List (List Bytes)) (number : ℕ) (old new : History)
    → HasEntryAtRest devices old_table number (readable old) → IsAllThere devices old_table old → CountsOnNoMore old_table new_table
    → WritesFrom devices base new_table lost X new → IsSingleFailure (slots_of base) lost new → ReadsTheSame new_table old new → HasWholeSectors (readable new)
    → HasEntryAtRest devices new_table number (readable new)
entry_carried spellings devices base old_table new_table lost X number old new entry there goes from single_failure reads whole =
    let by = by_table base devices new_table X (record { image = readable new; lost = single_failure.0 }) from.same_id
    (from.holds single_failure.0 (readable new) single_failure.1 (readable_left new))
    ((from.chosen single_failure.0 single_failure.1).whole (readable new) (readable_left new)) in
    carried_in_case spellings devices old_table new_table number old new entry there goes from.there reads X by.whole whole

-- A table in which a slot is marked missing, all others being in sync, counts on no more.
pub marked_goes_on : (old_table new_table : Table) (slot : ℕ) → IsMarked old_table slot new_table → slot < slots_of old_table
    → ((other : ℕ) → other < slots_of old_table → other ≢ slot → state_at old_table.states other ≡ InSync) → CountsOnNoMore old_table new_table
marked_goes_on old_table new_table slot marked of_set others = record {
  same_id = marked.same_id;
  same_geometry = marked.same_geometry;
  counts = λ other counted. record {
    of_set = of_old other counted.of_set;
    there = λ missing. counted.there (state_stays old_table new_table slot marked other (apart other counted.there) ∙ missing);
  };
  trusts_it = λ row member within trusted.
      let there = ((trusts_tells (state_at new_table.states member) row new_table.position).0 trusted).there in
      ap (λ (s : State). trusts s row old_table.position) (others member (of_old member (omega (arith, within))) (apart member there));
}
  where
    of_old : (other : ℕ) → other < slots_of new_table → other < slots_of old_table
    of_old other within = subst (λ (g : Geometry). other < g.members + 2) marked.same_geometry within

    apart : (other : ℕ) → state_at new_table.states other ≢ Missing → other ≢ slot
    apart other there same = there (ap (λ (k : ℕ). state_at new_table.states k) same ∙ missing_then old_table new_table slot marked of_set)

-- a settled array whose slot is marked missing

none_differ : Missing ≡ InSync → ⊥
none_differ is = cc

flags_differ : true ≡ false → ⊥
flags_differ is = cc

none_lost : (one : Lost) → Some one ≡ None → ⊥
none_lost one is = cc

-- nothing may be put
abbrev pub Nothing : Contents
Nothing = λ device at value. ⊥

-- where nothing is put, each image keeps its rows
pub nothing_keeps : (devices : ℕ) (table : Table) (reads : Slots) (X : List (List Bytes)) → KeepsRows devices table Nothing reads X X
nothing_keeps devices table reads X whole before image from = (
  says_the_same devices table image before says X record { sound = from.holds.sound; listed = from.holds.listed },
  steps_the_same devices table image before says from.holds.in_step,
)
  where
    same : (slot at : ℕ) → sector_of (disk_of (image slot)) at ≡ sector_of (disk_of (before slot)) at
    same slot at = elim ((from.put slot).each at) [
      | inl is ↦ is
      | inr put ↦ absurd put.1
    ]

    says : SayTheSame devices table image before
    says = record {
      alive = written_alive devices table Nothing before image from.put;
      seals = λ journal place below live. same journal (FIRST_SEAL + place);
      bodies = λ journal seal live is row member place below found. same journal place;
      owns = λ last is row member below within none trusted. same member (FIRST_ROW + row);
    }

-- what was down stays down while devices are read
down_stays : (old new : History) → HasRead old new → (device : ℕ) → is_down old device ≡ true → is_down new device ≡ true
down_stays old new read = throughout_last new (throughout_read (λ (h : History). (device : ℕ) → is_down old device ≡ true → is_down h device ≡ true)
    (λ h before. before) (λ h failure before device down. or_right (device == failure) (is_down h device) (before device down)) read (λ device down. down))

-- no device has gone down but of slots that the table counts on
abbrev pub OthersStay : Table → (old new : History) → Type 0
OthersStay table old new = (device : ℕ) → ¬ CountsOn table device → is_down new device ≡ is_down old device

-- so it was before the last failure
stay_before : (table : Table) (old h : History) (failure : ℕ) → HasRead old h → OthersStay table old (After (DeviceFailed failure) h) → OthersStay table old h
stay_before table old h failure read stay device not = by_now (is_down h device) refl
  where
    by_old : (b : Bool) → is_down old device ≡ b → is_down h device ≡ false → is_down h device ≡ is_down old device
    by_old true was is = absurd (flags_differ (sym (down_stays old h read device was) ∙ is))
    by_old false was is = is ∙ sym was

    by_now : (b : Bool) → is_down h device ≡ b → is_down h device ≡ is_down old device
    by_now true is = is ∙ sym (or_right (device == failure) (is_down h device) is) ∙ stay device not
    by_now false is = by_old (is_down old device) refl is

reads_only : (table : Table) (puts : Contents) (old new : History) → OnlyRead old new → OthersStay table old new → Throughout (IsWriting table puts old) old new
reads_only table puts old (Began start) is stay = subst (Throughout (IsWriting table puts old) old) is (here (writing_none table puts old))
reads_only table puts old (After Quiet h) (inl is) stay = subst (Throughout (IsWriting table puts old) old) is (here (writing_none table puts old))
reads_only table puts old (After Quiet h) (inr rest) stay =
    let so_far = reads_only table puts old h rest stay in
    let last = throughout_last h so_far in
    then_also Quiet h so_far record { holds = last.holds; start = last.start; stays_down = last.stays_down; others_stay = last.others_stay }
reads_only table puts old (After (Wrote device at value) h) is stay = subst (Throughout (IsWriting table puts old) old) is (here (writing_none table puts old))
reads_only table puts old (After (LostWrite device at value) h) is stay =
    subst (Throughout (IsWriting table puts old) old) is (here (writing_none table puts old))
reads_only table puts old (After (Flushed device) h) is stay = subst (Throughout (IsWriting table puts old) old) is (here (writing_none table puts old))
reads_only table puts old (After (DeviceFailed device) h) (inl is) stay =
    subst (Throughout (IsWriting table puts old) old) is (here (writing_none table puts old))
reads_only table puts old (After (DeviceFailed device) h) (inr rest) stay =
    let so_far = reads_only table puts old h rest (stay_before table old h device record { only = rest } stay) in
    let last = throughout_last h so_far in
    then_also (DeviceFailed device) h so_far record {
      holds = last.holds;
      start = last.start;
      stays_down = λ d down. or_right (d == device) (is_down h d) (last.stays_down d down);
      others_stay = stay;
    }

-- At each moment of reads the set is written, with nothing or whatever may be put.
pub reads_write : (table : Table) (puts : Contents) (old new : History) → HasRead old new → OthersStay table old new
    → Throughout (IsWriting table puts old) old new
reads_write table puts old new read stay = reads_only table puts old new read.only stay
