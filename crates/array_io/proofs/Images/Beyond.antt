-- What stands after a set's slots does not matter to it.
use Rattle.std.proofs.Common.{◌≡◌, inl, inr, ℕ, ◌+◌, ◌<◌, List, ◌++◌, option_to_list, refl, sym, ◌∙◌, ap, subst, subst₂, arith, Option, Some, None}
use Rattle.std.proofs.lemmas.Bool.{cases_eq, cases_lt}
use Rattle.sector_model.specs.History.{Bytes, Slots, disk_of, sector_of}
use Rattle.layout_map.specs.declared.sizes.TheConstants.{FIRST_ROW}
use Rattle.superblock.specs.declared.table.Table.{Table}
use Rattle.superblock.specs.declared.table.Superblock.{Superblock}
use Rattle.superblock.specs.Counted.{Content, Counts, IsChosen, IsInFull, IsLive}
use Rattle.stripe_journal.specs.LastEntry.{IsLastSealed}
use Rattle.degraded.specs.RowValue.{Rows}
use Rattle.superblock.specs.Cases.{Case, Lost, with_slot}
use Rattle.array_io.specs.Believed.Holds.{AllButOneStale, AreInStep, AreRowsOf, Holds, HoldsIn, IsLiveJournal, OneCounts}
use Rattle.array_io.specs.Laws.Starts.{DiffersBeyond}
use Rattle.array_io.proofs.Images.Entries.{HaveSameJournals, entry_stays, sectors_stay}
use Rattle.array_io.proofs.Images.Put.{put_elsewhere, put_there}

-- what counts in the new image counted in the old one
counted_before : (devices : ℕ) (table : Table) (old new : Slots) → DiffersBeyond devices table old new → (slot place : ℕ) (superblock : Superblock)
    → Counts table.id devices slot (new slot) place superblock → Counts table.id devices slot (old slot) place superblock
counted_before devices table old new differs slot place superblock counts = elim (cases_lt slot (table.geometry.members + 2)) [
  | inl of_set ↦ subst (λ (c : Content). Counts table.id devices slot c place superblock) (differs.of_set slot of_set) counts
  | inr beyond ↦ elim (differs.beyond slot beyond) [
    | inl same ↦ subst (λ (c : Content). Counts table.id devices slot c place superblock) same counts
    | inr nothing ↦ absurd (nothing place superblock counts)
  ]
]

-- the slot of the superblock that carries the table is one of the set's
pub carrier_of_set : (devices : ℕ) (table : Table) (slot place : ℕ) (content : Content) (superblock : Superblock) → superblock.table ≡ table
    → Counts table.id devices slot content place superblock → slot < table.geometry.members + 2
carrier_of_set devices table slot place content superblock carries counts =
    subst₂ (λ (s : ℕ) (t : Table). s < t.geometry.members + 2) counts.own_slot carries superblock.of_set

chosen_beyond : (devices : ℕ) (table : Table) (old new : Slots) → DiffersBeyond devices table old new → IsChosen table.id devices old table
    → IsChosen table.id devices new table
chosen_beyond devices table old new differs chosen = record {
  slot = chosen.slot;
  place = chosen.place;
  best = chosen.best;
  counted = subst (λ (c : Content). Counts table.id devices chosen.slot c chosen.place chosen.best)
      (sym (differs.of_set chosen.slot (carrier_of_set devices table chosen.slot chosen.place (old chosen.slot) chosen.best chosen.carried chosen.counted)))
      chosen.counted;
  carried = chosen.carried;
  greatest = λ other at superblock counts. chosen.greatest other at superblock (counted_before devices table old new differs other at superblock counts);
  first = λ other at superblock counts equal. chosen.first other at superblock (counted_before devices table old new differs other at superblock counts) equal;
}

-- a live journal of the one image is a live journal of the other, and has the same there
journal_in_old : (devices : ℕ) (table : Table) (old new : Slots) → DiffersBeyond devices table old new → (slot : ℕ) → IsLiveJournal devices table new slot
    → IsLiveJournal devices table old slot
journal_in_old devices table old new differs slot live = record {
  beyond_members = live.beyond_members;
  of_set = live.of_set;
  live = subst (IsLive devices table slot) (differs.of_set slot live.of_set) live.live;
}

same_journals : (devices : ℕ) (table : Table) (old new : Slots) → DiffersBeyond devices table old new
    → HaveSameJournals (IsLiveJournal devices table new) (IsLiveJournal devices table old) new old
same_journals devices table old new differs = record {
  there = λ slot live. journal_in_old devices table old new differs slot live;
  back = λ slot live. record {
    beyond_members = live.beyond_members;
    of_set = live.of_set;
    live = subst (IsLive devices table slot) (sym (differs.of_set slot live.of_set)) live.live;
  };
  same = λ slot live. differs.of_set slot live.of_set;
}

-- the ways to the rows of the new image are those of the old one
rows_in_old : (devices : ℕ) (table : Table) (old new : Slots) → DiffersBeyond devices table old new → (rows : Rows) → AreRowsOf devices table new rows
    → AreRowsOf devices table old rows
rows_in_old devices table old new differs rows are = record {
  width = are.width;
  own_sector = λ row member within. are.own_sector row member within
      ∙ ap (λ (c : Content). sector_of (disk_of c) (FIRST_ROW + row)) (differs.of_set member (omega (arith, within)));
  trust = λ row member within.
      let same = differs.of_set member (omega (arith, within)) in (
        λ counts. let trusted = (are.trust row member within).0 counts in record {
          live = subst (IsLive devices table member) same trusted.live;
          rebuilt =
              trusted.rebuilt;
        },
        λ trusted. (are.trust row member within).1 (record { live = subst (IsLive devices table member) (sym same) trusted.live; rebuilt = trusted.rebuilt }),
      );
  last = are.last;
  is_last = entry_stays table.id table.geometry (IsLiveJournal devices table new) (IsLiveJournal devices table old) new old
      (same_journals devices table old new differs) are.last are.is_last;
  in_entry = λ row member. are.in_entry row member
      ∙ sectors_stay table.geometry.members table.id table.geometry (IsLiveJournal devices table new) new old (same_journals devices table old new differs).same
      are.last are.is_last row member;
}

-- what holds still holds where only what stands after the set's slots differs
pub holds_in_beyond : (devices : ℕ) (table : Table) (X : List (List Bytes)) (old new : Slots) → DiffersBeyond devices table old new
    → HoldsIn devices table X old → HoldsIn devices table X new
holds_in_beyond devices table X old new differs holds = record {
  chosen = chosen_beyond devices table old new differs holds.chosen;
  one_out = λ first second in_set in_set' out out'. holds.one_out first second in_set in_set'
      (λ full. out (subst (IsInFull devices table first) (sym (differs.of_set first in_set)) full))
      (λ full. out' (subst (IsInFull devices table second) (sym (differs.of_set second in_set')) full));
  none_higher = λ slot place superblock counts. holds.none_higher slot place superblock
      (counted_before devices table old new differs slot place superblock counts);
  one_content = λ slot place superblock counts. holds.one_content slot place superblock
      (counted_before devices table old new differs slot place superblock counts);
  sound = λ rows are. holds.sound rows (rows_in_old devices table old new differs rows are);
  listed = λ rows are. holds.listed rows (rows_in_old devices table old new differs rows are);
  in_step = λ first second a b live live' last last'.
      let same = differs.of_set first live.of_set in
      let same' = differs.of_set second live'.of_set in
      subst₂ (λ (c d : Content). AreInStep table.geometry.members c d a b) (sym same) (sym same')
      (holds.in_step first second a b (journal_in_old devices table old new differs first live) (journal_in_old devices table old new differs second live')
      (subst (λ (c : Content). IsLastSealed table.id table.geometry c a) same last)
      (subst (λ (c : Content). IsLastSealed table.id table.geometry c b) same' last'));
}

-- with the same put into one slot, the images differ no more
put_both : (devices : ℕ) (table : Table) (old new : Slots) (slot : ℕ) (content : Content) → DiffersBeyond devices table old new
    → DiffersBeyond devices table (with_slot old slot content) (with_slot new slot content)
put_both devices table old new slot content differs = record {
  of_set = λ other of_set. elim (cases_eq other slot) [
    | inl is ↦ put_is old is new
    | inr apart ↦ put_elsewhere new slot content other apart ∙ differs.of_set other of_set ∙ sym (put_elsewhere old slot content other apart)
  ];
  beyond = λ other beyond. elim (cases_eq other slot) [
    | inl is ↦ inl (put_is old is new)
    | inr apart ↦ elim (differs.beyond other beyond) [
      | inl same ↦ inl (put_elsewhere new slot content other apart ∙ same ∙ sym (put_elsewhere old slot content other apart))
      | inr nothing ↦ inr (λ place superblock counts. nothing place superblock
          (subst (λ (c : Content). Counts table.id devices other c place superblock) (put_elsewhere new slot content other apart) counts))
    ]
  ];
}
  where
    put_is : {other : ℕ} (old : Slots) → other ≡ slot → (new : Slots) → with_slot new slot content other ≡ with_slot old slot content other
    put_is {other} old is new = ap (with_slot new slot content) is ∙ put_there new slot content ∙ sym (put_there old slot content)
        ∙ sym (ap (with_slot old slot content) is)

one_counts_beyond : (devices : ℕ) (table : Table) (old new : Slots) (lost : Option Lost) → DiffersBeyond devices table old new
    → OneCounts devices table record { image = old; lost = lost } lost → OneCounts devices table record { image = new; lost = lost } lost
one_counts_beyond devices table old new None differs one = tt
one_counts_beyond devices table old new (Some lost) differs one = λ there. elim (cases_lt lost.slot (table.geometry.members + 2)) [
  | inl of_set ↦ subst (λ (c : Content). AllButOneStale devices table lost.slot (option_to_list c ++ lost.away)) (sym (differs.of_set lost.slot of_set))
      (one there)
  | inr beyond ↦ absurd (there (table.allowed.missing_beyond lost.slot beyond))
]

-- so does a case
pub holds_beyond : (base : Table) (devices : ℕ) (case : Case) (X : List (List Bytes)) (holds : Holds base devices case X) (image : Slots)
    → DiffersBeyond devices holds.table case.image image → Holds base devices record { image = image; lost = case.lost } X
holds_beyond base devices case X holds image differs = record {
  table = holds.table;
  not_older = holds.not_older;
  lost_in_set = holds.lost_in_set;
  whole = holds_in_beyond devices holds.table X case.image image differs holds.whole;
  weakened = λ slot content may stands. holds_in_beyond devices holds.table X (with_slot case.image slot content) (with_slot image slot content)
      (put_both devices holds.table case.image image slot content differs) (holds.weakened slot content may stands);
  one_counts = one_counts_beyond devices holds.table case.image image case.lost differs holds.one_counts;
}

-- by the same table
pub table_beyond : (base : Table) (devices : ℕ) (case : Case) (X : List (List Bytes)) (holds : Holds base devices case X) (image : Slots)
    (differs : DiffersBeyond devices holds.table case.image image) → (holds_beyond base devices case X holds image differs).table ≡ holds.table
unfolding holds_beyond
table_beyond base devices case X holds image differs = refl
