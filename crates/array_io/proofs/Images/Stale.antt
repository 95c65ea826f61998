-- What is stale counts for no more than nothing.
use Rattle.std.proofs.Common.{◌≡◌, ◌≢◌, inl, inr, ℕ, true, ◌+◌, ◌<◌, Option, None, sym, ◌∙◌, ap, subst, arith}
use Rattle.std.proofs.lemmas.Bool.{cases_eq}
use Rattle.sector_model.specs.History.{Slots, disk_of, sector_of}
use Rattle.layout_map.specs.declared.sizes.TheConstants.{FIRST_ROW}
use Rattle.superblock.specs.declared.table.Table.{Table}
use Rattle.superblock.specs.declared.table.Superblock.{Superblock}
use Rattle.superblock.specs.Counted.{Content, Counts, IsChosen, IsLive, IsStale}
use Rattle.stripe_journal.specs.LastEntry.{Entry, sector_of_last}
use Rattle.degraded.specs.RowValue.{Rows}
use Rattle.superblock.specs.Cases.{with_slot}
use Rattle.array_io.specs.Believed.Holds.{AreRowsOf, IsLiveJournal, IsTrusted}
use Rattle.array_io.specs.Laws.Law.{AreAlike, StaleCountsAsAbsent}
use Rattle.array_io.proofs.Images.Counting.{none_counts, none_is_out, stale_is_out}
use Rattle.array_io.proofs.Images.Entries.{HaveSameJournals, entry_stays, last_is_one, sectors_stay}
use Rattle.degraded.proofs.Values.{AgreeInRow, value-agree}
use Rattle.array_io.proofs.Images.Rows.{alike, same_test}
use Rattle.array_io.proofs.Images.Put.{put_there, put_elsewhere}
use Rattle.array_io.proofs.Images.Spellings.{Spellings}

-- what is live in one of two images is the same in the other
record HaveSameLive (devices : ℕ) (table : Table) (image other : Slots) : Type 0 where
  there : (slot : ℕ) → IsLive devices table slot (image slot) → image slot ≡ other slot
  back : (slot : ℕ) → IsLive devices table slot (other slot) → other slot ≡ image slot

turned : (devices : ℕ) (table : Table) (image other : Slots) → HaveSameLive devices table image other → HaveSameLive devices table other image
turned devices table image other same = record { there = same.back; back = same.there }

live_there : (devices : ℕ) (table : Table) (image other : Slots) → HaveSameLive devices table image other → (slot : ℕ)
    → IsLive devices table slot (image slot) → IsLive devices table slot (other slot)
live_there devices table image other same slot live = subst (IsLive devices table slot) (same.there slot live) live

journal_there : (devices : ℕ) (table : Table) (image other : Slots) → HaveSameLive devices table image other → (slot : ℕ)
    → IsLiveJournal devices table image slot → IsLiveJournal devices table other slot
journal_there devices table image other same slot journal = record {
  beyond_members = journal.beyond_members;
  of_set = journal.of_set;
  live = live_there devices table image other same slot journal.live;
}

trusted_there : (devices : ℕ) (table : Table) (image other : Slots) → HaveSameLive devices table image other → (row member : ℕ)
    → IsTrusted devices table image row member → IsTrusted devices table other row member
trusted_there devices table image other same row member trusted = record {
  live = live_there devices table image other same member trusted.live;
  rebuilt = trusted.rebuilt;
}

same_journals : (devices : ℕ) (table : Table) (image other : Slots) → HaveSameLive devices table image other
    → HaveSameJournals (IsLiveJournal devices table image) (IsLiveJournal devices table other) image other
same_journals devices table image other same = record {
  there = journal_there devices table image other same;
  back = journal_there devices table other image (turned devices table image other same);
  same = λ slot journal. same.there slot journal.live;
}

-- a slot that is live in neither image may differ
same_but_one : (devices : ℕ) (table : Table) (image : Slots) (slot : ℕ) (content : Content) → ¬ IsLive devices table slot (image slot)
    → ¬ IsLive devices table slot content
    → HaveSameLive devices table image (with_slot image slot content)
same_but_one devices table image slot content out out' = record {
  there = λ d live. sym (put_elsewhere image slot content d (λ is. out (subst (λ (k : ℕ). IsLive devices table k (image k)) is live)));
  back = λ d live. put_elsewhere image slot content d (λ is. out' (subst (IsLive devices table slot) (put_there image slot content)
      (subst (λ (k : ℕ). IsLive devices table k (with_slot image slot content k)) is live)));
}

-- the rows of images with the same live slots are alike
rows_alike : Spellings → (devices : ℕ) (table : Table) (image other : Slots) → HaveSameLive devices table image other → (first second : Rows)
    → AreRowsOf devices table image first → AreRowsOf devices table other second → AreAlike table first second
rows_alike spellings devices table image other same first second one two =
    alike table first second (λ row member below within. value-agree row member first second (agree row) (omega (arith, two.width, within)))
  where
    journals : HaveSameJournals (IsLiveJournal devices table image) (IsLiveJournal devices table other) image other
    journals = same_journals devices table image other same

    last : one.last ≡ two.last
    last = last_is_one spellings table.id table.geometry (IsLiveJournal devices table other) other one.last two.last
        (entry_stays table.id table.geometry (IsLiveJournal devices table image) (IsLiveJournal devices table other) image other journals one.last one.is_last)
        two.is_last

    entries : (row member : ℕ) → first.entry row member ≡ second.entry row member
    entries row member = one.in_entry row member
        ∙ sectors_stay table.geometry.members table.id table.geometry (IsLiveJournal devices table image) image other (λ slot on. journals.same slot on)
        one.last one.is_last row member
        ∙ ap (λ (l : Option Entry). sector_of_last table.geometry.members other l row member) last
        ∙ sym (two.in_entry row member)

    in_set : (member : ℕ) → member < second.members → member < table.geometry.members
    in_set member within = omega (arith, two.width, within)

    trusts : (row member : ℕ) → member < table.geometry.members → first.trusted row member ≡ second.trusted row member
    trusts row member within = same_test (first.trusted row member) (second.trusted row member) (IsTrusted devices table image row member)
        (IsTrusted devices table other row member)
        (one.trust row member within) (two.trust row member within)
        (trusted_there devices table image other same row member) (trusted_there devices table other image (turned devices table image other same) row member)

    owns : (row member : ℕ) → member < table.geometry.members → second.trusted row member ≡ true → first.own row member ≡ second.own row member
    owns row member within counts = one.own_sector row member within
        ∙ sym (ap (λ (c : Content). sector_of (disk_of c) (FIRST_ROW + row)) (same.back member ((two.trust row member within).0 counts).live))
        ∙ sym (two.own_sector row member within)

    agree : (row : ℕ) → AgreeInRow row first second
    agree row = record {
      width = one.width ∙ sym two.width;
      entries = λ member within. entries row member;
      trusts = λ member within. trusts row member (in_set member within);
      owns = λ member within none counts. owns row member (in_set member within) counts;
    }

-- without what is older than the table, the table is still the chosen one
chosen_without : Spellings → (devices : ℕ) (table : Table) (image : Slots) (slot : ℕ) → IsChosen table.id devices image table
    → IsStale devices table slot (image slot)
    → IsChosen table.id devices (with_slot image slot None) table
chosen_without spellings devices table image slot chosen stale = record {
  slot = chosen.slot;
  place = chosen.place;
  best = chosen.best;
  counted = subst (λ (c : Content). Counts table.id devices chosen.slot c chosen.place chosen.best) (sym (put_elsewhere image slot None chosen.slot apart))
      chosen.counted;
  carried = chosen.carried;
  greatest = λ other at superblock counts. chosen.greatest other at superblock (before other at superblock counts);
  first = λ other at superblock counts equal. chosen.first other at superblock (before other at superblock counts) equal;
}
  where
    apart : chosen.slot ≢ slot
    apart is = absurd (omega (
      arith,
      ap (λ (t : Table). t.generation) chosen.carried,
      stale.older chosen.place chosen.best (subst (λ (k : ℕ). Counts table.id devices k (image k) chosen.place chosen.best) is chosen.counted),
    ))

    before : (other at : ℕ) (superblock : Superblock) → Counts table.id devices other (with_slot image slot None other) at superblock
        → Counts table.id devices other (image other) at superblock
    before other at superblock counts = elim (cases_eq other slot) [
      | inl is ↦ absurd (none_counts spellings table.id devices slot at superblock
          (subst (λ (c : Content). Counts table.id devices slot c at superblock) (put_there image slot None)
          (subst (λ (k : ℕ). Counts table.id devices k (with_slot image slot None k) at superblock) is counts)))
      | inr differs ↦ subst (λ (c : Content). Counts table.id devices other c at superblock) (put_elsewhere image slot None other differs) counts
    ]

-- the law
pub stale_counts_as_absent : Spellings → StaleCountsAsAbsent
stale_counts_as_absent spellings devices table image slot chosen stale =
    let same : HaveSameLive devices table image (with_slot image slot None) =
    same_but_one devices table image slot None (stale_is_out devices table slot (image slot) stale) (none_is_out spellings devices table slot) in
    record {
      table_stays = chosen_without spellings devices table image slot chosen stale;
      entry_stays = entry_stays table.id table.geometry (IsLiveJournal devices table image) (IsLiveJournal devices table (with_slot image slot None)) image
          (with_slot image slot None)
          (same_journals devices table image (with_slot image slot None) same);
      rows_stay = rows_alike spellings devices table image (with_slot image slot None) same;
    }
