-- From an image with something in a slot that is not live back to the image before: what holds of its rows.
use Rattle.std.proofs.Common.{◌≡◌, ◌≢◌, ◌⊎◌, ◌↔◌, inl, inr, ℕ, ◌+◌, ◌<◌, ◌≤◌, ◌==◌, Bool, true, false, cond, IsTrue, List, Contains, refl, sym, ◌∙◌, ap, subst}
use Rattle.std.proofs.Common.{subst₂, arith}
use Rattle.std.proofs.lemmas.Bool.{cases_eq, cases_lt, cond-true, cond-false, eq-eqb, ne_eqb}
use Rattle.sector_model.specs.History.{Bytes, Slots, disk_of, sector_of}
use Rattle.layout_map.specs.declared.sizes.TheConstants.{FIRST_ROW}
use Rattle.superblock.specs.declared.state.State.{State}
use Rattle.superblock.specs.declared.state.State.TheVariants.{Missing, InSync, Rebuilding}
use Rattle.superblock.specs.declared.table.Table.{Table}
use Rattle.superblock.specs.Tables.{state_at}
use Rattle.superblock.specs.Counted.{Content, IsInFull, IsLive}
use Rattle.stripe_journal.specs.LastEntry.{IsLastSealed}
use Rattle.degraded.specs.RowValue.{Rows, AreSound}
use Rattle.superblock.specs.Cases.{HasWholeSectors, with_slot}
use Rattle.array_io.specs.Believed.Holds.{AreInStep, AreRowsBy, AreRowsOf, IsLiveJournal, IsTrusted, row_count}
use Rattle.array_io.specs.Laws.Law.{AreAlike}
use Rattle.array_io.specs.Laws.Core.{AreJournalsInStep, HasRows, IsLiveBut}
use Rattle.array_io.proofs.Images.Entries.{HaveSameJournals, entry_stays, sectors_stay}
use Rattle.array_io.proofs.Images.Loss.{rows_without, trusted_after, trusted_before}
use Rattle.array_io.proofs.Images.Rows.{alike, sound_alike}
use Rattle.array_io.proofs.Images.Put.{put_there, put_elsewhere}

-- an image, and a slot that may be without a live device
pub record MayLose (devices : ℕ) (table : Table) (X : List (List Bytes)) (image : Slots) (slot : ℕ) : Type 0 where
  pub rows : HasRows devices table X (IsLiveBut devices table image slot) image
  pub in_step : AreJournalsInStep devices table image
  pub whole : HasWholeSectors image
  pub in_full : (other : ℕ) → other < table.geometry.members + 2 → other ≢ slot → IsInFull devices table other (image other)
  pub decided : IsLive devices table slot (image slot) ⊎ ¬ IsLive devices table slot (image slot)

-- it is settled whether a member's own sector counts, where it is settled whether the member is live
trust_or_not : (devices : ℕ) (table : Table) (image : Slots) (row member : ℕ) → IsLive devices table member (image member)
    ⊎ ¬ IsLive devices table member (image member)
    → IsTrusted devices table image row member ⊎ ¬ IsTrusted devices table image row member
trust_or_not devices table image row member (inr out) = inr (λ trusted. out trusted.live)
trust_or_not devices table image row member (inl live) = by_state (state_at table.states member) refl
  where
    by_state : (state : State) → state_at table.states member ≡ state → IsTrusted devices table image row member ⊎ ¬ IsTrusted devices table image row member
    by_state Missing is = inl (record { live = live; rebuilt = λ rebuilding. absurd (differ (sym is ∙ rebuilding)) })
      where
        differ : ¬ (Missing ≡ Rebuilding)
        differ e = cc
    by_state InSync is = inl (record { live = live; rebuilt = λ rebuilding. absurd (differ (sym is ∙ rebuilding)) })
      where
        differ : ¬ (InSync ≡ Rebuilding)
        differ e = cc
    by_state Rebuilding is = elim (cases_lt row table.position) [
      | inl below ↦ inl (record { live = live; rebuilt = λ rebuilding. below })
      | inr beyond ↦ inr (λ trusted. absurd (omega (arith, trusted.rebuilt is, beyond)))
    ]

-- what is settled, as a test
test_of : {A : Type 0} → A ⊎ ¬ A → Bool
test_of (inl a) = true
test_of (inr not_a) = false

test_tells : {A : Type 0} (settled : A ⊎ ¬ A) → IsTrue (test_of settled) ↔ A
unfolding test_of
test_tells (inl a) = (λ _. a, λ _. refl)
test_tells (inr not_a) = (λ is. absurd (differ is), λ a. absurd (not_a a))
  where
    differ : ¬ (false ≡ true)
    differ e = cc

-- the rows of the image before, by the same entry
record RowsBefore (devices : ℕ) (table : Table) (image : Slots) (slot : ℕ) (after : Rows) : Type 0 where
  before : Rows
  are : AreRowsBy devices table (IsLiveBut devices table image slot) image before
  alike : AreSound before (row_count table) → AreAlike table before after
  width : after.members ≡ table.geometry.members

-- the live journals are those of the image before but the slot's
abbrev SameJournals : ℕ → Table → Slots → ℕ → Content → Type 0
SameJournals devices table image slot content =
    HaveSameJournals (IsLiveJournal devices table (with_slot image slot content)) (IsLiveBut devices table image slot) (with_slot image slot content) image

-- where the slot is no member nothing changes
before_journal : (devices : ℕ) (table : Table) (image : Slots) (slot : ℕ) (content : Content) (after : Rows) → table.geometry.members ≤ slot
    → SameJournals devices table image slot content → AreRowsOf devices table (with_slot image slot content) after → RowsBefore devices table image slot after
before_journal devices table image slot content after beyond journals are = record {
  before = after;
  are = record {
    width = are.width;
    own_sector = λ row member within. are.own_sector row member within
        ∙ ap (λ (c : Content). sector_of (disk_of c) (FIRST_ROW + row)) (put_elsewhere image slot content member (other member within));
    trust = λ row member within. (
      λ counts. trusted_before devices table image slot content row member (other member within) ((are.trust row member within).0 counts),
      λ trusted. (are.trust row member within).1 (trusted_after devices table image slot content row member (other member within) trusted),
    );
    last = are.last;
    is_last = entry_stays table.id table.geometry (IsLiveJournal devices table (with_slot image slot content)) (IsLiveBut devices table image slot)
        (with_slot image slot content) image journals are.last are.is_last;
    in_entry = λ row member. are.in_entry row member
        ∙ sectors_stay table.geometry.members table.id table.geometry (IsLiveJournal devices table (with_slot image slot content))
        (with_slot image slot content) image journals.same are.last are.is_last row member;
  };
  alike = λ sound. alike table after after (λ row member below within. refl);
  width = are.width;
}
  where
    other : (member : ℕ) → member < table.geometry.members → member ≢ slot
    other member within is = absurd (omega (arith, within, beyond, is))

-- where it is a member its own sectors count as they did
before_member : (devices : ℕ) (table : Table) (X : List (List Bytes)) (image : Slots) (slot : ℕ) (content : Content) (after : Rows)
    → MayLose devices table X image slot → slot < table.geometry.members → ¬ IsLive devices table slot content
    → SameJournals devices table image slot content → AreRowsOf devices table (with_slot image slot content) after → RowsBefore devices table image slot after
before_member devices table X image slot content after may within out journals are = record {
  before = before;
  are = rows_are;
  alike = λ sound. rows_without devices table (IsLiveBut devices table image slot) (IsLiveJournal devices table (with_slot image slot content)) image slot
      content before after within out may.whole may.in_full
      (record { one = rows_are; two = are; last = refl; same = λ k is. sym (journals.same k (journals.back k is)) }) sound;
  width = are.width;
}
  where
    settled : (row : ℕ) → IsTrusted devices table image row slot ⊎ ¬ IsTrusted devices table image row slot
    settled row = trust_or_not devices table image row slot may.decided

    before : Rows
    before = record {
      members = after.members;
      entry = after.entry;
      trusted = λ row member. cond (member == slot) (test_of (settled row)) (after.trusted row member);
      own = λ row member. sector_of (disk_of (image member)) (FIRST_ROW + row);
    }

    trust : (row member : ℕ) → member < table.geometry.members → IsTrue (before.trusted row member) ↔ IsTrusted devices table image row member
    trust row member below = elim (cases_eq member slot) [
      | inl is ↦ subst (λ (b : Bool). IsTrue b ↔ IsTrusted devices table image row member)
          (sym (cond-true (member == slot) (test_of (settled row)) (after.trusted row member) (eq-eqb member slot is)))
          (subst (λ (k : ℕ). IsTrue (test_of (settled row)) ↔ IsTrusted devices table image row k) (sym is) (test_tells (settled row)))
      | inr differs ↦ subst (λ (b : Bool). IsTrue b ↔ IsTrusted devices table image row member)
          (sym (cond-false (member == slot) (test_of (settled row)) (after.trusted row member) (ne_eqb member slot differs))) (
            λ counts. trusted_before devices table image slot content row member differs ((are.trust row member below).0 counts),
            λ trusted. (are.trust row member below).1 (trusted_after devices table image slot content row member differs trusted),
          )
    ]

    rows_are : AreRowsBy devices table (IsLiveBut devices table image slot) image before
    rows_are = record {
      width = are.width;
      own_sector = λ row member below. refl;
      trust = trust;
      last = are.last;
      is_last = entry_stays table.id table.geometry (IsLiveJournal devices table (with_slot image slot content)) (IsLiveBut devices table image slot)
          (with_slot image slot content) image journals are.last are.is_last;
      in_entry = λ row member. are.in_entry row member
          ∙ sectors_stay table.geometry.members table.id table.geometry (IsLiveJournal devices table (with_slot image slot content))
          (with_slot image slot content) image journals.same are.last are.is_last row member;
    }

rows_before : (devices : ℕ) (table : Table) (X : List (List Bytes)) (image : Slots) (slot : ℕ) (content : Content) (after : Rows)
    → MayLose devices table X image slot → ¬ IsLive devices table slot content
    → SameJournals devices table image slot content → AreRowsOf devices table (with_slot image slot content) after → RowsBefore devices table image slot after
rows_before devices table X image slot content after may out journals are = elim (cases_lt slot table.geometry.members) [
  | inl within ↦ before_member devices table X image slot content after may within out journals are
  | inr beyond ↦ before_journal devices table image slot content after beyond journals are
]

-- a live journal is another slot, and was live before
record JournalBefore (devices : ℕ) (table : Table) (image : Slots) (slot : ℕ) (content : Content) (journal : ℕ) : Type 0 where
  apart : journal ≢ slot
  live : IsLiveJournal devices table image journal
  same : image journal ≡ with_slot image slot content journal

journal_before : (devices : ℕ) (table : Table) (image : Slots) (slot : ℕ) (content : Content) (journal : ℕ) → ¬ IsLive devices table slot content
    → IsLiveJournal devices table (with_slot image slot content) journal → JournalBefore devices table image slot content journal
journal_before devices table image slot content journal out after = record {
  apart = apart;
  live = record {
    beyond_members = after.beyond_members;
    of_set = after.of_set;
    live =
        subst (IsLive devices table journal) (put_elsewhere image slot content journal apart) after.live;
  };
  same = sym (put_elsewhere image slot content journal apart);
}
  where
    apart : journal ≢ slot
    apart is = out (subst (IsLive devices table slot) (put_there image slot content)
        (subst (λ (k : ℕ). IsLive devices table k (with_slot image slot content k)) is after.live))

same_journals : (devices : ℕ) (table : Table) (image : Slots) (slot : ℕ) (content : Content) → ¬ IsLive devices table slot content
    → SameJournals devices table image slot content
same_journals devices table image slot content out = record {
  there = λ k live. let j = journal_before devices table image slot content k out live in (j.live, j.apart);
  back = λ k live. record {
    beyond_members = live.0.beyond_members;
    of_set = live.0.of_set;
    live = subst (IsLive devices table k) (sym (put_elsewhere image slot content k live.1)) live.0.live;
  };
  same = λ k live. sym (journal_before devices table image slot content k out live).same;
}

-- With something in the slot that is not live the rows are still sound and listed.
pub rows_with_lost : (devices : ℕ) (table : Table) (X : List (List Bytes)) (image : Slots) (slot : ℕ) (content : Content)
    → MayLose devices table X image slot → ¬ IsLive devices table slot content
    → HasRows devices table X (IsLiveJournal devices table (with_slot image slot content)) (with_slot image slot content)
rows_with_lost devices table X image slot content may out = record {
  sound = λ rows are.
      let old = rows_before devices table X image slot content rows may out (same_journals devices table image slot content out) are in
      let sound = may.rows.sound old.before old.are in
      sound_alike table old.before rows old.are.width old.width (old.alike sound) sound;
  listed = λ rows are.
      let old = rows_before devices table X image slot content rows may out (same_journals devices table image slot content out) are in
      let sound = may.rows.sound old.before old.are in
      subst (Contains X) (old.alike sound).lists (may.rows.listed old.before old.are);
}

-- And the live journals are still in step.
pub in_step_with_lost : (devices : ℕ) (table : Table) (X : List (List Bytes)) (image : Slots) (slot : ℕ) (content : Content)
    → MayLose devices table X image slot → ¬ IsLive devices table slot content → AreJournalsInStep devices table (with_slot image slot content)
in_step_with_lost devices table X image slot content may out first second a b live live' last last' =
    let j = journal_before devices table image slot content first out live in
    let k = journal_before devices table image slot content second out live' in
    subst₂ (λ (c d : Content). AreInStep table.geometry.members c d a b) j.same k.same
    (may.in_step first second a b j.live k.live
    (subst (λ (c : Content). IsLastSealed table.id table.geometry c a) (sym j.same) last)
    (subst (λ (c : Content). IsLastSealed table.id table.geometry c b) (sym k.same) last'))
