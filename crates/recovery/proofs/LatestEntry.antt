-- What the last seals of both journals say of the set's last entry.
use Rattle.std.proofs.Common.{◌≡◌, inl, inr, ℕ, zero, suc, ◌+◌, ◌-◌, ◌<◌, ◌≤◌, ◌==◌, Bool, true, false, List, [], length, Option, Some, None, refl, sym, ◌∙◌}
use Rattle.std.proofs.Common.{ap, subst, subst₂, arith}
use Rattle.std.specs.Prelude.{slice_index_or}
use Rattle.std.proofs.lemmas.Bool.{cases_lt, eqb-true, eq-eqb, false≢true}
use Rattle.std.proofs.lemmas.List.FromFn.{fill_by_all, get_or-map-range_with_len, length-map-range_with_len}
use Rattle.std.proofs.lemmas.Option.{same_Some}
use Rattle.sector_model.specs.History.{Bytes, History, sector_of, seen}
use Rattle.sector_model.specs.Readable.{readable}
use Rattle.sector_model.proofs.Readable.{readable_left, readable_up}
use Rattle.layout_map.specs.declared.sizes.TheConstants.{MOST_MEMBERS}
use Rattle.layout_map.specs.declared.geometry.Geometry.{Geometry}
use Rattle.superblock.specs.declared.table.Table.{Table}
use Rattle.superblock.specs.Counted.{Content}
use Rattle.superblock.specs.Losses.{IsSingleFailure}
use Rattle.superblock.specs.NextTables.{slots_of}
use Rattle.stripe_journal.specs.declared.entry.Entry.{Entry}
use Rattle.stripe_journal.specs.declared.form.Form.{Form}
use Rattle.stripe_journal.specs.declared.seal.Seal.{Seal}
use Rattle.stripe_journal.specs.Copying.{body_in}
use Rattle.stripe_journal.specs.Entries.{IsEntryOf, body_of, body_start, form_of, sector_at}
use Rattle.stripe_journal.specs.Forms.{count_held, held_before, in_body, rank, rows_in}
use Rattle.stripe_journal.specs.LastEntry.{IsGreatest, IsLastSealed, number_of, sector_in}
use Rattle.stripe_journal.specs.OneEntry.{HasThisEntry, IsNextOn}
use Rattle.stripe_journal.specs.Seals.{row_at}
use Rattle.stripe_journal.proofs.Entries.{body_at}
use Rattle.stripe_journal.proofs.EntrySectors.{sector_held}
use Rattle.stripe_journal.proofs.HeldEntries.{length_of_seal, rank_of_seal}
use Rattle.stripe_journal.proofs.Masks.{count_next, count_same}
use Rattle.stripe_journal.proofs.Places.{place_of_row}
use Rattle.array_io.specs.Believed.Holds.{AreInStep, HaveEqualBodies, HoldsIn, IsLiveJournal}
use Rattle.array_io.specs.Steps.Bringing.{CountsOn}
use Rattle.array_io.specs.Steps.Putting.{Copied, HasSeal, IsAt, IsComing, IsPut, IsPutBefore, Progress, PutsFrom}
use Rattle.array_io.proofs.Commits.EntrySteps.{read_is_seen}
use Rattle.array_io.proofs.Commits.PuttingStates.{on_reached, reached_here}
use Rattle.array_io.proofs.Images.LossBefore.{by_table}
use Rattle.array_io.proofs.Images.Spellings.{Spellings}
use Rattle.array_io.proofs.Laws.Beginning.{live_is_up}
use Rattle.array_io.proofs.Rest.EntryAtRest.{no_entry_at_rest}
use Rattle.recovery.specs.declared.latest.Latest.{Latest}
use Rattle.recovery.specs.Replaying.{AllHaveLast, HasLast, IsJournalOn, IsLatestOf, IsLatestOn, has_number, is_on_both, progress_beside, progress_of}

-- a sector that a body has: which row holds it, and of which member
record IsPlaceOf (members : ℕ) (form : Form) (count k : ℕ) : Type 0 where
  pub row : ℕ
  pub member : ℕ
  pub of_rows : row < count
  pub of_members : member < members
  pub held : in_body members form row member ≡ true
  pub is : rank members form row member ≡ k

-- the same within one row
record IsMemberAt (held : ℕ → Bool) (n k : ℕ) : Type 0 where
  pub member : ℕ
  pub below : member < n
  pub is_held : held member ≡ true
  pub count : count_held held member ≡ k

member_at : (held : ℕ → Bool) (n k : ℕ) → k < count_held held n → IsMemberAt held n k
member_at held zero k inside = absurd (omega (arith, inside))
member_at held (suc n) k inside = elim (cases_lt k (count_held held n)) [
  | inl before ↦
      let at = member_at held n k before in
      record { member = at.member; below = omega (arith, at.below); is_held = at.is_held; count = at.count }
  | inr beyond ↦ by_bit (held n) refl beyond
]
  where
    by_bit : (b : Bool) → held n ≡ b → count_held held n ≤ k → IsMemberAt held (suc n) k
    by_bit true is beyond = record { member = n; below = omega arith; is_held = is; count = omega (arith, beyond, inside, count_next held n is) }
    by_bit false is beyond = absurd (omega (arith, beyond, inside, count_same held n is))

place_of : (members : ℕ) (form : Form) (count k : ℕ) → k < held_before members form count → IsPlaceOf members form count k
place_of members form zero k inside = absurd (omega (arith, inside))
place_of members form (suc i) k inside = elim (cases_lt k (held_before members form i)) [
  | inl before ↦
      let at = place_of members form i k before in
      record { row = at.row; member = at.member; of_rows = omega (arith, at.of_rows); of_members = at.of_members; held = at.held; is = at.is }
  | inr beyond ↦
      let at = member_at (in_body members form i) members (k - held_before members form i) (omega (arith, beyond, inside)) in
      record { row = i; member = at.member; of_rows = omega arith; of_members = at.below; held = at.is_held; is = omega (arith, beyond, at.count) }
]

-- the body of a seal's entry, sector by sector
abbrev size : (members : ℕ) → Seal → ℕ
size members seal = held_before members seal.form (length (rows_in seal.form))

length-body_in : (members : ℕ) (disk : List Bytes) (seal : Seal) → length (body_in members disk seal) ≡ size members seal
length-body_in members disk seal = length-map-range_with_len (λ i. sector_of disk (body_start seal + i)) 0 (size members seal)

body_in_at : (members : ℕ) (disk : List Bytes) (seal : Seal) (k : ℕ) → k < size members seal
    → slice_index_or (body_in members disk seal) k [] ≡ sector_of disk (body_start seal + k)
body_in_at members disk seal k below = get_or-map-range_with_len (λ i. sector_of disk (body_start seal + i)) 0 (size members seal) k k [] below
    (omega arith)

-- the entry in memory, whose sectors are those of a journal, has the body that reads of it give
pub body_loaded : (members : ℕ) (entry : Entry) (disk : List Bytes) (seal : Seal) → members ≤ MOST_MEMBERS → IsEntryOf members seal.form entry
    → ((i member : ℕ) → i < length (rows_in seal.form) → member < members → in_body members seal.form i member ≡ true
    → sector_at entry i member ≡ sector_of disk (body_start seal + rank members seal.form i member))
    → body_of members entry ≡ body_in members disk seal
body_loaded members entry disk seal few is loaded =
    fill_by_all (λ k. sector_of disk (body_start seal + k)) (body_of members entry) (size members seal) [] (length_of_seal members seal entry few is)
    each
  where
    each : (k : ℕ) → k < size members seal → slice_index_or (body_of members entry) k [] ≡ sector_of disk (body_start seal + k)
    each k below =
        let at : IsPlaceOf members seal.form (length (rows_in seal.form)) k = place_of members seal.form (length (rows_in seal.form)) k below in
        let same : rank members (form_of entry) at.row at.member ≡ rank members seal.form at.row at.member =
        rank_of_seal members seal entry few is at.row at.member at.of_rows at.of_members in
        ap (λ (n : ℕ). slice_index_or (body_of members entry) n []) (sym (same ∙ at.is))
        ∙ body_at members entry at.row at.member few (subst (λ (rows : List ℕ). at.row < length rows) (sym is.rows) at.of_rows) at.of_members
        (is.held at.row at.member at.of_rows at.of_members ∙ at.held)
        ∙ loaded at.row at.member at.of_rows at.of_members at.held
        ∙ ap (λ (n : ℕ). sector_of disk (body_start seal + n)) at.is

-- a journal has the entry of its last seal, with the body that reads give
has_its_own : (id : List ℕ) (geometry : Geometry) (members : ℕ) (disk : List Bytes) (seal : Seal) → IsGreatest id geometry (Some disk) seal
    → HasThisEntry id geometry disk seal (body_in members disk seal)
has_its_own id geometry members disk seal is = record {
  last = is;
  has_body = λ k within. sym (body_in_at members disk seal k (omega (arith, within, length-body_in members disk seal)));
}

-- where two journals have equal bodies of an entry, the one has the body of the other
same_sector : (members : ℕ) (first second : List Bytes) (seal : Seal) → HaveEqualBodies members (Some first) (Some second) seal → (k : ℕ)
    → k < size members seal
    → sector_of second (body_start seal + k) ≡ sector_of first (body_start seal + k)
same_sector members first second seal equal k below =
    sym (at_place second) ∙ same_Some (stands second) (stands first)
    (sym (found second) ∙ sym (equal (row_at (rows_in seal.form) at.row) at.member at.of_members)
    ∙ found first) ∙ at_place first
  where
    at : IsPlaceOf members seal.form (length (rows_in seal.form)) k
    at = place_of members seal.form (length (rows_in seal.form)) k below

    stands : List Bytes → Bytes
    stands disk = sector_of disk (body_start seal + rank members seal.form at.row at.member)

    found : (disk : List Bytes) → sector_in members (Some disk) seal (row_at (rows_in seal.form) at.row) at.member ≡ Some (stands disk)
    found disk = sector_held members (Some disk) seal (row_at (rows_in seal.form) at.row) at.row at.member
        (place_of_row (rows_in seal.form) at.row seal.allowed.rows.rising at.of_rows) at.held

    at_place : (disk : List Bytes) → stands disk ≡ sector_of disk (body_start seal + k)
    at_place disk = ap (λ (n : ℕ). sector_of disk (body_start seal + n)) at.is

has_the_same : (id : List ℕ) (geometry : Geometry) (members : ℕ) (first second : List Bytes) (seal : Seal)
    → HaveEqualBodies members (Some first) (Some second) seal → IsGreatest id geometry (Some second) seal
    → HasThisEntry id geometry second seal (body_in members first seal)
has_the_same id geometry members first second seal equal is = record {
  last = is;
  has_body = λ k within.
      let below : k < size members seal = omega (arith, within, length-body_in members first seal) in
      same_sector members first second seal equal k below ∙ sym (body_in_at members first seal k below);
}

-- How far the last entry is on each journal, by the last seals.
module _ (spellings : Spellings) (from : PutsFrom) (table : Table) (h : History) (loss : IsSingleFailure (slots_of from.base) from.lost h) (latest : Latest)
    (of_set : IsLatestOf table latest)
    (is : IsLatestOn latest from table h) where
  abbrev members : ℕ
  members = table.geometry.members

  abbrev seal : Seal
  seal = latest.seal

  abbrev body : List Bytes
  body = body_in members (seen h latest.source) seal

  -- what reads give is a case that holds
  holds_now : HoldsIn from.devices table from.lists (readable h)
  holds_now = (by_table from.base from.devices table from.lists (record { image = readable h; lost = loss.0 }) is.writes.same_id
      (is.writes.holds loss.0 (readable h) loss.1 (readable_left h)) ((is.writes.chosen loss.0 loss.1).whole (readable h) (readable_left h))).whole

  read : (journal : ℕ) → CountsOn table journal → readable h journal ≡ Some (seen h journal)
  read journal counted = read_is_seen spellings from.devices from.base table from.lost from.lists h is.writes journal counted

  live : (journal : ℕ) → IsJournalOn table journal → IsLiveJournal from.devices table (readable h) journal
  live journal on = record { beyond_members = on.beyond; of_set = on.counted.of_set; live = is.writes.there journal on.counted.of_set on.counted.there }

  -- a journal on which the table counts is in step with the one that has the entry
  in_step : (journal : ℕ) (last : Option Seal) → IsJournalOn table journal → HasLast table h journal last
      → AreInStep members (Some (seen h latest.source)) (Some (seen h journal)) (Some seal) last
  in_step journal last on has =
      subst₂ (λ (c d : Content). AreInStep members c d (Some seal) last) (read latest.source of_set.source.counted) (read journal on.counted)
      (holds_now.in_step latest.source journal (Some seal) last (live latest.source of_set.source) (live journal on)
      (subst (λ (c : Content). IsLastSealed table.id table.geometry c (Some seal)) (sym (read latest.source of_set.source.counted)) is.source)
      (subst (λ (c : Content). IsLastSealed table.id table.geometry c last) (sym (read journal on.counted)) has))

  -- the other journal has it, or awaits it
  module _ (journal : ℕ) (on : IsJournalOn table journal) where
    awaits : (last : Option Seal) → HasLast table h journal last → (seal.number ≡ number_of last + 1) → IsNextOn table.id table.geometry (seen h journal) seal
    awaits last has number = record { id_long = table.id_long; belongs = of_set.belongs; last = last; is_last = has; number = number }

    at_other : (last : Option Seal) → HasLast table h journal last → ((other : Seal) → last ≡ Some other → other.number ≤ seal.number)
        → IsAt (progress_beside (has_number seal.number last)) table h journal seal body
    at_other None has not_later = awaits None has (in_step journal None on has)
    at_other (Some other) has not_later = by_test (other.number == seal.number) refl
      where
        by_test : (b : Bool) → (other.number == seal.number) ≡ b → IsAt (progress_beside b) table h journal seal body
        by_test true same = elim (in_step journal (Some other) on has) [
          | inl both ↦ has_the_same table.id table.geometry members (seen h latest.source) (seen h journal) seal both.1
              (subst (IsGreatest table.id table.geometry (Some (seen h journal))) (sym both.0) has)
          | inr apart ↦ elim apart [
            | inl above ↦ absurd (omega (arith, eqb-true other.number seal.number same, above))
            | inr next ↦ absurd (omega (arith, eqb-true other.number seal.number same, next))
          ]
        ]
        by_test false differ = awaits (Some other) has (elim (in_step journal (Some other) on has) [
          | inl both ↦ absurd (false≢true (sym differ ∙ eq-eqb other.number seal.number (ap (λ (s : Seal). s.number) (sym both.0))))
          | inr apart ↦ elim apart [
            | inl above ↦ absurd (omega (arith, above, not_later other refl))
            | inr next ↦ omega (arith, next)
          ]
        ])

  -- So it comes onto the journals, with the body that reads of its journal give.
  pub comes : IsComing Copied seal body (progress_of latest) from table h
  comes = record {
    writes = is.writes;
    long = length-body_in members (seen h latest.source) seal;
    on_journals = λ journal beyond counted.
        let on : IsJournalOn table journal = record { beyond = beyond; counted = counted } in
        on_reached (λ k. progress_beside (is_on_both latest)) latest.source journal HasSeal (λ (p : Progress). IsAt p table h journal seal body)
        (λ same. subst (λ (k : ℕ). HasThisEntry table.id table.geometry (seen h k) seal body) (sym same)
        (has_its_own table.id table.geometry members (seen h latest.source) seal is.source))
        (λ apart. at_other journal on latest.beside (is.beside journal on apart) (λ other some. (of_set.beside other some).not_later));
    may_stand = record {
      source = latest.source;
      beyond = of_set.source.beyond;
      counted = of_set.source.counted;
      sealed = reached_here (λ k. progress_beside (is_on_both latest)) latest.source HasSeal;
    };
  }

-- An entry that has its seal on each journal is safe there.
pub safe_on_all : (seal : Seal) (body : List Bytes) (journals : ℕ → Progress) (from : PutsFrom) (table : Table) (h : History)
    → IsComing Copied seal body journals from table h
    → ((journal : ℕ) → IsJournalOn table journal → journals journal ≡ HasSeal) → IsPutBefore 0 seal body from table h
safe_on_all seal body journals from table h is sealed = record {
  writes = is.writes;
  long = is.long;
  on_journals = λ journal beyond counted. subst (λ (p : Progress). IsAt p table h journal seal body)
      (sealed journal record { beyond = beyond; counted = counted }) (is.on_journals journal beyond counted);
  on_members = λ member i below. absurd (omega (arith, below));
}

-- Where no journal has an entry, the members hold what they should.
pub none_to_put : Spellings → (from : PutsFrom) (table : Table) (h : History) → AllHaveLast None from table h → IsPut 0 from table h
none_to_put spellings from table h is = record {
  writes = is.writes;
  entry = no_entry_at_rest from.devices table (readable h) record { none = none };
}
  where
    none : (journal : ℕ) → IsLiveJournal from.devices table (readable h) journal → IsLastSealed table.id table.geometry (readable h journal) None
    none journal live =
        let up = live_is_up spellings from.devices table h journal live.live in
        subst (λ (c : Content). IsLastSealed table.id table.geometry c None) (sym (readable_up h journal up))
        (is.on_journals journal record { beyond = live.beyond_members; counted = record { of_set = live.of_set; there = live.live.not_missing } })
