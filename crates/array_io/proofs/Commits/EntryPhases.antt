-- What an image says while an entry comes onto journals and members: step by step, each from a state in which nothing is pending.
use Rattle.std.proofs.Common.{◌≡◌, ◌≢◌, ◌⊎◌, inl, inr, ℕ, ◌+◌, ◌%◌, ◌<◌, ◌≤◌, true, List, length, Option, Some, None, sym, ◌∙◌, ap, subst, arith}
use Rattle.std.proofs.lemmas.Bool.{cases_eq}
use Rattle.std.proofs.lemmas.Option.{none-some}
use Rattle.sector_model.specs.History.{Bytes, Slots, disk_of, sector_of}
use Rattle.sector_model.specs.Moments.{Contents}
use Rattle.layout_map.specs.declared.sizes.TheConstants.{FIRST_ROW, FIRST_SEAL, HALVES}
use Rattle.superblock.specs.declared.table.Table.{Table}
use Rattle.superblock.specs.Tables.{state_at}
use Rattle.superblock.specs.Counted.{Content, IsLive}
use Rattle.superblock.specs.NextTables.{slots_of}
use Rattle.stripe_journal.specs.declared.seal.Seal.{Seal}
use Rattle.stripe_journal.specs.Body.{place_in}
use Rattle.stripe_journal.specs.Forms.{format_of, holds, rows_in}
use Rattle.stripe_journal.specs.LastEntry.{Entry, IsGreatest, IsLastEntry, sector_of_last}
use Rattle.stripe_journal.specs.OneEntry.{IsInHalf}
use Rattle.stripe_journal.specs.Seals.{row_at}
use Rattle.stripe_journal.proofs.Bodies.{in_own_half}
use Rattle.stripe_journal.proofs.EntrySectors.{some_sector}
use Rattle.stripe_journal.proofs.LastOfOne.{greatest_is_one}
use Rattle.stripe_journal.proofs.Places.{place_of_row}
use Rattle.layout_map.specs.declared.format.Format.{Format}
use Rattle.layout_map.specs.Formats.{body_sectors}
use Rattle.stripe_journal.specs.Entries.{half_start}
use Rattle.stripe_journal.proofs.Halves.{one_half, start_least}
use Rattle.array_io.specs.Steps.Bringing.{CountsOn}
use Rattle.array_io.specs.Laws.Core.{AreJournalsInStep, HasRows}
use Rattle.array_io.specs.Believed.Holds.{IsLiveJournal}
use Rattle.array_io.proofs.Writes.Written.{IsWrittenFrom}
use Rattle.array_io.proofs.Rest.AtRestLost.{state_missing}
use Rattle.array_io.proofs.Images.SayingTheSame.{HaveLiveAlike, SayTheSame, says_the_same, steps_the_same}

-- a sector on a member, in a row of which the entry of a seal holds the member's sector
abbrev pub IsRowSector : (members : ℕ) → Seal → (device at : ℕ) → Type 0
IsRowSector members seal device at = (device < members)
    × ((i : ℕ) × (i < length (rows_in seal.form)) × (holds members seal.form i device ≡ true) × (at ≡ FIRST_ROW + row_at (rows_in seal.form) i))

-- a live journal is a slot that the table counts on
pub journal_counts : (devices : ℕ) (table : Table) (image : Slots) (journal : ℕ) → IsLiveJournal devices table image journal → CountsOn table journal
journal_counts devices table image journal live = record { of_set = live.of_set; there = live.live.not_missing }

module _ (devices : ℕ) (table : Table) (puts : Contents) (reads : Slots) (X : List (List Bytes)) (whole before image : Slots)
    (from : IsWrittenFrom devices table puts reads X whole before image) (alive : HaveLiveAlike devices table image before) where
  -- what was live in a slot is what reads gave
  pub is_read : (slot : ℕ) → CountsOn table slot → IsLive devices table slot (before slot) → before slot ≡ reads slot
  is_read slot counted live = elim (cases_eq slot from.out) [
    | inr apart ↦ from.others slot apart ∙ from.read slot counted
    | inl same ↦ elim from.here [
      | inl is ↦ ap before same ∙ is ∙ sym (ap whole same) ∙ from.read slot counted
      | inr out ↦ absurd (out (subst (λ (k : ℕ). IsLive devices table k (before k)) same live))
    ]
  ]

  -- a live journal's content is what reads gave
  pub journal_read : (journal : ℕ) → IsLiveJournal devices table before journal → before journal ≡ reads journal
  journal_read journal live = is_read journal (journal_counts devices table before journal live) live.live

  -- it was live, or another slot is the one that is out
  pub live_or_out : (slot : ℕ) → CountsOn table slot → IsLive devices table slot (before slot) ⊎ ((from.out ≡ slot) × ¬ IsLive devices table slot (before slot))
  live_or_out slot counted = elim (cases_eq slot from.out) [
    | inr apart ↦ inl (subst (IsLive devices table slot) (sym (from.others slot apart ∙ from.read slot counted)) (from.there slot counted))
    | inl same ↦ elim from.here [
      | inl is ↦ inl (subst (IsLive devices table slot) (sym (ap before same ∙ is ∙ sym (ap whole same) ∙ from.read slot counted)) (from.there slot counted))
      | inr out ↦ inr (sym same, subst (λ (k : ℕ). ¬ IsLive devices table k (before k)) (sym same) out)
    ]
  ]

  pub live_or_not : (slot : ℕ) → slot < slots_of table → IsLive devices table slot (before slot) ⊎ ¬ IsLive devices table slot (before slot)
  live_or_not slot of_set = elim (state_missing (state_at table.states slot)) [
    | inl missing ↦ inr (λ live. live.not_missing missing)
    | inr there ↦ elim (live_or_out slot record { of_set = of_set; there = there }) [
      | inl live ↦ inl live
      | inr out ↦ inr out.1
    ]
  ]

  journal_at : (slot : ℕ) → table.geometry.members ≤ slot → slot < slots_of table → IsLive devices table slot (before slot)
      → IsLiveJournal devices table before slot
  journal_at slot beyond of_set live = record { beyond_members = beyond; of_set = of_set; live = live }

  -- one of the two journals was live
  pub some_journal : (journal : ℕ) × IsLiveJournal devices table before journal
  some_journal = elim (live_or_not table.geometry.members (omega arith)) [
    | inl live ↦ (table.geometry.members, journal_at table.geometry.members (omega arith) (omega arith) live)
    | inr out ↦ elim (live_or_not (table.geometry.members + 1) (omega arith)) [
      | inl live ↦ (table.geometry.members + 1, journal_at (table.geometry.members + 1) (omega arith) (omega arith) live)
      | inr also ↦
          let same : table.geometry.members ≡ table.geometry.members + 1 =
          from.holds.one_out table.geometry.members (table.geometry.members + 1) (omega arith) (omega arith) (λ full. out full.live) (λ full. also full.live) in
          absurd (omega (arith, same))
    ]
  ]

  -- Sectors of a half of one journal were written, in which its last entry has no body.
  pub half_says : (journal : ℕ) (next : Seal) → format_of next.form ≡ table.geometry.format → table.geometry.members ≤ journal
      → ((device at : ℕ) (value : Bytes) → puts device at value → (device ≡ journal) × IsInHalf next at)
      → ((seal : Seal) → IsGreatest table.id table.geometry (reads journal) seal → seal.number % HALVES ≢ next.number % HALVES)
      → SayTheSame devices table image before
  half_says journal next format beyond only apart = record {
    alive = alive;
    seals = λ j place below live. elim ((from.put j).each (FIRST_SEAL + place)) [
      | inl same ↦ same
      | inr put ↦ absurd (omega (arith, below, (only j (FIRST_SEAL + place) (sector_of (disk_of (image j)) (FIRST_SEAL + place)) put.1).1.0, start_least next))
    ];
    bodies = λ j seal live is row member place below found. elim ((from.put j).each place) [
      | inl same ↦ same
      | inr put ↦
          let where_it_is = only j place (sector_of (disk_of (image j)) place) put.1 in
          let here : reads j ≡ reads journal = ap reads where_it_is.0 in
          let last = subst (λ (c : Content). IsGreatest table.id table.geometry c seal) (journal_read j live ∙ here) is in
          let same : format_of seal.form ≡ format_of next.form = last.counted.belongs.of_format ∙ sym format in
          let half = subst (λ (f : Format). (half_start f seal.number ≤ place) × (place < half_start f seal.number + body_sectors f)) same
          (in_own_half table.geometry.members seal row member place table.geometry.limits.members_most below found) in
          absurd (apart seal last (one_half (format_of next.form) seal.number next.number place half.0 half.1 where_it_is.1.0 where_it_is.1.1))
    ];
    owns = λ last is row member below within none trusted. elim ((from.put member).each (FIRST_ROW + row)) [
      | inl same ↦ same
      | inr put ↦ absurd (omega (arith, beyond, within, (only member (FIRST_ROW + row) (sector_of (disk_of (image member)) (FIRST_ROW + row)) put.1).0))
    ];
  }

  -- Sectors of members were written that the last entry of each live journal holds.
  pub rows_say : (seal : Seal) → ((device at : ℕ) (value : Bytes) → puts device at value → IsRowSector table.geometry.members seal device at)
      → ((journal : ℕ) → table.geometry.members ≤ journal → CountsOn table journal → IsGreatest table.id table.geometry (reads journal) seal)
      → SayTheSame devices table image before
  rows_say seal only says = record {
    alive = alive;
    seals = λ j place below live. elim ((from.put j).each (FIRST_SEAL + place)) [
      | inl same ↦ same
      | inr put ↦ absurd (no_member j live (only j (FIRST_SEAL + place) (sector_of (disk_of (image j)) (FIRST_SEAL + place)) put.1).0)
    ];
    bodies = λ j last live is row member place below found. elim ((from.put j).each place) [
      | inl same ↦ same
      | inr put ↦ absurd (no_member j live (only j place (sector_of (disk_of (image j)) place) put.1).0)
    ];
    owns = λ last is row member below within none trusted. elim ((from.put member).each (FIRST_ROW + row)) [
      | inl same ↦ same
      | inr put ↦
          absurd (not_in_entry last is row member within none
          (only member (FIRST_ROW + row) (sector_of (disk_of (image member)) (FIRST_ROW + row)) put.1).1)
    ];
  }
    where
      no_member : (j : ℕ) → IsLiveJournal devices table before j → ¬ (j < table.geometry.members)
      no_member j live below = absurd (omega (arith, below, live.beyond_members))

      its_seal : (j : ℕ) → IsLiveJournal devices table before j → IsGreatest table.id table.geometry (before j) seal
      its_seal j live = subst (λ (c : Content). IsGreatest table.id table.geometry c seal) (sym (journal_read j live))
          (says j live.beyond_members (journal_counts devices table before j live))

      same_row : (row other : ℕ) → FIRST_ROW + row ≡ FIRST_ROW + other → row ≡ other
      same_row row other is = omega (arith, is)

      -- the last entry has each of these sectors
      not_in_entry : (last : Option Entry) → IsLastEntry table.id table.geometry (IsLiveJournal devices table before) before last → (row member : ℕ)
          → member < table.geometry.members → sector_of_last table.geometry.members before last row member ≡ None
          → ¬ ((i : ℕ) × (i < length (rows_in seal.form)) × (holds table.geometry.members seal.form i member ≡ true)
          × (FIRST_ROW + row ≡ FIRST_ROW + row_at (rows_in seal.form) i))
      not_in_entry None none row member below is_none found =
          let its = its_seal some_journal.0 some_journal.1 in
          absurd (none some_journal.0 its.place seal some_journal.1 its.counted)
      not_in_entry (Some entry) latest row member below is_none (i, within, held, is) =
          let one : entry.seal ≡ seal = greatest_is_one table.id table.geometry (before entry.journal) entry.seal seal table.id_long latest.sealed
          (its_seal entry.journal latest.on_live) in
          let place : place_in (rows_in entry.seal.form) row ≡ Some i =
          ap (λ (s : Seal). place_in (rows_in s.form) row) one ∙ ap (λ (r : ℕ). place_in (rows_in seal.form) r) (same_row row (row_at (rows_in seal.form) i) is)
          ∙ place_of_row (rows_in seal.form) i seal.allowed.rows.rising within in
          let its_held : holds table.geometry.members entry.seal.form i member ≡ true = ap (λ (s : Seal). holds table.geometry.members s.form i member) one
          ∙ held in
          let its = some_sector table.geometry.members (before entry.journal) entry.seal row i member place below its_held in
          absurd (none-some its.0 (sym is_none ∙ its.1))

  -- so every image keeps its rows
  pub half_keeps : (journal : ℕ) (next : Seal) → format_of next.form ≡ table.geometry.format → table.geometry.members ≤ journal
      → ((device at : ℕ) (value : Bytes) → puts device at value → (device ≡ journal) × IsInHalf next at)
      → ((seal : Seal) → IsGreatest table.id table.geometry (reads journal) seal → seal.number % HALVES ≢ next.number % HALVES)
      → HasRows devices table X (IsLiveJournal devices table image) image × AreJournalsInStep devices table image
  half_keeps journal next format beyond only apart =
      let same = half_says journal next format beyond only apart in (
        says_the_same devices table image before same X record { sound = from.holds.sound; listed = from.holds.listed },
        steps_the_same devices table image before same from.holds.in_step,
      )

  pub rows_keep : (seal : Seal) → ((device at : ℕ) (value : Bytes) → puts device at value → IsRowSector table.geometry.members seal device at)
      → ((journal : ℕ) → table.geometry.members ≤ journal → CountsOn table journal → IsGreatest table.id table.geometry (reads journal) seal)
      → HasRows devices table X (IsLiveJournal devices table image) image × AreJournalsInStep devices table image
  rows_keep seal only says =
      let same = rows_say seal only says in (
        says_the_same devices table image before same X record { sound = from.holds.sound; listed = from.holds.listed },
        steps_the_same devices table image before same from.holds.in_step,
      )
