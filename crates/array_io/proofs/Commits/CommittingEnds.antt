-- Once a commit's entry stands on each journal that counts, every case holds for the list after it alone.
use Rattle.std.proofs.Common.{◌≡◌, inl, inr, ℕ, ◌+◌, ◌≤◌, List, [], ◌∷◌, Contains, Option, Some, sym, ◌∙◌, ap, subst, arith}
use Rattle.std.proofs.lemmas.List.Elements.{Contains-push}
use Rattle.sector_model.specs.History.{Bytes, History, Slots, disk_of, seen, sector_of}
use Rattle.sector_model.specs.Readable.{readable}
use Rattle.layout_map.specs.declared.sizes.TheConstants.{FIRST_SEAL}
use Rattle.superblock.specs.declared.table.Table.{Table}
use Rattle.superblock.specs.Cases.{Lost}
use Rattle.superblock.specs.Counted.{Content}
use Rattle.stripe_journal.specs.declared.seal.Seal.{Seal}
use Rattle.stripe_journal.specs.Entries.{body_start}
use Rattle.stripe_journal.specs.OneEntry.{HasThisEntry}
use Rattle.array_io.specs.Steps.Bringing.{CountsOn}
use Rattle.array_io.specs.Laws.Core.{AreJournalsInStep, HasRows}
use Rattle.array_io.specs.Believed.Holds.{IsLiveJournal}
use Rattle.array_io.specs.Steps.Writing.{WritesFrom}
use Rattle.array_io.proofs.Writes.Written.{IsWrittenFrom, KeepsRows}
use Rattle.array_io.proofs.Commits.EntryCalls.{writes_on}
use Rattle.array_io.proofs.Commits.EntryCarried.{Nothing, nothing_keeps}
use Rattle.array_io.proofs.Commits.EntryCommitted.{rows_committed, steps_committed}
use Rattle.array_io.proofs.Commits.EntryPhases.{journal_counts, journal_read, some_journal}
use Rattle.array_io.proofs.Commits.EntrySealing.{StandsSealed}
use Rattle.array_io.proofs.Commits.EntrySteps.{counted_is_up}
use Rattle.array_io.proofs.Images.SayingTheSame.{HaveLiveAlike, same_greatest}
use Rattle.array_io.proofs.Images.Spellings.{Spellings}
use Rattle.array_io.proofs.Writes.Writing.{writing_none}
use Rattle.array_io.proofs.Writes.WritingImages.{written_alive}
use Rattle.array_io.specs.Steps.Putting.{Formed, HasSeal, IsAt, IsComing, IsPutBefore, Origin, Progress, PutsFrom}
use Rattle.array_io.proofs.Commits.PuttingParts.{committed, read_there}

-- where nothing is put, each image keeps its rows, and says one of more lists
more_keeps : (devices : ℕ) (table : Table) (reads : Slots) (X X' : List (List Bytes)) → ((V : List Bytes) → Contains X V → Contains X' V)
    → KeepsRows devices table Nothing reads X X'
more_keeps devices table reads X X' more whole before image from =
    let kept = nothing_keeps devices table reads X whole before image from in
    (record { sound = kept.0.sound; listed = λ rows are. more _ (kept.0.listed rows are) }, kept.1)

-- the set may be written from where it is, with other lists that nothing put keeps
writes_now : Spellings → (devices : ℕ) (base table : Table) (lost : Option Lost) (X X' : List (List Bytes)) (h : History)
    → WritesFrom devices base table lost X h
    → KeepsRows devices table Nothing (readable h) X X' → WritesFrom devices base table lost X' h
writes_now spellings devices base table lost X X' h from keeps =
    writes_on spellings devices base table lost X X' Nothing h h from keeps (writing_none table Nothing h) from.nothing_pending
    (λ slot counted. counted_is_up spellings devices base table lost X h from slot counted)

-- with more lists
pub writes_more : Spellings → (devices : ℕ) (base table : Table) (lost : Option Lost) (X X' : List (List Bytes)) (h : History)
    → ((V : List Bytes) → Contains X V → Contains X' V)
    → WritesFrom devices base table lost X h → WritesFrom devices base table lost X' h
writes_more spellings devices base table lost X X' h more from =
    writes_now spellings devices base table lost X X' h from (more_keeps devices table (readable h) X X' more)

-- what began so, with one list
abbrev pub for_list : PutsFrom → List Bytes → PutsFrom
for_list from V = record { devices = from.devices; base = from.base; lost = from.lost; lists = V ∷ [] }

module _ (spellings : Spellings) (seal : Seal) (body : List Bytes) (journals : ℕ → Progress) (from : PutsFrom) (table : Table) (h : History)
    (list_then : List Bytes) (is : IsComing (Formed list_then) seal body journals from table h)
    (sealed : (journal : ℕ) → table.geometry.members ≤ journal → CountsOn table journal → journals journal ≡ HasSeal) where
  has_entry : (journal : ℕ) → table.geometry.members ≤ journal → CountsOn table journal → HasThisEntry table.id table.geometry (seen h journal) seal body
  has_entry journal beyond counted = subst (λ (p : Progress). IsAt p table h journal seal body) (sealed journal beyond counted)
      (is.on_journals journal beyond counted)

  -- an image in which nothing is put says it

  module _ (whole before image : Slots) (put : IsWrittenFrom from.devices table Nothing (readable h) from.lists whole before image) where
    same : (slot at : ℕ) → sector_of (disk_of (image slot)) at ≡ sector_of (disk_of (before slot)) at
    same slot at = elim ((put.put slot).each at) [
      | inl as_before ↦ as_before
      | inr other ↦ absurd other.1
    ]

    alive : HaveLiveAlike from.devices table image before
    alive = written_alive from.devices table Nothing before image put.put

    on : (journal : ℕ) × IsLiveJournal from.devices table before journal
    on = some_journal from.devices table Nothing (readable h) from.lists whole before image put alive

    counted_on : CountsOn table on.0
    counted_on = journal_counts from.devices table before on.0 on.1

    stands : (at : ℕ) → sector_of (disk_of (image on.0)) at ≡ sector_of (seen h on.0) at
    stands at = same on.0 at
        ∙ ap (λ (c : Content). sector_of (disk_of c) at)
        (journal_read from.devices table Nothing (readable h) from.lists whole before image put alive on.0 on.1
        ∙ read_there spellings seal body from table h (Formed list_then) journals is on.0 counted_on)

    stands_sealed : StandsSealed from.devices table on.0 seal body before image
    stands_sealed =
        let has = has_entry on.0 on.1.beyond_members counted_on in
        record {
          was_live = on.1.live;
          has = record {
            last = same_greatest table.id table.geometry (Some (disk_of (image on.0))) (Some (seen h on.0)) (λ place below. stands (FIRST_SEAL + place)) seal
                has.last;
            has_body = λ k within. stands (body_start seal + k) ∙ has.has_body k within;
          };
          others = λ slot at apart. same slot at;
        }

    says_then : HasRows from.devices table (list_then ∷ []) (IsLiveJournal from.devices table image) image × AreJournalsInStep from.devices table image
    says_then =
        let its = committed spellings seal body from table h (Formed list_then) journals is on.0 list_then is.may_stand in (
          rows_committed from.devices table Nothing (readable h) from.lists whole before image put alive is.may_stand.rows on.0 is.may_stand.sectors seal
              is.may_stand.values body
              on.1.beyond_members on.1.of_set its stands_sealed (list_then ∷ [])
              (subst (Contains (list_then ∷ [])) (sym is.may_stand.gives) (Contains-push [] list_then)),
          steps_committed from.devices table Nothing (readable h) from.lists whole before image put alive is.may_stand.rows on.0 is.may_stand.sectors seal
              is.may_stand.values body
              on.1.beyond_members on.1.of_set its stands_sealed,
        )

  -- so the entry is safe, for that list alone, and no row of it was put yet
  pub sealed_then : IsPutBefore 0 seal body (for_list from list_then) table h
  sealed_then = record {
    writes = writes_now spellings from.devices from.base table from.lost from.lists (list_then ∷ []) h is.writes
        (λ whole before image put. says_then whole before image put);
    long = is.long;
    on_journals = has_entry;
    on_members = λ member i below. absurd (omega (arith, below));
  }

-- and for whatever lists it came
pub sealed_now : (origin : Origin) (seal : Seal) (body : List Bytes) (journals : ℕ → Progress) (from : PutsFrom) (table : Table) (h : History)
    → IsComing origin seal body journals from table h
    → ((journal : ℕ) → table.geometry.members ≤ journal → CountsOn table journal → journals journal ≡ HasSeal) → IsPutBefore 0 seal body from table h
sealed_now origin seal body journals from table h is sealed = record {
  writes = is.writes;
  long = is.long;
  on_journals = λ journal beyond counted. subst (λ (p : Progress). IsAt p table h journal seal body) (sealed journal beyond counted)
      (is.on_journals journal beyond counted);
  on_members = λ member i below. absurd (omega (arith, below));
}
