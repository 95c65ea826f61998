-- The last entry of live journals that all have one last seal, and the rows by it.
use Rattle.std.proofs.Common.{◌≡◌, ◌≢◌, inl, inr, ℕ, ◌+◌, ◌<◌, ◌≤◌, Option, Some, None, refl, sym, ◌∙◌, subst, arith}
use Rattle.std.proofs.lemmas.Bool.{cases_eq}
use Rattle.std.proofs.lemmas.Option.{same_Some}
use Rattle.sector_model.specs.History.{Slots}
use Rattle.superblock.specs.declared.state.State.TheVariants.{Missing}
use Rattle.superblock.specs.declared.table.Table.{Table}
use Rattle.superblock.specs.Tables.{state_at}
use Rattle.superblock.specs.Counted.{IsLive}
use Rattle.superblock.specs.NextTables.{slots_of}
use Rattle.stripe_journal.specs.declared.seal.Seal.{Seal}
use Rattle.stripe_journal.specs.LastEntry.{Entry, IsLastEntry, IsLastSealed, IsLatest, sector_of_last}
use Rattle.degraded.specs.RowValue.{Rows}
use Rattle.array_io.specs.Believed.Holds.{AreRowsOf, IsLiveJournal}
use Rattle.array_io.specs.Laws.Law.{AreAlike}
use Rattle.array_io.specs.Believed.Settled.{rows_by}
use Rattle.array_io.proofs.Rest.AtRestLost.{rest_decided}
use Rattle.array_io.proofs.Rest.AtRestRows.{IsRestImage, alike_at_rest, table_tells}
use Rattle.array_io.proofs.Rest.EntryAtRest.{sealed_is_one}
use Rattle.array_io.proofs.Images.Spellings.{Spellings}

-- every live journal of the image has this last seal, and what the table counts on is there
pub record HasOneLast (devices : ℕ) (table : Table) (image : Slots) : Type 0 where
  pub last : Option Seal
  pub sealed : (journal : ℕ) → IsLiveJournal devices table image journal → IsLastSealed table.id table.geometry (image journal) last
  pub there : (slot : ℕ) → slot < slots_of table → state_at table.states slot ≢ Missing → IsLive devices table slot (image slot)

module _ (spellings : Spellings) (devices : ℕ) (table : Table) (image : Slots) (one : HasOneLast devices table image) where
  -- the last seal on the lowest live journal is the last entry
  latest_on : (journal : ℕ) (seal : Seal) → one.last ≡ Some seal → IsLiveJournal devices table image journal
      → ((other : ℕ) → IsLiveJournal devices table image other → journal ≤ other)
      → IsLatest table.id table.geometry (IsLiveJournal devices table image) image (record { journal = journal; seal = seal })
  latest_on journal seal is live lowest = record {
    on_live = live;
    sealed = subst (IsLastSealed table.id table.geometry (image journal)) is (one.sealed journal live);
    greatest = λ other found there greatest.
        let same : found ≡ seal = same_seal (sealed_is_one spellings table.id table.geometry (image other) (Some found) one.last greatest
        (one.sealed other there)) in
        subst (λ (s : Seal). s.number ≤ seal.number) (sym same) (omega arith);
    lowest = λ other found there greatest equal. lowest other there;
  }
    where
      same_seal : {found : Seal} → Some found ≡ one.last → found ≡ seal
      same_seal found_is = same_Some _ seal (found_is ∙ is)

  -- no journal is live where neither of the two is
  none_live : ¬ IsLive devices table table.geometry.members (image table.geometry.members)
      → ¬ IsLive devices table (table.geometry.members + 1) (image (table.geometry.members + 1))
      → (journal : ℕ) → ¬ IsLiveJournal devices table image journal
  none_live first second journal live = elim (cases_eq journal table.geometry.members) [
    | inl same ↦ first (subst (λ (j : ℕ). IsLive devices table j (image j)) same live.live)
    | inr apart ↦
        let same : journal ≡ table.geometry.members + 1 = omega (arith, apart, live.beyond_members, live.of_set) in
        second (subst (λ (j : ℕ). IsLive devices table j (image j)) same live.live)
  ]

  -- where the first is not live, each live journal is older
  past_first : ¬ IsLive devices table table.geometry.members (image table.geometry.members) → (journal : ℕ) → IsLiveJournal devices table image journal
      → table.geometry.members + 1 ≤ journal
  past_first first journal live = elim (cases_eq journal table.geometry.members) [
    | inl same ↦ absurd (first (subst (λ (j : ℕ). IsLive devices table j (image j)) same live.live))
    | inr apart ↦ omega (arith, apart, live.beyond_members)
  ]

  -- the last entry of the live journals
  abbrev HasLast : Type 0
  HasLast = (last : Option Entry) × IsLastEntry table.id table.geometry (IsLiveJournal devices table image) image last

  has_last : (last : Option Seal) → one.last ≡ last → HasLast
  has_last None is = (
    None,
    λ journal place seal live.
        subst (IsLastSealed table.id table.geometry (image journal)) is (one.sealed journal live) place seal,
  )
  has_last (Some seal) is = elim (rest_decided devices table image one.there table.geometry.members) [
    | inl first ↦ (
      Some (record { journal = table.geometry.members; seal = seal }),
      latest_on table.geometry.members seal is (record { beyond_members = omega arith; of_set = omega arith; live = first })
          (λ other live. live.beyond_members),
    )
    | inr first ↦ elim (rest_decided devices table image one.there (table.geometry.members + 1)) [
      | inl second ↦ (
        Some (record { journal = table.geometry.members + 1; seal = seal }),
        latest_on (table.geometry.members + 1) seal is (record { beyond_members = omega arith; of_set = omega arith; live = second })
            (past_first first),
      )
      | inr second ↦ (None, λ journal place found live. absurd (none_live first second journal live))
    ]
  ]

  its_last : HasLast
  its_last = has_last one.last refl

  -- the rows by it
  pub entry_rows : Rows
  entry_rows = record {
    members = table.geometry.members;
    entry = λ row member. sector_of_last table.geometry.members image its_last.0 row member;
    trusted = (rows_by table image).trusted;
    own = (rows_by table image).own;
  }

  -- the image has these rows
  pub last_rows : AreRowsOf devices table image entry_rows
  unfolding entry_rows
  last_rows = record {
    width = refl;
    own_sector = λ row member within. refl;
    trust = λ row member within. table_tells devices table image one.there row member within;
    last = its_last.0;
    is_last = its_last.1;
    in_entry = λ row member. refl;
  }

-- an image at rest has one last seal
pub rest_last : (devices : ℕ) (table : Table) (number : ℕ) (reads image : Slots) → IsRestImage devices table number reads image → HasOneLast devices table image
rest_last devices table number reads image rest = record { last = rest.entry.last; sealed = rest.entry.sealed; there = rest.live }

module _ (spellings : Spellings) (devices : ℕ) (table : Table) (number : ℕ) (reads : Slots) (rest : IsRestImage devices table number reads reads) where
  -- the rows of what reads give, by its last entry
  pub reads_by : Rows
  reads_by = entry_rows spellings devices table reads (rest_last devices table number reads reads rest)

  pub reads_rows : AreRowsOf devices table reads reads_by
  unfolding reads_by
  reads_rows = last_rows spellings devices table reads (rest_last devices table number reads reads rest)

  -- they say what the members do without the entry
  pub reads_alike : AreAlike table (rows_by table reads) reads_by
  reads_alike = alike_at_rest spellings devices table number reads reads rest (IsLiveJournal devices table reads) (λ journal live. live) reads_by reads_rows
