-- The last entry that was found: whose it is, on which journals it stands, and which entry is the last where its journal is gone.
use Rattle.std.proofs.Common.{◌≡◌, ◌≢◌, ◌⊎◌, inl, inr, ℕ, ◌+◌, ◌%◌, ◌<◌, ◌≤◌, ◌==◌, Bool, true, false, Option, Some, None, refl, sym, ◌∙◌, ap, subst, subst₂}
use Rattle.std.proofs.Common.{arith}
use Rattle.std.specs.Prelude.{IfSome, List, if◌then◌else◌}
use Rattle.std.proofs.lemmas.Bool.{cases_lt, eq-eqb, eqb-true, false≢true}
use Rattle.sector_model.specs.History.{History}
use Rattle.layout_map.specs.declared.geometry.Geometry.{Geometry}
use Rattle.layout_map.specs.declared.sizes.TheConstants.{HALVES}
use Rattle.superblock.specs.declared.state.State.TheVariants.{InSync, Missing}
use Rattle.superblock.specs.declared.table.Table.{Table}
use Rattle.superblock.specs.NextTables.{IsMarked, slots_of}
use Rattle.superblock.specs.Tables.{state_at}
use Rattle.stripe_journal.specs.declared.seal.Seal.{Seal}
use Rattle.stripe_journal.specs.LastSealed.{Belongs}
use Rattle.array_io.specs.Steps.Bringing.{CountsOn}
use Rattle.array_io.specs.Steps.MarkingOn.{IsOutBeside}
use Rattle.array_io.specs.Steps.Putting.{Awaited, HasBody, HasSeal, MayWrite, Progress, PutsFrom, reached}
use Rattle.array_io.specs.Steps.PuttingSteps.{sealed_on}
use Rattle.array_io.proofs.Commits.EntryCopied.{two_journals}
use Rattle.array_io.proofs.Commits.PuttingStates.{on_reached, reached_beside}
use Rattle.array_io.proofs.Marks.MarkingHolds.{missing_then, state_stays}
use Rattle.recovery.specs.declared.latest.Latest.{Latest}
use Rattle.recovery.specs.Replaying.{AllHaveLast, HasLast, IsFoundOn, IsJournalOn, IsStaleJournal, IsLatestBeside, IsLatestBy, IsLatestOf, IsLatestOn}
use Rattle.recovery.specs.Replaying.{IsOtherJournal, IsSealOf, Known, KnowsSeals, also_known, is_on_both, progress_beside, progress_of}

states_differ : ¬ (Missing ≡ InSync)
states_differ e = cc

-- a journal of the set
abbrev IsJournalOf : Table → ℕ → Type 0
IsJournalOf table journal = (table.geometry.members ≤ journal) × (journal < slots_of table)

-- a journal of the set is the one or the other
one_of_two : (table : Table) (journal first second : ℕ) → IsJournalOf table journal → IsJournalOf table first → IsJournalOf table second → first ≢ second
    → (journal ≡ first) ⊎ (journal ≡ second)
one_of_two table journal first second (beyond, of_set) (beyond', of_set') (beyond'', of_set'') apart =
    two_journals table.geometry.members journal first second beyond of_set beyond' of_set' beyond'' of_set'' apart

on_is_of : (table : Table) (journal : ℕ) → IsJournalOn table journal → IsJournalOf table journal
on_is_of table journal on = (on.beyond, on.counted.of_set)

-- what is known of a journal, and of the others
known_here : (known : Known) (journal : ℕ) (last : Option Seal) → also_known known journal last journal ≡ Some last
known_here known journal last = by_test (journal == journal) refl
  where
    by_test : (b : Bool) → (journal == journal) ≡ b → (if b then Some last else known journal) ≡ Some last
    by_test true same = refl
    by_test false differ = absurd (false≢true (sym differ ∙ eq-eqb journal journal refl))

known_beside : (known : Known) (journal k : ℕ) (last : Option Seal) → k ≢ journal → also_known known journal last k ≡ known k
known_beside known journal k last apart = by_test (k == journal) refl
  where
    by_test : (b : Bool) → (k == journal) ≡ b → (if b then Some last else known k) ≡ known k
    by_test true same = absurd (apart (eqb-true k journal same))
    by_test false differ = refl

-- An entry by the last seals of its journal and the other one.
module _ (table : Table) (latest : Latest) (source other : ℕ) (is_source : IsJournalOf table source) (is_other : IsJournalOf table other)
    (apart : source ≢ other) (seal : Seal) (last : Option Seal)
    (same_seal : latest.seal ≡ seal) (same_source : latest.source ≡ source) (same_beside : latest.beside ≡ last)
    (found : IsSealOf table seal × CountsOn table source) where
  of_set_by : IsFoundOn table other last → IfSome last (λ s. s.number ≤ seal.number) → IsLatestOf table latest
  of_set_by beside not_later = record {
    belongs = subst (IsSealOf table) (sym same_seal) found.0;
    source = subst (IsJournalOn table) (sym same_source) (record { beyond = is_source.0; counted = found.1 });
    beside = λ s is.
        let it : last ≡ Some s = sym same_beside ∙ is in
        let its = subst (IsFoundOn table other) it beside in
        record {
          belongs = its.0;
          not_later = subst (λ (t : Seal). s.number ≤ t.number) (sym same_seal)
              (subst (λ (l : Option Seal). IfSome l (λ t. t.number ≤ seal.number)) it not_later);
          counted = λ journal one. elim (one_of_two table journal source other (one.beyond, one.of_set) is_source is_other apart) [
            | inl here ↦ absurd (one.apart (here ∙ sym same_source))
            | inr there ↦ subst (CountsOn table) (sym there) its.1
          ];
        };
  }

  on_by : (from : PutsFrom) (h : History) → MayWrite from table h → HasLast table h source (Some seal) → (IsJournalOn table other → HasLast table h other last)
      → IsLatestOn latest from table h
  on_by from h writes has beside = record {
    writes = writes;
    source = subst₂ (λ (k : ℕ) (s : Seal). HasLast table h k (Some s)) (sym same_source) (sym same_seal) has;
    beside = λ journal on not. elim (one_of_two table journal source other (on_is_of table journal on) is_source is_other apart) [
      | inl here ↦ absurd (not (here ∙ sym same_source))
      | inr there ↦ subst₂ (λ (k : ℕ) (l : Option Seal). HasLast table h k l) (sym there) (sym same_beside) (beside (subst (IsJournalOn table) there on))
    ];
  }

module _ (table : Table) where
  abbrev first : ℕ
  first = table.geometry.members

  abbrev second : ℕ
  second = table.geometry.members + 1

  is_first : IsJournalOf table first
  is_first = (omega arith, omega arith)

  is_second : IsJournalOf table second
  is_second = (omega arith, omega arith)

  differ : first ≢ second
  differ same = absurd (omega (arith, same))

  differ_back : second ≢ first
  differ_back same = absurd (omega (arith, same))

  -- On any bank: the last entry is one of the set, on a journal on which the table counts.
  pub latest_of_set : (lower upper : Option Seal) (latest : Option Latest) → IsFoundOn table first lower → IsFoundOn table second upper
      → IsLatestBy first lower upper latest
      → IfSome latest (λ one. IsLatestOf table one)
  latest_of_set None None None lower upper is = tt
  latest_of_set None None (Some latest) lower upper is = absurd (cc)
  latest_of_set (Some seal) None None lower upper is = tt
  latest_of_set (Some seal) None (Some latest) lower upper (is, some) =
      of_set_by table latest first second is_first is_second differ seal None is.same_seal is.same_source is.alone lower tt tt
  latest_of_set None (Some seal) None lower upper is = tt
  latest_of_set None (Some seal) (Some latest) lower upper (is, some) =
      of_set_by table latest second first is_second is_first differ_back seal None is.same_seal is.same_source is.alone upper tt tt
  latest_of_set (Some a) (Some b) None lower upper is = tt
  latest_of_set (Some a) (Some b) (Some latest) lower upper (is, some) = elim (cases_lt a.number b.number) [
    | inl below ↦
        let parts = is.above below in
        of_set_by table latest second first is_second is_first differ_back b (Some a) parts.0 parts.1 parts.2 upper lower (omega (arith, below))
    | inr least ↦
        let parts = is.not_above least in
        of_set_by table latest first second is_first is_second differ a (Some b) parts.0 parts.1 parts.2 lower upper least
  ]

  -- By the last seals of both journals it is the last entry.
  module _ (from : PutsFrom) (h : History) (lower upper : Option Seal) (writes : MayWrite from table h)
      (on_first : IsJournalOn table first → HasLast table h first lower)
      (on_second : IsJournalOn table second → HasLast table h second upper) (found_first : IsFoundOn table first lower)
      (found_second : IsFoundOn table second upper) where
    pub latest_on : (latest : Latest) → IsLatestBy first lower upper (Some latest) → IsLatestOn latest from table h
    latest_on latest is = by_both lower upper on_first on_second found_first found_second is
      where
        by_both : (a b : Option Seal) → (IsJournalOn table first → HasLast table h first a) → (IsJournalOn table second → HasLast table h second b)
            → IsFoundOn table first a → IsFoundOn table second b
            → IsLatestBy first a b (Some latest) → IsLatestOn latest from table h
        by_both None None on on' found found' is = absurd (cc)
        by_both (Some a) None on on' found found' (is, some) =
            on_by table latest first second is_first is_second differ a None is.same_seal is.same_source is.alone found from h writes
            (on record { beyond = is_first.0; counted = found.1 }) on'
        by_both None (Some b) on on' found found' (is, some) =
            on_by table latest second first is_second is_first differ_back b None is.same_seal is.same_source is.alone found' from h writes
            (on' record { beyond = is_second.0; counted = found'.1 }) on
        by_both (Some a) (Some b) on on' found found' (is, some) = elim (cases_lt a.number b.number) [
          | inl below ↦
              let parts = is.above below in
              on_by table latest second first is_second is_first differ_back b (Some a) parts.0 parts.1 parts.2 found' from h writes
              (on' record { beyond = is_second.0; counted = found'.1 }) on
          | inr least ↦
              let parts = is.not_above least in
              on_by table latest first second is_first is_second differ a (Some b) parts.0 parts.1 parts.2 found from h writes
              (on record { beyond = is_first.0; counted = found.1 }) on'
        ]

    pub none_on : IsLatestBy first lower upper None → AllHaveLast None from table h
    none_on is = by_both lower upper on_first on_second is
      where
        by_both : (a b : Option Seal) → (IsJournalOn table first → HasLast table h first a) → (IsJournalOn table second → HasLast table h second b)
            → IsLatestBy first a b None → AllHaveLast None from table h
        by_both None None on on' is = record {
          writes = writes;
          on_journals = λ journal there. elim (one_of_two table journal first second (on_is_of table journal there) is_first is_second differ) [
            | inl same ↦ subst (λ (k : ℕ). HasLast table h k None) (sym same) (on (subst (IsJournalOn table) same there))
            | inr same ↦ subst (λ (k : ℕ). HasLast table h k None) (sym same) (on' (subst (IsJournalOn table) same there))
          ];
        }
        by_both (Some a) None on on' (is, some) = absurd (cc)
        by_both None (Some b) on on' (is, some) = absurd (cc)
        by_both (Some a) (Some b) on on' (is, some) = absurd (cc)

-- the last entry that was found is the last one, or there is none
abbrev IsLastFound : Option Latest → PutsFrom → Table → History → Type 0
IsLastFound None from table h = AllHaveLast None from table h
IsLastFound (Some latest) from table h = IsLatestOn latest from table h

-- Once the last seals of both journals are known, so is the last entry.
module _ (table : Table) (lower upper : Option Seal) where
  abbrev Tells : ℕ → Type 0
  Tells n = (found : Option Latest) → IsFoundOn table n lower → IsFoundOn table (n + 1) upper → IsLatestBy n lower upper found
      → IfSome found (λ one. IsLatestOf table one) × ((from : PutsFrom) (h : History)
      → KnowsSeals (also_known (also_known (λ k. None) n lower) (n + 1) upper) from table h → IsLastFound found from table h)

  tells : Tells table.geometry.members
  tells found on_lower on_upper by = (latest_of_set table lower upper found on_lower on_upper by, λ from h knows. by_found found by from h knows)
    where
      both : Known
      both = also_known (also_known (λ k. None) table.geometry.members lower) (table.geometry.members + 1) upper

      known_lower : both table.geometry.members ≡ Some lower
      known_lower = known_beside (also_known (λ k. None) table.geometry.members lower) (table.geometry.members + 1) table.geometry.members upper (differ table)
          ∙ known_here (λ k. None) table.geometry.members lower

      known_upper : both (table.geometry.members + 1) ≡ Some upper
      known_upper = known_here (also_known (λ k. None) table.geometry.members lower) (table.geometry.members + 1) upper

      by_found : (one : Option Latest) → IsLatestBy table.geometry.members lower upper one → (from : PutsFrom) (h : History) → KnowsSeals both from table h
          → IsLastFound one from table h
      by_found None is from h knows = none_on table from h lower upper knows.writes (knows.last table.geometry.members lower known_lower)
          (knows.last (table.geometry.members + 1) upper known_upper) on_lower on_upper is
      by_found (Some latest) is from h knows =
          latest_on table from h lower upper knows.writes (knows.last table.geometry.members lower known_lower)
          (knows.last (table.geometry.members + 1) upper known_upper) on_lower on_upper latest is

  pub seals_tell : (n : ℕ) → table.geometry.members ≡ n → Tells n
  seals_tell n same = subst Tells same tells

-- a seal that was found on a journal is one there still, where the table says the same of it
pub found_still : (table new_table : Table) (journal : ℕ) (last : Option Seal) → new_table.id ≡ table.id → new_table.geometry ≡ table.geometry
    → state_at new_table.states journal ≡ state_at table.states journal → IsFoundOn table journal last → IsFoundOn new_table journal last
found_still table new_table journal None same_id same_geometry same found = tt
found_still table new_table journal (Some seal) same_id same_geometry same (belongs, counted) = (
  subst₂ (λ (id : List ℕ) (g : Geometry). Belongs id g (seal.number % HALVES) seal) (sym same_id) (sym same_geometry) belongs,
  record {
    of_set = subst (λ (g : Geometry). journal < g.members + 2) (sym same_geometry) counted.of_set;
    there = λ gone. counted.there (sym same ∙ gone);
  },
)

-- the journal that has the last entry is gone

module _ (table new_table : Table) (latest other : Latest) (of_set : IsLatestOf table latest) (marked : IsMarked table latest.source new_table)
    (is : IsLatestBeside new_table latest (Some other)) where
  same_set : slots_of new_table ≡ slots_of table
  same_set = ap (λ (g : Geometry). g.members + 2) marked.same_geometry

  -- it counts no more
  pub source_gone : state_at new_table.states latest.source ≡ Missing
  source_gone = missing_then table new_table latest.source marked of_set.source.counted.of_set

  pub was_source : IsJournalOf new_table latest.source
  was_source = (
    subst (λ (g : Geometry). g.members ≤ latest.source) (sym marked.same_geometry) of_set.source.beyond,
    subst (λ (n : ℕ). latest.source < n) (sym same_set) of_set.source.counted.of_set,
  )

  was_other : IsOtherJournal table latest.source other.source
  was_other = record {
    beyond = subst (λ (g : Geometry). g.members ≤ other.source) marked.same_geometry is.1.beyond;
    of_set = subst (λ (n : ℕ). other.source < n) same_set is.1.of_set;
    apart = is.1.apart;
  }

  -- the entry of the other journal is one of the set, and the table counts on that journal
  pub beside_of_set : IsLatestOf new_table other
  beside_of_set =
      let its = of_set.beside other.seal is.0 in
      record {
        belongs = subst₂ (λ (id : List ℕ) (g : Geometry). Belongs id g (other.seal.number % HALVES) other.seal) (sym marked.same_id) (sym marked.same_geometry)
            its.belongs;
        source = record {
          beyond = is.1.beyond;
          counted = record {
            of_set = is.1.of_set;
            there = λ gone. (its.counted other.source was_other).there (sym (state_stays table new_table latest.source marked other.source is.1.apart) ∙ gone);
          };
        };
        beside = λ seal some. absurd (none_some seal (sym is.2 ∙ some));
      }
    where
      none_some : (seal : Seal) → ¬ (None ≡ Some seal)
      none_some seal e = cc

  -- and so it is the last one
  pub beside_on : (from : PutsFrom) (h : History) → AllHaveLast latest.beside from new_table h → IsLatestOn other from new_table h
  beside_on from h all = record {
    writes = all.writes;
    source = subst (HasLast new_table h other.source) is.0 (all.on_journals other.source beside_of_set.source);
    beside = λ journal on not. elim (one_of_two new_table journal latest.source other.source (on_is_of new_table journal on) was_source
        (is.1.beyond, is.1.of_set) (λ same. is.1.apart (sym same))) [
          | inl here ↦ absurd (on.counted.there (subst (λ (k : ℕ). state_at new_table.states k ≡ Missing) (sym here) source_gone))
          | inr there ↦ absurd (not there)
        ];
  }

  -- where it goes too, two are lost
  pub beside_alone : IsOutBeside new_table other.source
  beside_alone = record {
    other = latest.source;
    out = record { of_set = was_source.1; out = λ in_sync. states_differ (sym source_gone ∙ in_sync) };
    apart = λ same. is.1.apart (sym same);
  }

-- which journal is stale

-- none does: all have it
pub no_journal_is_stale : (table : Table) (latest : Latest) → IsStaleJournal table latest None → (journal : ℕ) → IsJournalOn table journal
    → progress_of latest journal ≡ HasSeal
no_journal_is_stale table latest none journal on = on_reached (λ k. progress_beside (is_on_both latest)) latest.source journal HasSeal
    (λ (p : Progress). p ≡ HasSeal) (λ same. refl)
    (λ apart. ap progress_beside (none journal on apart))

-- one does: it awaits the entry, and once it has that, all have it
module _ (table : Table) (latest : Latest) (journal : ℕ) (of_set : IsLatestOf table latest) (is_stale : IsStaleJournal table latest (Some journal)) where
  pub stale_journal_awaits : progress_of latest journal ≡ Awaited
  stale_journal_awaits = reached_beside (λ k. progress_beside (is_on_both latest)) latest.source HasSeal journal is_stale.0.apart
      ∙ ap progress_beside is_stale.1

  pub then_sealed : (new_table : Table) → new_table.geometry ≡ table.geometry → (k : ℕ) → IsJournalOn new_table k
      → sealed_on (progress_of latest) journal k ≡ HasSeal
  then_sealed new_table same_geometry k on = on_reached (reached (progress_of latest) journal HasBody) journal k HasSeal (λ (p : Progress). p ≡ HasSeal)
      (λ same. refl)
      (λ apart. reached_beside (progress_of latest) journal HasBody k apart ∙ here apart)
    where
      is_of : IsJournalOf table k
      is_of = (subst (λ (g : Geometry). g.members ≤ k) same_geometry on.beyond, subst (λ (g : Geometry). k < g.members + 2) same_geometry on.counted.of_set)

      here : k ≢ journal → progress_of latest k ≡ HasSeal
      here apart = on_reached (λ n. progress_beside (is_on_both latest)) latest.source k HasSeal (λ (p : Progress). p ≡ HasSeal) (λ same. refl)
          (λ not. elim (one_of_two table k latest.source journal is_of (on_is_of table latest.source of_set.source) (is_stale.0.beyond, is_stale.0.of_set)
          (λ same. is_stale.0.apart (sym same))) [
            | inl same ↦ absurd (not same)
            | inr same ↦ absurd (apart same)
          ])
