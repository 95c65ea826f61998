-- How far an entry is on a set, and that it stays so elsewhere: over a step on one slot, when its device fails and the slot is marked missing, and where it is
-- passed over.
use Rattle.std.proofs.Common.{◌≡◌, ◌≢◌, ◌⊎◌, inl, inr, ℕ, ◌+◌, ◌<◌, ◌≤◌, ◌==◌, Bool, true, false, List, [], length, Some, refl, sym, ◌∙◌, ap, subst}
use Rattle.std.proofs.Common.{subst₂, arith}
use Rattle.std.specs.Prelude.{if◌then◌else◌, slice_index_or}
use Rattle.std.proofs.lemmas.Bool.{cases_eq, eq-eqb, eqb-true, false≢true}
use Rattle.sector_model.specs.History.{Bytes, History, seen, sector_of}
use Rattle.layout_map.specs.declared.geometry.Geometry.{Geometry}
use Rattle.layout_map.specs.Placement.{rows_of}
use Rattle.layout_map.specs.declared.sizes.TheConstants.{FIRST_ROW, FIRST_SEAL, SUPERBLOCK_PLACES}
use Rattle.superblock.specs.declared.table.Table.{Table}
use Rattle.superblock.specs.Tables.{state_at}
use Rattle.stripe_journal.specs.declared.seal.Seal.{Seal}
use Rattle.stripe_journal.specs.Entries.{body_start}
use Rattle.stripe_journal.specs.Forms.{holds, rows_in}
use Rattle.stripe_journal.specs.OneEntry.{HasThisEntry, IsNextOn}
use Rattle.stripe_journal.specs.Seals.{row_at}
use Rattle.degraded.specs.RowValue.{AreSound, logical_list, value}
use Rattle.stripe_journal.proofs.Halves.{start_least}
use Rattle.array_io.specs.Believed.ArrayCalls.{written}
use Rattle.array_io.specs.Believed.Holds.{row_count}
use Rattle.array_io.specs.Believed.Settled.{trusts}
use Rattle.array_io.specs.Steps.Bringing.{CountsOn}
use Rattle.array_io.specs.Steps.Forming.{IsFormed}
use Rattle.array_io.specs.Steps.Putting.{Awaited, Copied, Formed, HasBody, HasOrigin, HasSeal, HasSource, IsAt, IsBodyLong, IsComing, IsFormedOn, IsPutBefore}
use Rattle.array_io.specs.Steps.Putting.{MayWrite, Origin, Progress, PutsFrom, StandsBody, LacksSector, held_sector, reached}
use Rattle.array_io.proofs.Rest.AtRestRows.{trusts_tells}
use Rattle.array_io.proofs.Laws.Beginning.{live_is_up}
use Rattle.array_io.proofs.Commits.EntryCarried.{CountsOnNoMore, counts_on_the_same, marked_goes_on}
use Rattle.array_io.proofs.Commits.EntrySteps.{IsStepOf}
use Rattle.array_io.proofs.Marks.FailedMarked.{MarkedOn}
use Rattle.array_io.proofs.Marks.MarkingHolds.{missing_then, state_stays}
use Rattle.array_io.proofs.Images.SayingTheSame.{same_greatest, same_sealed}
use Rattle.array_io.proofs.Images.Spellings.{Spellings}

-- what is reached on one journal, and on the others
pub on_reached : (journals : ℕ → Progress) (journal k : ℕ) (progress : Progress) (P : Progress → Type 0) → (k ≡ journal → P progress)
    → (k ≢ journal → P (journals k))
    → P (reached journals journal progress k)
on_reached journals journal k progress P here beside = by_test (k == journal) refl
  where
    by_test : (b : Bool) → (k == journal) ≡ b → P (if b then progress else journals k)
    by_test true is = here (eqb-true k journal is)
    by_test false is = beside (λ same. absurd (false≢true (sym is ∙ eq-eqb k journal same)))

pub reached_beside : (journals : ℕ → Progress) (journal : ℕ) (progress : Progress) (k : ℕ) → k ≢ journal → reached journals journal progress k ≡ journals k
reached_beside journals journal progress k apart = on_reached journals journal k progress (λ (p : Progress). p ≡ journals k) (λ same. absurd (apart same))
    (λ other. refl)

pub reached_here : (journals : ℕ → Progress) (journal : ℕ) (progress : Progress) → reached journals journal progress journal ≡ progress
reached_here journals journal progress = on_reached journals journal journal progress (λ (p : Progress). p ≡ progress) (λ same. refl)
    (λ apart. absurd (apart refl))

-- How far the entry is on a journal stays, where that has the same sectors after the superblocks, by a table of the same set.
module _ (old_table new_table : Table) (old new : History) (journal : ℕ) (seal : Seal) (body : List Bytes) (same_id : new_table.id ≡ old_table.id)
    (same_geometry : new_table.geometry ≡ old_table.geometry)
    (same : (at : ℕ) → SUPERBLOCK_PLACES ≤ at → sector_of (seen new journal) at ≡ sector_of (seen old journal) at) where
  next_beyond : IsNextOn old_table.id old_table.geometry (seen old journal) seal → IsNextOn new_table.id new_table.geometry (seen new journal) seal
  next_beyond next = subst₂ (λ (id : List ℕ) (g : Geometry). IsNextOn id g (seen new journal) seal) (sym same_id) (sym same_geometry) here
    where
      here : IsNextOn old_table.id old_table.geometry (seen new journal) seal
      here = record {
        id_long = next.id_long;
        belongs = next.belongs;
        last = next.last;
        is_last = same_sealed old_table.id old_table.geometry (Some (seen new journal)) (Some (seen old journal))
            (λ place below. same (FIRST_SEAL + place) (omega arith)) next.last next.is_last;
        number = next.number;
      }

  body_beyond : StandsBody old journal seal body → StandsBody new journal seal body
  body_beyond stood = record { stands = λ k within. same (body_start seal + k) (omega (arith, start_least seal)) ∙ stood.stands k within }

  pub entry_beyond : HasThisEntry old_table.id old_table.geometry (seen old journal) seal body
      → HasThisEntry new_table.id new_table.geometry (seen new journal) seal body
  entry_beyond has = subst₂ (λ (id : List ℕ) (g : Geometry). HasThisEntry id g (seen new journal) seal body) (sym same_id) (sym same_geometry) here
    where
      here : HasThisEntry old_table.id old_table.geometry (seen new journal) seal body
      here = record {
        last = same_greatest old_table.id old_table.geometry (Some (seen new journal)) (Some (seen old journal))
            (λ place below. same (FIRST_SEAL + place) (omega arith)) seal has.last;
        has_body = λ k within. same (body_start seal + k) (omega (arith, start_least seal)) ∙ has.has_body k within;
      }

  at_beyond : (progress : Progress) → IsAt progress old_table old journal seal body → IsAt progress new_table new journal seal body
  at_beyond Awaited at = next_beyond at
  at_beyond HasBody at = (next_beyond at.0, body_beyond at.1)
  at_beyond HasSeal at = entry_beyond at

-- Beside one slot all is as it was: the table counts on no more, and on what it counted, and after the superblocks stands what stood there.
pub record IsBeside (slot : ℕ) (old_table new_table : Table) (old new : History) : Type 0 where
  pub goes : CountsOnNoMore old_table new_table
  pub counts : (other : ℕ) → other ≢ slot → CountsOn old_table other → CountsOn new_table other
  pub same : (other at : ℕ) → other ≢ slot → CountsOn new_table other → SUPERBLOCK_PLACES ≤ at → sector_of (seen new other) at ≡ sector_of (seen old other) at

-- after a step on it
pub step_beside : (from : PutsFrom) (slot : ℕ) (table : Table) (old new : History) → IsStepOf from.devices from.base table from.lost from.lists slot old new
    → IsBeside slot table table old new
step_beside from slot table old new step = record {
  goes = counts_on_the_same table;
  counts = λ other apart counted. counted;
  same = λ other at apart counted beyond. ap (λ (disk : List Bytes). sector_of disk at) (step.others other apart);
}

-- where nothing was done
pub nothing_beside : (slot : ℕ) (table : Table) (h : History) → IsBeside slot table table h h
nothing_beside slot table h = record { goes = counts_on_the_same table; counts = λ other apart counted. counted; same = λ other at apart counted beyond. refl }

-- Where its device failed in calls of it alone, and it was marked missing; then the table doesn't count on it.
module _ (spellings : Spellings) (from : PutsFrom) (slot : ℕ) (table new_table : Table) (old mid new : History) (counted : CountsOn table slot)
    (others : (other : ℕ) → other ≢ slot → seen mid other ≡ seen old other)
    (marked : MarkedOn from.devices from.base table new_table from.lost from.lists slot mid new) (writes : MayWrite from new_table new) where
  pub marked_out : ¬ CountsOn new_table slot
  marked_out still = still.there (missing_then table new_table slot marked.marked counted.of_set)

  pub marked_beside : IsBeside slot table new_table old new
  marked_beside = record {
    goes = marked_goes_on table new_table slot marked.marked counted.of_set marked.others_in_sync;
    counts = λ other apart on. record {
      of_set = subst (λ (g : Geometry). other < g.members + 2) (sym marked.marked.same_geometry) on.of_set;
      there = λ gone. on.there (sym (state_stays table new_table slot marked.marked other apart) ∙ gone);
    };
    same = λ other at apart on beyond. marked.beyond other at (live_is_up spellings from.devices new_table new other (writes.there other on.of_set on.there))
        beyond
        ∙ ap (λ (disk : List Bytes). sector_of disk at) (others other apart);
  }

module _ (slot : ℕ) (seal : Seal) (body : List Bytes) (from : PutsFrom) (table new_table : Table) (old new : History)
    (beside : IsBeside slot table new_table old new) (writes : MayWrite from new_table new) where
  members_are : new_table.geometry.members ≡ table.geometry.members
  members_are = ap (λ (g : Geometry). g.members) beside.goes.same_geometry

  rows_are : row_count new_table ≡ row_count table
  rows_are = ap (λ (g : Geometry). rows_of g.chunk g.stripes) beside.goes.same_geometry

  long_still : IsBodyLong table.geometry.members seal body → IsBodyLong new_table.geometry.members seal body
  long_still = subst (λ (n : ℕ). IsBodyLong n seal body) (sym members_are)

  beyond_then : (journal : ℕ) → new_table.geometry.members ≤ journal → table.geometry.members ≤ journal
  beyond_then journal = subst (λ (n : ℕ). n ≤ journal) members_are

  -- a member that the table trusts in a row is one on which it counts
  trusted_counts : (row member : ℕ) → member < new_table.geometry.members → trusts (state_at new_table.states member) row new_table.position ≡ true
      → CountsOn new_table member
  trusted_counts row member within trusted = record {
    of_set = omega (arith, within);
    there = ((trusts_tells (state_at new_table.states member) row new_table.position).0 trusted).there;
  }

  -- the entry is formed still, where the slot is a journal
  formed_still : (list_then : List Bytes) → table.geometry.members ≤ slot → IsFormedOn list_then seal body from table old
      → IsFormedOn list_then seal body from new_table new
  formed_still list_then is_journal is = record {
    rows = is.rows;
    sectors = is.sectors;
    values = is.values;
    gives = ap (λ (g : Geometry). written (logical_list g is.rows) is.sectors) beside.goes.same_geometry ∙ is.gives;
    among = is.among;
    formed = subst (λ (g : Geometry). IsFormed g is.rows is.sectors (rows_in seal.form) is.values) (sym beside.goes.same_geometry) is.formed;
    held = subst (λ (n : ℕ). (i member : ℕ) → i < length (rows_in seal.form) → member < n → holds n seal.form i member ≡ true
        → held_sector n seal body i member ≡ slice_index_or (slice_index_or is.values i []) member []) (sym members_are) is.held;
    kept = subst (λ (n : ℕ). (i member : ℕ) → i < length (rows_in seal.form) → member < n → holds n seal.form i member ≡ false
        → slice_index_or (slice_index_or is.values i []) member [] ≡ value is.rows (row_at (rows_in seal.form) i) member) (sym members_are) is.kept;
    width = is.width ∙ sym members_are;
    bare = is.bare;
    sound = subst (AreSound is.rows) (sym rows_are) is.sound;
    trust = λ row member below within trusted. is.trust row member (was_below row below) (was_within member within)
        (beside.goes.trusts_it row member within trusted);
    own = λ row member below within trusted none.
        beside.same member (FIRST_ROW + row) (λ same. absurd (omega (arith, same, is_journal, was_within member within)))
        (trusted_counts row member within trusted) (omega arith)
        ∙ is.own row member (was_below row below) (was_within member within) (beside.goes.trusts_it row member within trusted)
        (subst (λ (n : ℕ). LacksSector n seal row member) members_are none);
    whole_sectors = λ row member below within trusted. is.whole_sectors row member (was_below row below) (was_within member within) trusted;
  }
    where
      was_below : (row : ℕ) → row < row_count new_table → row < row_count table
      was_below row = subst (λ (n : ℕ). row < n) rows_are

      was_within : (member : ℕ) → member < new_table.geometry.members → member < table.geometry.members
      was_within member = subst (λ (n : ℕ). member < n) members_are

  -- The entry comes onto the journals still, and is on the others as it was, and on this one as told.
  pub coming_still : (origin : Origin) (journals journals' : ℕ → Progress) → table.geometry.members ≤ slot → IsComing origin seal body journals from table old
      → ((k : ℕ) → k ≢ slot → journals' k ≡ journals k) → (journals slot ≢ HasSeal ⊎ ¬ CountsOn table slot)
      → (CountsOn new_table slot → IsAt (journals' slot) new_table new slot seal body) → IsComing origin seal body journals' from new_table new
  coming_still origin journals journals' is_journal is same_journals no_source here = record {
    writes = writes;
    long = long_still is.long;
    on_journals = λ journal beyond counted. elim (cases_eq journal slot) [
      | inl is_it ↦ subst (λ (j : ℕ). IsAt (journals' j) new_table new j seal body) (sym is_it) (here (subst (CountsOn new_table) is_it counted))
      | inr apart ↦ subst (λ (p : Progress). IsAt p new_table new journal seal body) (sym (same_journals journal apart))
          (at_beyond table new_table old new journal seal body beside.goes.same_id beside.goes.same_geometry (λ at. beside.same journal at apart counted)
          (journals journal)
          (is.on_journals journal (beyond_then journal beyond) (beside.goes.counts journal counted)))
    ];
    may_stand = stands_still origin is.may_stand;
  }
    where
      apart : (has : HasSource journals table) → has.source ≢ slot
      apart has same = elim no_source [
        | inl not_sealed ↦ not_sealed (ap journals (sym same) ∙ has.sealed)
        | inr out ↦ out (subst (CountsOn table) same has.counted)
      ]

      stands_still : (o : Origin) → HasOrigin o seal body journals from table old → HasOrigin o seal body journals' from new_table new
      stands_still (Formed list_then) formed = formed_still list_then is_journal formed
      stands_still Copied has = record {
        source = has.source;
        beyond = subst (λ (n : ℕ). n ≤ has.source) (sym members_are) has.beyond;
        counted = beside.counts has.source (apart has) has.counted;
        sealed = same_journals has.source (apart has) ∙ has.sealed;
      }

  -- The entry is put on members still, and on this one as told.
  pub put_still : (n n' : ℕ) → IsPutBefore n seal body from table old → slot < table.geometry.members → ((k : ℕ) → k ≢ slot → k < n' → k < n)
      → (CountsOn new_table slot → (i : ℕ) → i < length (rows_in seal.form) → holds new_table.geometry.members seal.form i slot ≡ true
      → trusts (state_at new_table.states slot) (row_at (rows_in seal.form) i) new_table.position ≡ true
      → sector_of (seen new slot) (FIRST_ROW + row_at (rows_in seal.form) i) ≡ held_sector new_table.geometry.members seal body i slot)
      → IsPutBefore n' seal body from new_table new
  put_still n n' is is_member fewer here = record {
    writes = writes;
    long = long_still is.long;
    on_journals = λ journal beyond counted.
        entry_beyond table new_table old new journal seal body beside.goes.same_id beside.goes.same_geometry
        (λ at. beside.same journal at (λ same. absurd (omega (arith, same, is_member, beyond_then journal beyond))) counted)
        (is.on_journals journal (beyond_then journal beyond) (beside.goes.counts journal counted));
    on_members = λ member i below within inside held trusted. elim (cases_eq member slot) [
      | inl same ↦ subst (λ (k : ℕ). sector_of (seen new k) (FIRST_ROW + row_at (rows_in seal.form) i) ≡ held_sector new_table.geometry.members seal body i k)
          (sym same)
          (here (subst (CountsOn new_table) same (trusted_counts (row_at (rows_in seal.form) i) member within trusted)) i inside
          (subst (λ (k : ℕ). holds new_table.geometry.members seal.form i k ≡ true) same held)
          (subst (λ (k : ℕ). trusts (state_at new_table.states k) (row_at (rows_in seal.form) i) new_table.position ≡ true) same trusted))
      | inr apart ↦
          beside.same member (FIRST_ROW + row_at (rows_in seal.form) i) apart (trusted_counts (row_at (rows_in seal.form) i) member within trusted)
          (omega arith)
          ∙ is.on_members member i (fewer member apart below) (subst (λ (n : ℕ). member < n) members_are within) inside
          (subst (λ (n : ℕ). holds n seal.form i member ≡ true) members_are held)
          (beside.goes.trusts_it (row_at (rows_in seal.form) i) member within trusted)
          ∙ ap (λ (m : ℕ). held_sector m seal body i member) (sym members_are)
    ];
  }
