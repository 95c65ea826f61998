-- A journal is read as a step of a replay: it puts nothing, so what is known stays; and where the journal fails and is marked missing, it is free.
use Rattle.std.proofs.Common.{◌≡◌, ◌≢◌, ◌⊎◌, inl, inr, ℕ, ◌+◌, ◌≤◌, ◌==◌, Bool, true, false, Option, Some, Ok, Err, refl, sym, ◌∙◌, subst, subst₂, arith}
use Rattle.std.specs.Prelude.{if◌then◌else◌, List}
use Rattle.std.proofs.lemmas.Bool.{eq-eqb, eqb-true, false≢true}
use Rattle.std.proofs.lemmas.Option.{same_Some}
use Rattle.sector_model.specs.declared.sector.Stop.{Stop}
use Rattle.sector_model.specs.declared.sector.Stop.TheVariants as stop
use Rattle.sector_model.specs.Bank.{IsCauseOf, IsLater, IsTrueTo, Panel}
use Rattle.sector_model.specs.History.{History, is_down, seen}
use Rattle.sector_model.specs.Reads.{HasRead}
use Rattle.layout_map.specs.declared.geometry.Geometry.{Geometry}
use Rattle.layout_map.specs.declared.sizes.TheConstants.{FIRST_SEAL}
use Rattle.superblock.specs.declared.table.Table.{Table}
use Rattle.superblock.specs.Losses.{IsSingleFailure}
use Rattle.superblock.specs.NextTables.{IsMarked, slots_of}
use Rattle.stripe_journal.specs.declared.seal.Seal.{Seal}
use Rattle.stripe_journal.specs.LastEntry.{IsLastSealed}
use Rattle.stripe_journal.specs.OneEntry.{StaysOff}
use Rattle.array_io.specs.Believed.ArrayCalls.{Answer}
use Rattle.array_io.specs.Believed.Views.{ArrayView, DeviceFailed, HasItsSlots, view_of}
use Rattle.array_io.specs.Steps.Bringing.{CountsOn}
use Rattle.array_io.specs.Steps.CallSteps.{CallsOne}
use Rattle.array_io.specs.Steps.MarkingOn.{AreOthersInSync, IsWhyLeft}
use Rattle.array_io.specs.Steps.Putting.{HoldsAll, IfSingleFailure, MayWrite, PutsFrom}
use Rattle.array_io.specs.Steps.PuttingSteps.{Brings, EndsOrFailsSlot}
use Rattle.array_io.proofs.Calls.CallSteps.{steps_more}
use Rattle.array_io.proofs.Calls.DeviceReads.{reads_front, reads_run}
use Rattle.array_io.proofs.Calls.DeviceSteps.{goes_on_later, single_failure_before}
use Rattle.array_io.proofs.Commits.PuttingParts.{IsPartOf}
use Rattle.array_io.proofs.Commits.ReadingSteps.{IsRead, IsReadOver, read_brings, read_part}
use Rattle.array_io.proofs.Images.SayingTheSame.{same_sealed}
use Rattle.array_io.proofs.Images.Spellings.{Spellings}
use Rattle.array_io.proofs.Marks.MarkedWhole.{throughout_if_lost}
use Rattle.array_io.proofs.Marks.MarkingHolds.{missing_then}
use Rattle.array_io.proofs.Reading.ReadValue.{reads_off}
use Rattle.recovery.specs.declared.latest.Latest.{Latest}
use Rattle.recovery.specs.Replaying.{AllHaveLast, HasLast, IsJournalOn, IsLatestOn, Known, KnowsSeals, also_known}

flags_differ : ¬ (true ≡ false)
flags_differ e = cc

-- what is known

-- the last seals that are known, and one more
pub in_known : (known : Known) (journal k : ℕ) (last one : Option Seal) → also_known known journal last k ≡ Some one → ((k ≡ journal) × (one ≡ last))
    ⊎ ((k ≢ journal) × (known k ≡ Some one))
in_known known journal k last one is = by_test (k == journal) refl is
  where
    by_test : (b : Bool) → (k == journal) ≡ b → (if b then Some last else known k) ≡ Some one → ((k ≡ journal) × (one ≡ last))
        ⊎ ((k ≢ journal) × (known k ≡ Some one))
    by_test true here so = inl (eqb-true k journal here, sym (same_Some last one so))
    by_test false beside so = inr ((λ same. false≢true (sym beside ∙ eq-eqb k journal same)), so)

-- a last seal is known of a further journal
pub knows_more : (known : Known) (journal : ℕ) (last : Option Seal) (from : PutsFrom) (table : Table) (h : History) → KnowsSeals known from table h
    → (IsJournalOn table journal → HasLast table h journal last) → KnowsSeals (also_known known journal last) from table h
knows_more known journal last from table h knows here = record {
  writes = knows.writes;
  last = λ k one is on. elim (in_known known journal k last one is) [
    | inl it ↦ subst₂ (λ (j : ℕ) (l : Option Seal). HasLast table h j l) (sym it.0) (sym it.1) (here (subst (IsJournalOn table) it.0 on))
    | inr other ↦ knows.last k one other.1 on
  ];
}

-- what is known stays while a journal is read, or marked missing where it failed
module _ (slot : ℕ) (table new_table : Table) (old new : History) (over : IsReadOver slot table new_table old new) where
  was_on : (journal : ℕ) → IsJournalOn new_table journal → IsJournalOn table journal
  was_on journal on = record {
    beyond = subst (λ (g : Geometry). g.members ≤ journal) over.goes.same_geometry on.beyond;
    counted = over.goes.counts journal on.counted;
  }

  pub last_stays : (journal : ℕ) (last : Option Seal) → CountsOn new_table journal → HasLast table old journal last → HasLast new_table new journal last
  last_stays journal last on has =
      subst₂ (λ (id : List ℕ) (g : Geometry). IsLastSealed id g (Some (seen new journal)) last) (sym over.goes.same_id) (sym over.goes.same_geometry)
      (same_sealed table.id table.geometry (Some (seen new journal)) (Some (seen old journal))
      (λ place below. over.same journal (FIRST_SEAL + place) on (omega arith)) last has)

  pub knows_still : (known : Known) (from : PutsFrom) → KnowsSeals known from table old → MayWrite from new_table new → KnowsSeals known from new_table new
  knows_still known from knows writes = record { writes = writes; last = λ k one is on. last_stays k one on.counted (knows.last k one is (was_on k on)) }

-- where the journal that has the last entry is gone, the last seals are what stands beside
pub beside_left : (latest : Latest) (from : PutsFrom) (table new_table : Table) (old new : History) → IsReadOver latest.source table new_table old new
    → ¬ CountsOn new_table latest.source
    → IsLatestOn latest from table old → MayWrite from new_table new → AllHaveLast latest.beside from new_table new
beside_left latest from table new_table old new over out is writes = record {
  writes = writes;
  on_journals = λ journal on. last_stays latest.source table new_table old new over journal latest.beside on.counted
      (is.beside journal (was_on latest.source table new_table old new over journal on) (λ same. out (subst (CountsOn new_table) same on.counted)));
}

-- and the last entry is still that while it is read
pub latest_still : (latest : Latest) (from : PutsFrom) (table : Table) (old new : History) → IsReadOver latest.source table table old new
    → IsJournalOn table latest.source
    → IsLatestOn latest from table old → MayWrite from table new → IsLatestOn latest from table new
latest_still latest from table old new over source is writes = record {
  writes = writes;
  source = last_stays latest.source table table old new over latest.source (Some latest.seal) source.counted is.source;
  beside = λ journal on apart. last_stays latest.source table table old new over journal latest.beside on.counted (is.beside journal on apart);
}

-- reads of a journal on which the table counts

module _ (spellings : Spellings) (honest : Type 0) (before after : PutsFrom → Table → History → Type 0)
    (writes : (from : PutsFrom) (t : Table) (h : History) → before from t h → MayWrite from t h)
    (journal number : ℕ) (table : Table) (old_panel mid_panel : Panel) (old mid : History) (counted : CountsOn table journal)
    (later : IsLater old_panel mid_panel)
    (read : honest → HasRead old mid) (others : (other : ℕ) → honest → other ≢ journal → is_down mid other ≡ is_down old other)
    (true_old : honest → IsTrueTo old_panel old) (true_mid : honest → IsTrueTo mid_panel mid) where
  abbrev Was : ArrayView
  Was = view_of old_panel old table number

  off : honest → StaysOff (λ d. d ≡ journal) old mid
  off fair = reads_off table journal old mid counted (read fair) (λ d. others d fair)

  -- They were answered.
  module _ (stay : honest → (device : ℕ) → is_down mid device ≡ is_down old device)
      (follows : honest → (from : PutsFrom) → IsSingleFailure (slots_of from.base) from.lost mid → before from table old
      → IsRead journal table old from table mid → after from table mid) where
    part : honest → (from : PutsFrom) → before from table old → IsPartOf (IsRead journal table old) from journal table old mid true
    part fair from is = read_part spellings journal table old mid counted (off fair) (read fair) true (λ all. stay fair) from (writes from table old is)

    none_failed : honest → (slot : ℕ) → ¬ DeviceFailed slot old_panel mid_panel
    none_failed fair slot failed = flags_differ (sym failed.is_down ∙ (true_mid fair).down slot ∙ stay fair slot ∙ sym ((true_old fair).down slot)
        ∙ failed.was_up)

    pub read_done : Brings honest before after Was (view_of mid_panel mid table number) (Ok tt)
    read_done = record {
      goes_on = goes_on_later old_panel mid_panel old mid table number later;
      stays = record { table = inl refl; failure = λ fair goes slot of_set failed. absurd (none_failed fair slot failed) };
      number = refl;
      moments = λ fair from at. throughout_if_lost from.base from.devices from.lost from.lists old mid (reads_run (read fair))
          (λ was lost_at. (part fair from (at (was, lost_at))).moments);
      reached = λ fair ok from at loss.
          let is = at (single_failure_before (slots_of from.base) from.lost old mid (reads_run (read fair)) loss) in
          follows fair from loss is ((part fair from is).done refl);
      runs = λ fair. reads_run (read fair);
      carried = λ fair ok. inl record { table = refl; front = reads_front (read fair); down = stay fair };
      cause = λ refusal is. absurd (cc);
    }

  -- One was not, and that was taken over.
  module _ (why : Stop) (ends : IsCauseOf mid_panel why × ((why ≡ stop.Worn) ⊎ (why ≡ stop.Down journal))) (new_panel : Panel) (new_table : Table)
      (new : History) (answer : Answer)
      (still : Type 0) (more : honest → still) (true_new : honest → IsTrueTo new_panel new) (its_slots : HasItsSlots table old_panel)
      (taken : EndsOrFailsSlot still journal mid_panel new_panel table new_table mid new (Err why) answer) where
    calls : CallsOne honest journal old_panel mid_panel old mid (Err why)
    calls = record {
      later = later;
      cause = λ other is. let same : why ≡ other = cc in subst (IsCauseOf mid_panel) same ends.0;
      named = λ other is. let same : why ≡ stop.Down other = cc in of_journal other same ends.1;
      off = off;
      none_failed = λ fair ok. absurd (cc);
      runs = λ fair. reads_run (read fair);
      front = λ fair ok. reads_front (read fair);
    }
      where
        of_journal : (other : ℕ) → why ≡ stop.Down other → (why ≡ stop.Worn) ⊎ (why ≡ stop.Down journal) → other ≡ journal
        of_journal other same (inl worn) = absurd (cc)
        of_journal other same (inr named) = cc

    steps : Brings honest MayWrite (IsRead journal table old) Was (view_of new_panel new new_table number) answer
    steps = read_brings spellings honest journal number table new_table old_panel mid_panel new_panel old mid new (Err why) answer still more true_old true_mid
        true_new its_slots counted calls read taken

    pub read_failed : (answer ≡ Ok tt → (from : PutsFrom) → before from table old → IsRead journal table old from new_table new → after from new_table new)
        → Brings honest before after Was (view_of new_panel new new_table number) answer
    read_failed follows = steps_more honest HoldsAll (IfSingleFailure MayWrite) (IfSingleFailure before) (IfSingleFailure (IsRead journal table old))
        (IfSingleFailure after) Was (view_of new_panel new new_table number) answer
        (λ from at loss. writes from table old (at loss))
        (λ fair ok from at is loss. follows ok from (at (single_failure_before (slots_of from.base) from.lost old new (steps.runs fair) loss)) (is loss))
        steps

-- what is done to the table where calls of a slot's device ended so

-- where that was answered, the slot was marked, all others being in sync
pub was_marked : (honest : Type 0) (slot : ℕ) (old_panel new_panel : Panel) (table new_table : Table) (old new : History) (why : Stop) → CountsOn table slot
    → EndsOrFailsSlot honest slot old_panel new_panel table new_table old new (Err why) (Ok tt) → IsMarked table slot new_table × AreOthersInSync table slot
was_marked honest slot old_panel new_panel table new_table old new stop.Worn counted (ok, same) = absurd (cc)
was_marked honest slot old_panel new_panel table new_table old new (stop.Down device) counted (inl left) = absurd (by_why left.why)
  where
    by_why : IsWhyLeft table slot (Ok tt) → ⊥
    by_why (inl (gone, ok)) = counted.there gone
    by_why (inr (inl (there, beside, is_two))) = cc
    by_why (inr (inr (there, worn, others, is_worn))) = cc
was_marked honest slot old_panel new_panel table new_table old new (stop.Down device) counted (inr marked) = (marked.marked, marked.others)

-- so the table counts on it no more
pub gone_then : (honest : Type 0) (slot : ℕ) (old_panel new_panel : Panel) (table new_table : Table) (old new : History) (why : Stop) → CountsOn table slot
    → EndsOrFailsSlot honest slot old_panel new_panel table new_table old new (Err why) (Ok tt) → ¬ CountsOn new_table slot
gone_then honest slot old_panel new_panel table new_table old new why counted ends on =
    on.there (missing_then table new_table slot (was_marked honest slot old_panel new_panel table new_table old new why counted ends).0 counted.of_set)
