-- The last seal of a journal, by reads of it.
use Rattle.std.proofs.Common.{◌≡◌, ◌≢◌, ◌⊎◌, inr, ℕ, ◌+◌, Bool, true, false, cond, [], ◌∷◌, Option, None, Result, Ok, Err, refl, subst}
use Rattle.sector_model.specs.declared.event.Event.TheVariants.{Quiet, DeviceFailed}
use Rattle.sector_model.specs.declared.refusal.Refusal.{Refusal}
use Rattle.sector_model.specs.declared.sector.Stop.{Stop}
use Rattle.sector_model.specs.declared.sector.Stop.TheVariants as stop
use Rattle.sector_model.specs.Bank.{IsCauseOf, IsLater, IsTrueTo, Panel}
use Rattle.sector_model.specs.Calls.{Made, Read, after_call}
use Rattle.sector_model.specs.History.{After, History, is_down}
use Rattle.sector_model.specs.Reads.{HasRead}
use Rattle.sector_model.proofs.Reading.{read_none}
use Rattle.sector_model.proofs.Sequences.{IsKeptBy, throughout_kept}
use Rattle.sector_model.proofs.Steps.{throughout_last}
use Rattle.layout_map.specs.declared.sizes.TheConstants.{FIRST_SEAL}
use Rattle.superblock.specs.declared.state.State.TheVariants.{Missing}
use Rattle.superblock.specs.declared.table.Table.{Table}
use Rattle.superblock.specs.Tables.{state_at}
use Rattle.stripe_journal.specs.declared.seal.Seal.{Seal}
use Rattle.stripe_journal.proofs.OneEntryCalls.{made_down, stays_off_calls}
use Rattle.array_io.specs.Believed.ArrayCalls.{Answer}
use Rattle.array_io.specs.Believed.Views.{ArrayView, HasItsSlots, view_of}
use Rattle.array_io.specs.Steps.Bringing.{CountsOn}
use Rattle.array_io.specs.Steps.Putting.{HoldsAll, IfSingleFailure, PutsFrom}
use Rattle.array_io.specs.Steps.PuttingSteps.{Brings, EndsOrFailsSlot}
use Rattle.array_io.proofs.Calls.CallSteps.{steps_refused}
use Rattle.array_io.proofs.Commits.PuttingSteps.{brings_same}
use Rattle.array_io.proofs.Images.Spellings.{Spellings}
use Rattle.recovery.specs.Replaying.{BringsTo, HasLast, Known, KnowsSeals, also_known}
use Rattle.recovery.proofs.JournalReads.{gone_then, knows_more, knows_still, last_stays, read_done, read_failed}

-- a read is a read, answered or not
kept_read : (old : History) (device at : ℕ) → IsKeptBy (λ h. HasRead old h) (Read device at)
kept_read old device at = record { keeps = λ answered h before. step answered h before }
  where
    fault : (b : Bool) (h : History) → HasRead old h → HasRead old (After (cond b Quiet (DeviceFailed device)) h)
    fault true h before = record { only = inr before.only }
    fault false h before = record { only = inr before.only }

    step : (answered : Bool) (h : History) → HasRead old h → HasRead old (after_call (Read device at) answered h)
    step true h before = record { only = inr before.only }
    step false h before = fault (is_down h device) h before

-- two reads of a device
pub two_reads : {device first second : ℕ} {answered : Bool} {old new : History} → Made (Read device first ∷ Read device second ∷ []) answered old new
    → HasRead old new
two_reads {device = device} {first = first} {second = second} {old = old} {new = new} made =
    throughout_last new (throughout_kept (λ h. HasRead old h) (kept_read old device first, (kept_read old device second, tt)) (read_none old) made)

-- they leave each other device up or down as it was
pub two_reads_beside : {device first second : ℕ} {answered : Bool} {old new : History} → Made (Read device first ∷ Read device second ∷ []) answered old new
    → (other : ℕ) → other ≢ device → is_down new other ≡ is_down old other
two_reads_beside {device = device} {new = new} made = (throughout_last new (stays_off_calls (λ d. d ≡ device) (refl, (refl, tt)) made)).others_down

-- The last seal of a journal is found as a step, whatever is known of the others.
module _ (spellings : Spellings) (honest : Type 0) (known : Known) (journal number : ℕ) (table : Table) (old_panel : Panel) (old : History) where
  abbrev Was : ArrayView
  Was = view_of old_panel old table number

  abbrev FindsSeal : ArrayView → Result (Option Seal) Refusal → Type 0
  FindsSeal new result = BringsTo honest (KnowsSeals known) (λ last. KnowsSeals (also_known known journal last)) Was new result

  -- on a journal that the table calls missing there is none
  pub seal_passed : state_at table.states journal ≡ Missing → FindsSeal Was (Ok None)
  seal_passed missing = brings_same honest (KnowsSeals known) (KnowsSeals (also_known known journal None)) number table old_panel old
      (λ from loss knows. (knows.writes, knows_more known journal None from table old knows (λ on. absurd (on.counted.there missing))))

  module _ (mid_panel : Panel) (mid : History) (counted : CountsOn table journal) (later : IsLater old_panel mid_panel) (answered : Bool)
      (made : honest → Made (Read journal FIRST_SEAL ∷ Read journal (FIRST_SEAL + 1) ∷ []) answered old mid) (true_old : honest → IsTrueTo old_panel old)
      (true_mid : honest → IsTrueTo mid_panel mid) where
    abbrev before : PutsFrom → Table → History → Type 0
    before = KnowsSeals known

    -- it was read
    pub seal_found : answered ≡ true → (last : Option Seal) → (honest → HasLast table old journal last)
        → FindsSeal (view_of mid_panel mid table number) (Ok last)
    seal_found all last has = read_done spellings honest before (KnowsSeals (also_known known journal last)) (λ from t h knows. knows.writes) journal number
        table old_panel mid_panel old mid counted later
        (λ fair. two_reads (made fair)) (λ other fair. two_reads_beside (made fair) other) true_old true_mid
        (λ fair. made_down (subst (λ (b : Bool). Made (Read journal FIRST_SEAL ∷ Read journal (FIRST_SEAL + 1) ∷ []) b old mid) all (made fair)))
        (λ fair from loss knows is. knows_more known journal last from table mid (knows_still journal table table old mid is.1 known from knows is.0)
        (λ on. last_stays journal table table old mid is.1 journal last on.counted (has fair)))

    -- the journal failed, and that was taken over: it is marked missing, or that was refused
    module _ (why : Stop) (ends : IsCauseOf mid_panel why × ((why ≡ stop.Worn) ⊎ (why ≡ stop.Down journal))) (new_panel : Panel) (new_table : Table)
        (new : History)
        (still : Type 0) (more : honest → still) (true_new : honest → IsTrueTo new_panel new) (its_slots : HasItsSlots table old_panel) where
      failed : (answer : Answer) → EndsOrFailsSlot still journal mid_panel new_panel table new_table mid new (Err why) answer
          → Brings honest before (KnowsSeals (also_known known journal None)) Was (view_of new_panel new new_table number) answer
      failed answer taken = read_failed spellings honest before (KnowsSeals (also_known known journal None)) (λ from t h knows. knows.writes) journal number
          table old_panel mid_panel old mid counted later
          (λ fair. two_reads (made fair)) (λ other fair. two_reads_beside (made fair) other) true_old true_mid why ends new_panel new_table new answer still
          more true_new its_slots taken
          (λ ok from knows is. knows_more known journal None from new_table new (knows_still journal table new_table old new is.1 known from knows is.0)
          (λ on. absurd (gone_then still journal mid_panel new_panel table new_table mid new why counted
          (subst (EndsOrFailsSlot still journal mid_panel new_panel table new_table mid new (Err why)) ok taken) on.counted)))

      pub seal_marked : (answer : Answer) → answer ≡ Ok tt → EndsOrFailsSlot still journal mid_panel new_panel table new_table mid new (Err why) answer
          → FindsSeal (view_of new_panel new new_table number) (Ok None)
      seal_marked answer ok taken = subst (Brings honest before (KnowsSeals (also_known known journal None)) Was (view_of new_panel new new_table number)) ok
          (failed answer taken)

      pub seal_refused : (refusal : Refusal) (answer : Answer) → answer ≡ Err refusal
          → EndsOrFailsSlot still journal mid_panel new_panel table new_table mid new (Err why) answer
          → FindsSeal (view_of new_panel new new_table number) (Err refusal)
      seal_refused refusal answer is taken = steps_refused honest HoldsAll (IfSingleFailure before)
          (IfSingleFailure (KnowsSeals (also_known known journal None))) _ Was (view_of new_panel new new_table number) refusal
          (subst (Brings honest before (KnowsSeals (also_known known journal None)) Was (view_of new_panel new new_table number)) is (failed answer taken))
