-- Reading members' sectors is a step of a call that keeps the list.
use Rattle.std.proofs.Common.{◌≡◌, inl, inr, ℕ, true, false, [], ◌∷◌, refl, sym, ◌∙◌, subst}
use Rattle.std.specs.Prelude.{Ok, Err}
use Rattle.sector_model.specs.declared.refusal.Refusal.TheVariants.{Worn}
use Rattle.sector_model.specs.declared.sector.Stop.TheVariants as stop
use Rattle.sector_model.specs.Bank.{IsTrueTo, Panel}
use Rattle.sector_model.specs.History.{History, is_down}
use Rattle.sector_model.specs.Moments.{Throughout}
use Rattle.sector_model.specs.Readable.{readable}
use Rattle.sector_model.specs.Reads.{HasRead}
use Rattle.superblock.specs.declared.table.Table.{Table}
use Rattle.array_io.specs.Believed.ArrayCalls.{Answer}
use Rattle.array_io.specs.Steps.Bringing.{CountsOn}
use Rattle.array_io.specs.Steps.CallSteps.{StepsOf}
use Rattle.array_io.specs.Believed.Moments.{HoldsThroughout}
use Rattle.array_io.specs.Steps.ReadingOn.{Between, IsFailureMarked, IsReadWorn, KeepsFrom, KeepsList}
use Rattle.array_io.specs.Steps.Scanning.{HasScanned}
use Rattle.array_io.specs.Believed.Views.{DeviceFailed, HasItsSlots, view_of}
use Rattle.array_io.specs.Steps.Writing.{HasFailedOnce}
use Rattle.array_io.proofs.Calls.DeviceReads.{reads_front, reads_run}
use Rattle.array_io.proofs.Calls.DeviceSteps.{goes_on_later, step_marked}
use Rattle.array_io.proofs.Commits.EntryCarried.{Nothing, nothing_keeps, reads_write}
use Rattle.array_io.proofs.Marks.FailedMarked.{failed_in_step}
use Rattle.array_io.proofs.Marks.MarkingRests.{whole_readable}
use Rattle.array_io.proofs.Images.Spellings.{Spellings}
use Rattle.array_io.proofs.Writes.Writable.{writable_marked, writable_read}
use Rattle.array_io.proofs.Writes.Writing.{writing_throughout}

flags_differ : ¬ (true ≡ false)
flags_differ e = cc

module _ (spellings : Spellings) (honest : Type 0) (devices number : ℕ) where
  module _ (table : Table) (old_panel new_panel : Panel) (old new : History) (true_old : honest → IsTrueTo old_panel old)
      (true_new : honest → IsTrueTo new_panel new) where
    -- while devices are read, of which none fails
    pub quiet_moments : (from : KeepsFrom) → Between devices number from table old → HasRead old new → ((d : ℕ) → is_down new d ≡ is_down old d)
        → Throughout (KeepsList devices from) old new
    quiet_moments from is read down = writing_throughout spellings devices from.base table from.lost (from.logical ∷ []) (from.logical ∷ []) Nothing old new
        is.from
        (nothing_keeps devices table (readable old) (from.logical ∷ [])) (reads_write table Nothing old new read (λ d not. down d))

    none_failed : honest → (honest → (d : ℕ) → is_down new d ≡ is_down old d) → (slot : ℕ) → ¬ DeviceFailed slot old_panel new_panel
    none_failed is down slot failed = flags_differ (sym failed.is_down ∙ (true_new is).down slot ∙ down is slot ∙ sym ((true_old is).down slot) ∙ failed.was_up)

    -- devices are read, and none fails
    pub scan_step : HasScanned honest old_panel new_panel old new
        → StepsOf honest (KeepsList devices) (Between devices number) (Between devices number) (view_of old_panel old table number)
        (view_of new_panel new table number) (Ok tt)
    scan_step is = record {
      goes_on = goes_on_later old_panel new_panel old new table number is.later;
      stays = record { table = inl refl; failure = λ fair goes slot of_set failed. absurd (none_failed fair is.stays slot failed) };
      number = refl;
      moments = λ fair from at. quiet_moments from at (is.reads fair) (is.stays fair);
      reached = λ fair ok from at. writable_read spellings devices number from.base table from.lost from.logical old new at (is.reads fair) (is.stays fair);
      runs = λ fair. reads_run (is.reads fair);
      carried = λ fair ok. inl record { table = refl; front = reads_front (is.reads fair); down = is.stays fair };
      cause = λ refusal ended. absurd (cc);
    }

    -- no further call could be counted
    pub worn_step : IsReadWorn honest old_panel new_panel old new
        → StepsOf honest (KeepsList devices) (Between devices number) (Between devices number) (view_of old_panel old table number)
        (view_of new_panel new table number) (Err Worn)
    worn_step is = record {
      goes_on = goes_on_later old_panel new_panel old new table number is.later;
      stays = record { table = inl refl; failure = λ fair goes slot of_set failed. absurd (goes tt) };
      number = refl;
      moments = λ fair from at. quiet_moments from at (is.reads fair) (is.stays fair);
      reached = λ fair ok. absurd (cc);
      runs = λ fair. reads_run (is.reads fair);
      carried = λ fair ok. absurd (cc);
      cause = λ refusal ended. inr (inl (cc, is.worn));
    }

    -- a device failed
    pub failure_step : (new_table : Table) (answer : Answer) → HasItsSlots table old_panel
        → IsFailureMarked honest table new_table old_panel new_panel old new answer
        → StepsOf honest (KeepsList devices) (Between devices number) (Between devices number) (view_of old_panel old table number)
        (view_of new_panel new new_table number) answer
    failure_step new_table answer its is = step_marked spellings honest (λ (f : KeepsFrom). devices) (λ (f : KeepsFrom). f.base) (λ (f : KeepsFrom). f.lost)
        (λ (f : KeepsFrom). f.logical ∷ []) (Between devices number) (Between devices number) is.slot number table
        old_panel is.mid_panel old is.mid true_old is.true_mid new_panel new_table new answer its is.counted is.calls is.marks true_new
        (λ fair from at loss. let both = failure fair from at in (both.1, both.0))
        (λ fair from at run then_marked.
        let both = then_marked at.single_failure in
        writable_marked spellings devices number from.base table new_table from.lost from.logical is.slot old is.mid new at (is.reads fair) is.counted both.0
        both.1
        (whole_readable new_panel new (true_new fair)))
      where
        down : honest → is_down is.mid is.slot ≡ true
        down fair = sym ((is.true_mid fair).down is.slot) ∙ is.calls.cause (stop.Down is.slot) refl

        failure : honest → (from : KeepsFrom) → Between devices number from table old
            → HasFailedOnce devices from.base table from.lost (from.logical ∷ []) is.slot is.mid
            × HoldsThroughout from.base devices from.lost (from.logical ∷ []) old is.mid
        failure fair from at = failed_in_step spellings devices from.base table from.lost (from.logical ∷ []) (from.logical ∷ []) Nothing is.slot old is.mid
            at.from
            (nothing_keeps devices table (readable old) (from.logical ∷ []))
            (reads_write table Nothing old is.mid (is.reads fair)
            (λ d not. (is.calls.off fair).others_down d (λ same. not (subst (CountsOn table) (sym same) is.counted))))
            (is.calls.off fair) is.counted (down fair)
