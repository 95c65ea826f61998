-- What writing the rebuilding member's rows promises, by how it ended: the rows are safe on the member, or its slot is
-- missing, or it was refused.
use Rattle.std.proofs.Common.{◌≡◌, ◌≢◌, inl, inr, ℕ, ◌+◌, ◌<◌, ◌≤◌, Bool, true, false, List, [], ◌∷◌, Option, Ok, Err, refl, sym, ◌∙◌, ap, subst, arith}
use Rattle.std.specs.Prelude.{IfSome, Result}
use Rattle.std.proofs.lemmas.Bool.{cases_eq}
use Rattle.sector_model.specs.declared.refusal.Refusal.{Refusal}
use Rattle.sector_model.specs.declared.refusal.Refusal.TheVariants.{TwoLost, Worn}
use Rattle.sector_model.specs.declared.sector.Stop.{Stop}
use Rattle.sector_model.specs.declared.sector.Stop.TheVariants as stop
use Rattle.sector_model.specs.Bank.{IsCauseOf, IsLater, IsTrueTo, Panel}
use Rattle.sector_model.specs.History.{Bytes, History, is_down, sector_of, seen}
use Rattle.sector_model.specs.Moments.{Throughout}
use Rattle.sector_model.specs.Readable.{readable}
use Rattle.sector_model.proofs.Steps.{throughout_last, throughout_more}
use Rattle.layout_map.specs.declared.sizes.TheConstants.{FIRST_ROW}
use Rattle.layout_map.specs.declared.geometry.Geometry.{Geometry}
use Rattle.superblock.specs.declared.state.State.TheVariants.{InSync, Missing, Rebuilding}
use Rattle.superblock.specs.declared.table.Table.{Table}
use Rattle.superblock.specs.Tables.{state_at}
use Rattle.superblock.specs.Cases.{HasWholeSectors, Lost}
use Rattle.superblock.specs.Losses.{IsSingleFailure}
use Rattle.superblock.specs.NextTables.{IsMarked, slots_of}
use Rattle.stripe_journal.specs.OneEntry.{StaysOff}
use Rattle.array_io.specs.Believed.ArrayCalls.{Answer, KeepsTheList}
use Rattle.array_io.specs.Steps.Bringing.{CountsOn}
use Rattle.array_io.specs.Steps.CallSteps.{KeepsFront, StaysDown, StepsOf}
use Rattle.array_io.specs.Steps.MarkingOn.{IsLeft, IsWhyLeft, MarksOn}
use Rattle.array_io.specs.Believed.Moments.{HoldsThroughout}
use Rattle.array_io.specs.Steps.ReadingOn.{Between, KeepsFrom, KeepsList}
use Rattle.array_io.specs.Believed.Views.{ArrayView, HasEnded, HasItsSlots, view_of}
use Rattle.array_io.specs.Steps.Writable.{IsWritable}
use Rattle.array_io.specs.Steps.Writing.{HasFailedOnce, IsWriting, WritesFrom}
use Rattle.array_io.proofs.Laws.Beginning.{live_is_up}
use Rattle.array_io.proofs.Calls.CallSteps.{step_is_end}
use Rattle.array_io.proofs.Calls.DeviceSteps.{goes_on_later, step_done, step_marked, step_worn}
use Rattle.array_io.proofs.Commits.EntryCalls.{none_pending_off, writes_on}
use Rattle.array_io.proofs.Commits.EntryCarried.{entry_carried, marked_goes_on}
use Rattle.array_io.proofs.Marks.FailedMarked.{MarkedOn, failed_is_single_failure, failed_in_step, marked_writes_on, single_failure_stays}
use Rattle.array_io.proofs.Marks.MarkingHolds.{missing_then}
use Rattle.array_io.proofs.Marks.MarkingRests.{whole_readable}
use Rattle.array_io.proofs.Reading.ReadCall.{keeps_by_steps}
use Rattle.array_io.proofs.Rest.SettledAgain.{written_not_older}
use Rattle.array_io.proofs.Images.Spellings.{Spellings}
use Rattle.array_io.proofs.Writes.Writable.{marked_is_lost}
use Rattle.array_io.proofs.Writes.Writing.{writing_throughout}
use Rattle.rebuild.specs.RowSteps.{DoneOrFailsSlot, IsFillMarked, IsFillWorn, IsFlushed, OwnRows, mark_answer}
use Rattle.rebuild.specs.RowsWritten.{WritesRows}
use Rattle.rebuild.proofs.RowsKept.{entry_stays, own_rows_keep, row_value_stays}

sync_differ : ¬ (Rebuilding ≡ InSync)
sync_differ e = cc

none_differ : ¬ (Missing ≡ InSync)
none_differ e = cc

module _ (spellings : Spellings) (devices number : ℕ) (base table : Table) (lost : Option Lost) (V : List Bytes)
    (member : ℕ) (old : History)
    (within : member < table.geometry.members) (rebuilding : state_at table.states member ≡ Rebuilding)
    (is : IsWritable devices number base table lost V old) where
  -- at each moment every case holds
  pub rows_hold : (new : History) → Throughout (IsWriting table (OwnRows table member) old) old new
      → HoldsThroughout base devices lost (V ∷ []) old new
  rows_hold new moments = writing_throughout spellings devices base table lost (V ∷ []) (V ∷ [])
      (OwnRows table member) old new is.from
      (own_rows_keep devices table member (readable old) (V ∷ []) within rebuilding) moments

  -- and once the member is flushed, the array may be written on
  pub rows_on : (from end : ℕ) (old_panel new_panel : Panel) (new : History) (honest : Type 0) → honest
      → table.position ≤ from
      → IsFlushed honest table member from end old_panel new_panel old new
      → IsWritable devices number base table lost V new
  rows_on from end old_panel new_panel new honest fair beyond flushed = record {
    from = writes_on spellings devices base table lost (V ∷ []) (V ∷ []) (OwnRows table member) old new is.from
        (own_rows_keep devices table member (readable old) (V ∷ []) within rebuilding)
        (throughout_last new (flushed.rows.moments fair))
        (none_pending_off member old new is.from.nothing_pending (flushed.rows.off fair) (flushed.flushed fair))
        (λ slot counted. flushed.rows.stays fair slot ∙ live_is_up spellings devices table old slot
        (is.from.there slot counted.of_set counted.there));
    entry = entry_stays table member old new rebuilding (flushed.rows.off fair)
        (flushed.rows.stays fair) devices number within
        (λ row below. flushed.rows.beside fair (FIRST_ROW + row) (inl (omega (arith, below, beyond)))) is.entry;
    single_failure = single_failure_stays (slots_of base) lost old new (flushed.rows.stays fair) is.single_failure;
    lost_out = is.lost_out;
  }

  -- The member failed meanwhile, alone.
  pub rows_failed : (counted : CountsOn table member) (mid : History)
      → Throughout (IsWriting table (OwnRows table member) old) old mid → StaysOff (λ d. d ≡ member) old mid
      → is_down mid member ≡ true → HasFailedOnce devices base table lost (V ∷ []) member mid
      × HoldsThroughout base devices lost (V ∷ []) old mid
  rows_failed counted mid moments off down = failed_in_step spellings devices base table lost (V ∷ []) (V ∷ [])
      (OwnRows table member) member old mid is.from
      (own_rows_keep devices table member (readable old) (V ∷ []) within rebuilding) moments off counted down

  -- and was marked missing: the array may be written on by the new table
  pub rows_marked : (counted : CountsOn table member) (mid new : History) (new_table : Table)
      → StaysOff (λ d. d ≡ member) old mid
      → HasFailedOnce devices base table lost (V ∷ []) member mid → MarkedOn devices base table new_table lost
      (V ∷ []) member mid new → HasWholeSectors (readable new)
      → IsWritable devices number base new_table lost V new
  rows_marked counted mid new new_table off failure marked whole = record {
    from = from_new;
    entry = entry_carried spellings devices base table new_table lost (V ∷ []) number old new is.entry is.from.there
        (marked_goes_on table new_table member marked.marked counted.of_set marked.others_in_sync)
        from_new one_new (record {
          beyond = λ other at there beyond. marked.beyond other at (live_is_up spellings devices new_table new other
              (from_new.there other there.of_set there.there)) beyond
              ∙ ap (λ (s : List Bytes). sector_of s at) (off.others_seen other (apart other there.there));
        }) whole;
    single_failure = one_new;
    lost_out = λ one some. record {
      of_set = subst (λ (n : ℕ). one.slot < n) (sym same_new) (is.lost_out one some).of_set;
      out = λ in_sync. none_differ (sym gone ∙ ap (state_at new_table.states)
          (sym (subst (λ (l : Option Lost). IfSome l (λ o. o.slot ≡ member)) some its)) ∙ in_sync);
    };
  }
    where
      gone : state_at new_table.states member ≡ Missing
      gone = missing_then table new_table member marked.marked counted.of_set

      apart : (other : ℕ) → state_at new_table.states other ≢ Missing → other ≢ member
      apart other there same = there (ap (state_at new_table.states) same ∙ gone)

      same_base : slots_of table ≡ slots_of base
      same_base = ap (λ (g : Geometry). g.members + 2) (written_not_older spellings devices base table lost
          (V ∷ []) old is.from is.single_failure.0 is.single_failure.1).same_geometry

      same_new : slots_of new_table ≡ slots_of table
      same_new = ap (λ (g : Geometry). g.members + 2) marked.marked.same_geometry

      its : IfSome lost (λ one. one.slot ≡ member)
      its = marked_is_lost table lost member is.lost_out marked.others_in_sync

      from_new : WritesFrom devices base new_table lost (V ∷ []) new
      from_new = marked_writes_on spellings devices base table new_table lost
          (V ∷ []) member mid new failure marked same_base its

      one_new : IsSingleFailure (slots_of base) lost new
      one_new = single_failure_stays (slots_of base) lost mid new marked.down
          (failed_is_single_failure spellings devices base table lost
          (V ∷ []) member mid failure same_base marked.others_in_sync its)

module _ (spellings : Spellings) (honest : Type 0) (number : ℕ) (table : Table) (member from end : ℕ)
    (old_panel new_panel : Panel) (old new : History)
    (within : member < table.geometry.members) (rebuilding : state_at table.states member ≡ Rebuilding)
    (beyond : table.position ≤ from) (counted : CountsOn table member)
    (true_old : honest → IsTrueTo old_panel old) (true_new : honest → IsTrueTo new_panel new) where
  abbrev Was : ArrayView
  Was = view_of old_panel old table number

  abbrev Now : Table → ArrayView
  Now new_table = view_of new_panel new new_table number

  abbrev StepTo : Table → Answer → Type 0
  StepTo new_table answer = StepsOf honest (KeepsList old_panel.devices) (Between old_panel.devices number)
      (Between old_panel.devices number) Was (Now new_table) answer

  -- what was down while rows are written stays down
  written_runs : (now : History) → Throughout (IsWriting table (OwnRows table member) old) old now
      → Throughout (StaysDown old) old now
  written_runs now moments = throughout_more (λ h writing. writing.stays_down) now moments

  -- rows that are safe leave the superblocks as they were
  front : IsFlushed honest table member from end old_panel new_panel old new → honest → KeepsFront old new
  front is fair device at below = elim (cases_eq device member) [
    | inl same ↦ subst (λ (d : ℕ). sector_of (seen new d) at ≡ sector_of (seen old d) at) (sym same)
        (is.rows.beside fair at (inl (omega (arith, below))))
    | inr apart ↦ ap (λ (disk : List Bytes). sector_of disk at) ((is.rows.off fair).others_seen device apart)
  ]

  -- the rows are safe
  flushed_step : IsFlushed honest table member from end old_panel new_panel old new → StepTo table (Ok tt)
  flushed_step is = step_done spellings honest (λ (f : KeepsFrom). old_panel.devices) (λ (f : KeepsFrom). f.base) (λ (f : KeepsFrom). f.lost)
      (λ (f : KeepsFrom). f.logical ∷ [])
      (Between old_panel.devices number) (Between old_panel.devices number) member number table old_panel new_panel old
      new true_old true_new
      record {
        later = is.rows.later;
        cause = λ why ended. absurd (cc);
        named = λ other ended. absurd (cc);
        off = is.rows.off;
        none_failed = λ fair ok. is.rows.stays fair;
        runs = λ fair. written_runs new (is.rows.moments fair);
        front = λ fair ok. front is fair;
      }
      (λ fair f at. (
        rows_hold spellings old_panel.devices number f.base table f.lost f.logical member old within rebuilding at new
            (is.rows.moments fair),
        rows_on spellings old_panel.devices number f.base table f.lost f.logical member old within rebuilding at from
            end old_panel new_panel new honest fair beyond is,
      ))

  -- no further call could be counted
  worn_step : IsFillWorn honest table member old_panel new_panel old new → StepTo table (Err Worn)
  worn_step is = step_worn spellings honest (λ (f : KeepsFrom). old_panel.devices) (λ (f : KeepsFrom). f.base) (λ (f : KeepsFrom). f.lost)
      (λ (f : KeepsFrom). f.logical ∷ [])
      (Between old_panel.devices number) (Between old_panel.devices number) member number table old_panel new_panel old
      new true_old true_new
      record {
        later = is.later;
        cause = λ why ended. worn_cause why ended;
        named = λ other ended. absurd (cc);
        off = is.off;
        none_failed = λ fair ok. absurd (cc);
        runs = λ fair. written_runs new (is.moments fair);
        front = λ fair ok. absurd (cc);
      }
      (λ fair f at. rows_hold spellings old_panel.devices number f.base table f.lost f.logical member old within
      rebuilding at new (is.moments fair))
    where
      none : Result (Unit {0}) Stop
      none = Err stop.Worn

      worn_cause : (why : Stop) → none ≡ Err why → IsCauseOf new_panel why
      worn_cause stop.Worn ended = is.worn
      worn_cause (stop.Down d) ended = absurd (cc)

  -- the member failed
  member_step : (new_table : Table) (answer : Answer) → HasItsSlots table old_panel
      → (mid_panel : Panel) (mid : History) → IsLater old_panel mid_panel → mid_panel.down member ≡ true
      → (honest → Throughout (IsWriting table (OwnRows table member) old) old mid)
      → (honest → StaysOff (λ d. d ≡ member) old mid) → (honest → IsTrueTo mid_panel mid)
      → MarksOn honest member mid_panel new_panel table new_table mid new answer → StepTo new_table answer
  member_step new_table answer its mid_panel mid later down moments off true_mid marks =
      step_marked spellings honest (λ (f : KeepsFrom). old_panel.devices) (λ (f : KeepsFrom). f.base) (λ (f : KeepsFrom). f.lost)
      (λ (f : KeepsFrom). f.logical ∷ [])
      (Between old_panel.devices number) (Between old_panel.devices number) member number table old_panel mid_panel old
      mid true_old true_mid new_panel new_table new answer its counted
      record {
        later = later;
        cause = λ why ended. down_cause why ended;
        named = λ other ended. cc;
        off = off;
        none_failed = λ fair ok. absurd (cc);
        runs = λ fair. written_runs mid (moments fair);
        front = λ fair ok. absurd (cc);
      }
      marks true_new
      (λ fair f at loss. let both = failed fair f at in (both.1, both.0))
      (λ fair f at run then_marked.
      let both = then_marked at.single_failure in
      rows_marked spellings old_panel.devices number f.base table f.lost f.logical member
      old within rebuilding at counted mid new new_table (off fair) both.0 both.1
      (whole_readable new_panel new (true_new fair)))
    where
      failed_down : Result (Unit {0}) Stop
      failed_down = Err (stop.Down member)

      down_cause : (why : Stop) → failed_down ≡ Err why → IsCauseOf mid_panel why
      down_cause stop.Worn ended = absurd (cc)
      down_cause (stop.Down d) ended = let same : member ≡ d = cc in subst
          (λ (k : ℕ). mid_panel.down k ≡ true) same down

      failed : honest → (f : KeepsFrom) → Between old_panel.devices number f table old
          → HasFailedOnce old_panel.devices f.base table f.lost (f.logical ∷ []) member mid
          × HoldsThroughout f.base old_panel.devices f.lost (f.logical ∷ []) old mid
      failed fair f at = rows_failed spellings old_panel.devices number f.base table f.lost f.logical member old within
          rebuilding at counted mid (moments fair) (off fair)
          (sym ((true_mid fair).down member) ∙ down)

  -- another device failed, beside the member, which is out
  two_step : (slot : ℕ) → slot < slots_of table → slot ≢ member → IsLater old_panel new_panel
      → new_panel.down slot ≡ true
      → (honest → Throughout (IsWriting table (OwnRows table member) old) old new) → StepTo table (Err TwoLost)
  two_step slot of_set apart later down moments = record {
    goes_on = goes_on_later old_panel new_panel old new table number later;
    stays = record { table = inl refl; failure = λ fair goes other of_set failed. absurd (goes tt) };
    number = refl;
    moments = λ fair f at. rows_hold spellings old_panel.devices number f.base table f.lost f.logical member old within
        rebuilding at new (moments fair);
    reached = λ fair ok. absurd (cc);
    runs = λ fair. written_runs new (moments fair);
    carried = λ fair ok. absurd (cc);
    cause = λ refusal ended. inl (
      cc,
      record {
        first = slot;
        second = member;
        apart = apart;
        first_of_set = of_set;
        second_of_set = counted.of_set;
        first_out = inl down;
        second_out = inr (λ in_sync. sync_differ (sym rebuilding ∙ in_sync));
      },
    );
  }

  -- a device failed, and its slot was marked or not
  marked_step : (new_table : Table) (answer : Answer) → HasItsSlots table old_panel
      → IsFillMarked honest table new_table member old_panel new_panel old new answer → StepTo new_table answer
  marked_step new_table answer its is = elim (cases_eq is.slot member) [
    | inl same ↦ member_step new_table answer its is.mid_panel is.mid is.later
        (subst (λ (k : ℕ). is.mid_panel.down k ≡ true) same is.down) is.moments (λ fair. is.off fair same) is.true_mid
        (subst (λ (k : ℕ). MarksOn honest k is.mid_panel new_panel table new_table is.mid new answer) same is.marks)
    | inr apart ↦ by_marks apart is.marks
  ]
    where
      by_why : is.slot ≢ member → IsLeft is.slot is.mid_panel new_panel table new_table is.mid new answer
          → IsWhyLeft table is.slot answer → StepTo new_table answer
      by_why apart left (inl (gone, ok)) = absurd (is.counted.there gone)
      by_why apart left (inr (inr (there, worn, others, is_worn))) = absurd
          (sync_differ (sym rebuilding ∙ others member counted.of_set (λ same. apart (sym same))))
      by_why apart left (inr (inl (there, beside, two))) =
          subst (λ (a : Answer). StepTo new_table a) (sym two) (subst (λ (t : Table). StepTo t (Err TwoLost))
          (sym left.same_table)
          (two_step is.slot is.counted.of_set apart (subst (λ (p : Panel). IsLater old_panel p)
          (sym left.same_panel) is.later)
          (subst (λ (p : Panel). p.down is.slot ≡ true) (sym left.same_panel) is.down)
          (λ fair. subst (λ (h : History). Throughout (IsWriting table (OwnRows table member) old) old h)
          (sym left.same_history) (is.moments fair))))

      by_marks : is.slot ≢ member → MarksOn honest is.slot is.mid_panel new_panel table new_table is.mid new answer
          → StepTo new_table answer
      by_marks apart (inl left) = by_why apart left left.why
      by_marks apart (inr marked) = absurd (sync_differ (sym rebuilding ∙ marked.others member counted.of_set
          (λ same. apart (sym same))))

  -- each way is a step
  pub ended_step : (new_table : Table) (result : Result Bool Refusal) → HasItsSlots table old_panel
      → DoneOrFailsSlot (IsFlushed honest table member from end old_panel new_panel old new) honest table new_table member
      old_panel new_panel old new result
      → StepTo new_table (mark_answer result)
  ended_step new_table result its (inl (ok, same, is)) =
      subst (λ (r : Result Bool Refusal). StepTo new_table (mark_answer r)) (sym ok)
      (subst (λ (t : Table). StepTo t (Ok tt)) (sym same) (flushed_step is))
  ended_step new_table result its (inr (inl (other, is))) = marked_step new_table (mark_answer result) its is
  ended_step new_table result its (inr (inr (ended, same, is))) =
      subst (λ (r : Result Bool Refusal). StepTo new_table (mark_answer r)) (sym ended)
      (subst (λ (t : Table). StepTo t (Err Worn)) (sym same) (worn_step is))

  -- where a slot was marked, it is the member's
  member_marked : (new_table : Table) → IsFillMarked honest table new_table member old_panel new_panel old new (Ok tt)
      → IsMarked table member new_table × (new_panel.down member ≡ true)
  member_marked new_table is = by_marks is.marks
    where
      by_why : IsWhyLeft table is.slot (Ok tt) → IsMarked table member new_table × (new_panel.down member ≡ true)
      by_why (inl (gone, ok)) = absurd (is.counted.there gone)
      by_why (inr (inl (there, beside, two))) = absurd (cc)
      by_why (inr (inr (there, worn, others, is_worn))) = absurd (cc)

      by_marks : MarksOn honest is.slot is.mid_panel new_panel table new_table is.mid new (Ok tt)
          → IsMarked table member new_table × (new_panel.down member ≡ true)
      by_marks (inl left) = by_why left.why
      by_marks (inr marked) = elim (cases_eq is.slot member) [
        | inl same ↦ (
          subst (λ (k : ℕ). IsMarked table k new_table) same marked.marked,
          marked.publishes.later.down member (subst (λ (k : ℕ). is.mid_panel.down k ≡ true) same is.down),
        )
        | inr apart ↦ absurd (sync_differ (sym rebuilding ∙ marked.others member counted.of_set
            (λ same. apart (sym same))))
      ]

  module _ (new_table : Table) (result : Result Bool Refusal) (its : HasItsSlots table old_panel)
      (ends : DoneOrFailsSlot (IsFlushed honest table member from end old_panel new_panel old new) honest table new_table
      member old_panel new_panel old new result) where
    step : StepTo new_table (mark_answer result)
    step = ended_step new_table result its ends

    as_ended : (r : Result Bool Refusal) → HasEnded (mark_answer r) → HasEnded r
    as_ended (Ok b) is = is
    as_ended (Err refusal) is = is

    ended_as : (r : Result Bool Refusal) → HasEnded r → HasEnded (mark_answer r)
    ended_as (Ok b) is = is
    ended_as (Err refusal) is = is

    keeps : KeepsTheList honest Was (Now new_table) (HasEnded (mark_answer result))
    keeps = keeps_by_steps spellings honest number table new_table old_panel new_panel old new
        (mark_answer result) true_old true_new
        step

    flushed_then : result ≡ Ok true → (new_table ≡ table)
        × IsFlushed honest table member from end old_panel new_panel old new
    flushed_then ok = by_ends ends
      where
        by_ends : DoneOrFailsSlot (IsFlushed honest table member from end old_panel new_panel old new) honest table
            new_table member old_panel new_panel old new result
            → (new_table ≡ table) × IsFlushed honest table member from end old_panel new_panel old new
        by_ends (inl (is_ok, same, is)) = (same, is)
        by_ends (inr (inl (other, is))) = absurd (other ok)
        by_ends (inr (inr (ended, same, is))) = absurd (cc)

    marked_then : result ≡ Ok false → IsFillMarked honest table new_table member old_panel new_panel old new (Ok tt)
    marked_then failed = by_ends ends
      where
        by_ends : DoneOrFailsSlot (IsFlushed honest table member from end old_panel new_panel old new) honest table
            new_table member old_panel new_panel old new result
            → IsFillMarked honest table new_table member old_panel new_panel old new (Ok tt)
        by_ends (inl (is_ok, same, is)) = absurd (cc)
        by_ends (inr (inl (other, is))) = subst (λ (r : Result Bool Refusal). IsFillMarked honest table new_table member
            old_panel new_panel old new (mark_answer r)) failed is
        by_ends (inr (inr (ended, same, is))) = absurd (cc)

    -- So writing the rows is what it promises.
    pub writes_rows : WritesRows honest member from end Was (Now new_table) result
    writes_rows = record {
      goes_on = step.goes_on;
      number = refl;
      stays = record {
        table = step.stays.table;
        failure = λ fair goes. step.stays.failure fair
            (λ ended. goes (as_ended result ended));
      };
      written = λ ok. let then_flushed = flushed_then ok in (then_flushed.0, then_flushed.1.up);
      failed = λ is. member_marked new_table (marked_then is);
      keeps = record {
        moments = keeps.moments;
        rests = λ fair goes. keeps.rests fair (λ ended. goes (as_ended result ended));
      };
      rows = λ fair ok lost V rests.
          let rows = (flushed_then ok).1.rows in
          record {
            own = λ row least below. rows.own fair row least below
                ∙ sym (row_value_stays table member old new rebuilding (rows.off fair)
                (rows.stays fair) row member within (λ counts. absurd (omega (arith, counts, beyond, least))));
          };
      cause = λ refusal refused.
          step_is_end Was (Now new_table) refusal (step.cause refusal (ap mark_answer refused));
    }
