-- How the rows of the rebuilding member are written, row by row: the calls of one row, and one row after others.
use Rattle.std.proofs.Common.{◌≡◌, ◌≢◌, ◌⊎◌, inl, inr, ℕ, ◌+◌, ◌<◌, ◌≤◌, Bool, true, false, List, [], ◌∷◌, length, Ok, Err, refl, sym, ◌∙◌, ap, subst, arith}
use Rattle.std.specs.Prelude.{IfErr, Result, is_ok}
use Rattle.std.proofs.lemmas.Bool.{cases_lt, cond_below}
use Rattle.sector_model.specs.declared.refusal.Refusal.{Refusal}
use Rattle.sector_model.specs.declared.sector.Stop.{Stop}
use Rattle.sector_model.specs.declared.sector.Stop.TheVariants as stop
use Rattle.sector_model.specs.Bank.{IsCauseOf, IsLater, IsTrueTo, Panel, after_flush, after_try, after_write}
use Rattle.sector_model.specs.Calls.{Call, Flush, Made, Write, after_call, device_of}
use Rattle.sector_model.specs.History.{Bytes, History, MayHold, is_down, sector_of, seen}
use Rattle.sector_model.specs.MemoryLaw.{length-seen}
use Rattle.sector_model.specs.Moments.{Throughout, here}
use Rattle.sector_model.specs.Readable.{readable}
use Rattle.sector_model.specs.Reads.{HasRead}
use Rattle.sector_model.proofs.Panels.{later_both, later_same}
use Rattle.sector_model.proofs.Reading.{seen_read}
use Rattle.sector_model.proofs.Sequences.{made_all, made_none, made_stop, made_then, seen_elsewhere, seen_written}
use Rattle.sector_model.proofs.Steps.{throughout_last, throughout_more, throughout_on}
use Rattle.layout_map.specs.declared.sizes.TheConstants.{FIRST_ROW, SUPERBLOCK_PLACES}
use Rattle.layout_map.specs.Formats.{journal_sectors}
use Rattle.superblock.specs.declared.state.State.TheVariants.{Missing, Rebuilding}
use Rattle.superblock.specs.declared.table.Table.{Table}
use Rattle.superblock.specs.Tables.{state_at}
use Rattle.stripe_journal.specs.OneEntry.{StaysOff}
use Rattle.stripe_journal.proofs.OneEntryCalls.{all_flushed, made_down, stays_off_both, stays_off_calls, stays_off_none}
use Rattle.degraded.specs.RowValue.{value}
use Rattle.degraded.proofs.Members.{up_before}
use Rattle.array_io.specs.Believed.ArrayCalls.{Answer}
use Rattle.array_io.specs.Steps.Bringing.{CountsOn}
use Rattle.array_io.specs.Believed.Holds.{row_count}
use Rattle.array_io.specs.Steps.ReadingOn.{IsFailureMarked, IsReadWorn, IsValueRead, ReadsOrFailsSlot}
use Rattle.array_io.specs.Believed.Settled.{rows_by}
use Rattle.array_io.specs.Steps.Writing.{IsWriting}
use Rattle.array_io.proofs.Commits.EntryCalls.{IsAllowed, calls_write}
use Rattle.array_io.proofs.Commits.EntryCarried.{Nothing, reads_write}
use Rattle.array_io.proofs.Reading.ReadValue.{marks_as}
use Rattle.array_io.proofs.Writes.Writing.{writing_none, writing_on}
use Rattle.rebuild.specs.RowSteps.{CanFill, DoneOrFailsSlot, EndsOrFails, FillsOrFailsSlot, FillsRows, IsFillMarked, IsFillWorn, IsFlushed, OwnRows}
use Rattle.rebuild.specs.RowSteps.{mark_answer}
use Rattle.rebuild.proofs.RowsKept.{row_value_stays}

none_differ : ¬ (Rebuilding ≡ Missing)
none_differ e = cc

-- the rebuilding member is a slot that the table counts on
pub member_counts : (table : Table) (member from end : ℕ) (panel : Panel) → CanFill table member from end panel
    → CountsOn table member
member_counts table member from end panel can = record {
  of_set = omega (arith, can.of_members);
  there = λ missing. none_differ (sym can.rebuilding ∙ missing);
}

-- one stretch after another

-- what was written since the first is written since before it
pub moments_on : (table : Table) (member : ℕ) (old mid new : History)
    → Throughout (IsWriting table (OwnRows table member) old) old mid
    → Throughout (IsWriting table (OwnRows table member) mid) mid new
    → Throughout (IsWriting table (OwnRows table member) old) old new
moments_on table member old mid new first second = throughout_on mid first new
    (throughout_more (λ h is. writing_on table (OwnRows table member) old mid h (throughout_last mid first) is) new
    second)

-- no row
pub fills_none : (honest : Type 0) (table : Table) (member from : ℕ) (panel : Panel) (h : History)
    → FillsRows honest table member from from panel panel h h
fills_none honest table member from panel h = record {
  later = later_same panel;
  moments = λ fair. here (writing_none table (OwnRows table member) h);
  off = λ fair. stays_off_none (λ d. d ≡ member) h;
  stays = λ fair device. refl;
  own = λ fair row least below. absurd (omega (arith, least, below));
  beside = λ fair at out. refl;
}

module _ (honest still : Type 0) (more : honest → still) (table : Table) (member from : ℕ)
    (old_panel mid_panel new_panel : Panel) (old mid new : History) where
  -- one row more
  pub fills_next : (row : ℕ) → member < table.geometry.members → state_at table.states member ≡ Rebuilding
      → table.position ≤ from → from ≤ row
      → FillsRows honest table member from row old_panel mid_panel old mid → FillsRows still table member row
      (row + 1) mid_panel new_panel mid new
      → FillsRows honest table member from (row + 1) old_panel new_panel old new
  fills_next row within rebuilding beyond least first second = record {
    later = later_both old_panel mid_panel new_panel first.later second.later;
    moments = λ fair. moments_on table member old mid new (first.moments fair) (second.moments (more fair));
    off = λ fair. stays_off_both (λ d. d ≡ member) old mid new (first.off fair) (second.off (more fair));
    stays = λ fair device. second.stays (more fair) device ∙ first.stays fair device;
    own = λ fair at above below. elim (cases_lt at row) [
      | inl before ↦ second.beside (more fair) (FIRST_ROW + at) (inl (omega (arith, before))) ∙ first.own fair at above before
      | inr most ↦ second.own (more fair) at most below
          ∙ row_value_stays table member old mid rebuilding (first.off fair) (first.stays fair) at member within
          (λ counts. absurd (omega (arith, counts, beyond, above)))
    ];
    beside = λ fair at out. elim out [
      | inl before ↦ second.beside (more fair) at (inl (omega (arith, before, least)))
          ∙ first.beside fair at (inl before)
      | inr past ↦ second.beside (more fair) at (inr past) ∙ first.beside fair at (inr (omega (arith, past)))
    ];
  }

  -- and then it ended
  pub fills_marked : (end : ℕ) (new_table : Table) (answer : Answer)
      → FillsRows honest table member from end old_panel mid_panel old mid
      → IsFillMarked still table new_table member mid_panel new_panel mid new answer
      → IsFillMarked honest table new_table member old_panel new_panel old new answer
  fills_marked end new_table answer first then_marked = record {
    slot = then_marked.slot;
    counted = then_marked.counted;
    mid_panel = then_marked.mid_panel;
    mid = then_marked.mid;
    later = later_both old_panel mid_panel then_marked.mid_panel first.later then_marked.later;
    down = then_marked.down;
    moments = λ fair. moments_on table member old mid then_marked.mid (first.moments fair)
        (then_marked.moments (more fair));
    off = λ fair same. stays_off_both (λ d. d ≡ member) old mid then_marked.mid (first.off fair)
        (then_marked.off (more fair) same);
    true_mid = λ fair. then_marked.true_mid (more fair);
    marks = marks_as then_marked.slot then_marked.mid_panel new_panel table new_table then_marked.mid new answer more
        then_marked.marks;
  }

  pub fills_worn : (end : ℕ) → FillsRows honest table member from end old_panel mid_panel old mid
      → IsFillWorn still table member mid_panel new_panel mid new
      → IsFillWorn honest table member old_panel new_panel old new
  fills_worn end first then_worn = record {
    later = later_both old_panel mid_panel new_panel first.later then_worn.later;
    worn = then_worn.worn;
    moments = λ fair. moments_on table member old mid new (first.moments fair) (then_worn.moments (more fair));
    off = λ fair. stays_off_both (λ d. d ≡ member) old mid new (first.off fair) (then_worn.off (more fair));
  }

-- reads of a row

-- reads in which no device failed, or the member's alone, leave the others as they were
read_off : (table : Table) (member : ℕ) (old new : History) → CountsOn table member → HasRead old new
    → ((d : ℕ) → d ≢ member → is_down new d ≡ is_down old d)
    → StaysOff (λ d. d ≡ member) old new
read_off table member old new counted read down = record {
  start = writing.start;
  stays_down = writing.stays_down;
  others = λ device at value other may. held device at value (writing.holds device at value may);
  others_down = λ device other. down device other;
  others_seen = λ device other. seen_read read device;
}
  where
    writing : IsWriting table Nothing old new
    writing = throughout_last new (reads_write table Nothing old new read
        (λ d not. down d (λ same. not (subst (CountsOn table) (sym same) counted))))

    held : (d at : ℕ) (value : Bytes) → MayHold old d at value ⊎ (CountsOn table d × (SUPERBLOCK_PLACES ≤ at) × Nothing d at value)
        → MayHold old d at value
    held d at value (inl was) = was
    held d at value (inr put) = absurd (put.2)

module _ (honest : Type 0) (table : Table) (member row : ℕ) (old_panel mid_panel : Panel) (old mid : History)
    (counted : CountsOn table member) where
  -- the value was read: no row is written yet
  pub value_fills : (to : Bytes) → IsValueRead honest table member row old_panel mid_panel old mid to
      → FillsRows honest table member row row old_panel mid_panel old mid
  value_fills to is = record {
    later = is.later;
    moments = λ fair. reads_write table (OwnRows table member) old mid (is.reads fair) (λ d not. is.stays fair d);
    off = λ fair. read_off table member old mid counted (is.reads fair) (λ d apart. is.stays fair d);
    stays = is.stays;
    own = λ fair at least below. absurd (omega (arith, least, below));
    beside = λ fair at out. ap (λ (s : List Bytes). sector_of s at) (seen_read (is.reads fair) member);
  }

  -- a device failed in reads
  pub failure_marked : (new_table : Table) (answer : Answer)
      → IsFailureMarked honest table new_table old_panel mid_panel old mid answer
      → IsFillMarked honest table new_table member old_panel mid_panel old mid answer
  failure_marked new_table answer is = record {
    slot = is.slot;
    counted = is.counted;
    mid_panel = is.mid_panel;
    mid = is.mid;
    later = is.calls.later;
    down = is.calls.cause (stop.Down is.slot) refl;
    moments = λ fair. reads_write table (OwnRows table member) old is.mid (is.reads fair)
        (λ d not. (is.calls.off fair).others_down d (λ same. not (subst (CountsOn table) (sym same) is.counted)));
    off = λ fair same. subst (λ (k : ℕ). StaysOff (λ d. d ≡ k) old is.mid) same (is.calls.off fair);
    true_mid = is.true_mid;
    marks = is.marks;
  }

  pub read_worn : IsReadWorn honest old_panel mid_panel old mid
      → IsFillWorn honest table member old_panel mid_panel old mid
  read_worn is = record {
    later = is.later;
    worn = is.worn;
    moments = λ fair. reads_write table (OwnRows table member) old mid (is.reads fair) (λ d not. is.stays fair d);
    off = λ fair. read_off table member old mid counted (is.reads fair) (λ d apart. is.stays fair d);
  }

  failure_ended : (new_table : Table) (result ended : Result Bool Refusal) → result ≡ ended
      → IsFailureMarked honest table new_table old_panel mid_panel old mid (mark_answer ended)
      → IsFillMarked honest table new_table member old_panel mid_panel old mid (mark_answer result)
  failure_ended new_table result ended is marked = failure_marked new_table (mark_answer result)
      (subst (λ (r : Result Bool Refusal). IsFailureMarked honest table new_table old_panel mid_panel old mid (mark_answer r))
      (sym is) marked)

  -- Where the value was not read, nothing was written.
  pub read_ended : (new_table : Table) (to : Bytes) (result : Result Bool Refusal) (end : ℕ)
      → ReadsOrFailsSlot honest table new_table member row old_panel mid_panel old mid to result
      → result ≢ Ok true → FillsOrFailsSlot honest table new_table member row end old_panel mid_panel old mid result
  read_ended new_table to result end (inl (is, same, read)) other = absurd (other is)
  read_ended new_table to result end (inr (inl (is, marked))) other = inr (inl (other, failure_ended new_table result _ is marked))
  read_ended new_table to result end (inr (inr (inl (refusal, is, marked)))) other =
      inr (inl (other, failure_ended new_table result _ is marked))
  read_ended new_table to result end (inr (inr (inr (is, same, worn)))) other = inr (inr (is, same, read_worn worn))

  -- where it was, this is it
  pub was_read : (new_table : Table) (to : Bytes) (result : Result Bool Refusal)
      → ReadsOrFailsSlot honest table new_table member row old_panel mid_panel old mid to result
      → result ≡ Ok true → (new_table ≡ table) × IsValueRead honest table member row old_panel mid_panel old mid to
  was_read new_table to result (inl (is, same, read)) ok = (same, read)
  was_read new_table to result (inr (inl (is, marked))) ok = absurd (cc)
  was_read new_table to result (inr (inr (inl (refusal, is, marked)))) ok = absurd (cc)
  was_read new_table to result (inr (inr (inr (is, same, worn)))) ok = absurd (cc)

-- one call of the member

-- its call, by how it ended
call_made : (call : Call) (panel : Panel) (result : Result (Unit {0}) Stop) {old new : History}
    → new ≡ after_try (after_call call) result old
    → (result ≡ Ok tt → panel.down (device_of call) ≡ false) → IsTrueTo panel new
    → Made (call ∷ []) (is_ok result) old new
call_made call panel (Ok done) {new = new} is up is_true = made_then call done panel is (up refl) is_true
    (made_none new)
call_made call panel (Err why) is up is_true = made_stop call why is

module _ (honest still : Type 0) (more : honest → still) (table new_table : Table) (member : ℕ)
    (old_panel mid_panel then_panel new_panel : Panel) (old mid next new : History)
    (call : Call) (allowed : IsAllowed table (OwnRows table member) call) (its : device_of call ≡ member)
    (counted : CountsOn table member) (from end : ℕ)
    (before : FillsRows honest table member from end old_panel mid_panel old mid) (later : IsLater mid_panel then_panel)
    (true_next : honest → IsTrueTo then_panel next) where
  -- what was written so far
  so_far : (answered : Bool) → Made (call ∷ []) answered mid next
      → Throughout (IsWriting table (OwnRows table member) mid) mid next
  so_far answered made = calls_write table (OwnRows table member) (call ∷ []) (allowed, tt) made

  so_off : (answered : Bool) → Made (call ∷ []) answered mid next → StaysOff (λ d. d ≡ member) mid next
  so_off answered made = throughout_last next (stays_off_calls (λ d. d ≡ member) (its, tt) made)

  -- What became of it: it is done, or its slot was marked, or that was refused, or no further call could be counted.
  pub call_ended : (Done : Panel → History → Type 0) (done : Result (Unit {0}) Stop) (result : Result Bool Refusal)
      → IfErr done (λ why. IsCauseOf then_panel why × ((why ≡ stop.Worn) ⊎ (why ≡ stop.Down member)))
      → (honest → Made (call ∷ []) (is_ok done) mid next)
      → (done ≡ Ok tt → Done then_panel next) → EndsOrFails still member then_panel new_panel table new_table next new
      done result
      → DoneOrFailsSlot (Done new_panel new) honest table new_table member old_panel new_panel old new result
  call_ended Done (Ok tt) result why made is_done (ok, same) = inl (
    ok,
    same.same_table,
    subst (λ (p : Panel). Done p new) (sym same.same_panel) (subst (λ (h : History). Done then_panel h)
        (sym same.same_history) (is_done refl)),
  )
  call_ended Done (Err stop.Worn) result why made is_done (ended, same) = inr (inr (
    ended,
    same.same_table,
    subst (λ (p : Panel). IsFillWorn honest table member old_panel p old new) (sym same.same_panel)
        (subst (λ (h : History). IsFillWorn honest table member old_panel then_panel old h) (sym same.same_history)
        (fills_worn honest honest (λ fair. fair) table member from old_panel mid_panel then_panel old mid next end
        before worn)),
  ))
    where
      worn : IsFillWorn honest table member mid_panel then_panel mid next
      worn = record {
        later = later;
        worn = why.0;
        moments = λ fair. so_far false (made fair);
        off =
            λ fair. so_off false (made fair);
      }
  call_ended Done (Err (stop.Down device)) result why made is_done (other, marks) = inr (inl (
    other,
    fills_marked honest honest (λ fair. fair) table member from old_panel mid_panel new_panel old mid new end new_table
        (mark_answer result) before marked,
  ))
    where
      same : device ≡ member
      same = elim why.1 [
        | inl worn ↦ absurd (cc)
        | inr is ↦ cc
      ]

      marked : IsFillMarked honest table new_table member mid_panel new_panel mid new (mark_answer result)
      marked = record {
        slot = member;
        counted = counted;
        mid_panel = then_panel;
        mid = next;
        later = later;
        down = subst (λ (d : ℕ). then_panel.down d ≡ true) same why.0;
        moments = λ fair. so_far false (made fair);
        off = λ fair is. so_off false (made fair);
        true_mid = true_next;
        marks = marks_as member then_panel new_panel table new_table next new (mark_answer result) more marks;
      }

-- a row's write

-- The member's row was written with its value.
row_fills : (honest : Type 0) (table : Table) (member row : ℕ) (to : Bytes) (old_panel new_panel : Panel)
    (old new : History) → CountsOn table member → table.position ≤ row
    → IsLater old_panel new_panel → (honest → Made (Write member (FIRST_ROW + row) to ∷ []) true old new)
    → (honest → to ≡ value (rows_by table (readable old)) row member)
    → (honest → FIRST_ROW + row < length (seen old member)) → FillsRows honest table member row
    (row + 1) old_panel new_panel old new
row_fills honest table member row to old_panel new_panel old new counted beyond later made gives room = record {
  later = later;
  moments = λ fair. calls_write table (OwnRows table member) (Write member (FIRST_ROW + row) to ∷ [])
      ((counted, omega arith, (refl, omega (arith, beyond))), tt) (made fair);
  off = λ fair. throughout_last new (stays_off_calls (λ d. d ≡ member) (refl, tt) (made fair));
  stays = λ fair device. made_down (made fair) device;
  own = λ fair at least below.
      let same : at ≡ row = omega (arith, least, below) in
      subst (λ (r : ℕ). sector_of (seen new member) (FIRST_ROW + r) ≡ value (rows_by table (readable old)) r member) (sym same)
      (ap (λ (h : History). sector_of (seen h member) (FIRST_ROW + row)) (made_all (made fair))
      ∙ seen_written member (FIRST_ROW + row) to old (room fair) ∙ gives fair);
  beside = λ fair at out. ap (λ (h : History). sector_of (seen h member) at) (made_all (made fair))
      ∙ seen_elsewhere member (FIRST_ROW + row) to old member at (λ same is. apart at out is);
}
  where
    apart : (at : ℕ) → (at < FIRST_ROW + row) ⊎ (FIRST_ROW + (row + 1) ≤ at) → at ≢ FIRST_ROW + row
    apart at (inl below) is = omega (arith, below, is)
    apart at (inr above) is = omega (arith, above, is)

-- the member has a sector for each row
pub row_room : (table : Table) (member row end : ℕ) (panel : Panel) → CanFill table member row end panel → row < end
    → panel.down member ≡ false → FIRST_ROW + row < panel.sectors member
row_room table member row end panel can within up =
    omega (
      arith,
      can.its_slots.fit member (omega (arith, can.of_members)) (λ missing. none_differ (sym can.rebuilding
          ∙ missing)) up,
      cond_below member table.geometry.members (FIRST_ROW + row_count table) (journal_sectors table.geometry.format) can.of_members,
      within,
      can.most,
    )

-- The value of a row was read, and its write ended so.
pub row_ended : (honest still : Type 0) → (honest → still) → (table new_table : Table) (member row : ℕ) (to : Bytes)
    (old_panel mid_panel then_panel new_panel : Panel) (old mid next new : History)
    (done : Result (Unit {0}) Stop) (result : Result Bool Refusal) → CanFill table member row (row + 1) old_panel
    → IsValueRead honest table member row old_panel mid_panel old mid to
    → (honest → IsTrueTo mid_panel mid) → (honest → IsTrueTo then_panel next) → IsLater mid_panel then_panel
    → IfErr done (λ why. IsCauseOf then_panel why × ((why ≡ stop.Worn) ⊎ (why ≡ stop.Down member)))
    → (done ≡ Ok tt → then_panel.down member ≡ false)
    → (honest → next ≡ after_try (after_write member (FIRST_ROW + row) to) done mid)
    → EndsOrFails still member then_panel new_panel table new_table next new done result
    → FillsOrFailsSlot honest table new_table member row (row + 1) old_panel new_panel old new result
row_ended honest still more table new_table member row to old_panel mid_panel then_panel new_panel old mid next new done
    result can read true_mid true_next later why up is ends =
    call_ended honest still more table new_table member old_panel mid_panel then_panel new_panel old mid next new
    (Write member (FIRST_ROW + row) to)
    (counted, omega arith, (refl, omega (arith, can.least))) refl counted row row before later true_next
    (λ p h. FillsRows honest table member row (row + 1) old_panel p old h) done result why made filled ends
  where
    counted : CountsOn table member
    counted = member_counts table member row (row + 1) old_panel can

    before : FillsRows honest table member row row old_panel mid_panel old mid
    before = value_fills honest table member row old_panel mid_panel old mid counted to read

    made : honest → Made (Write member (FIRST_ROW + row) to ∷ []) (is_ok done) mid next
    made fair = call_made (Write member (FIRST_ROW + row) to) then_panel done (is fair) up (true_next fair)

    filled : done ≡ Ok tt → FillsRows honest table member row (row + 1) old_panel then_panel old next
    filled ok = fills_next honest honest (λ fair. fair) table member row old_panel mid_panel then_panel old mid next row
        can.of_members can.rebuilding can.least (omega arith) before
        (row_fills honest table member row to mid_panel then_panel mid next counted can.least later
        (λ fair. subst (λ (b : Bool). Made (Write member (FIRST_ROW + row) to ∷ []) b mid next)
        (ap (λ (r : Result (Unit {0}) Stop). is_ok r) ok) (made fair))
        (λ fair. read.gives fair ∙ sym (row_value_stays table member old mid can.rebuilding (before.off fair)
        (before.stays fair) row member can.of_members
        (λ counts. absurd (omega (arith, counts, can.least)))))
        (λ fair.
        let old_up : old_panel.down member ≡ false = up_before member read.later (up_before member later (up ok)) in
        omega (
          arith,
          row_room table member row (row + 1) old_panel can (omega arith) old_up,
          read.later.sectors member,
          (true_mid fair).sectors member,
          length-seen mid member,
        )))

-- the flush

-- The rows were written, and the flush of the member ended so.
pub rows_ended : (honest still : Type 0) → (honest → still) → (table new_table : Table) (member from end : ℕ)
    (old_panel mid_panel then_panel new_panel : Panel) (old mid next new : History)
    (done : Result (Unit {0}) Stop) (result : Result Bool Refusal) → CountsOn table member
    → FillsRows honest table member from end old_panel mid_panel old mid
    → (honest → IsTrueTo then_panel next) → IsLater mid_panel then_panel
    → IfErr done (λ why. IsCauseOf then_panel why × ((why ≡ stop.Worn) ⊎ (why ≡ stop.Down member)))
    → (done ≡ Ok tt → then_panel.down member ≡ false)
    → (honest → next ≡ after_try (after_flush member) done mid)
    → EndsOrFails still member then_panel new_panel table new_table next new done result
    → DoneOrFailsSlot (IsFlushed honest table member from end old_panel new_panel old new) honest table new_table member
    old_panel new_panel old new result
rows_ended honest still more table new_table member from end old_panel mid_panel then_panel new_panel old mid next new
    done result counted before true_next later why up is ends =
    call_ended honest still more table new_table member old_panel mid_panel then_panel new_panel old mid next new
    (Flush member) counted refl counted from end before later true_next
    (λ p h. IsFlushed honest table member from end old_panel p old h) done result why made flushed ends
  where
    made : honest → Made (Flush member ∷ []) (is_ok done) mid next
    made fair = call_made (Flush member) then_panel done (is fair) up (true_next fair)

    flushed : done ≡ Ok tt → IsFlushed honest table member from end old_panel then_panel old next
    flushed ok = record {
      rows = record {
        later = later_both old_panel mid_panel then_panel before.later later;
        moments = λ fair. moments_on table member old mid next (before.moments fair)
            (calls_write table (OwnRows table member) (Flush member ∷ []) (counted, tt) (all fair));
        off = λ fair. stays_off_both (λ d. d ≡ member) old mid next (before.off fair)
            (throughout_last next (stays_off_calls (λ d. d ≡ member) (refl, tt) (all fair)));
        stays = λ fair device. made_down (all fair) device ∙ before.stays fair device;
        own = λ fair row least below. seen_same fair (FIRST_ROW + row) ∙ before.own fair row least below;
        beside = λ fair at out. seen_same fair at ∙ before.beside fair at out;
      };
      up = up ok;
      flushed = λ fair. all_flushed member [] (all fair);
    }
      where
        all : honest → Made (Flush member ∷ []) true mid next
        all fair = subst (λ (b : Bool). Made (Flush member ∷ []) b mid next)
            (ap (λ (r : Result (Unit {0}) Stop). is_ok r) ok) (made fair)

        seen_same : honest → (at : ℕ) → sector_of (seen next member) at ≡ sector_of (seen mid member) at
        seen_same fair at = ap (λ (h : History). sector_of (seen h member) at) (made_all (all fair))

-- one row after others

-- what was done of a row where the others were done
pub then_row : (done : Type 0) (honest still : Type 0) → (honest → still)
    → (table new_table : Table) (member from row : ℕ) (old_panel mid_panel new_panel : Panel) (old mid new : History)
    (result : Result Bool Refusal) → FillsRows honest table member from row old_panel mid_panel old mid
    → result ≢ Ok true → (end : ℕ)
    → FillsOrFailsSlot still table new_table member row end mid_panel new_panel mid new result
    → DoneOrFailsSlot done honest table new_table member old_panel new_panel old new result
then_row done honest still more table new_table member from row old_panel mid_panel new_panel old mid new result before
    other end (inl (ok, rest, is)) = absurd (other ok)
then_row done honest still more table new_table member from row old_panel mid_panel new_panel old mid new result before
    other end (inr (inl (same_other, is))) =
    inr (inl (
      other,
      fills_marked honest still more table member from old_panel mid_panel new_panel old mid new row
          new_table (mark_answer result) before is,
    ))
then_row done honest still more table new_table member from row old_panel mid_panel new_panel old mid new result before
    other end (inr (inr (ended, same, is))) =
    inr (inr (
      ended,
      same,
      fills_worn honest still more table member from old_panel mid_panel new_panel old mid new row
          before is,
    ))

-- where it was answered `true`, it is done
pub was_done : (done honest : Type 0) (table new_table : Table) (member : ℕ) (old_panel new_panel : Panel)
    (old new : History) (result : Result Bool Refusal)
    → DoneOrFailsSlot done honest table new_table member old_panel new_panel old new result → result ≡ Ok true
    → (new_table ≡ table) × done
was_done done honest table new_table member old_panel new_panel old new result (inl (ok, same, is)) true_is = (same, is)
was_done done honest table new_table member old_panel new_panel old new result (inr (inl (other, is))) true_is = absurd
    (other true_is)
was_done done honest table new_table member old_panel new_panel old new result (inr (inr (ended, same, is))) true_is =
    absurd (cc)

-- where it was not, nothing is said of what is done
pub not_done : (done other honest : Type 0) (table new_table : Table) (member : ℕ) (old_panel new_panel : Panel)
    (old new : History) (result : Result Bool Refusal) → result ≢ Ok true
    → DoneOrFailsSlot done honest table new_table member old_panel new_panel old new result
    → DoneOrFailsSlot other honest table new_table member old_panel new_panel old new result
not_done done other honest table new_table member old_panel new_panel old new result not_true (inl (ok, same, is)) =
    absurd (not_true ok)
not_done done other honest table new_table member old_panel new_panel old new result not_true (inr rest) = inr rest
