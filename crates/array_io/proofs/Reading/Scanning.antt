-- Many sectors are read, one after another: each read goes on from those before it, and all of them are one step of a
-- call that keeps the list.
use Rattle.std.proofs.Common.{◌≡◌, ◌≢◌, inl, inr, ℕ, ◌+◌, ◌<◌, Bool, true, false, refl, sym, ◌∙◌, ap, subst, arith}
use Rattle.std.specs.Prelude.{Ok, Err, Result}
use Rattle.sector_model.specs.declared.refusal.Refusal.{Refusal}
use Rattle.sector_model.specs.declared.refusal.Refusal.TheVariants.{Worn}
use Rattle.sector_model.specs.Bank.{IsTrueTo, Panel}
use Rattle.sector_model.specs.History.{Bytes, History, Slots, disk_of, sector_of}
use Rattle.sector_model.specs.Readable.{readable}
use Rattle.sector_model.specs.Reads.{HasRead}
use Rattle.sector_model.proofs.Panels.{later_both, later_same}
use Rattle.sector_model.proofs.Reading.{read_both, read_none}
use Rattle.layout_map.specs.declared.sizes.TheConstants.{FIRST_ROW}
use Rattle.superblock.specs.declared.state.State.{State}
use Rattle.superblock.specs.declared.state.State.TheVariants.{InSync, Missing}
use Rattle.superblock.specs.declared.table.Table.{Table}
use Rattle.superblock.specs.NextTables.{IsComplete}
use Rattle.superblock.specs.Tables.{state_at}
use Rattle.degraded.specs.RowValue.{value}
use Rattle.degraded.proofs.Values.{value-own}
use Rattle.array_io.specs.Believed.ArrayCalls.{Answer}
use Rattle.array_io.specs.Steps.CallSteps.{StepsOf}
use Rattle.array_io.specs.Steps.MarkingOn.{IsWhyLeft, MarksOn}
use Rattle.array_io.specs.Steps.ReadingOn.{Between, IsFailureMarked, IsReadWorn, IsValueRead, KeepsList, ReadsOrFailsSlot}
use Rattle.array_io.specs.Steps.Scanning.{HasScanned, ScansOrFailsSlot}
use Rattle.array_io.specs.Believed.Settled.{rows_by, trusts}
use Rattle.array_io.specs.Believed.Views.{HasItsSlots, view_of}
use Rattle.array_io.proofs.Marks.MarkingHolds.{missing_then}
use Rattle.array_io.proofs.Calls.DeviceReads.{reads_front, reads_run}
use Rattle.array_io.proofs.Reading.ReadSteps.{failure_step, scan_step, worn_step}
use Rattle.array_io.proofs.Reading.ReadValue.{marks_as, reads_off}
use Rattle.array_io.proofs.Images.Spellings.{Spellings}

-- in a complete set an open array trusts every sector of each member
pub own_trusted : (table : Table) (image : Slots) → IsComplete table → (row member : ℕ) → member <
    table.geometry.members → (rows_by table image).trusted row member ≡ true
own_trusted table image complete row member below = ap (λ (s : State). trusts s row table.position)
    (complete.in_sync member (omega (arith, below)))

-- so the values are the members' own sectors
pub own_value : (table : Table) (image : Slots) → IsComplete table → (row member : ℕ) → member < table.geometry.members
    → value (rows_by table image) row member ≡ sector_of (disk_of (image member)) (FIRST_ROW + row)
own_value table image complete row member below = value-own (rows_by table image) row member refl
    (own_trusted table image complete row member below)

-- nothing was read so far
pub scanned_none : {honest : Type 0} (panel : Panel) (h : History) → HasScanned honest panel panel h h
scanned_none panel h = record { later = later_same panel; reads = λ fair. read_none h; stays = λ fair device. refl }

-- and then more was; what is honest at the start is so between them
pub scanned_both : {honest still : Type 0} {old_panel mid_panel new_panel : Panel} {old mid new : History}
    → (honest → still)
    → HasScanned honest old_panel mid_panel old mid → HasScanned still mid_panel new_panel mid new → HasScanned honest
    old_panel new_panel old new
scanned_both {honest} {still} {old_panel} {mid_panel} {new_panel} more first second = record {
  later = later_both old_panel mid_panel new_panel first.later second.later;
  reads = λ fair. read_both (first.reads fair) (second.reads (more fair));
  stays = λ fair device. second.stays (more fair) device ∙ first.stays fair device;
}

module _ (honest still : Type 0) (more : honest → still) (table new_table : Table)
    (old_panel mid_panel new_panel : Panel) (old mid new : History)
    (first : HasScanned honest old_panel mid_panel old mid) where
  -- a device failed after what was read
  failure_after : (answer : Answer) → IsFailureMarked still table new_table mid_panel new_panel mid new answer
      → IsFailureMarked honest table new_table old_panel new_panel old new answer
  failure_after answer is = record {
    slot = is.slot;
    counted = is.counted;
    mid_panel = is.mid_panel;
    mid = is.mid;
    calls = record {
      later = later_both old_panel mid_panel is.mid_panel first.later is.calls.later;
      cause = is.calls.cause;
      named = is.calls.named;
      off = λ fair. reads_off table is.slot old is.mid is.counted (reads fair)
          (λ d apart. (is.calls.off (more fair)).others_down d apart ∙ first.stays fair d);
      none_failed = λ fair ok. absurd (cc);
      runs = λ fair. reads_run (reads fair);
      front = λ fair ok. reads_front (reads fair);
    };
    reads = reads;
    true_mid = λ fair. is.true_mid (more fair);
    marks = marks_as is.slot is.mid_panel new_panel table new_table is.mid new answer more is.marks;
  }
    where
      reads : honest → HasRead old is.mid
      reads fair = read_both (first.reads fair) (is.reads (more fair))

  -- the count ended after it
  worn_after : IsReadWorn still mid_panel new_panel mid new → IsReadWorn honest old_panel new_panel old new
  worn_after is = record {
    later = later_both old_panel mid_panel new_panel first.later is.later;
    worn = is.worn;
    reads = λ fair. read_both (first.reads fair) (is.reads (more fair));
    stays = λ fair device. is.stays (more fair) device ∙ first.stays fair device;
  }

  -- what was read, and then the rest
  pub scanned_then : (result : Result Bool Refusal) → ScansOrFailsSlot still table new_table mid_panel new_panel mid new
      result → ScansOrFailsSlot honest table new_table old_panel new_panel old new result
  scanned_then result (inl is) = inl (is.0, is.1, scanned_both more first is.2)
  scanned_then result (inr (inl is)) = inr (inl (is.0, failure_after (Ok tt) is.1))
  scanned_then result (inr (inr (inl is))) = inr (inr (inl (is.0, is.1, failure_after (Err is.0) is.2)))
  scanned_then result (inr (inr (inr is))) = inr (inr (inr (is.0, is.1, worn_after is.2)))

-- one value was read
value_scanned : {honest : Type 0} {table : Table} {member row : ℕ} {old_panel new_panel : Panel} {old new : History}
    {to : Bytes}
    → IsValueRead honest table member row old_panel new_panel old new to → HasScanned honest old_panel new_panel old new
value_scanned is = record { later = is.later; reads = is.reads; stays = is.stays }

-- what reading answers, as a step of the call
abbrev pub answer_of_read : Result Bool Refusal → Answer
answer_of_read (Ok is_read) = Ok tt
answer_of_read (Err refusal) = Err refusal

module _ (spellings : Spellings) (honest : Type 0) (devices number : ℕ) (table new_table : Table)
    (old_panel new_panel : Panel) (old new : History) (result : Result Bool Refusal)
    (true_old : honest → IsTrueTo old_panel old) (true_new : honest → IsTrueTo new_panel new)
    (its : HasItsSlots table old_panel) where
  abbrev IsStep : Table → Answer → Type 0
  IsStep t answer = StepsOf honest (KeepsList devices) (Between devices number) (Between devices number)
      (view_of old_panel old table number) (view_of new_panel new t number) answer

  -- all of it is a step
  pub scans_step : ScansOrFailsSlot honest table new_table old_panel new_panel old new result → IsStep new_table
      (answer_of_read result)
  scans_step (inl is) = subst (λ (r : Result Bool Refusal). IsStep new_table (answer_of_read r)) (sym is.0)
      (subst (λ (t : Table). IsStep t (Ok tt)) (sym is.1) (scan_step spellings honest devices number table old_panel
      new_panel old new true_old true_new is.2))
  scans_step (inr (inl is)) = subst (λ (r : Result Bool Refusal). IsStep new_table (answer_of_read r)) (sym is.0)
      (failure_step spellings honest devices number table old_panel new_panel old new true_old true_new new_table (Ok tt)
      its is.1)
  scans_step (inr (inr (inl is))) = subst (λ (r : Result Bool Refusal). IsStep new_table (answer_of_read r)) (sym is.1)
      (failure_step spellings honest devices number table old_panel new_panel old new true_old true_new new_table
      (Err is.0) its is.2)
  scans_step (inr (inr (inr is))) = subst (λ (r : Result Bool Refusal). IsStep new_table (answer_of_read r)) (sym is.0)
      (subst (λ (t : Table). IsStep t (Err Worn)) (sym is.1)
      (worn_step spellings honest devices number table old_panel new_panel old new true_old true_new is.2))

module _ {honest : Type 0} {table new_table : Table} {member row : ℕ} {old_panel new_panel : Panel} {old new : History}
    {to : Bytes} where
  -- one value is read
  pub value_scans : {result : Result Bool Refusal} → ReadsOrFailsSlot honest table new_table member row old_panel new_panel
      old new to result
      → ScansOrFailsSlot honest table new_table old_panel new_panel old new result
  value_scans (inl is) = inl (is.0, is.1, value_scanned is.2)
  value_scans (inr rest) = inr rest

  was_read : {result : Result Bool Refusal} → ReadsOrFailsSlot honest table new_table member row old_panel new_panel old
      new to result → result ≡ Ok true
      → (new_table ≡ table) × IsValueRead honest table member row old_panel new_panel old new to
  was_read (inl is) read = (is.1, is.2)
  was_read (inr (inl is)) read = absurd (cc)
  was_read (inr (inr (inl is))) read = absurd (cc)
  was_read (inr (inr (inr is))) read = absurd (cc)

  -- of a complete set it is the member's own sector
  pub own_read : {result : Result Bool Refusal} → IsComplete table → member < table.geometry.members
      → ReadsOrFailsSlot honest table new_table member row old_panel new_panel old new to result → result ≡ Ok true → honest
      → to ≡ sector_of (disk_of (readable old member)) (FIRST_ROW + row)
  own_read complete within reads read fair = (was_read reads read).1.gives fair ∙ own_value table (readable old)
      complete row member within

module _ (honest : Type 0) (table new_table : Table) (old_panel new_panel : Panel) (old new : History) where
  -- where all was read the table is the same
  pub all_scanned : {result : Result Bool Refusal} → ScansOrFailsSlot honest table new_table old_panel new_panel old new
      result → result ≡ Ok true
      → (new_table ≡ table) × HasScanned honest old_panel new_panel old new
  all_scanned (inl is) read = (is.1, is.2)
  all_scanned (inr (inl is)) read = absurd (cc)
  all_scanned (inr (inr (inl is))) read = absurd (cc)
  all_scanned (inr (inr (inr is))) read = absurd (cc)

  -- where it was not, though no refusal was answered, a slot was marked missing
  pub failure_scanned : {result : Result Bool Refusal} → ScansOrFailsSlot honest table new_table old_panel new_panel old new
      result → result ≡ Ok false
      → IsFailureMarked honest table new_table old_panel new_panel old new (Ok tt)
  failure_scanned (inl is) marked = absurd (cc)
  failure_scanned (inr (inl is)) marked = is.1
  failure_scanned (inr (inr (inl is))) marked = absurd (cc)
  failure_scanned (inr (inr (inr is))) marked = absurd (cc)

  differ : ¬ (Missing ≡ InSync)
  differ e = cc

  left_or_marked : (slot : ℕ) (answer : Answer) → state_at table.states slot ≢ Missing → IsWhyLeft table slot answer
      → answer ≡ Ok tt → ⊥
  left_or_marked slot answer there (inl is) ok = there is.0
  left_or_marked slot answer there (inr (inl is)) ok = absurd (cc)
  left_or_marked slot answer there (inr (inr is)) ok = absurd (cc)

  -- a slot that was marked leaves no complete set
  pub none_complete : IsFailureMarked honest table new_table old_panel new_panel old new (Ok tt) → ¬ IsComplete new_table
  none_complete is complete = by_marks is.marks
    where
      by_marks : MarksOn honest is.slot is.mid_panel new_panel table new_table is.mid new (Ok tt) → ⊥
      by_marks (inl left) = left_or_marked is.slot (Ok tt) is.counted.there left.why refl
      by_marks (inr marked) = differ (sym (missing_then table new_table is.slot marked.marked is.counted.of_set)
          ∙ complete.in_sync is.slot (subst (λ (n : ℕ). is.slot < n + 2)
          (sym (ap (λ g. g.members) marked.marked.same_geometry)) is.counted.of_set))

  -- where the table stays, a device that failed was not marked, and nothing was called but reads
  reads_of_failure : (answer : Answer) → IsFailureMarked honest table new_table old_panel new_panel old new answer
      → new_table ≡ table → honest → HasRead old new
  reads_of_failure answer is same fair = by_marks is.marks
    where
      by_marks : MarksOn honest is.slot is.mid_panel new_panel table new_table is.mid new answer → HasRead old new
      by_marks (inl left) = subst (HasRead old) (sym left.same_history) (is.reads fair)
      by_marks (inr marked) = absurd (omega (arith, marked.marked.generation, ap (λ (t : Table). t.generation) same))

  pub reads_alone : {result : Result Bool Refusal} → ScansOrFailsSlot honest table new_table old_panel new_panel old new
      result → new_table ≡ table → honest → HasRead old new
  reads_alone (inl is) same fair = is.2.reads fair
  reads_alone (inr (inl is)) same fair = reads_of_failure (Ok tt) is.1 same fair
  reads_alone (inr (inr (inl is))) same fair = reads_of_failure (Err is.0) is.2 same fair
  reads_alone (inr (inr (inr is))) same fair = is.2.reads fair
