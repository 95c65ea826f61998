-- How a read ends: after one try to read the value, or after two.
use Rattle.std.proofs.Common.{◌≡◌, ◌⊎◌, inl, inr, ℕ, ◌+◌, ◌<◌, Bool, true, false, sym, ◌∙◌, ap, subst}
use Rattle.std.specs.Prelude.{Ok, Err, Result}
use Rattle.sector_model.specs.declared.refusal.Refusal.{Refusal}
use Rattle.sector_model.specs.Bank.{IsTrueTo, Panel}
use Rattle.sector_model.specs.History.{Bytes, History, Slots}
use Rattle.sector_model.specs.Readable.{readable}
use Rattle.superblock.specs.declared.state.State.TheVariants.{InSync, Missing}
use Rattle.superblock.specs.declared.table.Table.{Table}
use Rattle.superblock.specs.NextTables.{slots_of}
use Rattle.superblock.specs.Tables.{state_at}
use Rattle.layout_map.specs.declared.geometry.Geometry.{Geometry}
use Rattle.degraded.specs.RowValue.{value}
use Rattle.array_io.specs.Steps.CallSteps.{StepsOf}
use Rattle.array_io.specs.Steps.MarkingOn.{IsWhyLeft, MarksOn}
use Rattle.array_io.specs.Steps.ReadingOn.{Between, IsFailureMarked, KeepsList, KeepsOn, ReadsOrFailsSlot}
use Rattle.array_io.specs.Believed.Settled.{rows_by}
use Rattle.array_io.specs.Believed.Views.{HasItsSlots, view_of}
use Rattle.array_io.proofs.Calls.CallSteps.{steps_both}
use Rattle.array_io.proofs.Marks.MarkingHolds.{missing_then}
use Rattle.array_io.proofs.Reading.Scanning.{answer_of_read, scans_step, value_scans}
use Rattle.array_io.proofs.Images.Spellings.{Spellings}
use Rattle.array_io.proofs.Writes.Writable.{same_readable}

module _ (spellings : Spellings) (honest : Type 0) (devices number : ℕ) (table new_table : Table) (member row : ℕ) (old_panel new_panel : Panel)
    (old new : History) (to : Bytes)
    (result : Result Bool Refusal) (true_old : honest → IsTrueTo old_panel old) (true_new : honest → IsTrueTo new_panel new) (its : HasItsSlots table old_panel)
    (reads : ReadsOrFailsSlot honest table new_table member row old_panel new_panel old new to result) where
  -- a try is a step
  pub try_step : StepsOf honest (KeepsList devices) (Between devices number) (Between devices number)
      (view_of old_panel old table number) (view_of new_panel new new_table number) (answer_of_read result)
  try_step = scans_step spellings honest devices number table new_table old_panel new_panel old new result true_old true_new its (value_scans reads)

  -- what was read is the value by what reads give at the return
  pub try_gives : result ≡ Ok true → honest → to ≡ value (rows_by new_table (readable new)) row member
  try_gives read fair = elim reads [
    | inl is ↦ is.2.gives fair
        ∙ ap (λ (i : Slots). value (rows_by table i) row member) (sym (same_readable old new (is.2.reads fair) (is.2.stays fair)))
        ∙ ap (λ (t : Table). value (rows_by t (readable new)) row member) (sym is.1)
    | inr rest ↦ elim rest [
      | inl is ↦ absurd (cc)
      | inr others ↦ elim others [
        | inl is ↦ absurd (cc)
        | inr is ↦ absurd (cc)
      ]
    ]
  ]

  -- where a slot was marked it is missing
  pub try_marked : result ≡ Ok false → IsFailureMarked honest table new_table old_panel new_panel old new (Ok tt)
  try_marked marked = elim reads [
    | inl is ↦ absurd (cc)
    | inr rest ↦ elim rest [
      | inl is ↦ is.1
      | inr others ↦ elim others [
        | inl is ↦ absurd (cc)
        | inr is ↦ absurd (cc)
      ]
    ]
  ]

none_differ : ¬ (Missing ≡ InSync)
none_differ e = cc

-- two slots can't be marked in one call
pub not_marked_twice : (honest still : Type 0) (table mid_table new_table : Table) (old_panel mid_panel new_panel : Panel) (old mid new : History)
    → IsFailureMarked honest table mid_table old_panel mid_panel old mid (Ok tt) → IsFailureMarked still mid_table new_table mid_panel new_panel mid new (Ok tt)
    → ⊥
not_marked_twice honest still table mid_table new_table old_panel mid_panel new_panel old mid new first second = by_marks first.marks
  where
    by_second : state_at mid_table.states first.slot ≡ Missing → first.slot < slots_of mid_table
        → MarksOn still second.slot second.mid_panel new_panel mid_table new_table second.mid new (Ok tt) → ⊥
    by_second gone of_set (inr is) = none_differ (sym gone
        ∙ is.others first.slot of_set (λ same. second.counted.there (ap (state_at mid_table.states) (sym same) ∙ gone)))
    by_second gone of_set (inl left) = by_why left.why
      where
        by_why : IsWhyLeft mid_table second.slot (Ok tt) → ⊥
        by_why (inl (missing, ok)) = second.counted.there missing
        by_why (inr (inl (there, beside, two))) = absurd (cc)
        by_why (inr (inr (there, worn, others, is_worn))) = absurd (cc)

    by_why : IsWhyLeft table first.slot (Ok tt) → ⊥
    by_why (inl (missing, ok)) = first.counted.there missing
    by_why (inr (inl (there, beside, two))) = absurd (cc)
    by_why (inr (inr (there, worn, others, is_worn))) = absurd (cc)

    by_marks : MarksOn honest first.slot first.mid_panel mid_panel table mid_table first.mid mid (Ok tt) → ⊥
    by_marks (inl left) = by_why left.why
    by_marks (inr is) = by_second (missing_then table mid_table first.slot is.marked first.counted.of_set)
        (subst (λ (g : Geometry). first.slot < g.members + 2) (sym is.marked.same_geometry) first.counted.of_set) second.marks

-- where it was read there was an answer
was_read : (result : Result Bool Refusal) → (result ≡ Ok true) ⊎ ((refusal : Refusal) × (result ≡ Err refusal)) → answer_of_read result ≡ Ok tt
    → result ≡ Ok true
was_read result (inl read) ok = read
was_read result (inr (refusal, refused)) ok = absurd (differ (sym (ap answer_of_read refused) ∙ ok))
  where
    differ : ¬ (answer_of_read (Err refusal) ≡ Ok tt)
    differ e = cc

module _ (spellings : Spellings) (honest : Type 0) (member row : ℕ) (table mid_table : Table) (old_panel mid_panel : Panel) (old mid : History) (to : Bytes)
    (result : Result Bool Refusal) (true_old : honest → IsTrueTo old_panel old) (true_mid : honest → IsTrueTo mid_panel mid)
    (its : HasItsSlots table old_panel) (reads : ReadsOrFailsSlot honest table mid_table member row old_panel mid_panel old mid to result) where
  -- a try keeps the list
  pub first_try : KeepsOn honest table mid_table old_panel mid_panel old mid (answer_of_read result)
  first_try devices number = try_step spellings honest devices number table mid_table member row old_panel mid_panel old mid to result true_old true_mid its
      reads

  -- it ended with this try: the value was read, or it was refused
  pub first_gives : (result ≡ Ok true) ⊎ ((refusal : Refusal) × (result ≡ Err refusal)) → honest → answer_of_read result ≡ Ok tt
      → to ≡ value (rows_by mid_table (readable mid)) row member
  first_gives how fair ok =
      try_gives spellings honest old_panel.devices 0 table mid_table member row old_panel mid_panel old mid to result true_old true_mid its reads
      (was_read result how ok) fair

  -- a slot was marked, and a second try followed
  module _ (still : Type 0) (more : honest → still) (new_table : Table) (new_panel : Panel) (new : History) (then_to : Bytes) (second : Result Bool Refusal)
      (still_its : HasItsSlots mid_table mid_panel) (reads_then : ReadsOrFailsSlot still mid_table new_table member row mid_panel new_panel mid new then_to
      second)
      (true_mid_still : still → IsTrueTo mid_panel mid) (true_new_still : still → IsTrueTo new_panel new) where
    -- both keep the list
    pub both_tries : result ≡ Ok false → KeepsOn honest table new_table old_panel new_panel old new (answer_of_read second)
    both_tries marked devices number = steps_both honest still more (KeepsList devices) (Between devices number) (Between devices number)
        (Between devices number)
        (view_of old_panel old table number) (view_of mid_panel mid mid_table number) (view_of new_panel new new_table number) (answer_of_read second)
        (subst (λ (r : Result Bool Refusal). StepsOf honest (KeepsList devices) (Between devices number) (Between devices number)
        (view_of old_panel old table number) (view_of mid_panel mid mid_table number) (answer_of_read r)) marked (first_try devices number))
        (try_step spellings still devices number mid_table new_table member row mid_panel new_panel mid new then_to second true_mid_still true_new_still
        still_its reads_then)

    -- it ended with the second try
    pub second_gives : (second ≡ Ok true) ⊎ ((refusal : Refusal) × (second ≡ Err refusal)) → honest → answer_of_read second ≡ Ok tt
        → then_to ≡ value (rows_by new_table (readable new)) row member
    second_gives how fair ok =
        try_gives spellings still mid_panel.devices 0 mid_table new_table member row mid_panel new_panel mid new then_to second true_mid_still true_new_still
        still_its reads_then
        (was_read second how ok) (more fair)
