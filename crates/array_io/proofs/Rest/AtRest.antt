-- A set at rest, all there, is settled.
use Rattle.std.proofs.Common.{◌≡◌, inl, inr, ℕ, ◌+◌, ◌<◌, true, false, List, [], ◌∷◌, Option, Some, None, refl, sym, ◌∙◌, ap, subst}
use Rattle.std.specs.Prelude.{Contains}
use Rattle.sector_model.specs.History.{Bytes, History, MayLeave, Slots, is_down}
use Rattle.sector_model.specs.Readable.{NothingPending, readable}
use Rattle.sector_model.proofs.Readable.{readable_left}
use Rattle.superblock.specs.declared.table.Table.{Table}
use Rattle.superblock.specs.Cases.{IsLostAfter, Lost, MayBeOut, MayStand, with_slot}
use Rattle.superblock.specs.Counted.{Content, IsChosen, IsLive}
use Rattle.superblock.specs.Losses.{IsLostAt, IsSingleFailure}
use Rattle.superblock.specs.NextTables.{IsComplete, IsNotOlder, IsOut, slots_of}
use Rattle.superblock.proofs.LaterTables.{not_older_same}
use Rattle.layout_map.specs.declared.geometry.Geometry.{Geometry}
use Rattle.degraded.specs.RowValue.{AreSound}
use Rattle.array_io.specs.Steps.Bringing.{CarriesAll}
use Rattle.array_io.specs.Laws.Core.{IsKnown}
use Rattle.array_io.specs.Steps.EntryAtRest.{HasEntryAtRest}
use Rattle.array_io.specs.Believed.Holds.{row_count}
use Rattle.array_io.specs.Believed.Moments.{HoldsNow}
use Rattle.array_io.specs.Believed.Settled.{IsAllThere, IsLostSlot, IsSettled, NoneComesBack, rows_by}
use Rattle.array_io.proofs.Rest.AtRestImages.{Held, IsQuiet, LeavesSectors, held_left, rest_image}
use Rattle.array_io.proofs.Rest.AtRestLost.{RestCase, away_is_out, carried_without, complete_case, complete_or_out, core_at_rest, listed_by, lost_case}
use Rattle.array_io.proofs.Rest.AtRestRows.{IsRestImage}
use Rattle.array_io.proofs.Laws.AwayStale.{others_stale}
use Rattle.array_io.proofs.Laws.Beginning.{live_is_up}
use Rattle.array_io.proofs.Laws.Begun.{one_at_most}
use Rattle.array_io.proofs.Images.Choice.{chosen_with}
use Rattle.array_io.proofs.Images.Counting.{none_is_out, stale_is_out}
use Rattle.array_io.proofs.Rest.EntryAtRest.{number_at_rest, number_with}
use Rattle.array_io.proofs.Laws.Fresh.{in_sync_not_missing}
use Rattle.array_io.proofs.Laws.FromCore.{holds_from_core, none_known, stale_known}
use Rattle.array_io.proofs.Rest.LastAtRest.{reads_alike, reads_by, reads_rows}
use Rattle.array_io.proofs.Images.Put.{put_there}
use Rattle.array_io.proofs.Images.Rows.{alike_back, sound_alike}
use Rattle.array_io.proofs.Images.Spellings.{Spellings}

-- A set at rest: nothing is pending, and each case that a crash now may leave holds for X; one slot is lost at most; reads choose the table; what
-- it doesn't call missing is there; its last entry, whose number is given (0 for none), says what the members hold; and each sector has 512 bytes.
pub record IsResting (base table : Table) (devices number : ℕ) (lost : Option Lost) (X : List (List Bytes)) (h : History) : Type 0 where
  pub nothing_pending : NothingPending h
  pub holds : HoldsNow base devices lost X h
  pub single_failure : IsSingleFailure (slots_of base) lost h
  pub chosen : IsChosen base.id devices (readable h) table
  pub there : IsAllThere devices table h
  pub entry : HasEntryAtRest devices table number (readable h)
  pub sectors : LeavesSectors h

-- each image that a crash may leave chooses the table also without any one slot
abbrev pub IsChosenWithoutAny : (devices : ℕ) → Table → History → Type 0
IsChosenWithoutAny devices table h = (image : Slots) → MayLeave h image → (slot : ℕ) → IsChosen table.id devices (with_slot image slot None) table

-- the set is settled on a list of X, with the slot lost that the table lacks
pub record Rests (base table : Table) (devices number : ℕ) (before : Option Lost) (X : List (List Bytes)) (h : History) : Type 0 where
  pub logical : List Bytes
  pub among : Contains X logical
  pub not_older : IsNotOlder base table
  pub lost : Option Lost
  pub is_lost : IsLostAfter before table lost
  pub settled : IsSettled devices table number h lost logical

-- what may stand in a slot that may be out is known to the table, and not live
record StandsForNothing (devices : ℕ) (table : Table) (slot : ℕ) (content : Content) : Type 0 where
  known : IsKnown devices table slot content
  out : ¬ IsLive devices table slot content

stands_for_nothing : Spellings → (devices : ℕ) (table : Table) (number : ℕ) (X : List (List Bytes)) (reads image : Slots) (lost : Option Lost)
    → RestCase devices table number X reads image lost → (slot : ℕ) (content : Content) → MayBeOut lost slot → MayStand devices table lost slot content
    → StandsForNothing devices table slot content
stands_for_nothing spellings devices table number X reads image lost case slot content may (inl none) = subst (StandsForNothing devices table slot) (sym none)
    record { known = none_known spellings devices table slot; out = none_is_out spellings devices table slot }
stands_for_nothing spellings devices table number X reads image lost case slot content may (inr (inl stale)) =
    record { known = stale_known devices table slot content stale; out = stale_is_out devices table slot content stale }
stands_for_nothing spellings devices table number X reads image lost case slot content may (inr (inr away)) =
    subst (StandsForNothing devices table slot) (sym away.holds)
    record { known = case.known_away slot away.disk may away.listed; out = away_is_out devices table lost case.none_back slot away.disk may away.listed }

-- by its cases, a set at rest is settled
record CasesRest (devices : ℕ) (table : Table) (number : ℕ) (X : List (List Bytes)) (h : History) (lost : Option Lost) : Type 0 where
  quiet : IsQuiet devices table number h
  sound : AreSound (rows_by table (readable h)) (row_count table)
  lost_slot : IsLostSlot table lost
  none_back : NoneComesBack devices table lost
  cases : (image : Slots) → MayLeave h image → RestCase devices table number X (readable h) image lost

settled_by_cases : Spellings → (devices : ℕ) (table : Table) (number : ℕ) (X : List (List Bytes)) (h : History) (lost : Option Lost)
    → CasesRest devices table number X h lost
    → IsSettled devices table number h lost (listed_by table (readable h))
settled_by_cases spellings devices table number X h lost rests = record {
  nothing_pending = rests.quiet.nothing_pending;
  holds = λ image may. holds_from_core spellings table devices table record { image = image; lost = lost } (listed_by table (readable h) ∷ [])
      (not_older_same table)
      (core_at_rest spellings devices table number X (readable h) image lost (rests.cases image may) rests.sound);
  there = rests.quiet.there;
  listed = refl;
  sound = rests.sound;
  chosen = record {
    whole = λ image may. (rests.cases image may).whole.chosen;
    weakened = λ image slot content may out stands. chosen_with spellings devices table image slot content ((rests.cases image may).chosen_without slot out)
        (nothing image slot content may out stands).known;
  };
  numbered = record {
    whole = λ image may. number_at_rest spellings devices table number image (rests.cases image may).rest.entry;
    weakened = λ image slot content may out stands. number_with spellings devices table number image (rests.cases image may).rest.entry slot content
        (nothing image slot content may out stands).out;
  };
  none_back = rests.none_back;
  lost_slot = rests.lost_slot;
}
  where
    nothing : (image : Slots) (slot : ℕ) (content : Content) → MayLeave h image → MayBeOut lost slot → MayStand devices table lost slot content
        → StandsForNothing devices table slot content
    nothing image slot content may out stands =
        stands_for_nothing spellings devices table number X (readable h) image lost (rests.cases image may) slot content out stands

-- what is known of a run at rest once it is known which slot is lost in its cases
record IsHeld (base table : Table) (devices number : ℕ) (X : List (List Bytes)) (h : History) (lost : Option Lost) : Type 0 where
  quiet : IsQuiet devices table number h
  held : (image : Slots) → MayLeave h image → Held base devices table X image lost

held_reads : Spellings → (base table : Table) (devices number : ℕ) (X : List (List Bytes)) (h : History) (lost : Option Lost)
    → IsHeld base table devices number X h lost
    → Held base devices table X (readable h) lost × IsRestImage devices table number (readable h) (readable h)
held_reads spellings base table devices number X h lost is =
    (is.held (readable h) (readable_left h), rest_image spellings devices table number h is.quiet (readable h) (readable_left h))

reads_sound : Spellings → (base table : Table) (devices number : ℕ) (X : List (List Bytes)) (h : History) (lost : Option Lost)
    → IsHeld base table devices number X h lost
    → AreSound (rows_by table (readable h)) (row_count table)
reads_sound spellings base table devices number X h lost is =
    let reads = held_reads spellings base table devices number X h lost is in
    let are = reads_rows spellings devices table number (readable h) reads.1 in
    let rows = reads_by spellings devices table number (readable h) reads.1 in
    sound_alike table rows (rows_by table (readable h)) are.width refl (alike_back table (reads_alike spellings devices table number (readable h) reads.1))
    (reads.0.whole.sound rows are)

reads_listed : Spellings → (base table : Table) (devices number : ℕ) (X : List (List Bytes)) (h : History) (lost : Option Lost)
    → IsHeld base table devices number X h lost
    → Contains X (listed_by table (readable h))
reads_listed spellings base table devices number X h lost is =
    let reads = held_reads spellings base table devices number X h lost is in
    subst (Contains X) (sym (reads_alike spellings devices table number (readable h) reads.1).lists)
    (reads.0.whole.listed (reads_by spellings devices table number (readable h) reads.1) (reads_rows spellings devices table number (readable h) reads.1))

-- the table is complete
rests_complete : Spellings → (base table : Table) (devices number : ℕ) (X : List (List Bytes)) (h : History) (before lost : Option Lost)
    → IsHeld base table devices number X h lost
    → IsComplete table → IsChosenWithoutAny devices table h → Rests base table devices number before X h
rests_complete spellings base table devices number X h before lost is complete chosen_without = record {
  logical = listed_by table (readable h);
  among = reads_listed spellings base table devices number X h lost is;
  not_older = (held_reads spellings base table devices number X h lost is).0.not_older;
  lost = None;
  is_lost = inl (complete, refl);
  settled = settled_by_cases spellings devices table number X h None record {
    quiet = is.quiet;
    sound = reads_sound spellings base table devices number X h lost is;
    lost_slot = record { none = λ c. refl; out = λ slot out. absurd (out.out (complete.in_sync slot out.of_set)) };
    none_back = tt;
    cases = λ image may. complete_case devices table number X (readable h) image (is.held image may).whole
        (rest_image spellings devices table number h is.quiet image may) complete (chosen_without image may);
  };
}

-- the slot that is lost is the one that is out
lost_is_out : (table : Table) (lost : Lost) → IsOut table lost.slot → IsLostSlot table (Some lost)
lost_is_out table lost out = record {
  none = λ complete. absurd (out.out (complete.in_sync lost.slot out.of_set));
  out = λ slot is. (table.allowed.one_out lost.slot slot out.of_set is.of_set out.out is.out, refl);
}

-- no device that is away comes back
none_comes_back : Spellings → (base table : Table) (devices number : ℕ) (X : List (List Bytes)) (h : History) (lost : Lost)
    → IsHeld base table devices number X h (Some lost)
    → IsOut table lost.slot → NoneComesBack devices table (Some lost)
none_comes_back spellings base table devices number X h lost is out there =
    others_stale spellings devices table lost.slot (readable h lost.slot) lost.away (is.quiet.there lost.slot out.of_set there)
    ((held_reads spellings base table devices number X h (Some lost) is).0.one_counts there)

rests_lost : Spellings → (base table : Table) (devices number : ℕ) (X : List (List Bytes)) (h : History) (before : Option Lost) (lost : Lost)
    → IsHeld base table devices number X h (Some lost) → IsOut table lost.slot → IsLostAfter before table (Some lost)
    → Rests base table devices number before X h
rests_lost spellings base table devices number X h before lost is out is_lost = record {
  logical = listed_by table (readable h);
  among = reads_listed spellings base table devices number X h (Some lost) is;
  not_older = (held_reads spellings base table devices number X h (Some lost) is).0.not_older;
  lost = Some lost;
  is_lost = is_lost;
  settled = settled_by_cases spellings devices table number X h (Some lost) record {
    quiet = is.quiet;
    sound = reads_sound spellings base table devices number X h (Some lost) is;
    lost_slot = lost_is_out table lost out;
    none_back = none_comes_back spellings base table devices number X h lost is out;
    cases = λ image may. lost_case base devices table number X (readable h) image lost (is.held image may)
        (rest_image spellings devices table number h is.quiet image may) out (none_comes_back spellings base table devices number X h lost is out);
  };
}

-- a slot of the set whose device is down is out
down_is_out : Spellings → (devices : ℕ) (table : Table) (h : History) → IsAllThere devices table h → (slot : ℕ) → slot < slots_of table → is_down h slot ≡ true
    → IsOut table slot
down_is_out spellings devices table h there slot of_set down = record {
  of_set = of_set;
  out = λ in_sync. differ (sym down ∙ live_is_up spellings devices table h slot (there slot of_set (λ missing. in_sync_not_missing (sym in_sync ∙ missing))));
}
  where
    differ : true ≡ false → ⊥
    differ is = cc

alone : ℕ → Lost
alone slot = record { slot = slot; away = [] }

-- where none was lost, a case with none lost holds with any one slot lost
held_alone : (base : Table) (devices : ℕ) (table : Table) (X : List (List Bytes)) (image : Slots) → Held base devices table X image None → (slot : ℕ)
    → slot < slots_of table
    → Held base devices table X image (Some (alone slot))
unfolding alone
held_alone base devices table X image held slot of_set = record {
  not_older = held.not_older;
  lost_in_set = of_set;
  whole = held.whole;
  weakened = λ other content may stands. held.weakened other content tt stands;
  one_counts = λ there. one_at_most devices table slot (image slot);
}

-- so the slot that is out is lost
none_was_lost : Spellings → (base table : Table) (devices number : ℕ) (X : List (List Bytes)) (h : History) (lost : Option Lost)
    → IsHeld base table devices number X h lost
    → IsLostAt (slots_of base) None h lost → (slot : ℕ) → IsOut table slot → IsHeld base table devices number X h (Some (alone slot))
unfolding alone
none_was_lost spellings base table devices number X h lost is (inl (none, up)) slot out = record {
  quiet = is.quiet;
  held = λ image may. held_alone base devices table X image (subst (Held base devices table X image) none (is.held image may)) slot out.of_set;
}
none_was_lost spellings base table devices number X h lost is (inr failure) slot out =
    subst (IsHeld base table devices number X h) (failure.lost ∙ ap (λ (s : ℕ). Some (alone s)) same) is
  where
    of_set : failure.slot < slots_of table
    of_set = subst (λ (g : Geometry). failure.slot < g.members + 2) (sym (held_reads spellings base table devices number X h lost is).0.not_older.same_geometry)
        failure.of_set

    same : failure.slot ≡ slot
    same = table.allowed.one_out failure.slot slot of_set out.of_set
        (down_is_out spellings devices table h is.quiet.there failure.slot of_set failure.failed).out out.out

-- a slot that is lost in a case that holds is the one that is out
lost_was_out : Spellings → (base table : Table) (devices number : ℕ) (X : List (List Bytes)) (image : Slots) (lost : Lost)
    → Held base devices table X image (Some lost)
    → (slot : ℕ) → IsOut table slot → IsOut table lost.slot
lost_was_out spellings base table devices number X image lost held slot out = subst (IsOut table) (sym same) out
  where
    same : lost.slot ≡ slot
    same = (held.weakened lost.slot None refl (inl refl)).one_out lost.slot slot held.lost_in_set out.of_set
        (λ full. none_is_out spellings devices table lost.slot (subst (IsLive devices table lost.slot) (put_there image lost.slot None) full.live))
        (λ full. out.out full.in_sync)

rests_out : Spellings → (base table : Table) (devices number : ℕ) (X : List (List Bytes)) (h : History) (before lost : Option Lost)
    → IsHeld base table devices number X h lost
    → IsLostAt (slots_of base) before h lost → (slot : ℕ) → IsOut table slot → Rests base table devices number before X h
unfolding alone
rests_out spellings base table devices number X h None lost is at slot out =
    rests_lost spellings base table devices number X h None (alone slot) (none_was_lost spellings base table devices number X h lost is at slot out) out
    (inr (slot, out, refl))
rests_out spellings base table devices number X h (Some before) lost is (of_set, same, up) slot out =
    let held = subst (IsHeld base table devices number X h) same is in
    let its = lost_was_out spellings base table devices number X (readable h) before (held_reads spellings base table devices number X h (Some before) held).0
    slot out in
    rests_lost spellings base table devices number X h (Some before) before held its (inr (its, refl))

is_held : Spellings → (base table : Table) (devices number : ℕ) (lost : Option Lost) (X : List (List Bytes)) (h : History)
    → (rest : IsResting base table devices number lost X h) → IsHeld base table devices number X h rest.single_failure.0
is_held spellings base table devices number lost X h rest = record {
  quiet = record { nothing_pending = rest.nothing_pending; there = rest.there; entry = rest.entry; sectors = rest.sectors };
  held = held_left spellings base devices table X h lost rest.single_failure.0 record {
    nothing_pending = rest.nothing_pending;
    chosen = rest.chosen;
    lost = rest.single_failure.1;
    holds = λ image may. rest.holds rest.single_failure.0 image rest.single_failure.1 may;
  };
}

-- A set at rest is settled, where a complete table is chosen without any one slot.
pub rests_by_choice : Spellings → (base table : Table) (devices number : ℕ) (lost : Option Lost) (X : List (List Bytes)) (h : History)
    → IsResting base table devices number lost X h → (IsComplete table → IsChosenWithoutAny devices table h) → Rests base table devices number lost X h
rests_by_choice spellings base table devices number lost X h rest chosen_without =
    let is = is_held spellings base table devices number lost X h rest in
    elim (complete_or_out table) [
      | inl complete ↦ rests_complete spellings base table devices number X h lost rest.single_failure.0 is complete (chosen_without complete)
      | inr out ↦ rests_out spellings base table devices number X h lost rest.single_failure.0 is rest.single_failure.1 out.0 out.1
    ]

-- A set at rest is settled, where each slot of a complete one carries the table.
pub at_rest_is_settled : Spellings → (base table : Table) (devices number : ℕ) (lost : Option Lost) (X : List (List Bytes)) (h : History)
    → IsResting base table devices number lost X h → (IsComplete table → CarriesAll table (readable h)) → Rests base table devices number lost X h
at_rest_is_settled spellings base table devices number lost X h rest carried =
    rests_by_choice spellings base table devices number lost X h rest (λ complete image may slot.
    carried_without spellings devices table number (readable h) image (is.held image may).whole.chosen
    (rest_image spellings devices table number h is.quiet image may) complete (carried complete) slot)
  where
    is : IsHeld base table devices number X h rest.single_failure.0
    is = is_held spellings base table devices number lost X h rest
