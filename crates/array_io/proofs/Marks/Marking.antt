-- While a slot is marked missing, every case keeps holding: a table is published that differs in that slot.
use Rattle.std.proofs.Common.{◌≡◌, ◌≢◌, inl, inr, ℕ, ◌<◌, ◌≤◌, false, List, [], Some, None, sym, ◌∙◌, ap, arith}
use Rattle.std.proofs.lemmas.Bool.{cases_eq}
use Rattle.sector_model.specs.History.{Bytes, History, is_down}
use Rattle.sector_model.specs.Moments.{Throughout}
use Rattle.sector_model.proofs.Steps.{throughout_more}
use Rattle.superblock.specs.declared.state.State.TheVariants.{InSync, Missing}
use Rattle.superblock.specs.declared.table.Table.{Table}
use Rattle.superblock.specs.Cases.{Lost}
use Rattle.superblock.specs.Counted.{IsChosen}
use Rattle.superblock.specs.Losses.{InEachImage}
use Rattle.superblock.specs.NextTables.{IsMarked, slots_of}
use Rattle.superblock.specs.Publishing.{ChooseEither, IsSafeAt, StandsAt, place_of}
use Rattle.superblock.specs.Tables.{state_at}
use Rattle.superblock.proofs.PublishSteps.{GetsIt, IsInPublish}
use Rattle.array_io.specs.Believed.Moments.{HoldsNow, HoldsThroughout}
use Rattle.array_io.proofs.Marks.MarkingHolds.{marks_slot, missing_then, state_stays}
use Rattle.array_io.proofs.Marks.MarkingImages.{gets_it}
use Rattle.array_io.proofs.Marks.MarkingMoments.{throughout_both}
use Rattle.array_io.proofs.Images.Spellings.{Spellings}
use Rattle.array_io.proofs.Tables.Stepping.{IsStepping, stepping_chosen, stepping_throughout}
use Rattle.layout_map.specs.declared.geometry.Geometry.{Geometry}

-- A slot of the set is marked missing, all others being in sync, and it is the lost one; the new table's superblocks are spelled, and the bank
-- has the set's slots.
pub record MarksSlot (devices : ℕ) (old_table new_table : Table) (slot : ℕ) (lost : Lost) (sectors : ℕ → Bytes) : Type 0 where
  pub marked : IsMarked old_table slot new_table
  pub of_set : slot < slots_of old_table
  pub others : (other : ℕ) → other < slots_of old_table → other ≢ slot → state_at old_table.states other ≡ InSync
  pub own : lost.slot ≡ slot
  pub has_slots : slots_of old_table ≤ devices
  pub spelled : (other : ℕ) → other < slots_of new_table → state_at new_table.states other ≢ Missing → StandsAt new_table other (sectors other)

no_last : (slot : ℕ) → ¬ (None ≡ Some slot)
no_last slot is = cc

-- a moment of it is one of a table that differs in the slot
pub is_stepping : (devices : ℕ) (old_table new_table : Table) (slot : ℕ) (lost : Lost) (X : List (List Bytes)) (sectors : ℕ → Bytes) (old h : History)
    → MarksSlot devices old_table new_table slot lost sectors → IsInPublish new_table None sectors old h → ChooseEither devices old_table new_table lost h
    → IsStepping devices old_table new_table slot None lost X sectors old h
is_stepping devices old_table new_table slot lost X sectors old h marks publish either = record {
  steps = marks_slot devices old_table new_table slot sectors marks.marked marks.of_set marks.others marks.has_slots marks.spelled;
  own = marks.own;
  up = λ is. absurd (no_last slot is);
  in_publish = publish;
  either = either;
  says = λ image may up chosen. inl (λ live. live.not_missing gone);
  away = λ there. absurd (there gone);
}
  where
    gone : state_at new_table.states slot ≡ Missing
    gone = missing_then old_table new_table slot marks.marked marks.of_set

-- where all cases held before the call, each choosing the old table, they hold at each moment of it
pub marking_throughout : Spellings → (devices : ℕ) (old_table new_table : Table) (slot : ℕ) (lost : Lost) (sectors : ℕ → Bytes) (old new : History)
    → MarksSlot devices old_table new_table slot lost sectors → Throughout (IsInPublish new_table None sectors old) old new
    → Throughout (ChooseEither devices old_table new_table lost) old new → (X : List (List Bytes))
    → InEachImage devices old_table old (Some lost) (λ image. IsChosen old_table.id devices image old_table)
    → HoldsNow old_table devices (Some lost) X old → HoldsThroughout old_table devices (Some lost) X old new
marking_throughout spellings devices old_table new_table slot lost sectors old new marks publish either X chosen now =
    stepping_throughout spellings devices old_table new_table slot None lost X sectors old new
    (throughout_more (λ h both. is_stepping devices old_table new_table slot lost X sectors old h marks both.0 both.1) new (throughout_both new publish either))
    chosen now

-- another slot of the set
another : (table : Table) (slot : ℕ) → (other : ℕ) × (other < slots_of table) × (other ≢ slot)
another table slot = elim (cases_eq slot 0) [
  | inl same ↦ (1, omega arith, λ is. absurd (omega (arith, is, same)))
  | inr apart ↦ (0, omega arith, λ is. apart (sym is))
]

-- Once the new superblocks are safe on devices that are up, each image chooses the new table.
pub marking_chosen : Spellings → (devices : ℕ) (old_table new_table : Table) (slot : ℕ) (lost : Lost) (sectors : ℕ → Bytes) (old h : History)
    → MarksSlot devices old_table new_table slot lost sectors → IsInPublish new_table None sectors old h → ChooseEither devices old_table new_table lost h
    → ((other : ℕ) → GetsIt new_table None other → is_down h other ≡ false)
    → ((other : ℕ) → GetsIt new_table None other → IsSafeAt h other (place_of new_table) (sectors other))
    → InEachImage devices new_table h (Some lost) (λ image. IsChosen new_table.id devices image new_table)
marking_chosen spellings devices old_table new_table slot lost sectors old h marks publish either up safe =
    let one = another old_table slot in
    let got = gets one.0 one.1 one.2 in
    stepping_chosen spellings devices old_table new_table slot None lost [] sectors old h
    (is_stepping devices old_table new_table slot lost [] sectors old h marks publish either) (λ other of_set apart. up other (gets other of_set apart))
    one.0 got (up one.0 got) (safe one.0 got)
  where
    gets : (other : ℕ) → other < slots_of old_table → other ≢ slot → GetsIt new_table None other
    gets other of_set apart = gets_it new_table other (omega (arith, of_set, ap (λ (g : Geometry). g.members) marks.marked.same_geometry))
        (state_stays old_table new_table slot marks.marked other apart ∙ marks.others other of_set apart)
