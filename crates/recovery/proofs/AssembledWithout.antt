-- A slot is marked missing some time after the survey: what its end is.
use Rattle.std.proofs.Common.{◌≡◌, ◌≢◌, ◌⊎◌, inl, inr, ℕ, ◌<◌, true, false, None, Ok, refl, sym, ◌∙◌, ap}
use Rattle.std.proofs.lemmas.Bool.{cases_eq}
use Rattle.sector_model.specs.Bank.{Panel}
use Rattle.sector_model.specs.History.{Bytes, History, MayHold, is_down, start_of}
use Rattle.sector_model.specs.Readable.{NothingPending, readable}
use Rattle.superblock.specs.declared.table.Table.{Table}
use Rattle.superblock.specs.Counted.{IsChosen, IsLive}
use Rattle.superblock.specs.NextTables.{slots_of}
use Rattle.superblock.proofs.PublishSteps.{GetsIt, IsInPublish}
use Rattle.array_io.specs.Believed.ArrayCalls.{Answer}
use Rattle.array_io.specs.Steps.Bringing.{CountsOn, IsBringing}
use Rattle.array_io.specs.Steps.MarkingOn.{IsMarkedOn}
use Rattle.array_io.proofs.Laws.Fresh.{in_sync_not_missing}
use Rattle.array_io.proofs.Marks.MarkedEnd.{at_end, gets_others, made, result_ok, up_then}
use Rattle.array_io.specs.Steps.CallSteps.{StaysDown}
use Rattle.array_io.proofs.Marks.MarkedWhole.{published_flushed}
use Rattle.array_io.proofs.Marks.MarkingImages.{gets_is}
use Rattle.recovery.proofs.AssembledRests.{HasMarkedOne}

differ : true ≡ false → ⊥
differ is = cc

-- What led from the survey's end to where the slot is marked: nothing, or superblocks that were brought up until the slot's device failed.
pub record LeadsTo (table : Table) (slot : ℕ) (mid before : History) : Type 0 where
  pub elsewhere : (device at : ℕ) (value : Bytes) → MayHold before device at value
      → MayHold mid device at value ⊎ (CountsOn table device × (device ≡ slot → is_down before device ≡ true))
  pub start : (device : ℕ) → start_of before device ≡ start_of mid device
  pub stays_down : StaysDown mid before

pub leads_nowhere : (table : Table) (slot : ℕ) (mid : History) → LeadsTo table slot mid mid
leads_nowhere table slot mid = record {
  elsewhere = λ device at value may. inl may;
  start = λ device. refl;
  stays_down = λ device down. down;
}

pub leads_bringing : (table : Table) (slot : ℕ) (sectors : ℕ → Bytes) (mid before : History) → IsBringing table sectors mid before → is_down before slot ≡ true
    → LeadsTo table slot mid before
leads_bringing table slot sectors mid before is down = record {
  elsewhere = λ device at value may. elim (is.holds device at value may) [
    | inl was ↦ inl was
    | inr own ↦ inr (own.counted, λ same. ap (is_down before) same ∙ down)
  ];
  start = is.start;
  stays_down = is.stays_down;
}

module _ (honest : Type 0) (table new_table : Table) (slot : ℕ) (old_panel new_panel : Panel) (before new : History) (answer : Answer)
    (is : IsMarkedOn honest slot old_panel new_panel table new_table before new answer) (of_set : slot < slots_of table) (is_honest : honest) where
  module _ (ok : answer ≡ Ok tt) where
    last : IsInPublish new_table None is.publishes.sectors before new
    last = at_end honest table new_table slot old_panel new_panel before new answer is of_set is_honest

    others_get : (other : ℕ) → other < slots_of table → other ≢ slot → GetsIt new_table None other
    others_get = gets_others honest table new_table slot old_panel new_panel before new answer is of_set is_honest

    pub marked_one : (devices : ℕ) (mid : History) → LeadsTo table slot mid before
        → ((other : ℕ) → other < slots_of table → other ≢ slot → IsLive devices table other (readable mid other))
        → NothingPending mid → IsChosen new_table.id devices (readable new) new_table
        → HasMarkedOne devices table new_table slot is.publishes.sectors mid new
    marked_one devices mid leads live nothing chosen = record {
      marked = is.marked;
      of_set = of_set;
      others = is.others;
      live = live;
      nothing_pending = nothing;
      elsewhere = λ device at value not_got up may. elim (last.holds device at value may) [
        | inr is_new ↦ absurd (not_got is_new.gets)
        | inl was ↦ elim (leads.elsewhere device at value was) [
          | inl before_it ↦ before_it
          | inr counted ↦ elim (cases_eq device slot) [
            | inl same ↦ absurd (differ (sym (last.stays_down device (counted.1 same)) ∙ up))
            | inr apart ↦ absurd (not_got (others_get device counted.0.of_set apart))
          ]
        ]
      ];
      start = λ device. last.start device ∙ leads.start device;
      stays_down = λ device down. last.stays_down device (leads.stays_down device down);
      flushed = published_flushed new_table is.publishes.sectors before new
          (made honest table new_table slot old_panel new_panel before new answer is of_set is_honest ok);
      up = up_then honest table new_table slot old_panel new_panel before new answer is of_set is_honest ok;
      spelled = λ device gets.
          let got = gets_is new_table device gets in
          is.publishes.spelled device got.0 (λ missing. in_sync_not_missing (sym got.1 ∙ missing));
      safe = is.publishes.safe is_honest (result_ok honest table new_table slot old_panel new_panel before new answer is of_set is_honest ok);
      chosen = chosen;
    }
