-- While the superblocks of the surveyed table are brought up every case keeps holding; and at the end they are in order, or the slot of the device that
-- failed is the lost one.
use Rattle.std.proofs.Common.{◌≡◌, ◌≢◌, ℕ, ◌<◌, true, List, Option, Result, Ok, Err, sym, ◌∙◌, ap, subst}
use Rattle.sector_model.specs.declared.sector.Stop.{Stop}
use Rattle.sector_model.specs.declared.sector.Stop.TheVariants.{Worn}
use Rattle.sector_model.specs.Bank.{Panel}
use Rattle.sector_model.specs.History.{Bytes, History, MayLeave, Slots, disk_of, is_down, sector_of, seen}
use Rattle.sector_model.specs.Readable.{readable}
use Rattle.sector_model.proofs.Readable.{readable_down, readable_left, readable_up}
use Rattle.sector_model.proofs.Steps.{throughout_last, up_seen}
use Rattle.superblock.specs.declared.state.State.TheVariants.{Missing}
use Rattle.superblock.specs.declared.table.Table.{Table}
use Rattle.superblock.specs.Tables.{state_at}
use Rattle.superblock.specs.Cases.{Lost}
use Rattle.superblock.specs.Counted.{Content, IsChosen, IsLive}
use Rattle.superblock.specs.Losses.{IsLostAt, IsSingleFailure}
use Rattle.superblock.specs.NextTables.{slots_of}
use Rattle.superblock.specs.Publishing.{StandsAt, place_of}
use Rattle.array_io.specs.Steps.Bringing.{CountsOn, IsBringing}
use Rattle.array_io.specs.Believed.Moments.{HoldsThroughout}
use Rattle.array_io.specs.Believed.Settled.{IsAllThere}
use Rattle.array_io.proofs.Rest.AtRestImages.{Held}
use Rattle.array_io.proofs.Writes.BringingUp.{BringsFrom, bringing_chosen, bringing_throughout, holds_at, readable_brought}
use Rattle.array_io.proofs.Writes.BringingUpImages.{AreBrought, live_brought}
use Rattle.array_io.proofs.Images.Counting.{none_is_out}
use Rattle.array_io.proofs.Laws.Fresh.{in_sync_not_missing}
use Rattle.array_io.proofs.Images.LossBefore.{was_lost}
use Rattle.array_io.proofs.Marks.MarkedWhole.{IsLostThen, out_is_lost}
use Rattle.array_io.proofs.Images.Spellings.{Spellings}
use Rattle.recovery.specs.StaleSuperblocks.{AreSpelled, BringsUpSlots}
use Rattle.recovery.specs.PuttingInOrder.{IsInOrderBy}
use Rattle.recovery.proofs.AssembledReads.{held_of}
use Rattle.recovery.proofs.AssembledTable.{IsSurveyed, now_holds, now_quiet, told}

ok_not_worn : (result : Result (Unit {0}) Stop) → result ≡ Ok tt → result ≡ Err Worn → ⊥
ok_not_worn result ok worn = cc

module _ (spellings : Spellings) (base table : Table) (devices : ℕ) (lost : Option Lost) (X : List (List Bytes)) (start old : History) (sectors : ℕ → Bytes)
    (from : IsSurveyed base table devices lost X start old) (there : IsAllThere devices table old) (spelled : AreSpelled table sectors) where
  brings_from : BringsFrom devices base table lost X sectors old
  brings_from = record {
    same_id = from.same_id;
    ready = record {
      nothing_pending = now_quiet spellings base table devices lost X start old from;
      there = there;
      spelled = spelled;
    };
    holds = now_holds spellings base table devices lost X start old from;
    chosen = λ after lost_at. record {
      whole = λ image may. ((told spellings base table devices lost X start old from after lost_at).held image may).whole.chosen;
      weakened = λ image slot content may out stands.
          (((told spellings base table devices lost X start old from after lost_at).held image may).weakened slot content out stands).chosen;
    };
  }

  module _ (honest : Type 0) (old_panel new_panel : Panel) (new : History) (result : Result (Unit {0}) Stop)
      (brings : BringsUpSlots honest (CountsOn table) table sectors old_panel new_panel old new result) (is_honest : honest) where
    at_end : IsBringing table sectors old new
    at_end = throughout_last new (brings.moments is_honest)

    pub brings_throughout : HoldsThroughout base devices lost X old new
    brings_throughout = bringing_throughout spellings devices base table lost X sectors old new brings_from (brings.moments is_honest)

    -- each image that a crash may leave then is held by the table
    pub brought_held : (after : Option Lost) → IsLostAt (slots_of base) lost new after → (image : Slots) → MayLeave new image
        → Held base devices table X image after
    brought_held after lost_at image may =
        held_of base devices table X image after (holds_at spellings devices base table lost X sectors old new brings_from at_end after image lost_at may)

    -- a slot whose device is down is the lost one
    pub failed_is_lost : (after : Option Lost) → IsLostAt (slots_of base) lost new after → (slot : ℕ) → slot < slots_of table → is_down new slot ≡ true
        → IsLostThen lost new after slot
    failed_is_lost after lost_at slot of_set down =
        out_is_lost spellings base table devices lost X new after (brought_held after lost_at (readable new) (readable_left new)) lost_at slot of_set
        (λ live. none_is_out spellings devices table slot (subst (IsLive devices table slot) (readable_down new slot down) live))

    module _ (ok : result ≡ Ok tt) (single_failure : IsSingleFailure (slots_of base) lost new) where
      pub was_single_failure : IsSingleFailure (slots_of base) lost old
      was_single_failure =
          let was = was_lost (slots_of base) lost old new single_failure.0 at_end.stays_down single_failure.1 in
          (was.before, was.was)

      brought : AreBrought devices table sectors (readable old) (readable new)
      brought = readable_brought spellings devices table sectors old new brings_from.ready at_end (brings.none_failed is_honest ok)

      pub brought_stands : (slot : ℕ) → slot < slots_of table → state_at table.states slot ≢ Missing
          → StandsAt table slot (sector_of (disk_of (readable new slot)) (place_of table))
      brought_stands slot of_set counted =
          let safe = brings.safe is_honest (now_quiet spellings base table devices lost X start old from) ok slot
          (record { of_set = of_set; there = counted }) in
          subst (StandsAt table slot)
          (sym (ap (λ (c : Content). sector_of (disk_of c) (place_of table)) (readable_up new slot safe.0)
          ∙ safe.1 (sector_of (seen new slot) (place_of table)) (up_seen new slot (place_of table) safe.0)))
          (spelled slot of_set counted)

      pub brought_in_order : IsInOrderBy base table devices lost X new
      brought_in_order = record {
        nothing_pending = brings.rests is_honest (now_quiet spellings base table devices lost X start old from) (ok_not_worn result ok);
        holds = throughout_last new brings_throughout;
        chosen = subst (λ (i : List ℕ). IsChosen i devices (readable new) table) from.same_id
            ((bringing_chosen spellings devices base table lost X sectors old new brings_from at_end single_failure.0 single_failure.1).whole (readable new)
            (readable_left new));
        there = λ slot of_set counted. live_brought spellings devices table sectors X (readable old) (readable new)
            ((told spellings base table devices lost X start old from was_single_failure.0 was_single_failure.1).held (readable old) (readable_left old)).whole
            brought slot (there slot of_set counted);
        carried = λ complete slot of_set. brought_stands slot of_set (λ missing. in_sync_not_missing (sym (complete.in_sync slot of_set) ∙ missing));
      }
