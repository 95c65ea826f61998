-- The table that a survey tells is the one that was chosen before its reads, and all cases hold by it.
use Rattle.std.proofs.Common.{◌≡◌, ℕ, Bool, true, false, cond, List, Option, Some, None, refl, sym, ◌∙◌, subst}
use Rattle.std.proofs.Math.Path.{fun_ext}
use Rattle.sector_model.specs.History.{Bytes, History, MayLeave, Slots, is_down, seen}
use Rattle.sector_model.specs.Readable.{NothingPending, readable}
use Rattle.sector_model.specs.Reads.{HasRead}
use Rattle.sector_model.proofs.Readable.{readable_down, readable_left}
use Rattle.superblock.specs.declared.table.Table.{Table}
use Rattle.superblock.specs.Cases.{Lost}
use Rattle.superblock.specs.Counted.{IsChosen}
use Rattle.superblock.specs.Losses.{IsLostAt}
use Rattle.superblock.specs.NextTables.{slots_of}
use Rattle.array_io.specs.Believed.Holds.{Holds}
use Rattle.array_io.specs.Believed.Moments.{HoldsNow}
use Rattle.array_io.proofs.Rest.AtRestImages.{Held, held_left}
use Rattle.array_io.proofs.Laws.Begun.{chosen_is_one}
use Rattle.array_io.proofs.Images.LossBefore.{before_of}
use Rattle.array_io.proofs.Images.Spellings.{Spellings}
use Rattle.recovery.proofs.AssembledReads.{IsRead, held_read, left_before, none_pending_read, read_holds, read_last, w}

-- From what a set is assembled: reads led here, and they choose this table now.
pub record IsSurveyed (base table : Table) (devices : ℕ) (lost : Option Lost) (X : List (List Bytes)) (old h : History) : Type 0 where
  pub nothing_pending : NothingPending old
  pub holds : HoldsNow base devices lost X old
  pub read : HasRead old h
  pub same_id : table.id ≡ base.id
  pub chosen : IsChosen base.id devices (readable h) table

-- what is known then of a moment at which this is lost
pub record IsTold (base table : Table) (devices : ℕ) (X : List (List Bytes)) (old h : History) (after : Option Lost) : Type 0 where
  -- each image that a crash may leave is held by the table
  pub held : (image : Slots) → MayLeave h image → Held base devices table X image after
  -- it was chosen before
  pub was_chosen : (one : Table) → IsChosen base.id devices (readable old) one → one ≡ table

module _ (spellings : Spellings) (base table : Table) (devices : ℕ) (lost : Option Lost) (X : List (List Bytes)) (old h : History)
    (from : IsSurveyed base table devices lost X old h) where
  is : IsRead old h
  is = read_last from.read

  pub now_quiet : NothingPending h
  now_quiet = none_pending_read old h is from.nothing_pending

  pub now_holds : HoldsNow base devices lost X h
  now_holds = read_holds spellings devices base lost X old h from.nothing_pending is from.holds

  module _ (after : Option Lost) (lost_at : IsLostAt (slots_of base) lost h after) where
    -- what stood in the slots before is what reads gave
    stood : before_of old (readable h) ≡ readable old
    stood = fun_ext (λ d. by_state d (is_down old d) refl)
      where
        by_state : (d : ℕ) (b : Bool) → is_down old d ≡ b → cond b (readable h d) (Some (seen old d)) ≡ cond b None (Some (seen old d))
        by_state d true down = readable_down h d (is.stays_down d down)
        by_state d false up = refl

    abbrev before : Option Lost
    before = (w spellings devices base lost X old h from.nothing_pending is after (readable h) lost_at (readable_left h)).before

    then_held : Holds base devices record { image = before_of old (readable h); lost = before } X
    then_held = from.holds before (before_of old (readable h))
        (w spellings devices base lost X old h from.nothing_pending is after (readable h) lost_at (readable_left h)).was
        (left_before spellings devices base lost X old h from.nothing_pending is (readable h) (readable_left h))

    now_held : Held base devices then_held.table X (readable h) after
    now_held = held_read spellings devices base lost X old h from.nothing_pending is after (readable h) lost_at (readable_left h) then_held

    is_table : table ≡ then_held.table
    is_table = chosen_is_one devices then_held.table X (readable h) now_held.whole table
        (subst (λ (i : List ℕ). IsChosen i devices (readable h) table) (sym then_held.not_older.same_id) from.chosen)

    chosen_then : (one : Table) → IsChosen base.id devices (readable old) one → one ≡ table
    chosen_then one chosen = chosen_is_one devices then_held.table X (before_of old (readable h)) then_held.whole one
        (subst (λ (i : List ℕ). IsChosen i devices (before_of old (readable h)) one) (sym then_held.not_older.same_id)
        (subst (λ (s : Slots). IsChosen base.id devices s one) (sym stood) chosen)) ∙ sym is_table

    pub told : IsTold base table devices X old h after
    told = record {
      held = held_left spellings base devices table X h lost after record {
        nothing_pending = now_quiet;
        chosen = from.chosen;
        lost = lost_at;
        holds = λ image may. now_holds after image lost_at may;
      };
      was_chosen = chosen_then;
    }
