-- A set is made where no slot after its own was found to have another one of its id: then it is settled.
use Rattle.std.proofs.Common.{◌≡◌, ◌∙◌, ◌+◌, ◌<◌, ◌≤◌, inl, inr, refl, sym, subst, arith, ℕ, Bool, true, false, List, Some, None, Ok}
use Rattle.std.proofs.lemmas.Bool.{cases_lt}
use Rattle.sector_model.specs.Bank.{IsLater}
use Rattle.sector_model.specs.History.{SlotMayHold, is_down, start_of}
use Rattle.sector_model.specs.Readable.{NothingPending, readable}
use Rattle.sector_model.specs.Reads.{HasRead}
use Rattle.layout_map.specs.declared.geometry.Geometry.{Geometry}
use Rattle.superblock.specs.Cases.{HasNone}
use Rattle.superblock.specs.Counted.{Content}
use Rattle.superblock.specs.Newest.{SlotCountsNone}
use Rattle.superblock.proofs.Newest as newest
use Rattle.array_io.specs.Believed.ReadWhole.{NoDeviceFailed}
use Rattle.array_io.proofs.Rest.AtRestImages.{content_left}
use Rattle.recovery.specs.Making.{BankView, IsQuietBeyond}
use Rattle.recovery.proofs.AssembledReads.{IsRead, none_pending_read, read_last, readable_read}
use Rattle.recovery.proofs.Finding.{Honest}
use Rattle.sector_model.specs.declared.refusal.Refusal.{Refusal}
use Rattle.device_files.specs.declared.FolderFault.TheVariants.{Refused}
use Rattle.raidtool.specs.Done.{MakesOn, RefusesMake}
use Rattle.raidtool.specs.OtherSets.{InspectsBeyond, IsStillBeyond, MakesAlone, StopsMaking}

-- what was promised of an honest bank is so of one that is no more than that
pub made_by : (honest honest_mid : Type 0) → (honest → honest_mid) → (id : List ℕ) (geometry : Geometry) (bank : BankView)
    → MakesOn honest_mid id geometry bank → MakesOn honest id geometry bank
made_by honest honest_mid on id geometry bank made = record {
  array = made.array;
  makes = record {
    later = made.makes.later;
    first = made.makes.first;
    number = made.makes.number;
    its_slots = made.makes.its_slots;
    rests = λ fair. made.makes.rests (on fair);
    cause = made.makes.cause;
  };
}

module _ (id : List ℕ) (slots : ℕ) (old new : BankView) (is_old : Honest old) (is_new : Honest new) (later : IsLater old.panel new.panel)
    (read : HasRead old.history new.history) (stay : NoDeviceFailed old.panel new.panel) (still : IsStillBeyond slots old)
    (none : (slot : ℕ) → slots ≤ slot → slot < old.panel.devices → SlotCountsNone id old.panel.devices slot (readable old.history slot)) where
  is_read : IsRead old.history new.history
  is_read = read_last read

  nothing_pending : NothingPending new.history
  nothing_pending = none_pending_read old.history new.history is_read still.nothing_pending

  -- a device that is there is up
  up_beyond : (slot : ℕ) → slots ≤ slot → slot < old.panel.devices → (start_of new.history slot ≡ None → ⊥) → is_down new.history slot ≡ false
  up_beyond slot from within there = by_state (is_down old.history slot) refl
    where
      by_state : (b : Bool) → is_down old.history slot ≡ b → is_down new.history slot ≡ false
      by_state true down = absurd (there (is_read.start slot ∙ still.none_lost slot from down))
      by_state false up = sym (is_new.down slot) ∙ stay slot within (is_old.down slot ∙ up)

  -- no superblock counts in what a crash leaves of one
  none_left : (slot : ℕ) → slots ≤ slot → (content : Content) → SlotMayHold new.history slot content → HasNone id new.panel.devices slot content
  none_left slot from None may = λ place. newest.none_beyond id new.panel.devices slot place None (omega arith)
  none_left slot from (Some disk) may = elim (cases_lt slot old.panel.devices) [
    | inl within ↦
        let up = up_beyond slot from within may.0 in
        subst (λ (devices : ℕ). HasNone id devices slot (Some disk)) (sym later.devices)
        (subst (λ (content : Content). HasNone id old.panel.devices slot content)
        (sym (content_left new.history slot (Some disk) nothing_pending may up ∙ readable_read old.history new.history is_read slot up))
        (none slot from within))
    | inr beyond ↦ absurd (may.0 (is_read.start slot ∙ is_old.beyond slot beyond))
  ]

  pub quiet_beyond : IsQuietBeyond id slots new
  quiet_beyond = record {
    one_value = λ device at first second from up may other. nothing_pending device at first second up may other;
    nothing = λ image slot may from. none_left slot from (image slot) (may slot);
  }

-- the set is made on the bank that was looked at
pub made_alone : (honest honest_mid : Type 0) → (honest → honest_mid) → (id : List ℕ) (geometry : Geometry) (old mid : BankView) → (honest → Honest old)
    → (honest → Honest mid) → InspectsBeyond honest id (geometry.members + 2) old mid (Ok None) → MakesOn honest_mid id geometry mid
    → MakesAlone honest id geometry old
unfolding made_by
made_alone honest honest_mid on id geometry old mid is_old is_mid alone made = record {
  inspected = mid;
  alone = alone;
  makes = made_by honest honest_mid on id geometry mid made;
  quiet = λ fair still stay.
      quiet_beyond id (geometry.members + 2) old mid (is_old fair) (is_mid fair) alone.later (alone.reads fair) stay still (alone.finds None refl fair stay);
  rests = λ fair still stay. made.makes.rests (on fair)
      (quiet_beyond id (geometry.members + 2) old mid (is_old fair) (is_mid fair) alone.later (alone.reads fair) stay still (alone.finds None refl fair stay))
      made.array refl;
}

-- ---- where it was not made

refused_by : (honest honest_mid : Type 0) → (honest → honest_mid) → (id : List ℕ) (geometry : Geometry) (bank : BankView) (refusal : Refusal)
    → RefusesMake honest_mid id geometry bank refusal → RefusesMake honest id geometry bank refusal
refused_by honest honest_mid on id geometry bank refusal refused = record {
  back = refused.back;
  makes = record {
    later = refused.makes.later;
    first = refused.makes.first;
    number = refused.makes.number;
    its_slots = refused.makes.its_slots;
    rests = λ fair. refused.makes.rests (on fair);
    cause = refused.makes.cause;
  };
}

-- the set could not be made
pub stopped_make : (honest honest_mid : Type 0) → (honest → honest_mid) → (id : List ℕ) (geometry : Geometry) (old mid : BankView) (refusal : Refusal)
    → InspectsBeyond honest id (geometry.members + 2) old mid (Ok None) → RefusesMake honest_mid id geometry mid refusal
    → StopsMaking honest id geometry old (Refused refusal)
stopped_make honest honest_mid on id geometry old mid refusal alone refused =
    inr (refusal, refl, record { inspected = mid; alone = alone; refuses = refused_by honest honest_mid on id geometry mid refusal refused })
