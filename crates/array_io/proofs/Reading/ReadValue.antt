-- What `read_member` did of an array's members is a value that was read, a failure, or the end of the count.
use Rattle.std.proofs.Common.{◌≡◌, ◌≢◌, ◌⊎◌, inl, inr, ℕ, ◌<◌, ◌≤◌, refl, sym, ◌∙◌, subst, arith}
use Rattle.std.specs.Prelude.{Option, None, Ok, Err, Result}
use Rattle.sector_model.specs.declared.sector.Stop.{Stop}
use Rattle.sector_model.specs.declared.sector.Stop.TheVariants as stop
use Rattle.sector_model.specs.Bank.{IsTrueTo, Panel}
use Rattle.sector_model.specs.History.{Bytes, History, MayHold, is_down}
use Rattle.sector_model.specs.Readable.{readable}
use Rattle.sector_model.specs.Reads.{HasRead}
use Rattle.sector_model.proofs.Reading.{seen_read}
use Rattle.sector_model.proofs.Steps.{throughout_last}
use Rattle.layout_map.specs.declared.sizes.TheConstants.{SUPERBLOCK_PLACES}
use Rattle.superblock.specs.declared.table.Table.{Table}
use Rattle.superblock.specs.Publishing.{Publishes}
use Rattle.superblock.specs.Tables.{state_at}
use Rattle.degraded.specs.ReadMember.{LiveSlots, ReadsMember}
use Rattle.stripe_journal.specs.OneEntry.{StaysOff}
use Rattle.array_io.specs.Believed.ArrayCalls.{Answer}
use Rattle.array_io.specs.Steps.Bringing.{CountsOn}
use Rattle.array_io.specs.Steps.MarkingOn.{MarksOn}
use Rattle.array_io.specs.Steps.ReadingOn.{IsFailureMarked, IsReadWorn, IsValueRead}
use Rattle.array_io.specs.Steps.Writing.{IsWriting}
use Rattle.array_io.proofs.Calls.DeviceReads.{reads_run}
use Rattle.array_io.proofs.Rest.AtRestRows.{trusts_tells}
use Rattle.array_io.proofs.Commits.EntryCarried.{Nothing, reads_write}
use Rattle.array_io.proofs.Reading.LiveRows.{ReadsBy, live_value}

-- reads in which one device at most failed leave the others as they were
pub reads_off : (table : Table) (slot : ℕ) (old new : History) → CountsOn table slot → HasRead old new → ((d : ℕ) → d ≢ slot → is_down new d ≡ is_down old d)
    → StaysOff (λ d. d ≡ slot) old new
reads_off table slot old new counted read down = record {
  start = writing.start;
  stays_down = writing.stays_down;
  others = λ d at value apart may. held d at value (writing.holds d at value may);
  others_down = down;
  others_seen = λ d apart. seen_read read d;
}
  where
    writing : IsWriting table Nothing old new
    writing = throughout_last new (reads_write table Nothing old new read (λ d not. down d (λ same. not (subst (CountsOn table) (sym same) counted))))

    held : (d at : ℕ) (value : Bytes) → MayHold old d at value ⊎ (CountsOn table d × (SUPERBLOCK_PLACES ≤ at) × Nothing d at value) → MayHold old d at value
    held d at value (inl was) = was
    held d at value (inr put) = absurd (put.2)

-- what is promised of a bank that is honest later is promised of one that is honest now
publishes_as : {honest still : Type 0} (table : Table) (last : Option ℕ) (old_panel new_panel : Panel) (old new : History) (result : Result (Unit {0}) Stop)
    → (honest → still)
    → Publishes still table last old_panel new_panel old new result → Publishes honest table last old_panel new_panel old new result
publishes_as table last old_panel new_panel old new result more is = record {
  sectors = is.sectors;
  spelled = is.spelled;
  later = is.later;
  made = λ fair. is.made (more fair);
  cause = is.cause;
  named = is.named;
  moments = λ fair. is.moments (more fair);
  safe = λ fair. is.safe (more fair);
  up = is.up;
  safe_first = λ fair. is.safe_first (more fair);
  last_sees = λ fair. is.last_sees (more fair);
}

pub marks_as : {honest still : Type 0} (slot : ℕ) (old_panel new_panel : Panel) (old_table new_table : Table) (old new : History) (answer : Answer)
    → (honest → still)
    → MarksOn still slot old_panel new_panel old_table new_table old new answer → MarksOn honest slot old_panel new_panel old_table new_table old new answer
marks_as slot old_panel new_panel old_table new_table old new answer more (inl left) = inl left
marks_as slot old_panel new_panel old_table new_table old new answer more (inr is) = inr record {
  counted = is.counted;
  others = is.others;
  marked = is.marked;
  result = is.result;
  publishes = publishes_as new_table None old_panel new_panel old new is.result more is.publishes;
  answered = is.answered;
}

module _ (honest : Type 0) (table : Table) (slots : LiveSlots) (member row : ℕ) (old_panel mid_panel : Panel) (old mid : History) (to : Bytes)
    (width : slots.members ≡ table.geometry.members) (by : ReadsBy table slots) where
  -- it was read
  pub value_read : member < table.geometry.members → ReadsMember honest slots member row old_panel mid_panel old mid to (Ok tt)
      → IsValueRead honest table member row old_panel mid_panel old mid to
  value_read within is = record {
    later = is.later;
    reads = is.reads;
    stays = λ fair device. is.stays fair device (λ same. absurd (cc));
    gives = λ fair. is.gives fair refl ∙ live_value table slots width by (readable old) row member within;
  }

  -- no further call could be counted
  pub read_worn : ReadsMember honest slots member row old_panel mid_panel old mid to (Err stop.Worn) → IsReadWorn honest old_panel mid_panel old mid
  read_worn is = record {
    later = is.later;
    worn = is.cause stop.Worn refl;
    reads = is.reads;
    stays = λ fair device. is.stays fair device (λ same. absurd (cc));
  }

  module _ (device : ℕ) (is : ReadsMember honest slots member row old_panel mid_panel old mid to (Err (stop.Down device))) where
    -- the device that failed is one that the table counts on
    pub failed_counted : CountsOn table device
    failed_counted =
        let named = is.named device refl in
        let within : device < table.geometry.members = omega (arith, named.0, width) in
        record {
          of_set = omega (arith, within);
          there = ((trusts_tells (state_at table.states device) row table.position).0 (sym (by row device within) ∙ named.1)).there;
        }

    -- and its slot is marked missing, or that is refused
    pub failure_marked : (new_table : Table) (new_panel : Panel) (new : History) (answer : Answer) → (honest → IsTrueTo mid_panel mid)
        → MarksOn honest device mid_panel new_panel table new_table mid new answer → IsFailureMarked honest table new_table old_panel new_panel old new answer
    failure_marked new_table new_panel new answer true_mid marks = record {
      slot = device;
      counted = failed_counted;
      mid_panel = mid_panel;
      mid = mid;
      calls = record {
        later = is.later;
        cause = is.cause;
        named = λ other same. cc;
        off = λ fair. reads_off table device old mid failed_counted (is.reads fair) (λ d apart. is.stays fair d (λ same. apart (cc)));
        none_failed = λ fair ok. absurd (cc);
        runs = λ fair. reads_run (is.reads fair);
        front = λ fair ok. absurd (cc);
      };
      reads = is.reads;
      true_mid = true_mid;
      marks = marks;
    }
