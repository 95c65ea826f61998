-- What reads of the members give, and what reading a row asks of a bank.
use Rattle.std.proofs.Common.{◌≡◌, ◌≢◌, ◌⊎◌, inl, inr, ℕ, ◌+◌, ◌<◌, Bool, true, false, List, Option, Some, None, refl, sym, ◌∙◌, ap, subst, arith, cond}
use Rattle.std.specs.Prelude.{Result, Ok, Err, OnOk, IfErr, ◌&&◌, ◌||◌, not, nat_lt, unwrap_or}
use Rattle.std.proofs.lemmas.Bool.{cases_eq, ne_eqb}
use Rattle.sector_model.specs.declared.sector.Stop.{Stop}
use Rattle.sector_model.specs.declared.sector.Stop.TheVariants.{Down, Worn}
use Rattle.sector_model.specs.Bank.{IsCauseOf, IsLater, IsTrueTo, Panel, after_read, after_try}
use Rattle.sector_model.specs.History.{After, Bytes, History, disk_of, is_down, sector_of, seen}
use Rattle.sector_model.specs.declared.event.Event.TheVariants.{Quiet, DeviceFailed}
use Rattle.sector_model.specs.Readable.{readable}
use Rattle.sector_model.specs.Reads.{HasRead}
use Rattle.sector_model.proofs.Readable.{readable_up}
use Rattle.sector_model.proofs.Panels.{later_both}
use Rattle.sector_model.proofs.Reading.{read_both, seen_read}
use Rattle.layout_map.specs.declared.sizes.TheConstants.{FIRST_ROW}
use Rattle.parity.specs.Xor.{zero_sector}
use Rattle.degraded.specs.LiveView.{AtMostOneOut, CanRead, IsStopOf}
use Rattle.degraded.specs.ReadMember.{LiveSlots, OnlyNamedFailed, ReadsMember, RebuildingMember, is_below, is_read, rows_of}
use Rattle.degraded.specs.RowValue.{value}
use Rattle.degraded.proofs.Values.{known, value-own}

-- a device that is up after some calls was up before them
pub up_before : {old new : Panel} (d : ℕ) → IsLater old new → new.down d ≡ false → old.down d ≡ false
up_before {old = old} {new = new} d later up = by_state (old.down d) refl
  where
    by_state : (b : Bool) → old.down d ≡ b → b ≡ false
    by_state false is = refl
    by_state true is = absurd (differ (sym (later.down d is) ∙ up))
      where
        differ : true ≡ false → ⊥
        differ is = cc

-- a member whose sector counts is live
pub read_live : (slots : LiveSlots) (row member : ℕ) → is_read slots row member ≡ true → slots.live member ≡ true
read_live slots row member is = by_state (slots.live member) (is_below slots.rebuilding row member) is
  where
    by_state : (live below : Bool) → (live && below) ≡ true → live ≡ true
    by_state true below is = refl
    by_state false below is = absurd (cc)

-- where a member's own sector doesn't count, that of each other does
pub other_read : (slots : LiveSlots) (row member other : ℕ) → AtMostOneOut slots → member < slots.members → other < slots.members → other ≢ member
    → is_read slots row member ≡ false → is_read slots row other ≡ true
other_read slots row member other one_out in_set other_in_set apart out = by_state (is_read slots row other) refl
  where
    by_state : (b : Bool) → is_read slots row other ≡ b → b ≡ true
    by_state true is = refl
    by_state false is = absurd (apart (one_out row other member other_in_set in_set is out))

-- reading a row can go on after some calls
pub can_read_later : {slots : LiveSlots} {row : ℕ} {old new : Panel} → IsLater old new → CanRead slots row old → CanRead slots row new
can_read_later {slots = slots} {row = row} {old = old} {new = new} later can = record {
  devices = omega (arith, can.devices, later.devices);
  small = can.small;
  within = λ member in_set live up. omega (arith, can.within member in_set live (up_before member later up), later.sectors member);
  one_out = can.one_out;
}

-- the row is within a member whose sector counts
pub row_within : {slots : LiveSlots} {row : ℕ} {panel : Panel} (member : ℕ) → CanRead slots row panel → member < slots.members → is_read slots row member ≡ true
    → panel.down member ≡ false → FIRST_ROW + row < panel.sectors member
row_within {slots = slots} {row = row} member can in_set is up = can.within member in_set (read_live slots row member is) up

-- what a member's own sector is where its device is up
own_sector : (slots : LiveSlots) (row member : ℕ) (h : History) → is_down h member ≡ false
    → (rows_of slots (readable h)).own row member ≡ sector_of (seen h member) (FIRST_ROW + row)
own_sector slots row member h up = ap (λ (slot : Option (List Bytes)). sector_of (disk_of slot) (FIRST_ROW + row)) (readable_up h member up)

-- a member's own sector that counts is its value, as a read gives it
pub own_value : (slots : LiveSlots) (row member : ℕ) (h : History) → is_read slots row member ≡ true → is_down h member ≡ false
    → sector_of (seen h member) (FIRST_ROW + row) ≡ value (rows_of slots (readable h)) row member
own_value slots row member h is up = sym (value-own (rows_of slots (readable h)) row member refl is ∙ own_sector slots row member h up)

-- one call of a device whose sector counts
pub stop_of : (slots : LiveSlots) (row dev : ℕ) (panel : Panel) (result : Result (Unit {0}) Stop) → dev < slots.members → is_read slots row dev ≡ true
    → IfErr result (λ stop. IsCauseOf panel stop × ((stop ≡ Worn) ⊎ (stop ≡ Down dev))) → IfErr result (IsStopOf slots row panel)
stop_of slots row dev panel (Ok done) in_set is err = tt
stop_of slots row dev panel (Err (Down d)) in_set is (down, inl worn) = absurd (cc)
stop_of slots row dev panel (Err (Down d)) in_set is (down, inr same) =
    let here : d ≡ dev = cc in (omega (arith, here, in_set), ap (λ (m : ℕ). is_read slots row m) here ∙ is, down)
stop_of slots row dev panel (Err Worn) in_set is (calls, which) = calls

-- one read of a device, or none: only that device may have gone down, where an error names it
pub one_failed : (old new : History) (panel : Panel) (dev : ℕ) (result : Result (Unit {0}) Stop) → new ≡ after_try (after_read dev) result old
    → IfErr result (λ stop. IsCauseOf panel stop × ((stop ≡ Worn) ⊎ (stop ≡ Down dev))) → OnlyNamedFailed result old new
one_failed old new panel dev (Ok done) is err = λ device other. ap (λ (h : History). is_down h device) is
one_failed old new panel dev (Err Worn) is err = λ device other. ap (λ (h : History). is_down h device) is
one_failed old new panel dev (Err (Down d)) is (down, inl worn) = absurd (cc)
one_failed old new panel dev (Err (Down d)) is (down, inr same) = λ device other.
    ap (λ (h : History). is_down h device) is ∙ by_case device (λ here. other (ap (λ (k : ℕ). Err (Down k)) (named ∙ sym here))) (is_down old dev)
  where
    named : d ≡ dev
    named = cc

    by_case : (device : ℕ) → device ≢ dev → (b : Bool) → is_down (After (cond b Quiet (DeviceFailed dev)) old) device ≡ is_down old device
    by_case device apart true = refl
    by_case device apart false = ap (λ (b : Bool). b || is_down old device) (ne_eqb device dev apart)

-- what a read of a device says, where the device was up before it
pub read_up : {old new : Panel} (dev at : ℕ) (h : History) (to : Bytes) (result : Result (Unit {0}) Stop) → IsLater old new → IsTrueTo old h
    → OnOk result (new.down dev ≡ false) → OnOk result (to ≡ sector_of (seen h dev) at)
    → OnOk result ((is_down h dev ≡ false) × (to ≡ sector_of (seen h dev) at))
read_up dev at h to (Ok done) later its_run up is = (sym (its_run.down dev) ∙ up_before dev later up, is)
read_up dev at h to (Err stop) later its_run up is = tt

-- a member's own sector, as its value
pub own_given : (slots : LiveSlots) (row member : ℕ) (h : History) (to : Bytes) (result : Result (Unit {0}) Stop) → is_read slots row member ≡ true
    → OnOk result ((is_down h member ≡ false) × (to ≡ sector_of (seen h member) (FIRST_ROW + row)))
    → OnOk result (to ≡ value (rows_of slots (readable h)) row member)
own_given slots row member h to (Ok done) is (up, same) = same ∙ own_value slots row member h is up
own_given slots row member h to (Err stop) is given = tt

-- the promise of reading a member's row, from its parts
pub reads_member : (honest : Type 0) (slots : LiveSlots) (member row : ℕ) (old_panel new_panel : Panel) (old new : History) (to : Bytes)
    (result : Result (Unit {0}) Stop)
    → IsLater old_panel new_panel → (honest → HasRead old new) → (honest → OnOk result (to ≡ value (rows_of slots (readable old)) row member))
    → (honest → OnlyNamedFailed result old new) → IfErr result (IsStopOf slots row new_panel)
    → ReadsMember honest slots member row old_panel new_panel old new to result
reads_member honest slots member row old_panel new_panel old new to result later reads gives stays err = record {
  later = later;
  reads = reads;
  gives = λ fair answered. at_ok result (gives fair) answered;
  stays = stays;
  cause = λ stop is. at_err result err stop is;
  named = λ device is. at_down result err device is;
}
  where
    at_ok : {P : Type 0} (result : Result (Unit {0}) Stop) → OnOk result P → result ≡ Ok tt → P
    at_ok (Ok done) holds is = holds
    at_ok (Err stop) holds is = absurd (cc)

    cause_of : (stop : Stop) → IsStopOf slots row new_panel stop → IsCauseOf new_panel stop
    cause_of (Down d) holds = holds.2
    cause_of Worn holds = holds

    at_err : (result : Result (Unit {0}) Stop) → IfErr result (IsStopOf slots row new_panel) → (stop : Stop) → result ≡ Err stop → IsCauseOf new_panel stop
    at_err (Ok done) holds stop is = absurd (cc)
    at_err (Err was) holds stop is = let same : was ≡ stop = cc in subst (IsCauseOf new_panel) same (cause_of was holds)

    at_down : (result : Result (Unit {0}) Stop) → IfErr result (IsStopOf slots row new_panel) → (device : ℕ) → result ≡ Err (Down device)
        → (device < slots.members) × (is_read slots row device ≡ true)
    at_down (Ok done) holds device is = absurd (cc)
    at_down (Err Worn) holds device is = absurd (cc)
    at_down (Err (Down d)) holds device is =
        let same : d ≡ device = cc in subst (λ (k : ℕ). (k < slots.members) × (is_read slots row k ≡ true)) same (holds.0, holds.1)

-- what a device gives to be read is the same after reads in which it did not go down
readable_same : {old new : History} (device : ℕ) → HasRead old new → is_down new device ≡ is_down old device → readable new device ≡ readable old device
readable_same {old = old} {new = new} device read stays =
    ap (λ (b : Bool). cond b None (Some (seen new device))) stays
    ∙ ap (λ (disk : List Bytes). cond (is_down old device) None (Some disk)) (seen_read read device)

-- the value of another member that was read later, as what is known of it at first
pub known_read : {old new : History} (slots : LiveSlots) (row member : ℕ) (sector : Bytes) → HasRead old new → is_down new member ≡ is_down old member
    → is_read slots row member ≡ true → sector ≡ value (rows_of slots (readable new)) row member → sector ≡ known (rows_of slots (readable old)) row member
known_read {old = old} {new = new} slots row member sector read stays is same =
    same
    ∙ value-own (rows_of slots (readable new)) row member refl is
    ∙ ap (λ (slot : Option (List Bytes)). sector_of (disk_of slot) (FIRST_ROW + row)) (readable_same member read stays)
    ∙ sym (ap (λ (b : Bool). unwrap_or (cond b (Some ((rows_of slots (readable old)).own row member)) None) zero_sector) is)

-- where reading another member's row ended, after reads of which each was answered, so did reading this one's
pub ended_reading : (honest still : Type 0) (slots : LiveSlots) (member other row : ℕ) (old_panel mid_panel new_panel : Panel) (old mid new : History)
    (to sector : Bytes) (stop : Stop)
    → (honest → still) → IsLater old_panel mid_panel → (honest → HasRead old mid) → (honest → (device : ℕ) → is_down mid device ≡ is_down old device)
    → ReadsMember still slots other row mid_panel new_panel mid new sector (Err stop)
    → ReadsMember honest slots member row old_panel new_panel old new to (Err stop)
ended_reading honest still slots member other row old_panel mid_panel new_panel old mid new to sector stop fair later read stays ended = record {
  later = later_both _ _ _ later ended.later;
  reads = λ is. read_both (read is) (ended.reads (fair is));
  gives = λ is answered. absurd (cc);
  cause = ended.cause;
  stays = λ is device other. ended.stays (fair is) device other ∙ stays is device;
  named = ended.named;
}

-- where each member but one is live and has all its rows, at most one is out
pub at_most_one_out : (slots : LiveSlots) (out : ℕ) → ((member : ℕ) → member < slots.members → member ≢ out → slots.live member ≡ true)
    → ((rebuilding : RebuildingMember) → slots.rebuilding ≡ Some rebuilding → rebuilding.member ≡ out) → AtMostOneOut slots
at_most_one_out slots out live rebuilding = λ row first second first_in second_in first_out second_out. is_out row first first_in first_out
    ∙ sym (is_out row second second_in second_out)
  where
    below_there : (row member : ℕ) → member ≢ out → (option : Option RebuildingMember) → slots.rebuilding ≡ option → is_below option row member ≡ true
    below_there row member apart None is = refl
    below_there row member apart (Some there) is = ap (λ (b : Bool). not b || nat_lt row there.position)
        (ne_eqb there.member member (λ same. apart (sym same ∙ rebuilding there is)))

    differ : true ≡ false → ⊥
    differ is = cc

    is_out : (row member : ℕ) → member < slots.members → is_read slots row member ≡ false → member ≡ out
    is_out row member in_set not_read = elim (cases_eq member out) [
      | inl same ↦ same
      | inr apart ↦ absurd (differ (sym (ap (λ (b : Bool). b && is_below slots.rebuilding row member) (live member in_set apart)
          ∙ below_there row member apart slots.rebuilding refl) ∙ not_read))
    ]
