-- What the calls of a bank do.
use Rattle.std.specs.Prelude.{◌≡◌, ◌≢◌, ℕ, ◌+◌, ◌-◌, ◌<◌, ◌≤◌, ◌^◌, min, Bool, true, false, not, length, None, Result, Ok, Err, if◌then◌else◌}
use Rattle.sector_model.specs.declared.sector.Stop.{Stop}
use Rattle.sector_model.specs.declared.sector.Stop.TheVariants.{Down, Worn}
use Rattle.sector_model.specs.declared.event.Event.{Event}
use Rattle.sector_model.specs.declared.event.Event.TheVariants.{Quiet, Wrote, Lost, Flushed, DeviceFailed}
use Rattle.sector_model.specs.declared.calls.TheConstants.{GREATEST_COUNT}
use Rattle.sector_model.specs.History.{History, After, Bytes, IsSector, MayHold, start_of, disk_of, is_down, calls_of}

-- what a bank shows of its devices, honest or not
pub record Panel : Type 0 where
  pub devices : ℕ
  pub sectors : ℕ → ℕ
  pub down : ℕ → Bool
  pub calls : ℕ

-- a device may be called
pub record CanCall (dev : ℕ) (panel : Panel) : Type 0 where
  pub device : dev < panel.devices
  pub calls : panel.calls < GREATEST_COUNT

-- What a call of a device does to the panel, by whether it was answered: it adds one to the calls, it is answered exactly where
-- the device is not down after it, and a device that is down stays down.
pub record AfterCall (dev : ℕ) (answered : Bool) (old new : Panel) : Type 0 where
  pub devices : new.devices ≡ old.devices
  pub sectors : (d : ℕ) → new.sectors d ≡ old.sectors d
  pub calls : new.calls ≡ old.calls + 1
  pub answer : new.down dev ≡ not answered
  pub others : (d : ℕ) → d ≢ dev → new.down d ≡ old.down d
  pub stays : old.down dev ≡ true → answered ≡ false

-- The panel of an honest bank agrees with its run, in which each sector holds 512 bytes.
pub record IsTrueTo (panel : Panel) (h : History) : Type 0 where
  pub down : (d : ℕ) → panel.down d ≡ is_down h d
  pub sectors : (d : ℕ) → panel.sectors d ≡ min (length (disk_of (start_of h d))) (2 ^ 32 - 1)
  pub calls : panel.calls ≡ calls_of h
  pub beyond : (d : ℕ) → panel.devices ≤ d → start_of h d ≡ None
  pub whole : (d a : ℕ) (v : Bytes) → a < length (disk_of (start_of h d)) → MayHold h d a v → IsSector v

-- what a call did that went wrong: the device goes down, unless it was down
abbrev pub fault_at : ℕ → Event → History → Event
fault_at dev fault h = if is_down h dev then Quiet else fault

-- the run after a call, by whether it was answered
abbrev pub after_read : ℕ → Bool → History → History
after_read dev answered h = After (if answered then Quiet else fault_at dev (DeviceFailed dev) h) h

abbrev pub after_write : ℕ → ℕ → Bytes → Bool → History → History
after_write dev at value answered h = After (if answered then Wrote dev at value else fault_at dev (Lost dev at value) h) h

abbrev pub after_flush : ℕ → Bool → History → History
after_flush dev answered h = After (if answered then Flushed dev else fault_at dev (DeviceFailed dev) h) h

-- the same devices after some calls: none is more, less, longer or shorter, and none that was down is up
pub record IsLater (old new : Panel) : Type 0 where
  pub devices : new.devices ≡ old.devices
  pub sectors : (d : ℕ) → new.sectors d ≡ old.sectors d
  pub calls : old.calls ≤ new.calls
  pub down : (d : ℕ) → old.down d ≡ true → new.down d ≡ true

-- why a row of calls ended before its last: this device is down, or no further call can be counted
abbrev pub IsCauseOf : Panel → Stop → Type 0
IsCauseOf panel (Down d) = panel.down d ≡ true
IsCauseOf panel Worn = GREATEST_COUNT ≤ panel.calls

-- one call, or none where the count of calls is used up
abbrev pub after_try : (Bool → History → History) → Result (Unit {0}) Stop → History → History
after_try after (Ok done) h = after true h
after_try after (Err (Down d)) h = after false h
after_try after (Err Worn) h = h
