-- What the devices have made safe in a run.
use Rattle.std.specs.Prelude.{ℕ, List, ◌==◌, if◌then◌else◌}
use Rattle.sector_model.specs.declared.event.Event.TheVariants.{Quiet, Wrote, Lost, Flushed, DeviceFailed}
use Rattle.sector_model.specs.History.{History, Began, After, Bytes, disk_of, seen}

-- the sectors of a device as its last good flush made them safe, or as the run began with them
abbrev pub safe_in : History → ℕ → List Bytes
safe_in (Began start) d = disk_of (start d)
safe_in (After Quiet before) d = safe_in before d
safe_in (After (Wrote device at value) before) d = safe_in before d
safe_in (After (Lost device at value) before) d = safe_in before d
safe_in (After (Flushed device) before) d = if d == device then seen before d else safe_in before d
safe_in (After (DeviceFailed device) before) d = safe_in before d
