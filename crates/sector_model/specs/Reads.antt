-- Runs that only read.
use Rattle.std.specs.Prelude.{◌≡◌, ◌⊎◌}
use Rattle.sector_model.specs.declared.event.Event.TheVariants.{Quiet, Wrote, Lost, Flushed, DeviceFailed}
use Rattle.sector_model.specs.History.{History, Began, After}

-- from the one run to the other devices were read, some of which may have gone down
abbrev pub OnlyRead : History → History → Type 0
OnlyRead old (Began start) = old ≡ Began start
OnlyRead old (After Quiet h) = (old ≡ After Quiet h) ⊎ OnlyRead old h
OnlyRead old (After (Wrote device at value) h) = old ≡ After (Wrote device at value) h
OnlyRead old (After (Lost device at value) h) = old ≡ After (Lost device at value) h
OnlyRead old (After (Flushed device) h) = old ≡ After (Flushed device) h
OnlyRead old (After (DeviceFailed device) h) = (old ≡ After (DeviceFailed device) h) ⊎ OnlyRead old h

-- the same, as a record
pub record HasRead (old new : History) : Type 0 where
  pub only : OnlyRead old new
