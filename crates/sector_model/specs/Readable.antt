-- What reads give now.
use Rattle.std.specs.Prelude.{◌≡◌, ℕ, false, if◌then◌else◌, Some, None}
use Rattle.sector_model.specs.History.{Bytes, History, MayHold, Slots, is_down, seen}

-- what reads give now: the devices that are up, with what stands in their sectors
abbrev pub readable : History → Slots
readable h = λ d. if is_down h d then None else Some (seen h d)

-- each sector of a device that is up has one value in all images that a crash now may leave
abbrev pub NothingPending : History → Type 0
NothingPending h = (device at : ℕ) (first second : Bytes) → is_down h device ≡ false → MayHold h device at first → MayHold h device at second → first ≡ second
