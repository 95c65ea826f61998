-- A device that is down stays so.
use Rattle.std.proofs.Common.{◌≡◌, ℕ, ◌+◌, nat_lt, Bool, true, false, cond, ◌==◌}
use Rattle.std.proofs.lemmas.Bool.{or_right}
use Rattle.sector_model.specs.declared.event.Event.{Event}
use Rattle.sector_model.specs.declared.event.Event.TheVariants.{Quiet, Wrote, Lost, Flushed, DeviceFailed}
use Rattle.sector_model.specs.History.{After, Began, History, calls_of, cut_at, is_down}
use Rattle.sector_model.specs.Moments.{Throughout, here, then_also}
use Rattle.sector_model.proofs.Steps.{throughout_last}
use Rattle.array_io.specs.Steps.CallSteps.{StaysDown}

-- a device that is down stays so after an event
down_after : (e : Event) (h : History) (d : ℕ) → is_down h d ≡ true → is_down (After e h) d ≡ true
down_after Quiet h d down = down
down_after (Wrote device at value) h d down = down
down_after (Lost device at value) h d down = or_right (d == device) (is_down h d) down
down_after (Flushed device) h d down = down
down_after (DeviceFailed device) h d down = or_right (d == device) (is_down h d) down

-- so at each moment of a run
pub stays_in : {P : History → Type 0} {old : History} (new : History) → Throughout P old new → Throughout (StaysDown old) old new
stays_in new (here is) = here (λ device down. down)
stays_in new (then_also e h so_far is) =
    let before = stays_in h so_far in
    then_also e h before (λ device down. down_after e h device (throughout_last h before device down))

-- and from a moment of it on
pub cut_down : (t : ℕ) (h : History) (d : ℕ) → is_down (cut_at t h) d ≡ true → is_down h d ≡ true
cut_down t (Began start) d down = down
cut_down t (After e h) d down = by_case (nat_lt t (calls_of h + 1)) down (cut_down t h d)
  where
    by_case : (b : Bool) → is_down (cond b (cut_at t h) (After e h)) d ≡ true → (is_down (cut_at t h) d ≡ true → is_down h d ≡ true)
        → is_down (After e h) d ≡ true
    by_case true is before = down_after e h d (before is)
    by_case false is before = is
