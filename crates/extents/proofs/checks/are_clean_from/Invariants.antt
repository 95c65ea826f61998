-- Each extent so far that is not before the first is clean.
use Rattle.std.proofs.Common.{◌≡◌, ℕ, ◌<◌, ◌≤◌, false}
use Rattle.extents.specs.ExtentMaps.{is_dirty}
use Rattle.extents.proofs.checks.are_clean_from.Given as goal

abbrev pub invariant-loop-extent : goal.invariant-loop-extent
invariant-loop-extent l = (e : ℕ) → e < l.extent → l.first ≤ e → is_dirty l.dirty e ≡ false
