-- Each extent so far that is not before the first is free.
use Rattle.std.proofs.Common.{◌≡◌, ℕ, ◌<◌, ◌≤◌, None}
use Rattle.extents.specs.Owners.{owner_of}
use Rattle.extents.proofs.checks.are_free_from.Given as goal

abbrev pub invariant-loop-extent : goal.invariant-loop-extent
invariant-loop-extent l = (e : ℕ) → e < l.extent → l.first ≤ e → owner_of l.extents e ≡ None
