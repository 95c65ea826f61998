-- Each owner so far fits.
use Rattle.std.proofs.Common.{◌≡◌, ℕ, ◌<◌, Some}
use Rattle.extents.specs.declared.owned.Owned.{Owned}
use Rattle.extents.specs.Owners.{owner_of}
use Rattle.extents.specs.Checks.{Fits}
use Rattle.extents.proofs.checks.owners_fit.Given as goal

abbrev pub invariant-loop-extent : goal.invariant-loop-extent
invariant-loop-extent l = (e : ℕ) → e < l.extent → (owner : Owned) → owner_of l.extents e ≡ Some owner
    → Fits l.layout.blocks l.records l.extents e owner
