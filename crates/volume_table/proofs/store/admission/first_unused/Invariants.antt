-- Each record so far is used.
use Rattle.std.proofs.Common.{◌≡◌, ℕ, ◌<◌, None}
use Rattle.extents.specs.VolumeTables.{record_of}
use Rattle.volume_table.proofs.store.admission.first_unused.Given as goal

abbrev pub invariant-loop-number : goal.invariant-loop-number
invariant-loop-number l = (i : ℕ) → i < l.number → record_of l.records i ≡ None → ⊥
