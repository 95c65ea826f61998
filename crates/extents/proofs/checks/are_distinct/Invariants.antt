-- No record so far has the name of one before it.
use Rattle.std.proofs.Common.{◌≡◌, ℕ, ◌<◌, ◌≤◌, Some}
use Rattle.extents.specs.declared.record.Record.{Record}
use Rattle.extents.specs.VolumeTables.{record_of}
use Rattle.extents.specs.Checks.{IsNamed}
use Rattle.extents.proofs.checks.are_distinct.Given as goal

abbrev pub invariant-loop-number : goal.invariant-loop-number
invariant-loop-number l = (i : ℕ) → i < l.number → (one : Record) → record_of l.records i ≡ Some one
    → (j : ℕ) → IsNamed l.records j one.name.bytes.items → i ≤ j
