-- When runs are the same.
use Rattle.std.proofs.Common.{◌≡◌, ℕ, List, subst, ap, ◌∙◌}
use denote.Struct.Props.{props}
use Rattle.entry_runs.specs.declared.run.Run.{Run}
use Rattle.entry_runs.specs.declared.runs.Runs.{Runs}
use Rattle.entry_runs.specs.Runs.{AreRuns}

-- a run is known by its first row, its length and its mask
pub same_run : (a b : Run) → a.first ≡ b.first → a.length ≡ b.length → a.mask ≡ b.mask → a ≡ b
same_run a b first long mask =
    let one : a ≡ record a { first = b.first } = ap (λ (n : ℕ). record a { first = n }) first in
    let two : record a { first = b.first } ≡ record b { mask = a.mask } = ap (λ (n : ℕ). record b { length = n; mask = a.mask }) long in
    let three : record b { mask = a.mask } ≡ b = ap (λ (n : ℕ). record b { mask = n }) mask in
    one ∙ two ∙ three

-- there is one proof that a list is one of an entry's runs
pub AreRuns-prop : (runs : List Run) → IsProp (AreRuns runs)
AreRuns-prop runs = hlevel props

-- the runs of an entry with this list
runs_with : (list : List Run) → AreRuns list → Runs
runs_with list allowed = record {
  list = record { items = list };
  allowed = allowed;
}

-- the runs of an entry are known by their list
pub same_runs : (a b : Runs) → a.list.items ≡ b.list.items → a ≡ b
unfolding runs_with
same_runs a b same =
    subst (λ (list : List Run). (allowed : AreRuns list) → a ≡ runs_with list allowed) same
    (λ allowed. ap (runs_with a.list.items) (AreRuns-prop a.list.items a.allowed allowed)) b.allowed
