use Rattle.std.proofs.Common.{ℕ, Some, List, length, map, sym, ap, subst, ◌≡◌, ◌∙◌}
use Rattle.std.specs.List.{range_with_len}
use Rattle.std.proofs.lemmas.Bool.{false≢true}
use Rattle.std.proofs.lemmas.List.FromFn.{length-map-range_with_len}
use Rattle.entry_runs.specs.declared.run.Run.{Run}
use Rattle.entry_runs.specs.Runs.{AreRuns}
use Rattle.entry_runs.specs.Spelling.{run_in, runs_bytes}
use Rattle.entry_runs.proofs.Bytes.{runs_back}
use Rattle.entry_runs.proofs.Same.{same_runs}
use Rattle.entry_runs.proofs.codec.read_runs.Goals as goal

-- what is read of the spelling of runs is their list
read_back : (list runs : List Run) (bytes : List ℕ) (count : ℕ) → AreRuns runs → list ≡ map (run_in bytes) (range_with_len 0 count) → bytes ≡ runs_bytes runs
    → count ≡ length runs → list ≡ runs
read_back list runs bytes count are is bytes_are counted =
    is ∙ ap (λ (xs : List ℕ). map (run_in xs) (range_with_len 0 count)) bytes_are ∙ ap (λ (n : ℕ). map (run_in (runs_bytes runs)) (range_with_len 0 n)) counted
    ∙ sym (runs_back runs are)

pub returns-then-not-are_runs-clause-exact : goal.returns-then-not-are_runs-clause-exact
returns-then-not-are_runs-clause-exact c = λ runs bytes count.
    let back = read_back _ runs.list.items c.args.from.now c.args.count runs.allowed (c.as_slice.ensures.value ∙ c.read_list-list.ensures) bytes count in
    absurd (false≢true (sym c.if-not-are_runs.true ∙ c.are_runs.ensures.1 (subst AreRuns (sym back) runs.allowed)))

pub returns-clause-counted : goal.returns-clause-counted
returns-clause-counted c =
    sym (ap length c.read_list-list.ensures ∙ length-map-range_with_len (run_in c.args.from.now) 0 c.args.count)

pub returns-clause-exact : goal.returns-clause-exact
returns-clause-exact c = λ runs bytes count.
    ap Some (same_runs _ runs (read_back _ runs.list.items c.args.from.now c.args.count runs.allowed c.read_list-list.ensures bytes count))
