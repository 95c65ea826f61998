-- The spelling of runs, run by run.
use Rattle.std.proofs.Common.{◌≡◌, ℕ, zero, suc, ◌+◌, ◌-◌, ◌*◌, ◌<◌, ◌≤◌, List, [], ◌∷◌, ◌++◌, length, drop, replicate, get_or, refl, sym, ap, ◌∙◌, arith}
use Rattle.std.proofs.Common.{length-append, append_assoc}
use Rattle.std.specs.Prelude.{map}
use Rattle.std.specs.List.{flat_map, range_with_len}
use Rattle.std.proofs.lemmas.List.{drop-drop, drop_at, get_or-drop, length-replicate}
use Rattle.std.proofs.lemmas.List.FromFn.{fill_by_all}
use Rattle.byteorder.specs.Endian.{little_bytes, little_number}
use Rattle.byteorder.specs.Numbers.{little_number-reads_back}
use Rattle.std.specs.Int.{byte_at}
use Rattle.entry_runs.specs.declared.run.Run.{Run}
use Rattle.entry_runs.specs.declared.sizes.TheConstants.{MOST_RUNS, RUN_BYTES, RUNS_BYTES}
use Rattle.entry_runs.specs.Runs.{AreRuns, IsRun, run_at}
use Rattle.entry_runs.specs.Spelling.{run_bytes, run_in, runs_bytes}
use Rattle.entry_runs.proofs.Same.{same_run}

-- eight bytes a run
pub length-run : (run : Run) → length (run_bytes run) ≡ 8
unfolding run_bytes
length-run run = refl

pub length-each : (runs : List Run) → length (flat_map run_bytes runs) ≡ 8 * length runs
length-each [] = refl
length-each (run ∷ runs) = omega (arith, length-append (run_bytes run) (flat_map run_bytes runs), length-run run, length-each runs)

-- 464 in all
pub length-runs : (runs : List Run) → length runs ≤ MOST_RUNS → length (runs_bytes runs) ≡ RUNS_BYTES
unfolding runs_bytes
length-runs runs few =
    length-append (flat_map run_bytes runs) (replicate (RUNS_BYTES - RUN_BYTES * length runs) 0)
    ∙ omega (arith, length-each runs, length-replicate {A = ℕ} (RUNS_BYTES - RUN_BYTES * length runs) 0, few)

-- a first row reads back
first_back : (run : Run) (rest : List ℕ) → IsRun run → (run_in (run_bytes run ++ rest) 0).first ≡ run.first
unfolding run_bytes
first_back run rest is = little_number-reads_back 4 run.first (byte_at 4 run.first ∷ little_bytes 2 run.length ++ run.mask ∷ [] ++ rest)
    (omega (arith, is.below, is.long))

length_back : (run : Run) (rest : List ℕ) → IsRun run → (run_in (run_bytes run ++ rest) 0).length ≡ run.length
unfolding run_bytes
length_back run rest is = little_number-reads_back 2 run.length (run.mask ∷ rest) (omega (arith, is.length_most))

mask_back : (run : Run) (rest : List ℕ) → (run_in (run_bytes run ++ rest) 0).mask ≡ run.mask
unfolding run_bytes
mask_back run rest = refl

-- the run of a number stands after those before it
run_after : (run : Run) (rest : List ℕ) (i : ℕ) → run_in (run_bytes run ++ rest) (suc i) ≡ run_in rest i
run_after run rest i =
    let bytes = run_bytes run ++ rest in
    let at : drop (RUN_BYTES * suc i) bytes ≡ drop (RUN_BYTES * i) rest =
    ap (λ (n : ℕ). drop n bytes) (omega arith) ∙ sym (drop-drop (RUN_BYTES * i) 8 bytes)
    ∙ ap (drop (RUN_BYTES * i)) (drop_at (run_bytes run) rest 8 (length-run run)) in
    let later : drop (RUN_BYTES * suc i + 5) bytes ≡ drop (RUN_BYTES * i + 5) rest =
    sym (drop-drop 5 (RUN_BYTES * suc i) bytes) ∙ ap (drop 5) at ∙ drop-drop 5 (RUN_BYTES * i) rest in
    let last : get_or bytes (RUN_BYTES * suc i + 7) 0 ≡ get_or rest (RUN_BYTES * i + 7) 0 =
    sym (get_or-drop (RUN_BYTES * suc i) bytes 7 0) ∙ ap (λ (xs : List ℕ). get_or xs 7 0) at ∙ get_or-drop (RUN_BYTES * i) rest 7 0 in
    same_run (run_in bytes (suc i)) (run_in rest i) (ap (little_number 4) at) (ap (little_number 2) later) last

-- so each run reads back
pub run_back : (runs : List Run) (rest : List ℕ) (i : ℕ) → ((k : ℕ) → k < length runs → IsRun (run_at runs k)) → i < length runs
    → run_in (flat_map run_bytes runs ++ rest) i ≡ run_at runs i
run_back [] rest i each within = absurd (omega (arith, within))
run_back (run ∷ runs) rest zero each within =
    ap (λ (xs : List ℕ). run_in xs 0) (append_assoc (run_bytes run) (flat_map run_bytes runs) rest)
    ∙ same_run (run_in (run_bytes run ++ (flat_map run_bytes runs ++ rest)) 0) run (first_back run (flat_map run_bytes runs ++ rest) (each 0 (omega arith)))
    (length_back run (flat_map run_bytes runs ++ rest) (each 0 (omega arith))) (mask_back run (flat_map run_bytes runs ++ rest))
run_back (run ∷ runs) rest (suc i) each within =
    ap (λ (xs : List ℕ). run_in xs (suc i)) (append_assoc (run_bytes run) (flat_map run_bytes runs) rest)
    ∙ run_after run (flat_map run_bytes runs ++ rest) i
    ∙ run_back runs rest i (λ k below. each (suc k) (omega (arith, below))) (omega (arith, within))

-- a list of runs is what its bytes and its count say
pub runs_back : (runs : List Run) → AreRuns runs → runs ≡ map (run_in (runs_bytes runs)) (range_with_len 0 (length runs))
unfolding runs_bytes
runs_back runs are =
    fill_by_all (run_in (runs_bytes runs)) runs (length runs) (record { first = 0; length = 0; mask = 0 }) refl
    (λ i within. sym (run_back runs (replicate (RUNS_BYTES - RUN_BYTES * length runs) 0) i are.fit.each within))

pub one_spelled : (first second : List Run) → AreRuns first → AreRuns second → runs_bytes first ≡ runs_bytes second → length first ≡ length second
    → first ≡ second
one_spelled first second are are' bytes count =
    runs_back first are ∙ ap (λ (xs : List ℕ). map (run_in xs) (range_with_len 0 (length first))) bytes
    ∙ ap (λ (n : ℕ). map (run_in (runs_bytes second)) (range_with_len 0 n)) count ∙ sym (runs_back second are')
