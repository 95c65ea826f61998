-- Rows after those of a list of runs, as runs.
use Rattle.std.specs.Prelude.{◌≡◌, ℕ, ◌+◌, ◌-◌, ◌^◌, ◌<◌, ◌≤◌, ◌==◌, ◌&&◌, Bool, true, false, if◌then◌else◌, List, [], ◌∷◌, ◌++◌, length, take}
use Rattle.entry_runs.specs.declared.run.Run.{Run}
use Rattle.entry_runs.specs.Runs.{end_of, run_at}

-- no row lies between two runs, and they have one mask
abbrev pub touches : (run next : Run) → Bool
touches run next = (end_of run == next.first) && (run.mask == next.mask)

-- a run with more rows
abbrev pub longer : Run → (more : ℕ) → Run
longer run more = record run { length = run.length + more }

-- runs, and the rows of one more after them: joined to the last where it touches them, else as one more
abbrev pub with_run : List Run → Run → List Run
with_run [] next = next ∷ []
with_run (run ∷ []) next = if touches run next then longer run next.length ∷ [] else run ∷ next ∷ []
with_run (run ∷ after ∷ runs) next = run ∷ with_run (after ∷ runs) next

-- the last of these runs is given more rows, or there would be too many
pub record Lengthens (old : List Run) (more : ℕ) (new : List Run) (result : Bool) : Type 0 where
  pub taken : result ≡ true → new ≡ take (length old - 1) old ++ longer (run_at old (length old - 1)) more ∷ []
  pub fits : result ≡ true → (run_at old (length old - 1)).length + more < 2 ^ 16
  pub kept : result ≡ false → new ≡ old
  pub too_long : result ≡ false → 2 ^ 16 ≤ (run_at old (length old - 1)).length + more
