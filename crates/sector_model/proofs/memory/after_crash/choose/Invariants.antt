use Rattle.std.proofs.Common.{◌≡◌, ◌<◌, ◌≤◌, ℕ, get_or}
use Rattle.sector_model.specs.Candidates.{number_taken}
use Rattle.sector_model.proofs.memory.after_crash.choose.Given as goal

abbrev pub invariant-loop-at : goal.invariant-loop-at
invariant-loop-at l = record {
  done : (a : ℕ) → a < l.at → get_or l.numbers a 0 ≡ number_taken l.choice l.dev a (get_or l.initial.numbers a 0);
  rest : (a : ℕ) → l.at ≤ a → get_or l.numbers a 0 ≡ get_or l.initial.numbers a 0;
}
