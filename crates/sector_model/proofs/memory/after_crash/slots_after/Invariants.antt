use Rattle.std.proofs.Common.{◌≡◌, ◌<◌, ℕ, vec_len}
use Rattle.sector_model.specs.History.{Began}
use Rattle.sector_model.specs.Candidates.{IsTaken}
use Rattle.sector_model.specs.Memory.{slots_of, run_on}
use Rattle.sector_model.proofs.memory.after_crash.slots_after.Given as goal

abbrev pub invariant-loop-dev : goal.invariant-loop-dev
invariant-loop-dev l = record {
  so_far : vec_len l.slots ≡ l.dev;
  each : (d : ℕ) → d < l.dev → IsTaken l.choice l.room (run_on (Began (slots_of l.start)) l.log) d (slots_of l.start d) (slots_of l.slots.items d);
}
