use Rattle.std.proofs.Common.{◌≡◌, ◌<◌, ◌≤◌, ℕ, [], ◌∷◌, length, get_or, drop}
use Rattle.sector_model.specs.History.{sector_of}
use Rattle.sector_model.specs.Memory.{put_by_all}
use Rattle.sector_model.proofs.memory.after_crash.put_chosen.Given as goal

abbrev pub invariant-loop-entry : goal.invariant-loop-entry
invariant-loop-entry l = record {
  left : (a : ℕ) → a < length l.initial.disk → get_or l.numbers a 0 ≤ length (put_by_all (drop l.entry-index l.log) l.room l.dev a);
  chosen : (a : ℕ) → a < length l.initial.disk
      → get_or (sector_of l.disk a ∷ put_by_all (drop l.entry-index l.log) l.room l.dev a) (get_or l.numbers a 0) [] ≡ get_or
      (sector_of l.initial.disk a ∷ put_by_all l.log l.initial.room l.dev a) (get_or l.initial.numbers a 0) [];
}
