use Rattle.std.proofs.Common.{◌≡◌, ◌<◌, ℕ, None, vec_len, get_or}
use Rattle.sector_model.specs.Files.{IsFileOf, file_at}
use Rattle.sector_model.specs.MemFiles.{contents_in}
use Rattle.sector_model.proofs.files.in_memory.files_of.Given as goal

abbrev pub invariant-loop-number : goal.invariant-loop-number
invariant-loop-number l = record {
  so_far : vec_len l.files ≡ l.number;
  each : (d : ℕ) → d < l.number → IsFileOf contents_in (get_or l.slots d None) (file_at l.files.items d);
}
