use Rattle.std.proofs.Common.{IsTrue, ◌≡◌, ◌<◌, ℕ, length, vec_len}
use Rattle.sector_model.specs.Files.{slot_at, file_at, IsOpened, IsMade}
use Rattle.sector_model.specs.Spans.{with_span}
use Rattle.sector_model.proofs.files.slots_over.Given as goal

abbrev pub invariant-loop-file : goal.invariant-loop-file
invariant-loop-file g l = record {
  so_far : vec_len l.slots ≡ length l.yielded;
  opened : (d : ℕ) → IsOpened (slot_at l.slots.items d);
  made : IsTrue g.F.DeviceFile.tells → (d : ℕ) → d < length l.yielded → IsMade g.F.DeviceFile.told
      (λ buffered. with_span (g.F.DeviceFile.told buffered.file.file) buffered.waiting.start buffered.waiting.len buffered.waiting.bytes.items)
      (file_at l.yielded d) (slot_at l.slots.items d);
}
