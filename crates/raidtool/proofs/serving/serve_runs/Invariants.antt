use Rattle.std.proofs.Common.{◌≡◌, ℕ, IfErr, Result, length}
use Rattle.sector_model.specs.declared.refusal.Refusal.{Refusal}
use Rattle.device_files.specs.DeviceFiles.{slot_path}
use Rattle.set_commands.specs.Run.{Streams, streams}
use Rattle.set_commands.specs.Serving.{IsEnd}
use Rattle.raidtool.specs.ServedRuns.{ServesOnward}
use Rattle.raidtool.proofs.serving.serve_runs.Given as goal

-- what follows from here follows the first run
abbrev pub invariant-loop-runs : goal.invariant-loop-runs
invariant-loop-runs g l = record {
  ten : length l.files ≡ 10;
  ends : IfErr l.ending IsEnd;
  onward : (is : Streams) (result : Result (Unit {0}) Refusal)
      → ServesOnward g.D.File.Growing g.D.File.BankFile.left (λ slot. g.D.SlotFiles.opens l.fn.disk (slot_path l.fn.folder slot)) l.fn.id l._runs
      (streams (g.R.Read.remaining l.reader) (g.W.Write.contents l.out)) is l.ending result
      → ServesOnward g.D.File.Growing g.D.File.BankFile.left (λ slot. g.D.SlotFiles.opens l.fn.disk (slot_path l.fn.folder slot)) l.fn.id 0
      (streams (g.R.Read.remaining l.initial.reader) (g.W.Write.contents l.initial.out)) is l.initial.ending result;
}
