use Rattle.std.proofs.Common.{◌≡◌, ◌≤◌, ◌<◌, ◌+◌, ◌^◌, ℕ, Ok, Result, arith, refl, subst, sym}
use Rattle.sector_model.specs.declared.refusal.Refusal.{Refusal}
use Rattle.device_files.specs.DeviceFiles.{slot_path}
use Rattle.set_commands.specs.Run.{streams}
use Rattle.server.specs.declared.ending.Ending.{Ending}
use Rattle.raidtool.specs.ServedRuns.{ServesOnward}
use Rattle.raidtool.proofs.ServedRuns.{all_runs, last_end, last_onward, one_more}
use Rattle.raidtool.proofs.serving.serve_runs.Goals as goal

pub loop-runs-init : goal.loop-runs-init
loop-runs-init g c = record { ten = c.serve_first-ending.ensures.ten; ends = c.serve_first-ending.ensures.end; onward = λ is result more. more }

pub loop-runs-preserved : goal.loop-runs-preserved
loop-runs-preserved g c = record {
  ten = c.serve_again-ending.ensures.ten;
  ends = c.serve_again-ending.ensures.end;
  onward = λ is result more.
      let Opens = λ (slot : ℕ). g.D.SlotFiles.opens c.args.disk.now (slot_path c.args.folder.now slot) in
      c.loop-runs.invariant.onward is result
      (subst (λ (ending : Result Ending Refusal). ServesOnward g.D.File.Growing g.D.File.BankFile.left Opens c.args.id c.loop-runs._runs
      (streams (g.R.Read.remaining c.loop-runs.reader) (g.W.Write.contents c.loop-runs.out)) is ending result)
      (sym c.in-Some.ensures.some)
      (one_more g.D.File.Growing g.D.File.BankFile.left c.args.id Opens c.loop-runs._runs _ _ _ is c.serve_again-ending.result result c.serve_again-ending.ensures.again more));
}

pub returns-in_default-clause-runs : goal.returns-in_default-clause-runs
returns-in_default-clause-runs g c =
    let Opens = λ (slot : ℕ). g.D.SlotFiles.opens c.args.disk.now (slot_path c.args.folder.now slot) in
    all_runs g.D.File.Growing g.D.File.BankFile.left c.args.id Opens _ _ _ _ c.serve_first-ending.result c.last_of.result c.serve_first-ending.ensures.first
    (c.loop-runs.invariant.onward _ _ (last_onward g.D.File.Growing g.D.File.BankFile.left c.args.id Opens c.loop-runs._runs _ c.loop-runs.ending
    c.last_of.result (λ slot is. absurd (c.slot_in.ensures.none c.in_default.is slot is)) c.last_of.ensures))

pub returns-in_default-clause-end : goal.returns-in_default-clause-end
returns-in_default-clause-end g c = last_end c.loop-runs.ending c.last_of.result c.loop-runs.invariant.ends c.last_of.ensures

pub returns : goal.returns
returns g c =
    let many : 2 ^ 64 ≤ c.loop-runs._runs + 1 = omega (arith, c.loop-runs-test.false) in
    record {
      runs = all_runs g.D.File.Growing g.D.File.BankFile.left c.args.id (λ slot. g.D.SlotFiles.opens c.args.disk.now (slot_path c.args.folder.now slot)) _ _ _ _
          c.serve_first-ending.result c.last_of-2.result c.serve_first-ending.ensures.first
          (c.loop-runs.invariant.onward _ _ (last_onward g.D.File.Growing g.D.File.BankFile.left c.args.id
          (λ slot. g.D.SlotFiles.opens c.args.disk.now (slot_path c.args.folder.now slot)) c.loop-runs._runs _ c.loop-runs.ending c.last_of-2.result
          (λ slot is. many) c.last_of-2.ensures));
      ten = c.loop-runs.invariant.ten;
      end = last_end c.loop-runs.ending c.last_of-2.result c.loop-runs.invariant.ends c.last_of-2.ensures;
    }
