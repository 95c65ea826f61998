use Rattle.std.proofs.Common.{List, Ok, inl, inr, ℕ, subst, sym}
use Rattle.std.proofs.lemmas.Result.{err_from_is_err_and}
use Rattle.device_files.specs.BankFiles.{AreAllSafe}
use Rattle.device_files.specs.DeviceFiles.{slot_path}
use Rattle.device_files.specs.Faults.{IsOpenFault}
use Rattle.device_files.proofs.MadeSafe.{all_safe}
use Rattle.set_commands.specs.Run.{streams}
use Rattle.raidtool.specs.Begun.{IsMissingOver}
use Rattle.raidtool.specs.ServedRuns.{ServesRuns}
use Rattle.raidtool.proofs.Causes.{by_memory, by_refusal, no_table_opened, not_memory}
use Rattle.raidtool.proofs.ServedRuns.{runs_read}
use Rattle.raidtool.proofs.Taken.{taken_over}
use Rattle.raidtool.proofs.serving.serve_in_folder.Goals as goal

pub pass_over-requires-clause-safe : goal.pass_over-requires-clause-safe
pass_over-requires-clause-safe g c κs within = all_safe _ _ _ _ _ c.in_ok-files.files.files.items c.in_ok-files.files.unsynced c.in_ok-files.files.barred
    c.in_ok-files.ensures.safe

pub serve_runs-requires-clause-safe : goal.serve_runs-requires-clause-safe
serve_runs-requires-clause-safe g c κs within = subst (AreAllSafe g.D.File.Growing.is_safe) (sym c.deref_mut.ensures.value)
    (all_safe _ _ _ _ _ c.in_ok-files.files.files.items c.in_ok-files.files.unsynced c.in_ok-files.files.barred c.in_ok-files.ensures.safe)

pub returns-clause-passed : goal.returns-clause-passed
returns-clause-passed g c = (c.in_ok-files.files.barred, c.in_ok-pass_over.ensures.told)

pub returns-clause-served : goal.returns-clause-served
returns-clause-served g c =
    let both = taken_over g.D.File.Growing (λ slot. g.D.SlotFiles.opens c.args.disk.now (slot_path c.args.folder.now slot))
    c.in_ok-files.files.files.items c.in_ok-files.files.unsynced c.in_ok-files.files.barred (λ _. ⊥)
    (IsMissingOver g.D.File.Growing g.D.File.BankFile.left c.args.id)
    (λ files. ServesRuns g.D.File.Growing g.D.File.BankFile.left (λ slot. g.D.SlotFiles.opens c.args.disk.now (slot_path c.args.folder.now slot)) c.args.id files
    (streams (g.R.Read.remaining c.args.reader.now) (g.W.Write.contents c.args.out.now))
    (streams (g.R.Read.remaining c.serve_runs.new.reader) (g.W.Write.contents c.serve_runs.new.out)) (Ok tt))
    c.in_ok-files.ensures.safe (λ slot under needed. absurd needed)
    c.in_ok-pass_over.ensures.missing (rw c.deref_mut.ensures.value at c.in_ok-serve_runs.ensures.runs) in
    record { taken = both.0; runs = both.1 }

pub returns-clause-read : goal.returns-clause-read
returns-clause-read g c = λ some. runs_read g.D.File.Growing g.D.File.BankFile.left c.args.id
    (λ slot. g.D.SlotFiles.opens c.args.disk.now (slot_path c.args.folder.now slot)) _ _ _ (Ok tt) some c.in_ok-serve_runs.ensures.runs

-- ---- why it was refused

pub returns-in_err-serve_runs-clause-cause : goal.returns-in_err-serve_runs-clause-cause
returns-in_err-serve_runs-clause-cause g c =
    let from = err_from_is_err_and c.from_residual-in_err-serve_runs.result c.from_residual-in_err-serve_runs.ensures.1 in
    rw (from.1, from.2) (by_refusal _ _ (λ other. inl (record {
      files = c.in_ok-files.files.files.items;
      was = _;
      is = _;
      safe = all_safe _ _ _ _ _ c.in_ok-files.files.files.items c.in_ok-files.files.unsynced c.in_ok-files.files.barred c.in_ok-files.ensures.safe;
      runs = rw c.deref_mut.ensures.value at c.in_err-serve_runs.ensures.runs;
    })))

pub returns-in_err-pass_over-clause-cause : goal.returns-in_err-pass_over-clause-cause
returns-in_err-pass_over-clause-cause g c =
    let from = err_from_is_err_and c.from_residual-in_err-pass_over.result c.from_residual-in_err-pass_over.ensures.1 in
    rw (from.1, from.2) (λ refusal same other. inr (no_table_opened g.D.File.Growing g.D.File.BankFile.left
    (λ slot. g.D.SlotFiles.opens c.args.disk.now (slot_path c.args.folder.now slot)) c.args.id c.in_ok-files.files.files.items
    c.in_ok-files.files.unsynced c.in_ok-files.files.barred refusal c.in_ok-files.ensures.safe
    (c.in_err-pass_over.ensures.cause refusal same (not_memory refusal other))))

pub returns-in_err-entry-clause-cause : goal.returns-in_err-entry-clause-cause
returns-in_err-entry-clause-cause g c =
    let from = err_from_is_err_and c.from_residual.result c.from_residual.ensures.1 in
    rw (from.1, from.2) (by_refusal _ _ (λ other. absurd (not_memory _ other c.in_err-entry.ensures.err)))

pub returns-in_err-files-clause-cause : goal.returns-in_err-files-clause-cause
returns-in_err-files-clause-cause g c =
    let from = err_from_is_err_and c.from_residual-in_err-files.result c.from_residual-in_err-files.ensures.1 in
    rw (from.1, from.2) (by_memory IsOpenFault _ _ (λ refusal memory. memory) c.in_err-files.ensures.fault)
