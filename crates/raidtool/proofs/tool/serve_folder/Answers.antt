use Rattle.std.proofs.Common.{List, inl, inr, ℕ, subst, sym}
use Rattle.std.proofs.lemmas.Result.{err_from_is_err_and}
use contract.BorrowLft.{⊑_static, ⊑_trans}
use Rattle.device_files.specs.BankFiles.{AreAllSafe}
use Rattle.device_files.specs.DeviceFiles.{slot_path}
use Rattle.device_files.proofs.MadeSafe.{all_safe}
use Rattle.set_commands.specs.Run.{streams}
use Rattle.raidtool.specs.Begun.{IsMissingOver}
use Rattle.raidtool.specs.Causes.{folder_text, id_text}
use Rattle.raidtool.specs.DoneOver.{DoesOver}
use Rattle.device_files.specs.Faults.{IsOpenFault}
use Rattle.raidtool.proofs.Causes.{by_memory, by_refusal, no_table_opened, not_memory}
use Rattle.raidtool.proofs.Statuses.{cut_refused}
use Rattle.raidtool.proofs.Taken.{taken_over}
use Rattle.raidtool.proofs.tool.serve_folder.Goals as goal

pub pass_over-requires-clause-safe : goal.pass_over-requires-clause-safe
pass_over-requires-clause-safe g c κs within = all_safe _ _ _ _ _ c.in_ok-files.files.files.items c.in_ok-files.files.unsynced c.in_ok-files.files.barred
    c.in_ok-files.ensures.safe

pub bank_on-requires-clause-safe : goal.bank_on-requires-clause-safe
bank_on-requires-clause-safe g c κs within = subst (AreAllSafe g.D.File.Growing.is_safe) (sym c.deref_mut.ensures.value)
    (all_safe _ _ _ _ _ c.in_ok-files.files.files.items c.in_ok-files.files.unsynced c.in_ok-files.files.barred c.in_ok-files.ensures.safe)

pub do_on-requires-lives-B-Bank : goal.do_on-requires-lives-B-Bank
do_on-requires-lives-B-Bank g c κs within = ⊑_trans _ _ _ (⊑_static _) c.type_bounds.static-D-File

pub do_on-requires-lives-B-Destruct : goal.do_on-requires-lives-B-Destruct
do_on-requires-lives-B-Destruct g c κs within = ⊑_trans _ _ _ (⊑_static _) c.type_bounds.static-D-File

pub returns-clause-served : goal.returns-clause-served
returns-clause-served g c =
    let both = taken_over g.D.File.Growing (λ slot. g.D.SlotFiles.opens c.args.disk.now (slot_path (folder_text c.args.line) slot))
    c.in_ok-files.files.files.items c.in_ok-files.files.unsynced c.in_ok-files.files.barred (λ _. ⊥)
    (IsMissingOver g.D.File.Growing g.D.File.BankFile.left (id_text c.args.line))
    (λ files. DoesOver g.D.File.Growing g.D.File.BankFile.left files c.args.line
    (streams (g.R.Read.remaining c.args.reader.now) (g.W.Write.contents c.args.out.now))
    (streams (g.R.Read.remaining c.do_on.new.reader) (g.W.Write.contents c.do_on.new.out)) c.args.health.now c.do_on.new.health)
    (rw c.folder_of.ensures at c.in_ok-files.ensures.safe) (λ slot under needed. absurd needed)
    (λ slot under some. subst (λ (id : List ℕ). IsMissingOver g.D.File.Growing g.D.File.BankFile.left id c.in_ok-files.files.files.items slot)
    c.id_of.ensures (c.in_ok-pass_over.ensures.missing slot under some))
    (record {
      bank = _;
      begins = rw c.deref_mut.ensures.value at c.in_ok-bank.ensures.begins;
      does = c.in_ok-do_on.ensures.does;
      health = c.in_ok-do_on.ensures.health;
    }) in
    record { taken = both.0; over = both.1 }

pub returns-clause-passed : goal.returns-clause-passed
returns-clause-passed g c = (c.in_ok-files.files.barred, c.in_ok-pass_over.ensures.told)

pub returns-in_err-do_on-clause-cut : goal.returns-in_err-do_on-clause-cut
returns-in_err-do_on-clause-cut g c = λ beside.
    let from = err_from_is_err_and c.from_residual-in_err-do_on.result c.from_residual-in_err-do_on.ensures.1 in
    rw (from.1, from.2) (cut_refused _ _ (c.in_err-do_on.ensures.cut beside))

-- ---- why it was refused

pub returns-in_err-do_on-clause-cause : goal.returns-in_err-do_on-clause-cause
returns-in_err-do_on-clause-cause g c =
    let from = err_from_is_err_and c.from_residual-in_err-do_on.result c.from_residual-in_err-do_on.ensures.1 in
    rw (from.1, from.2) (by_refusal _ _ (λ other. inl (
      _,
      record {
        files = c.in_ok-files.files.files.items;
        unsynced = c.in_ok-files.files.unsynced;
        barred = c.in_ok-files.files.barred;
        made_safe = rw c.folder_of.ensures at c.in_ok-files.ensures.safe;
        begins = rw c.deref_mut.ensures.value at c.in_ok-bank.ensures.begins;
      },
      c.in_err-do_on.ensures.cause other,
    )))

pub returns-in_err-pass_over-clause-cause : goal.returns-in_err-pass_over-clause-cause
returns-in_err-pass_over-clause-cause g c =
    let from = err_from_is_err_and c.from_residual-in_err-pass_over.result c.from_residual-in_err-pass_over.ensures.1 in
    rw (from.1, from.2) (λ refusal same other. inr (no_table_opened g.D.File.Growing g.D.File.BankFile.left
    (λ slot. g.D.SlotFiles.opens c.args.disk.now (slot_path (folder_text c.args.line) slot)) (id_text c.args.line) c.in_ok-files.files.files.items
    c.in_ok-files.files.unsynced c.in_ok-files.files.barred refusal (rw c.folder_of.ensures at c.in_ok-files.ensures.safe)
    (rw c.id_of.ensures at (c.in_err-pass_over.ensures.cause refusal same (not_memory refusal other)))))

pub returns-in_err-entry-clause-cause : goal.returns-in_err-entry-clause-cause
returns-in_err-entry-clause-cause g c =
    let from = err_from_is_err_and c.from_residual.result c.from_residual.ensures.1 in
    rw (from.1, from.2) (by_refusal _ _ (λ other. absurd (not_memory _ other c.in_err-entry.ensures.err)))

pub returns-in_err-files-clause-cause : goal.returns-in_err-files-clause-cause
returns-in_err-files-clause-cause g c =
    let from = err_from_is_err_and c.from_residual-in_err-files.result c.from_residual-in_err-files.ensures.1 in
    rw (from.1, from.2) (by_memory IsOpenFault _ _ (λ refusal memory. memory) c.in_err-files.ensures.fault)

pub returns-in_err-bank-clause-cause : goal.returns-in_err-bank-clause-cause
returns-in_err-bank-clause-cause g c =
    let from = err_from_is_err_and c.from_residual-in_err-bank.result c.from_residual-in_err-bank.ensures.1 in
    rw (from.1, from.2) (by_refusal _ _ (λ other. absurd (not_memory _ other c.in_err-bank.ensures.err)))
