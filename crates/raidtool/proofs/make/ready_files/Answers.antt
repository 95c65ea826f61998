use Rattle.std.proofs.Common.{inl, inr, refl}
use Rattle.std.proofs.lemmas.Result.{err_from_is_err_and}
use Rattle.raidtool.specs.Begun.{BeginsOver, BeginsSafely}
use Rattle.raidtool.specs.Stops.{IsFileFault}
use Rattle.raidtool.proofs.Causes.{by_memory, by_refusal, caused_as, not_memory, untold_make}
use Rattle.raidtool.proofs.MadeFiles.{all_made_safe}
use Rattle.raidtool.proofs.make.ready_files.Goals as goal

pub returns-clause-safe : goal.returns-clause-safe
returns-clause-safe g c = all_made_safe g.D.File.Growing.is_safe _ c.args.files.now.files.items c.make_files.new.files.files.items c.requires.safe
    c.in_ok-make_files.ensures.made.safe c.in_ok-make_files.ensures.made.others

pub returns-in_err-make_files-clause-files : goal.returns-in_err-make_files-clause-files
returns-in_err-make_files-clause-files g c =
    let from = err_from_is_err_and c.from_residual-in_err-make_files.result c.from_residual-in_err-make_files.ensures.1 in
    rw (from.1) (inr (c.make_files.result, c.make_files.ensures.made))

pub returns-in_err-refuse_other_set-clause-files : goal.returns-in_err-refuse_other_set-clause-files
returns-in_err-refuse_other_set-clause-files g c =
    let from = err_from_is_err_and c.from_residual-in_err-refuse_other_set.result c.from_residual-in_err-refuse_other_set.ensures.1 in
    rw (from.1) (inl (refl, refl))

pub returns-in_err-entry-clause-files : goal.returns-in_err-entry-clause-files
returns-in_err-entry-clause-files g c =
    let from = err_from_is_err_and c.from_residual.result c.from_residual.ensures.1 in
    rw (from.1) (inl (refl, refl))

-- ---- why it was refused

pub returns-in_err-refuse_other_set-clause-cause : goal.returns-in_err-refuse_other_set-clause-cause
returns-in_err-refuse_other_set-clause-cause g c =
    let from = err_from_is_err_and c.from_residual-in_err-refuse_other_set.result c.from_residual-in_err-refuse_other_set.ensures.1 in
    rw (from.1, from.2) (caused_as _ _ _ (λ refusal. untold_make _ (BeginsOver g.D.File.Growing g.D.File.BankFile.left c.args.files.now.files.items)
    (BeginsSafely g.D.File.Growing g.D.File.BankFile.left) c.args.id.now c.args.geometry.now refusal
    (λ history begins. (c.args.files.now.files.items, c.requires.safe, begins))) c.in_err-refuse_other_set.ensures.cause)

pub returns-in_err-make_files-clause-cause : goal.returns-in_err-make_files-clause-cause
returns-in_err-make_files-clause-cause g c =
    let from = err_from_is_err_and c.from_residual-in_err-make_files.result c.from_residual-in_err-make_files.ensures.1 in
    rw (from.1, from.2) (by_memory (IsFileFault c.args.geometry.now.members) _ _ (λ refusal memory. memory) c.in_err-make_files.ensures.fault)

pub returns-in_err-entry-clause-cause : goal.returns-in_err-entry-clause-cause
returns-in_err-entry-clause-cause g c =
    let from = err_from_is_err_and c.from_residual.result c.from_residual.ensures.1 in
    rw (from.1, from.2) (by_refusal _ _ (λ other. absurd (not_memory _ other c.in_err-entry.ensures.err)))
