use Rattle.std.proofs.Common.{◌∙◌}
use Rattle.device_files.specs.BankFiles.{contents_by}
use Rattle.device_files.proofs.Lent.{begins_on, begins_with_lent, begins_with_slice}
use Rattle.device_files.proofs.lending.bank_to_inspect.Goals as goal

pub over-requires-clause-begun : goal.over-requires-clause-begun
over-requires-clause-begun g c = λ tells. begins_with_lent (λ one. one.file.now) (contents_by g.F.Growing.told g.F.BankFile.left)
    c.args.files.now.files.items c.in_ok-read_all.field-0.items _ (c.in_ok-read_all.ensures ∙ c.deref-2.ensures.value)
    (begins_with_slice g.F.Growing.is_safe g.F.Growing.tells g.F.Growing.told g.F.BankFile.left _ _ _ c.deref.ensures.value c.requires.safe
    c.in_ok-notes.ensures.begun tells)

pub returns-clause-begins : goal.returns-clause-begins
returns-clause-begins g c = begins_on g.F.Growing.tells g.F.Growing.told g.F.BankFile.left c.args.files.now.files.items _ _ c.over.result
    (begins_with_slice g.F.Growing.is_safe g.F.Growing.tells g.F.Growing.told g.F.BankFile.left _ _ _ c.deref.ensures.value c.requires.safe
    c.in_ok-notes.ensures.begun) c.over.ensures.history
