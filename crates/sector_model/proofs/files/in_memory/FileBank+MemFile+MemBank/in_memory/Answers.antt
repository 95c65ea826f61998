use Rattle.std.proofs.Common.{ℕ, ◌<◌, List, Option, None, get_or, subst, arith}
use Rattle.sector_model.specs.Files.{IsFileOf, file_at}
use Rattle.sector_model.specs.MemFiles.{contents_in}
use Rattle.sector_model.specs.Memory.{Disk}
use Rattle.sector_model.proofs.Begun.{begins_with}
use Rattle.std.proofs.lemmas.Result.{err_from_is_err_and}
use Rattle.sector_model.proofs.files.in_memory.FileBank+MemFile+MemBank.in_memory.Goals as goal

pub over-requires-clause-begun : goal.over-requires-clause-begun
over-requires-clause-begun c = λ tells.
    begins_with contents_in c.args.image.slots.items c.in_ok-files.files.items _ c.in_ok-notes.ensures.history
    (omega (arith, c.requires.most, c.args.image.slots.ok.0))
    (subst (λ (l : List (Option Disk)). (d : ℕ) → d < 10 → IsFileOf contents_in (get_or l d None) (file_at c.in_ok-files.files.items d)) c.deref.ensures.value
    c.in_ok-files.ensures.each)

pub returns-in_err-files-clause-honest : goal.returns-in_err-files-clause-honest
returns-in_err-files-clause-honest c = rw (err_from_is_err_and c.from_residual.result c.from_residual.ensures.1).1 tt

pub returns-in_err-files-clause-history : goal.returns-in_err-files-clause-history
returns-in_err-files-clause-history c = rw (err_from_is_err_and c.from_residual.result c.from_residual.ensures.1).1 tt

pub returns-in_err-notes-clause-honest : goal.returns-in_err-notes-clause-honest
returns-in_err-notes-clause-honest c = rw (err_from_is_err_and c.from_residual-in_err-notes.result c.from_residual-in_err-notes.ensures.1).1 tt

pub returns-in_err-notes-clause-history : goal.returns-in_err-notes-clause-history
returns-in_err-notes-clause-history c = rw (err_from_is_err_and c.from_residual-in_err-notes.result c.from_residual-in_err-notes.ensures.1).1 tt
