use Rattle.std.proofs.lemmas.Result.{err_from_is_err_and}
use Rattle.sector_model.proofs.files.FileBank+SystemFile+OwnedFile+F.open.Goals as goal

pub returns-in_err-open_files-clause-devices : goal.returns-in_err-open_files-clause-devices
returns-in_err-open_files-clause-devices g c = rw (err_from_is_err_and c.from_residual.result c.from_residual.ensures.1).1 tt

pub returns-in_err-open_files-clause-calls : goal.returns-in_err-open_files-clause-calls
returns-in_err-open_files-clause-calls g c = rw (err_from_is_err_and c.from_residual.result c.from_residual.ensures.1).1 tt

pub returns-in_err-open_files-clause-absent : goal.returns-in_err-open_files-clause-absent
returns-in_err-open_files-clause-absent g c = rw (err_from_is_err_and c.from_residual.result c.from_residual.ensures.1).1 tt

pub returns-in_err-open_files-clause-synced : goal.returns-in_err-open_files-clause-synced
returns-in_err-open_files-clause-synced g c = rw (err_from_is_err_and c.from_residual.result c.from_residual.ensures.1).1 tt

pub returns-in_err-open_files-clause-err : goal.returns-in_err-open_files-clause-err
returns-in_err-open_files-clause-err g c = let p = err_from_is_err_and c.from_residual.result c.from_residual.ensures.1 in rw p.1 p.2

pub over-requires-clause-ten : goal.over-requires-clause-ten
over-requires-clause-ten g c = c.in_ok-open_files.ensures

pub returns-clause-devices : goal.returns-clause-devices
returns-clause-devices g c = c.over.ensures.devices

pub returns-clause-calls : goal.returns-clause-calls
returns-clause-calls g c = c.over.ensures.calls

pub returns-clause-absent : goal.returns-clause-absent
returns-clause-absent g c = c.over.ensures.absent

pub returns-clause-synced : goal.returns-clause-synced
returns-clause-synced g c = c.over.ensures.synced

pub returns-clause-err : goal.returns-clause-err
returns-clause-err g c = c.over.ensures.err
