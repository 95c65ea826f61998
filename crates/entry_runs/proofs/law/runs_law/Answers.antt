use Rattle.entry_runs.proofs.ByRun.{row_found, run_found}
use Rattle.entry_runs.proofs.Bytes.{length-runs, one_spelled}
use Rattle.entry_runs.proofs.Lookups.{fit_rise}
use Rattle.entry_runs.proofs.Rows.{length-masks, mask_of_row, one_list, row_written, rows_end, rows_rise}
use Rattle.entry_runs.proofs.law.runs_law.Goals as goal

pub returns-clause-filled : goal.returns-clause-filled
returns-clause-filled c = λ runs are. length-runs runs are.fit.few

pub returns-clause-one : goal.returns-clause-one
returns-clause-one c = one_spelled

pub returns-clause-alone : goal.returns-clause-alone
returns-clause-alone c = λ first second fit fit' rows masks. one_list first second (fit_rise first fit) (fit_rise second fit') rows masks

pub returns-clause-rising : goal.returns-clause-rising
returns-clause-rising c = λ runs fit. (length-masks runs, rows_rise runs (fit_rise runs fit))

pub returns-clause-masks : goal.returns-clause-masks
returns-clause-masks c = λ runs i fit within. mask_of_row runs i (fit_rise runs fit) within

pub returns-clause-rows : goal.returns-clause-rows
returns-clause-rows c = row_written

pub returns-clause-found : goal.returns-clause-found
returns-clause-found c = λ runs i row fit within here. run_found runs i row (fit_rise runs fit) within here

pub returns-clause-stand : goal.returns-clause-stand
returns-clause-stand c = row_found

pub returns-clause-ends : goal.returns-clause-ends
returns-clause-ends c = λ runs i fit within. rows_end runs i (fit_rise runs fit) within
