use Rattle.entry_runs.proofs.ByRun.{held_bits, rank_bits, rank_found}
use Rattle.entry_runs.proofs.Lookups.{fit_rise}
use Rattle.entry_runs.proofs.Ranks.{one_rank, rank_filled, rank_rises, rank_within}
use Rattle.entry_runs.proofs.law.body_law.Goals as goal

pub returns-clause-within : goal.returns-clause-within
returns-clause-within c = λ runs row member fit is. rank_within runs row member (λ i within. (fit.each i within).mask_most) is

pub returns-clause-rising : goal.returns-clause-rising
returns-clause-rising c = λ runs row member row' member' fit is is' before.
    rank_rises runs row member row' member' (fit_rise runs fit) (λ i within. (fit.each i within).mask_most) is is' before

pub returns-clause-apart : goal.returns-clause-apart
returns-clause-apart c = λ runs row member row' member' fit is is' same.
    one_rank runs row member row' member' (fit_rise runs fit) (λ i within. (fit.each i within).mask_most) is is' same

pub returns-clause-filled : goal.returns-clause-filled
returns-clause-filled c = λ runs k fit within. rank_filled runs k (fit_rise runs fit) (λ i within. (fit.each i within).mask_most) within

pub returns-clause-stand : goal.returns-clause-stand
returns-clause-stand c = λ runs i row member fit within here. rank_found runs i row member (fit_rise runs fit) within here

pub returns-clause-bits : goal.returns-clause-bits
returns-clause-bits c = held_bits

pub returns-clause-masks : goal.returns-clause-masks
returns-clause-masks c = λ runs i member fit within. rank_bits runs i member (fit_rise runs fit) within
