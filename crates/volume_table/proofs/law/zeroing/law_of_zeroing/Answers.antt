use Rattle.volume_table.proofs.ZeroedLaw.{leaves_zeros}
use Rattle.volume_table.proofs.ZeroedSessions.{zero_is_done, zero_is_interrupted}
use Rattle.volume_table.proofs.law.zeroing.law_of_zeroing.Goals as goal

pub returns-clause-leaves : goal.returns-clause-leaves
returns-clause-leaves c = leaves_zeros

pub returns-clause-done : goal.returns-clause-done
returns-clause-done c = λ name at count old new volumes settled zeroed. ∣ zero_is_done name at count old new volumes settled zeroed ∣₁

pub returns-clause-interrupted : goal.returns-clause-interrupted
returns-clause-interrupted c = λ name at count first old events replies new answer volumes left does settled true_to some zeroes crash.
    ∣ zero_is_interrupted name at count first old events replies new volumes left does settled true_to some crash answer zeroes ∣₁
