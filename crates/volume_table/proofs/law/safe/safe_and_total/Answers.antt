use Rattle.volume_table.proofs.SafeEvents.{ended_stores_answer_always, events_are_refused_for_cause, open_stores_go_on, opening_is_refused_for_cause}
use Rattle.volume_table.proofs.SafeEvents.{refusals_leave_volumes, runs_are_refused_for_cause}
use Rattle.volume_table.proofs.law.safe.safe_and_total.Goals as goal

pub returns-clause-events : goal.returns-clause-events
returns-clause-events g c = events_are_refused_for_cause (g.B.Bank.honest c.args.bank.now)

pub returns-clause-runs : goal.returns-clause-runs
returns-clause-runs g c = runs_are_refused_for_cause (g.B.Bank.honest c.args.bank.now)

pub returns-clause-opening : goal.returns-clause-opening
returns-clause-opening g c = opening_is_refused_for_cause (g.B.Bank.honest c.args.bank.now)

pub returns-clause-volumes : goal.returns-clause-volumes
returns-clause-volumes g c = refusals_leave_volumes

pub returns-clause-ended : goal.returns-clause-ended
returns-clause-ended g c = ended_stores_answer_always (g.B.Bank.honest c.args.bank.now)

pub returns-clause-going : goal.returns-clause-going
returns-clause-going g c = open_stores_go_on (g.B.Bank.honest c.args.bank.now)
