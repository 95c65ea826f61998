-- The best superblock of the slots so far, and their own incarnations and generations.
use Rattle.recovery.specs.Making.{bank_view}
use Rattle.recovery.proofs.Surveyed.{SurveyedTo}
use Rattle.recovery.proofs.survey.survey_bank.Given as goal

abbrev pub invariant-loop-slot : goal.invariant-loop-slot
invariant-loop-slot g l = record {
  honest : g.B.Bank.honest l.initial.bank → g.B.Bank.honest l.bank;
  still : g.B.Bank.honest l.bank → g.B.Bank.honest l.initial.bank;
  surveyed : SurveyedTo (g.B.Bank.honest l.initial.bank) l.id (g.B.Bank.panel l.initial.bank).devices l.slot
      (bank_view (g.B.Bank.panel l.initial.bank) (g.B.Bank.history l.initial.bank)) (bank_view (g.B.Bank.panel l.bank) (g.B.Bank.history l.bank)) l.best l.own
      l.generations;
}
