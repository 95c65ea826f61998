use Rattle.recovery.specs.Making.{bank_view}
use Rattle.raidtool.proofs.MakeEnds.{making_refusal}
use Rattle.raidtool.proofs.make.on_bank.make_on.Goals as goal

-- src/make/on_bank.rt:16:1
pub returns-in-Err-clause-err : goal.returns-in-Err-clause-err
returns-in-Err-clause-err g c = making_refusal (g.B.Bank.honest c.args.bank) c.args.id c.args.geometry
    (bank_view (g.B.Bank.panel c.args.bank) (g.B.Bank.history c.args.bank))
    (g.B.Bank.panel c.in-Err.returned.bank) (g.B.Bank.history c.in-Err.returned.bank) c.in-Err.returned.refusal c.in-Err.ensures.refused

pub returns-in-Err-clause-cause : goal.returns-in-Err-clause-cause
returns-in-Err-clause-cause g c = record {
  back = bank_view (g.B.Bank.panel c.in-Err.returned.bank) (g.B.Bank.history c.in-Err.returned.bank);
  makes = c.in-Err.ensures.refused;
}
