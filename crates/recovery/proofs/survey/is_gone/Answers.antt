use Rattle.std.proofs.Common.{sym, ◌∙◌}
use Rattle.std.proofs.lemmas.Bool.{false≢true}
use Rattle.recovery.proofs.survey.is_gone.Goals as goal

pub returns-then-is_in-clause-gone : goal.returns-then-is_in-clause-gone
returns-then-is_in-clause-gone g c = λ gone. absurd (false≢true gone)

pub returns-then-is_in-clause-there : goal.returns-then-is_in-clause-there
returns-then-is_in-clause-there g c = λ _ counted. absurd (counted (c.is_in.ensures.0 c.if-is_in.true))

pub returns-clause-gone : goal.returns-clause-gone
returns-clause-gone g c = λ dead. record {
  of_set = c.requires.of_set;
  counted = λ missing. false≢true (sym c.if-is_in.false ∙ c.is_in.ensures.1 missing);
  dead = c.is_dead.ensures.dead dead;
}

pub returns-clause-there : goal.returns-clause-there
returns-clause-there g c = c.is_dead.ensures.there
