use Rattle.report.proofs.NumberLemmas.{SpellsSoFar}
use Rattle.report.proofs.parse.number.number.Given as goal

abbrev pub invariant-digits : goal.invariant-digits
invariant-digits l = SpellsSoFar l.field l.digit-index l.value
