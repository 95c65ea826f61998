use Rattle.std.proofs.Common.{◌≡◌, true, sym, ◌∙◌}
use Rattle.std.proofs.lemmas.Bool.{true≢false}
use Rattle.extents.proofs.FirstSectors.{begun, first_byte, past_first}
use Rattle.extents.proofs.version.version_of.Goals as goal

pub returns-then-not-is_zero_beyond-clause-exact : goal.returns-then-not-is_zero_beyond-clause-exact
returns-then-not-is_zero_beyond-clause-exact c = λ version one is. absurd (
    let zero : c.is_zero_beyond.result ≡ true = c.is_zero_beyond.ensures.1 (past_first c.args.first.now version is) in
    true≢false (sym zero ∙ c.if-not-is_zero_beyond.true))

pub returns-clause-some : goal.returns-clause-some
returns-clause-some c =
    begun c.args.format c.args.first.now c.version_from.result c.told-first (c.is_zero_beyond.ensures.0 c.if-not-is_zero_beyond.false)
    c.version_from.ensures.some

pub returns-clause-exact : goal.returns-clause-exact
returns-clause-exact c = λ version one is. c.version_from.ensures.exact version (one, first_byte c.args.first.now version is)
