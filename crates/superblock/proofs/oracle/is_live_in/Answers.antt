use Rattle.std.specs.Prelude.{IsTrue}
use Rattle.std.proofs.Common.{refl}
use Rattle.sector_model.specs.Memory.{sectors_in}
use Rattle.superblock.proofs.Oracles.{live_iff}
use Rattle.std.proofs.lemmas.Bool.{false≢true}
use Rattle.superblock.proofs.oracle.is_live_in.Goals as goal

pub returns : goal.returns
returns c = live_iff c.args.devices c.args.table.now c.args.slot (sectors_in c.args.content.now) (IsTrue c.is_of_incarnation.result)
    (c.if-not-is_long_enough.ensures.0 refl) (λ missing. let called = c.if-is_missing.ensures.1 missing in absurd cc) c.is_of_incarnation.ensures

pub returns-then-not-is_long_enough : goal.returns-then-not-is_long_enough
returns-then-not-is_long_enough c = (λ no. absurd (false≢true no), λ live. c.if-not-is_long_enough.ensures.1 live.long_enough)

pub returns-then-is_missing : goal.returns-then-is_missing
returns-then-is_missing c = (λ no. absurd (false≢true no), λ live. absurd (live.not_missing (c.if-is_missing.ensures.0 refl)))
