use Rattle.std.proofs.Common.{◌∙◌, sym}
use Rattle.superblock.specs.Tables.{state_at}
use Rattle.superblock.proofs.PublishCode.{first_if, first_off}
use Rattle.superblock.proofs.publishing.is_first.Goals as goal

pub returns-then-eq : goal.returns-then-eq
returns-then-eq c =
    first_if (state_at c.args.new.now.states c.args.slot) c.args.last c.args.slot c.ne.result (sym c.eq.ensures ∙ c.if-eq.true) c.ne.ensures

pub returns-else-eq : goal.returns-else-eq
returns-else-eq c =
    first_off (state_at c.args.new.now.states c.args.slot) c.args.last c.args.slot c.eq.result (sym c.eq.ensures ∙ c.if-eq.false) c.if-eq.false
