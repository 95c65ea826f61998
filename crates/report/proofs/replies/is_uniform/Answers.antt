use Rattle.report.proofs.UniformBlocks.{uniform}
use Rattle.report.proofs.replies.is_uniform.Goals as goal

pub returns : goal.returns
returns c = uniform 511 c.args.block.now c.eq.result c.told-block c.eq.ensures
