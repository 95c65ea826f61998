use Rattle.std.proofs.Common.{◌∙◌, arith}
use Rattle.array_io.proofs.oracle.one_row.value_in.Goals as goal

pub returns : goal.returns
returns c = λ rows are. c.value_of.ensures c.args.row
    ∙ (c.row_sources_in-sources.ensures.values rows are).values c.args.member (omega (arith, are.width, c.requires.member))
