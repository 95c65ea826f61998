use Rattle.std.proofs.Common.{◌∙◌, refl, sym}
use Rattle.superblock.proofs.PublishCode.{one_sector}
use Rattle.superblock.proofs.publishing.own_sector.Goals as goal

pub returns : goal.returns
returns c = λ sector stands. c.encode.ensures ∙ sym (one_sector _ c.args.table.now c.args.slot sector refl refl stands)
