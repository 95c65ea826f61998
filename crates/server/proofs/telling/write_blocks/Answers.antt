use Rattle.std.proofs.Common.{List, ℕ, ◌∷◌, ◌++◌, length, subst}
use Rattle.std.specs.Prelude.{codes, decimal}
use Rattle.report.specs.Written.{WritesText}
use Rattle.server.proofs.telling.write_blocks.Goals as goal

pub returns : goal.returns
returns g c =
    subst (λ (bytes : List ℕ). WritesText (g.W.Write.contents c.args.writer.now) (g.W.Write.contents c.write_counted.new.writer)
    (codes "blocks " ++ decimal (length c.args.blocks.now) ++ 10 ∷ bytes) c.write_counted.result) c.as_flattened.ensures.value c.write_counted.ensures
