use Rattle.std.specs.Prelude.{IsTrue, ◌↔◌, List}
use Rattle.std.proofs.Common.{subst}
use Rattle.sector_model.specs.History.{Bytes}
use Rattle.parity.specs.Xor.{IsSoundRow}
use Rattle.array_io.proofs.oracle.one_row.is_row_sound_in.Goals as goal

pub returns : goal.returns
returns c = λ rows are. subst (λ (values : List Bytes). IsTrue c.is_sound.result ↔ IsSoundRow values)
    (c.row_sources_in-sources.ensures.values rows are).whole (c.is_sound.ensures c.args.row)
