use Rattle.std.specs.Prelude.{vec_len}
use Rattle.std.proofs.Common.{sym, ◌∙◌}
use Rattle.sector_model.specs.Memory.{slots_of}
use Rattle.array_io.proofs.Oracles.EvaluatedRows.{entry_sector, no_entry_sector}
use Rattle.array_io.proofs.oracle.one_row.entry_sector_in.Goals as goal

pub returns-in-Some-place_by_seal : goal.returns-in-Some-place_by_seal
returns-in-Some-place_by_seal c =
    entry_sector (vec_len c.args.image.now.slots) c.args.table.now (slots_of c.args.image.now.slots.items) c.args.last.now c.in-Some.last c.args.row
    c.args.member
    c.in-Some-place_by_seal.at c.sector_at.result c.in-Some.is c.requires.last c.requires.member c.in-Some-place_by_seal.ensures c.sector_at.ensures

pub returns-in-None-place_by_seal : goal.returns-in-None-place_by_seal
returns-in-None-place_by_seal c =
    c.zero_sector_in.ensures ∙ sym (no_entry_sector c.args.table.now (slots_of c.args.image.now.slots.items) c.args.last.now c.in-Some.last c.args.row
    c.args.member
    c.in-Some.is (sym c.in-None-place_by_seal.ensures))
