use Rattle.recovery.specs.Making.{bank_view}
use Rattle.recovery.proofs.MakingAnswer.{made_opened}
use Rattle.std.proofs.Common.{ap, refl, sym, ◌∙◌}
use Rattle.layout_map.specs.declared.geometry.Geometry.{Geometry}
use Rattle.recovery.proofs.making.make.Goals as goal

pub returns-in-Ok-clause-made : goal.returns-in-Ok-clause-made
returns-in-Ok-clause-made g c =
    made_opened (g.B.Bank.honest c.args.bank) c.args.id c.args.geometry (bank_view (g.B.Bank.panel c.args.bank) (g.B.Bank.history c.args.bank))
    (g.B.Bank.panel c.put_set.new.bank) (g.B.Bank.history c.put_set.new.bank) c.first_table-table.result c.first_table-table.ensures
    c.in-Ok.ensures.panel c.in-Ok.ensures.its_slots c.in-Ok.ensures.rests

pub put_set-requires : goal.put_set-requires
put_set-requires g c =
    let first = c.first_table-table.ensures in
    record {
      first = record { of_id = refl; of_geometry = refl; generation = first.generation; in_sync = first.in_sync; incarnations = first.incarnations };
    }

pub invariant_of-result : goal.invariant_of-result
invariant_of-result g c = record { its_slots = c.in-Ok.ensures.its_slots }

pub returns-in-Ok-clause-honest_array : goal.returns-in-Ok-clause-honest_array
returns-in-Ok-clause-honest_array g c = c.in-Ok.ensures.honest

pub returns-in-Err-clause-honest_bank : goal.returns-in-Err-clause-honest_bank
returns-in-Err-clause-honest_bank g c = c.in-Err.ensures.honest
