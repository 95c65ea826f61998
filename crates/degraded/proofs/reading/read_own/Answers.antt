use Rattle.std.proofs.Common.{◌+◌}
use Rattle.layout_map.specs.declared.sizes.TheConstants.{FIRST_ROW}
use Rattle.degraded.specs.LiveView.{slots_of}
use Rattle.degraded.proofs.Members.{one_failed, own_given, read_up, reads_member, row_within, stop_of}
use Rattle.sector_model.proofs.Reading.{read_one}
use Rattle.degraded.proofs.reading.read_own.Goals as goal

pub read_sector-requires-clause-within : goal.read_sector-requires-clause-within
read_sector-requires-clause-within g c = row_within c.args.member c.requires.can c.requires.member c.requires.own

pub returns-clause-reads : goal.returns-clause-reads
returns-clause-reads g c =
    let slots = slots_of c.args.live.now in
    let old = g.B.Bank.history c.args.bank.now in
    let new_panel = g.B.Bank.panel c.read_sector.new.bank in
    reads_member (g.B.Bank.honest c.args.bank.now) slots c.args.member c.args.row (g.B.Bank.panel c.args.bank.now) new_panel
    old (g.B.Bank.history c.read_sector.new.bank) c.read_sector.new.to c.read_sector.result c.read_sector.ensures.panel
    (λ honest. read_one c.args.member _ (c.read_sector.ensures.history honest))
    (λ honest. own_given slots c.args.row c.args.member old c.read_sector.new.to c.read_sector.result c.requires.own
    (read_up c.args.member (FIRST_ROW + c.args.row) old c.read_sector.new.to c.read_sector.result c.read_sector.ensures.panel
    (g.met.B.Bank.true_to c.args.bank.now honest)
    c.read_sector.ensures.up (c.read_sector.ensures.bytes honest)))
    (λ honest. one_failed _ _ new_panel c.args.member c.read_sector.result (c.read_sector.ensures.history honest) c.read_sector.ensures.err)
    (stop_of slots c.args.row c.args.member new_panel c.read_sector.result c.requires.member c.requires.own c.read_sector.ensures.err)
