use Rattle.std.proofs.Common.{◌∙◌, ap}
use Rattle.std.specs.Prelude.{Err}
use Rattle.std.proofs.lemmas.Result.{err_from_is_err_and}
use Rattle.superblock.proofs.PublishCode.{sector_for, sector_stands}
use Rattle.recovery.proofs.StaleSlots.{brings_up, brings_up_short, can_later, in_sync_there, rebuilding_there}
use Rattle.recovery.proofs.stale_superblocks.bring_up.Goals as goal

pub bring_up_in-requires-2-clause-can : goal.bring_up_in-requires-2-clause-can
bring_up_in-requires-2-clause-can g c =
    let table = c.args.table.now in
    can_later (g.B.Bank.panel c.args.bank.now) (g.B.Bank.panel c.bring_up_in.new.bank) table
    (c.bring_up_in.ensures.brings (sector_for table) (sector_stands table)).later c.requires

pub returns-in_err-bring_up_in-clause-brings : goal.returns-in_err-bring_up_in-clause-brings
returns-in_err-bring_up_in-clause-brings g c =
    let p = err_from_is_err_and c.from_residual.result c.from_residual.ensures.1 in
    brings_up_short c.args.table.now (g.B.Bank.panel c.args.bank.now) (g.B.Bank.panel c.bring_up_in.new.bank) c.from_residual.result
    c.in_err-bring_up_in.field-0.0
    (p.1 ∙ ap (λ s. Err s) p.2) c.in_err-bring_up_in.ensures.brings

pub returns-clause-brings : goal.returns-clause-brings
returns-clause-brings g c =
    brings_up c.args.table.now (g.B.Bank.panel c.args.bank.now) (g.B.Bank.panel c.bring_up_in.new.bank) (g.B.Bank.panel c.bring_up_in-2.new.bank)
    c.bring_up_in-2.result
    c.bring_up_in.ensures.honest.0 c.in_ok-bring_up_in.ensures.brings c.bring_up_in-2.ensures.brings

pub bring_up_in-requires-clause-can : goal.bring_up_in-requires-clause-can
bring_up_in-requires-clause-can g c = c.requires

pub bring_up_in-requires-clause-there : goal.bring_up_in-requires-clause-there
bring_up_in-requires-clause-there g c = in_sync_there

pub bring_up_in-requires-2-clause-there : goal.bring_up_in-requires-2-clause-there
bring_up_in-requires-2-clause-there g c = rebuilding_there

pub returns-in_err-bring_up_in-clause-honest : goal.returns-in_err-bring_up_in-clause-honest
returns-in_err-bring_up_in-clause-honest g c = c.bring_up_in.ensures.honest

pub returns-clause-honest : goal.returns-clause-honest
returns-clause-honest g c = (
  λ honest. c.bring_up_in-2.ensures.honest.0 (c.bring_up_in.ensures.honest.0 honest),
  λ honest. c.bring_up_in.ensures.honest.1 (c.bring_up_in-2.ensures.honest.1 honest),
)
