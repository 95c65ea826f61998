use Rattle.std.proofs.Common.{◌+◌, ◌∙◌, ap, Some}
use Rattle.sector_model.specs.History.{History, seen, sector_of}
use Rattle.stripe_journal.proofs.Later.{later_belongs}
use Rattle.stripe_journal.proofs.CountedSeals.{last_of_sectors}
use Rattle.sector_model.proofs.Panels.{later_both}
use Rattle.std.proofs.lemmas.Result.{err_from_is_err_and}
use Rattle.layout_map.specs.declared.sizes.TheConstants.{FIRST_SEAL}
use Rattle.stripe_journal.proofs.reading.last_sealed.Goals as goal

pub returns-clause-last : goal.returns-clause-last
returns-clause-last g c = λ honest.
    let dev = c.args.dev in
    let content = Some (seen (g.B.Bank.history c.args.bank.now) dev) in
    let still = c.read_sector.ensures.honest.0 honest in
    let second = c.in_ok-read_sector-2.ensures.bytes still
    ∙ ap (λ (h : History). sector_of (seen h dev) (FIRST_SEAL + 1)) (c.in_ok-read_sector.ensures.history honest) in
    last_of_sectors c.args.id.now c.args.geometry.now content _ _ c.counted-even.result c.counted-odd.result c.later.result c.told-id
    (c.in_ok-read_sector.ensures.bytes honest) second
    c.counted-even.ensures.some c.counted-even.ensures.none c.counted-odd.ensures.some c.counted-odd.ensures.none c.later.ensures

pub returns-clause-belongs : goal.returns-clause-belongs
returns-clause-belongs g c =
    later_belongs c.args.id.now c.args.geometry.now _ _ c.counted-even.result c.counted-odd.result c.later.result c.counted-even.ensures.some
    c.counted-odd.ensures.some c.later.ensures

pub returns-in_err-read_sector-clause-panel : goal.returns-in_err-read_sector-clause-panel
returns-in_err-read_sector-clause-panel g c = c.read_sector.ensures.panel

pub returns-in_err-read_sector-clause-honest : goal.returns-in_err-read_sector-clause-honest
returns-in_err-read_sector-clause-honest g c = c.read_sector.ensures.honest

pub returns-in_err-read_sector-clause-last : goal.returns-in_err-read_sector-clause-last
returns-in_err-read_sector-clause-last g c = λ honest. rw (err_from_is_err_and c.from_residual.result c.from_residual.ensures.1).1 tt

pub returns-in_err-read_sector-2-clause-last : goal.returns-in_err-read_sector-2-clause-last
returns-in_err-read_sector-2-clause-last g c = λ honest.
    rw (err_from_is_err_and c.from_residual-in_err-read_sector-2.result c.from_residual-in_err-read_sector-2.ensures.1).1 tt

pub returns-in_err-read_sector-clause-belongs : goal.returns-in_err-read_sector-clause-belongs
returns-in_err-read_sector-clause-belongs g c = rw (err_from_is_err_and c.from_residual.result c.from_residual.ensures.1).1 tt

pub returns-in_err-read_sector-2-clause-belongs : goal.returns-in_err-read_sector-2-clause-belongs
returns-in_err-read_sector-2-clause-belongs g c = rw (err_from_is_err_and c.from_residual-in_err-read_sector-2.result
    c.from_residual-in_err-read_sector-2.ensures.1).1 tt

pub returns-in_err-read_sector-clause-err : goal.returns-in_err-read_sector-clause-err
returns-in_err-read_sector-clause-err g c =
    let p = err_from_is_err_and c.from_residual.result c.from_residual.ensures.1 in
    rw (p.1, p.2) c.in_err-read_sector.ensures.err

pub returns-in_err-read_sector-2-clause-panel : goal.returns-in_err-read_sector-2-clause-panel
returns-in_err-read_sector-2-clause-panel g c = later_both _ _ _ c.read_sector.ensures.panel c.read_sector-2.ensures.panel

pub returns-in_err-read_sector-2-clause-honest : goal.returns-in_err-read_sector-2-clause-honest
returns-in_err-read_sector-2-clause-honest g c = (
  λ honest. c.read_sector-2.ensures.honest.0 (c.read_sector.ensures.honest.0 honest),
  λ honest. c.read_sector.ensures.honest.1 (c.read_sector-2.ensures.honest.1 honest),
)

pub returns-in_err-read_sector-2-clause-err : goal.returns-in_err-read_sector-2-clause-err
returns-in_err-read_sector-2-clause-err g c =
    let p = err_from_is_err_and c.from_residual-in_err-read_sector-2.result c.from_residual-in_err-read_sector-2.ensures.1 in
    rw (p.1, p.2) c.in_err-read_sector-2.ensures.err

pub returns-clause-panel : goal.returns-clause-panel
returns-clause-panel g c = later_both _ _ _ c.read_sector.ensures.panel c.read_sector-2.ensures.panel

pub returns-clause-honest : goal.returns-clause-honest
returns-clause-honest g c = (
  λ honest. c.read_sector-2.ensures.honest.0 (c.read_sector.ensures.honest.0 honest),
  λ honest. c.read_sector.ensures.honest.1 (c.read_sector-2.ensures.honest.1 honest),
)
