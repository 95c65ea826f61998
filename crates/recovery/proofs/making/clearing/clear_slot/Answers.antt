use Rattle.std.proofs.Common.{◌+◌, arith}
use Rattle.recovery.proofs.MakingClearing.{cleared_then, journal_cleared, member_cleared, stop_in}
use Rattle.superblock.proofs.LeastSectors.{four_least, member_least}
use Rattle.std.proofs.lemmas.Result.{IfErr-weaker, err_from_is_err_and}
use Rattle.sector_model.proofs.Panels.{later_both}
use Rattle.layout_map.specs.declared.sizes.TheConstants.{FIRST_ROW}
use Rattle.layout_map.proofs.Places.{rows_most}
use Rattle.recovery.proofs.making.clearing.clear_slot.Goals as goal

pub returns-in_ok-clear_sectors-clause-cleared : goal.returns-in_ok-clear_sectors-clause-cleared
returns-in_ok-clear_sectors-clause-cleared g c = λ honest.
    let slots = c.args.geometry.now.members + 2 in
    let second = c.clear_sectors-then-slot-geometry in
    cleared_then slots second.result _ _ _ (c.in_ok-clear_sectors.ensures.cleared honest slots c.requires.of_set)
    (second.ensures.cleared (c.clear_sectors.ensures.honest.0 honest) slots c.requires.of_set)

pub returns-in_ok-clear_sectors-clause-slot : goal.returns-in_ok-clear_sectors-clause-slot
returns-in_ok-clear_sectors-clause-slot g c = λ honest.
    let slots = c.args.geometry.now.members + 2 in
    let second = c.clear_sectors-then-slot-geometry in
    let mid = c.clear_sectors.ensures.honest.0 honest in
    member_cleared slots c.args.geometry.now c.args.slot (FIRST_ROW + c.rows.result) second.result _ _ c.if-slot-geometry.true (omega (arith, c.rows.ensures))
    (c.in_ok-clear_sectors.ensures.zeros honest) (second.ensures.cleared mid slots c.requires.of_set) (second.ensures.zeros mid)

pub clear_sectors-requires-clause-device : goal.clear_sectors-requires-clause-device
clear_sectors-requires-clause-device g c = omega (arith, c.requires.of_set, c.requires.room.of_bank)

pub clear_sectors-requires-clause-within : goal.clear_sectors-requires-clause-within
clear_sectors-requires-clause-within g c =
    omega (arith, four_least c.args.geometry.now c.args.slot, c.requires.room.fit c.args.slot c.requires.of_set)

pub returns-in_err-clear_sectors-clause-panel : goal.returns-in_err-clear_sectors-clause-panel
returns-in_err-clear_sectors-clause-panel g c = c.clear_sectors.ensures.panel

pub returns-in_err-clear_sectors-clause-honest : goal.returns-in_err-clear_sectors-clause-honest
returns-in_err-clear_sectors-clause-honest g c = c.clear_sectors.ensures.honest

pub returns-in_err-clear_sectors-clause-cleared : goal.returns-in_err-clear_sectors-clause-cleared
returns-in_err-clear_sectors-clause-cleared g c = λ _. rw (err_from_is_err_and c.from_residual.result c.from_residual.ensures.1).1 tt

pub returns-in_err-clear_sectors-clause-slot : goal.returns-in_err-clear_sectors-clause-slot
returns-in_err-clear_sectors-clause-slot g c = λ _. rw (err_from_is_err_and c.from_residual.result c.from_residual.ensures.1).1 tt

pub returns-in_err-clear_sectors-clause-err : goal.returns-in_err-clear_sectors-clause-err
returns-in_err-clear_sectors-clause-err g c =
    let p = err_from_is_err_and c.from_residual.result c.from_residual.ensures.1 in
    rw (p.1, p.2) (stop_in (c.args.geometry.now.members + 2) c.args.slot (g.B.Bank.panel c.clear_sectors.new.bank) _ c.requires.of_set
    c.in_err-clear_sectors.ensures.err)

pub clear_sectors-requires-then-slot-geometry-clause-device : goal.clear_sectors-requires-then-slot-geometry-clause-device
clear_sectors-requires-then-slot-geometry-clause-device g c =
    omega (arith, c.requires.of_set, c.requires.room.of_bank, c.clear_sectors.ensures.panel.devices)

pub clear_sectors-requires-then-slot-geometry-clause-within : goal.clear_sectors-requires-then-slot-geometry-clause-within
clear_sectors-requires-then-slot-geometry-clause-within g c =
    omega (
      arith,
      member_least c.args.geometry.now c.args.slot c.if-slot-geometry.true,
      c.rows.ensures,
      c.requires.room.fit c.args.slot c.requires.of_set,
      c.clear_sectors.ensures.panel.sectors c.args.slot,
    )

pub clear_sectors-requires-else-slot-geometry-clause-device : goal.clear_sectors-requires-else-slot-geometry-clause-device
clear_sectors-requires-else-slot-geometry-clause-device g c = omega (arith, c.requires.of_set, c.requires.room.of_bank)

pub clear_sectors-requires-else-slot-geometry-clause-within : goal.clear_sectors-requires-else-slot-geometry-clause-within
clear_sectors-requires-else-slot-geometry-clause-within g c =
    omega (arith, four_least c.args.geometry.now c.args.slot, c.requires.room.fit c.args.slot c.requires.of_set)

pub returns-in_ok-clear_sectors-clause-panel : goal.returns-in_ok-clear_sectors-clause-panel
returns-in_ok-clear_sectors-clause-panel g c = later_both _ _ _ c.clear_sectors.ensures.panel c.clear_sectors-then-slot-geometry.ensures.panel

pub returns-in_ok-clear_sectors-clause-honest : goal.returns-in_ok-clear_sectors-clause-honest
returns-in_ok-clear_sectors-clause-honest g c = (
  λ honest. c.clear_sectors-then-slot-geometry.ensures.honest.0 (c.clear_sectors.ensures.honest.0 honest),
  λ honest. c.clear_sectors.ensures.honest.1 (c.clear_sectors-then-slot-geometry.ensures.honest.1 honest),
)

pub returns-in_ok-clear_sectors-clause-err : goal.returns-in_ok-clear_sectors-clause-err
returns-in_ok-clear_sectors-clause-err g c =
    let second = c.clear_sectors-then-slot-geometry in
    IfErr-weaker second.result _ _ (λ stop why. stop_in (c.args.geometry.now.members + 2) c.args.slot (g.B.Bank.panel second.new.bank) stop c.requires.of_set
    why) second.ensures.err

pub returns-else-slot-geometry-clause-panel : goal.returns-else-slot-geometry-clause-panel
returns-else-slot-geometry-clause-panel g c = c.clear_sectors-else-slot-geometry.ensures.panel

pub returns-else-slot-geometry-clause-honest : goal.returns-else-slot-geometry-clause-honest
returns-else-slot-geometry-clause-honest g c = c.clear_sectors-else-slot-geometry.ensures.honest

pub returns-else-slot-geometry-clause-err : goal.returns-else-slot-geometry-clause-err
returns-else-slot-geometry-clause-err g c =
    let only = c.clear_sectors-else-slot-geometry in
    IfErr-weaker only.result _ _ (λ stop why. stop_in (c.args.geometry.now.members + 2) c.args.slot (g.B.Bank.panel only.new.bank) stop c.requires.of_set why)
    only.ensures.err

pub returns-else-slot-geometry-clause-cleared : goal.returns-else-slot-geometry-clause-cleared
returns-else-slot-geometry-clause-cleared g c = λ honest. c.clear_sectors-else-slot-geometry.ensures.cleared honest (c.args.geometry.now.members + 2)
    c.requires.of_set

pub overflow_cast-end : goal.overflow_cast-end
overflow_cast-end g c = omega (arith, c.rows.ensures, rows_most c.args.geometry.now.limits)

pub overflow_add-end : goal.overflow_add-end
overflow_add-end g c = omega (arith, c.rows.ensures, rows_most c.args.geometry.now.limits)

pub returns-else-slot-geometry-clause-slot : goal.returns-else-slot-geometry-clause-slot
returns-else-slot-geometry-clause-slot g c = λ honest.
    let only = c.clear_sectors-else-slot-geometry in
    journal_cleared c.args.geometry.now c.args.slot only.result _ c.if-slot-geometry.false (only.ensures.zeros honest)
