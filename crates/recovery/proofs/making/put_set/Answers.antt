use Rattle.std.proofs.Common.{inl, subst}
use Rattle.std.proofs.lemmas.Result.{err_from_is_err_and}
use Rattle.sector_model.specs.declared.sector.Stop.{Stop}
use Rattle.sector_model.proofs.Panels.{later_same}
use Rattle.superblock.specs.NextTables.{slots_of}
use Rattle.array_io.proofs.Calls.DeviceSteps.{its_slots_later}
use Rattle.recovery.specs.Clearing.{IsStopIn}
use Rattle.recovery.proofs.making.put_set.Goals as goal

pub returns-in-Ok-clause-rests : goal.returns-in-Ok-clause-rests
returns-in-Ok-clause-rests g c = λ honest quiet. c.in-Ok.ensures.rests honest quiet

pub returns-in_err-check_devices-clause-panel : goal.returns-in_err-check_devices-clause-panel
returns-in_err-check_devices-clause-panel g c = later_same _

pub returns-in_err-check_devices-clause-honest : goal.returns-in_err-check_devices-clause-honest
returns-in_err-check_devices-clause-honest g c = (λ honest. honest, λ honest. honest)

pub returns-in_err-check_devices-clause-its_slots : goal.returns-in_err-check_devices-clause-its_slots
returns-in_err-check_devices-clause-its_slots g c = rw (err_from_is_err_and c.from_residual.result c.from_residual.ensures.1).1 tt

pub returns-in_err-check_devices-clause-rests : goal.returns-in_err-check_devices-clause-rests
returns-in_err-check_devices-clause-rests g c = λ _ _. rw (err_from_is_err_and c.from_residual.result c.from_residual.ensures.1).1 tt

pub returns-in_err-check_devices-clause-cause : goal.returns-in_err-check_devices-clause-cause
returns-in_err-check_devices-clause-cause g c =
    let p = err_from_is_err_and c.from_residual.result c.from_residual.ensures.1 in
    rw (p.1, p.2) c.in_err-check_devices.ensures.cause

pub write_set-requires-clause-first : goal.write_set-requires-clause-first
write_set-requires-clause-first g c = c.requires.first

pub write_set-requires-clause-usable : goal.write_set-requires-clause-usable
write_set-requires-clause-usable g c = c.in_ok-check_devices.ensures.usable

pub returns-in-Ok-clause-panel : goal.returns-in-Ok-clause-panel
returns-in-Ok-clause-panel g c = c.write_set.ensures.panel

pub returns-in-Ok-clause-honest : goal.returns-in-Ok-clause-honest
returns-in-Ok-clause-honest g c = c.write_set.ensures.honest

pub returns-in-Ok-clause-its_slots : goal.returns-in-Ok-clause-its_slots
returns-in-Ok-clause-its_slots g c =
    let room = c.in_ok-check_devices.ensures.usable.room in
    its_slots_later c.args.table.now (g.B.Bank.panel c.args.bank.now) (g.B.Bank.panel c.write_set.new.bank) c.write_set.ensures.panel
    record { of_bank = room.of_bank; fit = λ slot of_set _ _. room.fit slot of_set }

pub returns-in-Ok-clause-cause : goal.returns-in-Ok-clause-cause
returns-in-Ok-clause-cause g c = tt

pub returns-in-Err-Down-clause-panel : goal.returns-in-Err-Down-clause-panel
returns-in-Err-Down-clause-panel g c = c.write_set.ensures.panel

pub returns-in-Err-Down-clause-honest : goal.returns-in-Err-Down-clause-honest
returns-in-Err-Down-clause-honest g c = c.write_set.ensures.honest

pub returns-in-Err-Down-clause-its_slots : goal.returns-in-Err-Down-clause-its_slots
returns-in-Err-Down-clause-its_slots g c = tt

pub returns-in-Err-Down-clause-rests : goal.returns-in-Err-Down-clause-rests
returns-in-Err-Down-clause-rests g c = λ _ _. tt

pub returns-in-Err-Down-clause-cause : goal.returns-in-Err-Down-clause-cause
returns-in-Err-Down-clause-cause g c =
    let stop = subst (λ (s : Stop). IsStopIn (slots_of c.args.table.now) (g.B.Bank.panel c.write_set.new.bank) s) c.in-Err-Down.field-0-is
    c.in-Err-Down.ensures.err in
    record { slot = c.in-Err-Down.field-0-0; of_set = stop.0; unusable = inl stop.1 }

pub returns-in-Err-Worn-clause-panel : goal.returns-in-Err-Worn-clause-panel
returns-in-Err-Worn-clause-panel g c = c.write_set.ensures.panel

pub returns-in-Err-Worn-clause-honest : goal.returns-in-Err-Worn-clause-honest
returns-in-Err-Worn-clause-honest g c = c.write_set.ensures.honest

pub returns-in-Err-Worn-clause-its_slots : goal.returns-in-Err-Worn-clause-its_slots
returns-in-Err-Worn-clause-its_slots g c = tt

pub returns-in-Err-Worn-clause-rests : goal.returns-in-Err-Worn-clause-rests
returns-in-Err-Worn-clause-rests g c = λ _ _. tt

pub returns-in-Err-Worn-clause-cause : goal.returns-in-Err-Worn-clause-cause
returns-in-Err-Worn-clause-cause g c =
    subst (λ (s : Stop). IsStopIn (slots_of c.args.table.now) (g.B.Bank.panel c.write_set.new.bank) s) c.in-Err-Worn.field-0-is c.in-Err-Worn.ensures.err
