use Rattle.sector_model.proofs.Panels.{later_both}
use Rattle.recovery.proofs.MakingLaw.{cleaned_both, made_rests, publish_stop}
use Rattle.std.proofs.Common.{◌≡◌, ℕ, None, Some, arith}
use Rattle.std.proofs.lemmas.Result.{err_from_is_err_and}
use Rattle.superblock.proofs.LeastSectors.{four_least}
use Rattle.recovery.proofs.making.write_set.Goals as goal

no_slot : (slot : ℕ) → ¬ (None ≡ Some slot)
no_slot slot is = cc

pub returns-clause-rests : goal.returns-clause-rests
returns-clause-rests g c = λ honest quiet.
    let table = c.args.table.now in
    let still = c.clear_slots.ensures.honest.0 honest in
    let flushed = c.flush_slots.ensures.honest.0 still in
    let last = c.publish.ensures.honest.0 flushed in
    let later = later_both _ _ _ (later_both _ _ _ c.clear_slots.ensures.panel c.flush_slots.ensures.panel) c.publish.ensures.publishes.later in
    made_rests (g.B.Bank.honest c.flush_slots.new.bank) table (g.B.Bank.panel c.args.bank.now) _ _ _ _ _ c.publish.result
    c.requires.first c.requires.usable quiet later (g.met.B.Bank.true_to c.args.bank.now honest) (g.met.B.Bank.true_to c.publish.new.bank last)
    (cleaned_both table.geometry _ _ _ (c.in_ok-clear_slots.ensures.cleared honest) (c.in_ok-clear_slots.ensures.slots honest)
    (c.in_ok-flush_slots.ensures.cleared still) (c.in_ok-flush_slots.ensures.flushed still)) flushed c.publish.ensures.publishes

pub returns-clause-err : goal.returns-clause-err
returns-clause-err g c = publish_stop _ c.args.table.now _ _ _ _ c.publish.result c.publish.ensures.publishes

pub clear_slots-requires : goal.clear_slots-requires
clear_slots-requires g c = c.requires.usable.room

pub returns-in_err-clear_slots-clause-panel : goal.returns-in_err-clear_slots-clause-panel
returns-in_err-clear_slots-clause-panel g c = c.clear_slots.ensures.panel

pub returns-in_err-clear_slots-clause-honest : goal.returns-in_err-clear_slots-clause-honest
returns-in_err-clear_slots-clause-honest g c = c.clear_slots.ensures.honest

pub returns-in_err-clear_slots-clause-rests : goal.returns-in_err-clear_slots-clause-rests
returns-in_err-clear_slots-clause-rests g c = λ _ _. rw (err_from_is_err_and c.from_residual.result c.from_residual.ensures.1).1 tt

pub returns-in_err-clear_slots-clause-err : goal.returns-in_err-clear_slots-clause-err
returns-in_err-clear_slots-clause-err g c =
    let p = err_from_is_err_and c.from_residual.result c.from_residual.ensures.1 in
    rw (p.1, p.2) c.in_err-clear_slots.ensures.err

pub overflow_add-table : goal.overflow_add-table
overflow_add-table g c = omega (arith, c.args.table.now.geometry.limits.members_most)

pub flush_slots-requires : goal.flush_slots-requires
flush_slots-requires g c = omega (arith, c.requires.usable.room.of_bank, c.clear_slots.ensures.panel.devices)

pub returns-in_err-flush_slots-clause-panel : goal.returns-in_err-flush_slots-clause-panel
returns-in_err-flush_slots-clause-panel g c = later_both _ _ _ c.clear_slots.ensures.panel c.flush_slots.ensures.panel

pub returns-in_err-flush_slots-clause-honest : goal.returns-in_err-flush_slots-clause-honest
returns-in_err-flush_slots-clause-honest g c = (
  λ honest. c.flush_slots.ensures.honest.0 (c.clear_slots.ensures.honest.0 honest),
  λ honest. c.clear_slots.ensures.honest.1 (c.flush_slots.ensures.honest.1 honest),
)

pub returns-in_err-flush_slots-clause-rests : goal.returns-in_err-flush_slots-clause-rests
returns-in_err-flush_slots-clause-rests g c = λ _ _. rw (err_from_is_err_and c.from_residual-in_err-flush_slots.result
    c.from_residual-in_err-flush_slots.ensures.1).1 tt

pub returns-in_err-flush_slots-clause-err : goal.returns-in_err-flush_slots-clause-err
returns-in_err-flush_slots-clause-err g c =
    let p = err_from_is_err_and c.from_residual-in_err-flush_slots.result c.from_residual-in_err-flush_slots.ensures.1 in
    rw (p.1, p.2) c.in_err-flush_slots.ensures.err

pub publish-requires : goal.publish-requires
publish-requires g c = record {
  of_bank = omega (arith, c.requires.usable.room.of_bank, c.clear_slots.ensures.panel.devices, c.flush_slots.ensures.panel.devices);
  last_in_set = λ slot is. absurd (no_slot slot is);
  last_there = λ slot is. absurd (no_slot slot is);
  has_places = λ slot of_set _ _. omega (
    arith,
    four_least c.args.table.now.geometry slot,
    c.requires.usable.room.fit slot of_set,
    c.clear_slots.ensures.panel.sectors slot,
    c.flush_slots.ensures.panel.sectors slot,
  );
}

pub returns-clause-panel : goal.returns-clause-panel
returns-clause-panel g c = later_both _ _ _ (later_both _ _ _ c.clear_slots.ensures.panel c.flush_slots.ensures.panel) c.publish.ensures.publishes.later

pub returns-clause-honest : goal.returns-clause-honest
returns-clause-honest g c = (
  λ honest. c.publish.ensures.honest.0 (c.flush_slots.ensures.honest.0 (c.clear_slots.ensures.honest.0 honest)),
  λ honest. c.clear_slots.ensures.honest.1 (c.flush_slots.ensures.honest.1 (c.publish.ensures.honest.1 honest)),
)
