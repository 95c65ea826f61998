use Rattle.std.proofs.Common.{◌≡◌, ◌≢◌, sym, ◌∙◌}
use Rattle.superblock.specs.declared.state.State.TheVariants.{Missing}
use Rattle.superblock.specs.Tables.{state_at}
use Rattle.array_io.specs.Steps.Bringing.{CountsOn}
use Rattle.array_io.proofs.Images.Codecs.{spellings}
use Rattle.array_io.proofs.Calls.DeviceSteps.{its_slots_later}
use Rattle.array_io.proofs.Calls.Trusting.{is_missing, not_missing}
use Rattle.array_io.proofs.Commits.PuttingSteps.{part_passed, part_put}
use Rattle.array_io.proofs.array.put.part_or_fail_slot.Goals as goal

pub returns-then-eq-clause-step : goal.returns-then-eq-clause-step
returns-then-eq-clause-step g c = λ number.
    let missing : state_at c.args.table.now.states c.args.slot ≡ Missing =
    is_missing (state_at c.args.table.now.states c.args.slot) (sym c.eq.ensures ∙ c.if-eq.true) in
    part_passed spellings (g.B.Bank.honest c.args.bank.now) c.args.slot number c.args.table.now c.args.seal.now c.args.entry.now
    (g.B.Bank.panel c.args.bank.now) (g.B.Bank.history c.args.bank.now)
    c.args.part c.requires.fits (λ counted. counted.there missing)

pub done_or_fail_slot-requires-clause-its_slots : goal.done_or_fail_slot-requires-clause-its_slots
done_or_fail_slot-requires-clause-its_slots g c = its_slots_later c.args.table.now (g.B.Bank.panel c.args.bank.now) (g.B.Bank.panel c.put_part-done.new.bank)
    c.put_part-done.ensures.panel c.requires.its_slots

pub returns-clause-step : goal.returns-clause-step
returns-clause-step g c = λ number.
    let there : state_at c.args.table.now.states c.args.slot ≢ Missing =
    not_missing (state_at c.args.table.now.states c.args.slot) (sym c.eq.ensures ∙ c.if-eq.false) in
    let counted : CountsOn c.args.table.now c.args.slot = record { of_set = c.requires.of_set; there = there } in
    part_put spellings (g.B.Bank.honest c.args.bank.now) c.args.slot number c.args.table.now c.args.seal.now c.args.entry.now (g.B.Bank.panel c.args.bank.now)
    (g.B.Bank.history c.args.bank.now)
    (g.B.Bank.panel c.put_part-done.new.bank) (g.B.Bank.panel c.done_or_fail_slot.new.bank) c.done_or_fail_slot.new.table
    (g.B.Bank.history c.put_part-done.new.bank) (g.B.Bank.history c.done_or_fail_slot.new.bank)
    c.put_part-done.result c.done_or_fail_slot.result (g.B.Bank.honest c.put_part-done.new.bank) (λ fair. c.put_part-done.ensures.honest.0 fair)
    (λ fair. g.met.B.Bank.true_to _ fair) (λ fair. g.met.B.Bank.true_to _ (c.put_part-done.ensures.honest.0 fair))
    (λ fair. g.met.B.Bank.true_to _ (c.done_or_fail_slot.ensures.honest.0 (c.put_part-done.ensures.honest.0 fair)))
    c.requires.its_slots counted c.done_or_fail_slot.ensures.ends c.args.part c.requires.fits c.put_part-done.ensures.puts
