use Rattle.std.proofs.Common.{ap, ◌∙◌}
use Rattle.set_commands.proofs.FreshLemmas.{fresh_slots, zeros}
use Rattle.set_commands.proofs.serving.fresh.fresh_image.Goals as goal

-- src/serving/fresh.rt:91:1
pub returns-clause-devices : goal.returns-clause-devices
returns-clause-devices c = fresh_slots c.in_ok-zero_device.field-0 c.in_ok-zero_device-2.field-0 c.in_ok-zero_device-3.field-0 c.in_ok-zero_device-4.field-0
    c.in_ok-zero_device-5.field-0
    c.in_ok-slots.slots.items c.in_ok-slots.ensures.items
    c.in_ok-zero_device.ensures c.in_ok-zero_device-2.ensures c.in_ok-zero_device-3.ensures
    (c.in_ok-zero_device-4.ensures ∙ ap zeros c.journal_sectors-journal.ensures) (c.in_ok-zero_device-5.ensures ∙ ap zeros c.journal_sectors-journal.ensures)
