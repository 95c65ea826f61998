use Rattle.stripe_journal.proofs.FormTests.{masks_by, no_masks_by}
use Rattle.stripe_journal.proofs.codec.are_masks.Goals as goal

pub returns-then-hold_two : goal.returns-then-hold_two
returns-then-hold_two c = masks_by c.args.masks.now c.args.count c.hold_two.result c.are_zero.result c.told-masks c.fits-masks c.requires c.hold_two.ensures
    c.if-hold_two.true c.are_zero.ensures

pub returns-else-hold_two : goal.returns-else-hold_two
returns-else-hold_two c = no_masks_by c.args.masks.now c.args.count c.hold_two.result c.requires c.hold_two.ensures c.if-hold_two.false
