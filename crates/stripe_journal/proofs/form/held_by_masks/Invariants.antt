-- The masks so far are counted.
use Rattle.std.proofs.Common.{◌≡◌, ◌+◌, ◌*◌, ◌≤◌, drop}
use Rattle.stripe_journal.specs.Forms.{held_by_masks}
use Rattle.stripe_journal.proofs.form.held_by_masks.Given as goal

abbrev pub invariant-loop-mask : goal.invariant-loop-mask
invariant-loop-mask l = record {
  sum : held_by_masks l.members l.masks ≡ l.count + held_by_masks l.members (drop l.mask-index l.masks);
  most : l.count ≤ l.mask-index * l.members;
}
