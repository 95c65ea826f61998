use Rattle.std.proofs.Common.{vec_len}
use Rattle.sector_model.specs.Memory.{slots_of}
use Rattle.superblock.specs.Counted.{IsLive}
use Rattle.array_io.specs.Believed.Holds.{IsTrusted}
use Rattle.array_io.proofs.Calls.Trusting.{neither}
use Rattle.array_io.proofs.oracle.trusted.is_trusted_in.Goals as goal

pub returns-then-not-is_live_at : goal.returns-then-not-is_live_at
returns-then-not-is_live_at c =
    neither (IsLive (vec_len c.args.image.now.slots) c.args.table.now c.args.member (slots_of c.args.image.now.slots.items c.args.member))
    (IsTrusted (vec_len c.args.image.now.slots) c.args.table.now (slots_of c.args.image.now.slots.items) c.args.row c.args.member)
    c.is_live_at.result c.is_live_at.ensures c.if-not-is_live_at.true (λ trusted. trusted.live)

pub returns : goal.returns
returns c = (
  λ rebuilt. record { live = c.is_live_at.ensures.0 c.if-not-is_live_at.false; rebuilt = c.is_rebuilt_in.ensures.0 rebuilt },
  λ trusted. c.is_rebuilt_in.ensures.1 trusted.rebuilt,
)
