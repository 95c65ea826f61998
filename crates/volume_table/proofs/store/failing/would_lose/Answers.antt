use Rattle.volume_table.proofs.FailedSlot.{beside_out}
use Rattle.volume_table.proofs.store.failing.would_lose.Goals as goal

pub returns : goal.returns
returns c = beside_out c.args.table.now c.args.slot c.is_other_out.result c.is_other_out.ensures.out c.is_other_out.ensures.in_sync
