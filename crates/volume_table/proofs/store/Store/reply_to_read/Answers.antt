-- A read of more than 32 blocks is not done.
use Rattle.std.proofs.Common.{◌+◌, rules, arith, ◌≡◌, ◌++◌, ◌∙◌, List, length, take, drop, ap}
use Rattle.volume_table.proofs.TooMany.{read_is_too_long}
use Rattle.std.proofs.lemmas.List.{take-append-le, take_all}
use Rattle.volume_table.specs.Volumes.{Block}
use Rattle.volume_table.proofs.store.Store.reply_to_read.Goals as goal
use Rattle.volume_table.specs.declared.event.TheConstants.{MOST_BLOCKS_AT_ONCE}
use Rattle.volume_table.specs.OpenStore.{store_view}

pub returns-then-count-gt-MOST_BLOCKS_AT_ONCE-clause-applies : goal.returns-then-count-gt-MOST_BLOCKS_AT_ONCE-clause-applies
returns-then-count-gt-MOST_BLOCKS_AT_ONCE-clause-applies g c =
    let before = c.args.self.now in
    let after = c.read.new.self in
    rw c.reply_to.ensures (read_is_too_long (g.B.Bank.honest before.array.bank) c.args.name.now c.args.at c.args.count (MOST_BLOCKS_AT_ONCE + 1) c.read.new.to
    (store_view before)
    (store_view after)
    c.read.result (omega arith) (omega arith) c.read.ensures.few c.read.ensures.reads)

pub returns-then-count-gt-MOST_BLOCKS_AT_ONCE-clause-honest : goal.returns-then-count-gt-MOST_BLOCKS_AT_ONCE-clause-honest
returns-then-count-gt-MOST_BLOCKS_AT_ONCE-clause-honest g c = c.read.ensures.honest

-- what is written back where the old blocks were
taken_back : (new old : List Block) → length new ≡ length old → take (length old) (new ++ drop (length new) old) ≡ new
taken_back new old long = rw (← long) (take-append-le (length new) new (drop (length new) old) (omega arith) ∙ take_all (length new) new (omega arith))

pub returns-in-Ok-clause-honest : goal.returns-in-Ok-clause-honest
returns-in-Ok-clause-honest g c = c.read-2.ensures.honest

pub returns-in-Ok-clause-applies : goal.returns-in-Ok-clause-applies
returns-in-Ok-clause-applies g c =
    let long : length c.read-2.new.to ≡ length c.truncate.new.self.items = c.read-2.auto.to ∙ ap length c.as_mut_slice.ensures.value in
    let all : length c.from-blocks.result.items ≡ MOST_BLOCKS_AT_ONCE = search rules in
    let many : length c.as_mut_slice.result.now ≡ c.args.count = omega (
      arith,
      ap length c.as_mut_slice.ensures.value,
      c.truncate.ensures.len,
      all,
      c.if-count-gt-MOST_BLOCKS_AT_ONCE.false,
    ) in
    rw (taken_back c.read-2.new.to c.truncate.new.self.items long) (rw many at c.in-Ok.ensures.reads)

pub returns-in-Err-clause-honest : goal.returns-in-Err-clause-honest
returns-in-Err-clause-honest g c = c.read-2.ensures.honest

pub returns-in-Err-clause-applies : goal.returns-in-Err-clause-applies
returns-in-Err-clause-applies g c =
    let all : length c.from-blocks.result.items ≡ MOST_BLOCKS_AT_ONCE = search rules in
    let many : length c.as_mut_slice.result.now ≡ c.args.count = omega (
      arith,
      ap length c.as_mut_slice.ensures.value,
      c.truncate.ensures.len,
      all,
      c.if-count-gt-MOST_BLOCKS_AT_ONCE.false,
    ) in
    rw many at c.in-Err.ensures.reads
