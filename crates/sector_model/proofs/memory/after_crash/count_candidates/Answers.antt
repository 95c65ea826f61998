use Rattle.std.proofs.Common.{◌≤◌, get_or, refl, arith}
use Rattle.sector_model.proofs.Entries.{put_by_all-most, put_by_all-some}
use Rattle.sector_model.proofs.memory.after_crash.count_candidates.Goals as goal

pub overflow_add-numbers : goal.overflow_add-numbers
overflow_add-numbers c =
    let a = c.in-Some.at in
    let so_far = c.loop-entry.invariant a (omega arith) in
    let most = put_by_all-most c.args.log.now c.args.room c.args.dev a in
    let began : get_or c.args.numbers.now a 0 ≤ 1 = c.requires a (omega arith) in
    let some = put_by_all-some c.args.log.now c.loop-entry.entry-index c.loop-entry.room c.args.dev a c.in-Some.field-0-1.now c.loop-entry-test.true
    (c.in-Some.ensures a) in
    omega arith

pub loop-entry-init : goal.loop-entry-init
loop-entry-init c = λ a within. refl
