use Rattle.std.proofs.Common.{◌≡◌, ℕ, ◌-◌, ◌≤◌, Bool, true, false, cond, not, ◌∙◌, sym, ap, arith}
use Rattle.superblock.specs.Tables.{state_at}
use Rattle.stripe_journal.specs.Entries.{row_mask}
use Rattle.stripe_journal.specs.Forms.{has_bit}
use Rattle.array_io.specs.Believed.Settled.{trusts}
use Rattle.array_io.specs.Steps.FillingRows.{reads_below, reads_of}
use Rattle.array_io.proofs.Reading.CountedReads.{counts_test, is_held, reads_few, reads_on, reads_over}
use Rattle.array_io.proofs.forming.prefers_read_modify_write.Goals.{then-is_some, else-is_some}
use Rattle.array_io.proofs.forming.prefers_read_modify_write.Goals as goal

pub loop-member-preserved : goal.loop-member-preserved
loop-member-preserved c =
    let now = c.loop-member in
    let table = c.args.table.now in
    let member = now.member in
    let row = c.args.row in
    let live = c.live_of-live in
    let mask = row_mask c.args.entry.now c.args.i in
    let held = has_bit mask in
    let others = λ (m : ℕ). not (has_bit mask m) in
    let reads = c.reads_of-reads.result in
    let few : reads ≤ 8 = reads_few _ live.result.members reads live.result.most c.reads_of-reads.ensures in
    let cost : reads ≡ reads_of table row member =
    c.reads_of-reads.ensures ∙ ap (λ (b : Bool). cond b 1 (live.result.members - 1)) (live.ensures.reads row member c.loop-member-test.true)
    ∙ ap (λ (n : ℕ). cond (trusts (state_at table.states member) row table.position) 1 (n - 1)) live.ensures.members in
    let bit : c.is_some.result ≡ held member = is_held _ c.member.result (has_bit c.view-view.result.mask member) c.is_some.result c.member.ensures.some
    c.member.ensures.none c.is_some.ensures
    ∙ ap (λ (m : ℕ). has_bit m member) c.view-view.ensures.mask in
    elim c.if-is_some.branch [
      | then-is_some w ↦
          let is : held member ≡ true = sym bit ∙ w.if-is_some.true in
          record {
            held = w.held-is ∙ reads_on table row held member now.held reads is now.invariant.held cost;
            others = w.others-is ∙ reads_over table row others member now.others (ap not is) now.invariant.others;
            held_most = omega (arith, w.held-is, few, now.invariant.held_most);
            others_most = omega (arith, w.others-is, now.invariant.others_most);
          }
      | else-is_some w ↦
          let is : held member ≡ false = sym bit ∙ w.if-is_some.false in
          record {
            held = w.held-is ∙ reads_over table row held member now.held is now.invariant.held;
            others = w.others-is ∙ reads_on table row others member now.others reads (ap not is) now.invariant.others cost;
            held_most = omega (arith, w.held-is, now.invariant.held_most);
            others_most = omega (arith, w.others-is, few, now.invariant.others_most);
          }
    ]

pub returns : goal.returns
returns c =
    let table = c.args.table.now in
    let mask = row_mask c.args.entry.now c.args.i in
    let at_end : c.loop-member.member ≡ table.geometry.members = omega (arith, c.loop-member-test.false, c.loop-member.auto.member-end) in
    counts_test c.loop-member.held c.loop-member.others _ _
    (c.loop-member.invariant.held ∙ ap (reads_below table c.args.row (has_bit mask)) at_end)
    (c.loop-member.invariant.others ∙ ap (reads_below table c.args.row (λ (m : ℕ). not (has_bit mask m))) at_end)
