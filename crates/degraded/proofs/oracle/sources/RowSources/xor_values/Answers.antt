use Rattle.std.proofs.Common.{ℕ, length, sym, ◌∙◌, ap, arith, map}
use Rattle.std.specs.List.{range_with_len}
use Rattle.parity.specs.Xor.{xor_of, xor_of_all}
use Rattle.parity.proofs.Laws.{zero_sector-replicate}
use Rattle.degraded.specs.RowValue.{value}
use Rattle.degraded.specs.Oracle.{rows_of_sources}
use Rattle.degraded.proofs.Sums.{xor_members-more}
use Rattle.degraded.proofs.oracle.sources.RowSources.xor_values.Goals as goal

pub loop-member-init : goal.loop-member-init
loop-member-init c = λ row. c.fill.ensures.after (λ y same. cc) ∙ zero_sector-replicate (length c.args.to.now) c.told-to

pub loop-member-preserved : goal.loop-member-preserved
loop-member-preserved c = λ row.
    let values = λ (member : ℕ). value (rows_of_sources c.args.self.now) row member in
    c.xor_into.ensures
    ∙ ap (λ s. xor_of c.loop-member.to s) (c.value_of.ensures row)
    ∙ ap (λ s. xor_of s (values c.loop-member.member)) (c.loop-member.invariant row)
    ∙ sym (xor_members-more values c.loop-member.member)

pub returns : goal.returns
returns c = λ row.
    let values = λ (member : ℕ). value (rows_of_sources c.args.self.now) row member in
    c.loop-member.invariant row ∙ ap (λ (n : ℕ). xor_of_all (map values (range_with_len 0 n))) (omega arith)
