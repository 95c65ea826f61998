use Rattle.std.proofs.Common.{ℕ, length, sym, ◌∙◌, ap, arith, map, unwrap_or}
use Rattle.parity.specs.Xor.{xor_of, xor_of_all, zero_sector}
use Rattle.parity.proofs.Laws.{zero_sector-replicate}
use Rattle.degraded.specs.RowValue.{others, direct}
use Rattle.degraded.specs.Oracle.{rows_of_sources}
use Rattle.degraded.proofs.Sums.{xor_others-more, xor_others-same}
use Rattle.degraded.proofs.oracle.sources.RowSources.xor_others.Goals as goal
use Rattle.degraded.proofs.oracle.sources.RowSources.xor_others.Goals.{then-other-member, else-other-member}

pub loop-other-init : goal.loop-other-init
loop-other-init c = λ row. c.fill.ensures.after (λ y same. cc) ∙ zero_sector-replicate (length c.args.to.now) c.told-to

pub loop-other-preserved : goal.loop-other-preserved
loop-other-preserved c = λ row.
    let known = λ (other : ℕ). unwrap_or (direct (rows_of_sources c.args.self.now) row other) zero_sector in
    let so_far = c.loop-other.invariant row in
    elim c.if-other-member.branch [
      | then-other-member w ↦ w.to-is ∙ w.xor_known.ensures row ∙ ap (λ s. xor_of s (known c.loop-other.other)) so_far
          ∙ sym (xor_others-more known c.args.member c.loop-other.other w.if-other-member.true)
      | else-other-member w ↦ w.to-is ∙ so_far ∙ sym (xor_others-same known c.args.member c.loop-other.other w.if-other-member.false)
    ]

pub returns : goal.returns
returns c = λ row.
    let known = λ (other : ℕ). unwrap_or (direct (rows_of_sources c.args.self.now) row other) zero_sector in
    c.loop-other.invariant row ∙ ap (λ (n : ℕ). xor_of_all (map known (others n c.args.member))) (omega arith)
