use Rattle.std.proofs.Common.{arith, ap, ◌∙◌, ◌-◌, ℕ, get_or}
use Rattle.sector_model.proofs.span.Span.patch.Goals as goal

pub returns-then-first-end-clause-put : goal.returns-then-first-end-clause-put
returns-then-first-end-clause-put c = λ k lt from to.
    let at = c.max-first.result - c.args.self.now.start in
    ap (λ (i : ℕ). get_or c.put.new.self.bytes.items i 0) (omega (arith, c.max-first.ensures, c.if-first-end.true, from))
    ∙ c.put.ensures.put (k - at)
    (omega (arith, c.max-first.ensures, c.min-end.ensures, c.if-first-end.true, c.part_of-part.ensures.len, lt, from, to))
    ∙ c.part_of-part.ensures.each (k - at)
    (omega (arith, c.max-first.ensures, c.min-end.ensures, c.if-first-end.true, c.part_of-part.ensures.len, lt, from, to))
    ∙ ap (λ (i : ℕ). get_or c.args.from.now i 0) (omega (arith, c.max-first.ensures, c.if-first-end.true, from))
