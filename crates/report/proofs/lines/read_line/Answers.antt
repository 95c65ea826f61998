use Rattle.std.proofs.Common.{◌≡◌, ◌<◌, ◌==◌, ℕ, zero, suc, vec_len, Bool, false, true, Ok, sym, ap, arith, eqb-true}
use Rattle.std.proofs.Common.{drop_of_length-le}
use Rattle.std.proofs.KnownBytes.{Keeps-refl}
use Rattle.std.proofs.lemmas.Result.{err_from_is_err_and}
use Rattle.report.specs.declared.lines.Met.TheVariants.{LineEnd}
use Rattle.report.proofs.LineLemmas.{ReadsPart-trans, whole_from_parts, unbroken_from_parts, read_to_end, unended_from_parts, no_line_from_parts}
use Rattle.report.proofs.LineLemmas.{stop_from_parts}
use Rattle.report.proofs.lines.read_line.Goals as goal

pub returns-in_err-read_part-clause-fault : goal.returns-in_err-read_part-clause-fault
returns-in_err-read_part-clause-fault g c =
    let p = err_from_is_err_and c.from_residual.result c.from_residual.ensures.1 in
    rw p.1 (stop_from_parts _ _ _ _ c.loop.invariant.read c.in_err-read_part.ensures.fault)

pub loop-preserved : goal.loop-preserved
loop-preserved g c = record {
  read = ReadsPart-trans _ _ _ _ _ _ _ c.loop.invariant.read (rw c.in-Nothing.is at c.in_ok-read_part.ensures.read);
  held = c.in_ok-read_part.ensures.held;
  capacity = c.in_ok-read_part.ensures.capacity;
}

pub returns-clause-fault : goal.returns-clause-fault
returns-clause-fault g c = stop_from_parts _ _ _ _ c.loop.invariant.read (Keeps-refl _)

pub returns-in-LineEnd-clause-whole : goal.returns-in-LineEnd-clause-whole
returns-in-LineEnd-clause-whole g c = λ _. whole_from_parts _ _ _
    (ReadsPart-trans _ _ _ LineEnd _ _ _ c.loop.invariant.read (rw c.in-LineEnd.is at c.in_ok-read_part.ensures.read))

pub returns-in-LineEnd-clause-unbroken : goal.returns-in-LineEnd-clause-unbroken
returns-in-LineEnd-clause-unbroken g c = unbroken_from_parts _ _ _ _ (ReadsPart-trans _ _ _ _ _ _ _ c.loop.invariant.read c.in_ok-read_part.ensures.read)

zero_if_true : (b : Bool) (n : ℕ) → b ≡ (n == 0) → b ≡ true → n ≡ 0
zero_if_true true n is h = eqb-true n 0 (sym is)
zero_if_true false n is h = cc

some_if_false : (b : Bool) (n : ℕ) → b ≡ (n == 0) → b ≡ false → 0 < n
some_if_false b zero is h = cc
some_if_false b (suc n) is h = omega arith

pub returns-then-is_empty-clause-none : goal.returns-then-is_empty-clause-none
returns-then-is_empty-clause-none g c = λ _.
    let h = read_to_end _ _ _ _ _ c.loop.invariant.read (rw c.in-ScriptEnd.is at c.in_ok-read_part.ensures.read)
    (c.in_ok-read_part.ensures.end (ap Ok c.in-ScriptEnd.is)) in
    let none : vec_len c.read_part.new.line ≡ 0 = zero_if_true _ _ c.is_empty.ensures c.if-is_empty.true in
    no_line_from_parts _ _ _ h.0 h.1 (omega (arith, none, c.read_part.new.line.ok.0))

pub returns-then-is_empty-clause-empty : goal.returns-then-is_empty-clause-empty
returns-then-is_empty-clause-empty g c = λ _.
    let none : vec_len c.read_part.new.line ≡ 0 = zero_if_true _ _ c.is_empty.ensures c.if-is_empty.true in
    drop_of_length-le _ {i = 0} (omega (arith, none, c.read_part.new.line.ok.0))

pub returns-else-is_empty-clause-unended : goal.returns-else-is_empty-clause-unended
returns-else-is_empty-clause-unended g c = λ _.
    let h = read_to_end _ _ _ _ _ c.loop.invariant.read (rw c.in-ScriptEnd.is at c.in_ok-read_part.ensures.read)
    (c.in_ok-read_part.ensures.end (ap Ok c.in-ScriptEnd.is)) in
    let some : 0 < vec_len c.read_part.new.line = some_if_false _ _ c.is_empty.ensures c.if-is_empty.false in
    unended_from_parts _ _ _ h.0 h.1 (omega (arith, some, c.read_part.new.line.ok.0))

pub returns-else-is_empty-clause-unbroken : goal.returns-else-is_empty-clause-unbroken
returns-else-is_empty-clause-unbroken g c = unbroken_from_parts _ _ _ _ (ReadsPart-trans _ _ _ _ _ _ _ c.loop.invariant.read c.in_ok-read_part.ensures.read)
