use Rattle.std.proofs.Common.{◌≡◌, ℕ, ◌+◌, ◌-◌, ◌≤◌, min, List, ◌++◌, length, take, sym, ap, ◌∙◌, arith, rules}
use Rattle.std.proofs.lemmas.List.{take_min, length-take}
use Rattle.std.proofs.Math.Seq.{take-append-add}
use Rattle.report.proofs.lines.keep.Goals as goal
use Rattle.report.specs.declared.lines.TheConstants.{LONGEST_LINE}

-- a list and the front of another, as far as n elements hold it
front_appended : (n : ℕ) (xs ys : List ℕ) (k : ℕ) → length xs ≤ n → k ≡ min (length ys) (n - length xs) → xs ++ take k ys ≡ take n (xs ++ ys)
front_appended n xs ys k fits is =
    let room = n - length xs in
    let least : k ≡ min room (length ys) = omega arith in
    let all : length xs + room ≡ n = omega arith in
    ap (λ l. xs ++ l) (ap (λ m. take m ys) least ∙ take_min room ys) ∙ sym (take-append-add xs ys room) ∙ ap (λ m. take m (xs ++ ys)) all

pub returns-clause-items : goal.returns-clause-items
returns-clause-items g c =
    let done = c.extend_from_slice.ensures.succeeds (search (rules, length-take)) in
    let kept : c.extend_from_slice.new.self.items ≡ c.args.line.now.items ++ take c.min.result c.args.part.now = rw done at c.extend_from_slice.ensures.items in
    kept ∙ front_appended (LONGEST_LINE + 1) c.args.line.now.items c.args.part.now c.min.result (omega arith) (omega arith)
