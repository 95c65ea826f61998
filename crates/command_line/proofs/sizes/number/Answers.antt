use Rattle.std.proofs.Common.{◌≡◌, ◌≤◌, ◌==◌, ◌⊎◌, ◌∙◌, inl, inr, arith, sym, false, length, le-ltb}
use Rattle.std.specs.Prelude.{slice_index}
use Rattle.command_line.proofs.NumberReads.{Parses}
use Rattle.command_line.proofs.SizeTexts.{no_plus_first, no_zero_first, none_read, number_read}
use Rattle.command_line.proofs.sizes.number.Goals as goal
use Rattle.command_line.proofs.sizes.number.Goals.{then-starts_with-via-then-starts_with, then-starts_with-via-else-starts_with+then-starts_with-2}
use Rattle.command_line.proofs.sizes.number.Goals.{then-text-gt1, else-text-gt1}

pub returns-then-starts_with-clause-unsaid : goal.returns-then-starts_with-clause-unsaid
returns-then-starts_with-clause-unsaid c = λ _ n small is. elim c.then-starts_with.branch [
  | then-starts_with-via-then-starts_with w ↦
      no_plus_first c.args.text.now n small is (sym (w.if-starts_with.ensures.byte (omega arith) (omega arith) (λ v o h. h)))
  | then-starts_with-via-else-starts_with+then-starts_with-2 w ↦ elim w.if-text-gt1.branch [
    | then-text-gt1 w' ↦
        no_zero_first c.args.text.now n small is w'.if-text-gt1.true
        (sym (w'.starts_with-then-text-gt1.ensures.byte (omega arith) (omega arith) (λ v o h. h)) ∙ sym w'.value-is ∙ w.if-starts_with-2.true)
    | else-text-gt1 w' ↦ let never = sym (le-ltb 1 (length c.args.text.now) w'.if-text-gt1.false) ∙ sym w'.value-is ∙ w.if-starts_with-2.true in cc
  ]
]

pub returns-clause-said : goal.returns-clause-said
returns-clause-said c =
    let plus : (slice_index c.args.text.now 0 == 43) ≡ false = sym (c.if-starts_with.ensures.byte (omega arith) (omega arith) (λ v o h. h)) in
    let zero : (length c.args.text.now ≤ 1) ⊎ ((slice_index c.args.text.now 0 == 48) ≡ false) = elim c.if-text-gt1.branch [
      | then-text-gt1 w ↦
          inr (sym (w.starts_with-then-text-gt1.ensures.byte (omega arith) (omega arith) (λ v o h. h)) ∙ sym w.value-is ∙ c.if-starts_with-2.false)
      | else-text-gt1 w ↦ inl (omega arith)
    ] in
    let read : Parses 64 c.args.text.now c.parse.result = c.parse.ensures.value in
    rw c.ok.ensures.value (number_read c.args.text.now c.parse.result read plus zero)

pub returns-clause-unsaid : goal.returns-clause-unsaid
returns-clause-unsaid c = λ none.
    let read : Parses 64 c.args.text.now c.parse.result = c.parse.ensures.value in
    none_read c.args.text.now c.parse.result read (sym c.ok.ensures.value ∙ none)
