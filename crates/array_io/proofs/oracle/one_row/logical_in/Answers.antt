use Rattle.std.proofs.Common.{ℕ, ap, ◌∙◌}
use Rattle.degraded.specs.RowValue.{value}
use Rattle.array_io.proofs.oracle.one_row.logical_in.Goals as goal

pub returns : goal.returns
returns c = λ rows are.
    let placed = c.place-place.ensures.placed in
    c.value_in.ensures rows are
    ∙ ap (λ (row : ℕ). value rows row c.place-place.result.member) placed.on_row
    ∙ ap (value rows _) placed.on_member
