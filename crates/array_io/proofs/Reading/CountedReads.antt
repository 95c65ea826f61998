-- How many sectors are read for the values of some members in a row.
use Rattle.std.proofs.Common.{◌≡◌, ◌↔◌, ℕ, ◌+◌, ◌-◌, ◌≤◌, Bool, true, false, cond, IsTrue, Option, Some, None, leb, add-one, refl, sym, ◌∙◌, ap, arith}
use Rattle.std.specs.Prelude.{IfSome, IsNone, is_some}
use Rattle.std.proofs.lemmas.Bool.{le-leb, leb-true}
use Rattle.layout_map.specs.declared.sizes.TheConstants.{MOST_MEMBERS}
use Rattle.superblock.specs.declared.table.Table.{Table}
use Rattle.array_io.specs.Steps.FillingRows.{reads_below, reads_of}

-- with one member more that is chosen
pub reads_on : (table : Table) (row : ℕ) (chosen : ℕ → Bool) (member before reads : ℕ) → chosen member ≡ true → before ≡ reads_below table row chosen member
    → reads ≡ reads_of table row member → before + reads ≡ reads_below table row chosen (member + 1)
reads_on table row chosen member before reads is so_far cost =
    ap (λ (n : ℕ). n + reads) so_far ∙ ap (λ (n : ℕ). reads_below table row chosen member + n) cost
    ∙ ap (λ (b : Bool). reads_below table row chosen member + cond b (reads_of table row member) 0) (sym is)
    ∙ ap (reads_below table row chosen) (sym (add-one member))

-- and with one that isn't
pub reads_over : (table : Table) (row : ℕ) (chosen : ℕ → Bool) (member before : ℕ) → chosen member ≡ false → before ≡ reads_below table row chosen member
    → before ≡ reads_below table row chosen (member + 1)
reads_over table row chosen member before is so_far =
    so_far ∙ none (reads_below table row chosen member)
    ∙ ap (λ (b : Bool). reads_below table row chosen member + cond b (reads_of table row member) 0) (sym is)
    ∙ ap (reads_below table row chosen) (sym (add-one member))
  where
    none : (n : ℕ) → n ≡ n + 0
    none n = omega arith

-- no value takes more than 8
pub reads_few : (trusted : Bool) (members reads : ℕ) → members ≤ MOST_MEMBERS → reads ≡ cond trusted 1 (members - 1) → reads ≤ 8
reads_few true members reads few is = omega (arith, is)
reads_few false members reads few is = omega (arith, is, few)

-- what there is of a sector, where a mask has its bit
pub is_held : {X : Type 0} (P : X → Type 0) (found : Option X) (mask_bit held : Bool) → IfSome found (λ x. (mask_bit ≡ true) × P x)
    → (IsNone found → mask_bit ≡ false)
    → held ≡ is_some found → held ≡ mask_bit
is_held P (Some x) mask_bit held some none is = is ∙ sym some.0
is_held P None mask_bit held some none is = is ∙ sym (none refl)

-- the test of two counts
pub counts_test : (held others reads rest : ℕ) → held ≡ reads → others ≡ rest → IsTrue (leb held others) ↔ (reads ≤ rest)
counts_test held others reads rest is is' = (
  λ test. omega (arith, is, is', leb-true held others test),
  λ few. le-leb held others (omega (arith, is, is', few)),
)
