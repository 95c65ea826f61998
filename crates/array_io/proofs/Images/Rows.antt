-- Rows with the same values.
use Rattle.std.proofs.Common.{◌≡◌, ◌↔◌, ℕ, ◌<◌, Bool, true, false, IsTrue, refl, sym, ◌∙◌, arith}
use Rattle.superblock.specs.declared.table.Table.{Table}
use Rattle.degraded.specs.RowValue.{Rows, AreSound, value}
use Rattle.degraded.proofs.Values.{logical_list-same, sound-same}
use Rattle.array_io.specs.Believed.Holds.{row_count}
use Rattle.array_io.specs.Laws.Law.{AreAlike}

-- rows with the same values have the same logical list
pub alike : (table : Table) (first second : Rows)
    → ((row member : ℕ) → row < row_count table → member < table.geometry.members → value first row member ≡ value second row member)
    → AreAlike table first second
alike table first second same = record { values = same; lists = logical_list-same table.geometry first second same }

pub alike_back : (table : Table) {first second : Rows} → AreAlike table first second → AreAlike table second first
alike_back table are = record { values = λ row member below within. sym (are.values row member below within); lists = sym are.lists }

-- rows that are alike are sound together
pub sound_alike : (table : Table) (first second : Rows) → first.members ≡ table.geometry.members → second.members ≡ table.geometry.members
    → AreAlike table first second
    → AreSound first (row_count table) → AreSound second (row_count table)
sound_alike table first second width width' are sound =
    sound-same (row_count table) second first (width' ∙ sym width) (λ row member below within. sym (are.values row member below (omega (arith, width, within))))
    sound

-- two tests of one thing give one answer
pub same_test : (a b : Bool) (A B : Type 0) → (IsTrue a ↔ A) → (IsTrue b ↔ B) → (A → B) → (B → A) → a ≡ b
same_test true true A B is_a is_b there back = refl
same_test false false A B is_a is_b there back = refl
same_test true false A B is_a is_b there back = sym (is_b.1 (there (is_a.0 refl)))
same_test false true A B is_a is_b there back = is_a.1 (back (is_b.0 refl))
