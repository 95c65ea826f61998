-- Small instances: what entries hold and where, in a set of three members.
use Rattle.std.proofs.Common.{◌≡◌, ℕ, ◌+◌, ◌≤◌, Bool, true, false, cond, [], ◌∷◌, refl, sym, ap, ◌∙◌, arith, Some}
use Rattle.std.proofs.lemmas.Bool.{false≢true, lt-ltb}
use Rattle.layout_map.specs.declared.geometry.Geometry.{Geometry}
use Rattle.layout_map.specs.Placement.{IsParityOf}
use Rattle.stripe_journal.specs.declared.form.Form.{Form}
use Rattle.stripe_journal.specs.declared.form.Form.TheVariants.{Held, Whole}
use Rattle.stripe_journal.specs.declared.seal.Seal.{Seal}
use Rattle.stripe_journal.specs.Forms.{HoldsRow, held_before, holds, rank}
use Rattle.stripe_journal.specs.LastEntry.{later_of}

-- rows 32 and 33 of a first entry that holds members 0, 1 and 2 of the one, and 1 and 2 of the other
abbrev two_rows : Form
two_rows = Held (record { items = 32 ∷ 33 ∷ [] }) (7 ∷ 6 ∷ [])

-- five sectors, 264 to 268

held_two_rows : held_before 3 two_rows 2 ≡ 5
held_two_rows = refl

first_places : (holds 3 two_rows 0 0 ≡ true) × (rank 3 two_rows 0 0 ≡ 0) × (rank 3 two_rows 0 1 ≡ 1) × (rank 3 two_rows 0 2 ≡ 2)
first_places = (refl, refl, refl, refl)

second_places : (holds 3 two_rows 1 0 ≡ false) × (rank 3 two_rows 1 1 ≡ 3) × (rank 3 two_rows 1 2 ≡ 4)
second_places = (refl, refl, refl)

-- one row of which it holds the parity and the second data sector: 264 is member 1 here, and member 0 of an entry with whole rows
abbrev one_held : Form
one_held = Held (record { items = 32 ∷ [] }) (6 ∷ [])

abbrev whole_two : Form
whole_two = Whole (record { items = 32 ∷ 33 ∷ [] })

one_row : (holds 3 one_held 0 0 ≡ false) × (rank 3 one_held 0 1 ≡ 0) × (rank 3 one_held 0 2 ≡ 1)
one_row = (refl, refl, refl)

whole_places : (rank 3 whole_two 0 0 ≡ 0) × (rank 3 whole_two 0 1 ≡ 1) × (rank 3 whole_two 1 0 ≡ 3) × (rank 3 whole_two 1 2 ≡ 5) × (held_before 3 whole_two 2
    ≡ 6)
whole_places = (refl, refl, refl, refl, refl)

-- a member that a set lacks is in no whole row
no_member : holds 3 whole_two 0 3 ≡ false
no_member = refl

-- an entry that holds the parity and a member's sector fits a set, whatever member is lost; one without the parity does not

without_parity : (geometry : Geometry) (row member : ℕ) (held : ℕ → Bool) → IsParityOf geometry.members geometry.chunk row member → held member ≡ false
    → ¬ HoldsRow geometry row held
without_parity geometry row member held parity lacking fits = false≢true (sym lacking ∙ fits.has_parity member parity)

-- nor does one with a member that the set lacks
with_other_member : (geometry : Geometry) (row member : ℕ) (held : ℕ → Bool) → geometry.members ≤ member → held member ≡ true → ¬ HoldsRow geometry row held
with_other_member geometry row member held beyond is fits = omega (arith, beyond, fits.of_set member is)

-- of an entry with whole rows and one that holds less, on two journals, the later is the one with the greater number
later_of_two : (whole held : Seal) → held.number ≡ whole.number + 1 → later_of (Some whole) (Some held) ≡ Some held
later_of_two whole held next = ap (λ (b : Bool). cond b (Some held) (Some whole)) (lt-ltb whole.number held.number (omega arith))
