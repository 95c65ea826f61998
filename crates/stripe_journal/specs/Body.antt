-- Where a journal has the parts of an entry. Sectors count from 0.
use Rattle.std.specs.Prelude.{ℕ, ◌+◌, ◌%◌, ◌==◌, ◌&&◌, Bool, false, nat_lt, if◌then◌else◌, List, [], ◌∷◌, Option, Some, None, option_and_then, option_map}
use Rattle.layout_map.specs.declared.sizes.TheConstants.{FIRST_SEAL, HALVES}
use Rattle.stripe_journal.specs.declared.form.Form.{Form}
use Rattle.stripe_journal.specs.declared.seal.Seal.{Seal}
use Rattle.stripe_journal.specs.Entries.{body_start}
use Rattle.stripe_journal.specs.Forms.{has_zeros, in_body, rank, rows_in}

-- the sector with the seal of the entry of this number
abbrev pub seal_place : (number : ℕ) → ℕ
seal_place number = FIRST_SEAL + number % HALVES

-- how many sectors the body of an entry has before a member's sector of the i-th row, if it has that
abbrev pub rank_at : (members : ℕ) → Form → (i member : ℕ) → Option ℕ
rank_at members form i member = if in_body members form i member then Some (rank members form i member) else None

-- where a row stands in a seal's list of rows, if it does
abbrev pub place_in : (rows : List ℕ) → (row : ℕ) → Option ℕ
place_in [] row = None
place_in (first ∷ rows) row = if first == row then Some 0 else option_map (λ i. i + 1) (place_in rows row)

-- the same of a row by its number
abbrev pub rank_by_row : (members : ℕ) → Form → (row member : ℕ) → Option ℕ
rank_by_row members form row member = option_and_then (λ i. rank_at members form i member) (place_in (rows_in form) row)

-- the sector in which the body of a seal's entry has a member's sector of a row, if it has one
abbrev pub place_by_seal : (members : ℕ) → Seal → (row member : ℕ) → Option ℕ
place_by_seal members seal row member = option_map (λ rank. body_start seal + rank) (rank_by_row members seal.form row member)

-- whether the entry of a seal says that a member's sector of a row is zero: it is one of a row of zeros
abbrev pub zero_at : (members : ℕ) → Form → Option ℕ → (member : ℕ) → Bool
zero_at members form None member = false
zero_at members form (Some i) member = has_zeros form i && nat_lt member members

abbrev pub zero_by_seal : (members : ℕ) → Seal → (row member : ℕ) → Bool
zero_by_seal members seal row member = zero_at members seal.form (place_in (rows_in seal.form) row) member
