-- The sectors that an entry on a journal has.
use Rattle.std.proofs.Common.{◌≡◌, ℕ, ◌+◌, Bool, true, false, cond, List, refl, sym, ap, ◌∙◌, Option, Some, None}
use Rattle.std.specs.Prelude.{◌<◌, ◌&&◌, nat_lt, replicate}
use Rattle.std.proofs.lemmas.Bool.{eqb-true, lt-ltb}
use Rattle.entry_runs.specs.WrittenOut.{masks_of_runs}
use Rattle.entry_runs.proofs.Bits.{no_bits}
use Rattle.layout_map.specs.declared.format.Format.TheVariants.{One}
use Rattle.sector_model.specs.History.{Bytes, disk_of, sector_of}
use Rattle.stripe_journal.specs.declared.form.Form.{Form}
use Rattle.stripe_journal.specs.declared.form.Form.TheVariants.{Held, Runs, Whole}
use Rattle.stripe_journal.specs.declared.seal.Seal.{Seal}
use Rattle.stripe_journal.specs.Body.{place_by_seal, place_in, zero_at, zero_by_seal}
use Rattle.stripe_journal.specs.Entries.{body_start}
use Rattle.stripe_journal.specs.Forms.{format_of, has_bit, has_zeros, holds, in_body, mask_at, rank, rows_in}
use Rattle.stripe_journal.specs.LastEntry.{placed_or_zero, sector_in}
use Rattle.stripe_journal.proofs.Bodies.{place_held, place_lacking, place_of_no_row}

-- an entry of format 1 has no rows of zeros

pub no_zeros : (form : Form) (i : ℕ) → format_of form ≡ One → has_zeros form i ≡ false
no_zeros (Whole rows) i one = refl
no_zeros (Held rows masks) i one = refl
no_zeros (Runs runs) i one = absurd (cc)

-- so it holds what its body has
pub held_is_in_body : (members : ℕ) (form : Form) (i member : ℕ) → format_of form ≡ One → holds members form i member ≡ in_body members form i member
held_is_in_body members form i member one = ap (λ (b : Bool). cond b (nat_lt member members) (in_body members form i member)) (no_zeros form i one)

-- a body has nothing of a row of zeros
pub no_body_of_zeros : (members : ℕ) (form : Form) (i member : ℕ) → has_zeros form i ≡ true → in_body members form i member ≡ false
no_body_of_zeros members (Whole rows) i member zeros = absurd (cc)
no_body_of_zeros members (Held rows masks) i member zeros = absurd (cc)
no_body_of_zeros members (Runs runs) i member zeros =
    ap (λ (mask : ℕ). has_bit mask member) (eqb-true (mask_at (masks_of_runs runs.list.items) i) 0 zeros) ∙ no_bits member

-- what isn't held is neither zero nor in the body
pub lacks_both : (members : ℕ) (form : Form) (i member : ℕ) → holds members form i member ≡ false
    → (in_body members form i member ≡ false) × (zero_at members form (Some i) member ≡ false)
lacks_both members form i member lacking = by_zeros (has_zeros form i) refl
  where
    by_zeros : (b : Bool) → has_zeros form i ≡ b → (in_body members form i member ≡ false) × (zero_at members form (Some i) member ≡ false)
    by_zeros true zeros = (
      no_body_of_zeros members form i member zeros,
      ap (λ (b : Bool). b && nat_lt member members) zeros
          ∙ sym (ap (λ (b : Bool). cond b (nat_lt member members) (in_body members form i member)) zeros) ∙ lacking,
    )
    by_zeros false zeros = (
      sym (ap (λ (b : Bool). cond b (nat_lt member members) (in_body members form i member)) zeros) ∙ lacking,
      ap (λ (b : Bool). b && nat_lt member members) zeros,
    )

-- what is held of another row stands in the body
pub held_in_body : (members : ℕ) (form : Form) (i member : ℕ) → has_zeros form i ≡ false → holds members form i member ≡ true
    → in_body members form i member ≡ true
held_in_body members form i member other held =
    sym (ap (λ (b : Bool). cond b (nat_lt member members) (in_body members form i member)) other) ∙ held

-- a sector at a place is that of the journal
pub sector_placed : (members : ℕ) (content : Option (List Bytes)) (seal : Seal) (row member place : ℕ) → place_by_seal members seal row member ≡ Some place
    → sector_in members content seal row member ≡ Some (sector_of (disk_of content) place)
sector_placed members content seal row member place there =
    ap (λ (o : Option ℕ). placed_or_zero (disk_of content) o (zero_by_seal members seal row member)) there

-- a sector that its body has is that at its place
pub sector_held : (members : ℕ) (content : Option (List Bytes)) (seal : Seal) (row i member : ℕ) → place_in (rows_in seal.form) row ≡ Some i
    → in_body members seal.form i member ≡ true
    → sector_in members content seal row member ≡ Some (sector_of (disk_of content) (body_start seal + rank members seal.form i member))
sector_held members content seal row i member there held =
    sector_placed members content seal row member (body_start seal + rank members seal.form i member) (place_held members seal row i member there held)

-- an entry has none that it doesn't hold

unplaced : (members : ℕ) (content : Option (List Bytes)) (seal : Seal) (row member : ℕ) (b : Bool) → zero_by_seal members seal row member ≡ b
    → place_by_seal members seal row member ≡ None → sector_in members content seal row member ≡ cond b (Some (replicate 512 0)) None
unplaced members content seal row member b zeros there =
    ap (λ (o : Option ℕ). placed_or_zero (disk_of content) o (zero_by_seal members seal row member)) there
    ∙ ap (λ (b : Bool). cond b (Some (replicate 512 0)) None) zeros

pub sector_lacking : (members : ℕ) (content : Option (List Bytes)) (seal : Seal) (row i member : ℕ) → place_in (rows_in seal.form) row ≡ Some i
    → holds members seal.form i member ≡ false → sector_in members content seal row member ≡ None
sector_lacking members content seal row i member there lacking =
    let both = lacks_both members seal.form i member lacking in
    unplaced members content seal row member false (ap (λ (o : Option ℕ). zero_at members seal.form o member) there ∙ both.1)
    (place_lacking members seal row i member there both.0)

-- a sector of a row of zeros is zero
pub sector_of_zeros : (members : ℕ) (content : Option (List Bytes)) (seal : Seal) (row i member : ℕ) → place_in (rows_in seal.form) row ≡ Some i
    → has_zeros seal.form i ≡ true → member < members → sector_in members content seal row member ≡ Some (replicate 512 0)
sector_of_zeros members content seal row i member there zeros below =
    unplaced members content seal row member true (ap (λ (o : Option ℕ). zero_at members seal.form o member) there
    ∙ ap (λ (b : Bool). b && nat_lt member members) zeros ∙ lt-ltb member members below)
    (place_lacking members seal row i member there (no_body_of_zeros members seal.form i member zeros))

-- each that it holds it has
pub some_sector : (members : ℕ) (content : Option (List Bytes)) (seal : Seal) (row i member : ℕ) → place_in (rows_in seal.form) row ≡ Some i
    → member < members → holds members seal.form i member ≡ true → (sector : Bytes) × (sector_in members content seal row member ≡ Some sector)
some_sector members content seal row i member there below held = by_zeros (has_zeros seal.form i) refl
  where
    by_zeros : (b : Bool) → has_zeros seal.form i ≡ b → (sector : Bytes) × (sector_in members content seal row member ≡ Some sector)
    by_zeros true zeros = (replicate 512 0, sector_of_zeros members content seal row i member there zeros below)
    by_zeros false other = (
      sector_of (disk_of content) (body_start seal + rank members seal.form i member),
      sector_held members content seal row i member there (held_in_body members seal.form i member other held),
    )

-- it has none of a row that is none of its rows
pub sector_of_no_row : (members : ℕ) (content : Option (List Bytes)) (seal : Seal) (row member : ℕ) → place_in (rows_in seal.form) row ≡ None
    → sector_in members content seal row member ≡ None
sector_of_no_row members content seal row member there =
    unplaced members content seal row member false (ap (λ (o : Option ℕ). zero_at members seal.form o member) there)
    (place_of_no_row members seal row member there)

-- two journals with equal sectors in the places of an entry have the same sectors of it
pub same_sectors : (members : ℕ) (one other : Option (List Bytes)) (seal : Seal) (row member : ℕ)
    → ((place : ℕ) → place_by_seal members seal row member ≡ Some place → sector_of (disk_of one) place ≡ sector_of (disk_of other) place)
    → sector_in members one seal row member ≡ sector_in members other seal row member
same_sectors members one other seal row member same = by_place (place_by_seal members seal row member) refl
  where
    by_place : (found : Option ℕ) → place_by_seal members seal row member ≡ found
        → sector_in members one seal row member ≡ sector_in members other seal row member
    by_place None is =
        let zeros = zero_by_seal members seal row member in
        ap (λ (o : Option ℕ). placed_or_zero (disk_of one) o zeros) is ∙ sym (ap (λ (o : Option ℕ). placed_or_zero (disk_of other) o zeros) is)
    by_place (Some place) is =
        sector_placed members one seal row member place is ∙ ap Some (same place is) ∙ sym (sector_placed members other seal row member place is)
