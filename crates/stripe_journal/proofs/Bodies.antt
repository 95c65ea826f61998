-- Where the sectors of bodies lie.
use Rattle.std.proofs.Common.{◌≡◌, ℕ, ◌+◌, ◌*◌, ◌%◌, ◌<◌, ◌≤◌, Bool, true, false, cond, length, refl, sym, subst, ap, ◌∙◌, arith, Option, Some, None}
use Rattle.std.specs.Prelude.{option_and_then, option_map}
use Rattle.std.proofs.lemmas.Bool.{lt-ltb}
use Rattle.arrayvec.specs.ArrayVec.{ArrayVec}
use Rattle.layout_map.specs.declared.format.Format.{Format}
use Rattle.layout_map.specs.Formats.{body_sectors, journal_sectors}
use Rattle.layout_map.specs.declared.sizes.TheConstants.{FIRST_BODY, HALVES, MOST_MEMBERS}
use Rattle.stripe_journal.specs.declared.form.Form.{Form}
use Rattle.stripe_journal.specs.declared.form.Form.TheVariants.{Whole}
use Rattle.stripe_journal.specs.declared.seal.Seal.{Seal}
use Rattle.stripe_journal.specs.Body.{place_by_seal, place_in, rank_at}
use Rattle.stripe_journal.specs.Entries.{body_start, half_start}
use Rattle.stripe_journal.specs.Forms.{IsForm, format_of, in_body, rank, rows_in}
use Rattle.stripe_journal.specs.Seals.{row_at}
use Rattle.stripe_journal.proofs.Halves.{one_half, start_end, start_least}
use Rattle.stripe_journal.proofs.HeldRuns.{body_few}
use Rattle.stripe_journal.proofs.Masks.{one_rank, rank_before, rank_whole}
use Rattle.stripe_journal.proofs.Places.{place_of_row, row_of_place}

-- how a body has a member's sector of a row in this place
pub record IsPlaced (members : ℕ) (seal : Seal) (row member place : ℕ) : Type 0 where
  pub i : ℕ
  pub within : i < length (rows_in seal.form)
  pub row_is : row_at (rows_in seal.form) i ≡ row
  pub held : in_body members seal.form i member ≡ true
  pub place_is : place ≡ body_start seal + rank members seal.form i member

pub is_placed : (members : ℕ) (seal : Seal) (row member place : ℕ) → place_by_seal members seal row member ≡ Some place → IsPlaced members seal row member place
is_placed members seal row member place found = by_row (place_in (rows_in seal.form) row) refl found
  where
    by_held : (i : ℕ) (b : Bool) → place_in (rows_in seal.form) row ≡ Some i → in_body members seal.form i member ≡ b
        → option_map (λ k. body_start seal + k) (cond b (Some (rank members seal.form i member)) None) ≡ Some place → IsPlaced members seal row member place
    by_held i true there held found =
        let place_is : body_start seal + rank members seal.form i member ≡ place = cc in
        let at = row_of_place (rows_in seal.form) row i there in
        record { i = i; within = at.0; row_is = at.1; held = held; place_is = sym place_is }
    by_held i false there held found = absurd (cc)

    by_row : (o : Option ℕ) → place_in (rows_in seal.form) row ≡ o
        → option_map (λ k. body_start seal + k) (option_and_then (λ i. rank_at members seal.form i member) o) ≡ Some place
        → IsPlaced members seal row member place
    by_row None there found = absurd (cc)
    by_row (Some i) there found = by_held i (in_body members seal.form i member) there refl found

-- each of them is below the sectors of a half
pub part_below : (members : ℕ) (form : Form) (i member : ℕ) → members ≤ MOST_MEMBERS → IsForm form → i < length (rows_in form) → member < members
    → in_body members form i member ≡ true
    → rank members form i member < body_sectors (format_of form)
part_below members form i member few formed within below held =
    omega (arith, rank_before members form i member (length (rows_in form)) held below within, body_few members form few formed)

pub in_own_half : (members : ℕ) (seal : Seal) (row member place : ℕ) → members ≤ MOST_MEMBERS → member < members
    → place_by_seal members seal row member ≡ Some place
    → (body_start seal ≤ place) × (place < body_start seal + body_sectors (format_of seal.form))
in_own_half members seal row member place few below found =
    let at = is_placed members seal row member place found in
    let part = part_below members seal.form at.i member few seal.formed at.within below at.held in
    (omega (arith, at.place_is), omega (arith, at.place_is, part))

pub bodies_within : (members : ℕ) (seal : Seal) (row member place : ℕ) → members ≤ MOST_MEMBERS → member < members
    → place_by_seal members seal row member ≡ Some place → (FIRST_BODY ≤ place) × (place < journal_sectors (format_of seal.form))
bodies_within members seal row member place few below found =
    let half = in_own_half members seal row member place few below found in
    (omega (arith, half.0, start_least seal), omega (arith, half.1, start_end seal))

-- two bodies of one format with one sector are in one half
pub halves_apart : (members : ℕ) (first second : Seal) (row member row' member' place : ℕ) → members ≤ MOST_MEMBERS → member < members → member' < members
    → format_of first.form ≡ format_of second.form
    → place_by_seal members first row member ≡ Some place → place_by_seal members second row' member' ≡ Some place
    → first.number % HALVES ≡ second.number % HALVES
halves_apart members first second row member row' member' place few below below' same found found' =
    let here = in_own_half members first row member place few below found in
    let there = subst (λ (f : Format). (half_start f second.number ≤ place) × (place < half_start f second.number + body_sectors f)) (sym same)
    (in_own_half members second row' member' place few below' found') in
    one_half (format_of first.form) first.number second.number place here.0 here.1 there.0 there.1

-- a sector of a body is one member's of one row
pub bodies_apart : (members : ℕ) (seal : Seal) (row member row' member' place : ℕ) → member < members → member' < members
    → place_by_seal members seal row member ≡ Some place → place_by_seal members seal row' member' ≡ Some place → (row ≡ row') × (member ≡ member')
bodies_apart members seal row member row' member' place below below' found found' =
    let here = is_placed members seal row member place found in
    let there = is_placed members seal row' member' place found' in
    let one = one_rank members seal.form here.i member there.i member' here.held there.held below below' (omega (arith, here.place_is, there.place_is)) in
    (sym here.row_is ∙ ap (row_at (rows_in seal.form)) one.0 ∙ there.row_is, one.1)

-- the place of a sector that a body has

at_row : (members : ℕ) (seal : Seal) (row i member : ℕ) → place_in (rows_in seal.form) row ≡ Some i
    → place_by_seal members seal row member ≡ option_map (λ k. body_start seal + k) (rank_at members seal.form i member)
at_row members seal row i member there =
    ap (λ (o : Option ℕ). option_map (λ k. body_start seal + k) (option_and_then (λ n. rank_at members seal.form n member) o)) there

pub place_held : (members : ℕ) (seal : Seal) (row i member : ℕ) → place_in (rows_in seal.form) row ≡ Some i → in_body members seal.form i member ≡ true
    → place_by_seal members seal row member ≡ Some (body_start seal + rank members seal.form i member)
place_held members seal row i member there held =
    at_row members seal row i member there
    ∙ ap (λ (b : Bool). option_map (λ k. body_start seal + k) (cond b (Some (rank members seal.form i member)) None)) held

-- there is none of one that the body lacks, or of a row that the seal lacks
pub place_lacking : (members : ℕ) (seal : Seal) (row i member : ℕ) → place_in (rows_in seal.form) row ≡ Some i → in_body members seal.form i member ≡ false
    → place_by_seal members seal row member ≡ None
place_lacking members seal row i member there held =
    at_row members seal row i member there
    ∙ ap (λ (b : Bool). option_map (λ k. body_start seal + k) (cond b (Some (rank members seal.form i member)) None)) held

pub place_of_no_row : (members : ℕ) (seal : Seal) (row member : ℕ) → place_in (rows_in seal.form) row ≡ None → place_by_seal members seal row member ≡ None
place_of_no_row members seal row member there =
    ap (λ (o : Option ℕ). option_map (λ k. body_start seal + k) (option_and_then (λ n. rank_at members seal.form n member) o)) there

-- whole rows follow one another
pub whole_rows : (members : ℕ) (seal : Seal) (i member : ℕ) (rows : ArrayVec ℕ) → seal.form ≡ Whole rows → i < length (rows_in seal.form) → member < members
    → place_by_seal members seal (row_at (rows_in seal.form) i) member ≡ Some (body_start seal + i * members + member)
whole_rows members seal i member rows whole within below =
    let held : in_body members seal.form i member ≡ true = ap (λ (f : Form). in_body members f i member) whole ∙ lt-ltb member members below in
    let rank_is : rank members seal.form i member ≡ i * members + member = ap (λ (f : Form). rank members f i member) whole
    ∙ rank_whole rows members i member (omega arith) in
    place_held members seal (row_at (rows_in seal.form) i) i member (place_of_row (rows_in seal.form) i seal.allowed.rows.rising within) held
    ∙ ap Some (omega (arith, rank_is))
