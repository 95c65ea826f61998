-- An entry in memory and its seal: where they agree on what is held, its body is the seal's.
use Rattle.std.proofs.Common.{◌≡◌, ℕ, ◌+◌, ◌<◌, ◌≤◌, ◌==◌, nat_lt, Bool, true, false, cond, List, [], length, get_or, refl, sym, ap, ◌∙◌, arith, Some, None}
use Rattle.std.specs.Prelude.{count_ones}
use Rattle.std.proofs.lemmas.Bool.{lt-ltb}
use Rattle.layout_map.specs.declared.format.Format.{Format}
use Rattle.layout_map.specs.declared.sizes.TheConstants.{MOST_MEMBERS}
use Rattle.layout_map.specs.Formats.{body_sectors}
use Rattle.sector_model.specs.History.{Bytes}
use Rattle.stripe_journal.specs.declared.entry.Entry.{Entry}
use Rattle.stripe_journal.specs.declared.form.Form.{Form}
use Rattle.stripe_journal.specs.declared.seal.Seal.{Seal}
use Rattle.stripe_journal.specs.Entries.{IsEntryOf, IsFormOf, body_of, body_start, form_of, holds_sector, masks_of, numbers_of, row_mask, sector_at}
use Rattle.stripe_journal.specs.Forms.{format_of, has_bit, has_zeros, held_before, holds, in_body, mask_at, rank, rows_in}
use Rattle.stripe_journal.specs.Seals.{row_at}
use Rattle.stripe_journal.specs.Body.{place_by_seal}
use Rattle.stripe_journal.proofs.Bodies.{place_held, place_lacking}
use Rattle.stripe_journal.proofs.Entries.{body_at, length-body}
use Rattle.stripe_journal.proofs.EntryForms.{no_row_of_zeros}
use Rattle.stripe_journal.proofs.HeldRuns.{body_few}
use Rattle.stripe_journal.proofs.Masks.{before_agrees, rank_agrees}
use Rattle.stripe_journal.proofs.Places.{place_of_row}

module _ (members : ℕ) (seal : Seal) (entry : Entry) (few : members ≤ MOST_MEMBERS) (is : IsEntryOf members seal.form entry) where
  count_is : length (numbers_of entry) ≡ length (rows_in seal.form)
  count_is = ap length is.rows

  -- so its body is as long
  pub length_of_seal : length (body_of members entry) ≡ held_before members seal.form (length (rows_in seal.form))
  length_of_seal =
      length-body members entry ∙ ap (held_before members (form_of entry)) count_is
      ∙ before_agrees members (form_of entry) seal.form (length (rows_in seal.form)) (λ k m below within. is.held k m below within)

  pub rank_of_seal : (i member : ℕ) → i < length (rows_in seal.form) → member < members
      → rank members (form_of entry) i member ≡ rank members seal.form i member
  rank_of_seal i member below within = rank_agrees members (form_of entry) seal.form i member
      (λ k m upto inside. is.held k m (omega (arith, upto, below)) inside) (omega (arith, within))

-- what is written of an entry in memory stands where its seal says
pub bodies_in_place : (members : ℕ) (seal : Seal) (entry : Entry) (i member k : ℕ) → members ≤ MOST_MEMBERS → IsEntryOf members seal.form entry
    → i < length (rows_in seal.form) → member < members → place_by_seal members seal (row_at (rows_in seal.form) i) member ≡ Some (body_start seal + k)
    → get_or (body_of members entry) k [] ≡ sector_at entry i member
bodies_in_place members seal entry i member k few is below within found = by_bit (in_body members seal.form i member) refl
  where
    by_bit : (b : Bool) → in_body members seal.form i member ≡ b → get_or (body_of members entry) k [] ≡ sector_at entry i member
    by_bit false lacking =
        let none = place_lacking members seal (row_at (rows_in seal.form) i) i member
        (place_of_row (rows_in seal.form) i seal.allowed.rows.rising below) lacking in
        absurd (cc)
    by_bit true held =
        let place = place_held members seal (row_at (rows_in seal.form) i) i member (place_of_row (rows_in seal.form) i seal.allowed.rows.rising below) held in
        let one : body_start seal + rank members seal.form i member ≡ body_start seal + k = cc in
        let there : rank members seal.form i member ≡ k = omega (arith, one) in
        let of_entry : in_body members (form_of entry) i member ≡ true = is.held i member below within ∙ held in
        ap (λ (n : ℕ). get_or (body_of members entry) n []) (sym there ∙ sym (rank_of_seal members seal entry few is i member below within))
        ∙ body_at members entry i member few (omega (arith, ap length is.rows, below)) within of_entry

-- the form that an entry in memory has in a seal is that of the entry
pub entry_of_form : (members : ℕ) (entry : Entry) (format : Format) (form : Form) → IsFormOf entry format form → IsEntryOf members form entry
entry_of_form members entry format form is = record {
  rows = sym is.rows;
  held = λ i member below within. sym (is.held members i member (omega (arith, below, ap length is.rows)));
  zeros = λ i below. is.zeros i (omega (arith, below, ap length is.rows));
}

-- a body whose seal is of the format of a set fits a half there
pub body_fits : (members : ℕ) (format : Format) (seal : Seal) (entry : Entry) → members ≤ MOST_MEMBERS → format_of seal.form ≡ format
    → IsEntryOf members seal.form entry → length (body_of members entry) ≤ body_sectors format
body_fits members format seal entry few of_format is =
    omega (arith, length_of_seal members seal entry few is, body_few members seal.form few seal.formed, ap body_sectors of_format)

-- what an entry in memory holds is what its seal says

pub holds_as_form : (members : ℕ) (form : Form) (entry : Entry) (i member : ℕ) → IsEntryOf members form entry → i < length (rows_in form) → member < members
    → holds_sector entry i member ≡ holds members form i member
holds_as_form members form entry i member is below within = by_zeros (has_zeros form i) refl
  where
    mask : ℕ
    mask = row_mask entry i

    by_zeros : (b : Bool) → has_zeros form i ≡ b → holds_sector entry i member ≡ holds members form i member
    by_zeros true zeros =
        ap (λ (b : Bool). cond b true (has_bit mask member)) (sym (is.zeros i below) ∙ zeros) ∙ sym (lt-ltb member members within)
        ∙ sym (ap (λ (b : Bool). cond b (nat_lt member members) (in_body members form i member)) zeros)
    by_zeros false other =
        ap (λ (b : Bool). cond b true (has_bit mask member)) (sym (is.zeros i below) ∙ other) ∙ is.held i member below within
        ∙ sym (ap (λ (b : Bool). cond b (nat_lt member members) (in_body members form i member)) other)

-- of a row of which it has two sectors it holds what its body has

pub none_of_zeros : (entry : Entry) (format : Format) (form : Form) (i : ℕ) → IsFormOf entry format form → i < length (numbers_of entry)
    → 2 ≤ count_ones (row_mask entry i) → has_zeros form i ≡ false
none_of_zeros entry format form i is within two = is.zeros i within ∙ no_row_of_zeros (row_mask entry i) two

pub holds_bits : (members : ℕ) (entry : Entry) (format : Format) (form : Form) (i member : ℕ) → IsFormOf entry format form → i < length (numbers_of entry)
    → 2 ≤ count_ones (row_mask entry i) → holds members form i member ≡ has_bit (row_mask entry i) member
holds_bits members entry format form i member is within two =
    ap (λ (b : Bool). cond b (nat_lt member members) (in_body members form i member)) (none_of_zeros entry format form i is within two)
    ∙ is.held members i member within

-- an entry of the same form as another is of the same seal
pub entry_stays : (members : ℕ) (form : Form) (old new : Entry) → form_of new ≡ form_of old → IsEntryOf members form old → IsEntryOf members form new
entry_stays members form old new same is = record {
  rows = ap rows_in same ∙ is.rows;
  held = λ i member below within. ap (λ (f : Form). in_body members f i member) same ∙ is.held i member below within;
  zeros = λ i below. is.zeros i below ∙ ap (λ (mask : ℕ). mask == 0) (sym (same_mask i));
}
  where
    same_masks : (old new : Entry) → form_of new ≡ form_of old → masks_of new ≡ masks_of old
    same_masks old new same = cc

    same_mask : (i : ℕ) → row_mask new i ≡ row_mask old i
    same_mask i = ap (λ (masks : List ℕ). mask_at masks i) (same_masks old new same)
