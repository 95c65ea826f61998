-- What a seal may say of the sectors that its entry holds, as tests.
use Rattle.std.proofs.Common.{◌≡◌, ◌↔◌, ℕ, ◌+◌, ◌-◌, ◌<◌, ◌≤◌, Bool, true, false, List, length, take, drop, get_or, IsTrue, inl, inr, sym, subst, ap, ◌∙◌}
use Rattle.std.proofs.Common.{arith}
use Rattle.std.specs.Prelude.{count_ones}
use Rattle.std.proofs.lemmas.Bool.{cases_lt, false≢true}
use Rattle.std.proofs.lemmas.List.{get_or-drop, get_or-take, get_or_past, length-drop, length-take, length-take-le}
use Rattle.arrayvec.specs.ArrayVec.{ArrayVec}
use Rattle.layout_map.specs.declared.sizes.TheConstants.{ENTRY_ROWS}
use Rattle.stripe_journal.specs.declared.form.Form.TheVariants.{Held}
use Rattle.stripe_journal.specs.Forms.{AreMasks, IsForm, mask_at}

abbrev pub HoldTwo : List ℕ → Type 0
HoldTwo masks = (i : ℕ) → i < length masks → 2 ≤ count_ones (mask_at masks i)

abbrev pub AreZero : List ℕ → Type 0
AreZero masks = (i : ℕ) → i < length masks → mask_at masks i ≡ 0

-- the masks after those of the rows
abbrev pub beyond : List ℕ → (count : ℕ) → List ℕ
beyond masks count = take (ENTRY_ROWS - count) (drop count masks)

front : (masks : List ℕ) (count : ℕ) → count ≤ ENTRY_ROWS → AreMasks masks count → HoldTwo (take count masks)
front masks count few are i within =
    let long = are.long in
    let below : i < count = omega (arith, length-take-le count masks (omega arith)) in
    subst (λ (mask : ℕ). 2 ≤ count_ones mask) (sym (get_or-take count masks i 0 below)) (are.two_bits i below)

back : (masks : List ℕ) (count : ℕ) → AreMasks masks count → AreZero (beyond masks count)
back masks count are i within =
    let below : i < ENTRY_ROWS - count = omega (arith, length-take (ENTRY_ROWS - count) (drop count masks)) in
    get_or-take (ENTRY_ROWS - count) (drop count masks) i 0 below ∙ get_or-drop count masks i 0 ∙ are.rest (count + i) (omega arith)

both : (masks : List ℕ) (count : ℕ) → length masks ≡ ENTRY_ROWS → ((i : ℕ) → mask_at masks i < 256) → count ≤ ENTRY_ROWS → HoldTwo (take count masks)
    → AreZero (beyond masks count) → AreMasks masks count
both masks count long bytes few two zero = record {
  long = long;
  bytes = bytes;
  two_bits = λ i below.
      subst (λ (mask : ℕ). 2 ≤ count_ones mask) (get_or-take count masks i 0 below) (two i (omega (arith, length-take-le count masks (omega arith), below)));
  rest = λ i past_rows. elim (cases_lt i ENTRY_ROWS) [
    | inl within ↦
        let at : count + (i - count) ≡ i = omega (arith, past_rows) in
        let there : i - count < ENTRY_ROWS - count = omega (arith, past_rows, within) in
        let full : length (beyond masks count) ≡ ENTRY_ROWS - count =
        length-take-le (ENTRY_ROWS - count) (drop count masks) (omega (arith, length-drop count masks, long)) in
        ap (λ (k : ℕ). get_or masks k 0) (sym at) ∙ sym (get_or-drop count masks (i - count) 0)
        ∙ sym (get_or-take (ENTRY_ROWS - count) (drop count masks) (i - count) 0 there)
        ∙ zero (i - count) (omega (arith, full, there))
    | inr past ↦ get_or_past masks i 0 (omega (arith, long, past))
  ];
}

-- the masks of the rows have two bits each, and the others are tested
pub masks_by : (masks : List ℕ) (count : ℕ) (two zero : Bool) → length masks ≡ ENTRY_ROWS → ((i : ℕ) → mask_at masks i < 256) → count ≤ ENTRY_ROWS
    → IsTrue two ↔ HoldTwo (take count masks) → two ≡ true → IsTrue zero ↔ AreZero (beyond masks count) → IsTrue zero ↔ AreMasks masks count
masks_by masks count two zero long bytes few is_two holds is_zero = (
  λ rest. both masks count long bytes few (is_two.0 holds) (is_zero.0 rest),
  λ are. is_zero.1 (back masks count are),
)

-- a mask of a row has not
pub no_masks_by : (masks : List ℕ) (count : ℕ) (two : Bool) → count ≤ ENTRY_ROWS → IsTrue two ↔ HoldTwo (take count masks) → two ≡ false → IsTrue two
    ↔ AreMasks masks count
no_masks_by masks count two few is_two lacks = (
  λ holds. absurd (false≢true (sym lacks ∙ holds)),
  λ are. absurd (false≢true (sym lacks ∙ is_two.1 (front masks count few are))),
)

-- rows with masks of two bits each are a form that a seal may have
pub masked_formed : (rows : ArrayVec ℕ) (masks : List ℕ) → length rows.items ≤ ENTRY_ROWS → AreMasks masks (length rows.items) → IsForm (Held rows masks)
masked_formed rows masks few are = record {
  whole = λ own is. absurd (cc);
  held = λ own others is.
      let same : rows ≡ own = cc in
      let alike : masks ≡ others = cc in (
        omega (arith, few, ap (λ (r : ArrayVec ℕ). length r.items) same),
        subst (λ (m : List ℕ). AreMasks m (length own.items)) alike (subst (λ (r : ArrayVec ℕ). AreMasks masks (length r.items)) same are),
      );
}

pub formed_by : (rows : ArrayVec ℕ) (masks : List ℕ) → length rows.items ≤ ENTRY_ROWS → length masks ≡ ENTRY_ROWS → ((i : ℕ) → mask_at masks i < 256)
    → ((i : ℕ) → length rows.items ≤ i → mask_at masks i ≡ 0)
    → ((i : ℕ) → i < length rows.items → 2 ≤ count_ones (mask_at masks i)) → IsForm (Held rows masks)
formed_by rows masks few long bytes rest two = masked_formed rows masks few record { long = long; bytes = bytes; two_bits = two; rest = rest }
