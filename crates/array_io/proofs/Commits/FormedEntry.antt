-- The rows that a commit formed in an entry mean the logical list with the sectors written.
use Rattle.std.proofs.Common.{◌≡◌, ◌≢◌, ◌⊎◌, ◌↔◌, inl, inr, ℕ, zero, suc, ◌<◌, ◌≤◌, Bool, true, false, List, [], ◌∷◌, length, refl, sym, ◌∙◌, ap, subst, arith}
use Rattle.std.specs.Prelude.{count_ones, slice_index_or}
use Rattle.std.proofs.lemmas.Bool.{cases_eq}
use Rattle.std.proofs.lemmas.List.{get_or-set_other, get_or-set_same}
use Rattle.std.proofs.lemmas.List.FromFn.{get_or-map-range_with_len, length-map-range_with_len}
use Rattle.sector_model.specs.History.{Bytes}
use Rattle.layout_map.specs.declared.geometry.Geometry.{Geometry}
use Rattle.layout_map.specs.Placement.{data_sectors_of, rows_of, IsPlace}
use Rattle.layout_map.proofs.Places.{logical_is_one, parity_is_there, parity_member_of, place_beside_parity, place_is_no_parity, place_member_below}
use Rattle.layout_map.specs.declared.sizes.TheConstants.{MOST_MEMBERS}
use Rattle.parity.specs.Xor.{IsSoundRow}
use Rattle.stripe_journal.specs.declared.entry.Entry.{Entry}
use Rattle.stripe_journal.specs.Entries.{body_of, form_of, numbers_of, row_mask}
use Rattle.stripe_journal.specs.Forms.{has_bit, in_body, rank}
use Rattle.stripe_journal.specs.Seals.{row_at}
use Rattle.stripe_journal.proofs.Entries.{body_at}
use Rattle.degraded.specs.RowValue.{AreSound, Rows, logical_list, row_values, value}
use Rattle.array_io.specs.Believed.ArrayCalls.{written}
use Rattle.array_io.specs.Steps.Forming.{IsAmong, IsFormed, row_of_logical}
use Rattle.array_io.specs.Steps.FormingRows.{Given, logical_at, bytes_at, row_with, sector_with, HasLogical, IsChanged, AreApart, AreOfSet, AreRowsOf}
use Rattle.array_io.specs.Steps.FormingRows.{HoldsChanged, HoldsGiven, IsTouched, FormsListed}
use Rattle.array_io.proofs.Commits.BufferRows.{held_with, lacking_with, length-row_with, member_with}
use Rattle.array_io.proofs.Commits.ChangedRows.{two_bits}
use Rattle.array_io.proofs.Commits.EntryValues.{values_of}
use Rattle.array_io.proofs.Commits.FormedRows.{length-logical_list, length-written, sector_of_logical_list, written_elsewhere}
use Rattle.array_io.proofs.Images.SameList.{HaveWholeValues, value_placed}
use Rattle.array_io.proofs.Reading.ListedRows.{row_listed, value_in_row}

-- there are as many lists as rows
pub length-values : (members : ℕ) (base : Rows) (entry : Entry) → length (values_of members base entry) ≡ length (numbers_of entry)
length-values members base entry = length-map-range_with_len (λ (i : ℕ). row_with members entry i (row_values base (row_at (numbers_of entry) i))) 0
    (length (numbers_of entry))

-- each is the row's
pub values_at : (members : ℕ) (base : Rows) (entry : Entry) (i : ℕ) → i < length (numbers_of entry)
    → slice_index_or (values_of members base entry) i [] ≡ row_with members entry i (row_values base (row_at (numbers_of entry) i))
values_at members base entry i below =
    get_or-map-range_with_len (λ (k : ℕ). row_with members entry k (row_values base (row_at (numbers_of entry) k))) 0 (length (numbers_of entry)) i i [] below
    (omega arith)

-- so it has as many sectors as there are members
pub width_of_values : (members : ℕ) (base : Rows) (entry : Entry) (i : ℕ) → i < length (numbers_of entry)
    → length (slice_index_or (values_of members base entry) i []) ≡ members
width_of_values members base entry i below = ap length (values_at members base entry i below)
    ∙ length-row_with members entry i (row_values base (row_at (numbers_of entry) i))

-- and each of them is the entry's, or that of the rows
pub value_at : (members : ℕ) (base : Rows) (entry : Entry) (i member : ℕ) → i < length (numbers_of entry) → member < members
    → slice_index_or (slice_index_or (values_of members base entry) i []) member [] ≡ sector_with entry i (row_values base (row_at (numbers_of entry) i)) member
value_at members base entry i member below within =
    ap (λ (row : List Bytes). slice_index_or row member []) (values_at members base entry i below)
    ∙ member_with members entry i (row_values base (row_at (numbers_of entry) i)) member within

-- the entry's stand in its body one after another
pub body_is : (members : ℕ) (base : Rows) (entry : Entry) (i member : ℕ) → members ≤ MOST_MEMBERS → i < length (numbers_of entry) → member < members
    → in_body members (form_of entry) i member ≡ true
    → slice_index_or (body_of members entry) (rank members (form_of entry) i member) [] ≡ slice_index_or (slice_index_or (values_of members base entry) i [])
    member []
body_is members base entry i member few below within held =
    body_at members entry i member few below within held
    ∙ sym (value_at members base entry i member below within ∙ held_with entry i (row_values base (row_at (numbers_of entry) i)) member held)

-- and the others are as they were
pub kept : (members : ℕ) (base : Rows) (entry : Entry) (i member : ℕ) → base.members ≡ members → i < length (numbers_of entry) → member < members
    → in_body members (form_of entry) i member ≡ false → slice_index_or (slice_index_or (values_of members base entry) i []) member [] ≡ value base
    (row_at (numbers_of entry) i) member
kept members base entry i member width below within lacking =
    value_at members base entry i member below within
    ∙ lacking_with entry i (row_values base (row_at (numbers_of entry) i)) member lacking
    ∙ value_in_row base (row_at (numbers_of entry) i) member (omega (arith, width, within))

-- of sectors that are apart each is written
pub written_given : (V : List Bytes) (sectors : Given) (k : ℕ) → AreApart sectors → k < length sectors → logical_at sectors k < length V
    → slice_index_or (written V sectors) (logical_at sectors k) [] ≡ bytes_at sectors k
written_given V [] k apart within below = absurd (omega (arith, within))
written_given V (sector ∷ sectors) zero apart within below =
    get_or-set_same (written V sectors) sector.0 sector.1 [] (omega (arith, below, length-written V sectors))
written_given V (sector ∷ sectors) (suc k) apart within below =
    get_or-set_other (written V sectors) sector.0 (logical_at sectors k) sector.1 [] (λ is. apart 0 (suc k) (omega arith) within (sym is))
    ∙ written_given V sectors k (λ i j less inside. apart (suc i) (suc j) (omega (arith, less)) (omega (arith, inside))) (omega (arith, within)) below

-- a logical sector that is neither the first nor one of the others is none of them
not_first : (sector : ℕ × Bytes) (sectors : Given) (logical : ℕ) → sector.0 ≢ logical → ((k : ℕ) → k < length sectors → logical_at sectors k ≢ logical)
    → (k : ℕ) → k < length (sector ∷ sectors) → logical_at (sector ∷ sectors) k ≢ logical
not_first sector sectors logical apart none zero within = apart
not_first sector sectors logical apart none (suc k) within = none k (omega (arith, within))

-- a logical sector is one of those given, or none of them
pub given_or_not : (sectors : Given) (logical : ℕ) → HasLogical sectors logical ⊎ ((k : ℕ) → k < length sectors → logical_at sectors k ≢ logical)
given_or_not [] logical = inr (λ k within. absurd (omega (arith, within)))
given_or_not (sector ∷ sectors) logical = elim (cases_eq sector.0 logical) [
  | inl same ↦ inl (record { which = 0; within = omega arith; is = same })
  | inr apart ↦ elim (given_or_not sectors logical) [
    | inl has ↦ inl (record { which = suc has.which; within = omega (arith, has.within); is = has.is })
    | inr none ↦ inr (not_first sector sectors logical apart none)
  ]
]

module _ (geometry : Geometry) (base : Rows) (sectors : Given) (entry : Entry) (width : base.members ≡ geometry.members)
    (held : HoldsChanged geometry sectors entry)
    (given : HoldsGiven geometry sectors entry) (apart : AreApart sectors) (of_set : AreOfSet geometry sectors) where
  -- a sector that is given is written
  data_given : (i member logical : ℕ) → i < length (numbers_of entry) → IsPlace geometry.members geometry.chunk logical member (row_at (numbers_of entry) i)
      → HasLogical sectors logical → sector_with entry i (row_values base (row_at (numbers_of entry) i)) member ≡ slice_index_or
      (written (logical_list geometry base) sectors) logical []
  data_given i member logical within placed has =
      held_with entry i (row_values base (row_at (numbers_of entry) i)) member
      ((held i member within).1 (inl (record { which = has.which; within = has.within; lies = lies })))
      ∙ given has.which i member has.within within lies
      ∙ sym (written_given (logical_list geometry base) sectors has.which apart has.within
      (omega (arith, of_set has.which has.within, length-logical_list geometry base)))
      ∙ ap (λ (l : ℕ). slice_index_or (written (logical_list geometry base) sectors) l []) has.is
    where
      lies : IsPlace geometry.members geometry.chunk (logical_at sectors has.which) member (row_at (numbers_of entry) i)
      lies = subst (λ (l : ℕ). IsPlace geometry.members geometry.chunk l member (row_at (numbers_of entry) i)) (sym has.is) placed

  -- a sector that isn't given is the list's
  data_beside : (i member logical : ℕ) → i < length (numbers_of entry) → logical < data_sectors_of geometry.members geometry.chunk geometry.stripes
      → IsPlace geometry.members geometry.chunk logical member (row_at (numbers_of entry) i) → ((k : ℕ) → k < length sectors → logical_at sectors k ≢ logical)
      → sector_with entry i (row_values base (row_at (numbers_of entry) i)) member ≡ slice_index_or (written (logical_list geometry base) sectors) logical []
  data_beside i member logical within below placed none =
      lacking_with entry i (row_values base (row_at (numbers_of entry) i)) member (lacking (has_bit (row_mask entry i) member) refl)
      ∙ value_in_row base (row_at (numbers_of entry) i) member (omega (arith, width, place_member_below geometry.limits placed))
      ∙ value_placed geometry base logical (row_at (numbers_of entry) i) member placed
      ∙ sym (sector_of_logical_list geometry base logical below)
      ∙ sym (written_elsewhere (logical_list geometry base) sectors logical none)
    where
      not_changed : ¬ IsChanged geometry sectors (row_at (numbers_of entry) i) member
      not_changed changed = elim changed [
        | inl is ↦ none is.which is.within (logical_is_one geometry.limits is.lies placed)
        | inr parity ↦ place_is_no_parity geometry.limits placed parity
      ]

      lacking : (b : Bool) → has_bit (row_mask entry i) member ≡ b → has_bit (row_mask entry i) member ≡ false
      lacking false is = is
      lacking true is = absurd (not_changed ((held i member within).0 is))

  -- so the data sectors of the rows are those of the list with the sectors written
  data_is : (i member logical : ℕ) → i < length (numbers_of entry) → logical < data_sectors_of geometry.members geometry.chunk geometry.stripes
      → IsPlace geometry.members geometry.chunk logical member (row_at (numbers_of entry) i)
      → slice_index_or (slice_index_or (values_of geometry.members base entry) i []) member [] ≡ slice_index_or (written (logical_list geometry base) sectors)
      logical []
  data_is i member logical within below placed =
      value_at geometry.members base entry i member within (place_member_below geometry.limits placed)
      ∙ elim (given_or_not sectors logical) [
        | inl has ↦ data_given i member logical within placed has
        | inr none ↦ data_beside i member logical within below placed none
      ]

-- each sector's row is one of these
among_rows : (geometry : Geometry) (sectors : Given) (rows : List ℕ) → AreRowsOf geometry sectors rows → (k : ℕ) → k < length sectors
    → IsAmong rows (row_of_logical geometry (logical_at sectors k))
among_rows geometry sectors rows are k within =
    let has = are.each k _ _ within (record { on_member = refl; on_row = refl }) in
    record { place = has.place; within = has.within; is = has.is }

-- The rows formed in an entry from the list of these sound rows of whole values mean it with the sectors written.
pub forms_list : (geometry : Geometry) (base : Rows) (sectors : Given) (entry : Entry) → FormsListed geometry sectors (logical_list geometry base) entry
    → AreApart sectors → AreOfSet geometry sectors
    → base.members ≡ geometry.members → AreSound base (rows_of geometry.chunk geometry.stripes) → HaveWholeValues geometry base
    → IsFormed geometry base sectors (numbers_of entry) (values_of geometry.members base entry)
forms_list geometry base sectors entry forms apart of_set width sound whole = record {
  long = length-values geometry.members base entry;
  rising = forms.rows.rising;
  below = forms.rows.of_set;
  wide = λ i within. width_of_values geometry.members base entry i within;
  data_sectors = data_is geometry base sectors entry width forms.held forms.given apart of_set;
  sound = λ i within.
      let row = row_at (numbers_of entry) i in
      let below = forms.rows.of_set i within in
      subst (λ (values : List Bytes). IsSoundRow values) (sym (values_at geometry.members base entry i within))
      (forms.sound i within (row_values base row) (row_listed geometry base row width (sound row below) (λ member inside. whole row member below inside)));
  among = among_rows geometry sectors (numbers_of entry) forms.rows;
}

-- Each row holds two sectors at least: a given one, and the parity.
pub two_changed : (geometry : Geometry) (sectors : Given) (row mask : ℕ) → IsTouched geometry sectors row
    → ((member : ℕ) → (has_bit mask member ≡ true) ↔ IsChanged geometry sectors row member) → 2 ≤ count_ones mask
two_changed geometry sectors row mask touched changed =
    let parity = parity_is_there row geometry.limits in
    two_bits mask touched.member (parity_member_of geometry.members geometry.chunk row)
    (place_beside_parity geometry.limits touched.given.lies parity)
    ((changed touched.member).1 (inl touched.given)) ((changed (parity_member_of geometry.members geometry.chunk row)).1 (inr parity))

pub two_held : (geometry : Geometry) (sectors : Given) (entry : Entry) → AreRowsOf geometry sectors (numbers_of entry) → HoldsChanged geometry sectors entry
    → (i : ℕ) → i < length (numbers_of entry) → 2 ≤ count_ones (row_mask entry i)
two_held geometry sectors entry rows held i within =
    two_changed geometry sectors (row_at (numbers_of entry) i) (row_mask entry i) (rows.only i within) (λ member. held i member within)
