-- The rows that a commit forms, as the last entry has them: they are sound, and the logical list is the one with the sectors written.
use Rattle.std.proofs.Common.{◌≡◌, ◌≢◌, ℕ, suc, ◌/◌, ◌<◌, Bool, true, false, List, [], ◌∷◌, length, Option, Some, None, refl, sym, ◌∙◌, ap, subst, arith}
use Rattle.std.specs.Prelude.{map, option_and_then, if◌then◌else◌, slice_index_or, IsSome, unwrap_or}
use Rattle.std.proofs.lemmas.Option.{none-some}
use Rattle.std.proofs.lemmas.List.{ext_get_or, get_or-set_other, length-set}
use Rattle.std.proofs.lemmas.List.FromFn.{fill_by_all, get_or-map-range_with_len, length-map-range_with_len}
use Rattle.sector_model.specs.History.{Bytes}
use Rattle.layout_map.specs.declared.geometry.Geometry.{Geometry}
use Rattle.layout_map.specs.Placement.{rows_of, data_sectors_of, member_of_chunk, IsPlace}
use Rattle.layout_map.proofs.Places.{place_member_below, place_row_below}
use Rattle.parity.specs.Xor.{xor_of_all, zero_sector, IsSoundRow}
use Rattle.stripe_journal.specs.declared.seal.Seal.{Seal}
use Rattle.stripe_journal.specs.Body.{place_in}
use Rattle.stripe_journal.specs.Forms.{holds, rows_in}
use Rattle.stripe_journal.specs.Seals.{row_at}
use Rattle.stripe_journal.proofs.Places.{no_row_without_place, row_of_place}
use Rattle.degraded.specs.RowValue.{Rows, others, direct_of, direct, value, row_values, AreSound, logical_value, logical_list}
use Rattle.degraded.proofs.Loss.{sound_value}
use Rattle.degraded.proofs.Others.{map-others}
use Rattle.degraded.proofs.Values.{from_others, known, length-value, row_values-same, value-direct, value-entry, value-neither, value-own}
use Rattle.array_io.specs.Believed.ArrayCalls.{written}
use Rattle.array_io.specs.Steps.Forming.{IsAmong, IsFormed, row_of_logical}

-- writing leaves the length
pub length-written : (V : List Bytes) (sectors : List (ℕ × Bytes)) → length (written V sectors) ≡ length V
length-written V [] = refl
length-written V (sector ∷ sectors) = length-set (written V sectors) sector.0 sector.1 ∙ length-written V sectors

-- and each sector that is not written
pub written_elsewhere : (V : List Bytes) (sectors : List (ℕ × Bytes)) (logical : ℕ)
    → ((k : ℕ) → k < length sectors → (slice_index_or sectors k (0, [])).0 ≢ logical)
    → slice_index_or (written V sectors) logical [] ≡ slice_index_or V logical []
written_elsewhere V [] logical apart = refl
written_elsewhere V (sector ∷ sectors) logical apart =
    get_or-set_other (written V sectors) sector.0 logical sector.1 [] (λ is. apart 0 (omega arith) (sym is))
    ∙ written_elsewhere V sectors logical (λ k within. apart (suc k) (omega arith))

-- how long a logical list is
pub length-logical_list : (geometry : Geometry) (rows : Rows)
    → length (logical_list geometry rows) ≡ data_sectors_of geometry.members geometry.chunk geometry.stripes
unfolding logical_list
length-logical_list geometry rows =
    length-map-range_with_len (λ (logical : ℕ). logical_value geometry rows logical) 0 (data_sectors_of geometry.members geometry.chunk geometry.stripes)

-- each sector of it is the value of that logical sector
pub sector_of_logical_list : (geometry : Geometry) (rows : Rows) (logical : ℕ) → logical < data_sectors_of geometry.members geometry.chunk geometry.stripes
    → slice_index_or (logical_list geometry rows) logical [] ≡ logical_value geometry rows logical
unfolding logical_list
sector_of_logical_list geometry rows logical below =
    get_or-map-range_with_len (λ (l : ℕ). logical_value geometry rows l) 0 (data_sectors_of geometry.members geometry.chunk geometry.stripes) logical logical []
    below (omega arith)

-- an own sector that counts is known directly
direct_own : (rows : Rows) (row member : ℕ) → rows.entry row member ≡ None → rows.trusted row member ≡ true
    → direct rows row member ≡ Some (rows.own row member)
direct_own rows row member none counts =
    ap (λ (entry : Option Bytes). direct_of entry (rows.trusted row member) (rows.own row member)) none
    ∙ ap (λ (t : Bool). direct_of None t (rows.own row member)) counts

-- In a row two ways to it have no entry; what the first counts of the members' own sectors the second has too, and counts; the
-- first does without one member's at most; and those that the second counts are whole.
pub record CountsLess (row members : ℕ) (after base : Rows) : Type 0 where
  pub width_after : after.members ≡ members
  pub width : base.members ≡ members
  pub bare_after : (member : ℕ) → member < members → after.entry row member ≡ None
  pub bare : (member : ℕ) → member < members → base.entry row member ≡ None
  pub trust : (member : ℕ) → member < members → after.trusted row member ≡ true → base.trusted row member ≡ true
  pub own : (member : ℕ) → member < members → after.trusted row member ≡ true → after.own row member ≡ base.own row member
  pub whole : (member : ℕ) → member < members → base.trusted row member ≡ true → length (base.own row member) ≡ 512
  pub one_out : (first second : ℕ) → first < members → second < members → after.trusted row first ≡ false → after.trusted row second ≡ false → first ≡ second

-- then the values are the same where the row is sound
pub value_counted_less : (row members : ℕ) (after base : Rows) → CountsLess row members after base → IsSoundRow (row_values base row)
    → (member : ℕ) → member < members → value after row member ≡ value base row member
value_counted_less row members after base less sound member within = by_trust (after.trusted row member) refl
  where
    counts_other : after.trusted row member ≡ false → (other : ℕ) → other < members → other ≢ member → after.trusted row other ≡ true
    counts_other out other inside apart = by_other (after.trusted row other) refl
      where
        by_other : (t : Bool) → after.trusted row other ≡ t → after.trusted row other ≡ true
        by_other true is = is
        by_other false is = absurd (apart (less.one_out other member inside within is out))

    base_direct : after.trusted row member ≡ false → (other : ℕ) → other < members → other ≢ member → direct base row other ≡ Some (base.own row other)
    base_direct out other inside apart = direct_own base row other (less.bare other inside) (less.trust other inside (counts_other out other inside apart))

    same_known : after.trusted row member ≡ false → (other : ℕ) → other < members → other ≢ member → known after row other ≡ known base row other
    same_known out other inside apart =
        let counts = counts_other out other inside apart in
        ap (λ (option : Option Bytes). unwrap_or option zero_sector) (
        direct_own after row other (less.bare_after other inside) counts ∙ ap Some (less.own other inside counts) ∙ sym (base_direct out other inside apart)
        )

    same_others : after.trusted row member ≡ false → from_others after row member ≡ from_others base row member
    same_others out =
        ap (λ (n : ℕ). xor_of_all (map (λ (other : ℕ). known after row other) (others n member))) less.width_after
        ∙ ap xor_of_all (map-others (λ (other : ℕ). known after row other) (λ (other : ℕ). known base row other) member 0 members (λ other below apart.
        same_known out other (omega (arith, below)) apart))
        ∙ sym (ap (λ (n : ℕ). xor_of_all (map (λ (other : ℕ). known base row other) (others n member))) less.width)

    base_value : after.trusted row member ≡ false → (t : Bool) → base.trusted row member ≡ t → value base row member ≡ from_others base row member
    base_value out false is = value-neither base row member (less.bare member within) is
    base_value out true is =
        sound_value base row member (omega (arith, less.width, within)) sound
        (ap length (value-own base row member (less.bare member within) is) ∙ less.whole member within is)
        (λ other inside apart. subst (λ (option : Option Bytes). IsSome option) (sym (base_direct out other (omega (arith, less.width, inside)) apart)) refl)

    by_trust : (t : Bool) → after.trusted row member ≡ t → value after row member ≡ value base row member
    by_trust true is =
        value-own after row member (less.bare_after member within) is ∙ less.own member within is
        ∙ sym (value-own base row member (less.bare member within) (less.trust member within is))
    by_trust false is = value-neither after row member (less.bare_after member within) is ∙ same_others is ∙ sym (base_value is (base.trusted row member) refl)

-- the sector that an entry of a seal with these new rows has for a member in a row, if it holds one
abbrev pub formed_sector : (members : ℕ) → Seal → (values : List (List Bytes)) → (row member : ℕ) → Option Bytes
formed_sector members seal values row member = option_and_then
    (λ i. if holds members seal.form i member then Some (slice_index_or (slice_index_or values i []) member []) else None) (place_in (rows_in seal.form) row)

-- The second way to the rows is the first, with an entry of a seal: the entry has what it holds of the new rows, whose other sectors are as they
-- were; and the second does without one member's own sector of a row at most.
pub record TakesEntry (geometry : Geometry) (base after : Rows) (seal : Seal) (values : List (List Bytes)) : Type 0 where
  pub width : base.members ≡ geometry.members
  pub width_after : after.members ≡ geometry.members
  pub bare : (row member : ℕ) → base.entry row member ≡ None
  pub entry : (row member : ℕ) → row < rows_of geometry.chunk geometry.stripes → member < geometry.members
      → after.entry row member ≡ formed_sector geometry.members seal values row member
  pub kept : (i member : ℕ) → i < length (rows_in seal.form) → member < geometry.members → holds geometry.members seal.form i member ≡ false
      → slice_index_or (slice_index_or values i []) member [] ≡ value base (row_at (rows_in seal.form) i) member
  pub trust : (row member : ℕ) → row < rows_of geometry.chunk geometry.stripes → member < geometry.members → after.trusted row member ≡ true
      → base.trusted row member ≡ true
  pub own : (row member : ℕ) → row < rows_of geometry.chunk geometry.stripes → member < geometry.members → after.entry row member ≡ None
      → after.trusted row member ≡ true
      → after.own row member ≡ base.own row member
  pub whole : (row member : ℕ) → row < rows_of geometry.chunk geometry.stripes → member < geometry.members → base.trusted row member ≡ true
      → length (base.own row member) ≡ 512
  pub one_out : (row first second : ℕ) → row < rows_of geometry.chunk geometry.stripes → first < geometry.members → second < geometry.members
      → after.trusted row first ≡ false → after.trusted row second ≡ false → first ≡ second

module _ (geometry : Geometry) (base after : Rows) (sectors : List (ℕ × Bytes)) (seal : Seal) (values : List (List Bytes))
    (formed : IsFormed geometry base sectors (rows_in seal.form) values) (takes : TakesEntry geometry base after seal values)
    (row i : ℕ) (below : row < rows_of geometry.chunk geometry.stripes) (found : place_in (rows_in seal.form) row ≡ Some i) where
  abbrev new : ℕ → Bytes
  new member = slice_index_or (slice_index_or values i []) member []

  inside : i < length (rows_in seal.form)
  inside = (row_of_place (rows_in seal.form) row i found).0

  -- the entry has a sector that it holds, and no other
  entry_held : (member : ℕ) → member < geometry.members → (b : Bool) → holds geometry.members seal.form i member ≡ b
      → after.entry row member ≡ (if b then Some (new member) else None)
  entry_held member within b is = takes.entry row member below within
      ∙ ap (λ (place : Option ℕ). option_and_then (λ n. if holds geometry.members seal.form n member then Some
      (slice_index_or (slice_index_or values n []) member []) else None) place) found
      ∙ ap (λ (h : Bool). if h then Some (new member) else None) is

  -- what it doesn't hold is as it was
  as_it_was : (member : ℕ) → member < geometry.members → holds geometry.members seal.form i member ≡ false → new member ≡ value base row member
  as_it_was member within lacking = takes.kept i member inside within lacking
      ∙ ap (λ (r : ℕ). value base r member) (row_of_place (rows_in seal.form) row i found).1

  -- a member that it holds, or that is trusted, is known, with the new sector
  is_known : (member : ℕ) → member < geometry.members → (holds geometry.members seal.form i member ≡ false → after.trusted row member ≡ true)
      → direct after row member ≡ Some (new member)
  is_known member within trusted = by_held (holds geometry.members seal.form i member) refl
    where
      by_held : (b : Bool) → holds geometry.members seal.form i member ≡ b → direct after row member ≡ Some (new member)
      by_held true is = ap (λ (entry : Option Bytes). direct_of entry (after.trusted row member) (after.own row member)) (entry_held member within true is)
      by_held false is =
          let none = entry_held member within false is in
          let counts = trusted is in
          direct_own after row member none counts
          ∙ ap Some (takes.own row member below within none counts
          ∙ sym (value-own base row member (takes.bare row member) (takes.trust row member below within counts))
          ∙ sym (as_it_was member within is))

  -- the new row, as one whose members are all known
  new_rows : Rows
  new_rows = record { members = geometry.members; entry = λ r member. Some (new member); trusted = λ r member. true; own = λ r member. new member }

  new_value : (member : ℕ) → value new_rows row member ≡ new member
  unfolding new_rows
  new_value member = value-entry new_rows row member (new member) refl

  sound_new : IsSoundRow (row_values new_rows row)
  unfolding new_rows
  sound_new = subst (λ (sectors_of_row : List Bytes). IsSoundRow sectors_of_row)
      (fill_by_all (λ (member : ℕ). value new_rows row member) (slice_index_or values i []) geometry.members [] (formed.wide i inside)
      (λ member within. sym (new_value member)))
      (formed.sound i inside)

  -- one that is neither is the XOR of the others
  from_the_others : (member : ℕ) → member < geometry.members → holds geometry.members seal.form i member ≡ false → after.trusted row member ≡ false
      → value after row member ≡ new member
  unfolding new_rows
  from_the_others member within lacking out =
      value-neither after row member (entry_held member within false lacking) out
      ∙ ap (λ (n : ℕ). xor_of_all (map (λ (other : ℕ). known after row other) (others n member))) takes.width_after
      ∙ ap xor_of_all (map-others (λ (other : ℕ). known after row other) (λ (other : ℕ). known new_rows row other) member 0 geometry.members
      (λ other bound apart.
      ap (λ (option : Option Bytes). unwrap_or option zero_sector)
      (is_known other (omega (arith, bound)) (λ none. counts_other other (omega (arith, bound)) apart))))
      ∙ sym (sound_value new_rows row member within sound_new (ap length (new_value member) ∙ long) (λ other bound apart. refl))
      ∙ new_value member
    where
      counts_other : (other : ℕ) → other < geometry.members → other ≢ member → after.trusted row other ≡ true
      counts_other other bound apart = by_other (after.trusted row other) refl
        where
          by_other : (t : Bool) → after.trusted row other ≡ t → after.trusted row other ≡ true
          by_other true is = is
          by_other false is = absurd (apart (takes.one_out row other member below bound within is out))

      long : length (new member) ≡ 512
      long = ap length (as_it_was member within lacking) ∙ length-value base row member
          (λ sector is. absurd (none-some sector (sym (takes.bare row member) ∙ is)))
          (λ none trusted. takes.whole row member below within trusted)

  -- in a row of the entry the value is that of the new row
  pub value_formed : (member : ℕ) → member < geometry.members → value after row member ≡ new member
  value_formed member within = by_held (holds geometry.members seal.form i member) refl
    where
      by_trust : holds geometry.members seal.form i member ≡ false → (t : Bool) → after.trusted row member ≡ t → value after row member ≡ new member
      by_trust lacking true is = value-direct after row member (new member) (is_known member within (λ none. is))
      by_trust lacking false is = from_the_others member within lacking is

      by_held : (b : Bool) → holds geometry.members seal.form i member ≡ b → value after row member ≡ new member
      by_held true is = value-entry after row member (new member) (entry_held member within true is)
      by_held false is = by_trust is (after.trusted row member) refl

  -- so the row is that one
  row_formed : slice_index_or values i [] ≡ row_values after row
  row_formed = fill_by_all (λ (member : ℕ). value after row member) (slice_index_or values i []) after.members [] (formed.wide i inside ∙ sym takes.width_after)
      (λ member within.
      sym (value_formed member (omega (arith, takes.width_after, within))))

-- in another row it stays
pub value_beside : (geometry : Geometry) (base after : Rows) (seal : Seal) (values : List (List Bytes)) → TakesEntry geometry base after seal values
    → AreSound base (rows_of geometry.chunk geometry.stripes) → (row member : ℕ) → row < rows_of geometry.chunk geometry.stripes → member < geometry.members
    → place_in (rows_in seal.form) row ≡ None → value after row member ≡ value base row member
value_beside geometry base after seal values takes sound row member below within none = value_counted_less row geometry.members after base (record {
  width_after = takes.width_after;
  width = takes.width;
  bare_after = λ m inside. no_entry m inside;
  bare = λ m inside. takes.bare row m;
  trust = λ m inside. takes.trust row m below inside;
  own = λ m inside. takes.own row m below inside (no_entry m inside);
  whole = λ m inside. takes.whole row m below inside;
  one_out = λ first second inside inside'. takes.one_out row first second below inside inside';
}) (sound row below) member within
  where
    no_entry : (m : ℕ) → m < geometry.members → after.entry row m ≡ None
    no_entry m inside = takes.entry row m below inside
        ∙ ap (option_and_then (λ (n : ℕ). if holds geometry.members seal.form n m then Some (slice_index_or
        (slice_index_or values n []) m []) else None)) none

-- the rows with the entry are sound
sound_formed : (geometry : Geometry) (base after : Rows) (sectors : List (ℕ × Bytes)) (seal : Seal) (values : List (List Bytes))
    → IsFormed geometry base sectors (rows_in seal.form) values
    → TakesEntry geometry base after seal values → AreSound base (rows_of geometry.chunk geometry.stripes)
    → AreSound after (rows_of geometry.chunk geometry.stripes)
sound_formed geometry base after sectors seal values formed takes sound = λ row below. by_place row below (place_in (rows_in seal.form) row) refl
  where
    by_place : (row : ℕ) → row < rows_of geometry.chunk geometry.stripes → (place : Option ℕ) → place_in (rows_in seal.form) row ≡ place
        → IsSoundRow (row_values after row)
    by_place row below (Some i) found =
        let within = (row_of_place (rows_in seal.form) row i found).0 in
        subst (λ (sectors_of_row : List Bytes). IsSoundRow sectors_of_row) (row_formed geometry base after sectors seal values formed takes row i below found)
        (formed.sound i within)
    by_place row below None none =
        subst (λ (sectors_of_row : List Bytes). IsSoundRow sectors_of_row)
        (sym (row_values-same row after base (takes.width_after ∙ sym takes.width) (λ member within.
        value_beside geometry base after seal values takes sound row member below (omega (arith, takes.width, within)) none)))
        (sound row below)

-- a logical sector's value with the entry is that of the list with the sectors written
logical_formed : (geometry : Geometry) (base after : Rows) (sectors : List (ℕ × Bytes)) (seal : Seal) (values : List (List Bytes))
    → IsFormed geometry base sectors (rows_in seal.form) values
    → TakesEntry geometry base after seal values → AreSound base (rows_of geometry.chunk geometry.stripes)
    → (logical : ℕ) → logical < data_sectors_of geometry.members geometry.chunk geometry.stripes
    → logical_value geometry after logical ≡ slice_index_or (written (logical_list geometry base) sectors) logical []
logical_formed geometry base after sectors seal values formed takes sound logical below = by_place (place_in (rows_in seal.form) row) refl
  where
    row : ℕ
    row = row_of_logical geometry logical

    member : ℕ
    member = member_of_chunk geometry.members (logical / geometry.chunk)

    placed : IsPlace geometry.members geometry.chunk logical member row
    placed = record { on_member = refl; on_row = refl }

    row_below : row < rows_of geometry.chunk geometry.stripes
    row_below = place_row_below geometry.limits below placed

    within : member < geometry.members
    within = place_member_below geometry.limits placed

    untouched : place_in (rows_in seal.form) row ≡ None → (k : ℕ) → k < length sectors → (slice_index_or sectors k (0, [])).0 ≢ logical
    untouched none k k_within is =
        let among : IsAmong (rows_in seal.form) (row_of_logical geometry (slice_index_or sectors k (0, [])).0) = formed.among k k_within in
        no_row_without_place (rows_in seal.form) row among.place none among.within (among.is ∙ ap (row_of_logical geometry) is)

    by_place : (place : Option ℕ) → place_in (rows_in seal.form) row ≡ place
        → value after row member ≡ slice_index_or (written (logical_list geometry base) sectors) logical []
    by_place (Some i) found =
        let at = row_of_place (rows_in seal.form) row i found in
        value_formed geometry base after sectors seal values formed takes row i row_below found member within
        ∙ formed.data_sectors i member logical at.0 below (subst (IsPlace geometry.members geometry.chunk logical member) (sym at.1) placed)
    by_place None none =
        value_beside geometry base after seal values takes sound row member row_below within none
        ∙ sym (sector_of_logical_list geometry base logical below)
        ∙ sym (written_elsewhere (logical_list geometry base) sectors logical (untouched none))

-- The rows with the entry are sound, and their logical list is that of the rows before, with the sectors written.
pub takes_formed : (geometry : Geometry) (base after : Rows) (sectors : List (ℕ × Bytes)) (seal : Seal) (values : List (List Bytes))
    → IsFormed geometry base sectors (rows_in seal.form) values
    → TakesEntry geometry base after seal values → AreSound base (rows_of geometry.chunk geometry.stripes)
    → AreSound after (rows_of geometry.chunk geometry.stripes) × (logical_list geometry after ≡ written (logical_list geometry base) sectors)
takes_formed geometry base after sectors seal values formed takes sound = (
  sound_formed geometry base after sectors seal values formed takes sound,
  ext_get_or [] (logical_list geometry after) (written (logical_list geometry base) sectors)
      (length-logical_list geometry after ∙ sym (length-written (logical_list geometry base) sectors ∙ length-logical_list geometry base))
      (λ logical within.
      let below : logical < data_sectors_of geometry.members geometry.chunk geometry.stripes = omega (arith, length-logical_list geometry after, within) in
      sector_of_logical_list geometry after logical below ∙ logical_formed geometry base after sectors seal values formed takes sound logical below),
)
