-- An entry whose rows are all zero is formed: its values are zeros.
use Rattle.std.proofs.Common.{◌≡◌, ℕ, ◌+◌, ◌<◌, ◌≤◌, Bool, true, cond, List, [], length, replicate, refl, sym, ◌∙◌, ap, subst, arith}
use Rattle.std.specs.Prelude.{nat_lt, slice_index_or}
use Rattle.std.specs.List.Sorted.{IsStrictlyIncreasing}
use Rattle.std.proofs.lemmas.Bool.{both_ways, eq-eqb, lt-ltb, ltb-true}
use Rattle.std.proofs.lemmas.List.{get_or-replicate, length-replicate}
use Rattle.sector_model.specs.History.{Bytes, History}
use Rattle.sector_model.specs.Readable.{readable}
use Rattle.layout_map.specs.declared.geometry.Geometry.{Geometry}
use Rattle.layout_map.specs.declared.sizes.TheConstants.{MOST_MEMBERS}
use Rattle.layout_map.specs.Placement.{rows_of}
use Rattle.layout_map.proofs.Places.{place_member_below}
use Rattle.parity.specs.Xor.{IsSoundRow, zero_sector}
use Rattle.parity.proofs.Laws.{sound_zeros, zero_sector-replicate}
use Rattle.superblock.specs.declared.table.Table.{Table}
use Rattle.stripe_journal.specs.declared.entry.Entry.{Entry}
use Rattle.stripe_journal.specs.declared.seal.Seal.{Seal}
use Rattle.stripe_journal.specs.Entries.{IsEntryOf, IsFormOf, body_of, numbers_of, row_mask}
use Rattle.stripe_journal.specs.Forms.{has_zeros, holds, in_body, rank, rows_in}
use Rattle.stripe_journal.specs.Seals.{row_at}
use Rattle.stripe_journal.proofs.HeldEntries.{entry_of_form, length_of_seal}
use Rattle.degraded.specs.RowValue.{Rows, logical_list}
use Rattle.array_io.specs.Believed.ArrayCalls.{written}
use Rattle.array_io.specs.Believed.Settled.{rows_by}
use Rattle.array_io.specs.Believed.ZeroRows.{zeros_in}
use Rattle.array_io.specs.Steps.Forming.{IsFormed}
use Rattle.array_io.proofs.Commits.CommittingBegins.{IsFormedNext}
use Rattle.array_io.proofs.Commits.FormedEntry.{written_given}
use Rattle.array_io.proofs.Commits.FormedRows.{length-logical_list}
use Rattle.array_io.proofs.Commits.ZeroRows.{zeros_apart, zeros_are_zero, zeros_have, zeros_in_rows}

-- zeros for each member of so many rows
abbrev pub zero_rows : (members count : ℕ) → List (List Bytes)
zero_rows members count = replicate count (replicate members zero_sector)

module _ (members count i : ℕ) (within : i < count) where
  row_is : slice_index_or (zero_rows members count) i [] ≡ replicate members zero_sector
  row_is = get_or-replicate count i (replicate members zero_sector) [] within

  pub zero_value : (member : ℕ) → member < members → slice_index_or (slice_index_or (zero_rows members count) i []) member [] ≡ zero_sector
  zero_value member below = ap (λ (row : List Bytes). slice_index_or row member []) row_is ∙ get_or-replicate members member zero_sector [] below

  zero_width : length (slice_index_or (zero_rows members count) i []) ≡ members
  zero_width = ap length row_is ∙ length-replicate members zero_sector

  zero_sound : IsSoundRow (slice_index_or (zero_rows members count) i [])
  zero_sound = subst (λ (row : List Bytes). IsSoundRow row) (sym row_is) (sound_zeros members)

-- rows of zeros mean the list with all their data sectors zero
pub zeros_formed : (geometry : Geometry) (base : Rows) (rows : List ℕ) → IsStrictlyIncreasing rows
    → ((i : ℕ) → i < length rows → row_at rows i < rows_of geometry.chunk geometry.stripes)
    → IsFormed geometry base (zeros_in geometry rows) rows (zero_rows geometry.members (length rows))
zeros_formed geometry base rows rising below = record {
  long = length-replicate (length rows) (replicate geometry.members zero_sector);
  rising = rising;
  below = below;
  wide = λ i within. zero_width geometry.members (length rows) i within;
  data_sectors = λ i member logical within inside placed.
      let has = zeros_have geometry rows logical i inside within (sym placed.on_row) in
      let all = zeros_in geometry rows in
      zero_value geometry.members (length rows) i within member (place_member_below geometry.limits placed)
      ∙ sym (zeros_are_zero geometry rows has.which has.within)
      ∙ sym (written_given (logical_list geometry base) all has.which (zeros_apart geometry rows) has.within
      (omega (arith, inside, has.is, length-logical_list geometry base)))
      ∙ ap (λ (l : ℕ). slice_index_or (written (logical_list geometry base) all) l []) has.is;
  sound = λ i within. zero_sound geometry.members (length rows) i within;
  among = λ k within.
      let has = zeros_in_rows geometry rows k within in
      record { place = has.place; within = has.within; is = has.is };
}

module _ (number : ℕ) (table : Table) (h : History) (seal : Seal) (entry : Entry) (its_id : seal.id ≡ table.id) (its_number : seal.number ≡ number + 1)
    (its_form : IsFormOf entry table.geometry.format seal.form) (zeros : (i : ℕ) → i < length (numbers_of entry) → row_mask entry i ≡ 0)
    (below : (i : ℕ) → i < length (numbers_of entry) → row_at (numbers_of entry) i < rows_of table.geometry.chunk table.geometry.stripes) where
  abbrev members : ℕ
  members = table.geometry.members

  few : members ≤ MOST_MEMBERS
  few = table.geometry.limits.members_most

  of_entry : IsEntryOf members seal.form entry
  of_entry = entry_of_form members entry table.geometry.format seal.form its_form

  in_entry : (i : ℕ) → i < length (rows_in seal.form) → i < length (numbers_of entry)
  in_entry i = subst (λ (rows : List ℕ). i < length rows) its_form.rows

  all_zero : (i : ℕ) → i < length (rows_in seal.form) → has_zeros seal.form i ≡ true
  all_zero i within = its_form.zeros i (in_entry i within) ∙ eq-eqb (row_mask entry i) 0 (zeros i (in_entry i within))

  holds_all : (i member : ℕ) → i < length (rows_in seal.form) → holds members seal.form i member ≡ nat_lt member members
  holds_all i member within = ap (λ (b : Bool). cond b (nat_lt member members) (in_body members seal.form i member)) (all_zero i within)

  -- it is the next entry, and in each of its rows all members have zeros
  pub zeros_next : IsFormedNext number table h (zeros_in table.geometry (numbers_of entry)) seal (zero_rows members (length (numbers_of entry)))
      (body_of members entry)
  zeros_next = record {
    formed = subst (λ (rows : List ℕ). IsFormed table.geometry (rows_by table (readable h)) (zeros_in table.geometry (numbers_of entry)) rows
        (zero_rows members (length (numbers_of entry)))) (sym its_form.rows)
        (zeros_formed table.geometry (rows_by table (readable h)) (numbers_of entry)
        (subst (λ (rows : List ℕ). IsStrictlyIncreasing rows) its_form.rows seal.allowed.rows.rising) below);
    long = length_of_seal members seal entry few of_entry;
    held = λ i member within inside held.
        ap (λ (b : Bool). cond b (replicate 512 0) (slice_index_or (body_of members entry) (rank members seal.form i member) [])) (all_zero i within)
        ∙ zero_sector-replicate 512 refl
        ∙ sym (zero_value members (length (numbers_of entry)) i (in_entry i within) member inside);
    kept = λ i member within inside lacking.
        absurd (both_ways (nat_lt member members) (sym (holds_all i member within) ∙ lacking) (lt-ltb member members inside));
    next = its_number;
    belongs = record {
      of_set = its_id;
      of_format = its_form.of_format;
      own_place = refl;
      below = subst (λ (rows : List ℕ). (i : ℕ) → i < length rows → row_at rows i < rows_of table.geometry.chunk table.geometry.stripes) (sym its_form.rows)
          below;
      held = λ i within. record {
        of_set = λ member held. ltb-true member members (sym (holds_all i member within) ∙ held);
        has_parity = λ member parity. holds_all i member within ∙ lt-ltb member members parity.in_set;
      };
    };
  }
