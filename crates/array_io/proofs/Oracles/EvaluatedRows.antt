-- What one row of a set has in an image in memory.
use Rattle.std.proofs.Common.{Bool, IsTrue, List, None, Option, Some, [], ap, arith, false, inl, inr, length, subst, sym, ℕ, ◌+◌, ◌<◌, ◌↔◌, ◌∙◌, ◌≡◌, ◌≤◌}
use Rattle.std.proofs.lemmas.Grind.{get_or-set_at}
use Rattle.std.proofs.lemmas.List.{get_or-set_other, length-set}
use Rattle.std.specs.Prelude.{cond, replicate, slice_index_or, slice_set}
use Rattle.std.proofs.lemmas.Bool.{cases_eq}
use Rattle.sector_model.specs.History.{Bytes, Slots, disk_of, sector_of}
use Rattle.layout_map.specs.declared.sizes.TheConstants.{FIRST_ROW, MOST_MEMBERS}
use Rattle.layout_map.specs.Formats.{journal_sectors}
use Rattle.superblock.proofs.LeastSectors.{journal_least, member_least}
use Rattle.superblock.specs.declared.table.Table.{Table}
use Rattle.superblock.specs.Counted.{least_sectors}
use Rattle.stripe_journal.specs.Body.{place_by_seal, zero_by_seal}
use Rattle.stripe_journal.specs.LastEntry.{Entry, IsLastEntry, placed_or_zero, sector_of_last}
use Rattle.stripe_journal.proofs.Bodies.{bodies_within}
use Rattle.stripe_journal.proofs.EntrySectors.{sector_placed}
use Rattle.degraded.specs.RowValue.{Rows}
use Rattle.degraded.proofs.Values.{AgreeInRow, row_values-agree, value-agree}
use Rattle.array_io.specs.Oracle.{HasLastEntry, HaveSameValues, entry_of}
use Rattle.array_io.specs.declared.oracle.last_entry.LastEntry.{LastEntry}
use Rattle.array_io.specs.Believed.Holds.{AreRowsOf, IsLiveJournal, IsTrusted, row_count}
use Rattle.array_io.proofs.Images.Codecs.{spellings}
use Rattle.array_io.proofs.Images.Entries.{last_is_one}
use Rattle.array_io.proofs.Images.Rows.{same_test}

-- what was put at the first n members
pub record IsFilledTo (devices : ℕ) (table : Table) (image : Slots) (last : Option Entry) (row n : ℕ) (entry : List (Option Bytes)) (trusted : List Bool)
    (own : List Bytes) : Type 0 where
  pub long_entry : length entry ≡ MOST_MEMBERS
  pub long_trusted : length trusted ≡ MOST_MEMBERS
  pub long_own : length own ≡ MOST_MEMBERS
  pub entries : (k : ℕ) → k < n → slice_index_or entry k None ≡ sector_of_last table.geometry.members image last row k
  pub trusts : (k : ℕ) → k < n → IsTrue (slice_index_or trusted k false) ↔ IsTrusted devices table image row k
  pub owns : (k : ℕ) → k < n → FIRST_ROW + row < length (disk_of (image k)) → slice_index_or own k [] ≡ sector_of (disk_of (image k)) (FIRST_ROW + row)

-- one more place of a list was set
at_or_below : {A : Type 0} (xs : List A) (n k : ℕ) (x d : A) (expected : ℕ → A) → n < length xs → k < n + 1
    → (k < n → slice_index_or xs k d ≡ expected k) → x ≡ expected n → slice_index_or (slice_set xs n x) k d ≡ expected k
at_or_below xs n k x d expected within below earlier here = elim (cases_eq k n) [
  | inl same ↦ get_or-set_at xs n k x d same within ∙ here ∙ ap expected (sym same)
  | inr other ↦ get_or-set_other xs n k x d other ∙ earlier (omega arith)
]

-- one more member
pub filled_more : (devices : ℕ) (table : Table) (image : Slots) (last : Option Entry) (row n : ℕ) (entry : List (Option Bytes)) (trusted : List Bool)
    (own : List Bytes)
    (e : Option Bytes) (t : Bool) (o : Bytes) → n < MOST_MEMBERS → IsFilledTo devices table image last row n entry trusted own
    → e ≡ sector_of_last table.geometry.members image last row n → IsTrue t ↔ IsTrusted devices table image row n
    → (FIRST_ROW + row < length (disk_of (image n)) → o ≡ sector_of (disk_of (image n)) (FIRST_ROW + row))
    → IsFilledTo devices table image last row (n + 1) (slice_set entry n e) (slice_set trusted n t) (slice_set own n o)
filled_more devices table image last row n entry trusted own e t o few filled is_entry is_trusted is_own = record {
  long_entry = length-set entry n e ∙ filled.long_entry;
  long_trusted = length-set trusted n t ∙ filled.long_trusted;
  long_own = length-set own n o ∙ filled.long_own;
  entries = λ k below. at_or_below entry n k e None (λ k. sector_of_last table.geometry.members image last row k) (omega (arith, filled.long_entry)) below
      (filled.entries k) is_entry;
  trusts = λ k below. elim (cases_eq k n) [
    | inl same ↦ subst (λ (b : Bool). IsTrue b ↔ IsTrusted devices table image row k)
        (sym (get_or-set_at trusted n k t false same (omega (arith, filled.long_trusted))))
        (subst (λ (j : ℕ). IsTrue t ↔ IsTrusted devices table image row j) (sym same) is_trusted)
    | inr other ↦ subst (λ (b : Bool). IsTrue b ↔ IsTrusted devices table image row k) (sym (get_or-set_other trusted n k t false other))
        (filled.trusts k (omega arith))
  ];
  owns = λ k below long. elim (cases_eq k n) [
    | inl same ↦ get_or-set_at own n k o [] same (omega (arith, filled.long_own))
        ∙ is_own (subst (λ (j : ℕ). FIRST_ROW + row < length (disk_of (image j))) same long)
        ∙ ap (λ (j : ℕ). sector_of (disk_of (image j)) (FIRST_ROW + row)) (sym same)
    | inr other ↦ get_or-set_other own n k o [] other ∙ filled.owns k (omega arith) long
  ];
}

-- the rows that have the same of each member in each row
abbrev pub rows_with : ℕ → List (Option Bytes) → List Bool → List Bytes → Rows
rows_with members entry trusted own = record {
  members = members;
  entry = λ row member. slice_index_or entry member None;
  trusted = λ row member. slice_index_or trusted member false;
  own = λ row member. slice_index_or own member [];
}

member_long : (table : Table) (member n : ℕ) → member < table.geometry.members → least_sectors table.geometry member ≤ n → FIRST_ROW + row_count table ≤ n
member_long table member n within long =
    let least = member_least table.geometry member within in omega arith

pub same_values : (devices : ℕ) (table : Table) (image : Slots) (last : Option Entry) (row n : ℕ) (entry : List (Option Bytes)) (trusted : List Bool)
    (own : List Bytes)
    → row < row_count table → table.geometry.members ≤ n → IsLastEntry table.id table.geometry (IsLiveJournal devices table image) image last
    → IsFilledTo devices table image last row n entry trusted own
    → (rows : Rows) → AreRowsOf devices table image rows → HaveSameValues row (rows_with table.geometry.members entry trusted own) rows
same_values devices table image last row n entry trusted own below all is_last filled rows are =
    let sources = rows_with table.geometry.members entry trusted own in
    let agree : AgreeInRow row sources rows = record {
      width = sym are.width;
      entries = λ member within. filled.entries member (omega (arith, are.width))
          ∙ ap (λ (l : Option Entry). sector_of_last table.geometry.members image l row member)
          (last_is_one spellings table.id table.geometry (IsLiveJournal devices table image) image last are.last is_last are.is_last)
          ∙ sym (are.in_entry row member);
      trusts = λ member within. same_test (slice_index_or trusted member false) (rows.trusted row member)
          (IsTrusted devices table image row member) (IsTrusted devices table image row member)
          (filled.trusts member (omega (arith, are.width))) (are.trust row member (omega (arith, are.width))) (λ t. t) (λ t. t);
      owns = λ member within _ counts.
          let in_set : member < table.geometry.members = omega (arith, are.width) in
          let is = (are.trust row member in_set).0 counts in
          let long = member_long table member (length (disk_of (image member))) in_set is.live.long_enough in
          filled.owns member (omega arith) (omega arith) ∙ sym (are.own_sector row member in_set);
    } in
    record { values = λ member within. value-agree row member sources rows agree within; whole = row_values-agree row sources rows agree }

-- the last entry's sector, where its journal has it
pub entry_sector : (devices : ℕ) (table : Table) (image : Slots) (found : Option LastEntry) (last : LastEntry) (row member at : ℕ) (sector : Bytes)
    → found ≡ Some last → HasLastEntry devices table image found → member < table.geometry.members
    → Some at ≡ place_by_seal table.geometry.members last.seal row member
    → (at < length (disk_of (image last.journal)) → sector ≡ sector_of (disk_of (image last.journal)) at)
    → Some sector ≡ sector_of_last table.geometry.members image (entry_of found) row member
entry_sector devices table image found last row member at sector is has within there reads =
    let latest : HasLastEntry devices table image (Some last) = subst (λ (o : Option LastEntry). HasLastEntry devices table image o) is has in
    let long = latest.on_live.live.long_enough in
    let least = journal_least table.geometry last.journal latest.on_live.beyond_members in
    let body = bodies_within table.geometry.members last.seal row member at table.geometry.limits.members_most within (sym there) in
    let read : sector ≡ sector_of (disk_of (image last.journal)) at = reads
    (omega (arith, body.1, ap journal_sectors latest.sealed.counted.belongs.of_format, long, least)) in
    ap Some read
    ∙ sym (sector_placed table.geometry.members (image last.journal) last.seal row member at (sym there))
    ∙ ap (λ (o : Option LastEntry). sector_of_last table.geometry.members image (entry_of o) row member) (sym is)

-- and where it has no place a zero one, if the seal says so
pub no_entry_sector : (table : Table) (image : Slots) (found : Option LastEntry) (last : LastEntry) (row member : ℕ)
    → found ≡ Some last → place_by_seal table.geometry.members last.seal row member ≡ None
    → sector_of_last table.geometry.members image (entry_of found) row member
    ≡ cond (zero_by_seal table.geometry.members last.seal row member) (Some (replicate 512 0)) None
no_entry_sector table image found last row member is none =
    ap (λ (o : Option LastEntry). sector_of_last table.geometry.members image (entry_of o) row member) is
    ∙ ap (λ (o : Option ℕ). placed_or_zero (disk_of (image last.journal)) o (zero_by_seal table.geometry.members last.seal row member)) none
