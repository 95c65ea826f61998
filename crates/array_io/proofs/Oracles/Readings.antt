-- What is read of an image says what its rows are.
use Rattle.std.proofs.Common.{◌≡◌, ◌↔◌, inl, inr, ℕ, ◌+◌, ◌<◌, Bool, true, false, List, length, refl, sym, ◌∙◌, subst, arith, IsTrue}
use Rattle.std.specs.Prelude.{◌&&◌, nat_lt, slice_index_or, slice_set}
use Rattle.std.proofs.lemmas.Bool.{cases_eq}
use Rattle.std.proofs.lemmas.Bool.Decides.{nat_tests}
use Rattle.std.proofs.lemmas.List.{get_or-set_same, get_or-set_other, length-set}
use Rattle.sector_model.specs.History.{Slots}
use Rattle.layout_map.specs.declared.sizes.TheConstants.{MOST_MEMBERS}
use Rattle.superblock.specs.declared.state.State.{State}
use Rattle.superblock.specs.declared.state.State.TheVariants.{Missing, InSync, Rebuilding}
use Rattle.superblock.specs.declared.table.Table.{Table}
use Rattle.superblock.specs.Tables.{state_at}
use Rattle.superblock.specs.Counted.{IsLive}
use Rattle.array_io.specs.declared.oracle.image_rows.Reading.{Reading}
use Rattle.array_io.specs.Believed.Holds.{AreRowsOf}
use Rattle.array_io.specs.Oracle.{AreLive, HasLastEntry, entry_of, is_rebuilt, rows_by}

-- before the first member
pub none_live : (devices : ℕ) (table : Table) (image : Slots) (flags : List Bool) → length flags ≡ MOST_MEMBERS → AreLive devices table image 0 flags
none_live devices table image flags long = record { long = long; each = λ member below. absurd (omega (arith, below)) }

room : (table : Table) (count : ℕ) (flags : List Bool) → count < table.geometry.members → length flags ≡ MOST_MEMBERS → count < length flags
room table count flags below long = omega (arith, below, long, table.geometry.limits.members_most)

-- and one member more
pub one_more_live : (devices : ℕ) (table : Table) (image : Slots) (count : ℕ) (flags : List Bool) (is_live : Bool) → count < table.geometry.members
    → AreLive devices table image count flags → (IsTrue is_live ↔ IsLive devices table count (image count))
    → AreLive devices table image (count + 1) (slice_set flags count is_live)
one_more_live devices table image count flags is_live below_members are tells = let within = room table count flags below_members are.long in record {
  long = length-set flags count is_live ∙ are.long;
  each = λ member below. elim (cases_eq member count) [
    | inl is ↦ subst (λ (k : ℕ). IsTrue (slice_index_or (slice_set flags count is_live) k false) ↔ IsLive devices table k (image k)) (sym is)
        (subst (λ (b : Bool). IsTrue b ↔ IsLive devices table count (image count)) (sym (get_or-set_same flags count is_live false within)) tells)
    | inr apart ↦ subst (λ (b : Bool). IsTrue b ↔ IsLive devices table member (image member))
        (sym (get_or-set_other flags count member is_live false apart))
        (are.each member (omega (arith, below, apart)))
  ];
}

-- whether a row counts, by the state of its member
rebuilt_tells : (state : State) (row position : ℕ) → IsTrue (is_rebuilt state row position) ↔ (state ≡ Rebuilding → row < position)
rebuilt_tells Missing row position = (λ _. λ is. absurd (differ is), λ _. refl)
  where
    differ : ¬ (Missing ≡ Rebuilding)
    differ e = cc
rebuilt_tells InSync row position = (λ _. λ is. absurd (differ is), λ _. refl)
  where
    differ : ¬ (InSync ≡ Rebuilding)
    differ e = cc
rebuilt_tells Rebuilding row position = (λ below. λ is. grind (arith, nat_tests, below), λ tells. below_is row position (tells refl))
  where
    below_is : (a b : ℕ) → a < b → IsTrue (nat_lt a b)
    below_is a b less = grind (arith, nat_tests, less)

both_true : (a b : Bool) → IsTrue (a && b) ↔ (IsTrue a × IsTrue b)
both_true true b = (λ is. (refl, is), λ both. both.1)
both_true false b = (λ is. (is, absurd (differ is)), λ both. both.0)
  where
    differ : ¬ (false ≡ true)
    differ e = cc

-- the rows by what was read are the image's
pub rows_are_read : (devices : ℕ) (table : Table) (image : Slots) (reading : Reading) → AreLive devices table image table.geometry.members reading.live
    → HasLastEntry devices table image reading.last → AreRowsOf devices table image (rows_by table image reading)
rows_are_read devices table image reading live has = record {
  width = refl;
  own_sector = λ row member within. refl;
  trust = λ row member within.
      let flag = slice_index_or reading.live member false in
      let rebuilt = is_rebuilt (state_at table.states member) row table.position in
      let both = both_true flag rebuilt in
      let is_live = live.each member within in
      let is_rebuilt_row = rebuilt_tells (state_at table.states member) row table.position in (
        λ counts. let parts = both.0 counts in record { live = is_live.0 parts.0; rebuilt = is_rebuilt_row.0 parts.1 },
        λ trusted. both.1 (is_live.1 trusted.live, is_rebuilt_row.1 trusted.rebuilt),
      );
  last = entry_of reading.last;
  is_last = has;
  in_entry = λ row member. refl;
}
