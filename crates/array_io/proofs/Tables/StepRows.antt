-- The values of rows by a table that differs from the one before in one slot: they stay, where the slot's own sectors that begin to count are its values.
use Rattle.std.proofs.Common.{◌≡◌, ◌≢◌, inl, inr, ℕ, ◌+◌, ◌<◌, Bool, true, false, Some, None, refl, sym, ◌∙◌, ap, subst, arith}
use Rattle.std.specs.Prelude.{IsSome, if◌then◌else◌}
use Rattle.std.proofs.lemmas.Bool.{cases_eq, cases_lt}
use Rattle.layout_map.specs.declared.geometry.Geometry.{Geometry}
use Rattle.sector_model.specs.History.{Slots, disk_of, sector_of}
use Rattle.layout_map.specs.declared.sizes.TheConstants.{FIRST_ROW}
use Rattle.superblock.specs.declared.state.State.{State}
use Rattle.superblock.specs.declared.table.Table.{Table}
use Rattle.superblock.specs.SlotSteps.{IsStepAt}
use Rattle.superblock.specs.Tables.{state_at}
use Rattle.degraded.specs.RowValue.{value}
use Rattle.degraded.proofs.Loss.{own_sector_may_come}
use Rattle.degraded.proofs.Values.{value-agree}
use Rattle.array_io.specs.Believed.Holds.{row_count}
use Rattle.array_io.specs.Believed.Settled.{rows_by, trusts}
use Rattle.array_io.proofs.Images.SameBeyond.{AgreeBeyond}
use Rattle.array_io.specs.Laws.Law.{AreAlike}
use Rattle.array_io.proofs.Images.Rows.{alike}

-- whether the slot's own sector counts in a row, by a table
abbrev pub counts_in : Table → (slot row : ℕ) → Bool
counts_in table slot row = trusts (state_at table.states slot) row table.position

-- what is read by the old table, and an image with the same after the superblocks: more of the slot's own sectors may count, which are its values
pub record MoreCounts (table next : Table) (slot : ℕ) (reads image : Slots) : Type 0 where
  pub step : IsStepAt table next slot
  pub beyond : (member : ℕ) → member < table.geometry.members → AgreeBeyond (reads member) (image member)
  pub more : (row : ℕ) → counts_in table slot row ≡ true → counts_in next slot row ≡ true
  pub own : (row : ℕ) → slot < table.geometry.members → row < row_count table → counts_in next slot row ≡ true
      → sector_of (disk_of (reads slot)) (FIRST_ROW + row) ≡ value (rows_by table reads) row slot

module _ (table next : Table) (slot : ℕ) (reads image : Slots) (is : MoreCounts table next slot reads image) where
  width : next.geometry.members ≡ table.geometry.members
  width = ap (λ (g : Geometry). g.members) is.step.same_geometry

  of_set : (other : ℕ) → other < table.geometry.members → other < table.geometry.members + 2
  of_set other within = omega (arith, within)

  -- the other members are in sync by both
  trusted_before : (row other : ℕ) → other < table.geometry.members → other ≢ slot → counts_in table other row ≡ true
  trusted_before row other within apart = ap (λ (s : State). trusts s row table.position) (is.step.others_in_sync other (of_set other within) apart)

  trusted_now : (row other : ℕ) → other < table.geometry.members → other ≢ slot → counts_in next other row ≡ true
  trusted_now row other within apart =
      ap (λ (s : State). trusts s row next.position) (is.step.states other apart ∙ is.step.others_in_sync other (of_set other within) apart)

  own_same : (row other : ℕ) → other < table.geometry.members → (rows_by next image).own row other ≡ (rows_by table reads).own row other
  own_same row other within = sym ((is.beyond other within).same (FIRST_ROW + row) (omega arith))

  -- a row in which the slot's own sector counts now
  value_counted : (row : ℕ) → row < row_count table → slot < table.geometry.members → counts_in next slot row ≡ true
      → (other : ℕ) → other < table.geometry.members → value (rows_by next image) row other ≡ value (rows_by table reads) row other
  value_counted row below within counts = own_sector_may_come slot row (rows_by next image) (rows_by table reads)
      record {
        width = width;
        entries = λ other other_within. refl;
        trusts = λ other other_within apart. trusted_now row other other_within apart ∙ sym (trusted_before row other other_within apart);
        owns = λ other other_within apart. own_same row other other_within;
      }
      (λ other other_within apart. subst (λ (b : Bool). IsSome (if b then Some ((rows_by table reads).own row other) else None))
      (sym (trusted_before row other other_within apart)) refl)
      (λ none. counts) (λ none. own_same row slot within ∙ is.own row within below counts)

  -- a row in which it doesn't
  value_uncounted : (row : ℕ) → (slot < table.geometry.members → counts_in next slot row ≡ false)
      → (other : ℕ) → other < table.geometry.members → value (rows_by next image) row other ≡ value (rows_by table reads) row other
  value_uncounted row uncounted other within = value-agree row other (rows_by next image) (rows_by table reads) record {
    width = width;
    entries = λ member member_within. refl;
    trusts = λ member member_within. elim (cases_eq member slot) [
      | inr apart ↦ trusted_now row member member_within apart ∙ sym (trusted_before row member member_within apart)
      | inl here ↦
          let now = uncounted (subst (λ (k : ℕ). k < table.geometry.members) here member_within) in
          subst (λ (k : ℕ). counts_in next k row ≡ counts_in table k row) (sym here) (now ∙ sym (was_not row now (counts_in table slot row) refl))
    ];
    owns = λ member member_within none counts. own_same row member member_within;
  } within
    where
      differ : true ≡ false → ⊥
      differ e = cc

      was_not : (r : ℕ) → counts_in next slot r ≡ false → (b : Bool) → counts_in table slot r ≡ b → counts_in table slot r ≡ false
      was_not r now true was = absurd (differ (sym (is.more r was) ∙ now))
      was_not r now false was = was

  -- so all values stay
  pub values_stay : (row member : ℕ) → row < row_count table → member < table.geometry.members
      → value (rows_by next image) row member ≡ value (rows_by table reads) row member
  values_stay row member below within = elim (cases_lt slot table.geometry.members) [
    | inr beyond ↦ value_uncounted row (λ inside. absurd (omega (arith, beyond, inside))) member within
    | inl inside ↦ by_test (counts_in next slot row) refl inside
  ]
    where
      by_test : (b : Bool) → counts_in next slot row ≡ b → slot < table.geometry.members
          → value (rows_by next image) row member ≡ value (rows_by table reads) row member
      by_test true counts inside = value_counted row below inside counts member within
      by_test false counts inside = value_uncounted row (λ again. counts) member within

  -- and the rows are alike
  pub rows_stay : AreAlike table (rows_by table reads) (rows_by next image)
  rows_stay = alike table (rows_by table reads) (rows_by next image) (λ row member below within. sym (values_stay row member below within))
