-- A settled array has its last entry at rest.
use Rattle.std.proofs.Common.{◌≡◌, ◌⊎◌, inl, inr, ℕ, ◌+◌, ◌<◌, List, [], ◌∷◌, length, Option, Some, None, refl, sym, ◌∙◌, ap, subst, arith}
use Rattle.std.proofs.lemmas.List.Elements.{Contains-push_cases}
use Rattle.std.proofs.lemmas.Option.{none-some}
use Rattle.sector_model.specs.History.{Bytes, History, disk_of, sector_of}
use Rattle.sector_model.specs.Readable.{readable}
use Rattle.sector_model.proofs.Readable.{readable_left}
use Rattle.layout_map.specs.declared.sizes.TheConstants.{FIRST_ROW}
use Rattle.superblock.proofs.LeastSectors.{member_least}
use Rattle.superblock.specs.declared.table.Table.{Table}
use Rattle.superblock.specs.Tables.{state_at}
use Rattle.superblock.specs.Cases.{HasWholeSectors, Lost}
use Rattle.stripe_journal.specs.declared.seal.Seal.{Seal}
use Rattle.stripe_journal.specs.LastEntry.{Entry, IsLastEntry, IsLastSealed, number_of, sector_of_last}
use Rattle.stripe_journal.proofs.LastSeal.{has_last_seal}
use Rattle.degraded.specs.RowValue.{Rows, logical_list}
use Rattle.degraded.proofs.Values.{length-value, value-entry}
use Rattle.array_io.specs.Steps.EntryAtRest.{HasEntryAtRest}
use Rattle.array_io.specs.Believed.Holds.{AreInStep, AreRowsOf, HoldsIn, IsLiveJournal, IsTrusted, row_count}
use Rattle.array_io.specs.Believed.Settled.{IsSettled, rows_by}
use Rattle.array_io.proofs.Rest.AtRestImages.{LeavesSectors, whole_left}
use Rattle.array_io.proofs.Rest.AtRestLost.{in_sync_apart}
use Rattle.array_io.proofs.Rest.AtRestRows.{table_tells}
use Rattle.array_io.proofs.Laws.Beginning.{settled_table, state_in_sync}
use Rattle.array_io.proofs.Images.EntryByRows.{entry_is, sector_whole}
use Rattle.array_io.proofs.Laws.Fresh.{in_sync_not_missing, no_device}
use Rattle.array_io.proofs.Rest.LastAtRest.{HasOneLast, entry_rows, last_rows}
use Rattle.array_io.proofs.Images.SameList.{HaveWholeValues, same_list_same_values}
use Rattle.array_io.proofs.Images.Spellings.{Spellings}

-- last seals in step with equal numbers are one
same_seals : (members : ℕ) (first second : Option (List Bytes)) (a b : Option Seal) → number_of a ≡ number_of b → AreInStep members first second a b → a ≡ b
same_seals members first second None None same step = refl
same_seals members first second (Some a) None same step = absurd (omega (arith, same, step))
same_seals members first second None (Some b) same step = absurd (omega (arith, same, step))
same_seals members first second (Some a) (Some b) same step = elim step [
  | inl one ↦ ap Some one.0
  | inr next ↦ absurd (apart next)
]
  where
    apart : (a.number + 1 ≡ b.number) ⊎ (b.number + 1 ≡ a.number) → ⊥
    apart (inl next) = omega (arith, same, next)
    apart (inr next) = omega (arith, same, next)

module _ (spellings : Spellings) (devices : ℕ) (table : Table) (number : ℕ) (h : History) (lost : Option Lost) (V : List Bytes)
    (settled : IsSettled devices table number h lost V) where
  -- what reads give holds by the array's table
  settled_holds : HoldsIn devices table (V ∷ []) (readable h)
  settled_holds =
      let case = settled.holds (readable h) (readable_left h) in
      subst (λ (t : Table). HoldsIn devices t (V ∷ []) (readable h)) (sym (settled_table table devices table number h lost V lost (V ∷ []) refl settled case))
      case.whole

  -- one of the two journals is live
  live_one : (journal : ℕ) × IsLiveJournal devices table (readable h) journal
  live_one = elim (state_in_sync (state_at table.states table.geometry.members)) [
    | inl in_sync ↦ (
      table.geometry.members,
      record {
        beyond_members = omega arith;
        of_set = omega arith;
        live = settled.there table.geometry.members (omega arith) (λ missing. in_sync_not_missing (sym in_sync ∙ missing));
      },
    )
    | inr out ↦
        let in_sync = in_sync_apart table table.geometry.members (table.geometry.members + 1) (record { of_set = omega arith; out = out }) (omega arith)
        (λ same. omega (arith, same)) in (
          table.geometry.members + 1,
          record {
            beyond_members = omega arith;
            of_set = omega arith;
            live = settled.there (table.geometry.members + 1) (omega arith) (λ missing. in_sync_not_missing (sym in_sync ∙ missing));
          },
        )
  ]

  -- what is last on a journal
  seal_on : (journal : ℕ) → (last : Option Seal) × IsLastSealed table.id table.geometry (readable h journal) last
  seal_on journal = has_last_seal table.id table.geometry (readable h journal) table.id_long

  -- the same is last on each live one
  one_seal : (journal : ℕ) → IsLiveJournal devices table (readable h) journal
      → IsLastSealed table.id table.geometry (readable h journal) (seal_on live_one.0).0
  one_seal journal live =
      let number_on : (slot : ℕ) → IsLiveJournal devices table (readable h) slot → number_of (seal_on slot).0 ≡ number =
      λ slot on. settled.numbered.whole (readable h) (readable_left h) slot (seal_on slot).0 on (seal_on slot).1 in
      subst (IsLastSealed table.id table.geometry (readable h journal))
      (same_seals table.geometry.members (readable h journal) (readable h live_one.0) (seal_on journal).0 (seal_on live_one.0).0
      (number_on journal live ∙ sym (number_on live_one.0 live_one.1))
      (settled_holds.in_step journal live_one.0 (seal_on journal).0 (seal_on live_one.0).0 live live_one.1 (seal_on journal).1 (seal_on live_one.0).1))
      (seal_on journal).1

  -- So all live journals have one last seal.
  pub settled_last : HasOneLast devices table (readable h)
  settled_last = record { last = (seal_on live_one.0).0; sealed = one_seal; there = settled.there }

  -- its number is the array's
  last_number : number_of settled_last.last ≡ number
  last_number = settled.numbered.whole (readable h) (readable_left h) live_one.0 settled_last.last live_one.1 (settled_last.sealed live_one.0 live_one.1)

  module _ (whole : HasWholeSectors (readable h)) where
    -- a member's own sector that counts has 512 bytes
    own_whole : (row member : ℕ) → row < row_count table → member < table.geometry.members → IsTrusted devices table (readable h) row member
        → length (sector_of (disk_of (readable h member)) (FIRST_ROW + row)) ≡ 512
    own_whole row member below within trusted =
        let least = member_least table.geometry member within in
        whole member (FIRST_ROW + row) (omega (arith, below, least, trusted.live.long_enough))

    -- and so has a sector of the last entry
    entry_whole : (last : Option Entry) → IsLastEntry table.id table.geometry (IsLiveJournal devices table (readable h)) (readable h) last
        → (row member : ℕ) (sector : Bytes) → member < table.geometry.members
        → sector_of_last table.geometry.members (readable h) last row member ≡ Some sector → length sector ≡ 512
    entry_whole None is_last row member sector within has = absurd (none-some sector has)
    entry_whole (Some entry) is_last row member sector within has =
        sector_whole devices table (readable h) whole entry.journal entry.seal is_last.on_live
        is_last.sealed.counted.belongs.of_format row member sector within has

    rows : Rows
    rows = entry_rows spellings devices table (readable h) settled_last

    are : AreRowsOf devices table (readable h) rows
    unfolding rows
    are = last_rows spellings devices table (readable h) settled_last

    rows_whole : HaveWholeValues table.geometry rows
    rows_whole row member below within = length-value rows row member
        (λ sector is. entry_whole are.last are.is_last row member sector within (sym (are.in_entry row member) ∙ is))
        (λ none counts. ap length (are.own_sector row member within) ∙ own_whole row member below within ((are.trust row member within).0 counts))

    members_whole : HaveWholeValues table.geometry (rows_by table (readable h))
    members_whole row member below within = length-value (rows_by table (readable h)) row member
        (λ sector is. absurd (none-some sector is))
        (λ none counts. own_whole row member below within ((table_tells devices table (readable h) settled.there row member within).0 counts))

    -- the rows by the last entry list what the members do
    rows_listed : logical_list table.geometry rows ≡ logical_list table.geometry (rows_by table (readable h))
    rows_listed = elim (Contains-push_cases [] V (logical_list table.geometry rows) (settled_holds.listed rows are)) [
      | inl none ↦ absurd (no_device (logical_list table.geometry rows) none)
      | inr is ↦ sym is ∙ sym settled.listed
    ]

    -- The last entry says what the members hold.
    pub entry_of_settled_reads : HasEntryAtRest devices table number (readable h)
    entry_of_settled_reads = record {
      last = settled_last.last;
      numbered = last_number;
      sealed = settled_last.sealed;
      bodies = λ journal seal live is row member sector below within has.
          sym (value-entry rows row member sector (are.in_entry row member
          ∙ entry_is spellings devices table (V ∷ []) (readable h) settled_holds settled_last are.last are.is_last journal seal live is row member within
          ∙ has))
          ∙ same_list_same_values table.geometry rows (rows_by table (readable h)) are.width refl (settled_holds.sound rows are) settled.sound
          rows_whole members_whole rows_listed row member below within;
    }

-- the same, where each sector that a crash may leave has 512 bytes
pub entry_of_settled : Spellings → (devices : ℕ) (table : Table) (number : ℕ) (h : History) (lost : Option Lost) (V : List Bytes)
    → IsSettled devices table number h lost V → LeavesSectors h → HasEntryAtRest devices table number (readable h)
entry_of_settled spellings devices table number h lost V settled leaves =
    entry_of_settled_reads spellings devices table number h lost V settled (whole_left h (readable h) leaves (readable_left h))
