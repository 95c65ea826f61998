-- An entry whose bodies have the members' own sectors, in an image that holds, says what the members hold.
use Rattle.std.proofs.Common.{◌≡◌, ◌⊎◌, inl, inr, ℕ, ◌+◌, ◌<◌, Bool, true, false, IsTrue, List, length, Option, Some, None, refl, sym, ◌∙◌, ap, subst, arith}
use Rattle.std.specs.Prelude.{map, replicate, unwrap_or}
use Rattle.std.proofs.lemmas.List.{length-replicate}
use Rattle.std.specs.List.{range_with_len}
use Rattle.std.proofs.lemmas.Option.{none-some, same_Some}
use Rattle.sector_model.specs.History.{Bytes, Slots, disk_of, sector_of}
use Rattle.layout_map.specs.declared.sizes.TheConstants.{FIRST_ROW}
use Rattle.parity.specs.Xor.{IsSoundRow, xor_of_all, zero_sector}
use Rattle.layout_map.specs.Formats.{journal_sectors}
use Rattle.superblock.proofs.LeastSectors.{journal_least}
use Rattle.superblock.specs.declared.table.Table.{Table}
use Rattle.superblock.specs.Tables.{state_at}
use Rattle.superblock.specs.Cases.{HasWholeSectors}
use Rattle.stripe_journal.specs.declared.seal.Seal.{Seal}
use Rattle.stripe_journal.specs.Body.{place_by_seal, zero_by_seal}
use Rattle.stripe_journal.specs.Forms.{format_of}
use Rattle.stripe_journal.specs.LastEntry.{Entry, IsGreatest, IsLastEntry, IsLastSealed, number_of, placed_or_zero, sector_in, sector_of_last}
use Rattle.stripe_journal.proofs.Bodies.{bodies_within}
use Rattle.degraded.specs.RowValue.{Rows, direct_of, others, value}
use Rattle.degraded.proofs.Others.{map-others, sector_is_xor, xor_of_all-member}
use Rattle.degraded.proofs.Values.{known, value-entry, value-neither, value-own}
use Rattle.array_io.specs.Steps.EntryAtRest.{HasEntryAtRest}
use Rattle.array_io.specs.Believed.Holds.{AreRowsOf, HaveEqualBodies, HoldsIn, IsLiveJournal, row_count}
use Rattle.array_io.specs.Believed.Settled.{rows_by, trusts}
use Rattle.array_io.proofs.Rest.AtRestRows.{table_tells, trusted_apart}
use Rattle.array_io.proofs.Rest.EntryAtRest.{sealed_is_one}
use Rattle.array_io.proofs.Rest.LastAtRest.{HasOneLast, entry_rows, last_rows}
use Rattle.array_io.proofs.Images.Spellings.{Spellings}

-- the bodies of the last seal have the own sector of each member that the table trusts in a row
abbrev pub HaveOwnSectors : (devices : ℕ) → Table → Slots → Option Seal → Type 0
HaveOwnSectors devices table image last = (journal : ℕ) (seal : Seal) → IsLiveJournal devices table image journal → last ≡ Some seal
    → (row member : ℕ) (sector : Bytes) → row < row_count table → member < table.geometry.members
    → IsTrue (trusts (state_at table.states member) row table.position)
    → sector_in table.geometry.members (image journal) seal row member ≡ Some sector → sector ≡ sector_of (disk_of (image member)) (FIRST_ROW + row)

-- a sector that an entry has is whole
pub sector_whole : (devices : ℕ) (table : Table) (image : Slots) → HasWholeSectors image → (journal : ℕ) (seal : Seal)
    → IsLiveJournal devices table image journal → format_of seal.form ≡ table.geometry.format
    → (row member : ℕ) (sector : Bytes) → member < table.geometry.members → sector_in table.geometry.members (image journal) seal row member ≡ Some sector
    → length sector ≡ 512
sector_whole devices table image whole journal seal live format row member sector within has =
    by_place (place_by_seal table.geometry.members seal row member) (zero_by_seal table.geometry.members seal row member) refl has
  where
    by_place : (found : Option ℕ) (zero : Bool) → place_by_seal table.geometry.members seal row member ≡ found
        → placed_or_zero (disk_of (image journal)) found zero ≡ Some sector → length sector ≡ 512
    by_place None true there is = ap length (sym (same_Some (replicate 512 0) sector is)) ∙ length-replicate {A = ℕ} 512 0
    by_place None false there is = absurd (none-some sector is)
    by_place (Some place) zero there is =
        let body = bodies_within table.geometry.members seal row member place table.geometry.limits.members_most within there in
        let least = journal_least table.geometry journal live.beyond_members in
        ap length (sym (same_Some (sector_of (disk_of (image journal)) place) sector is))
        ∙ whole journal place (omega (arith, body.1, ap journal_sectors format, least, live.live.long_enough))

-- In an image that holds, with one last seal on all live journals, the rows by its last entry are sound.
module _ (spellings : Spellings) (devices : ℕ) (table : Table) (X : List (List Bytes)) (image : Slots) (holds : HoldsIn devices table X image)
    (one : HasOneLast devices table image) where
  greatest_on : (journal : ℕ) (seal : Seal) → IsLiveJournal devices table image journal → one.last ≡ Some seal
      → IsGreatest table.id table.geometry (image journal) seal
  greatest_on journal seal live is = subst (IsLastSealed table.id table.geometry (image journal)) is (one.sealed journal live)

  -- the bodies are equal
  same_bodies : (first second : ℕ) (seal : Seal) → IsLiveJournal devices table image first → IsLiveJournal devices table image second → one.last ≡ Some seal
      → HaveEqualBodies table.geometry.members (image first) (image second) seal
  same_bodies first second seal live live' is =
      elim (holds.in_step first second (Some seal) (Some seal) live live' (greatest_on first seal live is) (greatest_on second seal live' is)) [
        | inl same ↦ same.1
        | inr next ↦ absurd (apart next)
      ]
    where
      apart : (seal.number + 1 ≡ seal.number) ⊎ (seal.number + 1 ≡ seal.number) → ⊥
      apart (inl next) = omega (arith, next)
      apart (inr next) = omega (arith, next)

  -- the rows by the last entry have them
  pub entry_is : (last : Option Entry) → IsLastEntry table.id table.geometry (IsLiveJournal devices table image) image last
      → (journal : ℕ) (seal : Seal) → IsLiveJournal devices table image journal → one.last ≡ Some seal → (row member : ℕ) → member < table.geometry.members
      → sector_of_last table.geometry.members image last row member ≡ sector_in table.geometry.members (image journal) seal row member
  entry_is None none journal seal live is row member within =
      let greatest = greatest_on journal seal live is in
      absurd (none journal greatest.place seal live greatest.counted)
  entry_is (Some entry) latest journal seal live is row member within =
      ap (λ (s : Seal). sector_in table.geometry.members (image entry.journal) s row member) same
      ∙ same_bodies entry.journal journal seal latest.on_live live is row member within
    where
      same : entry.seal ≡ seal
      same = same_Some entry.seal seal (sealed_is_one spellings table.id table.geometry (image entry.journal) (Some entry.seal) (Some seal)
          latest.sealed (greatest_on entry.journal seal latest.on_live is))

  rows : Rows
  rows = entry_rows spellings devices table image one

  are : AreRowsOf devices table image rows
  unfolding rows
  are = last_rows spellings devices table image one

  -- each sector of an entry that has the own ones of trusted members is the value that the members give
  module _ (whole : HasWholeSectors image) (owns : HaveOwnSectors devices table image one.last) (journal : ℕ) (seal : Seal)
      (live : IsLiveJournal devices table image journal)
      (is : one.last ≡ Some seal) (row : ℕ) (below : row < row_count table) where
    entry_here : (member : ℕ) → member < table.geometry.members → rows.entry row member ≡ sector_in table.geometry.members (image journal) seal row member
    entry_here member within = are.in_entry row member ∙ entry_is are.last are.is_last journal seal live is row member within

    -- the value of a member that the table trusts is its own sector
    trusted_value : (member : ℕ) → member < table.geometry.members → trusts (state_at table.states member) row table.position ≡ true
        → value rows row member ≡ sector_of (disk_of (image member)) (FIRST_ROW + row)
    trusted_value member within trusted = by_entry (sector_in table.geometry.members (image journal) seal row member) refl
      where
        by_entry : (entry : Option Bytes) → sector_in table.geometry.members (image journal) seal row member ≡ entry
            → value rows row member ≡ sector_of (disk_of (image member)) (FIRST_ROW + row)
        by_entry None none =
            value-own rows row member (entry_here member within ∙ none)
            ((are.trust row member within).1 ((table_tells devices table image one.there row member within).0 trusted))
            ∙ are.own_sector row member within
        by_entry (Some sector) has =
            value-entry rows row member sector (entry_here member within ∙ has) ∙ owns journal seal live is row member sector below within trusted has

    -- which is what is known of it without the entry
    known_is : (member : ℕ) → trusts (state_at table.states member) row table.position ≡ true
        → known (rows_by table image) row member ≡ sector_of (disk_of (image member)) (FIRST_ROW + row)
    known_is member trusted = ap (λ (t : Bool). unwrap_or (direct_of None t (sector_of (disk_of (image member)) (FIRST_ROW + row))) zero_sector) trusted

    body_value : (member : ℕ) (sector : Bytes) → member < table.geometry.members
        → sector_in table.geometry.members (image journal) seal row member ≡ Some sector
        → sector ≡ value (rows_by table image) row member
    body_value member sector within has = by_trust (trusts (state_at table.states member) row table.position) refl
      where
        by_trust : (b : Bool) → trusts (state_at table.states member) row table.position ≡ b → sector ≡ value (rows_by table image) row member
        by_trust true trusted = owns journal seal live is row member sector below within trusted has
            ∙ sym (value-own (rows_by table image) row member refl trusted)
        by_trust false out =
            let its : value rows row member ≡ sector = value-entry rows row member sector (entry_here member within ∙ has) in
            let long : length (value rows row member) ≡ 512 =
            ap length its ∙ sector_whole devices table image whole journal seal live
            (greatest_on journal seal live is).counted.belongs.of_format row member sector within has in
            let sound : xor_of_all (map (λ other. value rows row other) (range_with_len 0 table.geometry.members)) ≡ zero_sector =
            subst (λ (n : ℕ). IsSoundRow (map (λ (other : ℕ). value rows row other) (range_with_len 0 n))) are.width (holds.sound rows are row below) in
            sym its
            ∙ sector_is_xor (value rows row member) (map (λ other. value rows row other) (others table.geometry.members member)) long
            (sym (xor_of_all-member (λ other. value rows row other) member 0 table.geometry.members (omega arith) (omega (arith, within))) ∙ sound)
            ∙ ap xor_of_all (map-others (λ other. value rows row other) (λ other. known (rows_by table image) row other) member 0 table.geometry.members
            (λ other inside apart.
            let of_set : other < table.geometry.members = omega (arith, inside) in
            let trusted = trusted_apart table row member other within of_set apart out in
            trusted_value other of_set trusted ∙ sym (known_is other trusted)))
            ∙ sym (value-neither (rows_by table image) row member refl out)

  -- So there the own sectors are enough.
  pub entry_at_rest_in_case : (number : ℕ) → HasWholeSectors image → number_of one.last ≡ number → HaveOwnSectors devices table image one.last
      → HasEntryAtRest devices table number image
  entry_at_rest_in_case number whole numbered owns = record {
    last = one.last;
    numbered = numbered;
    sealed = one.sealed;
    bodies = λ journal seal live is row member sector below within has. body_value whole owns journal seal live is row below member sector within has;
  }
