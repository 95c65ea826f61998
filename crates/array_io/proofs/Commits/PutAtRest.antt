-- An entry that is safe on the journals, and whose rows stand on all members that count, says what those hold.
use Rattle.std.proofs.Common.{◌≡◌, ℕ, ◌+◌, ◌<◌, Bool, true, false, List, [], length, Option, Some, None, refl, sym, ◌∙◌, ap, subst, arith}
use Rattle.std.specs.Prelude.{slice_index_or}
use Rattle.std.proofs.lemmas.Option.{none-some, same_Some}
use Rattle.sector_model.specs.History.{Bytes, History, disk_of, sector_of, seen}
use Rattle.sector_model.specs.Readable.{readable}
use Rattle.sector_model.proofs.Readable.{readable_left}
use Rattle.layout_map.specs.declared.sizes.TheConstants.{FIRST_ROW}
use Rattle.superblock.specs.declared.table.Table.{Table}
use Rattle.superblock.specs.Tables.{state_at}
use Rattle.superblock.specs.Cases.{HasWholeSectors}
use Rattle.superblock.specs.Counted.{Content}
use Rattle.superblock.specs.Losses.{IsSingleFailure}
use Rattle.superblock.specs.NextTables.{slots_of}
use Rattle.stripe_journal.specs.declared.seal.Seal.{Seal}
use Rattle.stripe_journal.specs.Body.{place_in}
use Rattle.stripe_journal.specs.Forms.{holds, rows_in}
use Rattle.stripe_journal.specs.Entries.{body_start}
use Rattle.stripe_journal.specs.LastEntry.{IsLastSealed, sector_in}
use Rattle.stripe_journal.proofs.EntrySectors.{sector_lacking, sector_of_no_row}
use Rattle.stripe_journal.proofs.Places.{row_of_place}
use Rattle.array_io.specs.Steps.Bringing.{CountsOn}
use Rattle.array_io.specs.Steps.EntryAtRest.{HasEntryAtRest}
use Rattle.array_io.specs.Believed.Holds.{HoldsIn, IsLiveJournal}
use Rattle.array_io.specs.Believed.Settled.{trusts}
use Rattle.array_io.proofs.Rest.AtRestRows.{trusts_tells}
use Rattle.array_io.proofs.Images.EntryByRows.{HaveOwnSectors, entry_at_rest_in_case}
use Rattle.array_io.proofs.Commits.HeldSectors.{sector_of_held}
use Rattle.array_io.proofs.Commits.EntrySteps.{read_is_seen}
use Rattle.array_io.proofs.Rest.LastAtRest.{HasOneLast}
use Rattle.array_io.proofs.Images.LossBefore.{by_table}
use Rattle.array_io.proofs.Images.Spellings.{Spellings}
use Rattle.array_io.specs.Steps.Putting.{IsPut, IsPutBefore, PutsFrom, held_sector}

-- Once the rows stand on all members that count, those hold what the entry says.
module _ (spellings : Spellings) (seal : Seal) (body : List Bytes) (from : PutsFrom) (table : Table) (h : History)
    (is : IsPutBefore table.geometry.members seal body from table h)
    (loss : IsSingleFailure (slots_of from.base) from.lost h) (whole : HasWholeSectors (readable h)) where
  on_journal : (journal : ℕ) → IsLiveJournal from.devices table (readable h) journal → CountsOn table journal
  on_journal journal live = record { of_set = live.of_set; there = live.live.not_missing }

  read : (slot : ℕ) → CountsOn table slot → readable h slot ≡ Some (seen h slot)
  read slot counted = read_is_seen spellings from.devices from.base table from.lost from.lists h is.writes slot counted

  -- it is the last one on each live journal
  replayed_last : HasOneLast from.devices table (readable h)
  replayed_last = record {
    last = Some seal;
    sealed = λ journal live. subst (λ (c : Content). IsLastSealed table.id table.geometry c (Some seal)) (sym (read journal (on_journal journal live)))
        (is.on_journals journal live.beyond_members (on_journal journal live)).last;
    there = is.writes.there;
  }

  -- a sector that it holds is the member's own, where the table trusts it
  of_held : (row i member : ℕ) → member < table.geometry.members → trusts (state_at table.states member) row table.position ≡ true
      → place_in (rows_in seal.form) row ≡ Some i → holds table.geometry.members seal.form i member ≡ true
      → held_sector table.geometry.members seal body i member ≡ sector_of (disk_of (readable h member)) (FIRST_ROW + row)
  of_held row i member within trusted there held =
      let counts : CountsOn table member = record {
        of_set = omega (arith, within);
        there =
            ((trusts_tells (state_at table.states member) row table.position).0 trusted).there;
      } in
      let at = row_of_place (rows_in seal.form) row i there in
      sym (is.on_members member i within within at.0 held
      (subst (λ (r : ℕ). trusts (state_at table.states member) r table.position ≡ true) (sym at.1) trusted))
      ∙ ap (λ (r : ℕ). sector_of (seen h member) (FIRST_ROW + r)) at.1
      ∙ sym (ap (λ (c : Content). sector_of (disk_of c) (FIRST_ROW + row)) (read member counts))

  owns : HaveOwnSectors from.devices table (readable h) (Some seal)
  owns journal other live one row member sector below within trusted has = by_place (place_in (rows_in seal.form) row) refl
    where
      has_it : sector_in table.geometry.members (readable h journal) seal row member ≡ Some sector
      has_it = subst (λ (s : Seal). sector_in table.geometry.members (readable h journal) s row member ≡ Some sector) (sym (same_Some seal other one)) has

      stands : (k : ℕ) → k < length body → sector_of (disk_of (readable h journal)) (body_start seal + k) ≡ slice_index_or body k []
      stands k inside =
          let on = on_journal journal live in
          ap (λ (c : Content). sector_of (disk_of c) (body_start seal + k)) (read journal on)
          ∙ (is.on_journals journal live.beyond_members on).has_body k inside

      by_held : (i : ℕ) (b : Bool) → place_in (rows_in seal.form) row ≡ Some i → holds table.geometry.members seal.form i member ≡ b
          → sector ≡ sector_of (disk_of (readable h member)) (FIRST_ROW + row)
      by_held i true there held =
          same_Some sector (held_sector table.geometry.members seal body i member) (sym has_it
          ∙ sector_of_held table.geometry.members (readable h journal) seal body row i member is.long stands there within held)
          ∙ of_held row i member within trusted there held
      by_held i false there lacking =
          absurd (none-some sector (sym (sector_lacking table.geometry.members (readable h journal) seal row i member there lacking) ∙ has_it))

      by_place : (place : Option ℕ) → place_in (rows_in seal.form) row ≡ place → sector ≡ sector_of (disk_of (readable h member)) (FIRST_ROW + row)
      by_place None none = absurd (none-some sector (sym (sector_of_no_row table.geometry.members (readable h journal) seal row member none) ∙ has_it))
      by_place (Some i) there = by_held i (holds table.geometry.members seal.form i member) there refl

  -- what reads give is an image that a crash may leave, so it holds
  holds_now : HoldsIn from.devices table from.lists (readable h)
  holds_now = (by_table from.base from.devices table from.lists (record { image = readable h; lost = loss.0 }) is.writes.same_id
      (is.writes.holds loss.0 (readable h) loss.1 (readable_left h)) ((is.writes.chosen loss.0 loss.1).whole (readable h) (readable_left h))).whole

  at_rest : HasEntryAtRest from.devices table seal.number (readable h)
  unfolding replayed_last
  at_rest = entry_at_rest_in_case spellings from.devices table from.lists (readable h) holds_now replayed_last seal.number whole refl owns

  pub all_put : IsPut seal.number from table h
  all_put = record { writes = is.writes; entry = at_rest }
