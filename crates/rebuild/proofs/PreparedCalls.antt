-- What the calls of preparing a device promise, of a member and of a journal.
use Rattle.std.proofs.Common.{◌≡◌, ◌⊎◌, inl, inr, ℕ, zero, suc, ◌+◌, ◌<◌, ◌≤◌, true, false, List, [], ◌∷◌}
use Rattle.std.proofs.Common.{◌++◌, length, Option, Some, None, refl, sym, ◌∙◌, ap, subst, arith}
use Rattle.std.specs.Prelude.{IfErr, Result, Ok, Err, is_ok}
use Rattle.std.proofs.lemmas.Bool.{cases_eq}
use Rattle.std.proofs.lemmas.Result.{IfErr-at_err}
use Rattle.sector_model.specs.declared.sector.Stop.{Stop}
use Rattle.sector_model.specs.declared.sector.Stop.TheVariants as stop
use Rattle.sector_model.specs.Bank.{IsCauseOf, IsLater, IsTrueTo, Panel}
use Rattle.sector_model.specs.Calls.{Call, Flush, Made, Performs, Read, Write, after_all, after_call, writes_from}
use Rattle.sector_model.specs.History.{Bytes, History, is_down, seen}
use Rattle.sector_model.specs.MemoryLaw.{length-seen}
use Rattle.sector_model.proofs.Sequences.{sizes_after}
use Rattle.sector_model.proofs.Steps.{throughout_last, throughout_more}
use Rattle.layout_map.specs.declared.sizes.TheConstants.{FIRST_SEAL, HALVES, SUPERBLOCK_PLACES}
use Rattle.layout_map.specs.Formats.{journal_sectors}
use Rattle.layout_map.proofs.Places.{journal_least as bodies_least}
use Rattle.superblock.specs.declared.state.State.TheVariants.{Missing}
use Rattle.superblock.specs.declared.table.Table.{Table}
use Rattle.superblock.specs.Cases.{Lost}
use Rattle.superblock.specs.Counted.{least_sectors}
use Rattle.superblock.specs.NextTables.{slots_of}
use Rattle.superblock.specs.Tables.{state_at}
use Rattle.superblock.proofs.LeastSectors.{four_least}
use Rattle.stripe_journal.proofs.Halves.{start_least}
use Rattle.stripe_journal.specs.declared.seal.Seal.{Seal}
use Rattle.stripe_journal.specs.Body.{seal_place}
use Rattle.stripe_journal.specs.Copying.{body_in, copied_from}
use Rattle.stripe_journal.specs.Entries.{body_start}
use Rattle.stripe_journal.specs.LastEntry.{IsLastSealed}
use Rattle.stripe_journal.specs.Spelling.{seal_sector}
use Rattle.stripe_journal.proofs.OneEntryCalls.{all_flushed, flushed_is_up, made_down}
use Rattle.array_io.specs.Believed.Moments.{HoldsThroughout}
use Rattle.array_io.specs.Believed.Settled.{IsSettled}
use Rattle.array_io.specs.Believed.Views.{RestsAfter, view_of}
use Rattle.array_io.proofs.Images.Spellings.{Spellings}
use Rattle.rebuild.specs.Preparing.{EndsBeside, IsJournalBeside, IsPrepared, Prepares}
use Rattle.rebuild.specs.PreparingCalls.{CopiesTheLast, PreparesJournal, clear_calls, copy_of, journal_calls, zeros}
use Rattle.rebuild.proofs.MissingPut.{IsMissingPut, RestsWithout, lost_is_missing, missing_holds}
use Rattle.rebuild.proofs.MissingPutCalls.{AllMissing, alone_failed, missing_both, missing_pending, missing_throughout}
use Rattle.rebuild.proofs.MissingPutRests.{OthersStay, missing_is_lost, missing_settled}
use Rattle.rebuild.proofs.Prepared.{HasLast, IsSafe, front_cleared, has_last, journal_prepared}
use Rattle.rebuild.proofs.Prepared.{member_prepared}

-- What preparing a device promises, by its calls.
pub record HasPrepared (honest : Type 0) (table : Table) (slot : ℕ) (old_panel new_panel : Panel) (old new : History)
    (result : Result (Unit {0}) Stop) : Type 0 where
  pub later : IsLater old_panel new_panel
  pub cause : (end : Stop) → result ≡ Err end → IsCauseOf new_panel end
  pub named : (device : ℕ) → result ≡ Err (stop.Down device) → (device ≡ slot) ⊎ IsJournalBeside table slot device
  pub up : result ≡ Ok tt → new_panel.down slot ≡ false
  pub calls : honest → (calls : List Call) × AllMissing (slots_of table) slot calls × Made calls (is_ok result) old new
  pub safe : honest → result ≡ Ok tt → IsSafe slot new
  pub prepared : honest → result ≡ Ok tt → (devices : ℕ) → IsPrepared devices table slot new

-- From there: the record

module _ (spellings : Spellings) (honest : Type 0) (table : Table) (number slot : ℕ) (old_panel new_panel : Panel)
    (old new : History) (result : Result (Unit {0}) Stop)
    (of_set : slot < slots_of table) (missing : state_at table.states slot ≡ Missing)
    (was_up : old_panel.down slot ≡ false)
    (true_old : honest → IsTrueTo old_panel old) (true_new : honest → IsTrueTo new_panel new)
    (has : HasPrepared honest table slot old_panel new_panel old new result) where
  up_before : honest → is_down old slot ≡ false
  up_before fair = sym ((true_old fair).down slot) ∙ was_up

  is_put : honest → IsMissingPut (slots_of table) slot old new
  is_put fair =
      throughout_last new (missing_throughout (slots_of table) slot of_set (has.calls fair).1 (has.calls fair).2)

  -- the other devices stay, where none of them ended it
  stay : honest → ¬ EndsBeside slot result → OthersStay slot old new
  stay fair inside = by_result result refl inside
    where
      at_result : (r : Result (Unit {0}) Stop) → result ≡ r → Made (has.calls fair).0 (is_ok r) old new
      at_result r is =
          subst (λ (r : Result (Unit {0}) Stop). Made (has.calls fair).0 (is_ok r) old new) is (has.calls fair).2

      by_result : (r : Result (Unit {0}) Stop) → result ≡ r → ¬ EndsBeside slot r → OthersStay slot old new
      by_result (Ok done) is inside device apart = made_down (at_result (Ok done) is) device
      by_result (Err stop.Worn) is inside device apart = absurd (inside tt)
      by_result (Err (stop.Down failed)) is inside device apart = elim (cases_eq failed slot) [
        | inl same ↦ alone_failed slot (at_result (Err (stop.Down failed)) is) (up_before fair)
            (sym ((true_new fair).down slot) ∙ ap new_panel.down (sym same)
            ∙ has.cause (stop.Down failed) is) device apart
        | inr differs ↦ absurd (inside differs)
      ]

  -- nothing is pending then
  pending : (fair : honest) → ¬ EndsBeside slot result → (one : Lost) (V : List Bytes)
      → IsSettled old_panel.devices table number old (Some one) V
      → is_down new slot ≡ false → IsSafe slot new
  pending fair inside one V settled up = by_result result refl
    where
      by_result : (r : Result (Unit {0}) Stop) → result ≡ r → IsSafe slot new
      by_result (Ok done) is = has.safe fair is
      by_result (Err end) is = absurd (by_end end is)
        where
          by_end : (end : Stop) → result ≡ Err end → ⊥
          by_end stop.Worn is = subst (λ (r : Result (Unit {0}) Stop). ¬ EndsBeside slot r) is inside tt
          by_end (stop.Down failed) is = subst (λ (r : Result (Unit {0}) Stop). ¬ EndsBeside slot r) is inside
              (λ same. differ (sym (sym ((true_new fair).down slot) ∙ ap new_panel.down (sym same)
              ∙ has.cause (stop.Down failed) is) ∙ up))
            where
              differ : true ≡ false → ⊥
              differ e = cc

  without : (fair : honest) (one : Lost) (V : List Bytes) → one.slot ≡ slot
      → IsSettled old_panel.devices table number old (Some one) V
      → RestsWithout old_panel.devices table number slot old one V
  without fair one V is settled =
      record { settled = settled; of_set = of_set; missing = missing; is_lost = is; up = up_before fair }

  -- the array is settled again
  rests_again : (fair : honest) → ¬ EndsBeside slot result → (one : Lost) (V : List Bytes) → one.slot ≡ slot
      → IsSettled old_panel.devices table number old (Some one) V
      → RestsAfter (Some one) (view_of new_panel new table number) V
  rests_again fair inside one V is settled = record {
    lost = Some one;
    is_lost = missing_is_lost spellings old_panel.devices table number slot old one V
        (without fair one V is settled) new (is_put fair) (stay fair inside);
    rests = subst (λ (n : ℕ). IsSettled n table number new (Some one) V) (sym has.later.devices)
        (missing_settled spellings old_panel.devices table number slot old one V (without fair one V is settled) new
        (is_put fair) (stay fair inside)
        (missing_pending (slots_of table) slot old new settled.nothing_pending (is_put fair) (stay fair inside)
        (pending fair inside one V settled)));
  }

  pub prepares_by : Prepares honest slot (view_of old_panel old table number)
      (view_of new_panel new table number) result
  prepares_by = record {
    later = has.later;
    same_table = refl;
    number = refl;
    cause = has.cause;
    named = has.named;
    up = has.up;
    others = λ fair inside other apart. (true_new fair).down other ∙ stay fair inside other apart
        ∙ sym ((true_old fair).down other);
    keeps = record {
      moments = λ fair lost V rests.
          let found = lost_is_missing table lost slot rests.lost_slot of_set missing in
          let settled = subst (λ (l : Option Lost). IsSettled old_panel.devices table number old l V) found.1 rests in
          subst (λ (l : Option Lost). HoldsThroughout table old_panel.devices l (V ∷ []) old new) (sym found.1)
          (throughout_more (λ h is. missing_holds spellings old_panel.devices table number slot old found.0 V
          (without fair found.0 V found.2 settled) h is) new
          (missing_throughout (slots_of table) slot of_set (has.calls fair).1 (has.calls fair).2));
      rests = λ fair inside lost V rests.
          let found = lost_is_missing table lost slot rests.lost_slot of_set missing in
          let settled = subst (λ (l : Option Lost). IsSettled old_panel.devices table number old l V) found.1 rests in
          subst (λ (l : Option Lost). RestsAfter l (view_of new_panel new table number) V) (sym found.1)
          (rests_again fair inside found.0 V found.2 settled);
    };
    prepared = λ fair done lost V rests. has.prepared fair done new_panel.devices;
  }

-- which calls they are

clear_missing : (slots slot at count : ℕ) → AllMissing slots slot (writes_from slot at (zeros count) ++ Flush slot ∷ [])
clear_missing slots slot at zero = (refl, tt)
clear_missing slots slot at (suc count) = ((refl, λ place. refl), clear_missing slots slot (at + 1) count)

copied_missing : (slots slot source at : ℕ) (values : List Bytes) → source < slots → SUPERBLOCK_PLACES ≤ at
    → AllMissing slots slot (copied_from source slot at values)
copied_missing slots slot source at [] within beyond = tt
copied_missing slots slot source at (value ∷ values) within beyond =
    let others = copied_missing slots slot source (at + 1) values within (omega (arith, beyond)) in
    (within, ((refl, λ place. absurd (omega (arith, place, beyond))), others))

copy_missing : (slots slot source members : ℕ) (disk : List Bytes) (last : Option Seal) → source < slots
    → AllMissing slots slot (copy_of source slot members disk last)
copy_missing slots slot source members disk None within = tt
copy_missing slots slot source members disk (Some seal) within =
    missing_both slots slot (copied_from source slot (body_start seal) (body_in members disk seal))
    (Flush slot ∷ Write slot (seal_place seal.number) (seal_sector seal) ∷ Flush slot ∷ [])
    (copied_missing slots slot source (body_start seal) (body_in members disk seal) within (omega (arith, start_least seal)))
    (refl, ((refl, λ place. absurd (omega (arith, place))), (refl, tt)))

journal_missing : (slots slot source members : ℕ) (disk : List Bytes) (last : Option Seal) → source < slots
    → AllMissing slots slot (journal_calls source slot members disk last)
journal_missing slots slot source members disk last within =
    missing_both slots slot (Read source FIRST_SEAL ∷ Read source (FIRST_SEAL + 1) ∷ clear_calls slot (FIRST_SEAL + HALVES))
    (copy_of source slot members disk last) (within, (within, clear_missing slots slot 0 (FIRST_SEAL + HALVES)))
    (copy_missing slots slot source members disk last within)

-- a row of calls that were all answered, in two parts
performs_split : (first second : List Call) (old new : History) → Performs (first ++ second) true old new
    → Performs first true old (after_all first old) × Performs second true (after_all first old) new
performs_split [] second old new all = ((refl, refl), all)
performs_split (call ∷ first) second old new (inl (none, is)) = absurd (cc)
performs_split (call ∷ first) second old new (inr (up, rest)) =
    let parts = performs_split first second (after_call call true old) new rest in (inr (up, parts.0), parts.1)

made_split : (first second : List Call) (old new : History) → Made (first ++ second) true old new
    → Made first true old (after_all first old) × Made second true (after_all first old) new
made_split first second old new made =
    let parts = performs_split first second old new made.performed in
    (record { performed = parts.0 }, record { performed = parts.1 })

-- what a panel shows of a device is there
has_room : (panel : Panel) (h : History) (slot sectors : ℕ) → IsTrueTo panel h → sectors ≤ panel.sectors slot
    → sectors ≤ length (seen h slot)
has_room panel h slot sectors is_true within = omega (arith, within, is_true.sectors slot, length-seen h slot)

-- A member

pub member_has : Spellings
    → (honest : Type 0) (table : Table) (slot : ℕ) (old_panel new_panel : Panel) (old new : History)
    (result : Result (Unit {0}) Stop)
    → slot < table.geometry.members → least_sectors table.geometry slot ≤ old_panel.sectors slot
    → (honest → IsTrueTo old_panel old)
    → IsLater old_panel new_panel → (honest → Made (clear_calls slot SUPERBLOCK_PLACES) (is_ok result) old new)
    → (result ≡ Ok tt → new_panel.down slot ≡ false)
    → IfErr result (λ end. IsCauseOf new_panel end × ((end ≡ stop.Worn) ⊎ (end ≡ stop.Down slot)))
    → HasPrepared honest table slot old_panel new_panel old new result
member_has spellings honest table slot old_panel new_panel old new result member room holds later made up err = record {
  later = later;
  cause = λ end is. (why end is).0;
  named = λ device is. inl (of_slot device (why (stop.Down device) is).1);
  up = up;
  calls = λ fair. (clear_calls slot SUPERBLOCK_PLACES, clear_missing (slots_of table) slot 0 SUPERBLOCK_PLACES, made fair);
  safe = λ fair done. all_flushed slot (writes_from slot 0 (zeros SUPERBLOCK_PLACES)) (all_made fair done);
  prepared = λ fair done devices. member_prepared spellings devices table slot new member
      (flushed_is_up slot (writes_from slot 0 (zeros SUPERBLOCK_PLACES)) (all_made fair done))
      (front_cleared slot SUPERBLOCK_PLACES old new
      (has_room old_panel old slot SUPERBLOCK_PLACES (holds fair) (omega (arith, room, four_least table.geometry slot)))
      (all_made fair done));
}
  where
    why : (end : Stop) → result ≡ Err end → IsCauseOf new_panel end × ((end ≡ stop.Worn) ⊎ (end ≡ stop.Down slot))
    why end is = IfErr-at_err (λ one. IsCauseOf new_panel one × ((one ≡ stop.Worn) ⊎ (one ≡ stop.Down slot))) is err

    of_slot : (device : ℕ) → (stop.Down device ≡ stop.Worn) ⊎ (stop.Down device ≡ stop.Down slot) → device ≡ slot
    of_slot device (inl worn) = absurd (cc)
    of_slot device (inr is) = cc

    all_made : honest → result ≡ Ok tt → Made (clear_calls slot SUPERBLOCK_PLACES) true old new
    all_made fair done =
        subst (λ (r : Result (Unit {0}) Stop). Made (clear_calls slot SUPERBLOCK_PLACES) (is_ok r) old new) done (made fair)

-- A journal

module _ (spellings : Spellings) (honest : Type 0) (table : Table) (slot : ℕ) (old_panel new_panel : Panel)
    (old new : History) (result : Result (Unit {0}) Stop)
    (beyond : table.geometry.members ≤ slot) (of_set : slot < slots_of table)
    (missing : state_at table.states slot ≡ Missing) (room : journal_sectors table.geometry.format ≤ old_panel.sectors slot)
    (true_old : honest → IsTrueTo old_panel old)
    (has : PreparesJournal honest table slot old_panel new_panel old new result) where
  abbrev source : ℕ
  source = has.source

  abbrev seals : List Call
  seals = Read source FIRST_SEAL ∷ Read source (FIRST_SEAL + 1) ∷ []

  -- the run when the journal was cleared
  abbrev mid : History
  mid = after_all (clear_calls slot (FIRST_SEAL + HALVES)) (after_all seals old)

  module _ (fair : honest) (done : result ≡ Ok tt) where
    copies : CopiesTheLast table source slot old new result
    copies = has.copies fair

    -- the calls of the copy, by what reads of the other journal gave
    abbrev Copies : List Bytes → Type 0
    Copies disk = Made (copy_of source slot table.geometry.members disk copies.last) true mid new

    all_made : Made (journal_calls source slot table.geometry.members (seen old source) copies.last) true old new
    all_made = subst
        (λ (r : Result (Unit {0}) Stop).
        Made (journal_calls source slot table.geometry.members (seen old source) copies.last) (is_ok r) old new)
        done copies.made

    parts : Made (seals ++ clear_calls slot (FIRST_SEAL + HALVES)) true old mid × Copies (seen old source)
    parts = made_split (seals ++ clear_calls slot (FIRST_SEAL + HALVES))
        (copy_of source slot table.geometry.members (seen old source) copies.last) old new all_made

    cleared : Made (clear_calls slot (FIRST_SEAL + HALVES)) true (after_all seals old) mid
    cleared = (made_split seals (clear_calls slot (FIRST_SEAL + HALVES)) old mid parts.0).1

    same_source : seen old source ≡ seen mid source
    same_source = sym ((throughout_last mid (missing_throughout (slots_of table) slot of_set
        (has.beside.of_set, (has.beside.of_set, clear_missing (slots_of table) slot 0 (FIRST_SEAL + HALVES)))
        parts.0)).others_seen source has.beside.apart)

    is_last : IsLastSealed table.id table.geometry (Some (seen mid source)) copies.last
    is_last = subst (λ (disk : List Bytes). IsLastSealed table.id table.geometry (Some disk) copies.last)
        same_source (copies.is_last done)

    long : journal_sectors table.geometry.format ≤ length (seen old slot)
    long = has_room old_panel old slot (journal_sectors table.geometry.format) (true_old fair) room

    the_last : HasLast table source slot mid new copies.last
    the_last = has_last spellings table source slot mid new copies.last has.beside.apart
        (flushed_is_up slot (writes_from slot 0 (zeros (FIRST_SEAL + HALVES))) cleared)
        (front_cleared slot (FIRST_SEAL + HALVES) (after_all seals old) mid (omega (arith, long, bodies_least table.geometry.format)) cleared)
        (all_flushed slot (writes_from slot 0 (zeros (FIRST_SEAL + HALVES))) cleared)
        (omega (arith, long, sizes_after (clear_calls slot (FIRST_SEAL + HALVES)) (after_all seals old) slot))
        (subst Copies same_source parts.1) is_last

  pub journal_has : HasPrepared honest table slot old_panel new_panel old new result
  journal_has = record {
    later = has.later;
    cause = has.cause;
    named = λ device is. elim (has.named device is) [
      | inl own ↦ inl own
      | inr other ↦ inr (subst (IsJournalBeside table slot) (sym other) has.beside)
    ];
    up = has.up;
    calls = λ fair. (
      journal_calls source slot table.geometry.members (seen old source) (has.copies fair).last,
      journal_missing (slots_of table) slot source table.geometry.members (seen old source)
          (has.copies fair).last has.beside.of_set,
      (has.copies fair).made,
    );
    safe = λ fair done. (the_last fair done).safe;
    prepared = λ fair done devices.
        journal_prepared spellings devices table source slot mid new
        (copies fair done).last has.beside beyond of_set missing (is_last fair done) (the_last fair done);
  }
