-- A missing slot's device is prepared: nothing of the set counts on it, and a journal has the last entry of the other
-- journal.
use Rattle.std.proofs.Common.{◌≡◌, ◌≢◌, inl, inr, ℕ, ◌+◌, ◌%◌, ◌<◌, ◌≤◌, true, false, List, [], ◌∷◌}
use Rattle.std.proofs.Common.{length, replicate, Option, Some, None, refl, sym, ◌∙◌, ap, subst, arith}
use Rattle.std.proofs.lemmas.Bool.{cases_eq}
use Rattle.std.proofs.lemmas.List.{get_or-replicate, length-replicate}
use Rattle.std.proofs.lemmas.List.FromFn.{get_or-map-range_with_len, length-map-range_with_len}
use Rattle.std.proofs.lemmas.Option.{same_Some}
use Rattle.sector_model.specs.Calls.{Flush, Made, after_all, writes_from}
use Rattle.sector_model.specs.History.{Bytes, History, MayHold, is_down, sector_of, seen}
use Rattle.sector_model.specs.Readable.{readable}
use Rattle.sector_model.proofs.Readable.{readable_up}
use Rattle.sector_model.proofs.Sequences.{after_both, made_all, seen_writes}
use Rattle.sector_model.proofs.Steps.{throughout_last, up_seen}
use Rattle.layout_map.specs.declared.sizes.TheConstants.{FIRST_SEAL, HALVES, SUPERBLOCK_PLACES}
use Rattle.layout_map.specs.Formats.{body_sectors, journal_sectors}
use Rattle.superblock.specs.declared.state.State.TheVariants.{Missing}
use Rattle.superblock.specs.declared.table.Table.{Table}
use Rattle.superblock.specs.Cases.{HasNone}
use Rattle.superblock.specs.Counted.{Content}
use Rattle.superblock.specs.NextTables.{slots_of}
use Rattle.superblock.specs.Tables.{state_at}
use Rattle.stripe_journal.specs.declared.seal.Seal.{Seal}
use Rattle.stripe_journal.specs.Body.{place_by_seal, seal_place}
use Rattle.stripe_journal.specs.Copying.{body_in, copy_calls}
use Rattle.stripe_journal.specs.Entries.{body_start}
use Rattle.stripe_journal.specs.Forms.{format_of, held_before, rank, rows_in}
use Rattle.stripe_journal.specs.LastEntry.{Counts, IsGreatest, IsLastSealed}
use Rattle.stripe_journal.specs.OneEntry.{IsOn, MayStandOn, Sealed, Writing}
use Rattle.stripe_journal.proofs.Bodies.{is_placed}
use Rattle.stripe_journal.proofs.EntrySectors.{same_sectors}
use Rattle.stripe_journal.proofs.LastOfOne.{last_is_one}
use Rattle.stripe_journal.proofs.Halves.{start_least}
use Rattle.stripe_journal.proofs.HeldRuns.{body_few}
use Rattle.stripe_journal.proofs.Masks.{rank_before}
use Rattle.stripe_journal.proofs.OneEntryCalls.{IsPutOn, copy_put}
use Rattle.array_io.specs.Believed.Holds.{HaveEqualBodies, IsLiveJournal}
use Rattle.array_io.proofs.Laws.Beginning.{live_is_up}
use Rattle.array_io.proofs.Laws.SettledFresh.{zeros_are}
use Rattle.array_io.proofs.Images.Spellings.{Spellings}
use Rattle.rebuild.specs.Preparing.{IsJournalBeside, IsPrepared}
use Rattle.rebuild.specs.PreparingCalls.{clear_calls, copy_of, zeros}

-- What a crash leaves on a device is what reads give.
abbrev pub IsSafe : (device : ℕ) → History → Type 0
IsSafe device h = (at : ℕ) (value : Bytes) → MayHold h device at value → value ≡ sector_of (seen h device) at

-- the first so many sectors of a device are zero
abbrev pub IsZeroBelow : (end : ℕ) → List Bytes → Type 0
IsZeroBelow end disk = (at : ℕ) → at < end → sector_of disk at ≡ replicate 512 0

-- they are, once they were cleared
pub front_cleared : (slot end : ℕ) (old new : History) → end ≤ length (seen old slot)
    → Made (clear_calls slot end) true old new → IsZeroBelow end (seen new slot)
front_cleared slot end old new room made at below =
    let start : 0 + at ≡ at = omega arith in
    let many : length (zeros end) ≡ end = length-replicate end (replicate 512 0) in
    ap (λ (h : History). sector_of (seen h slot) at)
    (made_all made ∙ after_both (writes_from slot 0 (zeros end)) (Flush slot ∷ []) old)
    ∙ ap (λ (k : ℕ). sector_of (seen (after_all (writes_from slot 0 (zeros end)) old) slot) k) (sym start)
    ∙ seen_writes slot 0 (zeros end) old at (omega (arith, below, many)) (omega (arith, room, many))
    ∙ get_or-replicate end at (replicate 512 0) [] below

-- no superblock counts where both places are zero
pub none_in_zeros : Spellings → (id : List ℕ) (devices slot : ℕ) (disk : List Bytes) → IsZeroBelow SUPERBLOCK_PLACES disk
    → HasNone id devices slot (Some disk)
none_in_zeros spellings id devices slot disk cleared place superblock counts =
    spellings.zero_no_superblock superblock
    (sym zeros_are ∙ sym (cleared place (omega (arith, counts.own_place))) ∙ counts.stands)

-- and no seal where both its places are
no_seal_in_zero : Spellings → (table : Table) (disk : List Bytes) (place : ℕ) (seal : Seal)
    → sector_of disk (FIRST_SEAL + place) ≡ replicate 512 0
    → ¬ Counts table.id table.geometry (Some disk) place seal
no_seal_in_zero spellings table disk place seal cleared counts =
    spellings.zero_no_seal seal (sym zeros_are ∙ sym cleared ∙ counts.stands)

-- A journal's device when the last entry of the other journal was copied to it, since the device was cleared.
pub record HasLast (table : Table) (source slot : ℕ) (mid new : History) (last : Option Seal) : Type 0 where
  pub up : is_down new slot ≡ false
  pub safe : IsSafe slot new
  pub source_same : seen new source ≡ seen mid source
  pub places : IsZeroBelow SUPERBLOCK_PLACES (seen new slot)
  pub sealed : IsLastSealed table.id table.geometry (Some (seen new slot)) last
  pub bodies : (seal : Seal) → last ≡ Some seal
      → HaveEqualBodies table.geometry.members (Some (seen new source)) (Some (seen new slot)) seal

-- There is none: nothing was copied.
none_copied : Spellings → (table : Table) (source slot : ℕ) (mid : History) → is_down mid slot ≡ false
    → IsZeroBelow (FIRST_SEAL + HALVES) (seen mid slot) → IsSafe slot mid
    → HasLast table source slot mid mid None
none_copied spellings table source slot mid up cleared safe = record {
  up = up;
  safe = safe;
  source_same = refl;
  places = λ at below. cleared at (omega (arith, below));
  sealed = λ place seal counts. no_seal_in_zero spellings table (seen mid slot) place seal
      (cleared (FIRST_SEAL + place) (omega (arith, counts.belongs.own_place))) counts;
  bodies = λ seal is. absurd (cc);
}

-- There is one: it was copied.

module _ (spellings : Spellings) (table : Table) (source slot : ℕ) (seal : Seal) (mid new : History)
    (apart : source ≢ slot) (cleared : IsZeroBelow (FIRST_SEAL + HALVES) (seen mid slot))
    (safe : IsSafe slot mid) (room : journal_sectors table.geometry.format ≤ length (seen mid slot))
    (made : Made (copy_calls source slot seal (body_in table.geometry.members (seen mid source) seal)) true mid new)
    (last : IsGreatest table.id table.geometry (Some (seen mid source)) seal) where
  abbrev body : List Bytes
  body = body_in table.geometry.members (seen mid source) seal

  -- so many sectors does the entry hold
  abbrev held : ℕ
  held = held_before table.geometry.members seal.form (length (rows_in seal.form))

  long : length body ≡ held
  long = length-map-range_with_len (λ i. sector_of (seen mid source) (body_start seal + i)) 0 held

  few : length body ≤ body_sectors (format_of seal.form)
  few = omega (arith, long, body_few table.geometry.members seal.form table.geometry.limits.members_most seal.formed)

  has_room : journal_sectors (format_of seal.form) ≤ length (seen mid slot)
  has_room = omega (arith, ap journal_sectors last.counted.belongs.of_format, room)

  begins : IsOn slot (seen mid slot) seal body Writing mid
  begins = record {
    each = λ at value may. record {
      elsewhere = λ half place. safe at value may;
      in_half = λ stage. absurd (stage refl);
      in_place = λ place. safe at value may;
    };
  }

  is_put : IsPutOn slot (seen mid slot) seal body Sealed new
  is_put = (copy_put slot (seen mid slot) seal body source apart mid new few (λ up. has_room) begins made).1 refl

  source_same : seen new source ≡ seen mid source
  source_same = (throughout_last new
      (copy_put slot (seen mid slot) seal body source apart mid new few (λ up. has_room) begins made).0).2.same

  stands : (at : ℕ) → MayStandOn (seen mid slot) seal body Sealed at (sector_of (seen new slot) at)
  stands at = is_put.on.each at (sector_of (seen new slot) at) (up_seen new slot at is_put.up)

  -- before the bodies only the seal's place was written
  front : (at : ℕ) → at < FIRST_SEAL + HALVES → at ≢ seal_place seal.number → sector_of (seen new slot) at ≡ replicate 512 0
  front at below other = (stands at).elsewhere (λ half. absurd (omega (arith, below, half.0, start_least seal))) other ∙ cleared at below

  -- another seal does not count
  one_counts : (place : ℕ) (other : Seal) → Counts table.id table.geometry (Some (seen new slot)) place other
      → place ≡ seal.number % HALVES
  one_counts place other counts = elim (cases_eq place (seal.number % HALVES)) [
    | inl same ↦ same
    | inr differs ↦ absurd (no_seal_in_zero spellings table (seen new slot) place other
        (front (FIRST_SEAL + place) (omega (arith, counts.belongs.own_place)) (λ is. differs (omega (arith, is)))) counts)
  ]

  -- the seal does
  counted : Counts table.id table.geometry (Some (seen new slot)) last.place seal
  counted = record {
    stands = (stands (FIRST_SEAL + last.place)).in_place (ap (λ (p : ℕ). FIRST_SEAL + p) (sym last.counted.belongs.own_place));
    belongs = last.counted.belongs;
  }

  sealed : IsGreatest table.id table.geometry (Some (seen new slot)) seal
  sealed = record {
    place = last.place;
    counted = counted;
    greatest = λ at other counts.
        let here : at ≡ last.place = one_counts at other counts ∙ last.counted.belongs.own_place in
        let same : other ≡ seal = spellings.one_seal other seal
        (sym counts.stands ∙ ap (λ (p : ℕ). sector_of (seen new slot) (FIRST_SEAL + p)) here ∙ counted.stands) in
        omega (arith, ap (λ (s : Seal). s.number) same);
  }

  -- and its body is that of the other journal
  same_part : (row member place : ℕ) → member < table.geometry.members
      → place_by_seal table.geometry.members seal row member ≡ Some place
      → sector_of (seen new source) place ≡ sector_of (seen new slot) place
  same_part row member place below found =
      let members = table.geometry.members in
      let at = is_placed members seal row member place found in
      let part = rank members seal.form at.i member in
      let within : part < held =
      rank_before members seal.form at.i member (length (rows_in seal.form)) at.held below at.within in
      ap (λ (l : List Bytes). sector_of l place) source_same
      ∙ ap (sector_of (seen mid source)) at.place_is
      ∙ sym (get_or-map-range_with_len (λ k. sector_of (seen mid source) (body_start seal + k)) 0
      held part part [] within (omega arith))
      ∙ sym ((stands place).in_half (λ is. cc) part (omega (arith, within, long)) at.place_is)

  one_copied : HasLast table source slot mid new (Some seal)
  one_copied = record {
    up = is_put.up;
    safe = is_put.flushed;
    source_same = source_same;
    places = λ at below. front at (omega (arith, below)) (λ is. absurd (omega (arith, below, is)));
    sealed = sealed;
    bodies = λ other is.
        let same : seal ≡ other = same_Some seal other is in
        subst (λ (s : Seal). HaveEqualBodies table.geometry.members (Some (seen new source))
        (Some (seen new slot)) s) same
        (λ row member below. same_sectors table.geometry.members (Some (seen new source))
        (Some (seen new slot)) seal row member (λ place. same_part row member place below));
  }

-- What a copy of the last entry leaves.
pub has_last : Spellings → (table : Table) (source slot : ℕ) (mid new : History) (last : Option Seal) → source ≢ slot
    → is_down mid slot ≡ false → IsZeroBelow (FIRST_SEAL + HALVES) (seen mid slot) → IsSafe slot mid
    → journal_sectors table.geometry.format ≤ length (seen mid slot)
    → Made (copy_of source slot table.geometry.members (seen mid source) last) true mid new
    → IsLastSealed table.id table.geometry (Some (seen mid source)) last → HasLast table source slot mid new last
has_last spellings table source slot mid new None apart up cleared safe room made is =
    subst (λ (h : History). HasLast table source slot mid h None) (sym (made_all made))
    (none_copied spellings table source slot mid up cleared safe)
has_last spellings table source slot mid new (Some seal) apart up cleared safe room made is =
    one_copied spellings table source slot seal mid new apart cleared safe room made is

-- So the device is prepared.
pub journal_prepared : Spellings
    → (devices : ℕ) (table : Table) (source slot : ℕ) (mid new : History) (last : Option Seal)
    → IsJournalBeside table slot source
    → table.geometry.members ≤ slot → slot < slots_of table → state_at table.states slot ≡ Missing
    → IsLastSealed table.id table.geometry (Some (seen mid source)) last → HasLast table source slot mid new last
    → IsPrepared devices table slot new
journal_prepared spellings devices table source slot mid new last beside beyond of_set missing is_last has = record {
  none = subst (HasNone table.id devices slot) (sym read_slot)
      (none_in_zeros spellings table.id devices slot (seen new slot) has.places);
  entry = λ _. record {
    sealed = λ journal found live is.
        let found_there = subst (λ (c : Content). IsLastSealed table.id table.geometry c found)
        (read_source journal live) is in
        let same : found ≡ last = last_is_one table.id table.geometry
        (Some (seen mid source)) found last table.id_long found_there is_last in
        subst (λ (c : Content). IsLastSealed table.id table.geometry c found) (sym read_slot)
        (subst (λ (o : Option Seal). IsLastSealed table.id table.geometry (Some (seen new slot)) o)
        (sym same) has.sealed);
    bodies = λ journal seal live is.
        let found_there = subst (λ (c : Content). IsLastSealed table.id table.geometry c (Some seal))
        (read_source journal live) is in
        let same : Some seal ≡ last = last_is_one table.id table.geometry (Some (seen mid source))
        (Some seal) last table.id_long found_there is_last in
        subst (λ (c : Content). HaveEqualBodies table.geometry.members (readable new journal) c seal) (sym read_slot)
        (subst (λ (c : Content). HaveEqualBodies table.geometry.members c (Some (seen new slot)) seal)
        (ap (λ (l : List Bytes). Some l) has.source_same ∙ sym (read_source journal live))
        (has.bodies seal (sym same)));
  };
}
  where
    read_slot : readable new slot ≡ Some (seen new slot)
    read_slot = readable_up new slot has.up

    -- the only journal that may be live is the other one
    only_source : (journal : ℕ) → IsLiveJournal devices table (readable new) journal → journal ≡ source
    only_source journal live =
        let apart : journal ≢ slot = λ same. live.live.not_missing (ap (state_at table.states) same ∙ missing) in
        elim (cases_eq journal source) [
          | inl same ↦ same
          | inr differs ↦ absurd (omega (
            arith,
            live.beyond_members,
            live.of_set,
            beside.beyond_members,
            beside.of_set,
            beside.apart,
            beyond,
            of_set,
            apart,
            differs,
          ))
        ]

    read_source : (journal : ℕ) → IsLiveJournal devices table (readable new) journal
        → readable new journal ≡ Some (seen mid source)
    read_source journal live =
        readable_up new journal (live_is_up spellings devices table new journal live.live)
        ∙ ap (λ (k : ℕ). Some (seen new k)) (only_source journal live)
        ∙ ap (λ (l : List Bytes). Some l) has.source_same

-- A member's device is prepared once its places are cleared.
pub member_prepared : Spellings → (devices : ℕ) (table : Table) (slot : ℕ) (new : History)
    → slot < table.geometry.members → is_down new slot ≡ false
    → IsZeroBelow SUPERBLOCK_PLACES (seen new slot) → IsPrepared devices table slot new
member_prepared spellings devices table slot new member up cleared = record {
  none = subst (HasNone table.id devices slot) (sym (readable_up new slot up))
      (none_in_zeros spellings table.id devices slot (seen new slot) cleared);
  entry = λ beyond. absurd (omega (arith, member, beyond));
}
