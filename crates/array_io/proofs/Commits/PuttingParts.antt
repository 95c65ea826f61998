-- The parts of an entry on one slot: a body and a seal on a journal, the rows on a member. What each comes to, also where the slot's device fails.
use Rattle.std.proofs.Common.{◌≡◌, ◌≢◌, ◌⊎◌, inl, inr, ℕ, ◌+◌, ◌<◌, ◌≤◌, Bool, true, false, List, [], ◌∷◌, ◌++◌, length, Some, Ok, Result, refl, sym, ◌∙◌, ap}
use Rattle.std.proofs.Common.{subst, arith}
use Rattle.std.specs.Prelude.{◌&&◌, Contains}
use Rattle.sector_model.specs.declared.sector.Stop.{Stop}
use Rattle.sector_model.specs.Bank.{Panel}
use Rattle.sector_model.specs.Calls.{Flush, Made, Write, writes_from}
use Rattle.sector_model.specs.History.{Bytes, History, disk_of, is_down, seen, sector_of}
use Rattle.sector_model.specs.Moments.{Contents}
use Rattle.sector_model.specs.Readable.{readable}
use Rattle.sector_model.proofs.Steps.{up_seen}
use Rattle.layout_map.specs.declared.sizes.TheConstants.{FIRST_ROW}
use Rattle.layout_map.specs.declared.format.Format.{Format}
use Rattle.layout_map.specs.Formats.{body_sectors}
use Rattle.superblock.specs.declared.table.Table.{Table}
use Rattle.superblock.specs.Tables.{state_at}
use Rattle.superblock.specs.Counted.{Content}
use Rattle.stripe_journal.specs.declared.seal.Seal.{Seal}
use Rattle.stripe_journal.specs.Body.{seal_place}
use Rattle.stripe_journal.specs.Entries.{body_start, half_start}
use Rattle.stripe_journal.specs.Forms.{format_of, holds, rows_in}
use Rattle.stripe_journal.specs.LastEntry.{IsGreatest}
use Rattle.stripe_journal.specs.OneEntry.{ACrashLeavesEither, HasThisEntry, IsNextOn, StaysOff}
use Rattle.stripe_journal.specs.Seals.{row_at}
use Rattle.stripe_journal.specs.Spelling.{seal_sector}
use Rattle.stripe_journal.proofs.HeldRuns.{body_few}
use Rattle.array_io.specs.Believed.Settled.{trusts}
use Rattle.array_io.specs.Believed.Moments.{HoldsThroughout}
use Rattle.array_io.specs.Steps.Bringing.{CountsOn}
use Rattle.array_io.specs.Steps.Putting.{Awaited, Copied, Formed, HasBody, HasOrigin, HasSeal, HasSource, IsAt, IsComing, IsFormedOn, IsPutBefore, MayWrite}
use Rattle.array_io.specs.Steps.Putting.{Origin, Progress, PutsFrom, held_sector, reached}
use Rattle.array_io.specs.Steps.PuttingRows.{HeldRows, IsRowOn, LeavesSeen, PutsMember, is_put}
use Rattle.array_io.specs.Steps.Writing.{HasFailedOnce}
use Rattle.array_io.specs.Believed.Holds.{IsLiveJournal}
use Rattle.array_io.specs.Laws.Core.{AreJournalsInStep, HasRows}
use Rattle.array_io.proofs.Writes.Written.{KeepsRows}
use Rattle.array_io.proofs.Rest.AtRestRows.{trusts_tells}
use Rattle.array_io.proofs.Commits.EntryCommitted.{IsCommitted, committed_keeps}
use Rattle.array_io.proofs.Commits.EntryCopied.{IsCopiedFrom, copied_keeps}
use Rattle.array_io.proofs.Commits.EntryMembers.{member_failed, member_step}
use Rattle.array_io.proofs.Commits.EntryPhases.{IsRowSector}
use Rattle.array_io.proofs.Commits.EntrySealing.{IsSealedNext}
use Rattle.array_io.proofs.Commits.EntrySteps.{IsStepOf, body_failed, body_step, counted_is_up, read_is_seen, seal_failed, seal_step}
use Rattle.array_io.proofs.Commits.PuttingStates.{coming_still, marked_beside, marked_out, put_still, reached_beside, reached_here, step_beside}
use Rattle.array_io.proofs.Marks.FailedMarked.{MarkedOn}
use Rattle.array_io.proofs.Images.Spellings.{Spellings}
use Rattle.array_io.proofs.Writes.WritingImages.{written_alive}

-- What calls of one slot's device come to, from the state before them: all cases hold at each moment; answered, they lead to the state after them; and where
-- the device failed only that
-- one did, and once its slot is marked missing what is said of it is free.
pub record IsPartOf (after : PutsFrom → Table → History → Type 0) (from : PutsFrom) (slot : ℕ) (table : Table) (old mid : History) (answered : Bool) : Type 0
  where
    pub moments : HoldsThroughout from.base from.devices from.lost from.lists old mid
    pub done : answered ≡ true → after from table mid
    pub failed : is_down mid slot ≡ true → HasFailedOnce from.devices from.base table from.lost from.lists slot mid
    pub marked : (new_table : Table) (new : History) → MarkedOn from.devices from.base table new_table from.lost from.lists slot mid new
        → MayWrite from new_table new → after from new_table new

-- two tests that are both so
both_are : (first second : Bool) → (first && second) ≡ true → (first ≡ true) × (second ≡ true)
both_are true true is = (refl, refl)
both_are true false is = absurd (cc)
both_are false second is = absurd (cc)

both_so : (first second : Bool) → first ≡ true → second ≡ true → (first && second) ≡ true
both_so true true is also = refl
both_so true false is also = absurd (cc)
both_so false second is also = absurd (cc)

sealed_not_awaited : ¬ (Awaited ≡ HasSeal)
sealed_not_awaited e = cc

sealed_not_body : ¬ (HasBody ≡ HasSeal)
sealed_not_body e = cc

-- What is so of the slots, while the entry comes onto the journals.
module _ (spellings : Spellings) (seal : Seal) (body : List Bytes) (from : PutsFrom) (table : Table) (h : History) (origin : Origin) (journals : ℕ → Progress)
    (is : IsComing origin seal body journals from table h) where
  -- what reads give of one on which the table counts
  pub read_there : (k : ℕ) → CountsOn table k → readable h k ≡ Some (seen h k)
  read_there k on = read_is_seen spellings from.devices from.base table from.lost from.lists h is.writes k on

  -- each journal that counts has the entry before, or this one
  others_are : (k : ℕ) → CountsOn table k → (progress : Progress) → IsAt progress table h k seal body
      → IsNextOn table.id table.geometry (disk_of (readable h k)) seal ⊎ HasThisEntry table.id table.geometry (disk_of (readable h k)) seal body
  others_are k on Awaited at = inl (subst (λ (c : Content). IsNextOn table.id table.geometry (disk_of c) seal) (sym (read_there k on)) at)
  others_are k on HasBody at = inl (subst (λ (c : Content). IsNextOn table.id table.geometry (disk_of c) seal) (sym (read_there k on)) at.0)
  others_are k on HasSeal at = inr (subst (λ (c : Content). HasThisEntry table.id table.geometry (disk_of c) seal body) (sym (read_there k on)) at)

  -- an entry that is formed is a commit's, whichever journal is looked at
  pub committed : (target : ℕ) (list_then : List Bytes) (formed : IsFormedOn list_then seal body from table h)
      → IsCommitted table formed.rows (readable h) target formed.sectors seal formed.values body
  committed target list_then formed = record {
    formed = formed.formed;
    long = is.long;
    held = formed.held;
    kept = formed.kept;
    width = formed.width;
    bare = formed.bare;
    sound = formed.sound;
    trust = λ row member below within trusted. formed.trust row member below within
        ((trusts_tells (state_at table.states member) row table.position).1 trusted);
    own = λ row member below within none trusted.
        let tells = (trusts_tells (state_at table.states member) row table.position).1 trusted in
        let on : CountsOn table member = record { of_set = omega (arith, within); there = trusted.there } in
        ap (λ (c : Content). sector_of (disk_of c) (FIRST_ROW + row)) (read_there member on) ∙ formed.own row member below within tells none;
    whole_sectors = formed.whole_sectors;
    others = λ k beyond_k on apart. others_are k on (journals k) (is.on_journals k beyond_k on);
  }

module _ (spellings : Spellings) (seal : Seal) (body : List Bytes) (from : PutsFrom) (table : Table) (old mid : History) (answered : Bool) (slot : ℕ)
    (counted : CountsOn table slot)
    (off : StaysOff (λ d. d ≡ slot) old mid) where
  abbrev Step : Type 0
  Step = IsStepOf from.devices from.base table from.lost from.lists slot old mid

  module _ (law : ACrashLeavesEither) (origin : Origin) (journals : ℕ → Progress) (beyond : table.geometry.members ≤ slot)
      (is : IsComing origin seal body journals from table old) where
    -- the body is one of a journal
    few : length body ≤ body_sectors (format_of seal.form)
    few = omega (arith, is.long, body_few table.geometry.members seal.form table.geometry.limits.members_most seal.formed)

    read : (k : ℕ) → CountsOn table k → readable old k ≡ Some (seen old k)
    read = read_there spellings seal body from table old origin journals is

    stands : (progress : Progress) → journals slot ≡ progress → IsAt progress table old slot seal body
    stands progress so = subst (λ (p : Progress). IsAt p table old slot seal body) so (is.on_journals slot beyond counted)

    -- one step further there, or marked
    module _ (progress : Progress) (no_source : journals slot ≢ HasSeal) where
      stepped : Step → IsAt progress table mid slot seal body → IsComing origin seal body (reached journals slot progress) from table mid
      stepped step at = coming_still slot seal body from table table old mid (step_beside from slot table old mid step) step.from origin journals
          (reached journals slot progress) beyond is
          (reached_beside journals slot progress) (inl no_source)
          (λ on. subst (λ (p : Progress). IsAt p table mid slot seal body) (sym (reached_here journals slot progress)) at)

      marked_on : (new_table : Table) (new : History) → MarkedOn from.devices from.base table new_table from.lost from.lists slot mid new
          → MayWrite from new_table new
          → IsComing origin seal body (reached journals slot progress) from new_table new
      marked_on new_table new marked writes = coming_still slot seal body from table new_table old new
          (marked_beside spellings from slot table new_table old mid new counted off.others_seen marked writes) writes origin journals
          (reached journals slot progress) beyond is
          (reached_beside journals slot progress) (inl no_source)
          (λ on. absurd (marked_out spellings from slot table new_table old mid new counted off.others_seen marked writes on))

    -- the body
    pub body_part : journals slot ≡ Awaited
        → Made (writes_from slot (half_start table.geometry.format seal.number) body ++ Flush slot ∷ []) answered old mid
        → IsPartOf (IsComing origin seal body (reached journals slot HasBody)) from slot table old mid answered
    body_part awaited written =
        let next = stands Awaited awaited in
        let made = subst (λ (f : Format). Made (writes_from slot (half_start f seal.number) body ++ Flush slot ∷ []) answered old mid)
        (sym next.belongs.of_format) written in
        let no_source : journals slot ≢ HasSeal = λ sealed. sealed_not_awaited (sym awaited ∙ sealed) in
        let step = body_step law spellings from.devices from.base table from.lost from.lists slot seal body beyond counted few answered old mid is.writes next
        made in
        record {
          moments = step.0;
          done = λ all. let done = step.1 all in stepped HasBody no_source done.0 (done.1.next, record { stands = done.1.stands });
          failed = body_failed law spellings from.devices from.base table from.lost from.lists slot seal body beyond counted few answered old mid is.writes next
              made;
          marked = marked_on HasBody no_source;
        }

    -- the seal

    module _ (staged : journals slot ≡ HasBody) where
      abbrev PutsSeal : Contents
      PutsSeal device at value = (device ≡ slot) × (at ≡ seal_place seal.number) × (value ≡ seal_sector seal)

      sealed_next : IsSealedNext table PutsSeal (readable old) slot seal body
      sealed_next = record {
        only = λ device at value put. put;
        beyond = beyond;
        of_set = counted.of_set;
        next = subst (λ (c : Content). IsNextOn table.id table.geometry (disk_of c) seal) (sym (read slot counted)) (stands HasBody staged).0;
        its_body = λ k within. ap (λ (c : Content). sector_of (disk_of c) (body_start seal + k)) (read slot counted)
            ∙ (stands HasBody staged).1.stands k within;
      }

      -- what the other journal has, where it has the entry
      copied : (has : HasSource journals table) → IsCopiedFrom table (readable old) has.source slot seal body
      copied has =
          let there = subst (λ (p : Progress). IsAt p table old has.source seal body) has.sealed (is.on_journals has.source has.beyond has.counted) in
          record {
            apart = λ same. sealed_not_body (sym staged ∙ ap journals (sym same) ∙ has.sealed);
            beyond = has.beyond;
            counted = has.counted;
            says = subst (λ (c : Content). IsGreatest table.id table.geometry c seal) (sym (read has.source has.counted)) there.last;
            long = is.long;
            same_body = λ k within. ap (λ (c : Content). sector_of (disk_of c) (body_start seal + k)) (read has.source has.counted)
                ∙ there.has_body k within;
          }

      seal_keeps : KeepsRows from.devices table PutsSeal (readable old) from.lists from.lists
      seal_keeps whole before image written = by_origin origin is.may_stand
        where
          by_origin : (o : Origin) → HasOrigin o seal body journals from table old
              → HasRows from.devices table from.lists (IsLiveJournal from.devices table image) image × AreJournalsInStep from.devices table image
          by_origin (Formed list_then) formed = committed_keeps law from.devices table PutsSeal (readable old) from.lists whole before image written
              (written_alive from.devices table PutsSeal before image written.put) formed.rows slot formed.sectors seal formed.values body sealed_next
              (committed spellings seal body from table old origin journals is slot list_then formed)
              from.lists (λ V among. among) (subst (Contains from.lists) (sym formed.gives) formed.among)
          by_origin Copied has = copied_keeps law from.devices table PutsSeal (readable old) from.lists whole before image written
              (written_alive from.devices table PutsSeal before image written.put) has.source slot seal body sealed_next (copied has)

      pub seal_part : Made (Write slot (seal_place seal.number) (seal_sector seal) ∷ Flush slot ∷ []) answered old mid
          → IsPartOf (IsComing origin seal body (reached journals slot HasSeal)) from slot table old mid answered
      seal_part made =
          let no_source : journals slot ≢ HasSeal = λ sealed. sealed_not_body (sym staged ∙ sealed) in
          let bodied = stands HasBody staged in
          let step = seal_step law spellings from.devices from.base table from.lost from.lists slot seal body beyond counted few answered old mid is.writes
          from.lists
          record { next = bodied.0; stands = bodied.1.stands } seal_keeps made in
          record {
            moments = step.0;
            done = λ all. stepped HasSeal no_source (step.1 all).0 (step.1 all).1;
            failed = seal_failed law spellings from.devices from.base table from.lost from.lists slot seal body beyond counted few answered old mid is.writes
                from.lists
                record { next = bodied.0; stands = bodied.1.stands } seal_keeps made;
            marked = marked_on HasSeal no_source;
          }

  -- the rows

  module _ (within : slot < table.geometry.members) (of : HeldRows) (rows_are : of.rows ≡ rows_in seal.form)
      (held_are : (i : ℕ) → i < length (rows_in seal.form) → of.held i slot ≡ holds table.geometry.members seal.form i slot)
      (values_are : (i : ℕ) → i < length (rows_in seal.form) → holds table.geometry.members seal.form i slot ≡ true
      → of.values i slot ≡ held_sector table.geometry.members seal body i slot)
      (is : IsPutBefore slot seal body from table old) (honest : Type 0) (fair : honest) (old_panel mid_panel : Panel) (result : Result (Unit {0}) Stop)
      (puts : PutsMember honest table of slot old_panel mid_panel old mid result) where
    abbrev PutsRows : Contents
    PutsRows = IsRowOn table of slot

    inside : (i : ℕ) → i < length of.rows → i < length (rows_in seal.form)
    inside i = subst (λ (rows : List ℕ). i < length rows) rows_are

    only : (device at : ℕ) (value : Bytes) → PutsRows device at value → IsRowSector table.geometry.members seal device at
    only device at value put = subst (λ (k : ℕ). IsRowSector table.geometry.members seal k at) (sym put.here) (
      within,
      (
        put.i,
        inside put.i put.below,
        sym (held_are put.i (inside put.i put.below)) ∙ (both_are (of.held put.i slot) _ put.put).0,
        put.place ∙ ap (λ (rows : List ℕ). FIRST_ROW + row_at rows put.i) rows_are,
      ),
    )

    -- a crash left there what reads gave
    leaves_seen : LeavesSeen old slot
    leaves_seen at value may =
        let up = counted_is_up spellings from.devices from.base table from.lost from.lists old is.writes slot counted in
        is.writes.nothing_pending slot at value (sector_of (seen old slot) at) up may (up_seen old slot at up)

    step : HoldsThroughout from.base from.devices from.lost from.lists old mid × (result ≡ Ok tt → Step)
    step =
        let both = member_step spellings from.devices from.base table from.lost from.lists slot seal body PutsRows old mid is.writes only is.on_journals
        (puts.moments fair) (puts.off fair) in
        (both.0, λ ok. both.1 (puts.flushed fair ok leaves_seen) (puts.none_failed fair ok))

    pub rows_part : (answered ≡ true → result ≡ Ok tt) → IsPartOf (IsPutBefore (slot + 1) seal body) from slot table old mid answered
    rows_part ok_if = record {
      moments = step.0;
      done = λ all.
          let ok = ok_if all in
          let stepped = step.1 ok in
          put_still slot seal body from table table old mid (step_beside from slot table old mid stepped) stepped.from slot (slot + 1) is within
          (λ k apart below. omega (arith, apart, below))
          (λ on i below held trusted.
          let rows = rows_are in
          let there : i < length of.rows = subst (λ (r : List ℕ). i < length r) (sym rows) below in
          let put : is_put table of slot i ≡ true = both_so (of.held i slot) _ (held_are i below ∙ held)
          (subst (λ (r : List ℕ). trusts (state_at table.states slot) (row_at r i) table.position ≡ true) (sym rows) trusted) in
          ap (λ (r : List ℕ). sector_of (seen mid slot) (FIRST_ROW + row_at r i)) (sym rows) ∙ puts.written fair ok i there put ∙ values_are i below held);
      failed = member_failed spellings from.devices from.base table from.lost from.lists slot seal body PutsRows old mid is.writes only is.on_journals
          (puts.moments fair) (puts.off fair) counted;
      marked = λ new_table new marked writes.
          put_still slot seal body from table new_table old new
          (marked_beside spellings from slot table new_table old mid new counted off.others_seen marked writes) writes slot (slot + 1) is within
          (λ k apart below. omega (arith, apart, below))
          (λ on. absurd (marked_out spellings from slot table new_table old mid new counted off.others_seen marked writes on));
    }
