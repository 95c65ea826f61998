-- The steps by which an entry comes onto one journal: its body, and then its seal; each from a state in which nothing is pending, and to one.
use Rattle.std.proofs.Common.{◌≡◌, ◌≢◌, inr, ℕ, ◌+◌, ◌<◌, ◌≤◌, Bool, true, false, List, [], ◌∷◌, ◌++◌, length, Option, Some, refl, ◌∙◌, ap, subst, arith}
use Rattle.std.specs.Prelude.{slice_index_or}
use Rattle.sector_model.specs.Calls.{Flush, Made, Write, writes_from}
use Rattle.sector_model.specs.History.{Bytes, History, MayHold, is_down, seen, sector_of}
use Rattle.sector_model.specs.Moments.{Contents, Throughout}
use Rattle.sector_model.specs.Readable.{readable}
use Rattle.sector_model.proofs.Readable.{readable_up}
use Rattle.sector_model.proofs.Steps.{throughout_last, up_seen}
use Rattle.layout_map.specs.Formats.{body_sectors, journal_sectors}
use Rattle.superblock.proofs.LeastSectors.{journal_least}
use Rattle.superblock.specs.declared.table.Table.{Table}
use Rattle.superblock.specs.Cases.{Lost}
use Rattle.superblock.specs.Counted.{Content, IsLive}
use Rattle.stripe_journal.specs.declared.seal.Seal.{Seal}
use Rattle.stripe_journal.specs.Body.{seal_place}
use Rattle.stripe_journal.specs.Entries.{body_start}
use Rattle.stripe_journal.specs.Forms.{format_of}
use Rattle.stripe_journal.proofs.Halves.{start_least}
use Rattle.stripe_journal.specs.LastEntry.{IsGreatest}
use Rattle.stripe_journal.specs.OneEntry.{ACrashLeavesEither, HasEntryBefore, HasThisEntry, IsInHalf, IsNextOn, IsOn, MayStandOn, Sealed, Sealing, Staged}
use Rattle.stripe_journal.specs.OneEntry.{StaysOff, Writing}
use Rattle.stripe_journal.specs.Spelling.{seal_sector}
use Rattle.stripe_journal.proofs.OneEntry.{other_half}
use Rattle.stripe_journal.proofs.OneEntryCalls.{IsPutOn, body_put, made_down, seal_put, writing_before}
use Rattle.array_io.specs.Steps.Bringing.{CountsOn}
use Rattle.array_io.specs.Believed.Moments.{HoldsThroughout}
use Rattle.array_io.specs.Steps.Writing.{HasFailedOnce, IsWriting, WritesFrom}
use Rattle.array_io.proofs.Writes.Written.{KeepsRows}
use Rattle.array_io.proofs.Laws.Beginning.{live_is_up}
use Rattle.array_io.proofs.Commits.EntryCalls.{AllAllowed, calls_write, none_pending_off, writes_on}
use Rattle.array_io.proofs.Commits.EntryPhases.{half_keeps}
use Rattle.array_io.proofs.Marks.FailedMarked.{failed_in_step}
use Rattle.array_io.proofs.Images.Spellings.{Spellings}
use Rattle.array_io.proofs.Writes.Writing.{writing_throughout}
use Rattle.array_io.proofs.Writes.WritingImages.{written_alive}

-- the entry of a seal may be put on the journal in this slot
abbrev pub MayPut : Table → History → ℕ → Seal → Type 0
MayPut table h journal seal = IsNextOn table.id table.geometry (seen h journal) seal

-- its body stands there
pub record HasBody (table : Table) (h : History) (journal : ℕ) (seal : Seal) (body : List Bytes) : Type 0 where
  pub next : MayPut table h journal seal
  pub stands : (k : ℕ) → k < length body → sector_of (seen h journal) (body_start seal + k) ≡ slice_index_or body k []

-- the entry is its last
abbrev pub HasIt : Table → History → ℕ → Seal → List Bytes → Type 0
HasIt table h journal seal body = HasThisEntry table.id table.geometry (seen h journal) seal body

-- after a step on one device the others are as they were
pub record IsStepOf (devices : ℕ) (base table : Table) (lost : Option Lost) (X : List (List Bytes)) (device : ℕ) (old new : History) : Type 0 where
  pub from : WritesFrom devices base table lost X new
  pub others : (other : ℕ) → other ≢ device → seen new other ≡ seen old other
  pub down : (other : ℕ) → is_down new other ≡ is_down old other

-- a slot that the table counts on is up, and what reads give of it is what is seen
pub counted_is_up : Spellings → (devices : ℕ) (base table : Table) (lost : Option Lost) (X : List (List Bytes)) (h : History)
    → WritesFrom devices base table lost X h
    → (slot : ℕ) → CountsOn table slot → is_down h slot ≡ false
counted_is_up spellings devices base table lost X h from slot counted = live_is_up spellings devices table h slot (from.there slot counted.of_set counted.there)

pub read_is_seen : Spellings → (devices : ℕ) (base table : Table) (lost : Option Lost) (X : List (List Bytes)) (h : History)
    → WritesFrom devices base table lost X h
    → (slot : ℕ) → CountsOn table slot → readable h slot ≡ Some (seen h slot)
read_is_seen spellings devices base table lost X h from slot counted =
    readable_up h slot (counted_is_up spellings devices base table lost X h from slot counted)

-- a journal has room for its bodies
journal_long : (table : Table) (journal : ℕ) (disk : List Bytes) (devices : ℕ) → table.geometry.members ≤ journal → IsLive devices table journal (Some disk)
    → journal_sectors table.geometry.format ≤ length disk
journal_long table journal disk devices beyond live = omega (arith, journal_least table.geometry journal beyond, live.long_enough)

module _ (law : ACrashLeavesEither) (spellings : Spellings) (devices : ℕ) (base table : Table) (lost : Option Lost) (X : List (List Bytes)) (journal : ℕ)
    (seal : Seal) (body : List Bytes)
    (beyond : table.geometry.members ≤ journal) (counted : CountsOn table journal) (few : length body ≤ body_sectors (format_of seal.form))
    (answered : Bool) (old new : History)
    (from : WritesFrom devices base table lost X old) where
  room : is_down old journal ≡ false → journal_sectors table.geometry.format ≤ length (seen old journal)
  room up = journal_long table journal (seen old journal) devices beyond
      (subst (IsLive devices table journal) (read_is_seen spellings devices base table lost X old from journal counted)
      (from.there journal counted.of_set counted.there))

  -- the same by the format of the entry's form
  room_of : format_of seal.form ≡ table.geometry.format → is_down old journal ≡ false → journal_sectors (format_of seal.form) ≤ length (seen old journal)
  room_of format up = omega (arith, ap journal_sectors format, room up)

  was_up : is_down old journal ≡ false
  was_up = counted_is_up spellings devices base table lost X old from journal counted

  single : (at : ℕ) (value : Bytes) → MayHold old journal at value → value ≡ sector_of (seen old journal) at
  single at value may = from.nothing_pending journal at value (sector_of (seen old journal) at) was_up may (up_seen old journal at was_up)

  none_down : ((d : ℕ) → is_down new d ≡ is_down old d) → (slot : ℕ) → CountsOn table slot → is_down new slot ≡ false
  none_down down slot there = down slot ∙ counted_is_up spellings devices base table lost X old from slot there

  -- the body

  abbrev PutsBody : Contents
  PutsBody device at value = (device ≡ journal) × IsInHalf seal at

  body_allowed : (at : ℕ) (values : List Bytes) → body_start seal ≤ at → at + length values ≤ body_start seal + body_sectors (format_of seal.form)
      → AllAllowed table PutsBody (writes_from journal at values ++ Flush journal ∷ [])
  body_allowed at [] least most = (counted, tt)
  body_allowed at (value ∷ values) least most = (
    (counted, omega (arith, least, start_least seal), (refl, (least, omega (arith, most)))),
    body_allowed (at + 1) values (omega (arith, least)) (omega (arith, most)),
  )

  body_keeps : MayPut table old journal seal → KeepsRows devices table PutsBody (readable old) X X
  body_keeps next whole before image written = half_keeps devices table PutsBody (readable old) X whole before image written
      (written_alive devices table PutsBody before image written.put) journal seal next.belongs.of_format beyond (λ device at value put. put)
      (λ last is. other_half table.id table.geometry (seen old journal) seal last next
      (subst (λ (c : Content). IsGreatest table.id table.geometry c last) (read_is_seen spellings devices base table lost X old from journal counted) is))

  body_writes : Made (writes_from journal (body_start seal) body ++ Flush journal ∷ []) answered old new
      → Throughout (IsWriting table PutsBody old) old new
  body_writes made = calls_write table PutsBody (writes_from journal (body_start seal) body ++ Flush journal ∷ [])
      (body_allowed (body_start seal) body (omega arith) (omega (arith, few))) made

  -- Where the journal's device failed meanwhile, only that did.
  pub body_failed : MayPut table old journal seal → Made (writes_from journal (body_start seal) body ++ Flush journal ∷ []) answered old new
      → is_down new journal ≡ true → HasFailedOnce devices base table lost X journal new
  body_failed next made failed =
      let put = body_put journal (seen old journal) seal body old new few (room_of next.belongs.of_format) (writing_before journal seal body old single) made in
      (failed_in_step spellings devices base table lost X X PutsBody journal old new from (body_keeps next) (body_writes made) (throughout_last new put.0).1
      counted failed).0

  -- The body comes onto the journal: every case keeps holding, and at its end the body stands.
  pub body_step : MayPut table old journal seal → Made (writes_from journal (body_start seal) body ++ Flush journal ∷ []) answered old new
      → HoldsThroughout base devices lost X old new × (answered ≡ true → IsStepOf devices base table lost X journal old new
      × HasBody table new journal seal body)
  body_step next made = (
    writing_throughout spellings devices base table lost X X PutsBody old new from (body_keeps next) moments,
    λ all. (step all, stands all),
  )
    where
      moments : Throughout (IsWriting table PutsBody old) old new
      moments = body_writes made

      put : Throughout (λ h. IsOn journal (seen old journal) seal body Writing h × StaysOff (λ d. d ≡ journal) old h) old new
          × (answered ≡ true → IsPutOn journal (seen old journal) seal body Staged new)
      put = body_put journal (seen old journal) seal body old new few (room_of next.belongs.of_format) (writing_before journal seal body old single) made

      down : answered ≡ true → (d : ℕ) → is_down new d ≡ is_down old d
      down all = made_down (subst (λ (b : Bool). Made (writes_from journal (body_start seal) body ++ Flush journal ∷ []) b old new) all made)

      off : StaysOff (λ d. d ≡ journal) old new
      off = (throughout_last new put.0).1

      step : answered ≡ true → IsStepOf devices base table lost X journal old new
      step all = record {
        from = writes_on spellings devices base table lost X X PutsBody old new from (body_keeps next) (throughout_last new moments)
            (none_pending_off journal old new from.nothing_pending off (put.1 all).flushed) (none_down (down all));
        others = λ other apart. off.others_seen other apart;
        down = down all;
      }

      on_it : answered ≡ true → (at : ℕ) → MayStandOn (seen old journal) seal body Staged at (sector_of (seen new journal) at)
      on_it all at = (put.1 all).on.each at (sector_of (seen new journal) at) (up_seen new journal at (put.1 all).up)

      stands : answered ≡ true → HasBody table new journal seal body
      stands all =
          let kept : HasEntryBefore table.id table.geometry (seen old journal) (seen new journal) seal =
          (law table.id table.geometry (seen old journal) (seen new journal) seal body Staged next (on_it all)).before (inr refl) in
          record {
            next = record {
              id_long = next.id_long;
              belongs = next.belongs;
              last = next.last;
              is_last = kept.last next.last next.is_last;
              number =
                  next.number;
            };
            stands = λ k within. (on_it all (body_start seal + k)).in_half (λ is. absurd (differ is)) k within refl;
          }
        where
          differ : ¬ (Staged ≡ Writing)
          differ e = cc

  -- the seal

  abbrev PutsSeal : Contents
  PutsSeal device at value = (device ≡ journal) × (at ≡ seal_place seal.number) × (value ≡ seal_sector seal)

  seal_writes : Made (Write journal (seal_place seal.number) (seal_sector seal) ∷ Flush journal ∷ []) answered old new
      → Throughout (IsWriting table PutsSeal old) old new
  seal_writes made = calls_write table PutsSeal (Write journal (seal_place seal.number) (seal_sector seal) ∷ Flush journal ∷ [])
      ((counted, omega arith, (refl, refl, refl)), (counted, tt)) made

  staged_on : HasBody table old journal seal body → IsOn journal (seen old journal) seal body Staged old
  staged_on has = record {
    each = λ at value may. record {
      elsewhere = λ outside apart. single at value may;
      in_half = λ later k within is. single at value may ∙ ap (sector_of (seen old journal)) is ∙ has.stands k within;
      in_place = λ is. single at value may;
    };
  }

  -- Where the journal's device failed meanwhile, only that did.
  pub seal_failed : (X' : List (List Bytes)) → HasBody table old journal seal body → KeepsRows devices table PutsSeal (readable old) X X'
      → Made (Write journal (seal_place seal.number) (seal_sector seal) ∷ Flush journal ∷ []) answered old new → is_down new journal ≡ true
      → HasFailedOnce devices base table lost X' journal new
  seal_failed X' has keeps made failed =
      let put = seal_put journal (seen old journal) seal body old new (room_of has.next.belongs.of_format) (staged_on has) made in
      (failed_in_step spellings devices base table lost X X' PutsSeal journal old new from keeps (seal_writes made) (throughout_last new put.0).1 counted
      failed).0

  -- The seal comes onto a journal on which the body stands, where that keeps the rows of each image: then the entry is its last.
  pub seal_step : (X' : List (List Bytes)) → HasBody table old journal seal body → KeepsRows devices table PutsSeal (readable old) X X'
      → Made (Write journal (seal_place seal.number) (seal_sector seal) ∷ Flush journal ∷ []) answered old new
      → HoldsThroughout base devices lost X' old new × (answered ≡ true → IsStepOf devices base table lost X' journal old new
      × HasIt table new journal seal body)
  seal_step X' has keeps made = (
    writing_throughout spellings devices base table lost X X' PutsSeal old new from keeps moments,
    λ all. (step all, (law table.id table.geometry (seen old journal) (seen new journal) seal body Sealed has.next (on_it all)).this refl),
  )
    where
      moments : Throughout (IsWriting table PutsSeal old) old new
      moments = seal_writes made

      put : Throughout (λ h. IsOn journal (seen old journal) seal body Sealing h × StaysOff (λ d. d ≡ journal) old h) old new
          × (answered ≡ true → IsPutOn journal (seen old journal) seal body Sealed new)
      put = seal_put journal (seen old journal) seal body old new (room_of has.next.belongs.of_format) (staged_on has) made

      down : answered ≡ true → (d : ℕ) → is_down new d ≡ is_down old d
      down all = made_down (subst (λ (b : Bool). Made (Write journal (seal_place seal.number) (seal_sector seal) ∷ Flush journal ∷ []) b old new) all made)

      off : StaysOff (λ d. d ≡ journal) old new
      off = (throughout_last new put.0).1

      step : answered ≡ true → IsStepOf devices base table lost X' journal old new
      step all = record {
        from = writes_on spellings devices base table lost X X' PutsSeal old new from keeps (throughout_last new moments)
            (none_pending_off journal old new from.nothing_pending off (put.1 all).flushed) (none_down (down all));
        others = λ other apart. off.others_seen other apart;
        down = down all;
      }

      on_it : answered ≡ true → (at : ℕ) → MayStandOn (seen old journal) seal body Sealed at (sector_of (seen new journal) at)
      on_it all at = (put.1 all).on.each at (sector_of (seen new journal) at) (up_seen new journal at (put.1 all).up)
