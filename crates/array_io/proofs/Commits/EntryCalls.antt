-- Device calls that write after the superblocks of the slots that a table counts on.
use Rattle.std.proofs.Common.{◌≡◌, ◌⊎◌, inl, inr, ℕ, ◌≤◌, Bool, false, List, [], ◌∷◌, Option, sym, ◌∙◌, subst}
use Rattle.std.proofs.lemmas.Bool.{cases_eq}
use Rattle.sector_model.specs.Calls.{Call, Flush, Made, Read, Write}
use Rattle.sector_model.specs.History.{Bytes, History, MayHold, is_down, seen, sector_of}
use Rattle.sector_model.specs.Moments.{Contents, LeavesWithin, Throughout}
use Rattle.sector_model.specs.Readable.{NothingPending, readable}
use Rattle.sector_model.proofs.Sequences.{AllKeep, IsKeptBy, kept_both, kept_within, throughout_kept}
use Rattle.sector_model.proofs.Steps.{throughout_more}
use Rattle.layout_map.specs.declared.sizes.TheConstants.{SUPERBLOCK_PLACES}
use Rattle.superblock.specs.declared.table.Table.{Table}
use Rattle.superblock.specs.Cases.{Lost}
use Rattle.stripe_journal.specs.OneEntry.{StaysOff}
use Rattle.stripe_journal.proofs.OneEntryCalls.{kept_off, stays_off_none}
use Rattle.array_io.specs.Steps.Bringing.{CountsOn}
use Rattle.array_io.specs.Steps.Writing.{IsWriting, WritesFrom}
use Rattle.array_io.proofs.Writes.Written.{KeepsRows}
use Rattle.array_io.proofs.Images.Spellings.{Spellings}
use Rattle.array_io.proofs.Writes.Writing.{writing_chosen, writing_holds, writing_there}

-- a call of a device that the table counts on, which puts only what may be put
abbrev pub IsAllowed : Table → Contents → Call → Type 0
IsAllowed table puts (Read device at) = CountsOn table device
IsAllowed table puts (Write device at value) = CountsOn table device × (SUPERBLOCK_PLACES ≤ at) × puts device at value
IsAllowed table puts (Flush device) = CountsOn table device

abbrev pub AllAllowed : Table → Contents → List Call → Type 0
AllAllowed table puts [] = Unit {0}
AllAllowed table puts (call ∷ calls) = IsAllowed table puts call × AllAllowed table puts calls

-- what may stand in a sector while a set is written since `old`
abbrev OldOrPut : Table → Contents → History → Contents
OldOrPut table puts old device at value = MayHold old device at value ⊎ (CountsOn table device × (SUPERBLOCK_PLACES ≤ at) × puts device at value)

abbrev IsWritingOff : Table → Contents → History → History → Type 0
IsWritingOff table puts old h = LeavesWithin (OldOrPut table puts old) h × StaysOff (CountsOn table) old h

is_writing : (table : Table) (puts : Contents) (old h : History) → IsWritingOff table puts old h → IsWriting table puts old h
is_writing table puts old h (left, off) = record {
  holds = left.each;
  start = off.start;
  stays_down = off.stays_down;
  others_stay = off.others_down;
}

kept_writing : (table : Table) (puts : Contents) (old : History) (call : Call) → IsAllowed table puts call → IsKeptBy (IsWritingOff table puts old) call
kept_writing table puts old (Read device at) allowed =
    kept_both (LeavesWithin (OldOrPut table puts old)) (λ h. StaysOff (CountsOn table) old h) (Read device at)
    (kept_within (OldOrPut table puts old) (Read device at) tt) (kept_off (CountsOn table) old (Read device at) allowed)
kept_writing table puts old (Write device at value) allowed =
    kept_both (LeavesWithin (OldOrPut table puts old)) (λ h. StaysOff (CountsOn table) old h) (Write device at value)
    (kept_within (OldOrPut table puts old) (Write device at value) (inr allowed)) (kept_off (CountsOn table) old (Write device at value) allowed.0)
kept_writing table puts old (Flush device) allowed = kept_both (LeavesWithin (OldOrPut table puts old)) (λ h. StaysOff (CountsOn table) old h) (Flush device)
    (kept_within (OldOrPut table puts old) (Flush device) tt) (kept_off (CountsOn table) old (Flush device) allowed)

all_kept : (table : Table) (puts : Contents) (old : History) (calls : List Call) → AllAllowed table puts calls → AllKeep (IsWritingOff table puts old) calls
all_kept table puts old [] allowed = tt
all_kept table puts old (call ∷ calls) (one, others) = (kept_writing table puts old call one, all_kept table puts old calls others)

-- at each moment of such calls the set is written
pub calls_write : (table : Table) (puts : Contents) (calls : List Call) {answered : Bool} {old new : History} → AllAllowed table puts calls
    → Made calls answered old new
    → Throughout (IsWriting table puts old) old new
calls_write table puts calls {old = old} {new = new} allowed made = throughout_more (λ h is. is_writing table puts old h is) new
    (throughout_kept (IsWritingOff table puts old) (all_kept table puts old calls allowed)
    (record { each = λ device at value may. inl may }, stays_off_none (CountsOn table) old) made)

-- nothing is pending where only one device was called, and what a crash leaves on it is what reads give
pub none_pending_off : (device : ℕ) (old new : History) → NothingPending old → StaysOff (λ d. d ≡ device) old new
    → ((at : ℕ) (value : Bytes) → MayHold new device at value → value ≡ sector_of (seen new device) at) → NothingPending new
none_pending_off device old new pending off flushed d at first second up may may' = elim (cases_eq d device) [
  | inl is ↦
      let here : (value : Bytes) → MayHold new d at value → value ≡ sector_of (seen new device) at =
      λ value held. flushed at value (subst (λ (k : ℕ). MayHold new k at value) is held) in
      here first may ∙ sym (here second may')
  | inr apart ↦ pending d at first second (sym (off.others_down d apart) ∙ up) (off.others d at first apart may) (off.others d at second apart may')
]

-- the set may be written on from there
pub writes_on : Spellings → (devices : ℕ) (base table : Table) (lost : Option Lost) (X X' : List (List Bytes)) (puts : Contents) (old new : History)
    → WritesFrom devices base table lost X old → KeepsRows devices table puts (readable old) X X' → IsWriting table puts old new → NothingPending new
    → ((slot : ℕ) → CountsOn table slot → is_down new slot ≡ false) → WritesFrom devices base table lost X' new
writes_on spellings devices base table lost X X' puts old new from keeps is pending up = record {
  nothing_pending = pending;
  there = writing_there spellings devices table puts old new from.nothing_pending from.there is up;
  same_id = from.same_id;
  holds = writing_holds spellings devices base table lost X X' puts old new from keeps is;
  chosen = λ after lost_at. writing_chosen spellings devices base table lost X X' puts old new from keeps is after lost_at;
}
