-- Calls that write after the superblocks' places leave those as they were, answered or not.
use Rattle.std.proofs.Common.{ℕ, ◌+◌, ◌≤◌, Bool, true, false, cond, List, [], ◌∷◌, ◌++◌, refl, ◌∙◌, arith}
use Rattle.sector_model.specs.declared.event.Event.TheVariants.{Quiet, Lost, DeviceFailed}
use Rattle.sector_model.specs.Calls.{Call, Flush, Made, Read, Write, after_call, writes_from}
use Rattle.sector_model.specs.History.{After, Bytes, History, is_down}
use Rattle.sector_model.specs.Moments.{Contents}
use Rattle.sector_model.proofs.Sequences.{AllKeep, PutsOnly, seen_elsewhere, throughout_kept}
use Rattle.sector_model.proofs.Steps.{throughout_last}
use Rattle.layout_map.specs.declared.sizes.TheConstants.{SUPERBLOCK_PLACES}
use Rattle.array_io.specs.Steps.CallSteps.{KeepsFront}

-- what is written stands after them
abbrev pub Beyond : Contents
Beyond device at value = SUPERBLOCK_PLACES ≤ at

-- and so for each of a row of calls
abbrev pub AllBeyond : List Call → Type 0
AllBeyond [] = Unit {0}
AllBeyond (call ∷ calls) = PutsOnly Beyond call × AllBeyond calls

-- a device that fails
front_failed : (old h : History) (device : ℕ) (is_down_now : Bool) → KeepsFront old h → KeepsFront old (After (cond is_down_now Quiet (DeviceFailed device)) h)
front_failed old h device true before = before
front_failed old h device false before = before

-- or that fails with a write
front_lost : (old h : History) (device at : ℕ) (value : Bytes) (is_down_now : Bool) → KeepsFront old h
    → KeepsFront old (After (cond is_down_now Quiet (Lost device at value)) h)
front_lost old h device at value true before = before
front_lost old h device at value false before = before

-- one call, answered or not
front_after : (old : History) (call : Call) → PutsOnly Beyond call → (answered : Bool) (h : History) → KeepsFront old h
    → KeepsFront old (after_call call answered h)
front_after old (Read device at) beyond true h before = before
front_after old (Read device at) beyond false h before = front_failed old h device (is_down h device) before
front_after old (Write device at value) beyond true h before = λ other place below.
    seen_elsewhere device at value h other place (λ same is. absurd (omega (arith, beyond, below, is))) ∙ before other place below
front_after old (Write device at value) beyond false h before = front_lost old h device at value (is_down h device) before
front_after old (Flush device) beyond true h before = before
front_after old (Flush device) beyond false h before = front_failed old h device (is_down h device) before

-- a row of them
all_keep_front : (old : History) (calls : List Call) → AllBeyond calls → AllKeep (KeepsFront old) calls
all_keep_front old [] beyond = tt
all_keep_front old (call ∷ calls) (one, others) = (record { keeps = front_after old call one }, all_keep_front old calls others)

pub front_stays : {calls : List Call} {answered : Bool} {old new : History} → AllBeyond calls → Made calls answered old new → KeepsFront old new
front_stays {calls = calls} {old = old} {new = new} beyond made =
    throughout_last new (throughout_kept (KeepsFront old) (all_keep_front old calls beyond) (λ device at below. refl) made)

-- writes from one sector on, and a flush
pub writes_beyond : (device at : ℕ) (values : List Bytes) → SUPERBLOCK_PLACES ≤ at → AllBeyond (writes_from device at values ++ Flush device ∷ [])
writes_beyond device at [] least = (tt, tt)
writes_beyond device at (value ∷ values) least = (least, writes_beyond device (at + 1) values (omega (arith, least)))
