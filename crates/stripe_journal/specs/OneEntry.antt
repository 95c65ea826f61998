-- One journal while an entry is put on it: a crash leaves the entry before, or this one.
use Rattle.std.specs.Prelude.{◌≡◌, ◌≢◌, ◌⊎◌, ℕ, ◌+◌, ◌%◌, ◌<◌, ◌≤◌, true, List, [], length, Option, Some, slice_index_or}
use Rattle.layout_map.specs.declared.sizes.TheConstants.{HALVES}
use Rattle.layout_map.specs.Formats.{body_sectors}
use Rattle.layout_map.specs.declared.geometry.Geometry.{Geometry}
use Rattle.sector_model.specs.History.{Bytes, History, MayHold, is_down, seen, sector_of, start_of}
use Rattle.stripe_journal.specs.declared.seal.Seal.{Seal}
use Rattle.stripe_journal.specs.Body.{seal_place}
use Rattle.stripe_journal.specs.Entries.{body_start}
use Rattle.stripe_journal.specs.Forms.{format_of}
use Rattle.stripe_journal.specs.LastEntry.{IsGreatest, IsLastSealed, number_of}
use Rattle.stripe_journal.specs.LastSealed.{Belongs}
use Rattle.stripe_journal.specs.Spelling.{seal_sector}

-- How far an entry has come on a journal: sectors of its body may stand; its body is safe; its seal may stand; its seal is safe.
pub data EntryStage : Type 0 where
  Writing : EntryStage
  Staged : EntryStage
  Sealing : EntryStage
  Sealed : EntryStage

-- the half of a journal in which the body of a seal's entry stands
abbrev pub IsInHalf : Seal → (at : ℕ) → Type 0
IsInHalf seal at = (body_start seal ≤ at) × (at < body_start seal + body_sectors (format_of seal.form))

-- what may stand in the seal's place, where `before` stood
abbrev pub IsSealIn : EntryStage → Seal → (before value : Bytes) → Type 0
IsSealIn Writing seal before value = value ≡ before
IsSealIn Staged seal before value = value ≡ before
IsSealIn Sealing seal before value = (value ≡ before) ⊎ (value ≡ seal_sector seal)
IsSealIn Sealed seal before value = value ≡ seal_sector seal

-- What may stand in a sector of a journal at this stage, where these sectors stood before the entry of this seal and body.
pub record MayStandOn (old : List Bytes) (seal : Seal) (body : List Bytes) (stage : EntryStage) (at : ℕ) (value : Bytes) : Type 0 where
  pub elsewhere : ¬ IsInHalf seal at → at ≢ seal_place seal.number → value ≡ sector_of old at
  pub in_half : stage ≢ Writing → (k : ℕ) → k < length body → at ≡ body_start seal + k → value ≡ slice_index_or body k []
  pub in_place : at ≡ seal_place seal.number → IsSealIn stage seal (sector_of old at) value

-- the entry of a seal may be put on a journal with these sectors: its number is the next
pub record IsNextOn (id : List ℕ) (geometry : Geometry) (old : List Bytes) (seal : Seal) : Type 0 where
  pub id_long : length id ≡ 16
  pub belongs : Belongs id geometry (seal.number % HALVES) seal
  pub last : Option Seal
  pub is_last : IsLastSealed id geometry (Some old) last
  pub number : seal.number ≡ number_of last + 1

-- a journal has the entry that it had before: the same last seal, and the same sectors but in the half of the next entry and in its seal's place
pub record HasEntryBefore (id : List ℕ) (geometry : Geometry) (old disk : List Bytes) (seal : Seal) : Type 0 where
  pub last : (last : Option Seal) → IsLastSealed id geometry (Some old) last → IsLastSealed id geometry (Some disk) last
  pub elsewhere : (at : ℕ) → ¬ IsInHalf seal at → at ≢ seal_place seal.number → sector_of disk at ≡ sector_of old at

-- a journal has this entry as its last
pub record HasThisEntry (id : List ℕ) (geometry : Geometry) (disk : List Bytes) (seal : Seal) (body : List Bytes) : Type 0 where
  pub last : IsGreatest id geometry (Some disk) seal
  pub has_body : (k : ℕ) → k < length body → sector_of disk (body_start seal + k) ≡ slice_index_or body k []

-- At each stage a crash leaves the entry before, or this one: before the seal may stand the one, when it is safe the other.
pub record CrashLeavesEither (id : List ℕ) (geometry : Geometry) (old disk : List Bytes) (seal : Seal) (body : List Bytes) (stage : EntryStage) : Type 0 where
  pub either : HasEntryBefore id geometry old disk seal ⊎ HasThisEntry id geometry disk seal body
  pub before : (stage ≡ Writing) ⊎ (stage ≡ Staged) → HasEntryBefore id geometry old disk seal
  pub this : stage ≡ Sealed → HasThisEntry id geometry disk seal body

-- the law of one entry
abbrev pub ACrashLeavesEither : Type 0
ACrashLeavesEither = (id : List ℕ) (geometry : Geometry) (old disk : List Bytes) (seal : Seal) (body : List Bytes) (stage : EntryStage)
    → IsNextOn id geometry old seal
    → ((at : ℕ) → MayStandOn old seal body stage at (sector_of disk at)) → CrashLeavesEither id geometry old disk seal body stage

-- a crash now leaves in each sector of this journal only what may stand there at this stage
pub record IsOn (dev : ℕ) (old : List Bytes) (seal : Seal) (body : List Bytes) (stage : EntryStage) (h : History) : Type 0 where
  pub each : (at : ℕ) (value : Bytes) → MayHold h dev at value → MayStandOn old seal body stage at value

-- since a run only these devices were called
pub record StaysOff (devices : ℕ → Type 0) (old h : History) : Type 0 where
  pub start : (device : ℕ) → start_of h device ≡ start_of old device
  pub stays_down : (device : ℕ) → is_down old device ≡ true → is_down h device ≡ true
  pub others : (device at : ℕ) (value : Bytes) → ¬ devices device → MayHold h device at value → MayHold old device at value
  pub others_down : (device : ℕ) → ¬ devices device → is_down h device ≡ is_down old device
  pub others_seen : (device : ℕ) → ¬ devices device → seen h device ≡ seen old device
