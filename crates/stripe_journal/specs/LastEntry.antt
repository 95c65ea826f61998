-- Which entry of a set's journals is the last.
use Rattle.std.specs.Prelude.{◌≡◌, ℕ, ◌+◌, ◌≤◌, Bool, nat_lt, if◌then◌else◌, List, Option, Some, None, replicate}
use Rattle.layout_map.specs.declared.sizes.TheConstants.{FIRST_SEAL}
use Rattle.layout_map.specs.declared.geometry.Geometry.{Geometry}
use Rattle.sector_model.specs.History.{Bytes, Slots, disk_of, sector_of}
use Rattle.stripe_journal.specs.declared.seal.Seal.{Seal}
use Rattle.stripe_journal.specs.Body.{place_by_seal, zero_by_seal}
use Rattle.stripe_journal.specs.LastSealed.{Belongs}
use Rattle.stripe_journal.specs.Spelling.{seal_sector}

-- a seal counts in a place (0 or 1) of what a journal's slot has: it stands there, and belongs there
pub record Counts (id : List ℕ) (geometry : Geometry) (content : Option (List Bytes)) (place : ℕ) (seal : Seal) : Type 0 where
  pub stands : sector_of (disk_of content) (FIRST_SEAL + place) ≡ seal_sector seal
  pub belongs : Belongs id geometry place seal

-- no seal counts there
abbrev pub CountsNone : List ℕ → Geometry → Option (List Bytes) → ℕ → Type 0
CountsNone id geometry content place = (seal : Seal) → ¬ Counts id geometry content place seal

-- the later of two seals: that with the greater number, and of two with the same number the first
abbrev pub later_of : Option Seal → Option Seal → Option Seal
later_of None second = second
later_of (Some first) None = Some first
later_of (Some first) (Some second) = if nat_lt first.number second.number then Some second else Some first

-- a counted seal with the greatest number of all that count there
pub record IsGreatest (id : List ℕ) (geometry : Geometry) (content : Option (List Bytes)) (seal : Seal) : Type 0 where
  pub place : ℕ
  pub counted : Counts id geometry content place seal
  pub greatest : (at : ℕ) (other : Seal) → Counts id geometry content at other → other.number ≤ seal.number

-- the greatest counted seal of a journal, if one counts
abbrev pub IsLastSealed : List ℕ → Geometry → Option (List Bytes) → Option Seal → Type 0
IsLastSealed id geometry content None = (place : ℕ) (seal : Seal) → ¬ Counts id geometry content place seal
IsLastSealed id geometry content (Some seal) = IsGreatest id geometry content seal

-- its number, 0 where there is none
abbrev pub number_of : Option Seal → ℕ
number_of None = 0
number_of (Some seal) = seal.number

-- an entry: its seal, and the journal slot in which it stands
pub record Entry : Type 0 where
  pub journal : ℕ
  pub seal : Seal

-- the entry with the greatest number on a live journal, and of two with the same number the one in the lower slot
pub record IsLatest (id : List ℕ) (geometry : Geometry) (live : ℕ → Type 0) (image : Slots) (entry : Entry) : Type 0 where
  pub on_live : live entry.journal
  pub sealed : IsGreatest id geometry (image entry.journal) entry.seal
  pub greatest : (journal : ℕ) (seal : Seal) → live journal → IsGreatest id geometry (image journal) seal → seal.number ≤ entry.seal.number
  pub lowest : (journal : ℕ) (seal : Seal) → live journal → IsGreatest id geometry (image journal) seal → seal.number ≡ entry.seal.number
      → entry.journal ≤ journal

-- the last entry, if a seal counts on a live journal; `live` says which slots are live journals
abbrev pub IsLastEntry : List ℕ → Geometry → (ℕ → Type 0) → Slots → Option Entry → Type 0
IsLastEntry id geometry live image None = (journal place : ℕ) (seal : Seal) → live journal → ¬ Counts id geometry (image journal) place seal
IsLastEntry id geometry live image (Some entry) = IsLatest id geometry live image entry

-- what stands at a place of a journal, if it is one, else a zero sector where the sector is said to be zero
abbrev pub placed_or_zero : List Bytes → (place : Option ℕ) → (is_zero : Bool) → Option Bytes
placed_or_zero disk (Some place) is_zero = Some (sector_of disk place)
placed_or_zero disk None is_zero = if is_zero then Some (replicate 512 0) else None

-- the sector that an entry has for a member in a row, if it has one: that of its body, or a zero one of a row of zeros
abbrev pub sector_in : (members : ℕ) → Option (List Bytes) → Seal → (row member : ℕ) → Option Bytes
sector_in members content seal row member =
    placed_or_zero (disk_of content) (place_by_seal members seal row member) (zero_by_seal members seal row member)

-- the same of the last entry, none where there is none
abbrev pub sector_of_last : (members : ℕ) → Slots → Option Entry → (row member : ℕ) → Option Bytes
sector_of_last members image None row member = None
sector_of_last members image (Some entry) row member = sector_in members (image entry.journal) entry.seal row member
