-- The lines of a server: a relation between the bytes of a line and what it demands. A name is any bytes here; whether it is a good one is decided by the
-- command.
use Rattle.std.specs.Prelude.{◌≡◌, ℕ, List, [], ◌∷◌, ◌++◌, codes}
use Rattle.volume_table.specs.VolumeStep.{Command, Create, Extend, Names, Read, Remove, Rename, Write}
use Rattle.report.specs.Grammar.{IsField, IsNumber, Says, spaced}
use Rattle.requests.specs.declared.parse.Request.{Request}
use Rattle.requests.specs.declared.parse.Request.TheVariants as asking

pub data Demand : Type 0 where
  -- the blocks of a volume are read, so many from this one on
  ReadBlocks : (name : List ℕ) → (at count : ℕ) → Demand
  -- so many blocks that follow the line are put on a volume
  WriteBlocks : (name : List ℕ) → (at count : ℕ) → Demand
  -- so many blocks of a volume are made zero
  ZeroBlocks : (name : List ℕ) → (at count : ℕ) → Demand
  -- so many lines that follow go together
  Together : (lines : ℕ) → Demand
  OnVolumes : Command → Demand
  Status : Demand
  FailSlot : (slot : ℕ) → Demand
  ReplaceSlot : (slot : ℕ) → Demand
  RebuildSteps : (steps : ℕ) → Demand
  ScrubRows : (rows : ℕ) → Demand

-- what a request is
abbrev pub demand_of : Request → Demand
demand_of (asking.Read blocks) = ReadBlocks blocks.name.now blocks.at blocks.count
demand_of (asking.Write blocks) = WriteBlocks blocks.name.now blocks.at blocks.count
demand_of (asking.Zero blocks) = ZeroBlocks blocks.name.now blocks.at blocks.count
demand_of (asking.Together lines) = Together lines
demand_of (asking.Create name blocks) = OnVolumes (Create name.now blocks)
demand_of (asking.Extend name by) = OnVolumes (Extend name.now by)
demand_of (asking.Remove name) = OnVolumes (Remove name.now)
demand_of (asking.Rename old new) = OnVolumes (Rename old.now new.now)
demand_of asking.List = OnVolumes Names
demand_of asking.Status = Status
demand_of (asking.Fail slot) = FailSlot slot
demand_of (asking.Replace slot) = ReplaceSlot slot
demand_of (asking.Rebuild steps) = RebuildSteps steps
demand_of (asking.Scrub rows) = ScrubRows rows

-- this word, and then a number
pub record IsCounted (keyword line : List ℕ) (n : ℕ) : Type 0 where
  pub number_field : List ℕ
  pub is_number : IsNumber number_field n
  pub spelled : line ≡ keyword ++ spaced (number_field ∷ [])

-- this word, and then a name, a block and how many
pub record IsStretch (keyword line name : List ℕ) (at count : ℕ) : Type 0 where
  pub at_field : List ℕ
  pub count_field : List ℕ
  pub is_name : IsField name
  pub is_at : IsNumber at_field at
  pub is_count : IsNumber count_field count
  pub spelled : line ≡ keyword ++ spaced (name ∷ at_field ∷ count_field ∷ [])

-- the commands on volumes that a line says as one of a script does; blocks are read and written by lines of their own
abbrev pub IsSaidAlike : Command → Type 0
IsSaidAlike (Read name at count) = ⊥
IsSaidAlike (Write name at blocks) = ⊥
IsSaidAlike command = Unit {0}

-- the bytes of a line, without its end, demand this
abbrev pub Demands : List ℕ → Demand → Type 0
Demands line (ReadBlocks name at count) = IsStretch (codes "read") line name at count
Demands line (WriteBlocks name at count) = IsStretch (codes "write") line name at count
Demands line (ZeroBlocks name at count) = IsStretch (codes "zero") line name at count
Demands line (Together lines) = IsCounted (codes "together") line lines
Demands line (OnVolumes command) = IsSaidAlike command × Says line command
Demands line Status = line ≡ codes "status"
Demands line (FailSlot slot) = IsCounted (codes "fail") line slot
Demands line (ReplaceSlot slot) = IsCounted (codes "replace") line slot
Demands line (RebuildSteps steps) = IsCounted (codes "rebuild") line steps
Demands line (ScrubRows rows) = IsCounted (codes "scrub") line rows

-- a line that is of none of these forms
abbrev pub DemandsNothing : List ℕ → Type 0
DemandsNothing line = (demand : Demand) → Demands line demand → ⊥

-- no line is of two forms, or of one with two meanings
abbrev pub DemandsOneThing : Type 0
DemandsOneThing = (line : List ℕ) (d e : Demand) → Demands line d → Demands line e → d ≡ e
