-- What follows the word of a line, and what the line then demands.
use Rattle.std.specs.Prelude.{◌≡◌, ℕ, List, []}
use Rattle.volume_table.specs.VolumeStep.{Command, Create, Extend, Names, Remove, Rename}
use Rattle.report.specs.Fields.{AreReadFields, BeginsWithName, BeginsWithNames, BeginsWithNumber, IsOneNumber}
use Rattle.requests.specs.Demands.{Demand, FailSlot, OnVolumes, ReadBlocks, RebuildSteps, ReplaceSlot, ScrubRows, Status, Together, WriteBlocks, ZeroBlocks}
use Rattle.requests.specs.declared.words.Word.{Word}
use Rattle.requests.specs.declared.words.Word.TheVariants as kind
use Rattle.requests.specs.declared.words.BlocksWord.TheVariants as blocks
use Rattle.requests.specs.declared.words.VolumesWord.TheVariants as volumes
use Rattle.requests.specs.declared.words.SetWord.TheVariants as set

-- nothing
abbrev pub AreNone : Demand → List (List ℕ) → Demand → Type 0
AreNone alone fields demand = (fields ≡ []) × (demand ≡ alone)

-- a number
abbrev pub IsCount : (ℕ → Demand) → List (List ℕ) → Demand → Type 0
IsCount of_count fields demand = (n : ℕ) × IsOneNumber fields n × (demand ≡ of_count n)

-- a name, a block and how many
abbrev pub IsPlace : (List ℕ → ℕ → ℕ → Demand) → List (List ℕ) → Demand → Type 0
IsPlace of_place fields demand = (name : List ℕ) × (at : ℕ) × (count : ℕ) × AreReadFields fields name at count × (demand ≡ of_place name at count)

-- a name and a number
abbrev pub IsSize : (List ℕ → ℕ → Command) → List (List ℕ) → Demand → Type 0
IsSize of_size fields demand = (name : List ℕ) × (count : ℕ) × BeginsWithNumber fields name count [] × (demand ≡ OnVolumes (of_size name count))

-- a name
abbrev pub IsVolume : (List ℕ → Command) → List (List ℕ) → Demand → Type 0
IsVolume of_name fields demand = (name : List ℕ) × BeginsWithName fields name [] × (demand ≡ OnVolumes (of_name name))

-- two names
abbrev pub AreVolumes : (List ℕ → List ℕ → Command) → List (List ℕ) → Demand → Type 0
AreVolumes of_names fields demand = (old : List ℕ) × (new : List ℕ) × BeginsWithNames fields old new [] × (demand ≡ OnVolumes (of_names old new))

-- these fields after the word demand this
abbrev pub AreArguments : Word → List (List ℕ) → Demand → Type 0
AreArguments (kind.OnBlocks blocks.Read) = IsPlace ReadBlocks
AreArguments (kind.OnBlocks blocks.Write) = IsPlace WriteBlocks
AreArguments (kind.OnBlocks blocks.Zero) = IsPlace ZeroBlocks
AreArguments (kind.OnBlocks blocks.Together) = IsCount Together
AreArguments (kind.OnVolumes volumes.List) = AreNone (OnVolumes Names)
AreArguments (kind.OnVolumes volumes.Create) = IsSize Create
AreArguments (kind.OnVolumes volumes.Extend) = IsSize Extend
AreArguments (kind.OnVolumes volumes.Remove) = IsVolume Remove
AreArguments (kind.OnVolumes volumes.Rename) = AreVolumes Rename
AreArguments (kind.OnSet set.Status) = AreNone Status
AreArguments (kind.OnSet set.Fail) = IsCount FailSlot
AreArguments (kind.OnSet set.Replace) = IsCount ReplaceSlot
AreArguments (kind.OnSet set.Rebuild) = IsCount RebuildSteps
AreArguments (kind.OnSet set.Scrub) = IsCount ScrubRows

-- these fields after the word demand nothing
abbrev pub HasNoArguments : Word → List (List ℕ) → Type 0
HasNoArguments word fields = (demand : Demand) → AreArguments word fields demand → ⊥
