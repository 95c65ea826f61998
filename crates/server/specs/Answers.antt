-- What each request but a write is answered, and what it does.
use Rattle.std.specs.Prelude.{◌≡◌, ◌⊎◌, ℕ, ◌+◌, ◌<◌, ◌≤◌, min, List, [], ◌∷◌, ◌++◌, length, codes, decimal, Option, Some, None, Result, Ok, Err}
use Rattle.std.specs.List.{flat_map}
use Rattle.sector_model.specs.declared.refusal.Refusal.{Refusal}
use Rattle.sector_model.specs.declared.refusal.Refusal.TheVariants.{Memory, NotMissing}
use Rattle.serde_json.specs.Written.{compact_text}
use Rattle.superblock.specs.declared.state.State.TheVariants.{Missing}
use Rattle.superblock.specs.declared.table.Table.{Table}
use Rattle.superblock.specs.NextTables.{slots_of}
use Rattle.superblock.specs.Tables.{state_at}
use Rattle.array_io.specs.Believed.Views.{EndsIt}
use Rattle.rebuild.specs.Rebuilding.{Progress}
use Rattle.scrub.specs.Scrubbing.{Report}
use Rattle.layout_map.specs.declared.format.Format.{Format}
use Rattle.layout_map.specs.declared.geometry.Geometry.{Geometry}
use Rattle.layout_map.specs.Placement.{rows_of}
use Rattle.set_commands.specs.Steps.{Rebuilds}
use Rattle.volume_table.specs.declared.event.TheConstants.{MOST_BLOCKS_AT_ONCE, MOST_ZEROED_AT_ONCE}
use Rattle.volume_table.specs.declared.status.Status.{Status}
use Rattle.volume_table.specs.StagedParts.{RefusesBlocks}
use Rattle.volume_table.specs.Stands.{StoreView}
use Rattle.volume_table.specs.StoreCalls.{Applies}
use Rattle.volume_table.specs.StoreFunctions.{Answer, FailsSlot, TellsStatus as GivesStatus, status_view}
use Rattle.volume_table.specs.VolumeStep.{Blocks, OnVolumes, Read, Refused, Reply, Volumes}
use Rattle.volume_table.specs.Volumes.{Block}
use Rattle.volume_table.specs.Zeroing.{Zeroes}
use Rattle.report.specs.Replies.{progress_line, refusal_line, scrub_line, volume_line}
use Rattle.report.specs.Report.{status_json}
use Rattle.requests.specs.Demands.{Demand, FailSlot, OnVolumes as Asks, ReadBlocks, RebuildSteps, ReplaceSlot, ScrubRows, Status as AsksStatus, Together}
use Rattle.requests.specs.Demands.{WriteBlocks, ZeroBlocks}
use Rattle.server.specs.declared.counts.TheConstants.{MOST_WRITTEN_AT_ONCE}

-- what those who asked are told
pub data Told : Type 0 where
  TellsDone : Told
  TellsBlocks : List Block → Told
  TellsVolumes : List (List ℕ × ℕ) → Told
  TellsStatus : (json : List ℕ) → Told
  TellsProgress : (format : Format) (rows : ℕ) → Progress → Told
  TellsScrub : Report → Told
  TellsRefusal : Refusal → Told

-- its text
abbrev pub told_text : Told → List ℕ
told_text TellsDone = codes "ok" ++ 10 ∷ []
told_text (TellsBlocks blocks) = codes "blocks " ++ decimal (length blocks) ++ 10 ∷ flat_map (λ block. block) blocks
told_text (TellsVolumes volumes) = codes "volumes " ++ decimal (length volumes) ++ 10 ∷ flat_map volume_line volumes
told_text (TellsStatus json) = codes "status " ++ decimal (length json) ++ 10 ∷ json
told_text (TellsProgress format rows progress) = progress_line format rows progress
told_text (TellsScrub report) = scrub_line report
told_text (TellsRefusal refusal) = refusal_line refusal

-- 15 or 16, after which nothing is served any more
abbrev pub EndsServing : Told → Type 0
EndsServing (TellsRefusal refusal) = EndsIt refusal
EndsServing told = ⊥

-- what is told of an answer that says no more than that it was done
abbrev pub done_told : Answer → Told
done_told (Ok done) = TellsDone
done_told (Err refusal) = TellsRefusal refusal

abbrev pub reply_told : Reply → Told
reply_told (Blocks blocks) = TellsBlocks blocks
reply_told (Volumes volumes) = TellsVolumes volumes
reply_told (Refused refusal) = TellsRefusal refusal
reply_told reply = TellsDone

-- how far a rebuild came
abbrev pub progress_told : Geometry → Result Progress Refusal → Told
progress_told geometry (Ok progress) = TellsProgress geometry.format (rows_of geometry.chunk geometry.stripes) progress
progress_told geometry (Err refusal) = TellsRefusal refusal

-- the blocks of a volume from `at` up to `end` were read, at most 32 by each read
pub data ReadsParts (honest : Type 0) (name : List ℕ) : (at end : ℕ) → List Block → (old new : StoreView) → Type 0 where
  none_read : {at : ℕ} {store : StoreView} → ReadsParts honest name at at [] store store
  then_read : {at end : ℕ} {blocks : List Block} {old new : StoreView} (mid : StoreView) (part : List Block)
      → ReadsParts honest name at end blocks old mid → 1 ≤ length part → length part ≤ MOST_BLOCKS_AT_ONCE
      → Applies honest (OnVolumes (Read name end (length part))) mid new (Blocks part)
      → ReadsParts honest name at (end + length part) (blocks ++ part) old new

-- some were, and then the next was refused, at most 32 blocks too
pub record StopsInRead (honest : Type 0) (name : List ℕ) (at count : ℕ) (old new : StoreView) (refusal : Refusal) : Type 0 where
  pub end : ℕ
  pub blocks : List Block
  pub mid : StoreView
  pub before : ReadsParts honest name at end blocks old mid
  pub part : ℕ
  pub least : 1 ≤ part
  pub most : part ≤ MOST_BLOCKS_AT_ONCE
  pub within : end + part ≤ at + count
  pub refused : Applies honest (OnVolumes (Read name end part)) mid new (Refused refusal)

-- a read of blocks that the volume has not: nothing is done
pub record RefusesRead (name : List ℕ) (at count : ℕ) (old new : StoreView) (refusal : Refusal) : Type 0 where
  pub refuses : RefusesBlocks old name at count refusal
  pub same : new ≡ old

-- a read of blocks: all of them, or a refusal
abbrev pub ReadsRange : (honest : Type 0) (name : List ℕ) (at count : ℕ) (old new : StoreView) → Told → Type 0
ReadsRange honest name at count old new (TellsBlocks blocks) = ReadsParts honest name at (at + count) blocks old new
ReadsRange honest name at count old new (TellsRefusal refusal) =
    RefusesRead name at count old new refusal ⊎ StopsInRead honest name at count old new refusal
ReadsRange honest name at count old new told = ⊥

-- the status as a JSON object in one line, without its end; or no memory for it
abbrev pub StatusIsTold : StoreView → Told → Type 0
StatusIsTold store (TellsStatus json) = (status : Status) × GivesStatus store (Ok (status_view status)) × (json ≡ compact_text (status_json status))
StatusIsTold store (TellsRefusal refusal) = refusal ≡ Memory
StatusIsTold store told = ⊥

-- the slot that a number says: 255 is no slot of any set
abbrev pub slot_of : ℕ → ℕ
slot_of number = min number 255

-- a slot of the set has no device
abbrev pub IsMissingSlot : Table → (slot : ℕ) → Type 0
IsMissingSlot table slot = (slot < slots_of table) × (state_at table.states slot ≡ Missing)

-- a slot that is not missing is not replaced, nor one that the set has not
pub record RefusesReplace (slot : ℕ) (old new : StoreView) (told : Told) : Type 0 where
  pub there : ¬ IsMissingSlot old.array.table slot
  pub refused : told ≡ TellsRefusal NotMissing
  pub same : new ≡ old

-- how a request is answered, over a store that no refusal ended
abbrev pub Answers : (honest : Type 0) → Demand → (old new : StoreView) → Told → Type 0
Answers honest (ReadBlocks name at count) old new told = (1 ≤ count) × (count ≤ MOST_WRITTEN_AT_ONCE) × ReadsRange honest name at count old new told
Answers honest (ZeroBlocks name at count) old new told = (1 ≤ count) × (count ≤ MOST_ZEROED_AT_ONCE)
    × ((answer : Answer) × Zeroes honest name at count old new answer × (told ≡ done_told answer))
Answers honest (Asks command) old new told = (reply : Reply) × Applies honest (OnVolumes command) old new reply × (told ≡ reply_told reply)
Answers honest AsksStatus old new told = StatusIsTold old told × (new ≡ old)
Answers honest (FailSlot slot) old new told = (answer : Answer) × FailsSlot honest (slot_of slot) old new answer × (told ≡ done_told answer)
Answers honest (ReplaceSlot slot) old new told = RefusesReplace (slot_of slot) old new told
Answers honest (RebuildSteps steps) old new told = (answer : Result Progress Refusal) × Rebuilds honest (Some steps) old new answer
    × (told ≡ progress_told new.array.table.geometry answer)
Answers honest demand old new told = ⊥

-- which demands are answered over a store alone: all but a write and what is committed together; the counts lie in their limits, and the slot to be replaced
-- is not missing
abbrev pub IsAnswered : StoreView → Demand → Type 0
IsAnswered store (ReadBlocks name at count) = (1 ≤ count) × (count ≤ MOST_WRITTEN_AT_ONCE)
IsAnswered store (ZeroBlocks name at count) = (1 ≤ count) × (count ≤ MOST_ZEROED_AT_ONCE)
IsAnswered store (Asks command) = Unit {0}
IsAnswered store AsksStatus = Unit {0}
IsAnswered store (FailSlot slot) = Unit {0}
IsAnswered store (ReplaceSlot slot) = ¬ IsMissingSlot store.array.table (slot_of slot)
IsAnswered store (RebuildSteps steps) = Unit {0}
IsAnswered store demand = ⊥

-- a request was answered over a store that no refusal ended, which goes on unless this one did; its set has its shape still
pub record IsServed (honest : Type 0) (demand : Demand) (old new : StoreView) (told : Told) : Type 0 where
  pub answers : Answers honest demand old new told
  pub going : ¬ EndsServing told → new.ended ≡ None
  pub geometry : new.array.table.geometry ≡ old.array.table.geometry
