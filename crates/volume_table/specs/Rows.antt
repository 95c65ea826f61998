-- Small runs of commands, worked out by hand.
use Rattle.std.specs.Prelude.{◌≡◌, ℕ, ◌+◌, ◌/◌, ◌%◌, false, List, [], ◌∷◌, ◌++◌, map, replicate, codes, Some, None}
use Rattle.std.specs.List.{range_with_len}
use Rattle.std.proofs.Common.{arith}
use Rattle.extents.specs.declared.extent_layout.ExtentLayout.{ExtentLayout}
use Rattle.extents.specs.SetExtents.{of_64}
use Rattle.sector_model.specs.declared.refusal.Refusal.TheVariants.{BadName, BadSize, Exists, TooManyVolumes, NoSpace, NoVolume, BadCount, OutOfRange}
use Rattle.sector_model.specs.declared.refusal.Refusal.TheVariants.{WouldLose, NotMissing, Incomplete}
use Rattle.layout_map.specs.declared.format.Format.TheVariants.{One, Two}
use Rattle.superblock.specs.declared.state.State.TheVariants.{InSync}
use Rattle.volume_table.specs.Volumes.{Block, zero_block, VolumeMap, no_volumes}
use Rattle.volume_table.specs.VolumeStep.{Command, Create, Extend, Remove, Read, Write, Rename, Names}
use Rattle.volume_table.specs.VolumeStep.{Upgrade, SetCommand, Fail, Replace, RebuildStep, Scrub, ScrubRows}
use Rattle.volume_table.specs.VolumeStep.{OnSet, Reply, Done, Blocks, Volumes, Progressed, Scrubbed, Refused, reply_to, volumes_after}
use Rattle.rebuild.specs.Rebuilding.{Complete, Position}
use Rattle.volume_table.specs.SetReplies.{SetState, Devices, set_reply, set_after}

-- the extents of a set of 3 members, 8 sectors a chunk and 32 stripes, of format 1 and of format 2
abbrev pub seven : ExtentLayout
seven = of_64 7 (omega arith)

abbrev pub twenty_eight : ExtentLayout
twenty_eight = record {
  format = Two;
  first = 64;
  blocks = 16;
  count = 28;
  limits = record { above = omega arith; some = omega arith; most = omega arith; fits = omega arith };
}

-- the replies to commands, one after another
abbrev pub replies : ExtentLayout → List Command → VolumeMap → List Reply
replies extents [] volumes = []
replies extents (command ∷ commands) volumes = reply_to extents command volumes ∷ replies extents commands (volumes_after extents command volumes)

-- a set of 7 extents is full with 448 blocks
abbrev pub FillThenNoSpace : Type 0
FillThenNoSpace = replies seven (Create (codes "a") 448 ∷ Create (codes "b") 1 ∷ []) (no_volumes One) ≡ Done ∷ Refused NoSpace ∷ []

-- and 449 are one too many
abbrev pub OneBlockTooMany : Type 0
OneBlockTooMany = replies seven (Create (codes "a") 449 ∷ Names ∷ []) (no_volumes One) ≡ Refused NoSpace ∷ Volumes [] ∷ []

-- 28 extents of 16 blocks are as many blocks, in more volumes
abbrev pub SmallerExtents : Type 0
SmallerExtents = (replies twenty_eight (Create (codes "a") 449 ∷ Create (codes "a") 448 ∷ Create (codes "b") 1 ∷ []) (no_volumes Two)
    ≡ Refused NoSpace ∷ Done ∷ Refused NoSpace ∷ [])
    × (replies twenty_eight (Create (codes "a") 17 ∷ Create (codes "b") 417 ∷ Create (codes "b") 416 ∷ Extend (codes "a") 15 ∷ Extend (codes "a") 1 ∷ [])
    (no_volumes Two)
    ≡ Done ∷ Refused NoSpace ∷ Done ∷ Done ∷ Refused NoSpace ∷ [])

abbrev pub ExtendIntoNewExtent : Type 0
ExtendIntoNewExtent = replies seven (Create (codes "a") 64 ∷ Extend (codes "a") 1 ∷ Read (codes "a") 64 1 ∷ []) (no_volumes One) ≡ Done ∷ Done
    ∷ Blocks (zero_block ∷ [])
    ∷ []

-- growth keeps the last block and appends zeros
abbrev pub ExtendKeepsAndZeroes : Type 0
ExtendKeepsAndZeroes = (block : Block) → replies seven (Create (codes "a") 10 ∷ Write (codes "a") 9 (block ∷ []) ∷ Extend (codes "a") 10 ∷ Read (codes "a") 9 2
    ∷ []) (no_volumes One)
    ≡ Done ∷ Done ∷ Done ∷ Blocks (block ∷ zero_block ∷ []) ∷ []

-- blocks of a volume that is gone are zero in the next
abbrev pub ReusedIsZero : Type 0
ReusedIsZero = (block : Block) → replies seven
    (Create (codes "a") 128 ∷ Write (codes "a") 0 (replicate 32 block) ∷ Write (codes "a") 32 (replicate 32 block) ∷ Write (codes "a") 64 (replicate 32 block)
    ∷ Remove (codes "a") ∷ Create (codes "b") 10 ∷ Extend (codes "b") 118 ∷ Read (codes "b") 0 1 ∷ Read (codes "b") 10 1 ∷ Read (codes "b") 64 1 ∷ [])
    (no_volumes One)
    ≡ replicate 7 Done ++ replicate 3 (Blocks (zero_block ∷ []))

-- 32 blocks are written at most, and 1 at least
abbrev pub ThirtyTwoBlocks : Type 0
ThirtyTwoBlocks = (block : Block) → replies seven (Create (codes "a") 128 ∷ Write (codes "a") 48 (replicate 32 block)
    ∷ Write (codes "a") 48 (replicate 33 block)
    ∷ Write (codes "a") 48 [] ∷ []) (no_volumes One)
    ≡ Done ∷ Done ∷ Refused BadCount ∷ Refused BadCount ∷ []

-- a write past the end writes nothing
abbrev pub WriteOutOfRange : Type 0
WriteOutOfRange = (first second : Block) → replies seven (Create (codes "a") 64 ∷ Write (codes "a") 63 (first ∷ second ∷ []) ∷ Read (codes "a") 63 1 ∷ [])
    (no_volumes One)
    ≡ Done ∷ Refused OutOfRange ∷ Blocks (zero_block ∷ []) ∷ []

abbrev pub RefusedCommands : Type 0
RefusedCommands = replies seven (Create (codes "A") 0 ∷ Create (codes "a") 0 ∷ Create (codes "a") 65537 ∷ Read (codes "b") 0 0 ∷ Extend (codes "b") 0
    ∷ Remove (codes "b") ∷ []) (no_volumes One)
    ≡ Refused BadName ∷ Refused BadSize ∷ Refused BadSize ∷ Refused NoVolume ∷ Refused NoVolume ∷ Refused NoVolume ∷ []

-- 65,536 blocks are a volume that needs 1,024 extents; where an extent has 16, no volume has more than 16,384
abbrev pub LargestVolume : Type 0
LargestVolume = (reply_to (of_64 1024 (omega arith)) (Create (codes "a") 65536) (no_volumes One) ≡ Done)
    × (reply_to (of_64 1023 (omega arith)) (Create (codes "a") 65536) (no_volumes One) ≡ Refused NoSpace)
    × (replies twenty_eight (Create (codes "a") 16384 ∷ Create (codes "a") 16385 ∷ []) (no_volumes Two) ≡ Refused NoSpace ∷ Refused BadSize ∷ [])

-- 32 blocks are read at most, and 1 at least; the name is looked at first, then the number, then the range
abbrev pub ReadsAtTheLimits : Type 0
ReadsAtTheLimits = replies seven (Create (codes "a") 40 ∷ Read (codes "a") 8 32 ∷ Read (codes "a") 9 32 ∷ Read (codes "a") 0 33 ∷ Read (codes "a") 0 0
    ∷ Read (codes "a") 99 33 ∷ Read (codes "b") 99 33 ∷ []) (no_volumes One)
    ≡ Done ∷ Blocks (replicate 32 zero_block) ∷ Refused OutOfRange ∷ Refused BadCount ∷ Refused BadCount ∷ Refused BadCount ∷ Refused NoVolume ∷ []

-- names of 24 bytes, and of 25; a name begins with a letter
abbrev pub NamesAtTheLimits : Type 0
NamesAtTheLimits = replies seven (Create (codes "a23456789-123456789_1234") 1 ∷ Create (codes "a23456789-123456789_12345") 1 ∷ Create (codes "1a") 1
    ∷ Create (codes "-a") 1 ∷ Create (codes "aB") 1 ∷ Create [] 1 ∷ []) (no_volumes One)
    ≡ Done ∷ replicate 5 (Refused BadName)

-- 'v' and two digits
abbrev pub numbered_name : ℕ → List ℕ
numbered_name n = 118 ∷ (48 + n / 10) ∷ (48 + n % 10) ∷ []

-- 32 volumes of a block each need 32 of 33 extents, and there may be no 33rd volume
abbrev pub ThirtyTwoVolumes : Type 0
ThirtyTwoVolumes = replies (of_64 33 (omega arith)) (map (λ n. Create (numbered_name n) 1) (range_with_len 0 32) ++ Create (codes "w") 1 ∷ [])
    (no_volumes One) ≡ replicate 32 Done
    ++ Refused TooManyVolumes ∷ []

-- with a table of version 2 there may be 64
abbrev pub SixtyFourVolumes : Type 0
SixtyFourVolumes = replies (of_64 64 (omega arith)) (map (λ n. Create (numbered_name n) 1) (range_with_len 0 32) ++ Create (codes "w") 1 ∷ Upgrade
    ∷ map (λ n. Create (numbered_name n) 1) (range_with_len 32 32) ++ Create (codes "w") 1 ∷ []) (no_volumes One)
    ≡ replicate 32 Done ++ Refused TooManyVolumes ∷ replicate 33 Done ++ Refused TooManyVolumes ∷ []

-- and names of 63 bytes
abbrev pub LongNames : Type 0
LongNames = replies seven (Create (replicate 25 97) 1 ∷ Upgrade ∷ Create (replicate 25 97) 1 ∷ Create (replicate 63 98) 1 ∷ Create (replicate 64 99) 1 ∷ Upgrade
    ∷ []) (no_volumes One)
    ≡ Refused BadName ∷ Done ∷ Done ∷ Done ∷ Refused BadName ∷ Done ∷ []

-- the list is in rising byte order, whatever the order of creation
abbrev pub ListRises : Type 0
ListRises = replies seven (Create (codes "b") 3 ∷ Create (codes "a-") 2 ∷ Create (codes "a") 1 ∷ Names ∷ []) (no_volumes One)
    ≡ Done ∷ Done ∷ Done ∷ Volumes ((codes "a", 1) ∷ (codes "a-", 2) ∷ (codes "b", 3) ∷ []) ∷ []

-- a volume that is renamed has its blocks and its length still; the old name is looked at first, then the new one, and a name that is kept is taken
abbrev pub RenameScript : Type 0
RenameScript = (block : Block) → replies seven
    (Create (codes "a") 10 ∷ Write (codes "a") 0 (block ∷ []) ∷ Rename (codes "a") (codes "b") ∷ Read (codes "b") 0 1 ∷ Read (codes "a") 0 1
    ∷ Rename (codes "b") (codes "b") ∷ Rename (codes "a") (codes "B") ∷ Rename (codes "b") (codes "B") ∷ Names ∷ []) (no_volumes One)
    ≡ Done ∷ Done ∷ Done ∷ Blocks (block ∷ []) ∷ Refused NoVolume ∷ Refused Exists ∷ Refused NoVolume ∷ Refused BadName ∷ Volumes ((codes "b", 10) ∷ []) ∷ []

-- three members of 256 rows and two journals of a set of format 1, where no device fails and each row is sound
abbrev pub sound_devices : Devices
sound_devices = record { faults = λ slot. false; unusable = λ slot. false; format = One; rows = 256; unsound = [] }

abbrev pub complete_set : SetState
complete_set = record { states = replicate 5 InSync; position = 0 }

-- the replies to commands on the set, one after another
abbrev pub set_replies : List SetCommand → SetState → List Reply
set_replies [] set = []
set_replies (command ∷ commands) set = set_reply sound_devices command set ∷ set_replies commands (set_after sound_devices (OnSet command) set)

-- a second slot is not failed, one that is missing is failed again, and there is no slot 5
abbrev pub FailRefusals : Type 0
FailRefusals = set_replies (Fail 5 ∷ Replace 0 ∷ Scrub ∷ Fail 0 ∷ Fail 1 ∷ Fail 0 ∷ Fail 5 ∷ Scrub ∷ []) complete_set
    ≡ Refused NotMissing ∷ Refused NotMissing ∷ Scrubbed 256 0 None ∷ Done ∷ Refused WouldLose ∷ Done ∷ Refused WouldLose ∷ Refused Incomplete ∷ []

-- a member is rebuilt in steps of at most 64 rows
abbrev pub RebuildInSteps : Type 0
RebuildInSteps = set_replies (Fail 2 ∷ Replace 2 ∷ RebuildStep 64 ∷ RebuildStep 0 ∷ RebuildStep 100 ∷ RebuildStep 64 ∷ Scrub ∷ RebuildStep 64 ∷ Scrub ∷ [])
    complete_set
    ≡ Done ∷ Done ∷ Progressed (Position 64) ∷ Progressed (Position 64) ∷ Progressed (Position 128) ∷ Progressed (Position 192) ∷ Refused Incomplete
    ∷ Progressed Complete ∷ Scrubbed 256 0 None ∷ []

-- a step of no rows moves nothing, none has more than 64, and the last is not full
abbrev pub RebuildPositions : Type 0
RebuildPositions = set_replies (Fail 0 ∷ Replace 0 ∷ RebuildStep 0 ∷ RebuildStep 1000 ∷ RebuildStep 1 ∷ RebuildStep 64 ∷ RebuildStep 64 ∷ RebuildStep 64 ∷ [])
    complete_set
    ≡ Done ∷ Done ∷ Progressed (Position 0) ∷ Progressed (Position 64) ∷ Progressed (Position 65) ∷ Progressed (Position 129) ∷ Progressed (Position 193)
    ∷ Progressed Complete ∷ []

-- a journal is whole when it has joined
abbrev pub JournalJoins : Type 0
JournalJoins = set_replies (Fail 4 ∷ Replace 4 ∷ Scrub ∷ []) complete_set ≡ Done ∷ Done ∷ Scrubbed 256 0 None ∷ []

-- the same devices, where three rows are not sound
abbrev pub unsound_devices : Devices
unsound_devices = record { faults = λ slot. false; unusable = λ slot. false; format = One; rows = 256; unsound = 7 ∷ 200 ∷ 255 ∷ [] }

-- the replies to scrubs of these parts
abbrev pub part_replies : List (ℕ × ℕ) → List Reply
part_replies parts = map (λ part. set_reply unsound_devices (ScrubRows part.0 part.1) complete_set) parts

-- parts that meet have all rows, a row keeps its number in the set, and none is past the last
abbrev pub ScrubInParts : Type 0
ScrubInParts = (set_reply unsound_devices Scrub complete_set ≡ Scrubbed 256 3 (Some 7))
    × (part_replies ((0, 100) ∷ (100, 100) ∷ (200, 56) ∷ []) ≡ Scrubbed 100 1 (Some 7) ∷ Scrubbed 100 0 None ∷ Scrubbed 56 2 (Some 200) ∷ [])
    × (part_replies ((7, 1) ∷ (8, 192) ∷ (8, 193) ∷ (7, 0) ∷ (250, 10) ∷ (256, 5) ∷ (300, 0) ∷ [])
    ≡ Scrubbed 1 1 (Some 7) ∷ Scrubbed 192 0 None ∷ Scrubbed 193 1 (Some 200) ∷ Scrubbed 0 0 None ∷ Scrubbed 6 1 (Some 255) ∷ Scrubbed 0 0 None
    ∷ Scrubbed 0 0 None ∷ [])

-- a part is refused as the whole is, whether or not it has a row
abbrev pub PartRefusals : Type 0
PartRefusals = set_replies (ScrubRows 0 256 ∷ Fail 1 ∷ ScrubRows 0 1 ∷ ScrubRows 300 0 ∷ Replace 1 ∷ ScrubRows 0 1 ∷ []) complete_set
    ≡ Scrubbed 256 0 None ∷ Done ∷ Refused Incomplete ∷ Refused Incomplete ∷ Done ∷ Refused Incomplete ∷ []
