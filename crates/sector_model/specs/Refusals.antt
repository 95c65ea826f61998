-- The numbers, names and texts of the refusals.
use Rattle.std.specs.Prelude.{ℕ, List, codes}
use Rattle.sector_model.specs.declared.refusal.Refusal.{Refusal}
use Rattle.sector_model.specs.declared.refusal.Refusal.TheVariants.{BadName, BadSize, Exists, TooManyVolumes, NoSpace, NoVolume, BadCount, OutOfRange}
use Rattle.sector_model.specs.declared.refusal.Refusal.TheVariants.{WouldLose, NotMissing, NotUsable, NothingToRebuild, Incomplete, Memory, TwoLost, Worn}
use Rattle.sector_model.specs.declared.refusal.Refusal.TheVariants.{NoSet, BadTable, BadGeometry, BadLine, ReadFault, WriteFault}

abbrev pub number_of : Refusal → ℕ
number_of BadName = 1
number_of BadSize = 2
number_of Exists = 3
number_of TooManyVolumes = 4
number_of NoSpace = 5
number_of NoVolume = 6
number_of BadCount = 7
number_of OutOfRange = 8
number_of WouldLose = 9
number_of NotMissing = 10
number_of NotUsable = 11
number_of NothingToRebuild = 12
number_of Incomplete = 13
number_of Memory = 14
number_of TwoLost = 15
number_of Worn = 16
number_of NoSet = 17
number_of BadTable = 18
number_of BadGeometry = 19
number_of BadLine = 20
number_of ReadFault = 21
number_of WriteFault = 22

abbrev pub name_of : Refusal → List ℕ
name_of BadName = codes "BadName"
name_of BadSize = codes "BadSize"
name_of Exists = codes "Exists"
name_of TooManyVolumes = codes "TooManyVolumes"
name_of NoSpace = codes "NoSpace"
name_of NoVolume = codes "NoVolume"
name_of BadCount = codes "BadCount"
name_of OutOfRange = codes "OutOfRange"
name_of WouldLose = codes "WouldLose"
name_of NotMissing = codes "NotMissing"
name_of NotUsable = codes "NotUsable"
name_of NothingToRebuild = codes "NothingToRebuild"
name_of Incomplete = codes "Incomplete"
name_of Memory = codes "Memory"
name_of TwoLost = codes "TwoLost"
name_of Worn = codes "Worn"
name_of NoSet = codes "NoSet"
name_of BadTable = codes "BadTable"
name_of BadGeometry = codes "BadGeometry"
name_of BadLine = codes "BadLine"
name_of ReadFault = codes "ReadFault"
name_of WriteFault = codes "WriteFault"

-- what an error shows
abbrev pub text_of : Refusal → List ℕ
text_of BadName = codes "the name is not 1 to 24 (63 in a table of version 2) of a-z, 0-9, - and _, beginning with a letter"
text_of BadSize = codes "the blocks or the growth is 0, or the volume would exceed 65536 blocks"
text_of Exists = codes "a volume has this name"
text_of TooManyVolumes = codes "32 volumes (64 in a table of version 2) are there"
text_of NoSpace = codes "the volumes would need more extents than there are"
text_of NoVolume = codes "no volume has this name"
text_of BadCount = codes "the number of blocks is 0 or above 32"
text_of OutOfRange = codes "the blocks reach past the end of the volume"
text_of WouldLose = codes "another slot is not in sync"
text_of NotMissing = codes "the number is no slot of the set, or the slot is not missing"
text_of NotUsable = codes "the device is down or too short"
text_of NothingToRebuild = codes "no member is rebuilding"
text_of Incomplete = codes "the set is not complete"
text_of Memory = codes "an allocation was refused"
text_of TwoLost = codes "two slots are lost"
text_of Worn = codes "a counter stands at 2^62"
text_of NoSet = codes "no valid superblock of the set is found"
text_of BadTable = codes "the reserved sectors hold no volume table"
text_of BadGeometry = codes "the geometry is outside the limits, or the bank has too few slots"
text_of BadLine = codes "the line is not of the grammar"
text_of ReadFault = codes "the script could not be read"
text_of WriteFault = codes "the reply could not be written"
