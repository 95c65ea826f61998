-- Sets that are made for a room, or for all that their members have.
use Rattle.std.specs.Prelude.{◌≡◌, ◌⊎◌, ◌<◌, ◌≤◌, ◌+◌, ◌-◌, ◌*◌, ◌/◌, ◌^◌, ◌++◌, min, ℕ, Bool, true, false, IsSomeAnd, IsTrue, List, Option, Some, None, Result}
use Rattle.layout_map.specs.declared.format.Format.TheVariants.{Two}
use Rattle.layout_map.specs.declared.geometry.Geometry.{Geometry}
use Rattle.layout_map.specs.Placement.{data_sectors_of, first_extent}
use Rattle.set_sizes.specs.Rooms.{HasRoom, IsLeastFor, IsMostFor, LiesOn, room_of}
use Rattle.command_line.specs.declared.Size.{Size}
use Rattle.command_line.specs.declared.Size.TheVariants.{Blocks, Most}
use Rattle.device_files.specs.declared.FolderFault.{FolderFault}
use Rattle.device_files.specs.declared.FolderFault.TheVariants.{Absent, InUse, NoFile, NotOpened, NotRegular, NotSafe, NotSynced, OtherSet, Refused, SetThere}
use Rattle.device_files.specs.declared.growing.Growing.{Ghosts}
use Rattle.device_files.specs.declared.slot_files.OpenFault.{OpenFault}
use Rattle.device_files.specs.DeviceFiles.{IsShortest, file_in}
use Rattle.device_files.specs.Superblocks.{FindsSet}
use Rattle.sector_model.specs.declared.refusal.Refusal.{Refusal}
use Rattle.sector_model.specs.declared.refusal.Refusal.TheVariants.{BadGeometry, Memory}
use Rattle.raidtool.specs.FolderFiles.{HoldsOfTaken}
use Rattle.raidtool.specs.Stops.{IsMakeEnd, IsMakingRefusal}
use Rattle.raidtool.specs.Texts.{made_text, unused_line}

-- the sectors of a file of so many bytes, at most those that a device shows
abbrev pub sectors_in : ℕ → ℕ
sectors_in bytes = min (bytes / 512) (2 ^ 32 - 1)

-- So many stripes are the fewest with the room that was asked for; or the most that lie on the shortest member, where the files tell their lengths.
abbrev pub AreStripesFor : {F : Type 0} → (tells : Bool) (told : F → List ℕ) (members chunk : ℕ) → Size → List (Option F) → ℕ → Type 0
AreStripesFor tells told members chunk (Blocks blocks) files stripes = IsLeastFor members chunk blocks stripes
AreStripesFor tells told members chunk Most files stripes =
    (bytes : ℕ) × (IsTrue tells → IsShortest told files members bytes) × IsMostFor members chunk (sectors_in bytes) stripes

-- the geometry of format 2 of these members and chunks with such stripes
pub record IsSizedFor {F : Type 0} (tells : Bool) (told : F → List ℕ) (members chunk : ℕ) (size : Size) (files : List (Option F)) (geometry : Geometry)
    : Type 0 where
  pub format_is : geometry.format ≡ Two
  pub members_is : geometry.members ≡ members
  pub chunk_is : geometry.chunk ≡ chunk
  pub stripes : AreStripesFor tells told members chunk size files geometry.stripes

-- no set of these members and chunks has the room that was asked for, or lies on any members
abbrev pub IsShapeless : (members chunk : ℕ) → Size → Type 0
IsShapeless members chunk (Blocks blocks) = (stripes : ℕ) → ¬ HasRoom members chunk blocks stripes
IsShapeless members chunk Most = (stripes : ℕ) → ¬ LiesOn members chunk (2 ^ 32 - 1) stripes

-- all that there is was asked for, and none of these members and chunks lies on the shortest of their files, where files tell their lengths
pub record IsTooShort {F : Type 0} (tells : Bool) (told : F → List ℕ) (members chunk : ℕ) (size : Size) (files : List (Option F)) : Type 0 where
  pub most : size ≡ Most
  pub bytes : ℕ
  pub shortest : IsTrue tells → IsShortest told files members bytes
  pub none : (stripes : ℕ) → ¬ LiesOn members chunk (sectors_in bytes) stripes

-- the data sectors of a set that no volume can have a block in, beside the reserve before the first extent
abbrev pub unused_of : Geometry → ℕ
unused_of geometry = data_sectors_of geometry.members geometry.chunk geometry.stripes
    - first_extent geometry.format geometry.members geometry.chunk
    - room_of geometry.format geometry.members geometry.chunk geometry.stripes

-- what the making of such a set is answered with: what no volume can have too, where all that there is was asked for
abbrev pub sized_text : (drawn : Bool) (id : List ℕ) → Size → Geometry → List ℕ
sized_text drawn id (Blocks blocks) geometry = made_text drawn id
sized_text drawn id Most geometry =
    made_text drawn id ++ unused_line (unused_of geometry)

-- it is a text of which this holds, for a set of these members and chunks
pub record IsSizeTold (drawn : Bool) (id : List ℕ) (members chunk : ℕ) (size : Size) (IsWritten : List ℕ → Type 0) : Type 0 where
  pub geometry : Geometry
  pub format_is : geometry.format ≡ Two
  pub members_is : geometry.members ≡ members
  pub chunk_is : geometry.chunk ≡ chunk
  pub written : IsWritten (sized_text drawn id size geometry)

-- what stops the making of such a set: any file of the folder, a superblock of a set in one of them where that matters, a member without a file where its
-- length is asked for, a folder, or this refusal
abbrev pub IsStoppedSizing : (End : Refusal → Type 0) → (members : ℕ) (size : Size) (over : Bool) → FolderFault → Type 0
IsStoppedSizing End members size over (NoFile slot) = slot < 10
IsStoppedSizing End members size over (InUse slot) = slot < 10
IsStoppedSizing End members size over (NotOpened slot reason) = slot < 10
IsStoppedSizing End members size over (NotRegular slot) = slot < 10
IsStoppedSizing End members size over (NotSafe slot shortage) = slot < 10
IsStoppedSizing End members size over (OtherSet slot) = (members + 2 ≤ slot) × (slot < 10)
IsStoppedSizing End members size over (SetThere id) = over ≡ false
IsStoppedSizing End members size over (Absent slot) = (size ≡ Most) × (slot < members)
IsStoppedSizing End members size over NotSynced = Unit {0}
IsStoppedSizing End members size over (Refused refusal) = End refusal

-- it was not made
abbrev pub IsUnsized : (members : ℕ) (size : Size) (over : Bool) → FolderFault → Type 0
IsUnsized = IsStoppedSizing (λ refusal. IsMakingRefusal refusal ⊎ (refusal ≡ Memory))

-- it was not made, or that could not be told
abbrev pub IsSizedStop : (members : ℕ) (size : Size) (over : Bool) → FolderFault → Type 0
IsSizedStop = IsStoppedSizing IsMakeEnd

-- so many stripes are the fewest with the wished room, or the most that any members have
abbrev pub IsPlacedFor : (members chunk : ℕ) → Size → ℕ → Type 0
IsPlacedFor members chunk (Blocks blocks) stripes = IsLeastFor members chunk blocks stripes
IsPlacedFor members chunk Most stripes = IsMostFor members chunk (2 ^ 32 - 1) stripes

-- why no such set lies over these files: a member has no file, or its length can't be told, or it is too short
abbrev pub IsShapeFault : {F : Type 0} → (tells : Bool) (told : F → List ℕ) (HasFailed : F → Type 0) → (members chunk : ℕ) (size : Size)
    (files : List (Option F)) → FolderFault → Type 0
IsShapeFault tells told HasFailed members chunk size files (Absent slot) = (size ≡ Most) × (slot < members) × (file_in files slot ≡ None)
IsShapeFault tells told HasFailed members chunk size files (NoFile slot) = (slot < members) × IsSomeAnd (file_in files slot) HasFailed
IsShapeFault tells told HasFailed members chunk size files (Refused refusal) = (refusal ≡ BadGeometry) × IsTooShort tells told members chunk size files
IsShapeFault tells told HasFailed members chunk size files fault = ⊥

-- why these files were not taken for a new set: one has a superblock; or, where they are cleared of them, that failed of one
abbrev pub IsLookingFault : {F : Type 0} → (tells : Bool) (told : F → List ℕ) (HasFailed : F → Type 0) → (over : Bool) (files : List (Option F))
    → FolderFault → Type 0
IsLookingFault tells told HasFailed over files (SetThere id) = (over ≡ false) × FindsSet tells told HasFailed files (Some id)
IsLookingFault tells told HasFailed over files (NoFile slot) = (over ≡ true) × (slot < 10) × ((file : _) × HasFailed file)
IsLookingFault tells told HasFailed over files fault = ⊥

-- a set is named only where the files that were opened have a superblock of it, and a slot as without a file only where it has none among these
abbrev pub IsFoundIn : {F : Type 0} → (growing : Ghosts F) (Opens : (slot : ℕ) → Result (Option F) OpenFault → Type 0) → FolderFault → Type 0
IsFoundIn growing Opens (SetThere id) = HoldsOfTaken growing Opens (λ files. FindsSet growing.tells growing.told growing.has_failed files (Some id))
IsFoundIn growing Opens (Absent slot) = HoldsOfTaken growing Opens (λ files. file_in files slot ≡ None)
IsFoundIn growing Opens fault = Unit {0}
