-- What was done where a line ended well: with the id, the slot, the sizes and the steps that its words name.
use Rattle.std.specs.Prelude.{◌≡◌, ◌≢◌, ℕ, Bool, List, Option, Result, Ok, Err}
use Rattle.std.specs.Io.KnownBytes.{Appends}
use Rattle.sector_model.specs.declared.refusal.Refusal.{Refusal}
use Rattle.sector_model.specs.declared.refusal.Refusal.TheVariants.{WriteFault}
use Rattle.sector_model.specs.History.{History}
use Rattle.layout_map.specs.declared.format.Format.TheVariants.{One}
use Rattle.layout_map.specs.declared.geometry.Geometry.{Geometry}
use Rattle.layout_map.specs.Placement.{IsGeometry}
use Rattle.array_io.specs.Believed.Views.{ArrayView}
use Rattle.recovery.specs.Making.{BankView, Makes, Opened, Returned}
use Rattle.volume_table.specs.VolumeStep.{Command, Create, Done, Extend, Names, OnVolumes, Remove, Rename}
use Rattle.report.specs.Replies.{reply_text}
use Rattle.command_line.specs.declared.Invocation.{Invocation}
use Rattle.command_line.specs.declared.Invocation.TheVariants.{Change, Examine, Fail, Make, MakeSized, Rebuild, Replace, Run, Scrub, Serve, Status, Upgrade}
use Rattle.command_line.specs.declared.Change.{Change as VolumeChange}
use Rattle.command_line.specs.declared.Change.TheVariants as change
use Rattle.device_files.specs.declared.FolderFault.{FolderFault}
use Rattle.device_files.specs.declared.FolderFault.TheVariants.{Refused}
use Rattle.raidtool.specs.Needs.{FindsNeed}
use Rattle.set_commands.specs.Examining.{ExaminesOn, ExaminesPartOn}
use Rattle.set_commands.specs.Run.{Streams}
use Rattle.set_commands.specs.Serving.{AppliesOn, FailsOn, RebuildsOn, ReplacesOn, RunsOn, ScrubsOn, TellsOn, UpgradesOn}

-- a set of this id and geometry was made on a bank
pub record MakesOn (honest : Type 0) (id : List ℕ) (geometry : Geometry) (bank : BankView) : Type 0 where
  pub array : ArrayView
  pub makes : Makes honest id geometry bank (Opened array)

-- no set of this id and geometry was made on a bank, for this refusal
pub record RefusesMake (honest : Type 0) (id : List ℕ) (geometry : Geometry) (bank : BankView) (refusal : Refusal) : Type 0 where
  pub back : BankView
  pub makes : Makes honest id geometry bank (Returned back refusal)

-- a geometry of format 1 with these sizes
pub record HasSizes (members chunk stripes : ℕ) (geometry : Geometry) : Type 0 where
  pub format_is : geometry.format ≡ One
  pub members_is : geometry.members ≡ members
  pub chunk_is : geometry.chunk ≡ chunk
  pub stripes_is : geometry.stripes ≡ stripes
  pub within : IsGeometry One members chunk stripes

-- the command on volumes that a change of them is
abbrev pub command_for : VolumeChange → Command
command_for (change.Create name blocks) = Create name.now blocks
command_for (change.Extend name blocks) = Extend name.now blocks
command_for (change.Remove name) = Remove name.now
command_for (change.Rename name to) = Rename name.now to.now
command_for change.List = Names

-- what a line asks for was done on a bank, and what it writes was written
abbrev pub DoesOn : Invocation → (honest : Type 0) (bank : BankView) (was is : Streams) → Type 0
DoesOn (Run folder id) honest bank was is = RunsOn honest id bank was is
DoesOn (Serve folder id) honest bank was is = ⊥
DoesOn (Make folder id members chunk stripes) honest bank was is = ⊥
DoesOn (MakeSized folder id members chunk size over reserve) honest bank was is = ⊥
DoesOn (Status folder id json check) honest bank was is = TellsOn honest id bank json was.contents is.contents
DoesOn (Fail folder id slot) honest bank was is = FailsOn honest id slot bank (Ok tt) × Appends was.contents is.contents (reply_text Done)
DoesOn (Replace folder id slot) honest bank was is = ReplacesOn honest id slot bank (Ok tt) × Appends was.contents is.contents (reply_text Done)
DoesOn (Rebuild folder id steps) honest bank was is = RebuildsOn honest id steps bank (Appends was.contents is.contents)
DoesOn (Scrub folder id) honest bank was is = ScrubsOn honest id bank (Appends was.contents is.contents)
DoesOn (Upgrade folder id) honest bank was is = UpgradesOn honest id bank (Ok tt) × Appends was.contents is.contents (reply_text Done)
DoesOn (Examine folder id json check) honest bank was is = ExaminesOn honest id json bank was.contents is.contents
DoesOn (Change folder id change) honest bank was is =
    AppliesOn honest id (OnVolumes (command_for change)) bank (Appends was.contents is.contents)

-- a beginning of what is told of the set of an id, or of each set, was written, which was inspected on a bank that is honest where this holds, and whose run
-- began so
abbrev pub IsPartExamined : (honest : Type 0) (Begins : History → Type 0) (id : Option (List ℕ)) (json : Bool) (was is : Option (List ℕ)) → Type 0
IsPartExamined honest Begins id json was is = (bank : BankView) × Begins bank.history × ExaminesPartOn honest id json bank was is

-- by the superblocks on a bank that is honest where this holds, and whose run began so, the file of a slot has this need
abbrev pub IsNeedIn : (honest : Type 0) (Begins : History → Type 0) (id : List ℕ) (slot : ℕ) → Option ℕ → Type 0
IsNeedIn honest Begins id slot need = (old : BankView) × (new : BankView) × Begins old.history × FindsNeed honest id slot old new (Ok need)

-- a slot was not given its device: it was refused, and not because that could not be told
abbrev pub IsUndone : Result (Unit {0}) FolderFault → Type 0
IsUndone (Ok done) = ⊥
IsUndone (Err fault) = fault ≢ Refused WriteFault
