-- What giving a slot a device comes to, over the device files of a folder.
use Rattle.std.specs.Prelude.{◌≡◌, ◌≢◌, ℕ, List, Option, Result, IfErr, OnOk}
use Rattle.std.specs.Io.KnownBytes.{Appends}
use Rattle.sector_model.specs.declared.refusal.Refusal.{Refusal}
use Rattle.sector_model.specs.declared.refusal.Refusal.TheVariants.{WriteFault}
use Rattle.volume_table.specs.VolumeStep.{Done}
use Rattle.report.specs.Replies.{reply_text}
use Rattle.report.specs.Written.{AppendsPart}
use Rattle.device_files.specs.declared.FolderFault.{FolderFault}
use Rattle.device_files.specs.declared.FolderFault.TheVariants.{Refused}
use Rattle.set_commands.specs.Serving.{IsReplaceEnd}
use Rattle.raidtool.specs.Causes.{IsCausedBy}
use Rattle.raidtool.specs.Stops.{IsSlotFault}

-- A slot was given a device, this is so of the folder, and `ok` was written; or that was refused, for this cause, and the fault is one of which this holds.
-- Nothing is written where it was refused, and a part of `ok` where the slot has the device.
abbrev pub Replaces : {W : Type 0} → (Replaced Synced : Type 0) (Cause : Refusal → Type 0) (Blamed : FolderFault → Type 0) (contents : W → Option (List ℕ))
    (slot : ℕ) → (was is : W) → Result (Unit {0}) FolderFault → Type 0
Replaces Replaced Synced Cause Blamed contents slot was is result = record {
  synced : OnOk result Synced;
  replaced : OnOk result Replaced;
  written : OnOk result (Appends (contents was) (contents is) (reply_text Done));
  fault : IfErr result (IsSlotFault IsReplaceEnd slot);
  cause : IfErr result (IsCausedBy Cause);
  blamed : IfErr result Blamed;
  unwritten : IfErr result (λ fault. fault ≢ Refused WriteFault → is ≡ was);
  cut : IfErr result (λ fault. fault ≡ Refused WriteFault → Replaced × AppendsPart (contents was) (contents is) (reply_text Done));
}
