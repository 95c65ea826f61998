-- What a script keeps of the volumes.
use Rattle.std.specs.Prelude.{◌≡◌, ◌⊎◌, ℕ, ◌≤◌, List, [], ◌∷◌, length, Option}
use Rattle.sector_model.specs.declared.refusal.Refusal.TheVariants.{BadLine}
use Rattle.superblock.specs.Cases.{IsLostAfter, Lost}
use Rattle.extents.specs.declared.extent_layout.ExtentLayout.{ExtentLayout}
use Rattle.volume_table.specs.Volumes.{VolumeMap}
use Rattle.volume_table.specs.VolumeStep.{Command, Event, OnVolumes, Refused, Reply, reply_to, volumes_after}
use Rattle.volume_table.specs.Stands.{IsSettledAfter, IsSettledOn, StandsThroughout, StoreView}
use Rattle.volume_table.specs.StoreCalls.{EndsStore, LacksMemory, extents_for_store}
use Rattle.volume_table.specs.StoreFunctions.{Chain}
use Rattle.report.specs.Grammar.{IsBadLine, Says}
use Rattle.report.specs.Script.{Answers, Serves, none_read, then_read}
use Rattle.report.specs.declared.lines.TheConstants.{LONGEST_LINE}

-- the volumes that a line leaves: those that its command leaves, or the same where it says none
abbrev pub Leaves : (extents : ExtentLayout) (line : List ℕ) (old new : VolumeMap) → Type 0
Leaves extents line old new = ((command : Command) × (length line ≤ LONGEST_LINE) × Says line command × (new ≡ volumes_after extents command old))
    ⊎ (IsBadLine line × (new ≡ old))

-- the volume machine answers a line so, but that there may be no memory for a list
abbrev pub IsRightReply : (extents : ExtentLayout) (line : List ℕ) → VolumeMap → Reply → Type 0
IsRightReply extents line volumes reply = ((command : Command) × (length line ≤ LONGEST_LINE) × Says line command
    × ((reply ≡ reply_to extents command volumes) ⊎ LacksMemory command reply))
    ⊎ (IsBadLine line × (reply ≡ Refused BadLine))

-- These lines are answered by the volume machine one after another, and leave these volumes.
abbrev pub Runs : (extents : ExtentLayout) → List (List ℕ) → VolumeMap → List Reply → VolumeMap → Type 0
Runs extents [] old [] new = new ≡ old
Runs extents (line ∷ lines) old (reply ∷ replies) new = (mid : VolumeMap) × Leaves extents line old mid × IsRightReply extents line old reply
    × Runs extents lines mid replies new
Runs extents [] old (reply ∷ replies) new = ⊥
Runs extents (line ∷ lines) old [] new = ⊥

-- While a line is done, each case that a crash may leave stands for the volumes before it or for those after it.
pub record StandsInLine (line : List ℕ) (old new : StoreView) (lost : Option Lost) (before after : VolumeMap) : Type 0 where
  pub leaves : Leaves (extents_for_store old) line before after
  pub stands : StandsThroughout old.array.table old.array.panel.devices lost (before ∷ after ∷ []) old.array.history new.array.history

-- a line that was answered: the volumes that it leaves, and what is lost then
pub record KeepsInLine (line : List ℕ) (old new : StoreView) (reply : Reply) (lost : Option Lost) (volumes : VolumeMap) : Type 0 where
  pub after : VolumeMap
  pub left : Option Lost
  pub stands : StandsInLine line old new lost volumes after
  pub right : IsRightReply (extents_for_store old) line volumes reply
  pub is_lost : IsLostAfter lost new.array.table left
  pub settled : IsSettledOn new left after

-- so it is for each line of a script
abbrev pub KeepsVolumes : {lines : List (List ℕ)} {replies : List Reply} {old new : StoreView} → Serves (Unit {0}) lines replies old new → Option Lost
    → VolumeMap → Type 0
KeepsVolumes none_read lost volumes = Unit {0}
KeepsVolumes (then_read {old = old} mid line reply answers goes rest) lost volumes =
    (keeps : KeepsInLine line old mid reply lost volumes) × KeepsVolumes rest keeps.left keeps.after

-- where it leads: the store is settled on the volumes after all lines, which the volume machine answered so
pub record EndsSettled (lines : List (List ℕ)) (replies : List Reply) (old new : StoreView) (before : VolumeMap) : Type 0 where
  pub after : VolumeMap
  pub lost : Option Lost
  pub runs : Runs (extents_for_store old) lines before replies after
  pub settled : IsSettledOn new lost after

-- On an honest bank, from a store that is settled on some volumes, lines are answered by the volume machine: at each moment a crash leaves the volumes after
-- the first so many lines, and after them the store is settled on those after all.
abbrev pub ScriptKeepsVolumes : Type 0
ScriptKeepsVolumes = (lines : List (List ℕ)) (replies : List Reply) (old new : StoreView) → (serves : Serves (Unit {0}) lines replies old new)
    → (lost : Option Lost) (volumes : VolumeMap) → IsSettledOn old lost volumes
    → KeepsVolumes serves lost volumes × EndsSettled lines replies old new volumes

-- and in a line that ended the script, after those
abbrev pub LastLineStands : Type 0
LastLineStands = (line : List ℕ) (old new : StoreView) (reply : Reply) → Answers (Unit {0}) line old new reply
    → (lost : Option Lost) (volumes : VolumeMap) → IsSettledOn old lost volumes
    → (after : VolumeMap) × StandsInLine line old new lost volumes after
    × (¬ EndsStore reply → IsRightReply (extents_for_store old) line volumes reply × IsSettledAfter lost new after)

-- these events are the commands that the lines say, one after another; the other lines are none
abbrev pub AreCommandsOf : List (List ℕ) → List Event → Type 0
AreCommandsOf [] [] = Unit {0}
AreCommandsOf [] (event ∷ events) = ⊥
AreCommandsOf (line ∷ lines) [] = IsBadLine line × AreCommandsOf lines []
AreCommandsOf (line ∷ lines) (event ∷ events) =
    ((command : Command) × (length line ≤ LONGEST_LINE) × Says line command × (event ≡ OnVolumes command) × AreCommandsOf lines events)
    ⊎ (IsBadLine line × AreCommandsOf lines (event ∷ events))

-- the commands of lines were done as events of a run, each acknowledged at its own count of device calls
pub record IsRunOf (lines : List (List ℕ)) (old new : StoreView) : Type 0 where
  pub events : List Event
  pub acks : List ℕ
  pub are : AreCommandsOf lines events
  pub chain : Chain (Unit {0}) events acks old new

-- So what is proved of runs of events holds of scripts.
abbrev pub ScriptIsRun : Type 0
ScriptIsRun = (lines : List (List ℕ)) (replies : List Reply) (old new : StoreView) → Serves (Unit {0}) lines replies old new → IsRunOf lines old new
