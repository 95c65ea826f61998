-- How a line of the program ends: its exit status, what was done, and what standard output and standard error get.
use Rattle.std.specs.Prelude.{◌≡◌, ◌≢◌, ◌⊎◌, ◌≤◌, ℕ, Bool, List, Option, Result, Ok, Err}
use Rattle.clap.specs.Words.{Text}
use Rattle.sector_model.specs.declared.refusal.Refusal.{Refusal}
use Rattle.sector_model.specs.declared.refusal.Refusal.TheVariants.{BadGeometry}
use Rattle.command_line.specs.declared.Asked.{Asked}
use Rattle.command_line.specs.declared.Invocation.{Invocation}
use Rattle.command_line.specs.declared.InvocationFault.{InvocationFault}
use Rattle.command_line.specs.Invocations.{AsksFor, IsFaultOf}
use Rattle.device_files.specs.declared.FolderFault.{FolderFault}
use Rattle.device_files.specs.Faults.{fault_line}
use Rattle.report.specs.Replies.{refusal_line}
use Rattle.set_commands.specs.declared.serving.health.Health.{Health}
use Rattle.set_commands.specs.declared.serving.health.Health.TheVariants.{Complete, Incomplete, Unassembled}
use Rattle.raidtool.specs.declared.choosing.Unchosen.{Unchosen}
use Rattle.raidtool.specs.declared.choosing.Unchosen.TheVariants.{Fault, Several, Undrawn}
use Rattle.raidtool.specs.Causes.{folder_text}
use Rattle.raidtool.specs.Texts.{several_line, undrawn_line}
use Rattle.raidtool.specs.Tool.{ComesFirstIn, IsChecked, IsCutOff, IsMisshapen, IsRefusalOf, IsWritten, PassesNone, ReadsInput, WasRefused, WasStopped}
use Rattle.raidtool.specs.Tool.{IsMemoryFault, WasUnassembled, checked_status}

-- How a line ended whose set is known, with this exit status. What was done is told by how well the set is; `Told` says that standard error got a text after
-- what was passed over, and `Alone` that it got nothing else; `Passed` that it got no fault, `Hushed` that it got nothing, `Unread` and `Unwritten` that
-- standard input and standard output are as they were, and `Whole` that a script or requests were read to their end.
pub record EndsLine (line : Invocation) (drawn : Bool) (status : ℕ) (Does : Health → Type 0) (Caused : Refusal → Type 0) (Blamed : FolderFault → Type 0)
    (Told Alone : List ℕ → Type 0) (Passed Hushed Unread Unwritten Whole : Type 0) (out new_out : Option (List ℕ)) : Type 0 where
  pub most : status ≤ 4
  pub never_two : status ≢ 2
  -- 0: it was done, and what it writes was written; of one that asks how well a set is, each is complete
  pub does : status ≡ 0 → (health : Health) × Does health
  pub complete : IsChecked line → status ≡ 0 → Does Complete
  pub written : status ≡ 0 → IsWritten drawn line out new_out
  pub read : status ≡ 0 → ReadsInput line → Whole
  pub quiet : (status ≡ 0) ⊎ (status ≡ 3) → Passed
  pub hushed : PassesNone line → (status ≡ 0) ⊎ (status ≡ 3) → Hushed
  -- 1: a refusal was told, or the fault of a device file
  pub refused : status ≡ 1 → WasRefused (IsRefusalOf line Caused) (ComesFirstIn line) Told (Unread × Unwritten) ⊎ WasStopped line Blamed Told (Unread × Unwritten)
  pub unwritten : ¬ ReadsInput line → status ≡ 1 → Unwritten ⊎ IsCutOff drawn line out new_out Told
  -- 3, 4: it was asked how well a set is, and done, or there was none that could be assembled
  pub checked : 3 ≤ status → IsChecked line
  pub incomplete : status ≡ 3 → Does Incomplete
  pub unassembled : status ≡ 4 → WasUnassembled (Does Unassembled) Caused Passed Told
  -- but for a script and requests, nothing is read
  pub beside : ¬ ReadsInput line → Unread
  pub misshapen : IsMisshapen line → (status ≡ 1) × Alone (refusal_line BadGeometry)

-- what is told of a line over a folder that is of no set
abbrev pub unchosen_line : (folder : List ℕ) → Unchosen → List ℕ
unchosen_line folder (Fault fault) = fault_line folder fault
unchosen_line folder (Several ids) = several_line ids.items
unchosen_line folder Undrawn = undrawn_line

-- the exit status of such a line
abbrev pub unchosen_status : Invocation → Unchosen → ℕ
unchosen_status line (Fault fault) = checked_status line (Err fault) 1 Complete
unchosen_status line unchosen = 1

-- How a line ended that was asked for: it has its set, and ended so; or it is of no set, which was told, with nothing read or written.
abbrev pub EndsAsked : (asked : Asked) (status : ℕ) (Chosen : Invocation → Type 0) (Not : Unchosen → Type 0) (Ends : Invocation → Type 0)
    (Told : List ℕ → Type 0) (Same : Type 0) → Type 0
EndsAsked asked status Chosen Not Ends Told Same = ((line : Invocation) × Chosen line × Ends line)
    ⊎ ((unchosen : Unchosen) × Not unchosen × (status ≡ unchosen_status asked.line unchosen) × Told (unchosen_line (folder_text asked.line) unchosen) × Same)

-- How words ended: the line that they ask for; or memory ran out; or they ask for none, for this fault.
abbrev pub EndsWords : List Text → (Asks : Asked → Type 0) (Memory : Type 0) (Wrong : InvocationFault → Type 0) → Type 0
EndsWords words Asks Memory Wrong = ((asked : Asked) × AsksFor words asked × Asks asked)
    ⊎ (Memory ⊎ ((fault : InvocationFault) × IsFaultOf words fault × (¬ IsMemoryFault fault) × Wrong fault))
