-- Which set a line is of, where its words give no id.
use Rattle.std.specs.Prelude.{◌≡◌, ◌≢◌, ◌⊎◌, ℕ, zero, suc, IsTrue, List, [], ◌∷◌, ◌++◌, Option, Some, None, Result, Ok, Err}
use Rattle.std.specs.declared.io.Error.{Error}
use Rattle.sector_model.specs.declared.refusal.Refusal.{Refusal}
use Rattle.sector_model.specs.declared.refusal.Refusal.TheVariants.{Memory, NoSet}
use Rattle.recovery.specs.Making.{BankView}
use Rattle.recovery.specs.SetIds.{FindsIdAbove}
use Rattle.command_line.specs.declared.Asked.{Asked}
use Rattle.command_line.specs.declared.Invocation.{Invocation}
use Rattle.command_line.specs.declared.SetChoice.{SetChoice}
use Rattle.command_line.specs.declared.SetChoice.TheVariants.{Given, New, Only}
use Rattle.command_line.specs.Invocations.{with_id}
use Rattle.device_files.specs.declared.FolderFault.{FolderFault}
use Rattle.device_files.specs.declared.FolderFault.TheVariants.{Refused}
use Rattle.device_files.specs.declared.growing.Growing.{Ghosts}
use Rattle.device_files.specs.declared.slot_files.OpenFault.{OpenFault}
use Rattle.device_files.specs.DeviceFiles.{slot_path}
use Rattle.set_commands.specs.Examining.{IsInspectionEnd, IsWornOn}
use Rattle.raidtool.specs.declared.choosing.Unchosen.{Unchosen}
use Rattle.raidtool.specs.declared.choosing.Unchosen.TheVariants.{Fault, Several, Undrawn}
use Rattle.raidtool.specs.Begun.{BeginsInspected}
use Rattle.raidtool.specs.Causes.{folder_text}
use Rattle.raidtool.specs.Stops.{IsInspectionBlamed, IsServeFault}

-- the least id above one was sought, and those above that, so many at most; these are what was found
pub record FindsFurther (honest : Type 0) (above : Option (List ℕ)) (old new : BankView) (ids : List (List ℕ))
    (Rest : Option (List ℕ) → BankView → BankView → List (List ℕ) → Type 0) : Type 0 where
  pub id : List ℕ
  pub found : BankView
  pub rest : List (List ℕ)
  pub finds : FindsIdAbove honest above old found (Ok (Some id))
  pub goes_on : Rest (Some id) found new rest
  pub are : ids ≡ id ∷ rest

-- the ids above one of all sets of which a superblock counts on a bank, in rising order, so many at most
abbrev pub FindsIdsAbove : (honest : Type 0) (most : ℕ) → Option (List ℕ) → (old new : BankView) → List (List ℕ) → Type 0
FindsIdsAbove honest zero above old new ids = (new ≡ old) × (ids ≡ [])
FindsIdsAbove honest (suc most) above old new ids =
    (FindsIdAbove honest above old new (Ok None) × (ids ≡ [])) ⊎ FindsFurther honest above old new ids (FindsIdsAbove honest most)

-- these are the ids of the sets on the files of a folder, as they were opened for reading alone: ten slots have two places each
pub record AreIdsIn {F : Type 0} (growing : Ghosts F) (left : F → List ℕ) (Inspects : (path : List ℕ) → Result (Option F) OpenFault → Type 0)
    (folder : List ℕ) (ids : List (List ℕ)) : Type 0 where
  pub bank : BankView
  pub after : BankView
  pub begins : BeginsInspected growing left (λ slot. Inspects (slot_path folder slot)) bank.history
  pub finds : FindsIdsAbove (IsTrue growing.tells) 20 None bank after ids

-- ids of which this holds were put after those that there were
pub record AppendsIds (old new : List (List ℕ)) (Are : List (List ℕ) → Type 0) : Type 0 where
  pub part : List (List ℕ)
  pub appended : new ≡ old ++ part
  pub are : Are part

-- there are two at least
abbrev pub IsSeveral : List (List ℕ) → Type 0
IsSeveral (first ∷ second ∷ more) = Unit {0}
IsSeveral ids = ⊥

-- The files of a folder could not be opened for reading alone, and are rightly blamed; or memory ran out, or no further call of a device could be counted.
pub record IsUninspected {F : Type 0} (growing : Ghosts F) (left : F → List ℕ) (Inspects : (path : List ℕ) → Result (Option F) OpenFault → Type 0)
    (folder : List ℕ) (fault : FolderFault) : Type 0 where
  pub stops : IsServeFault IsInspectionEnd fault
  pub named : IsInspectionBlamed Inspects folder fault
  pub cause : (refusal : Refusal) → fault ≡ Refused refusal → refusal ≢ Memory
      → (bank : BankView) × BeginsInspected growing left (λ slot. Inspects (slot_path folder slot)) bank.history × IsWornOn bank

-- why a folder has not one set: it has several, or none, or that could not be told
abbrev pub IsNotOnly : {F : Type 0} → (growing : Ghosts F) (left : F → List ℕ) (Inspects : (path : List ℕ) → Result (Option F) OpenFault → Type 0)
    → (folder : List ℕ) → Unchosen → Type 0
IsNotOnly growing left Inspects folder (Several ids) = IsSeveral ids.items × AreIdsIn growing left Inspects folder ids.items
IsNotOnly growing left Inspects folder (Fault fault) =
    ((fault ≡ Refused NoSet) × AreIdsIn growing left Inspects folder []) ⊎ IsUninspected growing left Inspects folder fault
IsNotOnly growing left Inspects folder Undrawn = ⊥

-- the id of the set of a line over a folder: one that was drawn, or that of the only set there
abbrev pub IsIdFor : {F : Type 0} → (growing : Ghosts F) (left : F → List ℕ) (Inspects : (path : List ℕ) → Result (Option F) OpenFault → Type 0)
    (Draws : Result (List ℕ) Error → Type 0) → (folder : List ℕ) → SetChoice → List ℕ → Type 0
IsIdFor growing left Inspects Draws folder Given id = ⊥
IsIdFor growing left Inspects Draws folder New id = Draws (Ok id)
IsIdFor growing left Inspects Draws folder Only id = AreIdsIn growing left Inspects folder (id ∷ [])

-- the line that was asked for has the id of its set: the one in its words, or such a one
abbrev pub IsChosen : {F : Type 0} → (growing : Ghosts F) (left : F → List ℕ) (Inspects : (path : List ℕ) → Result (Option F) OpenFault → Type 0)
    (Draws : Result (List ℕ) Error → Type 0) → Asked → Invocation → Type 0
IsChosen growing left Inspects Draws asked line = ((asked.choice ≡ Given) × (line ≡ asked.line))
    ⊎ ((id : List ℕ) × IsIdFor growing left Inspects Draws (folder_text asked.line) asked.choice id × (line ≡ with_id asked.line id))

-- why a line that was asked for is of no set: drawing its id failed, or its folder has not one
abbrev pub IsUnchosen : {F : Type 0} → (growing : Ghosts F) (left : F → List ℕ) (Inspects : (path : List ℕ) → Result (Option F) OpenFault → Type 0)
    (Draws : Result (List ℕ) Error → Type 0) → Asked → Unchosen → Type 0
IsUnchosen growing left Inspects Draws asked Undrawn = (asked.choice ≡ New) × ((error : Error) × Draws (Err error))
IsUnchosen growing left Inspects Draws asked unchosen = (asked.choice ≡ Only) × IsNotOnly growing left Inspects (folder_text asked.line) unchosen
