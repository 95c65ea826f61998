-- What the contracts of the program's commands say, as the headline of the program speaks of it:
-- of a bank that is honest, and of the very stores that they name.
use Rattle.std.specs.Prelude.{◌≡◌, ℕ, ◌+◌, Bool, List, [], ◌∷◌, ◌++◌, replicate, Option, None, Result}
use Rattle.sector_model.specs.declared.refusal.Refusal.{Refusal}
use Rattle.sector_model.specs.Reads.{HasRead}
use Rattle.superblock.specs.declared.table.Table.{Table}
use Rattle.recovery.specs.Making as recovery
use Rattle.recovery.specs.Making.{BankView, FindsTable}
use Rattle.recovery.specs.Assembling.{Assembles}
use Rattle.rebuild.specs.Rebuilding.{Progress}
use Rattle.volume_table.specs.VolumeStep.{Event, OnSet, RebuildStep, Refused, Reply}
use Rattle.volume_table.specs.RebuildLaw.{step_rows}
use Rattle.volume_table.specs.Stands.{StoreView}
use Rattle.volume_table.specs.StoreCalls.{Applies}
use Rattle.volume_table.specs.Opening.{Opened, Opens, Returned}
use Rattle.set_commands.specs.Examining.{InspectsAbove, InspectsOne}
use Rattle.set_commands.specs.Invocations.{Served, events_in}
use Rattle.set_commands.specs.Run.{HasRun, StoppedByStore, StoppedReading, StoppedWriting, Streams}
use Rattle.set_commands.specs.ScriptLaw.{AreCommandsOf}
use Rattle.set_commands.specs.Serving.{IsOpened, IsUnassembled, IsUnread}
use Rattle.set_commands.specs.Steps.{Rebuilds}

-- a store was asked the commands of these lines, and answered so
pub record LinesAsked (lines : List (List ℕ)) (replies : List Reply) (first last : StoreView) : Type 0 where
  pub does : Served replies first last
  pub commands : AreCommandsOf lines (events_in does)

-- it was asked this event, and answered so
pub record EventAsked (event : Event) (reply : Reply) (first last : StoreView) : Type 0 where
  pub does : Served (reply ∷ []) first last
  pub asked : events_in does ≡ event ∷ []

-- it was asked so many steps of a rebuild, each of as many rows as the set's format allows
pub record StepsAsked (count : ℕ) (first last : StoreView) : Type 0 where
  pub replies : List Reply
  pub does : Served replies first last
  pub asked : events_in does ≡ replicate count (OnSet (RebuildStep (step_rows first.array.table)))

-- What the contracts say on a bank that is honest: how a set was assembled and its volumes opened there, or why not; what the store was asked then, by each
-- command and each of its ends; and that the others only read. Of such is a `DoneOn` made.
pub record CommandsAreDone (honest : Type 0) (id : List ℕ) (bank : BankView) : Type 0 where
  pub opened : (store : StoreView) (is : IsOpened honest id bank store)
      → Assembles (Unit {0}) id bank (recovery.Opened is.array) × Opens (Unit {0}) is.array (Opened store)
  pub unassembled : (refusal : Refusal) (is : IsUnassembled honest id bank refusal) → Assembles (Unit {0}) id bank (recovery.Returned is.back refusal)
  pub unread : (refusal : Refusal) (is : IsUnread honest id bank refusal)
      → Assembles (Unit {0}) id bank (recovery.Opened is.array) × Opens (Unit {0}) is.array (Returned is.back refusal)
  -- `run`: to the end of the script, until the reader failed, until the writer failed, or until the store ended
  pub ran : (first last : StoreView) (was is : Streams) (run : HasRun honest first last was is) → LinesAsked run.lines run.replies first last
  pub stopped_reading : (first last : StoreView) (was is : Streams) (run : StoppedReading honest first last was is)
      → LinesAsked run.lines run.replies first last
  pub stopped_writing : (first last : StoreView) (was is : Streams) (run : StoppedWriting honest first last was is)
      → LinesAsked (run.lines ++ run.line ∷ []) (run.replies ++ run.reply ∷ []) first last
  pub ended : (refusal : Refusal) (first last : StoreView) (was is : Streams) (run : StoppedByStore honest refusal first last was is)
      → LinesAsked (run.lines ++ run.line ∷ []) (run.replies ++ Refused refusal ∷ []) first last
  -- `fail`, `replace`, `scrub`, `upgrade`, whatever it was answered
  pub applied : (event : Event) (first last : StoreView) (reply : Reply) → Applies honest event first last reply → EventAsked event reply first last
  -- `rebuild`, whatever the last step was answered
  pub rebuilt : (steps : Option ℕ) (first last : StoreView) (answer : Result Progress Refusal) (rebuilds : Rebuilds honest steps first last answer)
      → StepsAsked (rebuilds.before + 1) first last
  -- `examine`; and whoever asks for the table of the set, as `replace` and a command with a file that it can't open do
  pub inspected : (which : List ℕ) (json : Bool) (after : BankView) (text : List ℕ) → InspectsOne honest which json bank after text
      → HasRead bank.history after.history
  pub inspected_all : (json : Bool) (most : ℕ) (after : BankView) (text : List ℕ) → InspectsAbove honest json most None bank after text
      → HasRead bank.history after.history
  pub sought : (after : BankView) (answer : Result (Option Table) Refusal) → FindsTable honest id bank after answer → HasRead bank.history after.history

-- So what the contracts say of commands is what invocations are made of.
abbrev pub CommandsMakeInvocations : Type 0 → Type 0
CommandsMakeInvocations honest = honest → (id : List ℕ) (bank : BankView) → CommandsAreDone honest id bank
