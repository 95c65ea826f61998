-- What is served is a run of events and of commits of writes, so that what is proved of these holds of it.
use Rattle.std.specs.Prelude.{◌≡◌, ℕ, List, None, Result}
use Rattle.sector_model.specs.declared.refusal.Refusal.{Refusal}
use Rattle.array_io.specs.Believed.Views.{EndsIt}
use Rattle.scrub.specs.Scrubbing.{Report}
use Rattle.volume_table.specs.Stands.{StoreView}
use Rattle.volume_table.specs.VolumeStep.{Command, Reply}
use Rattle.recovery.specs.Making.{BankView}
use Rattle.set_commands.specs.Invocations.{DoneOn, Served}
use Rattle.set_commands.specs.Run.{Streams}
use Rattle.server.specs.Answers.{Told}
use Rattle.server.specs.Ends.{EndsStore}
use Rattle.server.specs.OnBanks.{ServesReplaced, ServesSet}
use Rattle.server.specs.Serving.{Line, Serves}
use Rattle.server.specs.declared.ending.Ending.{Ending}

-- a store was asked events and commits of writes one after another, and gave some replies
abbrev pub IsAsked : (old new : StoreView) → Type 0
IsAsked old new = (replies : List Reply) × Served replies old new

-- so it is of what was served so far, and of what ended the store
abbrev pub ServingIsAsking : Type 0
ServingIsAsking = (lines : List Line) (text : List ℕ) (waiting : List Command) (replies : List Told) (parts : List Command) (left : ℕ) (so_far : Report)
    (old new : StoreView) → old.ended ≡ None → Serves (Unit {0}) lines text waiting replies parts left so_far old new → IsAsked old new

abbrev pub EndIsAsking : Type 0
EndIsAsking = (refusal : Refusal) (lines : List Line) (text : List ℕ) (old new : StoreView)
    → EndsIt refusal → old.ended ≡ None → EndsStore (Unit {0}) old refusal lines text new → IsAsked old new

-- something was done on a bank, of which the headline of the program speaks
abbrev pub IsDoneOn : (id : List ℕ) (bank : BankView) → Type 0
IsDoneOn id bank = (replies : List Reply) × DoneOn id bank replies

-- so it is of a set that was served on a bank, if that is honest, also after one of its slots was given a device
abbrev pub ServedSetsMakeInvocations : Type 0 → Type 0
ServedSetsMakeInvocations honest = honest → (id : List ℕ) (bank : BankView) (was is : Streams) (result : Result Ending Refusal)
    → (ServesSet honest id bank was is result → IsDoneOn id bank)
    × ((slot : ℕ) → ServesReplaced honest id slot bank was is result → IsDoneOn id bank)
