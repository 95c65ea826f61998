-- What a rebuild, a scrub and a change of volumes told, and with what a slot's device was not replaced.
use Rattle.std.proofs.Common.{◌≡◌, ◌≢◌, ◌∙◌, refl, subst, sym, ℕ, List, Option, Some, None, Ok}
use Rattle.recovery.specs.Making.{BankView}
use Rattle.rebuild.specs.Rebuilding.{Complete, Position, Progress}
use Rattle.volume_table.specs.Stands.{StoreView}
use Rattle.array_io.specs.Believed.Holds.{row_count}
use Rattle.sector_model.specs.declared.refusal.Refusal.{Refusal}
use Rattle.volume_table.specs.StoreCalls.{IsListed, IsOfItsKind}
use Rattle.volume_table.specs.VolumeStep.{Command, Done, Event, OnVolumes, Refused, Reply, Volumes}
use Rattle.command_line.specs.declared.Change.{Change}
use Rattle.command_line.specs.declared.Change.TheVariants as change
use Rattle.set_commands.specs.Serving.{AppliesOn, RebuildsOn, ScrubsOn, event_text}
use Rattle.set_commands.specs.Steps.{Rebuilds}
use Rattle.raidtool.specs.Done.{command_for}
use Rattle.raidtool.specs.Tool.{IsChangeTold, IsProgressTold, IsScrubTold}

-- without a number of steps a rebuild goes on to its end
goes_to_end : (honest : Type 0) (steps : Option ℕ) (old new : StoreView) (progress : Progress) → Rebuilds honest steps old new (Ok progress) → steps ≡ None
    → progress ≡ Complete
goes_to_end honest steps old new Complete made none = refl
goes_to_end honest steps old new (Position position) made none =
    let most = made.all_made position refl in
    let never : Some most.0 ≡ None = sym most.1 ∙ none in
    absurd cc

pub told_progress : (honest : Type 0) (id : List ℕ) (steps : Option ℕ) (bank : BankView) (IsWritten : List ℕ → Type 0)
    → RebuildsOn honest id steps bank IsWritten → IsProgressTold steps IsWritten
told_progress honest id steps bank IsWritten on = record {
  format = on.last.array.table.geometry.format;
  rows = row_count on.last.array.table;
  progress = on.progress;
  whole = goes_to_end honest steps on.first on.last on.progress on.rebuilds;
  written = on.written;
}

pub told_scrub : (honest : Type 0) (id : List ℕ) (bank : BankView) (IsWritten : List ℕ → Type 0) → ScrubsOn honest id bank IsWritten → IsScrubTold IsWritten
told_scrub honest id bank IsWritten on = record { report = on.report; written = on.written }

-- a command on volumes that is not refused is answered in its way
of_its_kind : (command : Command) (reply : Reply) → IsListed (OnVolumes command) reply → ((refusal : Refusal) → reply ≢ Refused refusal)
    → IsOfItsKind command reply
of_its_kind command (Refused refusal) listed done = absurd (done refusal refl)
of_its_kind command reply listed done = listed

module _ (honest : Type 0) (id : List ℕ) (command : Command) (bank : BankView) (IsWritten : List ℕ → Type 0)
    (does : AppliesOn honest id (OnVolumes command) bank IsWritten) where
  kind : IsOfItsKind command does.reply
  kind = of_its_kind command does.reply (does.applies.going (does.opened.opens.going does.first refl)).listed does.done

  -- what it is answered was written
  told_reply : (reply : Reply) → does.reply ≡ reply → IsWritten (event_text does.last.array.table.geometry reply)
  told_reply reply is = subst (λ (r : Reply). IsWritten (event_text does.last.array.table.geometry r)) is does.written

pub told_change : (honest : Type 0) (id : List ℕ) (change : Change) (bank : BankView) (IsWritten : List ℕ → Type 0)
    → AppliesOn honest id (OnVolumes (command_for change)) bank IsWritten → IsChangeTold change IsWritten
told_change honest id (change.Create name blocks) bank W does =
    let command = command_for (change.Create name blocks) in
    told_reply honest id command bank W does Done (kind honest id command bank W does)
told_change honest id (change.Extend name blocks) bank W does =
    let command = command_for (change.Extend name blocks) in
    told_reply honest id command bank W does Done (kind honest id command bank W does)
told_change honest id (change.Remove name) bank W does =
    let command = command_for (change.Remove name) in
    told_reply honest id command bank W does Done (kind honest id command bank W does)
told_change honest id (change.Rename name to) bank W does =
    let command = command_for (change.Rename name to) in
    told_reply honest id command bank W does Done (kind honest id command bank W does)
told_change honest id change.List bank W does =
    let listed = kind honest id (command_for change.List) bank W does in
    (listed.0, told_reply honest id (command_for change.List) bank W does (Volumes listed.0) listed.1)
