-- What the contracts of the program's commands say is something that was done on a bank.
use Rattle.std.proofs.Common.{◌+◌, arith, ◌≡◌, inl, inr, ℕ, zero, suc, Bool, List, [], ◌∷◌, ◌++◌, Option, Some, None, Result, replicate, refl, sym, ap, ◌∙◌}
use Rattle.std.proofs.Common.{subst, subst₂}
use Rattle.std.proofs.lemmas.List.{append-nil}
use Rattle.sector_model.specs.declared.refusal.Refusal.{Refusal}
use Rattle.sector_model.specs.declared.refusal.Refusal.TheVariants.{BadLine, TwoLost, Worn}
use Rattle.sector_model.specs.Reads.{HasRead}
use Rattle.sector_model.proofs.Reading.{read_both, read_none}
use Rattle.recovery.specs.Making as recovery
use Rattle.recovery.specs.Making.{BankView}
use Rattle.recovery.specs.Assembling.{Assembles}
use Rattle.rebuild.specs.Rebuilding.{Position, Progress}
use Rattle.volume_table.specs.VolumeStep.{Command, Event, OnSet, OnVolumes, Progressed, RebuildStep, Refused, Reply}
use Rattle.volume_table.specs.Stands.{StoreView}
use Rattle.volume_table.specs.StoreCalls.{Applies, EndsStore}
use Rattle.volume_table.specs.StoreFunctions.{progress_reply}
use Rattle.volume_table.specs.Opening.{Opened, Returned}
use Rattle.volume_table.proofs.RunChains.{applies_for}
use Rattle.report.specs.Grammar.{IsBadLine}
use Rattle.report.specs.Script.{Answers, IsDoneLine, IsRefusedLine, Serves, none_read, then_read}
use Rattle.set_commands.specs.DoneLaw.{CommandsAreDone, EventAsked, LinesAsked, StepsAsked}
use Rattle.set_commands.specs.Examining.{InspectsAbove}
use Rattle.set_commands.specs.Invocations.{events_in, none_asked, then_answered, then_ended}
use Rattle.set_commands.specs.Invocations.{then_no_event}
use Rattle.set_commands.specs.ScriptLaw.{AreCommandsOf}
use Rattle.set_commands.specs.Steps.{Rebuilds, Steps, none_made, then_made}
use Rattle.set_commands.proofs.MadeSteps.{one_on}
use Rattle.layout_map.specs.Formats.{rebuild_rows}
use Rattle.layout_map.specs.declared.geometry.Geometry.{Geometry}
use Rattle.volume_table.specs.RebuildLaw.{step_rows}
use Rattle.set_commands.proofs.Served.{answers_for, opens_for, serves_for}

-- ---- a bank that is honest

assembles_for : (honest other : Type 0) (id : List ℕ) (bank : BankView) (outcome : recovery.Outcome) → (other → honest) → Assembles honest id bank outcome
    → Assembles other id bank outcome
assembles_for honest other id bank outcome so assembles = record {
  later = assembles.later;
  of_id = assembles.of_id;
  its_slots = assembles.its_slots;
  moments = λ fair. assembles.moments (so fair);
  rests = λ fair. assembles.rests (so fair);
  states = λ fair. assembles.states (so fair);
  refused = assembles.refused;
  cause = λ fair. assembles.cause (so fair);
  no_set = λ fair. assembles.no_set (so fair);
}

-- ---- one thing that is asked, and what was asked after others

-- the last event, whatever it was answered
one : (event : Event) (old new : StoreView) (reply : Reply) → Applies (Unit {0}) event old new reply → EventAsked event reply old new
one event old new (Refused TwoLost) applies = record { does = then_ended event (Refused TwoLost) applies tt; asked = refl }
one event old new (Refused Worn) applies = record { does = then_ended event (Refused Worn) applies tt; asked = refl }
one event old new (Refused refusal) applies = record { does = then_answered new event (Refused refusal) applies (λ ends. ends) none_asked; asked = refl }
one event old new reply applies = record { does = then_answered new event reply applies (λ ends. ends) none_asked; asked = refl }

skipped : (line : List ℕ) (lines : List (List ℕ)) (events : List Event) → IsBadLine line → AreCommandsOf lines events → AreCommandsOf (line ∷ lines) events
skipped line lines [] bad are = (bad, are)
skipped line lines (event ∷ events) bad are = inr (bad, are)

-- a line that says no event comes before others
bad_first : (line : List ℕ) (lines : List (List ℕ)) (replies : List Reply) (old mid new : StoreView) (reply : Reply) → IsRefusedLine line old mid reply
    → LinesAsked lines replies mid new → LinesAsked (line ∷ lines) (reply ∷ replies) old new
bad_first line lines replies old mid new reply refused rest =
    subst (λ (r : Reply). LinesAsked (line ∷ lines) (r ∷ replies) old new) (sym refused.answer)
    (subst (λ (store : StoreView). LinesAsked (line ∷ lines) (Refused BadLine ∷ replies) store new) refused.same
    (record { does = then_no_event rest.does; commands = skipped line lines (events_in rest.does) refused.bad rest.commands }))

-- and one that says one, whatever it was answered, after which the store goes on
event_first : (line : List ℕ) (lines : List (List ℕ)) (replies : List Reply) (command : Command) (old mid new : StoreView) (reply : Reply)
    → IsDoneLine (Unit {0}) line command old mid reply → ¬ EndsStore reply
    → LinesAsked lines replies mid new → LinesAsked (line ∷ lines) (reply ∷ replies) old new
event_first line lines replies command old mid new reply done goes rest = record {
  does = then_answered mid (OnVolumes command) reply done.applies goes rest.does;
  commands = inl (command, done.short, done.says, refl, rest.commands);
}

-- the last line, whatever it was answered
last_line : (line : List ℕ) (old new : StoreView) (reply : Reply) → Answers (Unit {0}) line old new reply → LinesAsked (line ∷ []) (reply ∷ []) old new
last_line line old new reply (inl (command, done)) =
    let does = one (OnVolumes command) old new reply done.applies in
    record {
      does = does.does;
      commands = subst (λ (events : List Event). AreCommandsOf (line ∷ []) events) (sym does.asked)
          (inl (command, done.short, done.says, refl, tt));
    }
last_line line old new reply (inr refused) = bad_first line [] [] old new new reply refused (record { does = none_asked; commands = tt })

lines_then : (lines more : List (List ℕ)) (replies after : List Reply) (old mid new : StoreView) → Serves (Unit {0}) lines replies old mid
    → LinesAsked more after mid new → LinesAsked (lines ++ more) (replies ++ after) old new
lines_then [] more [] after old mid new none_read rest = rest
lines_then [] more (_ ∷ replies) after old mid new serves rest = elim serves [ ]
lines_then (_ ∷ lines) more [] after old mid new serves rest = elim serves [ ]
lines_then (_ ∷ lines) more (_ ∷ replies) after old mid new (then_read first line reply (inl (command, done)) goes serves) rest =
    event_first line (lines ++ more) (replies ++ after) command old first new reply done goes (lines_then lines more replies after first mid new serves rest)
lines_then (_ ∷ lines) more (_ ∷ replies) after old mid new (then_read first line reply (inr refused) goes serves) rest =
    bad_first line (lines ++ more) (replies ++ after) old first new reply refused (lines_then lines more replies after first mid new serves rest)

lines_asked : (lines : List (List ℕ)) (replies : List Reply) (old new : StoreView) → Serves (Unit {0}) lines replies old new → LinesAsked lines replies old new
lines_asked lines replies old new serves =
    subst₂ (λ (l : List (List ℕ)) (r : List Reply). LinesAsked l r old new) (append-nil lines) (append-nil replies)
    (lines_then lines [] replies [] old new new serves (record { does = none_asked; commands = tt }))

-- ---- steps of a rebuild

abbrev step : StoreView → Event
step store = OnSet (RebuildStep (step_rows store.array.table))

same_step : (old new : StoreView) → new.array.table.geometry ≡ old.array.table.geometry → step new ≡ step old
same_step old new same = ap (λ (g : Geometry). OnSet (RebuildStep (rebuild_rows g.format))) same

-- so many steps before others
steps_then : (honest : Type 0) → honest → (made more : ℕ) (old mid new : StoreView) → Steps honest made old mid → StepsAsked more mid new
    → StepsAsked (made + more) old new
steps_then honest fair made more old mid new (none_made none same) rest =
    let is : more ≡ made + more = omega (arith, none) in
    subst (λ (count : ℕ). StepsAsked count old new) is (subst (λ (store : StoreView). StepsAsked more store new) same rest)
steps_then honest fair made more old mid new (then_made before position first is steps rebuilds) rest =
    let count_is : before + suc more ≡ made + more = omega (arith, is) in
    subst (λ (count : ℕ). StepsAsked count old new) count_is
    (steps_then honest fair before (suc more) old first new steps (record {
      replies = Progressed (Position position) ∷ rest.replies;
      does = then_answered mid (step first) (Progressed (Position position)) (applies_for honest (Unit {0}) (step first) first mid _ (λ _. fair) rebuilds)
          (λ ends. ends) rest.does;
      asked = ap (λ (events : List Event). step first ∷ events)
          (rest.asked ∙ ap (replicate more) (same_step first mid (one_on honest position first mid rebuilds).geometry));
    }))

rebuild_asked : (honest : Type 0) → honest → (steps : Option ℕ) (old new : StoreView) (answer : Result Progress Refusal)
    (rebuilds : Rebuilds honest steps old new answer) → StepsAsked (rebuilds.before + 1) old new
rebuild_asked honest fair steps old new answer rebuilds =
    let last = one (step rebuilds.mid) rebuilds.mid new (progress_reply answer) (applies_for honest (Unit {0}) (step rebuilds.mid) rebuilds.mid new _
    (λ _. fair) rebuilds.last) in
    steps_then honest fair rebuilds.before 1 old rebuilds.mid new rebuilds.steps_before
    (record { replies = progress_reply answer ∷ []; does = last.does; asked = last.asked })

-- ---- on a bank

reads_above : (honest : Type 0) → honest → (json : Bool) (most : ℕ) (above : Option (List ℕ)) (old new : BankView) (text : List ℕ)
    → InspectsAbove honest json most above old new text → HasRead old.history new.history
reads_above honest fair json zero above old new text (same, none) = subst (λ (b : BankView). HasRead old.history b.history) (sym same) (read_none old.history)
reads_above honest fair json (suc most) above old new text (inl (finds, none)) = finds.reads fair
reads_above honest fair json (suc most) above old new text (inr further) =
    read_both (further.finds.reads fair)
    (read_both (further.inspections.examines.reads fair)
    (reads_above honest fair json most (Some further.id) further.seen new further.rest further.goes_on))

module _ (honest : Type 0) (fair : honest) (id : List ℕ) (bank : BankView) where
  so : Unit {0} → honest
  so _ = fair

  serves : (lines : List (List ℕ)) (replies : List Reply) (first last : StoreView) → Serves honest lines replies first last
      → Serves (Unit {0}) lines replies first last
  serves lines replies first last = serves_for honest (Unit {0}) lines replies first last so

  with_last : (lines : List (List ℕ)) (replies : List Reply) (line : List ℕ) (reply : Reply) (first mid last : StoreView)
      → Serves honest lines replies first mid → Answers honest line mid last reply → LinesAsked (lines ++ line ∷ []) (replies ++ reply ∷ []) first last
  with_last lines replies line reply first mid last before answers =
      lines_then lines (line ∷ []) replies (reply ∷ []) first mid last (serves lines replies first mid before)
      (last_line line mid last reply (answers_for honest (Unit {0}) line mid last reply so answers))

  pub commands_are_done : CommandsAreDone honest id bank
  commands_are_done = record {
    opened = λ store is. (
      assembles_for honest (Unit {0}) id bank (recovery.Opened is.array) so is.assembles,
      opens_for honest (Unit {0}) is.array (Opened store) so is.opens,
    );
    unassembled = λ refusal is. assembles_for honest (Unit {0}) id bank (recovery.Returned is.back refusal) so is.assembles;
    unread = λ refusal is. (
      assembles_for honest (Unit {0}) id bank (recovery.Opened is.array) so is.assembles,
      opens_for honest (Unit {0}) is.array (Returned is.back refusal) so is.opens,
    );
    ran = λ first last was is run. lines_asked run.lines run.replies first last (serves run.lines run.replies first last run.serves);
    stopped_reading = λ first last was is run. lines_asked run.lines run.replies first last (serves run.lines run.replies first last run.serves);
    stopped_writing = λ first last was is run. with_last run.lines run.replies run.line run.reply first run.mid last run.serves run.answers;
    ended = λ refusal first last was is run. with_last run.lines run.replies run.line (Refused refusal) first run.mid last run.serves run.answers;
    applied = λ event first last reply applies. one event first last reply (applies_for honest (Unit {0}) event first last reply so applies);
    rebuilt = λ steps first last answer rebuilds. rebuild_asked honest fair steps first last answer rebuilds;
    inspected = λ which json after text inspects. inspects.examines.reads fair;
    inspected_all = λ json most after text inspects. reads_above honest fair json most None bank after text inspects;
    sought = λ after answer finds. finds.reads fair;
  }
