-- What a script keeps of the volumes.
use Rattle.std.proofs.Common.{◌≡◌, inl, inr, ℕ, List, [], ◌∷◌, Option, refl, sym, ap, subst, arith}
use Rattle.sector_model.specs.declared.refusal.Refusal.TheVariants.{BadName}
use Rattle.superblock.specs.Cases.{Lost}
use Rattle.volume_table.specs.Volumes.{VolumeMap}
use Rattle.volume_table.specs.VolumeStep.{Command, Create, Event, OnVolumes, Refused, Reply, volumes_after}
use Rattle.volume_table.specs.Stands.{IsSettledAfter, IsSettledOn, StoreView}
use Rattle.volume_table.specs.StoreCalls.{EndsStore, GoesThrough, extents_for_store}
use Rattle.volume_table.specs.StoreFunctions.{Chain, none_done, then_done}
use Rattle.volume_table.proofs.StoreSteps.{refused_at_once}
use Rattle.report.specs.Grammar.{IsBadLine}
use Rattle.report.specs.Script.{Answers, IsDoneLine, IsRefusedLine, Serves, none_read, then_read}
use Rattle.set_commands.specs.ScriptLaw.{AreCommandsOf, EndsSettled, IsRightReply, IsRunOf, KeepsInLine, KeepsVolumes, Runs, StandsInLine}
use Rattle.extents.specs.declared.extent_layout.ExtentLayout.{ExtentLayout}
use Rattle.extents.specs.SetExtents.{extents_in}

-- what a line keeps, also where it ended the store
abbrev Keeps : List ℕ → (old new : StoreView) → Reply → Option Lost → VolumeMap → Type 0
Keeps line old new reply lost volumes = (after : VolumeMap) × StandsInLine line old new lost volumes after
    × (¬ EndsStore reply → IsRightReply (extents_for_store old) line volumes reply × IsSettledAfter lost new after)

-- a store at which nothing is done keeps its volumes, as one does that refuses a command at once
idle : (store : StoreView) (lost : Option Lost) (volumes : VolumeMap) → IsSettledOn store lost volumes
    → GoesThrough (Unit {0}) (OnVolumes (Create [] 0)) store store (Refused BadName)
idle store lost volumes rests =
    (refused_at_once (Unit {0}) (Create [] 0) store BadName rests.going (0, omega arith, refl) (λ ends. ends) (λ sectors those shown. refl)).going rests.going

done_line : (line : List ℕ) (command : Command) (old new : StoreView) (reply : Reply) → IsDoneLine (Unit {0}) line command old new reply
    → (lost : Option Lost) (volumes : VolumeMap) → IsSettledOn old lost volumes → Keeps line old new reply lost volumes
done_line line command old new reply done lost volumes rests =
    let through : GoesThrough (Unit {0}) (OnVolumes command) old new reply = done.applies.going rests.going in (
      volumes_after (extents_for_store old) command volumes,
      record { leaves = inl (command, done.short, done.says, refl); stands = through.moments tt lost volumes rests },
      λ goes. (inl (command, done.short, done.says, through.answered tt goes lost volumes rests), through.settled tt goes lost volumes rests),
    )

refused_line : (line : List ℕ) (old new : StoreView) (reply : Reply) → IsRefusedLine line old new reply
    → (lost : Option Lost) (volumes : VolumeMap) → IsSettledOn old lost volumes → Keeps line old new reply lost volumes
refused_line line old new reply refused lost volumes rests =
    subst (λ (store : StoreView). Keeps line old store reply lost volumes) (sym refused.same) (
      volumes,
      record { leaves = inr (refused.bad, refl); stands = through.moments tt lost volumes rests },
      λ goes. (inr (refused.bad, refused.answer), through.settled tt (λ ends. ends) lost volumes rests),
    )
  where
    through : GoesThrough (Unit {0}) (OnVolumes (Create [] 0)) old old (Refused BadName)
    through = idle old lost volumes rests

pub last_line_stands : (line : List ℕ) (old new : StoreView) (reply : Reply) → Answers (Unit {0}) line old new reply
    → (lost : Option Lost) (volumes : VolumeMap) → IsSettledOn old lost volumes → Keeps line old new reply lost volumes
last_line_stands line old new reply (inl (command, done)) lost volumes rests = done_line line command old new reply done lost volumes rests
last_line_stands line old new reply (inr refused) lost volumes rests = refused_line line old new reply refused lost volumes rests

-- a set has as many extents after a line
same_extents : (line : List ℕ) (old new : StoreView) (reply : Reply) → Answers (Unit {0}) line old new reply → (lost : Option Lost) (volumes : VolumeMap)
    → IsSettledOn old lost volumes
    → extents_for_store new ≡ extents_for_store old
same_extents line old new reply (inl (command, done)) lost volumes rests =
    let through : GoesThrough (Unit {0}) (OnVolumes command) old new reply =
    done.applies.going rests.going in ap extents_in through.goes_on.not_older.same_geometry
same_extents line old new reply (inr refused) lost volumes rests = ap extents_for_store refused.same

pub script_keeps_volumes : (lines : List (List ℕ)) (replies : List Reply) (old new : StoreView) → (serves : Serves (Unit {0}) lines replies old new)
    → (lost : Option Lost) (volumes : VolumeMap) → IsSettledOn old lost volumes
    → KeepsVolumes serves lost volumes × EndsSettled lines replies old new volumes
script_keeps_volumes [] [] old new none_read lost volumes rests = (tt, record { after = volumes; lost = lost; runs = refl; settled = rests })
script_keeps_volumes [] (_ ∷ replies) old new serves lost volumes rests = elim serves [ ]
script_keeps_volumes (_ ∷ lines) [] old new serves lost volumes rests = elim serves [ ]
script_keeps_volumes (_ ∷ lines) (_ ∷ replies) old new (then_read mid line reply answers goes serves) lost volumes rests =
    let kept : Keeps line old mid reply lost volumes = last_line_stands line old mid reply answers lost volumes rests in
    let left : IsSettledAfter lost mid kept.0 = (kept.2 goes).1 in
    let keeps : KeepsInLine line old mid reply lost volumes = record {
      after = kept.0;
      left = left.lost;
      stands = kept.1;
      right = (kept.2 goes).0;
      is_lost = left.is_lost;
      settled = left.settled;
    } in
    let later = script_keeps_volumes lines replies mid new serves left.lost kept.0 left.settled in
    let same : extents_for_store mid ≡ extents_for_store old = same_extents line old mid reply answers lost volumes rests in (
      (keeps, later.0),
      record {
        after = later.1.after;
        lost = later.1.lost;
        runs = (kept.0, kept.1.leaves, keeps.right, subst (λ (extents : ExtentLayout). Runs extents lines kept.0 replies later.1.after) same later.1.runs);
        settled = later.1.settled;
      },
    )

-- a line that is no command stands before the others
skipped : (line : List ℕ) (lines : List (List ℕ)) (events : List Event) → IsBadLine line → AreCommandsOf lines events → AreCommandsOf (line ∷ lines) events
skipped line lines [] bad are = (bad, are)
skipped line lines (event ∷ events) bad are = inr (bad, are)

-- a line is a step of a run, or none
one_more : (line : List ℕ) (lines : List (List ℕ)) (old mid new : StoreView) (reply : Reply) → Answers (Unit {0}) line old mid reply → ¬ EndsStore reply
    → IsRunOf lines mid new
    → IsRunOf (line ∷ lines) old new
one_more line lines old mid new reply (inl (command, done)) goes run = record {
  events = OnVolumes command ∷ run.events;
  acks = mid.array.panel.calls ∷ run.acks;
  are = inl (command, done.short, done.says, refl, run.are);
  chain = then_done mid (OnVolumes command) reply mid.array.panel.calls done.applies goes refl run.chain;
}
one_more line lines old mid new reply (inr refused) goes run = record {
  events = run.events;
  acks = run.acks;
  are = skipped line lines run.events refused.bad run.are;
  chain = subst (λ (store : StoreView). Chain (Unit {0}) run.events run.acks store new) refused.same run.chain;
}

pub script_is_run : (lines : List (List ℕ)) (replies : List Reply) (old new : StoreView) → Serves (Unit {0}) lines replies old new → IsRunOf lines old new
script_is_run [] [] old new none_read = record { events = []; acks = []; are = tt; chain = none_done }
script_is_run [] (_ ∷ replies) old new serves = elim serves [ ]
script_is_run (_ ∷ lines) [] old new serves = elim serves [ ]
script_is_run (_ ∷ lines) (_ ∷ replies) old new (then_read mid line reply answers goes serves) =
    one_more line lines old mid new reply answers goes (script_is_run lines replies mid new serves)
