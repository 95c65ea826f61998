-- What an event comes to that is done on the set on a bank, from what its call does.
use Rattle.std.proofs.Common.{◌≡◌, ◌≢◌, ◌⊎◌, inl, inr, ℕ, Bool, true, false, not, List, [], ◌∷◌, Option, None, Ok, refl, sym, subst, cond, arith}
use Rattle.std.specs.Prelude.{Contains}
use Rattle.std.specs.List.{All, AllByRecursion}
use Rattle.std.proofs.lemmas.List.Elements.{All-contains, All-from_recursion}
use Rattle.sector_model.specs.declared.refusal.Refusal.{Refusal}
use Rattle.sector_model.specs.declared.refusal.Refusal.TheVariants.{Incomplete, NotMissing, NothingToRebuild, NotUsable, TwoLost, Worn, WouldLose, WriteFault}
use Rattle.array_io.specs.Believed.Views.{EndsIt}
use Rattle.recovery.specs.Making.{BankView}
use Rattle.rebuild.specs.Rebuilding.{Complete, Position}
use Rattle.volume_table.specs.SetReplies.{Devices, set_reply}
use Rattle.volume_table.specs.Stands.{StoreView}
use Rattle.volume_table.specs.StoreCalls.{Applies, EndsStore, GoesThrough, IsListed, refusals_of, set_of}
use Rattle.volume_table.specs.VolumeStep.{Command, Create, Done, Event, Extend, Fail, Names, OnSet, OnVolumes, Progressed, Read, RebuildStep, Refused, Remove}
use Rattle.volume_table.specs.VolumeStep.{Rename, Replace, Reply, Scrub, ScrubRows, Scrubbed, SetCommand, Upgrade, Write, first_refusal, or_refused}
use Rattle.volume_table.proofs.RunChains.{applies_for}
use Rattle.report.specs.Replies.{reply_text}
use Rattle.set_commands.specs.Serving.{AppliesOn, FailsOn, IsEventEnd, IsOpened, IsOwnEnd, IsTellEnd, RefusesOn, ReplacesOn, ScrubsOn, UpgradesOn, event_text}

-- ---- what its call is refused with

-- by whether another slot is out, and whether the set has no such slot
fail_refused : (out past : Bool) (refusal : Refusal) → Refused refusal ≡ or_refused (first_refusal ((out, WouldLose) ∷ (past, NotMissing) ∷ [])) Done
    → (refusal ≡ WouldLose) ⊎ (refusal ≡ NotMissing)
fail_refused true past refusal is = inl (cc)
fail_refused false true refusal is = inr (cc)
fail_refused false false refusal is = absurd (cc)

-- by whether the slot is not missing, and whether its device is unusable
replace_refused : (there unusable : Bool) (refusal : Refusal)
    → Refused refusal ≡ or_refused (first_refusal ((there, NotMissing) ∷ (unusable, NotUsable) ∷ [])) Done
    → (refusal ≡ NotMissing) ⊎ (refusal ≡ NotUsable)
replace_refused true unusable refusal is = inl (cc)
replace_refused false true refusal is = inr (cc)
replace_refused false false refusal is = absurd (cc)

-- by whether a slot is rebuilding, and whether all its rows are done
step_refused : (rebuilding last : Bool) (refusal : Refusal) (there : ℕ)
    → Refused refusal ≡ or_refused (first_refusal ((not rebuilding, NothingToRebuild) ∷ [])) (cond last (Progressed Complete) (Progressed (Position there)))
    → refusal ≡ NothingToRebuild
step_refused false last refusal there is = cc
step_refused true true refusal there is = absurd (cc)
step_refused true false refusal there is = absurd (cc)

-- by whether a slot is not in sync
scrub_refused : (partial : Bool) (refusal : Refusal) (rows bad : ℕ) (first : Option ℕ)
    → Refused refusal ≡ or_refused (first_refusal ((partial, Incomplete) ∷ [])) (Scrubbed rows bad first) → refusal ≡ Incomplete
scrub_refused true refusal rows bad first is = cc
scrub_refused false refusal rows bad first is = absurd (cc)

through_refused : (honest : Type 0) (event : Event) (refusal : Refusal) (old new : StoreView) → ¬ EndsIt refusal
    → GoesThrough honest event old new (Refused refusal)
    → IsOwnEnd event refusal
through_refused honest (OnSet (Fail slot)) refusal old new goes through = let left = through.set_left goes in fail_refused _ _ refusal left.left.replied
through_refused honest (OnSet (Replace slot)) refusal old new goes through = let left = through.set_left goes in replace_refused _ _ refusal left.left.replied
through_refused honest (OnSet (RebuildStep rows)) refusal old new goes through = let left =
    through.set_left goes in step_refused _ _ refusal _ left.left.replied
through_refused honest (OnSet Scrub) refusal old new goes through = let left = through.set_left goes in scrub_refused _ refusal _ _ _ left.left.replied
through_refused honest (OnSet (ScrubRows first rows)) refusal old new goes through = let left =
    through.set_left goes in scrub_refused _ refusal _ _ _ left.left.replied
through_refused honest (OnVolumes command) refusal old new goes through = elim through.listed [
  | inl own ↦ own
  | inr ends ↦ absurd (goes ends)
]

event_refused : (honest : Type 0) (event : Event) (refusal : Refusal) (old new : StoreView) → old.ended ≡ None → Applies honest event old new (Refused refusal)
    → EndsIt refusal ⊎ IsOwnEnd event refusal
event_refused honest event TwoLost old new going applies = inl tt
event_refused honest event Worn old new going applies = inl tt
event_refused honest event refusal old new going applies = inr (through_refused honest event refusal old new (λ ends. ends) (applies.going going))

-- no command on volumes is refused as a writer fails
none_writes : (command : Command) → All (λ refusal. refusal ≢ WriteFault) (refusals_of command)
none_writes command = All-from_recursion (λ refusal. refusal ≢ WriteFault) (refusals_of command) (each command)
  where
    each : (command : Command) → AllByRecursion (λ refusal. refusal ≢ WriteFault) (refusals_of command)
    each (Create name count) = ((λ is. cc), ((λ is. cc), ((λ is. cc), ((λ is. cc), ((λ is. cc), tt)))))
    each (Extend name growth) = ((λ is. cc), ((λ is. cc), ((λ is. cc), tt)))
    each (Remove name) = ((λ is. cc), tt)
    each (Read name at count) = ((λ is. cc), ((λ is. cc), ((λ is. cc), tt)))
    each (Write name at blocks) = ((λ is. cc), ((λ is. cc), ((λ is. cc), tt)))
    each (Rename old new) = ((λ is. cc), ((λ is. cc), ((λ is. cc), tt)))
    each Names = ((λ is. cc), tt)
    each Upgrade = tt

own_uncut : (event : Event) (refusal : Refusal) → IsOwnEnd event refusal → refusal ≢ WriteFault
own_uncut (OnVolumes command) refusal own is = All-contains (λ one. one ≢ WriteFault) (refusals_of command) refusal (none_writes command) own is
own_uncut (OnSet (Fail slot)) refusal (inl own) is = cc
own_uncut (OnSet (Fail slot)) refusal (inr own) is = cc
own_uncut (OnSet (Replace slot)) refusal (inl own) is = cc
own_uncut (OnSet (Replace slot)) refusal (inr own) is = cc
own_uncut (OnSet (RebuildStep rows)) refusal own is = cc
own_uncut (OnSet Scrub) refusal own is = cc
own_uncut (OnSet (ScrubRows first rows)) refusal own is = cc

-- ---- over a store that was opened on a bank

module _ (honest then : Type 0) (so : honest → then) (id : List ℕ) (bank : BankView) (first last : StoreView) (opened : IsOpened honest id bank first)
    (event : Event)
    (answered : Reply) (applies : Applies then event first last answered) where
  pub applied_on : (reply : Reply) (IsWritten : List ℕ → Type 0) → reply ≡ answered → ((refusal : Refusal) → reply ≢ Refused refusal)
      → IsWritten (event_text last.array.table.geometry reply) → AppliesOn honest id event bank IsWritten
  applied_on reply IsWritten same done written = record {
    first = first;
    last = last;
    reply = reply;
    opened = opened;
    applies = applies_for then honest event first last reply so (subst (λ (r : Reply). Applies then event first last r) (sym same) applies);
    done = done;
    written = written;
  }

  refuses : (refusal : Refusal) → answered ≡ Refused refusal → Applies then event first last (Refused refusal)
  refuses refusal is = subst (λ (r : Reply). Applies then event first last r) is applies

  pub refused_on : (refusal : Refusal) → answered ≡ Refused refusal → RefusesOn honest id event bank refusal
  refused_on refusal is = record {
    first = first;
    last = last;
    opened = opened;
    comes =
        applies_for then honest event first last (Refused refusal) so (refuses refusal is);
  }

  pub event_end : (refusal : Refusal) → answered ≡ Refused refusal → IsEventEnd event refusal
  event_end refusal is = elim (event_refused then event refusal first last (opened.opens.going first refl) (refuses refusal is)) [
    | inl ends ↦ inl (inr (inr ends))
    | inr own ↦ inr own
  ]

  pub event_uncut : (refusal : Refusal) → answered ≡ Refused refusal → refusal ≢ WriteFault
  event_uncut refusal is cut = elim (event_refused then event refusal first last (opened.opens.going first refl) (refuses refusal is)) [
    | inl ends ↦ subst EndsIt cut ends
    | inr own ↦ own_uncut event refusal own cut
  ]

-- ---- what each event is answered where it is done

goes_on : (reply : Reply) → ((refusal : Refusal) → reply ≢ Refused refusal) → ¬ EndsStore reply
goes_on (Refused refusal) done = λ ends. done refusal refl
goes_on reply done = λ ends. ends

replied : (honest : Type 0) (id : List ℕ) (command : SetCommand) (bank : BankView) (IsWritten : List ℕ → Type 0)
    (does : AppliesOn honest id (OnSet command) bank IsWritten)
    → (devices : Devices) × (does.reply ≡ set_reply devices command (set_of does.first.array.table))
replied honest id command bank IsWritten does =
    let left = (does.applies.going (does.opened.opens.going does.first refl)).set_left (goes_on does.reply does.done) in
    (left.devices, left.left.replied)

fail_done : (out past : Bool) (reply : Reply) → reply ≡ or_refused (first_refusal ((out, WouldLose) ∷ (past, NotMissing) ∷ [])) Done
    → ((refusal : Refusal) → reply ≢ Refused refusal) → reply ≡ Done
fail_done true past reply is done = absurd (done WouldLose is)
fail_done false true reply is done = absurd (done NotMissing is)
fail_done false false reply is done = is

replace_done : (there unusable : Bool) (reply : Reply) → reply ≡ or_refused (first_refusal ((there, NotMissing) ∷ (unusable, NotUsable) ∷ [])) Done
    → ((refusal : Refusal) → reply ≢ Refused refusal) → reply ≡ Done
replace_done true unusable reply is done = absurd (done NotMissing is)
replace_done false true reply is done = absurd (done NotUsable is)
replace_done false false reply is done = is

scrub_done : (partial : Bool) (reply : Reply) (rows bad : ℕ) (first : Option ℕ)
    → reply ≡ or_refused (first_refusal ((partial, Incomplete) ∷ [])) (Scrubbed rows bad first)
    → ((refusal : Refusal) → reply ≢ Refused refusal) → reply ≡ Scrubbed rows bad first
scrub_done true reply rows bad first is done = absurd (done Incomplete is)
scrub_done false reply rows bad first is done = is

upgrade_done : (reply : Reply) → IsListed (OnVolumes Upgrade) reply → ((refusal : Refusal) → reply ≢ Refused refusal) → reply ≡ Done
upgrade_done (Refused refusal) listed done = absurd (done refusal refl)
upgrade_done reply listed done = listed

module _ (honest : Type 0) (id : List ℕ) (bank : BankView) (IsWritten : List ℕ → Type 0) where
  -- a slot was given up
  pub failed_by : (slot : ℕ) → AppliesOn honest id (OnSet (Fail slot)) bank IsWritten → FailsOn honest id slot bank (Ok tt) × IsWritten (reply_text Done)
  failed_by slot does =
      let is : does.reply ≡ Done = fail_done _ _ does.reply (replied honest id (Fail slot) bank IsWritten does).1 does.done in (
        record {
          first = does.first;
          last = does.last;
          opened = does.opened;
          comes =
              subst (λ (r : Reply). Applies honest (OnSet (Fail slot)) does.first does.last r) is does.applies;
        },
        subst (λ (r : Reply). IsWritten (event_text does.last.array.table.geometry r)) is does.written,
      )

  -- a slot was given a device
  pub replaced_by : (slot : ℕ) → AppliesOn honest id (OnSet (Replace slot)) bank IsWritten → ReplacesOn honest id slot bank (Ok tt)
      × IsWritten (reply_text Done)
  replaced_by slot does =
      let is : does.reply ≡ Done = replace_done _ _ does.reply (replied honest id (Replace slot) bank IsWritten does).1 does.done in (
        record {
          first = does.first;
          last = does.last;
          opened = does.opened;
          comes =
              subst (λ (r : Reply). Applies honest (OnSet (Replace slot)) does.first does.last r) is does.applies;
        },
        subst (λ (r : Reply). IsWritten (event_text does.last.array.table.geometry r)) is does.written,
      )

  -- the rows were looked at
  pub scrubbed_by : AppliesOn honest id (OnSet Scrub) bank IsWritten → ScrubsOn honest id bank IsWritten
  scrubbed_by does =
      let left = replied honest id Scrub bank IsWritten does in
      by_report _ _ _ (scrub_done _ does.reply _ _ _ left.1 does.done)
    where
      by_report : (rows bad : ℕ) (first_bad : Option ℕ) → does.reply ≡ Scrubbed rows bad first_bad → ScrubsOn honest id bank IsWritten
      by_report rows bad first_bad is = record {
        first = does.first;
        last = does.last;
        report = record { rows = rows; bad = bad; first_bad = first_bad };
        opened = does.opened;
        scrubs = subst (λ (r : Reply). Applies honest (OnSet Scrub) does.first does.last r) is does.applies;
        written = subst (λ (r : Reply). IsWritten (event_text does.last.array.table.geometry r)) is does.written;
      }

  -- the table of volumes got version 2
  pub upgraded_by : AppliesOn honest id (OnVolumes Upgrade) bank IsWritten → UpgradesOn honest id bank (Ok tt) × IsWritten (reply_text Done)
  upgraded_by does =
      let is : does.reply ≡ Done = upgrade_done does.reply (does.applies.going (does.opened.opens.going does.first refl)).listed does.done in (
        record {
          first = does.first;
          last = does.last;
          opened = does.opened;
          comes =
              subst (λ (r : Reply). Applies honest (OnVolumes Upgrade) does.first does.last r) is does.applies;
        },
        subst (λ (r : Reply). IsWritten (event_text does.last.array.table.geometry r)) is does.written,
      )

-- an upgrade has no refusal of its own
pub upgrade_end : (refusal : Refusal) → IsEventEnd (OnVolumes Upgrade) refusal → IsTellEnd refusal
upgrade_end refusal (inl ends) = ends
upgrade_end refusal (inr own) = absurd (none_left own)
  where
    none_left : Contains [] refusal → ⊥
    none_left (k, below, is) = omega (arith, below)
