-- What commands on a set share: by what their array calls keep they leave the volumes as they are, and the set as their replies say.
use Rattle.std.proofs.Common.{◌≡◌, ◌≢◌, ◌⊎◌, inl, inr, ℕ, suc, ◌+◌, ◌<◌, ◌≤◌, Bool, true, false, cond, List, [], ◌∷◌, length, map, take, Option, Some, None}
use Rattle.std.proofs.Common.{Result, Ok, Err, refl, sym, ap, ap₂, subst, ◌∙◌, arith}
use Rattle.std.proofs.lemmas.Bool.{and_from, and_parts, true≢false}
use Rattle.std.proofs.lemmas.List.{get_or-take}
use Rattle.std.proofs.lemmas.List.Elements.{Contains-push, Contains-push_cases}
use Rattle.sector_model.specs.declared.refusal.Refusal.{Refusal}
use Rattle.sector_model.specs.History.{Bytes, History}
use Rattle.sector_model.specs.Readable.{readable}
use Rattle.sector_model.specs.Reads.{HasRead}
use Rattle.sector_model.proofs.Steps.{throughout_more}
use Rattle.layout_map.specs.declared.geometry.Geometry.{Geometry}
use Rattle.superblock.specs.declared.state.State.{State}
use Rattle.superblock.specs.declared.state.State.TheVariants.{InSync, Missing, Rebuilding}
use Rattle.superblock.specs.declared.table.Table.{Table}
use Rattle.superblock.specs.Cases.{Lost}
use Rattle.superblock.specs.NextTables.{slots_of}
use Rattle.superblock.specs.States.{has_rebuilding, is_missing, position_in}
use Rattle.superblock.specs.Tables.{state_at}
use Rattle.array_io.specs.Believed.ArrayCalls.{KeepsTheList}
use Rattle.array_io.specs.Believed.Moments.{HoldsNow}
use Rattle.array_io.specs.Believed.Views.{ArrayView, EndsIt, DeviceFailed, GoesOn, HasEnded, IsEndOf, RestsAfter}
use Rattle.extents.specs.SetExtents.{extents_in}
use Rattle.extents.specs.declared.volume_table.VolumeTable.{VolumeTable}
use Rattle.extents.specs.TableLaw.{IsOfFormat}
use Rattle.extents.specs.TableSpelling.{Spell}
use Rattle.scrub.specs.Scrubbing.{AreUnsound}
use Rattle.volume_table.specs.SetReplies.{Devices, changed_set, set_answer, set_or_same, set_refusal, settled, with_faults}
use Rattle.volume_table.specs.Shows.{Shows}
use Rattle.volume_table.specs.Stands.{IsSettledAfter, IsSettledOn, StandsNow, StandsThroughout, StoreView}
use Rattle.volume_table.specs.StoreCalls.{Applies, AreDevicesOf, EndsStore, GoesThrough, IncarnationsStay, IsCounterFull, IsScrub, SetIsLeft, lost_in, set_of}
use Rattle.volume_table.specs.VolumeStep.{Names, OnSet, OnVolumes, Refused, Reply, Scrubbed, SetCommand, Volumes, or_refused}
use Rattle.volume_table.specs.Volumes.{VolumeMap}
use Rattle.volume_table.proofs.OpenInstances.{array_goes_on, list_at_rest}
use Rattle.volume_table.proofs.StoreSteps.{are_unsound, devices_in, generation_same, has_fault, incarnations_same, length-set_of, made, missing_is, no_position}
use Rattle.volume_table.proofs.StoreSteps.{unsound_rows}

-- ---- the states of a table's set

abbrev pub states_in : Table → List State
states_in table = take (slots_of table) table.states

pub state_in : (table : Table) (slot : ℕ) → slot < slots_of table
    → state_at (states_in table) slot ≡ state_at table.states slot
state_in table slot of_set = get_or-take (slots_of table) table.states slot Missing of_set

-- no slot of these is rebuilding
pub none_rebuilding : (states : List State) → ((k : ℕ) → k < length states → state_at states k ≢ Rebuilding)
    → has_rebuilding states ≡ false
none_rebuilding [] none = refl
none_rebuilding (InSync ∷ states) none = none_rebuilding states (λ k below. none (suc k) (omega (arith, below)))
none_rebuilding (Missing ∷ states) none = none_rebuilding states (λ k below. none (suc k) (omega (arith, below)))
none_rebuilding (Rebuilding ∷ states) none = absurd (none 0 (omega arith) refl)

-- where each slot whose device answered a fault is missing, the states are what they are
pub faults_keep : (faults : ℕ → Bool) (states : List State)
    → ((k : ℕ) → k < length states → faults k ≡ true → state_at states k ≡ Missing) → with_faults faults states ≡ states
faults_keep faults [] gone = refl
faults_keep faults (state ∷ states) gone =
    ap₂ (λ (s : State) (ss : List State). s ∷ ss) (first (faults 0) refl)
    (faults_keep (λ slot. faults (slot + 1)) states (λ k below fault.
    let next : k + 1 ≡ suc k = omega arith in
    gone (suc k) (omega (arith, below)) (sym (ap faults next) ∙ fault)))
  where
    first : (b : Bool) → faults 0 ≡ b → cond b Missing state ≡ state
    first true is = sym (gone 0 (omega arith) is)
    first false is = refl

-- the position of a table counts, or is 0
pub own_position : (table : Table) → position_in (states_in table) table.position ≡ table.position
own_position table = by_case (has_rebuilding (states_in table)) refl
  where
    by_case : (b : Bool) → has_rebuilding (states_in table) ≡ b → cond b table.position 0 ≡ table.position
    by_case true is = refl
    by_case false is = sym (no_position table is)

-- ---- the devices of a call

-- a slot of the set whose device answered a fault is missing
pub fault_is_missing : (new : ArrayView) (slot : ℕ) → has_fault new slot ≡ true
    → state_at new.table.states slot ≡ Missing
fault_is_missing new slot fault =
    missing_is (state_at new.table.states slot) (and_parts (is_missing (state_at new.table.states slot)) (new.panel.down slot) fault).0

pub fault_is_down : (new : ArrayView) (slot : ℕ) → has_fault new slot ≡ true → new.panel.down slot ≡ true
fault_is_down new slot fault = (and_parts (is_missing (state_at new.table.states slot)) (new.panel.down slot) fault).1

pub is_fault : (new : ArrayView) (slot : ℕ) → state_at new.table.states slot ≡ Missing → new.panel.down slot ≡ true
    → has_fault new slot ≡ true
is_fault new slot missing down = and_from (is_missing (state_at new.table.states slot)) (new.panel.down slot) (ap is_missing missing) down

-- of these devices the table's set is left as it is
pub devices_leave : (old new : ArrayView) (position : ℕ)
    → position_in (states_in new.table) position ≡ new.table.position
    → settled (devices_in old new) (made (states_in new.table) position) ≡ set_of new.table
devices_leave old new position counts =
    ap (λ (states : List State). made states (position_in states position)) (faults_keep (has_fault new) (states_in new.table) (λ k below fault.
    let of_set : k < slots_of new.table = omega (arith, below, length-set_of new.table) in
    state_in new.table k of_set ∙ fault_is_missing new k fault))
    ∙ ap (made (states_in new.table)) counts

-- the devices of a call, with these rows not sound
abbrev pub devices_with : ArrayView → ArrayView → List ℕ → Devices
devices_with old new unsound = record {
  faults = (devices_in old new).faults;
  unusable = (devices_in old new).unusable;
  format = (devices_in old new).format;
  rows = (devices_in old new).rows;
  unsound = unsound;
}

-- what failed is missing, and so the devices are the call's
pub are_devices_with : (honest : Type 0) (old new : ArrayView) (unsound : List ℕ)
    → (honest → AreUnsound old.table (readable new.history) unsound)
    → (honest → (slot : ℕ) → slot < slots_of old.table → DeviceFailed slot old.panel new.panel → state_at new.table.states slot ≡ Missing)
    → AreDevicesOf honest old.table old.panel new.panel new.history (devices_with old new unsound)
are_devices_with honest old new unsound are failure = record {
  failed = λ fair slot of_set failed. is_fault new slot (failure fair slot of_set failed) failed.is_down;
  is_down = λ slot of_set fault. fault_is_down new slot fault;
  unusable = λ slot of_set. refl;
  format = refl;
  rows = refl;
  unsound = are;
}

pub are_devices : (honest : Type 0) (old new : ArrayView)
    → (honest → (slot : ℕ) → slot < slots_of old.table → DeviceFailed slot old.panel new.panel → state_at new.table.states slot ≡ Missing)
    → AreDevicesOf honest old.table old.panel new.panel new.history (devices_in old new)
are_devices honest old new failure = are_devices_with honest old new (unsound_rows old.table (readable new.history))
    (λ fair. are_unsound old.table (readable new.history)) failure

-- What a command leaves of the set, by whether it is refused.
pub set_left_by : (honest : Type 0) (command : SetCommand) (old new : StoreView) (reply : Reply) (devices : Devices) (refusal : Option Refusal)
    → AreDevicesOf honest old.array.table old.array.panel new.array.panel new.array.history devices
    → set_refusal devices command (set_of old.array.table) ≡ refusal
    → reply ≡ or_refused refusal (set_answer devices command (set_of old.array.table))
    → settled devices (set_or_same refusal (changed_set devices command (set_of old.array.table)) (set_of old.array.table)) ≡ set_of new.array.table
    → SetIsLeft honest (OnSet command) old new reply
set_left_by honest command old new reply devices refusal are refuses replied leaves = record {
  devices = devices;
  are = are;
  left = record {
    replied = replied ∙ sym (ap (λ o. or_refused o (set_answer devices command (set_of old.array.table))) refuses);
    leaves = sym (ap (λ o. settled devices (set_or_same o (changed_set devices command (set_of old.array.table)) (set_of old.array.table))) refuses
        ∙ leaves);
  };
}

-- ---- the volumes

-- at each moment a case that holds for the list stands for its volumes
pub stands_for : (base : Table) (devices : ℕ) (lost : Option Lost) (V : List Bytes) (volumes : VolumeMap)
    → Shows (extents_in base.geometry) V volumes → (h : History)
    → HoldsNow base devices lost (V ∷ []) h → StandsNow base devices lost (volumes ∷ volumes ∷ []) h
stands_for base devices lost V volumes shown h now after image is may = record {
  lists = V ∷ [];
  holds = now after image is may;
  shown = λ logical among. elim (Contains-push_cases [] V logical among) [
    | inl (k, below, at) ↦ absurd (omega (arith, below))
    | inr same ↦ record {
      volumes = volumes;
      among = Contains-push (volumes ∷ []) volumes;
      shown =
          subst (λ (l : List Bytes). Shows (extents_in base.geometry) l volumes) same shown;
    }
  ];
}

-- an array that is settled on the list of before, with the table of volumes as it was
pub settled_still : (old new : StoreView) (lost before : Option Lost) (volumes : VolumeMap)
    → GoesOn old.array new.array → new.keeps ≡ old.keeps → new.ended ≡ None
    → (settled : IsSettledOn old lost volumes) → RestsAfter before new.array settled.logical
    → IsSettledAfter before new volumes
settled_still old new lost before volumes goes_on same going settled after = record {
  lost = after.lost;
  is_lost = after.is_lost;
  settled = record {
    logical = settled.logical;
    rests = after.rests;
    shown = subst (λ (g : Geometry). Shows (extents_in g) settled.logical volumes) (sym goes_on.not_older.same_geometry) settled.shown;
    spelled = subst (λ (t : VolumeTable). Spell settled.logical t) (sym same) settled.spelled;
    of_format = subst (λ (g : Geometry). IsOfFormat (extents_in g).format new.keeps) (sym goes_on.not_older.same_geometry)
        (subst (λ (t : VolumeTable). IsOfFormat (extents_in old.array.table.geometry).format t) (sym same) settled.of_format);
    going = going;
  };
}

-- ---- the records

pub none_ended : (refusal : Refusal) → Some refusal ≡ None → ⊥
none_ended refusal is = cc

pub refused_differ : (first second : Refusal) → Refused first ≡ Refused second → first ≡ second
refused_differ first second is = cc

pub failed_nowhere : (array : ArrayView) (slot : ℕ) → DeviceFailed slot array.panel array.panel → ⊥
failed_nowhere array slot failed = true≢false (sym failed.is_down ∙ failed.was_up)

refused_not_scrubbed : (refusal : Refusal) (rows bad : ℕ) (first_bad : Option ℕ)
    → Refused refusal ≡ Scrubbed rows bad first_bad → ⊥
refused_not_scrubbed refusal rows bad first_bad is = cc

-- An open store that was given to an array's call, and keeps its refusal where that ends the store.
pub record KeepsRefusal (A : Type 0) (old new : StoreView) (answer : Result A Refusal) : Type 0 where
  pub going : old.ended ≡ None
  pub same : new.keeps ≡ old.keeps
  pub going_on : ¬ HasEnded answer → new.ended ≡ old.ended
  pub ended : (refusal : Refusal) → answer ≡ Err refusal → EndsIt refusal → new.ended ≡ Some refusal

abbrev done_with : (A : Type 0) → A → Result A Refusal
done_with A value = Ok value

-- what was done was not refused
done_is_no_refusal : (A : Type 0) (value : A) (refusal : Refusal) → done_with A value ≡ Err refusal → ⊥
done_is_no_refusal A value refusal is = cc

abbrev refused_with : (A : Type 0) → Refusal → Result A Refusal
refused_with A refusal = Err refusal

one_refusal : (A : Type 0) (first second : Refusal) → refused_with A first ≡ Err second → first ≡ second
one_refusal A first second is = cc

-- a call that was done keeps none, whatever it answers
pub kept_if_done : (A B : Type 0) (old new : StoreView) (first : A) (second : B) → KeepsRefusal A old new (Ok first) → KeepsRefusal B old new (Ok second)
kept_if_done A B old new first second is = record {
  going = is.going;
  same = is.same;
  going_on = is.going_on;
  ended = λ refusal same. absurd (done_is_no_refusal B second refusal same);
}

-- nor does what it might have answered change the refusal that is kept
pub kept_if_refused : (A B : Type 0) (old new : StoreView) (cause : Refusal) → KeepsRefusal A old new (Err cause) → KeepsRefusal B old new (Err cause)
kept_if_refused A B old new cause is = record {
  going = is.going;
  same = is.same;
  going_on = is.going_on;
  ended = λ refusal same. is.ended refusal (ap (λ (r : Refusal). Err r) (one_refusal B cause refusal same));
}

-- What the array's call does for a command on the set by which nothing is lost: it keeps the list that the array is settled on.
pub record ActsOnSet (honest : Type 0) (command : SetCommand) (A : Type 0) (old new : StoreView) (answer : Result A Refusal) (reply : Reply) : Type 0 where
  pub kept : KeepsRefusal A old new answer
  pub goes_on : GoesOn old.array new.array
  pub keeps : KeepsTheList honest old.array new.array (HasEnded answer)
  pub lost_stays : (lost : Option Lost) → lost_in (OnSet command) old.array.table lost ≡ lost
  pub generation : new.array.table.generation ≤ old.array.table.generation + 2
  pub incarnations : IncarnationsStay (OnSet command) old.array.table new.array.table
  pub spared : (slot : ℕ) → slot < slots_of old.array.table → state_at old.array.table.states slot ≡ InSync
      → (state_at new.array.table.states slot ≡ InSync) ⊎ (new.array.panel.down slot ≡ true)
  pub left : ¬ HasEnded answer → SetIsLeft honest (OnSet command) old new reply
  pub cause : (refusal : Refusal) → answer ≡ Err refusal → EndsIt refusal
      → IsEndOf old.array new.array (IsCounterFull (OnSet command) old.array new.array) refusal
  pub scrubs : honest → IsScrub (OnSet command) → (rows bad : ℕ) (first_bad : Option ℕ)
      → reply ≡ Scrubbed rows bad first_bad
      → HasRead old.array.history new.array.history

-- the reply is a refusal where the answer is one, and ends the store where that ends it
pub record IsReplyTo (A : Type 0) (answer : Result A Refusal) (reply : Reply) : Type 0 where
  pub refused : (refusal : Refusal) → reply ≡ Refused refusal → answer ≡ Err refusal
  pub unended : ¬ EndsStore reply → ¬ HasEnded answer

pub refused_replies : (A : Type 0) (refusal : Refusal) → IsReplyTo A (Err refusal) (Refused refusal)
refused_replies A refusal = record {
  refused = λ other same. ap (λ (r : Refusal). Err r) (refused_differ refusal other same);
  unended = λ unended. unended;
}

pub acts_on_set : (honest : Type 0) (command : SetCommand) (A : Type 0) (old new : StoreView) (answer : Result A Refusal) (reply : Reply)
    → IsReplyTo A answer reply
    → ActsOnSet honest command A old new answer reply → Applies honest (OnSet command) old new reply
acts_on_set honest command A old new answer reply replies is = record {
  ended = λ refusal said. absurd (none_ended refusal (sym said ∙ is.kept.going));
  going = λ going. record {
    goes_on = is.goes_on;
    generation = is.generation;
    incarnations = is.incarnations;
    spared = λ slot of_set in_sync kept. is.spared slot of_set in_sync;
    set_left = λ unended. is.left (replies.unended unended);
    ends = λ refusal same ends. (is.kept.ended refusal (replies.refused refusal same) ends, is.cause refusal (replies.refused refusal same) ends);
    goes = goes;
    listed = tt;
    scrubs = is.scrubs;
    moments = λ fair lost volumes settled.
        subst (λ (l : Option Lost). StandsThroughout old.array.table old.array.panel.devices l (volumes ∷ volumes ∷ []) old.array.history new.array.history)
        (sym (is.lost_stays lost))
        (throughout_more (stands_for old.array.table old.array.panel.devices lost settled.logical volumes settled.shown) new.array.history
        (is.keeps.moments fair lost settled.logical settled.rests));
    answered = λ fair unended. tt;
    settled = λ fair unended lost volumes settled.
        subst (λ (l : Option Lost). IsSettledAfter l new volumes) (sym (is.lost_stays lost))
        (settled_still old new lost lost volumes is.goes_on is.kept.same (goes unended) settled
        (is.keeps.rests fair (replies.unended unended) lost settled.logical settled.rests));
  };
}
  where
    goes : ¬ EndsStore reply → new.ended ≡ None
    goes unended = is.kept.going_on (replies.unended unended) ∙ is.kept.going

-- A command that is refused before any device call leaves its store as it is.
pub refused_on_set : (honest : Type 0) (command : SetCommand) (store : StoreView) (refusal : Refusal)
    → store.ended ≡ None → ¬ EndsIt refusal
    → ((lost : Option Lost) → lost_in (OnSet command) store.array.table lost ≡ lost)
    → set_refusal (devices_in store.array store.array) command (set_of store.array.table) ≡ Some refusal
    → Applies honest (OnSet command) store store (Refused refusal)
refused_on_set honest command store refusal alive goes kept refuses = record {
  ended = λ other is. absurd (none_ended other (sym is ∙ alive));
  going = λ is. record {
    goes_on = array_goes_on store.array;
    generation = generation_same store.array.table store.array.table refl;
    incarnations = incarnations_same (OnSet command) store.array.table store.array.table refl;
    spared = λ other of_set in_sync kept. inl in_sync;
    set_left = λ unended. set_left_by honest command store store (Refused refusal) (devices_in store.array store.array) (Some refusal)
        (are_devices honest store.array store.array (λ fair other of_set failed. absurd (failed_nowhere store.array other failed))) refuses refl
        (devices_leave store.array store.array store.array.table.position (own_position store.array.table));
    ends = λ other same ends. absurd (goes (subst EndsIt (sym (refused_differ refusal other same)) ends));
    goes = λ unended. alive;
    listed = tt;
    scrubs = λ fair scrub rows bad first_bad is. absurd (refused_not_scrubbed refusal rows bad first_bad is);
    moments = λ fair lost volumes settled. subst (λ (l : Option Lost). StandsThroughout store.array.table store.array.panel.devices l (volumes ∷ volumes ∷ [])
        store.array.history store.array.history)
        (sym (kept lost)) ((at_rest lost volumes settled).moments fair lost volumes settled);
    answered = λ fair unended. tt;
    settled = λ fair unended lost volumes settled. subst (λ (l : Option Lost). IsSettledAfter l store volumes) (sym (kept lost))
        ((at_rest lost volumes settled).settled fair (λ e. e) lost volumes settled);
  };
}
  where
    -- as a list of its volumes does
    at_rest : (lost : Option Lost) (volumes : VolumeMap) → IsSettledOn store lost volumes
        → GoesThrough honest (OnVolumes Names) store store (Volumes (map (λ volume. (volume.name, length volume.blocks)) volumes.volumes))
    at_rest lost volumes settled =
        (list_at_rest honest store volumes lost (unsound_rows store.array.table (readable store.array.history)) settled
        (are_unsound store.array.table (readable store.array.history))).going alive
