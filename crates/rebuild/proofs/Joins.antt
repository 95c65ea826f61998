-- A settled array whose next table speaks of what the lost slot's device holds: what publishing that table begins with.
use Rattle.std.proofs.Common.{◌≡◌, ◌≢◌, ◌⊎◌, inl, inr, ℕ, ◌+◌, ◌<◌, ◌≤◌, true, false, List, [], ◌∷◌, length, Contains, Option, Some, None, refl, sym, ◌∙◌, ap}
use Rattle.std.proofs.Common.{subst, arith}
use Rattle.std.proofs.lemmas.List.Elements.{Contains-append_right, Contains-append_left, Contains-push}
use Rattle.layout_map.specs.declared.geometry.Geometry.{Geometry}
use Rattle.sector_model.specs.History.{Bytes, History, Slots, disk_of, is_down, sector_of, seen}
use Rattle.sector_model.specs.Readable.{readable}
use Rattle.sector_model.proofs.Readable.{readable_left, readable_up}
use Rattle.layout_map.specs.declared.sizes.TheConstants.{FIRST_ROW}
use Rattle.superblock.specs.declared.state.State.{State}
use Rattle.superblock.specs.declared.state.State.TheVariants.{InSync, Missing, Rebuilding}
use Rattle.superblock.specs.declared.table.Table.{Table}
use Rattle.superblock.specs.declared.table.Superblock.{Superblock}
use Rattle.superblock.specs.Cases.{Lost}
use Rattle.superblock.specs.Counted.{Content, Counts, HasIncarnation, IsChosen, IsLive, IsStale, least_sectors}
use Rattle.superblock.specs.NextTables.{IsOut}
use Rattle.superblock.specs.Publishing.{place_of}
use Rattle.superblock.specs.SlotSteps.{IsStepAt}
use Rattle.superblock.specs.Tables.{incarnation_at, state_at}
use Rattle.superblock.proofs.LaterTables.{stale_goes_on}
use Rattle.array_io.specs.Laws.Core.{IsKnown}
use Rattle.array_io.specs.Believed.Holds.{AllStale}
use Rattle.array_io.specs.Believed.Settled.{IsSettled}
use Rattle.array_io.proofs.Rest.AtRestImages.{LeavesSectors, held_by, known_away}
use Rattle.array_io.proofs.Laws.Beginning.{settled_table}
use Rattle.array_io.proofs.Tables.PublishImages.{IsBefore, gets_last, long_before}
use Rattle.array_io.proofs.Images.Spellings.{Spellings}
use Rattle.array_io.proofs.Tables.StepHolds.{StepsSlot, incarnation_new, step_not_older}
use Rattle.array_io.proofs.Tables.StepRest.{TakesFrom}
use Rattle.rebuild.specs.Joining.{MayJoin}
use Rattle.rebuild.specs.Preparing.{HasTheEntry, IsPrepared}

-- each of some devices is stale
all_stale : (devices : ℕ) (table : Table) (slot : ℕ) (disks : List (List Bytes))
    → ((disk : List Bytes) → Contains disks disk → IsStale devices table slot (Some disk))
    → AllStale devices table slot disks
all_stale devices table slot [] each = tt
all_stale devices table slot (disk ∷ disks) each = (
  each disk (Contains-append_left (disk ∷ []) disks disk (Contains-push [] disk)),
  all_stale devices table slot disks (λ other has. each other (Contains-append_right (disk ∷ []) disks other has)),
)

stale_on : (devices : ℕ) (table next : Table) (slot : ℕ) → IsStepAt table next slot → (disks : List (List Bytes)) → AllStale devices table slot disks
    → AllStale devices next slot disks
stale_on devices table next slot step [] stale = tt
stale_on devices table next slot step (disk ∷ disks) stale =
    (stale_goes_on devices table next slot (Some disk) (step_not_older table next slot step) stale.0, stale_on devices table next slot step disks stale.1)

-- What was known to a table is stale by the next one, in which its slot has a new device.
pub known_is_stale : (devices : ℕ) (table next : Table) (slot : ℕ) (content : Content) → IsStepAt table next slot
    → incarnation_at next.incarnations slot ≡ incarnation_at table.incarnations slot + 1 → IsKnown devices table slot content
    → IsStale devices next slot content
known_is_stale devices table next slot content step joined known = record {
  older = λ place superblock counts. omega (arith, known.no_newer place superblock (of_table place superblock counts), step.generation);
  earlier = λ place superblock counts. omega (arith, known.no_higher place superblock (of_table place superblock counts), joined);
}
  where
    of_table : (place : ℕ) (superblock : Superblock) → Counts next.id devices slot content place superblock
        → Counts table.id devices slot content place superblock
    of_table place superblock = subst (λ (i : List ℕ). Counts i devices slot content place superblock) step.same_id

-- a slot that is neither missing nor in sync is a rebuilding member
rebuilding_then : (table : Table) (slot : ℕ) → state_at table.states slot ≢ Missing → state_at table.states slot ≢ InSync → slot < table.geometry.members
rebuilding_then table slot there out = by_state (state_at table.states slot) refl
  where
    by_state : (state : State) → state_at table.states slot ≡ state → slot < table.geometry.members
    by_state Missing is = absurd (there is)
    by_state InSync is = absurd (out is)
    by_state Rebuilding is = table.allowed.rebuilds_member slot is

-- What publishing begins with, beside what the call's conditions say.
pub record JoinsFrom (devices number : ℕ) (table next : Table) (slot : ℕ) (one : Lost) (V : List Bytes) (sectors : ℕ → Bytes) (mid : History) : Type 0 where
  pub settled : IsSettled devices table number mid (Some one) V
  pub leaves : LeavesSectors mid
  pub own : one.slot ≡ slot
  pub steps : StepsSlot devices table next slot (Some slot) sectors
  pub there : state_at next.states slot ≢ Missing
  pub out : state_at table.states slot ≢ InSync
  pub up : is_down mid slot ≡ false
  pub long : least_sectors table.geometry slot ≤ length (seen mid slot)
  pub may : MayJoin devices table next slot mid

module _ (spellings : Spellings) (devices number : ℕ) (table next : Table) (slot : ℕ) (one : Lost) (V : List Bytes) (sectors : ℕ → Bytes) (mid : History)
    (from : JoinsFrom devices number table next slot one V sectors mid) where
  step : IsStepAt table next slot
  step = from.steps.step

  read : readable mid slot ≡ Some (seen mid slot)
  read = readable_up mid slot from.up

  long : least_sectors table.geometry slot ≤ length (disk_of (readable mid slot))
  long = subst (λ (c : Content). least_sectors table.geometry slot ≤ length (disk_of c)) (sym read) from.long

  -- what publishing begins with, where by the next table the device is live or not, none that is away comes back, and a journal has the last entry
  takes : ((image : Slots) → IsBefore next (Some slot) sectors slot (readable mid slot) (image slot) → IsChosen next.id devices image next
      → IsLive devices next slot (image slot) ⊎ ¬ IsLive devices next slot (image slot))
      → AllStale devices next slot one.away → (table.geometry.members ≤ slot → HasTheEntry devices table slot mid)
      → TakesFrom devices number table next slot one V sectors mid
  takes live away entry = record {
    settled = from.settled;
    leaves = from.leaves;
    own = from.own;
    steps = from.steps;
    there = from.there;
    up = from.up;
    long = long;
    more = from.may.more;
    rows = λ row within below counts. ap (λ (c : Content). sector_of (disk_of c) (FIRST_ROW + row)) read ∙ from.may.own row within below counts;
    live = live;
    away = away;
    sealed = λ beyond. (entry beyond).sealed;
    bodies = λ beyond. (entry beyond).bodies;
  }

  -- by the next table what has its incarnation is live
  live_by : (image : Slots) → IsBefore next (Some slot) sectors slot (readable mid slot) (image slot)
      → HasIncarnation next.id devices slot (image slot) (incarnation_at next.incarnations slot) → IsLive devices next slot (image slot)
  live_by image is incarnation = record {
    long_enough = subst (λ (g : Geometry). least_sectors g slot ≤ length (disk_of (image slot))) (sym step.same_geometry)
        (omega (arith, long, long_before next (Some slot) sectors slot (readable mid slot) (image slot) is));
    not_missing = from.there;
    incarnation = incarnation;
  }

  live_replaced : (image : Slots) → IsBefore next (Some slot) sectors slot (readable mid slot) (image slot) → IsChosen next.id devices image next
      → sector_of (disk_of (image slot)) (place_of next) ≡ sectors slot → IsLive devices next slot (image slot)
  live_replaced image is chosen stands = live_by image is
      (incarnation_new spellings devices table next slot (Some slot) sectors from.steps slot (image slot) (gets_last next slot) stands
      (λ place superblock counts. chosen.greatest slot place superblock counts))

  -- where the device is the slot's still
  module _ (same : incarnation_at next.incarnations slot ≡ incarnation_at table.incarnations slot) (there : state_at table.states slot ≢ Missing) where
    same_live : (image : Slots) → IsBefore next (Some slot) sectors slot (readable mid slot) (image slot) → IsChosen next.id devices image next
        → IsLive devices next slot (image slot)
    same_live image (inl is) chosen = live_by image (inl is)
        (subst (λ (i : List ℕ). HasIncarnation i devices slot (image slot) (incarnation_at next.incarnations slot)) (sym step.same_id)
        (subst (λ (n : ℕ). HasIncarnation table.id devices slot (image slot) n) (sym same)
        (subst (λ (c : Content). HasIncarnation table.id devices slot c (incarnation_at table.incarnations slot)) is
        (from.settled.there slot step.of_set there).incarnation)))
    same_live image (inr replaced) chosen = live_replaced image (inr replaced) chosen replaced.stands

    pub same_takes : TakesFrom devices number table next slot one V sectors mid
    same_takes = takes (λ image is chosen. inl (same_live image is chosen))
        (stale_on devices table next slot step one.away
        (subst (λ (k : ℕ). AllStale devices table k one.away) from.own
        (from.settled.none_back (subst (λ (k : ℕ). state_at table.states k ≢ Missing) (sym from.own) there))))
        (λ beyond. absurd (omega (arith, beyond, rebuilding_then table slot there from.out)))

  -- where it is a new one, which was prepared
  module _ (joined : incarnation_at next.incarnations slot ≡ incarnation_at table.incarnations slot + 1) (prepared : IsPrepared devices table slot mid) where
    new_live : (image : Slots) → IsBefore next (Some slot) sectors slot (readable mid slot) (image slot) → IsChosen next.id devices image next
        → IsLive devices next slot (image slot) ⊎ ¬ IsLive devices next slot (image slot)
    new_live image (inr replaced) chosen = inl (live_replaced image (inr replaced) chosen replaced.stands)
    new_live image (inl is) chosen = inr (λ live. prepared.none live.incarnation.place live.incarnation.newest
        (subst (λ (c : Content). Counts table.id devices slot c live.incarnation.place live.incarnation.newest) (sym is)
        (subst (λ (i : List ℕ). Counts i devices slot (image slot) live.incarnation.place live.incarnation.newest) step.same_id live.incarnation.counted)))

    away_known : (disk : List Bytes) → Contains one.away disk → IsKnown devices table slot (Some disk)
    away_known disk has =
        let case = from.settled.holds (readable mid) (readable_left mid) in
        subst (λ (t : Table). IsKnown devices t slot (Some disk))
        (sym (settled_table table devices table number mid (Some one) V (Some one) (V ∷ []) refl from.settled case))
        (known_away table devices case.table (V ∷ []) (readable mid) (Some one) (held_by table devices (readable mid) (Some one) (V ∷ []) case) slot disk
        (sym from.own)
        (inr (inr record { disk = disk; holds = refl; listed = has })))

    pub new_takes : TakesFrom devices number table next slot one V sectors mid
    new_takes = takes new_live
        (all_stale devices next slot one.away (λ disk has. known_is_stale devices table next slot (Some disk) step joined (away_known disk has)))
        prepared.entry

  pub takes_from : TakesFrom devices number table next slot one V sectors mid
  takes_from = elim from.may.device [
    | inl stays ↦ same_takes stays.0 stays.1
    | inr joins ↦ new_takes joins.0 joins.2
  ]

-- the slot that a settled array's table does not call in sync is the lost one
pub lost_at : (devices number : ℕ) (table : Table) (slot : ℕ) (h : History) (lost : Option Lost) (V : List Bytes) → IsSettled devices table number h lost V
    → IsOut table slot → (one : Lost) × (lost ≡ Some one) × (one.slot ≡ slot)
lost_at devices number table slot h None V settled out = absurd (differ (settled.lost_slot.out slot out).1)
  where
    differ : false ≡ true → ⊥
    differ e = cc
lost_at devices number table slot h (Some one) V settled out = (one, refl, (settled.lost_slot.out slot out).0)
