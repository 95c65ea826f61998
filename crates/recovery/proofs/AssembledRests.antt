-- What stands at the end of an assembling in which a slot was marked missing: the superblocks are in order by the new table.
use Rattle.std.proofs.Common.{◌≡◌, ◌≢◌, inl, inr, ℕ, ◌+◌, ◌%◌, ◌<◌, ◌≤◌, false, List, length, Option, None, sym, ◌∙◌, ap, subst, arith}
use Rattle.sector_model.specs.History.{Bytes, History, MayHold, disk_of, is_down, sector_of, seen, start_of}
use Rattle.sector_model.specs.MemoryLaw.{length-seen}
use Rattle.sector_model.specs.Readable.{NothingPending, readable}
use Rattle.sector_model.proofs.Readable.{readable_up}
use Rattle.sector_model.proofs.Steps.{up_seen}
use Rattle.layout_map.specs.declared.sizes.TheConstants.{SUPERBLOCK_PLACES}
use Rattle.layout_map.specs.declared.geometry.Geometry.{Geometry}
use Rattle.superblock.specs.declared.state.State.TheVariants.{InSync, Missing}
use Rattle.superblock.specs.declared.table.Table.{Table}
use Rattle.superblock.specs.Tables.{incarnation_at, state_at}
use Rattle.superblock.specs.Cases.{Lost}
use Rattle.superblock.specs.Counted.{Content, IsChosen, IsLive, least_sectors}
use Rattle.superblock.specs.NextTables.{IsMarked, slots_of}
use Rattle.superblock.specs.Publishing.{IsSafeAt, StandsAt, place_of}
use Rattle.superblock.proofs.PublishSteps.{GetsIt}
use Rattle.array_io.specs.Believed.Moments.{HoldsNow}
use Rattle.array_io.proofs.Images.LossBefore.{up_before}
use Rattle.array_io.specs.Steps.CallSteps.{StaysDown}
use Rattle.array_io.proofs.Marks.MarkedWhole.{IsFlushed}
use Rattle.array_io.proofs.Marks.MarkingHolds.{missing_then, state_stays}
use Rattle.array_io.proofs.Marks.MarkingImages.{gets_it, gets_or_not}
use Rattle.recovery.specs.PuttingInOrder.{IsInOrderBy}

-- What is known at the end, since the survey: a slot was marked missing, all others were there and in sync, and the new table was published.
pub record HasMarkedOne (devices : ℕ) (table new_table : Table) (slot : ℕ) (sectors : ℕ → Bytes) (old new : History) : Type 0 where
  pub marked : IsMarked table slot new_table
  pub of_set : slot < slots_of table
  pub others : (other : ℕ) → other < slots_of table → other ≢ slot → state_at table.states other ≡ InSync
  pub live : (other : ℕ) → other < slots_of table → other ≢ slot → IsLive devices table other (readable old other)
  pub nothing_pending : NothingPending old
  pub elsewhere : (device at : ℕ) (value : Bytes) → ¬ GetsIt new_table None device → is_down new device ≡ false → MayHold new device at value
      → MayHold old device at value
  pub start : (device : ℕ) → start_of new device ≡ start_of old device
  pub stays_down : StaysDown old new
  pub flushed : (device : ℕ) → GetsIt new_table None device → IsFlushed new device
  pub up : (device : ℕ) → GetsIt new_table None device → is_down new device ≡ false
  pub spelled : (device : ℕ) → GetsIt new_table None device → StandsAt new_table device (sectors device)
  pub safe : (device : ℕ) → GetsIt new_table None device → IsSafeAt new device (place_of new_table) (sectors device)
  pub chosen : IsChosen new_table.id devices (readable new) new_table

none_differ : Missing ≡ InSync → ⊥
none_differ is = cc

module _ (devices : ℕ) (table new_table : Table) (slot : ℕ) (sectors : ℕ → Bytes) (old new : History)
    (has : HasMarkedOne devices table new_table slot sectors old new) where
  set_is : slots_of new_table ≡ slots_of table
  set_is = ap (λ (g : Geometry). g.members + 2) has.marked.same_geometry

  missing : state_at new_table.states slot ≡ Missing
  missing = missing_then table new_table slot has.marked has.of_set

  apart_if : (other : ℕ) → state_at new_table.states other ≢ Missing → other ≢ slot
  apart_if other there is = there (ap (λ (k : ℕ). state_at new_table.states k) is ∙ missing)

  in_sync : (other : ℕ) → other < slots_of table → other ≢ slot → state_at new_table.states other ≡ InSync
  in_sync other of_set apart = state_stays table new_table slot has.marked other apart ∙ has.others other of_set apart

  gets : (other : ℕ) → other < slots_of table → other ≢ slot → GetsIt new_table None other
  gets other of_set apart = gets_it new_table other (subst (λ (n : ℕ). other < n) (sym set_is) of_set) (in_sync other of_set apart)

  was_up : (device : ℕ) → is_down new device ≡ false → is_down old device ≡ false
  was_up = up_before old new has.stays_down

  -- each device has one value in each sector: it was flushed, or nothing was written to it
  nothing_now : NothingPending new
  nothing_now device at first second up may may' = elim (gets_or_not new_table device) [
    | inl got ↦ has.flushed device got at first may ∙ sym (has.flushed device got at second may')
    | inr not_got ↦ has.nothing_pending device at first second (was_up device up) (has.elsewhere device at first not_got up may)
        (has.elsewhere device at second not_got up may')
  ]

  size_stays : (other : ℕ) → is_down new other ≡ false → length (disk_of (readable new other)) ≡ length (disk_of (readable old other))
  size_stays other up =
      ap (λ (c : Content). length (disk_of c)) (readable_up new other up)
      ∙ length-seen new other
      ∙ ap (λ (c : Content). length (disk_of c)) (has.start other)
      ∙ sym (length-seen old other)
      ∙ sym (ap (λ (c : Content). length (disk_of c)) (readable_up old other (was_up other up)))

  stands_new : (other : ℕ) → GetsIt new_table None other → sector_of (disk_of (readable new other)) (place_of new_table) ≡ sectors other
  stands_new other got =
      ap (λ (c : Content). sector_of (disk_of c) (place_of new_table)) (readable_up new other (has.up other got))
      ∙ has.safe other got (sector_of (seen new other) (place_of new_table)) (up_seen new other (place_of new_table) (has.up other got))

  live_now : (other : ℕ) → other < slots_of table → other ≢ slot → IsLive devices new_table other (readable new other)
  live_now other of_set apart =
      let got = gets other of_set apart in
      let was = has.live other of_set apart in
      let stands = has.spelled other got in
      record {
        long_enough = subst (λ (g : Geometry). least_sectors g other ≤ length (disk_of (readable new other))) (sym has.marked.same_geometry)
            (subst (λ (n : ℕ). least_sectors table.geometry other ≤ n) (sym (size_stays other (has.up other got))) was.long_enough);
        not_missing = λ is. none_differ (sym is ∙ in_sync other of_set apart);
        incarnation = record {
          place = place_of new_table;
          newest = stands.superblock;
          counted = record {
            stands = stands_new other got ∙ stands.spelled;
            of_set = ap (λ (t : Table). t.id) stands.carries;
            own_place = ap (λ (t : Table). t.generation % SUPERBLOCK_PLACES) stands.carries;
            own_slot = stands.own_slot;
            has_slots = omega (
              arith,
              ap (λ (t : Table). t.geometry.members) stands.carries,
              ap (λ (t : Table). t.geometry.members) has.chosen.carried,
              has.chosen.counted.has_slots,
            );
          };
          greatest = λ at superblock counts. subst (λ (t : Table). superblock.table.generation ≤ t.generation) (sym stands.carries)
              (has.chosen.greatest other at superblock counts);
          own = ap (λ (t : Table). incarnation_at t.incarnations other) stands.carries;
        };
      }

  pub marked_in_order : (base : Table) (lost : Option Lost) (X : List (List Bytes)) → table.id ≡ base.id → HoldsNow base devices lost X new
      → IsInOrderBy base new_table devices lost X new
  marked_in_order base lost X same_id holds = record {
    nothing_pending = nothing_now;
    holds = holds;
    chosen = subst (λ (i : List ℕ). IsChosen i devices (readable new) new_table) (has.marked.same_id ∙ same_id) has.chosen;
    there = λ other of_set there. live_now other (subst (λ (n : ℕ). other < n) set_is of_set) (apart_if other there);
    carried = λ complete. absurd (none_differ (sym missing ∙ complete.in_sync slot (subst (λ (n : ℕ). slot < n) (sym set_is) has.of_set)));
  }
