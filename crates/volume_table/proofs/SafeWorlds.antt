-- What is kept between two runs, and from the start of a run to its crash.
use Rattle.std.proofs.Common.{◌≡◌, inl, inr, ℕ, ◌+◌, List, [], ◌∷◌, map, Option, Some, None, refl, sym, ap, subst, subst₂, arith}
use Rattle.std.specs.Prelude.{Contains}
use Rattle.std.proofs.lemmas.List.Elements.{Contains-append_cases, Contains-push_cases}
use Rattle.sector_model.specs.History.{Bytes, History, cut_at}
use Rattle.sector_model.specs.Moments.{Throughout}
use Rattle.sector_model.specs.Readable.{readable}
use Rattle.sector_model.proofs.Steps.{throughout_cut}
use Rattle.layout_map.specs.declared.geometry.Geometry.{Geometry}
use Rattle.superblock.specs.declared.table.Table.{Table}
use Rattle.superblock.specs.Cases.{IsLostAfter, Lost}
use Rattle.superblock.specs.Counted.{IsChosen, IsStale}
use Rattle.superblock.specs.Losses.{IsLostAt}
use Rattle.superblock.specs.NextTables.{IsComplete, IsNotOlder, slots_of}
use Rattle.superblock.proofs.LaterTables.{not_older_both, stale_goes_on}
use Rattle.superblock.proofs.Losing.{lost_after_is_one}
use Rattle.array_io.specs.Believed.DeviceRules.{MayBegin, Replaced}
use Rattle.array_io.specs.Laws.Law.{AreReplacedStale}
use Rattle.array_io.specs.Believed.Holds.{AllStale, Holds}
use Rattle.array_io.specs.Believed.Settled.{IsSettled}
use Rattle.array_io.specs.Laws.Starts.{Starts}
use Rattle.array_io.proofs.Laws.AwayStale.{away_is_stale}
use Rattle.array_io.proofs.Laws.Begun.{a_crash_then_a_start}
use Rattle.array_io.proofs.Images.Codecs.{spellings}
use Rattle.array_io.proofs.Laws.DeviceRules.{a_start_is_one_of}
use Rattle.volume_table.specs.Volumes.{VolumeMap}
use Rattle.volume_table.specs.Stands.{Stands, StandsNow}
use Rattle.volume_table.specs.Runs.{Fate, GoesOver, Crashes, World, case_of, replaced_by}

-- Between two runs: the case stands for these maps, by no table older than `base`, which is one of the set's; and each device that was replaced is stale
-- under it.
pub record IsSafe (made : Table) (devices : ℕ) (maps : List VolumeMap) (world : World) : Type 0 where
  pub base : Table
  pub not_older : IsNotOlder made base
  pub stands : Stands base devices (case_of world) maps
  pub replaced : AreReplacedStale devices base world.fate.replaced

pub same_slots : (old new : Table) → IsNotOlder old new → slots_of new ≡ slots_of old
same_slots old new later = ap (λ (g : Geometry). g.members + 2) later.same_geometry

pub replaced_go_on : (devices : ℕ) (old new : Table) (replaced : List Replaced) → IsNotOlder old new → AreReplacedStale devices old replaced
    → AreReplacedStale devices new replaced
replaced_go_on devices old new replaced later stale device among = stale_goes_on devices old new device.slot (Some device.disk) later (stale device among)

-- the next run begins safely
pub begins_safe : (made : Table) (devices : ℕ) (maps : List VolumeMap) (world begun : World) → IsSafe made devices maps world
    → MayBegin made.id devices (slots_of made) world.fate.replaced (case_of world) (case_of begun) → begun.fate.replaced ≡ world.fate.replaced
    → IsSafe made devices maps begun
begins_safe made devices maps world begun safe may same = record {
  base = safe.base;
  not_older = safe.not_older;
  stands = record { lists = safe.stands.lists; holds = holds; shown = safe.stands.shown };
  replaced = subst (λ (r : List Replaced). AreReplacedStale devices safe.base r) (sym same) safe.replaced;
}
  where
    table : Table
    table = safe.stands.holds.table

    later : IsNotOlder made table
    later = not_older_both made safe.base table safe.not_older safe.stands.holds.not_older

    starts : Starts devices table (case_of world) (case_of begun)
    starts = a_start_is_one_of devices table world.fate.replaced (case_of world) (case_of begun)
        (replaced_go_on devices safe.base table world.fate.replaced safe.stands.holds.not_older safe.replaced)
        (subst₂ (λ (i : List ℕ) (n : ℕ). MayBegin i devices n world.fate.replaced (case_of world) (case_of begun)) (sym later.same_id)
        (sym (same_slots made table later)) may)

    holds : Holds safe.base devices (case_of begun) safe.stands.lists
    holds = a_crash_then_a_start safe.base devices table (case_of world) (case_of begun) safe.stands.lists safe.stands.holds
        (subst (λ (i : List ℕ). IsChosen i devices world.image table) safe.stands.holds.not_older.same_id safe.stands.holds.whole.chosen) starts

-- A crash leaves what is safe: at the moment at which it comes each case stands for these maps.
pub crashes_safe : (made base : Table) (devices : ℕ) (during : Option Lost) (maps : List VolumeMap) (fate : Fate) (old new : History) (left : World)
    → IsNotOlder made base → AreReplacedStale devices base fate.replaced → Throughout (StandsNow base devices during maps) old new
    → Crashes (slots_of made) during fate old new left → IsSafe made devices maps left
crashes_safe made base devices during maps fate old new left later stale moments crashes = record {
  base = base;
  not_older = later;
  stands = throughout_cut new moments crashes.t crashes.from left.fate.lost left.image
      (subst (λ (n : ℕ). IsLostAt n during (cut_at crashes.t new) left.fate.lost) (sym (same_slots made base later)) crashes.lost) crashes.leaves;
  replaced = subst (λ (r : List Replaced). AreReplacedStale devices base r) (sym crashes.replaced) stale;
}

no_device : (device : Replaced) → Contains [] device → ⊥
no_device device (k, below, is) = omega (arith, below)

all_stale : (devices : ℕ) (table : Table) (slot : ℕ) (disks : List (List Bytes)) → AllStale devices table slot disks
    → AreReplacedStale devices table (map (λ (disk : List Bytes). record { slot = slot; disk = disk }) disks)
all_stale devices table slot [] all device among = absurd (no_device device among)
all_stale devices table slot (disk ∷ disks) all device among =
    elim (Contains-append_cases (first ∷ []) (map (λ (d : List Bytes). record { slot = slot; disk = d }) disks) device among) [
      | inl one ↦ elim (Contains-push_cases [] first device one) [
        | inl none ↦ absurd (no_device device none)
        | inr is ↦ subst (λ (r : Replaced). IsStale devices table r.slot (Some r.disk)) is all.0
      ]
      | inr rest ↦ all_stale devices table slot disks all.1 device rest
    ]
  where
    first : Replaced
    first = record { slot = slot; disk = disk }

-- Over a call that returned: the array is settled with the slot lost that is lost now, and each replaced device is stale under its table.
pub record IsOver (devices : ℕ) (table : Table) (number : ℕ) (h : History) (fate : Fate) (V : List Bytes) : Type 0 where
  pub settled : IsSettled devices table number h fate.lost V
  pub replaced : AreReplacedStale devices table fate.replaced

more_replaced : (devices : ℕ) (table : Table) (during after : Option Lost)
    → ((lost : Lost) → during ≡ Some lost → after ≡ None → AllStale devices table lost.slot lost.away)
    → AreReplacedStale devices table (replaced_by during after)
more_replaced devices table None after stale device among = absurd (no_device device among)
more_replaced devices table (Some lost) (Some still) stale device among = absurd (no_device device among)
more_replaced devices table (Some lost) None stale device among = all_stale devices table lost.slot lost.away (stale lost refl refl) device among

is_complete_where_none : (during : Option Lost) (table : Table) → IsLostAfter during table None → IsComplete table
is_complete_where_none during table (inl is) = is.0
is_complete_where_none None table (inr is) = let never : None ≡ Some record { slot = is.0; away = [] } = is.2 in cc
is_complete_where_none (Some lost) table (inr is) = let never : None ≡ Some lost = is.1 in cc

-- The case of what reads give holds by the loss during the call; so what was away when the loss ended is stale.
pub goes_over : (slots devices : ℕ) (base table : Table) (number : ℕ) (h : History) (during lost : Option Lost) (old new : Fate) (V : List Bytes)
    → IsNotOlder base table → AreReplacedStale devices base old.replaced → GoesOver slots during old table h new
    → IsLostAfter during table lost → IsSettled devices table number h lost V
    → ((l : Lost) → during ≡ Some l → (X : List (List Bytes)) × Holds base devices record { image = readable h; lost = Some l } X)
    → IsOver devices table number h new V
goes_over slots devices base table number h during lost old new V later stale over is settled holds = record {
  settled = now;
  replaced = subst (λ (r : List Replaced). AreReplacedStale devices table r) (sym over.replaced) (λ device among.
      elim (Contains-append_cases (replaced_by during new.lost) old.replaced device among) [
        | inl one ↦ more_replaced devices table during new.lost away device one
        | inr before ↦ replaced_go_on devices base table old.replaced later stale device before
      ]);
}
  where
    now : IsSettled devices table number h new.lost V
    now = subst (λ (l : Option Lost). IsSettled devices table number h l V) (lost_after_is_one during table lost new.lost is over.lost) settled

    away : (l : Lost) → during ≡ Some l → new.lost ≡ None → AllStale devices table l.slot l.away
    away l same none = away_is_stale spellings base devices table number h l V (holds l same).0 later
        (subst (λ (o : Option Lost). IsSettled devices table number h o V) none now)
        (is_complete_where_none during table (subst (λ (o : Option Lost). IsLostAfter during table o) none over.lost)) (holds l same).1
