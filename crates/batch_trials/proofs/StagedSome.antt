-- What waits in a batch holds some writes, from its first one on.
use Rattle.std.proofs.Common.{◌≡◌, ℕ, ◌++◌, ◌∷◌, List, [], Option, Some, None, Ok, Err, refl, sym, ap, subst}
use Rattle.std.specs.Prelude.{true, false}
use Rattle.sector_model.specs.declared.refusal.Refusal.{Refusal}
use Rattle.layout_map.specs.declared.geometry.Geometry.{Geometry}
use Rattle.batch.specs.Places.{Given}
use Rattle.array_io.specs.Believed.ArrayCalls.{Answer}
use Rattle.extents.specs.declared.extent_layout.ExtentLayout.{ExtentLayout}
use Rattle.extents.specs.declared.volume_table.VolumeTable.{VolumeTable}
use Rattle.extents.specs.SetExtents.{extents_in}
use Rattle.volume_table.specs.Stands.{StoreView}
use Rattle.volume_table.specs.Staging.{CommitsStaged, HoldSome, Staged, Stages}
use Rattle.volume_table.specs.StoreCalls.{Applies, extents_for_store}
use Rattle.volume_table.specs.Volumes.{Block}
use Rattle.volume_table.specs.VolumeStep.{Command, Event, Reply, Write}
use Rattle.volume_table.proofs.StagedWrites.{none_wait}

-- Where nothing waits, it holds no write.
pub none_held : (extents : ExtentLayout) (table : VolumeTable) (sectors : Given) → sectors ≡ [] → HoldSome extents table sectors
none_held extents table sectors none =
    subst (λ (given : Given). HoldSome extents table given) (sym none) (record { writes = []; holds = none_wait extents table })

-- So it is while the table of volumes and the geometry stay.
pub held_on : (geometry other : Geometry) (table after : VolumeTable) (sectors : Given) → other ≡ geometry → after ≡ table
    → HoldSome (extents_in geometry) table sectors → HoldSome (extents_in other) after sectors
held_on geometry other table after sectors same kept held =
    subst (λ (g : Geometry). HoldSome (extents_in g) after sectors) (sym same)
    (subst (λ (t : VolumeTable). HoldSome (extents_in geometry) t sectors) (sym kept) held)

-- After a call that has a write wait, what waits holds some writes as before, whatever it answered.
pub still_held : {store : StoreView} {name : List ℕ} {at : ℕ} {blocks : List Block} {old new : Given} {answer : Staged}
    → Stages store name at blocks old new answer → HoldSome (extents_for_store store) store.keeps old → HoldSome (extents_for_store store) store.keeps new
still_held {store} {name} {at} {blocks} {old} {new} {answer} stages held = by_answer answer stages
  where
    same_held : new ≡ old → HoldSome (extents_for_store store) store.keeps new
    same_held same = subst (λ (given : Given). HoldSome (extents_for_store store) store.keeps given) (sym same) held

    by_end : (refusal : Refusal) → Stages store name at blocks old new (Err refusal) → (ended : Option Refusal) → store.ended ≡ ended
        → HoldSome (extents_for_store store) store.keeps new
    by_end refusal refused None is = same_held (refused.refused is refusal refl).same
    by_end refusal refused (Some cause) is = same_held (refused.ended cause is).1

    by_answer : (given : Staged) → Stages store name at blocks old new given → HoldSome (extents_for_store store) store.keeps new
    by_answer (Ok true) taken = record { writes = held.writes ++ Write name at blocks ∷ []; holds = taken.taken refl held.writes held.holds }
    by_answer (Ok false) full = same_held (full.full refl)
    by_answer (Err refusal) refused = by_end refusal refused store.ended refl

-- A commit keeps the geometry.
pub same_geometry : {honest : Type 0} {writes : List Command} {old new : StoreView} {answer : Answer} → CommitsStaged honest writes old new answer
    → new.array.table.geometry ≡ old.array.table.geometry
same_geometry {honest} {writes} {old} {new} {answer} commits = by_end old.ended refl
  where
    by_end : (ended : Option Refusal) → old.ended ≡ ended → new.array.table.geometry ≡ old.array.table.geometry
    by_end None is = (commits.going is).goes_on.not_older.same_geometry
    by_end (Some refusal) is = ap (λ (store : StoreView). store.array.table.geometry) (commits.ended refusal is).1

-- So does an event.
pub applied_geometry : {honest : Type 0} {event : Event} {old new : StoreView} {reply : Reply} → Applies honest event old new reply
    → new.array.table.geometry ≡ old.array.table.geometry
applied_geometry {honest} {event} {old} {new} {reply} applies = by_end old.ended refl
  where
    by_end : (ended : Option Refusal) → old.ended ≡ ended → new.array.table.geometry ≡ old.array.table.geometry
    by_end None is = (applies.going is).goes_on.not_older.same_geometry
    by_end (Some refusal) is = ap (λ (store : StoreView). store.array.table.geometry) (applies.ended refusal is).same
