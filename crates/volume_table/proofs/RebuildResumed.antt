-- A rebuild goes on after a crash from where it was.
use Rattle.std.proofs.Common.{◌≡◌, ◌≢◌, ℕ, ◌<◌, Bool, true, false, List, [], ◌∷◌, Option}
use Rattle.std.proofs.Common.{refl, sym, ◌∙◌, ap, subst, arith, cond}
use Rattle.std.proofs.lemmas.List.Folds.{list_any_at}
use Rattle.sector_model.specs.History.{Began, Bytes, Slots, is_down}
use Rattle.sector_model.specs.Readable.{readable}
use Rattle.sector_model.proofs.Readable.{readable_began}
use Rattle.layout_map.specs.declared.geometry.Geometry.{Geometry}
use Rattle.superblock.specs.declared.state.State.{State}
use Rattle.superblock.specs.declared.state.State.TheVariants.{Missing, Rebuilding}
use Rattle.superblock.specs.Tables.{state_at}
use Rattle.superblock.specs.States.{has_rebuilding, is_rebuilding}
use Rattle.superblock.specs.Cases.{Lost}
use Rattle.superblock.specs.Counted.{Content, IsChosen, IsLive}
use Rattle.superblock.specs.NextTables.{slots_of}
use Rattle.array_io.specs.Believed.Moments.{HoldsNow}
use Rattle.array_io.specs.Believed.Views.{ArrayView, RestsOn}
use Rattle.array_io.proofs.Rest.AtRestImages.{same_left}
use Rattle.array_io.proofs.Laws.Beginning.{a_run_begins, live_is_up}
use Rattle.array_io.proofs.Images.Codecs.{spellings}
use Rattle.recovery.specs.Assembling.{HasStatesOf, MayAssemble, OpensOnOne}
use Rattle.rebuild.specs.Rebuilding.{IsRebuilding}
use Rattle.volume_table.specs.Volumes.{VolumeMap}
use Rattle.volume_table.specs.Stands.{IsSettledOn, StoreView}
use Rattle.volume_table.specs.Runs.{begun_with}
use Rattle.volume_table.specs.RebuildLaw.{IsAssembledAgain, IsRebuildingOn}

rebuilding_not_missing : (state : State) → state ≡ Rebuilding → state ≢ Missing
rebuilding_not_missing state is missing = let never : Rebuilding ≡ Missing = sym is ∙ missing in cc

-- From what a crash leaves of a settled array assembling may start.
may_assemble : (array : ArrayView) (lost : Option Lost) (V : List Bytes) (store : StoreView)
    (again : IsAssembledAgain store lost array) → RestsOn store.array lost V
    → MayAssemble store.array.table lost (V ∷ []) (begun_with again.panel again.image)
may_assemble array lost V store again rests =
    let begun = a_run_begins store.array.table store.array.panel.devices again.image lost (V ∷ [])
    (rests.holds again.image again.left) in
    record {
      nothing_pending = begun.nothing_pending;
      holds =
          subst (λ (d : ℕ). HoldsNow store.array.table d lost (V ∷ []) (Began again.image))
          (sym again.as_many_slots) begun.holds;
    }

-- its table is the chosen one there
chosen_again : (array : ArrayView) (lost : Option Lost) (V : List Bytes) (store : StoreView)
    (again : IsAssembledAgain store lost array) → RestsOn store.array lost V
    → IsChosen store.array.table.id again.panel.devices (readable (Began again.image)) store.array.table
chosen_again array lost V store again rests =
    subst (λ (d : ℕ). IsChosen store.array.table.id d (readable (Began again.image)) store.array.table)
    (sym again.as_many_slots)
    (subst (λ (i : Slots). IsChosen store.array.table.id store.array.panel.devices i store.array.table)
    (sym (readable_began again.image))
    (rests.chosen.whole again.image again.left))

-- and what the table counts on is live there
live_again : (array : ArrayView) (lost : Option Lost) (V : List Bytes) (store : StoreView)
    (again : IsAssembledAgain store lost array) → RestsOn store.array lost V
    → (slot : ℕ) → slot < slots_of store.array.table → state_at store.array.table.states slot ≢ Missing
    → IsLive again.panel.devices store.array.table slot (readable (Began again.image) slot)
live_again array lost V store again rests slot of_set counted =
    subst (λ (d : ℕ). IsLive d store.array.table slot (readable (Began again.image) slot)) (sym again.as_many_slots)
    (subst (λ (i : Slots). IsLive store.array.panel.devices store.array.table slot (i slot))
    (sym (readable_began again.image))
    (subst (λ (c : Content). IsLive store.array.panel.devices store.array.table slot c)
    (sym (same_left store.array.history again.image slot rests.nothing_pending again.left
    (live_is_up spellings store.array.panel.devices store.array.table store.array.history slot live)))
    live))
  where
    live : IsLive store.array.panel.devices store.array.table slot (readable store.array.history slot)
    live = rests.there slot of_set counted

-- the law of a rebuild after a crash
pub rebuild_resumes : (store : StoreView) (lost : Option Lost) (volumes : VolumeMap) (array : ArrayView) (member : ℕ)
    → IsSettledOn store lost volumes
    → IsAssembledAgain store lost array → IsRebuilding store.array.table member → is_down array.history member ≡ false
    → IsRebuildingOn member 0 store.array.table array.table
rebuild_resumes store lost volumes array member settled again rebuilding up = record {
  still = record {
    of_set = subst (λ (g : Geometry). member < g.members) (sym opens.not_older.same_geometry) rebuilding.of_set;
    state = state;
  };
  position = states.position ∙ ap (λ (b : Bool). cond b store.array.table.position 0) some ∙ omega arith;
}
  where
    V : List Bytes
    V = settled.logical

    may : MayAssemble store.array.table lost (V ∷ []) (begun_with again.panel again.image)
    may = may_assemble array lost V store again settled.rests

    opens : OpensOnOne store.array.table lost (V ∷ []) array
    opens = again.assembles.rests tt store.array.table lost (V ∷ []) refl may array refl again.single_failure

    states : HasStatesOf store.array.table (begun_with again.panel again.image) array
    states =
        again.assembles.states tt store.array.table lost (V ∷ []) refl may array refl again.single_failure store.array.table
        (chosen_again array lost V store again settled.rests)

    of_set : member < slots_of store.array.table
    of_set = omega (arith, rebuilding.of_set)

    state : state_at array.table.states member ≡ Rebuilding
    state = states.live_stays member of_set
        (live_again array lost V store again settled.rests member of_set
        (rebuilding_not_missing (state_at store.array.table.states member) rebuilding.state)) up
        ∙ rebuilding.state

    some : has_rebuilding array.table.states ≡ true
    some = list_any_at is_rebuilding array.table.states member Missing
        (omega (arith, array.table.allowed.ten_states, of_set, store.array.table.geometry.limits.members_most))
        (ap is_rebuilding state)
