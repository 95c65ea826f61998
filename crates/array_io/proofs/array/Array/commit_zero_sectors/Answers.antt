use Rattle.std.proofs.Common.{◌≡◌, ℕ, ◌≤◌, List, [], ◌∷◌, length, refl, sym, ap, subst, arith}
use Rattle.std.proofs.lemmas.Bool.{false≢true}
use Rattle.layout_map.specs.declared.geometry.Geometry.{Geometry}
use Rattle.entry_runs.specs.declared.builder.RunsBuilder.{RunsBuilder}
use Rattle.entry_runs.specs.Built.{runs_in}
use Rattle.superblock.specs.declared.table.Table.{Table}
use Rattle.batch.specs.declared.placed.Placed.{Placed}
use Rattle.batch.specs.declared.zero_sectors.ZeroSectors.{ZeroSectors}
use Rattle.batch.specs.Listed.{places_in}
use Rattle.batch.specs.Places.{AreOfSet}
use Rattle.batch.specs.Staging.{most_of}
use Rattle.batch.specs.Zeroed.{listed, zeroed}
use Rattle.batch.specs.ZeroSectors.{with_zeros}
use Rattle.batch.proofs.ZeroedSectors.{is_zeroed}
use Rattle.array_io.specs.Believed.ArrayCalls.{MayForm}
use Rattle.array_io.specs.Steps.FormingRows.{IsPlanned}
use Rattle.array_io.proofs.array.Array.commit_zero_sectors.Goals as goal

at_least : {X : Type 0} (xs : List X) → ¬ (xs ≡ []) → 1 ≤ length xs
at_least [] some = absurd (some refl)
at_least (x ∷ xs) some = omega arith

module _ (zeros : ZeroSectors) (sectors : List ℕ) (are : sectors ≡ listed zeros) where
  -- listed sectors may be written by one entry
  may_of : (table : Table) → zeros.geometry ≡ table.geometry → ¬ (zeroed zeros ≡ []) → MayForm table (with_zeros sectors)
  may_of table same some =
      let is = is_zeroed zeros in
      subst (λ (list : List ℕ). MayForm table (with_zeros list)) (sym are) (record {
        least = at_least (zeroed zeros) some;
        few = λ one. omega (arith, is.few, ap (λ (g : Geometry). most_of g.format) same, ap most_of one);
        of_set = subst (λ (g : Geometry). AreOfSet g (zeroed zeros)) same is.of_set;
        apart = is.apart;
      })

  -- and their rows are planned
  plan_of : (geometry : Geometry) (places : List Placed) (rows : RunsBuilder) → zeros.geometry ≡ geometry → places ≡ places_in zeros.places
      → rows ≡ zeros.runs → IsPlanned geometry (with_zeros sectors) places (runs_in rows)
  plan_of geometry places rows same places_are rows_are =
      let is = is_zeroed zeros in
      subst (λ (g : Geometry). IsPlanned g (with_zeros sectors) places (runs_in rows)) same
      (subst (λ (s : List ℕ). IsPlanned zeros.geometry (with_zeros s) places (runs_in rows)) (sym are)
      (subst (λ (p : List Placed). IsPlanned zeros.geometry (zeroed zeros) p (runs_in rows)) (sym places_are)
      (subst (λ (r : RunsBuilder). IsPlanned zeros.geometry (zeroed zeros) (places_in zeros.places) (runs_in r)) (sym rows_are)
      (record { placed = is.placed; planned = is.planned }))))

pub commit_planned-requires-clause-may : goal.commit_planned-requires-clause-may
commit_planned-requires-clause-may g c =
    may_of c.args.zeros.now c.sectors.result.now c.sectors.ensures c.args.self.now.table c.requires.same
    (λ none. false≢true (c.if-is_empty.ensures.1 none))

pub commit_planned-requires-clause-planned : goal.commit_planned-requires-clause-planned
commit_planned-requires-clause-planned g c =
    plan_of c.args.zeros.now c.sectors.result.now c.sectors.ensures c.args.self.now.table.geometry c.places.result.now c.runs.result.now c.requires.same
    c.places.ensures c.runs.ensures
