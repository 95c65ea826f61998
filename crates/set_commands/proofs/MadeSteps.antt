-- What steps of a rebuild come to, one after another.
use Rattle.std.proofs.Common.{◌≡◌, ◌≢◌, ◌⊎◌, inl, inr, ℕ, ◌+◌, ◌<◌, ◌≤◌, max, Bool, true, false, cond, not, ◌==◌, [], ◌∷◌, Option, Some, None, Result, Ok}
use Rattle.std.proofs.Common.{Err, refl, sym, ap, subst, ◌∙◌, arith}
use Rattle.std.specs.Prelude.{unwrap_or}
use Rattle.std.proofs.lemmas.Bool.{cases_lt, eqb-false}
use Rattle.sector_model.specs.declared.refusal.Refusal.{Refusal}
use Rattle.sector_model.specs.declared.refusal.Refusal.TheVariants.{NothingToRebuild, TwoLost, Worn}
use Rattle.layout_map.specs.declared.format.Format.{Format}
use Rattle.layout_map.specs.declared.geometry.Geometry.{Geometry}
use Rattle.layout_map.specs.Formats.{rebuild_rows}
use Rattle.layout_map.specs.Placement.{rows_of}
use Rattle.superblock.specs.declared.table.Table.{Table}
use Rattle.superblock.specs.States.{has_rebuilding}
use Rattle.array_io.specs.Believed.Holds.{row_count}
use Rattle.array_io.specs.Believed.Views.{EndsIt}
use Rattle.rebuild.specs.Rebuilding.{Complete, Position, Progress, stepped}
use Rattle.rebuild.specs.Stepping.{answer_by}
use Rattle.rebuild.specs.declared.progress.Progress as answered
use Rattle.rebuild.specs.declared.progress.Progress.TheVariants as answering
use Rattle.volume_table.specs.RebuildLaw.{step_rows}
use Rattle.volume_table.specs.SetReplies.{Devices, SetState, changed_set, position_after, rebuilt, set_after, set_or_same, settled, with_faults}
use Rattle.volume_table.specs.Stands.{StoreView}
use Rattle.volume_table.specs.StoreCalls.{GoesThrough, set_of}
use Rattle.volume_table.specs.StoreFunctions.{RebuildsRows}
use Rattle.volume_table.specs.VolumeStep.{OnSet, Progressed, RebuildStep, Refused, first_refusal, or_refused}
use Rattle.volume_table.proofs.RunChains.{applies_for}
use Rattle.volume_table.proofs.StepRows.{some_rows, stepped_last, stepped_on}
use Rattle.set_commands.specs.Steps.{Rebuilds, Steps, none_made, then_made}

-- ---- a bank that is honest before the steps is so in them

steps_for : (honest other : Type 0) (made : ℕ) (old new : StoreView) → (other → honest) → Steps honest made old new → Steps other made old new
steps_for honest other made old new so (none_made none same) = none_made none same
steps_for honest other made old new so (then_made before position mid more steps rebuilds) =
    then_made before position mid more (steps_for honest other before old mid so steps) (applies_for honest other _ mid new _ so rebuilds)

pub rebuilds_for : (honest other : Type 0) (steps : Option ℕ) (old new : StoreView) (answer : Result Progress Refusal) → (other → honest)
    → Rebuilds honest steps old new answer → Rebuilds other steps old new answer
rebuilds_for honest other steps old new answer so rebuilds = record {
  before = rebuilds.before;
  mid = rebuilds.mid;
  steps_before = steps_for honest other rebuilds.before old rebuilds.mid so rebuilds.steps_before;
  last = applies_for honest other _ rebuilds.mid new _ so rebuilds.last;
  no_more = rebuilds.no_more;
  all_made = rebuilds.all_made;
}

-- the rows that the format of a set gives a step are the same at each step
pub of_its_step : (honest : Type 0) (rows : ℕ) (table : Table) (old new : StoreView) (answer : Result Progress Refusal)
    → old.array.table.geometry ≡ table.geometry → rows ≡ rebuild_rows table.geometry.format → RebuildsRows honest rows old new answer
    → RebuildsRows honest (step_rows old.array.table) old new answer
of_its_step honest rows table old new answer same is rebuilds =
    subst (λ (n : ℕ). RebuildsRows honest n old new answer) (is ∙ ap (λ (g : Geometry). rebuild_rows g.format) (sym same)) rebuilds

-- one more that is answered with a position, as a step's code answers it
pub one_more : (honest other : Type 0) (before position : ℕ) (old mid new : StoreView) (answer : Result Progress Refusal) → (other → honest)
    → answer ≡ Ok (Position position) → Steps other before old mid → RebuildsRows honest (step_rows mid.array.table) mid new answer
    → Steps other (before + 1) old new
one_more honest other before position old mid new answer so is steps rebuilds =
    then_made before position mid refl steps
    (applies_for honest other _ mid new _ so (subst (RebuildsRows honest (step_rows mid.array.table) mid new) is rebuilds))

-- ---- one step that is answered with a position

-- the position is within the rows
position_within : (table : Table) → table.position ≤ row_count table
position_within table = by_order (cases_lt (row_count table) table.position)
  where
    by_order : (row_count table < table.position) ⊎ (table.position ≤ row_count table) → table.position ≤ row_count table
    by_order (inr within) = within
    by_order (inl past) =
        let none : table.position ≡ 0 = table.allowed.no_position (λ slot is. absurd (omega (arith, past, table.allowed.position_below slot is))) in
        absurd (omega (arith, past, none))

-- what it comes to
pub record IsStepOn (position : ℕ) (old new : StoreView) : Type 0 where
  pub further : position ≡ old.array.table.position + step_rows old.array.table
  pub within : position < row_count old.array.table
  pub there : new.array.table.position ≡ position
  pub geometry : new.array.table.geometry ≡ old.array.table.geometry

-- what a step answers, by whether a member is rebuilding still, and whether the last row is reached
answer_by_case : (rebuilding last : Bool) (position there : ℕ)
    → Progressed (Position position) ≡ or_refused (first_refusal ((not rebuilding, NothingToRebuild) ∷ []))
    (cond last (Progressed Complete) (Progressed (Position there)))
    → (rebuilding ≡ true) × (last ≡ false) × (position ≡ there)
answer_by_case false last position there is = absurd (cc)
answer_by_case true true position there is = absurd (cc)
answer_by_case true false position there is = (refl, refl, cc)

-- the position that it leaves then
left_position : (devices : Devices) (rows : ℕ) (was : SetState) (rebuilding last : Bool) → has_rebuilding (with_faults devices.faults was.states) ≡ rebuilding
    → (position_after devices rows was.position == devices.rows) ≡ last → rebuilding ≡ true → last ≡ false
    → (set_after devices (OnSet (RebuildStep rows)) was).position ≡ position_after devices rows was.position
left_position devices rows was rebuilding last is_rebuilding is_last still more =
    let there = position_after devices rows was.position in
    let goes_on : set_after devices (OnSet (RebuildStep rows)) was ≡ settled devices (record { states = was.states; position = there }) =
    ap (λ (b : Bool). settled devices (set_or_same (cond (not b) (Some NothingToRebuild) None) (changed_set devices (RebuildStep rows) was) was))
    (is_rebuilding ∙ still)
    ∙ ap (λ (b : Bool). settled devices (cond b (record { states = rebuilt was.states; position = 0 }) (record { states = was.states; position = there })))
    (is_last ∙ more) in
    ap (λ (set : SetState). set.position) goes_on ∙ ap (λ (b : Bool). cond b there 0) (is_rebuilding ∙ still)

-- a step of as many rows as the format allows, which does not reach the last one
not_reached : (format : Format) (rows there was : ℕ) → was ≤ rows → there ≡ stepped (rebuild_rows format) rows (rebuild_rows format) was → there ≢ rows
    → (there ≡ was + rebuild_rows format) × (there < rows)
not_reached format rows there was within is apart = by_order (cases_lt (was + rebuild_rows format) rows)
  where
    by_order : (was + rebuild_rows format < rows) ⊎ (rows ≤ was + rebuild_rows format) → (there ≡ was + rebuild_rows format) × (there < rows)
    by_order (inl more) = let on = is ∙ stepped_on format rows was more in (on, omega (arith, on, more))
    by_order (inr near) = absurd (apart (is ∙ stepped_last format rows was within near))

step_through : (honest : Type 0) (position : ℕ) (old new : StoreView)
    → GoesThrough honest (OnSet (RebuildStep (step_rows old.array.table))) old new (Progressed (Position position)) → IsStepOn position old new
step_through honest position old new through =
    let left = through.set_left (λ ends. ends) in
    let devices = left.devices in
    let was = set_of old.array.table in
    let most = step_rows old.array.table in
    let all = row_count old.array.table in
    let there = position_after devices most was.position in
    let states = with_faults devices.faults was.states in
    let case = answer_by_case (has_rebuilding states) (there == devices.rows) position there left.left.replied in
    let apart : there ≢ devices.rows = eqb-false there devices.rows case.1 in
    let after : new.array.table.position ≡ there = ap (λ (set : SetState). set.position) left.left.leaves
    ∙ left_position devices most was _ _ refl refl case.0 case.1 in
    let is : there ≡ stepped most all most was.position =
    ap (λ (format : Format). stepped (rebuild_rows format) devices.rows most was.position) left.are.format
    ∙ ap (λ (rows : ℕ). stepped most rows most was.position) left.are.rows in
    let on = not_reached old.array.table.geometry.format all there old.array.table.position (position_within old.array.table) is
    (λ same. apart (same ∙ sym left.are.rows)) in
    record {
      further = case.2 ∙ on.0;
      within = omega (arith, on.1, case.2);
      there = after ∙ sym case.2;
      geometry = through.goes_on.not_older.same_geometry;
    }

-- a store that answered a step of a position was open
pub one_on : (honest : Type 0) (position : ℕ) (old new : StoreView) → RebuildsRows honest (step_rows old.array.table) old new (Ok (Position position))
    → IsStepOn position old new
one_on honest position old new rebuilds = by_end old.ended refl
  where
    by_end : (ended : Option Refusal) → old.ended ≡ ended → IsStepOn position old new
    by_end None going = step_through honest position old new (rebuilds.going going)
    by_end (Some refusal) ended = let never : Progressed (Position position) ≡ Refused refusal =
        (rebuilds.ended refusal ended).refused refusal ended in absurd (cc)

-- ---- steps

-- each was a row further at least, and the geometry stays
pub record AreStepsOn (made : ℕ) (old new : StoreView) : Type 0 where
  pub far : made ≤ new.array.table.position
  pub geometry : new.array.table.geometry ≡ old.array.table.geometry

pub steps_on : (honest : Type 0) (made : ℕ) (old new : StoreView) → Steps honest made old new → AreStepsOn made old new
steps_on honest made old new (none_made none same) =
    record { far = omega (arith, none); geometry = ap (λ (store : StoreView). store.array.table.geometry) same }
steps_on honest made old new (then_made before position mid more steps rebuilds) =
    let those = steps_on honest before old mid steps in
    let step = one_on honest position mid new rebuilds in
    record {
      far = omega (arith, more, those.far, step.there, step.further, some_rows mid.array.table.geometry.format);
      geometry = step.geometry ∙ those.geometry;
    }

-- where one more is answered with a position, fewer than the rows were made before
pub fewer_than_rows : (honest : Type 0) (before position : ℕ) (old mid new : StoreView) → AreStepsOn before old mid
    → RebuildsRows honest (step_rows mid.array.table) mid new (Ok (Position position))
    → before + 1 < row_count old.array.table
fewer_than_rows honest before position old mid new those rebuilds =
    let step = one_on honest position mid new rebuilds in
    let rows : row_count mid.array.table ≡ row_count old.array.table = ap (λ (g : Geometry). rows_of g.chunk g.stripes) those.geometry in
    omega (arith, those.far, rows, step.further, step.within, some_rows mid.array.table.geometry.format)

-- a store that was open is open after them
open_after : (honest : Type 0) (made : ℕ) (old new : StoreView) → old.ended ≡ None → Steps honest made old new → new.ended ≡ None
open_after honest made old new going (none_made none same) = ap (λ (store : StoreView). store.ended) same ∙ going
open_after honest made old new going (then_made before position mid more steps rebuilds) =
    (rebuilds.going (open_after honest before old mid going steps)).goes (λ ends. ends)

-- what a step can be refused with
step_refused : (rebuilding last : Bool) (refusal : Refusal) (there : ℕ)
    → Refused refusal ≡ or_refused (first_refusal ((not rebuilding, NothingToRebuild) ∷ [])) (cond last (Progressed Complete) (Progressed (Position there)))
    → refusal ≡ NothingToRebuild
step_refused false last refusal there is = cc
step_refused true true refusal there is = absurd (cc)
step_refused true false refusal there is = absurd (cc)

through_refused : (honest : Type 0) (rows : ℕ) (refusal : Refusal) (old new : StoreView) → ¬ EndsIt refusal
    → GoesThrough honest (OnSet (RebuildStep rows)) old new (Refused refusal)
    → refusal ≡ NothingToRebuild
through_refused honest rows refusal old new goes through = let left = through.set_left goes in step_refused _ _ refusal _ left.left.replied

one_refused : (honest : Type 0) (rows : ℕ) (refusal : Refusal) (old new : StoreView) → old.ended ≡ None → RebuildsRows honest rows old new (Err refusal)
    → EndsIt refusal ⊎ (refusal ≡ NothingToRebuild)
one_refused honest rows TwoLost old new going rebuilds = inl tt
one_refused honest rows Worn old new going rebuilds = inl tt
one_refused honest rows refusal old new going rebuilds = inr (through_refused honest rows refusal old new (λ ends. ends) (rebuilds.going going))

pub rebuild_refused : (honest : Type 0) (steps : Option ℕ) (refusal : Refusal) (old new : StoreView) → old.ended ≡ None
    → Rebuilds honest steps old new (Err refusal)
    → EndsIt refusal ⊎ (refusal ≡ NothingToRebuild)
rebuild_refused honest steps refusal old new going rebuilds =
    one_refused honest (step_rows rebuilds.mid.array.table) refusal rebuilds.mid new
    (open_after honest rebuilds.before old rebuilds.mid going rebuilds.steps_before) rebuilds.last

-- ---- how a rebuild ends

-- at a step before the last one
pub ends_early : (honest other : Type 0) (steps : Option ℕ) (rows most before : ℕ) (old mid new : StoreView) (answer : Result Progress Refusal)
    → most ≡ unwrap_or steps rows
    → (other → honest) → before + 1 < most → Steps other before old mid → RebuildsRows honest (step_rows mid.array.table) mid new answer
    → ((position : ℕ) → answer ≢ Ok (Position position)) → Rebuilds other steps old new answer
ends_early honest other steps rows most before old mid new answer is so more those rebuilds ends = record {
  before = before;
  mid = mid;
  steps_before = those;
  last = applies_for honest other _ mid new _ so rebuilds;
  no_more = λ number given. omega (arith, more, is ∙ ap (λ (o : Option ℕ). unwrap_or o rows) given);
  all_made = λ position is. absurd (ends position is);
}

-- at the last one
pub ends_last : (honest other : Type 0) (steps : Option ℕ) (rows most before : ℕ) (old mid new : StoreView) (answer : Result Progress Refusal)
    → most ≡ unwrap_or steps rows
    → rows ≡ row_count old.array.table → (other → honest) → before + 1 ≡ max most 1 → Steps other before old mid
    → RebuildsRows honest (step_rows mid.array.table) mid new answer
    → Rebuilds other steps old new answer
ends_last honest other steps rows most before old mid new answer is all_rows so last those rebuilds = record {
  before = before;
  mid = mid;
  steps_before = those;
  last = applies_for honest other _ mid new _ so rebuilds;
  no_more = λ number given. omega (arith, last, is ∙ ap (λ (o : Option ℕ). unwrap_or o rows) given);
  all_made = λ position is_position. all_made position is_position steps refl;
}
  where
    all_made : (position : ℕ) → answer ≡ Ok (Position position) → (given : Option ℕ) → steps ≡ given → (number : ℕ) × (steps ≡ Some number)
        × (before + 1 ≡ max number 1)
    all_made position is_position (Some number) given =
        (number, given, last ∙ ap (λ (n : ℕ). max n 1) (is ∙ ap (λ (o : Option ℕ). unwrap_or o rows) given))
    all_made position is_position None none =
        let fewer = fewer_than_rows honest before position old mid new (steps_on other before old mid those)
        (subst (RebuildsRows honest (step_rows mid.array.table) mid new) is_position rebuilds) in
        absurd (omega (arith, fewer, last, all_rows, is ∙ ap (λ (o : Option ℕ). unwrap_or o rows) none))

-- a refusal is no position
pub none_refused : (refusal : Refusal) (position : ℕ) → Err refusal ≢ Ok (Position position)
none_refused refusal position is = cc

-- nor is what completed the rebuild
pub none_answered : (progress : answered.Progress) → progress ≡ answering.Complete → (position : ℕ) → answer_by (Ok progress) ≢ Ok (Position position)
none_answered progress complete position is =
    let never : answer_by (Ok answering.Complete) ≡ Ok (Position position) = ap (λ (p : answered.Progress). answer_by (Ok p)) (sym complete) ∙ is in cc
