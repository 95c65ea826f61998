-- The device that was to get its table last failed, once the others had it: its slot is marked missing, every case keeps holding, and the array is settled by
-- the table in which the slot is missing.
use Rattle.std.proofs.Common.{◌≡◌, ◌≢◌, inl, inr, ℕ, ◌<◌, true, List, [], ◌∷◌, Some, Result, Ok, Err, sym, ◌∙◌, ap, arith}
use Rattle.layout_map.specs.declared.geometry.Geometry.{Geometry}
use Rattle.sector_model.specs.declared.sector.Stop.{Stop}
use Rattle.sector_model.specs.declared.sector.Stop.TheVariants.{Down}
use Rattle.sector_model.specs.Bank.{Panel}
use Rattle.sector_model.specs.History.{Bytes, History, is_down, sector_of, seen}
use Rattle.sector_model.specs.Readable.{readable}
use Rattle.sector_model.proofs.Readable.{readable_left}
use Rattle.sector_model.proofs.Steps.{throughout_on, up_seen}
use Rattle.layout_map.specs.declared.sizes.TheConstants.{SUPERBLOCK_PLACES}
use Rattle.superblock.specs.declared.state.State.{State}
use Rattle.superblock.specs.declared.state.State.TheVariants.{Missing}
use Rattle.superblock.specs.declared.table.Table.{Table}
use Rattle.superblock.specs.Cases.{Lost}
use Rattle.superblock.specs.Losses.{IsSingleFailure}
use Rattle.superblock.specs.NextTables.{IsMarked, slots_of}
use Rattle.superblock.specs.Publishing.{Publishes, place_of}
use Rattle.superblock.specs.SlotSteps.{IsStepAt}
use Rattle.superblock.specs.Tables.{state_at}
use Rattle.array_io.specs.Believed.ArrayCalls.{Answer}
use Rattle.array_io.specs.Steps.EntryAtRest.{HasEntryAtRest}
use Rattle.array_io.specs.Steps.MarkingOn.{MarksOn}
use Rattle.array_io.specs.Believed.Moments.{HoldsThroughout}
use Rattle.array_io.specs.Believed.Settled.{trusts}
use Rattle.array_io.specs.Steps.Writing.{HasFailedOnce, WritesFrom}
use Rattle.array_io.proofs.Rest.AtRest.{Rests}
use Rattle.array_io.proofs.Rest.AtRestImages.{LeavesSectors, whole_left}
use Rattle.array_io.proofs.Rest.AtRestRows.{trusts_tells}
use Rattle.array_io.proofs.Laws.Beginning.{live_is_up}
use Rattle.array_io.proofs.Commits.EntryCarried.{CountsOnNoMore, ReadsTheSame, entry_carried}
use Rattle.array_io.proofs.Marks.FailedMarked.{MarkedOn, failed_is_single_failure, failed_marked, single_failure_stays}
use Rattle.array_io.proofs.Laws.Fresh.{in_sync_not_missing}
use Rattle.array_io.proofs.Marks.MarkingHolds.{missing_then}
use Rattle.array_io.proofs.Rest.SettledAgain.{settled_again}
use Rattle.array_io.proofs.Rest.SettledEntry.{entry_of_settled}
use Rattle.array_io.proofs.Images.Spellings.{Spellings}
use Rattle.array_io.proofs.Tables.StepEnds.{last, takes_failed, takes_throughout, was_up}
use Rattle.array_io.proofs.Tables.StepHolds.{step_slots}
use Rattle.array_io.proofs.Tables.StepRest.{TakesFrom}

-- A table that differs in one slot, and then has it missing, counts on no more than the first.
pub step_counts_no_more : (table next missing : Table) (slot : ℕ) → IsStepAt table next slot → IsMarked next slot missing → CountsOnNoMore table missing
step_counts_no_more table next missing slot step marked = record {
  same_id = marked.same_id ∙ step.same_id;
  same_geometry = marked.same_geometry ∙ step.same_geometry;
  counts = λ other counted. record {
    of_set = of_table other counted.of_set;
    there = λ gone. in_sync_not_missing (sym (step.others_in_sync other (of_table other counted.of_set) (apart other counted.there)) ∙ gone);
  };
  trusts_it = λ row member within trusted.
      let there = ((trusts_tells (state_at missing.states member) row missing.position).0 trusted).there in
      ap (λ (s : State). trusts s row table.position) (step.others_in_sync member (of_table member (omega (arith, within))) (apart member there));
}
  where
    of_table : (other : ℕ) → other < slots_of missing → other < slots_of table
    of_table other below = omega (arith, below, ap (λ (g : Geometry). g.members) (marked.same_geometry ∙ step.same_geometry))

    apart : (other : ℕ) → state_at missing.states other ≢ Missing → other ≢ slot
    apart other there same = there (ap (λ (k : ℕ). state_at missing.states k) same
        ∙ missing_then next missing slot marked (omega (arith, step.of_set, ap (λ (g : Geometry). g.members) step.same_geometry)))

module _ (spellings : Spellings) (honest : Type 0) (devices number : ℕ) (table next missing : Table) (slot : ℕ) (one : Lost) (V : List Bytes)
    (old_panel new_panel final_panel : Panel)
    (mid new final : History) (result : Result (Unit {0}) Stop) (answer : Answer)
    (published : Publishes honest next (Some slot) old_panel new_panel mid new result)
    (from : TakesFrom devices number table next slot one V published.sectors mid) (is_honest : honest)
    (failed : result ≡ Err (Down slot)) (down : is_down new slot ≡ true) (marks : MarksOn honest slot new_panel final_panel next missing new final answer) where
  failure : HasFailedOnce devices table next (Some one) (V ∷ []) slot new
  failure = takes_failed spellings honest devices number table next slot one V old_panel new_panel mid new result published from is_honest failed down

  marked_then : HoldsThroughout table devices (Some one) (V ∷ []) new final
      × (answer ≡ Ok tt → MarkedOn devices table next missing (Some one) (V ∷ []) slot new final)
  marked_then = failed_marked spellings honest devices table next missing (Some one) (V ∷ []) slot new_panel final_panel new final answer failure is_honest
      marks

  -- at each moment all cases hold
  pub left_throughout : HoldsThroughout table devices (Some one) (V ∷ []) mid final
  left_throughout = throughout_on new (takes_throughout spellings honest devices number table next slot one V old_panel new_panel mid new result published from
      is_honest) final marked_then.0

  module _ (ok : answer ≡ Ok tt) (leaves : LeavesSectors final) where
    marked : MarkedOn devices table next missing (Some one) (V ∷ []) slot new final
    marked = marked_then.1 ok

    pub left_down : (device : ℕ) → is_down final device ≡ is_down new device
    left_down = marked.down

    single_failure : IsSingleFailure (slots_of table) (Some one) final
    single_failure = single_failure_stays (slots_of table) (Some one) new final marked.down
        (failed_is_single_failure spellings devices table next (Some one) (V ∷ []) slot new failure (step_slots table next slot from.steps.step)
        marked.others_in_sync from.own)

    writes : WritesFrom devices table missing (Some one) (V ∷ []) final
    writes = marked.from single_failure

    -- after its superblocks each slot that counts has what it had
    reads_same : ReadsTheSame missing mid final
    reads_same = record {
      beyond = λ other at counted beyond.
          let up = live_is_up spellings devices missing final other (writes.there other counted.of_set counted.there) in
          let up_then = sym (marked.down other) ∙ up in
          marked.beyond other at up beyond ∙ elim ((last spellings honest devices number table next slot one V old_panel new_panel mid new result published from
          is_honest).holds
          other at (sector_of (seen new other) at) (up_seen new other at up_then)) [
            | inl before ↦
                let up_first = was_up spellings honest devices number table next slot one V old_panel new_panel mid new result published from is_honest other
                up_then in
                from.settled.nothing_pending other at (sector_of (seen new other) at) (sector_of (seen mid other) at) up_first before
                (up_seen mid other at up_first)
            | inr is_new ↦ let low : place_of next < SUPERBLOCK_PLACES = omega arith in absurd (omega (arith, beyond, is_new.in_place, low))
          ];
    }

    entry : HasEntryAtRest devices missing number (readable final)
    entry = entry_carried spellings devices table table missing (Some one) (V ∷ []) number mid final
        (entry_of_settled spellings devices table number mid (Some one) V from.settled from.leaves) from.settled.there
        (step_counts_no_more table next missing slot from.steps.step marked.marked) writes single_failure reads_same
        (whole_left final (readable final) leaves (readable_left final))

    -- the array is settled without the slot
    pub left_rests : Rests table missing devices number (Some one) (V ∷ []) final
    left_rests = settled_again spellings devices table missing (Some one) (V ∷ []) final writes number entry single_failure leaves (λ complete.
        absurd (in_sync_not_missing (sym (complete.in_sync slot of_set) ∙ missing_then next missing slot marked.marked of_next)))
      where
        of_next : slot < slots_of next
        of_next = omega (arith, from.steps.step.of_set, step_slots table next slot from.steps.step)

        of_set : slot < slots_of missing
        of_set = omega (arith, of_next, ap (λ (g : Geometry). g.members) marked.marked.same_geometry)
