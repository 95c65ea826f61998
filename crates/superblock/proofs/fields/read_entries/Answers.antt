use Rattle.std.proofs.Common.{◌≡◌, ℕ, ap, ◌∙◌, Some, arith}
use Rattle.std.proofs.lemmas.List.{length-set}
use Rattle.superblock.specs.declared.state.State.{State}
use Rattle.superblock.specs.declared.state.State.TheVariants.{Missing}
use Rattle.superblock.specs.Tables.{state_at, incarnation_at}
use Rattle.superblock.proofs.Found.{same_found}
use Rattle.superblock.proofs.Spelled.{states_are, incarnations_are, one_more}
use Rattle.superblock.proofs.fields.read_entries.Goals as goal

pub loop-slot-preserved : goal.loop-slot-preserved
loop-slot-preserved c =
    let so_far = c.loop-slot.invariant in
    let slot = c.loop-slot.slot in
    record {
      ten_states = length-set c.loop-slot.states slot c.in_ok-state.state ∙ so_far.ten_states;
      ten_incarnations = length-set c.loop-slot.incarnations slot c.in_ok-state.incarnation ∙ so_far.ten_incarnations;
      states = λ s same k below.
          let read = same_found c.read_entry.result (c.in_ok-state.state, c.in_ok-state.incarnation)
          (state_at s.table.states slot, incarnation_at s.table.incarnations slot) c.in_ok-state.was (c.read_entry.ensures s same) in
          one_more c.loop-slot.states s.table.states slot c.in_ok-state.state Missing (omega arith) (ap (λ (p : State × ℕ). p.0) read) (so_far.states s same) k
          below;
      incarnations = λ s same k below.
          let read = same_found c.read_entry.result (c.in_ok-state.state, c.in_ok-state.incarnation)
          (state_at s.table.states slot, incarnation_at s.table.incarnations slot) c.in_ok-state.was (c.read_entry.ensures s same) in
          one_more c.loop-slot.incarnations s.table.incarnations slot c.in_ok-state.incarnation 0 (omega arith) (ap (λ (p : State × ℕ). p.1) read)
          (so_far.incarnations s same) k below;
    }

pub returns : goal.returns
returns c = λ s same.
    let read = c.loop-slot.invariant in
    let states : c.loop-slot.states ≡ s.table.states = states_are s _ read.ten_states (λ k below. read.states s same k (omega arith)) in
    let incarnations : c.loop-slot.incarnations ≡ s.table.incarnations =
    incarnations_are s _ read.ten_incarnations (λ k below. read.incarnations s same k (omega arith)) in
    ap Some (λ i. (states i, incarnations i))
