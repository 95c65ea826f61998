use Rattle.std.proofs.Common.{◌≡◌, ◌≢◌, ℕ, sym, ◌∙◌, arith}
use Rattle.std.proofs.lemmas.Bool.{false≢true}
use Rattle.superblock.specs.declared.state.State.TheVariants.{InSync}
use Rattle.superblock.specs.Tables.{state_at}
use Rattle.array_io.proofs.Calls.Trusting.{is_in_sync, not_in_sync, one_more}
use Rattle.array_io.proofs.array.mark.is_other_out.Goals.{else-other-slot-via-then-other-slot+else-ne, else-other-slot-via-else-other-slot}
use Rattle.array_io.proofs.array.mark.is_other_out.Goals as goal

pub loop-other-preserved : goal.loop-other-preserved
loop-other-preserved c =
    one_more (λ (k : ℕ). k ≢ c.args.slot) (λ (k : ℕ). state_at c.args.table.now.states k ≡ InSync) c.loop-other.other c.loop-other.invariant
    (λ apart. elim c.else-other-slot.branch [
      | else-other-slot-via-then-other-slot+else-ne w ↦ is_in_sync (state_at c.args.table.now.states c.loop-other.other) (sym w.ne.ensures ∙ w.if-ne.false)
      | else-other-slot-via-else-other-slot w ↦ absurd (apart w.if-other-slot.false)
    ])

pub loop-other-init : goal.loop-other-init
loop-other-init c = λ k below apart. absurd (omega (arith, below))

pub bounds-table-other : goal.bounds-table-other
bounds-table-other c = omega (arith, c.loop-other-test.true, c.args.table.now.geometry.limits.members_most)

pub returns-then-ne-clause-out : goal.returns-then-ne-clause-out
returns-then-ne-clause-out c = λ _. record {
  other = c.loop-other.other;
  out = record {
    of_set = omega (arith, c.loop-other-test.true);
    out = not_in_sync (state_at c.args.table.now.states c.loop-other.other) (sym c.ne.ensures ∙ c.if-ne.true);
  };
  apart = c.if-other-slot.true;
}

pub returns-then-ne-clause-in_sync : goal.returns-then-ne-clause-in_sync
returns-then-ne-clause-in_sync c = λ none. absurd (false≢true (sym none))

pub returns-clause-out : goal.returns-clause-out
returns-clause-out c = λ some. absurd (false≢true some)

pub returns-clause-in_sync : goal.returns-clause-in_sync
returns-clause-in_sync c = λ _ other of_set apart. c.loop-other.invariant other (omega (arith, c.loop-other-test.false, of_set)) apart
