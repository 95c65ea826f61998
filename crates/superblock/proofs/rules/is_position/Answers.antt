use borrow.Author.Count.{below_more}
use denote.Enum.Bare.{same_false}
use Rattle.std.proofs.Common.{◌≡◌, ◌≢◌, ℕ, ◌<◌, ◌≤◌, ◌∙◌, sym, subst, arith}
use Rattle.std.proofs.lemmas.Bool.{false≢true}
use Rattle.layout_map.specs.Placement.{rows_of}
use Rattle.superblock.specs.contracts.state.State.{the_type}
use Rattle.superblock.specs.declared.state.State.TheVariants.{Rebuilding}
use Rattle.superblock.specs.Tables.{state_at}
use Rattle.superblock.proofs.Judged.{rebuilding_is}
use Rattle.superblock.proofs.rules.is_position.Goals.{then-slot-geometry-via-then-slot-geometry, then-slot-geometry-via-else-slot-geometry+then-position-rows}
use Rattle.superblock.proofs.rules.is_position.Goals.{then-eq+else-slot-geometry+else-position-rows, else-eq}
use Rattle.superblock.proofs.rules.is_position.Goals as goal

past_below : {a b : ℕ} → a < b → b ≤ a → ⊥
past_below below past = omega arith

pub returns-then-slot-geometry : goal.returns-then-slot-geometry
returns-then-slot-geometry c = (
  λ no. absurd (false≢true no),
  λ is.
      let here : state_at c.args.states.now c.loop-slot.slot ≡ Rebuilding =
      rebuilding_is (state_at c.args.states.now c.loop-slot.slot) (sym c.eq.ensures ∙ c.if-eq.true) in
      elim c.then-slot-geometry.branch [
        | then-slot-geometry-via-then-slot-geometry w ↦ absurd (past_below (is.of_member c.loop-slot.slot here) w.if-slot-geometry.true)
        | then-slot-geometry-via-else-slot-geometry+then-position-rows w ↦
            absurd (past_below (is.below c.loop-slot.slot here) (subst (λ (rows : ℕ). rows ≤ c.args.position) w.rows.ensures w.if-position-rows.true))
      ],
)

pub loop-slot-preserved : goal.loop-slot-preserved
loop-slot-preserved c =
    let so_far = c.loop-slot.invariant in
    elim c.if-eq.branch [
      | then-eq+else-slot-geometry+else-position-rows w ↦
          let here : state_at c.args.states.now c.loop-slot.slot ≡ Rebuilding =
          rebuilding_is (state_at c.args.states.now c.loop-slot.slot) (sym c.eq.ensures ∙ w.if-eq.true) in
          record {
            none = λ off. absurd (false≢true (sym off ∙ w.is_rebuilding-is));
            some = λ on. (c.loop-slot.slot, here);
            of_member = below_more (λ (k : ℕ). state_at c.args.states.now k ≡ Rebuilding → k < c.args.geometry.now.members) c.loop-slot.slot so_far.of_member
                (λ is. w.if-slot-geometry.false);
            below = below_more (λ (k : ℕ). state_at c.args.states.now k ≡ Rebuilding
                → c.args.position < rows_of c.args.geometry.now.chunk c.args.geometry.now.stripes) c.loop-slot.slot so_far.below
                (λ is. subst (λ (rows : ℕ). c.args.position < rows) w.rows.ensures w.if-position-rows.false);
          }
      | else-eq w ↦
          let other : state_at c.args.states.now c.loop-slot.slot ≢ Rebuilding =
          same_false the_type (state_at c.args.states.now c.loop-slot.slot) Rebuilding (sym c.eq.ensures ∙ w.if-eq.false) in
          record {
            none = λ off. below_more (λ (k : ℕ). state_at c.args.states.now k ≢ Rebuilding) c.loop-slot.slot (so_far.none (sym w.is_rebuilding-is ∙ off)) other;
            some = λ on. so_far.some (sym w.is_rebuilding-is ∙ on);
            of_member = below_more (λ (k : ℕ). state_at c.args.states.now k ≡ Rebuilding → k < c.args.geometry.now.members) c.loop-slot.slot so_far.of_member
                (λ is. absurd (other is));
            below = below_more (λ (k : ℕ). state_at c.args.states.now k ≡ Rebuilding
                → c.args.position < rows_of c.args.geometry.now.chunk c.args.geometry.now.stripes) c.loop-slot.slot so_far.below (λ is. absurd (other is));
          }
    ]
