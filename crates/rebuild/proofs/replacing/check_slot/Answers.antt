use denote.Enum.Bare.{sameb}
use Rattle.std.proofs.Common.{◌≡◌, ◌∙◌, inl, inr, Bool, true, false, refl, sym, arith}
use Rattle.std.specs.Prelude.{not}
use Rattle.superblock.specs.contracts.state.State.{the_type}
use Rattle.superblock.specs.declared.state.State.{State}
use Rattle.superblock.specs.declared.state.State.TheVariants.{Missing}
use Rattle.superblock.specs.Tables.{state_at}
use Rattle.array_io.proofs.Calls.Trusting.{is_missing, unlike}
use Rattle.rebuild.proofs.replacing.check_slot.Goals.{then-slot-table-via-then-slot-table, then-slot-table-via-else-slot-table+then-ne}
use Rattle.rebuild.proofs.replacing.check_slot.Goals as goal

pub is_down-requires : goal.is_down-requires
is_down-requires g c = omega (arith, c.if-slot-table.false, c.requires.of_bank)

pub sectors-requires : goal.sectors-requires
sectors-requires g c = omega (arith, c.if-slot-table.false, c.requires.of_bank)

pub returns-then-slot-table-clause-why : goal.returns-then-slot-table-clause-why
returns-then-slot-table-clause-why g c = inl (
  refl,
  elim c.then-slot-table.branch [
    | then-slot-table-via-then-slot-table w ↦ inl w.if-slot-table.true
    | then-slot-table-via-else-slot-table+then-ne w ↦ inr (λ same.
        unlike (λ (s : State). not (sameb the_type s Missing)) Missing _ refl (sym w.ne.ensures ∙ w.if-ne.true) (sym same))
  ],
)

is_not : (b : Bool) → not b ≡ false → b ≡ true
is_not true is = refl
is_not false is = absurd (cc)

pub returns-clause-may : goal.returns-clause-may
returns-clause-may g c =
    let table = c.args.table.now in
    record {
      of_set = c.if-slot-table.false;
      missing = is_missing (state_at table.states c.args.slot) (is_not (sameb the_type (state_at table.states c.args.slot) Missing)
          (sym c.ne.ensures ∙ c.if-ne.false));
      up = sym c.if-is_down.ensures;
      fits = omega (arith, c.if-sectors-least_of.false, c.least_of.ensures.least, c.sectors.ensures);
      generation = omega (arith, c.if-table-ge-GREATEST_COUNT.false);
      incarnation = omega (arith, c.if-table-slot-ge-GREATEST_COUNT.false);
    }
