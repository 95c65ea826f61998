use Rattle.std.proofs.Common.{◌≡◌, ◌≢◌, inl, inr, Err, refl, sym, ◌∙◌, ap, arith}
use Rattle.superblock.specs.declared.state.State.TheVariants.{Missing}
use Rattle.superblock.specs.Tables.{state_at}
use Rattle.array_io.specs.Steps.MarkingOn.{answer_of}
use Rattle.array_io.proofs.Marks.MarkMissing.{can_publish}
use Rattle.array_io.proofs.Calls.Trusting.{is_missing, not_missing}
use Rattle.array_io.proofs.array.mark.mark_slot.Goals as goal

pub returns-in-Ok-clause-marks : goal.returns-in-Ok-clause-marks
returns-in-Ok-clause-marks g c =
    let counted : state_at c.args.table.now.states c.args.slot ≢ Missing =
    not_missing (state_at c.args.table.now.states c.args.slot) (sym c.eq.ensures ∙ c.if-eq.false) in
    inr record {
      counted = counted;
      others = c.if-is_other_out.ensures.in_sync refl;
      marked = c.without.ensures;
      result = c.publish.result;
      publishes = c.publish.ensures.publishes;
      answered = sym (ap answer_of c.in-Ok.is);
    }

pub returns-in-Err-Down-clause-marks : goal.returns-in-Err-Down-clause-marks
returns-in-Err-Down-clause-marks g c =
    let counted : state_at c.args.table.now.states c.args.slot ≢ Missing =
    not_missing (state_at c.args.table.now.states c.args.slot) (sym c.eq.ensures ∙ c.if-eq.false) in
    inr record {
      counted = counted;
      others = c.if-is_other_out.ensures.in_sync refl;
      marked = c.without.ensures;
      result = c.publish.result;
      publishes = c.publish.ensures.publishes;
      answered = sym (ap answer_of (c.in-Err-Down.is ∙ ap Err c.in-Err-Down.field-0-is));
    }

pub returns-in-Err-Worn-clause-marks : goal.returns-in-Err-Worn-clause-marks
returns-in-Err-Worn-clause-marks g c =
    let counted : state_at c.args.table.now.states c.args.slot ≢ Missing =
    not_missing (state_at c.args.table.now.states c.args.slot) (sym c.eq.ensures ∙ c.if-eq.false) in
    inr record {
      counted = counted;
      others = c.if-is_other_out.ensures.in_sync refl;
      marked = c.without.ensures;
      result = c.publish.result;
      publishes = c.publish.ensures.publishes;
      answered = sym (ap answer_of (c.in-Err-Worn.is ∙ ap Err c.in-Err-Worn.field-0-is));
    }

pub returns-then-eq-clause-marks : goal.returns-then-eq-clause-marks
returns-then-eq-clause-marks g c =
    let missing : state_at c.args.table.now.states c.args.slot ≡ Missing =
    is_missing (state_at c.args.table.now.states c.args.slot) (sym c.eq.ensures ∙ c.if-eq.true) in
    inl record { same_panel = refl; same_table = refl; same_history = refl; why = inl (missing, refl) }

pub returns-then-table-ge-GREATEST_COUNT-clause-marks : goal.returns-then-table-ge-GREATEST_COUNT-clause-marks
returns-then-table-ge-GREATEST_COUNT-clause-marks g c =
    let counted : state_at c.args.table.now.states c.args.slot ≢ Missing =
    not_missing (state_at c.args.table.now.states c.args.slot) (sym c.eq.ensures ∙ c.if-eq.false) in
    inl record {
      same_panel = refl;
      same_table = refl;
      same_history = refl;
      why =
          inr (inr (counted, c.if-table-ge-GREATEST_COUNT.true, c.if-is_other_out.ensures.in_sync refl, refl));
    }

pub returns-then-eq-clause-honest : goal.returns-then-eq-clause-honest
returns-then-eq-clause-honest g c = (λ honest. honest, λ honest. honest)

pub returns-then-is_other_out-clause-honest : goal.returns-then-is_other_out-clause-honest
returns-then-is_other_out-clause-honest g c = (λ honest. honest, λ honest. honest)

pub returns-then-table-ge-GREATEST_COUNT-clause-honest : goal.returns-then-table-ge-GREATEST_COUNT-clause-honest
returns-then-table-ge-GREATEST_COUNT-clause-honest g c = (λ honest. honest, λ honest. honest)

pub bounds-table-slot : goal.bounds-table-slot
bounds-table-slot g c = omega (arith, c.requires.of_set, c.args.table.now.geometry.limits.members_most)

pub returns-then-is_other_out-clause-marks : goal.returns-then-is_other_out-clause-marks
returns-then-is_other_out-clause-marks g c =
    let counted : state_at c.args.table.now.states c.args.slot ≢ Missing =
    not_missing (state_at c.args.table.now.states c.args.slot) (sym c.eq.ensures ∙ c.if-eq.false) in
    let out = c.if-is_other_out.ensures.out refl in
    inl record { same_panel = refl; same_table = refl; same_history = refl; why = inr (inl (counted, out, refl)) }

pub without-requires-clause-of_set : goal.without-requires-clause-of_set
without-requires-clause-of_set g c = c.requires.of_set

pub without-requires-clause-generation : goal.without-requires-clause-generation
without-requires-clause-generation g c = c.if-table-ge-GREATEST_COUNT.false

pub without-requires-clause-others : goal.without-requires-clause-others
without-requires-clause-others g c =
    c.if-is_other_out.ensures.in_sync refl

pub publish-requires : goal.publish-requires
publish-requires g c = can_publish (g.B.Bank.panel c.args.bank.now) c.args.table.now c.without.result c.args.slot c.requires.of_set c.without.ensures
    c.requires.others

pub returns-in-Ok-clause-honest : goal.returns-in-Ok-clause-honest
returns-in-Ok-clause-honest g c = c.publish.ensures.honest

pub returns-in-Err-Down-clause-honest : goal.returns-in-Err-Down-clause-honest
returns-in-Err-Down-clause-honest g c = c.publish.ensures.honest

pub returns-in-Err-Worn-clause-honest : goal.returns-in-Err-Worn-clause-honest
returns-in-Err-Worn-clause-honest g c = c.publish.ensures.honest
