use Rattle.std.proofs.Common.{◌≡◌, ◌+◌, Bool, false, Ok, Err, Result, ◌∙◌, ap, subst, refl, arith}
use Rattle.std.proofs.lemmas.Result.{err_from_is_err_and}
use Rattle.sector_model.specs.declared.refusal.Refusal.{Refusal}
use Rattle.superblock.specs.declared.table.Table.{Table}
use Rattle.rebuild.specs.RowSteps.{FillsOrFailsSlot, FillsRows}
use Rattle.rebuild.proofs.RowsFilled.{fills_next, fills_none, then_row, was_done}
use Rattle.rebuild.proofs.rows.fill_rows.Goals as goal

pub loop-row-init : goal.loop-row-init
loop-row-init g c = record {
  least = omega arith;
  same = refl;
  honest = λ fair. fair;
  still = λ fair. fair;
  fills = fills_none (g.B.Bank.honest c.args.bank.now) c.args.table.now c.args.member c.args.from
      (g.B.Bank.panel c.args.bank.now) (g.B.Bank.history c.args.bank.now);
}

pub returns-in_err-fill_row-clause-fills : goal.returns-in_err-fill_row-clause-fills
returns-in_err-fill_row-clause-fills g c =
    let p = err_from_is_err_and c.from_residual.result c.from_residual.ensures.1 in
    rw (p.1, p.2) (then_row (FillsRows (g.B.Bank.honest c.args.bank.now) c.args.table.now c.args.member c.args.from
    c.args.end (g.B.Bank.panel c.args.bank.now) (g.B.Bank.panel c.fill_row.new.bank)
    (g.B.Bank.history c.args.bank.now) (g.B.Bank.history c.fill_row.new.bank))
    (g.B.Bank.honest c.args.bank.now) (g.B.Bank.honest c.loop-row.bank) c.loop-row.invariant.honest c.args.table.now
    c.fill_row.new.table c.args.member c.args.from c.loop-row.row
    (g.B.Bank.panel c.args.bank.now) (g.B.Bank.panel c.loop-row.bank) (g.B.Bank.panel c.fill_row.new.bank)
    (g.B.Bank.history c.args.bank.now) (g.B.Bank.history c.loop-row.bank) (g.B.Bank.history c.fill_row.new.bank)
    (Err c.in_err-fill_row.field-0.0) c.loop-row.invariant.fills (λ is. cc) (c.loop-row.row + 1)
    (subst (λ (t : Table). FillsOrFailsSlot (g.B.Bank.honest c.loop-row.bank) t c.fill_row.new.table c.args.member
    c.loop-row.row (c.loop-row.row + 1) (g.B.Bank.panel c.loop-row.bank)
    (g.B.Bank.panel c.fill_row.new.bank) (g.B.Bank.history c.loop-row.bank) (g.B.Bank.history c.fill_row.new.bank)
    (Err c.in_err-fill_row.field-0.0)) c.loop-row.invariant.same c.in_err-fill_row.ensures.fills))

pub returns-then-not-branch-clause-fills : goal.returns-then-not-branch-clause-fills
returns-then-not-branch-clause-fills g c =
    let ended : c.fill_row.result ≡ Ok false = c.in_ok-fill_row.was ∙ ap Ok c.if-not-branch.true in
    then_row (FillsRows (g.B.Bank.honest c.args.bank.now) c.args.table.now c.args.member c.args.from c.args.end
    (g.B.Bank.panel c.args.bank.now) (g.B.Bank.panel c.fill_row.new.bank)
    (g.B.Bank.history c.args.bank.now) (g.B.Bank.history c.fill_row.new.bank))
    (g.B.Bank.honest c.args.bank.now) (g.B.Bank.honest c.loop-row.bank) c.loop-row.invariant.honest c.args.table.now
    c.fill_row.new.table c.args.member c.args.from c.loop-row.row
    (g.B.Bank.panel c.args.bank.now) (g.B.Bank.panel c.loop-row.bank) (g.B.Bank.panel c.fill_row.new.bank)
    (g.B.Bank.history c.args.bank.now) (g.B.Bank.history c.loop-row.bank) (g.B.Bank.history c.fill_row.new.bank)
    (Ok false) c.loop-row.invariant.fills (λ is. cc) (c.loop-row.row + 1)
    (subst (λ (r : Result Bool Refusal). FillsOrFailsSlot (g.B.Bank.honest c.loop-row.bank) c.args.table.now
    c.fill_row.new.table c.args.member c.loop-row.row (c.loop-row.row + 1) (g.B.Bank.panel c.loop-row.bank)
    (g.B.Bank.panel c.fill_row.new.bank) (g.B.Bank.history c.loop-row.bank) (g.B.Bank.history c.fill_row.new.bank) r)
    ended
    (subst (λ (t : Table). FillsOrFailsSlot (g.B.Bank.honest c.loop-row.bank) t c.fill_row.new.table c.args.member
    c.loop-row.row (c.loop-row.row + 1) (g.B.Bank.panel c.loop-row.bank)
    (g.B.Bank.panel c.fill_row.new.bank) (g.B.Bank.history c.loop-row.bank)
    (g.B.Bank.history c.fill_row.new.bank) c.fill_row.result) c.loop-row.invariant.same c.fill_row.ensures.fills))

pub loop-row-preserved : goal.loop-row-preserved
loop-row-preserved g c =
    let done = was_done (FillsRows (g.B.Bank.honest c.loop-row.bank) c.loop-row.table c.args.member c.loop-row.row
    (c.loop-row.row + 1) (g.B.Bank.panel c.loop-row.bank)
    (g.B.Bank.panel c.fill_row.new.bank) (g.B.Bank.history c.loop-row.bank) (g.B.Bank.history c.fill_row.new.bank))
    (g.B.Bank.honest c.loop-row.bank) c.loop-row.table c.fill_row.new.table c.args.member
    (g.B.Bank.panel c.loop-row.bank) (g.B.Bank.panel c.fill_row.new.bank) (g.B.Bank.history c.loop-row.bank)
    (g.B.Bank.history c.fill_row.new.bank) c.fill_row.result c.fill_row.ensures.fills
    (c.in_ok-fill_row.was ∙ ap Ok c.if-not-branch.false) in
    record {
      least = omega (arith, c.loop-row.invariant.least);
      same = done.0 ∙ c.loop-row.invariant.same;
      honest = λ fair. c.fill_row.ensures.honest.0 (c.loop-row.invariant.honest fair);
      still = λ fair. c.loop-row.invariant.still (c.fill_row.ensures.honest.1 fair);
      fills = fills_next (g.B.Bank.honest c.args.bank.now) (g.B.Bank.honest c.loop-row.bank) c.loop-row.invariant.honest
          c.args.table.now c.args.member c.args.from
          (g.B.Bank.panel c.args.bank.now) (g.B.Bank.panel c.loop-row.bank) (g.B.Bank.panel c.fill_row.new.bank)
          (g.B.Bank.history c.args.bank.now) (g.B.Bank.history c.loop-row.bank)
          (g.B.Bank.history c.fill_row.new.bank) c.loop-row.row
          c.requires.can.of_members c.requires.can.rebuilding c.requires.can.least c.loop-row.invariant.least
          c.loop-row.invariant.fills
          (subst (λ (t : Table). FillsRows (g.B.Bank.honest c.loop-row.bank) t c.args.member c.loop-row.row
          (c.loop-row.row + 1) (g.B.Bank.panel c.loop-row.bank)
          (g.B.Bank.panel c.fill_row.new.bank) (g.B.Bank.history c.loop-row.bank)
          (g.B.Bank.history c.fill_row.new.bank)) c.loop-row.invariant.same done.1);
    }
