use Rattle.std.proofs.Common.{◌+◌, ◌<◌, length, refl, ◌∙◌, ap, arith}
use Rattle.std.specs.Prelude.{Err, Ok}
use Rattle.std.proofs.lemmas.Result.{err_from_is_err_and}
use Rattle.layout_map.proofs.Places.{rows_most}
use Rattle.sector_model.proofs.Panels.{later_both, later_same}
use Rattle.sector_model.proofs.Sequences.{made_none}
use Rattle.array_io.specs.Steps.PuttingSteps.{rows_held}
use Rattle.degraded.proofs.Members.{up_before}
use Rattle.array_io.proofs.Commits.PuttingRows.{row_skipped, row_wrote, rows_next}
use Rattle.array_io.proofs.member_rows.write_rows.Goals.{in-Some+in_ok-write_sector, in_default}
use Rattle.array_io.proofs.member_rows.write_rows.Goals as goal

pub returns-in_err-write_sector-clause-written : goal.returns-in_err-write_sector-clause-written
returns-in_err-write_sector-clause-written g c = λ honest.
    let table = c.args.table.now in
    let of = rows_held c.args.entry.now in
    let i = c.loop-i.i in
    let member = c.args.member in
    let within : i < length of.rows = omega (arith, c.loop-i-test.true, c.len-i-end.ensures) in
    let now = c.loop-i.invariant.honest honest in
    let still = c.write_sector.ensures.honest.0 now in
    let p = err_from_is_err_and c.from_residual.result c.from_residual.ensures.1 in
    let is = p.1 ∙ ap (λ s. Err s) p.2 in
    rw is record {
      count = i + 1;
      most = omega (arith, within);
      made = rows_next table of member i (c.loop-i.invariant.made honest)
          (row_wrote table of member i (g.B.Bank.panel c.write_sector.new.bank) (Err c.in_err-write_sector.field-0.0) c.row-row.result _ c.row-row.ensures
          c.in-Some.ensures.some.1
          (c.in_err-write_sector.ensures.history now) (λ ok. absurd (cc)) (g.met.B.Bank.true_to _ still) c.in-Some.ensures.some.0);
      all = λ ok. absurd (cc);
    }

pub loop-i-preserved : goal.loop-i-preserved
loop-i-preserved g c = elim c.match-sector_to_put.branch [
  | in-Some+in_ok-write_sector w ↦
      let table = c.args.table.now in
      let of = rows_held c.args.entry.now in
      let i = c.loop-i.i in
      let within : i < length of.rows = omega (arith, c.loop-i-test.true, c.len-i-end.ensures) in
      rw w.bank-is record {
        most = omega (arith, within);
        panel = later_both _ _ _ c.loop-i.invariant.panel w.write_sector.ensures.panel;
        honest = λ honest. w.write_sector.ensures.honest.0 (c.loop-i.invariant.honest honest);
        still = λ honest. c.loop-i.invariant.still (w.write_sector.ensures.honest.1 honest);
        made = λ honest.
            let now = c.loop-i.invariant.honest honest in
            let still = w.write_sector.ensures.honest.0 now in
            rows_next table of c.args.member i (c.loop-i.invariant.made honest)
            (row_wrote table of c.args.member i (g.B.Bank.panel w.write_sector.new.bank) (Ok tt) c.row-row.result _ c.row-row.ensures w.in-Some.ensures.some.1
            (w.in_ok-write_sector.ensures.history now) (λ ok. w.in_ok-write_sector.ensures.up) (g.met.B.Bank.true_to _ still) w.in-Some.ensures.some.0);
      }
  | in_default w ↦
      let of = rows_held c.args.entry.now in
      let within : c.loop-i.i < length of.rows = omega (arith, c.loop-i-test.true, c.len-i-end.ensures) in
      rw w.bank-is record {
        most = omega (arith, within);
        panel = c.loop-i.invariant.panel;
        honest = c.loop-i.invariant.honest;
        still = c.loop-i.invariant.still;
        made = λ honest. rows_next c.args.table.now of c.args.member c.loop-i.i (c.loop-i.invariant.made honest)
            (row_skipped c.args.table.now of c.args.member c.loop-i.i (g.B.Bank.history c.loop-i.bank) (w.in_default.ensures.none refl));
      }
]

pub returns-clause-panel : goal.returns-clause-panel
returns-clause-panel g c = c.loop-i.invariant.panel

pub returns-clause-honest : goal.returns-clause-honest
returns-clause-honest g c = (c.loop-i.invariant.honest, c.loop-i.invariant.still)

pub returns-in_err-write_sector-clause-panel : goal.returns-in_err-write_sector-clause-panel
returns-in_err-write_sector-clause-panel g c = later_both _ _ _ c.loop-i.invariant.panel c.write_sector.ensures.panel

pub returns-in_err-write_sector-clause-honest : goal.returns-in_err-write_sector-clause-honest
returns-in_err-write_sector-clause-honest g c =
    (λ honest. c.write_sector.ensures.honest.0 (c.loop-i.invariant.honest honest), λ honest. c.loop-i.invariant.still (c.write_sector.ensures.honest.1 honest))

pub loop-i-init : goal.loop-i-init
loop-i-init g c = record {
  most = omega arith;
  panel = later_same _;
  honest = λ honest. honest;
  still = λ honest. honest;
  made = λ honest. made_none _;
}

pub row-row-requires : goal.row-row-requires
row-row-requires g c = omega (arith, c.loop-i-test.true, c.len-i-end.ensures)

pub write_sector-requires-clause-device : goal.write_sector-requires-clause-device
write_sector-requires-clause-device g c = omega (arith, c.loop-i.invariant.panel.devices, c.requires.can.of_bank, c.requires.on.of_members)

pub write_sector-requires-clause-within : goal.write_sector-requires-clause-within
write_sector-requires-clause-within g c = λ up.
    let fit = c.requires.can.fit c.args.member c.requires.on.of_members c.requires.on.there (up_before c.args.member c.loop-i.invariant.panel up) in
    let below = c.requires.can.below c.loop-i.i (omega (arith, c.loop-i-test.true, c.len-i-end.ensures)) in
    omega (arith, fit, below, c.loop-i.invariant.panel.sectors c.args.member, c.row-row.ensures)

pub returns-in_err-write_sector-clause-err : goal.returns-in_err-write_sector-clause-err
returns-in_err-write_sector-clause-err g c =
    let p = err_from_is_err_and c.from_residual.result c.from_residual.ensures.1 in
    rw (p.1, p.2) c.in_err-write_sector.ensures.err

pub returns-clause-written : goal.returns-clause-written
returns-clause-written g c = λ honest. record {
  count = c.loop-i.i;
  most = c.loop-i.invariant.most;
  made = c.loop-i.invariant.made honest;
  all = λ ok. omega (arith, c.loop-i.invariant.most, c.loop-i-test.false, c.len-i-end.ensures);
}

pub returns-clause-err : goal.returns-clause-err
returns-clause-err g c = tt

pub overflow_add-row : goal.overflow_add-row
overflow_add-row g c =
    let below = c.requires.can.below c.loop-i.i (omega (arith, c.loop-i-test.true, c.len-i-end.ensures)) in
    omega (arith, below, c.row-row.ensures, rows_most c.args.table.now.geometry.limits)

pub sector_to_put-requires-clause-place : goal.sector_to_put-requires-clause-place
sector_to_put-requires-clause-place g c = omega (arith, c.loop-i-test.true, c.len-i-end.ensures)

pub sector_to_put-requires-clause-member : goal.sector_to_put-requires-clause-member
sector_to_put-requires-clause-member g c = c.requires.on.of_members
