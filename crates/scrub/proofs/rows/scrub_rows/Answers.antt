use Rattle.std.proofs.Common.{◌≡◌, ◌∙◌, ℕ, ◌+◌, false, ap, refl, sym, subst, arith}
use Rattle.std.specs.Prelude.{Ok, Err}
use Rattle.std.proofs.lemmas.Result.{err_from_is_err_and}
use Rattle.sector_model.specs.History.{Slots}
use Rattle.sector_model.specs.Readable.{readable}
use Rattle.parity.specs.Xor.{xor_of_all}
use Rattle.superblock.specs.declared.table.Table.{Table}
use Rattle.array_io.specs.Believed.Holds.{row_count}
use Rattle.array_io.specs.Steps.Scanning.{ScansOrFailsSlot}
use Rattle.array_io.proofs.Reading.Scanning.{all_scanned, scanned_both, scanned_none, scanned_then}
use Rattle.array_io.proofs.Writes.Writable.{same_readable}
use Rattle.scrub.specs.Reports.{TellsBelow, counted, report_of}
use Rattle.scrub.specs.Scrubbing.{Report, row_in, rows_in_part}
use Rattle.scrub.proofs.Telling.{report_of_part, tells_next, tells_none}
use Rattle.scrub.proofs.rows.scrub_rows.Goals as goal

pub loop-row-init : goal.loop-row-init
loop-row-init g c = record {
  same = refl;
  honest = λ fair. fair;
  still = λ fair. fair;
  its_slots = c.requires.its_slots;
  scanned = scanned_none _ _;
  told = subst (TellsBelow (g.B.Bank.honest c.args.bank.now) c.args.table.now
      (readable (g.B.Bank.history c.args.bank.now)) c.args.first c.args.first) (sym c.new-report.ensures)
      (tells_none (g.B.Bank.honest c.args.bank.now) c.args.table.now (readable (g.B.Bank.history c.args.bank.now))
      c.args.first);
}

pub returns-in_err-sum_row-clause-scans : goal.returns-in_err-sum_row-clause-scans
returns-in_err-sum_row-clause-scans g c =
    let p = err_from_is_err_and c.from_residual.result c.from_residual.ensures.1 in
    let now = c.loop-row.invariant in
    rw (p.1, p.2) (subst (λ (t : Table). ScansOrFailsSlot (g.B.Bank.honest c.args.bank.now) t c.sum_row.new.table
    (g.B.Bank.panel c.args.bank.now) (g.B.Bank.panel c.sum_row.new.bank)
    (g.B.Bank.history c.args.bank.now) (g.B.Bank.history c.sum_row.new.bank) (Err c.in_err-sum_row.field-0.0)) now.same
    (scanned_then (g.B.Bank.honest c.args.bank.now) (g.B.Bank.honest c.loop-row.bank) now.honest c.loop-row.table
    c.sum_row.new.table
    (g.B.Bank.panel c.args.bank.now) (g.B.Bank.panel c.loop-row.bank) (g.B.Bank.panel c.sum_row.new.bank)
    (g.B.Bank.history c.args.bank.now) (g.B.Bank.history c.loop-row.bank) (g.B.Bank.history c.sum_row.new.bank)
    now.scanned (Err c.in_err-sum_row.field-0.0) c.in_err-sum_row.ensures.scans))

pub returns-then-not-branch-clause-scans : goal.returns-then-not-branch-clause-scans
returns-then-not-branch-clause-scans g c =
    let now = c.loop-row.invariant in
    subst (λ (t : Table). ScansOrFailsSlot (g.B.Bank.honest c.args.bank.now) t c.sum_row.new.table
    (g.B.Bank.panel c.args.bank.now) (g.B.Bank.panel c.sum_row.new.bank)
    (g.B.Bank.history c.args.bank.now) (g.B.Bank.history c.sum_row.new.bank) (Ok false)) now.same
    (scanned_then (g.B.Bank.honest c.args.bank.now) (g.B.Bank.honest c.loop-row.bank) now.honest c.loop-row.table
    c.sum_row.new.table
    (g.B.Bank.panel c.args.bank.now) (g.B.Bank.panel c.loop-row.bank) (g.B.Bank.panel c.sum_row.new.bank)
    (g.B.Bank.history c.args.bank.now) (g.B.Bank.history c.loop-row.bank) (g.B.Bank.history c.sum_row.new.bank)
    now.scanned (Ok false)
    (subst (λ r. ScansOrFailsSlot (g.B.Bank.honest c.loop-row.bank) c.loop-row.table c.sum_row.new.table
    (g.B.Bank.panel c.loop-row.bank) (g.B.Bank.panel c.sum_row.new.bank)
    (g.B.Bank.history c.loop-row.bank) (g.B.Bank.history c.sum_row.new.bank) r)
    (c.in_ok-sum_row.was ∙ ap Ok c.if-not-branch.true) c.sum_row.ensures.scans))

pub loop-row-preserved : goal.loop-row-preserved
loop-row-preserved g c =
    let now = c.loop-row.invariant in
    let ok = c.in_ok-sum_row.was ∙ ap Ok c.if-not-branch.false in
    let all = all_scanned (g.B.Bank.honest c.loop-row.bank) c.loop-row.table c.sum_row.new.table
    (g.B.Bank.panel c.loop-row.bank) (g.B.Bank.panel c.sum_row.new.bank)
    (g.B.Bank.history c.loop-row.bank) (g.B.Bank.history c.sum_row.new.bank) c.sum_row.ensures.scans ok in
    record {
      same = all.0 ∙ now.same;
      honest = λ fair. c.sum_row.ensures.honest.0 (now.honest fair);
      still = λ fair. now.still (c.sum_row.ensures.honest.1 fair);
      its_slots = c.sum_row.ensures.its_slots;
      scanned = scanned_both now.honest now.scanned all.1;
      told = subst (λ (r : Report). TellsBelow (g.B.Bank.honest c.args.bank.now) c.args.table.now
          (readable (g.B.Bank.history c.args.bank.now)) c.args.first (c.loop-row.row + 1) r)
          {x = counted (report_of c.loop-row.report) c.loop-row.row c.is_zero.result} (sym c.count.ensures)
          (tells_next (g.B.Bank.honest c.args.bank.now) c.args.table.now (readable (g.B.Bank.history c.args.bank.now))
          c.args.first c.loop-row.row (report_of c.loop-row.report) c.sum_row.new.sum c.is_zero.result
          now.told (λ fair. c.in_ok-sum_row.ensures.sum c.if-not-branch.false (now.honest fair)
          ∙ ap (λ (t : Table). xor_of_all (row_in t (readable (g.B.Bank.history c.loop-row.bank)) c.loop-row.row))
          now.same
          ∙ ap (λ (i : Slots). xor_of_all (row_in c.args.table.now i c.loop-row.row))
          (same_readable (g.B.Bank.history c.args.bank.now) (g.B.Bank.history c.loop-row.bank) (now.scanned.reads fair)
          (now.scanned.stays fair))) c.is_zero.ensures);
    }

pub returns-clause-told : goal.returns-clause-told
returns-clause-told g c =
    let last : c.loop-row.row ≡ c.args.first + rows_in_part (row_count c.args.table.now) c.args.first c.args.rows = omega
    (arith, c.loop-row-test.false, c.loop-row.auto.row-end, c.rows.ensures, c.min-count.ensures, c.saturating_sub.ensures) in
    report_of_part (g.B.Bank.honest c.args.bank.now) c.args.table.now (readable (g.B.Bank.history c.args.bank.now))
    c.args.first c.args.rows (report_of c.loop-row.report)
    (subst (λ (n : ℕ). TellsBelow (g.B.Bank.honest c.args.bank.now) c.args.table.now
    (readable (g.B.Bank.history c.args.bank.now)) c.args.first n (report_of c.loop-row.report)) last c.loop-row.invariant.told)
