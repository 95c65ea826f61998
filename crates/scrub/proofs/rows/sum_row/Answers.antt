use Rattle.std.proofs.Common.{◌≡◌, ℕ, ◌∙◌, ◌+◌, ◌<◌, false, ap, refl, sym, subst, arith}
use Rattle.std.specs.Prelude.{Ok, Err}
use Rattle.std.proofs.lemmas.Result.{err_from_is_err_and}
use Rattle.sector_model.specs.History.{Slots, disk_of, sector_of}
use Rattle.sector_model.specs.Readable.{readable}
use Rattle.layout_map.specs.declared.sizes.TheConstants.{FIRST_ROW}
use Rattle.parity.proofs.Laws.{zero_sector-replicate}
use Rattle.superblock.specs.declared.table.Table.{Table}
use Rattle.superblock.specs.NextTables.{IsComplete}
use Rattle.array_io.specs.Steps.Scanning.{ScansOrFailsSlot}
use Rattle.array_io.proofs.Reading.Scanning.{all_scanned, own_read, scanned_both, scanned_none, scanned_then, value_scans}
use Rattle.array_io.proofs.Writes.Writable.{same_readable}
use Rattle.parity.specs.Xor.{xor_of_all}
use Rattle.scrub.specs.Reports.{first_in_row}
use Rattle.scrub.proofs.Telling.{sum_next}
use Rattle.scrub.proofs.rows.sum_row.Goals as goal

pub loop-member-init : goal.loop-member-init
loop-member-init g c = record {
  same = refl;
  honest = λ fair. fair;
  still = λ fair. fair;
  its_slots = c.requires.its_slots;
  scanned = scanned_none _ _;
  sum = λ fair. zero_sector-replicate 512 refl;
}

pub returns-in_err-value_or_fail_slot-clause-scans : goal.returns-in_err-value_or_fail_slot-clause-scans
returns-in_err-value_or_fail_slot-clause-scans g c =
    let p = err_from_is_err_and c.from_residual.result c.from_residual.ensures.1 in
    let now = c.loop-member.invariant in
    rw (p.1, p.2) (subst (λ (t : Table). ScansOrFailsSlot (g.B.Bank.honest c.args.bank.now) t c.value_or_fail_slot.new.table
    (g.B.Bank.panel c.args.bank.now) (g.B.Bank.panel c.value_or_fail_slot.new.bank)
    (g.B.Bank.history c.args.bank.now) (g.B.Bank.history c.value_or_fail_slot.new.bank)
    (Err c.in_err-value_or_fail_slot.field-0.0)) now.same
    (scanned_then (g.B.Bank.honest c.args.bank.now) (g.B.Bank.honest c.loop-member.bank) now.honest c.loop-member.table
    c.value_or_fail_slot.new.table
    (g.B.Bank.panel c.args.bank.now) (g.B.Bank.panel c.loop-member.bank) (g.B.Bank.panel c.value_or_fail_slot.new.bank)
    (g.B.Bank.history c.args.bank.now) (g.B.Bank.history c.loop-member.bank)
    (g.B.Bank.history c.value_or_fail_slot.new.bank) now.scanned (Err c.in_err-value_or_fail_slot.field-0.0)
    (value_scans {result = Err c.in_err-value_or_fail_slot.field-0.0} c.in_err-value_or_fail_slot.ensures.reads)))

pub returns-then-not-branch-clause-scans : goal.returns-then-not-branch-clause-scans
returns-then-not-branch-clause-scans g c =
    let now = c.loop-member.invariant in
    subst (λ (t : Table). ScansOrFailsSlot (g.B.Bank.honest c.args.bank.now) t c.value_or_fail_slot.new.table
    (g.B.Bank.panel c.args.bank.now) (g.B.Bank.panel c.value_or_fail_slot.new.bank)
    (g.B.Bank.history c.args.bank.now) (g.B.Bank.history c.value_or_fail_slot.new.bank) (Ok false)) now.same
    (scanned_then (g.B.Bank.honest c.args.bank.now) (g.B.Bank.honest c.loop-member.bank) now.honest c.loop-member.table
    c.value_or_fail_slot.new.table
    (g.B.Bank.panel c.args.bank.now) (g.B.Bank.panel c.loop-member.bank) (g.B.Bank.panel c.value_or_fail_slot.new.bank)
    (g.B.Bank.history c.args.bank.now) (g.B.Bank.history c.loop-member.bank)
    (g.B.Bank.history c.value_or_fail_slot.new.bank) now.scanned (Ok false)
    (subst (λ r. ScansOrFailsSlot (g.B.Bank.honest c.loop-member.bank) c.loop-member.table c.value_or_fail_slot.new.table
    (g.B.Bank.panel c.loop-member.bank) (g.B.Bank.panel c.value_or_fail_slot.new.bank)
    (g.B.Bank.history c.loop-member.bank) (g.B.Bank.history c.value_or_fail_slot.new.bank) r)
    (c.in_ok-value_or_fail_slot.was ∙ ap Ok c.if-not-branch.true)
    (value_scans {result = c.value_or_fail_slot.result} c.value_or_fail_slot.ensures.reads)))

pub loop-member-preserved : goal.loop-member-preserved
loop-member-preserved g c =
    let now = c.loop-member.invariant in
    let reads = c.value_or_fail_slot.ensures.reads in
    let ok = c.in_ok-value_or_fail_slot.was ∙ ap Ok c.if-not-branch.false in
    let all = all_scanned (g.B.Bank.honest c.loop-member.bank) c.loop-member.table c.value_or_fail_slot.new.table
    (g.B.Bank.panel c.loop-member.bank) (g.B.Bank.panel c.value_or_fail_slot.new.bank)
    (g.B.Bank.history c.loop-member.bank) (g.B.Bank.history c.value_or_fail_slot.new.bank)
    (value_scans {result = c.value_or_fail_slot.result} reads) ok in
    record {
      same = all.0 ∙ now.same;
      honest = λ fair. c.value_or_fail_slot.ensures.honest.0 (now.honest fair);
      still = λ fair. now.still (c.value_or_fail_slot.ensures.honest.1 fair);
      its_slots = c.value_or_fail_slot.ensures.its_slots;
      scanned = scanned_both now.honest now.scanned all.1;
      sum = λ fair.
          let own = own_read (subst IsComplete (sym now.same) c.requires.complete)
          (subst (λ (t : Table). c.loop-member.member < t.geometry.members) (sym now.same) c.loop-member-test.true)
          reads ok (now.honest fair) in
          let same = same_readable (g.B.Bank.history c.args.bank.now) (g.B.Bank.history c.loop-member.bank)
          (now.scanned.reads fair) (now.scanned.stays fair) in
          c.xor_into.ensures ∙ sum_next (readable (g.B.Bank.history c.args.bank.now)) c.args.row c.loop-member.member
          c.loop-member.sum c.value_or_fail_slot.new.to (now.sum fair)
          (own ∙ ap (λ (i : Slots). sector_of (disk_of (i c.loop-member.member)) (FIRST_ROW + c.args.row)) same);
    }

pub returns-clause-sum : goal.returns-clause-sum
returns-clause-sum g c = λ read fair.
    let end : c.loop-member.member ≡ c.args.table.now.geometry.members = omega (arith, c.loop-member-test.false, c.loop-member.auto.member-end) in
    c.loop-member.invariant.sum fair
    ∙ ap (λ (n : ℕ). xor_of_all (first_in_row (readable (g.B.Bank.history c.args.bank.now)) c.args.row n)) end
