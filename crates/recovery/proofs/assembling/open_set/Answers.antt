use Rattle.std.proofs.Common.{Err, Ok, refl}
use Rattle.std.proofs.lemmas.Result.{err_from_is_err_and}
use Rattle.array_io.proofs.Images.Codecs.{spellings}
use Rattle.recovery.specs.Making.{bank_view, given_back, opened}
use Rattle.recovery.proofs.AssembledSet.{assembled_set, set_unwritten, unassembled_set, unordered_set}
use Rattle.recovery.proofs.assembling.open_set.Goals as goal

pub returns-in_err-table-clause-assembles : goal.returns-in_err-table-clause-assembles
returns-in_err-table-clause-assembles g c =
    let p = err_from_is_err_and c.from_residual.result c.from_residual.ensures.1 in
    rw (p.1, p.2) (unordered_set (g.B.Bank.honest c.args.bank.now) c.args.id.now (bank_view (g.B.Bank.panel c.args.bank.now) (g.B.Bank.history c.args.bank.now))
    (g.B.Bank.panel c.put_in_order.new.bank) (g.B.Bank.history c.put_in_order.new.bank) c.in_err-table.field-0.0 c.in_err-table.ensures.puts)

pub returns-in_err-number-clause-assembles : goal.returns-in_err-number-clause-assembles
returns-in_err-number-clause-assembles g c =
    let p = err_from_is_err_and c.from_residual-in_err-number.result c.from_residual-in_err-number.ensures.1 in
    rw (p.1, p.2) (unassembled_set spellings (g.B.Bank.honest c.args.bank.now) (g.B.Bank.honest c.put_in_order.new.bank)
    (λ fair. c.put_in_order.ensures.honest.0 fair) c.args.id.now
    (bank_view (g.B.Bank.panel c.args.bank.now) (g.B.Bank.history c.args.bank.now)) (g.B.Bank.panel c.put_in_order.new.bank)
    (g.B.Bank.panel c.settle_entry.new.bank)
    (g.B.Bank.history c.put_in_order.new.bank) (g.B.Bank.history c.settle_entry.new.bank) c.in_ok-table.table c.settle_entry.new.table
    (λ fair. g.met.B.Bank.true_to _ (c.put_in_order.ensures.honest.0 fair))
    (λ fair. g.met.B.Bank.true_to _ (c.settle_entry.ensures.honest.0 (c.put_in_order.ensures.honest.0 fair)))
    c.in_ok-table.ensures.puts (Err c.in_err-number.field-0.0) c.in_err-number.ensures.settles c.in_err-number.field-0.0 refl)

pub returns-clause-assembles : goal.returns-clause-assembles
returns-clause-assembles g c =
    assembled_set spellings (g.B.Bank.honest c.args.bank.now) (g.B.Bank.honest c.put_in_order.new.bank) (λ fair. c.put_in_order.ensures.honest.0 fair)
    c.args.id.now
    (bank_view (g.B.Bank.panel c.args.bank.now) (g.B.Bank.history c.args.bank.now)) (g.B.Bank.panel c.put_in_order.new.bank)
    (g.B.Bank.panel c.settle_entry.new.bank)
    (g.B.Bank.history c.put_in_order.new.bank) (g.B.Bank.history c.settle_entry.new.bank) c.in_ok-table.table c.settle_entry.new.table
    (λ fair. g.met.B.Bank.true_to _ (c.put_in_order.ensures.honest.0 fair))
    (λ fair. g.met.B.Bank.true_to _ (c.settle_entry.ensures.honest.0 (c.put_in_order.ensures.honest.0 fair)))
    c.in_ok-table.ensures.puts (Ok c.in_ok-number.number) c.in_ok-number.ensures.settles c.in_ok-number.number refl

pub returns-in_err-number-clause-honest : goal.returns-in_err-number-clause-honest
returns-in_err-number-clause-honest g c = (
  λ honest. c.settle_entry.ensures.honest.0 (c.put_in_order.ensures.honest.0 honest),
  λ honest. c.put_in_order.ensures.honest.1 (c.settle_entry.ensures.honest.1 honest),
)

pub returns-clause-honest : goal.returns-clause-honest
returns-clause-honest g c = (
  λ honest. c.settle_entry.ensures.honest.0 (c.put_in_order.ensures.honest.0 honest),
  λ honest. c.put_in_order.ensures.honest.1 (c.settle_entry.ensures.honest.1 honest),
)

pub returns-clause-its_slots : goal.returns-clause-its_slots
returns-clause-its_slots g c = c.settle_entry.ensures.its_slots

pub returns-in_err-table-clause-unwritten : goal.returns-in_err-table-clause-unwritten
returns-in_err-table-clause-unwritten g c =
    let p = err_from_is_err_and c.from_residual.result c.from_residual.ensures.1 in
    rw (p.1, p.2) c.in_err-table.ensures.puts.unwritten

pub returns-in_err-number-clause-unwritten : goal.returns-in_err-number-clause-unwritten
returns-in_err-number-clause-unwritten g c =
    let p = err_from_is_err_and c.from_residual-in_err-number.result c.from_residual-in_err-number.ensures.1 in
    rw (p.1, p.2) (set_unwritten spellings (g.B.Bank.honest c.args.bank.now) (g.B.Bank.honest c.put_in_order.new.bank)
    (λ fair. c.put_in_order.ensures.honest.0 fair) c.args.id.now
    (bank_view (g.B.Bank.panel c.args.bank.now) (g.B.Bank.history c.args.bank.now)) (g.B.Bank.panel c.put_in_order.new.bank)
    (g.B.Bank.panel c.settle_entry.new.bank)
    (g.B.Bank.history c.put_in_order.new.bank) (g.B.Bank.history c.settle_entry.new.bank) c.in_ok-table.table c.settle_entry.new.table
    (λ fair. g.met.B.Bank.true_to _ (c.put_in_order.ensures.honest.0 fair))
    (λ fair. g.met.B.Bank.true_to _ (c.settle_entry.ensures.honest.0 (c.put_in_order.ensures.honest.0 fair)))
    c.in_ok-table.ensures.puts (Err c.in_err-number.field-0.0) c.in_err-number.ensures.settles
    (given_back (g.B.Bank.panel c.settle_entry.new.bank) (g.B.Bank.history c.settle_entry.new.bank) c.in_err-number.field-0.0) refl)

pub returns-clause-unwritten : goal.returns-clause-unwritten
returns-clause-unwritten g c =
    set_unwritten spellings (g.B.Bank.honest c.args.bank.now) (g.B.Bank.honest c.put_in_order.new.bank) (λ fair. c.put_in_order.ensures.honest.0 fair)
    c.args.id.now
    (bank_view (g.B.Bank.panel c.args.bank.now) (g.B.Bank.history c.args.bank.now)) (g.B.Bank.panel c.put_in_order.new.bank)
    (g.B.Bank.panel c.settle_entry.new.bank)
    (g.B.Bank.history c.put_in_order.new.bank) (g.B.Bank.history c.settle_entry.new.bank) c.in_ok-table.table c.settle_entry.new.table
    (λ fair. g.met.B.Bank.true_to _ (c.put_in_order.ensures.honest.0 fair))
    (λ fair. g.met.B.Bank.true_to _ (c.settle_entry.ensures.honest.0 (c.put_in_order.ensures.honest.0 fair)))
    c.in_ok-table.ensures.puts (Ok c.in_ok-number.number) c.in_ok-number.ensures.settles
    (opened (g.B.Bank.panel c.settle_entry.new.bank) (g.B.Bank.history c.settle_entry.new.bank) c.settle_entry.new.table c.in_ok-number.number) refl
