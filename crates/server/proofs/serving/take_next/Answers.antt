use Rattle.std.proofs.Common.{List, [], ap, arith, length, refl, sym, take, ◌+◌, ◌∙◌, ◌≡◌, ◌≤◌, ℕ}
use Rattle.std.proofs.lemmas.List.{length-take}
use Rattle.std.proofs.lemmas.Result.{err_from_is_err_and}
use Rattle.server.proofs.Reading.{bad_stops, come_blocks, come_line, has_read, line_of, not_for_good, reads_nothing, reads_stopped, reads_unended, unread, were_read}
use Rattle.server.proofs.Reading.{write_request}
use Rattle.server.proofs.serving.take_next.Goals as goal

pub returns-in_err-read_line-clause-comes : goal.returns-in_err-read_line-clause-comes
returns-in_err-read_line-clause-comes g c = λ first start was left so come.
    let p = err_from_is_err_and c.from_residual.result c.from_residual.ensures.1 in
    rw (p.1, p.2) (unread (g.B.Bank.honest first) start was (left + 1) _ _ _ _ _ [] (g.R.Read.remaining c.args.reader.now)
    (g.R.Read.remaining c.read_line.new.reader) c.in_err-read_line.field-0.0 c.in_err-read_line.ensures.kind
    (reads_stopped (g.R.Read.remaining c.args.reader.now) (g.R.Read.remaining c.read_line.new.reader) c.in_err-read_line.ensures.fault) come)

pub returns-in-Unended-clause-comes : goal.returns-in-Unended-clause-comes
returns-in-Unended-clause-comes g c = λ first start was left so come.
    unread (g.B.Bank.honest first) start was (left + 1) _ _ _ _ _ [] (g.R.Read.remaining c.args.reader.now)
    (g.R.Read.remaining c.read_line.new.reader) _ refl
    (reads_unended (g.R.Read.remaining c.args.reader.now) (g.R.Read.remaining c.read_line.new.reader) c.read_line.new.line.items
    (c.in_ok-read_line.ensures.unended (ap has_read c.in-Unended.is))) come

pub returns-in-Nothing-clause-comes : goal.returns-in-Nothing-clause-comes
returns-in-Nothing-clause-comes g c = λ first start was left so come.
    unread (g.B.Bank.honest first) start was (left + 1) _ _ _ _ _ [] (g.R.Read.remaining c.args.reader.now)
    (g.R.Read.remaining c.read_line.new.reader) _ refl (
      [],
      reads_nothing (g.R.Read.remaining c.args.reader.now) (g.R.Read.remaining c.read_line.new.reader)
          (c.in_ok-read_line.ensures.none (ap has_read c.in-Nothing.is)),
    ) come

pub returns-in_err-stretch-clause-comes : goal.returns-in_err-stretch-clause-comes
returns-in_err-stretch-clause-comes g c = λ first start was left so come.
    let p = err_from_is_err_and c.from_residual-in_err-stretch.result c.from_residual-in_err-stretch.ensures.1 in
    rw (p.1, p.2) (bad_stops (g.B.Bank.honest first) start was (left + 1) _ _ _ _ _ (g.R.Read.remaining c.args.reader.now)
    (g.R.Read.remaining c.read_line.new.reader) c.read_line.new.line.items c.in_err-stretch.field-0.0
    (c.in_ok-read_line.ensures.whole (ap has_read c.in-Whole.is))
    (rw c.deref.ensures.value at (c.in_err-stretch.ensures.refused (left + 1) (omega (arith)))) come)

pub returns-in_err-read_blocks-clause-comes : goal.returns-in_err-read_blocks-clause-comes
returns-in_err-read_blocks-clause-comes g c = λ first start was left so come.
    let p = err_from_is_err_and c.from_residual-in_err-read_blocks.result c.from_residual-in_err-read_blocks.ensures.1 in
    let whole = c.in_ok-read_line.ensures.whole (ap has_read c.in-Whole.is) in
    let stops = c.in_err-read_blocks.ensures.fault in
    rw (p.1, p.2) (unread (g.B.Bank.honest first) start was (left + 1) _ _ _ _ _ _ (g.R.Read.remaining c.read_line.new.reader)
    (g.R.Read.remaining c.read_blocks.new.reader) c.in_err-read_blocks.field-0.0 c.in_err-read_blocks.ensures.kind (stops.read, stops.consumed)
    (come_line (g.B.Bank.honest first) start was (left + 1) _ _ _ _ _ (g.R.Read.remaining c.args.reader.now) (g.R.Read.remaining c.read_line.new.reader)
    c.read_line.new.line.items whole come))

pub returns-then-not-branch-clause-comes : goal.returns-then-not-branch-clause-comes
returns-then-not-branch-clause-comes g c = λ first start was left so come.
    let whole = c.in_ok-read_line.ensures.whole (ap has_read c.in-Whole.is) in
    let stops = (c.in_ok-read_blocks.ensures.ended (ap were_read c.if-not-branch.true)).stops in
    unread (g.B.Bank.honest first) start was (left + 1) _ _ _ _ _ _ (g.R.Read.remaining c.read_line.new.reader)
    (g.R.Read.remaining c.read_blocks.new.reader) _ refl (stops.read, stops.consumed)
    (come_line (g.B.Bank.honest first) start was (left + 1) _ _ _ _ _ (g.R.Read.remaining c.args.reader.now) (g.R.Read.remaining c.read_line.new.reader)
    c.read_line.new.line.items whole come)

pub returns-clause-comes : goal.returns-clause-comes
returns-clause-comes g c = λ first start was left so come.
    let whole = c.in_ok-read_line.ensures.whole (ap has_read c.in-Whole.is) in
    let said = c.in_ok-stretch.ensures.said in
    let kept = c.deref.ensures.value in
    let len : length c.read_blocks.new.to ≡ length (take c.in_ok-stretch.stretch.count c.args.blocks.now) = c.in_ok-read_blocks.ensures.len in
    c.take_write.ensures.comes first start was left (line_of whole.line c.read_blocks.new.to) (g.R.Read.remaining c.read_blocks.new.reader) so
    (λ are. write_request whole.line c.deref.result.now c.read_blocks.new.to _ _ _ (kept ∙ whole.first) said.0 whole.unbroken said.1
    (omega (arith, len, length-take c.in_ok-stretch.stretch.count c.args.blocks.now, c.requires.buffer, said.3)) are) refl
    (come_blocks (g.B.Bank.honest first) start was (left + 1) _ _ _ _ _ whole.line c.read_blocks.new.to (g.R.Read.remaining c.read_line.new.reader)
    (g.R.Read.remaining c.read_blocks.new.reader) (c.in_ok-read_blocks.ensures.read (ap were_read c.if-not-branch.false))
    (come_line (g.B.Bank.honest first) start was (left + 1) _ _ _ _ _ (g.R.Read.remaining c.args.reader.now) (g.R.Read.remaining c.read_line.new.reader)
    c.read_line.new.line.items whole come))

pub returns-clause-still : goal.returns-clause-still
returns-clause-still g c = not_for_good _ c.take_write.result c.take_write.ensures.good
