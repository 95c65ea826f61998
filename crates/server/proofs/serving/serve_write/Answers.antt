use Rattle.std.proofs.Common.{List, [], ap, arith, length, refl, sym, take, ◌+◌, ◌∙◌, ◌≡◌, ◌≤◌, ℕ}
use Rattle.std.proofs.lemmas.List.{length-take, take_all}
use Rattle.std.proofs.lemmas.Result.{err_from_is_err_and}
use Rattle.batch.specs.Batches.{waiting}
use Rattle.report.specs.declared.lines.TheConstants.{LONGEST_LINE}
use Rattle.volume_table.specs.OpenStore.{store_view}
use Rattle.server.proofs.Coming.{come_ready, ready_alone, waits_none}
use Rattle.server.proofs.Reading.{come_blocks, line_of, were_read, write_request}
use Rattle.server.proofs.Together.{good_ready, now_commits, unread_ready}
use Rattle.server.specs.Ends.{replies_of}
use Rattle.server.proofs.serving.serve_write.Goals as goal

pub returns-in_err-read_blocks-clause-serves : goal.returns-in_err-read_blocks-clause-serves
returns-in_err-read_blocks-clause-serves g c = λ first start was bytes so unbroken short demands ready.
    let p = err_from_is_err_and c.from_residual.result c.from_residual.ensures.1 in
    let stops = c.in_err-read_blocks.ensures.fault in
    rw (p.1, p.2) (unread_ready (g.B.Bank.honest first) start was 0 _ _ (g.R.Read.remaining c.args.reader.now) (g.R.Read.remaining c.read_blocks.new.reader)
    _ _ c.in_err-read_blocks.field-0.0 c.in_err-read_blocks.ensures.kind (stops.read, stops.consumed) ready)

pub returns-then-not-branch-clause-serves : goal.returns-then-not-branch-clause-serves
returns-then-not-branch-clause-serves g c = λ first start was bytes so unbroken short demands ready.
    let stops = (c.in_ok-read_blocks.ensures.ended (ap were_read c.if-not-branch.true)).stops in
    unread_ready (g.B.Bank.honest first) start was 0 _ _ (g.R.Read.remaining c.args.reader.now) (g.R.Read.remaining c.read_blocks.new.reader)
    _ _ _ refl (stops.read, stops.consumed) ready

pub take_write-requires-clause-holds : goal.take_write-requires-clause-holds
take_write-requires-clause-holds g c = waits_none (store_view c.args.store.now) (waiting c.args.held.now.batch) c.requires.waits

pub returns-in_err-take_write-clause-serves : goal.returns-in_err-take_write-clause-serves
returns-in_err-take_write-clause-serves g c = λ first start was bytes so unbroken short demands ready.
    let p = err_from_is_err_and c.from_residual-in_err-take_write.result c.from_residual-in_err-take_write.ensures.1 in
    let blocks = c.read_blocks.new.to in
    let len : length blocks ≡ length (take c.args.stretch.now.count c.args.blocks.now) = c.in_ok-read_blocks.ensures.len in
    rw (p.1, p.2) (good_ready (g.B.Bank.honest first) start was _ c.in_err-take_write.field-0.0 c.in_err-take_write.ensures.good
    (c.in_err-take_write.ensures.comes first start was 0 (line_of bytes blocks) (g.R.Read.remaining c.read_blocks.new.reader) so
    (λ are. write_request bytes bytes blocks _ _ _ (sym (take_all (LONGEST_LINE + 1) bytes (omega (arith, short)))) short unbroken demands
    (omega (arith, len, length-take c.args.stretch.now.count c.args.blocks.now, c.requires.buffer, c.requires.most)) are) refl
    (come_blocks (g.B.Bank.honest first) start was 1 _ _ _ _ _ bytes blocks (g.R.Read.remaining c.args.reader.now)
    (g.R.Read.remaining c.read_blocks.new.reader) (c.in_ok-read_blocks.ensures.read (ap were_read c.if-not-branch.false))
    (come_ready (g.B.Bank.honest first) start was [] 1 _ _ _ _ _ _ c.requires.waits (ap replies_of c.requires.replies)
    (ready_alone (g.B.Bank.honest first) start was _ _ _ _ ready)))))

pub returns-clause-serves : goal.returns-clause-serves
returns-clause-serves g c = λ first start was bytes so unbroken short demands ready.
    let blocks = c.read_blocks.new.to in
    let len : length blocks ≡ length (take c.args.stretch.now.count c.args.blocks.now) = c.in_ok-read_blocks.ensures.len in
    now_commits (g.B.Bank.honest first) start was [] 0 [] _ _ _ c.commit_waiting.result
    (c.commit_waiting.ensures.comes first start was [] 0 [] (g.R.Read.remaining c.read_blocks.new.reader)
    (λ fair. c.in_ok-take_write.ensures.honest.0 (so fair))
    (c.in_ok-take_write.ensures.comes first start was 0 (line_of bytes blocks) (g.R.Read.remaining c.read_blocks.new.reader) so
    (λ are. write_request bytes bytes blocks _ _ _ (sym (take_all (LONGEST_LINE + 1) bytes (omega (arith, short)))) short unbroken demands
    (omega (arith, len, length-take c.args.stretch.now.count c.args.blocks.now, c.requires.buffer, c.requires.most)) are) refl
    (come_blocks (g.B.Bank.honest first) start was 1 _ _ _ _ _ bytes blocks (g.R.Read.remaining c.args.reader.now)
    (g.R.Read.remaining c.read_blocks.new.reader) (c.in_ok-read_blocks.ensures.read (ap were_read c.if-not-branch.false))
    (come_ready (g.B.Bank.honest first) start was [] 1 _ _ _ _ _ _ c.requires.waits (ap replies_of c.requires.replies)
    (ready_alone (g.B.Bank.honest first) start was _ _ _ _ ready)))))
