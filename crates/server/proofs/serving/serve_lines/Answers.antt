use Rattle.std.proofs.Common.{List, [], ap, refl, sym, ◌∷◌, ◌++◌, ◌+◌, ◌∙◌, ◌≡◌, ℕ}
use Rattle.std.proofs.lemmas.Result.{err_from_is_err_and}
use Rattle.scrub.specs.Reports.{report_of}
use Rattle.volume_table.specs.OpenStore.{store_view}
use Rattle.server.proofs.Coming.{ready_read}
use Rattle.server.proofs.Finished.{all_served, line_ended, line_goes}
use Rattle.server.proofs.Reading.{has_read, reads_stopped, reads_unended}
use Rattle.server.proofs.Together.{unread_ready}
use Rattle.server.proofs.serving.serve_lines.Goals as goal

pub loop-init : goal.loop-init
loop-init g c = record {
  honest = λ fair. fair;
  still = λ fair. fair;
  going = c.requires.going;
  of_set = c.requires.of_set;
  waits = c.requires.waits;
  replies = c.requires.replies;
  capacity = c.requires.capacity;
  buffer = c.requires.buffer;
  serves = λ first start was so ready. ready;
}

pub loop-preserved : goal.loop-preserved
loop-preserved g c =
    let inv = c.loop.invariant in
    let one = c.in_ok-ending.ensures in
    let whole = c.in_ok-read_line.ensures.whole (ap has_read c.in-Whole.is) in
    record {
      honest = λ fair. one.honest.0 (inv.honest fair);
      still = λ fair. inv.still (one.honest.1 fair);
      going = one.going;
      of_set = one.of_set;
      waits = one.waits;
      replies = one.replies;
      capacity = one.capacity;
      buffer = one.buffer ∙ inv.buffer;
      serves = λ first start was so ready. line_goes (g.B.Bank.honest first) start _ was _ _ c.in_ok-ending.field-0 c.in_default.is
          (c.in_ok-ending.ensures.serves first start was whole.line (λ fair. c.loop.invariant.honest (so fair)) whole.unbroken whole.first
          (ready_read (g.B.Bank.honest first) start was 0 [] (whole.line ++ 10 ∷ []) _ (g.R.Read.remaining c.loop.reader)
          (g.R.Read.remaining c.read_line.new.reader) _ _ whole.consumed (c.loop.invariant.serves first start was so ready)));
    }

pub returns-in_err-read_line-clause-serves : goal.returns-in_err-read_line-clause-serves
returns-in_err-read_line-clause-serves g c = λ first start was so ready.
    let p = err_from_is_err_and c.from_residual.result c.from_residual.ensures.1 in
    rw (p.1, p.2) (unread_ready (g.B.Bank.honest first) start was 0 [] _ (g.R.Read.remaining c.loop.reader) (g.R.Read.remaining c.read_line.new.reader)
    _ _ c.in_err-read_line.field-0.0 c.in_err-read_line.ensures.kind
    (reads_stopped (g.R.Read.remaining c.loop.reader) (g.R.Read.remaining c.read_line.new.reader) c.in_err-read_line.ensures.fault)
    (c.loop.invariant.serves first start was so ready))

pub returns-in-Nothing-clause-serves : goal.returns-in-Nothing-clause-serves
returns-in-Nothing-clause-serves g c = λ first start was so ready.
    all_served (g.B.Bank.honest first) start _ was (g.R.Read.remaining c.loop.reader) (g.R.Read.remaining c.read_line.new.reader) _ _
    (c.in_ok-read_line.ensures.none (ap has_read c.in-Nothing.is)) (c.loop.invariant.serves first start was so ready)

pub returns-in-Unended-clause-serves : goal.returns-in-Unended-clause-serves
returns-in-Unended-clause-serves g c = λ first start was so ready.
    unread_ready (g.B.Bank.honest first) start was 0 [] _ (g.R.Read.remaining c.loop.reader) (g.R.Read.remaining c.read_line.new.reader)
    _ _ _ refl
    (reads_unended (g.R.Read.remaining c.loop.reader) (g.R.Read.remaining c.read_line.new.reader) c.read_line.new.line.items
    (c.in_ok-read_line.ensures.unended (ap has_read c.in-Unended.is)))
    (c.loop.invariant.serves first start was so ready)

pub returns-in_err-ending-clause-serves : goal.returns-in_err-ending-clause-serves
returns-in_err-ending-clause-serves g c = λ first start was so ready.
    let p = err_from_is_err_and c.from_residual-in_err-ending.result c.from_residual-in_err-ending.ensures.1 in
    let whole = c.in_ok-read_line.ensures.whole (ap has_read c.in-Whole.is) in
    rw (p.1, p.2) (c.in_err-ending.ensures.serves first start was whole.line (λ fair. c.loop.invariant.honest (so fair)) whole.unbroken whole.first
    (ready_read (g.B.Bank.honest first) start was 0 [] (whole.line ++ 10 ∷ []) _ (g.R.Read.remaining c.loop.reader)
    (g.R.Read.remaining c.read_line.new.reader) _ _ whole.consumed (c.loop.invariant.serves first start was so ready)))

pub returns-in-Some-clause-serves : goal.returns-in-Some-clause-serves
returns-in-Some-clause-serves g c = λ first start was so ready.
    let whole = c.in_ok-read_line.ensures.whole (ap has_read c.in-Whole.is) in
    line_ended (g.B.Bank.honest first) start _ was _ _ c.in_ok-ending.field-0 c.in-Some.ending c.in-Some.is
    (c.in_ok-ending.ensures.serves first start was whole.line (λ fair. c.loop.invariant.honest (so fair)) whole.unbroken whole.first
    (ready_read (g.B.Bank.honest first) start was 0 [] (whole.line ++ 10 ∷ []) _ (g.R.Read.remaining c.loop.reader)
    (g.R.Read.remaining c.read_line.new.reader) _ _ whole.consumed (c.loop.invariant.serves first start was so ready)))

pub returns-clause-serves : goal.returns-clause-serves
returns-clause-serves g c = λ first start was so ready.
    record { left = 0; ahead = []; come = (report_of c.loop.held.scrubbed, c.loop.invariant.serves first start was so ready) }
