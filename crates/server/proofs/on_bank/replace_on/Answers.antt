use Rattle.std.proofs.Common.{List, []}
use Rattle.std.proofs.lemmas.Result.{err_from_is_err_and}
use Rattle.array_io.specs.Believed.OpenArray.{IsHonest}
use Rattle.volume_table.specs.OpenStore.{store_view}
use Rattle.volume_table.specs.Volumes.{Block}
use Rattle.server.proofs.Answered.{at_buffer_err, at_buffer_ok}
use Rattle.server.proofs.Opened.{replaced_cut, replaced_going, replaced_on}
use Rattle.server.specs.Outcomes.{told_in}
use Rattle.server.proofs.on_bank.replace_on.Goals as goal

pub returns-clause-replaced : goal.returns-clause-replaced
returns-clause-replaced g c =
    let buffer : List Block = [] in
    replaced_on (IsHonest c.args.store.now.array) c.args.slot (store_view c.args.store.now) (store_view c.replace.new.self) c.replace.result
    (told_in c.outcome_of-outcome.result buffer) c.ended_by.result (g.W.Write.contents c.args.writer.now) (g.W.Write.contents c.write_told.new.writer)
    c.requires.going c.replace.ensures.replaces (c.outcome_of-outcome.ensures buffer) c.in_ok-write_told.ensures.ok
    (at_buffer_ok (λ (b : List Block). told_in c.outcome_of-outcome.result b) buffer c.ended_by.result c.ended_by.ensures.going)
    (at_buffer_err (λ (b : List Block). told_in c.outcome_of-outcome.result b) buffer c.ended_by.result c.ended_by.ensures.ended)

pub returns-clause-going : goal.returns-clause-going
returns-clause-going g c =
    let buffer : List Block = [] in
    replaced_going (IsHonest c.args.store.now.array) c.args.slot (store_view c.args.store.now) (store_view c.replace.new.self)
    (g.W.Write.contents c.args.writer.now) (g.W.Write.contents c.write_told.new.writer) c.ended_by.result
    (replaced_on (IsHonest c.args.store.now.array) c.args.slot (store_view c.args.store.now) (store_view c.replace.new.self) c.replace.result
    (told_in c.outcome_of-outcome.result buffer) c.ended_by.result (g.W.Write.contents c.args.writer.now) (g.W.Write.contents c.write_told.new.writer)
    c.requires.going c.replace.ensures.replaces (c.outcome_of-outcome.ensures buffer) c.in_ok-write_told.ensures.ok
    (at_buffer_ok (λ (b : List Block). told_in c.outcome_of-outcome.result b) buffer c.ended_by.result c.ended_by.ensures.going)
    (at_buffer_err (λ (b : List Block). told_in c.outcome_of-outcome.result b) buffer c.ended_by.result c.ended_by.ensures.ended))

pub returns-in_err-write_told-clause-replaced : goal.returns-in_err-write_told-clause-replaced
returns-in_err-write_told-clause-replaced g c =
    let p = err_from_is_err_and c.from_residual.result c.from_residual.ensures.1 in
    let buffer : List Block = [] in
    rw (p.1, p.2) (replaced_cut (IsHonest c.args.store.now.array) c.args.slot (store_view c.args.store.now) (store_view c.replace.new.self) c.replace.result
    (told_in c.outcome_of-outcome.result buffer) _ (g.W.Write.contents c.args.writer.now) (g.W.Write.contents c.write_told.new.writer)
    c.replace.ensures.replaces (c.outcome_of-outcome.ensures buffer) c.in_err-write_told.ensures.part c.in_err-write_told.ensures.kind)
