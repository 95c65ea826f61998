use Rattle.std.proofs.Common.{arith, length-append, sym, ◌∙◌, ◌∷◌, []}
use Rattle.std.proofs.lemmas.Result.{err_from_is_err_and}
use Rattle.std.proofs.lemmas.Iterator.Adapters.{YieldsList-from_vec}
use Rattle.std.proofs.lemmas.Iterator.Consumers.{YieldsList-end}
use Rattle.std.proofs.lemmas.List.{map-id}
use Rattle.sector_model.proofs.Slots.{opened_none, made_none, made_all, opened_more, made_more}
use Rattle.sector_model.proofs.files.slots_over.Goals as goal

pub loop-file-preserved : goal.loop-file-preserved
loop-file-preserved g c = record {
  so_far = omega (arith, c.in_ok-push.ensures.len, c.loop-file.invariant.so_far, length-append c.loop-file.yielded (c.in-Some.file ∷ []));
  opened = rw (c.in_ok-push.ensures.items)
      (opened_more c.loop-file.slots.items c.in_ok-slot_over.field-0 c.loop-file.invariant.opened c.in_ok-slot_over.ensures.opened);
  made = λ tells. rw (c.in_ok-push.ensures.items)
      (made_more c.loop-file.yielded c.loop-file.slots.items c.in-Some.file c.in_ok-slot_over.field-0
      (sym c.loop-file.slots.ok.0 ∙ c.loop-file.invariant.so_far)
      (c.loop-file.invariant.made tells) (c.in_ok-slot_over.ensures.made tells));
}

pub returns-in_err-slots-clause-len : goal.returns-in_err-slots-clause-len
returns-in_err-slots-clause-len g c = rw (err_from_is_err_and c.from_residual.result c.from_residual.ensures.1).1 tt

pub returns-in_err-slots-clause-opened : goal.returns-in_err-slots-clause-opened
returns-in_err-slots-clause-opened g c = rw (err_from_is_err_and c.from_residual.result c.from_residual.ensures.1).1 tt

pub returns-in_err-slots-clause-made : goal.returns-in_err-slots-clause-made
returns-in_err-slots-clause-made g c = λ tells. rw (err_from_is_err_and c.from_residual.result c.from_residual.ensures.1).1 tt

pub returns-in_err-push-clause-len : goal.returns-in_err-push-clause-len
returns-in_err-push-clause-len g c = rw (err_from_is_err_and c.from_residual-in_err-push.result c.from_residual-in_err-push.ensures.1).1 tt

pub returns-in_err-push-clause-opened : goal.returns-in_err-push-clause-opened
returns-in_err-push-clause-opened g c = rw (err_from_is_err_and c.from_residual-in_err-push.result c.from_residual-in_err-push.ensures.1).1 tt

pub returns-in_err-push-clause-made : goal.returns-in_err-push-clause-made
returns-in_err-push-clause-made g c = λ tells. rw (err_from_is_err_and c.from_residual-in_err-push.result c.from_residual-in_err-push.ensures.1).1 tt

pub returns-clause-opened : goal.returns-clause-opened
returns-clause-opened g c = c.loop-file.invariant.opened

pub loop-file-init : goal.loop-file-init
loop-file-init g c = record {
  so_far = c.in_ok-slots.ensures.len;
  opened = λ d. opened_none c.in_ok-slots.slots.items d c.in_ok-slots.ensures.items;
  made = λ tells d within. made_none d within;
}

pub returns-clause-len : goal.returns-clause-len
returns-clause-len g c =
    let gives = c.into_iter-file-iterator.ensures.into_iter_gives in
    let all = YieldsList-end (YieldsList-from_vec c.args.files.items gives.0 (gives.1 ∙ c.args.files.ok.0)) c.loop-file.yielded c.loop-file.file-iterator
    c.loop-file.yielded_by c.next.result c.next.new.self c.in-None.is c.next.ensures.steps in
    c.loop-file.invariant.so_far ∙ all.1 ∙ sym c.args.files.ok.0

pub returns-clause-made : goal.returns-clause-made
returns-clause-made g c = λ tells d within.
    let gives = c.into_iter-file-iterator.ensures.into_iter_gives in
    let all = YieldsList-end (YieldsList-from_vec c.args.files.items gives.0 (gives.1 ∙ c.args.files.ok.0)) c.loop-file.yielded c.loop-file.file-iterator
    c.loop-file.yielded_by c.next.result c.next.new.self c.in-None.is c.next.ensures.steps in
    made_all c.args.files.items c.loop-file.yielded c.loop-file.slots.items (sym (map-id c.loop-file.yielded) ∙ all.0) c.args.files.ok.0
    (c.loop-file.invariant.made tells) d within

pub returns-in_err-slot_over-clause-len : goal.returns-in_err-slot_over-clause-len
returns-in_err-slot_over-clause-len g c = rw (err_from_is_err_and c.from_residual-in_err-slot_over.result c.from_residual-in_err-slot_over.ensures.1).1 tt

pub returns-in_err-slot_over-clause-opened : goal.returns-in_err-slot_over-clause-opened
returns-in_err-slot_over-clause-opened g c = rw (err_from_is_err_and c.from_residual-in_err-slot_over.result c.from_residual-in_err-slot_over.ensures.1).1 tt

pub returns-in_err-slot_over-clause-made : goal.returns-in_err-slot_over-clause-made
returns-in_err-slot_over-clause-made g c = λ tells.
    rw (err_from_is_err_and c.from_residual-in_err-slot_over.result c.from_residual-in_err-slot_over.ensures.1).1 tt
