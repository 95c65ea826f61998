use Rattle.std.proofs.Common.{List, [], length, refl, subst, sym, ◌∙◌, ◌≡◌, ℕ}
use Rattle.std.proofs.lemmas.List.Elements.{All-from_get_or}
use Rattle.volume_table.specs.Volumes.{IsBlock}
use Rattle.std.proofs.lemmas.Result.{err_from_is_err_and}
use Rattle.array_io.specs.Believed.OpenArray.{IsHonest}
use Rattle.batch.specs.Batches.{waiting}
use Rattle.scrub.specs.Reports.{report_of}
use Rattle.volume_table.specs.Admission.{HasBlocksAt}
use Rattle.volume_table.specs.OpenStore.{store_view}
use Rattle.server.proofs.Taking.{write_refused, write_taken}
use Rattle.server.proofs.waiting.take_write.Goals as goal

pub returns-in-Err-clause-comes : goal.returns-in-Err-clause-comes
returns-in-Err-clause-comes g c = λ first start was left line remaining so request same come.
    let whole = All-from_get_or IsBlock c.args.blocks.now [] c.told-blocks in
    write_refused (g.B.Bank.honest first) start was left line _ _ c.args.held.now.replies.items c.push-in-Err.new.self.items
    (report_of c.args.held.now.scrubbed) c.args.stretch.now.name.now c.args.stretch.now.at c.args.stretch.now.count c.args.blocks.now
    (request whole) c.requires.least
    c.requires.most (store_view c.args.store.now) c.in-Err.refusal c.push-in-Err.ensures.items
    (c.admit.ensures.refused c.requires.going c.in-Err.refusal c.in-Err.is) come

pub stage_parts-requires-clause-has : goal.stage_parts-requires-clause-has
stage_parts-requires-clause-has g c = (
  c.args.stretch.now.name.now,
  subst (λ (n : ℕ). ∥ HasBlocksAt c.args.store.now.table.records c.args.stretch.now.name.now c.in-Ok.volume
      c.args.stretch.now.at n ∥₁) (sym c.requires.as_many) (c.admit.ensures.admitted c.in-Ok.volume c.in-Ok.is).has,
)

pub returns-in_err-stage_parts-in-Ok-clause-comes : goal.returns-in_err-stage_parts-in-Ok-clause-comes
returns-in_err-stage_parts-in-Ok-clause-comes g c = λ first start was left line remaining so request same come.
    let p = err_from_is_err_and c.from_residual.result c.from_residual.ensures.1 in
    rw (p.1, p.2) (
    (c.in_err-stage_parts-in-Ok.ensures.comes first start was _ _ remaining c.args.stretch.now.name.now so
    (subst (λ (n : ℕ). ∥ HasBlocksAt c.args.store.now.table.records c.args.stretch.now.name.now c.in-Ok.volume
    c.args.stretch.now.at n ∥₁) (sym c.requires.as_many) (c.admit.ensures.admitted c.in-Ok.volume c.in-Ok.is).has) come))

pub returns-in_ok-stage_parts-in-Ok-clause-comes : goal.returns-in_ok-stage_parts-in-Ok-clause-comes
returns-in_ok-stage_parts-in-Ok-clause-comes g c = λ first start was left line remaining so request same come.
    let staged = c.in_ok-stage_parts-in-Ok.ensures in
    let admits = c.admit.ensures.admitted c.in-Ok.volume c.in-Ok.is in
    let whole = All-from_get_or IsBlock c.args.blocks.now [] c.told-blocks in
    write_taken (g.B.Bank.honest first) start was left line _ (waiting c.stage_parts.new.held.batch) c.stage_parts.new.held.replies.items
    c.push.new.self.items (report_of c.stage_parts.new.held.scrubbed) c.args.stretch.now.name.now c.args.stretch.now.at c.args.stretch.now.count
    c.args.blocks.now (request whole) c.requires.least c.requires.most (store_view c.args.store.now) (store_view c.stage_parts.new.store) c.in-Ok.volume same
    c.requires.as_many c.push.ensures.items staged.table staged.of_set staged.going admits
    (staged.comes first start was _ _ remaining c.args.stretch.now.name.now so
    (subst (λ (n : ℕ). ∥ HasBlocksAt c.args.store.now.table.records c.args.stretch.now.name.now c.in-Ok.volume
    c.args.stretch.now.at n ∥₁) (sym c.requires.as_many) admits.has) come)
