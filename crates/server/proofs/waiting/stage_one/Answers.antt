use Rattle.std.proofs.Common.{[], List, ap, arith, length, refl, subst, sym, ◌+◌, ◌∙◌, ◌≡◌, ◌≤◌, ℕ}
use Rattle.std.proofs.lemmas.Result.{err_from_is_err_and}
use Rattle.batch.specs.Batches.{waiting}
use Rattle.extents.specs.declared.volume_table.VolumeTable.{VolumeTable}
use Rattle.scrub.specs.Reports.{report_of}
use Rattle.set_commands.specs.Run.{streams}
use Rattle.volume_table.specs.Admission.{IsWithinVolume}
use Rattle.volume_table.specs.OpenStore.{store_view}
use Rattle.volume_table.proofs.KeptMaps.{within_most}
use Rattle.server.proofs.Coming.{come_ready, waits_none}
use Rattle.server.proofs.Staging.{come_full, come_part, for_good, waits_too}
use Rattle.server.specs.Ends.{replies_of}
use Rattle.server.proofs.waiting.stage_one.Goals as goal

pub returns-in_err-commit_waiting-clause-comes : goal.returns-in_err-commit_waiting-clause-comes
returns-in_err-commit_waiting-clause-comes g c = λ first start was parts left ahead remaining name so within come.
    let p = err_from_is_err_and c.from_residual.result c.from_residual.ensures.1 in
    rw (p.1, p.2) (for_good (g.B.Bank.honest first) start was parts left ahead _ _ _ _ _ _
    (c.in_err-commit_waiting.ensures.comes first start was parts left ahead remaining so
    (come_full (g.B.Bank.honest first) start was parts left ahead _ _ _ (waiting c.stage_part.new.batch) _ _
    (c.stage_part.ensures.stages.full c.if-stage_part.false) come)))

pub returns-then-stage_part-clause-comes : goal.returns-then-stage_part-clause-comes
returns-then-stage_part-clause-comes g c = λ first start was parts left ahead remaining name so within come.
    come_part (g.B.Bank.honest first) start was parts left ahead (store_view c.args.store.now) _ c.args.volume c.args.at c.args.part.now _
    (waiting c.stage_part.new.batch) c.stage_part.result name _ _ c.stage_part.ensures.stages c.if-stage_part.true within come

pub returns-then-stage_part-clause-holds : goal.returns-then-stage_part-clause-holds
returns-then-stage_part-clause-holds g c =
    waits_too (store_view c.args.store.now) c.args.volume c.args.at c.args.part.now (waiting c.args.held.now.batch) (waiting c.stage_part.new.batch)
    c.stage_part.result c.requires.within.0 c.stage_part.ensures.stages c.if-stage_part.true c.requires.within.1 c.requires.holds

pub returns-in_err-commit_waiting-clause-holds : goal.returns-in_err-commit_waiting-clause-holds
returns-in_err-commit_waiting-clause-holds g c =
    waits_none (store_view c.commit_waiting.new.store) (waiting c.commit_waiting.new.held.batch) c.in_err-commit_waiting.ensures.empty

pub returns-clause-comes : goal.returns-clause-comes
returns-clause-comes g c = λ first start was parts left ahead remaining name so within come.
    let committed = c.in_ok-commit_waiting.ensures in
    let ready = committed.comes first start was parts left ahead remaining so
    (come_full (g.B.Bank.honest first) start was parts left ahead _ _ _ (waiting c.stage_part.new.batch) _ _
    (c.stage_part.ensures.stages.full c.if-stage_part.false) come) in
    let now : ∥ IsWithinVolume c.commit_waiting.new.store.table.records name c.args.volume c.args.at (length c.args.part.now) ∥₁ =
    subst (λ (t : VolumeTable). ∥ IsWithinVolume t.records name c.args.volume c.args.at (length c.args.part.now) ∥₁) (sym committed.table) within in
    come_part (g.B.Bank.honest first) start was parts left ahead (store_view c.commit_waiting.new.store) _ c.args.volume c.args.at c.args.part.now
    (waiting c.commit_waiting.new.held.batch) (waiting c.stage_part-2.new.batch) c.stage_part-2.result name _ _ c.stage_part-2.ensures.stages
    (c.stage_part-2.ensures.stages.few (omega (
      arith,
      ap length committed.empty,
      within_most c.commit_waiting.new.store.table.records name c.args.volume c.args.at (length c.args.part.now) now,
    ))) now
    (come_ready (g.B.Bank.honest first) start was parts left ahead (store_view c.commit_waiting.new.store) _ (waiting c.commit_waiting.new.held.batch)
    (replies_of c.commit_waiting.new.held.replies.items) _ committed.empty (ap replies_of committed.replied) ready)

pub returns-clause-holds : goal.returns-clause-holds
returns-clause-holds g c =
    let committed = c.in_ok-commit_waiting.ensures in
    let name : List ℕ = c.requires.within.0 in
    let now : ∥ IsWithinVolume c.commit_waiting.new.store.table.records name c.args.volume c.args.at (length c.args.part.now) ∥₁ =
    subst (λ (t : VolumeTable). ∥ IsWithinVolume t.records name c.args.volume c.args.at (length c.args.part.now) ∥₁) (sym committed.table)
    c.requires.within.1 in
    waits_too (store_view c.commit_waiting.new.store) c.args.volume c.args.at c.args.part.now (waiting c.commit_waiting.new.held.batch)
    (waiting c.stage_part-2.new.batch) c.stage_part-2.result name c.stage_part-2.ensures.stages
    (c.stage_part-2.ensures.stages.few (omega (
      arith,
      ap length committed.empty,
      within_most c.commit_waiting.new.store.table.records name c.args.volume c.args.at (length c.args.part.now) now,
    ))) now
    (waits_none (store_view c.commit_waiting.new.store) (waiting c.commit_waiting.new.held.batch) committed.empty)
