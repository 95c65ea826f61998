use Rattle.std.proofs.lemmas.Result.{IfErr-weaker}
use Rattle.set_commands.proofs.Applied.{failed_by, scrubbed_by, upgrade_end, upgraded_by}
use Rattle.set_commands.proofs.ServedSet.{ok_then}
use Rattle.raidtool.proofs.Causes.{done_for, ran_for, told_for}
use Rattle.raidtool.proofs.Repaired.{told_change, told_progress, told_scrub}
use Rattle.raidtool.proofs.Statuses.{cut_status}
use Rattle.raidtool.proofs.tool.do_on.Goals as goal

pub returns-in-Status-clause-cut : goal.returns-in-Status-clause-cut
returns-in-Status-clause-cut g c = λ _. IfErr-weaker c.tell_on.result _ _ (λ refusal part cut drawn. rw c.in-Status.is (cut_status _ _ _ _ _ _ (part cut)))
    c.tell_on.ensures.cut

pub returns-in-Fail-clause-does : goal.returns-in-Fail-clause-does
returns-in-Fail-clause-does g c = rw c.in-Fail.is (ok_then _ _ _ (failed_by _ _ _ _ _) c.apply_on.ensures.applied)

pub returns-in-Fail-clause-cut : goal.returns-in-Fail-clause-cut
returns-in-Fail-clause-cut g c = λ _. IfErr-weaker c.apply_on.result _ _ (λ refusal part cut drawn. rw c.in-Fail.is (failed_by _ _ _ _ _ (part cut)).1)
    c.apply_on.ensures.cut

pub returns-in-Rebuild-clause-cut : goal.returns-in-Rebuild-clause-cut
returns-in-Rebuild-clause-cut g c = λ _. IfErr-weaker c.rebuild_with_progress.result _ _
    (λ refusal part cut drawn. rw c.in-Rebuild.is (told_progress _ _ _ _ _ (part cut))) c.rebuild_with_progress.ensures.cut

pub returns-in-Scrub-clause-does : goal.returns-in-Scrub-clause-does
returns-in-Scrub-clause-does g c = rw c.in-Scrub.is (ok_then _ _ _ (scrubbed_by _ _ _ _) c.scrub_with_progress.ensures.applied)

pub returns-in-Scrub-clause-cut : goal.returns-in-Scrub-clause-cut
returns-in-Scrub-clause-cut g c = λ _. IfErr-weaker c.scrub_with_progress.result _ _
    (λ refusal part cut drawn. rw c.in-Scrub.is (told_scrub _ _ _ _ (scrubbed_by _ _ _ _ (part cut)))) c.scrub_with_progress.ensures.cut

pub returns-in-Upgrade-clause-does : goal.returns-in-Upgrade-clause-does
returns-in-Upgrade-clause-does g c = rw c.in-Upgrade.is (ok_then _ _ _ (upgraded_by _ _ _ _) c.apply_on-in-Upgrade.ensures.applied)

pub returns-in-Upgrade-clause-end : goal.returns-in-Upgrade-clause-end
returns-in-Upgrade-clause-end g c = IfErr-weaker c.apply_on-in-Upgrade.result _ _ (λ refusal ends. rw c.in-Upgrade.is (upgrade_end refusal ends))
    c.apply_on-in-Upgrade.ensures.end

pub returns-in-Upgrade-clause-cut : goal.returns-in-Upgrade-clause-cut
returns-in-Upgrade-clause-cut g c = λ _. IfErr-weaker c.apply_on-in-Upgrade.result _ _
    (λ refusal part cut drawn. rw c.in-Upgrade.is (upgraded_by _ _ _ _ (part cut)).1) c.apply_on-in-Upgrade.ensures.cut

pub returns-in-Change-clause-does : goal.returns-in-Change-clause-does
returns-in-Change-clause-does g c = rw c.in-Change.is (rw c.event_for.ensures at c.apply_on-in-Change.ensures.applied)

pub returns-in-Change-clause-end : goal.returns-in-Change-clause-end
returns-in-Change-clause-end g c = rw c.in-Change.is (rw c.event_for.ensures at c.apply_on-in-Change.ensures.end)

pub returns-in-Change-clause-cut : goal.returns-in-Change-clause-cut
returns-in-Change-clause-cut g c = λ _. IfErr-weaker c.apply_on-in-Change.result _ _
    (λ refusal part cut drawn. rw c.in-Change.is (told_change _ _ c.in-Change.change _ _ (rw c.event_for.ensures at (part cut))))
    c.apply_on-in-Change.ensures.cut

-- ---- why it was refused

pub returns-in-Run-clause-cause : goal.returns-in-Run-clause-cause
returns-in-Run-clause-cause g c = rw c.in-Run.is (ran_for _ _ _ c.serve_on.result _ _ _ c.serve_on.ensures.end c.serve_on.ensures.unopened
    c.serve_on.ensures.loss)

pub returns-in-Status-clause-cause : goal.returns-in-Status-clause-cause
returns-in-Status-clause-cause g c = rw c.in-Status.is (told_for c.tell_on.result _ c.tell_on.ensures.unopened)

pub returns-in-Fail-clause-cause : goal.returns-in-Fail-clause-cause
returns-in-Fail-clause-cause g c = rw c.in-Fail.is (done_for c.apply_on.result _ c.apply_on.ensures.refused)

pub returns-in-Rebuild-clause-cause : goal.returns-in-Rebuild-clause-cause
returns-in-Rebuild-clause-cause g c = rw c.in-Rebuild.is (done_for c.rebuild_with_progress.result _ c.rebuild_with_progress.ensures.refused)

pub returns-in-Scrub-clause-cause : goal.returns-in-Scrub-clause-cause
returns-in-Scrub-clause-cause g c = rw c.in-Scrub.is (done_for c.scrub_with_progress.result _ c.scrub_with_progress.ensures.refused)

pub returns-in-Upgrade-clause-cause : goal.returns-in-Upgrade-clause-cause
returns-in-Upgrade-clause-cause g c = rw c.in-Upgrade.is (done_for c.apply_on-in-Upgrade.result _ c.apply_on-in-Upgrade.ensures.refused)

pub returns-in-Change-clause-cause : goal.returns-in-Change-clause-cause
returns-in-Change-clause-cause g c = rw c.in-Change.is (done_for c.apply_on-in-Change.result _ (rw c.event_for.ensures at c.apply_on-in-Change.ensures.refused))
