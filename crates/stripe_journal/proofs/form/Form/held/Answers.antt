use Rattle.std.proofs.Common.{ℕ, ◌*◌, length, take, sym, ap, ◌∙◌, arith}
use Rattle.stripe_journal.specs.Forms.{held_by_masks}
use Rattle.stripe_journal.proofs.HeldRuns.{held_listed, held_runs}
use Rattle.stripe_journal.proofs.Masks.{before_all}
use Rattle.stripe_journal.proofs.form.Form.held.Goals as goal

pub returns-in-Whole-clause-count : goal.returns-in-Whole-clause-count
returns-in-Whole-clause-count c =
    rw c.in-Whole.is (ap (λ (n : ℕ). n * c.from.result) c.len.ensures.value ∙ ap (λ (n : ℕ). length c.in-Whole.rows.items * n) c.from.ensures
    ∙ sym (before_all c.in-Whole.rows c.args.members (length c.in-Whole.rows.items)))

pub returns-in-Held-clause-count : goal.returns-in-Held-clause-count
returns-in-Held-clause-count c =
    let formed = c.requires.formed.held c.in-Held.rows c.in-Held.masks c.in-Held.is in
    rw c.in-Held.is (c.held_by_masks.ensures.count
    ∙ ap (λ (n : ℕ). held_by_masks c.args.members (take n c.in-Held.masks)) c.len-in-Held.ensures.value
    ∙ sym (held_listed c.args.members c.in-Held.rows c.in-Held.masks (length c.in-Held.rows.items) (omega (arith, formed.0, formed.1.long))))

pub returns-in-Runs-clause-count : goal.returns-in-Runs-clause-count
returns-in-Runs-clause-count c = rw c.in-Runs.is (c.held_by_runs.ensures.count ∙ sym (held_runs c.args.members c.in-Runs.runs))
