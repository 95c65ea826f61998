use Rattle.std.proofs.Common.{refl}
use Rattle.stripe_journal.specs.Spelling.{last_mark}
use Rattle.stripe_journal.proofs.form.Form.last_mark.Goals as goal

pub returns-in-Whole : goal.returns-in-Whole
unfolding last_mark
returns-in-Whole c = rw c.in-Whole.is refl

pub returns-in-Held : goal.returns-in-Held
unfolding last_mark
returns-in-Held c = rw c.in-Held.is refl

pub returns-in-Runs : goal.returns-in-Runs
unfolding last_mark
returns-in-Runs c = rw c.in-Runs.is refl
