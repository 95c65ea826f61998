use Rattle.std.proofs.Common.{refl}
use Rattle.stripe_journal.specs.Spelling.{first_mark}
use Rattle.stripe_journal.proofs.form.Form.first_mark.Goals as goal

pub returns-in-Whole : goal.returns-in-Whole
unfolding first_mark
returns-in-Whole c = rw c.in-Whole.is refl

pub returns-in-Held : goal.returns-in-Held
unfolding first_mark
returns-in-Held c = rw c.in-Held.is refl

pub returns-in-Runs : goal.returns-in-Runs
unfolding first_mark
returns-in-Runs c = rw c.in-Runs.is refl
