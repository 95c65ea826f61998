use Rattle.std.proofs.Common.{◌∙◌, ap, replicate}
use Rattle.stripe_journal.specs.Spelling.{held_bytes, listed_bytes, zeros}
use Rattle.stripe_journal.proofs.codec.encode_held.Goals as goal

pub returns-in-Whole : goal.returns-in-Whole
unfolding held_bytes zeros
returns-in-Whole c = rw c.in-Whole.is (c.encode_listed.ensures ∙ ap (λ rows. listed_bytes rows (replicate 32 0)) c.as_slice.ensures.value)

pub returns-in-Held : goal.returns-in-Held
unfolding held_bytes
returns-in-Held c = rw c.in-Held.is (c.encode_listed-in-Held.ensures ∙ ap (λ rows. listed_bytes rows c.in-Held.masks) c.as_slice-in-Held.ensures.value)

pub returns-in-Runs : goal.returns-in-Runs
unfolding held_bytes
returns-in-Runs c = rw c.in-Runs.is c.encode_runs.ensures
