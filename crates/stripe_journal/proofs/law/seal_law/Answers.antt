use Rattle.std.proofs.Common.{arith}
use Rattle.stripe_journal.proofs.Bodies.{bodies_apart, bodies_within, halves_apart, whole_rows}
use Rattle.stripe_journal.proofs.HeldEntries.{bodies_in_place}
use Rattle.stripe_journal.proofs.Offsets.{has_fields}
use Rattle.stripe_journal.proofs.Respelled.{respelled}
use Rattle.stripe_journal.proofs.Spellings.{length-seal_sector, one_spelled}
use Rattle.stripe_journal.proofs.law.seal_law.Goals as goal

pub returns-clause-filled : goal.returns-clause-filled
returns-clause-filled c = λ seal long. omega (arith, length-seal_sector seal)

pub returns-clause-fields : goal.returns-clause-fields
returns-clause-fields c = has_fields

pub returns-clause-spelled : goal.returns-clause-spelled
returns-clause-spelled c = respelled

pub returns-clause-one : goal.returns-clause-one
returns-clause-one c = one_spelled

pub returns-clause-within : goal.returns-clause-within
returns-clause-within c = bodies_within

pub returns-clause-halves : goal.returns-clause-halves
returns-clause-halves c = halves_apart

pub returns-clause-apart : goal.returns-clause-apart
returns-clause-apart c = bodies_apart

pub returns-clause-rows : goal.returns-clause-rows
returns-clause-rows c = whole_rows

pub returns-clause-in_place : goal.returns-clause-in_place
returns-clause-in_place c = bodies_in_place
