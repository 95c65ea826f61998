use Rattle.stripe_journal.specs.Entries.{numbers_of}
use Rattle.array_io.specs.Steps.FormingRows.{HasRowFrom}
use Rattle.array_io.proofs.forming.row_from.Given as goal

abbrev pub invariant-loop-at : goal.invariant-loop-at
invariant-loop-at l = HasRowFrom (numbers_of l.entry) l.at l.row
