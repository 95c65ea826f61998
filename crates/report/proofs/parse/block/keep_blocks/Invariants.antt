use Rattle.report.specs.Fields.{fields_left}
use Rattle.report.proofs.KeepLemmas.{KeptSoFar}
use Rattle.report.proofs.parse.block.keep_blocks.Given as goal

abbrev pub invariant-fields : goal.invariant-fields
invariant-fields l = KeptSoFar (fields_left l.fn.fields) (fields_left l.field-iterator) l.kept l.to
