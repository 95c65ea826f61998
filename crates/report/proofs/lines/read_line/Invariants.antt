use Rattle.std.proofs.Common.{◌+◌, ◌≤◌, [], vec_len, vec_capacity, vec_items}
use Rattle.report.specs.Lines.{ReadsPart}
use Rattle.report.specs.declared.lines.Met.TheVariants.{Nothing}
use Rattle.report.proofs.lines.read_line.Given as goal
use Rattle.report.specs.declared.lines.TheConstants.{LONGEST_LINE}

abbrev pub invariant-loop : goal.invariant-loop
invariant-loop g l = record {
  read : ReadsPart (g.R.Read.remaining l.initial.reader) (g.R.Read.remaining l.reader) Nothing [] (vec_items l.line);
  held : vec_len l.line ≤ LONGEST_LINE + 1;
  capacity : LONGEST_LINE + 1 ≤ vec_capacity l.line;
}
