use Rattle.std.proofs.Common.{◌-◌, ◌*◌, ◌<◌, ◌≤◌}
use Rattle.requests.specs.Inputs.{Skips}
use Rattle.requests.proofs.blocks.skip_blocks.Given as goal

abbrev pub invariant-loop : goal.invariant-loop
invariant-loop g l = record {
  some : 0 < l.left;
  most : l.left ≤ 512 * l.count;
  read : Skips (g.R.Read.remaining l.initial.reader) (g.R.Read.remaining l.reader) (512 * l.count - l.left);
}
