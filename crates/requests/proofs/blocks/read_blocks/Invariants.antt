use Rattle.std.proofs.Common.{◌≡◌, ◌*◌, length, take}
use Rattle.std.specs.Io.KnownBytes.{Consumes}
use Rattle.requests.specs.Inputs.{Skips, bytes_of}
use Rattle.requests.proofs.blocks.read_blocks.Given as goal

abbrev pub invariant-loop-at : goal.invariant-loop-at
invariant-loop-at g l = record {
  long : length l.to ≡ length l.initial.to;
  read : Consumes (g.R.Read.remaining l.initial.reader) (g.R.Read.remaining l.reader) (bytes_of (take l.at l.to));
  count : Skips (g.R.Read.remaining l.initial.reader) (g.R.Read.remaining l.reader) (512 * l.at);
}
