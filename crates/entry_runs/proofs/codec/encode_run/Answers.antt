use Rattle.entry_runs.specs.Spelling.{run_bytes}
use Rattle.entry_runs.proofs.codec.encode_run.Goals as goal

pub returns : goal.returns
unfolding run_bytes
returns c = rw (c.to_le_bytes-first.ensures, c.to_le_bytes-length.ensures, c.from.ensures)
