use Rattle.std.proofs.Common.{codes}
use Rattle.clap.specs.Words.{found_of}
use Rattle.command_line.proofs.SetReads.{text_none, text_value}
use Rattle.command_line.proofs.reading.read_make.Goals as goal

pub read_by_size-requires-clause-size : goal.read_by_size-requires-clause-size
read_by_size-requires-clause-size c =
    text_value (found_of c.args.matches.now) (codes "size") c.get_str.result c.get_str.ensures c.in-Some.size c.in-Some.is

pub read_by_stripes-requires-clause-no_size : goal.read_by_stripes-requires-clause-no_size
read_by_stripes-requires-clause-no_size c = text_none (found_of c.args.matches.now) (codes "size") c.get_str.result c.get_str.ensures c.in-None.is
