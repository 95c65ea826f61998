use Rattle.std.proofs.Common.{refl}
use Rattle.entry_runs.specs.Built.{runs_in}
use Rattle.array_io.specs.Believed.OpenArray.{array_view}
use Rattle.batch.specs.ZeroRuns.{zero_runs}
use Rattle.volume_table.proofs.WholeStripes.{may_zero, stripes_zeroed}
use Rattle.volume_table.proofs.store.stripes.zero_stripes.Goals as goal

pub commit_zeros-requires : goal.commit_zeros-requires
commit_zeros-requires g c =
    may_zero c.args.array.now.table c.args.map.now c.args.volume c.args.at c.args.end (zero_runs c.args.rows.now) (runs_in c.put_in.new.rows) c.requires.sized
    c.requires.some c.requires.placed c.requires.gathers c.put_in.ensures c.requires.two

pub returns-clause-zeroes : goal.returns-clause-zeroes
returns-clause-zeroes g c =
    stripes_zeroed c.args.array.now.table c.args.map.now c.args.volume c.args.at c.args.end (zero_runs c.args.rows.now) (runs_in c.put_in.new.rows)
    c.requires.sized c.requires.some c.requires.placed c.requires.gathers c.put_in.ensures (g.B.Bank.honest c.args.array.now.bank)
    (array_view c.args.array.now) (array_view c.commit_zeros.new.self) c.commit_zeros.result refl c.commit_zeros.ensures.commits
