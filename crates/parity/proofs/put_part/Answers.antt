use Rattle.std.proofs.Common.{◌-◌, ◌*◌, arith}
use Rattle.parity.proofs.Lanes.{put_chunk_in_rest}
use Rattle.parity.proofs.put_part.Goals as goal

pub returns-clause-long : goal.returns-clause-long
returns-clause-long c = c.fits-vector.0

pub returns-clause-value : goal.returns-clause-value
returns-clause-value c =
    put_chunk_in_rest (64 * c.args.k) (512 - 64 * c.args.k) c.args.sector.now c.args.vector (omega (arith, c.fits-vector.0, c.requires))
    (omega (arith, c.told-sector, c.requires))
