use Rattle.std.proofs.Common.{◌≡◌, length, min}
use Rattle.device_files.proofs.Cleared.{front_cleared, where_ok}
use Rattle.device_files.proofs.clearing.clear_file.Goals as goal

pub returns-clause-cleared : goal.returns-clause-cleared
returns-clause-cleared g c = λ tells.
    let old = g.F.Growing.told c.args.file.now in
    let size_is : c.in_ok-size.size ≡ length old = cc (c.in_ok-size.ensures.told tells) in
    let few : c.min.result ≡ min (length old) 1024 = rw size_is at c.min.ensures in
    where_ok c.sync_whole.result _
    (front_cleared _ _ old 1024 c.min.result few (c.sync_whole.ensures.told tells) (c.in_ok-write_front.ensures.written tells))
