use Rattle.std.proofs.Common.{◌≡◌, ◌+◌, arith, subst, ℕ, List, ◌++◌}
use Rattle.std.proofs.lemmas.Result.{err_from_is_err_and}
use Rattle.layout_map.specs.Placement.{data_sectors_of, first_extent}
use Rattle.report.specs.Written.{WritesText}
use Rattle.set_sizes.specs.Rooms.{room_of}
use Rattle.device_files.proofs.ToldLines.{part_of_more, writes_after}
use Rattle.raidtool.specs.Sized.{unused_of}
use Rattle.raidtool.specs.Texts.{made_text, unused_line}
use Rattle.raidtool.proofs.make.sized.write_made_most.Goals as goal

pub returns-in_err-write_made_set : goal.returns-in_err-write_made_set
returns-in_err-write_made_set g c =
    let from = err_from_is_err_and c.from_residual.result c.from_residual.ensures.1 in
    let failed = c.in_err-write_made_set.ensures in
    rw (from.1, from.2) (record {
      ok = tt;
      part = part_of_more _ _ (made_text c.args.drawn c.args.id.now) (unused_line (unused_of c.args.geometry.now)) failed.part;
      kind = failed.kind;
    })

pub returns : goal.returns
returns g c =
    let geometry = c.args.geometry.now in
    let last = c.write_unused in
    let first = first_extent geometry.format geometry.members geometry.chunk in
    let room = room_of geometry.format geometry.members geometry.chunk geometry.stripes in
    let all : first + room + c.unused.result ≡ data_sectors_of geometry.members geometry.chunk geometry.stripes = c.unused.ensures in
    let unused : c.unused.result ≡ unused_of geometry = omega (arith, all) in
    subst (λ (blocks : ℕ). WritesText (g.W.Write.contents c.args.out.now) (g.W.Write.contents last.new.out)
    (made_text c.args.drawn c.args.id.now ++ unused_line blocks) last.result) unused
    (writes_after last.result _ _ _ (made_text c.args.drawn c.args.id.now) (unused_line c.unused.result) c.in_ok-write_made_set.ensures.ok last.ensures)
