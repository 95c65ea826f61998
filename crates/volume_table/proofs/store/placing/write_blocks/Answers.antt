use Rattle.std.proofs.Common.{ℕ, ◌+◌, List, length, sym, subst}
use Rattle.sector_model.specs.History.{Bytes}
use Rattle.array_io.specs.Believed.ArrayCalls.{Commits, MayCommit}
use Rattle.array_io.specs.Believed.OpenArray.{array_view}
use Rattle.extents.specs.declared.extent_layout.ExtentLayout.{ExtentLayout}
use Rattle.volume_table.specs.StoreChanges.{AllPlaced, ArePlaced}
use Rattle.volume_table.proofs.PlacedBlocks.{placed_commit, placed_may_commit}
use Rattle.volume_table.proofs.store.placing.write_blocks.Goals as goal

pub placed-sectors-requires-clause-placed : goal.placed-sectors-requires-clause-placed
placed-sectors-requires-clause-placed g c =
    subst (λ (e : ExtentLayout). AllPlaced e c.args.map.now c.args.volume c.args.at (c.args.at + length c.args.blocks.now)) (sym c.of-extents.ensures)
    c.requires.placed

pub commit-requires : goal.commit-requires
commit-requires g c = subst (λ (sectors : List (ℕ × Bytes)). MayCommit c.args.array.now.table sectors) (sym c.deref.ensures.0)
    (placed_may_commit c.args.array.now.table c.args.map.now c.args.volume c.args.at c.args.blocks.now c.placed-sectors.result.items
    c.requires.sized c.requires.least c.requires.most c.requires.placed
    (subst (λ (e : ExtentLayout). ArePlaced e c.args.map.now c.args.volume c.args.at c.args.blocks.now c.placed-sectors.result.items) c.of-extents.ensures
    c.placed-sectors.ensures))

pub returns-clause-changes : goal.returns-clause-changes
returns-clause-changes g c =
    let old = array_view c.args.array.now in
    let new = array_view c.commit.new.self in
    placed_commit (g.B.Bank.honest c.args.array.now.bank) c.args.map.now c.args.volume c.args.at c.args.blocks.now c.placed-sectors.result.items old new
    c.commit.result c.requires.sized c.requires.placed
    (subst (λ (e : ExtentLayout). ArePlaced e c.args.map.now c.args.volume c.args.at c.args.blocks.now c.placed-sectors.result.items) c.of-extents.ensures
    c.placed-sectors.ensures)
    (subst (λ (sectors : List (ℕ × Bytes)). Commits (g.B.Bank.honest c.args.array.now.bank) sectors old new c.commit.result) c.deref.ensures.0
    c.commit.ensures.commits)
