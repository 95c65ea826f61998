use Rattle.std.proofs.Common.{ℕ, List, sym, subst}
use Rattle.sector_model.specs.History.{Bytes}
use Rattle.batch.specs.Batches.{waiting}
use Rattle.batch.specs.Places.{AreApart, AreOfSet}
use Rattle.batch.specs.Staging.{IsStaged}
use Rattle.batch.proofs.Kept.{is_batch}
use Rattle.volume_table.proofs.PlacedBlocks.{placed_apart, placed_of_set}
use Rattle.volume_table.proofs.store.placing.stage_blocks.Goals as goal

pub stage-requires-clause-of_set : goal.stage-requires-clause-of_set
stage-requires-clause-of_set c = subst (λ (sectors : List (ℕ × Bytes)). AreOfSet c.args.batch.now.geometry sectors) (sym c.deref.ensures.0)
    (placed_of_set c.args.batch.now.geometry c.args.extents.now c.args.map.now c.args.volume c.args.at c.args.blocks.now c.placed-sectors.result.items
    c.requires.of_set c.requires.sized c.requires.placed c.placed-sectors.ensures)

pub stage-requires-clause-apart : goal.stage-requires-clause-apart
stage-requires-clause-apart c = subst (λ (sectors : List (ℕ × Bytes)). AreApart sectors) (sym c.deref.ensures.0)
    (placed_apart c.args.extents.now c.args.map.now c.args.volume c.args.at c.args.blocks.now c.placed-sectors.result.items c.requires.placed
    c.placed-sectors.ensures)

pub returns-clause-staged : goal.returns-clause-staged
returns-clause-staged c = λ taken. record {
  sectors = c.placed-sectors.result.items;
  placed = c.placed-sectors.ensures;
  apart = (is_batch c.args.batch.now).apart;
  staged = subst (λ (sectors : List (ℕ × Bytes)). IsStaged (waiting c.args.batch.now) sectors (waiting c.stage.new.self)) c.deref.ensures.0
      (c.stage.ensures.staged taken);
}
