-- A part of a write that was admitted waits.
use Rattle.std.proofs.Common.{◌+◌, [], length, sym, subst}
use Rattle.std.proofs.lemmas.List.Elements.{All-from_get_or}
use Rattle.batch.specs.Batches.{waiting}
use Rattle.extents.specs.declared.extent_layout.ExtentLayout.{ExtentLayout}
use Rattle.extents.specs.SetExtents.{extents_in}
use Rattle.volume_table.specs.StagedBlocks.{StagesBlocks}
use Rattle.volume_table.specs.StoreChanges.{AllPlaced}
use Rattle.volume_table.specs.Volumes.{IsBlock}
use Rattle.volume_table.proofs.Admitted.{admitted_within}
use Rattle.volume_table.proofs.KeptMaps.{within_fits, within_is_placed, within_least, within_most, within_record}
use Rattle.volume_table.proofs.StagedWrites.{holds_more}
use Rattle.volume_table.proofs.store.Store.stage_part.Goals as goal

pub stage_blocks-requires-clause-least : goal.stage_blocks-requires-clause-least
stage_blocks-requires-clause-least g c =
    within_least c.args.self.now.table.records c.requires.within.0 c.args.volume c.args.at (length c.args.from.now) c.requires.within.1

pub stage_blocks-requires-clause-most : goal.stage_blocks-requires-clause-most
stage_blocks-requires-clause-most g c =
    within_most c.args.self.now.table.records c.requires.within.0 c.args.volume c.args.at (length c.args.from.now) c.requires.within.1

pub stage_blocks-requires-clause-within : goal.stage_blocks-requires-clause-within
stage_blocks-requires-clause-within g c =
    within_fits c.args.self.now.table.records c.requires.within.0 c.args.volume c.args.at (length c.args.from.now) c.requires.within.1

pub stage_blocks-requires-clause-placed : goal.stage_blocks-requires-clause-placed
stage_blocks-requires-clause-placed g c =
    subst (λ (e : ExtentLayout). AllPlaced e c.args.self.now.map c.args.volume c.args.at (c.args.at + length c.args.from.now))
    (sym c.of-extents.ensures) (within_is_placed (extents_in c.args.self.now.array.table.geometry) c.args.self.now.table c.args.self.now.map
    c.requires.within.0 c.args.volume c.args.at (length c.args.from.now) c.args.self.now.kept c.requires.within.1)

pub returns-clause-stages : goal.returns-clause-stages
returns-clause-stages g c =
    let store = c.args.self.now in
    let extents = extents_in store.array.table.geometry in
    record {
      full = λ no. c.stage_blocks.ensures.kept no;
      taken = λ taken name within writes holds. holds_more extents store.table store.map name c.args.volume c.args.at c.args.from.now
          (waiting c.args.batch.now) (waiting c.stage_blocks.new.batch) writes store.kept
          (within_record store.table.records name c.args.volume c.args.at (length c.args.from.now) within)
          (All-from_get_or IsBlock c.args.from.now [] c.told-from)
          (admitted_within extents store.table name c.args.volume c.args.at c.args.from.now within)
          (within_is_placed extents store.table store.map name c.args.volume c.args.at (length c.args.from.now) store.kept within)
          (subst (λ (e : ExtentLayout). StagesBlocks e store.map c.args.volume c.args.at c.args.from.now (waiting c.args.batch.now)
          (waiting c.stage_blocks.new.batch)) c.of-extents.ensures (c.stage_blocks.ensures.staged taken)) holds;
      few = λ few. c.stage_blocks.ensures.few few;
    }
