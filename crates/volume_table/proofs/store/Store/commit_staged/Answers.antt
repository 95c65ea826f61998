-- What waits is committed by one call of the array.
use Rattle.std.proofs.Common.{Ok, refl, ◌∙◌, subst}
use Rattle.layout_map.specs.declared.geometry.Geometry.{Geometry}
use Rattle.batch.specs.Batches.{waiting}
use Rattle.batch.specs.Places.{AreOfSet, Given}
use Rattle.batch.proofs.Kept.{is_batch}
use Rattle.array_io.specs.Believed.OpenArray.{array_view}
use Rattle.extents.specs.SetExtents.{extents_in}
use Rattle.volume_table.specs.OpenStore.{store_view}
use Rattle.volume_table.specs.Staging.{HoldsWrites}
use Rattle.volume_table.specs.Stands.{store_of}
use Rattle.volume_table.proofs.StagedWrites.{not_ended_yet, none_committed, staged_committed}
use Rattle.volume_table.proofs.store.Store.commit_staged.Goals as goal

pub returns-then-is_empty-clause-commits : goal.returns-then-is_empty-clause-commits
returns-then-is_empty-clause-commits g c = λ writes holds.
    let store = c.args.self.now in
    not_ended_yet (g.B.Bank.honest store.array.bank) writes (store_view store) (store_view store) (Ok tt) c.in_default.is
    (none_committed (g.B.Bank.honest store.array.bank) writes (store_view store) c.in_default.is
    (subst (λ (sectors : Given). HoldsWrites (extents_in store.array.table.geometry) store.table writes sectors)
    (c.is_empty.ensures.0 c.if-is_empty.true) holds))

pub returns-clause-commits : goal.returns-clause-commits
returns-clause-commits g c = λ writes holds.
    let before = c.args.self.now in
    let after = c.commit_batch-answer.new.self in
    let batch = c.args.batch.now in
    rw (c.end.ensures.array, c.end.ensures.table, c.end.ensures.same)
    (not_ended_yet (g.B.Bank.honest before.array.bank) writes (store_view before) (store_of (array_view after) before.table c.end.new.self.ended)
    c.commit_batch-answer.result c.in_default.is
    (staged_committed (g.B.Bank.honest before.array.bank) writes (waiting batch) (store_view before)
    (store_of (array_view after) before.table c.end.new.self.ended) c.commit_batch-answer.result holds
    (subst (λ (geometry : Geometry). AreOfSet geometry (waiting batch)) c.requires.same (is_batch batch).of_set)
    refl (λ answered. c.end.ensures.done answered ∙ c.in_default.is) c.end.ensures.ended c.commit_batch-answer.ensures.commits))
