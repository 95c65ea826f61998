use Rattle.std.proofs.Common.{◌≡◌, ◌<◌, None, sym, subst}
use Rattle.sector_model.specs.declared.refusal.Refusal.TheVariants.{NotMissing, WouldLose}
use Rattle.layout_map.specs.declared.geometry.Geometry.{Geometry}
use Rattle.superblock.specs.NextTables.{slots_of}
use Rattle.array_io.specs.Believed.Views.{view_of}
use Rattle.array_io.proofs.Images.Codecs.{spellings}
use Rattle.array_io.proofs.Marks.MarkMissing.{its_slots_stay, marks_missing, but_one}
use Rattle.volume_table.specs.Admission.{AreKept}
use Rattle.volume_table.specs.Stands.{StoreView, store_of}
use Rattle.volume_table.proofs.FailedSlot.{fail_marked, fail_refused, marks_failed, marks_geometry, not_missing, would_lose}
use Rattle.volume_table.specs.VolumeStep.{Fail, OnSet}
use Rattle.volume_table.proofs.EndedStore.{stays_ended}
use Rattle.volume_table.specs.OpenStore.{store_view}
use Rattle.volume_table.proofs.store.Store.fail.Goals as goal
use Rattle.extents.specs.SetExtents.{extents_in}

pub returns-then-would_lose-clause-fails : goal.returns-then-would_lose-clause-fails
returns-then-would_lose-clause-fails g c =
    let was = c.args.self.now in
    let goes : was.ended ≡ None = c.in_default.is in
    let store : StoreView = store_view was in
    fail_refused (g.B.Bank.honest was.array.bank) c.args.slot store WouldLose goes (λ e. e)
    (would_lose was.array.table c.args.slot (sym c.if-would_lose.ensures))

pub returns-then-slot-self-clause-fails : goal.returns-then-slot-self-clause-fails
returns-then-slot-self-clause-fails g c =
    let was = c.args.self.now in
    let goes : was.ended ≡ None = c.in_default.is in
    let store : StoreView = store_view was in
    fail_refused (g.B.Bank.honest was.array.bank) c.args.slot store NotMissing goes (λ e. e)
    (not_missing was.array.table c.args.slot (sym c.if-would_lose.ensures) c.if-slot-self.true)

pub invariant_of-self : goal.invariant_of-self
invariant_of-self g c =
    let was = c.args.self.now in
    let new = c.mark_slot-answer.new in
    let of_set : c.args.slot < slots_of was.array.table = c.if-slot-self.false in (
      (
        its_slots_stay (g.B.Bank.honest was.array.bank) c.args.slot (g.B.Bank.panel was.array.bank) (g.B.Bank.panel new.bank) was.array.table new.table
            (g.B.Bank.history was.array.bank) (g.B.Bank.history new.bank) c.mark_slot-answer.result of_set was.array.its_slots c.mark_slot-answer.ensures.marks,
        tt,
      ),
      (
        subst (λ (s : Geometry). AreKept (extents_in s) was.table was.map)
            (sym (marks_geometry (g.B.Bank.honest was.array.bank) c.args.slot (g.B.Bank.panel was.array.bank) (g.B.Bank.panel new.bank) was.array.table
            new.table
            (g.B.Bank.history was.array.bank) (g.B.Bank.history new.bank) c.mark_slot-answer.result c.mark_slot-answer.ensures.marks)) was.kept,
        tt,
      ),
    )

pub returns-clause-fails : goal.returns-clause-fails
returns-clause-fails g c =
    let was = c.args.self.now in
    let new = c.mark_slot-answer.new in
    let left = c.end.new.self in
    let of_set : c.args.slot < slots_of was.array.table = c.if-slot-self.false in
    let goes : was.ended ≡ None = c.in_default.is in
    let old_store : StoreView = store_view was in
    let new_store : StoreView = store_of (view_of (g.B.Bank.panel new.bank) (g.B.Bank.history new.bank) new.table was.array.entry) left.table left.ended in
    rw (c.end.ensures.array, c.end.ensures.same)
    (fail_marked (g.B.Bank.honest was.array.bank) c.args.slot old_store new_store c.mark_slot-answer.result goes c.end.ensures.table of_set
    (sym c.if-would_lose.ensures)
    c.end.ensures.done c.end.ensures.ended
    (marks_missing spellings (g.B.Bank.honest was.array.bank) c.args.slot was.array.entry (g.B.Bank.panel was.array.bank) (g.B.Bank.panel new.bank)
    was.array.table new.table
    (g.B.Bank.history was.array.bank) (g.B.Bank.history new.bank) c.mark_slot-answer.result of_set was.array.its_slots (λ fair. g.met.B.Bank.true_to _ fair)
    c.mark_slot-answer.ensures.marks)
    (marks_failed (g.B.Bank.honest was.array.bank) c.args.slot (g.B.Bank.panel was.array.bank) (g.B.Bank.panel new.bank) was.array.table new.table
    (g.B.Bank.history was.array.bank) (g.B.Bank.history new.bank) c.mark_slot-answer.result c.mark_slot-answer.ensures.marks of_set
    (λ fair. g.met.B.Bank.true_to _ (c.mark_slot-answer.ensures.honest.0 fair))))

pub returns-in-Some-clause-honest : goal.returns-in-Some-clause-honest
returns-in-Some-clause-honest g c = (λ fair. fair, λ fair. fair)

pub returns-in-Some-clause-fails : goal.returns-in-Some-clause-fails
returns-in-Some-clause-fails g c =
    let its = c.args.self.now in
    stays_ended (g.B.Bank.honest its.array.bank) (OnSet (Fail c.args.slot))
    (store_view its) c.in-Some.refusal c.in-Some.is

pub returns-then-would_lose-clause-honest : goal.returns-then-would_lose-clause-honest
returns-then-would_lose-clause-honest g c = (λ fair. fair, λ fair. fair)

pub returns-then-slot-self-clause-honest : goal.returns-then-slot-self-clause-honest
returns-then-slot-self-clause-honest g c = (λ fair. fair, λ fair. fair)

pub mark_slot-answer-requires-clause-of_set : goal.mark_slot-answer-requires-clause-of_set
mark_slot-answer-requires-clause-of_set g c = c.if-slot-self.false

pub mark_slot-answer-requires-clause-others : goal.mark_slot-answer-requires-clause-others
mark_slot-answer-requires-clause-others g c = but_one c.args.slot c.args.self.now.array.table (g.B.Bank.panel c.args.self.now.array.bank)
    c.args.self.now.array.its_slots

pub returns-clause-honest : goal.returns-clause-honest
returns-clause-honest g c = rw c.end.ensures.array c.mark_slot-answer.ensures.honest
