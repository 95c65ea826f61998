use Rattle.std.proofs.Common.{subst, ℕ, List, codes}
use Rattle.report.specs.Replies.{slot_line}
use Rattle.report.specs.Written.{WritesText}
use Rattle.device_files.proofs.write_fault.Goals as goal

pub returns-in-NoFile : goal.returns-in-NoFile
returns-in-NoFile g c = rw c.in-NoFile.is (record {
  ok = c.write_slot_line.ensures.ok;
  part = c.write_slot_line.ensures.part;
  kind = c.write_slot_line.ensures.kind;
})

pub returns-in-InUse : goal.returns-in-InUse
returns-in-InUse g c = rw c.in-InUse.is (record {
  ok = c.write_slot_line-in-InUse.ensures.ok;
  part = c.write_slot_line-in-InUse.ensures.part;
  kind = c.write_slot_line-in-InUse.ensures.kind;
})

pub returns-in-NotOpened : goal.returns-in-NotOpened
returns-in-NotOpened g c =
    let wrote = c.write_slot_line-in-NotOpened in
    let words = c.words_of.ensures.words in
    rw c.in-NotOpened.is (subst (λ (beyond : List ℕ). WritesText (g.E.Write.contents c.args.err.now) (g.E.Write.contents wrote.new.writer)
    (slot_line (codes "cannot open ") c.in-NotOpened.slot beyond) wrote.result) words
    (record { ok = wrote.ensures.ok; part = wrote.ensures.part; kind = wrote.ensures.kind }))

pub returns-in-OtherSet : goal.returns-in-OtherSet
returns-in-OtherSet g c = rw c.in-OtherSet.is (record {
  ok = c.write_slot_line-in-OtherSet.ensures.ok;
  part = c.write_slot_line-in-OtherSet.ensures.part;
  kind = c.write_slot_line-in-OtherSet.ensures.kind;
})

pub returns-in-SetThere : goal.returns-in-SetThere
returns-in-SetThere g c = rw c.in-SetThere.is c.write_set_there.ensures

pub returns-in-NotSynced : goal.returns-in-NotSynced
returns-in-NotSynced g c = rw c.in-NotSynced.is c.write_unsynced.ensures

pub returns-in-Refused : goal.returns-in-Refused
returns-in-Refused g c = rw c.in-Refused.is (record { ok = c.write_reply.ensures.ok; part = c.write_reply.ensures.part; kind = c.write_reply.ensures.kind })
