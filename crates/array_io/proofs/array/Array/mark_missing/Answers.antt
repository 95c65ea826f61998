use Rattle.array_io.proofs.Images.Codecs.{spellings}
use Rattle.array_io.proofs.Marks.MarkMissing.{but_one, its_slots_stay, ends_marking, marks_missing}
use Rattle.array_io.proofs.array.Array.mark_missing.Goals as goal

pub mark_slot-requires-clause-others : goal.mark_slot-requires-clause-others
mark_slot-requires-clause-others g c =
    let was = c.args.self.now in but_one c.args.dev was.table (g.B.Bank.panel was.bank) was.its_slots

pub returns-clause-marks : goal.returns-clause-marks
returns-clause-marks g c =
    let was = c.args.self.now in
    marks_missing spellings (g.B.Bank.honest was.bank) c.args.dev was.entry (g.B.Bank.panel was.bank) (g.B.Bank.panel c.mark_slot.new.bank) was.table
    c.mark_slot.new.table
    (g.B.Bank.history was.bank) (g.B.Bank.history c.mark_slot.new.bank) c.mark_slot.result c.requires was.its_slots (g.met.B.Bank.true_to was.bank)
    c.mark_slot.ensures.marks

pub returns-clause-refused : goal.returns-clause-refused
returns-clause-refused g c =
    let was = c.args.self.now in
    ends_marking (g.B.Bank.honest was.bank) c.args.dev (g.B.Bank.panel was.bank) (g.B.Bank.panel c.mark_slot.new.bank) was.table c.mark_slot.new.table
    (g.B.Bank.history was.bank) (g.B.Bank.history c.mark_slot.new.bank) c.mark_slot.result c.mark_slot.ensures.marks

pub mark_slot-requires-clause-of_set : goal.mark_slot-requires-clause-of_set
mark_slot-requires-clause-of_set g c = c.requires

pub invariant_of-self : goal.invariant_of-self
invariant_of-self g c =
    let was = c.args.self.now in
    record {
      its_slots = its_slots_stay (g.B.Bank.honest was.bank) c.args.dev (g.B.Bank.panel was.bank) (g.B.Bank.panel c.mark_slot.new.bank) was.table
          c.mark_slot.new.table
          (g.B.Bank.history was.bank) (g.B.Bank.history c.mark_slot.new.bank) c.mark_slot.result c.requires was.its_slots c.mark_slot.ensures.marks;
    }

pub returns-clause-honest : goal.returns-clause-honest
returns-clause-honest g c = c.mark_slot.ensures.honest
