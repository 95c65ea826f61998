use Rattle.std.proofs.Common.{subst}
use Rattle.std.specs.Prelude.{OnOk, ◌≡◌}
use Rattle.sector_model.specs.Readable.{readable}
use Rattle.degraded.specs.RowValue.{value}
use Rattle.array_io.specs.Believed.ArrayCalls.{Answer}
use Rattle.array_io.specs.Believed.Settled.{rows_by}
use Rattle.array_io.proofs.Images.Codecs.{spellings}
use Rattle.array_io.proofs.Reading.ReadCall.{reads_by_steps}
use Rattle.array_io.proofs.Reading.ReadWhole.{whole_if}
use Rattle.array_io.proofs.array.Array.read.Goals as goal

pub returns-clause-reads : goal.returns-clause-reads
returns-clause-reads g c = reads_by_steps spellings (g.B.Bank.honest c.args.self.now.bank) c.args.self.now.entry c.args.self.now.table c.read_value.new.table
    (g.B.Bank.panel c.args.self.now.bank) (g.B.Bank.panel c.read_value.new.bank)
    (g.B.Bank.history c.args.self.now.bank) (g.B.Bank.history c.read_value.new.bank) c.read_value.result (λ fair. g.met.B.Bank.true_to _ fair)
    (λ fair. g.met.B.Bank.true_to _ (c.read_value.ensures.honest.0 fair))
    c.args.logical c.place-place.result.member c.place-place.result.row c.read_value.new.to c.requires c.place-place.ensures.placed
    (c.read_value.ensures.steps (g.B.Bank.panel c.args.self.now.bank).devices c.args.self.now.entry)
    (λ fair ok. subst (λ (a : Answer). OnOk a (c.read_value.new.to ≡ value (rows_by c.read_value.new.table (readable (g.B.Bank.history c.read_value.new.bank)))
    c.place-place.result.row c.place-place.result.member)) ok
    (c.read_value.ensures.gives fair))

pub returns-clause-whole : goal.returns-clause-whole
returns-clause-whole g c = λ fair. whole_if (g.B.Bank.panel c.args.self.now.bank) (g.B.Bank.panel c.read_value.new.bank) c.args.self.now.table
    c.read_value.new.table c.place-place.result.member c.place-place.result.row
    (g.B.Bank.history c.args.self.now.bank) (g.B.Bank.history c.read_value.new.bank) c.args.self.now.entry c.args.self.now.entry c.read_value.new.to
    (c.read_value.ensures.steps (g.B.Bank.panel c.args.self.now.bank).devices c.args.self.now.entry).goes_on.not_older.same_geometry c.args.logical c.requires
    c.place-place.ensures.placed
    c.read_value.result (c.read_value.ensures.whole fair)
