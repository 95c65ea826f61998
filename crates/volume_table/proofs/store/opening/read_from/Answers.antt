use Rattle.std.proofs.Common.{◌≡◌, ◌+◌, ◌<◌, ℕ, [], length, get_or, set, Ok, Err, refl, ◌∙◌, below_more, arith}
use Rattle.std.proofs.lemmas.List.{get_or-set_other, get_or-set_same, length-set}
use Rattle.std.proofs.lemmas.Result.{err_from_is_err_and}
use Rattle.array_io.specs.Believed.Views.{ArrayView}
use Rattle.array_io.specs.Believed.OpenArray.{array_view}
use Rattle.volume_table.specs.ListChanges.{IsSame}
use Rattle.volume_table.proofs.ListChanges.{changes_none}
use Rattle.volume_table.proofs.OpenedStore.{are_read_at_rest, first_of_set, none_read, read_ends, read_more}
use Rattle.volume_table.proofs.ReadBlocks.{read_gives, read_on}
use Rattle.volume_table.proofs.EndedStore.{done_not_refused}
use Rattle.volume_table.proofs.store.opening.read_from.Goals as goal

pub loop-number-init : goal.loop-number-init
loop-number-init g c =
    let array : ArrayView = array_view c.args.array.now in
    record {
      honest = λ fair. fair;
      still = λ fair. fair;
      long = refl;
      changes = changes_none (g.B.Bank.honest c.args.array.now.bank) 0 IsSame IsSame array (λ V. refl) (λ V. refl);
      gives = λ fair lost V rests k below. absurd (omega (arith, below));
      told = λ fair none. none_read c.args.first array c.args.sectors.now;
    }

pub read-requires : goal.read-requires
read-requires g c = first_of_set c.args.array.now.table.geometry c.loop-number.array.table.geometry (c.args.first + c.loop-number.number)
    c.loop-number.invariant.changes.goes_on.not_older.same_geometry (omega (arith, c.requires, c.loop-number.invariant.long))

pub returns-in_err-read-clause-changes : goal.returns-in_err-read-clause-changes
returns-in_err-read-clause-changes g c =
    let old = array_view c.args.array.now in
    let mid = array_view c.loop-number.array in
    let new = array_view c.read.new.self in
    let p = err_from_is_err_and c.from_residual.result c.from_residual.ensures.1 in
    rw (p.1, p.2) (read_on (g.B.Bank.honest c.args.array.now.bank) (g.B.Bank.honest c.loop-number.array.bank) c.loop-number.invariant.honest
    (c.args.first + c.loop-number.number) old mid new c.read.new.to
    (Err c.in_err-read.field-0.0) (λ fair. g.met.B.Bank.true_to _ (c.loop-number.invariant.honest fair)) c.loop-number.invariant.changes
    c.in_err-read.ensures.reads)

pub returns-in_err-read-clause-cause : goal.returns-in_err-read-clause-cause
returns-in_err-read-clause-cause g c =
    let old = array_view c.args.array.now in
    let mid = array_view c.loop-number.array in
    let new = array_view c.read.new.self in
    let p = err_from_is_err_and c.from_residual.result c.from_residual.ensures.1 in
    let changes = read_on (g.B.Bank.honest c.args.array.now.bank) (g.B.Bank.honest c.loop-number.array.bank) c.loop-number.invariant.honest
    (c.args.first + c.loop-number.number) old mid new c.read.new.to
    (Err c.in_err-read.field-0.0) (λ fair. g.met.B.Bank.true_to _ (c.loop-number.invariant.honest fair)) c.loop-number.invariant.changes
    c.in_err-read.ensures.reads in
    rw (p.1, p.2) (λ why is. read_ends (g.B.Bank.honest c.args.array.now.bank) (g.B.Bank.honest c.loop-number.array.bank) (c.args.first + c.loop-number.number)
    old mid new c.read.new.to
    c.in_err-read.field-0.0 why changes c.in_err-read.ensures.reads is)

pub loop-number-preserved : goal.loop-number-preserved
loop-number-preserved g c =
    let old = array_view c.args.array.now in
    let mid = array_view c.loop-number.array in
    let new = array_view c.read.new.self in
    let number = c.loop-number.number in
    let sectors = c.loop-number.sectors in
    let to = c.read.new.to in
    let within : number < length sectors = omega (arith, c.loop-number.invariant.long) in
    record {
      honest = λ fair. c.read.ensures.honest.0 (c.loop-number.invariant.honest fair);
      still = λ fair. c.loop-number.invariant.still (c.read.ensures.honest.1 fair);
      long = length-set sectors number to ∙ c.loop-number.invariant.long;
      changes = read_on (g.B.Bank.honest c.args.array.now.bank) (g.B.Bank.honest c.loop-number.array.bank) c.loop-number.invariant.honest
          (c.args.first + number) old mid new to (Ok tt)
          (λ fair. g.met.B.Bank.true_to _ (c.loop-number.invariant.honest fair)) c.loop-number.invariant.changes c.in_ok-read.ensures.reads;
      gives = λ fair lost V rests. below_more (λ (k : ℕ). get_or (set sectors number to) k [] ≡ get_or V (c.args.first + k) []) number
          (λ k below. get_or-set_other sectors number k to [] (λ same. omega (arith, below, same)) ∙ c.loop-number.invariant.gives fair lost V rests k below)
          (get_or-set_same sectors number to [] within
          ∙ read_gives (g.B.Bank.honest c.args.array.now.bank) (g.B.Bank.honest c.loop-number.array.bank) c.loop-number.invariant.honest (c.args.first + number)
          old mid new to c.loop-number.invariant.changes
          c.in_ok-read.ensures.reads fair lost V rests);
      told = λ fair none. read_more c.args.first number old mid new sectors to within c.loop-number.invariant.changes.goes_on c.in_ok-read.ensures.reads.goes_on
          none
          (c.loop-number.invariant.told fair) (c.in_ok-read.ensures.whole (c.loop-number.invariant.honest fair));
    }

pub returns-clause-gives : goal.returns-clause-gives
returns-clause-gives g c =
    let old = array_view c.args.array.now in
    λ fair lost V rests. are_read_at_rest old lost V c.loop-number.sectors c.args.first (length c.args.sectors.now) rests c.loop-number.invariant.long
    c.requires.within
    (λ k below. c.loop-number.invariant.gives fair lost V rests k (omega (arith, below, c.loop-number.invariant.long)))

pub returns-clause-reads : goal.returns-clause-reads
returns-clause-reads g c = λ fair none k below. (c.loop-number.invariant.told fair none).given k (omega (arith, below, c.loop-number.invariant.long))

pub returns-in_err-read-clause-honest : goal.returns-in_err-read-clause-honest
returns-in_err-read-clause-honest g c =
    (λ fair. c.read.ensures.honest.0 (c.loop-number.invariant.honest fair), λ fair. c.loop-number.invariant.still (c.read.ensures.honest.1 fair))

pub returns-in_err-read-clause-gives : goal.returns-in_err-read-clause-gives
returns-in_err-read-clause-gives g c = λ fair.
    let p = err_from_is_err_and c.from_residual.result c.from_residual.ensures.1 in
    rw p.1 tt

pub returns-in_err-read-clause-reads : goal.returns-in_err-read-clause-reads
returns-in_err-read-clause-reads g c = λ fair.
    let p = err_from_is_err_and c.from_residual.result c.from_residual.ensures.1 in
    rw p.1 tt

pub returns-clause-honest : goal.returns-clause-honest
returns-clause-honest g c = (c.loop-number.invariant.honest, c.loop-number.invariant.still)

pub returns-clause-changes : goal.returns-clause-changes
returns-clause-changes g c = c.loop-number.invariant.changes

pub returns-clause-cause : goal.returns-clause-cause
returns-clause-cause g c = λ refusal is. absurd (done_not_refused refusal is)
