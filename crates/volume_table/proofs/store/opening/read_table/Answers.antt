-- The first sector is read, and then those of a table of the version that it says.
use Rattle.std.proofs.Common.{◌≡◌, ◌+◌, [], length, Ok, Err, refl, sym, ◌∙◌, arith}
use Rattle.std.proofs.lemmas.List.{get_or-set_same}
use Rattle.std.proofs.lemmas.Option.{none-some}
use Rattle.std.proofs.lemmas.Result.{err_from_is_err_and}
use Rattle.extents.specs.Versions.{table_length}
use Rattle.array_io.specs.Believed.OpenArray.{array_view}
use Rattle.volume_table.proofs.ListChanges.{changes_read}
use Rattle.volume_table.proofs.OpenedStore.{first_spelled, gives_table, in_format, length-beyond, put_is, read_then, reads_spelled, spells_none, then_ends}
use Rattle.volume_table.proofs.OpenedStore.{where_ok}
use Rattle.volume_table.proofs.TableSizes.{table_long, table_short}
use Rattle.volume_table.proofs.store.opening.read_table.Goals as goal

pub returns-in_err-read-clause-changes : goal.returns-in_err-read-clause-changes
returns-in_err-read-clause-changes g c =
    let p = err_from_is_err_and c.from_residual.result c.from_residual.ensures.1 in
    rw (p.1, p.2) (changes_read (g.B.Bank.honest c.args.array.now.bank) 0 (array_view c.args.array.now) (array_view c.read.new.self) c.read.new.to
    (Err c.in_err-read.field-0.0) c.in_err-read.ensures.reads)

pub returns-in_default-clause-changes : goal.returns-in_default-clause-changes
returns-in_default-clause-changes g c =
    changes_read (g.B.Bank.honest c.args.array.now.bank) 0 (array_view c.args.array.now) (array_view c.read.new.self) c.read.new.to (Ok tt)
    c.in_ok-read.ensures.reads

pub returns-in_default-clause-gives : goal.returns-in_default-clause-gives
returns-in_default-clause-gives g c =
    let to = c.read.new.to in
    let there = get_or-set_same c.args.sectors.now 0 to [] (omega (arith, c.told-sectors)) in
    λ fair lost V table of_format rests. (
      λ spelled. absurd (spells_none c.args.array.now.table.geometry.format to _ table
          (λ version is same. none-some version (c.in_default.ensures.exact version is (there ∙ same))) there of_format spelled),
      λ spelled. absurd (spells_none c.args.array.now.table.geometry.format to V table
          (λ version is same. none-some version (c.in_default.ensures.exact version is (there ∙ same)))
          (sym (c.in_ok-read.ensures.reads.sector fair refl lost V rests)) of_format spelled),
    )

pub returns-in_default-clause-spelled : goal.returns-in_default-clause-spelled
returns-in_default-clause-spelled g c =
    let to = c.read.new.to in
    let there = get_or-set_same c.args.sectors.now 0 to [] (omega (arith, c.told-sectors)) in
    λ fair none table of_format spelled. absurd (none-some table.version (c.in_default.ensures.exact table.version
    (in_format c.args.array.now.table.geometry.format table of_format)
    (there ∙ first_spelled (array_view c.args.array.now) (array_view c.read.new.self) to table (c.in_ok-read.ensures.whole fair none) spelled)))

pub slice_bounds-read_from-count : goal.slice_bounds-read_from-count
slice_bounds-read_from-count g c = omega (arith, c.table_length.ensures, table_long c.in-Some.version)

pub slice_bounds-read_from-start : goal.slice_bounds-read_from-start
slice_bounds-read_from-start g c = omega (arith, c.table_length.ensures, table_long c.in-Some.version)

pub slice_bounds-read_from-end : goal.slice_bounds-read_from-end
slice_bounds-read_from-end g c = omega (arith, c.table_length.ensures, table_short c.in-Some.version)

pub returns-clause-changes : goal.returns-clause-changes
returns-clause-changes g c =
    let old = array_view c.args.array.now in
    let mid = array_view c.read.new.self in
    read_then (g.B.Bank.honest c.args.array.now.bank) (g.B.Bank.honest c.read.new.self.bank) c.read.ensures.honest.0 old mid (array_view c.read_from.new.array)
    c.read_from.result
    (λ fair. g.met.B.Bank.true_to _ (c.read.ensures.honest.0 fair))
    (changes_read (g.B.Bank.honest c.args.array.now.bank) 0 old mid c.read.new.to (Ok tt) c.in_ok-read.ensures.reads) c.read_from.ensures.changes

pub returns-clause-cause : goal.returns-clause-cause
returns-clause-cause g c = λ refusal is.
    let old = array_view c.args.array.now in
    let mid = array_view c.read.new.self in
    then_ends (g.B.Bank.honest c.args.array.now.bank) old mid (array_view c.read_from.new.array) c.read_from.result refusal
    (read_then (g.B.Bank.honest c.args.array.now.bank) (g.B.Bank.honest c.read.new.self.bank) c.read.ensures.honest.0 old mid (array_view c.read_from.new.array)
    c.read_from.result
    (λ fair. g.met.B.Bank.true_to _ (c.read.ensures.honest.0 fair))
    (changes_read (g.B.Bank.honest c.args.array.now.bank) 0 old mid c.read.new.to (Ok tt) c.in_ok-read.ensures.reads) c.read_from.ensures.changes)
    (c.read_from.ensures.cause refusal is)

pub returns-clause-gives : goal.returns-clause-gives
returns-clause-gives g c = λ fair. where_ok c.read_from.result (c.read_from.ensures.gives (c.read.ensures.honest.0 fair)) (λ gives.
    let version = c.in-Some.version in
    let to = c.read.new.to in
    let part = c.read_from.new.sectors in
    let n = c.table_length.result in
    let is : n ≡ table_length version = c.table_length.ensures in
    let there = get_or-set_same c.args.sectors.now 0 to [] (omega (arith, c.told-sectors)) in
    let beyond = length-beyond n c.args.sectors.now to c.told-sectors (omega (arith, is, table_short version)) in
    let many : length part + 1 ≡ n = omega (arith, c.read_from.auto.sectors, beyond, is, table_long version) in
    gives_table c.args.array.now.table.geometry.format (g.B.Bank.honest c.args.array.now.bank) (array_view c.args.array.now) (array_view c.read.new.self)
    version n to part _ c.in-Some.ensures.some.0
    (sym there ∙ c.in-Some.ensures.some.1) is
    (put_is n c.args.sectors.now part to (omega (arith, c.told-sectors)) many) beyond c.in_ok-read.ensures.reads gives fair)

pub returns-clause-spelled : goal.returns-clause-spelled
returns-clause-spelled g c = λ fair. where_ok c.read_from.result (c.read_from.ensures.reads (c.read.ensures.honest.0 fair))
    (λ reads none table of_format spelled.
    let version = c.in-Some.version in
    let to = c.read.new.to in
    let part = c.read_from.new.sectors in
    let n = c.table_length.result in
    let is : n ≡ table_length version = c.table_length.ensures in
    let there = get_or-set_same c.args.sectors.now 0 to [] (omega (arith, c.told-sectors)) in
    let beyond = length-beyond n c.args.sectors.now to c.told-sectors (omega (arith, is, table_short version)) in
    let many : length part + 1 ≡ n = omega (arith, c.read_from.auto.sectors, beyond, is, table_long version) in
    reads_spelled c.args.array.now.table.geometry.format (array_view c.args.array.now) (array_view c.read.new.self) (array_view c.read_from.new.array) version
    n to part _ table of_format
    c.in-Some.ensures.some.0 (sym there ∙ c.in-Some.ensures.some.1) is
    (put_is n c.args.sectors.now part to (omega (arith, c.told-sectors)) many) c.in_ok-read.ensures.reads.goes_on c.read_from.ensures.changes.goes_on none
    (c.in_ok-read.ensures.whole fair) (λ up k below. reads up k (omega (arith, below, beyond))) spelled)
