use Rattle.std.proofs.Common.{◌≡◌, ◌<◌, ℕ, [], length, get_or, set, ◌∙◌, below_more, arith}
use Rattle.std.proofs.lemmas.List.{take_at, get_or-set_same, get_or-set_other, length-set}
use Rattle.extents.specs.TableSpelling.{entries_in, sector_of}
use Rattle.extents.specs.Versions.{table_length}
use Rattle.extents.proofs.Sectors.{spelling_is}
use Rattle.extents.proofs.Versions.{table_length_most}
use Rattle.extents.proofs.volume_table.VolumeTable.encode.Goals as goal

pub loop-number-preserved : goal.loop-number-preserved
loop-number-preserved c =
    let table = c.args.self.now in
    let number = c.loop-number.number in
    let items = c.loop-number.sector-items in
    let sector = c.write_sector.new.to in
    let within : number < length items = omega arith in
    record {
      long = length-set items number sector ∙ c.loop-number.invariant.long;
      done = below_more (λ (k : ℕ). get_or (set items number sector) k [] ≡ sector_of table.version table.records (entries_in table) k) number
          (λ k below. get_or-set_other items number k sector [] (λ same. omega arith) ∙ c.loop-number.invariant.done k below)
          (get_or-set_same items number sector [] within ∙ c.write_sector.ensures);
    }

pub slice_bounds-sector-items-end : goal.slice_bounds-sector-items-end
slice_bounds-sector-items-end c = omega (arith, c.table_length-length.ensures, table_length_most c.args.self.now.version)

pub returns-clause-spelled : goal.returns-clause-spelled
returns-clause-spelled c =
    let table = c.args.self.now in
    let items = c.loop-number.sector-items in
    take_at items _ (table_length table.version) c.loop-number.invariant.long
    ∙ spelling_is table.version table.records (entries_in table) items c.loop-number.invariant.long
    (λ k within. c.loop-number.invariant.done k (omega
    (arith, within, c.loop-number-test.false, c.table_length-length.ensures, c.loop-number.auto.number-end, c.loop-number.invariant.long)))
