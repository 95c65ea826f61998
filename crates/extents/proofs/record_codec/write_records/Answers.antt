use Rattle.std.proofs.Common.{◌≡◌, ◌+◌, ◌-◌, ◌*◌, ◌<◌, ◌≤◌, ℕ, None, length, take_all, sym, ap, ◌∙◌, arith}
use Rattle.std.specs.List.{flat_map}
use Rattle.extents.specs.TableSpelling.{record_bytes}
use Rattle.extents.specs.Versions.{records_a_sector}
use Rattle.extents.specs.VolumeTables.{record_of}
use Rattle.extents.proofs.Bytes.{length-put_mid}
use Rattle.extents.proofs.Cells.{cell_written}
use Rattle.extents.proofs.Spelled.{length-record_bytes}
use Rattle.extents.proofs.Tables.{read_at}
use Rattle.extents.proofs.Versions.{cell_fits, width_all}
use Rattle.extents.proofs.record_codec.write_records.Goals as goal

-- a record's bytes lie within the sector
fits : (width each number : ℕ) → width * each ≡ 512 → (long : ℕ) → long ≡ each → number < long → width * number + width ≤ 512
fits width each number all long is below = cell_fits width each number all (omega arith)

pub slice_bounds-write_record-end : goal.slice_bounds-write_record-end
slice_bounds-write_record-end c =
    omega (
      arith,
      fits c.record_width-width.result (records_a_sector c.args.version) c.loop-number.number
          (ap (λ (n : ℕ). n * records_a_sector c.args.version) c.record_width-width.ensures.number ∙ width_all c.args.version) (length c.args.records.now)
          c.requires.long c.loop-number-test.true,
      c.loop-number.invariant.long,
    )

pub loop-number-preserved : goal.loop-number-preserved
loop-number-preserved c =
    let width = c.record_width-width.result in
    let number = c.loop-number.number in
    let records = c.args.records.now in
    let one = c.index-records-number.result in
    let below = c.loop-number-test.true in
    let read : record_of records number ≡ one = read_at records number one below c.index-records-number.is in
    let room : width * number + width ≤ 512 = fits width (records_a_sector c.args.version) number
    (ap (λ (n : ℕ). n * records_a_sector c.args.version) c.record_width-width.ensures.number ∙ width_all c.args.version) (length records) c.requires.long
    below in
    let long : length c.write_record.new.to ≡ width = ap length c.write_record.ensures ∙ ap (λ r. length (record_bytes c.args.version r)) (sym read)
    ∙ length-record_bytes c.args.version (record_of records number) (c.requires.short number below) ∙ sym c.record_width-width.ensures.number in
    let all = c.loop-number.invariant.long in
    record {
      long = length-put_mid (width * number) (width * number + width - width * number) c.loop-number.to c.write_record.new.to (omega arith) (omega arith) ∙ all;
      done = cell_written (record_bytes c.args.version) width None records number c.loop-number.to c.write_record.new.to below (omega arith) long
          (c.write_record.ensures ∙ ap (record_bytes c.args.version) (sym read)) c.loop-number.invariant.done;
    }

pub returns : goal.returns
returns c =
    let width = c.record_width-width.result in
    let number = c.loop-number.number in
    let records = c.args.records.now in
    let last : number ≡ length records = omega (arith, c.loop-number-test.false, c.loop-number.auto.number-end) in
    let full : width * number ≡ 512 = ap (λ (n : ℕ). width * n) (last ∙ c.requires.long)
    ∙ ap (λ (n : ℕ). n * records_a_sector c.args.version) c.record_width-width.ensures.number ∙ width_all c.args.version in
    sym (take_all (width * number) c.loop-number.to (omega (arith, c.loop-number.invariant.long)))
    ∙ c.loop-number.invariant.done
    ∙ ap (flat_map (record_bytes c.args.version)) (take_all number records (omega arith))
