use Rattle.std.proofs.Common.{◌≡◌, ◌+◌, ◌*◌, ◌-◌, ◌&&◌, Bool, true, false, length, take_all, get_or, ap, sym, ◌∙◌, arith}
use Rattle.std.specs.List.{flat_map}
use Rattle.std.proofs.lemmas.List.{get_or_default}
use Rattle.extents.specs.ExtentMaps.{is_dirty}
use Rattle.extents.specs.Owners.{owner_of}
use Rattle.extents.specs.TableSpelling.{entries_of, entry_bytes, no_entry}
use Rattle.extents.specs.Versions.{tells_dirty}
use Rattle.extents.proofs.Bytes.{length-put_mid}
use Rattle.extents.proofs.Cells.{cell_written}
use Rattle.extents.proofs.Entries.{entry_at, length-entries_of}
use Rattle.extents.proofs.Spelled.{length-entry_bytes}
use Rattle.extents.proofs.owner_codec.write_entries.Goals as goal

pub loop-number-preserved : goal.loop-number-preserved
loop-number-preserved c =
    let number = c.loop-number.number in
    let version = c.args.version in
    let owners = c.args.extents.now in
    let dirty = c.args.dirty.now in
    let entries = entries_of version owners dirty in
    let new = c.write_entry.new.to in
    let below = c.loop-number-test.true in
    let marked : c.marked_by-marked.result ≡ (tells_dirty version && is_dirty dirty number) =
    c.marked_by-marked.ensures
    ∙ ap (λ (b : Bool). c.tells_dirty-marks.result && b)
    (get_or_default dirty number false true (omega (arith, below, c.requires.long, c.requires.as_many)))
    ∙ ap (λ (b : Bool). b && is_dirty dirty number) c.tells_dirty-marks.ensures in
    let is : new ≡ entry_bytes (get_or entries number no_entry) =
    c.write_entry.ensures
    ∙ ap (λ (b : Bool). entry_bytes (owner_of owners number, b)) marked
    ∙ ap entry_bytes (sym (entry_at version owners dirty number below)) in
    let long : length new ≡ 4 = ap length is ∙ length-entry_bytes (get_or entries number no_entry) in
    let all = c.loop-number.invariant.long in
    record {
      long = length-put_mid (4 * number) (4 * number + 4 - 4 * number) c.loop-number.to new (omega arith) (omega arith) ∙ all;
      done = cell_written entry_bytes 4 no_entry entries number c.loop-number.to new (omega (arith, below, length-entries_of version owners dirty))
          (omega arith) long
          is c.loop-number.invariant.done;
    }

pub returns : goal.returns
returns c =
    let number = c.loop-number.number in
    let entries = entries_of c.args.version c.args.extents.now c.args.dirty.now in
    let last : number ≡ 128 = omega (arith, c.loop-number-test.false, c.loop-number.auto.number-end, c.requires.long) in
    sym (take_all (4 * number) c.loop-number.to (omega (arith, c.loop-number.invariant.long)))
    ∙ c.loop-number.invariant.done
    ∙ ap (flat_map entry_bytes)
    (take_all number entries (omega (arith, c.requires.long, length-entries_of c.args.version c.args.extents.now c.args.dirty.now)))
