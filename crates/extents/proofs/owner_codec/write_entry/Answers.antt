use Rattle.std.proofs.Common.{◌≡◌, ◌+◌, ℕ, ap, ◌∙◌}
use Rattle.byteorder.specs.Endian.{little_bytes}
use Rattle.extents.specs.TableSpelling.{mark, number_in, place_in}
use Rattle.extents.proofs.Spelled.{entry_spelled, written}
use Rattle.extents.proofs.owner_codec.write_entry.Goals as goal

pub returns : goal.returns
returns c =
    let number = number_in c.args.owner in
    let place = place_in c.args.owner + mark c.args.marked in
    let place_is : c.place_in.result + c.mark.result ≡ place =
    ap (λ (n : ℕ). n + c.mark.result) c.place_in.ensures ∙ ap (λ (n : ℕ). place_in c.args.owner + n) c.mark.ensures in
    entry_spelled (c.args.owner, c.args.marked) c.args.to.now c.write_u16.new.buf c.write_u16-2.new.buf c.requires.long
    (c.write_u16.ensures ∙ written 2 (little_bytes 2 c.number_in.result) _ ∙ ap (little_bytes 2) c.number_in.ensures)
    (c.write_u16-2.ensures ∙ written 2 (little_bytes 2 (c.place_in.result + c.mark.result)) _ ∙ ap (little_bytes 2) place_is)
