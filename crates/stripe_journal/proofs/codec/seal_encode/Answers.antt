use Rattle.std.proofs.Common.{rules, length, ap, ◌∙◌}
use Rattle.byteorder.specs.Endian.{little_bytes}
use Rattle.stripe_journal.proofs.Spellings.{spelled, started_none, written}
use Rattle.stripe_journal.proofs.codec.seal_encode.Goals as goal

pub returns : goal.returns
returns c =
    let seal = c.args.seal.now in
    spelled seal.id c.fill.new.self _ _ _ _ _ _ seal.number seal.form
    (c.fill.ensures.after (λ y same. cc) ∙ started_none 512 (length c.args.to.now) c.told-to)
    (search rules)
    seal.formed
    (c.copy_from_slice.ensures.after ∙ c.first_mark.ensures)
    c.copy_from_slice-2.ensures.after
    (c.write_u64.ensures ∙ written 8 _ _)
    (c.write_u32.ensures ∙ written 4 _ _ ∙ ap (little_bytes 4) c.count.ensures)
    (c.copy_from_slice-3.ensures.after ∙ c.encode_held.ensures)
    (c.copy_from_slice-4.ensures.after ∙ c.last_mark.ensures)
