use Rattle.std.proofs.Common.{length, ap, ◌∙◌, arith}
use borrow.Rule.Slice.PartMut.{put_mid}
use Rattle.stripe_journal.proofs.Spellings.{length-numbers, listed, started_none}
use Rattle.stripe_journal.proofs.codec.encode_listed.Goals as goal

pub returns : goal.returns
returns c =
    ap (put_mid 128 32 _) c.copy_from_slice.ensures.after
    ∙ listed c.args.rows.now c.args.masks.now c.fill.new.self c.write_u32_into.new.dst _
    (c.fill.ensures.after (λ y same. cc) ∙ started_none 464 (length c.args.to.now) c.told-to)
    c.requires c.told-masks c.write_u32_into.ensures
    (omega (arith, ap length c.write_u32_into.ensures, length-numbers c.args.rows.now))
