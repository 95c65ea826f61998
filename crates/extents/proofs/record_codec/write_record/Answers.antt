use Rattle.std.proofs.Common.{length, sym, ap, ◌∙◌}
use Rattle.extents.specs.TableSpelling.{record_bytes}
use Rattle.extents.specs.Versions.{record_width}
use Rattle.extents.proofs.Bytes.{filled}
use Rattle.extents.proofs.record_codec.write_record.Goals as goal

pub write_used-requires : goal.write_used-requires
write_used-requires c = record {
  short = c.requires.short c.in-Some.used c.in-Some.is;
  clear = c.fill.ensures.after (λ y same. cc) ∙ filled (length c.args.to.now) (record_width c.args.version) c.requires.long;
}

pub returns-in_default : goal.returns-in_default
returns-in_default c = c.fill.ensures.after (λ y same. cc) ∙ filled (length c.args.to.now) (record_width c.args.version) c.requires.long
    ∙ ap (record_bytes c.args.version) (sym c.in_default.is)
