use Rattle.std.proofs.Common.{◌∙◌, refl, sym, ap}
use Rattle.superblock.specs.Reading.{fields_of}
use Rattle.superblock.specs.Spelling.{superblock_sector}
use Rattle.superblock.proofs.Found.{same_found, not_both, not_true}
use Rattle.superblock.proofs.codec.decode.Goals as goal

pub returns-in_err-superblock-clause-exact : goal.returns-in_err-superblock-clause-exact
returns-in_err-superblock-clause-exact c = λ s same.
    let read = same_found c.read_fields.result c.in_ok-read_fields.field-0 (fields_of s) c.in_ok-read_fields.was (c.read_fields.ensures s same) in
    absurd (not_both c.judge.result s c.in_err-superblock.was (c.judge.ensures s read))

pub returns-then-spells-clause-exact : goal.returns-then-spells-clause-exact
returns-then-spells-clause-exact c = λ s same.
    let read = same_found c.read_fields.result c.in_ok-read_fields.field-0 (fields_of s) c.in_ok-read_fields.was (c.read_fields.ensures s same) in
    sym c.in_ok-superblock.was ∙ c.judge.ensures s read

pub returns-else-spells-clause-exact : goal.returns-else-spells-clause-exact
returns-else-spells-clause-exact c = λ s same.
    let read = same_found c.read_fields.result c.in_ok-read_fields.field-0 (fields_of s) c.in_ok-read_fields.was (c.read_fields.ensures s same) in
    let judged = same_found c.judge.result c.in_ok-superblock.superblock s c.in_ok-superblock.was (c.judge.ensures s read) in
    absurd (not_true c.spells.result c.if-spells.false (c.spells.ensures.1 (same ∙ ap superblock_sector (sym judged))))

pub returns-in_err-read_fields-clause-some : goal.returns-in_err-read_fields-clause-some
returns-in_err-read_fields-clause-some c = rw c.from_residual.ensures tt

pub returns-in_err-read_fields-clause-exact : goal.returns-in_err-read_fields-clause-exact
returns-in_err-read_fields-clause-exact c = λ s same. absurd
    (not_both c.read_fields.result (fields_of s) c.in_err-read_fields.was (c.read_fields.ensures s same))

pub returns-in_err-superblock-clause-some : goal.returns-in_err-superblock-clause-some
returns-in_err-superblock-clause-some c = rw c.from_residual-in_err-superblock.ensures tt

pub returns-then-spells-clause-some : goal.returns-then-spells-clause-some
returns-then-spells-clause-some c = c.if-spells.ensures.0 refl

pub returns-else-spells-clause-some : goal.returns-else-spells-clause-some
returns-else-spells-clause-some c = tt
