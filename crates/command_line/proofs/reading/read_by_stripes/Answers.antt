use Rattle.std.proofs.Common.{rules, refl, arith, codes}
use Rattle.clap.specs.Words.{found_of, rows_of}
use Rattle.command_line.proofs.NumberReads.{number_given, number_some, number_value}
use Rattle.command_line.proofs.reading.read_by_stripes.Goals as goal

pub unwrap-requires : goal.unwrap-requires
unwrap-requires c =
    number_some 8 255 (found_of c.args.matches.now) (codes "members") c.get_one.result c.requires.values.members c.get_one.ensures.value (omega arith)

pub unwrap-requires-2 : goal.unwrap-requires-2
unwrap-requires-2 c =
    let found = found_of c.args.matches.now in
    let form = c.is_by_stripes.ensures.is (search rules) in
    let has = number_given (rows_of found) (codes "chunk") 65535 c.requires.values.chunk form.has_chunk in
    number_some 16 65535 found (codes "chunk") c.get_one-2.result has c.get_one-2.ensures.value (omega arith)

pub unwrap-requires-3 : goal.unwrap-requires-3
unwrap-requires-3 c =
    let found = found_of c.args.matches.now in
    let form = c.is_by_stripes.ensures.is (search rules) in
    let has = number_given (rows_of found) (codes "stripes") 4294967295 c.requires.values.stripes form.has_stripes in
    number_some 32 4294967295 found (codes "stripes") c.get_one-3.result has c.get_one-3.ensures.value (omega arith)

pub returns-clause-ok : goal.returns-clause-ok
returns-clause-ok c =
    let found = found_of c.args.matches.now in
    let form = c.is_by_stripes.ensures.is (search rules) in
    let has_chunk = number_given (rows_of found) (codes "chunk") 65535 c.requires.values.chunk form.has_chunk in
    let has_stripes = number_given (rows_of found) (codes "stripes") 4294967295 c.requires.values.stripes form.has_stripes in
    let members = number_value 8 255 found (codes "members") _ c.requires.values.members c.get_one.ensures.value (omega arith) _ c.unwrap.ensures in
    let chunk = number_value 16 65535 found (codes "chunk") _ has_chunk c.get_one-2.ensures.value (omega arith) _ c.unwrap-2.ensures in
    let stripes = number_value 32 4294967295 found (codes "stripes") _ has_stripes c.get_one-3.ensures.value (omega arith) _ c.unwrap-3.ensures in
    rw c.asks.ensures (refl, c.requires.set, record { members_is = members; chunk_is = chunk; stripes_is = stripes }, form)
