use Rattle.std.proofs.Common.{refl, arith, codes}
use Rattle.std.proofs.lemmas.Result.{err_from_is_err_and}
use Rattle.clap.specs.Words.{found_of, rows_of}
use Rattle.command_line.specs.Invocations.{IsBySize, IsByStripes, of_room}
use Rattle.command_line.proofs.NumberReads.{number_or, number_some, number_value}
use Rattle.command_line.proofs.OneAsked.{no_bad_id, no_room_value}
use Rattle.command_line.proofs.SetReads.{flag_value, is_given, none_given, not_both}
use Rattle.command_line.proofs.reading.read_by_size.Goals as goal

pub unwrap-requires : goal.unwrap-requires
unwrap-requires c =
    number_some 8 255 (found_of c.args.matches.now) (codes "members") c.get_one.result c.requires.values.members c.get_one.ensures.value (omega arith)

pub returns-then-is_some-clause-err : goal.returns-then-is_some-clause-err
returns-then-is_some-clause-err c =
    let found = found_of c.args.matches.now in
    let good = no_bad_id (codes "make") (rows_of found) c.args.set.folder.now c.args.set.choice c.args.set.id c.requires.set in
    let some = is_given found (codes "stripes") c.get_str.result c.get_str.ensures c.is_some.result c.is_some.ensures c.if-is_some.true in
    let by_stripes : ¬ IsByStripes (rows_of found) = λ form. not_both (rows_of found) (codes "size") c.args.size.now c.requires.size form.no_size in
    let by_size : ¬ IsBySize (rows_of found) = λ form. let never = rw form.no_stripes at some in cc in
    (good, refl, (by_stripes, by_size))

pub returns-in_err-size-clause-err : goal.returns-in_err-size-clause-err
returns-in_err-size-clause-err c =
    let rows = rows_of (found_of c.args.matches.now) in
    let p = err_from_is_err_and c.from_residual.result c.from_residual.ensures.1 in
    let good = no_bad_id (codes "make") rows c.args.set.folder.now c.args.set.choice c.args.set.id c.requires.set in
    let out = none_given (found_of c.args.matches.now) (codes "stripes") c.get_str.result c.get_str.ensures c.is_some.result c.is_some.ensures
    c.if-is_some.false in
    let by_size : IsBySize rows = record { has_size = rw c.requires.size refl; no_stripes = out } in
    rw (p.1, p.2, c.in_err-size.ensures.err.0) (
      good,
      of_room refl by_size (no_room_value rows c.args.size.now c.requires.size c.in_err-size.ensures.err.1),
    )

pub returns-clause-ok : goal.returns-clause-ok
returns-clause-ok c =
    let found = found_of c.args.matches.now in
    let rows = rows_of found in
    let out = none_given found (codes "stripes") c.get_str.result c.get_str.ensures c.is_some.result c.is_some.ensures c.if-is_some.false in
    let by_size : IsBySize rows = record { has_size = rw c.requires.size refl; no_stripes = out } in
    let members = number_value 8 255 found (codes "members") _ c.requires.values.members c.get_one.ensures.value (omega arith) _ c.unwrap.ensures in
    let chunk = number_or 16 65535 128 found (codes "chunk") c.get_one-chunk.result c.requires.values.chunk c.get_one-chunk.ensures.none
    c.get_one-chunk.ensures.value (omega arith) in
    let over = flag_value found (codes "over") c.get_flag.result c.requires.values.over c.get_flag.ensures.value c.get_flag.ensures.other in
    let reserve = flag_value found (codes "reserve") c.get_flag-2.result c.requires.values.reserve c.get_flag-2.ensures.value c.get_flag-2.ensures.other in
    rw c.asks.ensures (
      refl,
      c.requires.set,
      record {
        by_size = by_size;
        members_is = members;
        chunk_is = rw c.unwrap_or.ensures chunk;
        size_is = (c.args.size.now, c.requires.size, c.in_ok-size.ensures.ok);
        over_is = over;
        reserve_is = reserve;
      },
    )
