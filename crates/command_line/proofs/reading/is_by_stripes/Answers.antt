use Rattle.std.proofs.Common.{false, codes, sym, true≢false, ◌∙◌}
use Rattle.clap.specs.Words.{found_of, rows_of}
use Rattle.command_line.proofs.OneAsked.{one_flag}
use Rattle.command_line.proofs.SetReads.{flag_value, is_given, not_given}
use Rattle.command_line.proofs.reading.is_by_stripes.Goals as goal
use Rattle.command_line.proofs.reading.is_by_stripes.Goals.{then-get_flag-via-then-get_flag, then-get_flag-via-else-get_flag+then-get_flag-2}

pub returns-then-get_flag-clause-is_not : goal.returns-then-get_flag-clause-is_not
returns-then-get_flag-clause-is_not c = λ _ form.
    let found = found_of c.args.matches.now in elim c.then-get_flag.branch [
      | then-get_flag-via-then-get_flag w ↦
          let over = flag_value found (codes "over") c.get_flag.result c.requires.values.over c.get_flag.ensures.value c.get_flag.ensures.other in
          let same = one_flag (rows_of found) (codes "over") c.get_flag.result false over form.not_over in
          true≢false (sym w.if-get_flag.true ∙ same)
      | then-get_flag-via-else-get_flag+then-get_flag-2 w ↦
          let got = w.get_flag-else-get_flag in
          let reserve = flag_value found (codes "reserve") got.result c.requires.values.reserve got.ensures.value got.ensures.other in
          let same = one_flag (rows_of found) (codes "reserve") got.result false reserve form.no_reserve in
          true≢false (sym w.if-get_flag-2.true ∙ same)
    ]

pub returns-then-is_some-clause-is : goal.returns-then-is_some-clause-is
returns-then-is_some-clause-is c = λ on.
    let found = found_of c.args.matches.now in
    let got = c.get_flag-else-get_flag in
    let over = flag_value found (codes "over") c.get_flag.result c.requires.values.over c.get_flag.ensures.value c.get_flag.ensures.other in
    let reserve = flag_value found (codes "reserve") got.result c.requires.values.reserve got.ensures.value got.ensures.other in
    record {
      no_size = c.requires.no_size;
      has_chunk = is_given found (codes "chunk") c.get_str.result c.get_str.ensures c.is_some.result c.is_some.ensures c.if-is_some.true;
      has_stripes =
          is_given found (codes "stripes") c.get_str-then-is_some.result c.get_str-then-is_some.ensures c.is_some-then-is_some.result
          c.is_some-then-is_some.ensures on;
      not_over = rw c.if-get_flag.false at over;
      no_reserve = rw c.if-get_flag-2.false at reserve;
    }

pub returns-then-is_some-clause-is_not : goal.returns-then-is_some-clause-is_not
returns-then-is_some-clause-is_not c = λ off form.
    not_given (found_of c.args.matches.now) (codes "stripes") c.get_str-then-is_some.result c.get_str-then-is_some.ensures c.is_some-then-is_some.result
    c.is_some-then-is_some.ensures off form.has_stripes

pub returns-else-is_some-clause-is_not : goal.returns-else-is_some-clause-is_not
returns-else-is_some-clause-is_not c = λ off form.
    not_given (found_of c.args.matches.now) (codes "chunk") c.get_str.result c.get_str.ensures c.is_some.result c.is_some.ensures off form.has_chunk
