use Rattle.std.proofs.Common.{◌≡◌, ◌+◌, ◌≤◌, OnSome, length, take, take_all, sym, ap, subst, ◌∙◌, rules, arith}
use Rattle.std.specs.Io.BufRead.{FillKeeps}
use Rattle.std.specs.Io.KnownBytes.{Consumes, IsAtEnd}
use Rattle.std.proofs.BufReadLemmas.{Consumes_shown}
use Rattle.report.proofs.LineLemmas.{ReadsPart-nothing}
use Rattle.report.proofs.lines.read_part.Given.{Over}
use Rattle.report.proofs.lines.read_part.Goals.{After-consume}
use Rattle.report.proofs.lines.read_part.Goals as goal
use Rattle.report.specs.declared.lines.TheConstants.{LONGEST_LINE}

pub returns-then-eq-clause-read : goal.returns-then-eq-clause-read
returns-then-eq-clause-read g c = ReadsPart-nothing _ _ _ _ c.fill_buf.follows.holds-at-none.0 (sym (take_all (LONGEST_LINE + 1) _ (search rules)))

-- the bytes of the part and of its end are gone, and where none was shown none is left
moved : (g : Over) (c : After-consume g)
    → Consumes (g.R.Read.remaining c.args.reader.now) (g.R.Read.remaining c.consume.new.self)
    (take (c.find_end-part_len.result.0 + c.end_len.result) c.in-Ok.shown.now)
    × (length c.in-Ok.shown.now ≡ 0 → OnSome (g.R.Read.remaining c.args.reader.now) (IsAtEnd (g.R.Read.remaining c.consume.new.self)))
moved g c =
    let found = c.find_end-part_len.ensures in
    let amount = c.find_end-part_len.result.0 + c.end_len.result in
    let within : amount ≤ length c.in-Ok.shown.now = omega arith in
    let rested = c.fill_buf.follows.lender-at-none in
    let filled = subst (FillKeeps _ (g.R.Read.remaining rested) (g.R.BufRead.consumable_len rested)) c.in-Ok.is c.fill_buf.follows.holds-at-none in
    Consumes_shown _ _ _ _ c.in-Ok.shown.now amount within c.in-Ok.ensures.front c.in-Ok.ensures.end filled.0 filled.1 c.consume.ensures.bytes

pub returns-clause-read : goal.returns-clause-read
returns-clause-read g c =
    let part_len = c.find_end-part_len.result.0 in
    let shown = c.in-Ok.shown.now in
    record {
      part = take part_len shown;
      unbroken = c.find_end-part_len.ensures.unbroken;
      consumed = subst (Consumes _ _) (ap (λ k. take (part_len + k) shown) c.end_len.ensures ∙ c.find_end-part_len.ensures.through) (moved g c).0;
      first = c.keep.ensures.items;
    }

pub returns-clause-end : goal.returns-clause-end
returns-clause-end g c = λ done. (moved g c).1 (c.find_end-part_len.ensures.none cc)
