use Rattle.std.proofs.Common.{◌≤◌, length, take, subst, arith}
use Rattle.std.proofs.lemmas.List.{length-take-le}
use Rattle.std.specs.Io.BufRead.{FillKeeps}
use Rattle.std.proofs.BufReadLemmas.{Consumes_shown}
use Rattle.requests.proofs.blocks.skip_part.Goals as goal

pub returns-clause-skipped : goal.returns-clause-skipped
returns-clause-skipped g c =
    let shown = c.in-Ok.shown.now in
    let count = c.min-count.result in
    let within : count ≤ length shown = omega (arith, c.min-count.ensures) in
    let rested = c.fill_buf.follows.lender-at-none in
    let filled = subst (FillKeeps _ (g.R.Read.remaining rested) (g.R.BufRead.consumable_len rested)) c.in-Ok.is c.fill_buf.follows.holds-at-none in (
      omega (arith, c.min-count.ensures),
      record {
        skipped = take count shown;
        consumed = (Consumes_shown _ _ _ _ shown count within c.in-Ok.ensures.front c.in-Ok.ensures.end filled.0 filled.1 c.consume.ensures.bytes).0;
        all = length-take-le count shown within;
      },
    )
