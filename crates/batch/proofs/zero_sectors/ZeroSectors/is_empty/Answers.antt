use Rattle.std.proofs.Common.{◌≡◌, sym, ◌∙◌, ap, length}
use Rattle.batch.specs.Listed.{places_in}
use Rattle.batch.specs.Zeroed.{zeroed}
use Rattle.batch.proofs.Kept.{none_left}
use Rattle.batch.proofs.ZeroedSectors.{zeroed_long}
use Rattle.batch.proofs.zero_sectors.ZeroSectors.is_empty.Goals as goal

pub returns : goal.returns
returns c =
    let zeros = c.args.self.now in
    let long : length (zeroed zeros) ≡ length (places_in zeros.places) = zeroed_long zeros in (
      λ is. none_left (zeroed zeros) (long ∙ ap length (c.is_empty.ensures.0 is)),
      λ none. c.is_empty.ensures.1 (none_left (places_in zeros.places) (sym long ∙ ap length none)),
    )
