use Rattle.std.proofs.Common.{◌≡◌, length, sym, ◌∙◌, ap}
use Rattle.batch.proofs.Kept.{none_left, waiting_long}
use Rattle.batch.specs.Listed.{places_in}
use Rattle.batch.specs.Batches.{waiting}
use Rattle.batch.proofs.batch.Batch.is_empty.Goals as goal

pub returns : goal.returns
returns c =
    let batch = c.args.self.now in
    let long : length (waiting batch) ≡ length (places_in batch.places) = waiting_long batch in (
      λ is. none_left (waiting batch) (long ∙ ap length (c.is_empty.ensures.0 is)),
      λ none. c.is_empty.ensures.1 (none_left (places_in batch.places) (sym long ∙ ap length none)),
    )
