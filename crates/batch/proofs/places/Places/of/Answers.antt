use Rattle.std.proofs.Common.{◌≡◌, ℕ, ◌+◌, length, take, sym, ◌∙◌, subst, arith}
use Rattle.std.proofs.lemmas.List.{length-take-le}
use Rattle.batch.specs.Listed.{places_in}
use Rattle.batch.specs.Places.{LiesAt, logical_at}
use Rattle.batch.proofs.Placing.{logical_taken, none_placed, placed_more, taken_more}
use Rattle.batch.proofs.places.Places.of.Goals as goal

pub insert-requires-clause-apart : goal.insert-requires-clause-apart
insert-requires-clause-apart c =
    let sectors = c.args.sectors.now in
    let now = c.loop-at in
    let long : length (take now.at sectors) ≡ now.at = length-take-le now.at sectors (omega (arith, c.loop-at-test.true)) in
    none_placed c.args.geometry.now (take now.at sectors) (places_in now.places) (logical_at sectors now.at) c.place-place.result.row
    c.place-place.result.member now.invariant c.place-place.ensures.placed
    (λ k inside same. c.requires.apart k now.at (omega (arith, inside, long)) c.loop-at-test.true
    (sym (logical_taken sectors now.at k (omega (arith, inside, long))) ∙ same))

pub loop-at-preserved : goal.loop-at-preserved
loop-at-preserved c =
    let sectors = c.args.sectors.now in
    let geometry = c.args.geometry.now in
    let now = c.loop-at in
    let place = c.place-place.result in
    let long : length (take now.at sectors) ≡ now.at = length-take-le now.at sectors (omega (arith, c.loop-at-test.true)) in
    let here : logical_at (take (now.at + 1) sectors) now.at ≡ logical_at sectors now.at = logical_taken sectors (now.at + 1) now.at (omega arith) in
    placed_more geometry (take now.at sectors) (take (now.at + 1) sectors) (places_in now.places) (places_in c.insert.new.self)
    (record { row = place.row; member = place.member; at = now.at }) now.invariant (taken_more sectors now.at c.loop-at-test.true)
    (record { more = c.insert.ensures.more; has = c.insert.ensures.has; keeps = c.insert.ensures.keeps; only = c.insert.ensures.only })
    c.insert.new.self.rising (sym long)
    (subst (λ (k : ℕ). LiesAt geometry (logical_at (take (now.at + 1) sectors) k) place.row place.member) (sym long)
    (subst (λ (l : ℕ). LiesAt geometry l place.row place.member) (sym here) c.place-place.ensures.placed))
