use Rattle.std.proofs.Common.{◌≡◌, ℕ, ◌<◌, length, true, sym, ap, subst, arith}
use Rattle.std.specs.Prelude.{slice_set}
use Rattle.layout_map.specs.Placement.{data_sectors_of}
use Rattle.batch.specs.declared.placed.Placed.{Placed}
use Rattle.batch.specs.declared.staging.Claim.{Claim}
use Rattle.batch.specs.declared.staging.Claim.TheVariants.{Has, Full, At}
use Rattle.batch.specs.Among.{IsPlacedAs}
use Rattle.batch.specs.Listed.{places_in}
use Rattle.batch.specs.Places.{LiesAt}
use Rattle.batch.specs.Staging.{IsAdded}
use Rattle.batch.proofs.Placing.{IsInserted}
use Rattle.batch.proofs.Staged.{added_not, added_one, added_there, none_found, some_found}
use Rattle.batch.proofs.staging.claim_place.Goals as goal

-- the number that it gets
its_number : (at number limit : ℕ) → At at ≡ At number → at < limit → number < limit
its_number at number limit is below = subst (λ (n : ℕ). n < limit) (ap number_of is) below
  where
    number_of : Claim → ℕ
    number_of Has = 0
    number_of Full = 0
    number_of (At n) = n

pub returns-then-is_some : goal.returns-then-is_some
returns-then-is_some c = record {
  room = λ number other. absurd (cc);
  adds = λ all sector same room held.
      let place = c.place-place.result in
      let places = places_in c.args.places.now in
      let found = some_found c.find.result (λ (at : ℕ). IsPlacedAs places place.row place.member at) (c.if-is_some.ensures) c.find.ensures.some in
      added_there c.args.geometry.now all places held c.args.most place.row place.member found.0 sector
      (subst (λ (l : ℕ). LiesAt c.args.geometry.now l place.row place.member) (sym same) c.place-place.ensures.placed) found.1;
}

pub returns-then-at-most : goal.returns-then-at-most
returns-then-at-most c = record {
  room = λ number other. absurd (cc);
  adds = λ all sector same room held.
      let place = c.place-place.result in
      let places = places_in c.args.places.now in
      added_not c.args.geometry.now all places held c.args.most place.row place.member sector
      (subst (λ (l : ℕ). LiesAt c.args.geometry.now l place.row place.member) (sym same) c.place-place.ensures.placed)
      (c.find.ensures.none (none_found c.find.result c.if-is_some.ensures))
      (omega (arith, c.if-at-most.true, c.len-at.ensures.count));
}

pub returns : goal.returns
returns c =
    let geometry = c.args.geometry.now in
    let place = c.place-place.result in
    let places = places_in c.args.places.now in
    let more = places_in c.insert.new.self in
    let at : c.len-at.result ≡ length places = c.len-at.ensures.count in
    let placed : ℕ → Placed = λ n. record { row = place.row; member = place.member; at = n } in
    let inserted : IsInserted places (placed c.len-at.result) more = record {
      more = c.insert.ensures.more;
      has = c.insert.ensures.has;
      keeps = c.insert.ensures.keeps;
      only = c.insert.ensures.only;
    } in
    record {
      room = λ number is. its_number c.len-at.result number c.args.most is c.if-at-most.false;
      adds = λ all sector same room held.
          subst (λ (n : ℕ). IsAdded geometry c.args.most sector all (slice_set all n sector) places more true) (sym at)
          (added_one geometry all places held c.args.most place.row place.member sector more
          (omega (arith, at, c.if-at-most.false, room)) (omega (arith, at, c.if-at-most.false))
          (subst (λ (l : ℕ). l < data_sectors_of geometry.members geometry.chunk geometry.stripes) (sym same) c.requires.of_set)
          (subst (λ (l : ℕ). LiesAt geometry l place.row place.member) (sym same) c.place-place.ensures.placed)
          (c.find.ensures.none (none_found c.find.result c.if-is_some.ensures))
          c.insert.new.self.rising (subst (λ (n : ℕ). IsInserted places (placed n) more) at inserted));
    }
