use Rattle.std.proofs.Common.{ℕ, refl, sym, subst, arith}
use Rattle.std.specs.Prelude.{true}
use Rattle.sector_model.specs.History.{Bytes}
use Rattle.parity.specs.Xor.{zero_sector}
use Rattle.batch.specs.Listed.{places_in}
use Rattle.batch.specs.Places.{Given}
use Rattle.batch.specs.Staging.{IsAdded}
use Rattle.batch.specs.ZeroSectors.{with_zeros}
use Rattle.batch.proofs.ZeroedSectors.{zeros_long, zeros_set}
use Rattle.batch.proofs.zero_sectors.list_one.Goals as goal

pub returns-in-Has : goal.returns-in-Has
returns-in-Has c = c.in-Has.ensures.adds (with_zeros c.args.sectors.now) (c.args.logical, zero_sector) refl
    (omega (arith, c.requires.most, c.requires.long, zeros_long c.args.sectors.now)) c.requires.held

pub returns-in-Full : goal.returns-in-Full
returns-in-Full c = c.in-Full.ensures.adds (with_zeros c.args.sectors.now) (c.args.logical, zero_sector) refl
    (omega (arith, c.requires.most, c.requires.long, zeros_long c.args.sectors.now)) c.requires.held

pub returns-in-At : goal.returns-in-At
returns-in-At c =
    let sector : ℕ × Bytes = (c.args.logical, zero_sector) in
    let all = with_zeros c.args.sectors.now in
    subst (λ (new : Given). IsAdded c.args.geometry.now c.args.most sector all new (places_in c.args.places.now) (places_in c.claim_place.new.places) true)
    (sym (zeros_set c.args.sectors.now c.in-At.at c.args.logical))
    (c.in-At.ensures.adds all sector refl (omega (arith, c.requires.most, c.requires.long, zeros_long c.args.sectors.now)) c.requires.held)
