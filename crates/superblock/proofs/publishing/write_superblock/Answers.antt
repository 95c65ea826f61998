use Rattle.std.proofs.Common.{◌≡◌, [], ◌∷◌, sym, subst}
use Rattle.std.specs.Prelude.{is_ok}
use Rattle.sector_model.specs.Calls.{Made, Write}
use Rattle.sector_model.specs.History.{Bytes}
use Rattle.superblock.specs.Publishing.{place_of}
use Rattle.superblock.proofs.PublishCode.{made_one}
use Rattle.superblock.proofs.publishing.write_superblock.Goals as goal

pub own_sector-sector-requires-clause-of_set : goal.own_sector-sector-requires-clause-of_set
own_sector-sector-requires-clause-of_set g c = c.requires.of_set

pub own_sector-sector-requires-clause-there : goal.own_sector-sector-requires-clause-there
own_sector-sector-requires-clause-there g c = c.requires.there

pub returns-clause-made : goal.returns-clause-made
returns-clause-made g c = λ sector honest stands.
    let slot = c.args.slot in
    let place = place_of c.args.new.now in
    let same : sector ≡ c.own_sector-sector.result = sym (c.own_sector-sector.ensures sector stands) in
    let still = c.write_sector.ensures.honest.0 honest in
    let made = made_one (Write slot place c.own_sector-sector.result) c.write_sector.result (g.B.Bank.panel c.write_sector.new.bank)
    (c.write_sector.ensures.history honest) c.write_sector.ensures.up (g.met.B.Bank.true_to _ still) in
    subst (λ (bytes : Bytes). Made (Write slot place bytes ∷ []) (is_ok c.write_sector.result) (g.B.Bank.history c.args.bank.now)
    (g.B.Bank.history c.write_sector.new.bank))
    (sym same) made
