use Rattle.std.proofs.Common.{ℕ, refl, sym, ◌∙◌, ap, subst, arith}
use Rattle.sector_model.specs.declared.sector.Stop.{Stop}
use Rattle.sector_model.specs.Bank.{IsCauseOf}
use Rattle.sector_model.specs.History.{sector_of, seen}
use Rattle.sector_model.proofs.Reading.{read_one}
use Rattle.recovery.specs.Making.{bank_view}
use Rattle.recovery.proofs.Finding.{is_down_then, place_down, place_failed, place_read, place_short, place_worn}
use Rattle.recovery.proofs.find.read_place.Goals as goal

pub returns-then-is_down-clause-reads : goal.returns-then-is_down-clause-reads
returns-then-is_down-clause-reads g c =
    place_down (g.B.Bank.honest c.args.bank.now) c.args.slot c.args.place
    (bank_view (g.B.Bank.panel c.args.bank.now) (g.B.Bank.history c.args.bank.now))
    (λ honest. g.met.B.Bank.true_to c.args.bank.now honest) (sym c.is_down.ensures ∙ c.if-is_down.true)

pub returns-then-sectors-at-clause-reads : goal.returns-then-sectors-at-clause-reads
returns-then-sectors-at-clause-reads g c =
    place_short (g.B.Bank.honest c.args.bank.now) c.args.slot c.args.place
    (bank_view (g.B.Bank.panel c.args.bank.now) (g.B.Bank.history c.args.bank.now))
    (λ honest. g.met.B.Bank.true_to c.args.bank.now honest) (omega (arith, c.sectors.ensures, c.from-at.ensures, c.if-sectors-at.true)) c.ranges.place.fits

pub returns-in-Ok-clause-reads : goal.returns-in-Ok-clause-reads
returns-in-Ok-clause-reads g c =
    place_read (g.B.Bank.honest c.args.bank.now) c.args.slot c.args.place
    (bank_view (g.B.Bank.panel c.args.bank.now) (g.B.Bank.history c.args.bank.now))
    (bank_view (g.B.Bank.panel c.read_sector.new.bank) (g.B.Bank.history c.read_sector.new.bank))
    c.read_sector.new.to c.read_sector.ensures.panel
    (λ honest. read_one c.args.slot c.read_sector.result (c.read_sector.ensures.history honest))
    (sym c.is_down.ensures ∙ c.if-is_down.false)
    (λ honest. c.in-Ok.ensures.bytes honest ∙ ap (λ (at : ℕ). sector_of (seen (g.B.Bank.history c.args.bank.now) c.args.slot) at) c.from-at.ensures)

pub returns-in-Err-Down-clause-reads : goal.returns-in-Err-Down-clause-reads
returns-in-Err-Down-clause-reads g c =
    place_failed (g.B.Bank.honest c.args.bank.now) c.args.slot c.args.place
    (bank_view (g.B.Bank.panel c.args.bank.now) (g.B.Bank.history c.args.bank.now))
    (bank_view (g.B.Bank.panel c.read_sector.new.bank) (g.B.Bank.history c.read_sector.new.bank))
    c.read_sector.ensures.panel (λ honest. read_one c.args.slot c.read_sector.result (c.read_sector.ensures.history honest))
    c.requires (sym c.is_down.ensures ∙ c.if-is_down.false)
    (is_down_then (g.B.Bank.panel c.read_sector.new.bank) c.args.slot c.in-Err-Down.field-0 c.in-Err-Down.field-0-0
    c.in-Err-Down.field-0-is c.in-Err-Down.ensures.err.1 c.in-Err-Down.ensures.err.0)

pub returns-in-Err-Worn-clause-reads : goal.returns-in-Err-Worn-clause-reads
returns-in-Err-Worn-clause-reads g c =
    place_worn (g.B.Bank.honest c.args.bank.now) c.args.slot c.args.place
    (bank_view (g.B.Bank.panel c.args.bank.now) (g.B.Bank.history c.args.bank.now))
    (bank_view (g.B.Bank.panel c.read_sector.new.bank) (g.B.Bank.history c.read_sector.new.bank))
    c.read_sector.ensures.panel (λ honest. read_one c.args.slot c.read_sector.result (c.read_sector.ensures.history honest))
    (subst (λ (s : Stop). IsCauseOf (g.B.Bank.panel c.read_sector.new.bank) s) c.in-Err-Worn.field-0-is c.in-Err-Worn.ensures.err.0)

pub is_down-requires : goal.is_down-requires
is_down-requires g c = c.requires

pub sectors-requires : goal.sectors-requires
sectors-requires g c = c.requires

pub returns-then-is_down-clause-others : goal.returns-then-is_down-clause-others
returns-then-is_down-clause-others g c = λ _ _ _. refl

pub returns-then-sectors-at-clause-others : goal.returns-then-sectors-at-clause-others
returns-then-sectors-at-clause-others g c = λ _ _ _. refl

pub read_sector-requires-clause-device : goal.read_sector-requires-clause-device
read_sector-requires-clause-device g c = c.requires

pub read_sector-requires-clause-within : goal.read_sector-requires-clause-within
read_sector-requires-clause-within g c = λ _. omega (arith, c.sectors.ensures, c.if-sectors-at.false, c.from-at.ensures)
