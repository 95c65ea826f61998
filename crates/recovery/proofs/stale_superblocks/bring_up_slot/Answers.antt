use Rattle.std.proofs.Common.{◌≡◌, ◌≢◌, ◌∙◌, true, ap, sym, subst, arith}
use Rattle.std.specs.Prelude.{Err, Ok}
use Rattle.std.specs.Cmp.Lexicographic.{other_text, same_text}
use Rattle.std.proofs.lemmas.Result.{err_from_is_err_and}
use Rattle.sector_model.specs.Bank.{after_try, after_write}
use Rattle.sector_model.specs.Calls.{Read, Write}
use Rattle.sector_model.specs.History.{Bytes}
use Rattle.sector_model.proofs.Panels.{later_both}
use Rattle.sector_model.proofs.Reading.{read_one}
use Rattle.superblock.specs.Publishing.{place_of}
use Rattle.array_io.specs.Steps.Bringing.{CountsOn}
use Rattle.recovery.proofs.Finding.{still_up}
use Rattle.recovery.proofs.StaleSlots.{IsReadOf, brings_flushed, brings_read, brings_stop, but_tried, is_stale, moments_read, moments_write, place_within}
use Rattle.recovery.proofs.StaleSlots.{read_of, rests_but}
use Rattle.recovery.proofs.stale_superblocks.bring_up_slot.Goals as goal

pub returns-in_err-read_sector-clause-brings : goal.returns-in_err-read_sector-clause-brings
returns-in_err-read_sector-clause-brings g c = λ sectors stands.
    let table = c.args.table.now in
    let slot = c.args.slot in
    let counted : CountsOn table slot = record { of_set = c.requires.of_set; there = c.requires.there } in
    let p = err_from_is_err_and c.from_residual.result c.from_residual.ensures.1 in
    brings_stop table sectors slot (g.B.Bank.panel c.args.bank.now) (g.B.Bank.panel c.read_sector.new.bank) c.from_residual.result
    c.in_err-read_sector.field-0.0
    (p.1 ∙ ap (λ s. Err s) p.2) c.read_sector.ensures.panel c.in_err-read_sector.ensures.err
    (λ honest. g.met.B.Bank.true_to _ (c.read_sector.ensures.honest.0 honest))
    (λ honest. moments_read table sectors slot counted c.read_sector.result (c.read_sector.ensures.history honest))
    (λ honest nothing. but_tried (Read slot (place_of table)) c.read_sector.result (c.read_sector.ensures.history honest) (rests_but slot nothing))
    (λ honest none. read_one slot c.read_sector.result (c.read_sector.ensures.history honest))

pub returns-then-eq-clause-brings : goal.returns-then-eq-clause-brings
returns-then-eq-clause-brings g c = λ sectors stands.
    let table = c.args.table.now in
    let slot = c.args.slot in
    let counted : CountsOn table slot = record { of_set = c.requires.of_set; there = c.requires.there } in
    let same : c.read_sector.new.to ≡ sectors slot =
    same_text c.read_sector.new.to c.own_sector-own.result (sym c.if-eq.true ∙ c.eq.ensures) ∙ c.own_sector-own.ensures (sectors slot) stands in
    brings_read table sectors slot c.read_sector.new.to (g.B.Bank.panel c.args.bank.now) (g.B.Bank.panel c.read_sector.new.bank) counted
    c.read_sector.ensures.panel
    (λ honest. read_of slot (place_of table) c.read_sector.new.to (g.B.Bank.panel c.read_sector.new.bank) c.in_ok-read_sector.field-0
    (c.in_ok-read_sector.ensures.history honest) c.in_ok-read_sector.ensures.up (g.met.B.Bank.true_to _ (c.read_sector.ensures.honest.0 honest))
    (c.in_ok-read_sector.ensures.bytes honest))
    same

pub returns-in_err-write_sector-clause-brings : goal.returns-in_err-write_sector-clause-brings
returns-in_err-write_sector-clause-brings g c = λ sectors stands.
    let table = c.args.table.now in
    let slot = c.args.slot in
    let counted : CountsOn table slot = record { of_set = c.requires.of_set; there = c.requires.there } in
    let own = c.own_sector-own.ensures (sectors slot) stands in
    let other : c.read_sector.new.to ≢ sectors slot = λ is. other_text c.read_sector.new.to c.own_sector-own.result (sym c.if-eq.false ∙ c.eq.ensures)
    (is ∙ sym own) in
    let p = err_from_is_err_and c.from_residual-in_err-write_sector.result c.from_residual-in_err-write_sector.ensures.1 in
    let reads : g.B.Bank.honest c.args.bank.now → IsReadOf slot (place_of table) c.read_sector.new.to (g.B.Bank.history c.args.bank.now)
    (g.B.Bank.history c.read_sector.new.bank) =
    λ honest. read_of slot (place_of table) c.read_sector.new.to (g.B.Bank.panel c.read_sector.new.bank) c.in_ok-read_sector.field-0
    (c.in_ok-read_sector.ensures.history honest) c.in_ok-read_sector.ensures.up (g.met.B.Bank.true_to _ (c.read_sector.ensures.honest.0 honest))
    (c.in_ok-read_sector.ensures.bytes honest) in
    brings_stop table sectors slot (g.B.Bank.panel c.args.bank.now) (g.B.Bank.panel c.write_sector.new.bank) c.from_residual-in_err-write_sector.result
    c.in_err-write_sector.field-0.0
    (p.1 ∙ ap (λ s. Err s) p.2) (later_both _ _ _ c.read_sector.ensures.panel c.write_sector.ensures.panel) c.in_err-write_sector.ensures.err
    (λ honest. g.met.B.Bank.true_to _ (c.write_sector.ensures.honest.0 (c.read_sector.ensures.honest.0 honest)))
    (λ honest. moments_write table sectors slot counted c.write_sector.result (moments_read table sectors slot counted (Ok tt) (reads honest).is)
    (subst (λ (bytes : Bytes). g.B.Bank.history c.write_sector.new.bank ≡ after_try (after_write slot (place_of table) bytes) c.write_sector.result
    (g.B.Bank.history c.read_sector.new.bank)) own
    (c.write_sector.ensures.history (c.read_sector.ensures.honest.0 honest))))
    (λ honest nothing. but_tried (Write slot (place_of table) c.own_sector-own.result) c.write_sector.result
    (c.write_sector.ensures.history (c.read_sector.ensures.honest.0 honest))
    (but_tried (Read slot (place_of table)) (Ok tt) (reads honest).is (rests_but slot nothing)))
    (λ honest none. is_stale table sectors slot c.read_sector.new.to (reads honest) other none)

pub returns-clause-honest : goal.returns-clause-honest
returns-clause-honest g c = (
  λ honest. c.flush_device.ensures.honest.0 (c.write_sector.ensures.honest.0 (c.read_sector.ensures.honest.0 honest)),
  λ honest. c.read_sector.ensures.honest.1 (c.write_sector.ensures.honest.1 (c.flush_device.ensures.honest.1 honest)),
)

pub returns-clause-brings : goal.returns-clause-brings
returns-clause-brings g c = λ sectors stands.
    let table = c.args.table.now in
    let slot = c.args.slot in
    let counted : CountsOn table slot = record { of_set = c.requires.of_set; there = c.requires.there } in
    let own = c.own_sector-own.ensures (sectors slot) stands in
    let other : c.read_sector.new.to ≢ sectors slot = λ is. other_text c.read_sector.new.to c.own_sector-own.result (sym c.if-eq.false ∙ c.eq.ensures)
    (is ∙ sym own) in
    let reads : g.B.Bank.honest c.args.bank.now → IsReadOf slot (place_of table) c.read_sector.new.to (g.B.Bank.history c.args.bank.now)
    (g.B.Bank.history c.read_sector.new.bank) =
    λ honest. read_of slot (place_of table) c.read_sector.new.to (g.B.Bank.panel c.read_sector.new.bank) c.in_ok-read_sector.field-0
    (c.in_ok-read_sector.ensures.history honest) c.in_ok-read_sector.ensures.up (g.met.B.Bank.true_to _ (c.read_sector.ensures.honest.0 honest))
    (c.in_ok-read_sector.ensures.bytes honest) in
    brings_flushed table sectors slot c.read_sector.new.to (g.B.Bank.panel c.args.bank.now) (g.B.Bank.panel c.flush_device.new.bank) c.flush_device.result
    counted
    (later_both _ _ _ (later_both _ _ _ c.read_sector.ensures.panel c.write_sector.ensures.panel) c.flush_device.ensures.panel) c.flush_device.ensures.err
    reads other
    (λ honest. place_within table slot (g.B.Bank.panel c.args.bank.now) (g.B.Bank.history c.args.bank.now) (g.met.B.Bank.true_to _ honest) c.requires.within
    (reads honest).up)
    (λ honest. subst (λ (bytes : Bytes). g.B.Bank.history c.write_sector.new.bank ≡ after_write slot (place_of table) bytes true
    (g.B.Bank.history c.read_sector.new.bank)) own
    (c.in_ok-write_sector.ensures.history (c.read_sector.ensures.honest.0 honest)))
    (λ honest. c.flush_device.ensures.history (c.write_sector.ensures.honest.0 (c.read_sector.ensures.honest.0 honest)))
    (λ honest. g.met.B.Bank.true_to _ (c.flush_device.ensures.honest.0 (c.write_sector.ensures.honest.0 (c.read_sector.ensures.honest.0 honest))))

pub own_sector-own-requires-clause-there : goal.own_sector-own-requires-clause-there
own_sector-own-requires-clause-there g c = c.requires.there

pub overflow_cast-place : goal.overflow_cast-place
overflow_cast-place g c = omega arith

pub read_sector-requires-clause-device : goal.read_sector-requires-clause-device
read_sector-requires-clause-device g c = c.requires.device

pub read_sector-requires-clause-within : goal.read_sector-requires-clause-within
read_sector-requires-clause-within g c = λ up. omega (arith, c.requires.within up)

pub returns-in_err-read_sector-clause-honest : goal.returns-in_err-read_sector-clause-honest
returns-in_err-read_sector-clause-honest g c = c.read_sector.ensures.honest

pub returns-then-eq-clause-honest : goal.returns-then-eq-clause-honest
returns-then-eq-clause-honest g c = c.read_sector.ensures.honest

pub write_sector-requires-clause-device : goal.write_sector-requires-clause-device
write_sector-requires-clause-device g c = omega (arith, c.requires.device, c.read_sector.ensures.panel.devices)

pub write_sector-requires-clause-within : goal.write_sector-requires-clause-within
write_sector-requires-clause-within g c = λ up.
    let was = still_up (g.B.Bank.panel c.args.bank.now) (g.B.Bank.panel c.read_sector.new.bank) c.args.slot c.read_sector.ensures.panel up in
    omega (arith, c.requires.within was, c.read_sector.ensures.panel.sectors c.args.slot)

pub returns-in_err-write_sector-clause-honest : goal.returns-in_err-write_sector-clause-honest
returns-in_err-write_sector-clause-honest g c = (
  λ honest. c.write_sector.ensures.honest.0 (c.read_sector.ensures.honest.0 honest),
  λ honest. c.read_sector.ensures.honest.1 (c.write_sector.ensures.honest.1 honest),
)

pub flush_device-requires : goal.flush_device-requires
flush_device-requires g c = omega (arith, c.requires.device, c.read_sector.ensures.panel.devices, c.write_sector.ensures.panel.devices)
