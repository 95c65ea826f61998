use Rattle.std.proofs.Common.{◌≡◌, ◌≢◌, ◌∙◌, refl, ap, sym, arith}
use Rattle.std.specs.Prelude.{Err}
use Rattle.std.proofs.lemmas.Result.{err_from_is_err_and}
use Rattle.sector_model.proofs.Panels.{later_both, later_same}
use Rattle.superblock.specs.declared.state.State.TheVariants.{Missing}
use Rattle.superblock.specs.Tables.{state_at}
use Rattle.recovery.specs.StaleSuperblocks.{HasState}
use Rattle.superblock.proofs.PublishCode.{sector_for, sector_stands}
use Rattle.recovery.proofs.StaleSlots.{HasStateBelow, brings_all, brings_ended, brings_next, brings_none, brings_skip, device_there, place_there}
use Rattle.recovery.proofs.stale_superblocks.bring_up_in.Goals.{then-is_in+in_ok-bring_up_slot, else-is_in}
use Rattle.recovery.proofs.stale_superblocks.bring_up_in.Goals as goal

pub loop-slot-init : goal.loop-slot-init
loop-slot-init g c = record {
  panel = later_same _;
  honest = λ honest. honest;
  still = λ honest. honest;
  brings = λ sectors spelled. brings_none (HasStateBelow c.args.table.now c.args.state 0) c.args.table.now sectors (g.B.Bank.panel c.args.bank.now)
      (g.B.Bank.history c.args.bank.now)
      (λ slot is. omega (arith, is.0));
}

pub returns-in_err-bring_up_slot-clause-brings : goal.returns-in_err-bring_up_slot-clause-brings
returns-in_err-bring_up_slot-clause-brings g c = λ sectors spelled.
    let table = c.args.table.now in
    let slot = c.loop-slot.slot in
    let in_state : state_at table.states slot ≡ c.args.state = c.is_in.ensures.0 c.if-is_in.true in
    let has : HasState table c.args.state slot = (c.loop-slot-test.true, in_state) in
    let p = err_from_is_err_and c.from_residual.result c.from_residual.ensures.1 in
    let is = p.1 ∙ ap (λ s. Err s) p.2 in
    let stands = spelled slot c.loop-slot-test.true (λ missing. c.requires.there (sym in_state ∙ missing)) in
    rw is (brings_ended table c.args.state slot sectors (g.B.Bank.panel c.args.bank.now) (g.B.Bank.panel c.loop-slot.bank)
    (g.B.Bank.panel c.bring_up_slot.new.bank)
    (Err c.in_err-bring_up_slot.field-0.0) c.in_err-bring_up_slot.field-0.0 refl has c.loop-slot.invariant.honest (c.loop-slot.invariant.brings sectors spelled)
    (c.in_err-bring_up_slot.ensures.brings sectors stands))

pub loop-slot-preserved : goal.loop-slot-preserved
loop-slot-preserved g c = elim c.if-is_in.branch [
  | then-is_in+in_ok-bring_up_slot w ↦
      let table = c.args.table.now in
      let slot = c.loop-slot.slot in
      let in_state : state_at table.states slot ≡ c.args.state = c.is_in.ensures.0 w.if-is_in.true in
      let has : HasState table c.args.state slot = (c.loop-slot-test.true, in_state) in
      let there : state_at table.states slot ≢ Missing = λ missing. c.requires.there (sym in_state ∙ missing) in
      rw w.bank-is record {
        panel = later_both _ _ _ c.loop-slot.invariant.panel
            (w.in_ok-bring_up_slot.ensures.brings (sector_for table) (sector_stands table slot c.loop-slot-test.true there)).later;
        honest = λ honest. w.bring_up_slot.ensures.honest.0 (c.loop-slot.invariant.honest honest);
        still = λ honest. c.loop-slot.invariant.still (w.bring_up_slot.ensures.honest.1 honest);
        brings = λ sectors spelled. brings_next table c.args.state slot sectors (g.B.Bank.panel c.args.bank.now) (g.B.Bank.panel c.loop-slot.bank)
            (g.B.Bank.panel w.bring_up_slot.new.bank)
            has c.loop-slot.invariant.honest (c.loop-slot.invariant.brings sectors spelled)
            (w.in_ok-bring_up_slot.ensures.brings sectors (spelled slot c.loop-slot-test.true there));
      }
  | else-is_in w ↦
      let table = c.args.table.now in
      let slot = c.loop-slot.slot in
      let other : state_at table.states slot ≢ c.args.state = λ is. absurd (let told = c.is_in.ensures.1 is in let untold = w.if-is_in.false in cc) in
      rw w.bank-is record {
        panel = c.loop-slot.invariant.panel;
        honest = c.loop-slot.invariant.honest;
        still = c.loop-slot.invariant.still;
        brings = λ sectors spelled. brings_skip table c.args.state slot sectors (g.B.Bank.panel c.args.bank.now) (g.B.Bank.panel c.loop-slot.bank) other
            (c.loop-slot.invariant.brings sectors spelled);
      }
]

pub returns-clause-brings : goal.returns-clause-brings
returns-clause-brings g c = λ sectors spelled.
    brings_all c.args.table.now c.args.state c.loop-slot.slot sectors (g.B.Bank.panel c.args.bank.now) (g.B.Bank.panel c.loop-slot.bank) c.loop-slot-test.false
    (c.loop-slot.invariant.brings sectors spelled)

pub is_in-requires : goal.is_in-requires
is_in-requires g c = c.loop-slot-test.true

pub bring_up_slot-requires-clause-of_set : goal.bring_up_slot-requires-clause-of_set
bring_up_slot-requires-clause-of_set g c = c.loop-slot-test.true

pub bring_up_slot-requires-clause-there : goal.bring_up_slot-requires-clause-there
bring_up_slot-requires-clause-there g c = λ missing. c.requires.there (sym (c.is_in.ensures.0 c.if-is_in.true) ∙ missing)

pub bring_up_slot-requires-clause-device : goal.bring_up_slot-requires-clause-device
bring_up_slot-requires-clause-device g c =
    device_there (g.B.Bank.panel c.args.bank.now) (g.B.Bank.panel c.loop-slot.bank) c.args.table.now c.loop-slot.slot c.loop-slot.invariant.panel c.requires.can
    c.loop-slot-test.true

pub bring_up_slot-requires-clause-within : goal.bring_up_slot-requires-clause-within
bring_up_slot-requires-clause-within g c =
    place_there (g.B.Bank.panel c.args.bank.now) (g.B.Bank.panel c.loop-slot.bank) c.args.table.now c.loop-slot.slot c.loop-slot.invariant.panel c.requires.can
    c.loop-slot-test.true
    (λ missing. c.requires.there (sym (c.is_in.ensures.0 c.if-is_in.true) ∙ missing))

pub returns-in_err-bring_up_slot-clause-honest : goal.returns-in_err-bring_up_slot-clause-honest
returns-in_err-bring_up_slot-clause-honest g c = (
  λ honest. c.bring_up_slot.ensures.honest.0 (c.loop-slot.invariant.honest honest),
  λ honest. c.loop-slot.invariant.still (c.bring_up_slot.ensures.honest.1 honest),
)

pub returns-clause-honest : goal.returns-clause-honest
returns-clause-honest g c = (c.loop-slot.invariant.honest, c.loop-slot.invariant.still)
