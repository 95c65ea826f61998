use Rattle.std.proofs.Common.{◌≡◌, ◌∙◌, ap}
use Rattle.std.specs.Prelude.{Err}
use Rattle.std.proofs.lemmas.Result.{err_from_is_err_and}
use Rattle.sector_model.specs.declared.sector.Stop.TheVariants.{Down}
use Rattle.sector_model.specs.Calls.{Flush}
use Rattle.sector_model.proofs.Panels.{later_both, later_same}
use Rattle.superblock.specs.NextTables.{slots_of}
use Rattle.superblock.proofs.PublishCode.{test_is, first_in_bank, first_named, is_first, made_one, slots_end, slots_short, slots_skip, slots_start, slots_then}
use Rattle.superblock.proofs.publishing.flush_first.Goals.{then-is_first+in_ok-flush_device, else-is_first}
use Rattle.superblock.proofs.publishing.flush_first.Goals as goal

pub returns-in_err-flush_device-clause-made : goal.returns-in_err-flush_device-clause-made
returns-in_err-flush_device-clause-made g c = λ honest.
    let table = c.args.new.now in
    let last = c.args.last in
    let within = c.loop-slot-test.true in
    let p = err_from_is_err_and c.from_residual.result c.from_residual.ensures.1 in
    let slot = c.loop-slot.slot in
    let chosen = test_is table last slot _ _ c.is_first.ensures c.if-is_first.true in
    let here = c.loop-slot.invariant.honest honest in
    let still = c.flush_device.ensures.honest.0 here in
    let first = made_one (Flush slot) c.flush_device.result (g.B.Bank.panel c.flush_device.new.bank)
    (c.flush_device.ensures.history here) c.flush_device.ensures.up (g.met.B.Bank.true_to _ still) in
    let short = rw c.in_err-flush_device.was at first in
    rw p.1 (c.loop-slot.invariant.made honest _ _ (slots_short (is_first table last) (λ slot. Flush slot) slot (slots_of table) within chosen short))

pub returns-in_err-flush_device-clause-named : goal.returns-in_err-flush_device-clause-named
returns-in_err-flush_device-clause-named g c = λ device is.
    let table = c.args.new.now in
    let last = c.args.last in
    let within = c.loop-slot-test.true in
    let p = err_from_is_err_and c.from_residual.result c.from_residual.ensures.1 in
    let stop = c.in_err-flush_device.field-0.0 in
    let from = p.1 in
    let same = p.2 in
    let down : stop ≡ Down device = cc in
    let chosen = test_is table last c.loop-slot.slot _ _ c.is_first.ensures c.if-is_first.true in
    first_named table last c.loop-slot.slot device (g.B.Bank.panel c.flush_device.new.bank) stop within chosen c.in_err-flush_device.ensures.err down

pub loop-slot-preserved : goal.loop-slot-preserved
loop-slot-preserved g c =
    let table = c.args.new.now in
    let last = c.args.last in
    let within = c.loop-slot-test.true in
    elim c.if-is_first.branch [
      | then-is_first+in_ok-flush_device w ↦
          let slot = c.loop-slot.slot in
          let chosen = test_is table last slot _ _ c.is_first.ensures w.if-is_first.true in
          rw w.bank-is record {
            panel = later_both _ _ _ c.loop-slot.invariant.panel w.flush_device.ensures.panel;
            honest = λ honest. w.flush_device.ensures.honest.0 (c.loop-slot.invariant.honest honest);
            still = λ honest. c.loop-slot.invariant.still (w.flush_device.ensures.honest.1 honest);
            made = λ honest answered new rest.
                let here = c.loop-slot.invariant.honest honest in
                let still = w.flush_device.ensures.honest.0 here in
                let first = made_one (Flush slot) w.flush_device.result (g.B.Bank.panel w.flush_device.new.bank)
                (w.flush_device.ensures.history here) w.flush_device.ensures.up (g.met.B.Bank.true_to _ still) in
                let done = rw w.in_ok-flush_device.was at first in
                c.loop-slot.invariant.made honest answered new
                (slots_then (is_first table last) (λ slot. Flush slot) slot (slots_of table) within chosen done rest);
          }
      | else-is_first w ↦
          let passed = test_is table last c.loop-slot.slot _ _ c.is_first.ensures w.if-is_first.false in
          rw w.bank-is record {
            panel = c.loop-slot.invariant.panel;
            honest = c.loop-slot.invariant.honest;
            still = c.loop-slot.invariant.still;
            made = λ honest answered new rest.
                c.loop-slot.invariant.made honest answered new
                (slots_skip (is_first table last) (λ slot. Flush slot) c.loop-slot.slot (slots_of table) within passed rest);
          }
    ]

pub returns-in_err-flush_device-clause-panel : goal.returns-in_err-flush_device-clause-panel
returns-in_err-flush_device-clause-panel g c = later_both _ _ _ c.loop-slot.invariant.panel c.flush_device.ensures.panel

pub returns-in_err-flush_device-clause-honest : goal.returns-in_err-flush_device-clause-honest
returns-in_err-flush_device-clause-honest g c = (
  λ honest. c.flush_device.ensures.honest.0 (c.loop-slot.invariant.honest honest),
  λ honest. c.loop-slot.invariant.still (c.flush_device.ensures.honest.1 honest),
)

pub returns-clause-panel : goal.returns-clause-panel
returns-clause-panel g c = c.loop-slot.invariant.panel

pub returns-clause-honest : goal.returns-clause-honest
returns-clause-honest g c = (c.loop-slot.invariant.honest, c.loop-slot.invariant.still)

pub is_first-requires : goal.is_first-requires
is_first-requires g c = c.loop-slot-test.true

pub flush_device-requires : goal.flush_device-requires
flush_device-requires g c = first_in_bank c.loop-slot.slot c.requires c.loop-slot.invariant.panel c.loop-slot-test.true

pub returns-in_err-flush_device-clause-cause : goal.returns-in_err-flush_device-clause-cause
returns-in_err-flush_device-clause-cause g c =
    let p = err_from_is_err_and c.from_residual.result c.from_residual.ensures.1 in
    let is = p.1 ∙ ap (λ s. Err s) p.2 in
    rw is c.in_err-flush_device.ensures.err.0

pub loop-slot-init : goal.loop-slot-init
loop-slot-init g c = record {
  panel = later_same _;
  honest = λ honest. honest;
  still = λ honest. honest;
  made = λ honest answered new made. slots_start (is_first c.args.new.now c.args.last) (λ slot. Flush slot) (slots_of c.args.new.now) made;
}

pub returns-clause-cause : goal.returns-clause-cause
returns-clause-cause g c = tt

pub returns-clause-named : goal.returns-clause-named
returns-clause-named g c = λ device is. absurd (cc)

pub returns-clause-made : goal.returns-clause-made
returns-clause-made g c = λ honest.
    let table = c.args.new.now in
    c.loop-slot.invariant.made honest _ _
    (slots_end (is_first table c.args.last) (λ slot. Flush slot) c.loop-slot.slot (slots_of table) (g.B.Bank.history c.loop-slot.bank) c.loop-slot-test.false)
