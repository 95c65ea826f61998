use Rattle.std.proofs.Common.{◌≡◌, ◌∙◌, ap}
use Rattle.std.specs.Prelude.{Err}
use Rattle.std.proofs.lemmas.Result.{err_from_is_err_and}
use Rattle.sector_model.specs.declared.sector.Stop.TheVariants.{Down}
use Rattle.sector_model.specs.Calls.{Write}
use Rattle.sector_model.proofs.Panels.{later_both, later_same}
use Rattle.superblock.specs.NextTables.{slots_of}
use Rattle.superblock.specs.Publishing.{place_of}
use Rattle.superblock.proofs.PublishCode.{test_is, first_has_places, first_in_bank, first_named, first_state, is_first, slots_end, slots_short, slots_skip}
use Rattle.superblock.proofs.PublishCode.{slots_start, slots_then}
use Rattle.superblock.proofs.publishing.write_first.Goals.{then-is_first+in_ok-write_superblock, else-is_first}
use Rattle.superblock.proofs.publishing.write_first.Goals as goal

pub returns-in_err-write_superblock-clause-made : goal.returns-in_err-write_superblock-clause-made
returns-in_err-write_superblock-clause-made g c = λ sectors honest stand.
    let table = c.args.new.now in
    let last = c.args.last in
    let within = c.loop-slot-test.true in
    let p = err_from_is_err_and c.from_residual.result c.from_residual.ensures.1 in
    let slot = c.loop-slot.slot in
    let chosen = test_is table last slot _ _ c.is_first.ensures c.if-is_first.true in
    let here = c.loop-slot.invariant.honest honest in
    let stands = stand slot within (first_state table last slot within chosen) in
    let short = c.in_err-write_superblock.ensures.made (sectors slot) here stands in
    rw p.1 (c.loop-slot.invariant.made sectors honest stand _ _
    (slots_short (is_first table last) (λ slot. Write slot (place_of table) (sectors slot)) slot (slots_of table) within chosen short))

pub returns-in_err-write_superblock-clause-named : goal.returns-in_err-write_superblock-clause-named
returns-in_err-write_superblock-clause-named g c = λ device is.
    let table = c.args.new.now in
    let last = c.args.last in
    let within = c.loop-slot-test.true in
    let p = err_from_is_err_and c.from_residual.result c.from_residual.ensures.1 in
    let stop = c.in_err-write_superblock.field-0.0 in
    let from = p.1 in
    let same = p.2 in
    let down : stop ≡ Down device = cc in
    let chosen = test_is table last c.loop-slot.slot _ _ c.is_first.ensures c.if-is_first.true in
    first_named table last c.loop-slot.slot device (g.B.Bank.panel c.write_superblock.new.bank) stop within chosen c.in_err-write_superblock.ensures.err down

pub loop-slot-preserved : goal.loop-slot-preserved
loop-slot-preserved g c =
    let table = c.args.new.now in
    let last = c.args.last in
    let within = c.loop-slot-test.true in
    elim c.if-is_first.branch [
      | then-is_first+in_ok-write_superblock w ↦
          let slot = c.loop-slot.slot in
          let chosen = test_is table last slot _ _ c.is_first.ensures w.if-is_first.true in
          rw w.bank-is record {
            panel = later_both _ _ _ c.loop-slot.invariant.panel w.write_superblock.ensures.panel;
            honest = λ honest. w.write_superblock.ensures.honest.0 (c.loop-slot.invariant.honest honest);
            still = λ honest. c.loop-slot.invariant.still (w.write_superblock.ensures.honest.1 honest);
            made = λ sectors honest stand answered new rest.
                let here = c.loop-slot.invariant.honest honest in
                let stands = stand slot within (first_state table last slot within chosen) in
                let done = w.in_ok-write_superblock.ensures.made (sectors slot) here stands in
                c.loop-slot.invariant.made sectors honest stand answered new
                (slots_then (is_first table last) (λ slot. Write slot (place_of table) (sectors slot)) slot (slots_of table) within chosen done rest);
          }
      | else-is_first w ↦
          let passed = test_is table last c.loop-slot.slot _ _ c.is_first.ensures w.if-is_first.false in
          rw w.bank-is record {
            panel = c.loop-slot.invariant.panel;
            honest = c.loop-slot.invariant.honest;
            still = c.loop-slot.invariant.still;
            made = λ sectors honest stand answered new rest.
                c.loop-slot.invariant.made sectors honest stand answered new
                (slots_skip (is_first table last) (λ slot. Write slot (place_of table) (sectors slot)) c.loop-slot.slot (slots_of table) within passed rest);
          }
    ]

pub returns-clause-made : goal.returns-clause-made
returns-clause-made g c = λ sectors honest stand.
    let table = c.args.new.now in
    let last = c.args.last in
    c.loop-slot.invariant.made sectors honest stand _ _
    (slots_end (is_first table last) (λ slot. Write slot (place_of table) (sectors slot)) c.loop-slot.slot (slots_of table) (g.B.Bank.history c.loop-slot.bank)
    c.loop-slot-test.false)

pub returns-clause-panel : goal.returns-clause-panel
returns-clause-panel g c = c.loop-slot.invariant.panel

pub returns-clause-honest : goal.returns-clause-honest
returns-clause-honest g c = (c.loop-slot.invariant.honest, c.loop-slot.invariant.still)

pub write_superblock-requires-clause-of_set : goal.write_superblock-requires-clause-of_set
write_superblock-requires-clause-of_set g c = c.loop-slot-test.true

pub write_superblock-requires-clause-there : goal.write_superblock-requires-clause-there
write_superblock-requires-clause-there g c =
    let table = c.args.new.now in
    let last = c.args.last in
    first_state table last c.loop-slot.slot c.loop-slot-test.true (test_is table last c.loop-slot.slot _ _ c.is_first.ensures c.if-is_first.true)

pub write_superblock-requires-clause-device : goal.write_superblock-requires-clause-device
write_superblock-requires-clause-device g c = first_in_bank c.loop-slot.slot c.requires c.loop-slot.invariant.panel c.loop-slot-test.true

pub write_superblock-requires-clause-within : goal.write_superblock-requires-clause-within
write_superblock-requires-clause-within g c =
    let table = c.args.new.now in
    let last = c.args.last in
    first_has_places c.loop-slot.slot c.requires c.loop-slot.invariant.panel c.loop-slot-test.true
    (test_is table last c.loop-slot.slot _ _ c.is_first.ensures c.if-is_first.true)

pub is_first-requires : goal.is_first-requires
is_first-requires g c = c.loop-slot-test.true

pub returns-in_err-write_superblock-clause-panel : goal.returns-in_err-write_superblock-clause-panel
returns-in_err-write_superblock-clause-panel g c = later_both _ _ _ c.loop-slot.invariant.panel c.write_superblock.ensures.panel

pub returns-in_err-write_superblock-clause-honest : goal.returns-in_err-write_superblock-clause-honest
returns-in_err-write_superblock-clause-honest g c = (
  λ honest. c.write_superblock.ensures.honest.0 (c.loop-slot.invariant.honest honest),
  λ honest. c.loop-slot.invariant.still (c.write_superblock.ensures.honest.1 honest),
)

pub returns-in_err-write_superblock-clause-cause : goal.returns-in_err-write_superblock-clause-cause
returns-in_err-write_superblock-clause-cause g c =
    let p = err_from_is_err_and c.from_residual.result c.from_residual.ensures.1 in
    let is = p.1 ∙ ap (λ s. Err s) p.2 in
    rw is c.in_err-write_superblock.ensures.err.0

pub loop-slot-init : goal.loop-slot-init
loop-slot-init g c = record {
  panel = later_same _;
  honest = λ honest. honest;
  still = λ honest. honest;
  made = λ sectors honest stand answered new made.
      let table = c.args.new.now in
      slots_start (is_first table c.args.last) (λ slot. Write slot (place_of table) (sectors slot)) (slots_of table) made;
}

pub returns-clause-cause : goal.returns-clause-cause
returns-clause-cause g c = tt

pub returns-clause-named : goal.returns-clause-named
returns-clause-named g c = λ device is. absurd (cc)
