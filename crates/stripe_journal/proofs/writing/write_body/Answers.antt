use Rattle.std.proofs.Common.{arith, true, false, ◌≡◌, ◌+◌, ◌∙◌, ℕ, List, length, ap, subst}
use Rattle.std.proofs.lemmas.Result.{err_from_is_err_and}
use Rattle.sector_model.specs.Calls.{Made, writes_from}
use Rattle.sector_model.specs.History.{Bytes}
use Rattle.sector_model.proofs.Panels.{later_both}
use Rattle.stripe_journal.specs.Entries.{form_of, held_of, numbers_of, row_mask}
use Rattle.entry_runs.specs.Body.{count_held, has_bit}
use Rattle.stripe_journal.specs.Forms.{in_body}
use Rattle.stripe_journal.proofs.Entries.{length-body, row_short, row_then}
use Rattle.stripe_journal.proofs.Halves.{half_end}
use Rattle.stripe_journal.proofs.Masks.{before_grows, before_on}
use Rattle.stripe_journal.proofs.writing.write_body.Goals as goal

pub write_row-requires-clause-end : goal.write_row-requires-clause-end
write_row-requires-clause-end g c =
    let members = c.args.geometry.now.members in
    let form = form_of c.args.entry.now in
    let count = length (numbers_of c.args.entry.now) in
    omega (
      arith,
      c.loop-i.invariant.place,
      before_grows members form (c.loop-i.i + 1) count (omega (arith, c.loop-i-test.true, c.len-i-end.ensures)),
      length-body members c.args.entry.now,
      c.requires.fits,
      before_on members form c.loop-i.i,
      ap (λ (mask : ℕ). count_held (has_bit mask) members) c.view.ensures.mask,
      half_end c.args.geometry.now.format c.args.number,
    )

pub returns-in_err-at-clause-made : goal.returns-in_err-at-clause-made
returns-in_err-at-clause-made g c = λ honest.
    let p = err_from_is_err_and c.from_residual.result c.from_residual.ensures.1 in
    let made = c.in_err-at.ensures.made (c.loop-i.invariant.honest honest) in
    let members = c.args.geometry.now.members in
    let row = subst (λ (mask : ℕ). Made (writes_from c.args.dev c.loop-i.at (held_of members mask c.view.result.sectors.now)) false
    (g.B.Bank.history c.loop-i.bank) (g.B.Bank.history c.write_row.new.bank)) c.view.ensures.mask made in
    let whole = subst (λ (row : List Bytes). Made (writes_from c.args.dev c.loop-i.at (held_of members (row_mask c.args.entry.now c.loop-i.i) row)) false
    (g.B.Bank.history c.loop-i.bank) (g.B.Bank.history c.write_row.new.bank)) c.view.ensures.sectors row in
    rw p.1 (c.loop-i.invariant.made honest _ _ (row_short _ _ _ c.args.entry.now _ _ c.loop-i-test.true whole))

pub loop-i-preserved : goal.loop-i-preserved
loop-i-preserved g c =
    let members = c.args.geometry.now.members in
    let form = form_of c.args.entry.now in
    let count_is : count_held (has_bit c.view.result.mask) members ≡ count_held (in_body members form c.loop-i.i) members =
    ap (λ (mask : ℕ). count_held (has_bit mask) members) c.view.ensures.mask in
    let beyond : c.in_ok-at.at ≡ c.loop-i.at + count_held (in_body members form c.loop-i.i) members = c.in_ok-at.ensures.beyond
    ∙ ap (λ (k : ℕ). c.loop-i.at + k) count_is in
    record {
      place = omega (arith, c.loop-i.invariant.place, beyond, before_on members form c.loop-i.i);
      panel = later_both _ _ _ c.loop-i.invariant.panel c.write_row.ensures.panel;
      honest = λ honest. c.write_row.ensures.honest.0 (c.loop-i.invariant.honest honest);
      still = λ honest. c.loop-i.invariant.still (c.write_row.ensures.honest.1 honest);
      made = λ honest answered new rest.
          let made = c.in_ok-at.ensures.made (c.loop-i.invariant.honest honest) in
          let row = subst (λ (mask : ℕ). Made (writes_from c.args.dev c.loop-i.at (held_of members mask c.view.result.sectors.now)) true
          (g.B.Bank.history c.loop-i.bank) (g.B.Bank.history c.write_row.new.bank)) c.view.ensures.mask made in
          let whole = subst (λ (row : List Bytes). Made (writes_from c.args.dev c.loop-i.at (held_of members (row_mask c.args.entry.now c.loop-i.i) row)) true
          (g.B.Bank.history c.loop-i.bank) (g.B.Bank.history c.write_row.new.bank)) c.view.ensures.sectors row in
          c.loop-i.invariant.made honest answered new (row_then _ _ _ _ c.args.entry.now _ _ c.loop-i-test.true beyond whole rest);
    }
