use Rattle.std.proofs.Common.{arith, false, inl, inr, ◌≡◌, ◌<◌, refl}
use Rattle.std.proofs.lemmas.Bool.{both_ways, cases_Bool}
use Rattle.std.proofs.lemmas.Result.{err_from_is_err_and}
use Rattle.layout_map.proofs.Places.{journal_most}
use Rattle.layout_map.specs.Formats.{journal_sectors}
use Rattle.sector_model.proofs.Panels.{later_both}
use Rattle.entry_runs.specs.Body.{has_bit}
use Rattle.stripe_journal.proofs.Entries.{held_short, held_then, lacking_then}
use Rattle.entry_runs.proofs.Counts.{count_beyond, count_on, count_over}
use Rattle.stripe_journal.proofs.writing.write_row.Goals.{in-Some+in_ok-write_sector, in_default}
use Rattle.stripe_journal.proofs.writing.write_row.Goals as goal

pub write_sector-requires-clause-within : goal.write_sector-requires-clause-within
write_sector-requires-clause-within g c = λ up.
    let held = c.in-Some.ensures.some.0 in
    let below = count_beyond (has_bit c.args.row.now.mask) c.loop-member.member c.args.geometry.now.members held c.loop-member-test.true in
    let at : c.loop-member.at < journal_sectors c.args.geometry.now.format = omega (arith, c.loop-member.invariant.place, c.requires.end, below) in
    let was_up : (g.B.Bank.panel c.args.bank.now).down c.args.dev ≡ false =
    elim (cases_Bool ((g.B.Bank.panel c.args.bank.now).down c.args.dev)) [
      | inl was_down ↦ absurd (both_ways _ up (c.loop-member.invariant.panel.down c.args.dev was_down))
      | inr was_up ↦ was_up
    ] in
    omega (arith, at, c.requires.within was_up, c.loop-member.invariant.panel.sectors c.args.dev)

pub returns-in_err-write_sector-clause-made : goal.returns-in_err-write_sector-clause-made
returns-in_err-write_sector-clause-made g c = λ honest.
    let p = err_from_is_err_and c.from_residual.result c.from_residual.ensures.1 in
    let still = c.loop-member.invariant.honest honest in
    rw p.1 (c.loop-member.invariant.made honest _ _
    (held_short _ _ _ _ _ _ _ _ c.loop-member-test.true c.in-Some.ensures.some.0 c.in-Some.ensures.some.1 (c.in_err-write_sector.ensures.history still)))

pub overflow_add-at : goal.overflow_add-at
overflow_add-at g c =
    let held = c.in-Some.ensures.some.0 in
    omega (
      arith,
      c.loop-member.invariant.place,
      c.requires.end,
      journal_most c.args.geometry.now.format,
      count_beyond (has_bit c.args.row.now.mask) c.loop-member.member c.args.geometry.now.members held
          c.loop-member-test.true,
    )

pub loop-member-preserved : goal.loop-member-preserved
loop-member-preserved g c = elim c.match-member.branch [
  | in-Some+in_ok-write_sector w ↦
      let held = w.in-Some.ensures.some.0 in
      rw (w.bank-is, w.at-is) record {
        place = omega (arith, c.loop-member.invariant.place, count_on (has_bit c.args.row.now.mask) c.loop-member.member held);
        panel = later_both _ _ _ c.loop-member.invariant.panel w.write_sector.ensures.panel;
        honest = λ honest. w.write_sector.ensures.honest.0 (c.loop-member.invariant.honest honest);
        still = λ honest. c.loop-member.invariant.still (w.write_sector.ensures.honest.1 honest);
        made = λ honest answered new rest.
            let still = c.loop-member.invariant.honest honest in
            c.loop-member.invariant.made honest answered new
            (held_then _ _ _ _ _ _ _ tt (g.B.Bank.panel w.write_sector.new.bank) c.loop-member-test.true held w.in-Some.ensures.some.1
            (w.in_ok-write_sector.ensures.history still)
            w.in_ok-write_sector.ensures.up (g.met.B.Bank.true_to _ (w.write_sector.ensures.honest.0 still)) rest);
      }
  | in_default w ↦
      let lacking = w.in_default.ensures.none refl in
      rw (w.bank-is, w.at-is) record {
        place = omega (arith, c.loop-member.invariant.place, count_over (has_bit c.args.row.now.mask) c.loop-member.member lacking);
        panel = c.loop-member.invariant.panel;
        honest = c.loop-member.invariant.honest;
        still = c.loop-member.invariant.still;
        made = λ honest answered new rest. c.loop-member.invariant.made honest answered new (lacking_then _ _ _ _ _ _ c.loop-member-test.true lacking rest);
      }
]
