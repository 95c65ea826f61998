use Rattle.std.proofs.Common.{◌≡◌, ◌<◌, ◌∙◌, ℕ, ◌+◌, true, false, refl, sym, ap, arith, length}
use Rattle.std.proofs.lemmas.Result.{err_from_is_err_and}
use Rattle.sector_model.proofs.Panels.{later_same, later_both}
use Rattle.sector_model.proofs.Reading.{read_none, read_one, read_both}
use Rattle.layout_map.specs.declared.sizes.TheConstants.{MOST_MEMBERS}
use Rattle.layout_map.proofs.Places.{journal_most}
use Rattle.stripe_journal.specs.declared.form.Form.{Form}
use Rattle.stripe_journal.specs.Entries.{numbers_of, row_mask}
use Rattle.stripe_journal.specs.Forms.{count_held, has_bit, in_body}
use Rattle.stripe_journal.proofs.Entries.{sector_elsewhere}
use Rattle.stripe_journal.proofs.Masks.{count_beyond, count_on, count_over}
use Rattle.degraded.proofs.Members.{up_before}
use Rattle.array_io.proofs.Reading.CountedReads.{is_held}
use Rattle.array_io.proofs.Commits.LoadingEntries.{loaded_more, loaded_over, none_of_read, others_of_read, read_before}
use Rattle.array_io.proofs.loading.load_row.Goals.{else-is_some, then-is_some+in_ok-read_sector}
use Rattle.array_io.proofs.loading.load_row.Goals as goal

pub loop-member-init : goal.loop-member-init
loop-member-init g c = record {
  panel = later_same _;
  honest = λ honest. honest;
  still = λ honest. honest;
  read = λ honest. read_none _;
  place = omega arith;
  numbers = refl;
  form = refl;
  loaded = λ honest k below on. absurd (omega arith);
  stays = λ device honest. refl;
  others = λ other k apart within. refl;
}

pub loop-member-preserved : goal.loop-member-preserved
loop-member-preserved g c =
    let now = c.loop-member in
    let journal = c.args.journal in
    let entry = c.loop-member.entry in
    let below : c.args.i < length (numbers_of c.loop-member.entry) = omega (arith, ap length now.invariant.numbers, c.requires.row) in
    let within : c.loop-member.member < MOST_MEMBERS = omega arith in
    let in_row = has_bit (row_mask c.args.entry.now c.args.i) in
    let bit : c.is_some.result ≡ in_row c.loop-member.member =
    is_held _ c.member.result (has_bit c.view.result.mask c.loop-member.member) c.is_some.result c.member.ensures.some c.member.ensures.none
    c.is_some.ensures
    ∙ ap (λ (m : ℕ). has_bit m c.loop-member.member) c.view.ensures.mask
    ∙ ap (λ (f : Form). in_body 0 f c.args.i c.loop-member.member) now.invariant.form in
    elim c.if-is_some.branch [
      | then-is_some+in_ok-read_sector w ↦
          let held : in_row c.loop-member.member ≡ true = sym bit ∙ w.if-is_some.true in
          let here : has_bit (row_mask entry c.args.i) c.loop-member.member ≡ true =
          ap (λ (f : Form). in_body 0 f c.args.i c.loop-member.member) now.invariant.form ∙ held in
          rw (w.bank-is, w.entry-is, w.at-is) record {
            panel = later_both _ _ _ now.invariant.panel w.read_sector.ensures.panel;
            honest = λ honest. w.read_sector.ensures.honest.0 (now.invariant.honest honest);
            still = λ honest. now.invariant.still (w.read_sector.ensures.honest.1 honest);
            read = λ honest. read_both (now.invariant.read honest) (read_one journal _ (w.read_sector.ensures.history (now.invariant.honest honest)));
            place = omega (arith, now.invariant.place, count_on in_row c.loop-member.member held);
            numbers = now.invariant.numbers;
            form = now.invariant.form;
            loaded = λ honest.
                let is = read_before journal _ _ _ (now.invariant.read honest) now.invariant.place
                (w.in_ok-read_sector.ensures.bytes (now.invariant.honest honest)) in
                loaded_more entry c.args.i c.args.first now.member in_row _ _ below within here is (now.invariant.loaded honest);
            stays = λ device honest. none_of_read journal device _ (w.in_ok-read_sector.ensures.history (now.invariant.honest honest))
                ∙ now.invariant.stays device honest;
            others = λ other k apart wide.
                sector_elsewhere entry c.args.i now.member other k _ within wide here (λ same. absurd (apart same)) ∙ now.invariant.others other k apart wide;
          }
      | else-is_some w ↦
          let lacking : in_row c.loop-member.member ≡ false = sym bit ∙ w.if-is_some.false in
          rw (w.bank-is, w.entry-is, w.at-is) record {
            panel = now.invariant.panel;
            honest = now.invariant.honest;
            still = now.invariant.still;
            read = now.invariant.read;
            place = omega (arith, now.invariant.place, count_over in_row c.loop-member.member lacking);
            numbers = now.invariant.numbers;
            form = now.invariant.form;
            loaded = λ honest. loaded_over entry c.args.i c.args.first now.member in_row _ lacking (now.invariant.loaded honest);
            stays = now.invariant.stays;
            others = now.invariant.others;
          }
    ]

pub sector_mut-requires-clause-row : goal.sector_mut-requires-clause-row
sector_mut-requires-clause-row g c = omega (arith, ap length c.loop-member.invariant.numbers, c.requires.row)

pub sector_mut-requires-clause-member : goal.sector_mut-requires-clause-member
sector_mut-requires-clause-member g c = omega (arith, c.args.geometry.now.limits.members_most, c.loop-member-test.true)

pub read_sector-requires-clause-device : goal.read_sector-requires-clause-device
read_sector-requires-clause-device g c = omega (arith, c.loop-member.invariant.panel.devices, c.requires.slot)

pub read_sector-requires-clause-within : goal.read_sector-requires-clause-within
read_sector-requires-clause-within g c = λ up.
    let was = c.requires.within (up_before c.args.journal c.loop-member.invariant.panel up) in
    let in_row = has_bit (row_mask c.args.entry.now c.args.i) in
    let bit : c.is_some.result ≡ in_row c.loop-member.member =
    is_held _ c.member.result (has_bit c.view.result.mask c.loop-member.member) c.is_some.result c.member.ensures.some c.member.ensures.none
    c.is_some.ensures
    ∙ ap (λ (m : ℕ). has_bit m c.loop-member.member) c.view.ensures.mask
    ∙ ap (λ (f : Form). in_body 0 f c.args.i c.loop-member.member) c.loop-member.invariant.form in
    let held : in_row c.loop-member.member ≡ true = sym bit ∙ c.if-is_some.true in
    omega (
      arith,
      was,
      c.loop-member.invariant.panel.sectors c.args.journal,
      c.loop-member.invariant.place,
      c.requires.end,
      count_beyond in_row c.loop-member.member c.args.geometry.now.members held c.loop-member-test.true,
    )

pub sector_mut-requires-clause-held : goal.sector_mut-requires-clause-held
sector_mut-requires-clause-held g c =
    sym (is_held _ c.member.result (has_bit c.view.result.mask c.loop-member.member) c.is_some.result c.member.ensures.some c.member.ensures.none
    c.is_some.ensures
    ∙ ap (λ (m : ℕ). has_bit m c.loop-member.member) c.view.ensures.mask)
    ∙ c.if-is_some.true

pub overflow_add-at : goal.overflow_add-at
overflow_add-at g c =
    let in_row = has_bit (row_mask c.args.entry.now c.args.i) in
    let bit : c.is_some.result ≡ in_row c.loop-member.member =
    is_held _ c.member.result (has_bit c.view.result.mask c.loop-member.member) c.is_some.result c.member.ensures.some c.member.ensures.none
    c.is_some.ensures
    ∙ ap (λ (m : ℕ). has_bit m c.loop-member.member) c.view.ensures.mask
    ∙ ap (λ (f : Form). in_body 0 f c.args.i c.loop-member.member) c.loop-member.invariant.form in
    let held : in_row c.loop-member.member ≡ true = sym bit ∙ c.if-is_some.true in
    omega (
      arith,
      c.loop-member.invariant.place,
      c.requires.end,
      count_beyond in_row c.loop-member.member c.args.geometry.now.members held c.loop-member-test.true,
      journal_most c.args.geometry.now.format,
    )

pub returns-in_err-read_sector-clause-panel : goal.returns-in_err-read_sector-clause-panel
returns-in_err-read_sector-clause-panel g c = later_both _ _ _ c.loop-member.invariant.panel c.read_sector.ensures.panel

pub returns-in_err-read_sector-clause-honest : goal.returns-in_err-read_sector-clause-honest
returns-in_err-read_sector-clause-honest g c = (
  λ honest. c.read_sector.ensures.honest.0 (c.loop-member.invariant.honest honest),
  λ honest. c.loop-member.invariant.still (c.read_sector.ensures.honest.1 honest),
)

pub returns-in_err-read_sector-clause-read : goal.returns-in_err-read_sector-clause-read
returns-in_err-read_sector-clause-read g c = λ honest. read_both (c.loop-member.invariant.read honest)
    (read_one c.args.journal _ (c.read_sector.ensures.history (c.loop-member.invariant.honest honest)))

pub returns-in_err-read_sector-clause-numbers : goal.returns-in_err-read_sector-clause-numbers
returns-in_err-read_sector-clause-numbers g c = c.loop-member.invariant.numbers

pub returns-in_err-read_sector-clause-loaded : goal.returns-in_err-read_sector-clause-loaded
returns-in_err-read_sector-clause-loaded g c = λ member honest within on. rw (err_from_is_err_and c.from_residual.result c.from_residual.ensures.1).1 tt

pub returns-in_err-read_sector-clause-others : goal.returns-in_err-read_sector-clause-others
returns-in_err-read_sector-clause-others g c = λ other member apart wide.
    let within : c.loop-member.member < MOST_MEMBERS = omega (arith, c.args.geometry.now.limits.members_most, c.loop-member-test.true) in
    let held : has_bit (row_mask c.loop-member.entry c.args.i) c.loop-member.member ≡ true =
    sym (is_held _ c.member.result (has_bit c.view.result.mask c.loop-member.member) c.is_some.result c.member.ensures.some c.member.ensures.none
    c.is_some.ensures
    ∙ ap (λ (m : ℕ). has_bit m c.loop-member.member) c.view.ensures.mask)
    ∙ c.if-is_some.true in
    sector_elsewhere c.loop-member.entry c.args.i c.loop-member.member other member _ within wide held (λ same. absurd (apart same))
    ∙ c.loop-member.invariant.others other member apart wide

pub returns-in_err-read_sector-clause-none_failed : goal.returns-in_err-read_sector-clause-none_failed
returns-in_err-read_sector-clause-none_failed g c = λ device honest. rw (err_from_is_err_and c.from_residual.result c.from_residual.ensures.1).1 tt

pub returns-in_err-read_sector-clause-err : goal.returns-in_err-read_sector-clause-err
returns-in_err-read_sector-clause-err g c =
    let p = err_from_is_err_and c.from_residual.result c.from_residual.ensures.1 in
    rw (p.1, p.2) c.in_err-read_sector.ensures.err

pub returns-clause-panel : goal.returns-clause-panel
returns-clause-panel g c = c.loop-member.invariant.panel

pub returns-clause-honest : goal.returns-clause-honest
returns-clause-honest g c = (c.loop-member.invariant.honest, c.loop-member.invariant.still)

pub returns-clause-read : goal.returns-clause-read
returns-clause-read g c = c.loop-member.invariant.read

pub returns-clause-numbers : goal.returns-clause-numbers
returns-clause-numbers g c = c.loop-member.invariant.numbers

pub returns-clause-loaded : goal.returns-clause-loaded
returns-clause-loaded g c = λ member honest within on. c.loop-member.invariant.loaded honest member (omega (arith, within, c.loop-member-test.false)) on

pub returns-clause-beyond : goal.returns-clause-beyond
returns-clause-beyond g c =
    let end : c.loop-member.member ≡ c.args.geometry.now.members = omega arith in
    c.loop-member.invariant.place ∙ ap (λ (n : ℕ). c.args.first + count_held (has_bit (row_mask c.args.entry.now c.args.i)) n) end

pub returns-clause-form : goal.returns-clause-form
returns-clause-form g c = c.loop-member.invariant.form

pub returns-in_err-read_sector-clause-form : goal.returns-in_err-read_sector-clause-form
returns-in_err-read_sector-clause-form g c = c.loop-member.invariant.form

pub returns-clause-others : goal.returns-clause-others
returns-clause-others g c = c.loop-member.invariant.others

pub returns-in_err-read_sector-clause-others_stay : goal.returns-in_err-read_sector-clause-others_stay
returns-in_err-read_sector-clause-others_stay g c = λ other honest apart.
    others_of_read (g.B.Bank.history c.loop-member.bank) (g.B.Bank.history c.read_sector.new.bank) c.args.journal other c.in_err-read_sector.field-0.0 apart
    (c.in_err-read_sector.ensures.history (c.loop-member.invariant.honest honest))
    ∙ c.loop-member.invariant.stays other honest

pub returns-clause-others_stay : goal.returns-clause-others_stay
returns-clause-others_stay g c = λ other honest apart. c.loop-member.invariant.stays other honest

pub returns-clause-none_failed : goal.returns-clause-none_failed
returns-clause-none_failed g c = c.loop-member.invariant.stays

pub returns-clause-err : goal.returns-clause-err
returns-clause-err g c = tt
