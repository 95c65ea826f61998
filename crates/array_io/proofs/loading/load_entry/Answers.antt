use Rattle.std.proofs.Common.{◌≡◌, ◌<◌, ◌≤◌, ◌∙◌, refl, sym, inl, inr, ℕ, ◌+◌, length, ap, arith}
use Rattle.std.proofs.lemmas.Bool.{cases_eq}
use Rattle.std.proofs.lemmas.Result.{err_from_is_err_and}
use Rattle.sector_model.proofs.Panels.{later_same, later_both}
use Rattle.sector_model.proofs.Reading.{read_none, read_both}
use Rattle.layout_map.specs.declared.format.Format.{Format}
use Rattle.layout_map.specs.declared.sizes.TheConstants.{MOST_MEMBERS}
use Rattle.layout_map.specs.Formats.{journal_sectors}
use Rattle.stripe_journal.specs.Entries.{body_start, half_start, row_mask}
use Rattle.stripe_journal.specs.Forms.{count_held, has_bit, in_body, rank, rows_in}
use Rattle.stripe_journal.proofs.HeldEntries.{entry_stays}
use Rattle.stripe_journal.proofs.HeldRuns.{body_few}
use Rattle.stripe_journal.proofs.Halves.{start_end}
use Rattle.stripe_journal.proofs.Masks.{before_grows, before_on, count_agrees}
use Rattle.degraded.proofs.Members.{up_before}
use Rattle.array_io.proofs.Commits.LoadingEntries.{read_before}
use Rattle.array_io.proofs.loading.load_entry.Goals as goal

pub loop-i-init : goal.loop-i-init
loop-i-init g c = record {
  most = omega arith;
  place = omega (arith, c.half_start-at.ensures.start, ap (λ (f : Format). half_start f c.args.seal.now.number) c.format.ensures);
  is = c.set.ensures;
  panel = later_same _;
  honest = λ honest. honest;
  still = λ honest. honest;
  read = λ honest. read_none _;
  stays = λ device honest. refl;
  loaded = λ k member honest below within on. absurd (omega arith);
}

pub returns-in_err-at-clause-read : goal.returns-in_err-at-clause-read
returns-in_err-at-clause-read g c = λ honest. read_both (c.loop-i.invariant.read honest) (c.load_row.ensures.read (c.loop-i.invariant.honest honest))

pub loop-i-preserved : goal.loop-i-preserved
loop-i-preserved g c =
    let now = c.loop-i in
    let members = c.args.geometry.now.members in
    let form = c.args.seal.now.form in
    let few : members ≤ MOST_MEMBERS = omega (arith, c.args.geometry.now.limits.members_most) in
    let below : now.i < length (rows_in form) = omega (arith, c.loop-i-test.true, c.len-i-end.ensures, ap length c.set.ensures.rows) in
    let masked : (member : ℕ) → member < members → has_bit (row_mask now.entry now.i) member ≡ in_body members form now.i member =
    λ member within. now.invariant.is.held now.i member below within in
    let counts : (n : ℕ) → n ≤ members → count_held (has_bit (row_mask now.entry now.i)) n ≡ count_held (in_body members form now.i) n =
    λ n most. count_agrees (has_bit (row_mask now.entry now.i)) (in_body members form now.i) n (λ m below. masked m (omega (arith, below, most))) in
    record {
      most = omega (arith, below);
      place = omega (arith, now.invariant.place, c.in_ok-at.ensures.beyond, counts members (omega arith), before_on members form now.i);
      is = entry_stays members form now.entry c.load_row.new.entry c.load_row.ensures.form now.invariant.is;
      panel = later_both _ _ _ now.invariant.panel c.load_row.ensures.panel;
      honest = λ honest. c.load_row.ensures.honest.0 (now.invariant.honest honest);
      still = λ honest. now.invariant.still (c.load_row.ensures.honest.1 honest);
      read = λ honest. read_both (now.invariant.read honest) (c.load_row.ensures.read (now.invariant.honest honest));
      stays = λ device honest. c.in_ok-at.ensures.none_failed device (now.invariant.honest honest) ∙ now.invariant.stays device honest;
      loaded = λ k member honest upto within on. elim (cases_eq k now.i) [
        | inl same ↦
            let there = ap (λ (n : ℕ). in_body members form n member) (sym same) ∙ on in
            let place : now.at + count_held (has_bit (row_mask now.entry now.i)) member ≡ body_start c.args.seal.now + rank members form now.i member =
            omega (arith, now.invariant.place, counts member (omega (arith, within))) in
            rw same (read_before c.args.journal _ _ _ (now.invariant.read honest) place
            (c.in_ok-at.ensures.loaded member (now.invariant.honest honest) within (masked member within ∙ there)))
        | inr other ↦
            c.load_row.ensures.others k member other (omega (arith, within, few))
            ∙ now.invariant.loaded k member honest (omega (arith, upto, other)) within on
      ];
    }

pub load_row-requires-clause-slot : goal.load_row-requires-clause-slot
load_row-requires-clause-slot g c = omega (arith, c.loop-i.invariant.panel.devices, c.requires.slot)

pub load_row-requires-clause-within : goal.load_row-requires-clause-within
load_row-requires-clause-within g c = λ up.
    let was = c.requires.within (up_before c.args.journal c.loop-i.invariant.panel up) in
    omega (arith, was, c.loop-i.invariant.panel.sectors c.args.journal)

pub returns-in_err-at-clause-panel : goal.returns-in_err-at-clause-panel
returns-in_err-at-clause-panel g c = later_both _ _ _ c.loop-i.invariant.panel c.load_row.ensures.panel

pub returns-in_err-at-clause-honest : goal.returns-in_err-at-clause-honest
returns-in_err-at-clause-honest g c = (
  λ honest. c.load_row.ensures.honest.0 (c.loop-i.invariant.honest honest),
  λ honest. c.loop-i.invariant.still (c.load_row.ensures.honest.1 honest),
)

pub returns-in_err-at-clause-loaded : goal.returns-in_err-at-clause-loaded
returns-in_err-at-clause-loaded g c = λ i member honest below within on. rw (err_from_is_err_and c.from_residual.result c.from_residual.ensures.1).1 tt

pub returns-in_err-at-clause-others_stay : goal.returns-in_err-at-clause-others_stay
returns-in_err-at-clause-others_stay g c = λ other honest apart. c.load_row.ensures.others_stay other (c.loop-i.invariant.honest honest) apart
    ∙ c.loop-i.invariant.stays other honest

pub returns-in_err-at-clause-none_failed : goal.returns-in_err-at-clause-none_failed
returns-in_err-at-clause-none_failed g c = λ device honest. rw (err_from_is_err_and c.from_residual.result c.from_residual.ensures.1).1 tt

pub returns-in_err-at-clause-err : goal.returns-in_err-at-clause-err
returns-in_err-at-clause-err g c =
    let p = err_from_is_err_and c.from_residual.result c.from_residual.ensures.1 in
    rw (p.1, p.2) c.in_err-at.ensures.err

pub returns-clause-panel : goal.returns-clause-panel
returns-clause-panel g c = c.loop-i.invariant.panel

pub returns-clause-honest : goal.returns-clause-honest
returns-clause-honest g c = (c.loop-i.invariant.honest, c.loop-i.invariant.still)

pub returns-clause-read : goal.returns-clause-read
returns-clause-read g c = c.loop-i.invariant.read

pub returns-clause-others_stay : goal.returns-clause-others_stay
returns-clause-others_stay g c = λ other honest apart. c.loop-i.invariant.stays other honest

pub returns-clause-none_failed : goal.returns-clause-none_failed
returns-clause-none_failed g c = c.loop-i.invariant.stays

pub returns-clause-err : goal.returns-clause-err
returns-clause-err g c = tt

pub load_row-requires-clause-row : goal.load_row-requires-clause-row
load_row-requires-clause-row g c =
    omega (arith, c.loop-i-test.true, c.len-i-end.ensures, ap length c.set.ensures.rows, ap length c.loop-i.invariant.is.rows)

pub returns-in_err-at-clause-entry : goal.returns-in_err-at-clause-entry
returns-in_err-at-clause-entry g c = rw (err_from_is_err_and c.from_residual.result c.from_residual.ensures.1).1 tt

pub returns-clause-entry : goal.returns-clause-entry
returns-clause-entry g c = c.loop-i.invariant.is

pub returns-clause-loaded : goal.returns-clause-loaded
returns-clause-loaded g c = λ k member honest below within on.
    c.loop-i.invariant.loaded k member honest (omega (arith, below, c.loop-i-test.false, c.len-i-end.ensures, ap length c.set.ensures.rows)) within on

pub load_row-requires-clause-end : goal.load_row-requires-clause-end
load_row-requires-clause-end g c =
    let now = c.loop-i in
    let members = c.args.geometry.now.members in
    let form = c.args.seal.now.form in
    let few : members ≤ MOST_MEMBERS = omega (arith, c.args.geometry.now.limits.members_most) in
    let below : now.i < length (rows_in form) = omega (arith, c.loop-i-test.true, c.len-i-end.ensures, ap length c.set.ensures.rows) in
    omega (
      arith,
      now.invariant.place,
      count_agrees (has_bit (row_mask now.entry now.i)) (in_body members form now.i) members (λ m within. now.invariant.is.held now.i m below within),
      before_on members form now.i,
      before_grows members form (now.i + 1) (length (rows_in form)) (omega (arith, below)),
      body_few members form few c.args.seal.now.formed,
      start_end c.args.seal.now,
      ap journal_sectors c.requires.of_format,
    )
