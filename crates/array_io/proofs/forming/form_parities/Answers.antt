use Rattle.std.proofs.Common.{◌≡◌, inl, inr, ℕ, ◌<◌, Ok, Err, List, length, refl, sym, ◌∙◌, ap, subst, arith}
use Rattle.std.proofs.lemmas.Bool.{cases_eq}
use Rattle.std.proofs.lemmas.Result.{err_from_is_err_and}
use Rattle.sector_model.specs.History.{Bytes}
use Rattle.layout_map.specs.declared.geometry.Geometry.{Geometry}
use Rattle.layout_map.specs.Placement.{rows_of}
use Rattle.parity.specs.Xor.{IsSoundRow}
use Rattle.stripe_journal.specs.declared.entry.Entry.{Entry}
use Rattle.stripe_journal.specs.Entries.{form_of, numbers_of}
use Rattle.stripe_journal.specs.Forms.{has_bit}
use Rattle.stripe_journal.specs.Seals.{row_at}
use Rattle.array_io.specs.Steps.FormingRows.{HasParityOn, HasSoundRow}
use Rattle.array_io.proofs.Commits.BufferRows.{row_same, same_mask}
use Rattle.array_io.proofs.Commits.PlannedRows.{same_numbers}
use Rattle.array_io.proofs.Images.Codecs.{spellings}
use Rattle.array_io.proofs.Reading.ReadListed.{between_then, keeps_both, keeps_none, same_set}
use Rattle.array_io.proofs.forming.form_parities.Goals as goal

pub loop-i-init : goal.loop-i-init
loop-i-init g c = record {
  honest = λ honest. honest;
  still = λ honest. honest;
  its_slots = c.requires.its_slots;
  steps = keeps_none spellings (g.B.Bank.honest c.args.bank.now) c.args.table.now (g.B.Bank.panel c.args.bank.now) (g.B.Bank.history c.args.bank.now)
      (λ fair. g.met.B.Bank.true_to _ fair);
  form = refl;
  sound = λ number k from honest below at. absurd (omega (arith, below));
  others = λ k member within skip. refl;
  beyond = λ k member within from. refl;
}

-- the row's number
row_is : (old now : Entry) (i row : ℕ) → form_of now ≡ form_of old → row ≡ row_at (numbers_of now) i → row ≡ row_at (numbers_of old) i
row_is old now i row form is = is ∙ ap (λ (list : List ℕ). row_at list i) (same_numbers now old form)

pub form_row-requires-clause-row : goal.form_row-requires-clause-row
form_row-requires-clause-row g c =
    let is = row_is c.args.entry.now c.loop-i.entry c.loop-i.i c.row-row.result c.loop-i.invariant.form c.row-row.ensures in
    let long = ap length (same_numbers c.loop-i.entry c.args.entry.now c.loop-i.invariant.form) in
    subst (λ (r : ℕ). r < rows_of c.loop-i.table.geometry.chunk c.loop-i.table.geometry.stripes) (sym is)
    (subst (λ (x : Geometry). row_at (numbers_of c.args.entry.now) c.loop-i.i < rows_of x.chunk x.stripes)
    (sym (same_set (g.B.Bank.honest c.args.bank.now) c.args.table.now c.loop-i.table (g.B.Bank.panel c.args.bank.now) (g.B.Bank.panel c.loop-i.bank)
    (g.B.Bank.history c.args.bank.now) (g.B.Bank.history c.loop-i.bank) c.loop-i.invariant.steps))
    (c.requires.rows c.loop-i.i (omega (arith, c.loop-i-test.true, c.len-i-end.ensures))))

pub form_row-requires-clause-held : goal.form_row-requires-clause-held
form_row-requires-clause-held g c = λ member parity.
    let is = row_is c.args.entry.now c.loop-i.entry c.loop-i.i c.row-row.result c.loop-i.invariant.form c.row-row.ensures in
    let same = same_set (g.B.Bank.honest c.args.bank.now) c.args.table.now c.loop-i.table (g.B.Bank.panel c.args.bank.now) (g.B.Bank.panel c.loop-i.bank)
    (g.B.Bank.history c.args.bank.now) (g.B.Bank.history c.loop-i.bank) c.loop-i.invariant.steps in
    ap (λ (mask : ℕ). has_bit mask member) (same_mask c.loop-i.entry c.args.entry.now c.loop-i.i c.loop-i.invariant.form)
    ∙ c.requires.held c.loop-i.i member (omega (arith, c.loop-i-test.true, c.len-i-end.ensures))
    (subst (λ (r : ℕ). HasParityOn c.args.table.now.geometry r member) is (subst (λ (x : Geometry). HasParityOn x c.row-row.result member) same parity))

pub returns-in_err-form_row-clause-honest : goal.returns-in_err-form_row-clause-honest
returns-in_err-form_row-clause-honest g c = (
  λ honest. c.form_row.ensures.honest.0 (c.loop-i.invariant.honest honest),
  λ honest. c.loop-i.invariant.still (c.form_row.ensures.honest.1 honest),
)

pub returns-in_err-form_row-clause-steps : goal.returns-in_err-form_row-clause-steps
returns-in_err-form_row-clause-steps g c =
    let p = err_from_is_err_and c.from_residual.result c.from_residual.ensures.1 in
    rw (p.1, p.2) (keeps_both (g.B.Bank.honest c.args.bank.now) c.args.table.now c.loop-i.table (g.B.Bank.panel c.args.bank.now) (g.B.Bank.panel c.loop-i.bank)
    (g.B.Bank.history c.args.bank.now) (g.B.Bank.history c.loop-i.bank) c.loop-i.invariant.steps
    (g.B.Bank.honest c.loop-i.bank) c.loop-i.invariant.honest c.form_row.new.table (g.B.Bank.panel c.form_row.new.bank) (g.B.Bank.history c.form_row.new.bank)
    (Err c.in_err-form_row.field-0.0) c.in_err-form_row.ensures.forms.steps)

pub returns-in_err-form_row-clause-others : goal.returns-in_err-form_row-clause-others
returns-in_err-form_row-clause-others g c = λ k member within skip.
    let same = same_set (g.B.Bank.honest c.args.bank.now) c.args.table.now c.loop-i.table (g.B.Bank.panel c.args.bank.now) (g.B.Bank.panel c.loop-i.bank)
    (g.B.Bank.history c.args.bank.now) (g.B.Bank.history c.loop-i.bank) c.loop-i.invariant.steps in
    let row = row_is c.args.entry.now c.loop-i.entry c.loop-i.i c.row-row.result c.loop-i.invariant.form c.row-row.ensures in
    c.form_row.ensures.forms.others k member within (λ same_row is. skip
    (subst (λ (n : ℕ). HasParityOn c.args.table.now.geometry (row_at (numbers_of c.args.entry.now) n) member) (sym same_row)
    (subst (λ (r : ℕ). HasParityOn c.args.table.now.geometry r member) row
    (subst (λ (x : Geometry). HasParityOn x c.row-row.result member) same is))))
    ∙ c.loop-i.invariant.others k member within skip

pub returns-in_err-form_row-clause-sound : goal.returns-in_err-form_row-clause-sound
returns-in_err-form_row-clause-sound g c = λ number i from honest at below. rw (err_from_is_err_and c.from_residual.result c.from_residual.ensures.1).1 tt

pub loop-i-preserved : goal.loop-i-preserved
loop-i-preserved g c =
    let now = c.loop-i in
    let geometry = c.args.table.now.geometry in
    let rows = numbers_of c.args.entry.now in
    let row = row_is c.args.entry.now now.entry now.i c.row-row.result now.invariant.form c.row-row.ensures in
    let new = c.form_row.new.entry in
    let same = same_set (g.B.Bank.honest c.args.bank.now) c.args.table.now c.loop-i.table (g.B.Bank.panel c.args.bank.now) (g.B.Bank.panel c.loop-i.bank)
    (g.B.Bank.history c.args.bank.now) (g.B.Bank.history c.loop-i.bank) c.loop-i.invariant.steps in
    let forms = c.in_ok-form_row.ensures.forms in
    record {
      honest = λ honest. c.form_row.ensures.honest.0 (now.invariant.honest honest);
      still = λ honest. now.invariant.still (c.form_row.ensures.honest.1 honest);
      its_slots = c.form_row.ensures.its_slots;
      steps = keeps_both (g.B.Bank.honest c.args.bank.now) c.args.table.now c.loop-i.table (g.B.Bank.panel c.args.bank.now) (g.B.Bank.panel c.loop-i.bank)
          (g.B.Bank.history c.args.bank.now) (g.B.Bank.history c.loop-i.bank) c.loop-i.invariant.steps
          (g.B.Bank.honest c.loop-i.bank) c.loop-i.invariant.honest c.form_row.new.table (g.B.Bank.panel c.form_row.new.bank)
          (g.B.Bank.history c.form_row.new.bank) (Ok tt) forms.steps;
      form = forms.form ∙ now.invariant.form;
      sound = λ number k from honest below at. elim (cases_eq k now.i) [
        | inl here ↦ subst (λ (n : ℕ). HasSoundRow geometry from.logical new n (row_at rows n)) (sym here)
            (subst (λ (r : ℕ). HasSoundRow geometry from.logical new now.i r) row
            (subst (λ (x : Geometry). HasSoundRow x from.logical new now.i c.row-row.result) same
            (forms.sound number from (now.invariant.honest honest)
            (between_then (g.B.Bank.honest c.args.bank.now) c.args.table.now c.loop-i.table (g.B.Bank.panel c.args.bank.now) (g.B.Bank.panel c.loop-i.bank)
            (g.B.Bank.history c.args.bank.now) (g.B.Bank.history c.loop-i.bank) c.loop-i.invariant.steps honest number from at))))
        | inr other ↦ λ values listed. subst (λ (row : List Bytes). IsSoundRow row)
            (sym (row_same geometry.members new now.entry k values (same_mask new now.entry k forms.form)
            (λ member within. forms.others k member (omega (arith, within, geometry.limits.members_most)) (λ here. absurd (other here)))))
            (now.invariant.sound number k from honest (omega (arith, below, other)) at values listed)
      ];
      others = λ k member within skip. forms.others k member within (λ same_row is. skip
          (subst (λ (n : ℕ). HasParityOn geometry (row_at rows n) member) (sym same_row)
          (subst (λ (r : ℕ). HasParityOn geometry r member) row (subst (λ (x : Geometry). HasParityOn x c.row-row.result member) same is))))
          ∙ now.invariant.others k member within skip;
      beyond = λ k member within after. forms.others k member within (λ here. absurd (omega (arith, here, after)))
          ∙ now.invariant.beyond k member within (omega (arith, after));
    }

pub returns-clause-sound : goal.returns-clause-sound
returns-clause-sound g c = λ number i from honest at below. c.loop-i.invariant.sound number i from honest (omega (arith, below, c.loop-i-test.false)) at
