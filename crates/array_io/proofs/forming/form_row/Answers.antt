use Rattle.std.proofs.Common.{◌≡◌, ◌≢◌, ℕ, ◌<◌, ◌≤◌, true, length, sym, ◌∙◌, ap, subst, arith}
use Rattle.std.proofs.lemmas.Result.{err_from_is_err_and}
use Rattle.layout_map.specs.declared.sizes.TheConstants.{MOST_MEMBERS}
use Rattle.stripe_journal.specs.Entries.{numbers_of, row_mask}
use Rattle.stripe_journal.specs.Forms.{has_bit}
use Rattle.stripe_journal.proofs.Entries.{sector_elsewhere}
use Rattle.array_io.specs.Steps.FormingRows.{HasParityOn}
use Rattle.array_io.proofs.Commits.BufferRows.{same_mask, sound_with_sum}
use Rattle.array_io.proofs.Commits.PlannedRows.{same_numbers}
use Rattle.array_io.proofs.forming.form_row.Goals as goal

pub returns-in_err-sum_row-clause-forms : goal.returns-in_err-sum_row-clause-forms
returns-in_err-sum_row-clause-forms g c =
    let p = err_from_is_err_and c.from_residual.result c.from_residual.ensures.1 in
    let geometry = c.args.table.now.geometry in
    let parity = c.parity_member-parity.result in
    let here : HasParityOn geometry c.args.row parity = subst (λ (r : ℕ). HasParityOn geometry r parity) c.from.ensures c.parity_member-parity.ensures.parity in
    record {
      steps = rw (p.1, p.2) c.in_err-sum_row.ensures.sums.steps;
      numbers = same_numbers c.clear_sector.new.entry c.args.entry.now c.clear_sector.ensures.form;
      form = c.clear_sector.ensures.form;
      sound = λ number from honest at. rw p.1 tt;
      others = λ other member within skip. c.clear_sector.ensures.others other member within
          (λ same_row same_member. skip same_row (subst (λ (m : ℕ). HasParityOn geometry c.args.row m) (sym same_member) here));
    }

pub returns-clause-forms : goal.returns-clause-forms
returns-clause-forms g c =
    let geometry = c.args.table.now.geometry in
    let entry = c.clear_sector.new.entry in
    let parity = c.parity_member-parity.result in
    let sum = c.sum_row.new.sum in
    let few : geometry.members ≤ MOST_MEMBERS = omega (arith, geometry.limits.members_most) in
    let numbers : numbers_of entry ≡ numbers_of c.args.entry.now = same_numbers entry c.args.entry.now c.clear_sector.ensures.form in
    let below : c.args.i < length (numbers_of entry) = omega (arith, c.requires.place, ap length numbers) in
    let here : HasParityOn geometry c.args.row parity = subst (λ (r : ℕ). HasParityOn geometry r parity) c.from.ensures c.parity_member-parity.ensures.parity in
    let held : has_bit (row_mask entry c.args.i) parity ≡ true =
    ap (λ (mask : ℕ). has_bit mask parity) (same_mask entry c.args.entry.now c.args.i c.clear_sector.ensures.form) ∙ c.requires.held parity here in
    let apart : (other member : ℕ) → (other ≡ c.args.i → ¬ HasParityOn geometry c.args.row member) → other ≡ c.args.i → member ≢ parity =
    λ other member skip same_row same_member. skip same_row (subst (λ (m : ℕ). HasParityOn geometry c.args.row m) (sym same_member) here) in
    record {
      steps = c.in_ok-sum_row.ensures.sums.steps;
      numbers = numbers;
      form = c.clear_sector.ensures.form;
      sound = λ number from honest at values listed.
          sound_with_sum geometry.members entry c.args.i parity sum values few below here.in_set held c.clear_sector.ensures.zero
          (c.in_ok-sum_row.ensures.sums.is_sum number from honest at values listed);
      others = λ other member within skip.
          sector_elsewhere entry c.args.i parity other member sum (omega (arith, here.in_set, few)) within held (apart other member skip)
          ∙ c.clear_sector.ensures.others other member within (apart other member skip);
    }
