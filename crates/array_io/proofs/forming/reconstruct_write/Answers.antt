use Rattle.std.proofs.Common.{◌≡◌, ℕ, ◌<◌, true, false, Ok, Err, List, refl, sym, ◌∙◌, ap, subst, arith}
use Rattle.std.proofs.lemmas.Result.{err_from_is_err_and}
use Rattle.sector_model.specs.History.{Bytes}
use Rattle.layout_map.specs.declared.geometry.Geometry.{Geometry}
use Rattle.layout_map.specs.Placement.{rows_of}
use Rattle.layout_map.specs.declared.sizes.TheConstants.{MOST_MEMBERS}
use Rattle.parity.proofs.Laws.{zero_sector-replicate}
use Rattle.stripe_journal.specs.Entries.{row_mask, sector_at, sector_of_row}
use Rattle.stripe_journal.specs.Forms.{has_bit}
use Rattle.stripe_journal.proofs.Entries.{row_member}
use Rattle.array_io.specs.Steps.FormingRows.{IsListed, sector_with}
use Rattle.array_io.proofs.Commits.BufferRows.{held_with, lacking_with, sum_below, sum_more}
use Rattle.array_io.proofs.Images.Codecs.{spellings}
use Rattle.array_io.proofs.Reading.ReadListed.{keeps_both, keeps_none, read_listed, same_set}
use Rattle.array_io.proofs.forming.reconstruct_write.Goals as goal
use Rattle.array_io.proofs.forming.reconstruct_write.Goals.{in-Some, in_default+in_ok-read_value}

pub loop-member-init : goal.loop-member-init
loop-member-init g c = record {
  honest = λ honest. honest;
  still = λ honest. honest;
  its_slots = c.requires.its_slots;
  steps = keeps_none spellings (g.B.Bank.honest c.args.bank.now) c.args.table.now (g.B.Bank.panel c.args.bank.now) (g.B.Bank.history c.args.bank.now)
      (λ fair. g.met.B.Bank.true_to _ fair);
  sum = λ number from values honest at listed. zero_sector-replicate 512 refl;
}

pub read_value-requires-clause-member : goal.read_value-requires-clause-member
read_value-requires-clause-member g c = subst (λ (x : Geometry). c.loop-member.member < x.members)
    (sym (same_set (g.B.Bank.honest c.args.bank.now) c.args.table.now c.loop-member.table (g.B.Bank.panel c.args.bank.now) (g.B.Bank.panel c.loop-member.bank)
    (g.B.Bank.history c.args.bank.now) (g.B.Bank.history c.loop-member.bank) c.loop-member.invariant.steps))
    c.loop-member-test.true

pub read_value-requires-clause-row : goal.read_value-requires-clause-row
read_value-requires-clause-row g c = subst (λ (x : Geometry). c.from.result < rows_of x.chunk x.stripes)
    (sym (same_set (g.B.Bank.honest c.args.bank.now) c.args.table.now c.loop-member.table (g.B.Bank.panel c.args.bank.now) (g.B.Bank.panel c.loop-member.bank)
    (g.B.Bank.history c.args.bank.now) (g.B.Bank.history c.loop-member.bank) c.loop-member.invariant.steps))
    (subst (λ (r : ℕ). r < rows_of c.args.table.now.geometry.chunk c.args.table.now.geometry.stripes) (sym c.from.ensures) c.requires.row)

pub returns-in_err-read_value-clause-sums : goal.returns-in_err-read_value-clause-sums
returns-in_err-read_value-clause-sums g c =
    let p = err_from_is_err_and c.from_residual.result c.from_residual.ensures.1 in
    record {
      steps = rw (p.1, p.2) (keeps_both (g.B.Bank.honest c.args.bank.now) c.args.table.now c.loop-member.table (g.B.Bank.panel c.args.bank.now)
          (g.B.Bank.panel c.loop-member.bank) (g.B.Bank.history c.args.bank.now) (g.B.Bank.history c.loop-member.bank) c.loop-member.invariant.steps
          (g.B.Bank.honest c.loop-member.bank) c.loop-member.invariant.honest c.read_value.new.table (g.B.Bank.panel c.read_value.new.bank)
          (g.B.Bank.history c.read_value.new.bank) (Err c.in_err-read_value.field-0.0) c.in_err-read_value.ensures.steps);
      is_sum = λ number from honest at. rw p.1 tt;
    }

pub loop-member-preserved : goal.loop-member-preserved
loop-member-preserved g c =
    let now = c.loop-member in
    let geometry = c.args.table.now.geometry in
    let entry = c.args.entry.now in
    let i = c.args.i in
    let in_set = λ (r : ℕ). r < rows_of geometry.chunk geometry.stripes in
    let mask = c.view-view.ensures.mask in
    let below_most_members : now.member < MOST_MEMBERS = omega (arith, c.loop-member-test.true, geometry.limits.members_most) in
    elim c.match-member.branch [
      | in-Some w ↦
          let held : has_bit (row_mask entry i) now.member ≡ true = ap (λ (m : ℕ). has_bit m now.member) (sym mask) ∙ w.in-Some.ensures.some.0 in
          let new_is : w.in-Some.new.now ≡ sector_at entry i now.member = w.in-Some.ensures.some.1
          ∙ ap (λ (m : ℕ). sector_of_row m c.view-view.result.sectors.now now.member) mask
          ∙ ap (λ (row : List Bytes). sector_of_row (row_mask entry i) row now.member) c.view-view.ensures.sectors
          ∙ row_member entry i now.member below_most_members held in
          rw (w.bank-is, w.table-is, w.sum-is) record {
            honest = now.invariant.honest;
            still = now.invariant.still;
            its_slots = now.invariant.its_slots;
            steps = now.invariant.steps;
            sum = λ number from values honest at listed. w.xor_into.ensures
                ∙ sum_more entry i values now.member now.sum w.in-Some.new.now (now.invariant.sum number from values honest at listed)
                (new_is ∙ sym (held_with entry i values now.member held));
          }
      | in_default+in_ok-read_value w ↦
          let lacking : has_bit (row_mask entry i) now.member ≡ false = ap (λ (m : ℕ). has_bit m now.member) (sym mask) ∙ w.in_default.ensures.none refl in
          rw (w.bank-is, w.table-is, w.sum-is) record {
            honest = λ honest. w.read_value.ensures.honest.0 (now.invariant.honest honest);
            still = λ honest. now.invariant.still (w.read_value.ensures.honest.1 honest);
            its_slots = w.read_value.ensures.its_slots;
            steps = keeps_both (g.B.Bank.honest c.args.bank.now) c.args.table.now c.loop-member.table (g.B.Bank.panel c.args.bank.now)
                (g.B.Bank.panel c.loop-member.bank) (g.B.Bank.history c.args.bank.now) (g.B.Bank.history c.loop-member.bank) c.loop-member.invariant.steps
                (g.B.Bank.honest c.loop-member.bank) c.loop-member.invariant.honest w.read_value.new.table (g.B.Bank.panel w.read_value.new.bank)
                (g.B.Bank.history w.read_value.new.bank) (Ok tt) w.in_ok-read_value.ensures.steps;
            sum = λ number from values honest at listed.
                let old : IsListed geometry from.logical c.args.row now.member w.read_value.new.to =
                subst (λ (r : ℕ). IsListed geometry from.logical r now.member w.read_value.new.to) w.from.ensures
                (read_listed (g.B.Bank.honest c.args.bank.now) c.args.table.now c.loop-member.table (g.B.Bank.panel c.args.bank.now)
                (g.B.Bank.panel c.loop-member.bank) (g.B.Bank.history c.args.bank.now) (g.B.Bank.history c.loop-member.bank) c.loop-member.invariant.steps
                (g.B.Bank.honest c.loop-member.bank) c.loop-member.invariant.honest w.read_value.new.table (g.B.Bank.panel w.read_value.new.bank)
                (g.B.Bank.history w.read_value.new.bank) spellings (λ fair. g.met.B.Bank.true_to _ (w.read_value.ensures.honest.0 (now.invariant.honest fair)))
                w.in_ok-read_value.ensures.steps now.member w.from.result w.read_value.new.to c.loop-member-test.true
                (subst in_set (sym w.from.ensures) c.requires.row)
                (w.in_ok-read_value.ensures.gives (now.invariant.honest honest)) honest number from at) in
                w.xor_into-in_default.ensures ∙ sum_more entry i values now.member now.sum w.read_value.new.to
                (now.invariant.sum number from values honest at listed) (old values listed ∙ sym (lacking_with entry i values now.member lacking));
          }
    ]

pub returns-clause-sums : goal.returns-clause-sums
returns-clause-sums g c =
    let at_end : c.loop-member.member ≡ c.args.table.now.geometry.members = omega (arith, c.loop-member-test.false, c.loop-member.auto.member-end) in
    record {
      steps = c.loop-member.invariant.steps;
      is_sum = λ number from honest at values listed. c.loop-member.invariant.sum number from values honest at listed
          ∙ ap (sum_below (sector_with c.args.entry.now c.args.i values)) at_end;
    }

pub read_value-requires-clause-its_slots : goal.read_value-requires-clause-its_slots
read_value-requires-clause-its_slots g c = c.loop-member.invariant.its_slots

pub returns-in_err-read_value-clause-honest : goal.returns-in_err-read_value-clause-honest
returns-in_err-read_value-clause-honest g c = (
  λ honest. c.read_value.ensures.honest.0 (c.loop-member.invariant.honest honest),
  λ honest. c.loop-member.invariant.still (c.read_value.ensures.honest.1 honest),
)

pub returns-in_err-read_value-clause-its_slots : goal.returns-in_err-read_value-clause-its_slots
returns-in_err-read_value-clause-its_slots g c = c.read_value.ensures.its_slots

pub returns-clause-honest : goal.returns-clause-honest
returns-clause-honest g c = (c.loop-member.invariant.honest, c.loop-member.invariant.still)

pub returns-clause-its_slots : goal.returns-clause-its_slots
returns-clause-its_slots g c = c.loop-member.invariant.its_slots
