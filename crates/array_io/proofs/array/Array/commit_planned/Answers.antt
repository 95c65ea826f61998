use Rattle.std.proofs.lemmas.Result.{err_from_is_err_and}
use Rattle.std.proofs.Common.{Err, Ok, ◌<◌, ℕ, List, length, refl, sym, ◌∙◌, ap, subst, arith}
use Rattle.layout_map.specs.declared.geometry.Geometry.{Geometry}
use Rattle.layout_map.specs.Placement.{rows_of}
use Rattle.stripe_journal.specs.Entries.{numbers_of}
use Rattle.stripe_journal.specs.Seals.{row_at}
use Rattle.stripe_journal.proofs.HeldEntries.{body_fits, entry_of_form}
use Rattle.array_io.specs.Believed.Holds.{row_count}
use Rattle.sector_model.specs.Readable.{readable}
use Rattle.array_io.specs.Believed.Settled.{rows_by}
use Rattle.array_io.specs.Steps.Contents.{given_of}
use Rattle.array_io.proofs.Images.Codecs.{spellings}
use Rattle.array_io.proofs.Commits.EntryValues.{values_of}
use Rattle.array_io.proofs.Commits.FormedEntry.{two_held}
use Rattle.array_io.proofs.Commits.CommitCall.{commit_unformed, commit_worn, formed_next, put_done, put_unput, put_unsealed}
use Rattle.array_io.proofs.array.Array.commit_planned.Goals as goal

pub returns-then-self-ge-GREATEST_COUNT-clause-commits : goal.returns-then-self-ge-GREATEST_COUNT-clause-commits
returns-then-self-ge-GREATEST_COUNT-clause-commits g c =
    commit_worn spellings (g.B.Bank.honest c.args.self.now.bank) (given_of c.args.writes.now.contents) c.args.self.now.entry c.args.self.now.table
    (g.B.Bank.panel c.args.self.now.bank) (g.B.Bank.history c.args.self.now.bank)
    (λ fair. g.met.B.Bank.true_to _ fair) c.if-self-ge-GREATEST_COUNT.true

pub returns-in_err-form_rows-clause-commits : goal.returns-in_err-form_rows-clause-commits
returns-in_err-form_rows-clause-commits g c =
    let p = err_from_is_err_and c.from_residual.result c.from_residual.ensures.1 in
    rw (p.1, p.2) (commit_unformed spellings (g.B.Bank.honest c.args.self.now.bank) c.args.self.now.entry (given_of c.args.writes.now.contents)
    c.args.self.now.table
    c.form_rows.new.table
    (g.B.Bank.panel c.args.self.now.bank) (g.B.Bank.panel c.form_rows.new.bank) (g.B.Bank.history c.args.self.now.bank) (g.B.Bank.history c.form_rows.new.bank)
    (λ fair. g.met.B.Bank.true_to _ fair) (λ fair. g.met.B.Bank.true_to _ (c.form_rows.ensures.honest.0 fair)) c.in_err-form_rows.field-0.0
    c.in_err-form_rows.ensures.steps)

pub put_on_members-requires-clause-its_rows : goal.put_on_members-requires-clause-its_rows
put_on_members-requires-clause-its_rows g c =
    let same = (c.in_ok-form_rows.ensures.steps (g.B.Bank.panel c.args.self.now.bank).devices c.args.self.now.entry).goes_on.not_older.same_geometry in
    let seal = c.next_seal-seal.ensures.form in
    record {
      of_seal = entry_of_form c.put_on_journals.new.table.geometry.members c.form_rows.new.entry c.form_rows.new.table.geometry.format
          c.next_seal-seal.result.form seal;
      below = subst (λ (rows : List ℕ). (i : ℕ) → i < length rows → row_at rows i < row_count c.put_on_journals.new.table) (sym seal.rows)
          (subst (λ (s : Geometry). (i : ℕ) → i < length (numbers_of c.form_rows.new.entry)
          → row_at (numbers_of c.form_rows.new.entry) i < rows_of s.chunk s.stripes)
          (sym (c.put_on_journals.ensures.geometry ∙ same)) c.in_ok-form_rows.ensures.rows.of_set);
    }

pub put_on_journals-requires-clause-fits : goal.put_on_journals-requires-clause-fits
put_on_journals-requires-clause-fits g c =
    let geometry = c.form_rows.new.table.geometry in
    let seal = c.next_seal-seal.ensures.form in
    body_fits geometry.members geometry.format c.next_seal-seal.result c.form_rows.new.entry geometry.limits.members_most seal.of_format
    (entry_of_form geometry.members c.form_rows.new.entry geometry.format c.next_seal-seal.result.form seal)

pub next_seal-seal-requires-clause-listed : goal.next_seal-seal-requires-clause-listed
next_seal-seal-requires-clause-listed g c = λ one.
    let same = (c.in_ok-form_rows.ensures.steps (g.B.Bank.panel c.args.self.now.bank).devices c.args.self.now.entry).goes_on.not_older.same_geometry in
    record {
      few = omega (
        arith,
        c.in_ok-form_rows.ensures.rows.few,
        c.requires.may.few (ap (λ (s : Geometry). s.format)
            (sym {a = c.form_rows.new.table.geometry} same) ∙ one),
      );
      two = two_held c.args.self.now.table.geometry (given_of c.args.writes.now.contents) c.form_rows.new.entry c.in_ok-form_rows.ensures.rows
          c.in_ok-form_rows.ensures.held;
    }

pub returns-in_err-put_on_journals-clause-commits : goal.returns-in_err-put_on_journals-clause-commits
returns-in_err-put_on_journals-clause-commits g c =
    let p = err_from_is_err_and c.from_residual-in_err-put_on_journals.result c.from_residual-in_err-put_on_journals.ensures.1 in
    rw (p.1, p.2) (put_unsealed spellings (g.B.Bank.honest c.args.self.now.bank) c.args.self.now.entry (given_of c.args.writes.now.contents)
    c.args.self.now.table
    c.form_rows.new.table
    (g.B.Bank.panel c.args.self.now.bank) (g.B.Bank.panel c.form_rows.new.bank) (g.B.Bank.history c.args.self.now.bank) (g.B.Bank.history c.form_rows.new.bank)
    (λ fair. g.met.B.Bank.true_to _ fair) (λ fair. g.met.B.Bank.true_to _ (c.form_rows.ensures.honest.0 fair))
    (g.B.Bank.honest c.form_rows.new.bank) (λ fair. c.form_rows.ensures.honest.0 fair) c.next_seal-seal.result c.form_rows.new.entry
    (values_of c.form_rows.new.table.geometry.members (rows_by c.form_rows.new.table (readable (g.B.Bank.history c.form_rows.new.bank))) c.form_rows.new.entry)
    c.in_ok-form_rows.ensures.steps c.next_seal-seal.ensures.number
    (formed_next spellings (g.B.Bank.honest c.args.self.now.bank) c.args.self.now.entry (given_of c.args.writes.now.contents) c.args.self.now.table
    c.form_rows.new.table
    (g.B.Bank.panel c.args.self.now.bank) (g.B.Bank.panel c.form_rows.new.bank) (g.B.Bank.history c.args.self.now.bank) (g.B.Bank.history c.form_rows.new.bank)
    (λ fair. g.met.B.Bank.true_to _ fair) (λ fair. g.met.B.Bank.true_to _ (c.form_rows.ensures.honest.0 fair))
    c.requires.may c.next_seal-seal.result c.form_rows.new.entry c.in_ok-form_rows.ensures.steps c.in_ok-form_rows.ensures.formed c.next_seal-seal.ensures.id
    c.next_seal-seal.ensures.number c.next_seal-seal.ensures.form)
    c.put_on_journals.new.table (g.B.Bank.panel c.put_on_journals.new.bank) (g.B.Bank.history c.put_on_journals.new.bank)
    (Err c.in_err-put_on_journals.field-0.0) (c.in_err-put_on_journals.ensures.steps c.args.self.now.entry) c.in_err-put_on_journals.field-0.0 refl)

pub returns-in_err-put_on_members-clause-commits : goal.returns-in_err-put_on_members-clause-commits
returns-in_err-put_on_members-clause-commits g c =
    let p = err_from_is_err_and c.from_residual-in_err-put_on_members.result c.from_residual-in_err-put_on_members.ensures.1 in
    rw (p.1, p.2) (put_unput spellings (g.B.Bank.honest c.args.self.now.bank) c.args.self.now.entry (given_of c.args.writes.now.contents) c.args.self.now.table
    c.form_rows.new.table
    (g.B.Bank.panel c.args.self.now.bank) (g.B.Bank.panel c.form_rows.new.bank) (g.B.Bank.history c.args.self.now.bank) (g.B.Bank.history c.form_rows.new.bank)
    (λ fair. g.met.B.Bank.true_to _ fair) (λ fair. g.met.B.Bank.true_to _ (c.form_rows.ensures.honest.0 fair))
    (g.B.Bank.honest c.form_rows.new.bank) (λ fair. c.form_rows.ensures.honest.0 fair) c.next_seal-seal.result c.form_rows.new.entry
    (values_of c.form_rows.new.table.geometry.members (rows_by c.form_rows.new.table (readable (g.B.Bank.history c.form_rows.new.bank))) c.form_rows.new.entry)
    c.in_ok-form_rows.ensures.steps c.next_seal-seal.ensures.number
    (formed_next spellings (g.B.Bank.honest c.args.self.now.bank) c.args.self.now.entry (given_of c.args.writes.now.contents) c.args.self.now.table
    c.form_rows.new.table
    (g.B.Bank.panel c.args.self.now.bank) (g.B.Bank.panel c.form_rows.new.bank) (g.B.Bank.history c.args.self.now.bank) (g.B.Bank.history c.form_rows.new.bank)
    (λ fair. g.met.B.Bank.true_to _ fair) (λ fair. g.met.B.Bank.true_to _ (c.form_rows.ensures.honest.0 fair))
    c.requires.may c.next_seal-seal.result c.form_rows.new.entry c.in_ok-form_rows.ensures.steps c.in_ok-form_rows.ensures.formed c.next_seal-seal.ensures.id
    c.next_seal-seal.ensures.number c.next_seal-seal.ensures.form)
    c.put_on_journals.new.table (g.B.Bank.panel c.put_on_journals.new.bank) (g.B.Bank.history c.put_on_journals.new.bank)
    (Ok tt) (c.in_ok-put_on_journals.ensures.steps c.args.self.now.entry) refl (g.B.Bank.honest c.put_on_journals.new.bank)
    (λ fair. c.put_on_journals.ensures.honest.0 fair)
    c.put_on_members.new.table (g.B.Bank.panel c.put_on_members.new.bank) (g.B.Bank.history c.put_on_members.new.bank)
    (λ fair. g.met.B.Bank.true_to _ (c.put_on_members.ensures.honest.0 (c.put_on_journals.ensures.honest.0 (c.form_rows.ensures.honest.0 fair))))
    (Err c.in_err-put_on_members.field-0.0) (c.in_err-put_on_members.ensures.steps c.args.self.now.entry) c.in_err-put_on_members.field-0.0 refl)

pub returns-clause-commits : goal.returns-clause-commits
returns-clause-commits g c =
    put_done spellings (g.B.Bank.honest c.args.self.now.bank) c.args.self.now.entry (given_of c.args.writes.now.contents) c.args.self.now.table
    c.form_rows.new.table
    (g.B.Bank.panel c.args.self.now.bank) (g.B.Bank.panel c.form_rows.new.bank) (g.B.Bank.history c.args.self.now.bank) (g.B.Bank.history c.form_rows.new.bank)
    (λ fair. g.met.B.Bank.true_to _ fair) (λ fair. g.met.B.Bank.true_to _ (c.form_rows.ensures.honest.0 fair))
    (g.B.Bank.honest c.form_rows.new.bank) (λ fair. c.form_rows.ensures.honest.0 fair) c.next_seal-seal.result c.form_rows.new.entry
    (values_of c.form_rows.new.table.geometry.members (rows_by c.form_rows.new.table (readable (g.B.Bank.history c.form_rows.new.bank))) c.form_rows.new.entry)
    c.in_ok-form_rows.ensures.steps c.next_seal-seal.ensures.number
    (formed_next spellings (g.B.Bank.honest c.args.self.now.bank) c.args.self.now.entry (given_of c.args.writes.now.contents) c.args.self.now.table
    c.form_rows.new.table
    (g.B.Bank.panel c.args.self.now.bank) (g.B.Bank.panel c.form_rows.new.bank) (g.B.Bank.history c.args.self.now.bank) (g.B.Bank.history c.form_rows.new.bank)
    (λ fair. g.met.B.Bank.true_to _ fair) (λ fair. g.met.B.Bank.true_to _ (c.form_rows.ensures.honest.0 fair))
    c.requires.may c.next_seal-seal.result c.form_rows.new.entry c.in_ok-form_rows.ensures.steps c.in_ok-form_rows.ensures.formed c.next_seal-seal.ensures.id
    c.next_seal-seal.ensures.number c.next_seal-seal.ensures.form)
    c.put_on_journals.new.table (g.B.Bank.panel c.put_on_journals.new.bank) (g.B.Bank.history c.put_on_journals.new.bank)
    (Ok tt) (c.in_ok-put_on_journals.ensures.steps c.args.self.now.entry) refl (g.B.Bank.honest c.put_on_journals.new.bank)
    (λ fair. c.put_on_journals.ensures.honest.0 fair)
    c.put_on_members.new.table (g.B.Bank.panel c.put_on_members.new.bank) (g.B.Bank.history c.put_on_members.new.bank)
    (λ fair. g.met.B.Bank.true_to _ (c.put_on_members.ensures.honest.0 (c.put_on_journals.ensures.honest.0 (c.form_rows.ensures.honest.0 fair))))
    (Ok tt) (c.in_ok-put_on_members.ensures.steps c.args.self.now.entry) refl

pub returns-then-self-ge-GREATEST_COUNT-clause-honest : goal.returns-then-self-ge-GREATEST_COUNT-clause-honest
returns-then-self-ge-GREATEST_COUNT-clause-honest g c = (λ fair. fair, λ fair. fair)

pub form_rows-requires-clause-its_slots : goal.form_rows-requires-clause-its_slots
form_rows-requires-clause-its_slots g c = c.args.self.now.its_slots

pub form_rows-requires-clause-may : goal.form_rows-requires-clause-may
form_rows-requires-clause-may g c = c.requires.may

pub form_rows-requires-clause-planned : goal.form_rows-requires-clause-planned
form_rows-requires-clause-planned g c = c.requires.planned

pub invariant_of-self : goal.invariant_of-self
invariant_of-self g c = record { its_slots = c.form_rows.ensures.its_slots }

pub returns-in_err-form_rows-clause-honest : goal.returns-in_err-form_rows-clause-honest
returns-in_err-form_rows-clause-honest g c = c.form_rows.ensures.honest

pub next_seal-seal-requires-clause-room : goal.next_seal-seal-requires-clause-room
next_seal-seal-requires-clause-room g c = c.if-self-ge-GREATEST_COUNT.false

pub next_seal-seal-requires-clause-least : goal.next_seal-seal-requires-clause-least
next_seal-seal-requires-clause-least g c = c.in_ok-form_rows.ensures.rows.least

pub overflow_add-self : goal.overflow_add-self
overflow_add-self g c = omega (arith, c.if-self-ge-GREATEST_COUNT.false)

pub invariant_of-self-2 : goal.invariant_of-self-2
invariant_of-self-2 g c = record { its_slots = c.put_on_members.ensures.its_slots }

pub returns-clause-honest : goal.returns-clause-honest
returns-clause-honest g c = (
  λ fair. c.put_on_members.ensures.honest.0 (c.put_on_journals.ensures.honest.0 (c.form_rows.ensures.honest.0 fair)),
  λ fair. c.form_rows.ensures.honest.1 (c.put_on_journals.ensures.honest.1 (c.put_on_members.ensures.honest.1 fair)),
)
