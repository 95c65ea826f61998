use Rattle.std.proofs.lemmas.Result.{err_from_is_err_and}
use Rattle.std.proofs.Common.{◌≡◌, Err, Ok, ◌<◌, ℕ, List, length, refl, sym, ◌∙◌, subst}
use Rattle.layout_map.specs.declared.format.Format.TheVariants.{One, Two}
use Rattle.layout_map.specs.declared.geometry.Geometry.{Geometry}
use Rattle.layout_map.specs.Placement.{rows_of}
use Rattle.entry_runs.specs.declared.run.Run.{Run}
use Rattle.entry_runs.specs.Built.{runs_in}
use Rattle.entry_runs.specs.WrittenOut.{rows_of_runs}
use Rattle.superblock.specs.declared.table.Table.{Table}
use Rattle.stripe_journal.specs.declared.entry.Entry.{Entry}
use Rattle.stripe_journal.specs.Entries.{numbers_of}
use Rattle.stripe_journal.specs.Seals.{row_at}
use Rattle.stripe_journal.proofs.HeldEntries.{body_fits, entry_of_form}
use Rattle.array_io.specs.Believed.Holds.{row_count}
use Rattle.array_io.specs.Believed.ZeroRows.{MayZero, zeros_in}
use Rattle.array_io.specs.Believed.ArrayCalls.{Answer, Commits}
use Rattle.array_io.specs.Believed.Views.{ArrayView}
use Rattle.array_io.proofs.Images.Codecs.{spellings}
use Rattle.array_io.proofs.Reading.ReadListed.{keeps_none}
use Rattle.array_io.proofs.Commits.CommitCall.{commit_worn, put_done, put_unput, put_unsealed}
use Rattle.array_io.proofs.Commits.ZeroedRows.{zero_rows, zeros_next}
use Rattle.array_io.proofs.array.Array.commit_zeros.Goals as goal

-- the rows of an entry that has the runs of zeros
its_zeros : (table : Table) (runs : List Run) (entry : Entry) → MayZero table runs → runs_in entry.runs ≡ runs → MayZero table (runs_in entry.runs)
its_zeros table runs entry may same = subst (λ (list : List Run). MayZero table list) (sym same) may

-- the sectors of a commit are those of its runs
of_runs : {honest : Type 0} {old new : ArrayView} {answer : Answer} (geometry : Geometry) (runs : List Run) (entry : Entry) → runs_in entry.runs ≡ runs
    → Commits honest (zeros_in geometry (numbers_of entry)) old new answer → Commits honest (zeros_in geometry (rows_of_runs runs)) old new answer
of_runs {honest} {old} {new} {answer} geometry runs entry same commits =
    subst (λ (list : List Run). Commits honest (zeros_in geometry (rows_of_runs list)) old new answer) same commits

two_formats : ¬ (Two ≡ One)
two_formats same = cc

pub returns-then-self-ge-GREATEST_COUNT-clause-commits : goal.returns-then-self-ge-GREATEST_COUNT-clause-commits
returns-then-self-ge-GREATEST_COUNT-clause-commits g c =
    commit_worn spellings (g.B.Bank.honest c.args.self.now.bank) (zeros_in c.args.self.now.table.geometry (rows_of_runs (runs_in c.args.rows.now)))
    c.args.self.now.entry c.args.self.now.table (g.B.Bank.panel c.args.self.now.bank) (g.B.Bank.history c.args.self.now.bank)
    (λ fair. g.met.B.Bank.true_to _ fair) c.if-self-ge-GREATEST_COUNT.true

pub put_on_journals-requires-clause-fits : goal.put_on_journals-requires-clause-fits
put_on_journals-requires-clause-fits g c =
    let geometry = c.args.self.now.table.geometry in
    let seal = c.next_seal-seal.ensures.form in
    body_fits geometry.members geometry.format c.next_seal-seal.result c.set_rows.new.self geometry.limits.members_most seal.of_format
    (entry_of_form geometry.members c.set_rows.new.self geometry.format c.next_seal-seal.result.form seal)

pub put_on_members-requires-clause-its_rows : goal.put_on_members-requires-clause-its_rows
put_on_members-requires-clause-its_rows g c =
    let entry = c.set_rows.new.self in
    let may = its_zeros c.args.self.now.table (runs_in c.args.rows.now) entry c.requires c.set_rows.ensures in
    let seal = c.next_seal-seal.ensures.form in
    record {
      of_seal = entry_of_form c.put_on_journals.new.table.geometry.members entry c.args.self.now.table.geometry.format c.next_seal-seal.result.form seal;
      below = subst (λ (rows : List ℕ). (i : ℕ) → i < length rows → row_at rows i < row_count c.put_on_journals.new.table) (sym seal.rows)
          (subst (λ (s : Geometry). (i : ℕ) → i < length (numbers_of entry) → row_at (numbers_of entry) i < rows_of s.chunk s.stripes)
          (sym c.put_on_journals.ensures.geometry) may.of_set);
    }

pub returns-in_err-put_on_journals-clause-commits : goal.returns-in_err-put_on_journals-clause-commits
returns-in_err-put_on_journals-clause-commits g c =
    let p = err_from_is_err_and c.from_residual.result c.from_residual.ensures.1 in
    rw (p.1, p.2) (of_runs c.args.self.now.table.geometry (runs_in c.args.rows.now) c.set_rows.new.self c.set_rows.ensures
    (put_unsealed spellings (g.B.Bank.honest c.args.self.now.bank) c.args.self.now.entry
    (zeros_in c.args.self.now.table.geometry (numbers_of c.set_rows.new.self)) c.args.self.now.table c.args.self.now.table
    (g.B.Bank.panel c.args.self.now.bank) (g.B.Bank.panel c.args.self.now.bank) (g.B.Bank.history c.args.self.now.bank) (g.B.Bank.history c.args.self.now.bank)
    (λ fair. g.met.B.Bank.true_to _ fair) (λ fair. g.met.B.Bank.true_to _ fair) (g.B.Bank.honest c.args.self.now.bank) (λ fair. fair)
    c.next_seal-seal.result c.set_rows.new.self (zero_rows c.args.self.now.table.geometry.members (length (numbers_of c.set_rows.new.self)))
    (keeps_none spellings (g.B.Bank.honest c.args.self.now.bank) c.args.self.now.table (g.B.Bank.panel c.args.self.now.bank)
    (g.B.Bank.history c.args.self.now.bank) (λ fair. g.met.B.Bank.true_to _ fair))
    c.next_seal-seal.ensures.number
    (λ fair lost V rests. zeros_next c.args.self.now.entry c.args.self.now.table (g.B.Bank.history c.args.self.now.bank) c.next_seal-seal.result
    c.set_rows.new.self
    c.next_seal-seal.ensures.id c.next_seal-seal.ensures.number c.next_seal-seal.ensures.form
    (its_zeros c.args.self.now.table (runs_in c.args.rows.now) c.set_rows.new.self c.requires c.set_rows.ensures).zeros
    (its_zeros c.args.self.now.table (runs_in c.args.rows.now) c.set_rows.new.self c.requires c.set_rows.ensures).of_set)
    c.put_on_journals.new.table (g.B.Bank.panel c.put_on_journals.new.bank) (g.B.Bank.history c.put_on_journals.new.bank)
    (Err c.in_err-put_on_journals.field-0.0) (c.in_err-put_on_journals.ensures.steps c.args.self.now.entry) c.in_err-put_on_journals.field-0.0 refl))

pub returns-in_err-put_on_members-clause-commits : goal.returns-in_err-put_on_members-clause-commits
returns-in_err-put_on_members-clause-commits g c =
    let p = err_from_is_err_and c.from_residual-in_err-put_on_members.result c.from_residual-in_err-put_on_members.ensures.1 in
    rw (p.1, p.2) (of_runs c.args.self.now.table.geometry (runs_in c.args.rows.now) c.set_rows.new.self c.set_rows.ensures
    (put_unput spellings (g.B.Bank.honest c.args.self.now.bank) c.args.self.now.entry
    (zeros_in c.args.self.now.table.geometry (numbers_of c.set_rows.new.self)) c.args.self.now.table c.args.self.now.table
    (g.B.Bank.panel c.args.self.now.bank) (g.B.Bank.panel c.args.self.now.bank) (g.B.Bank.history c.args.self.now.bank) (g.B.Bank.history c.args.self.now.bank)
    (λ fair. g.met.B.Bank.true_to _ fair) (λ fair. g.met.B.Bank.true_to _ fair) (g.B.Bank.honest c.args.self.now.bank) (λ fair. fair)
    c.next_seal-seal.result c.set_rows.new.self (zero_rows c.args.self.now.table.geometry.members (length (numbers_of c.set_rows.new.self)))
    (keeps_none spellings (g.B.Bank.honest c.args.self.now.bank) c.args.self.now.table (g.B.Bank.panel c.args.self.now.bank)
    (g.B.Bank.history c.args.self.now.bank) (λ fair. g.met.B.Bank.true_to _ fair))
    c.next_seal-seal.ensures.number
    (λ fair lost V rests. zeros_next c.args.self.now.entry c.args.self.now.table (g.B.Bank.history c.args.self.now.bank) c.next_seal-seal.result
    c.set_rows.new.self
    c.next_seal-seal.ensures.id c.next_seal-seal.ensures.number c.next_seal-seal.ensures.form
    (its_zeros c.args.self.now.table (runs_in c.args.rows.now) c.set_rows.new.self c.requires c.set_rows.ensures).zeros
    (its_zeros c.args.self.now.table (runs_in c.args.rows.now) c.set_rows.new.self c.requires c.set_rows.ensures).of_set)
    c.put_on_journals.new.table (g.B.Bank.panel c.put_on_journals.new.bank) (g.B.Bank.history c.put_on_journals.new.bank)
    (Ok tt) (c.in_ok-put_on_journals.ensures.steps c.args.self.now.entry) refl (g.B.Bank.honest c.put_on_journals.new.bank)
    (λ fair. c.put_on_journals.ensures.honest.0 fair)
    c.put_on_members.new.table (g.B.Bank.panel c.put_on_members.new.bank) (g.B.Bank.history c.put_on_members.new.bank)
    (λ fair. g.met.B.Bank.true_to _ (c.put_on_members.ensures.honest.0 (c.put_on_journals.ensures.honest.0 fair)))
    (Err c.in_err-put_on_members.field-0.0) (c.in_err-put_on_members.ensures.steps c.args.self.now.entry) c.in_err-put_on_members.field-0.0 refl))

pub returns-clause-commits : goal.returns-clause-commits
returns-clause-commits g c =
    of_runs c.args.self.now.table.geometry (runs_in c.args.rows.now) c.set_rows.new.self c.set_rows.ensures
    (put_done spellings (g.B.Bank.honest c.args.self.now.bank) c.args.self.now.entry
    (zeros_in c.args.self.now.table.geometry (numbers_of c.set_rows.new.self)) c.args.self.now.table c.args.self.now.table
    (g.B.Bank.panel c.args.self.now.bank) (g.B.Bank.panel c.args.self.now.bank) (g.B.Bank.history c.args.self.now.bank) (g.B.Bank.history c.args.self.now.bank)
    (λ fair. g.met.B.Bank.true_to _ fair) (λ fair. g.met.B.Bank.true_to _ fair) (g.B.Bank.honest c.args.self.now.bank) (λ fair. fair)
    c.next_seal-seal.result c.set_rows.new.self (zero_rows c.args.self.now.table.geometry.members (length (numbers_of c.set_rows.new.self)))
    (keeps_none spellings (g.B.Bank.honest c.args.self.now.bank) c.args.self.now.table (g.B.Bank.panel c.args.self.now.bank)
    (g.B.Bank.history c.args.self.now.bank) (λ fair. g.met.B.Bank.true_to _ fair))
    c.next_seal-seal.ensures.number
    (λ fair lost V rests. zeros_next c.args.self.now.entry c.args.self.now.table (g.B.Bank.history c.args.self.now.bank) c.next_seal-seal.result
    c.set_rows.new.self
    c.next_seal-seal.ensures.id c.next_seal-seal.ensures.number c.next_seal-seal.ensures.form
    (its_zeros c.args.self.now.table (runs_in c.args.rows.now) c.set_rows.new.self c.requires c.set_rows.ensures).zeros
    (its_zeros c.args.self.now.table (runs_in c.args.rows.now) c.set_rows.new.self c.requires c.set_rows.ensures).of_set)
    c.put_on_journals.new.table (g.B.Bank.panel c.put_on_journals.new.bank) (g.B.Bank.history c.put_on_journals.new.bank)
    (Ok tt) (c.in_ok-put_on_journals.ensures.steps c.args.self.now.entry) refl (g.B.Bank.honest c.put_on_journals.new.bank)
    (λ fair. c.put_on_journals.ensures.honest.0 fair)
    c.put_on_members.new.table (g.B.Bank.panel c.put_on_members.new.bank) (g.B.Bank.history c.put_on_members.new.bank)
    (λ fair. g.met.B.Bank.true_to _ (c.put_on_members.ensures.honest.0 (c.put_on_journals.ensures.honest.0 fair)))
    (Ok tt) (c.in_ok-put_on_members.ensures.steps c.args.self.now.entry) refl)

pub next_seal-seal-requires-clause-listed : goal.next_seal-seal-requires-clause-listed
next_seal-seal-requires-clause-listed g c = λ one. absurd (two_formats (sym c.requires.of_format ∙ one))
