use Rattle.std.proofs.Common.{◌<◌, ℕ, length, sym, ◌∙◌, Ok, ap, subst}
use Rattle.std.proofs.lemmas.Result.{err_from_is_err_and}
use Rattle.layout_map.specs.declared.geometry.Geometry.{Geometry}
use Rattle.layout_map.specs.Placement.{rows_of}
use Rattle.stripe_journal.specs.Entries.{IsEntryOf}
use Rattle.stripe_journal.specs.Forms.{rows_in}
use Rattle.stripe_journal.specs.Seals.{row_at}
use Rattle.stripe_journal.proofs.HeldEntries.{body_fits}
use Rattle.array_io.specs.Believed.OpenArray.{array_on}
use Rattle.recovery.specs.Replaying.{IsFoundIn}
use Rattle.recovery.proofs.EntrySettled.{settles, settles_none, settles_refused, settles_uncopied, settles_unput}
use Rattle.recovery.proofs.replaying.settle_entry.Goals as goal

pub returns-in_err-latest-clause-settles : goal.returns-in_err-latest-clause-settles
returns-in_err-latest-clause-settles g c =
    let p = err_from_is_err_and c.from_residual.result c.from_residual.ensures.1 in
    rw (p.1, p.2) (settles_refused (g.B.Bank.honest c.args.bank.now) c.latest_entry.new.entry (array_on g.B.Bank c.args.bank.now c.args.table.now 0)
    (array_on g.B.Bank c.latest_entry.new.bank c.latest_entry.new.table 0)
    c.latest_entry.result (c.latest_entry.ensures.finds 0) c.in_err-latest.field-0.0 c.in_err-latest.was)

pub returns-in_default-clause-settles : goal.returns-in_default-clause-settles
returns-in_default-clause-settles g c =
    settles_none (g.B.Bank.honest c.args.bank.now) c.latest_entry.new.entry (array_on g.B.Bank c.args.bank.now c.args.table.now 0)
    (array_on g.B.Bank c.latest_entry.new.bank c.latest_entry.new.table 0)
    c.latest_entry.result (c.latest_entry.ensures.finds 0) (c.in_ok-latest.was ∙ ap Ok c.in_default.is)

pub returns-in_err-copy_to_stale_journal-clause-settles : goal.returns-in_err-copy_to_stale_journal-clause-settles
returns-in_err-copy_to_stale_journal-clause-settles g c =
    let p = err_from_is_err_and c.from_residual-in_err-copy_to_stale_journal.result c.from_residual-in_err-copy_to_stale_journal.ensures.1 in
    rw (p.1, p.2) (settles_uncopied (g.B.Bank.honest c.args.bank.now) c.latest_entry.new.entry (array_on g.B.Bank c.args.bank.now c.args.table.now 0)
    (array_on g.B.Bank c.latest_entry.new.bank c.latest_entry.new.table 0)
    c.latest_entry.result (c.latest_entry.ensures.finds 0) c.in-Some.latest (c.in_ok-latest.was ∙ ap Ok c.in-Some.is) c.latest_entry.ensures.geometry
    (g.B.Bank.honest c.latest_entry.new.bank) (λ fair. c.latest_entry.ensures.honest.0 fair)
    (array_on g.B.Bank c.copy_to_stale_journal.new.bank c.copy_to_stale_journal.new.table 0) c.copy_to_stale_journal.result
    (c.copy_to_stale_journal.ensures.copies 0) c.in_err-copy_to_stale_journal.field-0.0 c.in_err-copy_to_stale_journal.was)

pub returns-in_err-put_on_members-clause-settles : goal.returns-in_err-put_on_members-clause-settles
returns-in_err-put_on_members-clause-settles g c =
    let p = err_from_is_err_and c.from_residual-in_err-put_on_members.result c.from_residual-in_err-put_on_members.ensures.1 in
    rw (p.1, p.2) (settles_unput (g.B.Bank.honest c.args.bank.now) c.latest_entry.new.entry (array_on g.B.Bank c.args.bank.now c.args.table.now 0)
    (array_on g.B.Bank c.latest_entry.new.bank c.latest_entry.new.table 0)
    c.latest_entry.result (c.latest_entry.ensures.finds 0) c.in-Some.latest (c.in_ok-latest.was ∙ ap Ok c.in-Some.is) c.latest_entry.ensures.geometry
    (g.B.Bank.honest c.latest_entry.new.bank) (λ fair. c.latest_entry.ensures.honest.0 fair)
    (array_on g.B.Bank c.copy_to_stale_journal.new.bank c.copy_to_stale_journal.new.table 0) c.copy_to_stale_journal.result
    (c.copy_to_stale_journal.ensures.copies 0) c.in_ok-copy_to_stale_journal.was c.copy_to_stale_journal.ensures.geometry
    (g.B.Bank.honest c.copy_to_stale_journal.new.bank) (λ fair. c.copy_to_stale_journal.ensures.honest.0 (c.latest_entry.ensures.honest.0 fair))
    (array_on g.B.Bank c.put_on_members.new.bank c.put_on_members.new.table 0) c.put_on_members.result (c.put_on_members.ensures.steps 0)
    c.in_err-put_on_members.field-0.0 c.in_err-put_on_members.was)

pub returns-clause-settles : goal.returns-clause-settles
returns-clause-settles g c =
    settles (g.B.Bank.honest c.args.bank.now) c.latest_entry.new.entry (array_on g.B.Bank c.args.bank.now c.args.table.now 0)
    (array_on g.B.Bank c.latest_entry.new.bank c.latest_entry.new.table 0)
    c.latest_entry.result (c.latest_entry.ensures.finds 0) c.in-Some.latest (c.in_ok-latest.was ∙ ap Ok c.in-Some.is) c.latest_entry.ensures.geometry
    (g.B.Bank.honest c.latest_entry.new.bank) (λ fair. c.latest_entry.ensures.honest.0 fair)
    (array_on g.B.Bank c.copy_to_stale_journal.new.bank c.copy_to_stale_journal.new.table 0) c.copy_to_stale_journal.result
    (c.copy_to_stale_journal.ensures.copies 0) c.in_ok-copy_to_stale_journal.was c.copy_to_stale_journal.ensures.geometry
    (g.B.Bank.honest c.copy_to_stale_journal.new.bank) (λ fair. c.copy_to_stale_journal.ensures.honest.0 (c.latest_entry.ensures.honest.0 fair))
    (array_on g.B.Bank c.put_on_members.new.bank c.put_on_members.new.table 0) c.put_on_members.result (c.put_on_members.ensures.steps 0)
    c.in_ok-put_on_members.was

pub copy_to_stale_journal-requires-clause-fits : goal.copy_to_stale_journal-requires-clause-fits
copy_to_stale_journal-requires-clause-fits g c =
    let table = c.latest_entry.new.table in
    let entry = c.latest_entry.new.entry in
    let found = subst (IsFoundIn table entry) c.in-Some.is c.in_ok-latest.ensures.of_set in
    body_fits table.geometry.members table.geometry.format c.in-Some.latest.seal entry table.geometry.limits.members_most found.0.belongs.of_format
    found.1.of_seal

pub put_on_members-requires-clause-its_rows : goal.put_on_members-requires-clause-its_rows
put_on_members-requires-clause-its_rows g c =
    let entry = c.latest_entry.new.entry in
    let seal = c.in-Some.latest.seal in
    let same = sym c.copy_to_stale_journal.ensures.geometry in
    let found = subst (IsFoundIn c.latest_entry.new.table entry) c.in-Some.is c.in_ok-latest.ensures.of_set in
    record {
      of_seal = subst (λ (s : Geometry). IsEntryOf s.members seal.form entry) same found.1.of_seal;
      below = subst (λ (s : Geometry). (i : ℕ) → i < length (rows_in seal.form) → row_at (rows_in seal.form) i < rows_of s.chunk s.stripes) same found.1.below;
    }
