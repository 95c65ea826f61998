use Rattle.std.proofs.Common.{Err, Some, ◌+◌}
use Rattle.std.proofs.lemmas.Result.{IfOk-at_ok, err_from_is_err_and}
use Rattle.stripe_journal.specs.Entries.{body_of}
use Rattle.array_io.specs.Believed.OpenArray.{array_on}
use Rattle.array_io.specs.Steps.Putting.{MayWrite}
use Rattle.array_io.proofs.Images.Codecs.{spellings}
use Rattle.recovery.specs.Replaying.{IsFound, IsFoundOn, KnowsSeals, also_known}
use Rattle.recovery.proofs.BringingTo.{brings_from, brings_refused, brings_then, brings_value}
use Rattle.recovery.proofs.SealsFound.{begins_unknown, found_of_set, none_found, then_loaded, unknown}
use Rattle.recovery.proofs.latest.latest_entry.Goals as goal

pub returns-in_err-lower-clause-finds : goal.returns-in_err-lower-clause-finds
returns-in_err-lower-clause-finds g c =
    let p = err_from_is_err_and c.from_residual.result c.from_residual.ensures.1 in
    let honest = g.B.Bank.honest c.args.bank.now in
    let first = c.args.table.now.geometry.members in
    let found = IsFound (body_of first c.args.entry.now) in
    rw (p.1, p.2) (λ number.
    let old = array_on g.B.Bank c.args.bank.now c.args.table.now number in
    let mid = array_on g.B.Bank c.seal_or_fail_slot.new.bank c.seal_or_fail_slot.new.table number in
    brings_from honest (KnowsSeals unknown) MayWrite found old mid (Err c.in_err-lower.field-0.0)
    (λ from writes. begins_unknown from c.args.table.now (g.B.Bank.history c.args.bank.now) writes)
    (brings_refused honest (KnowsSeals unknown) (λ last. KnowsSeals (also_known unknown first last)) old mid c.seal_or_fail_slot.result
    (c.seal_or_fail_slot.ensures.finds number unknown)
    found c.in_err-lower.field-0.0 c.in_err-lower.was))

pub returns-in_err-upper-clause-finds : goal.returns-in_err-upper-clause-finds
returns-in_err-upper-clause-finds g c =
    let p = err_from_is_err_and c.from_residual-in_err-upper.result c.from_residual-in_err-upper.ensures.1 in
    let honest = g.B.Bank.honest c.args.bank.now in
    let still = g.B.Bank.honest c.seal_or_fail_slot.new.bank in
    let first = c.args.table.now.geometry.members in
    let found = IsFound (body_of first c.args.entry.now) in
    let one = also_known unknown first c.in_ok-lower.lower in
    rw (p.1, p.2) (λ number.
    let old = array_on g.B.Bank c.args.bank.now c.args.table.now number in
    let mid = array_on g.B.Bank c.seal_or_fail_slot.new.bank c.seal_or_fail_slot.new.table number in
    let new = array_on g.B.Bank c.seal_or_fail_slot-2.new.bank c.seal_or_fail_slot-2.new.table number in
    brings_from honest (KnowsSeals unknown) MayWrite found old new (Err c.in_err-upper.field-0.0)
    (λ from writes. begins_unknown from c.args.table.now (g.B.Bank.history c.args.bank.now) writes)
    (brings_then honest still (λ fair. c.seal_or_fail_slot.ensures.honest.0 fair) (KnowsSeals unknown) (KnowsSeals one) found old mid new
    (Err c.in_err-upper.field-0.0)
    (brings_value honest (KnowsSeals unknown) (λ last. KnowsSeals (also_known unknown first last)) old mid c.seal_or_fail_slot.result
    (c.seal_or_fail_slot.ensures.finds number unknown) c.in_ok-lower.lower c.in_ok-lower.was)
    (brings_refused still (KnowsSeals one) (λ last. KnowsSeals (also_known one (first + 1) last)) mid new c.seal_or_fail_slot-2.result
    (c.seal_or_fail_slot-2.ensures.finds number one)
    found c.in_err-upper.field-0.0 c.in_err-upper.was)))

pub load_latest-requires-clause-latest : goal.load_latest-requires-clause-latest
load_latest-requires-clause-latest g c =
    let first = c.args.table.now.geometry.members in
    let old = array_on g.B.Bank c.args.bank.now c.args.table.now 0 in
    let mid = array_on g.B.Bank c.seal_or_fail_slot.new.bank c.seal_or_fail_slot.new.table 0 in
    let later = array_on g.B.Bank c.seal_or_fail_slot-2.new.bank c.seal_or_fail_slot-2.new.table 0 in
    found_of_set old mid later c.in_ok-lower.lower c.in_ok-upper.upper (c.seal_or_fail_slot-2.ensures.finds 0 unknown).goes_on.not_older.same_id
    c.seal_or_fail_slot.ensures.geometry c.seal_or_fail_slot-2.ensures.geometry
    c.seal_or_fail_slot-2.ensures.others_stay (IfOk-at_ok (λ last. IsFoundOn c.seal_or_fail_slot.new.table first last) c.in_ok-lower.was
    c.seal_or_fail_slot.ensures.of_set)
    (IfOk-at_ok (λ last. IsFoundOn c.seal_or_fail_slot-2.new.table (first + 1) last) c.in_ok-upper.was c.seal_or_fail_slot-2.ensures.of_set)
    (Some c.in-Some.latest) c.in-Some.ensures

pub returns-in-Some-clause-finds : goal.returns-in-Some-clause-finds
returns-in-Some-clause-finds g c = λ number.
    let honest = g.B.Bank.honest c.args.bank.now in
    let still = g.B.Bank.honest c.seal_or_fail_slot.new.bank in
    let first = c.args.table.now.geometry.members in
    let one = also_known unknown first c.in_ok-lower.lower in
    let old = array_on g.B.Bank c.args.bank.now c.args.table.now number in
    let mid = array_on g.B.Bank c.seal_or_fail_slot.new.bank c.seal_or_fail_slot.new.table number in
    let later = array_on g.B.Bank c.seal_or_fail_slot-2.new.bank c.seal_or_fail_slot-2.new.table number in
    then_loaded old mid later c.in_ok-lower.lower c.in_ok-upper.upper (c.seal_or_fail_slot-2.ensures.finds number unknown).goes_on.not_older.same_id
    c.seal_or_fail_slot.ensures.geometry c.seal_or_fail_slot-2.ensures.geometry
    c.seal_or_fail_slot-2.ensures.others_stay (IfOk-at_ok (λ last. IsFoundOn c.seal_or_fail_slot.new.table first last) c.in_ok-lower.was
    c.seal_or_fail_slot.ensures.of_set)
    (IfOk-at_ok (λ last. IsFoundOn c.seal_or_fail_slot-2.new.table (first + 1) last) c.in_ok-upper.was c.seal_or_fail_slot-2.ensures.of_set) honest still
    (λ fair. c.seal_or_fail_slot.ensures.honest.0 fair)
    (brings_value honest (KnowsSeals unknown) (λ last. KnowsSeals (also_known unknown first last)) old mid c.seal_or_fail_slot.result
    (c.seal_or_fail_slot.ensures.finds number unknown) c.in_ok-lower.lower c.in_ok-lower.was)
    (brings_value still (KnowsSeals one) (λ last. KnowsSeals (also_known one (first + 1) last)) mid later c.seal_or_fail_slot-2.result
    (c.seal_or_fail_slot-2.ensures.finds number one) c.in_ok-upper.upper c.in_ok-upper.was)
    c.in-Some.latest c.in-Some.ensures (g.B.Bank.honest c.seal_or_fail_slot-2.new.bank)
    (λ fair. c.seal_or_fail_slot-2.ensures.honest.0 (c.seal_or_fail_slot.ensures.honest.0 fair))
    (array_on g.B.Bank c.load_latest.new.bank c.load_latest.new.table number) c.load_latest.new.entry c.load_latest.result (c.load_latest.ensures.loads number)

pub returns-in-None-clause-finds : goal.returns-in-None-clause-finds
returns-in-None-clause-finds g c = λ number.
    let honest = g.B.Bank.honest c.args.bank.now in
    let still = g.B.Bank.honest c.seal_or_fail_slot.new.bank in
    let first = c.args.table.now.geometry.members in
    let one = also_known unknown first c.in_ok-lower.lower in
    let old = array_on g.B.Bank c.args.bank.now c.args.table.now number in
    let mid = array_on g.B.Bank c.seal_or_fail_slot.new.bank c.seal_or_fail_slot.new.table number in
    let later = array_on g.B.Bank c.seal_or_fail_slot-2.new.bank c.seal_or_fail_slot-2.new.table number in
    none_found old mid later c.in_ok-lower.lower c.in_ok-upper.upper (c.seal_or_fail_slot-2.ensures.finds number unknown).goes_on.not_older.same_id
    c.seal_or_fail_slot.ensures.geometry c.seal_or_fail_slot-2.ensures.geometry
    c.seal_or_fail_slot-2.ensures.others_stay (IfOk-at_ok (λ last. IsFoundOn c.seal_or_fail_slot.new.table first last) c.in_ok-lower.was
    c.seal_or_fail_slot.ensures.of_set)
    (IfOk-at_ok (λ last. IsFoundOn c.seal_or_fail_slot-2.new.table (first + 1) last) c.in_ok-upper.was c.seal_or_fail_slot-2.ensures.of_set) honest still
    (λ fair. c.seal_or_fail_slot.ensures.honest.0 fair)
    (brings_value honest (KnowsSeals unknown) (λ last. KnowsSeals (also_known unknown first last)) old mid c.seal_or_fail_slot.result
    (c.seal_or_fail_slot.ensures.finds number unknown) c.in_ok-lower.lower c.in_ok-lower.was)
    (brings_value still (KnowsSeals one) (λ last. KnowsSeals (also_known one (first + 1) last)) mid later c.seal_or_fail_slot-2.result
    (c.seal_or_fail_slot-2.ensures.finds number one) c.in_ok-upper.upper c.in_ok-upper.was)
    spellings c.in-None.ensures (body_of first c.args.entry.now)
