use Rattle.std.proofs.Common.{◌∙◌, ◌≤◌, length, sym, subst, refl, arith}
use Rattle.std.proofs.lemmas.Bool.{false≢true}
use Rattle.std.proofs.lemmas.Result.{err_from_is_err_and}
use Rattle.extents.specs.Names.{IsGoodName}
use Rattle.extents.specs.Versions.{most_name_bytes}
use Rattle.volume_table.proofs.Admitted.{IsNameOf, absent_by, found_at, length_by, may_rename_at, name_by, name_was_found, name_was_not_found, no_volume_first}
use Rattle.volume_table.proofs.Admitted.{none_found, rename_admitted, rename_bad_name, rename_exists, rename_long_name}
use Rattle.volume_table.proofs.store.admission.admit_rename.Goals as goal

pub returns-in_err-found-clause-may : goal.returns-in_err-found-clause-may
returns-in_err-found-clause-may c =
    let p = err_from_is_err_and c.from_residual.result c.from_residual.ensures.1 in
    rw p.1 tt

pub returns-in_err-found-clause-used : goal.returns-in_err-found-clause-used
returns-in_err-found-clause-used c =
    let p = err_from_is_err_and c.from_residual.result c.from_residual.ensures.1 in
    rw p.1 tt

pub returns-in_err-found-clause-named : goal.returns-in_err-found-clause-named
returns-in_err-found-clause-named c =
    let p = err_from_is_err_and c.from_residual.result c.from_residual.ensures.1 in
    rw p.1 tt

pub returns-in_err-found-clause-listed : goal.returns-in_err-found-clause-listed
returns-in_err-found-clause-listed c =
    let p = err_from_is_err_and c.from_residual.result c.from_residual.ensures.1 in
    let f = none_found c.args.table.now.records c.args.old.now c.record_named.result c.in_err-found.field-0.0 p.0 c.in_err-found.ensures.value
    c.record_named.ensures p.2 in
    rw (p.1, f.0) (0, omega arith, refl)

pub returns-in_err-found-clause-decides : goal.returns-in_err-found-clause-decides
returns-in_err-found-clause-decides c = λ extents sectors volumes by.
    let p = err_from_is_err_and c.from_residual.result c.from_residual.ensures.1 in
    let f = none_found c.args.table.now.records c.args.old.now c.record_named.result c.in_err-found.field-0.0 p.0 c.in_err-found.ensures.value
    c.record_named.ensures p.2 in
    rw (p.1, f.0) (no_volume_first c.args.old.now volumes.volumes _ (absent_by extents c.args.table.now sectors volumes c.args.old.now by f.1))

pub returns-in_default-clause-listed : goal.returns-in_default-clause-listed
returns-in_default-clause-listed c = (1, omega arith, refl)

pub returns-in_default-clause-decides : goal.returns-in_default-clause-decides
returns-in_default-clause-decides c = λ extents sectors volumes by.
    let table = c.args.table.now in
    let found = c.in_ok-found.found in
    let has = length_by extents table sectors volumes c.args.old.now found.number found.count by (rw c.in_ok-found.ensures.ok_part at c.record_named.ensures) in
    rename_bad_name extents c.args.old.now c.args.new.now found.count volumes has (λ is. false≢true (c.in_default.ensures.good.1 is.good))

pub returns-then-new-most_name_bytes-clause-listed : goal.returns-then-new-most_name_bytes-clause-listed
returns-then-new-most_name_bytes-clause-listed c = (1, omega arith, refl)

pub returns-then-new-most_name_bytes-clause-decides : goal.returns-then-new-most_name_bytes-clause-decides
returns-then-new-most_name_bytes-clause-decides c = λ extents sectors volumes by.
    let table = c.args.table.now in
    let found = c.in_ok-found.found in
    let has = length_by extents table sectors volumes c.args.old.now found.number found.count by (rw c.in_ok-found.ensures.ok_part at c.record_named.ensures) in
    rename_long_name extents table sectors volumes c.args.old.now c.args.new.now found.count by has
    (omega (arith, c.most_name_bytes.ensures, c.if-new-most_name_bytes.true))

pub returns-then-is_some-clause-listed : goal.returns-then-is_some-clause-listed
returns-then-is_some-clause-listed c = (2, omega arith, refl)

pub returns-then-is_some-clause-decides : goal.returns-then-is_some-clause-decides
returns-then-is_some-clause-decides c = λ extents sectors volumes by.
    let table = c.args.table.now in
    let found = c.in_ok-found.found in
    let name = c.args.new.now in
    let has = length_by extents table sectors volumes c.args.old.now found.number found.count by (rw c.in_ok-found.ensures.ok_part at c.record_named.ensures) in
    let short : length name ≤ most_name_bytes table.version = omega (arith, c.most_name_bytes.ensures, c.if-new-most_name_bytes.false) in
    let its_name : IsNameOf table.version name = record { good = subst IsGoodName c.in-Some.ensures.same c.in-Some.name.good; short = short } in
    let was = name_was_found table.records name name c.record_named-2.result refl (sym c.is_some.ensures ∙ c.if-is_some.true) c.record_named-2.ensures in
    rename_exists extents c.args.old.now name found.count was.0.count volumes has (name_by extents table sectors volumes name by its_name)
    (length_by extents table sectors volumes name was.0.number was.0.count by was.1)

pub returns-clause-may : goal.returns-clause-may
returns-clause-may c =
    let table = c.args.table.now in
    let found = c.in_ok-found.found in
    let name = c.args.new.now in
    let none = name_was_not_found table.records name name c.record_named-2.result refl (sym c.is_some.ensures ∙ c.if-is_some.false) c.record_named-2.ensures in
    may_rename_at table c.args.old.now name found.number found.count _ (rw c.in_ok-found.ensures.ok_part at c.record_named.ensures) refl c.in-Some.ensures.same
    (omega (arith, c.most_name_bytes.ensures, c.if-new-most_name_bytes.false)) none

pub returns-clause-used : goal.returns-clause-used
returns-clause-used c =
    let found = c.in_ok-found.found in
    ∣ found_at c.args.table.now c.args.old.now found.number found.count (rw c.in_ok-found.ensures.ok_part at c.record_named.ensures) ∣₁

pub returns-clause-named : goal.returns-clause-named
returns-clause-named c = c.in-Some.ensures.same

pub returns-clause-decides : goal.returns-clause-decides
returns-clause-decides c = λ extents sectors volumes by.
    let table = c.args.table.now in
    let found = c.in_ok-found.found in
    let name = c.args.new.now in
    let has = length_by extents table sectors volumes c.args.old.now found.number found.count by (rw c.in_ok-found.ensures.ok_part at c.record_named.ensures) in
    let short : length name ≤ most_name_bytes table.version = omega (arith, c.most_name_bytes.ensures, c.if-new-most_name_bytes.false) in
    let its_name : IsNameOf table.version name = record { good = subst IsGoodName c.in-Some.ensures.same c.in-Some.name.good; short = short } in
    let none = name_was_not_found table.records name name c.record_named-2.result refl (sym c.is_some.ensures ∙ c.if-is_some.false) c.record_named-2.ensures in
    rename_admitted extents c.args.old.now name found.count volumes has (name_by extents table sectors volumes name by its_name)
    (absent_by extents table sectors volumes name by none)
