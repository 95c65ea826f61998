use Rattle.std.proofs.Common.{⊎_elim, inl, inr, arith, refl}
use Rattle.volume_table.proofs.Admitted.{found_blocks, length_by, zeroing_bad_count, zeroing_past, zeroing_admitted, absent_by, no_volume_to_zero, none_found}
use Rattle.std.proofs.lemmas.Result.{err_from_is_err_and}
use Rattle.volume_table.proofs.store.admission.admit_zeroing.Goals as goal

pub returns-then-count-eq0-clause-decides : goal.returns-then-count-eq0-clause-decides
returns-then-count-eq0-clause-decides c = λ extents sectors volumes by.
    let found = c.in_ok-found.found in
    zeroing_bad_count c.args.name.now found.count c.args.at c.args.count volumes.volumes
    (length_by extents c.args.table.now sectors volumes c.args.name.now found.number found.count by
    (rw c.in_ok-found.ensures.ok_part at c.record_named.ensures)) (⊎_elim inl (λ above. inr above.1) c.then-count-eq0.either)

pub returns-then-from-clause-decides : goal.returns-then-from-clause-decides
returns-then-from-clause-decides c = λ extents sectors volumes by.
    let found = c.in_ok-found.found in
    zeroing_past c.args.name.now found.count c.args.at c.args.count volumes.volumes
    (length_by extents c.args.table.now sectors volumes c.args.name.now found.number found.count by
    (rw c.in_ok-found.ensures.ok_part at c.record_named.ensures)) (omega arith) (omega arith) (omega arith)

pub returns-clause-found : goal.returns-clause-found
returns-clause-found c =
    let found = c.in_ok-found.found in
    ∣ found_blocks c.args.table.now c.args.name.now found.number found.count c.args.at c.args.count (rw c.in_ok-found.ensures.ok_part at c.record_named.ensures)
    (omega arith) (omega arith) ∣₁

pub returns-clause-decides : goal.returns-clause-decides
returns-clause-decides c = λ extents sectors volumes by.
    let found = c.in_ok-found.found in
    zeroing_admitted c.args.name.now found.count c.args.at c.args.count volumes.volumes
    (length_by extents c.args.table.now sectors volumes c.args.name.now found.number found.count by
    (rw c.in_ok-found.ensures.ok_part at c.record_named.ensures)) (omega arith) (omega arith) (omega arith)

pub returns-in_err-found-clause-found : goal.returns-in_err-found-clause-found
returns-in_err-found-clause-found c =
    let p = err_from_is_err_and c.from_residual.result c.from_residual.ensures.1 in
    rw p.1 tt

pub returns-then-count-eq0-clause-listed : goal.returns-then-count-eq0-clause-listed
returns-then-count-eq0-clause-listed c = (1, omega arith, refl)

pub returns-then-from-clause-listed : goal.returns-then-from-clause-listed
returns-then-from-clause-listed c = (2, omega arith, refl)

pub returns-in_err-found-clause-listed : goal.returns-in_err-found-clause-listed
returns-in_err-found-clause-listed c =
    let p = err_from_is_err_and c.from_residual.result c.from_residual.ensures.1 in
    let f = none_found c.args.table.now.records c.args.name.now c.record_named.result c.in_err-found.field-0.0 p.0 c.in_err-found.ensures.value
    c.record_named.ensures p.2 in
    rw (p.1, f.0) (0, omega arith, refl)

pub returns-in_err-found-clause-decides : goal.returns-in_err-found-clause-decides
returns-in_err-found-clause-decides c = λ extents sectors volumes by.
    let p = err_from_is_err_and c.from_residual.result c.from_residual.ensures.1 in
    let f = none_found c.args.table.now.records c.args.name.now c.record_named.result c.in_err-found.field-0.0 p.0 c.in_err-found.ensures.value
    c.record_named.ensures p.2 in
    rw (p.1, f.0) (no_volume_to_zero c.args.name.now c.args.at c.args.count volumes.volumes
    (absent_by extents c.args.table.now sectors volumes c.args.name.now by f.1))
