use Rattle.volume_table.proofs.Admitted.{found_at, length_by, removal_admitted}
use Rattle.volume_table.proofs.store.admission.admit_removal.Goals as goal

pub returns-clause-found : goal.returns-clause-found
returns-clause-found c =
    let found = c.in_ok-found.found in
    ∣ found_at c.args.table.now c.args.name.now found.number found.count (rw c.in_ok-found.ensures.ok_part at c.record_named.ensures) ∣₁

pub returns-clause-decides : goal.returns-clause-decides
returns-clause-decides c = λ extents sectors volumes by.
    let found = c.in_ok-found.found in
    removal_admitted extents c.args.name.now found.count volumes
    (length_by extents c.args.table.now sectors volumes c.args.name.now found.number found.count by
    (rw c.in_ok-found.ensures.ok_part at c.record_named.ensures))
