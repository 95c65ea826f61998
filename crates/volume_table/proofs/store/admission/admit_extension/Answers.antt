use Rattle.std.proofs.Common.{ℕ, ◌+◌, ◌≤◌, ◌∙◌, ⊎_elim, inl, inr, ap, arith, refl}
use Rattle.extents.specs.VolumeTables.{extents_for}
use Rattle.extents.proofs.Blocks.{more_take_more}
use Rattle.volume_table.specs.Volumes.{need}
use Rattle.volume_table.proofs.Admitted.{extension_admitted, extension_bad_size, extension_no_space, free_by, length_by, may_extend_at, absent_by}
use Rattle.volume_table.proofs.Admitted.{no_volume_first, none_found}
use Rattle.std.proofs.lemmas.Result.{err_from_is_err_and}
use Rattle.volume_table.proofs.store.admission.admit_extension.Goals as goal

pub returns-then-by-eq0-clause-decides : goal.returns-then-by-eq0-clause-decides
returns-then-by-eq0-clause-decides c = λ sectors volumes kept by.
    let extents = c.args.extents.now in
    let found = c.in_ok-found.found in
    let table = c.args.table.now in
    let name = c.args.name.now in
    extension_bad_size extents name found.count c.args.by volumes
    (length_by extents table sectors volumes name found.number found.count by (rw c.in_ok-found.ensures.ok_part at c.record_named.ensures))
    (⊎_elim inl (λ above. inr (omega (arith, above.1, c.most_blocks.ensures, c.from-most.ensures, c.from.ensures, c.from-2.ensures))) c.then-by-eq0.either)

pub returns-then-extents_for-free_count-clause-decides : goal.returns-then-extents_for-free_count-clause-decides
returns-then-extents_for-free_count-clause-decides c = λ sectors volumes kept by.
    let extents = c.args.extents.now in
    let found = c.in_ok-found.found in
    let table = c.args.table.now in
    let name = c.args.name.now in
    let is = rw c.in_ok-found.ensures.ok_part at c.record_named.ensures in
    let has = length_by extents table sectors volumes name found.number found.count by is in
    let old = c.extents_for-2.ensures in
    let new = c.extents_for.ensures in
    extension_no_space extents c.free_count.result name found.count c.args.by volumes by.shows.limits has (omega arith)
    (omega (arith, c.most_blocks.ensures, c.from-most.ensures, c.from.ensures, c.from-2.ensures))
    (ap (λ n. n + need extents.blocks volumes.volumes) c.free_count.ensures ∙ free_by extents table c.args.map.now sectors volumes kept by)
    (omega (arith, old, new))

pub returns-clause-may : goal.returns-clause-may
returns-clause-may c =
    let found = c.in_ok-found.found in
    let is = rw c.in_ok-found.ensures.ok_part at c.record_named.ensures in
    let old = c.extents_for-2.ensures in
    let new = c.extents_for.ensures in
    let free = c.free_count.ensures in
    may_extend_at c.args.extents.now c.args.table.now c.args.map.now found.number found.count _ c.args.name.now is (omega arith)
    (omega (arith, c.most_blocks.ensures, c.from-most.ensures, c.from.ensures, c.from-2.ensures)) c.in-Some.ensures.same
    (omega (arith, old, new, free))

pub returns-clause-decides : goal.returns-clause-decides
returns-clause-decides c = λ sectors volumes kept by.
    let extents = c.args.extents.now in
    let found = c.in_ok-found.found in
    let table = c.args.table.now in
    let name = c.args.name.now in
    let is = rw c.in_ok-found.ensures.ok_part at c.record_named.ensures in
    let has = length_by extents table sectors volumes name found.number found.count by is in
    let old = c.extents_for-2.ensures in
    let new = c.extents_for.ensures in
    extension_admitted extents c.free_count.result name found.count c.args.by volumes by.shows.limits has (omega arith)
    (omega (arith, c.most_blocks.ensures, c.from-most.ensures, c.from.ensures, c.from-2.ensures))
    (ap (λ n. n + need extents.blocks volumes.volumes) c.free_count.ensures ∙ free_by extents table c.args.map.now sectors volumes kept by)
    (omega (arith, old, new))

pub returns-in_err-found-clause-may : goal.returns-in_err-found-clause-may
returns-in_err-found-clause-may c =
    let p = err_from_is_err_and c.from_residual.result c.from_residual.ensures.1 in
    rw p.1 tt

pub returns-in_err-found-clause-named : goal.returns-in_err-found-clause-named
returns-in_err-found-clause-named c =
    let p = err_from_is_err_and c.from_residual.result c.from_residual.ensures.1 in
    rw p.1 tt

pub returns-in_err-found-clause-used : goal.returns-in_err-found-clause-used
returns-in_err-found-clause-used c =
    let p = err_from_is_err_and c.from_residual.result c.from_residual.ensures.1 in
    rw p.1 tt

pub returns-in_err-found-clause-blocks : goal.returns-in_err-found-clause-blocks
returns-in_err-found-clause-blocks c =
    let p = err_from_is_err_and c.from_residual.result c.from_residual.ensures.1 in
    rw p.1 tt

pub returns-then-by-eq0-clause-listed : goal.returns-then-by-eq0-clause-listed
returns-then-by-eq0-clause-listed c = (1, omega arith, refl)

pub returns-then-extents_for-free_count-clause-listed : goal.returns-then-extents_for-free_count-clause-listed
returns-then-extents_for-free_count-clause-listed c = (2, omega arith, refl)

pub returns-clause-named : goal.returns-clause-named
returns-clause-named c = c.in-Some.ensures.same

pub returns-clause-used : goal.returns-clause-used
returns-clause-used c = ∣ (rw c.in_ok-found.ensures.ok_part at c.record_named.ensures) ∣₁

pub returns-clause-blocks : goal.returns-clause-blocks
returns-clause-blocks c = refl

pub returns-in_err-found-clause-listed : goal.returns-in_err-found-clause-listed
returns-in_err-found-clause-listed c =
    let p = err_from_is_err_and c.from_residual.result c.from_residual.ensures.1 in
    let f = none_found c.args.table.now.records c.args.name.now c.record_named.result c.in_err-found.field-0.0 p.0 c.in_err-found.ensures.value
    c.record_named.ensures p.2 in
    rw (p.1, f.0) (0, omega arith, refl)

pub returns-in_err-found-clause-decides : goal.returns-in_err-found-clause-decides
returns-in_err-found-clause-decides c = λ sectors volumes kept by.
    let extents = c.args.extents.now in
    let p = err_from_is_err_and c.from_residual.result c.from_residual.ensures.1 in
    let f = none_found c.args.table.now.records c.args.name.now c.record_named.result c.in_err-found.field-0.0 p.0 c.in_err-found.ensures.value
    c.record_named.ensures p.2 in
    rw (p.1, f.0) (no_volume_first c.args.name.now volumes.volumes _ (absent_by extents c.args.table.now sectors volumes c.args.name.now by f.1))

pub overflow_add-blocks : goal.overflow_add-blocks
overflow_add-blocks c = omega (arith, c.from-most.ensures, c.from.ensures, c.from-2.ensures, c.if-grown-most.false)

pub overflow_sub-extents_for : goal.overflow_sub-extents_for
overflow_sub-extents_for c =
    let extents = c.args.extents.now in
    let old : ℕ = c.in_ok-found.found.count in
    let more : extents_for extents.blocks old ≤ extents_for extents.blocks (old + c.args.by) =
    more_take_more extents.blocks c.in_ok-found.found.count (c.in_ok-found.found.count + c.args.by) extents.limits.some (omega arith) in
    omega (arith, more, c.extents_for.ensures, c.extents_for-2.ensures)
