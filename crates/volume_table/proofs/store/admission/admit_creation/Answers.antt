use Rattle.std.proofs.Common.{⊎_elim, ◌+◌, ◌∙◌, ◌≤◌, inl, inr, ap, length, sym, subst, refl, arith}
use Rattle.std.proofs.lemmas.Bool.{false≢true}
use Rattle.extents.specs.Names.{IsGoodName}
use Rattle.extents.specs.Versions.{most_name_bytes}
use Rattle.volume_table.specs.Volumes.{need}
use Rattle.volume_table.proofs.Admitted.{HasRoomFor, IsGoodNew, IsNameOf, absent_by, creation_admitted, creation_bad_name, creation_bad_size, creation_exists}
use Rattle.volume_table.proofs.Admitted.{creation_full, creation_long_name, creation_no_space, free_by, length_by, made_name, may_create_at, name_by}
use Rattle.volume_table.proofs.Admitted.{name_was_found, name_was_not_found, new_by, volumes_are_fewer, volumes_are_full}
use Rattle.volume_table.proofs.store.admission.admit_creation.Goals as goal

pub returns-in_default-clause-decides : goal.returns-in_default-clause-decides
returns-in_default-clause-decides c = λ sectors volumes kept by.
    let extents = c.args.extents.now in
    creation_bad_name extents c.args.name.now c.args.blocks volumes (λ is. false≢true (c.in_default.ensures.good.1 is.good))

pub returns-then-bytes-most_name_bytes-clause-decides : goal.returns-then-bytes-most_name_bytes-clause-decides
returns-then-bytes-most_name_bytes-clause-decides c = λ sectors volumes kept by.
    let extents = c.args.extents.now in
    let as_long = ap (λ n. length n) (c.bytes.ensures ∙ c.in-Some.ensures.same) in
    creation_long_name extents c.args.table.now sectors volumes c.args.name.now c.args.blocks by
    (omega (arith, as_long, c.most_name_bytes.ensures, c.if-bytes-most_name_bytes.true))

pub returns-then-blocks-eq0-clause-decides : goal.returns-then-blocks-eq0-clause-decides
returns-then-blocks-eq0-clause-decides c = λ sectors volumes kept by.
    let extents = c.args.extents.now in
    let table = c.args.table.now in
    let name = c.args.name.now in
    let short : length c.bytes.result.now ≤ most_name_bytes table.version = omega (arith, c.most_name_bytes.ensures, c.if-bytes-most_name_bytes.false) in
    let its_name : IsNameOf table.version name = made_name table.version c.bytes.result.now name (c.bytes.ensures ∙ c.in-Some.ensures.same)
    (subst IsGoodName (sym c.bytes.ensures) c.in-Some.name.good) short in
    creation_bad_size extents name c.args.blocks volumes (name_by extents table sectors volumes name by its_name)
    (⊎_elim inl (λ above. inr (omega (arith, above.1, c.most_blocks-most.ensures))) c.then-blocks-eq0.either)

pub returns-then-is_some-clause-listed : goal.returns-then-is_some-clause-listed
returns-then-is_some-clause-listed c = (2, omega arith, refl)

pub returns-then-is_some-clause-decides : goal.returns-then-is_some-clause-decides
returns-then-is_some-clause-decides c = λ sectors volumes kept by.
    let extents = c.args.extents.now in
    let table = c.args.table.now in
    let name = c.args.name.now in
    let short : length c.bytes.result.now ≤ most_name_bytes table.version = omega (arith, c.most_name_bytes.ensures, c.if-bytes-most_name_bytes.false) in
    let its_name : IsNameOf table.version name = made_name table.version c.bytes.result.now name (c.bytes.ensures ∙ c.in-Some.ensures.same)
    (subst IsGoodName (sym c.bytes.ensures) c.in-Some.name.good) short in
    let new : IsGoodNew extents volumes.version name c.args.blocks =
    new_by extents table sectors volumes name c.args.blocks by
    (record { its_name = its_name; least = omega arith; most = omega (arith, c.most_blocks-most.ensures) }) in
    let was = name_was_found table.records c.bytes-2.result.now name c.record_named.result (c.bytes-2.ensures ∙ c.in-Some.ensures.same)
    (sym c.is_some.ensures ∙ c.if-is_some.true) c.record_named.ensures in
    creation_exists extents name was.0.count c.args.blocks volumes new (length_by extents table sectors volumes name was.0.number was.0.count by was.1)

pub returns-in_default-first_unused-clause-listed : goal.returns-in_default-first_unused-clause-listed
returns-in_default-first_unused-clause-listed c = (3, omega arith, refl)

pub returns-in_default-first_unused-clause-decides : goal.returns-in_default-first_unused-clause-decides
returns-in_default-first_unused-clause-decides c = λ sectors volumes kept by.
    let extents = c.args.extents.now in
    let table = c.args.table.now in
    let name = c.args.name.now in
    let short : length c.bytes.result.now ≤ most_name_bytes table.version = omega (arith, c.most_name_bytes.ensures, c.if-bytes-most_name_bytes.false) in
    let its_name : IsNameOf table.version name = made_name table.version c.bytes.result.now name (c.bytes.ensures ∙ c.in-Some.ensures.same)
    (subst IsGoodName (sym c.bytes.ensures) c.in-Some.name.good) short in
    let new : IsGoodNew extents volumes.version name c.args.blocks =
    new_by extents table sectors volumes name c.args.blocks by
    (record { its_name = its_name; least = omega arith; most = omega (arith, c.most_blocks-most.ensures) }) in
    let none = name_was_not_found table.records c.bytes-2.result.now name c.record_named.result (c.bytes-2.ensures ∙ c.in-Some.ensures.same)
    (sym c.is_some.ensures ∙ c.if-is_some.false) c.record_named.ensures in
    creation_full extents name c.args.blocks volumes new (absent_by extents table sectors volumes name by none)
    (volumes_are_full extents table sectors volumes by c.in_default-first_unused.ensures)

pub returns-then-extents_for-free_count-clause-listed : goal.returns-then-extents_for-free_count-clause-listed
returns-then-extents_for-free_count-clause-listed c = (4, omega arith, refl)

pub returns-then-extents_for-free_count-clause-decides : goal.returns-then-extents_for-free_count-clause-decides
returns-then-extents_for-free_count-clause-decides c = λ sectors volumes kept by.
    let extents = c.args.extents.now in
    let table = c.args.table.now in
    let name = c.args.name.now in
    let short : length c.bytes.result.now ≤ most_name_bytes table.version = omega (arith, c.most_name_bytes.ensures, c.if-bytes-most_name_bytes.false) in
    let its_name : IsNameOf table.version name = made_name table.version c.bytes.result.now name (c.bytes.ensures ∙ c.in-Some.ensures.same)
    (subst IsGoodName (sym c.bytes.ensures) c.in-Some.name.good) short in
    let new : IsGoodNew extents volumes.version name c.args.blocks =
    new_by extents table sectors volumes name c.args.blocks by
    (record { its_name = its_name; least = omega arith; most = omega (arith, c.most_blocks-most.ensures) }) in
    let none = name_was_not_found table.records c.bytes-2.result.now name c.record_named.result (c.bytes-2.ensures ∙ c.in-Some.ensures.same)
    (sym c.is_some.ensures ∙ c.if-is_some.false) c.record_named.ensures in
    let room : HasRoomFor name volumes = record {
      absent = absent_by extents table sectors volumes name by none;
      fewer = volumes_are_fewer extents table sectors volumes c.in-Some-first_unused.volume by c.in-Some-first_unused.ensures;
    } in
    let up = c.extents_for.ensures in
    let free = ap (λ n. n + need extents.blocks volumes.volumes) c.free_count.ensures ∙ free_by extents table c.args.map.now sectors volumes kept by in
    creation_no_space extents c.free_count.result name c.args.blocks volumes new room free (omega (arith, up, c.if-extents_for-free_count.true))

pub returns-clause-may : goal.returns-clause-may
returns-clause-may c =
    let table = c.args.table.now in
    let name = c.args.name.now in
    let short : length c.bytes.result.now ≤ most_name_bytes table.version = omega (arith, c.most_name_bytes.ensures, c.if-bytes-most_name_bytes.false) in
    let its_name : IsNameOf table.version name = made_name table.version c.bytes.result.now name (c.bytes.ensures ∙ c.in-Some.ensures.same)
    (subst IsGoodName (sym c.bytes.ensures) c.in-Some.name.good) short in
    let none = name_was_not_found table.records c.bytes-2.result.now name c.record_named.result (c.bytes-2.ensures ∙ c.in-Some.ensures.same)
    (sym c.is_some.ensures ∙ c.if-is_some.false) c.record_named.ensures in
    let up = c.extents_for.ensures in
    let free = c.free_count.ensures in
    may_create_at c.args.extents.now table c.args.map.now c.in-Some-first_unused.volume _ name c.in-Some-first_unused.ensures (omega arith)
    (omega (arith, c.most_blocks-most.ensures)) c.in-Some.ensures.same its_name.short none
    (omega (arith, up, free, c.if-extents_for-free_count.false))

pub returns-clause-decides : goal.returns-clause-decides
returns-clause-decides c = λ sectors volumes kept by.
    let extents = c.args.extents.now in
    let table = c.args.table.now in
    let name = c.args.name.now in
    let short : length c.bytes.result.now ≤ most_name_bytes table.version = omega (arith, c.most_name_bytes.ensures, c.if-bytes-most_name_bytes.false) in
    let its_name : IsNameOf table.version name = made_name table.version c.bytes.result.now name (c.bytes.ensures ∙ c.in-Some.ensures.same)
    (subst IsGoodName (sym c.bytes.ensures) c.in-Some.name.good) short in
    let new : IsGoodNew extents volumes.version name c.args.blocks =
    new_by extents table sectors volumes name c.args.blocks by
    (record { its_name = its_name; least = omega arith; most = omega (arith, c.most_blocks-most.ensures) }) in
    let none = name_was_not_found table.records c.bytes-2.result.now name c.record_named.result (c.bytes-2.ensures ∙ c.in-Some.ensures.same)
    (sym c.is_some.ensures ∙ c.if-is_some.false) c.record_named.ensures in
    let room : HasRoomFor name volumes = record {
      absent = absent_by extents table sectors volumes name by none;
      fewer = volumes_are_fewer extents table sectors volumes c.in-Some-first_unused.volume by c.in-Some-first_unused.ensures;
    } in
    let up = c.extents_for.ensures in
    let free = ap (λ n. n + need extents.blocks volumes.volumes) c.free_count.ensures ∙ free_by extents table c.args.map.now sectors volumes kept by in
    creation_admitted extents c.free_count.result name c.args.blocks volumes new room free (omega (arith, up, c.if-extents_for-free_count.false))

pub returns-clause-lowest : goal.returns-clause-lowest
returns-clause-lowest c = c.in-Some-first_unused.ensures
