use Rattle.std.proofs.Common.{◌∙◌, ap, refl, rules, sym, Some}
use Rattle.superblock.proofs.Judged.{allowed_fields, fields_are, fields_limits, geometry_of_fields, missing_is, no_geometry, role_there, role_within}
use denote.Enum.Bare.{same_false}
use Rattle.superblock.specs.contracts.state.State.{the_type}
use Rattle.superblock.proofs.rules.judge.Goals.{then-role-geometry-via-then-role-geometry, then-role-geometry-via-else-role-geometry+then-eq}
use Rattle.superblock.proofs.rules.judge.Goals as goal

pub returns-then-not-is_table : goal.returns-then-not-is_table
returns-then-not-is_table c = λ s same.
    let fields = c.args.fields.now in
    let made = c.of_format.ensures in
    let of_fields =
    geometry_of_fields fields c.in_ok-geometry.geometry c.of_format.result c.in_ok-geometry.ensures.value made.format made.members made.chunk made.stripes in
    let allowed = c.is_table.ensures.1 (allowed_fields fields c.in_ok-geometry.geometry s of_fields same) in
    let refused = c.if-not-is_table.true in
    absurd cc

pub returns : goal.returns
returns c = λ s same.
    let fields = c.args.fields.now in
    let made = c.of_format.ensures in
    let of_fields =
    geometry_of_fields fields c.in_ok-geometry.geometry c.of_format.result c.in_ok-geometry.ensures.value made.format made.members made.chunk made.stripes in
    ap Some (fields_are fields s _ of_fields same refl refl refl refl refl refl)

pub invariant_of-table : goal.invariant_of-table
invariant_of-table c = record { id_long = search rules; allowed = c.if-not-is_table.ensures.0 refl }

pub returns-in_err-geometry : goal.returns-in_err-geometry
returns-in_err-geometry c = λ s same. absurd (no_geometry c.of_format.result c.in_err-geometry.ensures.value
    (c.of_format.ensures.within.1 (fields_limits c.args.fields.now s same)))

pub returns-then-role-geometry : goal.returns-then-role-geometry
returns-then-role-geometry c = λ s same.
    let fields = c.args.fields.now in
    let made = c.of_format.ensures in
    let of_fields =
    geometry_of_fields fields c.in_ok-geometry.geometry c.of_format.result c.in_ok-geometry.ensures.value made.format made.members made.chunk made.stripes in
    elim c.then-role-geometry.branch [
      | then-role-geometry-via-then-role-geometry w ↦ absurd (role_within fields c.in_ok-geometry.geometry s of_fields same w.if-role-geometry.true)
      | then-role-geometry-via-else-role-geometry+then-eq w ↦ absurd (role_there fields s same (missing_is _ (sym w.eq.ensures ∙ w.if-eq.true)))
    ]

pub invariant_of-result : goal.invariant_of-result
invariant_of-result c = record { of_set = c.if-role-geometry.false; there = same_false the_type _ _ (sym c.eq.ensures ∙ c.if-eq.false) }
