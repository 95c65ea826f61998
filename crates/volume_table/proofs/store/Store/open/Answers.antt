use Rattle.std.proofs.Common.{◌≡◌, take, ap, refl, sym, ◌∙◌, subst, arith}
use Rattle.std.proofs.lemmas.Option.{none-some}
use Rattle.array_io.specs.Believed.Views.{ArrayView}
use Rattle.array_io.specs.Believed.OpenArray.{array_view}
use Rattle.extents.specs.SetExtents.{extents_in}
use Rattle.extents.specs.SetExtents.{IsOfSet}
use Rattle.extents.specs.declared.extent_layout.ExtentLayout.{ExtentLayout}
use Rattle.volume_table.proofs.TableSizes.{of_format_in}
use Rattle.volume_table.proofs.OpenedStore.{open_done, open_ended, open_refused, table_has_map}
use Rattle.volume_table.proofs.store.Store.open.Goals as goal

pub returns-in-Err-clause-refused : goal.returns-in-Err-clause-refused
returns-in-Err-clause-refused g c =
    let old : ArrayView = array_view c.args.array in
    let left = c.read_table.new.array in
    let new : ArrayView = array_view left in
    rw c.into_bank.ensures (open_ended (g.B.Bank.honest c.args.array.bank) old new c.in-Err.refusal c.in-Err.ensures.changes
    (c.in-Err.ensures.cause c.in-Err.refusal refl))

pub returns-in_default-decode-clause-refused : goal.returns-in_default-decode-clause-refused
returns-in_default-decode-clause-refused g c =
    let old : ArrayView = array_view c.args.array in
    let left = c.read_table.new.array in
    let new : ArrayView = array_view left in
    let same : extents_in old.table.geometry ≡ c.of-extents.result = ap extents_in (sym c.in_default.ensures.changes.goes_on.not_older.same_geometry)
    ∙ sym c.of-extents.ensures in
    rw c.into_bank-in_default-decode.ensures (open_refused (g.B.Bank.honest c.args.array.bank) old new c.read_table.new.sectors c.in_default.ensures.changes
    (λ table is of_set. none-some table (c.in_default-decode.ensures.exact table is (subst (λ (e : ExtentLayout). IsOfSet e table) same of_set)))
    c.in_default.ensures.gives c.in_default.ensures.spelled)

pub new-map-requires : goal.new-map-requires
new-map-requires g c =
    table_has_map c.of-extents.result c.in-Some.table c.in-Some.ensures.of_set

pub returns-clause-opened : goal.returns-clause-opened
returns-clause-opened g c =
    let old : ArrayView = array_view c.args.array in
    let left = c.read_table.new.array in
    let new : ArrayView = array_view left in
    let same : c.of-extents.result ≡ extents_in old.table.geometry = c.of-extents.ensures
    ∙ ap extents_in c.in_default.ensures.changes.goes_on.not_older.same_geometry in
    open_done (g.B.Bank.honest c.args.array.bank) old new c.in-Some.table c.in_default.ensures.changes
    (subst (λ (e : ExtentLayout). IsOfSet e c.in-Some.table) same c.in-Some.ensures.of_set)
    (λ fair lost V rests. (c.in_default.ensures.gives fair lost V c.in-Some.table
    (of_format_in old.table.geometry c.in-Some.table (subst (λ (e : ExtentLayout). IsOfSet e c.in-Some.table) same c.in-Some.ensures.of_set)) rests).0
    c.in-Some.ensures.some)

pub returns-in-Err-clause-honest_bank : goal.returns-in-Err-clause-honest_bank
returns-in-Err-clause-honest_bank g c = rw c.into_bank.ensures c.in-Err.ensures.honest

pub returns-in_default-decode-clause-honest_bank : goal.returns-in_default-decode-clause-honest_bank
returns-in_default-decode-clause-honest_bank g c = rw c.into_bank-in_default-decode.ensures c.in_default.ensures.honest

pub shared_ref_as_front-new : goal.shared_ref_as_front-new
shared_ref_as_front-new g c = omega (arith, c.of-extents.result.limits.most)

pub invariant_of-result : goal.invariant_of-result
invariant_of-result g c = record {
  kept = record {
    same = c.new-map.ensures ∙ ap (λ (e : ExtentLayout). take e.count c.in-Some.table.extents) c.of-extents.ensures;
    of_set = subst (λ (e : ExtentLayout). IsOfSet e c.in-Some.table) c.of-extents.ensures c.in-Some.ensures.of_set;
  };
}

pub returns-clause-honest_store : goal.returns-clause-honest_store
returns-clause-honest_store g c = c.in_default.ensures.honest
