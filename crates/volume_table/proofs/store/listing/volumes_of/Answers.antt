use Rattle.std.proofs.Common.{◌≡◌, ℕ, ◌+◌, ◌-◌, ◌<◌, List, length, sym, ◌∙◌, subst, arith}
use Rattle.extents.proofs.Tables.{read_at}
use Rattle.volume_table.specs.declared.listed.Listed.{Listed}
use Rattle.volume_table.specs.Listing.{IsPutInto}
use Rattle.volume_table.proofs.Admitted.{all_records}
use Rattle.volume_table.proofs.ListedVolumes.{ListsFrom, lists_all, lists_none, lists_unused, lists_used}
use Rattle.volume_table.proofs.store.listing.volumes_of.Goals as goal
use Rattle.extents.specs.declared.volume_table.TheConstants.{MOST_VOLUMES}

pub loop-number-init : goal.loop-number-init
loop-number-init c = subst (λ (items : List Listed). ListsFrom c.args.table.now MOST_VOLUMES items) (sym c.in_ok-volumes.ensures.items)
    (lists_none c.args.table.now)

pub loop-number-preserved-in-Continue-branch-2 : goal.loop-number-preserved-in-Continue-branch-2
loop-number-preserved-in-Continue-branch-2 c =
    let table = c.args.table.now in
    let number : ℕ = c.loop-number.number - 1 in
    let items = c.loop-number.volumes.items in
    let below : number < MOST_VOLUMES = omega arith in
    let within : number < length table.records = omega (arith, below, all_records table) in
    let used = read_at table.records number c.index-table-number.result within c.index-table-number.is ∙ c.index-table-number.is ∙ c.in-Some.is in
    let next : c.loop-number.number ≡ number + 1 = omega arith in
    let so_far : ListsFrom table (number + 1) items = subst (λ (n : ℕ). ListsFrom table n items) next c.loop-number.invariant in
    let is_put : IsPutInto items c.put.new.volumes.items c.listed_as.result = c.in_ok-put.ensures in
    lists_used table number items c.put.new.volumes.items c.listed_as.result c.in-Some.entry below used c.listed_as.ensures.name c.listed_as.ensures.as_long
    is_put so_far

pub loop-number-preserved : goal.loop-number-preserved
loop-number-preserved c =
    let table = c.args.table.now in
    let number : ℕ = c.loop-number.number - 1 in
    let items = c.loop-number.volumes.items in
    let below : number < MOST_VOLUMES = omega arith in
    let within : number < length table.records = omega (arith, below, all_records table) in
    let none = read_at table.records number c.index-table-number.result within c.index-table-number.is ∙ c.index-table-number.is ∙ c.in_default.is in
    let next : c.loop-number.number ≡ number + 1 = omega arith in
    let so_far : ListsFrom table (number + 1) items = subst (λ (n : ℕ). ListsFrom table n items) next c.loop-number.invariant in
    lists_unused table number items below none so_far

pub returns : goal.returns
returns c =
    let none_left : c.loop-number.number ≡ 0 = omega arith in
    let all : ListsFrom c.args.table.now 0 c.loop-number.volumes.items =
    subst (λ (n : ℕ). ListsFrom c.args.table.now n c.loop-number.volumes.items) none_left c.loop-number.invariant in
    lists_all c.args.table.now c.loop-number.volumes.items all
