use Rattle.std.proofs.Common.{◌≡◌, ℕ, refl, sym, ap, subst, ◌∙◌, arith}
use Rattle.std.proofs.lemmas.Option.{same_Some}
use Rattle.std.specs.List.{slice_get}
use Rattle.volume_table.specs.Oracle.{block_at}
use Rattle.volume_table.proofs.Evaluated.{no_volume, no_block, has_extent, read_item, block_stands}
use Rattle.volume_table.proofs.oracle.block_shown.Goals as goal
use Rattle.extents.specs.ExtentMaps.{place_of, sector_of_block}
use Rattle.extents.specs.Owners.{IsAt}

pub returns-in_err-table : goal.returns-in_err-table
returns-in_err-table c = λ volumes shows. absurd (c.in_err-table.ensures.none refl volumes shows)

pub returns-in_err-found : goal.returns-in_err-found
returns-in_err-found c = λ volumes shows.
    let table = c.in_ok-table.table in
    let same = same_Some table shows.table (c.in_ok-table.ensures.exact volumes shows) in
    c.from_residual-in_err-found.ensures ∙ sym (no_volume c.args.extents.now c.args.sectors.now volumes c.args.name.now c.args.at table shows same
    c.in_err-found.ensures)

pub returns-then-found-at : goal.returns-then-found-at
returns-then-found-at c = λ volumes shows.
    let table = c.in_ok-table.table in
    let found = c.in_ok-found.found in
    let same = same_Some table shows.table (c.in_ok-table.ensures.exact volumes shows) in
    sym (no_block c.args.extents.now c.args.sectors.now volumes c.args.name.now found.number found.count c.args.at table shows same c.in_ok-found.ensures
    (omega arith))

pub returns-in_err-extent : goal.returns-in_err-extent
returns-in_err-extent c = λ volumes shows.
    let table = c.in_ok-table.table in
    let found = c.in_ok-found.found in
    let extents = c.args.extents.now in
    absurd (has_extent extents c.args.name.now found.number found.count c.args.at table c.in_ok-table.ensures.of_set.placed c.in_ok-found.ensures (omega arith)
    (subst (λ (b : ℕ). (extent : ℕ) → IsAt table.extents extent found.number (place_of extents b) → ⊥) c.from-at.ensures c.in_err-extent.ensures.at))

pub returns : goal.returns
returns c = λ volumes shows.
    let table = c.in_ok-table.table in
    let found = c.in_ok-found.found in
    let same = same_Some table shows.table (c.in_ok-table.ensures.exact volumes shows) in
    let extents = c.args.extents.now in
    let sector = sector_of_block extents c.in_ok-extent.extent c.args.at in
    let index = sector_of_block extents c.in_ok-extent.extent c.from-at.result in
    let same_sector : index ≡ sector = ap (λ (b : ℕ). sector_of_block extents c.in_ok-extent.extent b) c.from-at.ensures in
    let stands : slice_get c.args.sectors.now sector ≡ block_at c.args.name.now c.args.at volumes =
    block_stands c.args.extents.now c.args.sectors.now volumes c.args.name.now found.number found.count c.args.at c.in_ok-extent.extent table shows same
    c.in_ok-found.ensures (omega arith)
    (subst (λ (b : ℕ). IsAt table.extents c.in_ok-extent.extent found.number (place_of extents b)) c.from-at.ensures c.in_ok-extent.ensures.at) in
    c.copied.ensures ∙ read_item c.args.sectors.now index c.get.result c.get.ensures.lookup ∙ ap (slice_get c.args.sectors.now) same_sector ∙ stands
