use Rattle.std.proofs.Common.{sym, ◌∙◌}
use Rattle.std.proofs.Props.{props}
use Rattle.std.proofs.Math.Logic.{∥∥₁_elim}
use Rattle.extents.specs.VolumeTables.{HaveTheirPlaces}
use Rattle.extents.proofs.Tables.{table_from, table_owners, table_places, places_found, placed_is_map}
use Rattle.extents.proofs.checks.is_table.Goals as goal

pub returns-then-not-are_distinct : goal.returns-then-not-are_distinct
returns-then-not-are_distinct c = (
  λ yes. absurd (let no : ⊥ = cc in no),
  λ table. ∥∥₁_elim table.0 (hlevel props) (λ one. sym c.if-not-are_distinct.true ∙ c.are_distinct.ensures.1 one.distinct),
)

pub returns-then-not-owners_fit : goal.returns-then-not-owners_fit
returns-then-not-owners_fit c = (
  λ yes. absurd (let no : ⊥ = cc in no),
  λ table. ∥∥₁_elim table.1 (hlevel props) (λ placed. sym c.if-not-owners_fit.true
      ∙ c.owners_fit.ensures.1 (table_owners c.args.layout.now.blocks c.args.records.now c.args.extents.now placed)),
)

pub returns : goal.returns
returns c =
    let each = c.args.layout.now.blocks in
    let records = c.args.records.now in
    let extents = c.args.extents.now in (
      λ occur.
          let placed : HaveTheirPlaces each records extents = places_found each records extents c.type_inv.records
          (c.owners_fit.ensures.0 c.if-not-owners_fit.false) (c.all_places_occur.ensures.0 occur) in (
            ∣ table_from c.args.version records extents c.requires.is_version c.requires.of_version c.type_inv.records c.told-extents
                (c.are_distinct.ensures.0 c.if-not-are_distinct.false) (placed_is_map each records extents c.type_inv.records c.told-extents placed) ∣₁,
            ∣ placed ∣₁,
          ),
      λ table. ∥∥₁_elim table.1 (hlevel props) (λ placed. c.all_places_occur.ensures.1 (table_places each records extents placed)),
    )
