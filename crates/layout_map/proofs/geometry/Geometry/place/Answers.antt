use Rattle.std.proofs.Common.{rules, refl}
use Rattle.layout_map.proofs.Places.{place_row_below}
use Rattle.layout_map.proofs.geometry.Geometry.place.Goals as goal

pub returns-clause-row : goal.returns-clause-row
returns-clause-row c = rw (c.from-members.ensures, c.from-sectors.ensures)
    (place_row_below c.args.self.now.limits c.requires record { on_member = refl; on_row = refl })

pub returns-clause-placed : goal.returns-clause-placed
returns-clause-placed c = search rules
