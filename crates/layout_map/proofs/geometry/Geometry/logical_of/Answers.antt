use Rattle.std.proofs.Common.{rules, ap, Some}
use Rattle.layout_map.proofs.Places.{parity_is_at, parity_is_one, sector_is_placed, logical_below, logical_is_one}
use Rattle.layout_map.proofs.geometry.Geometry.logical_of.Goals as goal

pub returns-clause-parity : goal.returns-clause-parity
returns-clause-parity c = (
  λ none. absurd (cc),
  λ parity. absurd (c.if-member-parity.false (parity_is_one c.args.self.now.limits parity c.parity_member-parity.ensures.parity)),
)

pub returns-clause-placed : goal.returns-clause-placed
returns-clause-placed c =
    let limits = c.args.self.now.limits in
    rw (c.from-2.ensures, c.from.ensures, c.from-sectors.ensures)
    (sector_is_placed _ _ c.args.row limits (parity_is_at limits c.parity_member-parity.ensures.parity) c.requires.member c.if-member-parity.false)

pub returns-clause-below : goal.returns-clause-below
returns-clause-below c = logical_below c.args.self.now.limits c.requires.row (returns-clause-placed c)

pub returns-clause-found : goal.returns-clause-found
returns-clause-found c = λ logical place. ap Some (logical_is_one c.args.self.now.limits (returns-clause-placed c) place)

pub returns-then-member-parity-clause-parity : goal.returns-then-member-parity-clause-parity
returns-then-member-parity-clause-parity c = search rules

pub returns-then-member-parity-clause-placed : goal.returns-then-member-parity-clause-placed
returns-then-member-parity-clause-placed c = search rules
