use Rattle.layout_map.proofs.Places.{parity_is_there, parity_is_at}
use Rattle.layout_map.proofs.geometry.Geometry.parity_member.Goals as goal

pub returns-clause-parity : goal.returns-clause-parity
returns-clause-parity c = rw (c.from-members.ensures, c.from.ensures) (parity_is_there c.args.row c.args.self.now.limits)

pub returns-clause-only : goal.returns-clause-only
returns-clause-only c = λ member parity. rw (c.from-members.ensures, c.from.ensures) (parity_is_at c.args.self.now.limits parity)
