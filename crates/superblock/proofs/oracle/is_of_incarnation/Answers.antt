use Rattle.sector_model.specs.Memory.{sectors_in}
use Rattle.superblock.proofs.Oracles.{incarnation_iff}
use Rattle.std.proofs.Common.{refl}
use Rattle.std.proofs.lemmas.Bool.{false≢true}
use Rattle.superblock.proofs.oracle.is_of_incarnation.Goals as goal

pub returns-in-Some : goal.returns-in-Some
returns-in-Some c = incarnation_iff c.args.table.now.id c.args.devices c.args.slot (sectors_in c.args.content.now) c.in-Some.own c.args.table.now.incarnations
    c.in-Some.ensures.some

pub returns-in-None : goal.returns-in-None
returns-in-None c = (λ no. absurd (false≢true no), λ has. absurd (c.in-None.ensures.none refl has.place has.newest has.counted))
