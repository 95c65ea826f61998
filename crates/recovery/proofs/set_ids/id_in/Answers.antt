use Rattle.recovery.proofs.SetIdsFound.{id_found}
use Rattle.recovery.proofs.set_ids.id_in.Goals as goal

pub returns-in-Some : goal.returns-in-Some
returns-in-Some c =
    id_found c.args.devices c.args.slot c.args.place c.args.sector.now c.in_ok-superblock.superblock c.in-Some.own c.in_ok-superblock.ensures.some
    c.in-Some.ensures.some
