use Rattle.std.proofs.Common.{arith}
use Rattle.recovery.proofs.examining.examined_slot.Goals as goal

pub presence_of-requires : goal.presence_of-requires
presence_of-requires g c = omega (arith, c.requires.of_set, c.requires.surveyed.of_bank)

pub returns : goal.returns
returns g c = record {
  presence = c.presence_of.ensures;
  generation = λ fair. (c.requires.surveyed.told fair).generation c.args.slot (omega (arith, c.requires.of_set, c.requires.surveyed.of_bank));
  incarnation = λ fair. (c.requires.surveyed.told fair).own c.args.slot (omega (arith, c.requires.of_set, c.requires.surveyed.of_bank));
  standing = c.standing_of.ensures;
}
