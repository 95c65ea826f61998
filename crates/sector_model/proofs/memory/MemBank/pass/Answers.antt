use Rattle.std.proofs.Common.{refl}
use Rattle.sector_model.specs.Memory.{slots_of}
use Rattle.sector_model.proofs.Replay.{replayed_quiet, run-quiet}
use Rattle.sector_model.proofs.memory.MemBank.pass.Goals as goal

pub invariant_of-self-clause-replayed : goal.invariant_of-self-clause-replayed
invariant_of-self-clause-replayed c = let m = c.args.self.now in replayed_quiet m.start.items m.log.items m.calls m.disks.items m.down.items m.replayed

pub returns-clause-run : goal.returns-clause-run
returns-clause-run c = let m = c.args.self.now in run-quiet (slots_of m.start.items) m.log.items m.calls m.replayed.early

pub returns-clause-calls : goal.returns-clause-calls
returns-clause-calls c = refl

pub returns-clause-disks : goal.returns-clause-disks
returns-clause-disks c = refl

pub returns-clause-down : goal.returns-clause-down
returns-clause-down c = refl

pub returns-clause-plan : goal.returns-clause-plan
returns-clause-plan c = refl

pub returns-clause-room : goal.returns-clause-room
returns-clause-room c = refl

pub invariant_of-self-clause-least : goal.invariant_of-self-clause-least
invariant_of-self-clause-least c = c.args.self.now.least

pub invariant_of-self-clause-most : goal.invariant_of-self-clause-most
invariant_of-self-clause-most c = c.args.self.now.most

pub invariant_of-self-clause-whole : goal.invariant_of-self-clause-whole
invariant_of-self-clause-whole c = c.args.self.now.whole

pub invariant_of-self-clause-slots : goal.invariant_of-self-clause-slots
invariant_of-self-clause-slots c = c.args.self.now.slots

pub invariant_of-self-clause-space : goal.invariant_of-self-clause-space
invariant_of-self-clause-space c = c.args.self.now.space

pub invariant_of-self-clause-in_order : goal.invariant_of-self-clause-in_order
invariant_of-self-clause-in_order c = c.args.self.now.in_order
