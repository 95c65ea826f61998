use Rattle.std.proofs.Common.{◌≡◌, length, subst}
use Rattle.std.specs.Prelude.{IsSomeAnd}
use Rattle.std.proofs.lemmas.Grind.{common_steps}
use Rattle.std.proofs.Common.{arith}
use Rattle.device_files.specs.DeviceFiles.{file_in}
use Rattle.device_files.proofs.Shortest.{shortest_next}
use Rattle.device_files.proofs.lengths.shortest_of.Goals as goal

pub loop-slot-preserved : goal.loop-slot-preserved
loop-slot-preserved g c =
    let bytes = c.in_ok-length_of.field-0 in
    let file_is : c.index-files-slot.result ≡ file_in c.args.files.now c.loop-slot.slot = grind (arith, common_steps) in
    record {
      there = grind (arith, common_steps);
      least = λ tells. shortest_next g.F.Growing.told c.args.files.now c.loop-slot.slot c.loop-slot.least bytes c.min-least.result
          (c.loop-slot.invariant.least tells)
          (subst (λ file. IsSomeAnd file (λ it. length (g.F.Growing.told it) ≡ bytes)) file_is (c.in_ok-length_of.ensures.told tells)) c.min-least.ensures;
    }
