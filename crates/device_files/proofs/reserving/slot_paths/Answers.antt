use Rattle.std.proofs.Common.{string_bytes, arith}
use Rattle.std.proofs.lemmas.Grind.{common_steps}
use Rattle.device_files.specs.DeviceFiles.{slot_path}
use Rattle.device_files.proofs.PathsBySlot.{path_next}
use Rattle.device_files.proofs.reserving.slot_paths.Goals as goal

pub loop-slot-preserved : goal.loop-slot-preserved
loop-slot-preserved c =
    record {
      count = grind (arith, common_steps);
      long = grind (arith, common_steps);
      each = rw c.in_ok-push.ensures.items (path_next string_bytes (λ k. slot_path c.args.folder.now k) c.loop-slot.paths.items c.in_ok-path_of.field-0
          c.loop-slot.slot c.loop-slot.invariant.long c.loop-slot.invariant.each c.in_ok-path_of.ensures);
    }
