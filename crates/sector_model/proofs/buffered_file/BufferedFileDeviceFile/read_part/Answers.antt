use Rattle.std.proofs.Common.{arith, ◌∙◌}
use Rattle.std.proofs.lemmas.List.{length-take-le}
use Rattle.sector_model.proofs.Spans.{part_read}
use Rattle.sector_model.proofs.buffered_file.BufferedFileDeviceFile.read_part.Goals as goal

pub returns-clause-read : goal.returns-clause-read
returns-clause-read g c = λ tells.
    part_read c.read_part.result (g.F.DeviceFile.told c.args.self.now.file.file) _ _ c.args.place c.room_before-count.result _ c.read_part.new.to _
    (c.read_part.auto.to ∙ length-take-le c.room_before-count.result c.args.to.now (omega (arith, c.room_before-count.ensures.most)))
    c.read_part.ensures.bound c.room_before-count.ensures.beside
    (c.read_part.ensures.read tells)
