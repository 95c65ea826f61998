use Rattle.std.proofs.Common.{[], ◌∷◌, ◌∙◌, ap}
use Rattle.std.specs.Prelude.{Err}
use Rattle.std.proofs.lemmas.Result.{err_from_is_err_and}
use Rattle.sector_model.specs.Calls.{Flush}
use Rattle.sector_model.proofs.Panels.{later_both}
use Rattle.sector_model.proofs.Sequences.{made_both, made_short}
use Rattle.superblock.proofs.PublishCode.{made_one}
use Rattle.superblock.proofs.publishing.write_last.Goals as goal

pub write_superblock-requires-clause-of_set : goal.write_superblock-requires-clause-of_set
write_superblock-requires-clause-of_set g c = c.requires.of_set

pub write_superblock-requires-clause-there : goal.write_superblock-requires-clause-there
write_superblock-requires-clause-there g c = c.requires.there

pub write_superblock-requires-clause-device : goal.write_superblock-requires-clause-device
write_superblock-requires-clause-device g c = c.requires.device

pub write_superblock-requires-clause-within : goal.write_superblock-requires-clause-within
write_superblock-requires-clause-within g c = c.requires.within

pub returns-in_err-write_superblock-clause-panel : goal.returns-in_err-write_superblock-clause-panel
returns-in_err-write_superblock-clause-panel g c = c.write_superblock.ensures.panel

pub returns-in_err-write_superblock-clause-honest : goal.returns-in_err-write_superblock-clause-honest
returns-in_err-write_superblock-clause-honest g c = c.write_superblock.ensures.honest

pub returns-in_err-write_superblock-clause-made : goal.returns-in_err-write_superblock-clause-made
returns-in_err-write_superblock-clause-made g c = λ sectors honest stands.
    rw (err_from_is_err_and c.from_residual.result c.from_residual.ensures.1).1
    (made_short (Flush c.args.slot ∷ []) (c.in_err-write_superblock.ensures.made (sectors c.args.slot) honest stands))

pub returns-in_err-write_superblock-clause-err : goal.returns-in_err-write_superblock-clause-err
returns-in_err-write_superblock-clause-err g c =
    let p = err_from_is_err_and c.from_residual.result c.from_residual.ensures.1 in
    let is = p.1 ∙ ap (λ s. Err s) p.2 in
    rw is c.in_err-write_superblock.ensures.err

pub flush_device-requires : goal.flush_device-requires
flush_device-requires g c = rw c.write_superblock.ensures.panel.devices c.requires.device

pub returns-clause-panel : goal.returns-clause-panel
returns-clause-panel g c = later_both _ _ _ c.write_superblock.ensures.panel c.flush_device.ensures.panel

pub returns-clause-honest : goal.returns-clause-honest
returns-clause-honest g c = (
  λ honest. c.flush_device.ensures.honest.0 (c.write_superblock.ensures.honest.0 honest),
  λ honest. c.write_superblock.ensures.honest.1 (c.flush_device.ensures.honest.1 honest),
)

pub returns-clause-made : goal.returns-clause-made
returns-clause-made g c = λ sectors honest stands.
    let here = c.write_superblock.ensures.honest.0 honest in
    let still = c.flush_device.ensures.honest.0 here in
    made_both (c.in_ok-write_superblock.ensures.made (sectors c.args.slot) honest stands)
    (made_one (Flush c.args.slot) c.flush_device.result (g.B.Bank.panel c.flush_device.new.bank) (c.flush_device.ensures.history here) c.flush_device.ensures.up
    (g.met.B.Bank.true_to _ still))

pub returns-clause-err : goal.returns-clause-err
returns-clause-err g c = c.flush_device.ensures.err

pub returns-in_err-write_superblock-clause-up : goal.returns-in_err-write_superblock-clause-up
returns-in_err-write_superblock-clause-up g c = rw (err_from_is_err_and c.from_residual.result c.from_residual.ensures.1).1 tt

pub returns-clause-up : goal.returns-clause-up
returns-clause-up g c = c.flush_device.ensures.up
