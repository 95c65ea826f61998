use Rattle.std.proofs.Common.{◌∙◌}
use Rattle.std.proofs.lemmas.Result.{err_from_is_err_and}
use Rattle.device_files.specs.DeviceFiles.{slot_path}
use Rattle.device_files.proofs.MadeSafe.{unsafe_blamed, unsafe_fault}
use Rattle.device_files.proofs.opening.open_folder.Goals as goal

pub returns-in_err-make_safe : goal.returns-in_err-make_safe
returns-in_err-make_safe g c =
    let from = err_from_is_err_and c.from_residual-in_err-make_safe.result c.from_residual-in_err-make_safe.ensures.1 in
    let failed = c.in_err-make_safe.ensures.fault in
    rw (from.1, from.2) (record {
      safe = tt;
      locked = tt;
      noted = tt;
      fault = unsafe_fault _ c.in_ok-files.files.files.items _ failed;
      blamed = unsafe_blamed (λ slot. g.D.SlotFiles.opens c.args.disk.now (slot_path c.args.folder.now slot)) _ c.in_ok-files.files.files.items
          c.in_ok-files.files.barred _ c.in_ok-files.ensures.opened failed;
      short = c.in_err-make_safe.ensures.short;
    })

pub returns : goal.returns
returns g c =
    let opened = c.in_ok-files.ensures in
    let made = c.in_ok-make_safe.ensures in
    record {
      safe = record { opened = c.in_ok-files.files.files.items; opens = rw made.barred opened.opened; made_safe = made.safe };
      locked = made.locked opened.locked;
      noted = made.noted ∙ opened.noted;
      fault = tt;
      blamed = tt;
      short = tt;
    }
