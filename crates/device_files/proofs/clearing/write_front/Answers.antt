use Rattle.std.proofs.Common.{◌≡◌, ◌∙◌, arith, length, subst, ℕ}
use Rattle.std.proofs.lemmas.List.{length-drop, length-take}
use Rattle.sector_model.specs.DeviceFiles.{IsWritten}
use Rattle.device_files.specs.BankFiles.{contents_by}
use Rattle.device_files.proofs.Cleared.{front_more, front_written}
use Rattle.device_files.proofs.clearing.write_front.Goals as goal

pub loop-done-preserved : goal.loop-done-preserved
loop-done-preserved g c =
    let inv = c.loop-done.invariant in
    let wrote = c.in_ok-done.ensures in
    let of = contents_by g.F.Growing.told g.F.BankFile.left in
    record {
      within = omega (arith, inv.within, wrote.bound, length-take {A = ℕ}, length-drop {A = ℕ});
      written = λ tells. front_more {a = of c.args.file.now} {b = of c.loop-done.file} {c = of c.write_some.new.file} c.loop-done.done c.in_ok-done.field-0
          c.args.from.now wrote.bound (inv.written tells) (wrote.written tells);
      long = λ tells. wrote.length tells ∙ inv.long tells;
    }

pub returns-clause-written : goal.returns-clause-written
returns-clause-written g c = λ tells.
    let told = g.F.Growing.told in
    let left = g.F.BankFile.left in
    let old = c.args.file.now in
    let new = c.loop-done.file in
    let whole : c.loop-done.done ≡ length c.args.from.now = omega (arith, c.loop-done.invariant.within, c.loop-done-test.false) in
    front_written c.args.from.now (told old) (told new) (left old) (left new) (c.requires.within tells)
    (subst (λ (n : ℕ). IsWritten 0 n c.args.from.now (contents_by told left old) (contents_by told left new)) whole (c.loop-done.invariant.written tells))
