use Rattle.std.proofs.Common.{◌≡◌, ◌≢◌, ◌∙◌, ◌<◌, ◌≤◌, IfSome, IsTrue, arith, length, rules, subst, sym}
use Rattle.std.proofs.lemmas.Result.{err_from_is_err_and}
use Rattle.device_files.specs.DeviceFiles.{IsStillOpen, file_in}
use Rattle.device_files.specs.Superblocks.{without_places}
use Rattle.device_files.proofs.Cleared.{cleared_up_to}
use Rattle.device_files.proofs.SlotBySlot.{kept_at, made_after, untouched_next}
use Rattle.device_files.proofs.clearing.clear_places.Goals as goal

pub loop-slot-preserved : goal.loop-slot-preserved
loop-slot-preserved g c =
    let inv = c.loop-slot.invariant in
    let done = c.in_ok-clear_slot.ensures in
    let first = c.args.files.now in
    let was = c.loop-slot.files in
    let is = c.clear_slot.new.files in
    let slot = c.loop-slot.slot in
    let on : slot ≤ slot = omega arith in
    record {
      cleared = λ tells. made_after (λ k file. c.args.first ≤ k → IsStillOpen (file_in first k) file
          (λ old new. g.F.Growing.told new ≡ without_places (g.F.Growing.told old))) was is slot (inv.cleared tells) done.others
          (λ _. subst (λ file. IsStillOpen file (file_in is slot) (λ old new. g.F.Growing.told new ≡ without_places (g.F.Growing.told old)))
          (inv.untouched slot on) (done.cleared tells));
      safe = made_after (λ k file. c.args.first ≤ k → IfSome file g.F.Growing.is_safe) was is slot inv.safe done.others (λ _. done.safe);
      kept = made_after (λ k file. k < c.args.first → file ≡ file_in first k) was is slot inv.kept done.others
          (λ lower. absurd (omega (arith, inv.first, lower)));
      untouched = untouched_next first was is slot inv.untouched done.others;
      open_still = kept_at (λ k file. IsStillOpen (file_in first k) file
          (λ old new. IsTrue g.F.Growing.tells → length (g.F.Growing.told new) ≡ length (g.F.Growing.told old))) was is slot inv.open_still done.others
          (subst (λ file. IsStillOpen file (file_in is slot)
          (λ old new. IsTrue g.F.Growing.tells → length (g.F.Growing.told new) ≡ length (g.F.Growing.told old))) (inv.untouched slot on) done.open);
      long = done.long ∙ inv.long;
      first = omega (arith, inv.first);
    }

pub returns-in_err-clear_slot : goal.returns-in_err-clear_slot
returns-in_err-clear_slot g c =
    let inv = c.loop-slot.invariant in
    let done = c.clear_slot.ensures in
    let first = c.args.files.now in
    let was = c.loop-slot.files in
    let is = c.clear_slot.new.files in
    let slot = c.loop-slot.slot in
    let on : slot ≤ slot = omega arith in
    record {
      cleared = search rules;
      safe = search rules;
      kept = λ k lower.
          let below : k < slot = omega (arith, inv.first, lower) in
          let apart : k ≢ slot = omega (arith, below) in
          done.others k apart ∙ inv.kept k below lower;
      open_still = kept_at (λ k file. IsStillOpen (file_in first k) file
          (λ old new. IsTrue g.F.Growing.tells → length (g.F.Growing.told new) ≡ length (g.F.Growing.told old))) was is slot inv.open_still done.others
          (subst (λ file. IsStillOpen file (file_in is slot)
          (λ old new. IsTrue g.F.Growing.tells → length (g.F.Growing.told new) ≡ length (g.F.Growing.told old))) (inv.untouched slot on) done.open);
      long = done.long ∙ inv.long;
      fault = search rules;
      stopped =
          let from = err_from_is_err_and c.from_residual.result c.from_residual.ensures.1 in
          rw (from.1, from.2) (cleared_up_to g.F.Growing.tells g.F.Growing.told c.args.first slot first is _ c.in_err-clear_slot.ensures.fault
          (λ tells k least under.
          let apart : k ≢ slot = omega (arith, under) in
          subst (λ file. IsStillOpen (file_in first k) file (λ old new. g.F.Growing.told new ≡ without_places (g.F.Growing.told old)))
          (sym (done.others k apart)) (inv.cleared tells k under least))
          (λ k above. untouched_next first was is slot inv.untouched done.others k (omega (arith, above))));
    }
