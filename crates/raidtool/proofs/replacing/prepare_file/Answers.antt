use Rattle.std.proofs.Common.{IsTrue, ◌≤◌, ◌<◌, ap, arith, inl, inr, subst}
use Rattle.std.proofs.lemmas.Result.{IfErr-weaker, err_from_is_err_and, on_ok_weaker}
use Rattle.device_files.specs.Faults.{IsFileFaultOf, IsSyncFault}
use Rattle.raidtool.specs.Done.{IsNeedIn}
use Rattle.raidtool.specs.Begun.{BeginsOver}
use Rattle.raidtool.proofs.Causes.{by_memory, by_refusal, no_table_safely, not_memory}
use Rattle.raidtool.proofs.MadeFiles.{all_renewed_safe}
use Rattle.raidtool.proofs.Renewed.{is_none_of, prepared_already, prepared_by, renewed_blamed}
use Rattle.raidtool.proofs.Taken.{at_any_rate}
use Rattle.raidtool.proofs.replacing.prepare_file.Goals.{in-Some+in_ok-renew_slot, in_default}
use Rattle.raidtool.proofs.replacing.prepare_file.Goals as goal

pub returns-in_err-renew_slot-clause-named : goal.returns-in_err-renew_slot-clause-named
returns-in_err-renew_slot-clause-named g c =
    let from = err_from_is_err_and c.from_residual-in_err-renew_slot.result c.from_residual-in_err-renew_slot.ensures.1 in
    rw (from.1, from.2) (renewed_blamed (g.D.SlotFiles.opens c.args.disk.now) (g.D.SlotFiles.creates c.args.disk.now) _ c.args.folder.now c.args.slot
    c.renew_slot.new.files.files.items _ c.in_err-renew_slot.ensures.fault c.in_err-renew_slot.ensures.blamed c.in_err-renew_slot.ensures.made.unmade)

pub returns-clause-prepared : goal.returns-clause-prepared
returns-clause-prepared g c =
    let Needs = IsNeedIn (IsTrue g.D.File.Growing.tells) (BeginsOver g.D.File.Growing g.D.File.BankFile.left c.args.files.now.files.items) c.args.id
    c.args.slot in
    at_any_rate c.sync_folders.result (elim c.match-need.branch [
      | in-Some+in_ok-renew_slot w ↦ inr (
        w.in-Some.bytes,
        subst Needs w.in-Some.is c.in_ok-need.ensures.need,
        rw w.files-is w.in_ok-renew_slot.ensures.made,
      )
      | in_default w ↦ inl (
        subst Needs (is_none_of c.in_ok-need.need w.in_default.not-Some) c.in_ok-need.ensures.need,
        ap (λ files. files.files.items) w.files-is,
      )
    ])

pub returns-clause-safe : goal.returns-clause-safe
returns-clause-safe g c = at_any_rate c.sync_folders.result (elim c.match-need.branch [
  | in-Some+in_ok-renew_slot w ↦ rw w.files-is (all_renewed_safe g.D.File.Growing.is_safe c.args.slot c.args.files.now.files.items
      w.renew_slot.new.files.files.items
      c.requires.safe w.in_ok-renew_slot.ensures.made.safe w.in_ok-renew_slot.ensures.made.others)
  | in_default w ↦ rw w.files-is c.requires.safe
])

pub returns-clause-linked : goal.returns-clause-linked
returns-clause-linked g c = λ under.
    let from : c.args.slot ≤ c.args.slot = omega arith in
    let below : c.args.slot < c.saturating_add.result = omega (arith, under, c.saturating_add.ensures) in
    on_ok_weaker c.sync_folders.result (λ all. all c.args.slot from below) c.sync_folders.ensures.linked

pub returns-clause-prepares : goal.returns-clause-prepares
returns-clause-prepares g c = elim c.match-need.branch [
  | in-Some+in_ok-renew_slot w ↦ rw w.files-is (prepared_by g.D.File.Growing (g.D.SlotFiles.creates c.args.disk.now) c.args.folder.now c.args.slot _ _ _ _
      w.in_ok-renew_slot.ensures.made.others w.in_ok-renew_slot.ensures.noted w.in_ok-renew_slot.ensures.other_notes)
  | in_default w ↦ rw w.files-is (prepared_already g.D.File.Growing (g.D.SlotFiles.creates c.args.disk.now) c.args.folder.now c.args.slot _ _)
]

pub returns-in_err-renew_slot-clause-prepares : goal.returns-in_err-renew_slot-clause-prepares
returns-in_err-renew_slot-clause-prepares g c = prepared_by g.D.File.Growing (g.D.SlotFiles.creates c.args.disk.now) c.args.folder.now c.args.slot _ _ _ _
    c.in_err-renew_slot.ensures.made.others c.in_err-renew_slot.ensures.noted c.in_err-renew_slot.ensures.other_notes

pub returns-in_err-need-clause-prepares : goal.returns-in_err-need-clause-prepares
returns-in_err-need-clause-prepares g c =
    prepared_already g.D.File.Growing (g.D.SlotFiles.creates c.args.disk.now) c.args.folder.now c.args.slot _ _

-- ---- why it was refused

pub returns-in_err-need-clause-cause : goal.returns-in_err-need-clause-cause
returns-in_err-need-clause-cause g c =
    let from = err_from_is_err_and c.from_residual.result c.from_residual.ensures.1 in
    rw (from.1, from.2) (by_refusal _ _ (λ other. no_table_safely g.D.File.Growing g.D.File.BankFile.left c.args.id c.args.files.now.files.items _
    c.requires.safe (c.in_err-need.ensures.cause (not_memory _ other))))

pub returns-in_err-renew_slot-clause-cause : goal.returns-in_err-renew_slot-clause-cause
returns-in_err-renew_slot-clause-cause g c =
    let from = err_from_is_err_and c.from_residual-in_err-renew_slot.result c.from_residual-in_err-renew_slot.ensures.1 in
    rw (from.1, from.2) (by_memory (IsFileFaultOf c.args.slot) _ _ (λ refusal memory. memory) c.in_err-renew_slot.ensures.fault)

pub returns-clause-cause : goal.returns-clause-cause
returns-clause-cause g c = IfErr-weaker c.sync_folders.result _ _ (λ fault is. by_memory IsSyncFault _ fault (λ refusal memory. memory) is)
    c.sync_folders.ensures.fault
