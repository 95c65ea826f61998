use Rattle.std.proofs.Common.{ℕ, ◌≤◌, refl, sym, ◌∙◌, List, Option, length, subst, ap, arith}
use Rattle.sector_model.specs.Memory.{Disk, AreCopies, AreAbsences}
use Rattle.sector_model.proofs.Replay.{replayed_start, ups_least}
use Rattle.std.proofs.lemmas.Result.{err_from_is_err_and}
use Rattle.sector_model.proofs.memory.MemBank.new.Goals as goal

pub invariant_of-result-clause-space : goal.invariant_of-result-clause-space
invariant_of-result-clause-space c =
    omega (
      arith,
      ups_least c.in_ok-down.down.items,
      c.in_ok-down.down.ok.0,
      c.in_ok-down.ensures.len,
      ap length c.deref-2.ensures.value,
      c.args.image.slots.ok.0,
      c.requires.most,
      c.in_ok-log.ensures.len,
      c.in_ok-log.ensures.capacity,
      c.saturating_add-most.ensures,
    )

pub invariant_of-result-clause-replayed : goal.invariant_of-result-clause-replayed
invariant_of-result-clause-replayed c =
    let start = c.args.image.slots.items in
    replayed_start start c.in_ok-log.log.items c.in_ok-disks.disks.items c.in_ok-down.down.items c.in_ok-log.ensures.items
    (subst (λ (slots : List (Option Disk)). AreCopies (length slots) slots c.in_ok-disks.disks.items) c.deref.ensures.value c.in_ok-disks.ensures.each)
    (omega (arith, c.in_ok-disks.disks.ok.0, c.in_ok-disks.ensures.len, ap length c.deref.ensures.value))
    (subst (λ (slots : List (Option Disk)). AreAbsences (length slots) slots c.in_ok-down.down.items) c.deref-2.ensures.value c.in_ok-down.ensures.each)
    (omega (arith, c.in_ok-down.down.ok.0, c.in_ok-down.ensures.len, ap length c.deref-2.ensures.value))

pub returns-in_err-disks-clause-history : goal.returns-in_err-disks-clause-history
returns-in_err-disks-clause-history c = rw (err_from_is_err_and c.from_residual.result c.from_residual.ensures.1).1 tt

pub returns-in_err-disks-clause-devices : goal.returns-in_err-disks-clause-devices
returns-in_err-disks-clause-devices c = rw (err_from_is_err_and c.from_residual.result c.from_residual.ensures.1).1 tt

pub returns-in_err-disks-clause-calls : goal.returns-in_err-disks-clause-calls
returns-in_err-disks-clause-calls c = rw (err_from_is_err_and c.from_residual.result c.from_residual.ensures.1).1 tt

pub returns-in_err-disks-clause-plan : goal.returns-in_err-disks-clause-plan
returns-in_err-disks-clause-plan c = rw (err_from_is_err_and c.from_residual.result c.from_residual.ensures.1).1 tt

pub returns-in_err-disks-clause-room : goal.returns-in_err-disks-clause-room
returns-in_err-disks-clause-room c = rw (err_from_is_err_and c.from_residual.result c.from_residual.ensures.1).1 tt

pub returns-in_err-down-clause-history : goal.returns-in_err-down-clause-history
returns-in_err-down-clause-history c = rw (err_from_is_err_and c.from_residual-in_err-down.result c.from_residual-in_err-down.ensures.1).1 tt

pub returns-in_err-down-clause-devices : goal.returns-in_err-down-clause-devices
returns-in_err-down-clause-devices c = rw (err_from_is_err_and c.from_residual-in_err-down.result c.from_residual-in_err-down.ensures.1).1 tt

pub returns-in_err-down-clause-calls : goal.returns-in_err-down-clause-calls
returns-in_err-down-clause-calls c = rw (err_from_is_err_and c.from_residual-in_err-down.result c.from_residual-in_err-down.ensures.1).1 tt

pub returns-in_err-down-clause-plan : goal.returns-in_err-down-clause-plan
returns-in_err-down-clause-plan c = rw (err_from_is_err_and c.from_residual-in_err-down.result c.from_residual-in_err-down.ensures.1).1 tt

pub returns-in_err-down-clause-room : goal.returns-in_err-down-clause-room
returns-in_err-down-clause-room c = rw (err_from_is_err_and c.from_residual-in_err-down.result c.from_residual-in_err-down.ensures.1).1 tt

pub returns-in_err-log-clause-history : goal.returns-in_err-log-clause-history
returns-in_err-log-clause-history c = rw (err_from_is_err_and c.from_residual-in_err-log.result c.from_residual-in_err-log.ensures.1).1 tt

pub returns-in_err-log-clause-devices : goal.returns-in_err-log-clause-devices
returns-in_err-log-clause-devices c = rw (err_from_is_err_and c.from_residual-in_err-log.result c.from_residual-in_err-log.ensures.1).1 tt

pub returns-in_err-log-clause-calls : goal.returns-in_err-log-clause-calls
returns-in_err-log-clause-calls c = rw (err_from_is_err_and c.from_residual-in_err-log.result c.from_residual-in_err-log.ensures.1).1 tt

pub returns-in_err-log-clause-plan : goal.returns-in_err-log-clause-plan
returns-in_err-log-clause-plan c = rw (err_from_is_err_and c.from_residual-in_err-log.result c.from_residual-in_err-log.ensures.1).1 tt

pub returns-in_err-log-clause-room : goal.returns-in_err-log-clause-room
returns-in_err-log-clause-room c = rw (err_from_is_err_and c.from_residual-in_err-log.result c.from_residual-in_err-log.ensures.1).1 tt

pub returns-clause-history : goal.returns-clause-history
returns-clause-history c = refl

pub returns-clause-calls : goal.returns-clause-calls
returns-clause-calls c = refl

pub returns-clause-plan : goal.returns-clause-plan
returns-clause-plan c = refl

pub returns-clause-devices : goal.returns-clause-devices
returns-clause-devices c = c.in_ok-down.ensures.len ∙ c.deref-2.ensures.len

pub invariant_of-result-clause-least : goal.invariant_of-result-clause-least
invariant_of-result-clause-least c = subst (λ (n : ℕ). 5 ≤ n) (sym (c.in_ok-down.ensures.len ∙ c.deref-2.ensures.len)) c.requires.least

pub invariant_of-result-clause-most : goal.invariant_of-result-clause-most
invariant_of-result-clause-most c = subst (λ (n : ℕ). n ≤ 10) (sym (c.in_ok-down.ensures.len ∙ c.deref-2.ensures.len)) c.requires.most

pub invariant_of-result-clause-whole : goal.invariant_of-result-clause-whole
invariant_of-result-clause-whole c = c.in_ok-disks.ensures.len ∙ c.deref.ensures.len ∙ sym (c.in_ok-down.ensures.len ∙ c.deref-2.ensures.len)

pub invariant_of-result-clause-slots : goal.invariant_of-result-clause-slots
invariant_of-result-clause-slots c = sym (c.in_ok-down.ensures.len ∙ c.deref-2.ensures.len)

pub returns-in_err-disks-clause-err : goal.returns-in_err-disks-clause-err
returns-in_err-disks-clause-err c = let p = err_from_is_err_and c.from_residual.result c.from_residual.ensures.1 in rw p.1 p.2

pub returns-in_err-down-clause-err : goal.returns-in_err-down-clause-err
returns-in_err-down-clause-err c = let p = err_from_is_err_and c.from_residual-in_err-down.result c.from_residual-in_err-down.ensures.1 in rw p.1 p.2

pub returns-in_err-log-clause-err : goal.returns-in_err-log-clause-err
returns-in_err-log-clause-err c = let p = err_from_is_err_and c.from_residual-in_err-log.result c.from_residual-in_err-log.ensures.1 in rw p.1 p.2

pub returns-clause-err : goal.returns-clause-err
returns-clause-err c = tt
