use Rattle.std.proofs.Common.{◌≡◌, ℕ, zero, suc, ◌+◌, ◌<◌, List, [], ◌∷◌, ◌++◌, length, Option, refl, sym, ◌∙◌, ap, subst, below_more, arith}
use Rattle.std.proofs.lemmas.Result.{err_from_is_err_and}
use Rattle.sector_model.specs.History.{Bytes, Began}
use Rattle.sector_model.specs.Candidates.{IsTaken}
use Rattle.sector_model.specs.Memory.{Disk, sectors_in, slots_of, run_on}
use Rattle.sector_model.proofs.Copies.{slots_at}
use Rattle.sector_model.proofs.memory.after_crash.slots_after.Goals as goal

slots-push : (slots : List (Option Disk)) (slot : Option Disk) (d : ℕ) → d < length slots → slots_of (slots ++ slot ∷ []) d ≡ slots_of slots d
slots-push [] slot d within = absurd (omega arith)
slots-push (first ∷ slots) slot zero within = refl
slots-push (first ∷ slots) slot (suc d) within = slots-push slots slot d (omega arith)

slots-push_last : (slots : List (Option Disk)) (slot : Option Disk) (d : ℕ) → d ≡ length slots → slots_of (slots ++ slot ∷ []) d ≡ sectors_in slot
slots-push_last [] slot zero is = refl
slots-push_last [] slot (suc d) is = absurd (omega arith)
slots-push_last (first ∷ slots) slot zero is = absurd (omega arith)
slots-push_last (first ∷ slots) slot (suc d) is = slots-push_last slots slot d (omega arith)

-- one slot more
slots_more : (P : ℕ → Option (List Bytes) → Option (List Bytes) → Type 0) (start slots new : List (Option Disk)) (slot chosen : Option Disk) (n : ℕ)
    → new ≡ slots ++ chosen ∷ [] → length slots ≡ n
    → slots_of start n ≡ sectors_in slot → ((d : ℕ) → d < n → P d (slots_of start d) (slots_of slots d)) → P n (sectors_in slot) (sectors_in chosen) → (d : ℕ)
    → d < n + 1 → P d (slots_of start d) (slots_of new d)
slots_more P start slots new slot chosen n is len begun each last =
    let at = λ (d : ℕ). ap (λ (l : List (Option Disk)). slots_of l d) is in
    below_more _ _ (λ d lt. subst (P d (slots_of start d)) (sym (at d ∙ slots-push slots chosen d (omega (arith, len, lt)))) (each d lt))
    (subst (λ (s : Option (List Bytes)). P n s (slots_of new n)) (sym begun)
    (subst (P n (sectors_in slot)) (sym (at n ∙ slots-push_last slots chosen n (sym len))) last))

pub loop-dev-init : goal.loop-dev-init
loop-dev-init c = record { so_far = c.new-slots.ensures.len; each = λ d within. absurd (omega (arith, within)) }

pub loop-dev-preserved : goal.loop-dev-preserved
loop-dev-preserved c =
    let l = c.loop-dev in
    let start = c.args.start.now in
    let slot = c.index-start-dev.result in
    let begun = slots_at start slot l.dev c.loop-dev-test.true c.index-start-dev.is in
    record {
      so_far = omega (arith, c.in_ok-push.ensures.len, l.invariant.so_far);
      each = slots_more (IsTaken c.args.choice c.args.room (run_on (Began (slots_of start)) c.args.log.now)) start l.slots.items c.push.new.self.items slot
          c.in_ok-slot_after.field-0 l.dev
          c.in_ok-push.ensures.items (omega (arith, l.slots.ok.0, l.invariant.so_far)) begun l.invariant.each
          (c.in_ok-slot_after.ensures (slots_of start) begun);
    }

pub returns-clause-len : goal.returns-clause-len
returns-clause-len c = omega (arith, c.loop-dev.invariant.so_far, c.loop-dev-test.false, c.loop-dev.auto.dev-end)

pub returns-in_err-slot_after-clause-len : goal.returns-in_err-slot_after-clause-len
returns-in_err-slot_after-clause-len c = rw (err_from_is_err_and c.from_residual.result c.from_residual.ensures.1).1 tt

pub returns-in_err-slot_after-clause-taken : goal.returns-in_err-slot_after-clause-taken
returns-in_err-slot_after-clause-taken c = rw (err_from_is_err_and c.from_residual.result c.from_residual.ensures.1).1 tt

pub returns-in_err-push-clause-len : goal.returns-in_err-push-clause-len
returns-in_err-push-clause-len c = rw (err_from_is_err_and c.from_residual-in_err-push.result c.from_residual-in_err-push.ensures.1).1 tt

pub returns-in_err-push-clause-taken : goal.returns-in_err-push-clause-taken
returns-in_err-push-clause-taken c = rw (err_from_is_err_and c.from_residual-in_err-push.result c.from_residual-in_err-push.ensures.1).1 tt

pub returns-clause-taken : goal.returns-clause-taken
returns-clause-taken c =
    λ d within. c.loop-dev.invariant.each d (omega (arith, within, c.loop-dev-test.false))
