-- Two facts of each moment of one run.
use Rattle.std.proofs.Common.{◌≡◌, ℕ, ◌+◌, ◌≤◌, Bool, true, false, cond, refl, ap, subst, arith}
use Rattle.std.specs.Prelude.{nat_lt}
use Rattle.std.proofs.lemmas.Bool.Decides.{nat_tests}
use Rattle.sector_model.specs.declared.event.Event.{Event}
use Rattle.sector_model.specs.History.{Began, After, History, calls_of, cut_at}
use Rattle.sector_model.specs.Moments.{Throughout, here, then_also}
use Rattle.sector_model.proofs.Steps.{throughout_cut}

not_below : (a b : ℕ) → b ≤ a → nat_lt a b ≡ false
not_below a b le = grind (arith, nat_tests)

is_below : (a b : ℕ) → a + 1 ≤ b → nat_lt a b ≡ true
is_below a b le = grind (arith, nat_tests)

-- a run cut after its last call is the whole run
pub cut_whole : (t : ℕ) (h : History) → calls_of h ≤ t → cut_at t h ≡ h
cut_whole t (Began start) le = refl
cut_whole t (After e h) le = ap (λ (b : Bool). cond b (cut_at t h) (After e h)) (not_below t (calls_of h + 1) le)

-- and one cut before its last call is the run before that call
pub cut_before : (t : ℕ) (e : Event) (h : History) → t ≤ calls_of h → cut_at t (After e h) ≡ cut_at t h
cut_before t e h le = ap (λ (b : Bool). cond b (cut_at t h) (After e h)) (is_below t (calls_of h + 1) (omega (arith, le)))

pub calls_grow : {P : History → Type 0} {old : History} (new : History) → Throughout P old new → calls_of old ≤ calls_of new
calls_grow new (here is) = omega arith
calls_grow new (then_also e h so_far is) = omega (arith, calls_grow h so_far)

pub with_cuts : {P Q : History → Type 0} {old : History} (new : History) → Throughout P old new
    → ((t : ℕ) → calls_of old ≤ t → t ≤ calls_of new → Q (cut_at t new)) → Throughout (λ h. P h × Q h) old new
with_cuts {Q = Q} new (here is) cuts = here (is, subst Q (cut_whole (calls_of new) new (omega arith)) (cuts (calls_of new) (omega arith) (omega arith)))
with_cuts {Q = Q} new (then_also e h so_far is) cuts =
    then_also e h
    (with_cuts h so_far (λ t from to. subst Q (cut_before t e h to) (cuts t from (omega (arith, to)))))
    (is, subst Q (cut_whole (calls_of h + 1) (After e h) (omega arith)) (cuts (calls_of h + 1) (omega (arith, calls_grow h so_far)) (omega arith)))

-- what holds at each moment of a run, each for itself, holds together at each moment of it
pub throughout_both : {P Q : History → Type 0} {old : History} (new : History) → Throughout P old new → Throughout Q old new
    → Throughout (λ h. P h × Q h) old new
throughout_both new first second = with_cuts new first (λ t from to. throughout_cut new second t from)
