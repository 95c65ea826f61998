-- Panels before and after calls.
use Rattle.std.proofs.Common.{inl, inr, ℕ, Bool, not, refl, sym, ◌∙◌, ap, arith}
use Rattle.std.proofs.lemmas.Bool.{cases_eq}
use Rattle.sector_model.specs.Bank.{Panel, AfterCall, IsLater}

-- no call was made
pub later_same : (panel : Panel) → IsLater panel panel
later_same panel = record { devices = refl; sectors = λ d. refl; calls = omega arith; down = λ d is. is }

pub later_both : (old mid new : Panel) → IsLater old mid → IsLater mid new → IsLater old new
later_both old mid new first second = record {
  devices = second.devices ∙ first.devices;
  sectors = λ d. second.sectors d ∙ first.sectors d;
  calls = omega (arith, first.calls, second.calls);
  down = λ d is. second.down d (first.down d is);
}

-- one call
pub later_call : (dev : ℕ) (answered : Bool) (old new : Panel) → AfterCall dev answered old new → IsLater old new
later_call dev answered old new call = record {
  devices = call.devices;
  sectors = call.sectors;
  calls = omega (arith, call.calls);
  down = λ d is. elim (cases_eq d dev) [
    | inl same ↦ ap (λ (k : ℕ). new.down k) same ∙ call.answer ∙ ap not (call.stays (sym (ap (λ (k : ℕ). old.down k) same) ∙ is))
    | inr other ↦ call.others d other ∙ is
  ];
}
