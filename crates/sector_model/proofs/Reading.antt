-- What stays while devices are read.
use Rattle.std.proofs.Common.{◌≡◌, inl, inr, ℕ, Bool, true, false, refl, sym, ap, subst, cond}
use Rattle.std.specs.Prelude.{Result, Ok, Err}
use Rattle.sector_model.specs.declared.event.Event.TheVariants.{Quiet, Wrote, Lost, Flushed, DeviceFailed}
use Rattle.sector_model.specs.declared.sector.Stop.{Stop}
use Rattle.sector_model.specs.declared.sector.Stop.TheVariants.{Down, Worn}
use Rattle.sector_model.specs.History.{History, Began, After, seen}
use Rattle.sector_model.specs.Bank.{after_read, after_try}
use Rattle.sector_model.specs.Moments.{Throughout, here, then_also, Contents, LeavesWithin}
use Rattle.sector_model.specs.Reads.{OnlyRead, HasRead}
use Rattle.sector_model.proofs.Steps.{within_event, throughout_last}

only_same : (h : History) → OnlyRead h h
only_same (Began start) = refl
only_same (After Quiet h) = inl refl
only_same (After (Wrote device at value) h) = refl
only_same (After (Lost device at value) h) = refl
only_same (After (Flushed device) h) = refl
only_same (After (DeviceFailed device) h) = inl refl

only_on : (old mid new : History) → OnlyRead old mid → OnlyRead mid new → OnlyRead old new
only_on old mid (Began start) first is = subst (OnlyRead old) is first
only_on old mid (After Quiet h) first (inl is) = subst (OnlyRead old) is first
only_on old mid (After Quiet h) first (inr rest) = inr (only_on old mid h first rest)
only_on old mid (After (Wrote device at value) h) first is = subst (OnlyRead old) is first
only_on old mid (After (Lost device at value) h) first is = subst (OnlyRead old) is first
only_on old mid (After (Flushed device) h) first is = subst (OnlyRead old) is first
only_on old mid (After (DeviceFailed device) h) first (inl is) = subst (OnlyRead old) is first
only_on old mid (After (DeviceFailed device) h) first (inr rest) = inr (only_on old mid h first rest)

pub read_none : (h : History) → HasRead h h
read_none h = record { only = only_same h }

pub read_both : {old mid new : History} → HasRead old mid → HasRead mid new → HasRead old new
read_both {old = old} {mid = mid} {new = new} first second = record { only = only_on old mid new first.only second.only }

-- one read, or none where no further call could be counted
pub read_one : {old new : History} (dev : ℕ) (result : Result (Unit {0}) Stop) → new ≡ after_try (after_read dev) result old → HasRead old new
read_one {old = old} dev (Ok done) is = record { only = subst (OnlyRead old) (sym is) (inr (only_same old)) }
read_one {old = old} dev (Err (Down d)) is = record { only = subst (OnlyRead old) (sym is) (by_case _) }
  where
    by_case : (b : Bool) → OnlyRead old (After (cond b Quiet (DeviceFailed dev)) old)
    by_case true = inr (only_same old)
    by_case false = inr (only_same old)
read_one {old = old} dev (Err Worn) is = record { only = subst (OnlyRead old) (sym is) (only_same old) }

seen_only : (old new : History) → OnlyRead old new → (d : ℕ) → seen new d ≡ seen old d
seen_only old (Began start) is d = ap (λ (h : History). seen h d) (sym is)
seen_only old (After Quiet h) (inl is) d = ap (λ (h : History). seen h d) (sym is)
seen_only old (After Quiet h) (inr rest) d = seen_only old h rest d
seen_only old (After (Wrote device at value) h) is d = ap (λ (h : History). seen h d) (sym is)
seen_only old (After (Lost device at value) h) is d = ap (λ (h : History). seen h d) (sym is)
seen_only old (After (Flushed device) h) is d = ap (λ (h : History). seen h d) (sym is)
seen_only old (After (DeviceFailed device) h) (inl is) d = ap (λ (h : History). seen h d) (sym is)
seen_only old (After (DeviceFailed device) h) (inr rest) d = seen_only old h rest d

-- reads give the same after reads
pub seen_read : {old new : History} → HasRead old new → (d : ℕ) → seen new d ≡ seen old d
seen_read {old = old} {new = new} read d = seen_only old new read.only d

through_only : (P : History → Type 0) → ((h : History) → P h → P (After Quiet h)) → ((h : History) (d : ℕ) → P h → P (After (DeviceFailed d) h))
    → (old new : History) → OnlyRead old new → P old → Throughout P old new
through_only P quiet failed old (Began start) is holds = subst (Throughout P old) is (here holds)
through_only P quiet failed old (After Quiet h) (inl is) holds = subst (Throughout P old) is (here holds)
through_only P quiet failed old (After Quiet h) (inr rest) holds =
    let so_far = through_only P quiet failed old h rest holds in then_also Quiet h so_far (quiet h (throughout_last h so_far))
through_only P quiet failed old (After (Wrote device at value) h) is holds = subst (Throughout P old) is (here holds)
through_only P quiet failed old (After (Lost device at value) h) is holds = subst (Throughout P old) is (here holds)
through_only P quiet failed old (After (Flushed device) h) is holds = subst (Throughout P old) is (here holds)
through_only P quiet failed old (After (DeviceFailed device) h) (inl is) holds = subst (Throughout P old) is (here holds)
through_only P quiet failed old (After (DeviceFailed device) h) (inr rest) holds =
    let so_far = through_only P quiet failed old h rest holds in then_also (DeviceFailed device) h so_far (failed h device (throughout_last h so_far))

-- what a quiet call and a failure keep holds at each moment while devices are read
pub throughout_read : (P : History → Type 0) {old new : History} → ((h : History) → P h → P (After Quiet h))
    → ((h : History) (d : ℕ) → P h → P (After (DeviceFailed d) h)) → HasRead old new → P old → Throughout P old new
throughout_read P {old = old} {new = new} quiet failed read holds = through_only P quiet failed old new read.only holds

-- what a crash may leave in sectors is the same at each moment while devices are read
pub throughout_within : (Q : Contents) {old new : History} → HasRead old new → LeavesWithin Q old → Throughout (LeavesWithin Q) old new
throughout_within Q {old = old} {new = new} read left =
    throughout_read (LeavesWithin Q) (λ h before. within_event Q Quiet h before (λ d a v put. absurd put))
    (λ h d before. within_event Q (DeviceFailed d) h before (λ k a v put. absurd put)) read left
