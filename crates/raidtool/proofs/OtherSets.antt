-- The slots after a set are inspected, one after another.
use Rattle.std.proofs.Common.{◌≡◌, ◌⊎◌, ◌<◌, ◌≤◌, ◌+◌, inl, inr, arith, sym, subst, refl, ℕ, true, false, List, Option, Some, None, Ok, Err}
use Rattle.std.specs.Prelude.{Result}
use Rattle.std.specs.Option.{is_some}
use Rattle.std.proofs.lemmas.Bool.{cases_lt}
use Rattle.sector_model.specs.declared.refusal.Refusal.{Refusal}
use Rattle.sector_model.specs.declared.refusal.Refusal.TheVariants.{Worn}
use Rattle.sector_model.specs.declared.calls.TheConstants.{GREATEST_COUNT}
use Rattle.sector_model.specs.Bank.{IsLater}
use Rattle.sector_model.specs.History.{Slots}
use Rattle.sector_model.specs.Readable.{readable}
use Rattle.sector_model.specs.Reads.{HasRead}
use Rattle.sector_model.proofs.Panels.{later_both, later_same}
use Rattle.sector_model.proofs.Reading.{read_both, read_none}
use Rattle.superblock.specs.declared.table.Superblock.{Superblock}
use Rattle.superblock.specs.Newest.{SlotCountsNone}
use Rattle.array_io.specs.Believed.ReadWhole.{NoDeviceFailed}
use Rattle.recovery.specs.Finding.{Finds, NewestFound}
use Rattle.recovery.specs.Making.{BankView}
use Rattle.recovery.proofs.Finding.{Honest, no_found, no_refusal, none_failed_first, none_failed_second, same_found, same_readable}
use Rattle.raidtool.specs.OtherSets.{InspectsBeyond, IsFoundBeyond}

-- the slots from one on and below another were inspected, and in none a superblock counts
pub record InspectedTo (honest : Type 0) (id : List ℕ) (first n : ℕ) (old now : BankView) : Type 0 where
  pub later : IsLater old.panel now.panel
  pub reads : honest → HasRead old.history now.history
  pub none : honest → NoDeviceFailed old.panel now.panel → (slot : ℕ) → first ≤ slot → slot < n
      → SlotCountsNone id old.panel.devices slot (readable old.history slot)

pub inspected_none : (honest : Type 0) (id : List ℕ) (first : ℕ) (old : BankView) → InspectedTo honest id first first old old
inspected_none honest id first old = record {
  later = later_same old.panel;
  reads = λ fair. read_none old.history;
  none = λ fair stay slot from below. absurd (omega (arith, from, below));
}

-- one was found
pub has_one : (id : List ℕ) (devices slot : ℕ) (image : Slots) (found : Option Superblock) → is_some found ≡ true → NewestFound id devices slot image found
    → (superblock : Superblock) × NewestFound id devices slot image (Some superblock)
has_one id devices slot image (Some superblock) is there = (superblock, there)
has_one id devices slot image None is there =
    let never : true ≡ false = sym is in
    absurd cc

-- none was
pub has_none : (found : Option Superblock) → is_some found ≡ false → ◌≡◌ {A = Result (Option Superblock) Refusal} (Ok found) (Ok None)
has_none None is = refl
has_none (Some superblock) is =
    let never : true ≡ false = is in
    absurd cc

module _ (honest honest_mid : Type 0) (on : honest → honest_mid) (id : List ℕ) (first n : ℕ) (old mid new : BankView) (is_old : honest → Honest old)
    (is_mid : honest → Honest mid) (inspected : InspectedTo honest id first n old mid) where
  -- what was found in the next slot
  pub found_next : (found : Option Superblock) → (answer : Result (Option Superblock) Refusal) → answer ≡ Ok found
      → Finds honest_mid id mid.panel.devices (NewestFound id mid.panel.devices n) mid new answer
      → honest → NoDeviceFailed old.panel new.panel → NewestFound id old.panel.devices n (readable old.history) found
  found_next found answer is finds h stay =
      let first_stay = none_failed_first old.panel mid.panel new.panel finds.later stay in
      let second_stay = none_failed_second old.panel mid.panel new.panel inspected.later stay in
      let same : readable mid.history ≡ readable old.history = same_readable old mid (is_old h) (is_mid h) inspected.later (inspected.reads h) first_stay in
      let sought : NewestFound id mid.panel.devices n (readable mid.history) found = finds.sought (on h) second_stay found is in
      let there : NewestFound id mid.panel.devices n (readable old.history) found =
      subst (λ (image : Slots). NewestFound id mid.panel.devices n image found) same sought in
      subst (λ (devices : ℕ). NewestFound id devices n (readable old.history) found) inspected.later.devices there

  -- it has none
  pub inspected_next : (answer : Result (Option Superblock) Refusal) → answer ≡ Ok None
      → Finds honest_mid id mid.panel.devices (NewestFound id mid.panel.devices n) mid new answer
      → InspectedTo honest id first (n + 1) old new
  inspected_next answer is finds = record {
    later = later_both old.panel mid.panel new.panel inspected.later finds.later;
    reads = λ fair. read_both (inspected.reads fair) (finds.reads (on fair));
    none = λ fair stay slot from below. by_case fair stay slot from below (cases_lt slot n);
  }
    where
      by_case : honest → NoDeviceFailed old.panel new.panel → (slot : ℕ) → first ≤ slot → slot < n + 1 → (slot < n) ⊎ (n ≤ slot)
          → SlotCountsNone id old.panel.devices slot (readable old.history slot)
      by_case fair stay slot from below (inl before) = inspected.none fair (none_failed_first old.panel mid.panel new.panel finds.later stay) slot from before
      by_case fair stay slot from below (inr beyond) =
          let at : n ≡ slot = omega (arith, beyond, below) in
          subst (λ (k : ℕ). SlotCountsNone id old.panel.devices k (readable old.history k)) at (found_next None answer is finds fair stay)

  -- it has one
  pub one_beyond : (found : Option Superblock) → is_some found ≡ true
      → Finds honest_mid id mid.panel.devices (NewestFound id mid.panel.devices n) mid new (Ok found) → InspectsBeyond honest id first old new (Ok (Some n))
  one_beyond found some finds = record {
    later = later_both old.panel mid.panel new.panel inspected.later finds.later;
    reads = λ fair. read_both (inspected.reads fair) (finds.reads (on fair));
    finds = λ other is fair stay. subst (IsFoundBeyond id first old) (same_found (Some n) other is)
        (has_one id old.panel.devices n (readable old.history) found some (found_next found (Ok found) refl finds fair stay));
    cause = λ refusal is. absurd (no_refusal (Some n) refusal is);
  }

  -- it could not be looked at
  pub refused_beyond : (refusal : Refusal) → Finds honest_mid id mid.panel.devices (NewestFound id mid.panel.devices n) mid new (Err refusal)
      → InspectsBeyond honest id first old new (Err refusal)
  refused_beyond refusal finds = record {
    later = later_both old.panel mid.panel new.panel inspected.later finds.later;
    reads = λ fair. read_both (inspected.reads fair) (finds.reads (on fair));
    finds = λ found is. absurd (no_found found refusal is);
    cause = λ why is.
        let same : refusal ≡ why = cc in
        subst (λ (r : Refusal). (r ≡ Worn) × (GREATEST_COUNT ≤ new.panel.calls)) same (finds.cause refusal refl);
  }

-- all were inspected
pub all_beyond : (honest : Type 0) (id : List ℕ) (first n : ℕ) (old now : BankView) → old.panel.devices ≤ n → InspectedTo honest id first n old now
    → InspectsBeyond honest id first old now (Ok None)
all_beyond honest id first n old now all inspected = record {
  later = inspected.later;
  reads = inspected.reads;
  finds = λ found is fair stay. subst (IsFoundBeyond id first old) (same_found None found is)
      (λ slot from below. inspected.none fair stay slot from (omega (arith, all, below)));
  cause = λ refusal is. absurd (no_refusal None refusal is);
}
