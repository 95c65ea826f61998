-- What reads find of the superblocks on a bank's devices.
use Rattle.std.proofs.Common.{◌≡◌, ◌⊎◌, inl, inr, ℕ, ◌+◌, ◌-◌, ◌^◌, ◌<◌, ◌≤◌, min, Bool, true, false, List, length, Option, Some, None, refl, sym, ◌∙◌, ap}
use Rattle.std.proofs.Common.{subst, arith, cond}
use Rattle.std.specs.Prelude.{IfSome, IsNone, Result, Ok, Err, nat_lt}
use Rattle.std.proofs.Math.Path.{fun_ext}
use Rattle.std.proofs.lemmas.Bool.{cases_lt}
use Rattle.sector_model.specs.declared.refusal.Refusal.{Refusal}
use Rattle.sector_model.specs.declared.refusal.Refusal.TheVariants.{Worn}
use Rattle.sector_model.specs.declared.sector.Stop.{Stop}
use Rattle.sector_model.specs.declared.sector.Stop.TheVariants.{Down}
use Rattle.sector_model.specs.declared.sector.Stop.TheVariants as Stops
use Rattle.sector_model.specs.declared.calls.TheConstants.{GREATEST_COUNT}
use Rattle.sector_model.specs.Bank.{IsCauseOf, IsLater, IsTrueTo, Panel}
use Rattle.sector_model.specs.History.{Bytes, History, Slots, disk_of, is_down, sector_of, seen, start_of}
use Rattle.sector_model.specs.MemoryLaw.{length-seen}
use Rattle.sector_model.specs.Readable.{readable}
use Rattle.sector_model.specs.Reads.{HasRead}
use Rattle.sector_model.proofs.Panels.{later_both, later_same}
use Rattle.sector_model.proofs.Readable.{readable_down, readable_up}
use Rattle.sector_model.proofs.Reading.{read_both, read_none, seen_read}
use Rattle.sector_model.proofs.Steps.{absent_down}
use Rattle.superblock.specs.declared.table.Superblock.{Superblock}
use Rattle.superblock.specs.declared.table.Table.{Table}
use Rattle.superblock.specs.Counted.{Content, Counts, IsChosen}
use Rattle.superblock.specs.Newest.{CountsIn, CountsNone, IsOfSet, newer_of}
use Rattle.superblock.proofs.Newest.{CountedAt, IsBestTo, NewestOf, best_step, counts_in, in_counts, newest_of_two, none_beyond}
use Rattle.recovery.specs.Finding.{Finds, FoundAt, NewestFound, OthersStay, ReadsPlace}
use Rattle.array_io.specs.Believed.ReadWhole.{NoDeviceFailed}
use Rattle.recovery.specs.Making.{BankView, IsCarried}

-- a bank's panel says of a run what it is
abbrev pub Honest : BankView → Type 0
Honest bank = IsTrueTo bank.panel bank.history

differ : true ≡ false → ⊥
differ is = cc

-- a device that is up was up before
up_before : (old new : BankView) (slot : ℕ) → Honest old → Honest new → IsLater old.panel new.panel
    → is_down new.history slot ≡ false → is_down old.history slot ≡ false
up_before old new slot is_old is_new later up = by_case (old.panel.down slot) refl
  where
    by_case : (b : Bool) → old.panel.down slot ≡ b → is_down old.history slot ≡ false
    by_case true down = absurd (differ (sym (later.down slot down) ∙ is_new.down slot ∙ up))
    by_case false is = sym (is_old.down slot) ∙ is

-- where reads give something, they gave the same before other reads
pub same_while_up : (old new : BankView) (slot : ℕ) → Honest old → Honest new → IsLater old.panel new.panel → HasRead old.history new.history
    → is_down new.history slot ≡ false → readable new.history slot ≡ readable old.history slot
same_while_up old new slot is_old is_new later read up =
    readable_up new.history slot up ∙ ap (λ (disk : List Bytes). Some disk) (seen_read read slot)
    ∙ sym (readable_up old.history slot (up_before old new slot is_old is_new later up))

-- where no device goes down, reads give what they gave before other reads
pub same_readable : (old new : BankView) → Honest old → Honest new → IsLater old.panel new.panel → HasRead old.history new.history
    → NoDeviceFailed old.panel new.panel → readable new.history ≡ readable old.history
same_readable old new is_old is_new later read none = fun_ext (λ slot. by_case slot (is_down new.history slot) refl)
  where
    down_before : (slot : ℕ) → is_down new.history slot ≡ true → (b : Bool) → old.panel.down slot ≡ b → is_down old.history slot ≡ true
    down_before slot down true was = sym (is_old.down slot) ∙ was
    down_before slot down false was = elim (cases_lt slot old.panel.devices) [
      | inl within ↦ absurd (differ (sym down ∙ sym (is_new.down slot) ∙ none slot within was))
      | inr beyond ↦ absent_down old.history slot (is_old.beyond slot beyond)
    ]

    by_case : (slot : ℕ) (b : Bool) → is_down new.history slot ≡ b → readable new.history slot ≡ readable old.history slot
    by_case slot true down = readable_down new.history slot down ∙ sym (readable_down old.history slot (down_before slot down (old.panel.down slot) refl))
    by_case slot false up = same_while_up old new slot is_old is_new later read up

-- of a device that is down nothing counts
pub none_down : (id : List ℕ) (devices slot place : ℕ) (h : History) → is_down h slot ≡ true → CountsNone id devices slot (readable h slot) place
none_down id devices slot place h down = none_beyond id devices slot place (readable h slot)
    (subst (λ (c : Content). length (disk_of c) ≤ place) (sym (readable_down h slot down)) (omega arith))

-- the table that is chosen now was carried before other reads
pub still_carried : (id : List ℕ) (devices : ℕ) (old new : BankView) (table : Table) → Honest old → Honest new → IsLater old.panel new.panel
    → HasRead old.history new.history → IsChosen id devices (readable new.history) table → IsCarried id devices (readable old.history) table
still_carried id devices old new table is_old is_new later read is = by_case (is_down new.history is.slot) refl
  where
    by_case : (b : Bool) → is_down new.history is.slot ≡ b → IsCarried id devices (readable old.history) table
    by_case true down = absurd (none_down id devices is.slot is.place new.history down is.best is.counted)
    by_case false up = record {
      slot = is.slot;
      place = is.place;
      superblock = is.best;
      counted = subst (λ (c : Content). Counts id devices is.slot c is.place is.best) (same_while_up old new is.slot is_old is_new later read up) is.counted;
      carries = is.carried;
    }

-- a device that is up after some calls was up before them
pub still_up : (old new : Panel) (slot : ℕ) → IsLater old new → new.down slot ≡ false → old.down slot ≡ false
still_up old new slot later up = by_case (old.down slot) refl
  where
    by_case : (b : Bool) → old.down slot ≡ b → b ≡ false
    by_case true down = absurd (differ (sym (later.down slot down) ∙ up))
    by_case false is = refl

-- where none failed over two spans, none failed over either
pub none_failed_first : (old mid new : Panel) → IsLater mid new → NoDeviceFailed old new → NoDeviceFailed old mid
none_failed_first old mid new later none slot within up = still_up mid new slot later (none slot within up)

pub none_failed_second : (old mid new : Panel) → IsLater old mid → NoDeviceFailed old new → NoDeviceFailed mid new
none_failed_second old mid new later none slot within up = none slot (omega (arith, later.devices)) (still_up old mid slot later up)

-- what is said of an answer: of what it found, and of why it was refused
abbrev pub OnFound : {A : Type 0} → (A → Type 0) → Result A Refusal → Type 0
OnFound P (Ok found) = P found
OnFound P (Err refusal) = ⊥

abbrev pub OnRefusal : {A : Type 0} → (Refusal → Type 0) → Result A Refusal → Type 0
OnRefusal P (Ok found) = ⊥
OnRefusal P (Err refusal) = P refusal

pub same_found : {A : Type 0} (found other : A) → ◌≡◌ {A = Result A Refusal} (Ok found) (Ok other) → found ≡ other
same_found found other is = subst (OnFound (λ o. found ≡ o)) is refl

pub no_refusal : {A : Type 0} (found : A) (refusal : Refusal) → Ok found ≡ Err refusal → ⊥
no_refusal found refusal is = subst (OnFound (λ o. Unit {0})) is tt

pub no_found : {A : Type 0} (found : A) (refusal : Refusal) → Err refusal ≡ Ok found → ⊥
no_found found refusal is = subst (OnRefusal (λ r. Unit {0})) is tt

-- what was found, by what holds of it
pub finds : (honest : Type 0) (id : List ℕ) (devices : ℕ) (IsSought : Slots → Option Superblock → Type 0) (old new : BankView) (found : Option Superblock)
    → IsLater old.panel new.panel → (honest → HasRead old.history new.history)
    → ((superblock : Superblock) → found ≡ Some superblock → IsOfSet id devices superblock)
    → (honest → NoDeviceFailed old.panel new.panel → IsSought (readable old.history) found)
    → Finds honest id devices IsSought old new (Ok found)
finds honest id devices IsSought old new found later reads fits sought = record {
  later = later;
  fits = λ superblock is. fits superblock (same_found found (Some superblock) is);
  reads = reads;
  sought = λ fair none other is. subst (λ (o : Option Superblock). IsSought (readable old.history) o) (same_found found other is) (sought fair none);
  cause = λ refusal is. absurd (no_refusal found refusal is);
}

-- the search ended with a refusal
pub finds_err : (honest : Type 0) (id : List ℕ) (devices : ℕ) (IsSought : Slots → Option Superblock → Type 0) (old new : BankView) (refusal : Refusal)
    → IsLater old.panel new.panel → (honest → HasRead old.history new.history) → refusal ≡ Worn → GREATEST_COUNT ≤ new.panel.calls
    → Finds honest id devices IsSought old new (Err refusal)
finds_err honest id devices IsSought old new refusal later reads worn calls = record {
  later = later;
  fits = λ superblock is. absurd (no_found (Some superblock) refusal is);
  reads = reads;
  sought = λ fair none other is. absurd (no_found other refusal is);
  cause = λ other is. (sym (subst (OnRefusal (λ r. refusal ≡ r)) is refl) ∙ worn, calls);
}

-- nothing is found
finds_none : (honest : Type 0) (id : List ℕ) (devices : ℕ) (IsSought : Slots → Option Superblock → Type 0) (old new : BankView)
    → IsLater old.panel new.panel → (honest → HasRead old.history new.history)
    → (honest → NoDeviceFailed old.panel new.panel → IsSought (readable old.history) None)
    → Finds honest id devices IsSought old new (Ok None)
finds_none honest id devices IsSought old new later reads sought =
    finds honest id devices IsSought old new None later reads (λ superblock is. absurd (cc)) sought

-- what a read of a place found, by what is said of it
place_found : (honest : Type 0) (slot place : ℕ) (old new : BankView) (found : Option Bytes) → IsLater old.panel new.panel
    → (honest → HasRead old.history new.history)
    → ((sector : Bytes) → found ≡ Some sector → (old.panel.down slot ≡ false) × (honest → sector ≡ sector_of (seen old.history slot) place))
    → (honest → NoDeviceFailed old.panel new.panel → found ≡ None → length (disk_of (readable old.history slot)) ≤ place)
    → ReadsPlace honest slot place old new (Ok found)
place_found honest slot place old new found later reads stands nothing = record {
  later = later;
  reads = reads;
  stands = λ sector is. stands sector (same_found found (Some sector) is);
  nothing = λ fair none is. nothing fair none (same_found found None is);
  cause = λ refusal is. absurd (no_refusal found refusal is);
}

place_none : (honest : Type 0) (slot place : ℕ) (old new : BankView) → IsLater old.panel new.panel
    → (honest → HasRead old.history new.history)
    → (honest → NoDeviceFailed old.panel new.panel → length (disk_of (readable old.history slot)) ≤ place) → ReadsPlace honest slot place old new (Ok None)
place_none honest slot place old new later reads short =
    place_found honest slot place old new None later reads (λ sector is. absurd (cc)) (λ fair none is. short fair none)

-- no call was made of a device that is down
pub place_down : (honest : Type 0) (slot place : ℕ) (bank : BankView) → (honest → Honest bank) → bank.panel.down slot ≡ true
    → ReadsPlace honest slot place bank bank (Ok None)
place_down honest slot place bank is_honest down =
    place_none honest slot place bank bank (later_same bank.panel) (λ fair. read_none bank.history)
    (λ fair none. subst (λ (c : Content). length (disk_of c) ≤ place) (sym (readable_down bank.history slot (sym ((is_honest fair).down slot) ∙ down)))
    (omega arith))

-- nor of one that is too short
pub place_short : (honest : Type 0) (slot place : ℕ) (bank : BankView) → (honest → Honest bank)
    → bank.panel.sectors slot ≤ place → place < 256 → ReadsPlace honest slot place bank bank (Ok None)
place_short honest slot place bank is_honest short within =
    place_none honest slot place bank bank (later_same bank.panel) (λ fair. read_none bank.history)
    (λ fair none. by_case fair (is_down bank.history slot) refl)
  where
    shorter : (n most : ℕ) → 256 ≤ most → min n most ≤ place → n ≤ place
    shorter n most large is = omega (arith, large, is, within)

    by_case : honest → (b : Bool) → is_down bank.history slot ≡ b → length (disk_of (readable bank.history slot)) ≤ place
    by_case fair true down = subst (λ (c : Content). length (disk_of c) ≤ place) (sym (readable_down bank.history slot down)) (omega arith)
    by_case fair false up = subst (λ (c : Content). length (disk_of c) ≤ place) (sym (readable_up bank.history slot up))
        (subst (λ (n : ℕ). n ≤ place) (sym (length-seen bank.history slot))
        (shorter (length (disk_of (start_of bank.history slot))) (2 ^ 32 - 1) (omega arith)
        (subst (λ (n : ℕ). n ≤ place) ((is_honest fair).sectors slot) short)))

-- the device went down as it was read
pub place_failed : (honest : Type 0) (slot place : ℕ) (old new : BankView)
    → IsLater old.panel new.panel → (honest → HasRead old.history new.history)
    → slot < old.panel.devices → old.panel.down slot ≡ false → new.panel.down slot ≡ true
    → ReadsPlace honest slot place old new (Ok None)
place_failed honest slot place old new later reads within up down =
    place_none honest slot place old new later reads (λ fair none. absurd (differ (sym down ∙ none slot within up)))

-- the sector was read
pub place_read : (honest : Type 0) (slot place : ℕ) (old new : BankView) (sector : Bytes) → IsLater old.panel new.panel
    → (honest → HasRead old.history new.history) → old.panel.down slot ≡ false → (honest → sector ≡ sector_of (seen old.history slot) place)
    → ReadsPlace honest slot place old new (Ok (Some sector))
place_read honest slot place old new sector later reads up is =
    place_found honest slot place old new (Some sector) later reads
    (λ other same. subst (λ (o : Option Bytes). IfSome o (λ s. (old.panel.down slot ≡ false) × (honest → s ≡ sector_of (seen old.history slot) place))) same
    (up, is))
    (λ fair none same. absurd (cc))

-- no further call could be counted
pub place_worn : (honest : Type 0) (slot place : ℕ) (old new : BankView) → IsLater old.panel new.panel
    → (honest → HasRead old.history new.history) → GREATEST_COUNT ≤ new.panel.calls → ReadsPlace honest slot place old new (Err Worn)
place_worn honest slot place old new later reads calls = record {
  later = later;
  reads = reads;
  stands = λ sector is. absurd (no_found (Some sector) Worn is);
  nothing = λ fair none is. absurd (no_found None Worn is);
  cause = λ refusal is. subst (OnRefusal (λ r. (r ≡ Worn) × (GREATEST_COUNT ≤ new.panel.calls))) is (refl, calls);
}

-- in a place of which a read gave nothing no superblock counts
pub finds_nothing : (honest : Type 0) (id : List ℕ) (devices slot place : ℕ) (old new : BankView) → ReadsPlace honest slot place old new (Ok None)
    → Finds honest id devices (FoundAt id devices slot place) old new (Ok None)
finds_nothing honest id devices slot place old new is =
    finds_none honest id devices (FoundAt id devices slot place) old new is.later is.reads
    (λ fair none. none_beyond id devices slot place (readable old.history slot) (is.nothing fair none refl))

-- the sector was read
pub finds_read : (honest : Type 0) (id : List ℕ) (devices slot place : ℕ) (old new : BankView) (sector : Bytes) (found : Option Superblock)
    → (honest → Honest old) → IsLater old.panel new.panel → (honest → HasRead old.history new.history) → old.panel.down slot ≡ false
    → (honest → sector ≡ sector_of (seen old.history slot) place)
    → IfSome found (λ superblock. CountsIn id devices slot place sector superblock)
    → (IsNone found → (superblock : Superblock) → ¬ CountsIn id devices slot place sector superblock)
    → Finds honest id devices (FoundAt id devices slot place) old new (Ok found)
finds_read honest id devices slot place old new sector found is_honest later reads up read some none = by_case found some none
  where
    stands : honest → sector_of (disk_of (readable old.history slot)) place ≡ sector
    stands fair = ap (λ (c : Content). sector_of (disk_of c) place) (readable_up old.history slot (sym ((is_honest fair).down slot) ∙ up)) ∙ sym (read fair)

    by_case : (found : Option Superblock) → IfSome found (λ superblock. CountsIn id devices slot place sector superblock)
        → (IsNone found → (superblock : Superblock) → ¬ CountsIn id devices slot place sector superblock)
        → Finds honest id devices (FoundAt id devices slot place) old new (Ok found)
    by_case None some none = finds_none honest id devices (FoundAt id devices slot place) old new later reads
        (λ fair up superblock counts. none refl superblock (in_counts id devices slot place sector superblock (readable old.history slot) (stands fair) counts))
    by_case (Some best) some none = finds honest id devices (FoundAt id devices slot place) old new (Some best) later reads
        (λ superblock is. subst (λ (o : Option Superblock). IfSome o (λ s. IsOfSet id devices s)) is some.of_set)
        (λ fair up. counts_in id devices slot place sector best (readable old.history slot) (stands fair) some)

-- the newer of two is one of them
newer_one : (first second : Option Superblock) (superblock : Superblock) → newer_of first second ≡ Some superblock
    → (first ≡ Some superblock) ⊎ (second ≡ Some superblock)
newer_one None second superblock is = inr is
newer_one (Some a) None superblock is = inl is
newer_one (Some a) (Some b) superblock is = by_case (nat_lt a.table.generation b.table.generation) is
  where
    by_case : (t : Bool) → cond t (Some b) (Some a) ≡ Some superblock → (Some a ≡ Some superblock) ⊎ (Some b ≡ Some superblock)
    by_case true is = inr is
    by_case false is = inl is

-- one search after another: the newer of the two that they find
pub finds_both : (honest still : Type 0) (id : List ℕ) (devices : ℕ) (IsFirst IsSecond IsSought : Slots → Option Superblock → Type 0) (old mid new : BankView)
    (first second after : Option Superblock) → (honest → still) → (honest → Honest old) → (honest → Honest mid)
    → ((image : Slots) → IsFirst image first → IsSecond image second → IsSought image (newer_of first second))
    → Finds honest id devices IsFirst old mid (Ok first) → Finds still id devices IsSecond mid new (Ok second) → after ≡ newer_of first second
    → Finds honest id devices IsSought old new (Ok after)
finds_both honest still id devices IsFirst IsSecond IsSought old mid new first second after goes_on is_old is_mid step one two is =
    subst (λ (o : Option Superblock). Finds honest id devices IsSought old new (Ok o)) (sym is)
    (finds honest id devices IsSought old new (newer_of first second) (later_both old.panel mid.panel new.panel one.later two.later)
    (λ fair. read_both (one.reads fair) (two.reads (goes_on fair)))
    (λ superblock newer. elim (newer_one first second superblock newer) [
      | inl is_first ↦ one.fits superblock (ap (λ (o : Option Superblock). Ok o) is_first)
      | inr is_second ↦ two.fits superblock (ap (λ (o : Option Superblock). Ok o) is_second)
    ])
    (λ fair none.
    let up = none_failed_first old.panel mid.panel new.panel two.later none in
    step (readable old.history) (one.sought fair up first refl)
    (subst (λ (image : Slots). IsSecond image second) (same_readable old mid (is_old fair) (is_mid fair) one.later (one.reads fair) up)
    (two.sought (goes_on fair) (none_failed_second old.panel mid.panel new.panel one.later none) second refl))))

-- a search that ends with a refusal, after another
pub finds_then_err : (honest still : Type 0) (id : List ℕ) (devices : ℕ)
    (IsFirst IsSecond IsSought : Slots → Option Superblock → Type 0) (old mid new : BankView)
    (first : Option Superblock) (refusal : Refusal) → (honest → still)
    → Finds honest id devices IsFirst old mid (Ok first) → Finds still id devices IsSecond mid new (Err refusal)
    → Finds honest id devices IsSought old new (Err refusal)
finds_then_err honest still id devices IsFirst IsSecond IsSought old mid new first refusal goes_on one two =
    let cause = two.cause refusal refl in
    finds_err honest id devices IsSought old new refusal (later_both old.panel mid.panel new.panel one.later two.later)
    (λ fair. read_both (one.reads fair) (two.reads (goes_on fair))) cause.0 cause.1

-- both places of a slot were searched
pub places_step : (id : List ℕ) (devices slot : ℕ) (image : Slots) (even odd : Option Superblock)
    → FoundAt id devices slot 0 image even → FoundAt id devices slot 1 image odd
    → NewestFound id devices slot image (newer_of even odd)
places_step id devices slot image even odd is_even is_odd =
    as_found (newer_of even odd) (newest_of_two id devices slot (image slot) even odd (as_counted 0 even is_even) (as_counted 1 odd is_odd))
  where
    as_counted : (place : ℕ) (found : Option Superblock) → FoundAt id devices slot place image found → CountedAt id devices slot (image slot) place found
    as_counted place None is = is
    as_counted place (Some superblock) is = is

    as_found : (found : Option Superblock) → NewestOf id devices slot (image slot) found → NewestFound id devices slot image found
    as_found None is = is
    as_found (Some superblock) is = is

-- one slot more was searched
pub slots_step : (id : List ℕ) (devices slot : ℕ) (image : Slots) (best next : Option Superblock)
    → IsBestTo id devices image slot best → NewestFound id devices slot image next
    → IsBestTo id devices image (slot + 1) (newer_of best next)
slots_step id devices slot image best next is_best is_next = best_step id devices image slot best next is_best (as_newest next is_next)
  where
    as_newest : (found : Option Superblock) → NewestFound id devices slot image found → NewestOf id devices slot (image slot) found
    as_newest None is = is
    as_newest (Some superblock) is = is

-- what two searches of one slot leave as it was
pub others_both : (slot : ℕ) (old mid new : History) → OthersStay slot old mid → OthersStay slot mid new → OthersStay slot old new
others_both slot old mid new first second = λ d apart. second d apart ∙ first d apart

-- why one call ended early
pub is_down_then : (panel : Panel) (slot : ℕ) (stop : Stop) (d : ℕ) → stop ≡ Down d
    → (stop ≡ Stops.Worn) ⊎ (stop ≡ Down slot) → IsCauseOf panel stop → panel.down slot ≡ true
is_down_then panel slot stop d down (inl worn) cause = absurd (cc)
is_down_then panel slot stop d down (inr same) cause = subst (λ (s : Stop). IsCauseOf panel s) same cause

-- a search of as many devices
pub over_devices : (honest : Type 0) (id : List ℕ) (IsSought : ℕ → Slots → Option Superblock → Type 0)
    (old new : BankView) (answer : Result (Option Superblock) Refusal)
    (n devices : ℕ) → n ≡ devices → Finds honest id n (IsSought n) old new answer → Finds honest id devices (IsSought devices) old new answer
over_devices honest id IsSought old new answer n devices same is = subst (λ (d : ℕ). Finds honest id d (IsSought d) old new answer) same is
