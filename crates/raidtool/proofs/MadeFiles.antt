-- What holds of the files of a set's slots, slot by slot, as one after another is made long enough.
use Rattle.std.proofs.Common.{◌≡◌, ◌≢◌, ◌∙◌, ◌<◌, ◌≤◌, ◌+◌, ℕ, inl, inr, List, Option, arith, subst, sym}
use Rattle.std.proofs.lemmas.Bool.{cases_eq, cases_lt}
use Rattle.std.specs.Prelude.{IfSome, IsSomeAnd, None, Result, Some}
use Rattle.device_files.specs.BankFiles.{AreAllSafe}
use Rattle.device_files.specs.declared.locked.Before.{Before}
use Rattle.device_files.specs.DeviceFiles.{AreOtherNotesKept, AreOthersKept, HasMade, IsNotedOf, StaysOrMade, before_in, file_in, lengthened}
use Rattle.device_files.proofs.SlotBySlot.{kept_at, made_after}
use Rattle.device_files.specs.Faults.{IsFileFaultOf}
use Rattle.device_files.specs.declared.FolderFault.{FolderFault}
use Rattle.device_files.specs.declared.FolderFault.TheVariants.{InUse, NoFile, Refused}
use Rattle.raidtool.specs.FolderFiles.{IsNotedIn, IsStoppedAt}

-- the files are long enough below a slot and in it, where that one was made so of what it was at first
pub long_next : {F : Type 0} (Made : ℕ → F → Type 0) (told : F → List ℕ) (need : ℕ → ℕ) (first was is : List (Option F)) (slot bytes : ℕ)
    → ((k : ℕ) → k < slot → HasMade (Made k) (file_in first k) (file_in was k) (λ old new. told new ≡ lengthened (need k) (told old)))
    → ((k : ℕ) → slot ≤ k → file_in was k ≡ file_in first k) → bytes ≡ need slot → AreOthersKept was is slot
    → HasMade (Made slot) (file_in was slot) (file_in is slot) (λ old new. told new ≡ lengthened bytes (told old))
    → (k : ℕ) → k < slot + 1 → HasMade (Made k) (file_in first k) (file_in is k) (λ old new. told new ≡ lengthened (need k) (told old))
long_next Made told need first was is slot bytes below beyond enough others here =
    let on : slot ≤ slot = omega arith in
    made_after (λ k file. HasMade (Made k) (file_in first k) file (λ old new. told new ≡ lengthened (need k) (told old))) was is slot below others
    (subst (λ (n : ℕ). HasMade (Made slot) (file_in first slot) (file_in is slot) (λ old new. told new ≡ lengthened n (told old))) enough
    (subst (λ file. HasMade (Made slot) file (file_in is slot) (λ old new. told new ≡ lengthened bytes (told old))) (beyond slot on) here))

-- no byte of a file is changed, where none was before, and none of that of a slot since
pub kept_next : {F : Type 0} (Made : ℕ → F → Type 0) (Holds : F → F → Type 0) (first was is : List (Option F)) (slot : ℕ)
    → ((k : ℕ) → StaysOrMade (Made k) (file_in first k) (file_in was k) Holds)
    → ((k : ℕ) → slot ≤ k → file_in was k ≡ file_in first k) → AreOthersKept was is slot
    → StaysOrMade (Made slot) (file_in was slot) (file_in is slot) Holds → (k : ℕ) → StaysOrMade (Made k) (file_in first k) (file_in is k) Holds
kept_next Made Holds first was is slot all beyond others here =
    let on : slot ≤ slot = omega arith in
    kept_at (λ k file. StaysOrMade (Made k) (file_in first k) file Holds) was is slot all others
    (subst (λ file. StaysOrMade (Made slot) file (file_in is slot) Holds) (beyond slot on) here)

-- what is noted of each file, where that of each but one of a slot is as it was, and of that one it is noted
pub noted_next : {F Fault : Type 0} (told : F → List ℕ) (Creates : ℕ → Result (F × Before) Fault → Type 0) (need : ℕ → ℕ) (first was is : List (Option F))
    (notes_first notes_was notes_is : List Before) (slot bytes : ℕ)
    → ((k : ℕ) → IsNotedIn told (Creates k) (need k) (before_in notes_first k) (file_in first k) (file_in was k) (before_in notes_was k))
    → ((k : ℕ) → slot ≤ k → file_in was k ≡ file_in first k) → ((k : ℕ) → slot ≤ k → before_in notes_was k ≡ before_in notes_first k)
    → bytes ≡ need slot → AreOthersKept was is slot → AreOtherNotesKept notes_was notes_is slot
    → IsNotedOf told (Creates slot) bytes (before_in notes_was slot) (file_in was slot) (file_in is slot) (before_in notes_is slot)
    → (k : ℕ) → IsNotedIn told (Creates k) (need k) (before_in notes_first k) (file_in first k) (file_in is k) (before_in notes_is k)
noted_next told Creates need first was is notes_first notes_was notes_is slot bytes all beyond unnoted enough others other_notes here k =
    elim (cases_eq k slot) [
      | inl same ↦
          let on : slot ≤ slot = omega arith in
          subst (λ (j : ℕ). IsNotedIn told (Creates j) (need j) (before_in notes_first j) (file_in first j) (file_in is j) (before_in notes_is j)) (sym same)
          (inl (subst (λ (n : ℕ). IsNotedOf told (Creates slot) n (before_in notes_first slot) (file_in first slot) (file_in is slot) (before_in notes_is slot))
          enough
          (subst (λ note. IsNotedOf told (Creates slot) bytes note (file_in first slot) (file_in is slot) (before_in notes_is slot)) (unnoted slot on)
          (subst (λ file. IsNotedOf told (Creates slot) bytes (before_in notes_was slot) file (file_in is slot) (before_in notes_is slot)) (beyond slot on)
          here))))
      | inr apart ↦
          subst (λ file. IsNotedIn told (Creates k) (need k) (before_in notes_first k) (file_in first k) file (before_in notes_is k)) (sym (others k apart))
          (subst (λ note. IsNotedIn told (Creates k) (need k) (before_in notes_first k) (file_in first k) (file_in was k) note) (sym (other_notes k apart))
          (all k))
    ]

-- what is noted of the files after a slot is what it was at first
pub notes_next : (first was is : List Before) (slot : ℕ) → ((k : ℕ) → slot ≤ k → before_in was k ≡ before_in first k)
    → AreOtherNotesKept was is slot → (k : ℕ) → slot + 1 ≤ k → before_in is k ≡ before_in first k
notes_next first was is slot beyond others k from =
    let apart : k ≢ slot = omega (arith, from) in
    let on : slot ≤ k = omega (arith, from) in
    others k apart ∙ beyond k on

-- a fault of a slot's file leaves the files below it done, and those after it untouched
pub stopped_at : (Done Untouched : ℕ → Type 0) (slot : ℕ) (fault : FolderFault) → IsFileFaultOf slot fault → ((k : ℕ) → k < slot → Done k)
    → ((k : ℕ) → slot < k → Untouched k) → IsStoppedAt Done Untouched fault
stopped_at Done Untouched slot (NoFile other) same below beyond =
    (λ k less. below k (omega (arith, less, same)), λ k more. beyond k (omega (arith, more, same)))
stopped_at Done Untouched slot (InUse other) same below beyond =
    (λ k less. below k (omega (arith, less, same)), λ k more. beyond k (omega (arith, more, same)))
stopped_at Done Untouched slot (Refused refusal) is below beyond = tt
stopped_at Done Untouched slot fault is below beyond = absurd is

-- a file that is there and of which this holds is one of which this holds, if it is there
if_there : {F : Type 0} (P : F → Type 0) (file : Option F) → IsSomeAnd file P → IfSome file P
if_there P (Some one) is = is
if_there P None is = tt

-- the files of a set that was made long enough are safe, and those of the other slots still are
pub all_made_safe : {F : Type 0} (IsSafe : F → Type 0) (end : ℕ) (was is : List (Option F)) → AreAllSafe IsSafe was
    → ((slot : ℕ) → slot < end → IsSomeAnd (file_in is slot) IsSafe) → ((slot : ℕ) → end ≤ slot → file_in is slot ≡ file_in was slot) → AreAllSafe IsSafe is
all_made_safe IsSafe end was is first made others slot under = elim (cases_lt slot end) [
  | inl below ↦ if_there IsSafe (file_in is slot) (made slot below)
  | inr from ↦ subst (λ file. IfSome file IsSafe) (sym (others slot from)) (first slot under)
]

-- so is that of a slot that was made anew
pub all_renewed_safe : {F : Type 0} (IsSafe : F → Type 0) (slot : ℕ) (was is : List (Option F)) → AreAllSafe IsSafe was
    → IsSomeAnd (file_in is slot) IsSafe → AreOthersKept was is slot → AreAllSafe IsSafe is
all_renewed_safe IsSafe slot was is first made others other under = elim (cases_eq other slot) [
  | inl same ↦ subst (λ (k : ℕ). IfSome (file_in is k) IsSafe) (sym same) (if_there IsSafe (file_in is slot) made)
  | inr apart ↦ subst (λ file. IfSome file IsSafe) (sym (others other apart)) (first other under)
]
