-- What holds of the files of slots, slot by slot, as one after another is made, or taken back.
use Rattle.std.proofs.Common.{◌≡◌, ◌≢◌, ◌∙◌, ◌<◌, ◌≤◌, ◌+◌, ℕ, ap, inl, inr, List, Option, Ok, Err, OnOk, arith, below_more, subst, sym}
use Rattle.std.proofs.lemmas.Bool.{cases_eq}
use Rattle.std.specs.Prelude.{Result}
use Rattle.std.specs.Result.{result_and}
use Rattle.device_files.specs.declared.locked.Before.{Before}
use Rattle.device_files.specs.declared.locked.Before.TheVariants.{Same}
use Rattle.device_files.specs.DeviceFiles.{AreOthersKept, before_in, file_in}

-- what holds of each file below a slot, and of its own, where each other is as it was
pub made_after : {F : Type 0} (P : ℕ → Option F → Type 0) (was is : List (Option F)) (slot : ℕ) → ((k : ℕ) → k < slot → P k (file_in was k))
    → AreOthersKept was is slot → P slot (file_in is slot) → (k : ℕ) → k < slot + 1 → P k (file_in is k)
made_after P was is slot below others here =
    below_more (λ k. P k (file_in is k)) slot
    (λ k under. let apart : k ≢ slot = omega (arith, under) in subst (P k) (sym (others k apart)) (below k under)) here

-- what holds of every file, where each but that of a slot is as it was, and it holds of that one
pub kept_at : {F : Type 0} (P : ℕ → Option F → Type 0) (was is : List (Option F)) (slot : ℕ) → ((k : ℕ) → P k (file_in was k))
    → AreOthersKept was is slot → P slot (file_in is slot) → (k : ℕ) → P k (file_in is k)
kept_at P was is slot all others here k = elim (cases_eq k slot) [
  | inl same ↦ subst (λ (j : ℕ). P j (file_in is j)) (sym same) here
  | inr apart ↦ subst (P k) (sym (others k apart)) (all k)
]

-- the files after a slot are what they were at first
pub untouched_next : {F : Type 0} (first was is : List (Option F)) (slot : ℕ) → ((k : ℕ) → slot ≤ k → file_in was k ≡ file_in first k)
    → AreOthersKept was is slot → (k : ℕ) → slot + 1 ≤ k → file_in is k ≡ file_in first k
untouched_next first was is slot beyond others k from =
    let apart : k ≢ slot = omega (arith, from) in
    let on : slot ≤ k = omega (arith, from) in
    others k apart ∙ beyond k on

-- what becomes of the files below a slot by what was noted of them becomes of its own too
pub undone_next : {F : Type 0} (P : ℕ → Before → (old new : Option F) → Type 0) (notes_first notes : List Before) (first was is : List (Option F)) (slot : ℕ)
    → notes ≡ notes_first → ((k : ℕ) → k < slot → P k (before_in notes_first k) (file_in first k) (file_in was k))
    → ((k : ℕ) → slot ≤ k → file_in was k ≡ file_in first k) → AreOthersKept was is slot
    → P slot (before_in notes slot) (file_in was slot) (file_in is slot)
    → (k : ℕ) → k < slot + 1 → P k (before_in notes_first k) (file_in first k) (file_in is k)
undone_next P notes_first notes first was is slot same below beyond others here =
    let on : slot ≤ slot = omega arith in
    made_after (λ k file. P k (before_in notes_first k) (file_in first k) file) was is slot below others
    (subst (λ (all : List Before). P slot (before_in all slot) (file_in first slot) (file_in is slot)) same
    (subst (λ file. P slot (before_in notes slot) file (file_in is slot)) (beyond slot on) here))

-- a file of which nothing was noted is as it was
pub same_next : {F : Type 0} (notes_first notes : List Before) (first was is : List (Option F)) (slot : ℕ) → notes ≡ notes_first
    → ((k : ℕ) → before_in notes_first k ≡ Same → file_in was k ≡ file_in first k)
    → ((k : ℕ) → slot ≤ k → file_in was k ≡ file_in first k) → AreOthersKept was is slot
    → (before_in notes slot ≡ Same → file_in is slot ≡ file_in was slot)
    → (k : ℕ) → before_in notes_first k ≡ Same → file_in is k ≡ file_in first k
same_next notes_first notes first was is slot same all beyond others here k none = elim (cases_eq k slot) [
  | inl at ↦
      let on : slot ≤ slot = omega arith in
      let none_here : before_in notes slot ≡ Same = ap (λ (all : List Before). before_in all slot) same ∙ ap (λ (j : ℕ). before_in notes_first j) (sym at)
      ∙ none in
      subst (λ (j : ℕ). file_in is j ≡ file_in first j) (sym at) (here none_here ∙ beyond slot on)
  | inr apart ↦ others k apart ∙ all k none
]

-- what follows where both went well, of the first fault of two
pub and_ok : {T U E : Type 0} (one : Result T E) (other : Result U E) (P Q R : Type 0) → OnOk one P → OnOk other Q → (P → Q → R) → OnOk (result_and one other) R
and_ok (Ok x) (Ok y) P Q R p q both = both p q
and_ok (Ok x) (Err y) P Q R p q both = tt
and_ok (Err x) other P Q R p q both = tt
