-- Copies of what stands in slots.
use Rattle.std.proofs.Common.{Option, None, Some, is_none, is_some, not, below_more, ◌≡◌, ◌⊎◌, inl, inr, ℕ, zero, suc, ◌+◌, ◌<◌, ◌≤◌, Bool, true, false, List}
use Rattle.std.proofs.Common.{[], ◌∷◌, ◌++◌, length, get_or, refl, sym, ◌∙◌, ap, subst, arith}
use Rattle.std.proofs.lemmas.List.{get_or_past}
use Rattle.sector_model.specs.History.{IsSector, disk_of}
use Rattle.sector_model.specs.Memory.{Disk, sectors_in, slots_of, contents_of, down_at, AreSectors, AreCopies, AreAbsences}

pub contents-push : (disks : List Disk) (disk : Disk) (d : ℕ) → d < length disks → contents_of (disks ++ disk ∷ []) d ≡ contents_of disks d
contents-push [] disk d within = absurd (omega arith)
contents-push (first ∷ disks) disk zero within = refl
contents-push (first ∷ disks) disk (suc d) within = contents-push disks disk d (omega arith)

pub contents-push_last : (disks : List Disk) (disk : Disk) (d : ℕ) → d ≡ length disks → contents_of (disks ++ disk ∷ []) d ≡ disk.items
contents-push_last [] disk zero is = refl
contents-push_last [] disk (suc d) is = absurd (omega arith)
contents-push_last (first ∷ disks) disk zero is = absurd (omega arith)
contents-push_last (first ∷ disks) disk (suc d) is = contents-push_last disks disk d (omega arith)

pub down_at-push : (flags : List Bool) (flag : Bool) (d : ℕ) → d < length flags → down_at (flags ++ flag ∷ []) d ≡ down_at flags d
down_at-push [] flag d within = absurd (omega arith)
down_at-push (first ∷ flags) flag zero within = refl
down_at-push (first ∷ flags) flag (suc d) within = down_at-push flags flag d (omega arith)

pub down_at-push_last : (flags : List Bool) (flag : Bool) (d : ℕ) → d ≡ length flags → down_at (flags ++ flag ∷ []) d ≡ flag
down_at-push_last [] flag zero is = refl
down_at-push_last [] flag (suc d) is = absurd (omega arith)
down_at-push_last (first ∷ flags) flag zero is = absurd (omega arith)
down_at-push_last (first ∷ flags) flag (suc d) is = down_at-push_last flags flag d (omega arith)

pub contents_past : (disks : List Disk) (d : ℕ) → length disks ≤ d → contents_of disks d ≡ []
contents_past [] d past = refl
contents_past (first ∷ disks) zero past = absurd (omega arith)
contents_past (first ∷ disks) (suc d) past = contents_past disks d (omega arith)

pub contents_at : (disks : List Disk) (slot : ℕ) (disk : Disk) → slot < length disks → disk ≡ get_or disks slot disk → contents_of disks slot ≡ disk.items
contents_at [] slot disk within is = absurd (omega arith)
contents_at (first ∷ disks) zero disk within is = ap (λ (d : Disk). d.items) (sym is)
contents_at (first ∷ disks) (suc slot) disk within is = contents_at disks slot disk (omega arith) is

pub slots_past : (slots : List (Option Disk)) (d : ℕ) → length slots ≤ d → slots_of slots d ≡ None
slots_past [] d past = refl
slots_past (first ∷ slots) zero past = absurd (omega arith)
slots_past (first ∷ slots) (suc d) past = slots_past slots d (omega arith)

pub slots_at : (slots : List (Option Disk)) (slot : Option Disk) (d : ℕ) → d < length slots → slot ≡ get_or slots d slot → slots_of slots d ≡ sectors_in slot
slots_at [] slot d within is = absurd (omega arith)
slots_at (first ∷ slots) slot zero within is = ap sectors_in (sym is)
slots_at (first ∷ slots) slot (suc d) within is = slots_at slots slot d (omega arith) is

-- one slot more
pub copies_more : (n : ℕ) (slots : List (Option Disk)) (disks : List Disk) (slot : Option Disk) (disk : Disk) → AreCopies n slots disks → n ≡ length disks
    → n < length slots
    → slot ≡ get_or slots n slot → disk.items ≡ disk_of (sectors_in slot) → AreSectors disk.items → AreCopies (n + 1) slots (disks ++ disk ∷ [])
copies_more n slots disks slot disk copies as_many within is holds whole = record {
  each = below_more _ _ (λ d lt. contents-push disks disk d (omega (arith, as_many, lt)) ∙ copies.each d lt)
      (contents-push_last disks disk n as_many ∙ holds ∙ ap disk_of (sym (slots_at slots slot n within is)));
  whole = below_more _ _ (λ d lt. subst AreSectors (sym (contents-push disks disk d (omega (arith, as_many, lt)))) (copies.whole d lt))
      (subst AreSectors (sym (contents-push_last disks disk n as_many)) whole);
}

is_none-sectors : (flag : Bool) (slot : Option Disk) → not flag ≡ is_some slot → flag ≡ is_none (sectors_in slot)
is_none-sectors true None is = refl
is_none-sectors false None is = absurd (cc)
is_none-sectors true (Some disk) is = absurd (cc)
is_none-sectors false (Some disk) is = refl

pub absences_more : (n : ℕ) (slots : List (Option Disk)) (flags : List Bool) (slot : Option Disk) (flag : Bool) → AreAbsences n slots flags → n ≡ length flags
    → n < length slots
    → slot ≡ get_or slots n slot → not flag ≡ is_some slot → AreAbsences (n + 1) slots (flags ++ flag ∷ [])
absences_more n slots flags slot flag absences as_many within is absent = record {
  each = below_more _ _ (λ d lt. down_at-push flags flag d (omega (arith, as_many, lt)) ∙ absences.each d lt)
      (down_at-push_last flags flag n as_many ∙ is_none-sectors flag slot absent ∙ ap is_none (sym (slots_at slots slot n within is)));
}

pub le_or_lt : (n d : ℕ) → (n ≤ d) ⊎ (d < n)
le_or_lt n d = grind arith

-- the same of all slots
pub all_copied : (slots : List (Option Disk)) (disks : List Disk) → AreCopies (length slots) slots disks → length disks ≡ length slots → (d : ℕ)
    → contents_of disks d ≡ disk_of (slots_of slots d)
all_copied slots disks copies as_many d = elim (le_or_lt (length slots) d) [
  | inl past ↦ contents_past disks d (omega (arith, as_many, past)) ∙ ap disk_of (sym (slots_past slots d past))
  | inr lt ↦ copies.each d lt
]

pub all_whole : (slots : List (Option Disk)) (disks : List Disk) → AreCopies (length slots) slots disks → length disks ≡ length slots → (d a : ℕ)
    → a < length (contents_of disks d) → IsSector (get_or (contents_of disks d) a [])
all_whole slots disks copies as_many d a within = elim (le_or_lt (length slots) d) [
  | inl past ↦ absurd (omega (arith, ap length (contents_past disks d (omega (arith, as_many, past))), within))
  | inr lt ↦ (copies.whole d lt).each a within
]

pub all_absent : (slots : List (Option Disk)) (flags : List Bool) → AreAbsences (length slots) slots flags → length flags ≡ length slots → (d : ℕ)
    → down_at flags d ≡ is_none (slots_of slots d)
all_absent slots flags absences as_many d = elim (le_or_lt (length slots) d) [
  | inl past ↦ get_or_past flags d true (omega (arith, as_many, past)) ∙ ap is_none (sym (slots_past slots d past))
  | inr lt ↦ absences.each d lt
]
