-- Which table the images of a moment of a publish choose.
use Rattle.std.proofs.Common.{◌≡◌, ◌≢◌, ◌⊎◌, inl, inr, ℕ, zero, suc, ◌+◌, ◌<◌, ◌≤◌, Bool, true, false, cond, List, [], length, refl, sym, ◌∙◌, ap, subst, arith}
use Rattle.std.proofs.Common.{◌==◌}
use Rattle.std.proofs.Math.Path.{fun_ext}
use Rattle.std.proofs.lemmas.Bool.{cases_eq, cases_lt, eq-eqb, eqb-false, eqb-true}
use Rattle.std.proofs.lemmas.List.{get_or_past}
use Rattle.sector_model.specs.History.{History, MayLeave, SlotMayHold, Slots, disk_of}
use Rattle.sector_model.proofs.Replay.{eqb_other}
use Rattle.superblock.specs.declared.table.Superblock.{Superblock}
use Rattle.superblock.specs.declared.table.Table.{Table}
use Rattle.superblock.specs.Cases.{with_slot}
use Rattle.superblock.specs.Counted.{Content, Counts, IsChosen}
use Rattle.superblock.specs.Publishing.{place_of}
use Rattle.superblock.proofs.Spelled.{length-superblock_sector}

-- the first number with Q, where each has P or Q

pub record IsFirstWith (P Q : ℕ → Type 0) (n : ℕ) : Type 0 where
  pub at : ℕ
  pub below : at < n
  pub is : Q at
  pub before : (d : ℕ) → d < at → P d

pub find_first : (P Q : ℕ → Type 0) (n : ℕ) → ((d : ℕ) → d < n → P d ⊎ Q d) → ((d : ℕ) → d < n → P d) ⊎ IsFirstWith P Q n
find_first P Q zero each = inl (λ d lt. absurd (omega (arith, lt)))
find_first P Q (suc n) each = elim (find_first P Q n (λ d lt. each d (omega (arith, lt)))) [
  | inl all ↦ elim (each n (omega arith)) [
    | inl here ↦ inl (λ d lt. elim (cases_eq d n) [
      | inl same ↦ subst P (sym same) here
      | inr other ↦ all d (omega (arith, lt, other))
    ])
    | inr here ↦ inr record { at = n; below = omega arith; is = here; before = all }
  ]
  | inr first ↦ inr record { at = first.at; below = omega (arith, first.below); is = first.is; before = first.before }
]

-- images with something else in one slot

pub with_here : (image : Slots) (slot : ℕ) (content : Content) → with_slot image slot content slot ≡ content
with_here image slot content = ap (λ (b : Bool). cond b content (image slot)) (eq-eqb slot slot refl)

pub with_there : (image : Slots) (slot : ℕ) (content : Content) (d : ℕ) → d ≢ slot → with_slot image slot content d ≡ image d
with_there image slot content d apart = ap (λ (b : Bool). cond b content (image d)) (eqb_other d slot apart)

pub with_left : (h : History) (image : Slots) (slot : ℕ) (content : Content) → ((d : ℕ) → d ≢ slot → SlotMayHold h d (image d)) → SlotMayHold h slot content
    → MayLeave h (with_slot image slot content)
with_left h image slot content each here d = by_case (d == slot) refl
  where
    by_case : (b : Bool) → (d == slot) ≡ b → SlotMayHold h d (cond b content (image d))
    by_case true is = subst (λ (k : ℕ). SlotMayHold h k content) (sym (eqb-true d slot is)) here
    by_case false is = each d (eqb-false d slot is)

-- the same slot twice
pub with_twice : (image : Slots) (slot : ℕ) (first second : Content) → with_slot (with_slot image slot first) slot second ≡ with_slot image slot second
with_twice image slot first second = fun_ext (λ d. by_case d (d == slot))
  where
    by_case : (d : ℕ) (b : Bool) → cond b second (cond b first (image d)) ≡ cond b second (image d)
    by_case d true = refl
    by_case d false = refl

-- what already stands there
pub with_same : (image : Slots) (slot : ℕ) (content : Content) → image slot ≡ content → with_slot image slot content ≡ image
with_same image slot content is = fun_ext (λ d. by_case d (d == slot) refl)
  where
    by_case : (d : ℕ) (b : Bool) → (d == slot) ≡ b → cond b content (image d) ≡ image d
    by_case d true at = sym is ∙ ap image (sym (eqb-true d slot at))
    by_case d false at = refl

-- a superblock counts in a sector that is there
pub counts_within : (id : List ℕ) (devices d : ℕ) (content : Content) (at : ℕ) (s : Superblock) → Counts id devices d content at s
    → at < length (disk_of content)
counts_within id devices d content at s counts = elim (cases_lt at (length (disk_of content))) [
  | inl lt ↦ lt
  | inr past ↦ absurd (omega (arith, ap length (sym (get_or_past (disk_of content) at [] past) ∙ counts.stands), length-superblock_sector s))
]

-- all that counts in a slot is older than the table
pub record IsOldIn (devices : ℕ) (table : Table) (d : ℕ) (content : Content) : Type 0 where
  pub older : (at : ℕ) (s : Superblock) → Counts table.id devices d content at s → s.table.generation < table.generation

-- the table's superblock counts in a slot, and nothing newer does
pub record IsNewIn (devices : ℕ) (table : Table) (d : ℕ) (content : Content) : Type 0 where
  pub superblock : Superblock
  pub counted : Counts table.id devices d content (place_of table) superblock
  pub carried : superblock.table ≡ table
  pub most : (at : ℕ) (s : Superblock) → Counts table.id devices d content at s → s.table.generation ≤ table.generation

as_new : (devices : ℕ) (table : Table) (d : ℕ) (content : Content) → IsNewIn devices table d content → IsOldIn devices table d content → ⊥
as_new devices table d content new old = omega (arith, old.older (place_of table) new.superblock new.counted, ap (λ (t : Table). t.generation) new.carried)

-- where one slot has the table's superblock, the table is chosen
pub choose_new : (devices : ℕ) (table : Table) (image : Slots) → ((d : ℕ) → IsOldIn devices table d (image d) ⊎ IsNewIn devices table d (image d)) → (k : ℕ)
    → IsNewIn devices table k (image k)
    → IsChosen table.id devices image table
choose_new devices table image each k new = elim (find_first Old New (k + 1) (λ d lt. each d)) [
  | inl all ↦ absurd (as_new devices table k (image k) new (all k (omega arith)))
  | inr found ↦ record {
    slot = found.at;
    place = place_of table;
    best = found.is.superblock;
    counted = found.is.counted;
    carried = found.is.carried;
    greatest = λ other at s counts. elim (each other) [
      | inl is ↦ omega (arith, is.older at s counts)
      | inr is ↦ is.most at s counts
    ];
    first = λ other at s counts same. elim (cases_lt other found.at) [
      | inl lower ↦ absurd (omega (arith, same, (found.before other lower).older at s counts))
      | inr beyond ↦ beyond
    ];
  }
]
  where
    Old : ℕ → Type 0
    Old d = IsOldIn devices table d (image d)

    New : ℕ → Type 0
    New d = IsNewIn devices table d (image d)
