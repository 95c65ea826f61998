-- Images with something else in one slot.
use Rattle.std.proofs.Common.{◌≡◌, ◌≢◌, ◌⊎◌, inl, inr, ℕ, Bool, true, false, sym, ap, ◌∙◌, arith, refl, ◌==◌, cond}
use Rattle.std.proofs.Math.Path.{fun_ext}
use Rattle.std.proofs.lemmas.Bool.{cases_eq, eq-eqb}
use Rattle.std.proofs.lemmas.Bool.Decides.{nat_tests}
use Rattle.sector_model.specs.History.{Slots}
use Rattle.superblock.specs.Counted.{Content}
use Rattle.superblock.specs.Cases.{with_slot}

eqb_self : (a : ℕ) → (a == a) ≡ true
eqb_self a = eq-eqb a a refl

eqb_other : (a b : ℕ) → a ≢ b → (a == b) ≡ false
eqb_other a b ne = grind (arith, nat_tests)

cond_twice : (b : Bool) (x y z : Content) → cond b x (cond b y z) ≡ cond b x z
cond_twice true x y z = refl
cond_twice false x y z = refl

-- a slot that is put twice has what was put last
pub put_twice : (image : Slots) (slot : ℕ) (first second : Content) → with_slot (with_slot image slot first) slot second ≡ with_slot image slot second
put_twice image slot first second = fun_ext (λ d. cond_twice (d == slot) second first (image d))

-- what a slot has once it is put
pub put_there : (image : Slots) (slot : ℕ) (content : Content) → with_slot image slot content slot ≡ content
put_there image slot content = ap (λ (b : Bool). cond b content (image slot)) (eqb_self slot)

-- another slot keeps what it has
pub put_elsewhere : (image : Slots) (slot : ℕ) (content : Content) (other : ℕ) → other ≢ slot → with_slot image slot content other ≡ image other
put_elsewhere image slot content other apart = ap (λ (b : Bool). cond b content (image other)) (eqb_other other slot apart)

same_at : (image : Slots) (slot d : ℕ) → (d ≡ slot) ⊎ (d ≢ slot) → with_slot image slot (image slot) d ≡ image d
same_at image slot d (inl is) = ap (λ (k : ℕ). with_slot image slot (image slot) k) is ∙ put_there image slot (image slot) ∙ ap image (sym is)
same_at image slot d (inr apart) = put_elsewhere image slot (image slot) d apart

-- a slot that gets what it has stays
pub put_same : (image : Slots) (slot : ℕ) → with_slot image slot (image slot) ≡ image
put_same image slot = fun_ext (λ d. same_at image slot d (cases_eq d slot))
