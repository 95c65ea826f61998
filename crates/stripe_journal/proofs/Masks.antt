-- Bits of masks, and how many sectors rows hold.
use Rattle.std.proofs.Common.{◌≡◌, ◌≢◌, ◌↔◌, IsTrue, inl, inr, ℕ, zero, suc, ◌+◌, ◌-◌, ◌*◌, ◌/◌, ◌%◌, ◌^◌, ◌<◌, ◌≤◌, Bool, true, false, cond, ◌==◌, nat_lt}
use Rattle.std.proofs.Common.{replicate, get_or, add-one, refl, sym, subst, ap, ◌∙◌, arith}
use Rattle.std.proofs.lemmas.List.{get_or-replicate, get_or_past, length-replicate}
use Rattle.std.proofs.lemmas.Nat.{leading_top, mul-le, pow_pos}
use Rattle.std.proofs.Math.Nat.{div-eq_of_lt, div-eq_of_lt-le, div-lt_iff_lt-mul, pow-le-pow_right, pow-suc, zero-div}
use Rattle.std.proofs.lemmas.Bool.{agree_below, agree_below_at, cases_lt, cases_eq, eqb-true, false≢true, lt-ltb}
use Rattle.arrayvec.specs.ArrayVec.{ArrayVec}
use Rattle.entry_runs.specs.Body.{count_held, has_bit}
use Rattle.entry_runs.proofs.Counts.{count_most}
pub use Rattle.entry_runs.proofs.Counts.{count_beyond, count_next, count_on, count_over, count_same}
use Rattle.layout_map.specs.Placement.{IsParityOf}
use Rattle.layout_map.specs.declared.geometry.Geometry.{Geometry}
use Rattle.layout_map.specs.declared.sizes.TheConstants.{ENTRY_ROWS, MOST_MEMBERS, BODY_SECTORS}
use Rattle.stripe_journal.specs.declared.form.Form.{Form}
use Rattle.stripe_journal.specs.declared.form.Form.TheVariants.{Whole}
use Rattle.stripe_journal.specs.Forms.{HoldsRow, held_before, in_body, rank}

-- the mask of all members of a set has their bits
full_mask_row : ℕ → Bool
full_mask_row fewer = agree_below (has_bit (255 / 2 ^ fewer)) (λ member. nat_lt member (8 - fewer)) 8

full_masks : agree_below full_mask_row (λ fewer. true) 8 ≡ true
unfolding full_mask_row
full_masks = refl

pub full_mask : (members member : ℕ) → 1 ≤ members → members ≤ MOST_MEMBERS → member < MOST_MEMBERS
    → has_bit (255 / 2 ^ (8 - members)) member ≡ nat_lt member members
unfolding full_mask_row
full_mask members member least most within =
    let back : 8 - (8 - members) ≡ members = omega arith in
    let row : full_mask_row (8 - members) ≡ true = agree_below_at full_mask_row (λ fewer. true) 8 (8 - members) full_masks (omega arith) in
    agree_below_at (has_bit (255 / 2 ^ (8 - members))) (λ m. nat_lt m (8 - (8 - members))) 8 member row within ∙ ap (nat_lt member) back

-- among zeros is nothing else
pub none_in_zeros : (n i : ℕ) → ◌≡◌ {A = ℕ} (get_or (replicate n 0) i 0) 0
none_in_zeros n i = elim (cases_lt i n) [
  | inl within ↦ get_or-replicate n i 0 0 within
  | inr past ↦ get_or_past (replicate n 0) i 0 (omega (arith, length-replicate {A = ℕ} n 0, past))
]

-- a number below a power of two has no bit from there on
no_bit : (mask n member : ℕ) → mask < 2 ^ n → n ≤ member → has_bit mask member ≡ false
no_bit mask n member below beyond =
    let size : 2 ^ n ≤ 2 ^ member = pow-le-pow_right {n = 2} (omega arith) {i = n} {j = member} beyond in
    let none : mask / 2 ^ member ≡ 0 = div-eq_of_lt {n = mask} {m = 2 ^ member} (omega (arith, size, below)) in
    ap (λ (q : ℕ). q % 2 == 1) none

-- a mask has bits below a number only, or one of its bits is there or above

pub bits_low : (mask n member : ℕ) → mask / 2 ^ n ≡ 0 → has_bit mask member ≡ true → member < n
bits_low mask n member none is = elim (cases_lt member n) [
  | inl below ↦ below
  | inr beyond ↦
      let one : mask < 1 * 2 ^ n = (div-lt_iff_lt-mul {k = 2 ^ n} {x = mask} {y = 1} (pow_pos n)).0 (omega (arith, none)) in
      let low : mask < 2 ^ n = omega (arith, one) in
      absurd (false≢true (sym (no_bit mask n member low beyond) ∙ is))
]

top_bit : (mask : ℕ) → 0 < mask → mask < 256 → (j : ℕ) × (has_bit mask j ≡ true) × (mask < 2 ^ suc j)
top_bit mask some byte =
    let top = leading_top 8 mask some byte in
    let double : 2 ^ suc top.0 ≡ 2 ^ top.0 * 2 = pow-suc 2 top.0 in
    let one : mask / 2 ^ top.0 ≡ 1 = div-eq_of_lt-le {k = 1} (2 ^ top.0) {m = mask} (omega (arith, top.2)) (omega (arith, top.3, double)) in
    (top.0, ap (λ (q : ℕ). q % 2 == 1) one, top.3)

pub bit_high : (mask n : ℕ) → mask < 256 → mask / 2 ^ n ≢ 0 → ((member : ℕ) → has_bit mask member ≡ true → member < n) → ⊥
bit_high mask n byte some low = elim (cases_eq mask 0) [
  | inl none ↦ some (ap (λ (m : ℕ). m / 2 ^ n) none ∙ zero-div (2 ^ n))
  | inr not_none ↦
      let top = top_bit mask (omega (arith, not_none)) byte in
      let below : top.0 < n = low top.0 top.1 in
      let size : 2 ^ suc top.0 ≤ 2 ^ n = pow-le-pow_right {n = 2} (omega arith) {i = suc top.0} {j = n} (omega (arith, below)) in
      some (div-eq_of_lt {n = mask} {m = 2 ^ n} (omega (arith, size, top.2)))
]

-- the mask of a row, by the tests of its bits
pub fits_by : (geometry : Geometry) (row mask wide parity : ℕ) (b : Bool) → wide ≡ mask → IsParityOf geometry.members geometry.chunk row parity
    → ((m : ℕ) → IsParityOf geometry.members geometry.chunk row m → m ≡ parity)
    → wide / 2 ^ geometry.members ≡ 0 → b ≡ has_bit mask parity → IsTrue b ↔ HoldsRow geometry row (has_bit mask)
fits_by geometry row mask wide parity b same is_parity only none is = (
  λ held. record {
    of_set = λ m bit. bits_low mask geometry.members m (ap (λ (k : ℕ). k / 2 ^ geometry.members) (sym same) ∙ none) bit;
    has_parity = λ m one. ap (has_bit mask) (only m one) ∙ sym is ∙ held;
  },
  λ fits. is ∙ fits.has_parity parity is_parity,
)

pub fits_not : (geometry : Geometry) (row mask wide : ℕ) → wide ≡ mask → mask < 256 → wide / 2 ^ geometry.members ≢ 0
    → IsTrue (wide / 2 ^ geometry.members == 0) ↔ HoldsRow geometry row (has_bit mask)
fits_not geometry row mask wide same byte some = (
  λ none. absurd (some (eqb-true (wide / 2 ^ geometry.members) 0 none)),
  λ fits. absurd (bit_high mask geometry.members byte (λ none. some (ap (λ (k : ℕ). k / 2 ^ geometry.members) same ∙ none)) fits.of_set),
)

-- two ways of holding the same members hold as many
pub count_agrees : (one other : ℕ → Bool) (n : ℕ) → ((m : ℕ) → m < n → one m ≡ other m) → count_held one n ≡ count_held other n
count_agrees one other zero same = refl
count_agrees one other (suc n) same =
    ap (λ (k : ℕ). k + cond (one n) 1 0) (count_agrees one other n (λ m below. same m (omega (arith, below))))
    ∙ ap (λ (b : Bool). count_held other n + cond b 1 0) (same n (omega arith))

-- how many sectors the rows before hold
pub before_most : (members : ℕ) (form : Form) (i : ℕ) → held_before members form i ≤ i * members
before_most members form zero = omega arith
before_most members form (suc i) = omega (arith, before_most members form i, count_most (in_body members form i) members)

pub before_on : (members : ℕ) (form : Form) (i : ℕ) → held_before members form (i + 1) ≡ held_before members form i
    + count_held (in_body members form i) members
before_on members form i = ap (held_before members form) (add-one i)

-- so 32 rows of 8 members are a body
pub before_few : (members : ℕ) (form : Form) (i : ℕ) → members ≤ MOST_MEMBERS → i ≤ ENTRY_ROWS → held_before members form i ≤ BODY_SECTORS
before_few members form i few most = omega (arith, before_most members form i, mul-le i members ENTRY_ROWS MOST_MEMBERS most few)

pub before_grows : (members : ℕ) (form : Form) (i j : ℕ) → i ≤ j → held_before members form i ≤ held_before members form j
before_grows members form i zero within = let same : i ≡ zero =
    omega (arith, within) in subst (λ (k : ℕ). held_before members form k ≤ held_before members form zero) (sym same) (omega arith)
before_grows members form i (suc j) within = elim (cases_eq i (suc j)) [
  | inl same ↦ subst (λ (k : ℕ). held_before members form k ≤ held_before members form (suc j)) (sym same) (omega arith)
  | inr other ↦ omega (arith, before_grows members form i j (omega (arith, within, other)))
]

-- a sector that is held stands before the rows after it
pub rank_before : (members : ℕ) (form : Form) (i member j : ℕ) → in_body members form i member ≡ true → member < members → i < j
    → rank members form i member < held_before members form j
rank_before members form i member j is within below =
    omega (arith, count_beyond (in_body members form i) member members is within, before_grows members form (suc i) j (omega (arith, below)))

-- two places in a body are those of one member in one row

rank_apart : (members : ℕ) (form : Form) (i member i' member' : ℕ) → in_body members form i member ≡ true → member < members → i < i'
    → rank members form i member ≢ rank members form i' member'
rank_apart members form i member i' member' is within below same = omega (arith, same, rank_before members form i member i' is within below)

count_apart : (held : ℕ → Bool) (m n : ℕ) → held m ≡ true → m < n → count_held held m ≢ count_held held n
count_apart held m n is below same = omega (arith, same, count_beyond held m n is below)

same_member : (held : ℕ → Bool) (m n : ℕ) → held m ≡ true → held n ≡ true → count_held held m ≡ count_held held n → m ≡ n
same_member held m n is is' same = elim (cases_lt m n) [
  | inl below ↦ absurd (count_apart held m n is below same)
  | inr beyond ↦ elim (cases_lt n m) [
    | inl below ↦ absurd (count_apart held n m is' below (sym same))
    | inr both ↦ omega (arith, beyond, both)
  ]
]

pub one_rank : (members : ℕ) (form : Form) (i member i' member' : ℕ) → in_body members form i member ≡ true → in_body members form i' member' ≡ true
    → member < members → member' < members
    → rank members form i member ≡ rank members form i' member' → (i ≡ i') × (member ≡ member')
one_rank members form i member i' member' is is' within within' same = elim (cases_lt i i') [
  | inl below ↦ absurd (rank_apart members form i member i' member' is within below same)
  | inr beyond ↦ elim (cases_lt i' i) [
    | inl below ↦ absurd (rank_apart members form i' member' i member is' within' below (sym same))
    | inr both ↦
        let one : i ≡ i' = omega (arith, beyond, both) in
        let there : rank members form i' member ≡ rank members form i' member' = ap (λ (k : ℕ). rank members form k member) (sym one) ∙ same in
        let here : in_body members form i' member ≡ true = ap (λ (k : ℕ). in_body members form k member) (sym one) ∙ is in
        (one, same_member (in_body members form i') member member' here is' (omega (arith, there)))
  ]
]

-- a whole row holds all members

pub count_all : (members n : ℕ) → n ≤ members → count_held (λ m. nat_lt m members) n ≡ n
count_all members zero few = refl
count_all members (suc n) few =
    count_next (λ m. nat_lt m members) n (lt-ltb n members (omega (arith, few))) ∙ omega (arith, count_all members n (omega (arith, few)))

pub before_all : (rows : ArrayVec ℕ) (members i : ℕ) → held_before members (Whole rows) i ≡ i * members
before_all rows members zero = omega arith
before_all rows members (suc i) = omega (arith, before_all rows members i, count_all members members (omega arith))

pub rank_whole : (rows : ArrayVec ℕ) (members i member : ℕ) → member ≤ members → rank members (Whole rows) i member ≡ i * members + member
rank_whole rows members i member few = omega (arith, before_all rows members i, count_all members member few)

-- two forms that hold the same of a set's members have the same places

pub before_agrees : (members : ℕ) (one other : Form) (i : ℕ) → ((k m : ℕ) → k < i → m < members → in_body members one k m ≡ in_body members other k m)
    → held_before members one i ≡ held_before members other i
before_agrees members one other zero same = refl
before_agrees members one other (suc i) same =
    ap (λ (k : ℕ). k + count_held (in_body members one i) members) (before_agrees members one other i (λ k m below. same k m (omega (arith, below))))
    ∙ ap (λ (n : ℕ). held_before members other i + n) (count_agrees (in_body members one i) (in_body members other i) members (λ m. same i m (omega arith)))

pub rank_agrees : (members : ℕ) (one other : Form) (i member : ℕ) → ((k m : ℕ) → k ≤ i → m < members → in_body members one k m ≡ in_body members other k m)
    → member ≤ members
    → rank members one i member ≡ rank members other i member
rank_agrees members one other i member same within =
    ap (λ (k : ℕ). k + count_held (in_body members one i) member) (before_agrees members one other i (λ k m below. same k m (omega (arith, below))))
    ∙ ap (λ (n : ℕ). held_before members other i + n) (count_agrees (in_body members one i) (in_body members other i) member
    (λ m below. same i m (omega arith) (omega (arith, below, within))))
