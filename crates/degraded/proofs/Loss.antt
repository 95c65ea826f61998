-- The values stay where the sectors of one member are gone.
use Rattle.std.proofs.Common.{◌≡◌, ◌≢◌, ◌⊎◌, inl, inr, ℕ, ◌<◌, Bool, true, false, length, Option, Some, None, refl, sym, ◌∙◌, ap, subst, arith}
use Rattle.std.specs.Prelude.{map, unwrap_or, IsSome}
use Rattle.std.proofs.lemmas.Bool.{cases_eq}
use Rattle.sector_model.specs.History.{Bytes}
use Rattle.parity.specs.Xor.{xor_of, xor_of_all, zero_sector, IsSoundRow}
use Rattle.degraded.specs.RowValue.{Rows, others, direct_of, direct, value, row_values}
use Rattle.degraded.specs.Law.{DoesWithout, OneMemberMayGo}
use Rattle.degraded.proofs.Others.{xor_of_all-member, sector_is_xor, map-others}
use Rattle.degraded.proofs.Values.{known, from_others, value_is, value-direct, value-entry, value-own, value-known}

-- In a sound row the value of a member is the XOR of the others, where those are known directly.
pub sound_value : (rows : Rows) (row member : ℕ) → member < rows.members → IsSoundRow (row_values rows row) → length (value rows row member) ≡ 512
    → ((other : ℕ) → other < rows.members → other ≢ member → IsSome (direct rows row other)) → value rows row member ≡ from_others rows row member
sound_value rows row member within sound long is_known =
    let values = map (λ (other : ℕ). value rows row other) (others rows.members member) in
    let is_zero : xor_of (value rows row member) (xor_of_all values) ≡ zero_sector =
    sym (xor_of_all-member (λ (other : ℕ). value rows row other) member 0 rows.members (omega arith) (omega arith)) ∙ sound in
    sector_is_xor (value rows row member) values long is_zero
    ∙ ap xor_of_all (map-others (λ (other : ℕ). value rows row other) (λ (other : ℕ). known rows row other) member 0 rows.members (λ other below apart.
    value-known rows row other (is_known other (omega (arith, below)) apart)))

-- what is known of another member than the one that is gone
direct-other : (member row other : ℕ) (whole without : Rows) → DoesWithout member whole without → other < whole.members → other ≢ member
    → direct without row other ≡ direct whole row other
direct-other member row other whole without does within apart =
    ap (λ (entry : Option Bytes). direct_of entry (without.trusted row other) (without.own row other)) (does.entries row other)
    ∙ ap (λ (trusted : Bool). direct_of (whole.entry row other) trusted (without.own row other)) (does.trusts row other within apart)
    ∙ ap (λ (own : Bytes). direct_of (whole.entry row other) (whole.trusted row other) own) (does.owns row other within apart)

-- what is known of the member that is gone: an entry's sector, if there is one
direct-gone : (member row : ℕ) (whole without : Rows) → DoesWithout member whole without
    → direct without row member ≡ direct_of (whole.entry row member) false (without.own row member)
direct-gone member row whole without does =
    ap (λ (entry : Option Bytes). direct_of entry (without.trusted row member) (without.own row member)) (does.entries row member)
    ∙ ap (λ (trusted : Bool). direct_of (whole.entry row member) trusted (without.own row member)) (does.out row)

-- an entry's sector, or the XOR of the others, in place of the own sector
gone_or_own : (entry : Option Bytes) (trusted : Bool) (gone own sum : Bytes) → (direct_of entry trusted own ≡ Some own → trusted ≡ true → own ≡ sum)
    → unwrap_or (direct_of entry false gone) sum ≡ unwrap_or (direct_of entry trusted own) sum
gone_or_own (Some sector) trusted gone own sum same = refl
gone_or_own None true gone own sum same = sym (same refl refl)
gone_or_own None false gone own sum same = refl

-- The sectors of one member may go.
pub one_member_may_go : OneMemberMayGo
one_member_may_go member row_count whole without inside does sound full is_known row other below within = elim (cases_eq other member) [
  | inl same ↦ subst (λ (m : ℕ). value without row m ≡ value whole row m) (sym same) here
  | inr apart ↦ elsewhere apart
]
  where
    same_known : (m : ℕ) → m < whole.members → m ≢ member → known without row m ≡ known whole row m
    same_known m m_within apart = ap (λ (option : Option Bytes). unwrap_or option zero_sector) (direct-other member row m whole without does m_within apart)

    same_others : from_others without row member ≡ from_others whole row member
    same_others =
        ap (λ (n : ℕ). xor_of_all (map (λ (m : ℕ). known without row m) (others n member))) does.width
        ∙ ap xor_of_all (map-others (λ (m : ℕ). known without row m) (λ (m : ℕ). known whole row m) member 0 whole.members
        (λ m m_below apart. same_known m (omega (arith, m_below)) apart))

    own_is : direct whole row member ≡ Some (whole.own row member) → whole.trusted row member ≡ true → whole.own row member ≡ from_others whole row member
    own_is is trusted =
        let its_own : value whole row member ≡ whole.own row member = value-direct whole row member (whole.own row member) is in
        sym its_own ∙ sound_value whole row member inside (sound row below) (ap length its_own ∙ full row below trusted)
        (λ m m_within apart. is_known row m below m_within apart)

    here : value without row member ≡ value whole row member
    here =
        value_is without row member
        ∙ ap (λ (option : Option Bytes). unwrap_or option (from_others without row member)) (direct-gone member row whole without does)
        ∙ ap (λ (sum : Bytes). unwrap_or (direct_of (whole.entry row member) false (without.own row member)) sum) same_others
        ∙ gone_or_own (whole.entry row member) (whole.trusted row member) (without.own row member) (whole.own row member) (from_others whole row member) own_is
        ∙ sym (value_is whole row member)

    elsewhere : other ≢ member → value without row other ≡ value whole row other
    elsewhere apart =
        let is = is_known row other below within apart in
        let still : IsSome (direct without row other) =
        subst (λ (option : Option Bytes). IsSome option) (sym (direct-other member row other whole without does within apart)) is in
        value-known without row other still ∙ same_known other within apart ∙ sym (value-known whole row other is)

-- Two ways to a row that differ in one member's own sector alone, and in whether it counts.
pub record DifferInOwn (member row : ℕ) (a b : Rows) : Type 0 where
  pub width : a.members ≡ b.members
  pub entries : (other : ℕ) → other < b.members → a.entry row other ≡ b.entry row other
  pub trusts : (other : ℕ) → other < b.members → other ≢ member → a.trusted row other ≡ b.trusted row other
  pub owns : (other : ℕ) → other < b.members → other ≢ member → a.own row other ≡ b.own row other

-- what is known of the other members is the same
direct-differ : (member row other : ℕ) (a b : Rows) → DifferInOwn member row a b → other < b.members → other ≢ member → direct a row other ≡ direct b row other
direct-differ member row other a b differ within apart =
    ap (λ (entry : Option Bytes). direct_of entry (a.trusted row other) (a.own row other)) (differ.entries other within)
    ∙ ap (λ (trusted : Bool). direct_of (b.entry row other) trusted (a.own row other)) (differ.trusts other within apart)
    ∙ ap (λ (own : Bytes). direct_of (b.entry row other) (b.trusted row other) own) (differ.owns other within apart)

cases_entry : (entry : Option Bytes) → (entry ≡ None) ⊎ ((sector : Bytes) × (entry ≡ Some sector))
cases_entry None = inl refl
cases_entry (Some sector) = inr (sector, refl)

-- A member's own sector may begin to count where it is the value, and the other members are known directly.
pub own_sector_may_come : (member row : ℕ) (after before : Rows) → DifferInOwn member row after before
    → ((other : ℕ) → other < before.members → other ≢ member → IsSome (direct before row other))
    → (after.entry row member ≡ None → after.trusted row member ≡ true) → (after.entry row member ≡ None → after.own row member ≡ value before row member)
    → (other : ℕ) → other < before.members → value after row other ≡ value before row other
own_sector_may_come member row after before differ is_known counts its_own other within = elim (cases_eq other member) [
  | inl same ↦ subst (λ (m : ℕ). value after row m ≡ value before row m) (sym same) (here (omega (arith, same)) (cases_entry (after.entry row member)))
  | inr apart ↦ elsewhere apart
]
  where
    here : member < before.members → (after.entry row member ≡ None) ⊎ ((sector : Bytes) × (after.entry row member ≡ Some sector))
        → value after row member ≡ value before row member
    here inside (inl none) = value-own after row member none (counts none) ∙ its_own none
    here inside (inr (sector, is)) = value-entry after row member sector is
        ∙ sym (value-entry before row member sector (sym (differ.entries member inside) ∙ is))

    elsewhere : other ≢ member → value after row other ≡ value before row other
    elsewhere apart =
        let is = is_known other within apart in
        let same = direct-differ member row other after before differ within apart in
        value-known after row other (subst (λ (option : Option Bytes). IsSome option) (sym same) is)
        ∙ ap (λ (option : Option Bytes). unwrap_or option zero_sector) same ∙ sym (value-known before row other is)
