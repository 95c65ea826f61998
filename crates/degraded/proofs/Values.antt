-- What a value depends on.
use Rattle.std.proofs.Common.{◌≡◌, ℕ, ◌+◌, ◌*◌, ◌/◌, ◌%◌, ◌<◌, Bool, true, false, List, length, Option, Some, None, refl, sym, ◌∙◌, ap, subst, arith}
use Rattle.std.specs.Prelude.{map, unwrap_or, IsSome}
use Rattle.std.specs.List.{range_with_len}
use Rattle.std.proofs.lemmas.Bool.{false≢true}
use Rattle.sector_model.specs.History.{Bytes}
use Rattle.layout_map.specs.declared.geometry.Geometry.{Geometry}
use Rattle.layout_map.specs.Placement.{rows_of, data_sectors_of, member_of_chunk, stripe_of_chunk, IsPlace}
use Rattle.layout_map.proofs.Places.{place_member_below, place_row_below}
use Rattle.parity.specs.Xor.{xor_of_all, zero_sector, IsSoundRow}
use Rattle.parity.proofs.Laws.{length-xor_of_all}
use Rattle.degraded.specs.RowValue.{Rows, others, direct_of, direct, value, row_values, AreSound, logical_value, logical_list}
use Rattle.degraded.proofs.Others.{map-others, map-range}

-- what is known of a member in a row without the others, and zero where nothing is
abbrev pub known : Rows → (row member : ℕ) → Bytes
known rows row member = unwrap_or (direct rows row member) zero_sector

-- the XOR of what is known of the others
abbrev pub from_others : Rows → (row member : ℕ) → Bytes
from_others rows row member = xor_of_all (map (λ other. known rows row other) (others rows.members member))

-- the value by its definition
pub value_is : (rows : Rows) (row member : ℕ) → value rows row member ≡ unwrap_or (direct rows row member) (from_others rows row member)
unfolding value
value_is rows row member = refl

-- what is known of a member directly is its value
pub value-direct : (rows : Rows) (row member : ℕ) (sector : Bytes) → direct rows row member ≡ Some sector → value rows row member ≡ sector
value-direct rows row member sector is = value_is rows row member ∙ ap (λ (known_here : Option Bytes). unwrap_or known_here (from_others rows row member)) is

-- a member of which nothing is known has the XOR of the others as its value
pub value-from_others : (rows : Rows) (row member : ℕ) → direct rows row member ≡ None → value rows row member ≡ from_others rows row member
value-from_others rows row member is = value_is rows row member ∙ ap (λ (known_here : Option Bytes). unwrap_or known_here (from_others rows row member)) is

unwrap_or-some : (option : Option Bytes) (a b : Bytes) → IsSome option → unwrap_or option a ≡ unwrap_or option b
unwrap_or-some (Some sector) a b is = refl
unwrap_or-some None a b is = absurd (false≢true is)

-- where a member is known directly, that is its value
pub value-known : (rows : Rows) (row member : ℕ) → IsSome (direct rows row member) → value rows row member ≡ known rows row member
value-known rows row member is = value_is rows row member ∙ unwrap_or-some (direct rows row member) (from_others rows row member) zero_sector is

-- a sector of an entry is the value
pub value-entry : (rows : Rows) (row member : ℕ) (sector : Bytes) → rows.entry row member ≡ Some sector → value rows row member ≡ sector
value-entry rows row member sector is = value-direct rows row member sector
    (ap (λ (entry : Option Bytes). direct_of entry (rows.trusted row member) (rows.own row member)) is)

-- a member's own sector is the value where it counts and no entry has one
pub value-own : (rows : Rows) (row member : ℕ) → rows.entry row member ≡ None → rows.trusted row member ≡ true → value rows row member ≡ rows.own row member
value-own rows row member none trusted =
    value-direct rows row member (rows.own row member)
    (ap (λ (entry : Option Bytes). direct_of entry (rows.trusted row member) (rows.own row member)) none
    ∙ ap (λ (t : Bool). direct_of None t (rows.own row member)) trusted)

-- without an entry's sector and an own one that counts, the value is the XOR of what is known of the others
pub value-neither : (rows : Rows) (row member : ℕ) → rows.entry row member ≡ None → rows.trusted row member ≡ false
    → value rows row member ≡ from_others rows row member
value-neither rows row member none out =
    value-from_others rows row member
    (ap (λ (entry : Option Bytes). direct_of entry (rows.trusted row member) (rows.own row member)) none
    ∙ ap (λ (t : Bool). direct_of None t (rows.own row member)) out)

length-either : (entry : Option Bytes) (trusted : Bool) (own sum : Bytes) → ((sector : Bytes) → entry ≡ Some sector → length sector ≡ 512)
    → (entry ≡ None → trusted ≡ true → length own ≡ 512) → length sum ≡ 512
    → length (unwrap_or (direct_of entry trusted own) sum) ≡ 512
length-either (Some sector) trusted own sum from_entry whole sum_whole = from_entry sector refl
length-either None true own sum from_entry whole sum_whole = whole refl refl
length-either None false own sum from_entry whole sum_whole = sum_whole

-- a value has 512 bytes where the entry's sector has, or the own one that counts
pub length-value : (rows : Rows) (row member : ℕ) → ((sector : Bytes) → rows.entry row member ≡ Some sector → length sector ≡ 512)
    → (rows.entry row member ≡ None → rows.trusted row member ≡ true → length (rows.own row member) ≡ 512) → length (value rows row member) ≡ 512
length-value rows row member from_entry whole =
    ap length (value_is rows row member)
    ∙ length-either (rows.entry row member) (rows.trusted row member) (rows.own row member) (from_others rows row member) from_entry whole
    (length-xor_of_all (map (λ (other : ℕ). known rows row other) (others rows.members member)))

-- Two ways to a row that agree in what counts: of each member the entry's sector, whether its own counts, and its own where
-- it counts and no entry has one.
pub record AgreeInRow (row : ℕ) (a b : Rows) : Type 0 where
  pub width : a.members ≡ b.members
  pub entries : (member : ℕ) → member < b.members → a.entry row member ≡ b.entry row member
  pub trusts : (member : ℕ) → member < b.members → a.trusted row member ≡ b.trusted row member
  pub owns : (member : ℕ) → member < b.members → b.entry row member ≡ None → b.trusted row member ≡ true → a.own row member ≡ b.own row member

direct_of-agree : (entry : Option Bytes) (trusted : Bool) (a b : Bytes) → (entry ≡ None → trusted ≡ true → a ≡ b)
    → direct_of entry trusted a ≡ direct_of entry trusted b
direct_of-agree (Some sector) trusted a b same = refl
direct_of-agree None true a b same = ap Some (same refl refl)
direct_of-agree None false a b same = refl

-- they know the same of each member
pub direct-agree : (row member : ℕ) (a b : Rows) → AgreeInRow row a b → member < b.members → direct a row member ≡ direct b row member
direct-agree row member a b agree within =
    ap (λ (entry : Option Bytes). direct_of entry (a.trusted row member) (a.own row member)) (agree.entries member within)
    ∙ ap (λ (trusted : Bool). direct_of (b.entry row member) trusted (a.own row member)) (agree.trusts member within)
    ∙ direct_of-agree (b.entry row member) (b.trusted row member) (a.own row member) (b.own row member) (agree.owns member within)

-- they give the same value of each member
pub value-agree : (row member : ℕ) (a b : Rows) → AgreeInRow row a b → member < b.members → value a row member ≡ value b row member
value-agree row member a b agree within =
    let same_known : map (λ other. known a row other) (others a.members member) ≡ map (λ other. known b row other) (others b.members member) =
    ap (λ (n : ℕ). map (λ (other : ℕ). known a row other) (others n member)) agree.width
    ∙ map-others (λ other. known a row other) (λ other. known b row other) member 0 b.members (λ other below apart.
    ap (λ (option : Option Bytes). unwrap_or option zero_sector) (direct-agree row other a b agree (omega (arith, below)))) in
    value_is a row member
    ∙ ap (λ (option : Option Bytes). unwrap_or option (from_others a row member)) (direct-agree row member a b agree within)
    ∙ ap (λ (sectors : List Bytes). unwrap_or (direct b row member) (xor_of_all sectors)) same_known
    ∙ sym (value_is b row member)

-- equal values of each member are equal values of the row
pub row_values-same : (row : ℕ) (a b : Rows) → a.members ≡ b.members → ((member : ℕ) → member < b.members → value a row member ≡ value b row member)
    → row_values a row ≡ row_values b row
row_values-same row a b width same =
    ap (λ (n : ℕ). map (λ (member : ℕ). value a row member) (range_with_len 0 n)) width
    ∙ map-range (λ member. value a row member) (λ member. value b row member) 0 b.members (λ member within. same member (omega (arith, within)))

-- two ways that agree give the same values of the row
pub row_values-agree : (row : ℕ) (a b : Rows) → AgreeInRow row a b → row_values a row ≡ row_values b row
row_values-agree row a b agree = row_values-same row a b agree.width (λ member within. value-agree row member a b agree within)

-- rows with the same values are as sound
pub sound-same : (row_count : ℕ) (a b : Rows) → a.members ≡ b.members
    → ((row member : ℕ) → row < row_count → member < b.members → value a row member ≡ value b row member)
    → AreSound b row_count → AreSound a row_count
sound-same row_count a b width same sound = λ row below.
    subst (λ (sectors : List Bytes). IsSoundRow sectors) (sym (row_values-same row a b width (λ member within. same row member below within))) (sound row below)

-- Where the values are the same in each row, so are the logical sectors.
pub logical_list-same : (geometry : Geometry) (a b : Rows)
    → ((row member : ℕ) → row < rows_of geometry.chunk geometry.stripes → member < geometry.members → value a row member ≡ value b row member)
    → logical_list geometry a ≡ logical_list geometry b
unfolding logical_list
logical_list-same geometry a b same =
    map-range (λ logical. logical_value geometry a logical) (λ logical. logical_value geometry b logical) 0
    (data_sectors_of geometry.members geometry.chunk geometry.stripes) (λ logical within.
    let below : logical < data_sectors_of geometry.members geometry.chunk geometry.stripes = omega (arith, within) in
    let place : IsPlace geometry.members geometry.chunk logical
    (member_of_chunk geometry.members (logical / geometry.chunk))
    (stripe_of_chunk geometry.members (logical / geometry.chunk) * geometry.chunk + logical % geometry.chunk) = record { on_member = refl; on_row = refl } in
    same (stripe_of_chunk geometry.members (logical / geometry.chunk) * geometry.chunk + logical % geometry.chunk)
    (member_of_chunk geometry.members (logical / geometry.chunk))
    (place_row_below geometry.limits below place) (place_member_below geometry.limits place))
