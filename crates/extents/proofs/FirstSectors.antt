-- The first sector of a table.
use Rattle.std.proofs.Common.{◌≡◌, ℕ, ◌+◌, ◌-◌, ◌<◌, ◌≤◌, Bool, cond, eqb, Option, Some, None, List, [], ◌∷◌, length, drop, set, get_or, refl, ap, subst, sym}
use Rattle.std.proofs.Common.{◌∙◌, arith}
use Rattle.std.specs.Prelude.{IfSome}
use Rattle.std.proofs.lemmas.Bool.{eqb-true, le-leb, leb-true, ne_eqb}
use Rattle.layout_map.specs.declared.format.Format.{Format}
use Rattle.layout_map.specs.declared.format.Format.TheVariants.{One, Two}
use Rattle.extents.specs.TableSpelling.{zeros, first_sector}
use Rattle.extents.specs.Versions.{IsBegunBy, IsVersionIn, version_byte}
use Rattle.extents.proofs.Bytes.{length-zeros, drop-zeros}

-- what its first byte says
pub first_byte : (bytes : List ℕ) (version : ℕ) → bytes ≡ first_sector version → get_or bytes 0 0 ≡ version_byte version
unfolding first_sector
first_byte bytes version is = ap (λ (xs : List ℕ). get_or xs 0 0) is

-- what is after that
pub past_first : (bytes : List ℕ) (version : ℕ) → bytes ≡ first_sector version → drop 1 bytes ≡ zeros 511
unfolding first_sector
past_first bytes version is = ap (drop 1) is

-- a byte with zeros after it
pub first_spelled : (bytes : List ℕ) (version : ℕ) → length bytes ≡ 512 → drop 1 bytes ≡ zeros 511 → get_or bytes 0 0 ≡ version_byte version
    → bytes ≡ first_sector version
unfolding first_sector
first_spelled [] version long rest is = absurd (omega arith)
first_spelled (byte ∷ bytes) version long rest is = ap (λ (xs : List ℕ). byte ∷ xs) rest ∙ ap (λ (b : ℕ). b ∷ zeros 511) is

pub length-first_sector : (version : ℕ) → length (first_sector version) ≡ 512
unfolding first_sector
length-first_sector version = let long = length-zeros 511 in omega arith

-- the byte of the versions that don't tell dirty extents
pub byte_of_small : (version : ℕ) → version ≤ 2 → version_byte version ≡ version - 1
unfolding version_byte
byte_of_small version small = ap (λ (b : Bool). cond b 0 (version - 1)) (ne_eqb version 3 (λ same. omega (arith, small, same)))

-- and of the one that does
pub byte_of_large : (version : ℕ) → version ≡ 3 → version_byte version ≡ 0
unfolding version_byte
byte_of_large version is = ap (λ (n : ℕ). cond (eqb n 3) 0 (n - 1)) is

-- the byte tells the version
pub version_is_one : (format : Format) (first second : ℕ) → IsVersionIn format first → IsVersionIn format second → version_byte first ≡ version_byte second
    → first ≡ second
version_is_one One first second one other same =
    let small = leb-true first 2 one.1 in
    let other_small = leb-true second 2 other.1 in
    omega (arith, one.0.0, other.0.0, same, byte_of_small first small, byte_of_small second other_small)
version_is_one Two first second one other same = eqb-true first 3 one.1 ∙ sym (eqb-true second 3 other.1)

-- what a byte begins in a set of format 1
pub begins_small : (format : Format) (byte : ℕ) → format ≡ One → byte < 2 → IsBegunBy format byte (byte + 1)
begins_small format byte one small = subst (λ (f : Format). IsBegunBy f byte (byte + 1)) (sym one) (
  ((omega arith, omega (arith, small)), le-leb (byte + 1) 2 (omega (arith, small))),
  omega (arith, byte_of_small (byte + 1) (omega (arith, small))),
)

pub small_is : (format : Format) (byte version : ℕ) → format ≡ One → IsBegunBy format byte version
    → (1 ≤ version) × (version ≤ 2) × (byte ≡ version - 1)
small_is format byte version one is =
    let of_one : IsBegunBy One byte version = subst (λ (f : Format). IsBegunBy f byte version) one is in
    let small = leb-true version 2 of_one.0.1 in
    (of_one.0.0.0, small, of_one.1 ∙ byte_of_small version small)

-- and in one of format 2
pub begins_large : (format : Format) (byte : ℕ) → format ≡ Two → byte ≡ 0 → IsBegunBy format byte 3
begins_large format byte two none = subst (λ (f : Format). IsBegunBy f byte 3) (sym two) (
  ((omega arith, omega arith), refl),
  none ∙ sym (byte_of_large 3 refl),
)

pub large_is : (format : Format) (byte version : ℕ) → format ≡ Two → IsBegunBy format byte version → (version ≡ 3) × (byte ≡ 0)
large_is format byte version two is =
    let of_two : IsBegunBy Two byte version = subst (λ (f : Format). IsBegunBy f byte version) two is in
    let large = eqb-true version 3 of_two.0.1 in
    (large, of_two.1 ∙ byte_of_large version large)

-- a version whose tables begin with a byte is that of a sector of it and zeros
pub begun : (format : Format) (bytes : List ℕ) (read : Option ℕ) → length bytes ≡ 512 → drop 1 bytes ≡ zeros 511
    → IfSome read (IsBegunBy format (get_or bytes 0 0)) → IfSome read (λ version. IsVersionIn format version × (bytes ≡ first_sector version))
begun format bytes None long rest is = is
begun format bytes (Some version) long rest is = (is.0, first_spelled bytes version long rest is.1)

-- what is written over zeros
pub first_written : (bytes : List ℕ) (version : ℕ) → bytes ≡ zeros 512 → set bytes 0 (version_byte version) ≡ first_sector version
unfolding first_sector
first_written [] version is = absurd (omega (arith, ap length is, length-zeros 512))
first_written (byte ∷ bytes) version is = ap (λ (xs : List ℕ). version_byte version ∷ xs) (ap (drop 1) is ∙ drop-zeros 1 512)
