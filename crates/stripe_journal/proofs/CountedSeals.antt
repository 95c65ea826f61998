-- Which seals count in a journal of an image, and which of them is the last.
use Rattle.std.proofs.Common.{◌≡◌, ◌≢◌, ◌↔◌, ◌⊎◌, Bool, IsTrue, inl, inr, ℕ, ◌+◌, ◌%◌, ◌≤◌, List, [], length, refl, subst, sym, ap, ◌∙◌, arith, Option, Some}
use Rattle.std.proofs.Common.{None}
use Rattle.std.specs.Prelude.{IfSome, IsNone}
use Rattle.std.proofs.lemmas.Bool.{cases_lt, cases_eq, cond_below, cond_above}
use Rattle.std.proofs.lemmas.List.{get_or_past}
use Rattle.layout_map.specs.declared.sizes.TheConstants.{FIRST_SEAL, HALVES}
use Rattle.layout_map.specs.declared.geometry.Geometry.{Geometry}
use Rattle.sector_model.specs.History.{Bytes, disk_of, sector_of}
use Rattle.stripe_journal.specs.Forms.{format_of, rows_in}
use Rattle.stripe_journal.specs.declared.seal.Seal.{Seal}
use Rattle.stripe_journal.specs.LastEntry.{Counts, CountsNone, IsLastSealed, later_of}
use Rattle.stripe_journal.specs.LastSealed.{AreBelow, Belongs, RowsHold}
use Rattle.stripe_journal.specs.Spelling.{seal_sector}
use Rattle.stripe_journal.proofs.Spellings.{length-seal_sector, one_spelled}

abbrev Content : Type 0
Content = Option (List Bytes)

-- a seal belongs in a place where its rows and what its entry holds fit the set
pub belongs_by : (id : List ℕ) (geometry : Geometry) (place : ℕ) (seal : Seal) (b : Bool) → seal.id ≡ id → seal.number % HALVES ≡ place
    → format_of seal.form ≡ geometry.format
    → IsTrue b ↔ (AreBelow geometry (rows_in seal.form) × RowsHold geometry seal.form (rows_in seal.form)) → IsTrue b ↔ Belongs id geometry place seal
belongs_by id geometry place seal b of_set own_place of_format fits = (
  λ is. record { of_set = of_set; of_format = of_format; own_place = own_place; below = (fits.0 is).0; held = (fits.0 is).1 },
  λ belongs. fits.1 (belongs.below, belongs.held),
)

-- no bytes spell no seal
pub nothing_spells : (seal : Seal) → [] ≢ seal_sector seal
nothing_spells seal is = omega (arith, ap length is, length-seal_sector seal)

-- two seals of sets with ids of 16 bytes that are spelled alike are one
pub one_seal : (first second : Seal) → length first.id ≡ 16 → seal_sector first ≡ seal_sector second → first ≡ second
one_seal first second long same =
    let full : length (seal_sector first) ≡ 512 = omega (arith, length-seal_sector first) in
    one_spelled (seal_sector first) first second full refl same

-- the seal that a sector of a journal was found to spell
pub counted_there : (id : List ℕ) (geometry : Geometry) (place : ℕ) (content : Content) (sector : Bytes) (seal : Seal)
    → sector ≡ sector_of (disk_of content) (FIRST_SEAL + place)
    → sector ≡ seal_sector seal → Belongs id geometry place seal → Counts id geometry content place seal
counted_there id geometry place content sector seal is spells belongs = record { stands = sym is ∙ spells; belongs = belongs }

pub none_counted_there : (id : List ℕ) (geometry : Geometry) (place : ℕ) (content : Content) (sector : Bytes)
    → sector ≡ sector_of (disk_of content) (FIRST_SEAL + place)
    → ((seal : Seal) → sector ≡ seal_sector seal → ¬ Belongs id geometry place seal) → CountsNone id geometry content place
none_counted_there id geometry place content sector is none seal counts = none seal (is ∙ counts.stands) counts.belongs

-- no seal counts after the last sector
pub none_beyond_last : (id : List ℕ) (geometry : Geometry) (place : ℕ) (disk : List Bytes) → length disk ≤ FIRST_SEAL + place
    → CountsNone id geometry (Some disk) place
none_beyond_last id geometry place disk past seal counts = nothing_spells seal (sym (get_or_past disk (FIRST_SEAL + place) [] past) ∙ counts.stands)

-- nor where there is no device
pub none_in_nothing : (id : List ℕ) (geometry : Geometry) (place : ℕ) → CountsNone id geometry None place
none_in_nothing id geometry place seal counts = nothing_spells seal counts.stands

-- one seal counts in a place
pub one_counted : (id : List ℕ) (geometry : Geometry) (content : Content) (place : ℕ) (first second : Seal) → length id ≡ 16
    → Counts id geometry content place first → Counts id geometry content place second → first ≡ second
one_counted id geometry content place first second long is_first is_second =
    one_seal first second (ap length is_first.belongs.of_set ∙ long) (sym is_first.stands ∙ is_second.stands)

-- there are two places
two_places : (number place : ℕ) → number % HALVES ≡ place → (place ≡ 0) ⊎ (place ≡ 1)
two_places number place is = elim (cases_eq place 0) [
  | inl first ↦ inl first
  | inr other ↦ inr (omega arith)
]

in_two : (id : List ℕ) (geometry : Geometry) (content : Content) (most : ℕ)
    → ((s : Seal) → Counts id geometry content 0 s → s.number ≤ most)
    → ((s : Seal) → Counts id geometry content 1 s → s.number ≤ most)
    → (place : ℕ) (s : Seal) → Counts id geometry content place s → s.number ≤ most
in_two id geometry content most first second place s counts = elim (two_places s.number place counts.belongs.own_place) [
  | inl is ↦ first s (subst (λ (at : ℕ). Counts id geometry content at s) is counts)
  | inr is ↦ second s (subst (λ (at : ℕ). Counts id geometry content at s) is counts)
]

-- the seal that counts in a place, or that there is none
abbrev pub CountedAt : List ℕ → Geometry → Content → ℕ → Option Seal → Type 0
CountedAt id geometry content place None = CountsNone id geometry content place
CountedAt id geometry content place (Some seal) = Counts id geometry content place seal

counted_at : (id : List ℕ) (geometry : Geometry) (content : Content) (place : ℕ) (found : Option Seal)
    → IfSome found (λ s. Counts id geometry content place s) → (IsNone found → CountsNone id geometry content place)
    → CountedAt id geometry content place found
counted_at id geometry content place None some none = none refl
counted_at id geometry content place (Some s) some none = some

at_most : (id : List ℕ) (geometry : Geometry) (content : Content) (place most : ℕ) (one other : Seal) → length id ≡ 16
    → Counts id geometry content place one → one.number ≤ most → Counts id geometry content place other → other.number ≤ most
at_most id geometry content place most one other long is_one below is_other =
    let same : one.number ≡ other.number = ap (λ (s : Seal). s.number) (one_counted id geometry content place one other long is_one is_other) in
    omega arith

-- the later of those in the two places is the last
last_of_two : (id : List ℕ) (geometry : Geometry) (content : Content) (even odd : Option Seal) → length id ≡ 16
    → CountedAt id geometry content 0 even → CountedAt id geometry content 1 odd → IsLastSealed id geometry content (later_of even odd)
last_of_two id geometry content None None long none_even none_odd = λ place s counts. elim (two_places s.number place counts.belongs.own_place) [
  | inl is ↦ none_even s (subst (λ (at : ℕ). Counts id geometry content at s) is counts)
  | inr is ↦ none_odd s (subst (λ (at : ℕ). Counts id geometry content at s) is counts)
]
last_of_two id geometry content None (Some b) long none_even is_odd = record {
  place = 1;
  counted = is_odd;
  greatest = in_two id geometry content b.number
      (λ s counts. absurd (none_even s counts))
      (λ s counts. at_most id geometry content 1 b.number b s long is_odd (omega arith) counts);
}
last_of_two id geometry content (Some a) None long is_even none_odd = record {
  place = 0;
  counted = is_even;
  greatest = in_two id geometry content a.number
      (λ s counts. at_most id geometry content 0 a.number a s long is_even (omega arith) counts)
      (λ s counts. absurd (none_odd s counts));
}
last_of_two id geometry content (Some a) (Some b) long is_even is_odd = elim (cases_lt a.number b.number) [
  | inl below ↦ subst (λ (o : Option Seal). IsLastSealed id geometry content o) (cond_below a.number b.number (Some b) (Some a) below)
      record {
        place = 1;
        counted = is_odd;
        greatest = in_two id geometry content b.number
            (λ s counts. at_most id geometry content 0 b.number a s long is_even (omega arith) counts)
            (λ s counts. at_most id geometry content 1 b.number b s long is_odd (omega arith) counts);
      }
  | inr above ↦ subst (λ (o : Option Seal). IsLastSealed id geometry content o) (cond_above a.number b.number (Some b) (Some a) (Some a) above refl)
      record {
        place = 0;
        counted = is_even;
        greatest = in_two id geometry content a.number
            (λ s counts. at_most id geometry content 0 a.number a s long is_even (omega arith) counts)
            (λ s counts. at_most id geometry content 1 a.number b s long is_odd (omega arith) counts);
      }
]

pub last_is : (id : List ℕ) (geometry : Geometry) (content : Content) (even odd found : Option Seal) → length id ≡ 16
    → IfSome even (λ s. Counts id geometry content 0 s) → (IsNone even → CountsNone id geometry content 0)
    → IfSome odd (λ s. Counts id geometry content 1 s) → (IsNone odd → CountsNone id geometry content 1)
    → found ≡ later_of even odd → IsLastSealed id geometry content found
last_is id geometry content even odd found long some_even none_even some_odd none_odd is =
    subst (λ (o : Option Seal). IsLastSealed id geometry content o) (sym is) (last_of_two id geometry content even odd long
    (counted_at id geometry content 0 even some_even none_even) (counted_at id geometry content 1 odd some_odd none_odd))

found_at : (id : List ℕ) (geometry : Geometry) (place : ℕ) (content : Content) (sector : Bytes) (found : Option Seal)
    → sector ≡ sector_of (disk_of content) (FIRST_SEAL + place)
    → IfSome found (λ s. (sector ≡ seal_sector s) × Belongs id geometry place s)
    → (IsNone found → (s : Seal) → sector ≡ seal_sector s → ¬ Belongs id geometry place s)
    → CountedAt id geometry content place found
found_at id geometry place content sector None is some none = none_counted_there id geometry place content sector is (none refl)
found_at id geometry place content sector (Some s) is some none = counted_there id geometry place content sector s is some.0 some.1

-- the same of what was found in the sectors of the two places
pub last_of_sectors : (id : List ℕ) (geometry : Geometry) (content : Content) (first second : Bytes) (even odd found : Option Seal) → length id ≡ 16
    → first ≡ sector_of (disk_of content) FIRST_SEAL → second ≡ sector_of (disk_of content) (FIRST_SEAL + 1)
    → IfSome even (λ s. (first ≡ seal_sector s) × Belongs id geometry 0 s) → (IsNone even → (s : Seal) → first ≡ seal_sector s → ¬ Belongs id geometry 0 s)
    → IfSome odd (λ s. (second ≡ seal_sector s) × Belongs id geometry 1 s) → (IsNone odd → (s : Seal) → second ≡ seal_sector s → ¬ Belongs id geometry 1 s)
    → found ≡ later_of even odd → IsLastSealed id geometry content found
last_of_sectors id geometry content first second even odd found long first_is second_is some_even none_even some_odd none_odd is =
    subst (λ (o : Option Seal). IsLastSealed id geometry content o) (sym is) (last_of_two id geometry content even odd long
    (found_at id geometry 0 content first even first_is some_even none_even) (found_at id geometry 1 content second odd second_is some_odd none_odd))
