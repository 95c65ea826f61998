-- The owners of all 1,024 extents, those of a map first.
use Rattle.std.proofs.Common.{◌≡◌, inl, inr, ℕ, ◌+◌, ◌-◌, ◌<◌, ◌≤◌, List, ◌++◌, length, get_or, take, replicate, Option, None, refl, sym, ◌∙◌, ap, arith}
use Rattle.std.proofs.lemmas.Bool.{cases_lt}
use Rattle.std.proofs.lemmas.List.{length-append, length-replicate, get_or_append_left, get_or-append-add, get_or-replicate, get_or_past, ext_get_or, take_at}
use Rattle.extents.specs.declared.owned.Owned.{Owned}
use Rattle.extents.specs.Owners.{owner_of}
use Rattle.extents.specs.VolumeTables.{owners_padded}
use Rattle.layout_map.specs.declared.sizes.TheConstants.{MOST_EXTENTS}

-- what is written, as far as the extents below this one are done
pub record AreCopiedBelow (owners new : List (Option Owned)) (extent : ℕ) : Type 0 where
  pub long : length new ≡ MOST_EXTENTS
  pub below : (e : ℕ) → e < extent → owner_of new e ≡ owner_of owners e

pub length-padded : (owners : List (Option Owned)) → length owners ≤ MOST_EXTENTS → length (owners_padded owners) ≡ MOST_EXTENTS
unfolding owners_padded
length-padded owners most = omega (
  arith,
  length-append owners (replicate (MOST_EXTENTS - length owners) None),
  length-replicate {A = Option Owned} (MOST_EXTENTS - length owners) None,
)

none_free : (n k : ℕ) → get_or (replicate {A = Option Owned} n None) k None ≡ None
none_free n k = elim (cases_lt k n) [
  | inl within ↦ get_or-replicate {A = Option Owned} n k None None within
  | inr beyond ↦ get_or_past (replicate n None) k None (omega (arith, beyond, length-replicate {A = Option Owned} n None))
]

-- each extent has the owner that it has in the map, and those after it are free
pub owner_padded : (owners : List (Option Owned)) (extent : ℕ) → owner_of (owners_padded owners) extent ≡ owner_of owners extent
unfolding owners_padded
owner_padded owners extent = elim (cases_lt extent (length owners)) [
  | inl within ↦ get_or_append_left owners (replicate (MOST_EXTENTS - length owners) None) None extent within
  | inr beyond ↦
      let free : List (Option Owned) = replicate (MOST_EXTENTS - length owners) None in
      let past : length owners + (extent - length owners) ≡ extent = omega (arith, beyond) in
      ap (λ (e : ℕ). get_or (owners ++ free) e None) (sym past) ∙ get_or-append-add owners free (extent - length owners) None
      ∙ none_free (MOST_EXTENTS - length owners) (extent - length owners) ∙ sym (get_or_past owners extent None beyond)
]

-- the first of them are the map's
pub take_padded : (owners : List (Option Owned)) → take (length owners) (owners_padded owners) ≡ owners
unfolding owners_padded
take_padded owners = take_at owners (replicate (MOST_EXTENTS - length owners) None) (length owners) refl

-- what has each of the map's owners, and is free after them, is all of them
pub copied_all : (owners new : List (Option Owned)) → length owners ≤ MOST_EXTENTS → AreCopiedBelow owners new MOST_EXTENTS → new ≡ owners_padded owners
copied_all owners new most copied = ext_get_or None new (owners_padded owners) (copied.long ∙ sym (length-padded owners most))
    (λ extent within. copied.below extent (omega (arith, within, copied.long)) ∙ sym (owner_padded owners extent))
