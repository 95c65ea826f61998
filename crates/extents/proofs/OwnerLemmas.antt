-- Who has an extent.
use Rattle.std.proofs.Common.{◌≡◌, ◌⊎◌, inl, inr, ℕ, ◌<◌, List, length, Option, Some, None, refl, sym, ◌∙◌, ap}
use Rattle.std.proofs.lemmas.Bool.{cases_lt}
use Rattle.std.proofs.lemmas.List.{get_or_past}
use Rattle.std.proofs.lemmas.Option.{none-some}
use Rattle.extents.specs.declared.owned.Owned.{Owned}
use Rattle.extents.specs.Owners.{owner_of, IsAt, HasPlaces}

-- an extent that is some volume's
pub record HasOwner (owners : List (Option Owned)) (extent : ℕ) : Type 0 where
  pub volume : ℕ
  pub place : ℕ
  pub at : IsAt owners extent volume place

by_owner : (owners : List (Option Owned)) (extent : ℕ) (owner : Option Owned) → owner_of owners extent ≡ owner → (owner_of owners extent ≡ None)
    ⊎ HasOwner owners extent
by_owner owners extent None is = inl is
by_owner owners extent (Some owned) is = inr record { volume = owned.volume; place = owned.place; at = is }

-- an extent is free, or it is some volume's
pub free_or_owned : (owners : List (Option Owned)) (extent : ℕ) → (owner_of owners extent ≡ None) ⊎ HasOwner owners extent
free_or_owned owners extent = by_owner owners extent (owner_of owners extent) refl

-- an extent that is a volume's is not free
pub owned_is_not_free : (owners : List (Option Owned)) (extent volume place : ℕ) → IsAt owners extent volume place → owner_of owners extent ≡ None → ⊥
owned_is_not_free owners extent volume place at free = none-some _ (sym free ∙ at)

-- an extent that is a volume's is one of the map
pub owned_is_within : (owners : List (Option Owned)) (extent volume place : ℕ) → IsAt owners extent volume place → extent < length owners
owned_is_within owners extent volume place at = elim (cases_lt extent (length owners)) [
  | inl within ↦ within
  | inr beyond ↦ absurd (owned_is_not_free owners extent volume place at (get_or_past owners extent None beyond))
]

volume_or_0 : Option Owned → ℕ
volume_or_0 None = 0
volume_or_0 (Some owned) = owned.volume

place_or_0 : Option Owned → ℕ
place_or_0 None = 0
place_or_0 (Some owned) = owned.place

-- an extent has one owner
pub owner_is_one : (owners : List (Option Owned)) (extent volume place volume' place' : ℕ) → IsAt owners extent volume place → IsAt owners extent volume' place'
    → (volume ≡ volume') × (place ≡ place')
unfolding volume_or_0 place_or_0
owner_is_one owners extent volume place volume' place' one two = (ap volume_or_0 (sym one ∙ two), ap place_or_0 (sym one ∙ two))

-- an owner by its volume and its place
pub owner_is : (owned : Owned) (volume place : ℕ) → owned.volume ≡ volume → owned.place ≡ place → Some owned ≡ Some record { volume = volume; place = place }
owner_is owned volume place same_volume same_place =
    let by_volume : Some owned ≡ Some record { volume = volume; place = owned.place } =
    ap (λ (v : ℕ). Some record { volume = v; place = owned.place }) same_volume in
    by_volume ∙ ap (λ (p : ℕ). Some record { volume = volume; place = p }) same_place

-- a volume has the same places in owners that are the same
pub places_by_owner : (owners other : List (Option Owned)) (volume n : ℕ) → ((extent : ℕ) → owner_of other extent ≡ owner_of owners extent)
    → HasPlaces owners volume n → HasPlaces other volume n
places_by_owner owners other volume n same has = record {
  extent_at = λ place within. let at = has.extent_at place within in (at.0, same at.0 ∙ at.1);
  below = λ extent place at. has.below extent place (sym (same extent) ∙ at);
  once = λ first second place one two. has.once first second place (sym (same first) ∙ one) (sym (same second) ∙ two);
}
