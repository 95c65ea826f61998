-- The map of extents that a store keeps: the blocks of its volumes have extents in it.
use Rattle.std.proofs.Common.{◌≡◌, ◌⊎◌, inl, inr, ℕ, zero, suc, ◌+◌, ◌≤◌, List, [], ◌∷◌, length, Option, Some, None, sym, ◌∙◌, ap, refl, arith}
use Rattle.std.proofs.Props.{props}
use Rattle.std.proofs.Math.Logic.{∥∥₁_elim}
use Rattle.std.proofs.lemmas.Bool.{cases_eq, cases_lt}
use Rattle.std.proofs.lemmas.List.{get_or-take, get_or_past, length-take}
use Rattle.std.proofs.lemmas.Option.{none-some, same_Some}
use Rattle.extents.specs.declared.extent_layout.ExtentLayout.{ExtentLayout}
use Rattle.extents.specs.declared.owned.Owned.{Owned}
use Rattle.extents.specs.declared.record.Record.{Record}
use Rattle.extents.specs.declared.volume_table.VolumeTable.{VolumeTable}
use Rattle.extents.specs.ExtentMaps.{HasPlace, place_of}
use Rattle.extents.specs.Owners.{owner_of, IsAt}
use Rattle.extents.specs.VolumeTables.{extents_for, extents_of, record_of}
use Rattle.extents.proofs.Blocks.{place_is_below}
use Rattle.extents.proofs.OwnerLemmas.{owner_is}
use Rattle.volume_table.specs.Admission.{AreKept, HasRecordAt, HasBlocksAt, IsWithinVolume}
use Rattle.volume_table.specs.StoreChanges.{AllPlaced}
use Rattle.extents.specs.declared.record.TheConstants.{MOST_BLOCKS}
use Rattle.volume_table.specs.declared.event.TheConstants.{MOST_BLOCKS_AT_ONCE}

-- its extents have the owners that they have in the table
pub kept_owner : (extents : ExtentLayout) (table : VolumeTable) (owners : List (Option Owned)) → AreKept extents table owners → (extent : ℕ)
    → owner_of owners extent ≡ owner_of table.extents extent
kept_owner extents table owners kept extent = elim (cases_lt extent extents.count) [
  | inl below ↦ ap (λ (its : List (Option Owned)). owner_of its extent) kept.same ∙ get_or-take extents.count table.extents extent None below
  | inr beyond ↦ get_or_past owners extent None (omega (arith, beyond, ap length kept.same, length-take extents.count table.extents))
      ∙ sym (kept.of_set.free_beyond extent beyond)
]

-- it has no more extents than the set
pub kept_sized : (extents : ExtentLayout) (table : VolumeTable) (owners : List (Option Owned)) → AreKept extents table owners → length owners ≤ extents.count
kept_sized extents table owners kept = omega (arith, ap length kept.same, length-take extents.count table.extents)

-- whether a volume has an extent at a place is found by a search
find_place : (owners : List (Option Owned)) (volume place : ℕ) → HasPlace owners volume place ⊎ ¬ HasPlace owners volume place
find_place [] volume place = inr (λ has. none-some _ has.1)
find_place (owner ∷ owners) volume place = elim (is_it owner) [
  | inl here ↦ inl (0, here)
  | inr not_here ↦ elim (find_place owners volume place) [
    | inl there ↦ inl (suc there.0, there.1)
    | inr not_there ↦ inr (λ has. neither not_here not_there has.0 has.1)
  ]
]
  where
    is_it : (one : Option Owned) → (one ≡ Some record { volume = volume; place = place }) ⊎ ¬ (one ≡ Some record { volume = volume; place = place })
    is_it None = inr (λ same. none-some _ same)
    is_it (Some one) = elim (cases_eq one.volume volume) [
      | inr other ↦ inr (λ same. other (ap (λ (o : Owned). o.volume) (same_Some one record { volume = volume; place = place } same)))
      | inl same_volume ↦ elim (cases_eq one.place place) [
        | inr other ↦ inr (λ same. other (ap (λ (o : Owned). o.place) (same_Some one record { volume = volume; place = place } same)))
        | inl same_place ↦ inl (owner_is one volume place same_volume same_place)
      ]
    ]

    neither : ¬ (owner ≡ Some record { volume = volume; place = place }) → ¬ (HasPlace owners volume place) → (extent : ℕ)
        → IsAt (owner ∷ owners) extent volume place → ⊥
    neither not_here not_there zero at = not_here at
    neither not_here not_there (suc extent) at = not_there (extent, at)

pub found_place : (owners : List (Option Owned)) (volume place : ℕ) → ∥ HasPlace owners volume place ∥₁ → HasPlace owners volume place
found_place owners volume place has = elim (find_place owners volume place) [
  | inl there ↦ there
  | inr not_there ↦ absurd (∥∥₁_elim has (hlevel props) not_there)
]

-- each of the blocks of a volume has an extent
pub blocks_are_placed : (extents : ExtentLayout) (table : VolumeTable) (owners : List (Option Owned)) (name : List ℕ) (number at count : ℕ)
    → AreKept extents table owners
    → ∥ HasBlocksAt table.records name number at count ∥₁ → AllPlaced extents owners number at (at + count)
blocks_are_placed extents table owners name number at count kept has block least below =
    found_place owners number (place_of extents block) (∥∥₁_elim kept.of_set.placed (hlevel props) (λ placed. ∥∥₁_elim has (hlevel props) (λ it.
    let many : extents_of extents.blocks (record_of table.records number) ≡ extents_for extents.blocks it.entry.blocks =
    ap (extents_of extents.blocks) it.used in
    let its = place_is_below extents.blocks it.entry.blocks block extents.limits.some (omega (arith, below, it.fits)) in
    let there = (placed number).extent_at (place_of extents block) (omega (arith, many, its)) in
    ∣ (there.0, kept_owner extents table owners kept there.0 ∙ there.1) ∣₁)))

-- they end by the most blocks of a volume, and are some
pub blocks_fit : (records : List (Option Record)) (name : List ℕ) (number at count : ℕ) → ∥ HasBlocksAt records name number at count ∥₁
    → at + count ≤ MOST_BLOCKS
blocks_fit records name number at count has = ∥∥₁_elim has (hlevel props) (λ it. omega (arith, it.fits, it.entry.most))

pub blocks_least : (records : List (Option Record)) (name : List ℕ) (number at count : ℕ) → ∥ HasBlocksAt records name number at count ∥₁ → 1 ≤ count
blocks_least records name number at count has = ∥∥₁_elim has (hlevel props) (λ it. it.least)

-- so has each of those that are to be read or written
pub within_is_placed : (extents : ExtentLayout) (table : VolumeTable) (owners : List (Option Owned)) (name : List ℕ) (number at count : ℕ)
    → AreKept extents table owners
    → ∥ IsWithinVolume table.records name number at count ∥₁ → AllPlaced extents owners number at (at + count)
within_is_placed extents table owners name number at count kept within =
    blocks_are_placed extents table owners name number at count kept (∥∥₁_elim within (hlevel props) (λ it.
    ∣ record { of_table = it.of_table; entry = it.entry; used = it.used; named = it.named; fits = it.fits; least = it.least } ∣₁))

-- they are 1 to 32, and end by the most blocks of a volume
pub within_least : (records : List (Option Record)) (name : List ℕ) (number at count : ℕ) → ∥ IsWithinVolume records name number at count ∥₁ → 1 ≤ count
within_least records name number at count within = ∥∥₁_elim within (hlevel props) (λ it. it.least)

pub within_most : (records : List (Option Record)) (name : List ℕ) (number at count : ℕ) → ∥ IsWithinVolume records name number at count ∥₁
    → count ≤ MOST_BLOCKS_AT_ONCE
within_most records name number at count within = ∥∥₁_elim within (hlevel props) (λ it. it.most)

pub within_fits : (records : List (Option Record)) (name : List ℕ) (number at count : ℕ) → ∥ IsWithinVolume records name number at count ∥₁
    → at + count ≤ MOST_BLOCKS
within_fits records name number at count within = ∥∥₁_elim within (hlevel props) (λ it. omega (arith, it.fits, it.entry.most))

-- the record that was found
pub found_record : (records : List (Option Record)) (name : List ℕ) (number : ℕ) → ∥ HasRecordAt records name number ∥₁ → HasRecordAt records name number
found_record records name number found = by_record (record_of records number) refl
  where
    by_record : (one : Option Record) → record_of records number ≡ one → HasRecordAt records name number
    by_record None none = absurd (∥∥₁_elim found (hlevel props) (λ it. none-some it.entry (sym none ∙ it.used)))
    by_record (Some entry) used = record {
      of_table = ∥∥₁_elim found (hlevel props) (λ it. it.of_table);
      entry = entry;
      used = used;
      named = ∥∥₁_elim found (hlevel props) (λ it. ap (λ (r : Record). r.name.bytes.items) (same_Some entry it.entry (sym used ∙ it.used)) ∙ it.named);
    }

pub within_record : (records : List (Option Record)) (name : List ℕ) (number at count : ℕ) → ∥ IsWithinVolume records name number at count ∥₁
    → HasRecordAt records name number
within_record records name number at count within = found_record records name number (∥∥₁_elim within (hlevel props) (λ it.
    ∣ record { of_table = it.of_table; entry = it.entry; used = it.used; named = it.named } ∣₁))

-- and that of the blocks that are to be made zero
pub blocks_record : (records : List (Option Record)) (name : List ℕ) (number at count : ℕ) → ∥ HasBlocksAt records name number at count ∥₁
    → HasRecordAt records name number
blocks_record records name number at count has = found_record records name number (∥∥₁_elim has (hlevel props) (λ it.
    ∣ record { of_table = it.of_table; entry = it.entry; used = it.used; named = it.named } ∣₁))

-- which has them
pub record_has_blocks : (records : List (Option Record)) (name : List ℕ) (number at count : ℕ) → ∥ HasBlocksAt records name number at count ∥₁
    → (found : HasRecordAt records name number) → at + count ≤ found.entry.blocks
record_has_blocks records name number at count has found = ∥∥₁_elim has (hlevel props) (λ it.
    omega (arith, it.fits, ap (λ (r : Record). r.blocks) (same_Some it.entry found.entry (sym it.used ∙ found.used))))
