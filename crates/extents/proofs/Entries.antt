-- What a table says of its extents, one after another: who has each, and whether it is marked.
use Rattle.std.proofs.Common.{◌≡◌, ℕ, zero, suc, ◌+◌, ◌<◌, ◌&&◌, ◌||◌, not, Bool, true, false, List, [], ◌∷◌, Option, None, length, take, drop, get_or}
use Rattle.std.proofs.Common.{refl, sym, ap, ◌∙◌, inl, inr, arith}
use Rattle.std.proofs.lemmas.Bool.{cases_lt}
use Rattle.std.proofs.lemmas.List.{ext_get_or, get_or-take, get_or-drop, get_or_past, length-take, length-drop}
use Rattle.extents.specs.declared.owned.Owned.{Owned}
use Rattle.extents.specs.Cells.{OwnersHaveRoom, SayDirty, SayOwners, SpellExtents, extent_cell, is_marked}
use Rattle.extents.specs.ExtentMaps.{is_dirty}
use Rattle.extents.specs.Owners.{owner_of}
use Rattle.extents.specs.TableSpelling.{entries_of, entry_bytes, no_entry}
use Rattle.extents.specs.Versions.{tells_dirty}
use Rattle.extents.specs.VolumeTables.{AreFlags}
use Rattle.extents.proofs.Spelled.{marked_is}
use Rattle.layout_map.specs.declared.sizes.TheConstants.{MOST_EXTENTS}

pub length-entries_of : (version : ℕ) (owners : List (Option Owned)) (dirty : List Bool) → length (entries_of version owners dirty) ≡ length owners
length-entries_of version [] dirty = refl
length-entries_of version (owner ∷ owners) [] = ap suc (length-entries_of version owners [])
length-entries_of version (owner ∷ owners) (flag ∷ dirty) = ap suc (length-entries_of version owners dirty)

and_true : (b : Bool) → b ≡ (b && true)
and_true true = refl
and_true false = refl

-- what is said of an extent
pub entry_at : (version : ℕ) (owners : List (Option Owned)) (dirty : List Bool) (k : ℕ) → k < length owners
    → get_or (entries_of version owners dirty) k no_entry ≡ (owner_of owners k, tells_dirty version && is_dirty dirty k)
entry_at version [] dirty k within = absurd (omega arith)
entry_at version (owner ∷ owners) [] zero within = ap (λ (b : Bool). (owner, b)) (and_true (tells_dirty version))
entry_at version (owner ∷ owners) [] (suc k) within = entry_at version owners [] k (omega arith)
entry_at version (owner ∷ owners) (flag ∷ dirty) zero within = refl
entry_at version (owner ∷ owners) (flag ∷ dirty) (suc k) within = entry_at version owners dirty k (omega arith)

part_at : {X : Type 0} (xs : List X) (at n k : ℕ) (d : X) → k < n → get_or (take n (drop at xs)) k d ≡ get_or xs (at + k) d
part_at xs at n k d small = get_or-take n (drop at xs) k d small ∙ get_or-drop at xs k d

-- owners have room in a part where all have
pub part_has_room : (owners : List (Option Owned)) (at n : ℕ) → OwnersHaveRoom owners → OwnersHaveRoom (take n (drop at owners))
part_has_room owners at n room number owner is = elim (cases_lt number n) [
  | inl small ↦ room (at + number) owner (sym (part_at owners at n number None small) ∙ is)
  | inr beyond ↦ absurd (
      let past : get_or (take n (drop at owners)) number None ≡ None =
      get_or_past (take n (drop at owners)) number None (omega (arith, beyond, length-take n (drop at owners))) in
      let no : ⊥ = cc in no)
]

-- what is said of a part of the extents
pub entries_part : (version : ℕ) (owners : List (Option Owned)) (dirty : List Bool) (at n : ℕ)
    → entries_of version (take n (drop at owners)) (take n (drop at dirty)) ≡ take n (drop at (entries_of version owners dirty))
entries_part version owners dirty at n =
    let all = entries_of version owners dirty in
    let part = take n (drop at owners) in
    let flags = take n (drop at dirty) in
    let long : length part ≡ length (take n (drop at all)) =
    omega (
      arith,
      length-take n (drop at owners),
      length-drop at owners,
      length-take n (drop at all),
      length-drop at all,
      length-entries_of version owners
          dirty,
    ) in
    ext_get_or no_entry (entries_of version part flags) (take n (drop at all)) (length-entries_of version part flags ∙ long) (λ k within.
    let within_part : k < length part = omega (arith, within, length-entries_of version part flags) in
    let small : k < n = omega (arith, within_part, length-take n (drop at owners)) in
    let within_all : at + k < length owners = omega (arith, within_part, length-take n (drop at owners), length-drop at owners) in
    entry_at version part flags k within_part
    ∙ ap (λ (o : Option Owned). (o, tells_dirty version && is_dirty flags k)) (part_at owners at n k None small)
    ∙ ap (λ (b : Bool). (owner_of owners (at + k), tells_dirty version && b)) (part_at dirty at n k true small)
    ∙ sym (entry_at version owners dirty (at + k) within_all)
    ∙ sym (part_at all at n k no_entry small))

mark_told : (tells marked : Bool) → (tells ≡ false → marked ≡ false) → marked ≡ (tells && (not tells || marked))
mark_told true marked told = refl
mark_told false marked told = told refl

flag_told : (tells flag : Bool) → (tells ≡ false → flag ≡ true) → (not tells || (tells && flag)) ≡ flag
flag_told true flag all = refl
flag_told false flag all = sym (all refl)

none_told : (tells flag : Bool) → tells ≡ false → (tells && flag) ≡ false
none_told tells flag is = ap (λ (b : Bool). b && flag) is

-- owners and flags that are said are spelled
pub said_spelled : (version : ℕ) (sectors : List (List ℕ)) (owners : List (Option Owned)) (dirty : List Bool) → length owners ≡ MOST_EXTENTS
    → SayOwners version sectors owners → SayDirty version sectors dirty → SpellExtents version sectors (entries_of version owners dirty)
said_spelled version sectors owners dirty all owners_said dirty_said number below =
    let bytes = extent_cell version sectors number in
    let said = owners_said number below in
    said.spelled
    ∙ ap (λ (b : Bool). entry_bytes (owner_of owners number, b)) (mark_told (tells_dirty version) (is_marked bytes) said.told)
    ∙ ap (λ (b : Bool). entry_bytes (owner_of owners number, tells_dirty version && b)) (sym (dirty_said.each number below))
    ∙ ap entry_bytes (sym (entry_at version owners dirty number (omega (arith, below, all))))

module _ (version : ℕ) (sectors : List (List ℕ)) (owners : List (Option Owned)) (dirty : List Bool) (all : length owners ≡ MOST_EXTENTS)
    (room : OwnersHaveRoom owners) (spelled : SpellExtents version sectors (entries_of version owners dirty)) where
  bytes_are : (number : ℕ) → number < MOST_EXTENTS
      → extent_cell version sectors number ≡ entry_bytes (owner_of owners number, tells_dirty version && is_dirty dirty number)
  bytes_are number below = spelled number below ∙ ap entry_bytes (entry_at version owners dirty number (omega (arith, below, all)))

  pub mark_is : (number : ℕ) → number < MOST_EXTENTS → is_marked (extent_cell version sectors number) ≡ (tells_dirty version && is_dirty dirty number)
  mark_is number below =
      marked_is (extent_cell version sectors number) (owner_of owners number) (tells_dirty version && is_dirty dirty number) (room number)
      (bytes_are number below)

  -- owners that are spelled are said
  pub spelled_said : SayOwners version sectors owners
  spelled_said number below = record {
    spelled = bytes_are number below ∙ ap (λ (b : Bool). entry_bytes (owner_of owners number, b)) (sym (mark_is number below));
    told = λ no_marks. mark_is number below ∙ none_told (tells_dirty version) (is_dirty dirty number) no_marks;
  }

-- flags that are spelled are said
pub spelled_dirty : (version : ℕ) (sectors : List (List ℕ)) (owners : List (Option Owned)) (dirty : List Bool) → length owners ≡ MOST_EXTENTS
    → OwnersHaveRoom owners → SpellExtents version sectors (entries_of version owners dirty) → AreFlags version dirty → SayDirty version sectors dirty
spelled_dirty version sectors owners dirty all room spelled flags = record {
  long = flags.all_extents;
  each = λ number below. sym (
      ap (λ (b : Bool). not (tells_dirty version) || b) (mark_is version sectors owners dirty all room spelled number below)
      ∙ flag_told (tells_dirty version) (is_dirty dirty number) (λ none. flags.all_dirty none number));
}

-- flags that are said are those of a table that is spelled
pub dirty_is : (version : ℕ) (sectors : List (List ℕ)) (owners : List (Option Owned)) (dirty read : List Bool) → length owners ≡ MOST_EXTENTS
    → OwnersHaveRoom owners → AreFlags version dirty → SpellExtents version sectors (entries_of version owners dirty) → SayDirty version sectors read
    → read ≡ dirty
dirty_is version sectors owners dirty read all room flags spelled said =
    ext_get_or true read dirty (said.long ∙ sym flags.all_extents) (λ k within.
    let below : k < MOST_EXTENTS = omega (arith, within, said.long) in
    said.each k below
    ∙ ap (λ (b : Bool). not (tells_dirty version) || b) (mark_is version sectors owners dirty all room spelled k below)
    ∙ flag_told (tells_dirty version) (is_dirty dirty k) (λ none. flags.all_dirty none k))

-- flags that are said are those of a version
pub flags_said : (version : ℕ) (sectors : List (List ℕ)) (dirty : List Bool) → SayDirty version sectors dirty → AreFlags version dirty
flags_said version sectors dirty said = record {
  all_extents = said.long;
  all_dirty = λ none extent. elim (cases_lt extent MOST_EXTENTS) [
    | inl below ↦ said.each extent below ∙ ap (λ (b : Bool). not b || is_marked (extent_cell version sectors extent)) none
    | inr beyond ↦ get_or_past dirty extent true (omega (arith, beyond, said.long))
  ];
}
