-- What the checks find out is what makes a table.
use Rattle.std.proofs.Common.{◌≡◌, ℕ, ◌<◌, ◌≤◌, Bool, true, false, cond, not, List, Option, Some, None, length, get_or, refl, sym, ◌∙◌, ap, ◌⊎◌, inl, inr}
use Rattle.std.proofs.Common.{⊎_elim}
use Rattle.std.proofs.Common.{eqb, subst, arith}
use Rattle.std.specs.Option.{MatchOption, option_eq, is_some}
use Rattle.std.specs.Str.{bytes_eq}
use Rattle.std.proofs.lemmas.Bool.{cases_eq, cases_lt, eq-eqb, eqb-true, ne_eqb}
use Rattle.std.proofs.Props.{props}
use Rattle.std.proofs.Math.Logic.{∥∥₁_elim}
use Rattle.extents.proofs.Versions.{most_of_last}
use Rattle.std.proofs.lemmas.Slice.Eq.{bytes_eq-Decides}
use Rattle.std.proofs.lemmas.List.{get_or_past, get_or_default}
use Rattle.extents.specs.declared.owned.Owned.{Owned}
use Rattle.extents.specs.declared.record.Record.{Record}
use Rattle.extents.specs.ExtentMaps.{IsExtentMap}
use Rattle.extents.specs.Owners.{HasPlaces, IsAt}
use Rattle.extents.specs.VolumeTables.{record_of, extents_of, AreDistinct, AreOfVersion, AreFlags, HaveTheirPlaces, IsShort, IsVolumeTable}
use Rattle.extents.specs.Versions.{IsVersion, is_version_of, most_volumes, tells_dirty, upgraded_version}
use Rattle.layout_map.specs.declared.format.Format.{Format}
use Rattle.layout_map.specs.declared.format.Format.TheVariants.{One, Two}
use Rattle.extents.specs.Checks.{IsNamed, IsFirstNamed, IsFirstAt, OwnersFit, AllPlacesOccur}
use Rattle.layout_map.specs.declared.sizes.TheConstants.{MOST_EXTENTS}
use Rattle.extents.specs.declared.volume_table.TheConstants.{MOST_VOLUMES}

-- a record after the last takes no extent
none_beyond_end : (each : ℕ) (records : List (Option Record)) (volume : ℕ) → length records ≡ MOST_VOLUMES → MOST_VOLUMES ≤ volume
    → extents_of each (record_of records volume) ≡ 0
none_beyond_end each records volume long beyond = ap (extents_of each) (get_or_past records volume None (omega arith))

-- each volume has its places
places_from : (each : ℕ) (records : List (Option Record)) (extents : List (Option Owned)) → length records ≡ MOST_VOLUMES → OwnersFit each records extents
    → AllPlacesOccur each records extents
    → (volume : ℕ) → (volume < MOST_VOLUMES) ⊎ (MOST_VOLUMES ≤ volume) → HasPlaces extents volume (extents_of each (record_of records volume))
places_from each records extents long fit occur volume side = record {
  extent_at = ⊎_elim (λ below. occur volume below) (λ beyond place within. absurd (omega (arith, none_beyond_end each records volume long beyond))) side;
  below = λ extent place at. (fit extent (record { volume = volume; place = place }) at).within;
  once = λ first second place one other.
      let owner : Owned = record { volume = volume; place = place } in
      let up : first ≤ second = (fit first owner one).first second other in
      let down : second ≤ first = (fit second owner other).first first one in
      omega arith;
}

pub places_found : (each : ℕ) (records : List (Option Record)) (extents : List (Option Owned)) → length records ≡ MOST_VOLUMES → OwnersFit each records extents
    → AllPlacesOccur each records extents → HaveTheirPlaces each records extents
places_found each records extents long fit occur volume = places_from each records extents long fit occur volume (cases_lt volume MOST_VOLUMES)

-- extents that are those of records are a map
pub placed_is_map : (each : ℕ) (records : List (Option Record)) (extents : List (Option Owned)) → length records ≡ MOST_VOLUMES → length extents ≡ MOST_EXTENTS
    → HaveTheirPlaces each records extents → IsExtentMap extents
placed_is_map each records extents long all placed = record {
  at_most = omega (arith, all);
  volumes = λ extent volume place at. elim (cases_lt volume MOST_VOLUMES) [
    | inl below ↦ below
    | inr beyond ↦ absurd (omega (arith, none_beyond_end each records volume long beyond, (placed volume).below extent place at))
  ];
  places = λ volume. (extents_of each (record_of records volume), placed volume);
}

-- what the checks find makes a table
pub table_from : (version : ℕ) (records : List (Option Record)) (extents : List (Option Owned)) → IsVersion version → AreOfVersion version records
    → length records ≡ MOST_VOLUMES → length extents ≡ MOST_EXTENTS
    → AreDistinct records → IsExtentMap extents → IsVolumeTable version records extents
table_from version records extents is_version of_version all_records all_extents distinct map = record {
  is_version = is_version;
  of_version = of_version;
  all_records = all_records;
  all_extents = all_extents;
  distinct = distinct;
  map = map;
}

-- the owners of a table fit
pub table_owners : (each : ℕ) (records : List (Option Record)) (extents : List (Option Owned)) → HaveTheirPlaces each records extents
    → OwnersFit each records extents
table_owners each records extents placed extent owner at = record {
  within = (placed owner.volume).below extent owner.place at;
  first = λ other same.
      let one : extent ≡ other = (placed owner.volume).once extent other owner.place at same in
      omega arith;
}

-- the places of a table occur
pub table_places : (each : ℕ) (records : List (Option Record)) (extents : List (Option Owned)) → HaveTheirPlaces each records extents
    → AllPlacesOccur each records extents
table_places each records extents placed volume below = (placed volume).extent_at

-- what was read within a list of options
pub read_at : {X : Type 0} (xs : List (Option X)) (i : ℕ) (x : Option X) → i < length xs → x ≡ get_or xs i x → get_or xs i None ≡ x
read_at xs i x within is = get_or_default xs i None x within ∙ sym is

-- what is there is within the list
pub some_within : {X : Type 0} (xs : List (Option X)) (i : ℕ) (x : X) → get_or xs i None ≡ Some x → i < length xs
some_within xs i x at = ⊎_elim (λ below. below) (λ beyond. absurd (let past : get_or xs i None ≡ None = get_or_past xs i None beyond in let no : ⊥ = cc in no))
    (cases_lt i (length xs))

-- what is at no place before this one
pub none_before : (number other : ℕ) → (other < number → ⊥) → number ≤ other
none_before number other none = ⊎_elim (λ below. absurd (none below)) (λ above. above) (cases_lt other number)

-- an option that was compared with a number
pub is_number : (r : Option ℕ) (n : ℕ) → option_eq eqb r (Some n) ≡ true → r ≡ Some n
is_number None n h = cc
is_number (Some i) n h = ap Some (eqb-true i n h)

pub is_not_number : (r : Option ℕ) (n : ℕ) → option_eq eqb r (Some n) ≡ false → r ≡ Some n → ⊥
is_not_number None n h same = cc
is_not_number (Some i) n h same =
    let one : i ≡ n = cc in
    let two : eqb i n ≡ true = eq-eqb i n one in
    cc

-- a record of another name
pub not_named : (records : List (Option Record)) (number : ℕ) (one : Record) (bytes : List ℕ) → record_of records number ≡ Some one
    → bytes_eq one.name.bytes.items bytes ≡ false → IsNamed records number bytes → ⊥
not_named records number one bytes at differs named =
    let same : one ≡ named.0 = cc in
    let equal : bytes_eq one.name.bytes.items bytes ≡ true =
    (bytes_eq-Decides one.name.bytes.items bytes).1 (ap (λ (r : Record). r.name.bytes.items) same ∙ named.2) in
    cc

-- among distinct names, the first record of a used record's name is that record
pub first_is_itself : (records : List (Option Record)) (number : ℕ) (one : Record) → record_of records number ≡ Some one → AreDistinct records
    → (r : Option ℕ) → MatchOption r ((i : ℕ) → IsNamed records i one.name.bytes.items → ⊥) (λ i. IsFirstNamed records one.name.bytes.items i) → r ≡ Some number
first_is_itself records number one at distinct None none = absurd (none number (one, at, refl))
first_is_itself records number one at distinct (Some i) found = ap Some (distinct i number found.named.0 one found.named.1 at found.named.2)

-- the record that was found
pub found_named : (records : List (Option Record)) (number : ℕ) (bytes : List ℕ) (r : Option ℕ)
    → MatchOption r ((i : ℕ) → IsNamed records i bytes → ⊥) (λ i. IsFirstNamed records bytes i) → r ≡ Some number → IsFirstNamed records bytes number
found_named records number bytes None none same = absurd (let no : ⊥ = cc in no)
found_named records number bytes (Some i) found same =
    let one : i ≡ number = cc in
    record {
      named = (found.named.0, ap (λ (k : ℕ). record_of records k) (sym one) ∙ found.named.1, found.named.2);
      first =
          λ other named. let least : i ≤ other = found.first other named in omega arith;
    }

-- an owner that fits is found first at its extent
pub first_owner : (extents : List (Option Owned)) (extent volume place : ℕ) → IsAt extents extent volume place
    → ((other : ℕ) → IsAt extents other volume place → extent ≤ other)
    → (r : Option ℕ) → MatchOption r ((e : ℕ) → IsAt extents e volume place → ⊥) (λ e. IsFirstAt extents volume place e) → r ≡ Some extent
first_owner extents extent volume place at least None none = absurd (none extent at)
first_owner extents extent volume place at least (Some e) found =
    let up : e ≤ extent = found.first extent at in
    let down : extent ≤ e = least e found.at in
    let one : e ≡ extent = omega arith in
    ap Some one

-- the extent that was found
pub found_owner : (extents : List (Option Owned)) (extent volume place : ℕ) (r : Option ℕ)
    → MatchOption r ((e : ℕ) → IsAt extents e volume place → ⊥) (λ e. IsFirstAt extents volume place e) → r ≡ Some extent
    → (other : ℕ) → IsAt extents other volume place → extent ≤ other
found_owner extents extent volume place None none same = absurd (let no : ⊥ = cc in no)
found_owner extents extent volume place (Some e) found same = λ other at.
    let one : e ≡ extent = cc in
    let least : e ≤ other = found.first other at in
    omega arith

pub not_true : {b : Bool} → not b ≡ true → b ≡ false
not_true {b = true} h = sym h
not_true {b = false} h = refl

pub not_false : {b : Bool} → not b ≡ false → b ≡ true
not_false {b = true} h = refl
not_false {b = false} h = sym h

-- a place whose first extent was found occurs
pub occurs_found : (extents : List (Option Owned)) (volume place : ℕ) (r : Option ℕ)
    → MatchOption r ((e : ℕ) → IsAt extents e volume place → ⊥) (λ e. IsFirstAt extents volume place e)
    → is_some r ≡ true → (extent : ℕ) × IsAt extents extent volume place
occurs_found extents volume place None none some = absurd (let no : ⊥ = cc in no)
occurs_found extents volume place (Some e) found some = (e, found.at)

-- one of which none was found does not
pub occurs_not : (extents : List (Option Owned)) (volume place : ℕ) (r : Option ℕ)
    → MatchOption r ((e : ℕ) → IsAt extents e volume place → ⊥) (λ e. IsFirstAt extents volume place e)
    → is_some r ≡ false → (extent : ℕ) × IsAt extents extent volume place → ⊥
occurs_not extents volume place None none some at = none at.0 at.1
occurs_not extents volume place (Some e) found some at = cc

-- records are of a version where each of the 64 is short, and there is none from the most volumes of the version on
pub all_of_version : (version : ℕ) (records : List (Option Record)) → length records ≡ MOST_VOLUMES
    → ((volume : ℕ) → volume < MOST_VOLUMES → most_volumes version ≤ volume → record_of records volume ≡ None)
    → ((volume : ℕ) → volume < MOST_VOLUMES → IsShort version (record_of records volume)) → AreOfVersion version records
all_of_version version records long none short = record {
  few = λ volume past. ⊎_elim
      (λ (below : volume < MOST_VOLUMES). none volume below past)
      (λ (beyond : MOST_VOLUMES ≤ volume). get_or_past records volume None (omega (arith, long)))
      (cases_lt volume MOST_VOLUMES);
  short = λ volume. ⊎_elim
      (λ (below : volume < MOST_VOLUMES). short volume below)
      (λ (beyond : MOST_VOLUMES ≤ volume) used is. absurd
      (let past : record_of records volume ≡ None = get_or_past records volume None (omega (arith, long)) in let no : ⊥ = cc in no))
      (cases_lt volume MOST_VOLUMES);
}

-- a table of version 1 is one of version 2 too
upgraded : (version : ℕ) (records : List (Option Record)) (extents : List (Option Owned)) → IsVolumeTable version records extents
    → IsVolumeTable 2 records extents
upgraded version records extents table = record {
  is_version = (omega arith, omega arith);
  of_version = record {
    few = λ volume past. table.of_version.few volume (let most = (most_of_last version).0 in omega arith);
    short = λ volume used is. let most = (most_of_last version).1 in let short = table.of_version.short volume used is in omega arith;
  };
  all_records = table.all_records;
  all_extents = table.all_extents;
  distinct = table.distinct;
  map = table.map;
}

-- what an upgrade makes of a version
pub version_upgraded : (version : ℕ) → ((version ≡ 1) × (upgraded_version version ≡ 2)) ⊎ (upgraded_version version ≡ version)
version_upgraded version = elim (cases_eq version 1) [
  | inl same ↦ inl (same, ap (λ (b : Bool). cond b 2 version) (eq-eqb version 1 same))
  | inr other ↦ inr (ap (λ (b : Bool). cond b 2 version) (ne_eqb version 1 other))
]

pub table_upgraded : {version : ℕ} (records : List (Option Record)) (extents : List (Option Owned)) → ∥ IsVolumeTable version records extents ∥₁
    → ∥ IsVolumeTable (upgraded_version version) records extents ∥₁
table_upgraded {version} records extents table = elim (version_upgraded version) [
  | inl first ↦ subst (λ (v : ℕ). ∥ IsVolumeTable v records extents ∥₁) (sym first.1)
      (∥∥₁_elim table (hlevel props) (λ one. ∣ upgraded version records extents one ∣₁))
  | inr same ↦ subst (λ (v : ℕ). ∥ IsVolumeTable v records extents ∥₁) (sym same) table
]

-- an upgrade leaves whether dirty extents are told
pub upgraded_tells : (version : ℕ) → tells_dirty (upgraded_version version) ≡ tells_dirty version
upgraded_tells version = elim (version_upgraded version) [
  | inl first ↦ ap tells_dirty first.1 ∙ sym (ap tells_dirty first.0)
  | inr same ↦ ap tells_dirty same
]

-- a format that has version 1 has version 2
second_too : (format : Format) → is_version_of format 1 ≡ true → is_version_of format 2 ≡ true
second_too One is = refl
second_too Two is = is

-- and the format
pub upgraded_of_format : (format : Format) (version : ℕ) → is_version_of format version ≡ true → is_version_of format (upgraded_version version) ≡ true
upgraded_of_format format version is = elim (version_upgraded version) [
  | inl first ↦ ap (is_version_of format) first.1 ∙ second_too format (subst (λ (v : ℕ). is_version_of format v ≡ true) first.0 is)
  | inr same ↦ ap (is_version_of format) same ∙ is
]

pub flags_upgraded : (version : ℕ) (dirty : List Bool) → AreFlags version dirty → AreFlags (upgraded_version version) dirty
flags_upgraded version dirty flags = elim (version_upgraded version) [
  | inl first ↦ subst (λ (v : ℕ). AreFlags v dirty) (sym first.1) (record {
    all_extents = flags.all_extents;
    all_dirty = λ none. flags.all_dirty (ap tells_dirty first.0);
  })
  | inr same ↦ subst (λ (v : ℕ). AreFlags v dirty) (sym same) flags
]
