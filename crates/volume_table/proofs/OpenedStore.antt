-- A store is opened, or its bank is given back.
use borrow.Rule.Slice.PartMut.{mid_of, put_mid}
use Rattle.std.proofs.lemmas.Slice.{take-put_mid}
use Rattle.std.proofs.Common.{◌≡◌, ◌≢◌, ◌⊎◌, ◌↔◌, inl, inr, ℕ, zero, suc, ◌+◌, ◌-◌, ◌<◌, ◌≤◌, Bool, true, false, List, [], ◌∷◌, length, take, drop, get_or, set}
use Rattle.std.proofs.Common.{Option, Some, None, Ok, Err, OnOk, refl, sym, ap, ap₂, subst, ◌∙◌, below_more, le_of_eq, arith}
use Rattle.std.proofs.Props.{props}
use Rattle.std.proofs.Math.Logic.{∥∥₁_elim}
use Rattle.std.proofs.lemmas.Bool.{cases_eq, true≢false}
use Rattle.std.proofs.lemmas.List.{ext_get_or, get_or-drop, get_or-set_other, get_or-set_same, get_or-take, length-drop, length-set, length-take-le, take_all}
use Rattle.std.proofs.lemmas.List.Elements.{Contains-push}
use Rattle.std.proofs.lemmas.Option.{none-some, same_Some}
use Rattle.sector_model.specs.declared.refusal.Refusal.{Refusal}
use Rattle.sector_model.specs.declared.refusal.Refusal.TheVariants.{BadTable, TwoLost, Worn}
use Rattle.sector_model.specs.Bank.{IsLater, IsTrueTo, Panel}
use Rattle.sector_model.specs.History.{Bytes, History}
use Rattle.sector_model.proofs.Steps.{throughout_more}
use Rattle.layout_map.specs.declared.geometry.Geometry.{Geometry}
use Rattle.layout_map.specs.Placement.{data_sectors_of}
use Rattle.superblock.specs.declared.table.Table.{Table}
use Rattle.superblock.specs.Cases.{Lost}
use Rattle.array_io.specs.Believed.ArrayCalls.{Answer, Reads}
use Rattle.array_io.specs.Believed.Views.{ArrayView, GoesOn, HasEnded, IsEndOf, RestsOn, StaysButForFailures}
use Rattle.array_io.proofs.Calls.CallSteps.{end_of_both, refused}
use Rattle.extents.specs.declared.extent_layout.ExtentLayout.{ExtentLayout}
use Rattle.extents.specs.SetExtents.{extents_in, IsOfSet}
use Rattle.extents.specs.declared.owned.Owned.{Owned}
use Rattle.extents.specs.declared.volume_table.VolumeTable.{VolumeTable}
use Rattle.extents.specs.ExtentMaps.{IsExtentMap, count_of}
use Rattle.extents.specs.Owners.{IsAt}
use Rattle.extents.specs.TableLaw.{IsOfFormat}
use Rattle.extents.specs.TableSpelling.{Spell, entries_in, first_sector, table_sectors}
use Rattle.layout_map.specs.declared.format.Format.{Format}
use Rattle.extents.proofs.FirstSectors.{first_byte, version_is_one}
use Rattle.extents.specs.Versions.{IsVersion, IsVersionIn, table_length}
use Rattle.extents.proofs.ExtentLawLemmas.{extents_are_counted}
use Rattle.extents.proofs.Sectors.{spelling_at}
use Rattle.extents.proofs.TableLaws.{fills}
use Rattle.array_io.specs.Believed.ReadWhole.{NoDeviceFailed, ReadsWhole, SectorsStay, list_read}
use Rattle.recovery.specs.Making.{BankView}
use Rattle.volume_table.specs.Volumes.{VolumeMap}
use Rattle.volume_table.specs.ListChanges.{ChangesList, HoldsForSomeNow, IsSame}
use Rattle.volume_table.specs.Opening.{IsNoOpening, Opened, Opens, Returned, given_back, opened}
use Rattle.volume_table.specs.Shows.{Shows}
use Rattle.volume_table.specs.Stands.{IsSettledAfter, StandsNow, StandsThroughout, StoreView, store_of}
use Rattle.volume_table.proofs.FreeLemmas.{table_is_extent_map}
use Rattle.volume_table.proofs.ListChanges.{changes_both, changes_read, rests_long}
use Rattle.volume_table.proofs.TableSizes.{has_table_sectors, of_format_in, table_long, table_short}
use Rattle.extents.specs.declared.volume_table.TheConstants.{TABLE_SECTORS}

-- ---- the first eleven sectors

-- why the last of some reads ended is why all did
two_or_worn : (old new : ArrayView) (refusal : Refusal) → IsEndOf old new ⊥ refusal → (refusal ≡ TwoLost) ⊎ (refusal ≡ Worn)
two_or_worn old new TwoLost end = inl refl
two_or_worn old new Worn end = inr refl
two_or_worn old new refusal end = absurd end

pub read_ends : (honest still : Type 0) (sector : ℕ) (old mid new : ArrayView) (to : Bytes) (refusal why : Refusal)
    → ChangesList honest 0 IsSame IsSame old new (Err refusal)
    → Reads still sector mid new to (Err refusal) → refused refusal ≡ refused why → IsEndOf old new ⊥ why
read_ends honest still sector old mid new to refusal why changes reads is =
    let same : refusal ≡ why = cc in
    let end = reads.cause refusal refl in
    subst (IsEndOf old new ⊥) same (end_of_both honest old mid new (HasEnded (refused refusal)) changes.stays refusal end (two_or_worn mid new refusal end))

pub first_of_set : (geometry now : Geometry) (sector : ℕ) → now ≡ geometry → sector < TABLE_SECTORS → sector < data_sectors_of now.members now.chunk now.stripes
first_of_set geometry now sector same below = omega (arith, below, has_table_sectors now)

-- sectors are those of a list, from one on, that has each of them
are_read : (first n : ℕ) (sectors V : List Bytes) → length sectors ≡ n → first + n ≤ length V
    → ((k : ℕ) → k < n → get_or sectors k [] ≡ get_or V (first + k) []) → sectors ≡ take n (drop first V)
are_read first n sectors V long enough each =
    ext_get_or [] sectors (take n (drop first V)) (long ∙ sym (length-take-le n (drop first V) (omega (arith, enough, length-drop first V)))) (λ k below.
    let within : k < n = omega (arith, below, long) in
    each k within ∙ sym (get_or-take n (drop first V) k [] within ∙ get_or-drop first V k []))

pub are_read_at_rest : (array : ArrayView) (lost : Option Lost) (V sectors : List Bytes) (first n : ℕ) → RestsOn array lost V → length sectors ≡ n
    → first + n ≤ TABLE_SECTORS
    → ((k : ℕ) → k < n → get_or sectors k [] ≡ get_or V (first + k) []) → sectors ≡ take n (drop first V)
are_read_at_rest array lost V sectors first n rests long within each =
    are_read first n sectors V long (omega (arith, within, rests_long array lost V rests, has_table_sectors array.table.geometry)) each

-- ---- the table that sectors begin with

pub is_version : (table : VolumeTable) → IsVersion table.version
is_version table = ∥∥₁_elim table.is_table (hlevel props) (λ is. is.is_version)

-- the first of them is that of its version
first_of_spelled : (sectors : List Bytes) (table : VolumeTable) → Spell sectors table → get_or sectors 0 [] ≡ first_sector table.version
first_of_spelled sectors table spelled =
    let some : 0 < table_length table.version = omega (arith, table_long table.version) in
    sym (get_or-take (table_length table.version) sectors 0 [] some) ∙ ap (λ (list : List Bytes). get_or list 0 []) spelled
    ∙ spelling_at table.version table.records (entries_in table) 0 some

-- it says the version
same_version : (format : Format) (first second : ℕ) → IsVersionIn format first → IsVersionIn format second → first_sector first ≡ first_sector second
    → first ≡ second
same_version format first second is other same =
    version_is_one format first second is other (sym (first_byte (first_sector first) first refl) ∙ first_byte (first_sector first) second same)

pub in_format : (format : Format) (table : VolumeTable) → IsOfFormat format table → IsVersionIn format table.version
in_format format table of_format = (is_version table, of_format)

-- a first sector of no version of a format begins no table of it
pub spells_none : (format : Format) (first : Bytes) (sectors : List Bytes) (table : VolumeTable)
    → ((version : ℕ) → IsVersionIn format version → first ≡ first_sector version → ⊥)
    → get_or sectors 0 [] ≡ first → IsOfFormat format table
    → Spell sectors table → ⊥
spells_none format first sectors table none is of_format spelled =
    none table.version (in_format format table of_format) (sym is ∙ first_of_spelled sectors table spelled)

-- where the first sector is that of a version, lists with the same sectors of a table of that version begin with the same tables
pub spells_too : (format : Format) (version : ℕ) (sectors other : List Bytes) (table : VolumeTable) → IsOfFormat format table → IsVersionIn format version
    → get_or sectors 0 [] ≡ first_sector version
    → take (table_length version) other ≡ take (table_length version) sectors → Spell sectors table → Spell other table
spells_too format version sectors other table of_format is first same spelled =
    let its : table.version ≡ version = same_version format table.version version (in_format format table of_format) is
    (sym (first_of_spelled sectors table spelled) ∙ first) in
    subst (λ (v : ℕ). take (table_length v) other ≡ take (table_length v) sectors) (sym its) same ∙ spelled

-- ---- what reads give where no device fails

-- n sectors from one on were read so
pub record HaveReadWhole (first n : ℕ) (old new : ArrayView) (sectors : List Bytes) : Type 0 where
  pub given : (k : ℕ) → k < n → length (get_or (list_read old) (first + k) []) ≡ 512 → get_or sectors k [] ≡ get_or (list_read old) (first + k) []
  pub stays : SectorsStay old new

pub none_read : (first : ℕ) (array : ArrayView) (sectors : List Bytes) → HaveReadWhole first 0 array array sectors
none_read first array sectors = record { given = λ k below. absurd (omega (arith, below)); stays = λ sector whole. refl }

-- none failed in a part of a run in which none failed
none_failed_before : (old mid new : Panel) → IsLater mid new → NoDeviceFailed old new → NoDeviceFailed old mid
none_failed_before old mid new later none slot of_bank up = by_state (mid.down slot) refl
  where
    by_state : (b : Bool) → mid.down slot ≡ b → mid.down slot ≡ false
    by_state true down = absurd (true≢false (sym (later.down slot down) ∙ none slot of_bank up))
    by_state false still = still

none_failed_after : (old mid new : Panel) → IsLater old mid → NoDeviceFailed old new → NoDeviceFailed mid new
none_failed_after old mid new later none slot of_bank up = by_state (old.down slot) refl
  where
    by_state : (b : Bool) → old.down slot ≡ b → new.down slot ≡ false
    by_state true down = absurd (true≢false (sym (later.down slot down) ∙ up))
    by_state false was_up = none slot (omega (arith, of_bank, later.devices)) was_up

pub read_more : (first n : ℕ) (old mid new : ArrayView) (sectors : List Bytes) (to : Bytes) → n < length sectors → GoesOn old mid → GoesOn mid new
    → NoDeviceFailed old.panel new.panel
    → (NoDeviceFailed old.panel mid.panel → HaveReadWhole first n old mid sectors) → (NoDeviceFailed mid.panel new.panel → ReadsWhole (first + n) mid new to)
    → HaveReadWhole first (n + 1) old new (set sectors n to)
read_more first n old mid new sectors to within goes goes_then none before one =
    let was = before (none_failed_before old.panel mid.panel new.panel goes_then.later none) in
    let now = one (none_failed_after old.panel mid.panel new.panel goes.later none) in
    record {
      given = below_more (λ (k : ℕ). length (get_or (list_read old) (first + k) []) ≡ 512
          → get_or (set sectors n to) k [] ≡ get_or (list_read old) (first + k) []) n
          (λ k below whole. get_or-set_other sectors n k to [] (λ same. omega (arith, below, same)) ∙ was.given k below whole)
          (λ whole. get_or-set_same sectors n to [] within ∙ now.given (ap length (was.stays (first + n) whole) ∙ whole) ∙ was.stays (first + n) whole);
      stays = λ sector whole. now.stays sector (ap length (was.stays sector whole) ∙ whole) ∙ was.stays sector whole;
    }

-- where what reads give spells a table, its first sector was read
pub first_spelled : (old new : ArrayView) (to : Bytes) (table : VolumeTable) → ReadsWhole 0 old new to → Spell (list_read old) table
    → to ≡ first_sector table.version
first_spelled old new to table read spelled =
    let first = first_of_spelled (list_read old) table spelled in
    read.given (ap length first ∙ sym (ap length (first_of_spelled (table_sectors table) table
    (take_all (table_length table.version) (table_sectors table) (le_of_eq (fills table).0))))
    ∙ (fills table).1 0 (omega (arith, table_long table.version))) ∙ first

-- ---- the first sector, and then those after it

-- one read, and then others
pub read_then : (honest still : Type 0) → (honest → still) → (old mid new : ArrayView) (answer : Answer) → (honest → IsTrueTo mid.panel mid.history)
    → ChangesList honest 0 IsSame IsSame old mid (Ok tt) → ChangesList still 0 IsSame IsSame mid new answer → ChangesList honest 0 IsSame IsSame old new answer
read_then honest still goes old mid new answer true_to first beyond =
    changes_both honest still goes 0 0 IsSame IsSame IsSame IsSame IsSame IsSame old mid new answer true_to first beyond
    (λ V W same. same) (λ V U W one two. two ∙ one) (λ V U W one two. two ∙ one)

pub then_ends : (honest : Type 0) (old mid new : ArrayView) (answer : Answer) (refusal : Refusal) → ChangesList honest 0 IsSame IsSame old new answer
    → IsEndOf mid new ⊥ refusal → IsEndOf old new ⊥ refusal
then_ends honest old mid new answer refusal changes end =
    end_of_both honest old mid new (HasEnded answer) changes.stays refusal end (two_or_worn mid new refusal end)

-- the first n of some sectors are one sector, and a part after it
pub record IsPut (n : ℕ) (first : Bytes) (part sectors : List Bytes) : Type 0 where
  pub begins : take n sectors ≡ first ∷ part
  pub long : length part + 1 ≡ n

pub put_is : (n : ℕ) (sectors part : List Bytes) (first : Bytes) → 0 < length sectors → length part + 1 ≡ n
    → IsPut n first part (put_mid 1 (n - 1) (set sectors 0 first) part)
put_is n [] part first some long = absurd (omega (arith, some))
put_is n (sector ∷ sectors) part first some long = record {
  begins = take-put_mid 1 (n - 1) (first ∷ sectors) part n (omega (arith, long)) (omega arith);
  long = long;
}

put_first : (n : ℕ) (first : Bytes) (part sectors : List Bytes) → IsPut n first part sectors → get_or sectors 0 [] ≡ first
put_first n first part sectors put = sym (get_or-take n sectors 0 [] (omega (arith, put.long))) ∙ ap (λ (list : List Bytes). get_or list 0 []) put.begins

begins_so : (n : ℕ) (first : Bytes) (part sectors other : List Bytes) → IsPut n first part sectors → n ≤ length other → first ≡ get_or other 0 []
    → ((k : ℕ) → k + 1 < n → get_or part k [] ≡ get_or other (k + 1) []) → take n sectors ≡ take n other
begins_so n first part sectors other put enough same each =
    put.begins ∙ ext_get_or [] (first ∷ part) (take n other) (omega (arith, put.long, length-take-le n other enough)) at
  where
    at : (k : ℕ) → k < length (first ∷ part) → get_or (first ∷ part) k [] ≡ get_or (take n other) k []
    at zero below = same ∙ sym (get_or-take n other 0 [] (omega (arith, put.long)))
    at (suc k) below =
        let within : k + 1 < n = omega (arith, below, put.long) in
        each k within ∙ ap (λ (i : ℕ). get_or other i []) (omega arith) ∙ sym (get_or-take n other (suc k) [] (omega (arith, within)))

-- the part is that of the sectors after the first
pub length-beyond : (n : ℕ) (sectors : List Bytes) (first : Bytes) → length sectors ≡ TABLE_SECTORS → n ≤ TABLE_SECTORS
    → length (mid_of 1 (n - 1) (set sectors 0 first)) ≡ n - 1
length-beyond n sectors first long within =
    length-take-le (n - 1) (drop 1 (set sectors 0 first)) (omega (arith, within, length-drop 1 (set sectors 0 first), length-set sectors 0 first, long))

-- at rest they are those of the list
reads_table : (format : Format) (array : ArrayView) (lost : Option Lost) (V : List Bytes) (version n : ℕ) (first : Bytes) (part sectors : List Bytes)
    (table : VolumeTable) → IsOfFormat format table
    → RestsOn array lost V → IsVersionIn format version
    → first ≡ first_sector version → n ≡ table_length version → IsPut n first part sectors → first ≡ get_or V 0 [] → part ≡ take (n - 1) (drop 1 V)
    → Spell sectors table ↔ Spell V table
reads_table format array lost V version n first part sectors table of_format rests is says so_many put same beyond = (
  spells_too format version sectors V table of_format is (put_first n first part sectors put ∙ says) (sym both),
  spells_too format version V sectors table of_format is (sym same ∙ says) both,
)
  where
    each : (k : ℕ) → k + 1 < n → get_or part k [] ≡ get_or V (k + 1) []
    each k below =
        ap (λ (list : List Bytes). get_or list k []) beyond ∙ get_or-take (n - 1) (drop 1 V) k [] (omega (arith, below)) ∙ get_or-drop 1 V k []
        ∙ ap (λ (i : ℕ). get_or V i []) (omega arith)

    both : take (table_length version) sectors ≡ take (table_length version) V
    both = subst (λ (m : ℕ). take m sectors ≡ take m V) so_many (begins_so n first part sectors V put
        (omega (arith, so_many, table_short version, rests_long array lost V rests, has_table_sectors array.table.geometry)) same each)

-- and so where the part was read after the first
pub gives_table : (format : Format) (honest : Type 0) (old mid : ArrayView) (version n : ℕ) (first : Bytes) (part sectors : List Bytes) {m : ℕ}
    → IsVersionIn format version
    → first ≡ first_sector version
    → n ≡ table_length version → IsPut n first part sectors → m ≡ n - 1 → Reads honest 0 old mid first (Ok tt)
    → ((lost : Option Lost) (V : List Bytes) → RestsOn mid lost V → part ≡ take m (drop 1 V))
    → honest → (lost : Option Lost) (V : List Bytes) (table : VolumeTable) → IsOfFormat format table → RestsOn old lost V
    → Spell sectors table ↔ Spell V table
gives_table format honest old mid version n first part sectors {m} is says so_many put long reads gives fair lost V table of_format rests =
    let now = (changes_read honest 0 old mid first (Ok tt) reads).rests fair refl lost V rests in
    reads_table format old lost V version n first part sectors table of_format rests is says so_many put (reads.sector fair refl lost V rests)
    (gives now.rests.lost now.logical now.rests.rests ∙ ap (λ (k : ℕ). take k (drop 1 now.logical)) long
    ∙ ap (λ (list : List Bytes). take (n - 1) (drop 1 list)) now.is)

-- what is so where a call is answered
pub where_ok : {P Q : Type 0} (answer : Answer) → OnOk answer P → (P → Q) → OnOk answer Q
where_ok (Ok done) so then_so = then_so so
where_ok (Err refusal) so then_so = tt

-- where none failed and what reads give spells a table, they spell it
pub reads_spelled : (format : Format) (old mid new : ArrayView) (version n : ℕ) (first : Bytes) (part sectors : List Bytes) (table : VolumeTable)
    → IsOfFormat format table → IsVersionIn format version
    → first ≡ first_sector version → n ≡ table_length version
    → IsPut n first part sectors → GoesOn old mid → GoesOn mid new → NoDeviceFailed old.panel new.panel
    → (NoDeviceFailed old.panel mid.panel → ReadsWhole 0 old mid first)
    → (NoDeviceFailed mid.panel new.panel → (k : ℕ) → k < n - 1 → length (get_or (list_read mid) (1 + k) []) ≡ 512
    → get_or part k [] ≡ get_or (list_read mid) (1 + k) [])
    → Spell (list_read old) table → Spell sectors table
reads_spelled format old mid new version n first part sectors table of_format is says so_many put goes goes_then none one more spelled =
    spells_too format version (table_sectors table) sectors table of_format is (first_of_spelled (table_sectors table) table itself ∙ ap first_sector its) both
    itself
  where
    read : ReadsWhole 0 old mid first
    read = one (none_failed_before old.panel mid.panel new.panel goes_then.later none)

    itself : Spell (table_sectors table) table
    itself = take_all (table_length table.version) (table_sectors table) (le_of_eq (fills table).0)

    its : table.version ≡ version
    its = same_version format table.version version (in_format format table of_format) is (sym (first_spelled old mid first table read spelled) ∙ says)

    fits : n ≡ table_length table.version
    fits = so_many ∙ ap table_length (sym its)

    here : (k : ℕ) → k < n → get_or (list_read old) k [] ≡ get_or (table_sectors table) k []
    here k below =
        sym (get_or-take (table_length table.version) (list_read old) k [] (omega (arith, below, fits))) ∙ ap (λ (list : List Bytes). get_or list k []) spelled

    whole : (k : ℕ) → k < n → length (get_or (list_read old) k []) ≡ 512
    whole k below = ap length (here k below) ∙ (fills table).1 k (omega (arith, below, fits))

    each : (k : ℕ) → k + 1 < n → get_or part k [] ≡ get_or (table_sectors table) (k + 1) []
    each k below =
        let stays : get_or (list_read mid) (k + 1) [] ≡ get_or (list_read old) (k + 1) [] = read.stays (k + 1) (whole (k + 1) below) in
        let next : 1 + k ≡ k + 1 = omega arith in
        more (none_failed_after old.panel mid.panel new.panel goes.later none) k (omega (arith, below))
        (ap (λ (i : ℕ). length (get_or (list_read mid) i [])) next ∙ ap length stays ∙ whole (k + 1) below)
        ∙ ap (λ (i : ℕ). get_or (list_read mid) i []) next ∙ stays ∙ here (k + 1) below

    both : take (table_length version) sectors ≡ take (table_length version) (table_sectors table)
    both = subst (λ (m : ℕ). take m sectors ≡ take m (table_sectors table)) so_many
        (begins_so n first part sectors (table_sectors table) put (omega (arith, fits, (fills table).0))
        (first_spelled old mid first table read spelled ∙ sym (first_of_spelled (table_sectors table) table itself)) each)

-- ---- the map of the extents

-- whether an extent is the one at a place of a volume
is_owner : (owner : Option Owned) (volume place : ℕ) → (owner ≡ Some record { volume = volume; place = place })
    ⊎ (owner ≢ Some record { volume = volume; place = place })
is_owner None volume place = inr (λ is. none-some _ is)
is_owner (Some owned) volume place = elim (cases_eq owned.volume volume) [
  | inl of_volume ↦ elim (cases_eq owned.place place) [
    | inl at_place ↦ inl (ap₂ (λ (v p : ℕ). Some record { volume = v; place = p }) of_volume at_place)
    | inr elsewhere ↦ inr (λ is. elsewhere (ap (λ (o : Owned). o.place) (same_Some owned _ is)))
  ]
  | inr of_other ↦ inr (λ is. of_other (ap (λ (o : Owned). o.volume) (same_Some owned _ is)))
]

-- the extent at a place, or that there is none
find_at : (owners : List (Option Owned)) (volume place : ℕ) → ((extent : ℕ) × IsAt owners extent volume place)
    ⊎ ((extent : ℕ) → ¬ IsAt owners extent volume place)
find_at [] volume place = inr (λ extent is. none-some _ is)
find_at (owner ∷ owners) volume place = elim (is_owner owner volume place) [
  | inl here ↦ inl (0, here)
  | inr not_here ↦ elim (find_at owners volume place) [
    | inl (extent, at) ↦ inl (suc extent, at)
    | inr none ↦ inr (not_in none not_here)
  ]
]
  where
    not_in : ((extent : ℕ) → ¬ IsAt owners extent volume place) → (owner ≢ Some record { volume = volume; place = place }) → (extent : ℕ)
        → ¬ IsAt (owner ∷ owners) extent volume place
    not_in none not_here zero at = not_here at
    not_in none not_here (suc extent) at = none extent at

-- a map that is known to be one is one
map_itself : (owners : List (Option Owned)) → ∥ IsExtentMap owners ∥₁ → IsExtentMap owners
map_itself owners known = record {
  at_most = ∥∥₁_elim known (hlevel props) (λ map. map.at_most);
  volumes = λ extent volume place at. ∥∥₁_elim known (hlevel props) (λ map. map.volumes extent volume place at);
  places = λ volume. (
    count_of owners volume,
    record {
      extent_at = λ place below. elim (find_at owners volume place) [
        | inl at ↦ at
        | inr none ↦ absurd (∥∥₁_elim known (hlevel props)
            (λ map. let at = ((extents_are_counted owners map).places volume).extent_at place below in none at.0 at.1))
      ];
      below = λ extent place at. ∥∥₁_elim known (hlevel props) (λ map. ((extents_are_counted owners map).places volume).below extent place at);
      once = λ first second place one two. ∥∥₁_elim known (hlevel props)
          (λ map. ((extents_are_counted owners map).places volume).once first second place one two);
    },
  );
}

pub table_has_map : (extents : ExtentLayout) (table : VolumeTable) → IsOfSet extents table → IsExtentMap (take extents.count table.extents)
table_has_map extents table of_set =
    map_itself (take extents.count table.extents) (∥∥₁_elim table.is_table (hlevel props)
    (λ is. ∣ table_is_extent_map extents table.version table.records table.extents is of_set.free_beyond ∣₁))

-- ---- the records

-- at each moment a case that holds for the list alone stands for its volumes
stands_for : (base : Table) (devices : ℕ) (lost : Option Lost) (V : List Bytes) (volumes : VolumeMap) → Shows (extents_in base.geometry) V volumes
    → (h : History)
    → HoldsForSomeNow base devices lost (IsSame V) h → StandsNow base devices lost (volumes ∷ []) h
stands_for base devices lost V volumes shown h now after image is may =
    let some = now after image is may in
    record {
      lists = some.lists;
      holds = some.holds;
      shown = λ logical among. record {
        volumes = volumes;
        among = Contains-push [] volumes;
        shown = subst (λ (l : List Bytes). Shows (extents_in base.geometry) l volumes) (sym (some.each logical among)) shown;
      };
    }

same_store : (given store : StoreView) → Opened given ≡ Opened store → given ≡ store
same_store given store is = cc

not_opened : (bank : BankView) (refusal : Refusal) (store : StoreView) → Returned bank refusal ≡ Opened store → ⊥
not_opened bank refusal store is = cc

not_returned : (store : StoreView) (bank : BankView) (refusal : Refusal) → Opened store ≡ Returned bank refusal → ⊥
not_returned store bank refusal is = cc

same_bank : (given bank : BankView) (cause refusal : Refusal) → Returned given cause ≡ Returned bank refusal → given ≡ bank
same_bank given bank cause refusal is = cc

same_refusal : (given bank : BankView) (cause refusal : Refusal) → Returned given cause ≡ Returned bank refusal → cause ≡ refusal
same_refusal given bank cause refusal is = cc

module _ (honest : Type 0) (old new : ArrayView) where
  moments : (answer : Answer) → ChangesList honest 0 IsSame IsSame old new answer → honest → (lost : Option Lost) (V : List Bytes) (volumes : VolumeMap)
      → RestsOn old lost V
      → Shows (extents_in old.table.geometry) V volumes → StandsThroughout old.table old.panel.devices lost (volumes ∷ []) old.history new.history
  moments answer changes fair lost V volumes rests shown =
      throughout_more (stands_for old.table old.panel.devices lost V volumes shown) new.history (changes.moments fair lost V rests)

  -- the bank is given back
  given_up : (answer : Answer) (refusal : Refusal) → ChangesList honest 0 IsSame IsSame old new answer
      → IsNoOpening honest old (record { panel = new.panel; history = new.history }) refusal
      → Opens honest old (given_back new.panel new.history refusal)
  given_up answer refusal changes no_opening = record {
    later = changes.goes_on.later;
    going = λ store is. absurd (not_opened _ refusal store is);
    goes_on = λ store is. absurd (not_opened _ refusal store is);
    stays = λ store is. absurd (not_opened _ refusal store is);
    moments = moments answer changes;
    settled = λ fair lost V volumes rests shown store is. absurd (not_opened _ refusal store is);
    of_set = λ store is. absurd (not_opened _ refusal store is);
    spelled = λ fair lost V rests store is. absurd (not_opened _ refusal store is);
    cause = λ bank why is. subst (λ (b : BankView). IsNoOpening honest old b why) (same_bank _ bank refusal why is)
        (subst (IsNoOpening honest old (record { panel = new.panel; history = new.history })) (same_refusal _ bank refusal why is) no_opening);
  }

  ends_opening : (refusal : Refusal) → ChangesList honest 0 IsSame IsSame old new (Err refusal) → IsEndOf old new ⊥ refusal
      → IsNoOpening honest old (record { panel = new.panel; history = new.history }) refusal
  ends_opening TwoLost changes end = record {
    array = new;
    panel = refl;
    history = refl;
    goes_on = changes.goes_on;
    stays = record { table = changes.stays.table; failure = λ fair goes. absurd (goes tt) };
    ends = end;
  }
  ends_opening Worn changes end = record {
    array = new;
    panel = refl;
    history = refl;
    goes_on = changes.goes_on;
    stays = record { table = changes.stays.table; failure = λ fair goes. absurd (goes tt) };
    ends = end;
  }
  ends_opening refusal changes end = absurd end

  -- a read was refused
  pub open_ended : (refusal : Refusal) → ChangesList honest 0 IsSame IsSame old new (Err refusal) → IsEndOf old new ⊥ refusal
      → Opens honest old (given_back new.panel new.history refusal)
  open_ended refusal changes end = given_up (Err refusal) refusal changes (ends_opening refusal changes end)

  -- the sectors that were read are no table of the set
  pub open_refused : (sectors : List Bytes) → ChangesList honest 0 IsSame IsSame old new (Ok tt)
      → ((table : VolumeTable) → Spell sectors table → ¬ IsOfSet (extents_in old.table.geometry) table)
      → (honest → (lost : Option Lost) (V : List Bytes) (table : VolumeTable) → IsOfFormat old.table.geometry.format table → RestsOn old lost V
      → Spell sectors table ↔ Spell V table)
      → (honest → NoDeviceFailed old.panel new.panel → (table : VolumeTable) → IsOfFormat old.table.geometry.format table → Spell (list_read old) table
      → Spell sectors table)
      → Opens honest old (given_back new.panel new.history BadTable)
  open_refused sectors changes no_table gives spelled = given_up (Ok tt) BadTable changes (
    λ fair lost V volumes rests shown. no_table shown.table
        ((gives fair lost V shown.table (of_format_in old.table.geometry shown.table shown.of_set) rests).1 shown.spelled) shown.of_set,
    λ fair none table spells of_set. no_table table (spelled fair none table (of_format_in old.table.geometry table of_set) spells) of_set,
  )

  -- they are one
  pub open_done : (keeps : VolumeTable) → ChangesList honest 0 IsSame IsSame old new (Ok tt) → IsOfSet (extents_in old.table.geometry) keeps
      → (honest → (lost : Option Lost) (V : List Bytes) → RestsOn old lost V → Spell V keeps) → Opens honest old (opened (store_of new keeps None))
  open_done keeps changes of_set spelled = record {
    later = changes.goes_on.later;
    going = λ store is. subst (λ (s : StoreView). s.ended ≡ None) (same_store _ store is) refl;
    goes_on = λ store is. subst (λ (s : StoreView). GoesOn old s.array) (same_store _ store is) changes.goes_on;
    stays = λ store is. subst (λ (s : StoreView). StaysButForFailures honest old s.array ⊥) (same_store _ store is) changes.stays;
    moments = moments (Ok tt) changes;
    settled = λ fair lost V volumes rests shown store is. subst (λ (s : StoreView). IsSettledAfter lost s volumes) (same_store _ store is)
        (settled fair lost V volumes rests shown);
    of_set = λ store is. subst (λ (s : StoreView). IsOfSet (extents_in old.table.geometry) s.keeps) (same_store _ store is) of_set;
    spelled = λ fair lost V rests store is. subst (λ (s : StoreView). Spell V s.keeps) (same_store _ store is) (spelled fair lost V rests);
    cause = λ bank refusal is. absurd (not_returned _ bank refusal is);
  }
    where
      settled : honest → (lost : Option Lost) (V : List Bytes) (volumes : VolumeMap) → RestsOn old lost V → Shows (extents_in old.table.geometry) V volumes
          → IsSettledAfter lost (store_of new keeps None) volumes
      settled fair lost V volumes rests shown =
          let some = changes.rests fair refl lost V rests in
          record {
            lost = some.rests.lost;
            is_lost = some.rests.is_lost;
            settled = record {
              logical = some.logical;
              rests = some.rests.rests;
              shown = subst (λ (g : Geometry). Shows (extents_in g) some.logical volumes) (sym changes.goes_on.not_older.same_geometry)
                  (subst (λ (l : List Bytes). Shows (extents_in old.table.geometry) l volumes) (sym some.is) shown);
              spelled = subst (λ (l : List Bytes). Spell l keeps) (sym some.is) (spelled fair lost V rests);
              of_format = subst (λ (g : Geometry). IsOfFormat (extents_in g).format keeps) (sym changes.goes_on.not_older.same_geometry) of_set.version;
              going = refl;
            };
          }
