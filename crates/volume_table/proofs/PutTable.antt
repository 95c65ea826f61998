-- The table of volumes is put: the sectors that differ are written.
use Rattle.std.proofs.Common.{◌≡◌, ◌≢◌, ◌⊎◌, inl, inr, ℕ, ◌+◌, ◌<◌, ◌≤◌, List, [], ◌∷◌, ◌++◌, length, get_or, take, Option, refl, sym, ◌∙◌, ap, subst, arith}
use Rattle.std.proofs.lemmas.Bool.{cases_eq, cases_lt}
use Rattle.std.proofs.lemmas.List.{ext_get_or, get_or-take, length-take, length-take-le, length-append, get_or_append_left, get_or-append-add}
use Rattle.std.specs.Prelude.{Ok}
use Rattle.sector_model.specs.History.{Bytes}
use Rattle.superblock.specs.declared.table.Table.{Table}
use Rattle.superblock.specs.Cases.{Lost}
use Rattle.array_io.specs.Believed.ArrayCalls.{Answer, Commits, MayCommit, written}
use Rattle.array_io.specs.Believed.Views.{ArrayView, RestsOn}
use Rattle.extents.specs.declared.volume_table.VolumeTable.{VolumeTable}
use Rattle.extents.specs.TableSpelling.{Spell, table_sectors}
use Rattle.extents.specs.Versions.{table_length}
use Rattle.extents.proofs.Versions.{table_length_most, table_length_some}
use Rattle.extents.proofs.TableLaws.{fills, same_spelled}
use Rattle.volume_table.specs.Volumes.{Block}
use Rattle.volume_table.specs.ListChanges.{ChangesList, IsSameOr}
use Rattle.volume_table.specs.StoreChanges.{AreAll, AreChangedBelow, AreTheChanged, HasTable, MayPutTable, PutsTable, no_sector}
use Rattle.volume_table.proofs.ListChanges.{changes_commit, changes_more, changes_none, rests_long}
use Rattle.volume_table.proofs.TableSizes.{has_table_sectors}
use Rattle.volume_table.proofs.WrittenSectors.{length-written, written_at, written_elsewhere}

-- none of the first 0 sectors
pub none_changed : (before after : List Block) → AreChangedBelow 0 before after []
none_changed before after = record {
  most = omega arith;
  below = λ i within. absurd (omega (arith, within));
  rising = λ i j less within. absurd (omega (arith, within));
  new = λ i within. absurd (omega (arith, within));
  all = λ number below. absurd (omega (arith, below));
}

-- the next sector is the same
pub same_more : (n : ℕ) (before after : List Block) (sectors : List (ℕ × Block)) → AreChangedBelow n before after sectors
    → get_or after n [] ≡ get_or before n []
    → AreChangedBelow (n + 1) before after sectors
same_more n before after sectors are same = record {
  most = omega (arith, are.most);
  below = λ i within. omega (arith, are.below i within);
  rising = are.rising;
  new = are.new;
  all = λ number below. elim (cases_eq number n) [
    | inl is ↦ inr (subst (λ (k : ℕ). get_or after k [] ≡ get_or before k []) (sym is) same, λ i within at. omega (arith, are.below i within, at, is))
    | inr apart ↦ are.all number (omega (arith, below, apart))
  ];
}

-- the next sector differs, and is added
module _ (n : ℕ) (before after : List Block) (sectors now : List (ℕ × Block)) (are : AreChangedBelow n before after sectors)
    (is : now ≡ sectors ++ (n, get_or after n []) ∷ []) where
  abbrev last : ℕ × Block
  last = (n, get_or after n [])

  long : length now ≡ length sectors + 1
  long = ap length is ∙ length-append sectors (last ∷ [])

  earlier : (i : ℕ) → i < length sectors → get_or now i no_sector ≡ get_or sectors i no_sector
  earlier i within = ap (λ (xs : List (ℕ × Block)). get_or xs i no_sector) is ∙ get_or_append_left sectors (last ∷ []) no_sector i within

  newest : get_or now (length sectors) no_sector ≡ last
  newest = ap (λ (xs : List (ℕ × Block)). get_or xs (length sectors) no_sector) is
      ∙ ap (λ (k : ℕ). get_or (sectors ++ last ∷ []) k no_sector) (omega arith) ∙ get_or-append-add sectors (last ∷ []) 0 no_sector

  -- one of those before, or the new one
  which : (i : ℕ) → i < length now → (i < length sectors) ⊎ (i ≡ length sectors)
  which i within = elim (cases_lt i (length sectors)) [
    | inl below ↦ inl below
    | inr past ↦ inr (omega (arith, within, past, long))
  ]

  number_at : (i : ℕ) → i < length sectors → (get_or now i no_sector).0 ≡ (get_or sectors i no_sector).0
  number_at i within = ap (λ (s : ℕ × Block). s.0) (earlier i within)

  number_new : (get_or now (length sectors) no_sector).0 ≡ n
  number_new = ap (λ (s : ℕ × Block). s.0) newest

  number_of_new : (i : ℕ) → i ≡ length sectors → (get_or now i no_sector).0 ≡ n
  number_of_new i same = ap (λ (k : ℕ). (get_or now k no_sector).0) same ∙ number_new

  new_bytes : (i : ℕ) → i < length now → (get_or now i no_sector).1 ≡ get_or after (get_or now i no_sector).0 []
  new_bytes i within = elim (which i within) [
    | inl below ↦ ap (λ (s : ℕ × Block). s.1) (earlier i below) ∙ are.new i below ∙ ap (λ (k : ℕ). get_or after k []) (sym (number_at i below))
    | inr same ↦ ap (λ (k : ℕ). (get_or now k no_sector).1) same ∙ ap (λ (s : ℕ × Block). s.1) newest
        ∙ ap (λ (k : ℕ). get_or after k []) (sym (number_of_new i same))
  ]

  rises : (i j : ℕ) → i < j → j < length now → (get_or now i no_sector).0 < (get_or now j no_sector).0
  rises i j less within = elim (which j within) [
    | inl below ↦ omega (arith, are.rising i j less below, number_at i (omega (arith, less, below)), number_at j below)
    | inr same ↦ omega (arith, are.below i (omega (arith, less, same)), number_at i (omega (arith, less, same)), number_of_new j same)
  ]

  all_told : (number : ℕ) → number < n + 1 → ((i : ℕ) × (i < length now) × ((get_or now i no_sector).0 ≡ number))
      ⊎ ((get_or after number [] ≡ get_or before number []) × ((i : ℕ) → i < length now → (get_or now i no_sector).0 ≢ number))
  all_told number below = elim (cases_eq number n) [
    | inl same ↦ inl (length sectors, omega (arith, long), number_new ∙ sym same)
    | inr apart ↦ elim (are.all number (omega (arith, below, apart))) [
      | inl found ↦ inl (found.0, omega (arith, found.1, long), number_at found.0 found.1 ∙ found.2)
      | inr told ↦ inr (
        told.0,
        λ i within at. elim (which i within) [
          | inl earlier_one ↦ told.1 i earlier_one (sym (number_at i earlier_one) ∙ at)
          | inr same ↦ apart (sym at ∙ number_of_new i same)
        ],
      )
    ]
  ]

  pub changed_more : AreChangedBelow (n + 1) before after now
  changed_more = record {
    most = omega (arith, are.most, long);
    below = λ i within. elim (which i within) [
      | inl earlier_one ↦ omega (arith, are.below i earlier_one, number_at i earlier_one)
      | inr same ↦ omega (arith, number_of_new i same)
    ];
    rising = rises;
    new = new_bytes;
    all = all_told;
  }

-- all sectors so far: each was added with its number
pub record AreAllBelow (n : ℕ) (after : List Block) (sectors : List (ℕ × Block)) : Type 0 where
  pub changed : (before : List Block) → AreChangedBelow n before after sectors
  pub long : length sectors ≡ n
  pub each : (k : ℕ) → k < n → (get_or sectors k no_sector).0 ≡ k

pub none_so_far : (after : List Block) → AreAllBelow 0 after []
none_so_far after = record { changed = λ before. none_changed before after; long = refl; each = λ k below. absurd (omega (arith, below)) }

pub one_more : (n : ℕ) (after : List Block) (sectors now : List (ℕ × Block)) → AreAllBelow n after sectors → now ≡ sectors ++ (n, get_or after n []) ∷ []
    → AreAllBelow (n + 1) after now
one_more n after sectors now are is = record {
  changed = λ before. changed_more n before after sectors now (are.changed before) is;
  long = long n [] after sectors now (are.changed []) is ∙ ap (λ (k : ℕ). k + 1) are.long;
  each = λ k below. elim (cases_lt k n) [
    | inl earlier_one ↦ number_at n [] after sectors now (are.changed []) is k (omega (arith, earlier_one, are.long)) ∙ are.each k earlier_one
    | inr past ↦ number_of_new n [] after sectors now (are.changed []) is k (omega (arith, below, past, are.long))
        ∙ (let same : n ≡ k = omega (arith, below, past) in same)
  ];
}

pub all_of_version : (version : ℕ) (after : List Block) (sectors : List (ℕ × Block)) → AreAllBelow (table_length version) after sectors
    → AreAll version after sectors
all_of_version version after sectors are = record {
  changed = are.changed;
  each = λ number below. (number, omega (arith, below, are.long), are.each number below);
}

-- the sectors that differ may be committed
pub may_put : (version : ℕ) (table : Table) (before after : List Block) (sectors : List (ℕ × Block)) → 1 ≤ length sectors
    → AreTheChanged version before after sectors → MayCommit table sectors
may_put version table before after sectors some are = record {
  least = some;
  most = omega (arith, are.most, table_length_most version);
  of_set = λ i within. omega (arith, are.below i within, has_table_sectors table.geometry, table_length_most version);
  apart = λ i j less within same. omega (arith, are.rising i j less within, same);
}

-- and so may all
pub may_put_all : (version : ℕ) (table : Table) (after : List Block) (sectors : List (ℕ × Block)) → AreAll version after sectors → MayCommit table sectors
may_put_all version table after sectors are =
    let first = are.each 0 (omega (arith, table_length_some version)) in
    may_put version table after after sectors (omega (arith, first.1)) (are.changed after)

-- the sectors of a table's spelling
spelled_at : (sectors : List Block) (table : VolumeTable) (k : ℕ) → k < table_length table.version → Spell sectors table
    → get_or sectors k [] ≡ get_or (table_sectors table) k []
spelled_at sectors table k below is = sym (get_or-take (table_length table.version) sectors k [] below) ∙ ap (λ (xs : List Block). get_or xs k []) is

-- With these written the list has the table, where the sectors that are not written are those of the list.
module _ (V before after : List Block) (table : VolumeTable) (sectors : List (ℕ × Block)) (are : AreTheChanged table.version before after sectors)
    (spells : Spell after table)
    (enough : table_length table.version ≤ length V)
    (begins : (k : ℕ) → k < table_length table.version → ((i : ℕ) → i < length sectors → (get_or sectors i no_sector).0 ≢ k)
    → get_or V k [] ≡ get_or before k []) where
  abbrev n : ℕ
  n = table_length table.version

  taken : (W : List Block) → n ≤ length W → length (take n W) ≡ n
  taken W fits = length-take-le n W fits

  apart : (a b : ℕ) → a < b → b < length sectors → (get_or sectors a no_sector).0 ≢ (get_or sectors b no_sector).0
  apart a b less within same = omega (arith, are.rising a b less within, same)

  number_spelled : (k : ℕ) → k < n → get_or (written V sectors) k [] ≡ get_or (table_sectors table) k []
  number_spelled k below = elim (are.all k below) [
    | inl found ↦
        subst (λ (m : ℕ). get_or (written V sectors) m [] ≡ get_or (table_sectors table) m []) found.2
        (written_at V sectors found.0 apart found.1 (omega (arith, are.below found.0 found.1, enough)) ∙ are.new found.0 found.1
        ∙ spelled_at after table (get_or sectors found.0 no_sector).0 (are.below found.0 found.1) spells)
    | inr told ↦ written_elsewhere V sectors k told.1 ∙ begins k below told.1 ∙ sym told.0 ∙ spelled_at after table k below spells
  ]

  spelled_in : (k : ℕ) → k < length (take n (written V sectors)) → get_or (take n (written V sectors)) k [] ≡ get_or (table_sectors table) k []
  spelled_in k within =
      let below : k < n = omega (arith, within, taken (written V sectors) (omega (arith, enough, length-written V sectors))) in
      get_or-take n (written V sectors) k [] below ∙ number_spelled k below

  pub has_table : HasTable table V (written V sectors)
  has_table = record {
    as_long = length-written V sectors;
    spelled = ext_get_or [] (take n (written V sectors)) (table_sectors table) (taken (written V sectors) (omega (arith, enough, length-written V sectors))
        ∙ sym ((fills table).0)) spelled_in;
    beyond = λ sector past. written_elsewhere V sectors sector (λ i within at. omega (arith, are.below i within, at, past));
  }

long_enough : (version : ℕ) (array : ArrayView) (lost : Option Lost) (V : List Bytes) → RestsOn array lost V → table_length version ≤ length V
long_enough version array lost V rests = omega (arith, rests_long array lost V rests, has_table_sectors array.table.geometry, table_length_most version)

-- the commit of sectors puts the table, where those that are not written are those of each list on which the array is settled
puts_by : (honest : Type 0) (before after : List Block) (first table : VolumeTable) (sectors given : List (ℕ × Block)) (old new : ArrayView) (answer : Answer)
    → AreTheChanged table.version before after sectors → Spell after table → given ≡ sectors → Commits honest given old new answer
    → ((V : List Block) → Spell V first → (k : ℕ) → k < table_length table.version → ((i : ℕ) → i < length sectors → (get_or sectors i no_sector).0 ≢ k)
    → get_or V k [] ≡ get_or before k [])
    → ChangesList honest 1 (MayPutTable first table) (PutsTable first table) old new answer
puts_by honest before after first table sectors given old new answer are spells is_given commits begins =
    changes_more honest 1 1 (IsSameOr (λ V W. W ≡ written V sectors)) (λ V W. W ≡ written V sectors) (MayPutTable first table) (PutsTable first table) old new
    answer (omega arith)
    (changes_commit honest sectors old new answer (subst (λ (those : List (ℕ × Block)). Commits honest those old new answer) is_given commits))
    (λ lost V W rests either spelled. elim either [
      | inl same ↦ inl same
      | inr is ↦ inr (subst (HasTable table V) (sym is)
          (has_table V before after table sectors are spells (long_enough table.version old lost V rests) (begins V spelled)))
    ])
    (λ lost V W rests is spelled. subst (HasTable table V) (sym is)
    (has_table V before after table sectors are spells (long_enough table.version old lost V rests) (begins V spelled)))

-- a list that begins with a spelling is as long
spelled_long : (V : List Block) (first : VolumeTable) (version : ℕ) → first.version ≡ version → Spell V first → table_length version ≤ length V
spelled_long V first version same spelled =
    subst (λ (v : ℕ). table_length v ≤ length V) same
    (omega (arith, length-take (table_length first.version) V, ap length spelled ∙ (fills first).0))

-- two lists that begin with one spelling have the same sectors there
same_start : (V before : List Block) (first : VolumeTable) (version k : ℕ) → first.version ≡ version → k < table_length version → Spell before first
    → Spell V first → get_or V k [] ≡ get_or before k []
same_start V before first version k same below spells spelled =
    let within : k < table_length first.version = subst (λ (v : ℕ). k < table_length v) (sym same) below in
    spelled_at V first k within spelled ∙ sym (spelled_at before first k within spells)

-- the commit of the sectors that differ puts a table of the same version
pub puts_table : (honest : Type 0) (before after : List Block) (first table : VolumeTable) (sectors given : List (ℕ × Block)) (old new : ArrayView)
    (answer : Answer)
    → AreTheChanged table.version before after sectors → Spell after table → given ≡ sectors → Commits honest given old new answer → Spell before first
    → first.version ≡ table.version
    → ChangesList honest 1 (MayPutTable first table) (PutsTable first table) old new answer
puts_table honest before after first table sectors given old new answer are spells is_given commits begins same =
    puts_by honest before after first table sectors given old new answer are spells is_given commits
    (λ V spelled k below unwritten. same_start V before first table.version k same below begins spelled)

-- the commit of all sectors puts one of any version: whichever list is there, what is not written of it would be as before
pub puts_whole_table : (honest : Type 0) (after : List Block) (first table : VolumeTable) (sectors given : List (ℕ × Block)) (old new : ArrayView)
    (answer : Answer)
    → AreAll table.version after sectors → Spell after table → given ≡ sectors → Commits honest given old new answer
    → ChangesList honest 1 (MayPutTable first table) (PutsTable first table) old new answer
puts_whole_table honest after first table sectors given old new answer are spells is_given commits =
    puts_by honest after after first table sectors given old new answer (are.changed after) spells is_given commits
    (λ V spelled k below unwritten. let one = are.each k below in absurd (unwritten one.0 one.1 one.2))

-- where none differs, nothing is to be written
pub puts_nothing : (honest : Type 0) (before after : List Block) (first table : VolumeTable) (sectors : List (ℕ × Block)) (array : ArrayView)
    → length sectors ≡ 0
    → AreTheChanged table.version before after sectors → Spell after table → Spell before first → first.version ≡ table.version
    → ChangesList honest 1 (MayPutTable first table) (PutsTable first table) array array (Ok tt)
puts_nothing honest before after first table [] array none are spells begins same =
    changes_none honest 1 (MayPutTable first table) (PutsTable first table) array (λ V spelled. inl refl)
    (λ V spelled. has_table V before after table [] are spells (spelled_long V first table.version same spelled)
    (λ k below unwritten. same_start V before first table.version k same below begins spelled))
puts_nothing honest before after first table (sector ∷ sectors) array none are spells begins same = absurd (omega (arith, none))

-- tables of one version are one where no sector of their spellings differs
pub same_where_none : (before after : List Block) (first table : VolumeTable) (sectors : List (ℕ × Block)) → length sectors ≡ 0
    → AreTheChanged table.version before after sectors
    → Spell after table → Spell before first → first.version ≡ table.version → first ≡ table
same_where_none before after first table [] none are spells begins same =
    let has : HasTable table before before = has_table before before after table [] are spells (spelled_long before first table.version same begins)
    (λ k below unwritten. refl) in
    same_spelled before first table same begins has.spelled
same_where_none before after first table (sector ∷ sectors) none are spells begins same = absurd (omega (arith, none))
