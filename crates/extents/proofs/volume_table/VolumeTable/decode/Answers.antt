use Rattle.std.proofs.Common.{◌≡◌, ℕ, List, Bool, Option, Some, None, true, false, ap, sym, ◌∙◌, subst, arith}
use Rattle.std.proofs.lemmas.Bool.{true≢false}
use Rattle.extents.specs.declared.owned.Owned.{Owned}
use Rattle.extents.specs.declared.record.Record.{Record}
use Rattle.extents.specs.Checks.{AreCleanBeyond, AreFreeFrom}
use Rattle.extents.specs.TableSpelling.{entries_of}
use Rattle.extents.specs.VolumeTables.{HaveTheirPlaces, IsVolumeTable}
use Rattle.extents.proofs.Same.{same_table}
use Rattle.extents.proofs.Sectors.{spelled_by, version_of_table, read_of_table, owners_of_table, dirty_of_table, read_of_version, read_is_spelled}
use Rattle.extents.proofs.Entries.{length-entries_of, said_spelled}
use Rattle.extents.proofs.Versions.{table_length_most}
use Rattle.extents.proofs.volume_table.VolumeTable.decode.Goals as goal
use Rattle.extents.proofs.volume_table.VolumeTable.decode.Goals.{then-not-are_free_from-via-then-not-are_free_from}
use Rattle.extents.proofs.volume_table.VolumeTable.decode.Goals.{then-not-are_free_from-via-else-not-are_free_from+then-not-is_table}

pub returns-in_err-version-clause-exact : goal.returns-in_err-version-clause-exact
returns-in_err-version-clause-exact c = λ t is of_set. absurd (
    let some : c.read_version.result ≡ Some t.version =
    version_of_table c.args.extents.now.format c.args.from.now t c.read_version.result c.read_version.ensures.exact of_set.version is in
    let none : c.read_version.result ≡ None = c.in_err-version.was in
    let no : ⊥ = cc in no)

pub returns-in_err-records-clause-exact : goal.returns-in_err-records-clause-exact
returns-in_err-records-clause-exact c = λ t is of_set. absurd (
    let some_version : c.read_version.result ≡ Some t.version =
    version_of_table c.args.extents.now.format c.args.from.now t c.read_version.result c.read_version.ensures.exact of_set.version is in
    let read_version : c.read_version.result ≡ Some c.in_ok-version.version = c.in_ok-version.was in
    let same_version : c.in_ok-version.version ≡ t.version = cc in
    let some : c.read_records.result ≡ Some t.records =
    read_of_table c.args.from.now t c.in_ok-version.version c.read_records.result same_version c.read_records.ensures.exact is in
    let none : c.read_records.result ≡ None = c.in_err-records.was in
    let no : ⊥ = cc in no)

pub returns-in_err-owners-clause-exact : goal.returns-in_err-owners-clause-exact
returns-in_err-owners-clause-exact c = λ t is of_set. absurd (
    let some_version : c.read_version.result ≡ Some t.version =
    version_of_table c.args.extents.now.format c.args.from.now t c.read_version.result c.read_version.ensures.exact of_set.version is in
    let read_version : c.read_version.result ≡ Some c.in_ok-version.version = c.in_ok-version.was in
    let same_version : c.in_ok-version.version ≡ t.version = cc in
    let some : c.read_extents.result ≡ Some t.extents =
    owners_of_table c.args.from.now t c.in_ok-version.version c.read_extents.result same_version c.read_extents.ensures.exact is in
    let none : c.read_extents.result ≡ None = c.in_err-owners.was in
    let no : ⊥ = cc in no)

pub is_table-requires : goal.is_table-requires
is_table-requires c = record {
  is_version = c.in_ok-version.ensures.some.0.0;
  of_version = read_of_version c.in_ok-version.version c.args.from.now c.in_ok-records.records c.in_ok-records.ensures.long c.in_ok-records.ensures.some;
}

pub returns-then-not-are_free_from-clause-exact : goal.returns-then-not-are_free_from-clause-exact
returns-then-not-are_free_from-clause-exact c = λ t is of_set. absurd (
    let version = c.in_ok-version.version in
    let records = c.in_ok-records.records in
    let owners = c.in_ok-owners.owners in
    let some_version : c.read_version.result ≡ Some t.version =
    version_of_table c.args.extents.now.format c.args.from.now t c.read_version.result c.read_version.ensures.exact of_set.version is in
    let read_version : c.read_version.result ≡ Some version = c.in_ok-version.was in
    let same_version : version ≡ t.version = cc in
    let some_records : c.read_records.result ≡ Some t.records =
    read_of_table c.args.from.now t version c.read_records.result same_version c.read_records.ensures.exact is in
    let read_records : c.read_records.result ≡ Some records = c.in_ok-records.was in
    let same_records : t.records ≡ records = cc in
    let some_owners : c.read_extents.result ≡ Some t.extents =
    owners_of_table c.args.from.now t version c.read_extents.result same_version c.read_extents.ensures.exact is in
    let read_owners : c.read_extents.result ≡ Some owners = c.in_ok-owners.was in
    let same_owners : t.extents ≡ owners = cc in
    elim c.then-not-are_free_from.branch [
      | then-not-are_free_from-via-then-not-are_free_from w ↦
          let yes : c.are_free_from.result ≡ true = c.are_free_from.ensures.1
          (subst (λ (xs : List (Option Owned)). AreFreeFrom xs c.args.extents.now.count) same_owners of_set.free_beyond) in
          let other : c.are_free_from.result ≡ false = w.if-not-are_free_from.true in
          let no : ⊥ = cc in no
      | then-not-are_free_from-via-else-not-are_free_from+then-not-is_table w ↦
          let with_version : ∥ IsVolumeTable version t.records t.extents ∥₁ =
          subst (λ (v : ℕ). ∥ IsVolumeTable v t.records t.extents ∥₁) (sym same_version) t.is_table in
          let with_records : ∥ IsVolumeTable version records t.extents ∥₁ =
          subst (λ (xs : List (Option Record)). ∥ IsVolumeTable version xs t.extents ∥₁) same_records with_version in
          let with_owners : ∥ IsVolumeTable version records owners ∥₁ =
          subst (λ (xs : List (Option Owned)). ∥ IsVolumeTable version records xs ∥₁) same_owners with_records in
          let each = c.args.extents.now.blocks in
          let placed_records : ∥ HaveTheirPlaces each records t.extents ∥₁ =
          subst (λ (xs : List (Option Record)). ∥ HaveTheirPlaces each xs t.extents ∥₁) same_records of_set.placed in
          let placed : ∥ HaveTheirPlaces each records owners ∥₁ =
          subst (λ (xs : List (Option Owned)). ∥ HaveTheirPlaces each records xs ∥₁) same_owners placed_records in
          let yes : w.is_table.result ≡ true = w.is_table.ensures.1 (with_owners, placed) in
          let other : w.is_table.result ≡ false = w.if-not-is_table.true in
          let no : ⊥ = cc in no
    ])

pub returns-then-not-are_clean_beyond-clause-exact : goal.returns-then-not-are_clean_beyond-clause-exact
returns-then-not-are_clean_beyond-clause-exact c = λ t is of_set. absurd (
    let version = c.in_ok-version.version in
    let some_version : c.read_version.result ≡ Some t.version =
    version_of_table c.args.extents.now.format c.args.from.now t c.read_version.result c.read_version.ensures.exact of_set.version is in
    let read_version : c.read_version.result ≡ Some version = c.in_ok-version.was in
    let same_version : version ≡ t.version = cc in
    let same_dirty : c.read_dirty-dirty.result ≡ t.dirty =
    dirty_of_table c.args.from.now t version c.read_dirty-dirty.result same_version c.read_dirty-dirty.ensures is in
    let clean : AreCleanBeyond version c.read_dirty-dirty.result c.args.extents.now.count =
    subst (λ (v : ℕ). AreCleanBeyond v c.read_dirty-dirty.result c.args.extents.now.count) (sym same_version)
    (subst (λ (xs : List Bool). AreCleanBeyond t.version xs c.args.extents.now.count) (sym same_dirty) of_set.clean_beyond) in
    true≢false (sym (c.are_clean_beyond.ensures.1 clean) ∙ c.if-not-are_clean_beyond.true))

pub returns-clause-some : goal.returns-clause-some
returns-clause-some c =
    let version = c.in_ok-version.version in
    let owners = c.in_ok-owners.owners in
    let dirty = c.read_dirty-dirty.result in
    spelled_by version c.in_ok-records.records (entries_of version owners dirty) c.args.from.now c.in_ok-records.ensures.long
    (length-entries_of version owners dirty ∙ c.in_ok-owners.ensures.long)
    (let most = table_length_most version in omega (arith, c.told-from))
    (λ k within. c.read_version.ensures.sectors k (let most = table_length_most version in omega arith)) c.in_ok-version.ensures.some.1
    (read_is_spelled version c.args.from.now c.in_ok-records.records c.in_ok-records.ensures.some)
    (said_spelled version c.args.from.now owners dirty c.in_ok-owners.ensures.long c.in_ok-owners.ensures.some c.read_dirty-dirty.ensures)

pub returns-clause-of_set : goal.returns-clause-of_set
returns-clause-of_set c = record {
  version = c.in_ok-version.ensures.some.0.1;
  free_beyond = c.are_free_from.ensures.0 c.if-not-are_free_from.false;
  clean_beyond = c.are_clean_beyond.ensures.0 c.if-not-are_clean_beyond.false;
  placed = (c.is_table.ensures.0 c.if-not-is_table.false).1;
}

pub returns-clause-exact : goal.returns-clause-exact
returns-clause-exact c = λ t is of_set.
    let version = c.in_ok-version.version in
    let some_version : c.read_version.result ≡ Some t.version =
    version_of_table c.args.extents.now.format c.args.from.now t c.read_version.result c.read_version.ensures.exact of_set.version is in
    let read_version : c.read_version.result ≡ Some version = c.in_ok-version.was in
    let same_version : version ≡ t.version = cc in
    let some_records : c.read_records.result ≡ Some t.records =
    read_of_table c.args.from.now t version c.read_records.result same_version c.read_records.ensures.exact is in
    let read_records : c.read_records.result ≡ Some c.in_ok-records.records = c.in_ok-records.was in
    let same_records : c.in_ok-records.records ≡ t.records = cc in
    let some_owners : c.read_extents.result ≡ Some t.extents =
    owners_of_table c.args.from.now t version c.read_extents.result same_version c.read_extents.ensures.exact is in
    let read_owners : c.read_extents.result ≡ Some c.in_ok-owners.owners = c.in_ok-owners.was in
    let same_owners : c.in_ok-owners.owners ≡ t.extents = cc in
    let same_dirty : c.read_dirty-dirty.result ≡ t.dirty =
    dirty_of_table c.args.from.now t version c.read_dirty-dirty.result same_version c.read_dirty-dirty.ensures is in
    ap (λ (one : _). Some one) (same_table _ t same_version same_records same_owners same_dirty)
