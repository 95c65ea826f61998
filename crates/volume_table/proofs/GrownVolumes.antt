-- What a list shows on the way to a volume with new blocks, and then.
use Rattle.std.proofs.Common.{◌≡◌, ◌≢◌, inl, inr, ℕ, ◌<◌, ◌≤◌, Bool, false, List, [], length, get_or, take, slice_set, Option, Some, None, refl, sym, ◌∙◌, ap}
use Rattle.std.proofs.Common.{subst}
use Rattle.std.proofs.Common.{arith}
use Rattle.std.proofs.lemmas.List.{ext_get_or, get_or-take, length-take, get_or-set_same, get_or-set_other, get_or-replicate, length-replicate}
use Rattle.sector_model.specs.declared.refusal.Refusal.{Refusal}
use Rattle.extents.specs.declared.extent_layout.ExtentLayout.{ExtentLayout}
use Rattle.extents.specs.declared.owned.Owned.{Owned}
use Rattle.extents.specs.declared.record.Record.{Record}
use Rattle.extents.specs.declared.volume_table.VolumeTable.{VolumeTable}
use Rattle.extents.specs.ExtentMaps.{IsTaken, is_dirty, place_of, sector_of_block}
use Rattle.extents.specs.Owners.{IsAt, owner_of}
use Rattle.extents.specs.SetExtents.{IsOfSet}
use Rattle.extents.proofs.Blocks.{block_is_one, sector_is_of_one}
use Rattle.extents.proofs.OwnerLemmas.{free_or_owned, owner_is_one}
use Rattle.std.proofs.Props.{props}
use Rattle.std.proofs.Math.Logic.{∥∥₁_elim}
use Rattle.std.proofs.lemmas.Bool.{cases_Bool, cases_eq, cases_lt}
use Rattle.std.proofs.lemmas.Option.{none-some, same_Some}
use Rattle.volume_table.proofs.CleanExtents.{clean_partly}
use Rattle.extents.specs.TableSpelling.{Spell}
use Rattle.extents.specs.Versions.{table_length}
use Rattle.extents.proofs.Versions.{table_length_most}
use Rattle.extents.specs.VolumeTables.{extents_of, record_of}
use Rattle.extents.proofs.MapLemmas.{taken_kept}
use Rattle.extents.proofs.TableLaws.{one_table}
use Rattle.volume_table.specs.Admission.{AreKept, IsGrownFrom, ShowsBy}
use Rattle.volume_table.specs.Volumes.{Block, VolumeMap, zero_block}
use Rattle.volume_table.specs.VolumeStep.{Command, Create, answer, done, or_refused, refusal_of, reply_to}
use Rattle.volume_table.specs.Shows.{AreClean, ChangesOneRecord, HaveSameBlocks, Shows}
use Rattle.volume_table.specs.StoreChanges.{IsGrown, IsOfBlocks, IsPartlyZero}
use Rattle.volume_table.proofs.KeptMaps.{kept_owner}
use Rattle.volume_table.proofs.StepLemmas.{changed_if_done}
use Rattle.volume_table.proofs.TableLemmas.{create_is_shown, unused_may_change}
use Rattle.layout_map.specs.declared.sizes.TheConstants.{RESERVED_SECTORS}

-- an extent that is some volume's is one of the set's
used_is_of_set : (extents : ExtentLayout) (table : VolumeTable) (extent number place : ℕ) → IsOfSet extents table → IsAt table.extents extent number place
    → extent < extents.count
used_is_of_set extents table extent number place of_set at = elim (cases_lt extent extents.count) [
  | inl below ↦ below
  | inr beyond ↦ absurd (none-some _ (sym (of_set.free_beyond extent beyond) ∙ at))
]

-- a record that is not used has no extent
unused_has_none : (extents : ExtentLayout) (table : VolumeTable) (extent number place : ℕ) → IsOfSet extents table → record_of table.records number ≡ None
    → IsAt table.extents extent number place → ⊥
unused_has_none extents table extent number place of_set unused at = ∥∥₁_elim of_set.placed (hlevel props) (λ placed.
    omega (arith, (placed number).below extent place at, ap (extents_of extents.blocks) unused))

-- the new table differs from the old one in this record, and in extents that were free and are the volume's now
pub record IsGrowth (extents : ExtentLayout) (old new : VolumeTable) (number first : ℕ) (entry : Record) : Type 0 where
  pub version : new.version ≡ old.version
  pub dirty : new.dirty ≡ old.dirty
  pub more : first ≤ entry.blocks
  pub of_set_before : IsOfSet extents old
  pub long : number < length old.records
  pub records : new.records ≡ slice_set old.records number (Some entry)
  pub from : IsGrownFrom (record_of old.records number) first entry
  pub stays : (extent other place : ℕ) → IsAt old.extents extent other place → IsAt new.extents extent other place
  pub was : (extent other place : ℕ) → other ≢ number → IsAt new.extents extent other place → IsAt old.extents extent other place
  pub of_set : IsOfSet extents new

pub is_growth : (extents : ExtentLayout) (old new : VolumeTable) (owners owners' : List (Option Owned)) (number first n : ℕ) (entry : Record)
    → new.version ≡ old.version → new.dirty ≡ old.dirty → first ≤ entry.blocks
    → number < length old.records → AreKept extents old owners → AreKept extents new owners'
    → new.records ≡ slice_set old.records number (Some entry) → IsTaken old.dirty owners owners' number n
    → IsGrownFrom (record_of old.records number) first entry
    → IsGrowth extents old new number first entry
is_growth extents old new owners owners' number first n entry version dirty more long kept kept' records taken from = record {
  version = version;
  dirty = dirty;
  more = more;
  of_set_before = kept.of_set;
  long = long;
  records = records;
  from = from;
  stays = λ extent other place at. sym (kept_owner extents new owners' kept' extent)
      ∙ taken.kept extent other place (kept_owner extents old owners kept extent ∙ at);
  was = λ extent other place apart at.
      sym (kept_owner extents old owners kept extent) ∙ taken_kept old.dirty owners owners' number n taken extent other place apart
      (kept_owner extents new owners' kept' extent ∙ at);
  of_set = kept'.of_set;
}

-- a block of the grown volume from its first new one on was zero in a clean extent
grown_was_zero : (extents : ExtentLayout) (old new : VolumeTable) (number first : ℕ) (entry : Record) → IsGrowth extents old new number first entry
    → (V : List Block) (j extent : ℕ) → first ≤ j → AreClean extents old.dirty old.records old.extents V → is_dirty old.dirty extent ≡ false
    → IsAt new.extents extent number (place_of extents j) → get_or V (sector_of_block extents extent j) [] ≡ zero_block
grown_was_zero extents old new number first entry growth V j extent least clean is_clean at = elim (free_or_owned old.extents extent) [
  | inl free ↦ clean.free extent j (used_is_of_set extents new extent number (place_of extents j) growth.of_set at) is_clean free
  | inr owned ↦
      let same = owner_is_one new.extents extent owned.volume owned.place number (place_of extents j)
      (growth.stays extent owned.volume owned.place owned.at) at in
      let was : IsAt old.extents extent number (place_of extents j) =
      subst (λ (p : ℕ). IsAt old.extents extent number p) same.1 (subst (λ (n : ℕ). IsAt old.extents extent n owned.place) same.0 owned.at) in
      by_record (record_of old.records number) refl was
]
  where
    by_record : (before : Option Record) → record_of old.records number ≡ before → IsAt old.extents extent number (place_of extents j)
        → get_or V (sector_of_block extents extent j) [] ≡ zero_block
    by_record None none was = absurd (unused_has_none extents old extent number (place_of extents j) growth.of_set_before none was)
    by_record (Some one) used was =
        let from : IsGrownFrom (Some one) first entry = subst (λ (r : Option Record). IsGrownFrom r first entry) used growth.from in
        clean.after_end extent number j one is_clean was used (omega (arith, from.0, least))

-- a sector is of one extent, and at one place in it
module _ (extents : ExtentLayout) (old new : VolumeTable) (number first : ℕ) (entry : Record) (growth : IsGrowth extents old new number first entry)
    (last : ℕ) where
  -- a block that a volume has is none of the new ones
  not_new : (other : ℕ) (one : Record) (j extent : ℕ) → record_of old.records other ≡ Some one → j < one.blocks
      → IsAt old.extents extent other (place_of extents j)
      → ¬ IsOfBlocks extents new.extents number first last (sector_of_block extents extent j)
  not_new other one j extent used below at is =
      let parts = sector_is_of_one extents is.extent extent is.block j (sym is.is) in
      let owner = owner_is_one new.extents extent number (place_of extents is.block) other (place_of extents j)
      (subst (λ e. IsAt new.extents e number (place_of extents is.block)) parts.0 is.at) (growth.stays extent other (place_of extents j) at) in
      let same_number : number ≡ other = owner.0 in
      let same_block : is.block ≡ j = block_is_one extents.blocks is.block j owner.1 parts.1 in
      let from : IsGrownFrom (Some one) first entry = subst (λ (r : Option Record). IsGrownFrom r first entry) (ap (record_of old.records) same_number ∙ used)
      growth.from in
      omega (arith, is.least, same_block, below, from.0)

  -- with some of the new blocks zero each volume's blocks are as before
  module _ (V W : List Block) (partly : IsPartlyZero extents new.extents number first last V W) where
    pub same_blocks : (other : ℕ) (one : Record) → record_of old.records other ≡ Some one → HaveSameBlocks extents old.extents other one V W
    same_blocks other one used j extent below at = elim (partly.each (sector_of_block extents extent j)) [
      | inl same ↦ same
      | inr is ↦ absurd (not_new other one j extent used below at is.1)
    ]

    -- and so are the sectors below the first extent
    pub same_front : (sector : ℕ) → sector < RESERVED_SECTORS → get_or W sector [] ≡ get_or V sector []
    same_front sector below = elim (partly.each sector) [
      | inl same ↦ same
      | inr is ↦ absurd (omega (arith, is.1.is, below, extents.limits.above))
    ]

    pub same_table : (version : ℕ) → take (table_length version) W ≡ take (table_length version) V
    same_table version =
        let n : ℕ = table_length version in
        ext_get_or [] (take n W) (take n V) (omega (arith, length-take n W, length-take n V, partly.as_long)) (λ k within.
        let below : k < n = omega (arith, within, length-take n W) in
        get_or-take n W k [] below ∙ same_front k (omega (arith, below, table_length_most version)) ∙ sym (get_or-take n V k [] below))

  -- with all of them zero and the new table the list differs in one record
  module _ (V W : List Block) (grown : IsGrown extents new number first last V W) where
    beyond : (extent j : ℕ) → get_or W (sector_of_block extents extent j) [] ≡ get_or grown.mid (sector_of_block extents extent j) []
    beyond extent j = grown.put.beyond (sector_of_block extents extent j) (omega (arith, table_length_most new.version, extents.limits.above))

    pub changes_one : ChangesOneRecord extents old.records new.records old.extents new.extents V W number
    changes_one = record {
      same_records = λ other apart. ap (λ (rs : List (Option Record)). record_of rs other) growth.records
          ∙ get_or-set_other old.records number other (Some entry) None apart;
      same_extents = λ other extent place apart at. growth.was extent other place apart at;
      same_blocks = λ other one apart used j extent below at. beyond extent j ∙ same_blocks V grown.mid grown.zeroed.partly other one used j extent below at;
    }

    pub entry_used : record_of new.records number ≡ Some entry
    entry_used = ap (λ (rs : List (Option Record)). record_of rs number) growth.records ∙ get_or-set_same old.records number (Some entry) None growth.long

    -- a new block was zero before, where its extent is clean
    was_zero : (j extent : ℕ) → first ≤ j → AreClean extents old.dirty old.records old.extents V → is_dirty old.dirty extent ≡ false
        → IsAt new.extents extent number (place_of extents j) → get_or V (sector_of_block extents extent j) [] ≡ zero_block
    was_zero j extent least clean is_clean at = grown_was_zero extents old new number first entry growth V j extent least clean is_clean at

    -- a new block is zero
    pub new_block : (j extent : ℕ) → first ≤ j → j < last → AreClean extents old.dirty old.records old.extents V
        → IsAt new.extents extent number (place_of extents j)
        → get_or W (sector_of_block extents extent j) [] ≡ zero_block
    new_block j extent least most clean at = beyond extent j ∙ elim (cases_Bool (is_dirty new.dirty extent)) [
      | inl is_dirty_extent ↦ grown.zeroed.zero (sector_of_block extents extent j)
          record { block = j; extent = extent; least = least; most = most; at = at; is = refl } is_dirty_extent
      | inr is_clean ↦ elim (grown.zeroed.partly.each (sector_of_block extents extent j)) [
        | inl same ↦ same ∙ was_zero j extent least clean (ap (λ (flags : List Bool). is_dirty flags extent) (sym growth.dirty) ∙ is_clean) at
        | inr is ↦ is.0
      ]
    ]

    -- clean extents stay so
    pub still_clean : last ≡ entry.blocks → AreClean extents old.dirty old.records old.extents V → AreClean extents new.dirty new.records new.extents W
    still_clean is_last clean = record {
      free = λ extent j below is_clean is_free. beyond extent j ∙ kept_zero extent j
          (clean.free extent j below (was_clean extent is_clean) (was_free extent is_free));
      after_end = λ extent other j one is_clean at used past. beyond extent j ∙ kept_zero extent j
          (elim (cases_eq other number) [
            | inl same ↦
                let is : one ≡ entry = same_Some one entry (sym used ∙ ap (record_of new.records) same ∙ entry_used) in
                was_zero j extent (omega (arith, past, growth.more, ap (λ (r : Record). r.blocks) is)) clean (was_clean extent is_clean)
                (subst (λ (n : ℕ). IsAt new.extents extent n (place_of extents j)) same at)
            | inr apart ↦ clean.after_end extent other j one (was_clean extent is_clean) (growth.was extent other (place_of extents j) apart at)
                (sym (changes_one.same_records other apart) ∙ used) past
          ]);
    }
      where
        was_clean : (extent : ℕ) → is_dirty new.dirty extent ≡ false → is_dirty old.dirty extent ≡ false
        was_clean extent is_clean = ap (λ (flags : List Bool). is_dirty flags extent) (sym growth.dirty) ∙ is_clean

        was_free : (extent : ℕ) → owner_of new.extents extent ≡ None → owner_of old.extents extent ≡ None
        was_free extent is_free = elim (free_or_owned old.extents extent) [
          | inl free ↦ free
          | inr owned ↦ absurd (none-some _ (sym is_free ∙ growth.stays extent owned.volume owned.place owned.at))
        ]

        kept_zero : (extent j : ℕ) → get_or V (sector_of_block extents extent j) [] ≡ zero_block
            → get_or grown.mid (sector_of_block extents extent j) [] ≡ zero_block
        kept_zero extent j zero = elim (grown.zeroed.partly.each (sector_of_block extents extent j)) [
          | inl same ↦ same ∙ zero
          | inr is ↦ is.0
        ]

    -- and a block that the volume had is as before
    pub old_block : (one : Record) (j extent : ℕ) → record_of old.records number ≡ Some one → j < one.blocks
        → IsAt old.extents extent number (place_of extents j)
        → get_or W (sector_of_block extents extent j) [] ≡ get_or V (sector_of_block extents extent j) []
    old_block one j extent used below at = beyond extent j ∙ same_blocks V grown.mid grown.zeroed.partly number one used j extent below at

-- the list shows these volumes by the table that its first sectors spell
pub shows_by : (extents : ExtentLayout) (table : VolumeTable) (W : List Block) (volumes : VolumeMap) → Shows extents W volumes → Spell W table
    → IsOfSet extents table → ShowsBy extents table W volumes
shows_by extents table W volumes shows spelled of_set = record {
  shows = shows;
  by = one_table extents.format W shows.table table shows.of_set.version of_set.version shows.spelled spelled;
}

-- what is not refused is answered as done
pub done_reply : (extents : ExtentLayout) (command : Command) (volumes : VolumeMap) → None ≡ refusal_of extents command volumes
    → reply_to extents command volumes ≡ answer command volumes.volumes
done_reply extents command volumes none = ap (λ (r : Option Refusal). or_refused r (answer command volumes.volumes)) (sym none)

-- On the way the old volumes are shown, or the new ones.
pub shown_on_the_way : (extents : ExtentLayout) (old new : VolumeTable) (number first last : ℕ) (entry : Record) (V W : List Block) (volumes : VolumeMap)
    → IsGrowth extents old new number first entry
    → (by : ShowsBy extents old V volumes) → IsPartlyZero extents new.extents number first last V W → Shows extents W volumes
shown_on_the_way extents old new number first last entry V W volumes growth by partly =
    let growth' : IsGrowth extents by.shows.table new number first entry =
    subst (λ (t : VolumeTable). IsGrowth extents t new number first entry) (sym by.by) growth in
    unused_may_change extents V W volumes by.shows (same_table extents by.shows.table new number first entry growth' last V W partly volumes.version)
    (same_blocks extents by.shows.table new number first entry growth' last V W partly)
    (clean_partly extents by.shows.table.dirty by.shows.table.records by.shows.table.extents new.extents number first last V W partly by.shows.clean)

-- A new volume is there.
pub created_is_shown : (extents : ExtentLayout) (old new : VolumeTable) (name : List ℕ) (number : ℕ) (entry : Record) (V W : List Block) (volumes : VolumeMap)
    → IsGrowth extents old new number 0 entry
    → record_of old.records number ≡ None → entry.name.bytes.items ≡ name → (by : ShowsBy extents old V volumes)
    → None ≡ refusal_of extents (Create name entry.blocks) volumes
    → IsGrown extents new number 0 entry.blocks V W → ShowsBy extents new W (done (Create name entry.blocks) volumes)
created_is_shown extents old new name number entry V W volumes growth unused named by admitted grown =
    let t : VolumeTable = by.shows.table in
    let growth' : IsGrowth extents t new number 0 entry = subst (λ (table : VolumeTable). IsGrowth extents table new number 0 entry) (sym by.by) growth in
    let last : ℕ = entry.blocks in
    shows_by extents new W (done (Create name last) volumes)
    (subst (Shows extents W) (changed_if_done extents (Create name last) volumes (sym admitted))
    (create_is_shown extents V W volumes name last new number by.shows (done_reply extents (Create name last) volumes admitted) grown.put.spelled
    (growth'.version ∙ by.shows.of_version) growth'.of_set
    (changes_one extents t new number 0 entry growth' last V W grown)
    record {
      entry = entry;
      used = entry_used extents t new number 0 entry growth' last V W grown;
      named = named;
      as_long = length-replicate {A = Block} last zero_block;
      stand = λ j extent within at.
          let below : j < last = omega (arith, within, length-replicate {A = Block} last zero_block) in
          new_block extents t new number 0 entry growth' last V W grown j extent (omega arith) below by.shows.clean at
          ∙ sym (get_or-replicate {A = Block} last j zero_block [] below);
    }
    (subst (λ (table : VolumeTable). record_of table.records number ≡ None) (sym by.by) unused)
    (still_clean extents t new number 0 entry growth' last V W grown refl by.shows.clean)))
    grown.put.spelled growth'.of_set
