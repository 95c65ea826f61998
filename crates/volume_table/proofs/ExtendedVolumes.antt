-- An extend, by what its calls of the array do.
use Rattle.std.proofs.Common.{◌≡◌, inl, inr, ℕ, zero, suc, ◌+◌, ◌-◌, ◌<◌, List, [], ◌∷◌, ◌++◌, length, get_or, Option, Some, None, Err, refl, sym}
use Rattle.std.proofs.Common.{◌∙◌, ap, subst, arith}
use Rattle.std.proofs.Props.{props}
use Rattle.std.proofs.Math.Logic.{∥∥₁_elim}
use Rattle.std.specs.Prelude.{Contains, unwrap_or}
use Rattle.std.proofs.lemmas.Bool.{cases_lt}
use Rattle.std.proofs.lemmas.Option.{none-some, same_Some}
use Rattle.std.proofs.lemmas.List.{get_or-replicate, get_or_append_left, get_or-append-add, length-append, length-replicate}
use Rattle.sector_model.specs.declared.refusal.Refusal.{Refusal}
use Rattle.sector_model.specs.declared.refusal.Refusal.TheVariants.{BadSize, NoSpace, NoVolume}
use Rattle.array_io.specs.Believed.ArrayCalls.{Answer}
use Rattle.array_io.specs.Believed.Views.{EndsIt}
use Rattle.extents.specs.declared.extent_layout.ExtentLayout.{ExtentLayout}
use Rattle.extents.specs.ExtentMaps.{place_of, sector_of_block}
use Rattle.extents.specs.declared.owned.Owned.{Owned}
use Rattle.extents.specs.declared.record.Record.{Record}
use Rattle.extents.specs.declared.volume_table.VolumeTable.{VolumeTable}
use Rattle.extents.specs.Owners.{IsAt}
use Rattle.extents.specs.SetExtents.{IsOfSet}
use Rattle.extents.proofs.Blocks.{place_is_below}
use Rattle.extents.specs.VolumeTables.{IsRecordFor, extents_of, record_of}
use Rattle.volume_table.specs.Admission.{ShowsBy}
use Rattle.volume_table.specs.Volumes.{Block, VolumeMap, zero_block}
use Rattle.volume_table.specs.VolumeStep.{Extend, blocks_in, done, refusal_of, zero_blocks}
use Rattle.volume_table.specs.Shows.{Shows}
use Rattle.volume_table.specs.Stands.{StoreView}
use Rattle.volume_table.specs.StoreCalls.{extents_for_store}
use Rattle.volume_table.specs.StoreChanges.{IsGrown}
use Rattle.volume_table.specs.StoreFunctions.{ExtendsVolume}
use Rattle.volume_table.proofs.CreatedVolumes.{HasGrown, growing_applies, growth}
use Rattle.volume_table.proofs.GrownVolumes.{IsGrowth, changes_one, done_reply, entry_used, new_block, still_clean, old_block, shows_by}
use Rattle.volume_table.proofs.StepLemmas.{changed_if_done}
use Rattle.volume_table.proofs.StoreSteps.{refused_at_once}
use Rattle.volume_table.proofs.TableLemmas.{extend_is_shown}

-- an extent that the volume had at a place is the one that it has there in the new table
old_extent : (extents : ExtentLayout) (old new : VolumeTable) (number first : ℕ) (entry one : Record) (j extent : ℕ)
    → IsGrowth extents old new number first entry
    → IsOfSet extents old → record_of old.records number ≡ Some one
    → j < one.blocks → IsAt new.extents extent number (place_of extents j) → IsAt old.extents extent number (place_of extents j)
old_extent extents old new number first entry one j extent growth of_set used below at =
    ∥∥₁_elim of_set.placed (hlevel props) (λ placed. ∥∥₁_elim new.is_table (hlevel props) (λ is.
    let place = place_of extents j in
    let there = (placed number).extent_at place
    (subst (λ (r : Option Record). place < extents_of extents.blocks r) (sym used) (place_is_below extents.blocks one.blocks j extents.limits.some below)) in
    subst (λ (e : ℕ). IsAt old.extents e number place)
    ((is.map.places number).1.once there.0 extent place (growth.stays there.0 number place there.1) at) there.1))

-- A volume is extended.
extended_is_shown : (extents : ExtentLayout) (old new : VolumeTable) (number : ℕ) (entry one : Record) (growth_by : ℕ) (V W : List Block) (volumes : VolumeMap)
    → IsGrowth extents old new number one.blocks entry
    → record_of old.records number ≡ Some one → entry.name.bytes.items ≡ one.name.bytes.items → entry.blocks ≡ one.blocks + growth_by
    → (by : ShowsBy extents old V volumes)
    → None ≡ refusal_of extents (Extend one.name.bytes.items growth_by) volumes
    → IsGrown extents new number one.blocks entry.blocks V W → ShowsBy extents new W (done (Extend one.name.bytes.items growth_by) volumes)
extended_is_shown extents old new number entry one growth_by V W volumes growth used named blocks by admitted grown =
    let name : List ℕ = one.name.bytes.items in
    let t : VolumeTable = by.shows.table in
    shows_by extents new W (done (Extend name growth_by) volumes)
    (subst (Shows extents W) (changed_if_done extents (Extend name growth_by) volumes (sym admitted))
    (extend_is_shown extents V W volumes growth_by new number one by.shows used' (done_reply extents (Extend name growth_by) volumes admitted) grown.put.spelled
    (growth'.version ∙ by.shows.of_version) growth.of_set
    (changes_one extents t new number one.blocks entry growth' entry.blocks V W grown)
    record {
      entry = entry;
      used = entry_used extents t new number one.blocks entry growth' entry.blocks V W grown;
      named = named;
      as_long = omega (
        arith,
        length-append (blocks_in name volumes.volumes) (zero_blocks growth_by),
        length-replicate {A = Block} growth_by zero_block,
        long,
        blocks,
      );
      stand = stands;
    }
    (still_clean extents t new number one.blocks entry growth' entry.blocks V W grown refl by.shows.clean)))
    grown.put.spelled growth.of_set
  where
    growth' : IsGrowth extents by.shows.table new number one.blocks entry
    growth' = subst (λ (table : VolumeTable). IsGrowth extents table new number one.blocks entry) (sym by.by) growth

    used' : record_of by.shows.table.records number ≡ Some one
    used' = subst (λ (table : VolumeTable). record_of table.records number ≡ Some one) (sym by.by) used

    in_map : blocks_in one.name.bytes.items volumes.volumes ≡ (by.shows.shown.used number one used').blocks
    in_map = ap (λ (o : Option (List Block)). unwrap_or o []) (by.shows.shown.used number one used').named

    long : length (blocks_in one.name.bytes.items volumes.volumes) ≡ one.blocks
    long = ap length in_map ∙ (by.shows.shown.used number one used').as_long

    stands : (j extent : ℕ) → j < length (blocks_in one.name.bytes.items volumes.volumes ++ zero_blocks growth_by)
        → IsAt new.extents extent number (place_of extents j)
        → get_or W (sector_of_block extents extent j) [] ≡ get_or (blocks_in one.name.bytes.items volumes.volumes ++ zero_blocks growth_by) j []
    stands j extent within at = elim (cases_lt j one.blocks) [
      | inl below ↦
          let was : IsAt by.shows.table.extents extent number (place_of extents j) =
          old_extent extents by.shows.table new number one.blocks entry one j extent growth' by.shows.of_set used' below at in
          old_block extents by.shows.table new number one.blocks entry growth' entry.blocks V W grown one j extent used' below was
          ∙ (by.shows.shown.used number one used').stand j extent (omega (arith, below, (by.shows.shown.used number one used').as_long)) was
          ∙ ap (λ (bs : List Block). get_or bs j []) (sym in_map)
          ∙ sym (get_or_append_left (blocks_in one.name.bytes.items volumes.volumes) (zero_blocks growth_by) [] j (omega (arith, below, long)))
      | inr past ↦
          let k : ℕ = j - one.blocks in
          let its_long : length (blocks_in one.name.bytes.items volumes.volumes ++ zero_blocks growth_by) ≡ one.blocks + growth_by =
          omega (
            arith,
            length-append (blocks_in one.name.bytes.items volumes.volumes) (zero_blocks growth_by),
            length-replicate {A = Block} growth_by zero_block,
            long,
          ) in
          let below : k < growth_by = omega (arith, past, within, its_long) in
          new_block extents by.shows.table new number one.blocks entry growth' entry.blocks V W grown j extent past (omega (arith, within, its_long, blocks))
          by.shows.clean at
          ∙ sym (ap (λ (n : ℕ). get_or (blocks_in one.name.bytes.items volumes.volumes ++ zero_blocks growth_by) n []) (omega (arith, past, long) ∙ refl)
          ∙ get_or-append-add (blocks_in one.name.bytes.items volumes.volumes) (zero_blocks growth_by) k []
          ∙ get_or-replicate {A = Block} growth_by k zero_block [] below)
    ]

-- An extend that is admitted, of a record that is used.
applies_to : (honest : Type 0) (name : List ℕ) (growth_by : ℕ) (old new : StoreView) (owners owners' : List (Option Owned)) (number first : ℕ) (entry : Record)
    (result : Answer)
    → HasGrown honest old new owners owners' number first entry result → IsRecordFor old.keeps.records name number first → entry.name.bytes.items ≡ name
    → entry.blocks ≡ first + growth_by
    → ((sectors : List Block) (volumes : VolumeMap) → ShowsBy (extents_for_store old) old.keeps sectors volumes
    → None ≡ refusal_of (extents_for_store old) (Extend name growth_by) volumes)
    → ((V W : List Block) (volumes : VolumeMap) → ShowsBy (extents_for_store old) old.keeps V volumes
    → IsGrown (extents_for_store old) new.keeps number first entry.blocks V W
    → ShowsBy (extents_for_store old) new.keeps W (done (Extend name growth_by) volumes))
applies_to honest name growth_by old new owners owners' number first entry result grown found named blocks admitted V W volumes by is =
    let one : Record = found.entry in
    let first_is : first ≡ one.blocks = sym found.as_long in
    subst (λ (n : List ℕ). ShowsBy (extents_for_store old) new.keeps W (done (Extend n growth_by) volumes)) found.named
    (extended_is_shown (extents_for_store old) old.keeps new.keeps number entry one growth_by V W volumes
    (subst (λ (n : ℕ). IsGrowth (extents_for_store old) old.keeps new.keeps number n entry) first_is
    (growth honest old new owners owners' number first entry result grown)) found.used
    (named ∙ sym found.named) (blocks ∙ ap (λ (n : ℕ). n + growth_by) first_is) by
    (subst (λ (n : List ℕ). None ≡ refusal_of (extents_for_store old) (Extend n growth_by) volumes) (sym found.named) (admitted V volumes by))
    (subst (λ (n : ℕ). IsGrown (extents_for_store old) new.keeps number n entry.blocks V W) first_is is))

-- the record that was found
found_for : (records : List (Option Record)) (name : List ℕ) (number first : ℕ) → ∥ IsRecordFor records name number first ∥₁
    → IsRecordFor records name number first
found_for records name number first found = by_record (record_of records number) refl
  where
    by_record : (one : Option Record) → record_of records number ≡ one → IsRecordFor records name number first
    by_record None none = absurd (∥∥₁_elim found (hlevel props) (λ it. none-some it.entry (sym none ∙ it.used)))
    by_record (Some entry) used = record {
      entry = entry;
      used = used;
      named = ∥∥₁_elim found (hlevel props) (λ it. ap (λ (r : Record). r.name.bytes.items) (same_Some entry it.entry (sym used ∙ it.used)) ∙ it.named);
      as_long = ∥∥₁_elim found (hlevel props) (λ it. ap (λ (r : Record). r.blocks) (same_Some entry it.entry (sym used ∙ it.used)) ∙ it.as_long);
    }

pub extend_applies : (honest : Type 0) (name : List ℕ) (growth_by : ℕ) (old new : StoreView) (owners owners' : List (Option Owned)) (number first : ℕ)
    (entry : Record) (result : Answer)
    → HasGrown honest old new owners owners' number first entry result → ∥ IsRecordFor old.keeps.records name number first ∥₁ → entry.name.bytes.items ≡ name
    → entry.blocks ≡ first + growth_by
    → ((sectors : List Block) (volumes : VolumeMap) → ShowsBy (extents_for_store old) old.keeps sectors volumes
    → None ≡ refusal_of (extents_for_store old) (Extend name growth_by) volumes)
    → ExtendsVolume honest name growth_by old new result
extend_applies honest name growth_by old new owners owners' number first entry result grown found named blocks admitted =
    growing_applies honest (Extend name growth_by) old new owners owners' number first entry result grown tt refl (λ volumes. refl) admitted
    (applies_to honest name growth_by old new owners owners' number first entry result grown (found_for old.keeps.records name number first found) named blocks
    admitted)

-- What an extend is refused with at once does not end the store.
not_ended : (refusal : Refusal) → Contains (NoVolume ∷ BadSize ∷ NoSpace ∷ []) refusal → ¬ EndsIt refusal
not_ended refusal (zero, below, is) ends = subst EndsIt (sym is) ends
not_ended refusal (suc zero, below, is) ends = subst EndsIt (sym is) ends
not_ended refusal (suc (suc zero), below, is) ends = subst EndsIt (sym is) ends
not_ended refusal (suc (suc (suc k)), below, is) ends = absurd (omega (arith, below))

pub extend_is_refused : (honest : Type 0) (name : List ℕ) (growth_by : ℕ) (store : StoreView) (refusal : Refusal) → store.ended ≡ None
    → Contains (NoVolume ∷ BadSize ∷ NoSpace ∷ []) refusal
    → ((sectors : List Block) (volumes : VolumeMap) → ShowsBy (extents_for_store store) store.keeps sectors volumes
    → Some refusal ≡ refusal_of (extents_for_store store) (Extend name growth_by) volumes)
    → ExtendsVolume honest name growth_by store store (Err refusal)
extend_is_refused honest name growth_by store refusal going among refuses =
    refused_at_once honest (Extend name growth_by) store refusal going among (not_ended refusal among) refuses
