-- What a logical list shows.
use Rattle.std.proofs.Common.{◌≡◌, ◌≢◌, ◌⊎◌, ◌↔◌, inl, inr, ⊎_elim, ℕ, zero, suc, ◌+◌, ◌-◌, ◌<◌, ◌≤◌, Bool, true, false, nat_lt, ◌&&◌, List, [], ◌∷◌}
use Rattle.std.proofs.Common.{length, take, get_or, All, Option, Some, None, refl, sym, ap, subst, ◌∙◌, arith, IsTrue}
use Rattle.std.specs.List.{list_all}
use Rattle.std.proofs.Props.{props}
use Rattle.std.proofs.Math.Logic.{∥∥₁_elim}
use Rattle.std.proofs.lemmas.Bool.{and_parts, and_from, ltb-true, lt-ltb, or_left, false≢true, true≢false}
use Rattle.std.proofs.lemmas.List.{same_lists, get_or_default}
use Rattle.std.proofs.lemmas.List.Sums.{AllPass-from_list_all, list_all-from_AllPass}
use Rattle.std.proofs.lemmas.Option.{same_Some}
use Rattle.extents.specs.declared.extent_layout.ExtentLayout.{ExtentLayout}
use Rattle.extents.specs.ExtentMaps.{place_of, sector_of_block}
use Rattle.extents.specs.declared.owned.Owned.{Owned}
use Rattle.extents.specs.declared.record.Record.{Record}
use Rattle.extents.specs.declared.volume_table.VolumeTable.{VolumeTable}
use Rattle.extents.specs.Names.{is_letter, is_digit, is_name_byte, IsGoodName}
use Rattle.extents.specs.Owners.{IsAt, HasPlaces}
use Rattle.extents.specs.Versions.{most_name_bytes, table_length}
use Rattle.extents.specs.VolumeTables.{AreDistinct, HasRecord, HaveTheirPlaces, IsVolumeTable, extents_for, extents_of, record_of}
use Rattle.extents.proofs.Blocks.{place_is_below}
use Rattle.volume_table.specs.Names.{is_same_name, is_good_name}
use Rattle.volume_table.specs.Volumes.{Block, IsBlock, VolumeList, VolumeMap, blocks_of, AreVolumes}
use Rattle.volume_table.specs.VolumeStep.{Write, Done, blocks_in, refusal_of, reply_to, volumes_after}
use Rattle.volume_table.specs.Law.{IsWritten, LeavesWritten}
use Rattle.volume_table.specs.Shows.{AreBlocksIn, IsOfVolume, AreShown, Shows, HasWritten}
use Rattle.volume_table.specs.ShowsLaw.{TablesHaveOneSpelling}
use Rattle.volume_table.proofs.CleanExtents.{clean_written, same_sector}
use Rattle.volume_table.proofs.VolumeLemmas.{same_name_is, same_name_itself, known_by_blocks}
use Rattle.volume_table.proofs.StepLemmas.{IsWithin, is_within, step_keeps, changed_if_done, done_if_not_refused, not_the_one, others_stay}
use Rattle.volume_table.proofs.StepLemmas.{write_changes_its_blocks}
use Rattle.volume_table.proofs.TableSizes.{same_first, same_map, short_names, table_short}

-- the test of a name
good_forward : (version : ℕ) (name : List ℕ) → is_good_name version name ≡ true → IsGoodName name × (length name ≤ most_name_bytes version)
good_forward version [] good = absurd (false≢true good)
good_forward version (first ∷ rest) good =
    let outer = and_parts (is_letter first && list_all is_name_byte rest) (nat_lt (length rest) (most_name_bytes version)) good in
    let inner = and_parts (is_letter first) (list_all is_name_byte rest) outer.0 in
    let short : length (first ∷ rest) ≤ most_name_bytes version = omega (arith, ltb-true (length rest) (most_name_bytes version) outer.1) in (
      record {
        not_empty = omega arith;
        short = omega (arith, short, short_names version);
        starts = inner.0;
        each = λ k within. each_byte inner.0 (AllPass-from_list_all is_name_byte rest inner.1) k within;
      },
      short,
    )
  where
    each_byte : is_letter first ≡ true → All (λ byte. is_name_byte byte ≡ true) rest → (k : ℕ) → k < length (first ∷ rest)
        → is_name_byte (get_or (first ∷ rest) k 0) ≡ true
    each_byte letter all zero within = or_left _ _ (or_left _ _ (or_left (is_letter first) (is_digit first) letter))
    each_byte letter all (suc k) within = all k 0 (omega arith)

good_backward : (version : ℕ) (name : List ℕ) → IsGoodName name → length name ≤ most_name_bytes version → is_good_name version name ≡ true
good_backward version [] good short = absurd (omega (arith, good.not_empty))
good_backward version (first ∷ rest) good short =
    and_from (is_letter first && list_all is_name_byte rest) (nat_lt (length rest) (most_name_bytes version))
    (and_from (is_letter first) (list_all is_name_byte rest) good.starts (list_all-from_AllPass is_name_byte rest each_byte))
    (lt-ltb (length rest) (most_name_bytes version) (omega (arith, short)))
  where
    each_byte : All (λ byte. is_name_byte byte ≡ true) rest
    each_byte k d within = same_default rest k d within (good.each (suc k) (omega arith))
      where
        same_default : (xs : List ℕ) (k d : ℕ) → k < length xs → is_name_byte (get_or xs k 0) ≡ true → is_name_byte (get_or xs k d) ≡ true
        same_default [] k d within h = absurd (omega arith)
        same_default (x ∷ xs) zero d within h = h
        same_default (x ∷ xs) (suc k) d within h = same_default xs k d (omega arith) h

pub good_names : (version : ℕ) (name : List ℕ) → IsTrue (is_good_name version name) ↔ (IsGoodName name × (length name ≤ most_name_bytes version))
good_names version name = (good_forward version name, λ both. good_backward version name both.0 both.1)

-- two volumes of one record have the same blocks
same_blocks : (extents : ExtentLayout) (records : List (Option Record)) (owners : List (Option Owned)) (sectors : List Block) (number : ℕ) (entry : Record)
    (first second : List Block) → HaveTheirPlaces extents.blocks records owners → record_of records number ≡ Some entry
    → length first ≡ entry.blocks → length second ≡ entry.blocks → AreBlocksIn extents sectors owners number first
    → AreBlocksIn extents sectors owners number second → first ≡ second
same_blocks extents records owners sectors number entry first second placed used one_long two_long one two =
    same_lists first second (one_long ∙ sym two_long) (λ k d within.
    let each = extents.blocks in
    let has : HasPlaces owners number (extents_of each (record_of records number)) = placed number in
    let count : extents_of each (record_of records number) ≡ extents_for each entry.blocks = ap (extents_of each) used in
    let below = place_is_below each entry.blocks k extents.limits.some (omega (arith, within, one_long)) in
    let at = has.extent_at (place_of extents k) (omega (arith, count, below)) in
    let within_second : k < length second = omega (arith, one_long, two_long) in
    get_or_default first k d [] within ∙ sym (one k at.0 within at.1) ∙ two k at.0 within_second at.1 ∙ sym (get_or_default second k d [] within_second))

-- what one map has, the other has
also_there : {extents : ExtentLayout} (records : List (Option Record)) (owners : List (Option Owned)) (sectors : List Block) (first second : VolumeList)
    → HaveTheirPlaces extents.blocks records owners → AreShown extents records owners sectors first → AreShown extents records owners sectors second
    → (name : List ℕ) (blocks : List Block) → blocks_of name first ≡ Some blocks → blocks_of name second ≡ Some blocks
also_there {extents} records owners sectors first second placed one two name blocks found =
    let has : HasRecord records name = one.all name blocks found in
    let here : IsOfVolume extents owners sectors first has.number has.entry = one.used has.number has.entry has.used in
    let there : IsOfVolume extents owners sectors second has.number has.entry = two.used has.number has.entry has.used in
    let same : blocks ≡ here.blocks = same_Some blocks here.blocks (sym found ∙ ap (λ n. blocks_of n first) (sym has.named) ∙ here.named) in
    ap (λ n. blocks_of n second) (sym has.named) ∙ there.named
    ∙ ap Some (same_blocks extents records owners sectors has.number has.entry there.blocks here.blocks placed has.used there.as_long here.as_long there.stand
    here.stand ∙ sym same)

pub same_found : (o p : Option (List Block)) → ((blocks : List Block) → o ≡ Some blocks → p ≡ Some blocks)
    → ((blocks : List Block) → p ≡ Some blocks → o ≡ Some blocks) → o ≡ p
same_found None None f g = refl
same_found None (Some blocks) f g = g blocks refl
same_found (Some blocks) p f g = sym (f blocks refl)

-- where the table is known, the lists of both are one
same_volumes : (extents : ExtentLayout) (records : List (Option Record)) (owners : List (Option Owned)) (sectors : List Block) (first second : VolumeMap)
    → HaveTheirPlaces extents.blocks records owners
    → AreVolumes extents first → AreVolumes extents second → AreShown extents records owners sectors first.volumes
    → AreShown extents records owners sectors second.volumes → first.volumes ≡ second.volumes
same_volumes extents records owners sectors first second placed one_limits two_limits one two =
    known_by_blocks first.volumes second.volumes one_limits.rising two_limits.rising (λ name.
    same_found (blocks_of name first.volumes) (blocks_of name second.volumes)
    (also_there records owners sectors first.volumes second.volumes placed one two name)
    (also_there records owners sectors second.volumes first.volumes placed two one name))

pub shown_are_one : (extents : ExtentLayout) (records : List (Option Record)) (owners : List (Option Owned)) (sectors : List Block) (version : ℕ)
    (first second : VolumeMap) → ∥ HaveTheirPlaces extents.blocks records owners ∥₁
    → first.version ≡ version → second.version ≡ version
    → AreVolumes extents first → AreVolumes extents second → AreShown extents records owners sectors first.volumes
    → AreShown extents records owners sectors second.volumes → first ≡ second
shown_are_one extents records owners sectors version first second places first_is second_is one_limits two_limits one two =
    ∥∥₁_elim places (hlevel props) (λ placed.
    same_map first second (first_is ∙ sym second_is) (same_volumes extents records owners sectors first second placed one_limits two_limits one two))

-- the names of a table are distinct
pub distinct_names : (version : ℕ) (records : List (Option Record)) (owners : List (Option Owned)) → ∥ IsVolumeTable version records owners ∥₁
    → AreDistinct records
distinct_names version records owners table i j first second one two same =
    ∥∥₁_elim table (hlevel props) (λ is_table. is_table.distinct i j first second one two same)

-- the volume that was written
written_volume : {extents : ExtentLayout} (owners : List (Option Owned)) (before left : List Block) (number at : ℕ) (written old new : List Block)
    → AreBlocksIn extents before owners number old → IsWritten old new at written → HasWritten extents owners number at written before left
    → AreBlocksIn extents left owners number new
written_volume {extents} owners before left number at written old new stand changes has j extent within at_extent =
    ⊎_elim below (⊎_elim above inside) (which j)
  where
    which : (k : ℕ) → (k < at) ⊎ ((at + length written ≤ k) ⊎ ((at ≤ k) × (k < at + length written)))
    which k = grind arith

    apart : (j < at) ⊎ (at + length written ≤ j) → (i extent' : ℕ) → i < length written → IsAt owners extent' number (place_of extents (at + i))
        → sector_of_block extents extent j ≢ sector_of_block extents extent' (at + i)
    apart off i extent' less there same =
        let one : j ≡ at + i = (same_sector extents owners number number j (at + i) extent extent' at_extent there same).1 in
        ⊎_elim (λ low. absurd (omega (arith, one, low, less))) (λ high. absurd (omega (arith, one, high, less))) off

    old_within : j < length old
    old_within = omega (arith, within, changes.as_long)

    below : j < at → get_or left (sector_of_block extents extent j) [] ≡ get_or new j []
    below low = has.outside (sector_of_block extents extent j) (apart (inl low)) ∙ stand j extent old_within at_extent ∙ sym (changes.below j [] low)

    above : at + length written ≤ j → get_or left (sector_of_block extents extent j) [] ≡ get_or new j []
    above high = has.outside (sector_of_block extents extent j) (apart (inr high)) ∙ stand j extent old_within at_extent ∙ sym (changes.above j [] high)

    inside : (at ≤ j) × (j < at + length written) → get_or left (sector_of_block extents extent j) [] ≡ get_or new j []
    inside range =
        let k = j - at in
        let there : at + k ≡ j = omega (arith, range.0) in
        let less : k < length written = omega (arith, range.0, range.1) in
        ap (λ n. get_or left (sector_of_block extents extent n) []) (sym there)
        ∙ has.inside k extent less (subst (λ n. IsAt owners extent number (place_of extents n)) (sym there) at_extent)
        ∙ sym (changes.inside k [] less) ∙ ap (λ n. get_or new n []) there

-- the others
other_volume : {extents : ExtentLayout} (owners : List (Option Owned)) (before left : List Block) (number other at : ℕ) (written blocks : List Block)
    → other ≢ number
    → AreBlocksIn extents before owners other blocks → HasWritten extents owners number at written before left
    → AreBlocksIn extents left owners other blocks
other_volume {extents} owners before left number other at written blocks differ stand has j extent within at_extent =
    has.outside (sector_of_block extents extent j)
    (λ i extent' less there same. differ (same_sector extents owners other number j (at + i) extent extent' at_extent there same).0)
    ∙ stand j extent within at_extent

-- the record of another name is another record
write_is_shown_by : (extents : ExtentLayout) (records : List (Option Record)) (owners : List (Option Owned)) (before left : List Block) (volumes : VolumeMap)
    (number : ℕ)
    (entry : Record) (at : ℕ) (written : List Block)
    → AreDistinct records → AreShown extents records owners before volumes.volumes → record_of records number ≡ Some entry
    → reply_to extents (Write entry.name.bytes.items at written) volumes ≡ Done → HasWritten extents owners number at written before left
    → AreShown extents records owners left (volumes_after extents (Write entry.name.bytes.items at written) volumes).volumes
write_is_shown_by extents records owners before left volumes number entry at written distinct shown used done has =
    record {
      used = λ other other_entry other_used. by_name other other_entry other_used (is_same_name other_entry.name.bytes.items name) refl;
      all = λ other blocks found. by_other other blocks found (is_same_name other name) refl;
    }
  where
    name : List ℕ
    name = entry.name.bytes.items

    after_it : VolumeList
    after_it = (volumes_after extents (Write name at written) volumes).volumes

    leaves : LeavesWritten extents name at written volumes
    leaves = write_changes_its_blocks extents name at written volumes done

    stays : (other : List ℕ) → is_same_name other name ≡ false → blocks_of other after_it ≡ blocks_of other volumes.volumes
    stays other differ = others_stay extents (Write name at written) volumes other
        (not_the_one name other (λ same. true≢false (sym (same_name_itself name) ∙ ap (λ n. is_same_name n name) (sym same) ∙ differ)))

    by_name : (other : ℕ) (other_entry : Record) → record_of records other ≡ Some other_entry → (b : Bool) → is_same_name other_entry.name.bytes.items name ≡ b
        → IsOfVolume extents owners left after_it other other_entry
    by_name other other_entry other_used true e =
        let same_name : other_entry.name.bytes.items ≡ name = same_name_is other_entry.name.bytes.items name e in
        let same : other ≡ number = distinct other number other_entry entry other_used used same_name in
        let was : IsOfVolume extents owners before volumes.volumes other other_entry = shown.used other other_entry other_used in
        let same_old : was.blocks ≡ leaves.before = same_Some was.blocks leaves.before
        (sym was.named ∙ ap (λ n. blocks_of n volumes.volumes) same_name ∙ leaves.was) in
        let stand : AreBlocksIn extents before owners number leaves.before =
        subst (λ n. AreBlocksIn extents before owners n leaves.before) same
        (subst (λ blocks. AreBlocksIn extents before owners other blocks) same_old was.stand) in
        record {
          blocks = leaves.left;
          named = ap (λ n. blocks_of n after_it) same_name ∙ leaves.is_left;
          as_long = leaves.changes.as_long ∙ ap length (sym same_old) ∙ was.as_long;
          stand = subst (λ n. AreBlocksIn extents left owners n leaves.left) (sym same)
              (written_volume owners before left number at written leaves.before leaves.left stand leaves.changes has);
        }
    by_name other other_entry other_used false e =
        let was : IsOfVolume extents owners before volumes.volumes other other_entry = shown.used other other_entry other_used in
        let differ : other ≢ number = λ same.
        let one : other_entry ≡ entry = same_Some other_entry entry (sym other_used ∙ ap (record_of records) same ∙ used) in
        true≢false (sym (same_name_itself name) ∙ ap (λ (r : Record). is_same_name r.name.bytes.items name) (sym one) ∙ e) in
        record {
          blocks = was.blocks;
          named = stays other_entry.name.bytes.items e ∙ was.named;
          as_long = was.as_long;
          stand = other_volume owners before left number other at written was.blocks differ was.stand has;
        }

    by_other : (other : List ℕ) (blocks : List Block) → blocks_of other after_it ≡ Some blocks → (b : Bool) → is_same_name other name ≡ b
        → HasRecord records other
    by_other other blocks found true e = record { number = number; entry = entry; used = used; named = sym (same_name_is other name e) }
    by_other other blocks found false e = shown.all other blocks (sym (stays other e) ∙ found)

-- the table stands below all blocks
table_stays : {extents : ExtentLayout} (version : ℕ) (before left : List Block) (owners : List (Option Owned)) (number at : ℕ) (written : List Block)
    → length left ≡ length before
    → HasWritten extents owners number at written before left
    → take (table_length version) left ≡ take (table_length version) before
table_stays {extents} version before left owners number at written as_long has =
    same_first (table_length version) before left as_long (λ k less.
    has.outside k (λ j extent below there same. absurd (omega (arith, less, table_short version, extents.limits.above, same))))

-- what is written lies within its volume
written_within : (extents : ExtentLayout) (before : List Block) (volumes : VolumeMap) (number : ℕ) (entry : Record) (at : ℕ) (written : List Block)
    (shows : Shows extents before volumes) → record_of shows.table.records number ≡ Some entry
    → reply_to extents (Write entry.name.bytes.items at written) volumes ≡ Done → at + length written ≤ entry.blocks
written_within extents before volumes number entry at written shows used replied =
    let name = entry.name.bytes.items in
    let none = done_if_not_refused (refusal_of extents (Write name at written) volumes) Done replied in
    let within : IsWithin name at (length written) volumes.volumes = is_within name at (length written) volumes.volumes none in
    let was : IsOfVolume extents shows.table.extents before volumes.volumes number entry = shows.shown.used number entry used in
    let same : was.blocks ≡ blocks_in name volumes.volumes = same_Some was.blocks (blocks_in name volumes.volumes) (sym was.named ∙ within.found) in
    omega (arith, within.fits, ap length same, was.as_long)

-- a write leaves the version
write_keeps_version : (extents : ExtentLayout) (name : List ℕ) (at : ℕ) (written : List Block) (volumes : VolumeMap)
    → reply_to extents (Write name at written) volumes ≡ Done
    → (volumes_after extents (Write name at written) volumes).version ≡ volumes.version
write_keeps_version extents name at written volumes replied =
    ap (λ (map : VolumeMap). map.version)
    (changed_if_done extents (Write name at written) volumes (done_if_not_refused (refusal_of extents (Write name at written) volumes) Done replied))

pub write_is_shown : (extents : ExtentLayout) (before left : List Block) (volumes : VolumeMap) (number : ℕ) (entry : Record) (at : ℕ) (written : List Block)
    (shows : Shows extents before volumes)
    → record_of shows.table.records number ≡ Some entry → All IsBlock written → reply_to extents (Write entry.name.bytes.items at written) volumes ≡ Done
    → length left ≡ length before → HasWritten extents shows.table.extents number at written before left
    → Shows extents left (volumes_after extents (Write entry.name.bytes.items at written) volumes)
write_is_shown extents before left volumes number entry at written shows used whole replied as_long has =
    let table = shows.table in
    record {
      limits = step_keeps extents (Write entry.name.bytes.items at written) volumes whole shows.limits;
      table = table;
      of_version = shows.of_version ∙ sym (write_keeps_version extents entry.name.bytes.items at written volumes replied);
      spelled = table_stays table.version before left table.extents number at written as_long has ∙ shows.spelled;
      of_set = shows.of_set;
      shown = write_is_shown_by extents table.records table.extents before left volumes number entry at written
          (distinct_names table.version table.records table.extents table.is_table) shows.shown used replied has;
      clean = clean_written extents table.dirty table.records table.extents number at written entry before left used
          (written_within extents before volumes number entry at written shows used replied) has shows.clean;
    }

-- one list, one map of volumes
pub list_shows_one : TablesHaveOneSpelling → (extents : ExtentLayout) (sectors : List Block) (first second : VolumeMap) → Shows extents sectors first
    → Shows extents sectors second → first ≡ second
list_shows_one spelling extents sectors first second one two =
    let same : one.table ≡ two.table = spelling extents.format sectors one.table two.table one.of_set.version two.of_set.version one.spelled two.spelled in
    let shown : AreShown extents one.table.records one.table.extents sectors second.volumes =
    subst (λ (t : VolumeTable). AreShown extents t.records t.extents sectors second.volumes) (sym same) two.shown in
    shown_are_one extents one.table.records one.table.extents sectors one.table.version first second one.of_set.placed
    (sym one.of_version) (sym two.of_version ∙ ap (λ (t : VolumeTable). t.version) (sym same)) one.limits two.limits one.shown shown
