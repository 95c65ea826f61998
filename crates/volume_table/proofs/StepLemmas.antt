-- What each command keeps.
use Rattle.std.proofs.Common.{◌≡◌, ◌≢◌, inl, inr, ℕ, zero, suc, ◌+◌, ◌-◌, ◌<◌, ◌≤◌, Bool, true, false, cond, not, ◌&&◌, ◌==◌, nat_lt, List, [], ◌∷◌, ◌++◌}
use Rattle.std.proofs.Common.{length, take}
use Rattle.std.proofs.Common.{drop, map, get_or, All, Contains, Option, Some, None, is_none, is_some, refl, sym, ap, ap₂, subst, ◌∙◌, arith}
use Rattle.std.specs.Prelude.{unwrap_or, IsTrue}
use Rattle.std.specs.List.{list_all}
use Rattle.std.specs.List.Sorted.{IsStrictlySortedBy}
use Rattle.std.proofs.lemmas.Bool.{true≢false, false≢true, and_from, and_parts, not-false, or_parts, eqb-false, ltb-false, ltb-true, leb-false, le-ltb, lt-ltb}
use Rattle.std.proofs.lemmas.List.{length-replicate, length-take, length-drop, length-append, take_at, drop_at, drop-append-le, get_or-drop, get_or-take}
use Rattle.std.proofs.lemmas.List.{get_or_append_left, get_or-append-add}
use Rattle.std.proofs.lemmas.List.Elements.{All-replicate, All-append, All-take, All-drop, All-filter, All-weaker}
use Rattle.std.proofs.lemmas.Option.{none-some, same_Some}
use Rattle.sector_model.specs.declared.refusal.Refusal.{Refusal}
use Rattle.sector_model.specs.declared.refusal.Refusal.TheVariants.{BadCount, OutOfRange, NoVolume}
use Rattle.volume_table.specs.Names.{name_order, is_same_name, is_good_name}
use Rattle.extents.specs.declared.extent_layout.ExtentLayout.{ExtentLayout}
use Rattle.extents.specs.VolumeTables.{extents_for, most_blocks}
use Rattle.extents.specs.Names.{is_letter, is_name_byte}
use Rattle.extents.specs.Versions.{is_version_of, most_name_bytes, most_volumes}
use Rattle.volume_table.specs.Volumes.{Block, IsBlock, zero_block, Volume, VolumeList, VolumeMap, names, blocks_of, need, without, IsVolume, AreVolumes}
use Rattle.volume_table.specs.VolumeStep.{Command, Create, Extend, Remove, Read, Write, Rename, Names, Upgrade, Reply, Done, Blocks, Volumes, Refused}
use Rattle.volume_table.specs.VolumeStep.{HasBlocks, is_bad_size, is_bad_count, checks_within, first_refusal, refusal_of, or_refused, unless_refused, reply_to}
use Rattle.volume_table.specs.VolumeStep.{volumes_after, changed, done, version_after, answer, zero_blocks, blocks_in, overwritten}
use Rattle.volume_table.specs.Law.{names_of, IsWritten, LeavesRenamed, LeavesWritten, IsListed, HasLength, ListsExactly}
use Rattle.extents.proofs.Tables.{upgraded_of_format, version_upgraded}
use Rattle.volume_table.proofs.TableSizes.{longer_names, more_volumes}
use Rattle.volume_table.proofs.VolumeLemmas.{Below, Rising, none_below, other_name, same_name_itself, All-with_volume, rising_with_volume, rising_without}
use Rattle.volume_table.proofs.VolumeLemmas.{length-with_new, need-with_new, length-with_other, need-with_other, found_with_volume, others_with_volume}
use Rattle.volume_table.proofs.VolumeLemmas.{found_has, length-without, need-without, gone_without, length-without_one, need-without_one, others_without}
use Rattle.volume_table.proofs.VolumeLemmas.{same_name_is}

-- where nothing is refused, the first check does not apply, and the others refuse nothing
pub none_applies : (applies : Bool) (refusal : Refusal) (rest : Option Refusal) → cond applies (Some refusal) rest ≡ None → (applies ≡ false) × (rest ≡ None)
none_applies true refusal rest none = absurd (none-some refusal (sym none))
none_applies false refusal rest none = (refl, none)

-- who answers that it is done refused nothing
pub done_if_not_refused : (refusal : Option Refusal) (reply : Reply) → or_refused refusal reply ≡ Done → refusal ≡ None
done_if_not_refused None reply done = refl
done_if_not_refused (Some refusal) reply done = absurd (grind arith)

-- who is there, and who is not
pub there : (blocks : Option (List Block)) → is_none blocks ≡ false → blocks ≡ Some (unwrap_or blocks [])
there None e = absurd (true≢false e)
there (Some blocks) e = refl

not_there : (blocks : Option (List Block)) → is_some blocks ≡ false → blocks ≡ None
not_there None e = refl
not_there (Some blocks) e = absurd (true≢false e)

size_within : (most count : ℕ) → is_bad_size most count ≡ false → (1 ≤ count) × (count ≤ most)
size_within most count good =
    let parts = or_parts (count == 0) (nat_lt most count) good in
    (omega (arith, eqb-false count 0 parts.0), omega (arith, ltb-false most count parts.1))

length-zero_block : length zero_block ≡ 512
unfolding zero_block
length-zero_block = length-replicate {A = ℕ} 512 0

pub zero_blocks_whole : (count : ℕ) → All IsBlock (zero_blocks count)
zero_blocks_whole count = All-replicate IsBlock count zero_block length-zero_block

-- the facts under which a command is done
pub record MayCreate (extents : ExtentLayout) (version : ℕ) (new : List ℕ) (count : ℕ) (volumes : VolumeList) : Type 0 where
  pub good : IsTrue (is_good_name version new)
  pub least : 1 ≤ count
  pub most : count ≤ most_blocks extents.blocks
  pub no_such : blocks_of new volumes ≡ None
  pub fewer : length volumes < most_volumes version
  pub fits : need extents.blocks volumes + extents_for extents.blocks count ≤ extents.count

pub may_create : (extents : ExtentLayout) (name : List ℕ) (count : ℕ) (volumes : VolumeMap) → refusal_of extents (Create name count) volumes ≡ None
    → MayCreate extents volumes.version name count volumes.volumes
may_create extents name count volumes none =
    let one = none_applies _ _ _ none in
    let two = none_applies _ _ _ one.1 in
    let three = none_applies _ _ _ two.1 in
    let four = none_applies _ _ _ three.1 in
    let five = none_applies _ _ _ four.1 in
    let size = size_within (most_blocks extents.blocks) count two.0 in
    record {
      good = not-false (is_good_name volumes.version name) one.0;
      least = size.0;
      most = size.1;
      no_such = not_there (blocks_of name volumes.volumes) three.0;
      fewer = leb-false (most_volumes volumes.version) (length volumes.volumes) four.0;
      fits = ltb-false extents.count (need extents.blocks volumes.volumes + extents_for extents.blocks count) five.0;
    }

pub record MayExtend (extents : ExtentLayout) (old : List ℕ) (growth : ℕ) (volumes : VolumeList) : Type 0 where
  pub found : blocks_of old volumes ≡ Some (blocks_in old volumes)
  pub grows : 1 ≤ growth
  pub most : length (blocks_in old volumes) + growth ≤ most_blocks extents.blocks
  pub fits : need extents.blocks (changed (Extend old growth) volumes) ≤ extents.count

pub may_extend : (extents : ExtentLayout) (name : List ℕ) (growth : ℕ) (volumes : VolumeMap) → refusal_of extents (Extend name growth) volumes ≡ None
    → MayExtend extents name growth volumes.volumes
may_extend extents name growth volumes none =
    let one = none_applies _ _ _ none in
    let two = none_applies _ _ _ one.1 in
    let three = none_applies _ _ _ two.1 in
    let long = length (blocks_in name volumes.volumes) + growth in
    let parts = or_parts (growth == 0) (nat_lt (most_blocks extents.blocks) long) two.0 in
    record {
      found = there (blocks_of name volumes.volumes) one.0;
      grows = omega (arith, eqb-false growth 0 parts.0);
      most = ltb-false (most_blocks extents.blocks) long parts.1;
      fits = ltb-false extents.count (need extents.blocks (changed (Extend name growth) volumes.volumes)) three.0;
    }

pub record IsWithin (old : List ℕ) (at count : ℕ) (volumes : VolumeList) : Type 0 where
  pub found : blocks_of old volumes ≡ Some (blocks_in old volumes)
  pub good_count : is_bad_count count ≡ false
  pub fits : at + count ≤ length (blocks_in old volumes)

pub is_within : (name : List ℕ) (at count : ℕ) (volumes : VolumeList) → first_refusal (checks_within name at count volumes) ≡ None
    → IsWithin name at count volumes
is_within name at count volumes none =
    let one = none_applies _ _ _ none in
    let two = none_applies _ _ _ one.1 in
    let three = none_applies _ _ _ two.1 in
    record {
      found = there (blocks_of name volumes) one.0;
      good_count = two.0;
      fits = ltb-false (length (blocks_in name volumes)) (at + count) three.0;
    }

pub record MayBeRenamed (version : ℕ) (old new : List ℕ) (volumes : VolumeList) : Type 0 where
  pub found : blocks_of old volumes ≡ Some (blocks_in old volumes)
  pub good : IsTrue (is_good_name version new)
  pub no_such : blocks_of new volumes ≡ None
  pub apart : new ≢ old

pub may_be_renamed : (extents : ExtentLayout) (old new : List ℕ) (volumes : VolumeMap) → refusal_of extents (Rename old new) volumes ≡ None
    → MayBeRenamed volumes.version old new volumes.volumes
may_be_renamed extents old new volumes none =
    let one = none_applies _ _ _ none in
    let two = none_applies _ _ _ one.1 in
    let three = none_applies _ _ _ two.1 in
    let found = there (blocks_of old volumes.volumes) one.0 in
    let no_such = not_there (blocks_of new volumes.volumes) three.0 in
    record {
      found = found;
      good = not-false (is_good_name volumes.version new) two.0;
      no_such = no_such;
      apart = λ same. none-some (blocks_in old volumes.volumes) (sym no_such ∙ ap (λ n. blocks_of n volumes.volumes) same ∙ found);
    }

-- as many blocks after a write
pub length-overwritten : (blocks : List Block) (at : ℕ) (written : List Block) → at + length written ≤ length blocks
    → length (overwritten blocks at written) ≡ length blocks
length-overwritten blocks at written within =
    let beyond = drop (at + length written) blocks in
    omega (
      arith,
      length-append (take at blocks ++ written) beyond,
      length-append (take at blocks) written,
      length-take at blocks,
      length-drop (at + length written) blocks,
    )

overwritten_whole : (blocks : List Block) (at : ℕ) (written : List Block) → All IsBlock blocks → All IsBlock written
    → All IsBlock (overwritten blocks at written)
overwritten_whole blocks at written whole new_whole =
    All-append IsBlock (take at blocks ++ written) (drop (at + length written) blocks)
    (All-append IsBlock (take at blocks) written (All-take IsBlock at blocks whole) new_whole) (All-drop IsBlock (at + length written) blocks whole)

-- what was written stands where it was written
pub written_again : (blocks : List Block) (at : ℕ) (written : List Block) → at + length written ≤ length blocks
    → take (length written) (drop at (overwritten blocks at written)) ≡ written
written_again blocks at written within =
    let before = take at blocks in
    let beyond = drop (at + length written) blocks in
    let long : length before ≡ at = omega (arith, length-take at blocks) in
    ap (take (length written)) (drop-append-le at (before ++ written) beyond (omega (arith, length-append before written, long))
    ∙ ap (λ rest. rest ++ beyond) (drop_at before written at long))
    ∙ take_at written beyond (length written) refl

-- block by block
pub is_written : (blocks : List Block) (at : ℕ) (written : List Block) → at + length written ≤ length blocks
    → IsWritten blocks (overwritten blocks at written) at written
is_written blocks at written within =
    let before = take at blocks in
    let beyond = drop (at + length written) blocks in
    let front = before ++ written in
    let long : length before ≡ at = omega (arith, length-take at blocks) in
    let front_long : length front ≡ at + length written = length-append before written ∙ ap (λ n. n + length written) long in
    record {
      as_long = length-overwritten blocks at written within;
      inside = λ k d below. get_or_append_left front beyond d (at + k) (omega (arith, front_long)) ∙ ap (λ n. get_or front (n + k) d) (sym long)
          ∙ get_or-append-add before written k d;
      below = λ k d below. get_or_append_left front beyond d k (omega (arith, front_long)) ∙ get_or_append_left before written d k (omega (arith, long))
          ∙ get_or-take at blocks k d below;
      above = λ k d below.
          let past : length front + (k - length front) ≡ k = omega (arith, front_long) in
          ap (λ n. get_or (front ++ beyond) n d) (sym past) ∙ get_or-append-add front beyond (k - length front) d
          ∙ get_or-drop (at + length written) blocks (k - length front) d
          ∙ ap (λ n. get_or blocks n d) (omega (arith, front_long));
    }

create_keeps : (extents : ExtentLayout) (name : List ℕ) (count : ℕ) (volumes : VolumeMap) → MayCreate extents volumes.version name count volumes.volumes
    → AreVolumes extents volumes → AreVolumes extents (done (Create name count) volumes)
create_keeps extents name count volumes may are =
    let new : Volume = record { name = name; blocks = zero_blocks count } in
    let long : length (zero_blocks count) ≡ count = length-replicate count zero_block in
    let one : IsVolume (most_blocks extents.blocks) volumes.version new = record {
      good = may.good;
      least = omega (arith, long, may.least);
      most = omega (arith, long, may.most);
      whole =
          zero_blocks_whole count;
    } in
    let same : extents_for extents.blocks (length (zero_blocks count)) ≡ extents_for extents.blocks count = ap (extents_for extents.blocks) long in
    record {
      is_version = are.is_version;
      few = omega (arith, length-with_new new volumes.volumes are.rising may.no_such, may.fewer);
      each = All-with_volume (IsVolume (most_blocks extents.blocks) volumes.version) new volumes.volumes one are.each;
      rising = rising_with_volume new volumes.volumes are.rising;
      within = omega (arith, need-with_new extents.blocks new volumes.volumes are.rising may.no_such, same, may.fits);
    }

extend_keeps : (extents : ExtentLayout) (name : List ℕ) (growth : ℕ) (volumes : VolumeMap) → MayExtend extents name growth volumes.volumes
    → AreVolumes extents volumes
    → AreVolumes extents (done (Extend name growth) volumes)
extend_keeps extents name growth volumes may are =
    let old = blocks_in name volumes.volumes in
    let new : Volume = record { name = name; blocks = old ++ zero_blocks growth } in
    let was : IsVolume (most_blocks extents.blocks) volumes.version (record { name = name; blocks = old }) =
    found_has (IsVolume (most_blocks extents.blocks) volumes.version) name volumes.volumes old are.each may.found in
    let long : length (old ++ zero_blocks growth) ≡ length old + growth = length-append old (zero_blocks growth)
    ∙ ap (λ n. length old + n) (length-replicate growth zero_block) in
    let one : IsVolume (most_blocks extents.blocks) volumes.version new = record {
      good = was.good;
      least = omega (arith, long, may.grows);
      most = omega (arith, long, may.most);
      whole =
          All-append IsBlock old (zero_blocks growth) was.whole (zero_blocks_whole growth);
    } in
    record {
      is_version = are.is_version;
      few = omega (arith, length-with_other new volumes.volumes old are.rising may.found, are.few);
      each = All-with_volume (IsVolume (most_blocks extents.blocks) volumes.version) new volumes.volumes one are.each;
      rising = rising_with_volume new volumes.volumes are.rising;
      within = may.fits;
    }

remove_keeps : (extents : ExtentLayout) (name : List ℕ) (volumes : VolumeMap) → AreVolumes extents volumes → AreVolumes extents (done (Remove name) volumes)
remove_keeps extents name volumes are =
    record {
      is_version = are.is_version;
      few = omega (arith, length-without name volumes.volumes, are.few);
      each = All-filter (λ volume. not (is_same_name name volume.name)) (IsVolume (most_blocks extents.blocks) volumes.version) volumes.volumes are.each;
      rising = rising_without name volumes.volumes are.rising;
      within = omega (arith, need-without extents.blocks name volumes.volumes, are.within);
    }

write_keeps : (extents : ExtentLayout) (name : List ℕ) (at : ℕ) (written : List Block) (volumes : VolumeMap) → All IsBlock written
    → IsWithin name at (length written) volumes.volumes → AreVolumes extents volumes
    → AreVolumes extents (done (Write name at written) volumes)
write_keeps extents name at written volumes whole within are =
    let old = blocks_in name volumes.volumes in
    let new : Volume = record { name = name; blocks = overwritten old at written } in
    let was : IsVolume (most_blocks extents.blocks) volumes.version (record { name = name; blocks = old }) =
    found_has (IsVolume (most_blocks extents.blocks) volumes.version) name volumes.volumes old are.each within.found in
    let long : length (overwritten old at written) ≡ length old = length-overwritten old at written within.fits in
    let one : IsVolume (most_blocks extents.blocks) volumes.version new = record {
      good = was.good;
      least = omega (arith, long, was.least);
      most = omega (arith, long, was.most);
      whole =
          overwritten_whole old at written was.whole whole;
    } in
    let same : extents_for extents.blocks (length (overwritten old at written)) ≡ extents_for extents.blocks (length old) =
    ap (extents_for extents.blocks) long in
    record {
      is_version = are.is_version;
      few = omega (arith, length-with_other new volumes.volumes old are.rising within.found, are.few);
      each = All-with_volume (IsVolume (most_blocks extents.blocks) volumes.version) new volumes.volumes one are.each;
      rising = rising_with_volume new volumes.volumes are.rising;
      within = omega (arith, need-with_other extents.blocks new volumes.volumes old are.rising within.found, same, are.within);
    }

rename_keeps : (extents : ExtentLayout) (old new : List ℕ) (volumes : VolumeMap) → MayBeRenamed volumes.version old new volumes.volumes
    → AreVolumes extents volumes
    → AreVolumes extents (done (Rename old new) volumes)
rename_keeps extents old new volumes may are =
    let blocks = blocks_in old volumes.volumes in
    let others = without old volumes.volumes in
    let named : Volume = record { name = new; blocks = blocks } in
    let was : IsVolume (most_blocks extents.blocks) volumes.version (record { name = old; blocks = blocks }) =
    found_has (IsVolume (most_blocks extents.blocks) volumes.version) old volumes.volumes blocks are.each may.found in
    let one : IsVolume (most_blocks extents.blocks) volumes.version named = record { good = may.good; least = was.least; most = was.most; whole = was.whole } in
    let rising = rising_without old volumes.volumes are.rising in
    let no_such : blocks_of new others ≡ None = others_without new old volumes.volumes may.apart ∙ may.no_such in
    record {
      is_version = are.is_version;
      few = omega (arith, length-with_new named others rising no_such, length-without_one old volumes.volumes blocks are.rising may.found, are.few);
      each = All-with_volume (IsVolume (most_blocks extents.blocks) volumes.version) named others one
          (All-filter (λ volume. not (is_same_name old volume.name)) (IsVolume (most_blocks extents.blocks) volumes.version) volumes.volumes are.each);
      rising = rising_with_volume named others rising;
      within = omega (
        arith,
        need-with_new extents.blocks named others rising no_such,
        need-without_one extents.blocks old volumes.volumes blocks are.rising
            may.found,
        are.within,
      );
    }

-- version 2 has room for what each version has
good_in_last : (version : ℕ) (name : List ℕ) → is_good_name version name ≡ true → is_good_name 2 name ≡ true
good_in_last version [] good = absurd (false≢true good)
good_in_last version (first ∷ rest) good =
    let parts = and_parts (is_letter first && list_all is_name_byte rest) (nat_lt (length rest) (most_name_bytes version)) good in
    let below : length rest < most_name_bytes 2 = omega (arith, ltb-true (length rest) (most_name_bytes version) parts.1, longer_names version) in
    and_from (is_letter first && list_all is_name_byte rest) (nat_lt (length rest) (most_name_bytes 2)) parts.0 (lt-ltb (length rest) (most_name_bytes 2) below)

volume_in_last : (most version : ℕ) (volume : Volume) → IsVolume most version volume → IsVolume most 2 volume
volume_in_last most version volume is = record { good = good_in_last version volume.name is.good; least = is.least; most = is.most; whole = is.whole }

-- and so has an upgraded one
limits_in_last : (extents : ExtentLayout) (volumes : VolumeMap) → is_version_of extents.format 2 ≡ true → AreVolumes extents volumes
    → AreVolumes extents (record { version = 2; volumes = volumes.volumes })
limits_in_last extents volumes of_format are =
    let most = most_blocks extents.blocks in
    record {
      is_version = ((omega arith, omega arith), of_format);
      few = omega (arith, are.few, more_volumes volumes.version);
      each = All-weaker (IsVolume most volumes.version) (IsVolume most 2) (volume_in_last most volumes.version) volumes.volumes are.each;
      rising = are.rising;
      within = are.within;
    }

pub upgrade_keeps : (extents : ExtentLayout) (volumes : VolumeMap) → AreVolumes extents volumes → AreVolumes extents (done Upgrade volumes)
upgrade_keeps extents volumes are = elim (version_upgraded volumes.version) [
  | inl first ↦ subst (λ (v : ℕ). AreVolumes extents (record { version = v; volumes = volumes.volumes })) (sym first.1) (limits_in_last extents volumes
      (subst (λ (v : ℕ). is_version_of extents.format v ≡ true) first.1 (upgraded_of_format extents.format volumes.version are.is_version.1)) are)
  | inr same ↦ subst (λ (v : ℕ). AreVolumes extents (record { version = v; volumes = volumes.volumes })) (sym same) are
]

-- a command that is not refused keeps the limits
changed_keeps : (extents : ExtentLayout) (command : Command) (volumes : VolumeMap) → HasBlocks command → AreVolumes extents volumes
    → refusal_of extents command volumes ≡ None → AreVolumes extents (done command volumes)
changed_keeps extents (Create name count) volumes has are none = create_keeps extents name count volumes (may_create extents name count volumes none) are
changed_keeps extents (Extend name growth) volumes has are none = extend_keeps extents name growth volumes (may_extend extents name growth volumes none) are
changed_keeps extents (Remove name) volumes has are none = remove_keeps extents name volumes are
changed_keeps extents (Read name at count) volumes has are none = are
changed_keeps extents (Write name at written) volumes has are none =
    write_keeps extents name at written volumes has (is_within name at (length written) volumes.volumes none) are
changed_keeps extents (Rename old new) volumes has are none = rename_keeps extents old new volumes (may_be_renamed extents old new volumes none) are
changed_keeps extents Names volumes has are none = are
changed_keeps extents Upgrade volumes has are none = upgrade_keeps extents volumes are

pub step_keeps : (extents : ExtentLayout) (command : Command) (volumes : VolumeMap) → HasBlocks command → AreVolumes extents volumes
    → AreVolumes extents (volumes_after extents command volumes)
step_keeps extents command volumes has are = by_case (refusal_of extents command volumes) refl
  where
    by_case : (o : Option Refusal) → refusal_of extents command volumes ≡ o → AreVolumes extents (unless_refused o (done command volumes) volumes)
    by_case None none = changed_keeps extents command volumes has are none
    by_case (Some refusal) e = are

-- what is not refused is done
pub changed_if_done : (extents : ExtentLayout) (command : Command) (volumes : VolumeMap) → refusal_of extents command volumes ≡ None
    → volumes_after extents command volumes ≡ done command volumes
changed_if_done extents command volumes none = ap (λ o. unless_refused o (done command volumes) volumes) none

-- and leaves this list of volumes
pub list_if_done : (extents : ExtentLayout) (command : Command) (volumes : VolumeMap) → refusal_of extents command volumes ≡ None
    → (volumes_after extents command volumes).volumes ≡ changed command volumes.volumes
list_if_done extents command volumes none = ap (λ (left : VolumeMap). left.volumes) (changed_if_done extents command volumes none)

-- no answer is a refusal
no_refusal_answered : (command : Command) (volumes : VolumeList) (refusal : Refusal) → answer command volumes ≡ Refused refusal → ⊥
no_refusal_answered (Create name count) volumes refusal e = absurd (grind arith)
no_refusal_answered (Extend name growth) volumes refusal e = absurd (grind arith)
no_refusal_answered (Remove name) volumes refusal e = absurd (grind arith)
no_refusal_answered (Read name at count) volumes refusal e = absurd (grind arith)
no_refusal_answered (Write name at written) volumes refusal e = absurd (grind arith)
no_refusal_answered (Rename old new) volumes refusal e = absurd (grind arith)
no_refusal_answered Names volumes refusal e = absurd (grind arith)
no_refusal_answered Upgrade volumes refusal e = absurd (grind arith)

pub refused_changes_nothing : (extents : ExtentLayout) (command : Command) (volumes : VolumeMap) (refusal : Refusal)
    → reply_to extents command volumes ≡ Refused refusal
    → volumes_after extents command volumes ≡ volumes
refused_changes_nothing extents command volumes refusal refused = by_case (refusal_of extents command volumes) refused
  where
    by_case : (o : Option Refusal) → or_refused o (answer command volumes.volumes) ≡ Refused refusal → unless_refused o (done command volumes) volumes ≡ volumes
    by_case None e = absurd (no_refusal_answered command volumes.volumes refusal e)
    by_case (Some other) e = refl

-- they stay, refused or not
either_way : (o : Option Refusal) (volumes : VolumeMap) → unless_refused o volumes volumes ≡ volumes
either_way None volumes = refl
either_way (Some refusal) volumes = refl

pub read_changes_nothing : (extents : ExtentLayout) (name : List ℕ) (at count : ℕ) (volumes : VolumeMap)
    → volumes_after extents (Read name at count) volumes ≡ volumes
read_changes_nothing extents name at count volumes = either_way (refusal_of extents (Read name at count) volumes) volumes

-- no command but an upgrade changes the version
version_stays_in : (command : Command) (version : ℕ) → command ≢ Upgrade → version_after command version ≡ version
version_stays_in (Create name count) version other = refl
version_stays_in (Extend name growth) version other = refl
version_stays_in (Remove name) version other = refl
version_stays_in (Read name at count) version other = refl
version_stays_in (Write name at written) version other = refl
version_stays_in (Rename old new) version other = refl
version_stays_in Names version other = refl
version_stays_in Upgrade version other = absurd (other refl)

pub version_stays : (extents : ExtentLayout) (command : Command) (volumes : VolumeMap) → command ≢ Upgrade
    → (volumes_after extents command volumes).version ≡ volumes.version
version_stays extents command volumes other = by_case (refusal_of extents command volumes)
  where
    by_case : (o : Option Refusal) → (unless_refused o (done command volumes) volumes).version ≡ volumes.version
    by_case None = version_stays_in command volumes.version other
    by_case (Some refusal) = refl

-- a name that is none of these
not_first : (first : List ℕ) (names : List (List ℕ)) (other : List ℕ) → ¬ Contains (first ∷ names) other → other ≢ first
not_first first names other none same = none (0, omega arith, sym same)

not_second : (first second : List ℕ) (names : List (List ℕ)) (other : List ℕ) → ¬ Contains (first ∷ second ∷ names) other → other ≢ second
not_second first second names other none same = none (1, omega arith, sym same)

pub not_the_one : (name other : List ℕ) → other ≢ name → ¬ Contains (name ∷ []) other
not_the_one name other apart (zero, below, is) = apart (sym is)
not_the_one name other apart (suc k, below, is) = absurd (omega (arith, below))

-- others stay
changed_leaves : (command : Command) (volumes : VolumeList) (other : List ℕ) → ¬ Contains (names_of command) other
    → blocks_of other (changed command volumes) ≡ blocks_of other volumes
changed_leaves (Create name count) volumes other none =
    others_with_volume other (record { name = name; blocks = zero_blocks count }) volumes (not_first name [] other none)
changed_leaves (Extend name growth) volumes other none =
    others_with_volume other (record { name = name; blocks = blocks_in name volumes ++ zero_blocks growth }) volumes (not_first name [] other none)
changed_leaves (Remove name) volumes other none = others_without other name volumes (not_first name [] other none)
changed_leaves (Read name at count) volumes other none = refl
changed_leaves (Write name at written) volumes other none =
    others_with_volume other (record { name = name; blocks = overwritten (blocks_in name volumes) at written }) volumes (not_first name [] other none)
changed_leaves (Rename old new) volumes other none =
    others_with_volume other (record { name = new; blocks = blocks_in old volumes }) (without old volumes) (not_second old new [] other none)
    ∙ others_without other old volumes (not_first old (new ∷ []) other none)
changed_leaves Names volumes other none = refl
changed_leaves Upgrade volumes other none = refl

pub others_stay : (extents : ExtentLayout) (command : Command) (volumes : VolumeMap) (other : List ℕ) → ¬ Contains (names_of command) other
    → blocks_of other (volumes_after extents command volumes).volumes ≡ blocks_of other volumes.volumes
others_stay extents command volumes other none = by_case (refusal_of extents command volumes)
  where
    by_case : (o : Option Refusal) → blocks_of other (unless_refused o (done command volumes) volumes).volumes ≡ blocks_of other volumes.volumes
    by_case None = changed_leaves command volumes.volumes other none
    by_case (Some refusal) = refl

-- the reply to a read, by the blocks that the volume has
read_reply : ℕ → ℕ → Option (List Block) → Reply
read_reply at count blocks =
    or_refused (first_refusal ((is_none blocks, NoVolume) ∷ (is_bad_count count, BadCount) ∷ (nat_lt (length (unwrap_or blocks [])) (at + count), OutOfRange)
    ∷ []))
    (Blocks (take count (drop at (unwrap_or blocks []))))

read_found : (extents : ExtentLayout) (name : List ℕ) (at count : ℕ) (volumes : VolumeMap) (blocks : List Block) → blocks_of name volumes.volumes ≡ Some blocks
    → is_bad_count count ≡ false → at + count ≤ length blocks
    → reply_to extents (Read name at count) volumes ≡ Blocks (take count (drop at blocks))
unfolding read_reply
read_found extents name at count volumes blocks found good within =
    ap (read_reply at count) found ∙ by_case (is_bad_count count) (nat_lt (length blocks) (at + count)) good (grind (arith, ltb_not_below))
  where
    ltb_not_below : (a b : ℕ) → b ≤ a → nat_lt a b ≡ false
    ltb_not_below a b h = le-ltb a b h

    by_case : (bad past : Bool) → bad ≡ false → past ≡ false
        → or_refused (cond bad (Some BadCount) (cond past (Some OutOfRange) None)) (Blocks (take count (drop at blocks))) ≡ Blocks (take count (drop at blocks))
    by_case true past b p = absurd (true≢false b)
    by_case false true b p = absurd (true≢false p)
    by_case false false b p = refl

-- what a write leaves of its volume
found_after_write : (extents : ExtentLayout) (name : List ℕ) (at : ℕ) (written : List Block) (volumes : VolumeMap)
    → refusal_of extents (Write name at written) volumes ≡ None
    → blocks_of name (volumes_after extents (Write name at written) volumes).volumes ≡ Some (overwritten (blocks_in name volumes.volumes) at written)
found_after_write extents name at written volumes none =
    ap (blocks_of name) (list_if_done extents (Write name at written) volumes none)
    ∙ found_with_volume (record { name = name; blocks = overwritten (blocks_in name volumes.volumes) at written }) volumes.volumes

pub written_is_read : (extents : ExtentLayout) (name : List ℕ) (at : ℕ) (written : List Block) (volumes : VolumeMap)
    → reply_to extents (Write name at written) volumes ≡ Done
    → reply_to extents (Read name at (length written)) (volumes_after extents (Write name at written) volumes) ≡ Blocks written
written_is_read extents name at written volumes done =
    let none = done_if_not_refused (refusal_of extents (Write name at written) volumes) Done done in
    let within = is_within name at (length written) volumes.volumes none in
    let old = blocks_in name volumes.volumes in
    let new = overwritten old at written in
    read_found extents name at (length written) (volumes_after extents (Write name at written) volumes) new
    (found_after_write extents name at written volumes none) within.good_count
    (omega (arith, length-overwritten old at written within.fits, within.fits))
    ∙ ap Blocks (written_again old at written within.fits)

pub write_changes_its_blocks : (extents : ExtentLayout) (name : List ℕ) (at : ℕ) (written : List Block) (volumes : VolumeMap)
    → reply_to extents (Write name at written) volumes ≡ Done → LeavesWritten extents name at written volumes
write_changes_its_blocks extents name at written volumes done =
    let none = done_if_not_refused (refusal_of extents (Write name at written) volumes) Done done in
    let within = is_within name at (length written) volumes.volumes none in
    let old = blocks_in name volumes.volumes in
    record {
      before = old;
      left = overwritten old at written;
      was = within.found;
      is_left = found_after_write extents name at written volumes none;
      changes = is_written old at written within.fits;
    }

pub created_is_zero : (extents : ExtentLayout) (name : List ℕ) (count : ℕ) (volumes : VolumeMap) → reply_to extents (Create name count) volumes ≡ Done
    → (blocks_of name volumes.volumes ≡ None) × (blocks_of name (volumes_after extents (Create name count) volumes).volumes ≡ Some (zero_blocks count))
created_is_zero extents name count volumes done =
    let none = done_if_not_refused (refusal_of extents (Create name count) volumes) Done done in
    let may = may_create extents name count volumes none in (
      may.no_such,
      ap (blocks_of name) (list_if_done extents (Create name count) volumes none)
          ∙ found_with_volume (record { name = name; blocks = zero_blocks count }) volumes.volumes,
    )

pub extended_has_zeros : (extents : ExtentLayout) (name : List ℕ) (growth : ℕ) (volumes : VolumeMap) (before : List Block)
    → reply_to extents (Extend name growth) volumes ≡ Done → blocks_of name volumes.volumes ≡ Some before
    → blocks_of name (volumes_after extents (Extend name growth) volumes).volumes ≡ Some (before ++ zero_blocks growth)
extended_has_zeros extents name growth volumes before done found =
    let none = done_if_not_refused (refusal_of extents (Extend name growth) volumes) Done done in
    ap (blocks_of name) (list_if_done extents (Extend name growth) volumes none)
    ∙ found_with_volume (record { name = name; blocks = blocks_in name volumes.volumes ++ zero_blocks growth }) volumes.volumes
    ∙ ap (λ o. Some (unwrap_or o [] ++ zero_blocks growth)) found

pub removed_is_gone : (extents : ExtentLayout) (name : List ℕ) (volumes : VolumeMap) → reply_to extents (Remove name) volumes ≡ Done
    → blocks_of name (volumes_after extents (Remove name) volumes).volumes ≡ None
removed_is_gone extents name volumes done =
    let none = done_if_not_refused (refusal_of extents (Remove name) volumes) Done done in
    ap (blocks_of name) (list_if_done extents (Remove name) volumes none) ∙ gone_without name volumes.volumes

pub renamed_has_blocks : (extents : ExtentLayout) (old new : List ℕ) (volumes : VolumeMap) → reply_to extents (Rename old new) volumes ≡ Done
    → LeavesRenamed extents old new volumes
renamed_has_blocks extents old new volumes done =
    let none = done_if_not_refused (refusal_of extents (Rename old new) volumes) Done done in
    let may = may_be_renamed extents old new volumes none in
    let blocks = blocks_in old volumes.volumes in
    let others = without old volumes.volumes in
    let named : Volume = record { name = new; blocks = blocks } in
    let left = list_if_done extents (Rename old new) volumes none in
    record {
      blocks = blocks;
      was = may.found;
      was_none = may.no_such;
      is_left = ap (blocks_of new) left ∙ found_with_volume named others;
      gone = ap (blocks_of old) left ∙ others_with_volume old named others (λ same. may.apart (sym same)) ∙ gone_without old volumes.volumes;
    }

-- what is found is listed
shown : VolumeList → List (List ℕ × ℕ)
shown volumes = map (λ volume. (volume.name, length volume.blocks)) volumes

shown_has : (name : List ℕ) (blocks : List Block) (volumes : VolumeList) → blocks_of name volumes ≡ Some blocks → Contains (shown volumes) (name, length blocks)
unfolding shown
shown_has name blocks [] found = absurd (none-some blocks found)
shown_has name blocks (volume ∷ volumes) found = by_case (shown_has name blocks volumes) (is_same_name name volume.name) refl found
  where
    by_case : (blocks_of name volumes ≡ Some blocks → Contains (shown volumes) (name, length blocks)) → (b : Bool) → is_same_name name volume.name ≡ b
        → cond b (Some volume.blocks) (blocks_of name volumes) ≡ Some blocks
        → Contains (shown (volume ∷ volumes)) (name, length blocks)
    by_case rec true e h = (0, omega arith, ap₂ (λ n others. (n, length others)) (sym (same_name_is name volume.name e)) (same_Some volume.blocks blocks h))
    by_case rec false e h = let there = rec h in (suc there.0, omega (arith, there.1), there.2)

pub found_is_listed : (extents : ExtentLayout) (name : List ℕ) (blocks : List Block) (volumes : VolumeMap) → blocks_of name volumes.volumes ≡ Some blocks
    → IsListed extents name (length blocks) volumes
unfolding shown
found_is_listed extents name blocks volumes found = record {
  listed = shown volumes.volumes;
  answered = refl;
  shown =
      shown_has name blocks volumes.volumes found;
}

-- a volume after another has another name
beyond : (name : List ℕ) (count : ℕ) (volume : Volume) (volumes : VolumeList) → Below volume.name volumes → HasLength name count volumes
    → HasLength name count (volume ∷ volumes)
beyond name count volume volumes below has = record {
  blocks = has.blocks;
  found =
      ap (λ (b : Bool). cond b (Some volume.blocks) (blocks_of name volumes)) (other_name name volume.name apart) ∙ has.found;
  as_long = has.as_long;
}
  where
    apart : name ≡ volume.name → ⊥
    apart same = none-some has.blocks (sym (none_below volume.name volumes below) ∙ ap (λ n. blocks_of n volumes) (sym same) ∙ has.found)

-- the names that are listed
names_shown : (volumes : VolumeList) → map (λ (p : List ℕ × ℕ). p.0) (shown volumes) ≡ names volumes
unfolding shown
names_shown [] = refl
names_shown (volume ∷ volumes) = ap (λ rest. volume.name ∷ rest) (names_shown volumes)

-- what is listed is found
listed_is_found : (name : List ℕ) (count : ℕ) (volumes : VolumeList) → Rising volumes → Contains (shown volumes) (name, count) → HasLength name count volumes
unfolding shown IsStrictlySortedBy
listed_is_found name count [] rising has = absurd (omega (arith, has.1))
listed_is_found name count (volume ∷ volumes) rising (zero, within, at) =
    let same : volume.name ≡ name = ap (λ (p : List ℕ × ℕ). p.0) at in
    record {
      blocks = volume.blocks;
      found = ap (λ (b : Bool). cond b (Some volume.blocks) (blocks_of name volumes))
          (ap (λ n. is_same_name n volume.name) (sym same) ∙ same_name_itself volume.name);
      as_long = ap (λ (p : List ℕ × ℕ). p.1) at;
    }
listed_is_found name count (volume ∷ volumes) rising (suc k, within, at) =
    beyond name count volume volumes rising.0 (listed_is_found name count volumes rising.1 (k, omega (arith, within), at))

pub list_is_exact : (extents : ExtentLayout) (volumes : VolumeMap) (listed : List (List ℕ × ℕ)) → AreVolumes extents volumes
    → reply_to extents Names volumes ≡ Volumes listed → ListsExactly volumes.volumes listed
unfolding shown
list_is_exact extents volumes listed are replied =
    subst (ListsExactly volumes.volumes) same (record {
      rising = subst (IsStrictlySortedBy name_order) (sym (names_shown volumes.volumes)) are.rising;
      found = λ name count has. listed_is_found name count volumes.volumes are.rising has;
      all = λ name count has. subst (λ n. Contains (shown volumes.volumes) (name, n)) has.as_long (shown_has name has.blocks volumes.volumes has.found);
    })
  where
    listed_in : Reply → List (List ℕ × ℕ)
    listed_in (Volumes list) = list
    listed_in reply = []

    same : shown volumes.volumes ≡ listed
    same = ap listed_in replied

pub created_is_listed : (extents : ExtentLayout) (name : List ℕ) (count : ℕ) (volumes : VolumeMap) → reply_to extents (Create name count) volumes ≡ Done
    → IsListed extents name count (volumes_after extents (Create name count) volumes)
created_is_listed extents name count volumes done =
    let left = volumes_after extents (Create name count) volumes in
    subst (λ n. IsListed extents name n left) (length-replicate count zero_block)
    (found_is_listed extents name (zero_blocks count) left (created_is_zero extents name count volumes done).1)

pub renamed_is_listed : (extents : ExtentLayout) (old new : List ℕ) (count : ℕ) (volumes : VolumeMap) → reply_to extents (Rename old new) volumes ≡ Done
    → HasLength old count volumes.volumes
    → IsListed extents new count (volumes_after extents (Rename old new) volumes)
renamed_is_listed extents old new count volumes done has =
    let it = renamed_has_blocks extents old new volumes done in
    let left = volumes_after extents (Rename old new) volumes in
    let same : it.blocks ≡ has.blocks = same_Some it.blocks has.blocks (sym it.was ∙ has.found) in
    subst (λ n. IsListed extents new n left) (ap length same ∙ has.as_long) (found_is_listed extents new it.blocks left it.is_left)
