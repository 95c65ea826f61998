-- A read or a write of more than 32 blocks is refused, however many they are: as one of 33.
use Rattle.std.proofs.Common.{◌≡◌, ◌≢◌, ◌⊎◌, inl, inr, ℕ, ◌<◌, ◌≤◌, ◌==◌, Bool, true, false, cond, nat_lt, List, [], ◌∷◌, length, Contains, Option, Some, Ok}
use Rattle.std.proofs.Common.{Err, OnOk, refl, sym, ap, subst, ◌∙◌, arith}
use Rattle.std.proofs.lemmas.Bool.{cond-true, lt-ltb, or_right}
use Rattle.sector_model.specs.declared.refusal.Refusal.{Refusal}
use Rattle.sector_model.specs.declared.refusal.Refusal.TheVariants.{BadCount, NoVolume}
use Rattle.array_io.specs.Believed.Views.{EndsIt}
use Rattle.extents.specs.declared.extent_layout.ExtentLayout.{ExtentLayout}
use Rattle.extents.specs.declared.record.Record.{Record}
use Rattle.volume_table.specs.Admission.{IsWithinVolume}
use Rattle.volume_table.specs.Volumes.{Block, VolumeMap}
use Rattle.volume_table.specs.VolumeStep.{Command, Names, OnVolumes, Read, Refused, Write, answer, done, has_no_volume, is_bad_count, or_refused, refusal_of}
use Rattle.volume_table.specs.VolumeStep.{reply_to, unless_refused, volumes_after}
use Rattle.volume_table.specs.Stands.{IsSettledAfter, StandsThroughout, StoreView}
use Rattle.volume_table.specs.StoreCalls.{Applies, GoesThrough, extents_for_store, refusals_of}
use Rattle.volume_table.specs.StoreFunctions.{Answer, blocks_reply, done_reply}
use Rattle.volume_table.proofs.KeptMaps.{within_most}
use Rattle.volume_table.specs.declared.event.TheConstants.{MOST_BLOCKS_AT_ONCE}

-- what is done is of 32 blocks at most
pub few_if_done : (records : List (Option Record)) (name : List ℕ) (number at count : ℕ) (result : Answer) → ∥ IsWithinVolume records name number at count ∥₁
    → OnOk result (count ≤ MOST_BLOCKS_AT_ONCE)
few_if_done records name number at count (Ok done) within = within_most records name number at count within
few_if_done records name number at count (Err refusal) within = tt

-- why more than 32 blocks are refused
why : List ℕ → VolumeMap → Refusal
why name volumes = cond (has_no_volume name volumes.volumes) NoVolume BadCount

bad_count : (count : ℕ) → MOST_BLOCKS_AT_ONCE < count → is_bad_count count ≡ true
bad_count count many = or_right (count == 0) (nat_lt MOST_BLOCKS_AT_ONCE count) (lt-ltb MOST_BLOCKS_AT_ONCE count many)

by_tests : (none bad : Bool) (rest : Option Refusal) → bad ≡ true
    → cond none (Some NoVolume) (cond bad (Some BadCount) rest) ≡ Some (cond none NoVolume BadCount)
by_tests true bad rest is = refl
by_tests false bad rest is = cond-true bad (Some BadCount) rest is

-- Two commands that are refused alike, whatever the volumes are.
module _ (honest : Type 0) (kept command : Command) (reason : VolumeMap → Refusal) (old new : StoreView) (refusal : Refusal)
    (first : (extents : ExtentLayout) (volumes : VolumeMap) → refusal_of extents kept volumes ≡ Some (reason volumes))
    (second : (extents : ExtentLayout) (volumes : VolumeMap) → refusal_of extents command volumes ≡ Some (reason volumes))
    (listed : refusals_of command ≡ refusals_of kept) (is_other : kept ≢ Names) where
  left_alike : (extents : ExtentLayout) (volumes : VolumeMap) → volumes_after extents kept volumes ≡ volumes_after extents command volumes
  left_alike extents volumes = ap (λ (o : Option Refusal). unless_refused o (done kept volumes) volumes) (first extents volumes)
      ∙ sym (ap (λ (o : Option Refusal). unless_refused o (done command volumes) volumes) (second extents volumes))

  replied_alike : (extents : ExtentLayout) (volumes : VolumeMap) → reply_to extents kept volumes ≡ reply_to extents command volumes
  replied_alike extents volumes = ap (λ (o : Option Refusal). or_refused o (answer kept volumes.volumes)) (first extents volumes)
      ∙ sym (ap (λ (o : Option Refusal). or_refused o (answer command volumes.volumes)) (second extents volumes))

  goes_alike : GoesThrough honest (OnVolumes kept) old new (Refused refusal) → GoesThrough honest (OnVolumes command) old new (Refused refusal)
  goes_alike through = record {
    goes_on = through.goes_on;
    generation = through.generation;
    incarnations = λ slot. elim (through.incarnations slot) [
      | inl same ↦ inl same
      | inr (replaced, more) ↦ absurd (cc)
    ];
    spared = through.spared;
    set_left = λ on. let left = through.set_left on in record { devices = left.devices; are = left.are; left = left.left };
    ends = through.ends;
    goes = through.goes;
    listed = subst (λ (l : List Refusal). Contains l refusal ⊎ EndsIt refusal) (sym listed) through.listed;
    scrubs = λ fair is rows bad first_bad told. absurd (cc);
    moments = λ fair lost volumes rests.
        subst (λ (left : VolumeMap). StandsThroughout old.array.table old.array.panel.devices lost (volumes ∷ left ∷ []) old.array.history new.array.history)
        (left_alike (extents_for_store old) volumes) (through.moments fair lost volumes rests);
    answered = λ fair on lost volumes rests. elim (through.answered fair on lost volumes rests) [
      | inl same ↦ inl (same ∙ replied_alike (extents_for_store old) volumes)
      | inr lacks ↦ absurd (is_other lacks.listing)
    ];
    settled = λ fair on lost volumes rests. subst (IsSettledAfter lost new) (left_alike (extents_for_store old) volumes)
        (through.settled fair on lost volumes rests);
  }

  refused_alike : Applies honest (OnVolumes kept) old new (Refused refusal) → Applies honest (OnVolumes command) old new (Refused refusal)
  refused_alike applies = record { ended = applies.ended; going = λ goes. goes_alike (applies.going goes) }

read_refusal : (name : List ℕ) (at count : ℕ) (extents : ExtentLayout) (volumes : VolumeMap) → MOST_BLOCKS_AT_ONCE < count
    → refusal_of extents (Read name at count) volumes ≡ Some (why name volumes)
unfolding why
read_refusal name at count extents volumes many = by_tests (has_no_volume name volumes.volumes) (is_bad_count count) _ (bad_count count many)

write_refusal : (name : List ℕ) (at : ℕ) (blocks : List Block) (extents : ExtentLayout) (volumes : VolumeMap) → MOST_BLOCKS_AT_ONCE < length blocks
    → refusal_of extents (Write name at blocks) volumes ≡ Some (why name volumes)
unfolding why
write_refusal name at blocks extents volumes many = by_tests (has_no_volume name volumes.volumes) (is_bad_count (length blocks)) _
    (bad_count (length blocks) many)

pub reads_too_many : (honest : Type 0) (name : List ℕ) (at count kept : ℕ) (old new : StoreView) (refusal : Refusal) → MOST_BLOCKS_AT_ONCE < count
    → MOST_BLOCKS_AT_ONCE < kept
    → Applies honest (OnVolumes (Read name at kept)) old new (Refused refusal) → Applies honest (OnVolumes (Read name at count)) old new (Refused refusal)
reads_too_many honest name at count kept old new refusal many much =
    refused_alike honest (Read name at kept) (Read name at count) (why name) old new refusal (λ extents volumes. read_refusal name at kept extents volumes much)
    (λ extents volumes. read_refusal name at count extents volumes many) refl (λ is. absurd (cc))

pub writes_too_many : (honest : Type 0) (name : List ℕ) (at : ℕ) (blocks kept : List Block) (old new : StoreView) (refusal : Refusal)
    → MOST_BLOCKS_AT_ONCE < length blocks → MOST_BLOCKS_AT_ONCE < length kept
    → Applies honest (OnVolumes (Write name at kept)) old new (Refused refusal) → Applies honest (OnVolumes (Write name at blocks)) old new (Refused refusal)
writes_too_many honest name at blocks kept old new refusal many much =
    refused_alike honest (Write name at kept) (Write name at blocks) (why name) old new refusal
    (λ extents volumes. write_refusal name at kept extents volumes much)
    (λ extents volumes. write_refusal name at blocks extents volumes many) refl (λ is. absurd (cc))

-- A read of more is not done, so that its reply is that of any such.
pub read_is_too_long : (honest : Type 0) (name : List ℕ) (at count kept : ℕ) (after : List Block) (old new : StoreView) (result : Answer)
    → MOST_BLOCKS_AT_ONCE < count → MOST_BLOCKS_AT_ONCE < kept
    → OnOk result (kept ≤ MOST_BLOCKS_AT_ONCE) → Applies honest (OnVolumes (Read name at kept)) old new (blocks_reply after result)
    → Applies honest (OnVolumes (Read name at count)) old new (done_reply result)
read_is_too_long honest name at count kept after old new (Ok done) many much few reads = absurd (omega (arith, much, few))
read_is_too_long honest name at count kept after old new (Err refusal) many much few reads =
    reads_too_many honest name at count kept old new refusal many much reads
