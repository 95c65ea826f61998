-- Blocks of a volume are made zero by one commit after another: the writes that these do.
use Rattle.std.proofs.Common.{◌≡◌, inl, inr, ℕ, zero, suc, ◌+◌, ◌-◌, ◌≤◌, List, [], ◌∷◌, ◌++◌, length, Option, Some, None, Ok, Err, refl, sym, ◌∙◌}
use Rattle.std.proofs.Common.{ap, subst, arith}
use Rattle.std.specs.Prelude.{Contains}
use Rattle.std.proofs.lemmas.Bool.{cases_lt}
use Rattle.std.proofs.lemmas.List.{length-replicate}
use Rattle.sector_model.specs.declared.refusal.Refusal.{Refusal}
use Rattle.sector_model.specs.declared.refusal.Refusal.TheVariants.{BadCount, NoVolume, OutOfRange}
use Rattle.layout_map.specs.declared.geometry.Geometry.{Geometry}
use Rattle.superblock.specs.Cases.{Lost}
use Rattle.array_io.specs.Believed.ArrayCalls.{Answer}
use Rattle.array_io.specs.Believed.Views.{ArrayView}
use Rattle.extents.specs.declared.extent_layout.ExtentLayout.{ExtentLayout}
use Rattle.extents.specs.declared.owned.Owned.{Owned}
use Rattle.extents.specs.declared.volume_table.VolumeTable.{VolumeTable}
use Rattle.extents.specs.SetExtents.{extents_in}
use Rattle.volume_table.specs.declared.event.TheConstants.{MOST_BLOCKS_AT_ONCE}
use Rattle.volume_table.specs.Admission.{AreKept, HasBlocksAt, HasRecordAt, ShowsBy}
use Rattle.volume_table.specs.Law.{HasLength}
use Rattle.volume_table.specs.ListChanges.{Change, IsSameOr}
use Rattle.volume_table.specs.Shows.{Shows}
use Rattle.volume_table.specs.Staging.{AreDone, CommitsStaged, after_all}
use Rattle.volume_table.specs.Stands.{IsSettledOn, StoreView, store_of}
use Rattle.volume_table.specs.StoreChanges.{IsWrittenAt}
use Rattle.volume_table.specs.Volumes.{Block, VolumeMap, zero_block}
use Rattle.volume_table.specs.VolumeStep.{Command, Done, Write, or_refused, refusal_of, reply_to, volumes_after, zero_blocks}
use Rattle.volume_table.specs.ZeroedRanges.{AreZeroedInTurn, ZeroesInTurn, ZeroesTogether, none_zeroed, then_zeroed}
use Rattle.volume_table.specs.Zeroing.{AreCommittedInTurn, AreZeroWrites, IsZeroRefusal, Zeroes, ZeroesBlocks}
use Rattle.volume_table.specs.Zeroing.{commit_then, no_write, none_committed, then_write}
use Rattle.volume_table.proofs.Admitted.{length_by, within_admitted}
use Rattle.volume_table.proofs.KeptMaps.{blocks_record, record_has_blocks}
use Rattle.volume_table.proofs.StagedWrites.{not_ended_yet, writes_done, writes_ended}
use Rattle.volume_table.proofs.StepLemmas.{changed_if_done, write_changes_its_blocks, zero_blocks_whole}
use Rattle.volume_table.proofs.StoreSteps.{ShowsEither, shown_by}
use Rattle.volume_table.proofs.WrittenVolumes.{write_shows}
use Rattle.volume_table.proofs.ZeroedRanges.{in_turn_geometry, in_turn_order}
use Rattle.volume_table.proofs.ZeroedParts.{between, first_written, none_written, second_written}

length-zeros : (count : ℕ) → length (zero_blocks count) ≡ count
length-zeros count = length-replicate {A = Block} count zero_block

-- ---- writes of zero blocks

-- the blocks rise
pub writes_order : (name : List ℕ) {at end : ℕ} {writes : List Command} → AreZeroWrites name at end writes → at ≤ end
writes_order name no_write = omega arith
writes_order name (then_write count least most rest) = omega (arith, writes_order name rest)

-- writes after others
writes_both : (name : List ℕ) {at mid end : ℕ} {writes more : List Command} → AreZeroWrites name at mid writes → AreZeroWrites name mid end more
    → AreZeroWrites name at end (writes ++ more)
writes_both name no_write after = after
writes_both name (then_write count least most rest) after = then_write count least most (writes_both name rest after)

-- blocks are cut into writes
record Cut (name : List ℕ) (at end : ℕ) : Type 0 where
  pub writes : List Command
  pub zeros : AreZeroWrites name at end writes

cut_by : (name : List ℕ) (fuel at count : ℕ) → count ≤ fuel → Cut name at (at + count)
cut_by name zero at count within = subst (Cut name at) (omega (arith, within)) (record { writes = []; zeros = no_write })
cut_by name (suc fuel) at count within = elim (cases_lt MOST_BLOCKS_AT_ONCE count) [
  | inl many ↦
      let rest = cut_by name fuel (at + MOST_BLOCKS_AT_ONCE) (count - MOST_BLOCKS_AT_ONCE) (omega (arith, many, within)) in
      subst (Cut name at) (omega (arith, many))
      (record {
        writes = Write name at (zero_blocks MOST_BLOCKS_AT_ONCE) ∷ rest.writes;
        zeros = then_write MOST_BLOCKS_AT_ONCE (omega arith) (omega arith) rest.zeros;
      })
  | inr few ↦ elim (cases_lt 0 count) [
    | inl some ↦ record { writes = Write name at (zero_blocks count) ∷ []; zeros = then_write count (omega (arith, some)) few no_write }
    | inr none ↦ subst (Cut name at) (omega (arith, none)) (record { writes = []; zeros = no_write })
  ]
]

cut : (name : List ℕ) (at end : ℕ) → at ≤ end → Cut name at end
cut name at end order = subst (Cut name at) (omega (arith, order)) (cut_by name (end - at) at (end - at) (omega arith))

-- ---- what they leave of the volumes

-- the volume is as long as its record says
long_by : (extents : ExtentLayout) (table : VolumeTable) (name : List ℕ) (number : ℕ) (found : HasRecordAt table.records name number) (V : List Block)
    (volumes : VolumeMap) → ShowsBy extents table V volumes → HasLength name found.entry.blocks volumes.volumes
long_by extents table name number found V volumes shown = length_by extents table V volumes name number found.entry.blocks shown
    record { entry = found.entry; used = found.used; named = found.named; as_long = refl }

-- a write within the volume is admitted
pub admitted : (extents : ExtentLayout) (name : List ℕ) (long at count : ℕ) (volumes : VolumeMap) → 1 ≤ count → count ≤ MOST_BLOCKS_AT_ONCE → at + count ≤ long
    → HasLength name long volumes.volumes → None ≡ refusal_of extents (Write name at (zero_blocks count)) volumes
admitted extents name long at count volumes least most fits has =
    within_admitted name long at (length (zero_blocks count)) volumes.volumes has
    (omega (arith, least, length-zeros count)) (omega (arith, most, length-zeros count)) (omega (arith, fits, length-zeros count))

-- and leaves it as long
pub long_after : (extents : ExtentLayout) (name : List ℕ) (long at count : ℕ) (volumes : VolumeMap) → HasLength name long volumes.volumes
    → reply_to extents (Write name at (zero_blocks count)) volumes ≡ Done
    → HasLength name long (volumes_after extents (Write name at (zero_blocks count)) volumes).volumes
long_after extents name long at count volumes has done =
    let leaves = write_changes_its_blocks extents name at (zero_blocks count) volumes done in
    let same : has.blocks ≡ leaves.before = one_list has.blocks leaves.before (sym has.found ∙ leaves.was) in
    record { blocks = leaves.left; found = leaves.is_left; as_long = leaves.changes.as_long ∙ sym (ap length same) ∙ has.as_long }
  where
    one_list : (first second : List Block) → Some first ≡ Some second → first ≡ second
    one_list first second is = cc

-- Each write was done.
pub writes_are_done : (extents : ExtentLayout) (name : List ℕ) (long : ℕ) {at end : ℕ} {writes : List Command} (volumes : VolumeMap)
    → AreZeroWrites name at end writes → end ≤ long → HasLength name long volumes.volumes → AreDone extents writes volumes
writes_are_done extents name long volumes no_write within has = tt
writes_are_done extents name long {at = at} volumes (then_write count least most rest) within has =
    let may = admitted extents name long at count volumes least most (omega (arith, writes_order name rest, within)) has in
    let done : reply_to extents (Write name at (zero_blocks count)) volumes ≡ Done = ap (λ o. or_refused o Done) (sym may) in (
      done,
      writes_are_done extents name long (volumes_after extents (Write name at (zero_blocks count)) volumes) rest within
          (long_after extents name long at count volumes has done),
    )

-- A list with the blocks zero shows the volumes after the writes.
writes_shown : (extents : ExtentLayout) (table : VolumeTable) (owners : List (Option Owned)) (name : List ℕ) (number : ℕ)
    (kept : AreKept extents table owners) (found : HasRecordAt table.records name number) {at end : ℕ} {writes : List Command} (V W : List Block)
    (volumes : VolumeMap) → AreZeroWrites name at end writes → end ≤ found.entry.blocks → ShowsBy extents table V volumes
    → IsWrittenAt extents owners number at (zero_blocks (end - at)) V W → ShowsBy extents table W (after_all extents writes volumes)
writes_shown extents table owners name number kept found {at = at} V W volumes no_write within shown is =
    subst (λ (l : List Block). ShowsBy extents table l volumes)
    (sym (none_written extents owners number at V W (subst (λ (bs : List Block). IsWrittenAt extents owners number at bs V W)
    (ap zero_blocks (none_left at)) is))) shown
  where
    none_left : (n : ℕ) → n - n ≡ 0
    none_left n = omega arith
writes_shown extents table owners name number kept found {at = at} {end = end} V W volumes (then_write count least most rest) within shown is =
    let order = writes_order name rest in
    let parts : end - at ≡ count + (end - (at + count)) = omega (arith, order) in
    let both = subst (λ (n : ℕ). IsWrittenAt extents owners number at (zero_blocks n) V W) parts is in
    let mid = between extents owners number at count (end - (at + count)) V W both in
    let may = admitted extents name found.entry.blocks at count volumes least most (omega (arith, order, within))
    (long_by extents table name number found V volumes shown) in
    let after_one = write_shows extents table owners name number at (zero_blocks count) V mid volumes kept found (zero_blocks_whole count) shown may
    (first_written extents owners number at count (end - (at + count)) V W both) in
    let now = subst (λ (those : VolumeMap). ShowsBy extents table mid those)
    (sym (changed_if_done extents (Write name at (zero_blocks count)) volumes (sym may))) after_one in
    writes_shown extents table owners name number kept found mid W (volumes_after extents (Write name at (zero_blocks count)) volumes) rest within now
    (second_written extents owners number at count (end - (at + count)) V W both)

-- ---- commits

-- what stays during the call: the table of volumes, whose record has the blocks, and the geometry
record IsZeroing (keeps : VolumeTable) (owners : List (Option Owned)) (name : List ℕ) (number last : ℕ) (geometry : Geometry) : Type 0 where
  pub kept : AreKept (extents_in geometry) keeps owners
  pub found : HasRecordAt keeps.records name number
  pub fits : last ≤ found.entry.blocks

module _ (honest : Type 0) (keeps : VolumeTable) (owners : List (Option Owned)) (name : List ℕ) (number last : ℕ) (geometry : Geometry)
    (here : IsZeroing keeps owners name number last geometry) (at end : ℕ) (writes : List Command) (old new : ArrayView) (ended : Option Refusal)
    (same : old.table.geometry ≡ geometry) (zeros : AreZeroWrites name at end writes) (within : end ≤ last) where
  abbrev Zeroed : Change
  Zeroed = IsWrittenAt (extents_in geometry) owners number at (zero_blocks (end - at))

  abbrev before : StoreView
  before = store_of old keeps None

  abbrev after : StoreView
  after = store_of new keeps ended

  shows : (V W : List Block) (volumes : VolumeMap) → ShowsBy (extents_in old.table.geometry) keeps V volumes → Zeroed V W
      → ShowsBy (extents_in old.table.geometry) keeps W (after_all (extents_in old.table.geometry) writes volumes)
  shows V W volumes shown is =
      subst (λ (g : Geometry). ShowsBy (extents_in g) keeps W (after_all (extents_in g) writes volumes)) (sym same)
      (writes_shown (extents_in geometry) keeps owners name number here.kept here.found V W volumes zeros (omega (arith, within, here.fits))
      (subst (λ (g : Geometry). ShowsBy (extents_in g) keeps V volumes) same shown) is)

  on_the_way : ShowsEither before (after_all (extents_in old.table.geometry) writes) (IsSameOr Zeroed)
  on_the_way V W volumes shown (inl is) = inl (subst (λ (l : List Block). Shows (extents_in old.table.geometry) l volumes) (sym is) shown.shows)
  on_the_way V W volumes shown (inr is) = inr (shows V W volumes shown is).shows

  are_done : (lost : Option Lost) (volumes : VolumeMap) → IsSettledOn before lost volumes → AreDone (extents_in old.table.geometry) writes volumes
  are_done lost volumes settled =
      writes_are_done (extents_in old.table.geometry) name here.found.entry.blocks volumes zeros (omega (arith, within, here.fits))
      (long_by (extents_in old.table.geometry) keeps name number here.found settled.logical volumes (shown_by before lost volumes settled))

  -- a commit of zeros does writes
  commit_of : (answer : Answer) → ZeroesTogether honest (extents_in geometry) owners number at end old new answer → (answer ≡ Ok tt → ended ≡ None)
      → ((refusal : Refusal) → answer ≡ Err refusal → ended ≡ Some refusal) → CommitsStaged honest writes before after answer
  commit_of (Ok tt) zeroes goes ends = not_ended_yet honest writes before after (Ok tt) refl
      (writes_done honest writes (IsSameOr Zeroed) Zeroed before after are_done on_the_way shows refl (goes refl) zeroes.changes)
  commit_of (Err refusal) zeroes goes ends = not_ended_yet honest writes before after (Err refusal) refl
      (writes_ended honest writes (IsSameOr Zeroed) Zeroed before after are_done on_the_way shows refl refusal (ends refusal refl)
      zeroes.changes (zeroes.cause refusal refl))

abbrev answered : Answer
answered = Ok tt

abbrev failed_with : Refusal → Answer
failed_with refusal = Err refusal

not_failed : (refusal : Refusal) (ended : Option Refusal) → answered ≡ Err refusal → ended ≡ Some refusal
not_failed refusal ended is = absurd (differ refusal is)
  where
    differ : (refusal : Refusal) → answered ≡ Err refusal → ⊥
    differ refusal is = cc

not_answered : (refusal : Refusal) (ended : Option Refusal) → failed_with refusal ≡ Ok tt → ended ≡ None
not_answered refusal ended is = absurd (differ refusal is)
  where
    differ : (refusal : Refusal) → failed_with refusal ≡ Ok tt → ⊥
    differ refusal is = cc

same_failure : (first second : Refusal) → failed_with first ≡ Err second → Some first ≡ Some second
same_failure first second is = cc

-- what commits in turn do
record CommitsCut (honest : Type 0) (keeps : VolumeTable) (name : List ℕ) (at end : ℕ) (old new : ArrayView) : Type 0 where
  pub writes : List Command
  pub zeros : AreZeroWrites name at end writes
  pub committed : AreCommittedInTurn honest writes (store_of old keeps None) (store_of new keeps None)

commits_cut : (honest : Type 0) (keeps : VolumeTable) (owners : List (Option Owned)) (name : List ℕ) (number last : ℕ) (geometry : Geometry)
    → IsZeroing keeps owners name number last geometry → {at end : ℕ} {old new : ArrayView} → old.table.geometry ≡ geometry → end ≤ last
    → AreZeroedInTurn honest (extents_in geometry) owners number at end old new → CommitsCut honest keeps name at end old new
commits_cut honest keeps owners name number last geometry here same within none_zeroed =
    record { writes = []; zeros = no_write; committed = none_committed }
commits_cut honest keeps owners name number last geometry here {at = at} {old = old} same within (then_zeroed upto mid some one told rest) =
    let first = cut name at upto (omega (arith, some)) in
    let order = in_turn_order honest (extents_in geometry) owners number rest in
    let more = commits_cut honest keeps owners name number last geometry here (one.changes.goes_on.not_older.same_geometry ∙ same) within rest in
    record {
      writes = first.writes ++ more.writes;
      zeros = writes_both name first.zeros more.zeros;
      committed = commit_then (store_of mid keeps None) first.writes
          (commit_of honest keeps owners name number last geometry here at upto first.writes old mid None same first.zeros (omega (arith, order, within))
          (Ok tt)
          one (λ is. refl) (λ refusal is. not_failed refusal None is))
          told more.committed;
    }

-- ---- what the call promises

-- the blocks are made zero
pub blocks_zeroed : (honest : Type 0) (keeps : VolumeTable) (owners : List (Option Owned)) (name : List ℕ) (number at count : ℕ) (old new : ArrayView)
    (before after : Option Refusal) (answer : Answer) → before ≡ None → AreKept (extents_in old.table.geometry) keeps owners
    → ∥ HasBlocksAt keeps.records name number at count ∥₁ → IsZeroRefusal (store_of old keeps None) name at count None
    → ZeroesInTurn honest (extents_in old.table.geometry) owners number at (at + count) old new answer → (answer ≡ Ok tt → after ≡ None)
    → ((refusal : Refusal) → answer ≡ Err refusal → after ≡ Some refusal)
    → Zeroes honest name at count (store_of old keeps before) (store_of new keeps after) answer
blocks_zeroed honest keeps owners name number at count old new before after answer going kept has admitted zeroes goes ends =
    subst (λ (o : Option Refusal). Zeroes honest name at count (store_of old keeps o) (store_of new keeps after) answer) (sym going)
    (record { ended = λ refusal is. absurd (none_is_some refusal is); going = λ is. inr (by_answer answer zeroes goes ends) })
  where
    none_is_some : (r : Refusal) → None ≡ Some r → ⊥
    none_is_some r is = cc

    found : HasRecordAt keeps.records name number
    found = blocks_record keeps.records name number at count has

    here : IsZeroing keeps owners name number (at + count) old.table.geometry
    here = record { kept = kept; found = found; fits = record_has_blocks keeps.records name number at count has found }

    by_answer : (answer : Answer) → ZeroesInTurn honest (extents_in old.table.geometry) owners number at (at + count) old new answer
        → (answer ≡ Ok tt → after ≡ None) → ((refusal : Refusal) → answer ≡ Err refusal → after ≡ Some refusal)
        → ZeroesBlocks honest name at count (store_of old keeps None) (store_of new keeps after) answer
    by_answer (Ok tt) zeroes goes ends =
        let done = commits_cut honest keeps owners name number (at + count) old.table.geometry here refl (omega arith) zeroes in
        record {
          writes = done.writes;
          zeros = done.zeros;
          admitted = admitted;
          commits = subst (λ (o : Option Refusal). AreCommittedInTurn honest done.writes (store_of old keeps None) (store_of new keeps o)) (sym (goes refl))
              done.committed;
        }
    by_answer (Err refusal) zeroes goes ends =
        let done = commits_cut honest keeps owners name number (at + count) old.table.geometry here refl (omega (arith, zeroes.some, zeroes.most))
        zeroes.before in
        let last = cut name zeroes.from zeroes.upto (omega (arith, zeroes.some)) in
        let undone = cut name zeroes.upto (at + count) zeroes.most in
        record {
          writes = done.writes ++ last.writes ++ undone.writes;
          zeros = writes_both name (writes_both name done.zeros last.zeros) undone.zeros;
          admitted = admitted;
          commits = record {
            done = done.writes;
            last = last.writes;
            undone = undone.writes;
            parts = refl;
            mid = store_of zeroes.mid keeps None;
            before = done.committed;
            ends = commit_of honest keeps owners name number (at + count) old.table.geometry here zeroes.from zeroes.upto last.writes zeroes.mid new after
                (in_turn_geometry honest (extents_in old.table.geometry) owners number zeroes.before) last.zeros zeroes.most (Err refusal) zeroes.ends
                (λ is. not_answered refusal after is) (λ other is. ends refusal refl ∙ same_failure refusal other is);
          };
        }

-- it is refused at once
pub zero_refused : (honest : Type 0) (store : StoreView) (name : List ℕ) (at count : ℕ) (refusal : Refusal) → store.ended ≡ None
    → Contains (NoVolume ∷ BadCount ∷ OutOfRange ∷ []) refusal → IsZeroRefusal store name at count (Some refusal)
    → Zeroes honest name at count store store (Err refusal)
zero_refused honest store name at count refusal going listed decides = record {
  ended = λ other is. absurd (none_is_some other (sym going ∙ is));
  going = λ is. inl record { refusal = refusal; is = refl; listed = listed; decides = decides; same = refl };
}
  where
    none_is_some : (r : Refusal) → None ≡ Some r → ⊥
    none_is_some r is = cc

-- or the store has ended
pub zero_stays_ended : (honest : Type 0) (store : StoreView) (name : List ℕ) (at count : ℕ) (refusal : Refusal) → store.ended ≡ Some refusal
    → Zeroes honest name at count store store (Err refusal)
zero_stays_ended honest store name at count refusal ended = record {
  ended = λ other is. (same_answer refusal other (sym ended ∙ is), refl);
  going = λ going. absurd (none_is_some refusal (sym going ∙ ended));
}
  where
    none_is_some : (r : Refusal) → None ≡ Some r → ⊥
    none_is_some r is = cc

    same_answer : (first second : Refusal) → Some first ≡ Some second → failed_with first ≡ Err second
    same_answer first second is = cc
