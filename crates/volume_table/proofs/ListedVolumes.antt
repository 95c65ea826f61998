-- The list of the volumes of a table.
use Rattle.std.proofs.Common.{◌≡◌, inl, inr, ℕ, zero, suc, ◌+◌, ◌<◌, ◌≤◌, List, [], ◌∷◌, length, drop, cond, Option, Some, None, refl, sym, ap, ap₂, subst, ◌∙◌}
use Rattle.std.proofs.Common.{arith}
use Rattle.std.specs.declared.cmp.Ordering.{Ordering}
use Rattle.std.specs.declared.cmp.Ordering.TheVariants.{Less, Equal, Greater}
use Rattle.std.specs.Ordering.{is_eq, match_ordering}
use Rattle.std.specs.List.{insert}
use Rattle.std.proofs.lemmas.List.{get_or-drop, drop_more, drop_all}
use Rattle.std.proofs.lemmas.Option.{none-some}
use Rattle.sector_model.specs.declared.refusal.Refusal.{Refusal}
use Rattle.sector_model.specs.declared.refusal.Refusal.TheVariants.{BadName, Memory}
use Rattle.sector_model.specs.Bank.{IsTrueTo}
use Rattle.array_io.specs.Believed.Views.{EndsIt}
use Rattle.extents.specs.declared.extent_layout.ExtentLayout.{ExtentLayout}
use Rattle.extents.specs.declared.record.Record.{Record}
use Rattle.extents.specs.declared.volume_table.VolumeTable.{VolumeTable}
use Rattle.extents.specs.VolumeTables.{AreDistinct, record_of}
use Rattle.volume_table.specs.declared.listed.Listed.{Listed}
use Rattle.volume_table.specs.Admission.{ShowsBy}
use Rattle.volume_table.specs.ListChanges.{IsSame}
use Rattle.volume_table.specs.Listing.{IsPlaceFor, IsPutInto, lengths_of, told}
use Rattle.volume_table.specs.Names.{name_order}
use Rattle.volume_table.specs.Shows.{AreShown, Shows}
use Rattle.volume_table.specs.Stands.{StoreView}
use Rattle.volume_table.specs.StoreCalls.{Applies, GoesThrough, extents_for_store}
use Rattle.volume_table.specs.Volumes.{Block, Volume, VolumeList, VolumeMap, blocks_of, with_volume}
use Rattle.volume_table.specs.VolumeStep.{Create, Names, OnVolumes, Refused, Reply, Volumes}
use Rattle.volume_table.proofs.Admitted.{all_records}
use Rattle.volume_table.proofs.CountLemmas.{listed, listed_are, not_again, record_blocks, volume_of}
use Rattle.volume_table.proofs.ListChanges.{changes_none}
use Rattle.volume_table.proofs.ShowsLemmas.{distinct_names}
use Rattle.volume_table.proofs.StoreSteps.{done_with_volumes, incarnations_same, refused_at_once}
use Rattle.extents.specs.declared.volume_table.TheConstants.{MOST_VOLUMES}

-- the parts of a list that is told
first_of : List ℕ × ℕ → List (List ℕ × ℕ) → List ℕ × ℕ
first_of blank [] = blank
first_of blank (one ∷ rest) = one

rest_of : List (List ℕ × ℕ) → List (List ℕ × ℕ)
rest_of [] = []
rest_of (one ∷ rest) = rest

first_same : (one two : List ℕ × ℕ) (rest others : List (List ℕ × ℕ)) → one ∷ rest ≡ two ∷ others → one ≡ two
unfolding first_of
first_same one two rest others same = ap (first_of one) same

rest_same : (one two : List ℕ × ℕ) (rest others : List (List ℕ × ℕ)) → one ∷ rest ≡ two ∷ others → rest ≡ others
unfolding rest_of
rest_same one two rest others same = ap rest_of same

-- what is said of one
abbrev told_one : Listed → List ℕ × ℕ
told_one item = (item.name.bytes.items, item.blocks)

abbrev length_of : Volume → List ℕ × ℕ
length_of volume = (volume.name, length volume.blocks)

-- what is said of the new one is said of the volume
pub record IsToldOf (new : Listed) (volume : Volume) : Type 0 where
  pub named : new.name.bytes.items ≡ volume.name
  pub as_long : new.blocks ≡ length volume.blocks

told_of : (new : Listed) (volume : Volume) → IsToldOf new volume → told_one new ≡ length_of volume
told_of new volume is = ap₂ (λ (n : List ℕ) (c : ℕ). (n, c)) is.named is.as_long

-- put there, it is told where the volume is
put_in_order : (items : List Listed) (volumes : VolumeList) (place : ℕ) (new : Listed) (volume : Volume) → told items ≡ lengths_of volumes → IsToldOf new volume
    → blocks_of volume.name volumes ≡ None
    → IsPlaceFor items new.name.bytes.items place → told (insert items place new) ≡ lengths_of (with_volume volume volumes)
put_in_order [] [] zero new volume same is none at = ap (λ (pair : List ℕ × ℕ). pair ∷ []) (told_of new volume is)
put_in_order [] [] (suc place) new volume same is none at = absurd (omega (arith, at.within))
put_in_order [] (one ∷ volumes) place new volume same is none at = absurd (let no : ⊥ = cc in no)
put_in_order (item ∷ items) [] place new volume same is none at = absurd (let no : ⊥ = cc in no)
put_in_order (item ∷ items) (one ∷ volumes) zero new volume same is none at =
    ap₂ (λ (pair : List ℕ × ℕ) (pairs : List (List ℕ × ℕ)). pair ∷ pairs) (told_of new volume is) same
    ∙ ap (λ (o : Ordering). lengths_of (match_ordering o (volume ∷ one ∷ volumes) (volume ∷ volumes) (one ∷ with_volume volume volumes))) less
  where
    named : item.name.bytes.items ≡ one.name
    named = ap (λ (pair : List ℕ × ℕ). pair.0) (first_same (told_one item) (length_of one) (told items) (lengths_of volumes) same)

    less : Less ≡ name_order volume.name one.name
    less = sym (at.before item (omega arith)) ∙ ap₂ name_order is.named named
put_in_order (item ∷ items) (one ∷ volumes) (suc place) new volume same is none at =
    by_case (put_in_order items volumes place new volume rest is) (name_order volume.name one.name) refl
  where
    first : told_one item ≡ length_of one
    first = first_same (told_one item) (length_of one) (told items) (lengths_of volumes) same

    rest : told items ≡ lengths_of volumes
    rest = rest_same (told_one item) (length_of one) (told items) (lengths_of volumes) same

    at_rest : IsPlaceFor items new.name.bytes.items place
    at_rest = record {
      within = omega (arith, at.within);
      not_before = λ k blank below. at.not_before (suc k) blank (omega (arith, below));
      before = λ blank below. at.before blank (omega (arith, below));
    }

    by_case : (blocks_of volume.name volumes ≡ None → IsPlaceFor items new.name.bytes.items place
        → told (insert items place new) ≡ lengths_of (with_volume volume volumes))
        → (o : Ordering) → name_order volume.name one.name ≡ o
        → told (item ∷ insert items place new) ≡ lengths_of (match_ordering o (volume ∷ one ∷ volumes) (volume ∷ volumes) (one ∷ with_volume volume volumes))
    by_case rec Less e = absurd (at.not_before 0 item (omega arith) (ap₂ name_order is.named (ap (λ (pair : List ℕ × ℕ). pair.0) first) ∙ e))
    by_case rec Equal e = absurd (none-some one.blocks (sym none ∙ ap (λ (o : Ordering). cond (is_eq o) (Some one.blocks) (blocks_of volume.name volumes)) e))
    by_case rec Greater e =
        ap₂ (λ (pair : List ℕ × ℕ) (pairs : List (List ℕ × ℕ)). pair ∷ pairs) first
        (rec (sym (ap (λ (o : Ordering). cond (is_eq o) (Some one.blocks) (blocks_of volume.name volumes)) e) ∙ none) at_rest)

-- what is listed are the volumes of the records from this number on
abbrev pub ListsFrom : VolumeTable → ℕ → List Listed → Type 0
ListsFrom table number items = (extents : ExtentLayout) (sectors : List Block) (volumes : VolumeMap) → ShowsBy extents table sectors volumes
    → told items ≡ lengths_of (listed volumes.volumes (drop number table.records))

pub lists_none : (table : VolumeTable) → ListsFrom table MOST_VOLUMES []
lists_none table extents sectors volumes by =
    let all : length table.records ≤ MOST_VOLUMES = omega (arith, all_records table) in
    ap (λ (records : List (Option Record)). lengths_of (listed volumes.volumes records)) (sym (drop_all MOST_VOLUMES table.records all))

-- the records from one on
from_record : (table : VolumeTable) (number : ℕ) (one : Option Record) → number < MOST_VOLUMES → record_of table.records number ≡ one
    → drop number table.records ≡ one ∷ drop (number + 1) table.records
from_record table number one below is =
    let all : number < length table.records = omega (arith, below, all_records table) in
    drop_more table.records number None all ∙ ap (λ (o : Option Record). o ∷ drop (number + 1) table.records) is

pub lists_unused : (table : VolumeTable) (number : ℕ) (items : List Listed) → number < MOST_VOLUMES → record_of table.records number ≡ None
    → ListsFrom table (number + 1) items → ListsFrom table number items
lists_unused table number items below none so_far extents sectors volumes by =
    so_far extents sectors volumes by ∙ ap (λ (records : List (Option Record)). lengths_of (listed volumes.volumes records))
    (sym (from_record table number None below none))

distinct_from : (records : List (Option Record)) (n : ℕ) → AreDistinct records → AreDistinct (drop n records)
distinct_from records n distinct i j first second one two same =
    let next : n + i ≡ n + j = distinct (n + i) (n + j) first second (sym (get_or-drop n records i None) ∙ one) (sym (get_or-drop n records j None) ∙ two)
    same in
    omega (arith, next)

shown_by_table : (extents : ExtentLayout) (table : VolumeTable) (sectors : List Block) (volumes : VolumeMap) → ShowsBy extents table sectors volumes
    → AreShown extents table.records table.extents sectors volumes.volumes
shown_by_table extents table sectors volumes by = subst (λ (t : VolumeTable). AreShown extents t.records t.extents sectors volumes.volumes) by.by
    by.shows.shown

pub lists_used : (table : VolumeTable) (number : ℕ) (items more : List Listed) (new : Listed) (entry : Record) → number < MOST_VOLUMES
    → record_of table.records number ≡ Some entry
    → new.name.bytes.items ≡ entry.name.bytes.items → new.blocks ≡ entry.blocks → IsPutInto items more new → ListsFrom table (number + 1) items
    → ListsFrom table number more
lists_used table number items more new entry below used named as_long put so_far extents sectors volumes by =
    let rest = drop (number + 1) table.records in
    let parts = from_record table number (Some entry) below used in
    let distinct : AreDistinct (Some entry ∷ rest) = subst AreDistinct parts
    (distinct_from table.records number (distinct_names table.version table.records table.extents table.is_table)) in
    let long = record_blocks table.records table.extents sectors volumes.volumes (shown_by_table extents table sectors volumes by) number entry used in
    ap told put.is
    ∙ put_in_order items (listed volumes.volumes rest) put.place new (volume_of volumes.volumes entry) (so_far extents sectors volumes by)
    (record { named = named; as_long = as_long ∙ sym long })
    (not_again volumes.volumes entry rest distinct) put.at
    ∙ ap (λ (records : List (Option Record)). lengths_of (listed volumes.volumes records)) (sym parts)

pub lists_all : (table : VolumeTable) (items : List Listed) → ListsFrom table 0 items → (extents : ExtentLayout) (sectors : List Block) (volumes : VolumeMap)
    → ShowsBy extents table sectors volumes
    → told items ≡ lengths_of volumes.volumes
lists_all table items so_far extents sectors volumes by =
    so_far extents sectors volumes by
    ∙ ap lengths_of (listed_are table.records table.extents sectors volumes.volumes by.shows.limits.rising (shown_by_table extents table sectors volumes by))

-- no refusal ended a store
going_on : (refusal : Refusal) → None ≡ Some refusal → ⊥
going_on refusal is = cc

-- A list for which there is no memory does nothing, as a create of a volume with no name.
pub list_is_refused : (honest : Type 0) (store : StoreView) → store.ended ≡ None → Applies honest (OnVolumes Names) store store (Refused Memory)
list_is_refused honest store going = record {
  ended = λ refusal is. absurd (going_on refusal (sym going ∙ is));
  going = λ is. record {
    goes_on = nothing.goes_on;
    generation = nothing.generation;
    incarnations = incarnations_same (OnVolumes Names) store.array.table store.array.table refl;
    spared = nothing.spared;
    set_left = λ unended. let left = nothing.set_left (λ e. e) in record { devices = left.devices; are = left.are; left = left.left };
    ends = λ refusal same ends. absurd (memory_stays refusal same ends);
    goes = λ unended. going;
    listed = inl (0, omega arith, refl);
    scrubs = λ fair scrub. absurd scrub;
    moments = nothing.moments;
    answered = λ fair unended lost volumes settled. inr (record { listing = refl; refused = refl });
    settled = λ fair unended. nothing.settled fair (λ e. e);
  };
}
  where
    refused : Applies honest (OnVolumes (Create [] 0)) store store (Refused BadName)
    refused = refused_at_once honest (Create [] 0) store BadName going (0, omega arith, refl) (λ e. e) (λ sectors volumes shown. refl)

    nothing : GoesThrough honest (OnVolumes (Create [] 0)) store store (Refused BadName)
    nothing = refused.going going

    refusal_in_reply : Reply → Refusal
    refusal_in_reply (Refused refusal) = refusal
    refusal_in_reply reply = Memory

    memory_stays : (refusal : Refusal) → Refused Memory ≡ Refused refusal → EndsIt refusal → ⊥
    memory_stays refusal same ends = subst EndsIt (sym (ap refusal_in_reply same)) ends

-- A list that is answered is that of the volumes, and nothing is done.
pub list_applies : (honest : Type 0) (store : StoreView) (items : List Listed) → store.ended ≡ None → (honest → IsTrueTo store.array.panel store.array.history)
    → ((extents : ExtentLayout) (sectors : List Block) (volumes : VolumeMap) → ShowsBy extents store.keeps sectors volumes
    → told items ≡ lengths_of volumes.volumes)
    → Applies honest (OnVolumes Names) store store (Volumes (told items))
list_applies honest store items going true_to are =
    done_with_volumes honest Names 0 IsSame IsSame store store (Volumes (told items)) tt (omega arith) going going true_to
    (changes_none honest 0 IsSame IsSame store.array (λ V. refl) (λ V. refl)) (told items, refl) (λ sectors volumes shown. refl)
    (λ fair lost V volumes rests shown. ap Volumes (are (extents_for_store store) V volumes shown))
    (λ V W volumes shown same. inl (subst (λ (l : List Block). Shows (extents_for_store store) l volumes) (sym same) shown.shows))
    (λ V W volumes shown same. subst (λ (l : List Block). ShowsBy (extents_for_store store) store.keeps l volumes) (sym same) shown)
