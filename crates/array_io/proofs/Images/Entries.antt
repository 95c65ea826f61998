-- The last entry of an image's journals.
use Rattle.std.proofs.Common.{◌≡◌, ℕ, ◌+◌, ◌%◌, ◌≤◌, List, Option, Some, None, refl, sym, ◌∙◌, ap, subst, arith}
use Rattle.sector_model.specs.History.{Slots, disk_of, sector_of}
use Rattle.layout_map.specs.declared.sizes.TheConstants.{FIRST_SEAL, HALVES}
use Rattle.layout_map.specs.declared.geometry.Geometry.{Geometry}
use Rattle.superblock.specs.Counted.{Content}
use Rattle.stripe_journal.specs.declared.seal.Seal.{Seal}
use Rattle.stripe_journal.specs.LastEntry.{Counts, Entry, IsGreatest, IsLastEntry, IsLatest, sector_in, sector_of_last}
use Rattle.array_io.proofs.Images.Spellings.{Spellings}

-- two images have the same journals, and the same in each of them
pub record HaveSameJournals (journals others : ℕ → Type 0) (image other : Slots) : Type 0 where
  pub there : (slot : ℕ) → journals slot → others slot
  pub back : (slot : ℕ) → others slot → journals slot
  pub same : (slot : ℕ) → journals slot → image slot ≡ other slot

-- such images have the same last entry
pub entry_stays : (id : List ℕ) (geometry : Geometry) (journals others : ℕ → Type 0) (image other : Slots) → HaveSameJournals journals others image other
    → (last : Option Entry) → IsLastEntry id geometry journals image last → IsLastEntry id geometry others other last
entry_stays id geometry journals others image other alike None none = λ journal place seal on counts.
    none journal place seal (alike.back journal on)
    (subst (λ (c : Content). Counts id geometry c place seal) (sym (alike.same journal (alike.back journal on))) counts)
entry_stays id geometry journals others image other alike (Some entry) latest = record {
  on_live = alike.there entry.journal latest.on_live;
  sealed = subst (λ (c : Content). IsGreatest id geometry c entry.seal) (alike.same entry.journal latest.on_live) latest.sealed;
  greatest = λ journal seal on sealed. latest.greatest journal seal (alike.back journal on) (before journal seal on sealed);
  lowest = λ journal seal on sealed equal. latest.lowest journal seal (alike.back journal on) (before journal seal on sealed) equal;
}
  where
    before : (journal : ℕ) (seal : Seal) → others journal → IsGreatest id geometry (other journal) seal → IsGreatest id geometry (image journal) seal
    before journal seal on sealed = subst (λ (c : Content). IsGreatest id geometry c seal) (sym (alike.same journal (alike.back journal on))) sealed

-- and the same sectors in it
pub sectors_stay : (members : ℕ) (id : List ℕ) (geometry : Geometry) (journals : ℕ → Type 0) (image other : Slots)
    → ((slot : ℕ) → journals slot → image slot ≡ other slot)
    → (last : Option Entry) → IsLastEntry id geometry journals image last → (row member : ℕ)
    → sector_of_last members image last row member ≡ sector_of_last members other last row member
sectors_stay members id geometry journals image other same None none row member = refl
sectors_stay members id geometry journals image other same (Some entry) latest row member =
    ap (λ (c : Content). sector_in members c entry.seal row member) (same entry.journal latest.on_live)

-- two seals with one number that count on one journal are one seal
pub seal_is_one : Spellings → (id : List ℕ) (geometry : Geometry) (content : Content) (first second : Seal) → IsGreatest id geometry content first
    → IsGreatest id geometry content second
    → first.number ≡ second.number → first ≡ second
seal_is_one spellings id geometry content first second one two equal =
    let places : one.place ≡ two.place = sym one.counted.belongs.own_place ∙ ap (λ (n : ℕ). n % HALVES) equal ∙ two.counted.belongs.own_place in
    spellings.one_seal first second
    (sym one.counted.stands ∙ ap (λ (p : ℕ). sector_of (disk_of content) (FIRST_SEAL + p)) places ∙ two.counted.stands)

same_entry : (first second : Entry) → first.journal ≡ second.journal → first.seal ≡ second.seal → first ≡ second
same_entry first second journals seals = λ i. record { journal = journals i; seal = seals i }

latest_is_one : Spellings → (id : List ℕ) (geometry : Geometry) (journals : ℕ → Type 0) (image : Slots) (first second : Entry)
    → IsLatest id geometry journals image first → IsLatest id geometry journals image second → first ≡ second
latest_is_one spellings id geometry journals image first second one two =
    let below : second.seal.number ≤ first.seal.number = one.greatest second.journal second.seal two.on_live two.sealed in
    let above : first.seal.number ≤ second.seal.number = two.greatest first.journal first.seal one.on_live one.sealed in
    let equal : first.seal.number ≡ second.seal.number = omega arith in
    let before : first.journal ≤ second.journal = one.lowest second.journal second.seal two.on_live two.sealed (sym equal) in
    let beyond : second.journal ≤ first.journal = two.lowest first.journal first.seal one.on_live one.sealed equal in
    let journals_equal : first.journal ≡ second.journal = omega arith in
    same_entry first second journals_equal
    (seal_is_one spellings id geometry (image first.journal) first.seal second.seal one.sealed
    (subst (λ (j : ℕ). IsGreatest id geometry (image j) second.seal) (sym journals_equal) two.sealed) equal)

-- an image has one last entry
pub last_is_one : Spellings → (id : List ℕ) (geometry : Geometry) (journals : ℕ → Type 0) (image : Slots) (first second : Option Entry)
    → IsLastEntry id geometry journals image first → IsLastEntry id geometry journals image second → first ≡ second
last_is_one spellings id geometry journals image None None one two = refl
last_is_one spellings id geometry journals image None (Some entry) none latest =
    absurd (none entry.journal latest.sealed.place entry.seal latest.on_live latest.sealed.counted)
last_is_one spellings id geometry journals image (Some entry) None latest none =
    absurd (none entry.journal latest.sealed.place entry.seal latest.on_live latest.sealed.counted)
last_is_one spellings id geometry journals image (Some first) (Some second) one two =
    ap Some (latest_is_one spellings id geometry journals image first second one two)
