-- Reads of parts of a range, one after another.
use Rattle.std.proofs.Common.{◌≡◌, ◌⊎◌, inl, inr, ℕ, ◌+◌, ◌<◌, ◌≤◌, ◌^◌, min, List, ◌++◌, length, take, None, refl, sym, ap, subst, ◌∙◌, arith}
use Rattle.std.specs.Prelude.{Ok, Err, Result}
use Rattle.std.proofs.Math.Logic.{∥∥₁_elim}
use Rattle.std.proofs.Props.{props}
use Rattle.std.proofs.Math.Seq.{take-append-add, take-append_seam}
use Rattle.std.proofs.lemmas.List.{length-take, take-append-le, take_all}
use Rattle.sector_model.specs.declared.refusal.Refusal.{Refusal}
use Rattle.array_io.specs.Believed.Views.{EndsIt}
use Rattle.volume_table.proofs.RunChains.{applies_for}
use Rattle.volume_table.specs.declared.event.TheConstants.{MOST_BLOCKS_AT_ONCE}
use Rattle.volume_table.specs.StagedParts.{Admits, AdmitsBlocks}
use Rattle.volume_table.specs.Stands.{StoreView}
use Rattle.volume_table.specs.StoreCalls.{Applies, EndsStore}
use Rattle.volume_table.specs.VolumeStep.{Blocks, OnVolumes, Read, Refused}
use Rattle.volume_table.specs.Volumes.{Block}
use Rattle.requests.specs.Demands.{ReadBlocks}
use Rattle.server.specs.Answers.{EndsServing, IsServed, ReadsParts, StopsInRead, TellsBlocks, TellsRefusal, none_read, then_read}
use Rattle.server.specs.declared.counts.TheConstants.{MOST_WRITTEN_AT_ONCE}

-- one part more
pub read_more : (honest other : Type 0) (name : List ℕ) (at end count : ℕ) (blocks part : List Block) (old mid new : StoreView) → (honest → other)
    → ReadsParts honest name at end blocks old mid → 1 ≤ count → count ≤ MOST_BLOCKS_AT_ONCE → length part ≡ count
    → Applies other (OnVolumes (Read name end count)) mid new (Blocks part) → ReadsParts honest name at (end + count) (blocks ++ part) old new
read_more honest other name at end count blocks part old mid new so before least most long applies =
    subst (λ (n : ℕ). ReadsParts honest name at (end + n) (blocks ++ part) old new) long
    (then_read mid part before (subst (λ (n : ℕ). 1 ≤ n) (sym long) least) (subst (λ (n : ℕ). n ≤ MOST_BLOCKS_AT_ONCE) (sym long) most)
    (applies_for other honest _ mid new _ so
    (subst (λ (n : ℕ). Applies other (OnVolumes (Read name end n)) mid new (Blocks part)) (sym long) applies)))

-- the next one is refused
pub read_stops : (honest other : Type 0) (name : List ℕ) (at end count long : ℕ) (blocks : List Block) (old mid new : StoreView) (refusal : Refusal)
    → (honest → other) → ReadsParts honest name at end blocks old mid → 1 ≤ count → count ≤ MOST_BLOCKS_AT_ONCE → end + count ≤ at + long
    → Applies other (OnVolumes (Read name end count)) mid new (Refused refusal) → StopsInRead honest name at long old new refusal
read_stops honest other name at end count long blocks old mid new refusal so before least most within applies = record {
  end = end;
  blocks = blocks;
  mid = mid;
  before = before;
  part = count;
  least = least;
  most = most;
  within = within;
  refused = applies_for other honest _ mid new _ so applies;
}

-- a store over which parts were read goes on, with the shape that its set had
record GoesReading (old new : StoreView) : Type 0 where
  pub going : new.ended ≡ None
  pub geometry : new.array.table.geometry ≡ old.array.table.geometry

goes_reading : (honest : Type 0) (name : List ℕ) (at end : ℕ) (blocks : List Block) (old new : StoreView) → old.ended ≡ None
    → ReadsParts honest name at end blocks old new → GoesReading old new
goes_reading honest name at end blocks old new going none_read = record { going = going; geometry = refl }
goes_reading honest name at end blocks old new going (then_read mid part before least most applies) =
    let was = goes_reading honest name at _ _ old mid going before in
    let through = applies.going was.going in
    record { going = through.goes (λ ends. ends); geometry = through.goes_on.not_older.same_geometry ∙ was.geometry }

-- all blocks were read
pub range_read : (honest : Type 0) (name : List ℕ) (at count : ℕ) (blocks : List Block) (old new : StoreView) → 1 ≤ count → count ≤ MOST_WRITTEN_AT_ONCE
    → old.ended ≡ None → ReadsParts honest name at (at + count) blocks old new → IsServed honest (ReadBlocks name at count) old new (TellsBlocks blocks)
range_read honest name at count blocks old new least most going reads =
    let all = goes_reading honest name at (at + count) blocks old new going reads in
    record { answers = (least, most, reads); going = λ goes. all.going; geometry = all.geometry }

-- some were
pub range_stopped : (honest : Type 0) (name : List ℕ) (at count : ℕ) (old new : StoreView) (refusal : Refusal) → 1 ≤ count → count ≤ MOST_WRITTEN_AT_ONCE
    → old.ended ≡ None → StopsInRead honest name at count old new refusal → IsServed honest (ReadBlocks name at count) old new (TellsRefusal refusal)
range_stopped honest name at count old new refusal least most going stops =
    let before = goes_reading honest name at stops.end stops.blocks old stops.mid going stops.before in
    let through = stops.refused.going before.going in
    record {
      answers = (least, most, inr stops);
      going = λ goes. through.goes (λ ends. goes ends);
      geometry = through.goes_on.not_older.same_geometry ∙ before.geometry;
    }

-- none, of a range that the volume has not
pub range_refused : (honest : Type 0) (name : List ℕ) (at count : ℕ) (store : StoreView) (refusal : Refusal) → 1 ≤ count → count ≤ MOST_WRITTEN_AT_ONCE
    → store.ended ≡ None → Admits store name at count (Err refusal) → IsServed honest (ReadBlocks name at count) store store (TellsRefusal refusal)
range_refused honest name at count store refusal least most going admits = record {
  answers = (least, most, inl (record { refuses = admits.refused going refusal refl; same = refl }));
  going = λ goes. going;
  geometry = refl;
}

-- a range that is admitted lies within what 32 bits count
pub range_fits : (store : StoreView) (name : List ℕ) (at count number : ℕ) → Admits store name at count (Ok number) → at + count < 2 ^ 32
range_fits store name at count number admits = ∥∥₁_elim (admits.admitted number refl).has (hlevel props) (λ it. omega (arith, it.fits, it.entry.most))

-- ---- in a buffer

-- blocks that were read become the first of a buffer
pub range_done : (honest : Type 0) (name : List ℕ) (at count : ℕ) (to beyond : List Block) (old new : StoreView) → 1 ≤ count → count ≤ MOST_WRITTEN_AT_ONCE
    → old.ended ≡ None → length to ≡ count → ReadsParts honest name at (at + length to) to old new
    → IsServed honest (ReadBlocks name at count) old new (TellsBlocks (take count (to ++ beyond)))
range_done honest name at count to beyond old new least most going long reads =
    let first : to ≡ take count (to ++ beyond) = sym (ap (λ (n : ℕ). take n (to ++ beyond)) (sym long) ∙ take-append_seam to beyond) in
    range_read honest name at count (take count (to ++ beyond)) old new least most going
    (subst (λ (blocks : List Block). ReadsParts honest name at (at + count) blocks old new) first
    (subst (λ (n : ℕ). ReadsParts honest name at (at + n) to old new) long reads))

pub range_undone : (honest : Type 0) (name : List ℕ) (at count long : ℕ) (old new : StoreView) (refusal : Refusal) → 1 ≤ count → count ≤ MOST_WRITTEN_AT_ONCE
    → old.ended ≡ None → long ≡ count → StopsInRead honest name at long old new refusal
    → IsServed honest (ReadBlocks name at count) old new (TellsRefusal refusal)
range_undone honest name at count long old new refusal least most going is stops =
    range_stopped honest name at count old new refusal least most going (subst (λ (n : ℕ). StopsInRead honest name at n old new refusal) is stops)

-- so do those of a part
pub part_read : (honest : Type 0) (name : List ℕ) (at count places : ℕ) (to beyond : List Block) (old new : StoreView) → places ≡ count → length to ≡ places
    → Applies honest (OnVolumes (Read name at places)) old new (Blocks to)
    → Applies honest (OnVolumes (Read name at count)) old new (Blocks (take count (to ++ beyond)))
part_read honest name at count places to beyond old new as_many long applies =
    let first : to ≡ take count (to ++ beyond) = sym (ap (λ (n : ℕ). take n (to ++ beyond)) (sym (long ∙ as_many)) ∙ take-append_seam to beyond) in
    subst (λ (n : ℕ). Applies honest (OnVolumes (Read name at n)) old new (Blocks (take count (to ++ beyond)))) as_many
    (subst (λ (blocks : List Block). Applies honest (OnVolumes (Read name at places)) old new (Blocks blocks)) first applies)

pub part_refused : (honest : Type 0) (name : List ℕ) (at count places : ℕ) (old new : StoreView) (refusal : Refusal) → places ≡ count
    → Applies honest (OnVolumes (Read name at places)) old new (Refused refusal) → Applies honest (OnVolumes (Read name at count)) old new (Refused refusal)
part_refused honest name at count places old new refusal as_many applies =
    subst (λ (n : ℕ). Applies honest (OnVolumes (Read name at n)) old new (Refused refusal)) as_many applies

-- ---- part by part

-- before the first part
pub read_none : (honest : Type 0) (name : List ℕ) (at : ℕ) (to : List Block) (store : StoreView) → ReadsParts honest name at (at + 0) (take 0 to) store store
read_none honest name at to store =
    let none : at ≡ at + 0 = omega arith in
    subst (λ (n : ℕ). ReadsParts honest name at n (take 0 to) store store) none none_read

-- after one more, where so many blocks were left
pub read_next : (honest other : Type 0) (name : List ℕ) (at done count places : ℕ) (was sub beyond : List Block) (old mid new : StoreView) → (honest → other)
    → ReadsParts honest name at (at + done) (take done was) old mid → done < length was → places + done ≡ length was → length sub ≡ places
    → count ≡ min places MOST_BLOCKS_AT_ONCE → Applies other (OnVolumes (Read name (at + done) count)) mid new (Blocks (take count sub))
    → ReadsParts honest name at (at + (done + count)) (take (done + count) (take done was ++ (sub ++ beyond))) old new
read_next honest other name at done count places was sub beyond old mid new so before within left long is applies =
    let front : length (take done was) ≡ done = omega (arith, length-take done was, within) in
    let part : length (take count sub) ≡ count = omega (arith, length-take count sub, long, is) in
    let least : 1 ≤ count = omega (arith, left, within, is) in
    let most : count ≤ MOST_BLOCKS_AT_ONCE = omega (arith, is) in
    let end : (at + done) + count ≡ at + (done + count) = omega arith in
    let there : take count (sub ++ beyond) ≡ take count sub = take-append-le count sub beyond (omega (arith, long, is)) in
    let whole : take done was ++ take count sub ≡ take (done + count) (take done was ++ (sub ++ beyond)) =
    sym
    (ap (λ (n : ℕ). take (n + count) (take done was ++ (sub ++ beyond))) (sym front) ∙ take-append-add (take done was) (sub ++ beyond) count
    ∙ ap (λ (blocks : List Block). take done was ++ blocks) there) in
    subst (λ (n : ℕ). ReadsParts honest name at n (take (done + count) (take done was ++ (sub ++ beyond))) old new) end
    (subst (λ (blocks : List Block). ReadsParts honest name at ((at + done) + count) blocks old new) whole
    (read_more honest other name at (at + done) count (take done was) (take count sub) old mid new so before least most part applies))

-- the next one is refused
pub stops_next : (honest other : Type 0) (name : List ℕ) (at done count places long : ℕ) (was : List Block) (old mid new : StoreView) (refusal : Refusal)
    → (honest → other) → ReadsParts honest name at (at + done) (take done was) old mid → done < length was → places + done ≡ length was
    → length was ≡ long → count ≡ min places MOST_BLOCKS_AT_ONCE → Applies other (OnVolumes (Read name (at + done) count)) mid new (Refused refusal)
    → StopsInRead honest name at long old new refusal
stops_next honest other name at done count places long was old mid new refusal so before within left as_long is applies =
    read_stops honest other name at (at + done) count long (take done was) old mid new refusal so before (omega (arith, left, within, is))
    (omega (arith, is)) (omega (arith, left, as_long, is)) applies

-- after the last
pub read_all : (honest : Type 0) (name : List ℕ) (at done : ℕ) (to : List Block) (old new : StoreView) → done ≡ length to
    → ReadsParts honest name at (at + done) (take done to) old new → ReadsParts honest name at (at + length to) to old new
read_all honest name at done to old new all reads =
    subst (λ (blocks : List Block). ReadsParts honest name at (at + length to) blocks old new) (take_all (length to) to (omega arith))
    (subst (λ (n : ℕ). ReadsParts honest name at (at + n) (take n to) old new) all reads)
