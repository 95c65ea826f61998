-- Blocks of a volume are made zero by one commit after another.
use Rattle.std.proofs.Common.{◌≡◌, ℕ, ◌+◌, ◌-◌, ◌<◌, ◌≤◌, Bool, List, Option, Ok, Err, refl, ◌∙◌, subst, arith}
use Rattle.sector_model.specs.declared.refusal.Refusal.{Refusal}
use Rattle.sector_model.specs.Bank.{IsTrueTo}
use Rattle.layout_map.specs.declared.geometry.Geometry.{Geometry}
use Rattle.array_io.specs.Believed.ArrayCalls.{Answer}
use Rattle.array_io.specs.Believed.Views.{ArrayView}
use Rattle.extents.specs.declared.extent_layout.ExtentLayout.{ExtentLayout}
use Rattle.extents.specs.declared.owned.Owned.{Owned}
use Rattle.extents.specs.SetExtents.{extents_in}
use Rattle.volume_table.specs.ListChanges.{Change, ChangesList}
use Rattle.volume_table.specs.StoreChanges.{IsPartlyZero, IsZeroed}
use Rattle.volume_table.specs.VolumeStep.{zero_blocks}
use Rattle.volume_table.specs.ZeroedRanges.{AreZeroedInTurn, EndsZeroing, ZeroesInTurn, ZeroesTogether, none_zeroed, then_zeroed}
use Rattle.volume_table.proofs.ZeroedBlocks.{IsZeroing, zeroing_goes_on, zeroing_refused}

-- ---- what is honest at the start is so later

pub changes_for : (honest still : Type 0) (entries : ℕ) (passes leaves : Change) (old new : ArrayView) (answer : Answer) → (honest → still)
    → ChangesList still entries passes leaves old new answer → ChangesList honest entries passes leaves old new answer
changes_for honest still entries passes leaves old new answer so changes = record {
  goes_on = changes.goes_on;
  stays = record { table = changes.stays.table; failure = λ is. changes.stays.failure (so is) };
  number = changes.number;
  moments = λ is. changes.moments (so is);
  rests = λ is. changes.rests (so is);
  cause = changes.cause;
}

together_for : (honest still : Type 0) (extents : ExtentLayout) (owners : List (Option Owned)) (number at end : ℕ) (old new : ArrayView) (answer : Answer)
    → (honest → still) → ZeroesTogether still extents owners number at end old new answer → ZeroesTogether honest extents owners number at end old new answer
together_for honest still extents owners number at end old new answer so zeroes =
    record { changes = changes_for honest still 1 _ _ old new answer so zeroes.changes; cause = zeroes.cause }

in_turn_for : (honest still : Type 0) (extents : ExtentLayout) (owners : List (Option Owned)) (number : ℕ) {at end : ℕ} {old new : ArrayView}
    → (honest → still) → AreZeroedInTurn still extents owners number at end old new → AreZeroedInTurn honest extents owners number at end old new
in_turn_for honest still extents owners number so none_zeroed = none_zeroed
in_turn_for honest still extents owners number {at = at} {old = old} so (then_zeroed upto mid some one told rest) =
    then_zeroed upto mid some (together_for honest still extents owners number at upto old mid (Ok tt) so one) (λ is. told (so is))
    (in_turn_for honest still extents owners number so rest)

-- ---- rows of commits

-- one after others
in_turn_more : (honest : Type 0) (extents : ExtentLayout) (owners : List (Option Owned)) (number : ℕ) {at from upto : ℕ} {old mid new : ArrayView}
    → AreZeroedInTurn honest extents owners number at from old mid → from < upto
    → ZeroesTogether honest extents owners number from upto mid new (Ok tt) → (honest → IsTrueTo new.panel new.history)
    → AreZeroedInTurn honest extents owners number at upto old new
in_turn_more honest extents owners number {upto = upto} {new = new} none_zeroed some one told = then_zeroed upto new some one told none_zeroed
in_turn_more honest extents owners number (then_zeroed next between first before told_before rest) some one told =
    then_zeroed next between first before told_before (in_turn_more honest extents owners number rest some one told)

-- many after others
in_turn_both : (honest : Type 0) (extents : ExtentLayout) (owners : List (Option Owned)) (number : ℕ) {at from end : ℕ} {old mid new : ArrayView}
    → AreZeroedInTurn honest extents owners number at from old mid → AreZeroedInTurn honest extents owners number from end mid new
    → AreZeroedInTurn honest extents owners number at end old new
in_turn_both honest extents owners number none_zeroed more = more
in_turn_both honest extents owners number (then_zeroed next between first before told rest) more =
    then_zeroed next between first before told (in_turn_both honest extents owners number rest more)

-- the blocks rise
pub in_turn_order : (honest : Type 0) (extents : ExtentLayout) (owners : List (Option Owned)) (number : ℕ) {at end : ℕ} {old new : ArrayView}
    → AreZeroedInTurn honest extents owners number at end old new → at ≤ end
in_turn_order honest extents owners number none_zeroed = omega arith
in_turn_order honest extents owners number (then_zeroed next between first before told rest) =
    omega (arith, first, in_turn_order honest extents owners number rest)

-- the set is the same
pub in_turn_geometry : (honest : Type 0) (extents : ExtentLayout) (owners : List (Option Owned)) (number : ℕ) {at end : ℕ} {old new : ArrayView}
    → AreZeroedInTurn honest extents owners number at end old new → new.table.geometry ≡ old.table.geometry
in_turn_geometry honest extents owners number none_zeroed = refl
in_turn_geometry honest extents owners number (then_zeroed next between first before told rest) =
    in_turn_geometry honest extents owners number rest ∙ before.changes.goes_on.not_older.same_geometry

-- ---- between two commits of a call

-- the blocks `first` to `at` - 1 are zero
pub record IsZeroedUpTo (honest still : Type 0) (owners : List (Option Owned)) (number first at : ℕ) (old now : ArrayView) : Type 0 where
  pub forth : honest → still
  pub back : still → honest
  pub same : now.table.geometry ≡ old.table.geometry
  pub chain : AreZeroedInTurn honest (extents_in old.table.geometry) owners number first at old now

pub range_begins : (honest : Type 0) (owners : List (Option Owned)) (number first : ℕ) (old : ArrayView)
    → IsZeroedUpTo honest honest owners number first first old old
range_begins honest owners number first old = record { forth = λ is. is; back = λ is. is; same = refl; chain = none_zeroed }

module _ (honest still : Type 0) (owners : List (Option Owned)) (number first at : ℕ) (old mid : ArrayView)
    (zeroed : IsZeroedUpTo honest still owners number first at old mid) where
  -- one commit more
  pub range_goes_on : (then : Type 0) (upto : ℕ) (new : ArrayView) → at < upto → (still → then) → (then → still) → (then → IsTrueTo new.panel new.history)
      → ZeroesTogether still (extents_in mid.table.geometry) owners number at upto mid new (Ok tt)
      → IsZeroedUpTo honest then owners number first upto old new
  range_goes_on then upto new some forth back true_to one = record {
    forth = λ is. forth (zeroed.forth is);
    back = λ is. zeroed.back (back is);
    same = one.changes.goes_on.not_older.same_geometry ∙ zeroed.same;
    chain = in_turn_more honest (extents_in old.table.geometry) owners number zeroed.chain some
        (together_for honest still (extents_in old.table.geometry) owners number at upto mid new (Ok tt) zeroed.forth
        (subst (λ (g : Geometry). ZeroesTogether still (extents_in g) owners number at upto mid new (Ok tt)) zeroed.same one))
        (λ is. true_to (forth (zeroed.forth is)));
  }

  -- a commit ends it
  pub range_ends : (upto last : ℕ) (new : ArrayView) (refusal : Refusal) → at < upto → upto ≤ last
      → ZeroesTogether still (extents_in mid.table.geometry) owners number at upto mid new (Err refusal)
      → ZeroesInTurn honest (extents_in old.table.geometry) owners number first last old new (Err refusal)
  range_ends upto last new refusal some within one = record {
    from = at;
    upto = upto;
    mid = mid;
    before = zeroed.chain;
    some = some;
    most = within;
    ends = together_for honest still (extents_in old.table.geometry) owners number at upto mid new (Err refusal) zeroed.forth
        (subst (λ (g : Geometry). ZeroesTogether still (extents_in g) owners number at upto mid new (Err refusal)) zeroed.same one);
  }

  -- a row of commits more
  part_chain : (end : ℕ) (new : ArrayView) → ZeroesInTurn still (extents_in mid.table.geometry) owners number at end mid new (Ok tt)
      → AreZeroedInTurn honest (extents_in old.table.geometry) owners number first end old new
  part_chain end new part = in_turn_both honest (extents_in old.table.geometry) owners number zeroed.chain
      (in_turn_for honest still (extents_in old.table.geometry) owners number zeroed.forth
      (subst (λ (g : Geometry). AreZeroedInTurn still (extents_in g) owners number at end mid new) zeroed.same part))

  pub part_goes_on : (then : Type 0) (end : ℕ) (new : ArrayView) → (still → then) → (then → still)
      → ZeroesInTurn still (extents_in mid.table.geometry) owners number at end mid new (Ok tt)
      → IsZeroedUpTo honest then owners number first end old new
  part_goes_on then end new forth back part = record {
    forth = λ is. forth (zeroed.forth is);
    back = λ is. zeroed.back (back is);
    same = in_turn_geometry still (extents_in mid.table.geometry) owners number part ∙ zeroed.same;
    chain = part_chain end new part;
  }

  -- a row of commits ends it
  pub part_ends : (end last : ℕ) (new : ArrayView) (refusal : Refusal) → end ≤ last
      → ZeroesInTurn still (extents_in mid.table.geometry) owners number at end mid new (Err refusal)
      → ZeroesInTurn honest (extents_in old.table.geometry) owners number first last old new (Err refusal)
  part_ends end last new refusal within part = record {
    from = part.from;
    upto = part.upto;
    mid = part.mid;
    before = part_chain part.from part.mid part.before;
    some = part.some;
    most = omega (arith, part.most, within);
    ends = together_for honest still (extents_in old.table.geometry) owners number part.from part.upto part.mid new (Err refusal) zeroed.forth
        (subst (λ (g : Geometry). ZeroesTogether still (extents_in g) owners number part.from part.upto part.mid new (Err refusal)) zeroed.same part.ends);
  }

  -- the last row of commits answers for all
  pub part_is_last : (last : ℕ) (new : ArrayView) (answer : Answer) → ZeroesInTurn still (extents_in mid.table.geometry) owners number at last mid new answer
      → ZeroesInTurn honest (extents_in old.table.geometry) owners number first last old new answer
  part_is_last last new (Ok tt) part = part_chain last new part
  part_is_last last new (Err refusal) part = part_ends last last new refusal (omega arith) part

-- ---- blocks that no volume has yet

-- commits in turn make more of the new blocks zero
pub zeroing_in_turn : (extents : ExtentLayout) (honest still : Type 0) (dirty : List Bool) (owners : List (Option Owned)) (number first last : ℕ) {at end : ℕ}
    (old : ArrayView) {mid new : ArrayView} → end ≤ last → (still → IsTrueTo mid.panel mid.history)
    → IsZeroing extents honest still dirty owners number first last at old mid → AreZeroedInTurn still extents owners number at end mid new
    → IsZeroing extents honest still dirty owners number first last end old new
zeroing_in_turn extents honest still dirty owners number first last old within true_to zeroing none_zeroed = zeroing
zeroing_in_turn extents honest still dirty owners number first last {at = at} {end = end} old {mid = mid} {new = new} within true_to zeroing
    (then_zeroed upto between some one told rest) =
    let order = in_turn_order still extents owners number rest in
    let next : at + (upto - at) ≡ upto = omega (arith, some) in
    zeroing_in_turn extents honest still dirty owners number first last old within told
    (subst (λ (n : ℕ). IsZeroing extents honest still dirty owners number first last n old between) next
    (zeroing_goes_on extents honest still dirty owners number first last at (upto - at) (zero_blocks (upto - at)) old mid between refl
    (omega (arith, next, order, within)) (omega (arith, some)) zeroing true_to still (λ is. is) (λ is. is) one.changes)) rest

-- the bank between two commits is as it says
told_after : (still : Type 0) (extents : ExtentLayout) (owners : List (Option Owned)) (number : ℕ) {at end : ℕ} {mid new : ArrayView}
    → (still → IsTrueTo mid.panel mid.history) → AreZeroedInTurn still extents owners number at end mid new → still → IsTrueTo new.panel new.history
told_after still extents owners number true_to none_zeroed = true_to
told_after still extents owners number true_to (then_zeroed upto between some one told rest) = told_after still extents owners number told rest

-- or the last of them ends the call
pub zeroing_ends : (extents : ExtentLayout) (honest still : Type 0) (dirty : List Bool) (owners : List (Option Owned)) (number first last at end : ℕ)
    (old mid new : ArrayView) (refusal : Refusal) → end ≤ last → (still → IsTrueTo mid.panel mid.history)
    → IsZeroing extents honest still dirty owners number first last at old mid → EndsZeroing still extents owners number at end mid new refusal
    → ChangesList honest (last - first) (IsPartlyZero extents owners number first last) (IsZeroed extents dirty owners number first last) old new
    (Err refusal)
zeroing_ends extents honest still dirty owners number first last at end old mid new refusal within true_to zeroing ends =
    zeroing_refused extents honest still dirty owners number first last ends.from (ends.upto - ends.from) (zero_blocks (ends.upto - ends.from)) old ends.mid new
    refl (omega (arith, ends.some, ends.most, within)) (omega (arith, ends.some))
    (zeroing_in_turn extents honest still dirty owners number first last old (omega (arith, ends.some, ends.most, within)) true_to zeroing ends.before)
    (told_after still extents owners number true_to ends.before) refusal ends.ends.changes

-- what is honest after them is so before
pub zeroing_honest : (extents : ExtentLayout) (honest still then : Type 0) (dirty : List Bool) (owners : List (Option Owned)) (number first last at : ℕ)
    (old now : ArrayView) → (still → then) → (then → still) → IsZeroing extents honest still dirty owners number first last at old now
    → IsZeroing extents honest then dirty owners number first last at old now
zeroing_honest extents honest still then dirty owners number first last at old now forth back zeroing = record {
  forth = λ is. forth (zeroing.forth is);
  back = λ is. zeroing.back (back is);
  least = zeroing.least;
  most = zeroing.most;
  changes = zeroing.changes;
}

-- the set is the same after all
pub zeroes_geometry : (honest : Type 0) (extents : ExtentLayout) (owners : List (Option Owned)) (number at end : ℕ) (old new : ArrayView) (answer : Answer)
    → ZeroesInTurn honest extents owners number at end old new answer → new.table.geometry ≡ old.table.geometry
zeroes_geometry honest extents owners number at end old new (Ok tt) zeroes = in_turn_geometry honest extents owners number zeroes
zeroes_geometry honest extents owners number at end old new (Err refusal) zeroes =
    zeroes.ends.changes.goes_on.not_older.same_geometry ∙ in_turn_geometry honest extents owners number zeroes.before
