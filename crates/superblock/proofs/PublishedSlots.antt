-- The slots that get a table's superblock, and what stands in them once they are written and flushed.
use Rattle.std.proofs.Common.{◌≡◌, ◌≢◌, ◌⊎◌, inl, inr, ℕ, zero, suc, ◌<◌, ◌≤◌, Bool, true, false, cond, List, [], ◌∷◌, ◌++◌, length, Option, Some, None, refl}
use Rattle.std.proofs.Common.{sym, ◌∙◌, ap, subst, arith, ◌&&◌, not}
use Rattle.std.specs.Prelude.{Contains, filter, map}
use Rattle.std.specs.List.{range_with_len}
use Rattle.std.proofs.lemmas.Bool.{and_from, and_parts, cases_eq, cond-true, eqb-false, not-true}
use Rattle.std.proofs.lemmas.List.Elements.{All-contains, All-contains_itself, All-filter, Contains-append_cases, filter_passes}
use Rattle.std.proofs.lemmas.List.FromFn.{get_or-range_with_len, length-range_with_len}
use Rattle.sector_model.specs.declared.event.Event.TheVariants.{Wrote, Flushed}
use Rattle.sector_model.specs.Calls.{Call, Flush, Write, after_all}
use Rattle.sector_model.specs.History.{After, Bytes, History, is_down, sector_of, seen}
use Rattle.sector_model.specs.Moments.{Contents, LeavesWithin}
use Rattle.sector_model.proofs.Replay.{eqb_other}
use Rattle.sector_model.proofs.Sequences.{AllKeep, AllUp, after_both, keep_both, kept_within, seen_elsewhere, seen_written, size_written}
use Rattle.superblock.specs.declared.state.State.{State}
use Rattle.superblock.specs.declared.state.State.TheVariants.{InSync, Missing, Rebuilding}
use Rattle.superblock.specs.declared.table.Table.{Table}
use Rattle.superblock.specs.NextTables.{slots_of}
use Rattle.superblock.specs.Publishing.{IsSafeAt, first_slots, is_last, last_slots, place_of, written_and_flushed}
use Rattle.superblock.specs.States.{is_in_sync}
use Rattle.superblock.specs.Tables.{state_at}
use Rattle.superblock.proofs.PublishSteps.{GetsIt, has_first, has_later}

-- elements of filtered lists and of ranges

filter_keeps : (p : ℕ → Bool) (xs : List ℕ) (x : ℕ) → Contains xs x → p x ≡ true → Contains (filter p xs) x
filter_keeps p [] x (k, below, is) pass = absurd (omega (arith, below))
filter_keeps p (y ∷ ys) x (zero, below, is) pass =
    subst (λ (l : List ℕ). Contains l x) (sym (cond-true (p y) (y ∷ filter p ys) (filter p ys) (ap p is ∙ pass)))
    (subst (λ (z : ℕ). Contains (y ∷ filter p ys) z) is (has_first y (filter p ys)))
filter_keeps p (y ∷ ys) x (suc k, below, is) pass = by_case (p y) (filter_keeps p ys x (k, omega (arith, below), is) pass)
  where
    by_case : (b : Bool) → Contains (filter p ys) x → Contains (cond b (y ∷ filter p ys) (filter p ys)) x
    by_case true later = has_later y (filter p ys) x later
    by_case false later = later

filter_passed : (p : ℕ → Bool) (xs : List ℕ) (x : ℕ) → Contains (filter p xs) x → Contains xs x × (p x ≡ true)
filter_passed p xs x has = (
  All-contains (Contains xs) (filter p xs) x (All-filter p (Contains xs) xs (All-contains_itself xs)) has,
  All-contains (λ y. p y ≡ true) (filter p xs) x (filter_passes p xs) has,
)

in_range : (n x : ℕ) → Contains (range_with_len 0 n) x → x < n
in_range n x (k, below, is) =
    let lt : k < n = omega (arith, below, length-range_with_len 0 n) in
    omega (arith, is, lt, get_or-range_with_len 0 n k x lt)

range_has : (n x : ℕ) → x < n → Contains (range_with_len 0 n) x
range_has n x lt = (x, omega (arith, lt, length-range_with_len 0 n), get_or-range_with_len 0 n x x lt ∙ omega arith)

-- a slot of the first ones
pub record IsFirst (table : Table) (last : Option ℕ) (slot : ℕ) : Type 0 where
  pub of_set : slot < slots_of table
  pub in_sync : state_at table.states slot ≡ InSync
  pub not_last : last ≢ Some slot

sync_is : (state : State) → is_in_sync state ≡ true → state ≡ InSync
sync_is Missing is = absurd (cc)
sync_is InSync is = refl
sync_is Rebuilding is = absurd (cc)

last_apart : (last : Option ℕ) (slot : ℕ) → is_last last slot ≡ false → last ≢ Some slot
last_apart None slot is same = absurd (cc)
last_apart (Some other) slot is same = let one : other ≡ slot = cc in eqb-false other slot is one

apart_last : (last : Option ℕ) (slot : ℕ) → last ≢ Some slot → is_last last slot ≡ false
apart_last None slot apart = refl
apart_last (Some other) slot apart = eqb_other other slot (λ same. apart (ap (λ (n : ℕ). Some n) same))

pub first_is : (table : Table) (last : Option ℕ) (slot : ℕ) → Contains (first_slots table last) slot → IsFirst table last slot
first_is table last slot has =
    let passed = filter_passed (λ s. is_in_sync (state_at table.states s) && not (is_last last s)) (range_with_len 0 (slots_of table)) slot has in
    let parts = and_parts (is_in_sync (state_at table.states slot)) (not (is_last last slot)) passed.1 in
    record {
      of_set = in_range (slots_of table) slot passed.0;
      in_sync = sync_is (state_at table.states slot) parts.0;
      not_last = last_apart last slot (not-true (is_last last slot) parts.1);
    }

pub first_has : (table : Table) (last : Option ℕ) (slot : ℕ) → IsFirst table last slot → Contains (first_slots table last) slot
first_has table last slot is =
    filter_keeps (λ s. is_in_sync (state_at table.states s) && not (is_last last s)) (range_with_len 0 (slots_of table)) slot
    (range_has (slots_of table) slot is.of_set)
    (and_from (is_in_sync (state_at table.states slot)) (not (is_last last slot)) (ap is_in_sync is.in_sync) (ap not (apart_last last slot is.not_last)))

pub last_is : (last : Option ℕ) (slot : ℕ) → Contains (last_slots last) slot → last ≡ Some slot
last_is None slot (k, below, is) = absurd (omega (arith, below))
last_is (Some other) slot (zero, below, is) = ap (λ (n : ℕ). Some n) is
last_is (Some other) slot (suc k, below, is) = absurd (omega (arith, below))

differ : InSync ≡ Missing → ⊥
differ is = cc

-- a slot that gets the superblock is one of the set's, and the table doesn't call it missing
pub record IsGiven (table : Table) (slot : ℕ) : Type 0 where
  pub of_set : slot < slots_of table
  pub there : state_at table.states slot ≢ Missing

pub gets_given : (table : Table) (last : Option ℕ) → ((slot : ℕ) → last ≡ Some slot → slot < slots_of table)
    → ((slot : ℕ) → last ≡ Some slot → state_at table.states slot ≢ Missing)
    → (slot : ℕ) → GetsIt table last slot → IsGiven table slot
gets_given table last in_set there slot gets = elim (Contains-append_cases (first_slots table last) (last_slots last) slot gets) [
  | inl has ↦ let is = first_is table last slot has in record { of_set = is.of_set; there = λ missing. differ (sym is.in_sync ∙ missing) }
  | inr has ↦ record { of_set = in_set slot (last_is last slot has); there = there slot (last_is last slot has) }
]

-- the lost slot gets it as the last one only
pub lost_gets : (table : Table) (last : Option ℕ) (lost : ℕ) → (last ≡ Some lost) ⊎ (state_at table.states lost ≡ Missing) → GetsIt table last lost
    → last ≡ Some lost
lost_gets table last lost (inl is) gets = is
lost_gets table last lost (inr missing) gets = elim (Contains-append_cases (first_slots table last) (last_slots last) lost gets) [
  | inl has ↦ absurd (differ (sym (first_is table last lost has).in_sync ∙ missing))
  | inr has ↦ last_is last lost has
]

-- another slot is one of the first: two others are not both out

one_of : (table : Table) (last : Option ℕ) (a b : ℕ) → a < slots_of table → b < slots_of table → a ≢ b → last ≢ Some a → last ≢ Some b
    → IsFirst table last a ⊎ IsFirst table last b
one_of table last a b below below' apart not_a not_b = by_states (state_at table.states a) (state_at table.states b) refl refl
  where
    out : (slot : ℕ) (state : State) → state_at table.states slot ≡ state → state ≢ InSync → state_at table.states slot ≢ InSync
    out slot state is other same = other (sym is ∙ same)

    by_states : (s t : State) → state_at table.states a ≡ s → state_at table.states b ≡ t → IsFirst table last a ⊎ IsFirst table last b
    by_states InSync t is_a is_b = inl record { of_set = below; in_sync = is_a; not_last = not_a }
    by_states s InSync is_a is_b = inr record { of_set = below'; in_sync = is_b; not_last = not_b }
    by_states Missing Missing is_a is_b = absurd (apart (table.allowed.one_out a b below below' (out a Missing is_a (λ e. cc)) (out b Missing is_b (λ e. cc))))
    by_states Missing Rebuilding is_a is_b = absurd (apart
        (table.allowed.one_out a b below below' (out a Missing is_a (λ e. cc)) (out b Rebuilding is_b (λ e. cc))))
    by_states Rebuilding Missing is_a is_b = absurd (apart
        (table.allowed.one_out a b below below' (out a Rebuilding is_a (λ e. cc)) (out b Missing is_b (λ e. cc))))
    by_states Rebuilding Rebuilding is_a is_b = absurd
        (apart (table.allowed.one_out a b below below' (out a Rebuilding is_a (λ e. cc)) (out b Rebuilding is_b (λ e. cc))))

not_slot : (last : Option ℕ) (lost slot : ℕ) → last ≡ Some lost → lost ≢ slot → last ≢ Some slot
not_slot last lost slot is apart same = let one : lost ≡ slot = some_same lost slot (sym is ∙ same) in apart one
  where
    some_same : (a b : ℕ) → Some a ≡ Some b → a ≡ b
    some_same a b both = cc

-- where one comes last, there is another among the first
pub other_first : (table : Table) (last : Option ℕ) (lost : ℕ) → last ≡ Some lost → (slot : ℕ) × (slot ≢ lost) × Contains (first_slots table last) slot
other_first table last lost is = elim (cases_eq lost 0) [
  | inl zeroth ↦ either 1 2 (omega (arith, least)) (omega (arith, least)) (λ e. omega (arith, e)) (λ e. omega (arith, e, zeroth))
      (λ e. omega (arith, e, zeroth))
  | inr not_0 ↦ elim (cases_eq lost 1) [
    | inl first ↦ either 0 2 (omega (arith, least)) (omega (arith, least)) (λ e. omega (arith, e)) not_0 (λ e. omega (arith, e, first))
    | inr not_1 ↦ either 0 1 (omega (arith, least)) (omega (arith, least)) (λ e. omega (arith, e)) not_0 not_1
  ]
]
  where
    least : 3 ≤ slots_of table
    least = omega (arith, table.geometry.limits.members_least)

    found : (slot : ℕ) → IsFirst table last slot → (slot : ℕ) × (slot ≢ lost) × Contains (first_slots table last) slot
    found slot first = (slot, λ same. first.not_last (is ∙ ap (λ (n : ℕ). Some n) (sym same)), first_has table last slot first)

    either : (a b : ℕ) → a < slots_of table → b < slots_of table → a ≢ b → lost ≢ a → lost ≢ b → (slot : ℕ) × (slot ≢ lost)
        × Contains (first_slots table last) slot
    either a b below below' apart not_a not_b = elim (one_of table last a b below below' apart (not_slot last lost a is not_a)
        (not_slot last lost b is not_b)) [
          | inl first ↦ found a first
          | inr first ↦ found b first
        ]

-- after the writes and the flushes

module _ (table : Table) (sectors : ℕ → Bytes) where
  abbrev place : ℕ
  place = place_of table

  abbrev writes : List ℕ → List Call
  writes slots = map (λ slot. Write slot (place_of table) (sectors slot)) slots

  abbrev all_flushes : List ℕ → List Call
  all_flushes slots = map (λ slot. Flush slot) slots

  abbrev after_one : ℕ → History → History
  after_one x h = After (Wrote x (place_of table) (sectors x)) h

  seen_step : (x : ℕ) (h : History) (slot : ℕ) → place < length (seen h slot) → sector_of (seen h slot) place ≡ sectors slot
      → sector_of (seen (after_one x h) slot) place ≡ sectors slot
  seen_step x h slot room is = elim (cases_eq slot x) [
    | inl same ↦ subst (λ (k : ℕ). sector_of (seen (after_one k h) slot) place ≡ sectors slot) same (seen_written slot place (sectors slot) h room)
    | inr other ↦ seen_elsewhere x place (sectors x) h slot place (λ same. absurd (other same)) ∙ is
  ]

  seen_still : (slots : List ℕ) (h : History) (slot : ℕ) → place < length (seen h slot) → sector_of (seen h slot) place ≡ sectors slot
      → sector_of (seen (after_all (writes slots) h) slot) place ≡ sectors slot
  seen_still [] h slot room is = is
  seen_still (x ∷ slots) h slot room is = seen_still slots (after_one x h) slot (omega (arith, room, size_written x place (sectors x) h slot))
      (seen_step x h slot room is)

  seen_there : (slots : List ℕ) (h : History) (slot : ℕ) → Contains slots slot → place < length (seen h slot)
      → sector_of (seen (after_all (writes slots) h) slot) place ≡ sectors slot
  seen_there [] h slot (k, below, is) room = absurd (omega (arith, below))
  seen_there (x ∷ slots) h slot (zero, below, is) room =
      seen_still slots (after_one x h) slot (omega (arith, room, size_written x place (sectors x) h slot))
      (subst (λ (k : ℕ). sector_of (seen (after_one k h) slot) place ≡ sectors slot) (sym is) (seen_written slot place (sectors slot) h room))
  seen_there (x ∷ slots) h slot (suc k, below, is) room =
      seen_there slots (after_one x h) slot (k, omega (arith, below), is) (omega (arith, room, size_written x place (sectors x) h slot))

  safe_still : (slots : List ℕ) (h : History) (slot at : ℕ) (bytes : Bytes) → IsSafeAt h slot at bytes
      → IsSafeAt (after_all (all_flushes slots) h) slot at bytes
  safe_still [] h slot at bytes safe = safe
  safe_still (x ∷ slots) h slot at bytes safe = safe_still slots (After (Flushed x) h) slot at bytes (λ value may. safe value may.0)

  safe_flushed : (slots : List ℕ) (h : History) (slot at : ℕ) (bytes : Bytes) → Contains slots slot → sector_of (seen h slot) at ≡ bytes
      → IsSafeAt (after_all (all_flushes slots) h) slot at bytes
  safe_flushed [] h slot at bytes (k, below, is) reads = absurd (omega (arith, below))
  safe_flushed (x ∷ slots) h slot at bytes (zero, below, is) reads = safe_still slots (After (Flushed x) h) slot at bytes (λ value may. may.1 (sym is) ∙ reads)
  safe_flushed (x ∷ slots) h slot at bytes (suc k, below, is) reads = safe_flushed slots (After (Flushed x) h) slot at bytes (k, omega (arith, below), is) reads

  -- each slot that was written and flushed has the superblock
  pub phase_safe : (slots : List ℕ) (h : History) (slot : ℕ) → Contains slots slot → place < length (seen h slot)
      → IsSafeAt (after_all (written_and_flushed table sectors slots) h) slot place (sectors slot)
  phase_safe slots h slot has room =
      subst (λ (g : History). IsSafeAt g slot place (sectors slot)) (sym (after_both (writes slots) (all_flushes slots) h))
      (safe_flushed slots (after_all (writes slots) h) slot place (sectors slot) has (seen_there slots h slot has room))

  writes_within : (Q : Contents) (slots : List ℕ) → ((slot : ℕ) → Contains slots slot → Q slot place (sectors slot)) → AllKeep (LeavesWithin Q) (writes slots)
  writes_within Q [] only = tt
  writes_within Q (x ∷ slots) only = (
    kept_within Q (Write x place (sectors x)) (only x (has_first x slots)),
    writes_within Q slots (λ slot has. only slot (has_later x slots slot has)),
  )

  flushes_within : (Q : Contents) (slots : List ℕ) → AllKeep (LeavesWithin Q) (all_flushes slots)
  flushes_within Q [] = tt
  flushes_within Q (x ∷ slots) = (kept_within Q (Flush x) tt, flushes_within Q slots)

  -- what may stand in the sectors, the superblocks among it
  pub phase_within : (Q : Contents) (slots : List ℕ) → ((slot : ℕ) → Contains slots slot → Q slot place (sectors slot))
      → AllKeep (LeavesWithin Q) (written_and_flushed table sectors slots)
  phase_within Q slots only = keep_both (LeavesWithin Q) (writes slots) (all_flushes slots) (writes_within Q slots only) (flushes_within Q slots)

  -- the devices that are written were up
  pub phase_up : (slots : List ℕ) (rest : List Call) (h : History) → AllUp (writes slots ++ rest) h → (slot : ℕ) → Contains slots slot → is_down h slot ≡ false
  phase_up [] rest h up slot (k, below, is) = absurd (omega (arith, below))
  phase_up (x ∷ slots) rest h (up, others) slot (zero, below, is) = ap (is_down h) (sym is) ∙ up
  phase_up (x ∷ slots) rest h (up, others) slot (suc k, below, is) = phase_up slots rest h others slot (k, omega (arith, below), is)
