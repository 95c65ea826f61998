-- The run up to a crash, from the entries of the log, and the images of a choice.
use Rattle.std.proofs.Common.{◌≡◌, ◌≢◌, ◌⊎◌, inl, inr, ◌≤◌, ◌<◌, ◌+◌, ℕ, zero, suc, Bool, true, false, cond, All, List, [], ◌∷◌, ◌++◌, length, get_or, take}
use Rattle.std.proofs.Common.{Option, Some, None, refl, sym, ◌∙◌, ap, subst, zero-add, arith, ◌==◌, ◌&&◌}
use Rattle.std.specs.Prelude.{nat_lt, if◌then◌else◌, slice_set, count_by}
use Rattle.std.specs.List.{AllWithin}
use Rattle.std.specs.List.Sorted.{IsPartitionPoint, IsNonDecreasingBy}
use Rattle.std.proofs.lemmas.Bool.{cases_eq, cases_lt, eq-eqb, eqb-true, false≢true}
use Rattle.std.proofs.lemmas.Bool.Decides.{nat_tests}
use Rattle.std.proofs.lemmas.List.{length-append, get_or_past}
use Rattle.std.proofs.lemmas.List.Elements.{All-push}
use Rattle.sector_model.specs.declared.choice.Choice.{Choice}
use Rattle.sector_model.specs.declared.choice.Choice.TheVariants.{Oldest, Newest, Mixed}
use Rattle.sector_model.specs.declared.memory.Entry.{Entry}
use Rattle.sector_model.specs.declared.event.Event.{Event}
use Rattle.sector_model.specs.declared.event.Event.TheVariants.{Quiet, Wrote, Lost, Flushed, DeviceFailed}
use Rattle.sector_model.specs.History.{History, Began, After, Bytes, Slots, MayHold, SlotMayHold, MayLeave, seen, disk_of, sector_of, start_of, calls_of}
use Rattle.sector_model.specs.History.{cut_at}
use Rattle.sector_model.specs.Candidates.{logged, candidates, number_taken, taken, IsTaken, IsImageOf}
use Rattle.sector_model.specs.Memory.{Disk, slots_of, run_of, run_on, event_of, log_before, IsInOrder, is_answered}
use Rattle.sector_model.specs.MemoryLaw.{length-seen, start-run, calls-run}
use Rattle.sector_model.proofs.Copies.{le_or_lt, slots_past}
use Rattle.sector_model.proofs.Replay.{eqb_self, eqb_other, IsEarlier}
use Rattle.sector_model.proofs.Runs.{run_on-append, logged_on}
use Rattle.sector_model.proofs.Steps.{may_hold_seen, absent_down}

-- the log in order

lt_true : (a b : ℕ) → a < b → nat_lt a b ≡ true
lt_true a b lt = grind (arith, nat_tests)

lt_false : (a b : ℕ) → b ≤ a → nat_lt a b ≡ false
lt_false a b le = grind (arith, nat_tests)

-- the same by recursion: none of the entries is of a call before this one
abbrev OrderFrom : ℕ → List Entry → Type 0
OrderFrom first [] = Unit {0}
OrderFrom first (entry ∷ log) = (first ≤ entry.call) × OrderFrom (entry.call + 1) log

order_from : (first : ℕ) (log : List Entry) → IsInOrder log → All (λ (entry : Entry). first ≤ entry.call) log → OrderFrom first log
order_from first [] order least = tt
order_from first (entry ∷ log) order least = (
  least 0 entry (omega arith),
  order_from (entry.call + 1) log (λ i j d lt within. order (suc i) (suc j) d (omega arith) (omega arith))
      (λ k d within. let later : entry.call < (get_or log k d).call = order 0 (suc k) d (omega arith) (omega arith) in omega arith),
)

-- all entries are of later calls
none_now : (first : ℕ) (log : List Entry) (n : ℕ) → OrderFrom first log → n < first → event_of log n ≡ Quiet
none_now first [] n order before = refl
none_now first (entry ∷ log) n order before =
    ap (λ (b : Bool). cond b entry.event (event_of log n)) (eqb_other n entry.call (λ same. absurd (omega (arith, same, order.0))))
    ∙ none_now (entry.call + 1) log n order.1 (omega (arith, order.0))

none_before : (first : ℕ) (log : List Entry) (n : ℕ) → OrderFrom first log → n ≤ first → log_before n log ≡ []
none_before first [] n order before = refl
none_before first (entry ∷ log) n order before = ap (λ (b : Bool). cond b (entry ∷ log_before n log) []) (lt_false entry.call n (omega (arith, order.0)))

-- what one call more adds to the entries
abbrev Adds : List Entry → ℕ → Type 0
Adds log n =
    ((event_of log n ≡ Quiet) × (log_before (suc n) log ≡ log_before n log))
    ⊎ ((entry : Entry) × (event_of log n ≡ entry.event) × (log_before (suc n) log ≡ log_before n log ++ entry ∷ []))

adds_after : (entry : Entry) (log : List Entry) (n : ℕ) → entry.call < n → Adds log n → Adds (entry ∷ log) n
adds_after entry log n before adds =
    let event : event_of (entry ∷ log) n ≡ event_of log n =
    ap (λ (b : Bool). cond b entry.event (event_of log n)) (eqb_other n entry.call (λ same. absurd (omega (arith, same)))) in
    let now : log_before n (entry ∷ log) ≡ entry ∷ log_before n log = ap (λ (b : Bool). cond b (entry ∷ log_before n log) []) (lt_true entry.call n before) in
    let next : log_before (suc n) (entry ∷ log) ≡ entry ∷ log_before (suc n) log =
    ap (λ (b : Bool). cond b (entry ∷ log_before (suc n) log) []) (lt_true entry.call (suc n) (omega arith)) in
    elim adds [
      | inl quiet ↦ inl (event ∙ quiet.0, next ∙ ap (λ (l : List Entry). entry ∷ l) quiet.1 ∙ sym now)
      | inr some ↦ inr (some.0, event ∙ some.1, next ∙ ap (λ (l : List Entry). entry ∷ l) some.2 ∙ sym (ap (λ (l : List Entry). l ++ some.0 ∷ []) now))
    ]

adds_in_order : (first : ℕ) (log : List Entry) (n : ℕ) → OrderFrom first log → Adds log n
adds_in_order first [] n order = inl (refl, refl)
adds_in_order first (entry ∷ log) n order = elim (cases_lt entry.call n) [
  | inl before ↦ adds_after entry log n before (adds_in_order (entry.call + 1) log n order.1)
  | inr from ↦ elim (cases_eq n entry.call) [
    | inl same ↦ inr (
      entry,
      ap (λ (b : Bool). cond b entry.event (event_of log n)) (ap (λ (k : ℕ). n == k) (sym same) ∙ eqb_self n),
      ap (λ (b : Bool). cond b (entry ∷ log_before (suc n) log) []) (lt_true entry.call (suc n) (omega arith))
          ∙ ap (λ (l : List Entry). entry ∷ l) (none_before (entry.call + 1) log (suc n) order.1 (omega arith))
          ∙ sym (ap (λ (b : Bool). (cond b (entry ∷ log_before n log) []) ++ entry ∷ []) (lt_false entry.call n (omega arith))),
    )
    | inr other ↦ inl (
      ap (λ (b : Bool). cond b entry.event (event_of log n)) (eqb_other n entry.call other) ∙ none_now (entry.call + 1) log n order.1 (omega arith),
      ap (λ (b : Bool). cond b (entry ∷ log_before (suc n) log) []) (lt_false entry.call (suc n) (omega arith))
          ∙ sym (ap (λ (b : Bool). cond b (entry ∷ log_before n log) []) (lt_false entry.call n (omega arith))),
    )
  ]
]

-- runs that a crash can't tell apart

pub record IsAlike (h k : History) : Type 0 where
  pub candidates : (room d a : ℕ) → candidates room h d a ≡ candidates room k d a
  pub seen : (d : ℕ) → seen h d ≡ seen k d
  pub logged : logged h ≡ logged k

alike_quiet : (h k : History) → IsAlike h k → IsAlike (After Quiet h) k
alike_quiet h k alike = record { candidates = alike.candidates; seen = alike.seen; logged = alike.logged }

alike_event : (e : Event) (h k : History) → IsAlike h k → IsAlike (After e h) (After e k)
alike_event Quiet h k alike = record { candidates = alike.candidates; seen = alike.seen; logged = alike.logged }
alike_event (Wrote device at value) h k alike = record {
  candidates = λ room d a. ap (λ (l : List Bytes). if d == device && a == at then l ++ value ∷ [] else l) (alike.candidates room d a);
  seen = λ d. ap (λ (l : List Bytes). if d == device then slice_set l at value else l) (alike.seen d);
  logged = ap (λ (n : ℕ). n + 1) alike.logged;
}
alike_event (Lost device at value) h k alike = record {
  candidates = λ room d a. ap (λ (n : ℕ). if d == device && a == at && nat_lt n room then candidates room h d a ++ value ∷ [] else candidates room h d a)
      alike.logged
      ∙ ap (λ (l : List Bytes). if d == device && a == at && nat_lt (logged k) room then l ++ value ∷ [] else l) (alike.candidates room d a);
  seen = alike.seen;
  logged = alike.logged;
}
alike_event (Flushed device) h k alike = record {
  candidates = λ room d a. ap (λ (s : List Bytes). if d == device then sector_of s a ∷ [] else candidates room h d a) (alike.seen d)
      ∙ ap (λ (l : List Bytes). if d == device then sector_of (seen k d) a ∷ [] else l) (alike.candidates room d a);
  seen = alike.seen;
  logged = ap (λ (n : ℕ). n + 1) alike.logged;
}
alike_event (DeviceFailed device) h k alike = record { candidates = alike.candidates; seen = alike.seen; logged = alike.logged }

alike_on : (start : Slots) (log : List Entry) → OrderFrom 0 log → (n : ℕ) → IsAlike (run_of start log n) (run_on (Began start) (log_before n log))
alike_on start log order zero = subst (λ (l : List Entry). IsAlike (Began start) (run_on (Began start) l)) (sym (none_before 0 log 0 order (omega arith)))
    record { candidates = λ room d a. refl; seen = λ d. refl; logged = refl }
alike_on start log order (suc n) =
    let h = run_of start log n in
    let k = run_on (Began start) (log_before n log) in
    let before = alike_on start log order n in
    elim (adds_in_order 0 log n order) [
      | inl quiet ↦ subst (λ (l : List Entry). IsAlike (After (event_of log n) h) (run_on (Began start) l)) (sym quiet.1)
          (subst (λ (e : Event). IsAlike (After e h) k) (sym quiet.0) (alike_quiet h k before))
      | inr some ↦ subst (λ (l : List Entry). IsAlike (After (event_of log n) h) (run_on (Began start) l)) (sym some.2)
          (subst (λ (m : History). IsAlike (After (event_of log n) h) m) (sym (run_on-append (Began start) (log_before n log) (some.0 ∷ [])))
          (subst (λ (e : Event). IsAlike (After e h) (After some.0.event k)) (sym some.1) (alike_event some.0.event h k before)))
    ]

-- the run after n calls, and the entries of those calls
pub run_alike : (start : Slots) (log : List Entry) → IsInOrder log → (n : ℕ) → IsAlike (run_of start log n) (run_on (Began start) (log_before n log))
run_alike start log order n = alike_on start log (order_from 0 log order (λ k d within. omega arith)) n

-- the entries before a call, by their number

before_take : (call n : ℕ) (log : List Entry) → n ≤ length log → AllWithin (λ (entry : Entry). nat_lt entry.call call ≡ true) log 0 n
    → AllWithin (λ (entry : Entry). nat_lt entry.call call ≡ false) log n (length log)
    → take n log ≡ log_before call log
before_take call zero [] within front back = refl
before_take call (suc n) [] within front back = refl
before_take call zero (entry ∷ log) within front back =
    sym (ap (λ (b : Bool). cond b (entry ∷ log_before call log) []) (back 0 entry (omega arith) (omega arith)))
before_take call (suc n) (entry ∷ log) within front back =
    ap (λ (l : List Entry). entry ∷ l) (before_take call n log (omega arith) (λ k d low lt. front (suc k) d (omega arith) (omega arith))
    (λ k d low lt. back (suc k) d (omega arith) (omega arith)))
    ∙ sym (ap (λ (b : Bool). cond b (entry ∷ log_before call log) []) (front 0 entry (omega arith) (omega arith)))

pub part_before : (call n : ℕ) (log : List Entry) → n ≤ length log
    → IsPartitionPoint (λ (entry : Entry). nat_lt entry.call call ≡ true) (λ (entry : Entry). nat_lt entry.call call ≡ false) log n
    → take n log ≡ log_before call log
part_before call n log within point = before_take call n log within point.0 point.1

-- the calls never fall
pub never_fall : (log : List Entry) → IsInOrder log → IsNonDecreasingBy (λ (entry : Entry). entry.call) log
never_fall log order = λ i j d le within. elim (cases_lt i j) [
  | inl lt ↦ let before : (get_or log i d).call < (get_or log j d).call = order i j d lt within in omega arith
  | inr ge ↦ let same : i ≡ j = omega arith in omega (arith, ap (λ (k : ℕ). (get_or log k d).call) same)
]

-- all entries are of calls that were made
pub all_before : (n : ℕ) (log : List Entry) → All (IsEarlier n) log → log_before n log ≡ log
all_before n [] early = refl
all_before n (entry ∷ log) early = ap (λ (b : Bool). cond b (entry ∷ log_before n log) []) (lt_true entry.call n (early 0 entry (omega arith)))
    ∙ ap (λ (l : List Entry). entry ∷ l) (all_before n log (λ k d within. early (suc k) d (omega arith)))

-- the answered writes and flushes of a run are those of its log
pub logged_of : (start : Slots) (log : List Entry) (n : ℕ) → IsInOrder log → All (IsEarlier n) log
    → logged (run_of start log n) ≡ count_by (λ (entry : Entry). is_answered entry.event) log
logged_of start log n order early =
    (run_alike start log order n).logged ∙ ap (λ (l : List Entry). logged (run_on (Began start) l)) (all_before n log early) ∙ logged_on (Began start) log
    ∙ zero-add (count_by (λ (entry : Entry). is_answered entry.event) log)

-- the run as it was after its first calls
pub cut-run : (t n : ℕ) (start : Slots) (log : List Entry) → t ≤ n → cut_at t (run_of start log n) ≡ run_of start log t
cut-run zero zero start log le = refl
cut-run (suc t) zero start log le = absurd (omega arith)
cut-run t (suc n) start log le = elim (cases_lt t (suc n)) [
  | inl lt ↦ ap (λ (b : Bool). cond b (cut_at t (run_of start log n)) (run_of start log (suc n)))
      (lt_true t (calls_of (run_of start log n) + 1) (omega (arith, calls-run start log n))) ∙ cut-run t n start log (omega arith)
  | inr ge ↦ let same : t ≡ suc n = omega arith in
      ap (λ (b : Bool). cond b (cut_at t (run_of start log n)) (run_of start log (suc n)))
      (lt_false t (calls_of (run_of start log n) + 1) (omega (arith, calls-run start log n))) ∙ ap (run_of start log) (sym same)
]

-- the images of a choice

is_taken : (choice : Choice) (room : ℕ) (h k : History) (d : ℕ) (began now : Option (List Bytes)) → IsAlike h k → IsTaken choice room k d began now
    → IsTaken choice room h d began now
is_taken choice room h k d None now alike is = is
is_taken choice room h k d (Some began) None alike is = is
is_taken choice room h k d (Some began) (Some disk) alike is =
    (is.0, λ a within. is.1 a within ∙ sym (ap (λ (l : List Bytes). get_or l (number_taken choice d a (length l)) []) (alike.candidates room d a)))

-- each of the slots is that of the choice, after the entries of the calls before the crash
abbrev AreTaken : Choice → (room : ℕ) → (start : List (Option Disk)) → List Entry → (image : List (Option Disk)) → Type 0
AreTaken choice room start log image = (d : ℕ) → d < length start
    → IsTaken choice room (run_on (Began (slots_of start)) log) d (slots_of start d) (slots_of image d)

image_at : (choice : Choice) (room call calls : ℕ) (start image : List (Option Disk)) (log part : List Entry) → IsInOrder log → call ≤ calls
    → part ≡ log_before call log → length image ≡ length start
    → AreTaken choice room start part image → IsImageOf choice room (cut_at call (run_of (slots_of start) log calls)) (slots_of image)
image_at choice room call calls start image log part order le part_is as_many each = record {
  each = λ d. elim (le_or_lt (length start) d) [
    | inl past ↦ slot d (subst (λ (began : Option (List Bytes)). IsTaken choice room (run_on (Began (slots_of start)) part) d began (slots_of image d))
        (sym (slots_past start d past)) (slots_past image d (omega arith)))
    | inr within ↦ slot d (each d within)
  ];
}
  where
    slot : (d : ℕ) → IsTaken choice room (run_on (Began (slots_of start)) part) d (slots_of start d) (slots_of image d)
        → IsTaken choice room (cut_at call (run_of (slots_of start) log calls)) d (start_of (cut_at call (run_of (slots_of start) log calls)) d)
        (slots_of image d)
    slot d is =
        let h = run_of (slots_of start) log call in
        subst (λ (m : History). IsTaken choice room m d (start_of m d) (slots_of image d)) (sym (cut-run call calls (slots_of start) log le))
        (subst (λ (slots : Slots). IsTaken choice room h d (slots d) (slots_of image d)) (sym (start-run (slots_of start) log call))
        (is_taken choice room h (run_on (Began (slots_of start)) part) d (slots_of start d) (slots_of image d)
        (subst (λ (l : List Entry). IsAlike h (run_on (Began (slots_of start)) l)) (sym part_is) (run_alike (slots_of start) log order call)) is))

-- the image of a choice after a run of a bank in memory
pub image_of : (choice : Choice) (room count call calls : ℕ) (start began image : List (Option Disk)) (log part : List Entry) → IsInOrder log
    → All (IsEarlier calls) log → call ≤ calls → began ≡ start → part ≡ log_before call log
    → count ≡ count_by (λ (entry : Entry). is_answered entry.event) log → length image ≡ length began
    → ((d : ℕ) → d < length began → IsTaken choice (room + count) (run_on (Began (slots_of began)) part) d (slots_of began d) (slots_of image d))
    → IsImageOf choice (room + logged (run_of (slots_of start) log calls)) (cut_at call (run_of (slots_of start) log calls)) (slots_of image)
image_of choice room count call calls start began image log part order early le start_is part_is count_is as_many each =
    image_at choice (room + logged (run_of (slots_of start) log calls)) call calls start image log part order le part_is (as_many ∙ ap length start_is)
    (subst (λ (n : ℕ). AreTaken choice (room + n) start part image) (count_is ∙ sym (logged_of (slots_of start) log calls order early))
    (subst (λ (s : List (Option Disk)). AreTaken choice (room + count) s part image) start_is each))

-- what a choice takes is what a crash may leave

and_true : (b c : Bool) → (b && c) ≡ true → (b ≡ true) × (c ≡ true)
and_true true c is = (refl, is)
and_true false c is = absurd (cc)

all_one : (P : Bytes → Type 0) (v : Bytes) → P v → All P (v ∷ [])
all_one P v is zero e within = is
all_one P v is (suc k) e within = absurd (omega arith)

-- one value more, if the test says so
all_if : (P Q : Bytes → Type 0) (b : Bool) (l : List Bytes) (v : Bytes) → All Q l → ((w : Bytes) → Q w → P w) → (b ≡ true → P v)
    → All P (if b then l ++ v ∷ [] else l)
all_if P Q true l v all more is = All-push P l v (λ k e within. more (get_or l k e) (all k e within)) (is refl)
all_if P Q false l v all more is = λ k e within. more (get_or l k e) (all k e within)

candidates_may : (room : ℕ) (h : History) (d a : ℕ) → start_of h d ≢ None → All (MayHold h d a) (candidates room h d a)
candidates_may room (Began start) d a there = all_one (MayHold (Began start) d a) (sector_of (disk_of (start d)) a) (may_hold_seen (Began start) d a there)
candidates_may room (After Quiet h) d a there = candidates_may room h d a there
candidates_may room (After (Wrote device at value) h) d a there =
    all_if (MayHold (After (Wrote device at value) h) d a) (MayHold h d a) (d == device && a == at) (candidates room h d a) value
    (candidates_may room h d a there) (λ w may. inr may)
    (λ is. let both = and_true (d == device) (a == at) is in inl (eqb-true d device both.0, eqb-true a at both.1, refl))
candidates_may room (After (Lost device at value) h) d a there =
    all_if (MayHold (After (Lost device at value) h) d a) (MayHold h d a) (d == device && a == at && nat_lt (logged h) room) (candidates room h d a) value
    (candidates_may room h d a there) (λ w may. inr may)
    (λ is. let both = and_true (d == device) (a == at) (and_true (d == device && a == at) (nat_lt (logged h) room) is).0 in inl
    (eqb-true d device both.0, eqb-true a at both.1, refl))
candidates_may room (After (Flushed device) h) d a there = by_device (d == device) refl (candidates_may room h d a there)
  where
    by_device : (b : Bool) → (d == device) ≡ b → All (MayHold h d a) (candidates room h d a)
        → All (λ v. MayHold h d a v × (d ≡ device → v ≡ sector_of (seen h d) a)) (if b then sector_of (seen h d) a ∷ [] else candidates room h d a)
    by_device true is all = all_one (λ v. MayHold h d a v × (d ≡ device → v ≡ sector_of (seen h d) a)) (sector_of (seen h d) a)
        (may_hold_seen h d a there, λ same. refl)
    by_device false is all = λ k e within. (all k e within, λ same. absurd (false≢true (sym is ∙ eq-eqb d device same)))
candidates_may room (After (DeviceFailed device) h) d a there = candidates_may room h d a there

some_if : (b : Bool) (l : List Bytes) (v : Bytes) → 0 < length l → 0 < length (if b then l ++ v ∷ [] else l)
some_if true l v some = omega (arith, length-append l (v ∷ []))
some_if false l v some = some

flush_if : (b : Bool) (l : List Bytes) (v : Bytes) → 0 < length l → 0 < length (if b then v ∷ [] else l)
flush_if true l v some = omega arith
flush_if false l v some = some

some_candidates : (room : ℕ) (h : History) (d a : ℕ) → 0 < length (candidates room h d a)
some_candidates room (Began start) d a = omega arith
some_candidates room (After Quiet h) d a = some_candidates room h d a
some_candidates room (After (Wrote device at value) h) d a = some_if (d == device && a == at) (candidates room h d a) value (some_candidates room h d a)
some_candidates room (After (Lost device at value) h) d a =
    some_if (d == device && a == at && nat_lt (logged h) room) (candidates room h d a) value (some_candidates room h d a)
some_candidates room (After (Flushed device) h) d a = flush_if (d == device) (candidates room h d a) (sector_of (seen h d) a) (some_candidates room h d a)
some_candidates room (After (DeviceFailed device) h) d a = some_candidates room h d a

number_within : (choice : Choice) (d a count : ℕ) → 0 < count → number_taken choice d a count < count
number_within Oldest d a count some = some
number_within Newest d a count some = omega arith
number_within (Mixed m) d a count some = omega arith

taken_may : (choice : Choice) (room : ℕ) (h : History) (d a : ℕ) → start_of h d ≢ None → MayHold h d a (taken choice room h d a)
taken_may choice room h d a there =
    candidates_may room h d a there (number_taken choice d a (length (candidates room h d a))) []
    (number_within choice d a (length (candidates room h d a)) (some_candidates room h d a))

-- after the last sector of a device
past_may : (h : History) (d a : ℕ) (disk : List Bytes) → start_of h d ≢ None → length disk ≡ length (disk_of (start_of h d)) → length disk ≤ a
    → MayHold h d a (sector_of disk a)
past_may h d a disk there as_many past =
    subst (MayHold h d a) (get_or_past (seen h d) a [] (omega (arith, length-seen h d)) ∙ sym (get_or_past disk a [] past)) (may_hold_seen h d a there)

slot_allowed : (choice : Choice) (room : ℕ) (h : History) (d : ℕ) (began now : Option (List Bytes)) → start_of h d ≡ began → IsTaken choice room h d began now
    → SlotMayHold h d now
slot_allowed choice room h d None now starts is = subst (SlotMayHold h d) (sym is) (absent_down h d starts)
slot_allowed choice room h d (Some began) None starts is = absurd is
slot_allowed choice room h d (Some began) (Some disk) starts is =
    let there : start_of h d ≢ None = λ none. differ (sym starts ∙ none) in
    let as_many : length disk ≡ length (disk_of (start_of h d)) = is.0 ∙ sym (ap (λ (slot : Option (List Bytes)). length (disk_of slot)) starts) in (
      there,
      as_many,
      λ a. elim (le_or_lt (length began) a) [
        | inl past ↦ past_may h d a disk there as_many (omega (arith, is.0, past))
        | inr within ↦ subst (MayHold h d a) (sym (is.1 a within)) (taken_may choice room h d a there)
      ],
    )
  where
    differ : Some began ≡ None → ⊥
    differ same = cc

pub image_allowed : (choice : Choice) (room : ℕ) (h : History) (image : Slots) → IsImageOf choice room h image → MayLeave h image
image_allowed choice room h image is = λ d. slot_allowed choice room h d (start_of h d) (image d) refl (is.each d)
