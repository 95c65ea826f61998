-- Runs that go on with the calls of entries.
use Rattle.std.proofs.Common.{◌≡◌, ◌≤◌, ◌<◌, ◌+◌, ◌-◌, ℕ, zero, suc, Bool, true, false, All, List, [], ◌∷◌, ◌++◌, length, get_or, take, drop, Some, refl, sym}
use Rattle.std.proofs.Common.{◌∙◌, ap, subst, add-one, append_assoc, arith, ◌==◌, ◌&&◌}
use Rattle.std.specs.Prelude.{nat_lt, if◌then◌else◌, count_by}
use Rattle.std.specs.List.{IsAfterLastMatch}
use Rattle.std.proofs.lemmas.Bool.Decides.{nat_tests}
use Rattle.std.proofs.lemmas.List.Recursion.{is_count_by}
use Rattle.std.proofs.lemmas.List.{take_more, take-append-drop, append-nil, get_or-drop, length-drop}
use Rattle.sector_model.specs.declared.choice.Choice.{Choice}
use Rattle.sector_model.specs.declared.memory.Entry.{Entry}
use Rattle.sector_model.specs.declared.event.Event.{Event}
use Rattle.sector_model.specs.declared.event.Event.TheVariants.{Quiet, Wrote, Lost, Flushed, DeviceFailed}
use Rattle.sector_model.specs.History.{History, Began, After, Bytes, Slots, seen, disk_of, sector_of}
use Rattle.sector_model.specs.Candidates.{logged, candidates, number_taken, taken}
use Rattle.sector_model.specs.Memory.{run_on, put_by, put_by_all, room_after, is_answered, written, all_written, flushes}
use Rattle.sector_model.proofs.Entries.{no_entry}

pub run_on-append : (h : History) (log more : List Entry) → run_on h (log ++ more) ≡ run_on (run_on h log) more
run_on-append h [] more = refl
run_on-append h (entry ∷ log) more = run_on-append (After entry.event h) log more

-- the entries before this one, and those from it on
pub run_on_parts : (h : History) (log : List Entry) (n : ℕ) → run_on h log ≡ run_on (run_on h (take n log)) (drop n log)
run_on_parts h log n = ap (run_on h) (sym (take-append-drop n log)) ∙ run_on-append h (take n log) (drop n log)

-- reads

seen_event : (e : Event) (h : History) (d : ℕ) → seen (After e h) d ≡ written e d (seen h d)
seen_event Quiet h d = refl
seen_event (Wrote device at value) h d = refl
seen_event (Lost device at value) h d = refl
seen_event (Flushed device) h d = refl
seen_event (DeviceFailed device) h d = refl

pub seen_on : (h : History) (log : List Entry) (d : ℕ) → seen (run_on h log) d ≡ all_written log d (seen h d)
seen_on h [] d = refl
seen_on h (entry ∷ log) d = seen_on (After entry.event h) log d ∙ ap (all_written log d) (seen_event entry.event h d)

-- the room of the log

logged_event : (e : Event) (h : History) → logged (After e h) ≡ (if is_answered e then logged h + 1 else logged h)
logged_event Quiet h = refl
logged_event (Wrote device at value) h = refl
logged_event (Lost device at value) h = refl
logged_event (Flushed device) h = refl
logged_event (DeviceFailed device) h = refl

-- how many entries took a place
places : List Entry → ℕ
places [] = 0
places (entry ∷ log) = if is_answered entry.event then 1 + places log else places log

places_all : (log : List Entry) → places log ≡ count_by (λ (entry : Entry). is_answered entry.event) log
unfolding places
places_all log = is_count_by places (λ (entry : Entry). is_answered entry.event) refl (λ entry rest. refl) log

add_if : (b : Bool) (n m : ℕ) → (if b then n + 1 else n) + m ≡ n + (if b then 1 + m else m)
add_if true n m = omega arith
add_if false n m = refl

logged_places : (h : History) (log : List Entry) → logged (run_on h log) ≡ logged h + places log
unfolding places
logged_places h [] = omega arith
logged_places h (entry ∷ log) = logged_places (After entry.event h) log ∙ ap (λ (n : ℕ). n + places log) (logged_event entry.event h)
    ∙ add_if (is_answered entry.event) (logged h) (places log)

pub logged_on : (h : History) (log : List Entry) → logged (run_on h log) ≡ logged h + count_by (λ (entry : Entry). is_answered entry.event) log
logged_on h log = logged_places h log ∙ ap (λ (n : ℕ). logged h + n) (places_all log)

room_event : (e : Event) (h : History) (room : ℕ) → room - logged (After e h) ≡ room_after e (room - logged h)
room_event e h room = ap (λ (n : ℕ). room - n) (logged_event e h) ∙ by_answer (is_answered e)
  where
    by_answer : (b : Bool) → room - (if b then logged h + 1 else logged h) ≡ (if b then (room - logged h) - 1 else room - logged h)
    by_answer true = omega arith
    by_answer false = refl

-- candidates

has_room : (n room : ℕ) → nat_lt n room ≡ nat_lt 0 (room - n)
has_room n room = grind (arith, nat_tests)

put_if : (b : Bool) (l : List Bytes) (v : Bytes) → (if b then l ++ v ∷ [] else l) ≡ l ++ (if b then v ∷ [] else [])
put_if true l v = refl
put_if false l v = sym (append-nil l)

-- an event that is no flush of the device puts candidates after the others
candidates_event : (room : ℕ) (e : Event) (h : History) (d a : ℕ) → flushes e d ≡ false → candidates room (After e h) d a ≡ candidates room h d a
    ++ put_by e (room - logged h) d a
candidates_event room Quiet h d a kept = sym (append-nil (candidates room h d a))
candidates_event room (Wrote device at value) h d a kept = put_if (d == device && a == at) (candidates room h d a) value
candidates_event room (Lost device at value) h d a kept =
    ap (λ (b : Bool). if d == device && a == at && b then candidates room h d a ++ value ∷ [] else candidates room h d a) (has_room (logged h) room)
    ∙ put_if (d == device && a == at && nat_lt 0 (room - logged h)) (candidates room h d a) value
candidates_event room (Flushed device) h d a kept = ap (λ (b : Bool). if b then sector_of (seen h d) a ∷ [] else candidates room h d a) kept
    ∙ sym (append-nil (candidates room h d a))
candidates_event room (DeviceFailed device) h d a kept = sym (append-nil (candidates room h d a))

-- none of the entries is a flush of the device
pub candidates_on : (room : ℕ) (h : History) (log : List Entry) (d a : ℕ) → All (λ (entry : Entry). flushes entry.event d ≡ false) log
    → candidates room (run_on h log) d a ≡ candidates room h d a ++ put_by_all log (room - logged h) d a
candidates_on room h [] d a none = sym (append-nil (candidates room h d a))
candidates_on room h (entry ∷ log) d a none =
    let left = room - logged h in
    candidates_on room (After entry.event h) log d a (λ k e within. none (suc k) e (omega arith))
    ∙ ap (λ (l : List Bytes). l ++ put_by_all log (room - logged (After entry.event h)) d a)
    (candidates_event room entry.event h d a (none 0 entry (omega arith)))
    ∙ ap (λ (r : ℕ). (candidates room h d a ++ put_by entry.event left d a) ++ put_by_all log r d a) (room_event entry.event h room)
    ∙ append_assoc (candidates room h d a) (put_by entry.event left d a) (put_by_all log (room_after entry.event left) d a)

-- a flush of the device leaves one candidate
candidates_flush : (room : ℕ) (e : Event) (h : History) (d a : ℕ) → flushes e d ≡ true → candidates room (After e h) d a ≡ sector_of (seen (After e h) d) a ∷ []
candidates_flush room Quiet h d a is = absurd (cc)
candidates_flush room (Wrote device at value) h d a is = absurd (cc)
candidates_flush room (Lost device at value) h d a is = absurd (cc)
candidates_flush room (Flushed device) h d a is = ap (λ (b : Bool). if b then sector_of (seen h d) a ∷ [] else candidates room h d a) is
candidates_flush room (DeviceFailed device) h d a is = absurd (cc)

-- at its last flush, or at the start of the run
pub candidates_safe : (room : ℕ) (start : Slots) (log : List Entry) (d a n : ℕ) → n ≤ length log
    → IsAfterLastMatch (λ (entry : Entry). flushes entry.event d) log n
    → candidates room (run_on (Began start) (take n log)) d a ≡ sector_of (seen (run_on (Began start) (take n log)) d) a ∷ []
candidates_safe room start log d a zero within last = refl
candidates_safe room start log d a (suc n) within last =
    let h = run_on (Began start) (take n log) in
    let entry = get_or log n no_entry in
    let here : n < length log = omega arith in
    let splits : run_on (Began start) (take (suc n) log) ≡ After entry.event h =
    ap (λ (k : ℕ). run_on (Began start) (take k log)) (sym (add-one n)) ∙ ap (run_on (Began start)) (take_more log n no_entry here)
    ∙ run_on-append (Began start) (take n log) (entry ∷ []) in
    let is : flushes entry.event d ≡ true = subst (λ (k : ℕ). flushes (get_or log k no_entry).event d ≡ true) (omega arith) (last.1 (omega arith) no_entry) in
    subst (λ (k : History). candidates room k d a ≡ sector_of (seen k d) a ∷ []) (sym splits) (candidates_flush room entry.event h d a is)

taken_from : (choice : Choice) (room : ℕ) (start : Slots) (log : List Entry) (d a n : ℕ) (base : List Bytes) (left : ℕ) → n ≤ length log
    → IsAfterLastMatch (λ (entry : Entry). flushes entry.event d) log n → base ≡ all_written (take n log) d (disk_of (start d))
    → left ≡ room - count_by (λ (entry : Entry). is_answered entry.event) (take n log)
    → get_or (sector_of base a ∷ put_by_all (drop n log) left d a) (number_taken choice d a (1 + length (put_by_all (drop n log) left d a))) [] ≡ taken choice
    room (run_on (Began start) log) d a
taken_from choice room start log d a n base left within last is left_is =
    let safe = run_on (Began start) (take n log) in
    let put = put_by_all (drop n log) left d a in
    let none : All (λ (entry : Entry). flushes entry.event d ≡ false) (drop n log) = λ k e lt.
    subst (λ (entry : Entry). flushes entry.event d ≡ false) (sym (get_or-drop n log k e))
    (last.0 (n + k) e (omega arith) (omega (arith, lt, length-drop n log))) in
    let base_is : seen safe d ≡ base = seen_on (Began start) (take n log) d ∙ sym is in
    let left_of : room - logged safe ≡ left = omega (arith, logged_on (Began start) (take n log), left_is) in
    let all : candidates room (run_on (Began start) log) d a ≡ sector_of base a ∷ put =
    ap (λ (h : History). candidates room h d a) (run_on_parts (Began start) log n) ∙ candidates_on room safe (drop n log) d a none
    ∙ ap (λ (r : ℕ). candidates room safe d a ++ put_by_all (drop n log) r d a) left_of
    ∙ ap (λ (l : List Bytes). l ++ put) (candidates_safe room start log d a n within last)
    ∙ ap (λ (l : List Bytes). sector_of l a ∷ put) base_is in
    let count : 1 + length put ≡ length (candidates room (run_on (Began start) log) d a) = omega (arith, ap length all) in
    ap (λ (k : ℕ). get_or (sector_of base a ∷ put) (number_taken choice d a k) []) count
    ∙ ap (λ (l : List Bytes). get_or l (number_taken choice d a (length (candidates room (run_on (Began start) log) d a))) []) (sym all)

-- What a choice takes, from the sectors as they were at the last flush of the device: what was put since are the other candidates.
pub taken_since : (choice : Choice) (room : ℕ) (start : Slots) (log safe since : List Entry) (d a n : ℕ) (began base : List Bytes) (left : ℕ) → n ≤ length log
    → IsAfterLastMatch (λ (entry : Entry). flushes entry.event d) log n → safe ≡ take n log → since ≡ drop n log → start d ≡ Some began
    → base ≡ all_written safe d began
    → left ≡ room - count_by (λ (entry : Entry). is_answered entry.event) safe
    → get_or (sector_of base a ∷ put_by_all since left d a) (number_taken choice d a (1 + length (put_by_all since left d a))) [] ≡ taken choice room
    (run_on (Began start) log) d a
taken_since choice room start log safe since d a n began base left within last front back starts is left_is =
    ap (λ (l : List Entry). get_or (sector_of base a ∷ put_by_all l left d a) (number_taken choice d a (1 + length (put_by_all l left d a))) []) back
    ∙ taken_from choice room start log d a n base left within last
    (is ∙ ap (λ (l : List Entry). all_written l d began) front ∙ ap (all_written (take n log) d) (sym (ap disk_of starts)))
    (left_is ∙ ap (λ (l : List Entry). room - count_by (λ (entry : Entry). is_answered entry.event) l) front)
