-- What holds at each moment while calls are made in a row, and what reads give after them.
use Rattle.std.proofs.Common.{◌≡◌, ◌≢◌, inl, inr, ℕ, zero, suc, ◌+◌, ◌<◌, ◌≤◌, Bool, true, false, cond, List, [], ◌∷◌, ◌++◌, length, get_or, refl, sym, ◌∙◌, ap}
use Rattle.std.proofs.Common.{subst, arith, ◌==◌, ◌||◌}
use Rattle.std.specs.Prelude.{slice_set, Ok, Err}
use Rattle.std.proofs.lemmas.Bool.{cases_eq, eq-eqb, eqb-true}
use Rattle.std.proofs.lemmas.List.{get_or-set_same, get_or-set_other}
use Rattle.sector_model.specs.declared.event.Event.{Event}
use Rattle.sector_model.specs.declared.event.Event.TheVariants.{Quiet, Wrote, Lost, Flushed, DeviceFailed}
use Rattle.sector_model.specs.declared.sector.Stop.{Stop}
use Rattle.sector_model.specs.declared.sector.Stop.TheVariants.{Down, Worn}
use Rattle.sector_model.specs.Bank.{Panel, IsTrueTo, fault_at, after_try}
use Rattle.sector_model.specs.Calls.{Call, Read, Write, Flush, device_of, after_call, after_all, Made, Performs, writes_from, writes_across, flushes}
use Rattle.sector_model.specs.History.{History, After, Bytes, Slots, disk_of, seen, start_of, is_down, sector_of}
use Rattle.sector_model.specs.MemoryLaw.{length-seen}
use Rattle.sector_model.specs.Moments.{Throughout, here, then_also, Contents, LeavesWithin}
use Rattle.sector_model.proofs.Replay.{eqb_other}
use Rattle.sector_model.proofs.Steps.{Puts, within_event, within_more, within_flush}

-- which calls were made

pub made_none : (h : History) → Made [] true h h
made_none h = record { performed = (refl, refl) }

-- the first call isn't answered, or isn't made
pub made_stop : {calls : List Call} {old new : History} (call : Call) (stop : Stop) → new ≡ after_try (after_call call) (Err stop) old
    → Made (call ∷ calls) false old new
made_stop call (Down d) is = record { performed = inl (refl, inr is) }
made_stop call Worn is = record { performed = inl (refl, inl is) }

same_down : (call : Call) (h : History) (d : ℕ) → is_down (after_call call true h) d ≡ is_down h d
same_down (Read device at) h d = refl
same_down (Write device at value) h d = refl
same_down (Flush device) h d = refl

-- the first call is answered
pub made_then : {calls : List Call} {answered : Bool} {old mid new : History} (call : Call) (done : Unit {0}) (after : Panel)
    → mid ≡ after_try (after_call call) (Ok done) old → after.down (device_of call) ≡ false → IsTrueTo after mid → Made calls answered mid new
    → Made (call ∷ calls) answered old new
made_then {calls = calls} {answered = answered} {old = old} {mid = mid} {new = new} call done after is up is_true rest =
    let was_up = sym (same_down call old (device_of call)) ∙ ap (λ (h : History). is_down h (device_of call)) (sym is) ∙ sym (is_true.down (device_of call))
    ∙ up in
    record { performed = inr (was_up, subst (λ (h : History). Performs calls answered h new) is rest.performed) }

performs_both : (first second : List Call) (answered : Bool) (old mid new : History) → Performs first true old mid → Performs second answered mid new
    → Performs (first ++ second) answered old new
performs_both [] second answered old mid new (all, is) rest = subst (λ (h : History). Performs second answered h new) is rest
performs_both (call ∷ first) second answered old mid new (inl (none, is)) rest = absurd (cc)
performs_both (call ∷ first) second answered old mid new (inr (is_up, so_far)) rest =
    inr (is_up, performs_both first second answered (after_call call true old) mid new so_far rest)

performs_short : (first second : List Call) (old new : History) → Performs first false old new → Performs (first ++ second) false old new
performs_short [] second old new (all, is) = absurd (cc)
performs_short (call ∷ first) second old new (inl (none, is)) = inl (none, is)
performs_short (call ∷ first) second old new (inr (is_up, so_far)) = inr (is_up, performs_short first second (after_call call true old) new so_far)

-- one row of calls after another
pub made_both : {first second : List Call} {answered : Bool} {old mid new : History} → Made first true old mid → Made second answered mid new
    → Made (first ++ second) answered old new
made_both {first = first} {second = second} {answered = answered} {old = old} {mid = mid} {new = new} one two =
    record { performed = performs_both first second answered old mid new one.performed two.performed }

pub made_short : {first : List Call} (second : List Call) {old new : History} → Made first false old new → Made (first ++ second) false old new
made_short {first = first} second {old = old} {new = new} one = record { performed = performs_short first second old new one.performed }

all_from_performs : (calls : List Call) (old new : History) → Performs calls true old new → new ≡ after_all calls old
all_from_performs [] old new (all, is) = is
all_from_performs (call ∷ calls) old new (inl (none, is)) = absurd (cc)
all_from_performs (call ∷ calls) old new (inr (is_up, rest)) = all_from_performs calls (after_call call true old) new rest

-- the run after calls that were all answered
pub made_all : {calls : List Call} {old new : History} → Made calls true old new → new ≡ after_all calls old
made_all {calls = calls} {old = old} {new = new} made = all_from_performs calls old new made.performed

-- each moment of a row of calls

-- P holds before each of the calls, after the last, and after any that isn't answered
abbrev pub IsSafe : (History → Type 0) → List Call → History → Type 0
IsSafe P [] h = P h
IsSafe P (call ∷ calls) h = P h × P (after_call call false h) × (is_down h (device_of call) ≡ false → IsSafe P calls (after_call call true h))

also : {P : History → Type 0} {start : History} (call : Call) (answered : Bool) (h : History) → Throughout P start h → P (after_call call answered h)
    → Throughout P start (after_call call answered h)
also (Read device at) answered h so_far is = then_also _ h so_far is
also (Write device at value) answered h so_far is = then_also _ h so_far is
also (Flush device) answered h so_far is = then_also _ h so_far is

safe_first : (P : History → Type 0) (calls : List Call) (h : History) → IsSafe P calls h → P h
safe_first P [] h safe = safe
safe_first P (call ∷ calls) h safe = safe.0

performs_from : (P : History → Type 0) (calls : List Call) (answered : Bool) (start old new : History) → Throughout P start old → IsSafe P calls old
    → Performs calls answered old new → Throughout P start new
performs_from P [] answered start old new so_far safe (all, is) = subst (Throughout P start) (sym is) so_far
performs_from P (call ∷ calls) answered start old new so_far safe (inl (none, inl is)) = subst (Throughout P start) (sym is) so_far
performs_from P (call ∷ calls) answered start old new so_far safe (inl (none, inr is)) = subst (Throughout P start) (sym is) (also call false old so_far safe.1)
performs_from P (call ∷ calls) answered start old new so_far safe (inr (is_up, rest)) =
    let next = safe.2 is_up in performs_from P calls answered start (after_call call true old) new
    (also call true old so_far (safe_first P calls (after_call call true old) next)) next rest

-- calls of which each outcome is safe
pub throughout_made : (P : History → Type 0) {calls : List Call} {answered : Bool} {old new : History} → IsSafe P calls old → Made calls answered old new
    → Throughout P old new
throughout_made P {calls = calls} {answered = answered} {old = old} {new = new} safe made =
    performs_from P calls answered old old new (here (safe_first P calls old safe)) safe made.performed

-- what a call keeps, answered or not
pub record IsKeptBy (S : History → Type 0) (call : Call) : Type 0 where
  pub keeps : (answered : Bool) (h : History) → S h → S (after_call call answered h)

abbrev pub AllKeep : (History → Type 0) → List Call → Type 0
AllKeep S [] = Unit {0}
AllKeep S (call ∷ calls) = IsKeptBy S call × AllKeep S calls

pub kept_after : (S : History → Type 0) (calls : List Call) (h : History) → AllKeep S calls → S h → S (after_all calls h)
kept_after S [] h keep is = is
kept_after S (call ∷ calls) h (keep, rest) is = kept_after S calls (after_call call true h) rest (keep.keeps true h is)

-- a phase: calls that keep what makes P hold, and then the others
pub safe_phase : (P S : History → Type 0) (calls rest : List Call) (h : History) → ((g : History) → S g → P g) → AllKeep S calls → S h
    → IsSafe P rest (after_all calls h) → IsSafe P (calls ++ rest) h
safe_phase P S [] rest h more keep is safe = safe
safe_phase P S (call ∷ calls) rest h more (keep, others) is safe = (
  more h is,
  more (after_call call false h) (keep.keeps false h is),
  λ up. safe_phase P S calls rest (after_call call true h) more others (keep.keeps true h is) safe,
)

-- a call puts only what may stand there
abbrev pub PutsOnly : Contents → Call → Type 0
PutsOnly Q (Read device at) = Unit {0}
PutsOnly Q (Write device at value) = Q device at value
PutsOnly Q (Flush device) = Unit {0}

put_alone : (Q : Contents) (device at : ℕ) (value : Bytes) → Q device at value → (d a : ℕ) (v : Bytes) → (d ≡ device) × (a ≡ at) × (v ≡ value) → Q d a v
put_alone Q device at value is d a v (same, place, this) =
    subst (λ (k : ℕ). Q k a v) (sym same) (subst (λ (k : ℕ). Q device k v) (sym place) (subst (Q device at) (sym this) is))

within_fault : (Q : Contents) (device : ℕ) (fault : Event) (h : History) → LeavesWithin Q h → ((d a : ℕ) (v : Bytes) → Puts fault d a v → Q d a v)
    → LeavesWithin Q (After (fault_at device fault h) h)
within_fault Q device fault h left put = by_case (is_down h device)
  where
    by_case : (b : Bool) → LeavesWithin Q (After (cond b Quiet fault) h)
    by_case true = within_event Q Quiet h left (λ d a v put. absurd put)
    by_case false = within_event Q fault h left put

within_call : (Q : Contents) (call : Call) → PutsOnly Q call → (answered : Bool) (h : History) → LeavesWithin Q h → LeavesWithin Q (after_call call answered h)
within_call Q (Read device at) only true h left = within_event Q Quiet h left (λ d a v put. absurd put)
within_call Q (Read device at) only false h left = within_fault Q device (DeviceFailed device) h left (λ d a v put. absurd put)
within_call Q (Write device at value) only true h left = within_event Q (Wrote device at value) h left (put_alone Q device at value only)
within_call Q (Write device at value) only false h left = within_fault Q device (Lost device at value) h left (put_alone Q device at value only)
within_call Q (Flush device) only true h left = within_event Q (Flushed device) h left (λ d a v put. absurd put)
within_call Q (Flush device) only false h left = within_fault Q device (DeviceFailed device) h left (λ d a v put. absurd put)

pub kept_within : (Q : Contents) (call : Call) → PutsOnly Q call → IsKeptBy (LeavesWithin Q) call
kept_within Q call only = record { keeps = λ answered h left. within_call Q call only answered h left }

-- a device that isn't called stays up
up_fault : (device : ℕ) (fault : Event) (h : History) (d : ℕ) → is_down (After fault h) d ≡ (d == device || is_down h d) → d ≢ device → is_down h d ≡ false
    → is_down (After (fault_at device fault h) h) d ≡ false
up_fault device fault h d is other up = by_case (is_down h device)
  where
    by_case : (b : Bool) → is_down (After (cond b Quiet fault) h) d ≡ false
    by_case true = up
    by_case false = is ∙ ap (λ (b : Bool). b || is_down h d) (eqb_other d device other) ∙ up

up_call : (call : Call) (d : ℕ) → d ≢ device_of call → (answered : Bool) (h : History) → is_down h d ≡ false → is_down (after_call call answered h) d ≡ false
up_call call d other true h up = same_down call h d ∙ up
up_call (Read device at) d other false h up = up_fault device (DeviceFailed device) h d refl other up
up_call (Write device at value) d other false h up = up_fault device (Lost device at value) h d refl other up
up_call (Flush device) d other false h up = up_fault device (DeviceFailed device) h d refl other up

pub kept_up : (d : ℕ) (call : Call) → d ≢ device_of call → IsKeptBy (λ h. is_down h d ≡ false) call
kept_up d call other = record { keeps = λ answered h up. up_call call d other answered h up }

pub kept_both : (S R : History → Type 0) (call : Call) → IsKeptBy S call → IsKeptBy R call → IsKeptBy (λ h. S h × R h) call
kept_both S R call first second = record { keeps = λ answered h is. (first.keeps answered h is.0, second.keeps answered h is.1) }

-- what reads give after calls that were answered

put_other : (b : Bool) (l : List Bytes) (at a : ℕ) (v : Bytes) → a ≢ at → sector_of (cond b (slice_set l at v) l) a ≡ sector_of l a
put_other true l at a v other = get_or-set_other l at a v [] other
put_other false l at a v other = refl

-- a write elsewhere
pub seen_elsewhere : (dev at : ℕ) (value : Bytes) (h : History) (d a : ℕ) → (d ≡ dev → a ≢ at)
    → sector_of (seen (After (Wrote dev at value) h) d) a ≡ sector_of (seen h d) a
seen_elsewhere dev at value h d a other = by_case (d == dev) refl
  where
    by_case : (b : Bool) → (d == dev) ≡ b → sector_of (cond b (slice_set (seen h d) at value) (seen h d)) a ≡ sector_of (seen h d) a
    by_case true is = put_other true (seen h d) at a value (other (eqb-true d dev is))
    by_case false is = refl

pub seen_written : (dev at : ℕ) (value : Bytes) (h : History) → at < length (seen h dev) → sector_of (seen (After (Wrote dev at value) h) dev) at ≡ value
seen_written dev at value h within = ap (λ (b : Bool). sector_of (cond b (slice_set (seen h dev) at value) (seen h dev)) at) (eq-eqb dev dev refl)
    ∙ get_or-set_same (seen h dev) at value _ within

pub size_written : (dev at : ℕ) (value : Bytes) (h : History) (d : ℕ) → length (seen (After (Wrote dev at value) h) d) ≡ length (seen h d)
size_written dev at value h d = length-seen (After (Wrote dev at value) h) d ∙ sym (length-seen h d)

-- sectors before the first that is written
before_writes : (dev at : ℕ) (values : List Bytes) (h : History) (a : ℕ) → a < at
    → sector_of (seen (after_all (writes_from dev at values) h) dev) a ≡ sector_of (seen h dev) a
before_writes dev at [] h a before = refl
before_writes dev at (value ∷ values) h a before =
    before_writes dev (at + 1) values (After (Wrote dev at value) h) a (omega arith) ∙ seen_elsewhere dev at value h dev a (λ _ same. absurd (omega arith))

pub seen_writes : (dev at : ℕ) (values : List Bytes) (h : History) (k : ℕ) → k < length values → at + length values ≤ length (seen h dev)
    → sector_of (seen (after_all (writes_from dev at values) h) dev) (at + k) ≡ get_or values k []
seen_writes dev at [] h k within room = absurd (omega arith)
seen_writes dev at (value ∷ values) h zero within room =
    let same : at + 0 ≡ at = omega arith in
    ap (λ (a : ℕ). sector_of (seen (after_all (writes_from dev (at + 1) values) (After (Wrote dev at value) h)) dev) a) same
    ∙ before_writes dev (at + 1) values (After (Wrote dev at value) h) at (omega arith) ∙ seen_written dev at value h (omega arith)
seen_writes dev at (value ∷ values) h (suc k) within room =
    let next : at + suc k ≡ (at + 1) + k = omega arith in
    ap (λ (a : ℕ). sector_of (seen (after_all (writes_from dev (at + 1) values) (After (Wrote dev at value) h)) dev) a) next
    ∙ seen_writes dev (at + 1) values (After (Wrote dev at value) h) k (omega arith) (omega (arith, size_written dev at value h dev))

-- devices before the first that is written
before_row : (dev at : ℕ) (values : List Bytes) (h : History) (d a : ℕ) → d < dev
    → sector_of (seen (after_all (writes_across dev at values) h) d) a ≡ sector_of (seen h d) a
before_row dev at [] h d a before = refl
before_row dev at (value ∷ values) h d a before =
    before_row (dev + 1) at values (After (Wrote dev at value) h) d a (omega arith) ∙ seen_elsewhere dev at value h d a (λ same. absurd (omega arith))

pub seen_across : (dev at : ℕ) (values : List Bytes) (h : History) (k : ℕ) → k < length values → ((j : ℕ) → j < length values → at < length (seen h (dev + j)))
    → sector_of (seen (after_all (writes_across dev at values) h) (dev + k)) at ≡ get_or values k []
seen_across dev at [] h k within room = absurd (omega arith)
seen_across dev at (value ∷ values) h zero within room =
    let same : dev + 0 ≡ dev = omega arith in
    ap (λ (d : ℕ). sector_of (seen (after_all (writes_across (dev + 1) at values) (After (Wrote dev at value) h)) d) at) same
    ∙ before_row (dev + 1) at values (After (Wrote dev at value) h) dev at (omega arith)
    ∙ seen_written dev at value h (subst (λ (d : ℕ). at < length (seen h d)) same (room 0 (omega arith)))
seen_across dev at (value ∷ values) h (suc k) within room =
    let next : (j : ℕ) → dev + suc j ≡ (dev + 1) + j = λ j. omega arith in
    ap (λ (d : ℕ). sector_of (seen (after_all (writes_across (dev + 1) at values) (After (Wrote dev at value) h)) d) at) (next k)
    ∙ seen_across (dev + 1) at values (After (Wrote dev at value) h) k (omega arith)
    (λ j within'. omega (arith, size_written dev at value h ((dev + 1) + j), ap (λ (d : ℕ). length (seen h d)) (next j), room (suc j) (omega arith)))

-- flushes change nothing that reads give
pub seen_flushes : (dev count : ℕ) (h : History) (d : ℕ) → seen (after_all (flushes dev count) h) d ≡ seen h d
seen_flushes dev zero h d = refl
seen_flushes dev (suc count) h d = seen_flushes (dev + 1) count (After (Flushed dev) h) d

-- rows of calls that keep S, one after another
pub keep_both : (S : History → Type 0) (first second : List Call) → AllKeep S first → AllKeep S second → AllKeep S (first ++ second)
keep_both S [] second keep rest = rest
keep_both S (call ∷ first) second (keep, others) rest = (keep, keep_both S first second others rest)

-- S holds at each moment of calls that keep it
safe_kept : (S : History → Type 0) (calls : List Call) (h : History) → AllKeep S calls → S h → IsSafe S calls h
safe_kept S [] h keep is = is
safe_kept S (call ∷ calls) h (keep, others) is = (is, keep.keeps false h is, λ up. safe_kept S calls (after_call call true h) others (keep.keeps true h is))

pub throughout_kept : (S : History → Type 0) {calls : List Call} {answered : Bool} {old new : History} → AllKeep S calls → S old → Made calls answered old new
    → Throughout S old new
throughout_kept S {calls = calls} {old = old} keep is made = throughout_made S (safe_kept S calls old keep is) made

-- the run after one row of calls and another
pub after_both : (first second : List Call) (h : History) → after_all (first ++ second) h ≡ after_all second (after_all first h)
after_both [] second h = refl
after_both (call ∷ first) second h = after_both first second (after_call call true h)

-- flushes keep what may stand anywhere
pub flushes_keep : (Q : Contents) (dev count : ℕ) → AllKeep (LeavesWithin Q) (flushes dev count)
flushes_keep Q dev zero = tt
flushes_keep Q dev (suc count) = (kept_within Q (Flush dev) tt, flushes_keep Q (dev + 1) count)

-- after flushes the sectors of their devices are left with what reads give
pub within_flushes : (Q : Contents) (dev count : ℕ) (h : History) → LeavesWithin Q h
    → LeavesWithin (λ d a v. Q d a v × (dev ≤ d → d < dev + count → v ≡ sector_of (seen h d) a)) (after_all (flushes dev count) h)
within_flushes Q dev zero h left = within_more Q _ h (λ d a v is. (is, λ least most. absurd (omega arith))) left
within_flushes Q dev (suc count) h left =
    within_more _ _ (after_all (flushes (dev + 1) count) (After (Flushed dev) h))
    (λ d a v is. (
      is.0.0,
      λ least most. elim (cases_eq d dev) [
        | inl same ↦ is.0.1 same ∙ ap (λ (k : ℕ). sector_of (seen h k) a) (sym same)
        | inr other ↦ is.1 (omega arith) (omega arith)
      ],
    ))
    (within_flushes (λ d a v. Q d a v × (d ≡ dev → v ≡ sector_of (seen h dev) a)) (dev + 1) count (After (Flushed dev) h) (within_flush Q dev h left))

-- P holds at each moment of calls that keep what makes it hold
pub safe_kept_as : (P S : History → Type 0) (calls : List Call) (h : History) → ((g : History) → S g → P g) → AllKeep S calls → S h → IsSafe P calls h
safe_kept_as P S [] h more keep is = more h is
safe_kept_as P S (call ∷ calls) h more (keep, others) is = (
  more h is,
  more (after_call call false h) (keep.keeps false h is),
  λ up. safe_kept_as P S calls (after_call call true h) more others (keep.keeps true h is),
)

start_call : (call : Call) (answered : Bool) (h : History) → start_of (after_call call answered h) ≡ start_of h
start_call (Read device at) answered h = refl
start_call (Write device at value) answered h = refl
start_call (Flush device) answered h = refl

start_after : (calls : List Call) (h : History) → start_of (after_all calls h) ≡ start_of h
start_after [] h = refl
start_after (call ∷ calls) h = start_after calls (after_call call true h) ∙ start_call call true h

-- a device keeps its number of sectors
pub sizes_after : (calls : List Call) (h : History) (d : ℕ) → length (seen (after_all calls h) d) ≡ length (seen h d)
sizes_after calls h d = length-seen (after_all calls h) d ∙ ap (λ (slots : Slots). length (disk_of (slots d))) (start_after calls h) ∙ sym (length-seen h d)

-- a row of writes changes one place alone
pub across_elsewhere : (dev at : ℕ) (values : List Bytes) (h : History) (d a : ℕ) → a ≢ at
    → sector_of (seen (after_all (writes_across dev at values) h) d) a ≡ sector_of (seen h d) a
across_elsewhere dev at [] h d a other = refl
across_elsewhere dev at (value ∷ values) h d a other = across_elsewhere (dev + 1) at values (After (Wrote dev at value) h) d a other
    ∙ seen_elsewhere dev at value h d a (λ _. other)

-- the devices of calls are up
abbrev pub AllUp : List Call → History → Type 0
AllUp [] h = Unit {0}
AllUp (call ∷ calls) h = (is_down h (device_of call) ≡ false) × AllUp calls h

all_up_same : (calls : List Call) (g h : History) → ((d : ℕ) → is_down g d ≡ is_down h d) → AllUp calls g → AllUp calls h
all_up_same [] g h same up = tt
all_up_same (call ∷ calls) g h same (up, others) = (sym (same (device_of call)) ∙ up, all_up_same calls g h same others)

performs_up : (calls : List Call) (old new : History) → Performs calls true old new → AllUp calls old
performs_up [] old new is = tt
performs_up (call ∷ calls) old new (inl (none, is)) = absurd (cc)
performs_up (call ∷ calls) old new (inr (up, rest)) = (
  up,
  all_up_same calls (after_call call true old) old (same_down call old)
      (performs_up calls (after_call call true old) new rest),
)

-- where all of the calls were answered, their devices were up before
pub made_up : {calls : List Call} {old new : History} → Made calls true old new → AllUp calls old
made_up {calls = calls} {old = old} {new = new} made = performs_up calls old new made.performed

pub up_after : (first second : List Call) (h : History) → AllUp (first ++ second) h → AllUp second h
up_after [] second h up = up
up_after (call ∷ first) second h (up, others) = up_after first second h others

pub flushed_up : (dev count : ℕ) (h : History) → AllUp (flushes dev count) h → (d : ℕ) → dev ≤ d → d < dev + count → is_down h d ≡ false
flushed_up dev zero h up d least most = absurd (omega arith)
flushed_up dev (suc count) h (up, others) d least most = elim (cases_eq d dev) [
  | inl same ↦ ap (is_down h) same ∙ up
  | inr other ↦ flushed_up (dev + 1) count h others d (omega arith) (omega arith)
]

-- calls that were answered take no device down
pub down_after : (calls : List Call) (h : History) (d : ℕ) → is_down (after_all calls h) d ≡ is_down h d
down_after [] h d = refl
down_after (call ∷ calls) h d = down_after calls (after_call call true h) d ∙ same_down call h d
