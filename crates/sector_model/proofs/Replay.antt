-- A bank in memory stays what its run has led to.
use Rattle.std.proofs.Common.{Option, None, Some, ◌≡◌, ◌≢◌, ◌⊎◌, inl, inr, ⊎_elim, All, ℕ, zero, suc, ◌+◌, ◌<◌, ◌≤◌, Bool, true, false, List, [], ◌∷◌, ◌++◌}
use Rattle.std.proofs.Common.{length, get_or, refl, sym, ◌∙◌, ap, subst, add-one, arith, ◌==◌, ◌||◌, cond}
use Rattle.std.proofs.Math.ListN.{set}
use Rattle.std.proofs.lemmas.List.{get_or-set_same, get_or-set_other, length-set}
use Rattle.std.proofs.lemmas.List.Elements.{All-push, recursion_from_All}
use Rattle.std.proofs.lemmas.List.Quantifiers.{all_pairs_push}
use Rattle.std.specs.List.{AllByRecursion as ByRecursion}
use Rattle.std.proofs.lemmas.Bool.{cases_eq, eq-eqb}
use Rattle.std.proofs.lemmas.Bool.Decides.{nat_tests}
use Rattle.sector_model.specs.declared.memory.Entry.{Entry}
use Rattle.sector_model.specs.declared.event.Event.{Event}
use Rattle.sector_model.specs.declared.event.Event.TheVariants.{Quiet, Wrote, Lost, Flushed, DeviceFailed}
use Rattle.sector_model.specs.declared.calls.TheConstants.{GREATEST_COUNT}
use Rattle.sector_model.specs.History.{History, After, Bytes, Slots, IsSector, MayHold, IsAt, disk_of, seen, is_down, calls_of}
use Rattle.sector_model.specs.MemoryLaw.{calls-run}
use Rattle.sector_model.specs.Memory.{Disk, contents_of, down_at, event_of, run_of, slots_of, ups, IsReplayed, IsInOrder, IsFaultOf, AreCopies, AreAbsences}
use Rattle.sector_model.proofs.Copies.{all_copied, all_whole, all_absent, slots_past}

pub eqb_self : (a : ℕ) → (a == a) ≡ true
eqb_self a = eq-eqb a a refl

pub eqb_other : (a b : ℕ) → a ≢ b → (a == b) ≡ false
eqb_other a b ne = grind (arith, nat_tests)

-- the log and the calls

abbrev pub IsEarlier : ℕ → Entry → Type 0
IsEarlier n entry = entry.call < n

-- a call that the log doesn't speak of
none_logged : (log : List Entry) (n : ℕ) → ByRecursion (IsEarlier n) log → event_of log n ≡ Quiet
none_logged [] n early = refl
none_logged (entry ∷ log) n (first, rest) =
    ap (λ (b : Bool). cond b entry.event (event_of log n)) (eqb_other n entry.call (λ same. absurd (omega (arith, same, first)))) ∙ none_logged log n rest

-- a call that only the last entry speaks of
last_logged : (log : List Entry) (n : ℕ) (event : Event) → ByRecursion (IsEarlier n) log → event_of (log ++ record { call = n; event = event } ∷ []) n ≡ event
last_logged [] n event early = ap (λ (b : Bool). cond b event Quiet) (eqb_self n)
last_logged (entry ∷ log) n event (first, rest) =
    ap (λ (b : Bool). cond b entry.event (event_of (log ++ record { call = n; event = event } ∷ []) n))
    (eqb_other n entry.call (λ same. absurd (omega (arith, same, first)))) ∙ last_logged log n event rest

-- a call that the last entry doesn't speak of
still_logged : (log : List Entry) (n k : ℕ) (event : Event) → k ≢ n → event_of (log ++ record { call = n; event = event } ∷ []) k ≡ event_of log k
still_logged [] n k event other = ap (λ (b : Bool). cond b event Quiet) (eqb_other k n other)
still_logged (entry ∷ log) n k event other = ap (λ (e : Event). cond (k == entry.call) entry.event e) (still_logged log n k event other)

still_run : (start : Slots) (log : List Entry) (n k : ℕ) (event : Event) → k ≤ n
    → run_of start (log ++ record { call = n; event = event } ∷ []) k ≡ run_of start log k
still_run start log n zero event le = refl
still_run start log n (suc k) event le =
    ap (λ (e : Event). After e (run_of start (log ++ record { call = n; event = event } ∷ []) k))
    (still_logged log n k event (λ same. absurd (omega (arith, same, le))))
    ∙ ap (λ (h : History). After (event_of log k) h) (still_run start log n k event (omega (arith, le)))

-- the run with one entry more
pub run-entry : (start : Slots) (log : List Entry) (n : ℕ) (event : Event) → All (IsEarlier n) log
    → run_of start (log ++ record { call = n; event = event } ∷ []) (n + 1) ≡ After event (run_of start log n)
run-entry start log n event early =
    ap (run_of start (log ++ record { call = n; event = event } ∷ [])) (add-one n)
    ∙ ap (λ (e : Event). After e (run_of start (log ++ record { call = n; event = event } ∷ []) n))
    (last_logged log n event (recursion_from_All (IsEarlier n) log early))
    ∙ ap (λ (h : History). After event h) (still_run start log n n event (omega arith))

-- the run with one call more that changes nothing
pub run-quiet : (start : Slots) (log : List Entry) (n : ℕ) → All (IsEarlier n) log → run_of start log (n + 1) ≡ After Quiet (run_of start log n)
run-quiet start log n early =
    ap (run_of start log) (add-one n) ∙ ap (λ (e : Event). After e (run_of start log n)) (none_logged log n (recursion_from_All (IsEarlier n) log early))

later : (n : ℕ) (log : List Entry) → All (IsEarlier n) log → All (IsEarlier (n + 1)) log
later n log early = λ k d within. omega (arith, early k d within)

later_entry : (n : ℕ) (log : List Entry) (event : Event) → All (IsEarlier n) log → All (IsEarlier (n + 1)) (log ++ record { call = n; event = event } ∷ [])
later_entry n log event early = All-push (IsEarlier (n + 1)) log (record { call = n; event = event }) (later n log early) (omega arith)

-- an entry of the next call comes after the others
pub order_entry : (n : ℕ) (log : List Entry) (event : Event) → IsInOrder log → All (IsEarlier n) log
    → IsInOrder (log ++ record { call = n; event = event } ∷ [])
order_entry n log event order early = all_pairs_push (λ (entry later : Entry). entry.call < later.call) log (record { call = n; event = event }) order early

-- devices that are up

pub ups_least : (flags : List Bool) → ups flags ≤ length flags
ups_least [] = omega arith
ups_least (true ∷ flags) = omega (arith, ups_least flags)
ups_least (false ∷ flags) = omega (arith, ups_least flags)

pub ups_fall : (flags : List Bool) (slot : ℕ) → slot < length flags → down_at flags slot ≡ false → ups (set flags slot true) + 1 ≡ ups flags
ups_fall [] slot within is_up = absurd (omega arith)
ups_fall (true ∷ flags) zero within is_up = absurd (cc)
ups_fall (false ∷ flags) zero within is_up = refl
ups_fall (true ∷ flags) (suc slot) within is_up = ups_fall flags slot (omega arith) is_up
ups_fall (false ∷ flags) (suc slot) within is_up = omega (arith, ups_fall flags slot (omega arith) is_up)

pub down_at-set : (flags : List Bool) (slot : ℕ) → slot < length flags → (d : ℕ) → down_at (set flags slot true) d ≡ (d == slot || down_at flags d)
down_at-set flags slot within d = elim (cases_eq d slot) [
  | inl same ↦ ap (λ (k : ℕ). down_at (set flags slot true) k) same ∙ get_or-set_same flags slot true true within
      ∙ sym (ap (λ (b : Bool). b || down_at flags d) (ap (λ (k : ℕ). k == slot) same ∙ eqb_self slot))
  | inr other ↦ get_or-set_other flags slot d true true other ∙ sym (ap (λ (b : Bool). b || down_at flags d) (eqb_other d slot other))
]

-- one call more

abbrev pub run_in : List (Option Disk) → List Entry → ℕ → History
run_in start log calls = run_of (slots_of start) log calls

pub replayed_quiet : (start : List (Option Disk)) (log : List Entry) (calls : ℕ) (disks : List Disk) (flags : List Bool)
    → IsReplayed start log calls disks flags → IsReplayed start log (calls + 1) disks flags
replayed_quiet start log calls disks flags was =
    let next = run-quiet (slots_of start) log calls was.early in record {
      seen = λ d. was.seen d ∙ ap (λ (h : History). seen h d) (sym next);
      down = λ d. was.down d ∙ ap (λ (h : History). is_down h d) (sym next);
      early = later calls log was.early;
      beyond = was.beyond;
      whole = λ d a v within may. was.whole d a v within (subst (λ (h : History). MayHold h d a v) next may);
    }

fault_down : (h : History) (slot : ℕ) (event : Event) → IsFaultOf slot event → (d : ℕ) → is_down (After event h) d ≡ (d == slot || is_down h d)
fault_down h slot Quiet fault d = absurd fault
fault_down h slot (Wrote device at value) fault d = absurd fault
fault_down h slot (Lost device at value) fault d = ap (λ (s : ℕ). d == s || is_down h d) fault.0
fault_down h slot (Flushed device) fault d = absurd fault
fault_down h slot (DeviceFailed device) fault d = ap (λ (s : ℕ). d == s || is_down h d) fault

fault_seen : (h : History) (slot : ℕ) (event : Event) → IsFaultOf slot event → (d : ℕ) → seen (After event h) d ≡ seen h d
fault_seen h slot Quiet fault d = absurd fault
fault_seen h slot (Wrote device at value) fault d = absurd fault
fault_seen h slot (Lost device at value) fault d = refl
fault_seen h slot (Flushed device) fault d = absurd fault
fault_seen h slot (DeviceFailed device) fault d = refl

-- what a fault leaves is what was possible before, or a whole sector
fault_whole : (h : History) (slot : ℕ) (event : Event) → IsFaultOf slot event → (d a : ℕ) (v : Bytes) → MayHold (After event h) d a v → MayHold h d a v
    ⊎ IsSector v
fault_whole h slot Quiet fault d a v may = absurd fault
fault_whole h slot (Wrote device at value) fault d a v may = absurd fault
fault_whole h slot (Lost device at value) fault d a v (inl put) = inr (subst IsSector (sym put.2) fault.1)
fault_whole h slot (Lost device at value) fault d a v (inr may) = inl may
fault_whole h slot (Flushed device) fault d a v may = absurd fault
fault_whole h slot (DeviceFailed device) fault d a v may = inl may

pub replayed_failure : (start : List (Option Disk)) (log : List Entry) (calls : ℕ) (disks : List Disk) (flags : List Bool) (slot : ℕ) (event : Event)
    → IsReplayed start log calls disks flags → slot < length flags → IsFaultOf slot event
    → IsReplayed start (log ++ record { call = calls; event = event } ∷ []) (calls + 1) disks (set flags slot true)
replayed_failure start log calls disks flags slot event was within fault =
    let h = run_in start log calls in
    let next = run-entry (slots_of start) log calls event was.early in record {
      seen = λ d. was.seen d ∙ sym (fault_seen h slot event fault d) ∙ ap (λ (h : History). seen h d) (sym next);
      down = λ d. down_at-set flags slot within d ∙ ap (λ (b : Bool). d == slot || b) (was.down d) ∙ sym (fault_down h slot event fault d)
          ∙ ap (λ (h : History). is_down h d) (sym next);
      early = later_entry calls log event was.early;
      beyond = λ d past. was.beyond d (omega (arith, past, length-set flags slot true));
      whole = λ d a v inside may. ⊎_elim (was.whole d a v inside) (λ whole. whole)
          (fault_whole h slot event fault d a v (subst (λ (h : History). MayHold h d a v) next may));
    }

pub replayed_flush : (start : List (Option Disk)) (log : List Entry) (calls : ℕ) (disks : List Disk) (flags : List Bool) (slot : ℕ)
    → IsReplayed start log calls disks flags
    → IsReplayed start (log ++ record { call = calls; event = Flushed slot } ∷ []) (calls + 1) disks flags
replayed_flush start log calls disks flags slot was =
    let next = run-entry (slots_of start) log calls (Flushed slot) was.early in record {
      seen = λ d. was.seen d ∙ ap (λ (h : History). seen h d) (sym next);
      down = λ d. was.down d ∙ ap (λ (h : History). is_down h d) (sym next);
      early = later_entry calls log (Flushed slot) was.early;
      beyond = was.beyond;
      whole = λ d a v inside may. let there = subst (λ (h : History). MayHold h d a v) next may in was.whole d a v inside there.0;
    }

pub contents-set_same : (disks : List Disk) (slot : ℕ) (disk : Disk) → slot < length disks → contents_of (set disks slot disk) slot ≡ disk.items
contents-set_same [] slot disk within = absurd (omega arith)
contents-set_same (first ∷ disks) zero disk within = refl
contents-set_same (first ∷ disks) (suc slot) disk within = contents-set_same disks slot disk (omega arith)

pub contents-set_other : (disks : List Disk) (slot : ℕ) (disk : Disk) (d : ℕ) → d ≢ slot → contents_of (set disks slot disk) d ≡ contents_of disks d
contents-set_other [] slot disk d other = refl
contents-set_other (first ∷ disks) zero disk zero other = absurd (other refl)
contents-set_other (first ∷ disks) zero disk (suc d) other = refl
contents-set_other (first ∷ disks) (suc slot) disk zero other = refl
contents-set_other (first ∷ disks) (suc slot) disk (suc d) other = contents-set_other disks slot disk d (λ same. other (ap suc same))

-- the contents after a write
pub contents-write : (disks : List Disk) (slot at : ℕ) (value : Bytes) (disk : Disk) → slot < length disks → disk.items ≡ set (contents_of disks slot) at value
    → (d : ℕ) → contents_of (set disks slot disk) d ≡ cond (d == slot) (set (contents_of disks d) at value) (contents_of disks d)
contents-write disks slot at value disk within is d = elim (cases_eq d slot) [
  | inl same ↦ ap (λ (k : ℕ). contents_of (set disks slot disk) k) same ∙ contents-set_same disks slot disk within ∙ is
      ∙ sym (ap (λ (b : Bool). cond b (set (contents_of disks d) at value) (contents_of disks d)) (eq-eqb d slot same)
      ∙ ap (λ (k : ℕ). set (contents_of disks k) at value) same)
  | inr other ↦ contents-set_other disks slot disk d other
      ∙ sym (ap (λ (b : Bool). cond b (set (contents_of disks d) at value) (contents_of disks d)) (eqb_other d slot other))
]

length-put : (b : Bool) (l : List Bytes) (at : ℕ) (value : Bytes) → length (cond b (set l at value) l) ≡ length l
length-put true l at value = length-set l at value
length-put false l at value = refl

-- a write keeps the number of sectors of each disk
pub sizes-write : (disks : List Disk) (slot at : ℕ) (value : Bytes) (disk : Disk) → slot < length disks → disk.items ≡ set (contents_of disks slot) at value
    → (d : ℕ) → length (contents_of (set disks slot disk) d) ≡ length (contents_of disks d)
sizes-write disks slot at value disk within is d = ap length (contents-write disks slot at value disk within is d)
    ∙ length-put (d == slot) (contents_of disks d) at value

pub replayed_write : (start : List (Option Disk)) (log : List Entry) (calls : ℕ) (disks : List Disk) (flags : List Bool) (slot at : ℕ) (value : Bytes)
    (disk : Disk) → IsReplayed start log calls disks flags
    → slot < length disks → disk.items ≡ set (contents_of disks slot) at value → IsSector value
    → IsReplayed start (log ++ record { call = calls; event = Wrote slot at value } ∷ []) (calls + 1) (set disks slot disk) flags
replayed_write start log calls disks flags slot at value disk was within is whole =
    let next = run-entry (slots_of start) log calls (Wrote slot at value) was.early in record {
      seen = λ d. contents-write disks slot at value disk within is d ∙ ap (λ (l : List Bytes). cond (d == slot) (set l at value) l) (was.seen d)
          ∙ ap (λ (h : History). seen h d) (sym next);
      down = λ d. was.down d ∙ ap (λ (h : History). is_down h d) (sym next);
      early = later_entry calls log (Wrote slot at value) was.early;
      beyond = was.beyond;
      whole = λ d a v inside may. ⊎_elim (λ put. subst IsSector (sym put.2) whole) (was.whole d a v inside) (subst (λ (h : History). MayHold h d a v) next may);
    }

pub whole_at : (slot : Option (List Bytes)) (a : ℕ) (v : Bytes) → ((a : ℕ) → a < length (disk_of slot) → IsSector (get_or (disk_of slot) a []))
    → a < length (disk_of slot) → IsAt slot a v → IsSector v
whole_at None a v all within is = absurd is
whole_at (Some disk) a v all within is = subst IsSector (sym is) (all a within)

pub replayed_start : (start : List (Option Disk)) (log : List Entry) (disks : List Disk) (flags : List Bool) → log ≡ [] → AreCopies (length start) start disks
    → length disks ≡ length start
    → AreAbsences (length start) start flags → length flags ≡ length start → IsReplayed start log 0 disks flags
replayed_start start log disks flags none copies as_many absences flagged = record {
  seen = all_copied start disks copies as_many;
  down = all_absent start flags absences flagged;
  early = subst (All (IsEarlier 0)) (sym none) (λ k d within. absurd (omega (arith, within)));
  beyond = λ d past. slots_past start d (omega (arith, past, flagged));
  whole = λ d a v within may. whole_at (slots_of start d) a v
      (subst (λ (l : List Bytes). (a : ℕ) → a < length l → IsSector (get_or l a [])) (all_copied start disks copies as_many d)
      (all_whole start disks copies as_many d)) within may;
}

-- the count of calls is that of the run
pub replayed_few : (start : List (Option Disk)) (log : List Entry) (calls : ℕ) → calls_of (run_in start log calls) < GREATEST_COUNT → calls < GREATEST_COUNT
replayed_few start log calls few = omega (arith, few, calls-run (slots_of start) log calls)
