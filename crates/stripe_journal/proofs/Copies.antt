-- Sectors copied from one journal to the other.
use Rattle.std.proofs.Common.{◌≡◌, ◌≢◌, ◌⊎◌, inl, inr, Bool, true, false, ℕ, suc, ◌+◌, ◌-◌, ◌<◌, List, [], ◌∷◌, map, refl, sym, subst, ap, ◌∙◌, arith}
use Rattle.std.specs.Prelude.{Result, Ok, Err, OnOk, IfErr, is_ok, cond, slice_set}
use Rattle.std.specs.List.{range_with_len}
use Rattle.std.proofs.lemmas.Result.{IfErr-at_err}
use Rattle.sector_model.specs.declared.sector.Stop.{Stop}
use Rattle.sector_model.specs.declared.sector.Stop.TheVariants.{Down, Worn}
use Rattle.sector_model.specs.Bank.{IsCauseOf, IsLater, IsTrueTo, Panel, after_flush, after_read, after_try, after_write}
use Rattle.sector_model.specs.Calls.{Flush, Made, Read, Write}
use Rattle.sector_model.specs.History.{History, Bytes, seen, sector_of}
use Rattle.sector_model.proofs.Replay.{eqb_other}
use Rattle.sector_model.proofs.Sequences.{made_both, made_none, made_short, made_stop, made_then}
use Rattle.stripe_journal.specs.declared.seal.Seal.{Seal}
use Rattle.stripe_journal.specs.Body.{seal_place}
use Rattle.stripe_journal.specs.Copying.{CopiesEntry, body_in, copied_from, copy_calls}
use Rattle.stripe_journal.specs.Entries.{body_start}
use Rattle.stripe_journal.specs.Spelling.{seal_sector}

-- the sectors of a journal that lie i to n places after a first one
abbrev pub sectors_from : (journal : List Bytes) (first i n : ℕ) → List Bytes
sectors_from journal first i n = map (λ k. sector_of journal (first + k)) (range_with_len i (n - i))

-- the first of them, and the others
sectors_next : (journal : List Bytes) (first i n : ℕ) → i < n → sectors_from journal first i n ≡ sector_of journal (first + i)
    ∷ sectors_from journal first (i + 1) n
sectors_next journal first i n within =
    let more : n - i ≡ suc (n - (i + 1)) = omega arith in
    ap (λ (k : ℕ). map (λ k. sector_of journal (first + k)) (range_with_len i k)) more

-- after a sector was copied to another journal, reads of this one give the same
pub seen_copied : (from to at : ℕ) (journal : List Bytes) (value : Bytes) {old mid next : History} (done : Unit {0}) → from ≢ to
    → mid ≡ after_try (after_read from) (Ok done) old → next ≡ after_try (after_write to at value) (Ok done) mid → seen old from ≡ journal
    → seen next from ≡ journal
seen_copied from to at journal value {mid = mid} done apart read write same =
    ap (λ (h : History). seen h from) write
    ∙ ap (λ (b : Bool). cond b (slice_set (seen mid from) at value) (seen mid from)) (eqb_other from to apart)
    ∙ ap (λ (h : History). seen h from) read ∙ same

-- the read of a sector gives what the journal had there
held : (from at : ℕ) (journal : List Bytes) (value : Bytes) (old : History) → value ≡ sector_of (seen old from) at → seen old from ≡ journal
    → value ≡ sector_of journal at
held from at journal value old is same = is ∙ ap (λ (disk : List Bytes). sector_of disk at) same

-- of sectors that are copied from one place on, the read of the first is not answered
pub copy_unread : (from to first i n : ℕ) (journal : List Bytes) {old new : History} (stop : Stop) → i < n
    → new ≡ after_try (after_read from) (Err stop) old → Made (copied_from from to (first + i) (sectors_from journal first i n)) false old new
copy_unread from to first i n journal {old = old} {new = new} stop within is =
    subst (λ (values : List Bytes). Made (copied_from from to (first + i) values) false old new) (sym (sectors_next journal first i n within))
    (made_stop (Read from (first + i)) stop is)

-- its write is not answered
pub copy_unwritten : (from to first i n : ℕ) (journal : List Bytes) (value : Bytes) {old mid new : History} (done : Unit {0}) (after : Panel) (stop : Stop)
    → i < n → seen old from ≡ journal
    → mid ≡ after_try (after_read from) (Ok done) old → after.down from ≡ false → IsTrueTo after mid → value ≡ sector_of (seen old from) (first + i)
    → new ≡ after_try (after_write to (first + i) value) (Err stop) mid → Made (copied_from from to (first + i) (sectors_from journal first i n)) false old new
copy_unwritten from to first i n journal value {old = old} {mid = mid} {new = new} done after stop within same read up is_true is write =
    let first_write = subst (λ (value : Bytes). new ≡ after_try (after_write to (first + i) value) (Err stop) mid)
    (held from (first + i) journal value old is same) write in
    subst (λ (values : List Bytes). Made (copied_from from to (first + i) values) false old new) (sym (sectors_next journal first i n within))
    (made_then (Read from (first + i)) done after read up is_true (made_stop (Write to (first + i) (sector_of journal (first + i))) stop first_write))

-- it is copied, and then the others
pub copy_then : (from to first i n : ℕ) (journal : List Bytes) (value : Bytes) {answered : Bool} {old mid next new : History} (done : Unit {0})
    (after last : Panel) → i < n → seen old from ≡ journal
    → mid ≡ after_try (after_read from) (Ok done) old → after.down from ≡ false → IsTrueTo after mid → value ≡ sector_of (seen old from) (first + i)
    → next ≡ after_try (after_write to (first + i) value) (Ok done) mid → last.down to ≡ false → IsTrueTo last next
    → Made (copied_from from to (first + (i + 1)) (sectors_from journal first (i + 1) n)) answered next new
    → Made (copied_from from to (first + i) (sectors_from journal first i n)) answered old new
copy_then from to first i n journal value {answered = answered} {old = old} {mid = mid} {next = next} {new = new} done after last within same read up is_true is
    write last_up last_true rest =
    let at_is : first + (i + 1) ≡ (first + i) + 1 = omega arith in
    let first_write = subst (λ (value : Bytes). next ≡ after_try (after_write to (first + i) value) (Ok done) mid)
    (held from (first + i) journal value old is same) write in
    let others = subst (λ (at : ℕ). Made (copied_from from to at (sectors_from journal first (i + 1) n)) answered next new) at_is rest in
    subst (λ (values : List Bytes). Made (copied_from from to (first + i) values) answered old new) (sym (sectors_next journal first i n within))
    (made_then (Read from (first + i)) done after read up is_true
    (made_then (Write to (first + i) (sector_of journal (first + i))) done last first_write last_up last_true others))

-- parts of the calls of a copy

-- the body is not copied to its end
pub short_in_copy : (from to : ℕ) (seal : Seal) (body : List Bytes) {old new : History}
    → Made (copied_from from to (body_start seal) body) false old new → Made (copy_calls from to seal body) false old new
short_in_copy from to seal body copied = made_short (Flush to ∷ Write to (seal_place seal.number) (seal_sector seal) ∷ Flush to ∷ []) copied

-- the flush after it is not answered
pub short_after_copy : (from to : ℕ) (seal : Seal) (body : List Bytes) {old mid new : History} (stop : Stop)
    → Made (copied_from from to (body_start seal) body) true old mid → new ≡ after_try (after_flush to) (Err stop) mid
    → Made (copy_calls from to seal body) false old new
short_after_copy from to seal body stop copied is = made_both copied (made_stop (Flush to) stop is)

-- the body is safe
pub copy_then_seal : (from to : ℕ) (seal : Seal) (body : List Bytes) {answered : Bool} {old mid safe new : History} (done : Unit {0}) (after : Panel)
    → Made (copied_from from to (body_start seal) body) true old mid → safe ≡ after_try (after_flush to) (Ok done) mid → after.down to ≡ false
    → IsTrueTo after safe
    → Made (Write to (seal_place seal.number) (seal_sector seal) ∷ Flush to ∷ []) answered safe new
    → Made (copy_calls from to seal body) answered old new
copy_then_seal from to seal body done after copied is up is_true rest = made_both copied (made_then (Flush to) done after is up is_true rest)

-- the last flush, answered or not
pub last_flush : (device : ℕ) {old new : History} (result : Result (Unit {0}) Stop) (after : Panel)
    → new ≡ after_try (after_flush device) result old → OnOk result (after.down device ≡ false) → IsTrueTo after new
    → Made (Flush device ∷ []) (is_ok result) old new
last_flush device (Ok done) after is up is_true = made_then (Flush device) done after is up is_true (made_none _)
last_flush device (Err stop) after is up is_true = made_stop (Flush device) stop is

-- why a copy ends early
abbrev pub EndsCopy : (from to : ℕ) → Panel → Stop → Type 0
EndsCopy from to panel stop = IsCauseOf panel stop × ((stop ≡ Worn) ⊎ (stop ≡ Down from) ⊎ (stop ≡ Down to))

-- one of the calls of the journal that is written ended it
pub ends_at_target : (from to : ℕ) (panel : Panel) (stop : Stop) → IsCauseOf panel stop × ((stop ≡ Worn) ⊎ (stop ≡ Down to)) → EndsCopy from to panel stop
ends_at_target from to panel stop (cause, inl worn) = (cause, inl worn)
ends_at_target from to panel stop (cause, inr down) = (cause, inr (inr down))

-- the last call, answered or not
pub ends_by_flush : (from to : ℕ) (panel : Panel) (result : Result (Unit {0}) Stop)
    → IfErr result (λ stop. IsCauseOf panel stop × ((stop ≡ Worn) ⊎ (stop ≡ Down to))) → IfErr result (EndsCopy from to panel)
ends_by_flush from to panel (Ok done) ends = tt
ends_by_flush from to panel (Err stop) ends = ends_at_target from to panel stop ends

-- a device that ended it is one of the two journals
named_by : (from to device : ℕ) (stop : Stop) → stop ≡ Down device → (stop ≡ Worn) ⊎ (stop ≡ Down from) ⊎ (stop ≡ Down to) → (device ≡ from) ⊎ (device ≡ to)
named_by from to device stop is (inl worn) = absurd (cc)
named_by from to device stop is (inr (inl down)) = inl (cc)
named_by from to device stop is (inr (inr down)) = inr (cc)

-- a copy promises what its calls and the reason of its end say
pub copies_by : {honest : Type 0} {members from to : ℕ} {seal : Seal} {old_panel new_panel : Panel} {old new : History} (result : Result (Unit {0}) Stop)
    → IsLater old_panel new_panel
    → (honest → Made (copy_calls from to seal (body_in members (seen old from) seal)) (is_ok result) old new)
    → IfErr result (EndsCopy from to new_panel)
    → CopiesEntry honest members from to seal old_panel new_panel old new result
copies_by {from = from} {to = to} {new_panel = new_panel} result later made ends = record {
  later = later;
  made = made;
  cause = λ stop is. (IfErr-at_err (EndsCopy from to new_panel) is ends).0;
  named = λ device is. named_by from to device (Down device) refl (IfErr-at_err (EndsCopy from to new_panel) is ends).1;
}

-- the same of a copy that ended early, at this stop
pub copies_short : {honest : Type 0} {members from to : ℕ} {seal : Seal} {old_panel new_panel : Panel} {old new : History} (result : Result (Unit {0}) Stop)
    (stop given : Stop) → result ≡ Err given → given ≡ stop
    → IsLater old_panel new_panel → (honest → Made (copy_calls from to seal (body_in members (seen old from) seal)) false old new)
    → EndsCopy from to new_panel stop
    → CopiesEntry honest members from to seal old_panel new_panel old new result
copies_short {honest = honest} {members = members} {from = from} {to = to} {seal = seal} {old_panel = old_panel} {new_panel = new_panel} {old = old} {new = new}
    result stop given is same later made ends =
    subst (λ (result : Result (Unit {0}) Stop). CopiesEntry honest members from to seal old_panel new_panel old new result) (sym (is ∙ ap Err same))
    (copies_by (Err stop) later made ends)

-- why a copy ended: the one device went down, or the other
pub one_of : {stop : Stop} {from to : ℕ} → (stop ≡ Worn) ⊎ (stop ≡ Down from) → (stop ≡ Worn) ⊎ ((stop ≡ Down from) ⊎ (stop ≡ Down to))
one_of (inl worn) = inl worn
one_of (inr down) = inr (inl down)

pub other_of : {stop : Stop} {from to : ℕ} → (stop ≡ Worn) ⊎ (stop ≡ Down to) → (stop ≡ Worn) ⊎ ((stop ≡ Down from) ⊎ (stop ≡ Down to))
other_of (inl worn) = inl worn
other_of (inr down) = inr (inr down)
