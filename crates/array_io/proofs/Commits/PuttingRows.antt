-- What is promised where the rows of an entry are put on a member, row by row.
use Rattle.std.proofs.Common.{◌≡◌, ◌≢◌, ◌⊎◌, inl, inr, ℕ, zero, suc, ◌+◌, ◌<◌, ◌≤◌, Bool, true, false, cond, List, [], ◌∷◌, ◌++◌, length, refl, sym, ◌∙◌, ap}
use Rattle.std.proofs.Common.{subst, arith}
use Rattle.std.specs.Prelude.{Result, Ok, Err, IfErr, OnOk, is_ok}
use Rattle.std.specs.List.Sorted.{IsStrictlyIncreasing}
use Rattle.std.proofs.lemmas.Bool.{cases_eq, cases_lt, false≢true}
use Rattle.sector_model.specs.declared.event.Event.{Event}
use Rattle.sector_model.specs.declared.event.Event.TheVariants.{Quiet, Lost, DeviceFailed}
use Rattle.sector_model.specs.declared.sector.Stop.{Stop}
use Rattle.sector_model.specs.declared.sector.Stop.TheVariants.{Down, Worn}
use Rattle.sector_model.specs.Bank.{IsCauseOf, IsLater, IsTrueTo, Panel, after_flush, after_try, after_write, fault_at}
use Rattle.sector_model.specs.Calls.{Call, Flush, Made, Write, after_all, after_call}
use Rattle.sector_model.specs.History.{After, Bytes, History, is_down, sector_of, seen}
use Rattle.sector_model.specs.MemoryLaw.{length-seen}
use Rattle.sector_model.specs.Moments.{Throughout, here}
use Rattle.sector_model.proofs.Panels.{later_both, later_same}
use Rattle.sector_model.proofs.Sequences.{AllKeep, IsKeptBy, after_both, keep_both, made_all, made_both, made_none, made_stop, made_then, seen_elsewhere}
use Rattle.sector_model.proofs.Sequences.{seen_written, sizes_after, throughout_kept}
use Rattle.sector_model.proofs.Steps.{throughout_last}
use Rattle.layout_map.specs.declared.sizes.TheConstants.{FIRST_ROW}
use Rattle.superblock.specs.declared.table.Table.{Table}
use Rattle.stripe_journal.specs.OneEntry.{StaysOff}
use Rattle.stripe_journal.specs.Seals.{row_at}
use Rattle.stripe_journal.proofs.OneEntryCalls.{AllOf, all_flushed, flushed_is_up, made_down, stays_off_calls}
use Rattle.stripe_journal.proofs.Places.{rising_order}
use Rattle.array_io.specs.Steps.Bringing.{CountsOn}
use Rattle.array_io.specs.Steps.PuttingRows.{CanPutRows, HeldRows, IsMemberOn, IsRowOn, PutsMember, WritesRows, is_put, row_call, row_calls}
use Rattle.array_io.specs.Steps.Writing.{IsWriting}
use Rattle.array_io.proofs.Commits.EntryCalls.{AllAllowed, calls_write}

-- conditions

still_up : (old new : Panel) (slot : ℕ) → IsLater old new → new.down slot ≡ false → old.down slot ≡ false
still_up old new slot later up = by_case (old.down slot) refl
  where
    by_case : (b : Bool) → old.down slot ≡ b → b ≡ false
    by_case true was = absurd (let down = later.down slot was in cc)
    by_case false was = refl

-- the row's sector is one of the member's
pub row_fits : (panel : Panel) (table : Table) (rows : List ℕ) (i member : ℕ) → CanPutRows table rows panel → i < length rows → IsMemberOn table member
    → panel.down member ≡ false
    → FIRST_ROW + row_at rows i < panel.sectors member
row_fits panel table rows i member can within on up = omega (arith, can.below i within, can.fit member on.of_members on.there up)

row_within : (panel : Panel) (h : History) (table : Table) (rows : List ℕ) (i member : ℕ) → IsTrueTo panel h → CanPutRows table rows panel → i < length rows
    → IsMemberOn table member
    → panel.down member ≡ false → FIRST_ROW + row_at rows i < length (seen h member)
row_within panel h table rows i member is_true can within on up =
    omega (arith, row_fits panel table rows i member can within on up, is_true.sectors member, length-seen h member)

-- calls

-- all of some calls, and all of others
allowed_both : (table : Table) (puts : (device at : ℕ) → Bytes → Type 0) (first second : List Call) → AllAllowed table puts first → AllAllowed table puts second
    → AllAllowed table puts (first ++ second)
allowed_both table puts [] second all others = others
allowed_both table puts (call ∷ first) second (one, all) others = (one, allowed_both table puts first second all others)

of_both : (devices : ℕ → Type 0) (first second : List Call) → AllOf devices first → AllOf devices second → AllOf devices (first ++ second)
of_both devices [] second all others = others
of_both devices (call ∷ first) second (one, all) others = (one, of_both devices first second all others)

-- after a call that failed reads give what they gave
seen_fault : (device : ℕ) (fault : Event) (h : History) → ((d : ℕ) → seen (After fault h) d ≡ seen h d) → (d : ℕ)
    → seen (After (fault_at device fault h) h) d ≡ seen h d
seen_fault device fault h same d = by_state (is_down h device)
  where
    by_state : (b : Bool) → seen (After (cond b Quiet fault) h) d ≡ seen h d
    by_state true = refl
    by_state false = same d

-- the call of a write, and of a flush
pub write_made : (device at : ℕ) (value : Bytes) (panel : Panel) (result : Result (Unit {0}) Stop) {old new : History}
    → new ≡ after_try (after_write device at value) result old
    → (result ≡ Ok tt → panel.down device ≡ false) → IsTrueTo panel new → Made (Write device at value ∷ []) (is_ok result) old new
write_made device at value panel (Ok done) {new = new} is up is_true = made_then (Write device at value) done panel is (up refl) is_true (made_none new)
write_made device at value panel (Err stop) is up is_true = made_stop (Write device at value) stop is

pub flush_made : (device : ℕ) (panel : Panel) (result : Result (Unit {0}) Stop) {old new : History} → new ≡ after_try (after_flush device) result old
    → (result ≡ Ok tt → panel.down device ≡ false) → IsTrueTo panel new → Made (Flush device ∷ []) (is_ok result) old new
flush_made device panel (Ok done) {new = new} is up is_true = made_then (Flush device) done panel is (up refl) is_true (made_none new)
flush_made device panel (Err stop) is up is_true = made_stop (Flush device) stop is

-- what holds at Ok
pub at_ok : {P : Type 0} (result : Result (Unit {0}) Stop) → OnOk result P → result ≡ Ok tt → P
at_ok (Ok done) is ok = is
at_ok (Err stop) is ok = absurd (cc)

-- why they ended
abbrev EndsAt : Panel → ℕ → Stop → Type 0
EndsAt panel device stop = IsCauseOf panel stop × ((stop ≡ Worn) ⊎ (stop ≡ Down device))

pub cause_of : (device : ℕ) (panel : Panel) (result : Result (Unit {0}) Stop) → IfErr result (EndsAt panel device) → (stop : Stop) → result ≡ Err stop
    → IsCauseOf panel stop
cause_of device panel (Ok done) ends stop is = absurd (cc)
cause_of device panel (Err was) ends stop is = let same : was ≡ stop = cc in subst (IsCauseOf panel) same ends.0

pub named_of : (device : ℕ) (panel : Panel) (result : Result (Unit {0}) Stop) → IfErr result (EndsAt panel device) → (named : ℕ) → result ≡ Err (Down named)
    → named ≡ device
named_of device panel (Ok done) ends named is = absurd (cc)
named_of device panel (Err was) ends named is = elim ends.1 [
  | inl worn ↦ absurd (cc)
  | inr down ↦ cc
]

-- rows

-- rising rows stand in different places
places_apart : (rows : List ℕ) (i j : ℕ) → IsStrictlyIncreasing rows → i < length rows → j < length rows → i ≢ j
    → FIRST_ROW + row_at rows i ≢ FIRST_ROW + row_at rows j
places_apart rows i j rising within within' apart same = elim (cases_lt i j) [
  | inl below ↦ omega (arith, rising_order rows i j rising below within', same)
  | inr most ↦ omega (arith, rising_order rows j i rising (omega (arith, most, apart)) within, same)
]

module _ (table : Table) (of : HeldRows) (member : ℕ) where
  abbrev Trusted : ℕ → Type 0
  Trusted i = is_put table of member i ≡ true

  abbrev calls_below : ℕ → List Call
  calls_below i = row_calls table of member i

  abbrev call_at : ℕ → List Call
  call_at i = row_call table of member i

  abbrev row_write : ℕ → Call
  row_write i = Write member (FIRST_ROW + row_at of.rows i) (of.values i member)

  -- the i-th row is one of them
  row_on : (i : ℕ) → i < length of.rows → Trusted i → IsRowOn table of member member (FIRST_ROW + row_at of.rows i) (of.values i member)
  row_on i within trusted = record { here = refl; i = i; below = within; put = trusted; place = refl; is = refl }

  -- the calls of the next row
  pub rows_next : (i : ℕ) {answered : Bool} {old mid new : History} → Made (calls_below i) true old mid → Made (call_at i) answered mid new
      → Made (calls_below (i + 1)) answered old new
  rows_next i {answered = answered} {old = old} {new = new} first second =
      let next : suc i ≡ i + 1 = omega arith in
      subst (λ (n : ℕ). Made (calls_below n) answered old new) next (made_both first second)

  -- it is written
  pub row_wrote : (i : ℕ) (panel : Panel) (result : Result (Unit {0}) Stop) {old new : History} (row : ℕ) (bytes : Bytes) → row ≡ row_at of.rows i
      → bytes ≡ of.values i member
      → new ≡ after_try (after_write member (FIRST_ROW + row) bytes) result old → (result ≡ Ok tt → panel.down member ≡ false) → IsTrueTo panel new → Trusted i
      → Made (call_at i) (is_ok result) old new
  row_wrote i panel result {old = old} {new = new} row bytes same_row same_bytes is up is_true trusted =
      let there = is ∙ ap (λ (n : ℕ). after_try (after_write member (FIRST_ROW + n) bytes) result old) same_row
      ∙ ap (λ (v : Bytes). after_try (after_write member (FIRST_ROW + row_at of.rows i) v) result old) same_bytes in
      subst (λ (b : Bool). Made (cond b (row_write i ∷ []) []) (is_ok result) old new) (sym trusted)
      (write_made member (FIRST_ROW + row_at of.rows i) (of.values i member) panel result there up is_true)

  -- the member's own sector doesn't count in it
  pub row_skipped : (i : ℕ) (h : History) → is_put table of member i ≡ false → Made (call_at i) true h h
  row_skipped i h untrusted = subst (λ (b : Bool). Made (cond b (row_write i ∷ []) []) true h h) (sym untrusted) (made_none h)

  -- what holds of no call, and of the write of the row where the member's own sector counts in it, holds of the row's call
  by_trust : (P : List Call → Type 0) (i : ℕ) → P [] → (Trusted i → P (row_write i ∷ [])) → P (call_at i)
  by_trust P i none one = by_state (is_put table of member i) refl
    where
      by_state : (b : Bool) → is_put table of member i ≡ b → P (cond b (row_write i ∷ []) [])
      by_state true is = one is
      by_state false is = none

  -- only the rows are put, on the member
  calls_allowed : CountsOn table member → (n : ℕ) → n ≤ length of.rows → AllAllowed table (IsRowOn table of member) (calls_below n)
  calls_allowed counted zero most = tt
  calls_allowed counted (suc n) most = allowed_both table (IsRowOn table of member) (calls_below n) (call_at n) (calls_allowed counted n (omega (arith, most)))
      (by_trust (λ calls. AllAllowed table (IsRowOn table of member) calls) n tt
      (λ trusted. ((counted, omega arith, row_on n (omega (arith, most)) trusted), tt)))

  calls_of : (n : ℕ) → AllOf (λ d. d ≡ member) (calls_below n)
  calls_of zero = tt
  calls_of (suc n) = of_both (λ d. d ≡ member) (calls_below n) (call_at n) (calls_of n)
      (by_trust (λ calls. AllOf (λ d. d ≡ member) calls) n tt (λ trusted. (refl, tt)))

  -- reads give what they gave, where none of the rows stands
  abbrev IsElsewhere : History → History → Type 0
  IsElsewhere old h = (at : ℕ) → ((value : Bytes) → ¬ IsRowOn table of member member at value) → sector_of (seen h member) at ≡ sector_of (seen old member) at

  write_elsewhere : (old : History) (i : ℕ) → i < length of.rows → Trusted i → IsKeptBy (IsElsewhere old) (row_write i)
  write_elsewhere old i within trusted = record { keeps = keeps }
    where
      keeps : (answered : Bool) (h : History) → IsElsewhere old h → IsElsewhere old (after_call (row_write i) answered h)
      keeps true h before at none = seen_elsewhere member (FIRST_ROW + row_at of.rows i) (of.values i member) h member at
          (λ same place. none (of.values i member) (record { here = refl; i = i; below = within; put = trusted; place = place; is = refl })) ∙ before at none
      keeps false h before at none =
          ap (λ (l : List Bytes). sector_of l at) (seen_fault member (Lost member (FIRST_ROW + row_at of.rows i) (of.values i member)) h (λ d. refl) member)
          ∙ before at none

  flush_elsewhere : (old : History) → IsKeptBy (IsElsewhere old) (Flush member)
  flush_elsewhere old = record { keeps = keeps }
    where
      keeps : (answered : Bool) (h : History) → IsElsewhere old h → IsElsewhere old (after_call (Flush member) answered h)
      keeps true h before at none = before at none
      keeps false h before at none = ap (λ (l : List Bytes). sector_of l at) (seen_fault member (DeviceFailed member) h (λ d. refl) member) ∙ before at none

  calls_elsewhere : (old : History) (n : ℕ) → n ≤ length of.rows → AllKeep (IsElsewhere old) (calls_below n)
  calls_elsewhere old zero most = tt
  calls_elsewhere old (suc n) most = keep_both (IsElsewhere old) (calls_below n) (call_at n) (calls_elsewhere old n (omega (arith, most)))
      (by_trust (λ calls. AllKeep (IsElsewhere old) calls) n tt (λ trusted. (write_elsewhere old n (omega (arith, most)) trusted, tt)))

  -- after the write of the n-th row reads give it, and the rows that they gave before
  row_last : (mid : History) (n i : ℕ) → FIRST_ROW + row_at of.rows n < length (seen mid member) → IsStrictlyIncreasing of.rows → n < length of.rows → i ≤ n
      → Trusted i
      → (i ≢ n → sector_of (seen mid member) (FIRST_ROW + row_at of.rows i) ≡ of.values i member)
      → sector_of (seen (after_all (call_at n) mid) member) (FIRST_ROW + row_at of.rows i) ≡ of.values i member
  row_last mid n i room rising within most trusted earlier = by_state (is_put table of member n) refl
    where
      differ : true ≡ false → ⊥
      differ wrong = cc

      here : sector_of (seen (after_call (row_write n) true mid) member) (FIRST_ROW + row_at of.rows n) ≡ of.values n member
      here = seen_written member (FIRST_ROW + row_at of.rows n) (of.values n member) mid room

      by_state : (b : Bool) → is_put table of member n ≡ b
          → sector_of (seen (after_all (cond b (row_write n ∷ []) []) mid) member) (FIRST_ROW + row_at of.rows i) ≡ of.values i member
      by_state true is = elim (cases_eq i n) [
        | inl same ↦ subst (λ (k : ℕ). sector_of (seen (after_call (row_write n) true mid) member) (FIRST_ROW + row_at of.rows k) ≡ of.values k member)
            (sym same) here
        | inr apart ↦ seen_elsewhere member (FIRST_ROW + row_at of.rows n) (of.values n member) mid member (FIRST_ROW + row_at of.rows i)
            (λ one place. places_apart of.rows i n rising (omega (arith, within, most)) within apart place) ∙ earlier apart
      ]
      by_state false is = elim (cases_eq i n) [
        | inl same ↦ absurd (differ (sym trusted ∙ ap (λ (k : ℕ). is_put table of member k) same ∙ is))
        | inr apart ↦ earlier apart
      ]

  -- the writes give the rows
  rows_written : (h : History) → IsStrictlyIncreasing of.rows → ((i : ℕ) → i < length of.rows → FIRST_ROW + row_at of.rows i < length (seen h member)) → (n : ℕ)
      → n ≤ length of.rows → (i : ℕ) → i < n → Trusted i
      → sector_of (seen (after_all (calls_below n) h) member) (FIRST_ROW + row_at of.rows i) ≡ of.values i member
  rows_written h rising room zero most i below trusted = absurd (omega (arith, below))
  rows_written h rising room (suc n) most i below trusted =
      ap (λ (g : History). sector_of (seen g member) (FIRST_ROW + row_at of.rows i)) (after_both (calls_below n) (call_at n) h)
      ∙ row_last (after_all (calls_below n) h) n i (omega (arith, room n (omega (arith, most)), sizes_after (calls_below n) h member)) rising
      (omega (arith, most)) (omega (arith, below)) trusted
      (λ apart. rows_written h rising room n (omega (arith, most)) i (omega (arith, below, apart)) trusted)

  -- the member

  member_counted : IsMemberOn table member → CountsOn table member
  member_counted on = record { of_set = omega (arith, on.of_members); there = on.there }

  -- what such calls give, answered or not
  pub record Gives (old new : History) : Type 0 where
    pub moments : Throughout (IsWriting table (IsRowOn table of member) old) old new
    pub off : StaysOff (λ d. d ≡ member) old new
    pub elsewhere : IsElsewhere old new

  gives : (calls : List Call) {answered : Bool} {old new : History} → AllAllowed table (IsRowOn table of member) calls → AllOf (λ d. d ≡ member) calls
      → AllKeep (IsElsewhere old) calls
      → Made calls answered old new → Gives old new
  gives calls {old = old} {new = new} allowed of_member keep made = record {
    moments = calls_write table (IsRowOn table of member) calls allowed made;
    off = throughout_last new (stays_off_calls (λ d. d ≡ member) of_member made);
    elsewhere = throughout_last new (throughout_kept (IsElsewhere old) keep (λ at none. refl) made);
  }

  rows_give : (n : ℕ) {answered : Bool} {old new : History} → IsMemberOn table member → n ≤ length of.rows → Made (calls_below n) answered old new
      → Gives old new
  rows_give n {old = old} on most made = gives (calls_below n) (calls_allowed (member_counted on) n most) (calls_of n) (calls_elsewhere old n most) made

  all_give : (n : ℕ) {answered : Bool} {old new : History} → IsMemberOn table member → n ≤ length of.rows
      → Made (calls_below n ++ Flush member ∷ []) answered old new → Gives old new
  all_give n {old = old} on most made =
      let counted = member_counted on in
      gives (calls_below n ++ Flush member ∷ [])
      (allowed_both table (IsRowOn table of member) (calls_below n) (Flush member ∷ []) (calls_allowed counted n most) (counted, tt))
      (of_both (λ d. d ≡ member) (calls_below n) (Flush member ∷ []) (calls_of n) (refl, tt))
      (keep_both (IsElsewhere old) (calls_below n) (Flush member ∷ []) (calls_elsewhere old n most) (flush_elsewhere old, tt)) made

  -- the writes ended with an error
  pub member_short : {honest : Type 0} (old_panel new_panel : Panel) {old new : History} (result : Result (Unit {0}) Stop) (stop : Stop) → result ≡ Err stop
      → IsMemberOn table member
      → IsLater old_panel new_panel → EndsAt new_panel member stop → (honest → WritesRows table of member old new (Err stop))
      → PutsMember honest table of member old_panel new_panel old new result
  member_short {honest = honest} old_panel new_panel {old = old} {new = new} result stop is on later ends writes = record {
    later = later;
    cause = cause_of member new_panel result ends_so;
    named = named_of member new_panel result ends_so;
    moments = λ honest. (give honest).moments;
    off = λ honest. (give honest).off;
    elsewhere = λ honest. (give honest).elsewhere;
    none_failed = λ honest ok. absurd (cc);
    written = λ honest ok. absurd (cc);
    flushed = λ honest ok. absurd (cc);
  }
    where
      ends_so : IfErr result (EndsAt new_panel member)
      ends_so = subst (λ (r : Result (Unit {0}) Stop). IfErr r (EndsAt new_panel member)) (sym is) ends

      give : honest → Gives old new
      give honest = let w = writes honest in rows_give w.count on w.most w.made

  -- the member is flushed
  pub member_flushed : {honest : Type 0} (first second third : Panel) {old mid new : History} (result : Result (Unit {0}) Stop) → IsMemberOn table member
      → CanPutRows table of.rows first
      → IsLater first second → IsLater second third → IfErr result (EndsAt third member) → (result ≡ Ok tt → third.down member ≡ false)
      → (honest → IsTrueTo first old) → (honest → IsTrueTo third new) → (honest → WritesRows table of member old mid (Ok tt))
      → (honest → new ≡ after_try (after_flush member) result mid) → PutsMember honest table of member first third old new result
  member_flushed {honest = honest} first second third {old = old} {mid = mid} {new = new} result on can later then ends up first_true third_true writes flush =
      record {
        later = later_both _ _ _ later then;
        cause = cause_of member third result ends;
        named = named_of member third result ends;
        moments = λ honest. (give honest).moments;
        off = λ honest. (give honest).off;
        elsewhere = λ honest. (give honest).elsewhere;
        none_failed = λ honest ok. made_down (whole honest ok);
        written = λ honest ok i below trusted.
            ap (λ (h : History). sector_of (seen h member) (FIRST_ROW + row_at of.rows i))
            (made_all (whole honest ok) ∙ after_both (calls_below (length of.rows)) (Flush member ∷ []) old)
            ∙ rows_written old can.rising (λ j within. row_within first old table of.rows j member (first_true honest) can within on (was_up honest ok))
            (length of.rows) (omega arith) i below trusted;
        flushed = λ honest ok before. all_flushed member (calls_below (length of.rows)) (whole honest ok);
      }
    where
      made : honest → Made (calls_below (length of.rows) ++ Flush member ∷ []) (is_ok result) old new
      made honest =
          let w = writes honest in
          made_both (subst (λ (n : ℕ). Made (calls_below n) true old mid) (w.all refl) w.made)
          (flush_made member third result (flush honest) up (third_true honest))

      whole : honest → result ≡ Ok tt → Made (calls_below (length of.rows) ++ Flush member ∷ []) true old new
      whole honest ok = subst (λ (b : Bool). Made (calls_below (length of.rows) ++ Flush member ∷ []) b old new)
          (ap (λ (r : Result (Unit {0}) Stop). is_ok r) ok) (made honest)

      give : honest → Gives old new
      give honest = all_give (length of.rows) on (omega arith) (made honest)

      was_up : honest → result ≡ Ok tt → first.down member ≡ false
      was_up honest ok = (first_true honest).down member ∙ sym (made_down (whole honest ok) member)
          ∙ flushed_is_up member (calls_below (length of.rows)) (whole honest ok)

  -- none of the rows is put on the member
  pub member_untouched : {honest : Type 0} (panel : Panel) (h : History) → ((i : ℕ) → i < length of.rows → is_put table of member i ≡ false)
      → PutsMember honest table of member panel panel h h (Ok tt)
  member_untouched panel h none = record {
    later = later_same panel;
    cause = λ stop is. absurd (cc);
    named = λ device is. absurd (cc);
    moments = λ honest. here record {
      holds = λ device at value may. inl may;
      start = λ device. refl;
      stays_down = λ device down. down;
      others_stay =
          λ device out. refl;
    };
    off = λ honest. record {
      start = λ device. refl;
      stays_down = λ device down. down;
      others = λ device at value apart may. may;
      others_down = λ device apart. refl;
      others_seen = λ device apart. refl;
    };
    elsewhere = λ honest at apart. refl;
    none_failed = λ honest ok device. refl;
    written = λ honest ok i below put. absurd (false≢true (sym (none i below) ∙ put));
    flushed = λ honest ok before. before;
  }
