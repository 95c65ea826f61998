-- The calls of publishing a table, as the code makes them.
use Rattle.std.proofs.Common.{◌≡◌, ◌≢◌, ◌⊎◌, inl, inr, ℕ, suc, ◌+◌, ◌-◌, ◌<◌, ◌≤◌, ◌&&◌, nat_lt, Bool, true, false, not, cond, List, [], ◌∷◌, map, refl, sym}
use Rattle.std.proofs.Common.{◌∙◌, ap, subst, arith}
use Rattle.std.proofs.lemmas.Bool.{and_parts, eq-eqb, lt-ltb, ltb-true, not-true}
use Rattle.std.proofs.lemmas.Result.{IfErr-at_err}
use Rattle.std.proofs.lemmas.List.Elements.{Contains-append_left, Contains-append_right}
use Rattle.std.specs.Prelude.{Contains, Err, IfErr, Ok, OnOk, Option, None, Some, Result, filter, is_ok}
use Rattle.std.specs.List.{range_with_len}
use Rattle.std.specs.Option.{option_eq}
use lib.Dec.{eqb}
use denote.Enum.Bare.{sameb}
use Rattle.sector_model.specs.declared.sector.Stop.{Stop}
use Rattle.sector_model.specs.declared.sector.Stop.TheVariants.{Down, Worn}
use Rattle.sector_model.specs.Bank.{IsCauseOf, IsLater, IsTrueTo, Panel, after_try}
use Rattle.sector_model.specs.Calls.{Call, Flush, Made, Write, after_call, device_of}
use Rattle.sector_model.specs.History.{Bytes, History}
use Rattle.sector_model.proofs.Sequences.{made_both, made_none, made_short, made_stop, made_then}
use Rattle.layout_map.specs.declared.sizes.TheConstants.{SUPERBLOCK_PLACES}
use Rattle.superblock.specs.contracts.state.State.{the_type}
use Rattle.superblock.specs.declared.state.State.{State}
use Rattle.superblock.specs.declared.state.State.TheVariants.{InSync, Missing, Rebuilding}
use Rattle.superblock.specs.declared.table.Superblock.{Superblock}
use Rattle.superblock.specs.declared.table.Table.{Table}
use Rattle.superblock.specs.NextTables.{slots_of}
use Rattle.superblock.specs.Publishing.{CanPublish, Publishes, StandsAt, first_slots, is_last, last_slots, place_of, publish_calls, written_and_flushed}
use Rattle.superblock.specs.Reading.{fields_of}
use Rattle.superblock.specs.Spelling.{superblock_sector}
use Rattle.superblock.specs.States.{is_in_sync, is_missing}
use Rattle.superblock.specs.Tables.{state_at}
use Rattle.superblock.proofs.Published.{FirstAreDone, HavePlaces, have_places, published_either, published_first, published_last, published_safe}
use Rattle.superblock.proofs.PublishSteps.{GetsIt}
use Rattle.superblock.proofs.PublishedSlots.{IsFirst, first_has, first_is}
use Rattle.superblock.proofs.Same.{same_superblock}

-- one sector

-- two superblocks of one table in one slot spell one sector
pub one_sector : (superblock : Superblock) (table : Table) (slot : ℕ) (sector : Bytes) → superblock.table ≡ table → superblock.role ≡ slot
    → StandsAt table slot sector
    → sector ≡ superblock_sector superblock
one_sector superblock table slot sector carries own_slot stands =
    let table_is : stands.superblock.table ≡ superblock.table = stands.carries ∙ sym carries in
    let role_is : stands.superblock.role ≡ superblock.role = stands.own_slot ∙ sym own_slot in
    let same : fields_of stands.superblock ≡ fields_of superblock = λ i. record {
      format = (table_is i).geometry.format;
      id = (table_is i).id;
      generation = (table_is i).generation;
      members = (table_is i).geometry.members;
      role = role_is i;
      chunk = (table_is i).geometry.chunk;
      stripes = (table_is i).geometry.stripes;
      states = (table_is i).states;
      incarnations = (table_is i).incarnations;
      position = (table_is i).position;
    } in
    stands.spelled ∙ ap (λ (s : Superblock). superblock_sector s) (same_superblock stands.superblock superblock same)

-- one call

-- a call, answered or not
pub made_one : {old new : History} (call : Call) (result : Result (Unit {0}) Stop) (after : Panel)
    → new ≡ after_try (after_call call) result old → OnOk result (after.down (device_of call) ≡ false) → IsTrueTo after new
    → Made (call ∷ []) (is_ok result) old new
made_one call (Ok done) after is up is_true = made_then call done after is up is_true (made_none _)
made_one call (Err stop) after is up is_true = made_stop call stop is

-- the calls of the slots that are chosen

-- the chosen slots from one on, of n in all
abbrev pub slots_from : (ℕ → Bool) → (from n : ℕ) → List ℕ
slots_from test from n = filter test (range_with_len from (n - from))

slots_next : (test : ℕ → Bool) (from n : ℕ) → from < n
    → slots_from test from n ≡ cond (test from) (from ∷ slots_from test (from + 1) n) (slots_from test (from + 1) n)
slots_next test from n within =
    let more : n - from ≡ suc (n - (from + 1)) = omega arith in
    ap (λ (count : ℕ). filter test (range_with_len from count)) more

slots_chosen : (test : ℕ → Bool) (from n : ℕ) → from < n → test from ≡ true → slots_from test from n ≡ from ∷ slots_from test (from + 1) n
slots_chosen test from n within is = slots_next test from n within
    ∙ ap (λ (b : Bool). cond b (from ∷ slots_from test (from + 1) n) (slots_from test (from + 1) n)) is

slots_passed : (test : ℕ → Bool) (from n : ℕ) → from < n → test from ≡ false → slots_from test from n ≡ slots_from test (from + 1) n
slots_passed test from n within is = slots_next test from n within
    ∙ ap (λ (b : Bool). cond b (from ∷ slots_from test (from + 1) n) (slots_from test (from + 1) n)) is

-- all are left
pub slots_start : (test : ℕ → Bool) (call : ℕ → Call) (n : ℕ) {answered : Bool} {old new : History}
    → Made (map call (slots_from test 0 n)) answered old new → Made (map call (filter test (range_with_len 0 n))) answered old new
slots_start test call n {answered = answered} {old = old} {new = new} made =
    let all : n - 0 ≡ n = omega arith in
    subst (λ (count : ℕ). Made (map call (filter test (range_with_len 0 count))) answered old new) all made

-- none is left
pub slots_end : (test : ℕ → Bool) (call : ℕ → Call) (from n : ℕ) (h : History) → n ≤ from → Made (map call (slots_from test from n)) true h h
slots_end test call from n h all =
    let none : n - from ≡ 0 = omega (arith, all) in
    subst (λ (count : ℕ). Made (map call (filter test (range_with_len from count))) true h h) (sym none) (made_none h)

-- the call of this slot is answered
pub slots_then : (test : ℕ → Bool) (call : ℕ → Call) (from n : ℕ) {answered : Bool} {old mid new : History} → from < n → test from ≡ true
    → Made (call from ∷ []) true old mid → Made (map call (slots_from test (from + 1) n)) answered mid new
    → Made (map call (slots_from test from n)) answered old new
slots_then test call from n {answered = answered} {old = old} {new = new} within is first rest =
    subst (λ (slots : List ℕ). Made (map call slots) answered old new) (sym (slots_chosen test from n within is)) (made_both first rest)

-- it isn't
pub slots_short : (test : ℕ → Bool) (call : ℕ → Call) (from n : ℕ) {old new : History} → from < n → test from ≡ true
    → Made (call from ∷ []) false old new → Made (map call (slots_from test from n)) false old new
slots_short test call from n {old = old} {new = new} within is first =
    subst (λ (slots : List ℕ). Made (map call slots) false old new) (sym (slots_chosen test from n within is))
    (made_short (map call (slots_from test (from + 1) n)) first)

-- this slot isn't chosen
pub slots_skip : (test : ℕ → Bool) (call : ℕ → Call) (from n : ℕ) {answered : Bool} {old new : History} → from < n → test from ≡ false
    → Made (map call (slots_from test (from + 1) n)) answered old new → Made (map call (slots_from test from n)) answered old new
slots_skip test call from n {answered = answered} {old = old} {new = new} within is rest =
    subst (λ (slots : List ℕ). Made (map call slots) answered old new) (sym (slots_passed test from n within is)) rest

-- the first slots

-- whether a slot is one of them
abbrev pub is_first : Table → Option ℕ → ℕ → Bool
is_first table last slot = is_in_sync (state_at table.states slot) && not (is_last last slot)

pub test_is : (table : Table) (last : Option ℕ) (slot : ℕ) (result answer : Bool)
    → result ≡ is_first table last slot → result ≡ answer → is_first table last slot ≡ answer
test_is table last slot result answer is told = sym is ∙ told

-- the test, as the code makes it
same_last : (last : Option ℕ) (slot : ℕ) → option_eq eqb last (Some slot) ≡ is_last last slot
same_last None slot = refl
same_last (Some last) slot = refl

pub first_if : (state : State) (last : Option ℕ) (slot : ℕ) (answer : Bool) → sameb the_type state InSync ≡ true → answer ≡ not (option_eq eqb last (Some slot))
    → answer ≡ (is_in_sync state && not (is_last last slot))
first_if Missing last slot answer same is = absurd (cc)
first_if InSync last slot answer same is = is ∙ ap not (same_last last slot)
first_if Rebuilding last slot answer same is = absurd (cc)

pub first_off : (state : State) (last : Option ℕ) (slot : ℕ) (answer : Bool) → sameb the_type state InSync ≡ false → answer ≡ false
    → answer ≡ (is_in_sync state && not (is_last last slot))
first_off Missing last slot answer same is = is
first_off InSync last slot answer same is = absurd (cc)
first_off Rebuilding last slot answer same is = is

sync_is : (state : State) → is_in_sync state ≡ true → state ≡ InSync
sync_is Missing is = absurd (cc)
sync_is InSync is = refl
sync_is Rebuilding is = absurd (cc)

last_itself : (last : Option ℕ) (slot : ℕ) → last ≡ Some slot → is_last last slot ≡ true
last_itself last slot is = ap (λ (l : Option ℕ). is_last l slot) is ∙ eq-eqb slot slot refl

-- a slot of the set at which the test says yes
first_by_test : (table : Table) (last : Option ℕ) (slot : ℕ) → slot < slots_of table → is_first table last slot ≡ true → IsFirst table last slot
first_by_test table last slot within is =
    let parts = and_parts (is_in_sync (state_at table.states slot)) (not (is_last last slot)) is in
    let apart = not-true (is_last last slot) parts.1 in
    record {
      of_set = within;
      in_sync = sync_is (state_at table.states slot) parts.0;
      not_last = λ same. absurd (let itself = last_itself last slot same in cc);
    }

-- the table doesn't call it missing
pub first_state : (table : Table) (last : Option ℕ) (slot : ℕ) → slot < slots_of table → is_first table last slot ≡ true → state_at table.states slot ≢ Missing
first_state table last slot within is = λ missing. absurd (let in_sync = (first_by_test table last slot within is).in_sync in cc)

-- the device that a call of it names is one of the first
pub first_named : (table : Table) (last : Option ℕ) (slot device : ℕ) (panel : Panel) (stop : Stop) → slot < slots_of table → is_first table last slot ≡ true
    → IsCauseOf panel stop × ((stop ≡ Worn) ⊎ (stop ≡ Down slot)) → stop ≡ Down device → Contains (first_slots table last) device
first_named table last slot device panel stop within is cause down = elim cause.1 [
  | inl worn ↦ absurd (cc)
  | inr of_slot ↦ let same : slot ≡ device = cc in subst (Contains (first_slots table last)) same
      (first_has table last slot (first_by_test table last slot within is))
]

-- a slot of the set is one of the bank's after some calls, and still has both places
up_before : (before after : Bool) → (before ≡ true → after ≡ true) → after ≡ false → before ≡ false
up_before false after keep up = refl
up_before true after keep up = absurd (let down = keep refl in cc)

pub first_in_bank : {table : Table} {last : Option ℕ} {old new : Panel} (slot : ℕ) → CanPublish old table last → IsLater old new → slot < slots_of table
    → slot < new.devices
first_in_bank slot can later within = omega (arith, can.of_bank, later.devices)

pub first_has_places : {table : Table} {last : Option ℕ} {old new : Panel} (slot : ℕ) → CanPublish old table last → IsLater old new → slot < slots_of table
    → is_first table last slot ≡ true → new.down slot ≡ false → SUPERBLOCK_PLACES ≤ new.sectors slot
first_has_places {table = table} {last = last} {old = old} {new = new} slot can later within is up =
    let two = can.has_places slot within (first_state table last slot within is) (up_before (old.down slot) (new.down slot) (later.down slot) up) in
    rw (later.sectors slot) two

pub can_later : {table : Table} {last : Option ℕ} {old new : Panel} → CanPublish old table last → IsLater old new → CanPublish new table last
can_later {old = old} {new = new} can later = record {
  of_bank = rw later.devices can.of_bank;
  last_in_set = can.last_in_set;
  last_there = can.last_there;
  has_places = λ slot within there up. rw (later.sectors slot)
      (can.has_places slot within there (up_before (old.down slot) (new.down slot) (later.down slot) up));
}

-- the sectors of a table

missing_is : (state : State) → is_missing state ≡ true → state ≡ Missing
missing_is Missing is = refl
missing_is InSync is = absurd (cc)
missing_is Rebuilding is = absurd (cc)

missing_not : (state : State) → is_missing state ≡ false → state ≢ Missing
missing_not Missing is = absurd (cc)
missing_not InSync is = λ same. absurd (cc)
missing_not Rebuilding is = λ same. absurd (cc)

-- the superblock of a slot
abbrev superblock_for : (table : Table) (slot : ℕ) → nat_lt slot (slots_of table) ≡ true → is_missing (state_at table.states slot) ≡ false → Superblock
superblock_for table slot within there = record {
  table = table;
  role = slot;
  of_set = ltb-true slot (slots_of table) within;
  there = missing_not (state_at table.states slot) there;
}

sector_if : (table : Table) (slot : ℕ) (within out : Bool) → nat_lt slot (slots_of table) ≡ within → is_missing (state_at table.states slot) ≡ out → Bytes
sector_if table slot true false within there = superblock_sector (superblock_for table slot within there)
sector_if table slot true true within out = []
sector_if table slot false out within is = []

-- its sector, and nothing where the table has none for the slot
pub sector_for : Table → ℕ → Bytes
sector_for table slot = sector_if table slot (nat_lt slot (slots_of table)) (is_missing (state_at table.states slot)) refl refl

stands_if : (table : Table) (slot : ℕ) (within out : Bool) (is_within : nat_lt slot (slots_of table) ≡ within)
    (is_out : is_missing (state_at table.states slot) ≡ out)
    → slot < slots_of table → state_at table.states slot ≢ Missing → StandsAt table slot (sector_if table slot within out is_within is_out)
unfolding sector_if
stands_if table slot true false within out below there =
    record { superblock = superblock_for table slot within out; carries = refl; own_slot = refl; spelled = refl }
stands_if table slot true true within out below there = absurd (there (missing_is (state_at table.states slot) out))
stands_if table slot false out within is below there = absurd (let below' = lt-ltb slot (slots_of table) below in cc)

pub sector_stands : (table : Table) (slot : ℕ) → slot < slots_of table → state_at table.states slot ≢ Missing → StandsAt table slot (sector_for table slot)
unfolding sector_for
sector_stands table slot below there = stands_if table slot (nat_lt slot (slots_of table)) (is_missing (state_at table.states slot)) refl refl below there

-- all the calls

-- the sectors are the superblocks of the slots that the table doesn't call missing
abbrev AreSpelled : Table → (ℕ → Bytes) → Type 0
AreSpelled table sectors = (slot : ℕ) → slot < slots_of table → state_at table.states slot ≢ Missing → StandsAt table slot (sectors slot)

-- the writes of the first aren't all answered
pub short_in_first : (table : Table) (last : Option ℕ) (sectors : ℕ → Bytes) {old new : History}
    → Made (map (λ slot. Write slot (place_of table) (sectors slot)) (first_slots table last)) false old new
    → Made (publish_calls table last sectors) false old new
short_in_first table last sectors written =
    made_short (written_and_flushed table sectors (last_slots last)) (made_short (map (λ slot. Flush slot) (first_slots table last)) written)

-- the flushes of the first aren't
pub short_in_flushes : (table : Table) (last : Option ℕ) (sectors : ℕ → Bytes) {old mid new : History}
    → Made (map (λ slot. Write slot (place_of table) (sectors slot)) (first_slots table last)) true old mid
    → Made (map (λ slot. Flush slot) (first_slots table last)) false mid new
    → Made (publish_calls table last sectors) false old new
short_in_flushes table last sectors written flushed = made_short (written_and_flushed table sectors (last_slots last)) (made_both written flushed)

-- the first are safe
pub then_last : (table : Table) (last : Option ℕ) (sectors : ℕ → Bytes) {answered : Bool} {old mid safe new : History}
    → Made (map (λ slot. Write slot (place_of table) (sectors slot)) (first_slots table last)) true old mid
    → Made (map (λ slot. Flush slot) (first_slots table last)) true mid safe
    → Made (written_and_flushed table sectors (last_slots last)) answered safe new → FirstAreDone table last sectors answered old new
then_last table last sectors {safe = safe} written flushed rest = record { mid = safe; first = made_both written flushed; rest = rest }

-- the last one's calls
pub last_made : (table : Table) (last : Option ℕ) (slot : ℕ) (sectors : ℕ → Bytes) {answered : Bool} {old new : History} → last ≡ Some slot
    → Made (Write slot (place_of table) (sectors slot) ∷ Flush slot ∷ []) answered old new
    → Made (written_and_flushed table sectors (last_slots last)) answered old new
last_made table last slot sectors {answered = answered} {old = old} {new = new} is made =
    subst (λ (last : Option ℕ). Made (written_and_flushed table sectors (last_slots last)) answered old new) (sym is) made

pub no_last_made : (table : Table) (last : Option ℕ) (sectors : ℕ → Bytes) (h : History) → last ≡ None
    → Made (written_and_flushed table sectors (last_slots last)) true h h
no_last_made table last sectors h is = subst (λ (last : Option ℕ). Made (written_and_flushed table sectors (last_slots last)) true h h) (sym is) (made_none h)

-- the device that a call of the last one names gets the superblock
pub last_named : (table : Table) (last : Option ℕ) (slot device : ℕ) (panel : Panel) (result : Result (Unit {0}) Stop) → last ≡ Some slot
    → IfErr result (λ stop. IsCauseOf panel stop × ((stop ≡ Worn) ⊎ (stop ≡ Down slot))) → result ≡ Err (Down device) → GetsIt table last device
last_named table last slot device panel result is err down =
    let cause = IfErr-at_err (λ stop. IsCauseOf panel stop × ((stop ≡ Worn) ⊎ (stop ≡ Down slot))) down err in
    let there = subst (λ (last : Option ℕ). Contains (last_slots last) slot) (sym is) (0, omega arith, refl) in
    elim cause.1 [
      | inl worn ↦ absurd (cc)
      | inr of_slot ↦ let same : slot ≡ device = cc in subst (GetsIt table last) same
          (Contains-append_right (first_slots table last) (last_slots last) slot there)
    ]

-- what `publish` promises, by what it made and how it ended

pub publishes : {honest : Type 0} (table : Table) (last : Option ℕ) (old_panel new_panel : Panel) {old new : History} (result : Result (Unit {0}) Stop)
    → CanPublish old_panel table last → (honest → IsTrueTo old_panel old) → IsLater old_panel new_panel
    → ((sectors : ℕ → Bytes) → AreSpelled table sectors → honest → Made (publish_calls table last sectors) (is_ok result) old new)
    → IfErr result (IsCauseOf new_panel) → ((device : ℕ) → result ≡ Err (Down device) → GetsIt table last device)
    → ((slot : ℕ) → result ≡ Ok tt → last ≡ Some slot → new_panel.down slot ≡ false)
    → ((slot : ℕ) → result ≡ Err (Down slot) → last ≡ Some slot → honest → FirstAreDone table last (sector_for table) false old new)
    → Publishes honest table last old_panel new_panel old new result
publishes {honest = honest} table last old_panel new_panel {old = old} {new = new} result can is_true later made cause named up done =
    let places : honest → HavePlaces table last old = λ honest. have_places old_panel table last old can (is_true honest) in
    let spelled = sector_stands table in
    record {
      sectors = sector_for table;
      spelled = spelled;
      later = later;
      made = made (sector_for table) spelled;
      cause = λ stop is. IfErr-at_err (IsCauseOf new_panel) is cause;
      named = named;
      moments = λ honest devices before lost may.
          published_either devices before table last lost (sector_for table) old new (is_ok result) spelled can.last_in_set can.last_there may (places honest)
          (made (sector_for table) spelled honest);
      safe = λ honest ok slot gets.
          let done = subst (λ (r : Result (Unit {0}) Stop). Made (publish_calls table last (sector_for table)) (is_ok r) old new) ok
          (made (sector_for table) spelled honest) in
          published_safe table last (sector_for table) old new (places honest) done slot gets;
      up = up;
      safe_first = λ honest slot err is. published_first table last (sector_for table) false old new (places honest) (done slot err is honest);
      last_sees = λ honest lacks. published_last table last (sector_for table) old new (is_ok result) (places honest) lacks
          (made (sector_for table) spelled honest);
    }

-- it ended with an error before the last one's calls
pub publishes_short : {honest : Type 0} (table : Table) (last : Option ℕ) (old_panel new_panel : Panel) {old new : History} (result : Result (Unit {0}) Stop)
    (stop : Stop)
    → result ≡ Err stop → CanPublish old_panel table last → (honest → IsTrueTo old_panel old) → IsLater old_panel new_panel
    → ((sectors : ℕ → Bytes) → AreSpelled table sectors → honest → Made (publish_calls table last sectors) false old new)
    → IsCauseOf new_panel stop → ((device : ℕ) → stop ≡ Down device → Contains (first_slots table last) device)
    → Publishes honest table last old_panel new_panel old new result
publishes_short {honest = honest} table last old_panel new_panel {old = old} {new = new} result stop is can is_true later made cause named =
    subst (λ (r : Result (Unit {0}) Stop). Publishes honest table last old_panel new_panel old new r) (sym is)
    (publishes table last old_panel new_panel (Err stop) can is_true later made cause
    (λ device down. let same : stop ≡ Down device = cc in Contains-append_left (first_slots table last) (last_slots last) device (named device same))
    (λ slot ok. absurd (cc))
    (λ slot down of_last. let same : stop ≡ Down slot = cc in absurd ((first_is table last slot (named slot same)).not_last of_last)))

-- all of the first were written and flushed
pub publishes_then : {honest : Type 0} (table : Table) (last : Option ℕ) (old_panel new_panel : Panel) {old new : History} (result : Result (Unit {0}) Stop)
    → CanPublish old_panel table last → (honest → IsTrueTo old_panel old) → IsLater old_panel new_panel
    → ((sectors : ℕ → Bytes) → AreSpelled table sectors → honest → FirstAreDone table last sectors (is_ok result) old new)
    → IfErr result (IsCauseOf new_panel) → ((device : ℕ) → result ≡ Err (Down device) → GetsIt table last device)
    → ((slot : ℕ) → result ≡ Ok tt → last ≡ Some slot → new_panel.down slot ≡ false)
    → Publishes honest table last old_panel new_panel old new result
publishes_then {honest = honest} table last old_panel new_panel {old = old} {new = new} result can is_true later done cause named up =
    publishes table last old_panel new_panel result can is_true later
    (λ sectors spelled fair. let all = done sectors spelled fair in made_both all.first all.rest) cause named up
    (λ slot down of_last fair.
    subst (λ (r : Result (Unit {0}) Stop). FirstAreDone table last (sector_for table) (is_ok r) old new) down
    (done (sector_for table) (sector_stands table) fair))

-- the last one is up
pub last_is_up : (last : Option ℕ) (slot other : ℕ) (panel : Panel) (result : Result (Unit {0}) Stop) → last ≡ Some slot → OnOk result (panel.down slot ≡ false)
    → result ≡ Ok tt → last ≡ Some other → panel.down other ≡ false
last_is_up last slot other panel result is up ok of_other =
    let same : slot ≡ other = cc in
    subst (λ (k : ℕ). panel.down k ≡ false) same (subst (λ (r : Result (Unit {0}) Stop). OnOk r (panel.down slot ≡ false)) ok up)
