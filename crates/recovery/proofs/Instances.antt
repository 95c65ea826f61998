-- Small cases that meet what making a set and assembling one promise.
use Rattle.std.proofs.Common.{◌≡◌, ◌≢◌, inl, inr, ℕ, zero, suc, ◌+◌, ◌-◌, ◌^◌, ◌<◌, ◌≤◌, min, Bool, true, false, cond, List, [], ◌∷◌, length}
use Rattle.std.proofs.Common.{Option, Some, None, refl, sym, ◌∙◌, ap, subst, arith}
use Rattle.std.specs.Prelude.{Contains, Result, Ok, Err}
use Rattle.std.proofs.lemmas.Bool.{cases_lt}
use Rattle.sector_model.specs.declared.event.Event.TheVariants.{Quiet}
use Rattle.sector_model.specs.declared.refusal.Refusal.{Refusal}
use Rattle.sector_model.specs.declared.refusal.Refusal.TheVariants.{BadGeometry, NoSet, NotUsable, TwoLost, Worn}
use Rattle.sector_model.specs.declared.calls.TheConstants.{GREATEST_COUNT}
use Rattle.sector_model.specs.Bank.{IsLater, IsTrueTo, Panel}
use Rattle.sector_model.specs.History.{After, Began, Bytes, History, MayLeave, SlotMayHold, Slots, calls_of, cut_at, disk_of}
use Rattle.sector_model.specs.Moments.{here, then_also}
use Rattle.sector_model.specs.Readable.{readable}
use Rattle.sector_model.specs.Reads.{HasRead}
use Rattle.sector_model.proofs.Readable.{readable_began, readable_left}
use Rattle.sector_model.proofs.Panels.{later_same}
use Rattle.sector_model.proofs.Reading.{read_none}
use Rattle.sector_model.proofs.Steps.{throughout_cut}
use Rattle.layout_map.specs.declared.format.Format.TheVariants.{One}
use Rattle.layout_map.specs.declared.geometry.Geometry.{Geometry}
use Rattle.superblock.specs.declared.state.State.{State}
use Rattle.superblock.specs.declared.state.State.TheVariants.{Missing, Rebuilding}
use Rattle.superblock.specs.declared.table.Table.{Table}
use Rattle.superblock.specs.Tables.{state_at}
use Rattle.superblock.specs.States.{has_rebuilding, position_in}
use Rattle.superblock.specs.Cases.{HasNone, Lost}
use Rattle.superblock.specs.Counted.{IsChosen, IsInFull, IsLive, least_sectors}
use Rattle.superblock.specs.Losses.{InEachImage, IsLostAt, IsSingleFailure}
use Rattle.superblock.specs.NextTables.{IsComplete, slots_of}
use Rattle.array_io.specs.Believed.Fresh.{IsFresh, zeros_of}
use Rattle.array_io.specs.Believed.Holds.{AreRowsOf, Holds, HoldsIn}
use Rattle.array_io.specs.Believed.Moments.{HoldsNow, HoldsThroughout}
use Rattle.array_io.specs.Believed.Settled.{HaveNumber, IsSettled, rows_by, trusts}
use Rattle.array_io.specs.Believed.Views.{ArrayView, HasItsSlots, RestsOn}
use Rattle.array_io.proofs.Calls.DeviceSteps.{its_slots_later}
use Rattle.array_io.proofs.Laws.Beginning.{not_older_at_rest, up_at_rest}
use Rattle.array_io.proofs.Laws.Begun.{chosen_is_one}
use Rattle.array_io.proofs.Images.Codecs.{spellings}
use Rattle.array_io.proofs.Laws.Fresh.{fresh_live, fresh_set_holds, in_sync_not_rebuilding}
use Rattle.array_io.proofs.Laws.FromCore.{holds_from_core}
use Rattle.array_io.proofs.Laws.SettledBegins.{settled_begins}
use Rattle.recovery.proofs.SurveyedOut.{least_fits}
use Rattle.recovery.specs.Assembling.{Assembles, HasStatesOf, IsNoAssembly, IsOfAssembly, MayAssemble, OpensOnOne}
use Rattle.recovery.specs.Making.{BankView, FindsTable, IsCarried, IsFirstTable, IsNoMake, Makes, Opened, Outcome, Returned}

-- what is said of the array of an outcome, and of its refusal
abbrev OnOpened : (ArrayView → Type 0) → Outcome → Type 0
OnOpened P (Opened array) = P array
OnOpened P (Returned bank refusal) = Unit {0}

abbrev OnReturned : (BankView → Refusal → Type 0) → Outcome → Type 0
OnReturned P (Opened array) = Unit {0}
OnReturned P (Returned bank refusal) = P bank refusal

opened_is : (P : ArrayView → Type 0) (given array : ArrayView) → Opened given ≡ Opened array → P given → P array
opened_is P given array is of_given = subst (OnOpened P) is of_given

returned_is : (P : BankView → Refusal → Type 0) (given bank : BankView) (cause refusal : Refusal) → Returned given cause ≡ Returned bank refusal → P given cause
    → P bank refusal
returned_is P given bank cause refusal is of_given = subst (OnReturned P) is of_given

not_opened : (A : Type 0) (bank : BankView) (refusal : Refusal) (array : ArrayView) → Returned bank refusal ≡ Opened array → A
not_opened A bank refusal array is = absurd (subst (OnOpened (λ a. ⊥)) is tt)

not_returned : (A : Type 0) (array : ArrayView) (bank : BankView) (refusal : Refusal) → Opened array ≡ Returned bank refusal → A
not_returned A array bank refusal is = absurd (subst (OnReturned (λ b r. ⊥)) is tt)

-- a bank with nothing but a set that was just made
abbrev fresh_bank : Panel → Slots → BankView
fresh_bank panel image = record { panel = panel; history = Began image }

-- the array of it
abbrev fresh_array : Panel → Slots → Table → ArrayView
fresh_array panel image table = record { panel = panel; history = Began image; table = table; number = 0 }

fresh_rests : (panel : Panel) (image : Slots) (table : Table) → IsFresh panel.devices table image
    → RestsOn (fresh_array panel image table) None (zeros_of table.geometry)
fresh_rests panel image table fresh = settled_begins spellings (fresh_set_holds spellings (holds_from_core spellings)) panel.devices table image fresh

fresh_slots : (panel : Panel) (image : Slots) (table : Table) → IsFresh panel.devices table image → IsTrueTo panel (Began image) → HasItsSlots table panel
fresh_slots panel image table fresh true_to = record {
  of_bank = fresh.has_slots;
  fit = λ slot of_set counted up. subst (λ (n : ℕ). least_sectors table.geometry slot ≤ n) (sym (true_to.sectors slot))
      (both_most (least_sectors table.geometry slot) (length (disk_of (image slot))) (2 ^ 32 - 1) (fresh.long_enough slot of_set)
      (omega (arith, least_fits table.geometry slot)));
}
  where
    both_most : (n a b : ℕ) → n ≤ a → n ≤ b → n ≤ min a b
    both_most n a b first second = omega (arith, first, second)

first_of_fresh : (devices : ℕ) (image : Slots) (table : Table) → IsFresh devices table image → IsFirstTable table.id table.geometry table
first_of_fresh devices image table fresh = record {
  of_id = refl;
  of_geometry = refl;
  generation = fresh.first_table;
  in_sync = fresh.in_sync;
  incarnations = fresh.first_devices;
}

-- A bank that has a set that was just made is what making it answers, with the set's table and no entry.
pub makes_fresh : (honest : Type 0) (panel : Panel) (image : Slots) (table : Table) → IsFresh panel.devices table image
    → IsTrueTo panel (Began image)
    → Makes honest table.id table.geometry (fresh_bank panel image) (Opened (fresh_array panel image table))
makes_fresh honest panel image table fresh true_to = record {
  later = later_same panel;
  first = λ array is. opened_is (λ a. IsFirstTable table.id table.geometry a.table) (fresh_array panel image table) array is
      (first_of_fresh panel.devices image table fresh);
  number = λ array is. opened_is (λ a. a.number ≡ 0) (fresh_array panel image table) array is refl;
  its_slots = λ array is. opened_is (λ a. HasItsSlots a.table a.panel) (fresh_array panel image table) array is (fresh_slots panel image table fresh true_to);
  rests = λ fair quiet array is. opened_is (λ a. RestsOn a None (zeros_of table.geometry)) (fresh_array panel image table) array is
      (fresh_rests panel image table fresh);
  cause = λ bank refusal is. not_returned (IsNoMake table.geometry bank.panel refusal) (fresh_array panel image table) bank refusal is;
}

-- where there is a cause, the bank comes back as it was
pub makes_none : (honest : Type 0) (id : List ℕ) (geometry : Geometry) (bank : BankView) (refusal : Refusal) → IsNoMake geometry bank.panel refusal
    → Makes honest id geometry bank (Returned bank refusal)
makes_none honest id geometry bank refusal because = record {
  later = later_same bank.panel;
  first = λ array is. not_opened (IsFirstTable id geometry array.table) bank refusal array is;
  number = λ array is. not_opened (array.number ≡ 0) bank refusal array is;
  its_slots = λ array is. not_opened (HasItsSlots array.table array.panel) bank refusal array is;
  rests = λ fair quiet array is. not_opened (RestsOn array None (zeros_of geometry)) bank refusal array is;
  cause = λ other said is. returned_is (λ b r. IsNoMake geometry b.panel r) bank other refusal said is because;
}

-- so where the bank has too few slots
pub makes_none_of_few : (honest : Type 0) (id : List ℕ) (geometry : Geometry) (bank : BankView) → bank.panel.devices < geometry.members + 2
    → Makes honest id geometry bank (Returned bank BadGeometry)
makes_none_of_few honest id geometry bank few = makes_none honest id geometry bank BadGeometry few

-- where a slot of the set is down
pub makes_none_of_down : (honest : Type 0) (id : List ℕ) (geometry : Geometry) (bank : BankView) (slot : ℕ) → slot < geometry.members + 2
    → bank.panel.down slot ≡ true
    → Makes honest id geometry bank (Returned bank NotUsable)
makes_none_of_down honest id geometry bank slot of_set down =
    makes_none honest id geometry bank NotUsable record { slot = slot; of_set = of_set; unusable = inl down }

-- ---- assembling

-- so many reads were answered
pub reads : ℕ → History → History
reads zero h = h
reads (suc n) h = After Quiet (reads n h)

-- a read leaves what may stand after a crash
quiet_left : (h : History) (image : Slots) → MayLeave (After Quiet h) image → MayLeave h image
quiet_left h image may d = by_slot (image d) (may d)
  where
    by_slot : (slot : Option (List Bytes)) → SlotMayHold (After Quiet h) d slot → SlotMayHold h d slot
    by_slot None is = is
    by_slot (Some disk) is = is

quiet_lost : (slots : ℕ) (before : Option Lost) (h : History) (after : Option Lost) → IsLostAt slots before (After Quiet h) after
    → IsLostAt slots before h after
quiet_lost slots None h after (inl none) = inl none
quiet_lost slots None h after (inr failure) = inr record {
  slot = failure.slot;
  of_set = failure.of_set;
  failed = failure.failed;
  others =
      failure.others;
  lost = failure.lost;
}
quiet_lost slots (Some lost) h after is = is

quiet_holds : (base : Table) (devices : ℕ) (lost : Option Lost) (X : List (List Bytes)) (h : History) → HoldsNow base devices lost X h
    → HoldsNow base devices lost X (After Quiet h)
quiet_holds base devices lost X h now after image is may = now after image (quiet_lost (slots_of base) lost h after is) (quiet_left h image may)

holds_over_reads : (base : Table) (devices : ℕ) (lost : Option Lost) (X : List (List Bytes)) (h : History) (n : ℕ) → HoldsNow base devices lost X h
    → HoldsNow base devices lost X (reads n h)
unfolding reads
holds_over_reads base devices lost X h zero now = now
holds_over_reads base devices lost X h (suc n) now = quiet_holds base devices lost X (reads n h) (holds_over_reads base devices lost X h n now)

throughout_reads : (base : Table) (devices : ℕ) (lost : Option Lost) (X : List (List Bytes)) (h : History) (n : ℕ) → HoldsNow base devices lost X h
    → HoldsThroughout base devices lost X h (reads n h)
unfolding reads
throughout_reads base devices lost X h zero now = here now
throughout_reads base devices lost X h (suc n) now =
    then_also Quiet (reads n h) (throughout_reads base devices lost X h n now) (holds_over_reads base devices lost X h (suc n) now)

quiet_each : (devices : ℕ) (table : Table) (h : History) (lost : Option Lost) (P : Slots → Type 0) → InEachImage devices table h lost P
    → InEachImage devices table (After Quiet h) lost P
quiet_each devices table h lost P each = record {
  whole = λ image may. each.whole image (quiet_left h image may);
  weakened = λ image slot content may out stands. each.weakened image slot content (quiet_left h image may) out stands;
}

quiet_settled : (devices : ℕ) (table : Table) (number : ℕ) (h : History) (lost : Option Lost) (V : List Bytes) → IsSettled devices table number h lost V
    → IsSettled devices table number (After Quiet h) lost V
quiet_settled devices table number h lost V settled = record {
  nothing_pending = settled.nothing_pending;
  holds = λ image may. settled.holds image (quiet_left h image may);
  there = settled.there;
  listed = settled.listed;
  sound = settled.sound;
  chosen = quiet_each devices table h lost (λ image. IsChosen table.id devices image table) settled.chosen;
  numbered = quiet_each devices table h lost (HaveNumber devices table number) settled.numbered;
  none_back = settled.none_back;
  lost_slot = settled.lost_slot;
}

settled_over_reads : (devices : ℕ) (table : Table) (number : ℕ) (h : History) (lost : Option Lost) (V : List Bytes) (n : ℕ)
    → IsSettled devices table number h lost V
    → IsSettled devices table number (reads n h) lost V
unfolding reads
settled_over_reads devices table number h lost V zero settled = settled
settled_over_reads devices table number h lost V (suc n) settled =
    quiet_settled devices table number (reads n h) lost V (settled_over_reads devices table number h lost V n settled)

readable_over_reads : (h : History) (n : ℕ) → readable (reads n h) ≡ readable h
unfolding reads
readable_over_reads h zero = refl
readable_over_reads h (suc n) = readable_over_reads h n

-- the rows of a set that was just made are those that an open array reads: all sectors of its members count, and no seal does
own_rows : (devices : ℕ) (table : Table) (image : Slots) → IsFresh devices table image → AreRowsOf devices table image (rows_by table image)
own_rows devices table image fresh = record {
  width = refl;
  own_sector = λ row member below. refl;
  trust = λ row member below.
      let of_set : member < table.geometry.members + 2 = omega (arith, below) in (
        λ is. record {
          live = fresh_live spellings devices table image fresh member of_set;
          rebuilt = λ rebuilding. absurd (in_sync_not_rebuilding (sym (fresh.in_sync member of_set) ∙ rebuilding));
        },
        λ trusted. ap (λ (s : State). trusts s row table.position) (fresh.in_sync member of_set),
      );
  last = None;
  is_last = λ journal place seal live counts.
      spellings.zero_no_seal seal (sym (fresh.cleared_seals journal place live.beyond_members live.of_set (omega (arith, counts.belongs.own_place)))
      ∙ counts.stands);
  in_entry = λ row member. refl;
}

fresh_complete : (devices : ℕ) (table : Table) (image : Slots) → IsFresh devices table image → IsComplete table
fresh_complete devices table image fresh = record { in_sync = fresh.in_sync }

none_rebuilding : (devices : ℕ) (table : Table) (image : Slots) → IsFresh devices table image → (slot : ℕ) → state_at table.states slot ≢ Rebuilding
none_rebuilding devices table image fresh slot is = elim (cases_lt slot (slots_of table)) [
  | inl of_set ↦ in_sync_not_rebuilding (sym (fresh.in_sync slot of_set) ∙ is)
  | inr beyond ↦ absurd (missing_not_rebuilding (sym (table.allowed.missing_beyond slot beyond) ∙ is))
]
  where
    missing_not_rebuilding : Missing ≡ Rebuilding → ⊥
    missing_not_rebuilding is = cc

position_kept : (table : Table) → table.position ≡ 0 → table.position ≡ position_in table.states table.position
position_kept table none = by_case (has_rebuilding table.states)
  where
    by_case : (b : Bool) → table.position ≡ cond b table.position 0
    by_case true = refl
    by_case false = none

-- what is known where a set that was just made is at rest after some reads: of its list, and of each list by which all cases hold
record IsAtRest (devices : ℕ) (table : Table) (image : Slots) (h : History) : Type 0 where
  pub fresh : IsFresh devices table image
  pub reads_give : readable h ≡ image
  pub settled : IsSettled devices table 0 h None (zeros_of table.geometry)

at_rest : (devices : ℕ) (table : Table) (image : Slots) (n : ℕ) → IsFresh devices table image → IsAtRest devices table image (reads n (Began image))
at_rest devices table image n fresh = record {
  fresh = fresh;
  reads_give = readable_over_reads (Began image) n ∙ readable_began image;
  settled = settled_over_reads devices table 0 (Began image) None (zeros_of table.geometry) n
      (settled_begins spellings (fresh_set_holds spellings (holds_from_core spellings)) devices table image fresh);
}

-- a table that is chosen there, or by which a case holds there, is the set's
its_table : (base : Table) (devices : ℕ) (table : Table) (image : Slots) (h : History) (lost : Option Lost) (X : List (List Bytes))
    → IsAtRest devices table image h → table.id ≡ base.id
    → (holds : Holds base devices record { image = readable h; lost = lost } X) → (other : Table) → IsChosen base.id devices (readable h) other
    → other ≡ holds.table
its_table base devices table image h lost X rest same holds other chosen =
    chosen_is_one devices holds.table X (readable h) holds.whole other
    (subst (λ (i : List ℕ). IsChosen i devices (readable h) other) (sym holds.not_older.same_id) chosen)

chosen_there : (devices : ℕ) (table : Table) (image : Slots) (h : History) → IsAtRest devices table image h → IsChosen table.id devices (readable h) table
chosen_there devices table image h rest = rest.settled.chosen.whole (readable h) (readable_left h)

chosen_is_its : (devices : ℕ) (table : Table) (image : Slots) (h : History) → IsAtRest devices table image h → (other : Table)
    → IsChosen table.id devices (readable h) other → other ≡ table
chosen_is_its devices table image h rest other chosen =
    let holds = rest.settled.holds (readable h) (readable_left h) in
    its_table table devices table image h None (zeros_of table.geometry ∷ []) rest refl holds other chosen
    ∙ sym (its_table table devices table image h None (zeros_of table.geometry ∷ []) rest refl holds table (chosen_there devices table image h rest))

zeros_among : (base : Table) (devices : ℕ) (table : Table) (image : Slots) (h : History) (lost : Option Lost) (X : List (List Bytes))
    → IsAtRest devices table image h → table.id ≡ base.id
    → Holds base devices record { image = readable h; lost = lost } X → Contains X (zeros_of table.geometry)
zeros_among base devices table image h lost X rest same holds =
    let is : table ≡ holds.table = its_table base devices table image h lost X rest same holds table
    (subst (λ (i : List ℕ). IsChosen i devices (readable h) table) same (chosen_there devices table image h rest)) in
    let in_its : HoldsIn devices table X (readable h) = subst (λ (t : Table). HoldsIn devices t X (readable h)) (sym is) holds.whole in
    subst (λ (L : List Bytes). Contains X L) rest.settled.listed
    (in_its.listed (rows_by table (readable h))
    (subst (λ (i : Slots). AreRowsOf devices table i (rows_by table i)) (sym rest.reads_give) (own_rows devices table image rest.fresh)))

-- the array that assembling gives
abbrev array_after : Panel → History → Table → ArrayView
array_after panel h table = record { panel = panel; history = h; table = table; number = 0 }

opens_on_one : (base : Table) (panel : Panel) (table : Table) (image : Slots) (n : ℕ) (now : Panel) (lost : Option Lost) (X : List (List Bytes))
    → now.devices ≡ panel.devices
    → IsFresh panel.devices table image → table.id ≡ base.id → MayAssemble base lost X (fresh_bank panel image)
    → IsSingleFailure (slots_of base) lost (reads n (Began image))
    → OpensOnOne base lost X (array_after now (reads n (Began image)) table)
opens_on_one base panel table image n now lost X same_devices fresh same may one =
    let h = reads n (Began image) in
    let rest = at_rest panel.devices table image n fresh in
    let holding : HoldsNow base panel.devices lost X h = holds_over_reads base panel.devices lost X (Began image) n may.holds in
    record {
      logical = zeros_of table.geometry;
      among = zeros_among base panel.devices table image h one.0 X rest same (holding one.0 (readable h) one.1 (readable_left h));
      not_older = not_older_at_rest base panel.devices lost one.0 X table 0 h None (zeros_of table.geometry) same holding one.1 rest.settled;
      rests = record {
        lost = None;
        is_lost = inl (fresh_complete panel.devices table image fresh, refl);
        rests = subst (λ (d : ℕ). IsSettled d table 0 h None (zeros_of table.geometry)) (sym same_devices) rest.settled;
      };
    }

differ : true ≡ false → ⊥
differ is = cc

has_its_states : (panel now : Panel) (table : Table) (image : Slots) (n : ℕ) → IsFresh panel.devices table image
    → HasStatesOf table (fresh_bank panel image) (array_after now (reads n (Began image)) table)
has_its_states panel now table image n fresh =
    let rest = at_rest panel.devices table image n fresh in
    record {
      incarnations = refl;
      live_stays = λ slot of_set live up. refl;
      not_live = λ slot of_set out. absurd (out (subst (λ (i : Slots). IsLive panel.devices table slot (i slot)) (sym (readable_began image))
          (fresh_live spellings panel.devices table image fresh slot of_set)));
      failure = λ slot of_set down. absurd (differ (sym down
          ∙ up_at_rest spellings panel.devices table 0 (reads n (Began image)) None (zeros_of table.geometry) rest.settled slot of_set tt));
      position = position_kept table (table.allowed.no_position (none_rebuilding panel.devices table image fresh));
    }

-- A set that was just made, and is at rest, is assembled by so many reads: with its own table and no entry, and nothing is written.
pub assembles_fresh : (honest : Type 0) (panel now : Panel) (image : Slots) (table : Table) (n : ℕ) → IsFresh panel.devices table image
    → IsTrueTo panel (Began image)
    → IsLater panel now → Assembles honest table.id (fresh_bank panel image) (Opened (array_after now (reads n (Began image)) table))
unfolding reads
assembles_fresh honest panel now image table n fresh true_to later =
    let given = array_after now (reads n (Began image)) table in
    let rest = at_rest panel.devices table image n fresh in
    record {
      later = later;
      of_id = λ array is. opened_is (λ a. a.table.id ≡ table.id) given array is refl;
      its_slots = λ array is. opened_is (λ a. HasItsSlots a.table a.panel) given array is
          (its_slots_later table panel now later (fresh_slots panel image table fresh true_to));
      moments = λ fair base lost X same may. throughout_reads base panel.devices lost X (Began image) n may.holds;
      rests = λ fair base lost X same may array is one.
          opened_is (λ a. IsSingleFailure (slots_of base) lost a.history → OpensOnOne base lost X a) given array is
          (opens_on_one base panel table image n now lost X later.devices fresh (sym same) may) one;
      states = λ fair base lost X same may array is one other chosen.
          opened_is (λ a. HasStatesOf other (fresh_bank panel image) a) given array is
          (subst (λ (t : Table). HasStatesOf t (fresh_bank panel image) given)
          (sym (chosen_is_its panel.devices table image (Began image) (at_rest panel.devices table image 0 fresh) other chosen))
          (has_its_states panel now table image n fresh));
      refused = λ bank refusal is. not_returned (IsOfAssembly refusal) given bank refusal is;
      cause = λ fair bank refusal is. not_returned (IsNoAssembly table.id (fresh_bank panel image) bank refusal) given bank refusal is;
      no_set = λ fair none array is.
          let chosen = chosen_there panel.devices table image (reads n (Began image)) rest in none chosen.slot chosen.place chosen.best chosen.counted;
    }

reads_read : (h : History) (n : ℕ) → HasRead h (reads n h)
unfolding reads
reads_read h zero = read_none h
reads_read h (suc n) = record { only = inr (reads_read h n).only }

cut_whole : (h : History) → cut_at (calls_of h) h ≡ h
cut_whole h = throughout_cut {P = λ (cut : History). cut ≡ h} {old = h} h (here refl) (calls_of h) (omega arith)

-- where there is a cause, the bank comes back after so many reads
abbrev given_back : BankView → Panel → ℕ → BankView
given_back bank now n = record { panel = now; history = reads n bank.history }

assembles_refused : (honest : Type 0) (id : List ℕ) (bank : BankView) (now : Panel) (n : ℕ) (refusal : Refusal) → IsLater bank.panel now → IsOfAssembly refusal
    → IsNoAssembly id bank (given_back bank now n) refusal → Assembles honest id bank (Returned (given_back bank now n) refusal)
assembles_refused honest id bank now n refusal later listed because = record {
  later = later;
  of_id = λ array is. not_opened (array.table.id ≡ id) (given_back bank now n) refusal array is;
  its_slots = λ array is. not_opened (HasItsSlots array.table array.panel) (given_back bank now n) refusal array is;
  moments = λ fair base lost X same may. throughout_reads base bank.panel.devices lost X bank.history n may.holds;
  rests = λ fair base lost X same may array is one. not_opened (OpensOnOne base lost X array) (given_back bank now n) refusal array is;
  states = λ fair base lost X same may array is one table chosen. not_opened (HasStatesOf table bank array) (given_back bank now n) refusal array is;
  refused = λ other said is. returned_is (λ b r. IsOfAssembly r) (given_back bank now n) other refusal said is listed;
  cause = λ fair other said is. returned_is (λ b r. IsNoAssembly id bank b r) (given_back bank now n) other refusal said is because;
  no_set = λ fair none_then array is. not_opened ⊥ (given_back bank now n) refusal array is;
}

-- where no superblock of the set counts, there is no set
pub assembles_none : (honest : Type 0) (id : List ℕ) (bank : BankView) (now : Panel) (n : ℕ)
    → ((slot : ℕ) → HasNone id bank.panel.devices slot (readable bank.history slot))
    → IsLater bank.panel now → Assembles honest id bank (Returned (given_back bank now n) NoSet)
assembles_none honest id bank now n none later = assembles_refused honest id bank now n NoSet later tt (none_now, reads_read bank.history n)
  where
    none_now : (slot : ℕ) → HasNone id now.devices slot (readable (reads n bank.history) slot)
    none_now slot = subst (λ (d : ℕ). HasNone id d slot (readable (reads n bank.history) slot)) (sym later.devices)
        (subst (λ (i : Slots). HasNone id bank.panel.devices slot (i slot)) (sym (readable_over_reads bank.history n)) (none slot))

-- where two slots of the set are not in full, by the table that is chosen, two are lost, and nothing was written
pub assembles_two_lost : (honest : Type 0) (id : List ℕ) (bank : BankView) (table : Table) (first second : ℕ)
    → IsChosen id bank.panel.devices (readable bank.history) table
    → first ≢ second → first < slots_of table → second < slots_of table
    → ¬ IsInFull bank.panel.devices table first (readable bank.history first) → ¬ IsInFull bank.panel.devices table second (readable bank.history second)
    → Assembles honest id bank (Returned (given_back bank bank.panel 0) TwoLost)
unfolding reads
assembles_two_lost honest id bank table first second chosen apart of_set also_of_set out also_out =
    let whole : cut_at (calls_of bank.history) bank.history ≡ bank.history = cut_whole bank.history in
    assembles_refused honest id bank bank.panel 0 TwoLost (later_same bank.panel) tt record {
      t = calls_of bank.history;
      from = omega arith;
      until = omega arith;
      table = table;
      chosen = subst (λ (h : History). IsChosen id bank.panel.devices (readable h) table) (sym whole) chosen;
      first = first;
      second = second;
      apart = apart;
      first_of_set = of_set;
      second_of_set = also_of_set;
      first_out = inr (subst (λ (h : History). ¬ IsInFull bank.panel.devices table first (readable h first)) (sym whole) out);
      second_out = inr (subst (λ (h : History). ¬ IsInFull bank.panel.devices table second (readable h second)) (sym whole) also_out);
      unwritten = λ one other. read_none bank.history;
    }

-- where no further call can be counted
pub assembles_worn : (honest : Type 0) (id : List ℕ) (bank : BankView) (now : Panel) (n : ℕ) → IsLater bank.panel now → GREATEST_COUNT ≤ now.calls
    → Assembles honest id bank (Returned (given_back bank now n) Worn)
assembles_worn honest id bank now n later full = assembles_refused honest id bank now n Worn later tt (inl full)

-- ---- finding the table

abbrev OnFound : (Table → Type 0) → Result (Option Table) Refusal → Type 0
OnFound P (Ok (Some table)) = P table
OnFound P (Ok None) = Unit {0}
OnFound P (Err refusal) = Unit {0}

abbrev IsFound : Result (Option Table) Refusal → Type 0
IsFound (Ok (Some table)) = Unit {0}
IsFound (Ok None) = ⊥
IsFound (Err refusal) = ⊥

-- of a set that was just made its table is found, by so many reads
pub finds_fresh : (honest : Type 0) (panel now : Panel) (image : Slots) (table : Table) (n : ℕ) → IsFresh panel.devices table image → IsLater panel now
    → FindsTable honest table.id (fresh_bank panel image) record { panel = now; history = reads n (Began image) } (Ok (Some table))
finds_fresh honest panel now image table n fresh later =
    let h = reads n (Began image) in
    let rest = at_rest panel.devices table image n fresh in
    let chosen : IsChosen table.id now.devices (readable h) table =
    subst (λ (d : ℕ). IsChosen table.id d (readable h) table) (sym later.devices) (chosen_there panel.devices table image h rest) in
    let before : IsChosen table.id now.devices (readable (Began image)) table =
    subst (λ (i : Slots). IsChosen table.id now.devices i table) (readable_over_reads (Began image) n) chosen in
    record {
      later = later;
      fits = λ found is. subst (OnFound (λ t. (t.id ≡ table.id) × (slots_of t ≤ now.devices))) is (refl, omega (arith, fresh.has_slots, later.devices));
      reads = λ fair. reads_read (Began image) n;
      carried = λ fair found is. subst (OnFound (λ t. IsCarried table.id now.devices (readable (Began image)) t)) is
          record { slot = before.slot; place = before.place; superblock = before.best; counted = before.counted; carries = before.carried };
      chosen = λ fair up found is. subst (OnFound (λ t. IsChosen table.id now.devices (readable h) t)) is chosen;
      none = λ fair up is slot. absurd (subst IsFound is tt);
      cause = λ refusal is. absurd (subst IsFound is tt);
    }
