-- What assembling promises: its superblocks are put in order, and then its last entry is replayed.
use Rattle.std.proofs.Common.{◌≡◌, ◌≢◌, ◌⊎◌, inl, inr, ℕ, suc, ◌+◌, ◌<◌, ◌≤◌, Bool, true, false, cond, List, [], ◌∷◌, Option, Ok, Err, Result, refl, sym, ◌∙◌}
use Rattle.std.proofs.Common.{ap, subst, arith}
use Rattle.std.proofs.lemmas.Bool.{cases_eq}
use Rattle.sector_model.specs.declared.refusal.Refusal.{Refusal}
use Rattle.sector_model.specs.Bank.{IsTrueTo, Panel}
use Rattle.sector_model.specs.History.{Bytes, History, Slots, MayLeave, calls_of, cut_at, is_down}
use Rattle.sector_model.specs.Moments.{Throughout, here, then_also}
use Rattle.sector_model.specs.Readable.{readable}
use Rattle.sector_model.proofs.Copies.{le_or_lt}
use Rattle.sector_model.proofs.Panels.{later_both}
use Rattle.sector_model.proofs.Steps.{throughout_last, throughout_on}
use Rattle.superblock.specs.declared.state.State.{State}
use Rattle.superblock.specs.declared.state.State.TheVariants.{InSync, Missing, Rebuilding}
use Rattle.superblock.specs.declared.table.Table.{Table}
use Rattle.superblock.specs.Tables.{state_at}
use Rattle.superblock.specs.Cases.{HasNone, Lost}
use Rattle.superblock.specs.Counted.{IsChosen, IsInFull}
use Rattle.superblock.specs.Losses.{IsLostAt, IsSingleFailure}
use Rattle.superblock.specs.NextTables.{IsMarked, slots_of}
use Rattle.superblock.specs.States.{has_rebuilding, position_in}
use Rattle.layout_map.specs.declared.geometry.Geometry.{Geometry}
use Rattle.array_io.specs.Believed.Moments.{HoldsThroughout}
use Rattle.array_io.specs.Believed.Settled.{IsSettled}
use Rattle.array_io.specs.Believed.Views.{ArrayView, HasEnded, HasItsSlots, IsSlotOut, IsTwoLost, view_of}
use Rattle.array_io.proofs.Rest.AtRest.{Rests}
use Rattle.array_io.proofs.Rest.AtRestImages.{Held, held_left}
use Rattle.array_io.proofs.Images.LossBefore.{up_before, was_lost}
use Rattle.array_io.proofs.Marks.MarkedWhole.{throughout_if_lost}
use Rattle.array_io.proofs.Marks.MarkingHolds.{missing_then, state_stays}
use Rattle.array_io.proofs.Marks.MarkingMoments.{calls_grow, cut_before}
use Rattle.array_io.proofs.Reading.ReadCall.{sectors_of}
use Rattle.array_io.proofs.Rest.SettledAgain.{settled_again_carried}
use Rattle.array_io.proofs.Images.Spellings.{Spellings}
use Rattle.recovery.specs.Assembling.{Assembles, HasStatesOf, IsNoAssembly, IsOfAssembly, IsTwoLostThen, IsWornThen, MayAssemble, OpensOnOne}
use Rattle.recovery.specs.Making.{BankView, IsCarried, Outcome, bank_after, bank_view, given_back, opened}
use Rattle.recovery.specs.PuttingInOrder.{IsInOrder, IsSince, PutsInOrder}
use Rattle.recovery.specs.Unwritten.{RefusesUnwritten}
use Rattle.recovery.proofs.AssembledAnswer.{not_both, not_opened, of_opened, of_returned}
use Rattle.recovery.proofs.AssembledUnwritten.{unwritten_later}
use Rattle.array_io.specs.Steps.CallSteps.{IsStepEnd, StaysDown}
use Rattle.array_io.specs.Steps.Putting.{PutsFrom}
use Rattle.recovery.specs.Replaying.{MayReplay, SettlesEntry}

differ : true ≡ false → ⊥
differ is = cc

missing_differs : Missing ≡ InSync → ⊥
missing_differs is = cc

rebuilding_differs : Rebuilding ≡ InSync → ⊥
rebuilding_differs is = cc

missing_rebuilds : Missing ≡ Rebuilding → ⊥
missing_rebuilds is = cc

-- a run cut before a moment of it is that moment's, cut there
cut_same : {P : History → Type 0} (t : ℕ) (mid new : History) → t ≤ calls_of mid → Throughout P mid new → cut_at t new ≡ cut_at t mid
cut_same t mid new until (here is) = refl
cut_same t mid new until (then_also e h so_far is) =
    let grown = calls_grow h so_far in
    cut_before t e h (omega (arith, until, grown)) ∙ cut_same t mid h until so_far

-- what stands when the superblocks are in order may be replayed from
pub may_replay : Spellings → (base : Table) (lost : Option Lost) (X : List (List Bytes)) (array : ArrayView) → IsInOrder base lost X array
    → array.table.id ≡ base.id
    → MayReplay (record { devices = array.panel.devices; base = base; lost = lost; lists = X }) array.table array.history
may_replay spellings base lost X array is same_id = record {
  writes = record {
    nothing_pending = is.nothing_pending;
    there = is.there;
    same_id = same_id;
    holds = is.holds;
    chosen = λ after at. record {
      whole = λ image may. by_id image (held after at image may).whole.chosen;
      weakened = λ image slot content may out stands. by_id _ ((held after at image may).weakened slot content out stands).chosen;
    };
  };
  carried = λ complete. record { stands = is.carried complete };
}
  where
    held : (after : Option Lost) → IsLostAt (slots_of base) lost array.history after → (image : Slots) → MayLeave array.history image
        → Held base array.panel.devices array.table X image after
    held after at image may = held_left spellings base array.panel.devices array.table X array.history lost after record {
      nothing_pending = is.nothing_pending;
      chosen = is.chosen;
      lost = at;
      holds = λ other left. is.holds after other at left;
    } image may

    by_id : (image : Slots) → IsChosen array.table.id array.panel.devices image array.table → IsChosen array.table.id array.panel.devices image array.table
    by_id image chosen = chosen

-- where no member is rebuilding, the test says so
not_rebuilding : (states : List State) → ((slot : ℕ) → state_at states slot ≢ Rebuilding) → has_rebuilding states ≡ false
not_rebuilding [] none = refl
not_rebuilding (Missing ∷ states) none = not_rebuilding states (λ slot. none (suc slot))
not_rebuilding (InSync ∷ states) none = not_rebuilding states (λ slot. none (suc slot))
not_rebuilding (Rebuilding ∷ states) none = absurd (none 0 refl)

-- the position that counts, once a slot is marked
position_again : (mid new : Table) (slot position : ℕ) → IsMarked mid slot new → slot < slots_of mid → new.position ≡ position_in new.states position
position_again mid new slot position marked of_set =
    new.allowed.no_position none ∙ sym (ap (λ (b : Bool). cond b position 0) (not_rebuilding new.states none))
  where
    missing : state_at new.states slot ≡ Missing
    missing = missing_then mid new slot marked of_set

    not_in_sync : (s : State) → s ≡ Missing → s ≢ InSync
    not_in_sync s is in_sync = missing_differs (sym is ∙ in_sync)

    none : (other : ℕ) → state_at new.states other ≢ Rebuilding
    none other is =
        let member = new.allowed.rebuilds_member other is in
        let same : other ≡ slot = new.allowed.one_out other slot (omega (arith, member))
        (subst (λ (g : Geometry). slot < g.members + 2) (sym marked.same_geometry) of_set)
        (λ in_sync. rebuilding_differs (sym is ∙ in_sync)) (not_in_sync (state_at new.states slot) missing) in
        missing_rebuilds (sym missing ∙ ap (state_at new.states) (sym same) ∙ is)

module _ (spellings : Spellings) (honest still : Type 0) (more : honest → still) (id : List ℕ) (old : BankView) (panel1 panel2 : Panel) (h1 h2 : History)
    (table1 table2 : Table)
    (true_mid : honest → IsTrueTo panel1 h1) (true_new : honest → IsTrueTo panel2 h2) (first : PutsInOrder honest id old (opened panel1 h1 table1 0))
    (result : Result ℕ Refusal)
    (settles : SettlesEntry still (view_of panel1 h1 table1 0) (view_of panel2 h2 table2 0) result) where
  abbrev Mid : ArrayView
  Mid = view_of panel1 h1 table1 0

  abbrev Devices : ℕ
  Devices = old.panel.devices

  same_devices : panel1.devices ≡ Devices
  same_devices = first.assembles.later.devices

  its_id : table1.id ≡ id
  its_id = first.assembles.of_id Mid refl

  abbrev From : Table → Option Lost → List (List Bytes) → PutsFrom
  From base lost X = record { devices = Devices; base = base; lost = lost; lists = X }

  -- what was down stays so
  stays_down : honest → (device : ℕ) → is_down h1 device ≡ true → is_down h2 device ≡ true
  stays_down fair = throughout_last h2 (settles.runs (more fair))

  -- for what it is refused before it writes
  pub set_unwritten : (outcome : Outcome) → h2 ≡ (bank_after outcome).history → RefusesUnwritten honest id old outcome
  set_unwritten outcome same = unwritten_later honest id old Mid outcome first.unwritten (λ fair. subst (StaysDown h1) same (stays_down fair))

  -- one slot is lost at most then, so it was before
  one_before : honest → (base : Table) (lost : Option Lost) → IsSingleFailure (slots_of base) lost h2 → IsSingleFailure (slots_of base) lost h1
  one_before fair base lost (after, at) =
      let was = was_lost (slots_of base) lost h1 h2 after (stays_down fair) at in
      (was.before, was.was)

  may : honest → (base : Table) (lost : Option Lost) (X : List (List Bytes)) → base.id ≡ id → MayAssemble base lost X old
      → IsSingleFailure (slots_of base) lost h1
      → MayReplay (From base lost X) table1 h1
  may fair base lost X same_id may_assemble one =
      subst (λ (n : ℕ). MayReplay (record { devices = n; base = base; lost = lost; lists = X }) table1 h1) same_devices
      (may_replay spellings base lost X Mid (first.assembles.rests fair base lost X same_id may_assemble Mid refl one) (its_id ∙ sym same_id))

  moments : honest → (base : Table) (lost : Option Lost) (X : List (List Bytes)) → base.id ≡ id → MayAssemble base lost X old
      → HoldsThroughout base Devices lost X old.history h2
  moments fair base lost X same_id may_assemble =
      throughout_on h1 (first.assembles.moments fair base lost X same_id may_assemble) h2
      (throughout_if_lost base Devices lost X h1 h2 (settles.runs (more fair))
      (λ before at. settles.moments (more fair) (From base lost X) (may fair base lost X same_id may_assemble (before, at))))

  not_older : table2.geometry ≡ table1.geometry
  not_older = settles.goes_on.not_older.same_geometry

  -- a slot keeps its state, or it is missing and its device is down
  state_of : honest → (slot : ℕ) → (state_at table2.states slot ≡ state_at table1.states slot)
      ⊎ ((is_down h2 slot ≡ true) × (state_at table2.states slot ≡ Missing))
  state_of fair slot = elim settles.stays.table [
    | inl same ↦ inl (ap (λ (t : Table). state_at t.states slot) same)
    | inr lost ↦ elim (cases_eq slot lost.slot) [
      | inl is ↦ inr (
        ap (is_down h2) is ∙ sym ((true_new fair).down lost.slot) ∙ lost.is_down,
        ap (state_at table2.states) is ∙ missing_then table1 table2 lost.slot lost.marked lost.of_set,
      )
      | inr apart ↦ inl (state_stays table1 table2 lost.slot lost.marked slot apart)
    ]
  ]

  missing_stays : honest → (slot : ℕ) → state_at table1.states slot ≡ Missing → state_at table2.states slot ≡ Missing
  missing_stays fair slot missing = elim (state_of fair slot) [
    | inl same ↦ same ∙ missing
    | inr gone ↦ gone.1
  ]

  -- where it was answered
  module _ (number : ℕ) (ok : result ≡ Ok number) where
    abbrev Now : ArrayView
    Now = view_of panel2 h2 table2 number

    rests : honest → (base : Table) (lost : Option Lost) (X : List (List Bytes)) → base.id ≡ id → MayAssemble base lost X old
        → IsSingleFailure (slots_of base) lost h2 → OpensOnOne base lost X Now
    rests fair base lost X same_id may_assemble one =
        let reached = settles.reached (more fair) number ok (From base lost X) (may fair base lost X same_id may_assemble (one_before fair base lost one))
        one in
        let rest : Rests base table2 Devices number lost X h2 =
        settled_again_carried spellings Devices base table2 lost X h2 reached.0.writes number reached.1.entry one
        (sectors_of panel2 h2 (true_new fair)) reached.0.carried in
        record {
          logical = rest.logical;
          among = rest.among;
          not_older = rest.not_older;
          rests = record {
            lost = rest.lost;
            is_lost = rest.is_lost;
            rests = subst (λ (n : ℕ). IsSettled n table2 number h2 rest.lost rest.logical) (sym (settles.goes_on.later.devices ∙ same_devices)) rest.settled;
          };
        }

    not_ended : ¬ HasEnded result
    not_ended ended = subst (HasEnded {A = ℕ}) ok ended

    was_up : honest → (slot : ℕ) → is_down h2 slot ≡ false → is_down h1 slot ≡ false
    was_up fair slot up = up_before h1 h2 (stays_down fair) slot up

    incarnations_stay : table2.incarnations ≡ table1.incarnations
    incarnations_stay = elim settles.stays.table [
      | inl same ↦ ap (λ (t : Table). t.incarnations) same
      | inr lost ↦ lost.marked.has_incarnations
    ]

    -- what is down then is missing, if what was down before was
    failure : honest → (slot : ℕ) → is_down h2 slot ≡ true → (is_down h1 slot ≡ true → state_at table1.states slot ≡ Missing)
        → state_at table2.states slot ≡ Missing
    failure fair slot down before = by_state (is_down h1 slot) refl
      where
        by_state : (b : Bool) → is_down h1 slot ≡ b → state_at table2.states slot ≡ Missing
        by_state true is = missing_stays fair slot (before is)
        by_state false is = elim (le_or_lt (slots_of table1) slot) [
          | inr of_set ↦ settles.stays.failure (more fair) not_ended slot of_set record {
            was_up = (true_mid fair).down slot ∙ is;
            is_down =
                (true_new fair).down slot ∙ down;
          }
          | inl beyond ↦ missing_stays fair slot (table1.allowed.missing_beyond slot beyond)
        ]

    position : (table : Table) → table1.position ≡ position_in table1.states table.position → table2.position ≡ position_in table2.states table.position
    position table was = elim settles.stays.table [
      | inl same ↦ ap (λ (t : Table). t.position) same ∙ was ∙ ap (λ (t : Table). position_in t.states table.position) (sym same)
      | inr lost ↦ position_again table1 table2 lost.slot table.position lost.marked lost.of_set
    ]

    states : honest → (base : Table) (lost : Option Lost) (X : List (List Bytes)) → base.id ≡ id → MayAssemble base lost X old
        → IsSingleFailure (slots_of base) lost h2
        → (table : Table) → IsChosen id Devices (readable old.history) table → HasStatesOf table old Now
    states fair base lost X same_id may_assemble one table chosen =
        let was : HasStatesOf table old Mid = first.assembles.states fair base lost X same_id may_assemble Mid refl (one_before fair base lost one) table
        chosen in
        record {
          incarnations = incarnations_stay ∙ was.incarnations;
          live_stays = λ slot of_set live up. elim (state_of fair slot) [
            | inl same ↦ same ∙ was.live_stays slot of_set live (was_up fair slot up)
            | inr gone ↦ absurd (differ (sym gone.0 ∙ up))
          ];
          not_live = λ slot of_set out. missing_stays fair slot (was.not_live slot of_set out);
          failure = λ slot of_set down. failure fair slot down (λ was_down. was.failure slot of_set was_down);
          position = position table was.position;
        }

    no_set : honest → ((slot : ℕ) → HasNone id Devices slot (readable h2 slot)) → ⊥
    no_set fair none =
        first.assembles.no_set fair (subst (λ (i : List ℕ). (slot : ℕ) → HasNone i Devices slot (readable h1 slot)) its_id
        (subst (λ (n : ℕ). (slot : ℕ) → HasNone table1.id n slot (readable h1 slot)) same_devices
        (settles.none_counted (more fair) number ok (subst (λ (n : ℕ). (slot : ℕ) → HasNone table1.id n slot (readable h2 slot)) (sym same_devices)
        (subst (λ (i : List ℕ). (slot : ℕ) → HasNone i Devices slot (readable h2 slot)) (sym its_id) none))))) Mid refl

    -- the set is open
    pub assembled_set : Assembles honest id old (opened panel2 h2 table2 number)
    assembled_set = record {
      later = later_both old.panel panel1 panel2 first.assembles.later settles.goes_on.later;
      of_id = λ array same. of_opened (λ a. a.table.id ≡ id) Now array same (settles.goes_on.not_older.same_id ∙ its_id);
      its_slots = λ array same. of_opened (λ a. HasItsSlots a.table a.panel) Now array same (settles.goes_on.its_slots (first.assembles.its_slots Mid refl));
      moments = λ fair base lost X same_id may_assemble. moments fair base lost X same_id may_assemble;
      rests = λ fair base lost X same_id may_assemble array same. of_opened (λ a. IsSingleFailure (slots_of base) lost a.history → OpensOnOne base lost X a) Now
          array same
          (rests fair base lost X same_id may_assemble);
      states = λ fair base lost X same_id may_assemble array same.
          of_opened (λ a. IsSingleFailure (slots_of base) lost a.history → (table : Table) → IsChosen id Devices (readable old.history) table
          → HasStatesOf table old a) Now array same
          (states fair base lost X same_id may_assemble);
      refused = λ bank refusal same. absurd (not_both Now bank refusal same);
      cause = λ fair bank refusal same. absurd (not_both Now bank refusal same);
      no_set = λ fair none array same. no_set fair none;
    }

  -- where it was not
  module _ (refusal : Refusal) (is : result ≡ Err refusal) (fair : honest) where
    since : IsSince id old Mid
    since = first.since fair Mid refl

    same_since : slots_of table1 ≡ slots_of since.table
    same_since = elim since.marked [
      | inl same ↦ ap slots_of same
      | inr one ↦ ap (λ (g : Geometry). g.members + 2) one.2.same_geometry
    ]

    -- the moment is one of the whole run
    cut : cut_at since.t h2 ≡ cut_at since.t h1
    cut = cut_same since.t h1 h2 since.until (settles.runs (more fair))

    -- a slot that is out is down, or was not in full then
    out_then : (slot : ℕ) → slot < slots_of table2 → IsSlotOut (view_of panel2 h2 table2 0) slot → (is_down h2 slot ≡ true)
        ⊎ ¬ IsInFull panel1.devices since.table slot (readable (cut_at since.t h2) slot)
    out_then slot of_set (inl down) = inl (sym ((true_new fair).down slot) ∙ down)
    out_then slot of_set (inr out) = elim (state_of fair slot) [
      | inr gone ↦ inl gone.0
      | inl kept ↦ elim (since.out slot (subst (λ (n : ℕ). slot < n) (ap (λ (g : Geometry). g.members + 2) not_older ∙ same_since) of_set)
          (λ in_sync. out (kept ∙ in_sync))) [
            | inl down ↦ inl (stays_down fair slot down)
            | inr not_full ↦ inr (subst (λ (h : History). ¬ IsInFull panel1.devices since.table slot (readable h slot)) (sym cut) not_full)
          ]
    ]

    two_lost : IsTwoLost (view_of panel2 h2 table2 0) → IsTwoLostThen id panel1.devices old.history h2
    two_lost two =
        let same : slots_of table2 ≡ slots_of since.table = ap (λ (g : Geometry). g.members + 2) not_older ∙ same_since in
        record {
          t = since.t;
          from = since.from;
          until = omega (arith, since.until, calls_grow h2 (settles.runs (more fair)));
          table = since.table;
          chosen = subst (λ (h : History). IsChosen id panel1.devices (readable h) since.table) (sym cut) since.chosen;
          first = two.first;
          second = two.second;
          apart = two.apart;
          first_of_set = subst (λ (n : ℕ). two.first < n) same two.first_of_set;
          second_of_set = subst (λ (n : ℕ). two.second < n) same two.second_of_set;
          first_out = out_then two.first two.first_of_set two.first_out;
          second_out = out_then two.second two.second_of_set two.second_out;
          unwritten = λ out out'. absurd (two.apart (since.one two.first two.second (subst (λ (n : ℕ). two.first < n) same two.first_of_set)
              (subst (λ (n : ℕ). two.second < n) same two.second_of_set)
              (subst (λ (h : History). ¬ IsInFull panel1.devices since.table two.first (readable h two.first)) cut out)
              (subst (λ (h : History). ¬ IsInFull panel1.devices since.table two.second (readable h two.second)) cut out')));
        }

    -- where the table calls no slot missing, none was marked
    unmarked : ((slot : ℕ) → slot < slots_of table1 → state_at table1.states slot ≢ Missing) → table1 ≡ since.table
    unmarked none = elim since.marked [
      | inl same ↦ same
      | inr one ↦ absurd (none one.0 (subst (λ (n : ℕ). one.0 < n) (sym same_since) one.1) (missing_then since.table table1 one.0 one.2 one.1))
    ]

  same_new : panel2.devices ≡ panel1.devices
  same_new = settles.goes_on.later.devices

  cause_of : (refusal : Refusal) → result ≡ Err refusal → honest → IsStepEnd (view_of panel1 h1 table1 0) (view_of panel2 h2 table2 0) refusal
      → IsNoAssembly id old (bank_view panel2 h2) refusal
  cause_of refusal is fair (inl (two, both)) =
      subst (IsNoAssembly id old (bank_view panel2 h2)) (sym two)
      (subst (λ (n : ℕ). IsTwoLostThen id n old.history h2) (sym same_new) (two_lost refusal is fair both))
  cause_of refusal is fair (inr (inl (worn, calls))) = subst (IsNoAssembly id old (bank_view panel2 h2)) (sym worn) (inl calls)
  cause_of refusal is fair (inr (inr (worn, generation, same, none))) =
      subst (IsNoAssembly id old (bank_view panel2 h2)) (sym worn) (inr (subst (λ (n : ℕ). IsWornThen id n (readable old.history)) (sym same_new) record {
        table = table1;
        carried = subst (IsCarried id panel1.devices (readable old.history)) (sym (unmarked refusal is fair none)) (since refusal is fair).carried;
        generation = generation;
      }))

  told : (refusal : Refusal) → IsStepEnd (view_of panel1 h1 table1 0) (view_of panel2 h2 table2 0) refusal → IsOfAssembly refusal
  told refusal (inl (two, both)) = subst IsOfAssembly (sym two) tt
  told refusal (inr (inl (worn, calls))) = subst IsOfAssembly (sym worn) tt
  told refusal (inr (inr (worn, generation, same, none))) = subst IsOfAssembly (sym worn) tt

  -- the bank is given back
  pub unassembled_set : (refusal : Refusal) → result ≡ Err refusal → Assembles honest id old (given_back panel2 h2 refusal)
  unassembled_set refusal is = record {
    later = later_both old.panel panel1 panel2 first.assembles.later settles.goes_on.later;
    of_id = λ array same. absurd (not_opened array (bank_view panel2 h2) refusal same);
    its_slots = λ array same. absurd (not_opened array (bank_view panel2 h2) refusal same);
    moments = λ fair base lost X same_id may_assemble. moments fair base lost X same_id may_assemble;
    rests = λ fair base lost X same_id may_assemble array same. absurd (not_opened array (bank_view panel2 h2) refusal same);
    states = λ fair base lost X same_id may_assemble array same. absurd (not_opened array (bank_view panel2 h2) refusal same);
    refused = λ bank why same. of_returned (λ b r. IsOfAssembly r) (bank_view panel2 h2) bank refusal why same (told refusal (settles.cause refusal is));
    cause = λ fair bank why same. of_returned (λ b r. IsNoAssembly id old b r) (bank_view panel2 h2) bank refusal why same
        (cause_of refusal is fair (settles.cause refusal is));
    no_set = λ fair none array same. absurd (not_opened array (bank_view panel2 h2) refusal same);
  }

-- where its superblocks could not be put in order, so it is
pub unordered_set : (honest : Type 0) (id : List ℕ) (old : BankView) (panel : Panel) (h : History) (refusal : Refusal)
    → PutsInOrder honest id old (given_back panel h refusal)
    → Assembles honest id old (given_back panel h refusal)
unordered_set honest id old panel h refusal first = record {
  later = first.assembles.later;
  of_id = λ array same. absurd (not_opened array (bank_view panel h) refusal same);
  its_slots = λ array same. absurd (not_opened array (bank_view panel h) refusal same);
  moments = first.assembles.moments;
  rests = λ fair base lost X same_id may_assemble array same. absurd (not_opened array (bank_view panel h) refusal same);
  states = λ fair base lost X same_id may_assemble array same. absurd (not_opened array (bank_view panel h) refusal same);
  refused = first.assembles.refused;
  cause = first.assembles.cause;
  no_set = λ fair none array same. absurd (not_opened array (bank_view panel h) refusal same);
}
