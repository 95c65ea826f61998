-- A settled array of which a slot is marked missing is settled again.
use Rattle.std.proofs.Common.{◌≡◌, ◌≢◌, inl, inr, ℕ, ◌+◌, ◌%◌, ◌<◌, ◌≤◌, Bool, true, false, cond, List, [], ◌∷◌, length, Option, Some, None, refl, sym}
use Rattle.std.proofs.Common.{◌∙◌, ap, subst, subst₂, arith}
use Rattle.std.specs.Prelude.{IsSome}
use Rattle.std.proofs.lemmas.Bool.{cases_eq, cases_lt}
use Rattle.sector_model.specs.Bank.{IsTrueTo, Panel}
use Rattle.sector_model.specs.History.{Bytes, History, IsSector, MayHold, MayLeave, SlotMayHold, Slots, disk_of, is_down, sector_of, seen}
use Rattle.sector_model.specs.MemoryLaw.{length-seen}
use Rattle.sector_model.specs.Readable.{readable}
use Rattle.sector_model.proofs.Readable.{readable_left, readable_up}
use Rattle.sector_model.proofs.Steps.{is_there, up_seen}
use Rattle.layout_map.specs.declared.geometry.Geometry.{Geometry}
use Rattle.layout_map.specs.Placement.{rows_of}
use Rattle.layout_map.specs.declared.sizes.TheConstants.{FIRST_ROW, SUPERBLOCK_PLACES}
use Rattle.superblock.proofs.LeastSectors.{member_least}
use Rattle.superblock.specs.declared.state.State.{State}
use Rattle.superblock.specs.declared.state.State.TheVariants.{InSync, Missing}
use Rattle.superblock.specs.declared.table.Table.{Table}
use Rattle.superblock.specs.Tables.{incarnation_at, state_at}
use Rattle.superblock.specs.Cases.{HasWholeSectors, IsLostAfter, Lost, MayBeOut, lost_from}
use Rattle.superblock.specs.Counted.{Content, IsChosen, IsLive, least_sectors}
use Rattle.superblock.specs.Losses.{InEachImage}
use Rattle.superblock.specs.NextTables.{IsMarked, IsNotOlder, IsOut, slots_of}
use Rattle.superblock.specs.Publishing.{IsSafeAt, StandsAt, place_of}
use Rattle.superblock.proofs.PublishSteps.{GetsIt, IsInPublish, IsNewThere}
use Rattle.stripe_journal.specs.declared.seal.Seal.{Seal}
use Rattle.stripe_journal.specs.LastEntry.{IsLastSealed, number_of}
use Rattle.degraded.specs.Law.{DoesWithout}
use Rattle.degraded.specs.RowValue.{AreSound, Rows, direct_of, logical_list, value}
use Rattle.degraded.proofs.Loss.{one_member_may_go as row_values_stay}
use Rattle.degraded.proofs.Values.{value-agree}
use Rattle.array_io.specs.Believed.Holds.{Holds, row_count}
use Rattle.array_io.specs.Laws.Law.{AreAlike}
use Rattle.array_io.specs.Believed.Moments.{HoldsNow}
use Rattle.array_io.specs.Believed.Settled.{HaveNumber, IsSettled, rows_by, trusts}
use Rattle.array_io.specs.Believed.Views.{ArrayView, RestsAfter, RestsOn, view_of}
use Rattle.array_io.proofs.Laws.Begun.{chosen_is_one, one_at_most}
use Rattle.array_io.proofs.Marks.MarkingHolds.{missing_then, state_stays}
use Rattle.array_io.proofs.Images.Put.{put_elsewhere}
use Rattle.array_io.proofs.Images.Rows.{alike, sound_alike}
use Rattle.array_io.proofs.Images.SameBeyond.{AgreeBeyond, sealed_beyond}

-- A settled array of which one slot, with all others in sync, is marked missing: the new table is published, and safe on each other device.
pub record HasMarked (devices : ℕ) (old_table new_table : Table) (slot number : ℕ) (lost : Option Lost) (V : List Bytes) (sectors : ℕ → Bytes)
    (old new : History) : Type 0 where
  pub rests : IsSettled devices old_table number old lost V
  pub marked : IsMarked old_table slot new_table
  pub of_set : slot < slots_of old_table
  pub counted : state_at old_table.states slot ≢ Missing
  pub others : (other : ℕ) → other < slots_of old_table → other ≢ slot → state_at old_table.states other ≡ InSync
  pub whole : HasWholeSectors (readable old)
  pub spelled : (other : ℕ) → other < slots_of new_table → state_at new_table.states other ≢ Missing → StandsAt new_table other (sectors other)
  pub in_publish : IsInPublish new_table None sectors old new
  pub gets : (other : ℕ) → other < slots_of old_table → other ≢ slot → GetsIt new_table None other
  pub safe : (other : ℕ) → GetsIt new_table None other → IsSafeAt new other (place_of new_table) (sectors other)
  pub up : (other : ℕ) → other < slots_of old_table → other ≢ slot → is_down new other ≡ false

none_differ : Missing ≡ InSync → ⊥
none_differ is = cc

flags_differ : true ≡ false → ⊥
flags_differ is = cc

up_before : (b : Bool) → (b ≡ true → ⊥) → b ≡ false
up_before true never = absurd (never refl)
up_before false never = refl

some_own : (trusted : Bool) (own : Bytes) → trusted ≡ true → IsSome (direct_of None trusted own)
some_own trusted own is = subst (λ (t : Bool). IsSome (direct_of None t own)) (sym is) refl

module _ (devices : ℕ) (old_table new_table : Table) (slot number : ℕ) (lost : Option Lost) (V : List Bytes) (sectors : ℕ → Bytes) (old new : History)
    (has : HasMarked devices old_table new_table slot number lost V sectors old new) where
  set_is : slots_of new_table ≡ slots_of old_table
  set_is = ap (λ (g : Geometry). g.members + 2) has.marked.same_geometry

  missing : state_at new_table.states slot ≡ Missing
  missing = missing_then old_table new_table slot has.marked has.of_set

  in_sync : (other : ℕ) → other < slots_of old_table → other ≢ slot → state_at new_table.states other ≡ InSync
  in_sync other of_set apart = state_stays old_table new_table slot has.marked other apart ∙ has.others other of_set apart

  apart_if : (other : ℕ) → state_at new_table.states other ≢ Missing → other ≢ slot
  apart_if other there is = there (ap (λ (k : ℕ). state_at new_table.states k) is ∙ missing)

  was_there : (other : ℕ) → other < slots_of old_table → other ≢ slot → state_at old_table.states other ≢ Missing
  was_there other of_set apart is = none_differ (sym is ∙ has.others other of_set apart)

  is_counted : (other : ℕ) → other < slots_of old_table → other ≢ slot → state_at new_table.states other ≢ Missing
  is_counted other of_set apart is = none_differ (sym is ∙ in_sync other of_set apart)

  was_up : (device : ℕ) → is_down new device ≡ false → is_down old device ≡ false
  was_up device up = up_before (is_down old device) (λ down. flags_differ (sym (has.in_publish.stays_down device down) ∙ up))

  below_two : place_of new_table < SUPERBLOCK_PLACES
  below_two = omega arith

  held_beyond : (device at : ℕ) (value : Bytes) → SUPERBLOCK_PLACES ≤ at → MayHold new device at value → MayHold old device at value
  held_beyond device at value beyond may = elim (has.in_publish.holds device at value may) [
    | inl before ↦ before
    | inr is_new ↦ absurd (omega (arith, beyond, is_new.in_place, below_two))
  ]

  -- of a device that is up, each sector after the superblocks has what reads gave
  one_beyond : (device at : ℕ) (value : Bytes) → is_down new device ≡ false → SUPERBLOCK_PLACES ≤ at → MayHold new device at value
      → value ≡ sector_of (seen old device) at
  one_beyond device at value up beyond may =
      has.rests.nothing_pending device at value (sector_of (seen old device) at) (was_up device up) (held_beyond device at value beyond may)
      (up_seen old device at (was_up device up))

  seen_beyond : (device at : ℕ) → is_down new device ≡ false → SUPERBLOCK_PLACES ≤ at → sector_of (seen new device) at ≡ sector_of (seen old device) at
  seen_beyond device at up beyond = one_beyond device at (sector_of (seen new device) at) up beyond (up_seen new device at up)

  readable_beyond : (device at : ℕ) → is_down new device ≡ false → SUPERBLOCK_PLACES ≤ at
      → sector_of (disk_of (readable new device)) at ≡ sector_of (disk_of (readable old device)) at
  readable_beyond device at up beyond =
      ap (λ (c : Content). sector_of (disk_of c) at) (readable_up new device up)
      ∙ seen_beyond device at up beyond
      ∙ sym (ap (λ (c : Content). sector_of (disk_of c) at) (readable_up old device (was_up device up)))

  -- a sector has one value where it gets the superblock, or had one
  nothing_pending : (device at : ℕ) (first second : Bytes) → is_down new device ≡ false → MayHold new device at first → MayHold new device at second
      → first ≡ second
  nothing_pending device at first second up may may' = elim (has.in_publish.holds device at first may) [
    | inr is_new ↦ both is_new
    | inl before ↦ elim (has.in_publish.holds device at second may') [
      | inr is_new ↦ both is_new
      | inl before' ↦ has.rests.nothing_pending device at first second (was_up device up) before before'
    ]
  ]
    where
      safe_there : {value : Bytes} → IsNewThere new_table None sectors device at value → (held : Bytes) → MayHold new device at held → held ≡ sectors device
      safe_there is_new held may = has.safe device is_new.gets held (subst (λ (a : ℕ). MayHold new device a held) is_new.in_place may)

      both : {value : Bytes} → IsNewThere new_table None sectors device at value → first ≡ second
      both is_new = safe_there is_new first may ∙ sym (safe_there is_new second may')

  -- a slot that counts has what reads give, with the new superblock
  size_stays : (other : ℕ) → is_down new other ≡ false → length (disk_of (readable new other)) ≡ length (disk_of (readable old other))
  size_stays other up =
      ap (λ (c : Content). length (disk_of c)) (readable_up new other up)
      ∙ length-seen new other
      ∙ ap (λ (c : Content). length (disk_of c)) (has.in_publish.start other)
      ∙ sym (length-seen old other)
      ∙ sym (ap (λ (c : Content). length (disk_of c)) (readable_up old other (was_up other up)))

  stands_new : (other : ℕ) → other < slots_of old_table → other ≢ slot → sector_of (disk_of (readable new other)) (place_of new_table) ≡ sectors other
  stands_new other of_set apart =
      let up = has.up other of_set apart in
      ap (λ (c : Content). sector_of (disk_of c) (place_of new_table)) (readable_up new other up)
      ∙ has.safe other (has.gets other of_set apart) (sector_of (seen new other) (place_of new_table)) (up_seen new other (place_of new_table) up)

  live_now : (chosen : IsChosen new_table.id devices (readable new) new_table) → (other : ℕ) → other < slots_of old_table → other ≢ slot
      → IsLive devices new_table other (readable new other)
  live_now chosen other of_set apart =
      let was = has.rests.there other of_set (was_there other of_set apart) in
      let stands = has.spelled other (subst (λ (n : ℕ). other < n) (sym set_is) of_set) (is_counted other of_set apart) in
      record {
        long_enough = subst (λ (g : Geometry). least_sectors g other ≤ length (disk_of (readable new other))) (sym has.marked.same_geometry)
            (subst (λ (n : ℕ). least_sectors old_table.geometry other ≤ n) (sym (size_stays other (has.up other of_set apart))) was.long_enough);
        not_missing = is_counted other of_set apart;
        incarnation = record {
          place = place_of new_table;
          newest = stands.superblock;
          counted = record {
            stands = stands_new other of_set apart ∙ stands.spelled;
            of_set = ap (λ (t : Table). t.id) stands.carries;
            own_place = ap (λ (t : Table). t.generation % SUPERBLOCK_PLACES) stands.carries;
            own_slot = stands.own_slot;
            has_slots = omega (
              arith,
              ap (λ (t : Table). t.geometry.members) stands.carries,
              ap (λ (t : Table). t.geometry.members) chosen.carried,
              chosen.counted.has_slots,
            );
          };
          greatest = λ at superblock counts. subst (λ (t : Table). superblock.table.generation ≤ t.generation) (sym stands.carries)
              (chosen.greatest other at superblock counts);
          own = ap (λ (t : Table). incarnation_at t.incarnations other) stands.carries;
        };
      }

  -- the rows as the array reads them

  rows_before : Rows
  rows_before = rows_by old_table (readable old)

  rows_are : row_count new_table ≡ row_count old_table
  rows_are = ap (λ (g : Geometry). rows_of g.chunk g.stripes) has.marked.same_geometry

  in_set : (member : ℕ) → member < old_table.geometry.members → member < slots_of old_table
  in_set member within = omega (arith, within)

  trust_stays : (row member : ℕ) → member < old_table.geometry.members → member ≢ slot
      → trusts (state_at new_table.states member) row new_table.position ≡ trusts (state_at old_table.states member) row old_table.position
  trust_stays row member within apart =
      ap (λ (s : State). trusts s row new_table.position) (in_sync member (in_set member within) apart)
      ∙ sym (ap (λ (s : State). trusts s row old_table.position) (has.others member (in_set member within) apart))

  own_stays : (row member : ℕ) → member < old_table.geometry.members → member ≢ slot
      → sector_of (disk_of (readable new member)) (FIRST_ROW + row) ≡ sector_of (disk_of (readable old member)) (FIRST_ROW + row)
  own_stays row member within apart = readable_beyond member (FIRST_ROW + row) (has.up member (in_set member within) apart) (omega arith)

  width : new_table.geometry.members ≡ old_table.geometry.members
  width = ap (λ (g : Geometry). g.members) has.marked.same_geometry

  without_member : DoesWithout slot (rows_by old_table (readable old)) (rows_by new_table (readable new))
  without_member = record {
    width = width;
    entries = λ row other. refl;
    trusts = λ row other within apart. trust_stays row other within apart;
    owns = λ row other within apart. own_stays row other within apart;
    out = λ row. ap (λ (s : State). trusts s row new_table.position) missing;
  }

  own_whole : slot < old_table.geometry.members → (row : ℕ) → row < row_count old_table
      → length (sector_of (disk_of (readable old slot)) (FIRST_ROW + row)) ≡ 512
  own_whole within row below =
      let live = has.rests.there slot has.of_set has.counted in
      let least : least_sectors old_table.geometry slot ≡ FIRST_ROW + rows_of old_table.geometry.chunk old_table.geometry.stripes =
      member_least old_table.geometry slot within in
      let reached : FIRST_ROW + row < length (disk_of (readable old slot)) = omega (arith, least, live.long_enough, below) in
      has.whole slot (FIRST_ROW + row) reached

  same_values : (row member : ℕ) → row < row_count old_table → member < old_table.geometry.members
      → value (rows_by new_table (readable new)) row member ≡ value (rows_by old_table (readable old)) row member
  same_values row member below within = elim (cases_lt slot old_table.geometry.members) [
    | inl is_member ↦ row_values_stay slot (row_count old_table) (rows_by old_table (readable old)) (rows_by new_table (readable new)) is_member without_member
        has.rests.sound
        (λ r r_below counts. own_whole is_member r r_below)
        (λ r other r_below inside apart. some_own (trusts (state_at old_table.states other) r old_table.position)
        (sector_of (disk_of (readable old other)) (FIRST_ROW + r))
        (ap (λ (s : State). trusts s r old_table.position) (has.others other (in_set other inside) apart)))
        row member below within
    | inr is_journal ↦ value-agree row member (rows_by new_table (readable new)) (rows_by old_table (readable old)) (record {
      width = width;
      entries = λ other inside. refl;
      trusts = λ other inside. trust_stays row other inside (λ is. absurd (omega (arith, is, inside, is_journal)));
      owns = λ other inside none counts. own_stays row other inside (λ is. absurd (omega (arith, is, inside, is_journal)));
    }) within
  ]

  rows_alike : AreAlike new_table (rows_by new_table (readable new)) (rows_by old_table (readable old))
  rows_alike = alike new_table (rows_by new_table (readable new)) (rows_by old_table (readable old))
      (λ row member below within. same_values row member (subst (λ (n : ℕ). row < n) rows_are below) (subst (λ (n : ℕ). member < n) width within))

  listed : logical_list new_table.geometry (rows_by new_table (readable new)) ≡ V
  listed = rows_alike.lists ∙ ap (λ (g : Geometry). logical_list g (rows_by old_table (readable old))) has.marked.same_geometry ∙ has.rests.listed

  back_alike : AreAlike new_table (rows_by old_table (readable old)) (rows_by new_table (readable new))
  back_alike = record { values = λ row member below within. sym (rows_alike.values row member below within); lists = sym rows_alike.lists }

  sound : AreSound (rows_by new_table (readable new)) (row_count new_table)
  sound = sound_alike new_table (rows_by old_table (readable old)) (rows_by new_table (readable new)) (sym width) refl back_alike
      (subst (λ (n : ℕ). AreSound (rows_by old_table (readable old)) n) (sym rows_are) has.rests.sound)

  -- live journals have the array's number

  journal_beyond : (image : Slots) → MayLeave new image → (other : ℕ) → is_down new other ≡ false → AgreeBeyond (image other) (readable old other)
  journal_beyond image may other up = record {
    same = λ a beyond.
        let there = is_there new other image up may in
        ap (λ (c : Content). sector_of (disk_of c) a) there.1
        ∙ one_beyond other a (sector_of there.0 a) up beyond ((subst (λ (c : Content). SlotMayHold new other c) there.1 (may other)).2 a)
        ∙ sym (ap (λ (c : Content). sector_of (disk_of c) a) (readable_up old other (was_up other up)));
  }

  number_there : (image : Slots) → MayLeave new image → (journal : ℕ) (last : Option Seal) → new_table.geometry.members ≤ journal
      → journal < new_table.geometry.members + 2 → journal ≢ slot
      → IsLastSealed new_table.id new_table.geometry (image journal) last → number_of last ≡ number
  number_there image may journal last beyond of_set apart sealed =
      let of_old : journal < slots_of old_table = subst (λ (n : ℕ). journal < n) set_is of_set in
      let up = has.up journal of_old apart in
      has.rests.numbered.whole (readable old) (readable_left old) journal last
      (record {
        beyond_members = subst (λ (n : ℕ). n ≤ journal) width beyond;
        of_set = of_old;
        live =
            has.rests.there journal of_old (was_there journal of_old apart);
      })
      (sealed_beyond old_table.id old_table.geometry (image journal) (readable old journal) (journal_beyond image may journal up) last
      (subst₂ (λ (id : List ℕ) (g : Geometry). IsLastSealed id g (image journal) last) has.marked.same_id has.marked.same_geometry sealed))

  numbered : (of_lost : Lost) → of_lost.slot ≡ slot → InEachImage devices new_table new (Some of_lost) (HaveNumber devices new_table number)
  numbered of_lost own = record {
    whole = λ image may journal last live sealed. number_there image may journal last live.beyond_members live.of_set (apart_if journal live.live.not_missing)
        sealed;
    weakened = λ image other content may out stands journal last live sealed.
        let apart = apart_if journal live.live.not_missing in
        number_there image may journal last live.beyond_members live.of_set apart
        (subst (λ (c : Content). IsLastSealed new_table.id new_table.geometry c last) (put_elsewhere image other content journal (λ is. apart (is ∙ out ∙ own)))
        sealed);
  }

  -- what is lost is the slot that is missing now

  holds_by_new : (base : Table) (image : Slots) (of_lost : Lost) → base.id ≡ old_table.id → IsChosen new_table.id devices image new_table
      → Holds base devices record { image = image; lost = Some of_lost } (V ∷ [])
      → Holds new_table devices record { image = image; lost = Some of_lost } (V ∷ [])
  holds_by_new base image of_lost same_id chosen holds =
      let same : new_table ≡ holds.table =
      chosen_is_one devices holds.table (V ∷ []) image holds.whole new_table
      (subst (λ (id : List ℕ). IsChosen id devices image new_table) (has.marked.same_id ∙ sym same_id ∙ sym holds.not_older.same_id) chosen) in
      record {
        table = holds.table;
        not_older = subst (IsNotOlder new_table) same record { same_id = refl; same_geometry = refl; generation = omega arith; incarnation = λ s. omega arith };
        lost_in_set = holds.lost_in_set;
        whole = holds.whole;
        weakened = holds.weakened;
        one_counts = holds.one_counts;
      }

  only_out : (other : ℕ) → IsOut new_table other → other ≡ slot
  only_out other is = elim (cases_eq other slot) [
    | inl same ↦ same
    | inr apart ↦ absurd (is.out (in_sync other (subst (λ (n : ℕ). other < n) set_is is.of_set) apart))
  ]

  pub is_out_now : IsOut new_table slot
  is_out_now = record { of_set = subst (λ (n : ℕ). slot < n) (sym set_is) has.of_set; out = λ is. none_differ (sym missing ∙ is) }

  -- the array is settled again, with that slot lost
  pub marking_settles : (of_lost : Lost) → of_lost.slot ≡ slot → HoldsNow old_table devices (Some of_lost) (V ∷ []) new
      → InEachImage devices new_table new (Some of_lost) (λ image. IsChosen new_table.id devices image new_table)
      → IsSettled devices new_table number new (Some of_lost) V
  marking_settles of_lost own holds chosen = record {
    nothing_pending = nothing_pending;
    holds = λ image may. holds_by_new old_table image of_lost refl (chosen.whole image may) (holds (Some of_lost) image
        (subst (λ (k : ℕ). k < slots_of old_table) (sym own) has.of_set, refl, λ other of_set apart. has.up other of_set (λ is. apart (is ∙ sym own))) may);
    there = λ other of_set counted. live_now (chosen.whole (readable new) (readable_left new)) other (subst (λ (n : ℕ). other < n) set_is of_set)
        (apart_if other counted);
    listed = listed;
    sound = sound;
    chosen = chosen;
    numbered = numbered of_lost own;
    none_back = λ there. absurd (there (ap (λ (k : ℕ). state_at new_table.states k) own ∙ missing));
    lost_slot = record {
      none = λ complete. absurd (is_out_now.out (complete.in_sync slot is_out_now.of_set));
      out = λ other is. (own ∙ sym (only_out other is), refl);
    };
  }

-- the slot is lost that may be given up
pub lost_is : (lost : Option Lost) (slot : ℕ) → MayBeOut lost slot → (one : Lost) × (lost_from lost slot ≡ Some one) × (one.slot ≡ slot)
lost_is None slot may = (record { slot = slot; away = [] }, refl, refl)
lost_is (Some lost) slot may = (lost, refl, sym may)

-- the law, for an array of a table and a panel
pub marking_rests : (panel : Panel) (devices : ℕ) (old_table new_table : Table) (slot number : ℕ) (lost : Option Lost) (V : List Bytes) (sectors : ℕ → Bytes)
    (old new : History)
    → panel.devices ≡ devices → HasMarked devices old_table new_table slot number lost V sectors old new → MayBeOut lost slot
    → HoldsNow old_table devices (lost_from lost slot) (V ∷ []) new
    → InEachImage devices new_table new (lost_from lost slot) (λ image. IsChosen new_table.id devices image new_table)
    → RestsAfter (lost_from lost slot) (view_of panel new new_table number) V
marking_rests panel devices old_table new_table slot number lost V sectors old new same_devices has may holds chosen =
    let (one, is, own) = lost_is lost slot may in
    let settled = marking_settles devices old_table new_table slot number lost V sectors old new has one own
    (subst (λ (l : Option Lost). HoldsNow old_table devices l (V ∷ []) new) is holds)
    (subst (λ (l : Option Lost). InEachImage devices new_table new l (λ image. IsChosen new_table.id devices image new_table)) is chosen) in
    let out : IsOut new_table one.slot = subst (IsOut new_table) (sym own) (is_out_now devices old_table new_table slot number lost V sectors old new has) in
    record {
      lost = Some one;
      is_lost = subst (λ (l : Option Lost). IsLostAfter l new_table (Some one)) (sym is) (inr (out, refl));
      rests = subst (λ (n : ℕ). IsSettled n new_table number new (Some one) V) (sym same_devices) settled;
    }

-- a settled array's slot may be given up

holds_as_lost : (base : Table) (devices : ℕ) (image : Slots) (slot : ℕ) (X : List (List Bytes))
    → (holds : Holds base devices record { image = image; lost = None } X)
    → slot < slots_of holds.table → Holds base devices record { image = image; lost = Some record { slot = slot; away = [] } } X
holds_as_lost base devices image slot X holds of_set = record {
  table = holds.table;
  not_older = holds.not_older;
  lost_in_set = of_set;
  whole = holds.whole;
  weakened = λ other content may stands. holds.weakened other content tt stands;
  one_counts = λ there. one_at_most devices holds.table slot (image slot);
}

pub gives_up : (devices : ℕ) (table : Table) (number slot : ℕ) (lost : Option Lost) (V : List Bytes) (h : History) → IsSettled devices table number h lost V
    → slot < slots_of table
    → HoldsNow table devices (lost_from lost slot) (V ∷ []) h
gives_up devices table number slot None V h rests of_set after image is may =
    let holds = rests.holds image may in
    subst (λ (l : Option Lost). Holds table devices record { image = image; lost = l } (V ∷ [])) (sym is.1)
    (holds_as_lost table devices image slot (V ∷ []) holds (subst (λ (g : Geometry). slot < g.members + 2) (sym holds.not_older.same_geometry) of_set))
gives_up devices table number slot (Some lost) V h rests of_set after image is may =
    subst (λ (l : Option Lost). Holds table devices record { image = image; lost = l } (V ∷ [])) (sym is.1) (rests.holds image may)

pub chosen_as_lost : (devices : ℕ) (table : Table) (slot : ℕ) (lost : Option Lost) (h : History) (P : Slots → Type 0) → InEachImage devices table h lost P
    → InEachImage devices table h (lost_from lost slot) P
chosen_as_lost devices table slot None h P each = record {
  whole = each.whole;
  weakened =
      λ image other content may_leave may stands. each.weakened image other content may_leave tt stands;
}
chosen_as_lost devices table slot (Some lost) h P each = each

-- an array that is settled, with its slot missing already, is settled after it is marked
pub rests_missing : (array : ArrayView) (slot : ℕ) (lost : Option Lost) (V : List Bytes) → slot < slots_of array.table
    → state_at array.table.states slot ≡ Missing
    → RestsOn array lost V → RestsAfter (lost_from lost slot) array V
rests_missing array slot None V of_set missing rests =
    absurd (flags_differ (sym (rests.lost_slot.out slot record { of_set = of_set; out = λ is. none_differ (sym missing ∙ is) }).1))
rests_missing array slot (Some lost) V of_set missing rests =
    let own = (rests.lost_slot.out slot record { of_set = of_set; out = λ is. none_differ (sym missing ∙ is) }).0 in
    record {
      lost = Some lost;
      is_lost = inr (subst (IsOut array.table) (sym own) record { of_set = of_set; out = λ is. none_differ (sym missing ∙ is) }, refl);
      rests = rests;
    }

-- the sectors that reads give of an honest bank are whole
pub whole_readable : (panel : Panel) (h : History) → IsTrueTo panel h → HasWholeSectors (readable h)
whole_readable panel h is_true slot a within = by_state (is_down h slot) refl within
  where
    by_state : (down : Bool) → is_down h slot ≡ down → a < length (disk_of (cond down None (Some (seen h slot))))
        → IsSector (sector_of (disk_of (cond down None (Some (seen h slot)))) a)
    by_state true is within = absurd (omega (arith, within))
    by_state false is within = is_true.whole slot a (sector_of (seen h slot) a) (omega (arith, within, length-seen h slot)) (up_seen h slot a is)
