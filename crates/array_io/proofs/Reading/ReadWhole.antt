-- A whole sector is read as reads give it, also of an array that is not settled, where no device fails.
use Rattle.std.proofs.Common.{◌≡◌, ◌≢◌, inl, inr, ℕ, ◌+◌, ◌*◌, ◌/◌, ◌%◌, ◌<◌, ◌≤◌, Bool, true, false, List, [], ◌∷◌, ◌++◌, length, get_or, Option, None, refl}
use Rattle.std.proofs.Common.{sym, ◌∙◌, ap, subst, arith}
use Rattle.std.specs.Prelude.{OnOk, Ok, Err, Result, is_ok, map}
use Rattle.std.proofs.lemmas.Bool.{cases_eq, cases_lt}
use Rattle.std.proofs.lemmas.List.{get_or_past}
use Rattle.sector_model.specs.declared.refusal.Refusal.{Refusal}
use Rattle.sector_model.specs.declared.sector.Stop.{Stop}
use Rattle.sector_model.specs.declared.sector.Stop.TheVariants as stop
use Rattle.sector_model.specs.Bank.{IsLater, IsTrueTo, Panel}
use Rattle.sector_model.specs.Calls.{Call, Flush, Made, Performs, Read, Write, after_call}
use Rattle.sector_model.specs.History.{Bytes, History, Slots, disk_of, is_down, sector_of, seen}
use Rattle.sector_model.specs.Readable.{readable}
use Rattle.sector_model.proofs.Readable.{readable_down, readable_up}
use Rattle.sector_model.proofs.Sequences.{seen_elsewhere}
use Rattle.layout_map.specs.declared.geometry.Geometry.{Geometry}
use Rattle.layout_map.specs.Placement.{IsPlace, data_sectors_of, member_of_chunk, stripe_of_chunk}
use Rattle.layout_map.specs.declared.sizes.TheConstants.{FIRST_ROW, SUPERBLOCK_PLACES}
use Rattle.superblock.specs.declared.state.State.{State}
use Rattle.superblock.specs.declared.state.State.TheVariants.{InSync}
use Rattle.superblock.specs.declared.table.Table.{Table}
use Rattle.superblock.specs.NextTables.{IsMarked, slots_of}
use Rattle.superblock.specs.Publishing.{first_slots, place_of, publish_calls, written_and_flushed}
use Rattle.superblock.specs.Tables.{state_at}
use Rattle.degraded.specs.RowValue.{Rows, logical_list, value}
use Rattle.degraded.proofs.Values.{value-agree, value-own}
use Rattle.array_io.specs.Believed.ArrayCalls.{Answer}
use Rattle.array_io.specs.Steps.MarkingOn.{IsWhyLeft, answer_of}
use Rattle.array_io.specs.Steps.ReadingOn.{IsFailureMarked, IsValueRead, ReadsOrFailsSlot}
use Rattle.array_io.specs.Believed.ReadWhole.{NoDeviceFailed, ReadsValue, ReadsWhole, SectorsStay, ValuesStay, list_read}
use Rattle.array_io.specs.Believed.Settled.{rows_by, trusts}
use Rattle.array_io.specs.Believed.Views.{ArrayView, view_of}
use Rattle.array_io.proofs.Commits.FormedRows.{length-logical_list, sector_of_logical_list}
use Rattle.array_io.proofs.Marks.MarkingCalls.{all_answered_down}
use Rattle.array_io.proofs.Marks.MarkingHolds.{missing_then, state_stays}
use Rattle.array_io.proofs.Writes.Writable.{same_readable}

-- ---- publishing writes superblocks alone

-- calls that write sectors below the n-th alone
abbrev WriteBelow : ℕ → List Call → Type 0
WriteBelow n [] = Unit {0}
WriteBelow n (Write device at bytes ∷ calls) = (at < n) × WriteBelow n calls
WriteBelow n (call ∷ calls) = WriteBelow n calls

below_both : (n : ℕ) (first second : List Call) → WriteBelow n first → WriteBelow n second → WriteBelow n (first ++ second)
below_both n [] second below below' = below'
below_both n (Read device at ∷ first) second below below' = below_both n first second below below'
below_both n (Write device at bytes ∷ first) second below below' = (below.0, below_both n first second below.1 below')
below_both n (Flush device ∷ first) second below below' = below_both n first second below below'

below_writes : (n at : ℕ) (sectors : ℕ → Bytes) (slots : List ℕ) → at < n → WriteBelow n (map (λ slot. Write slot at (sectors slot)) slots)
below_writes n at sectors [] within = tt
below_writes n at sectors (slot ∷ slots) within = (within, below_writes n at sectors slots within)

below_flushes : (n : ℕ) (slots : List ℕ) → WriteBelow n (map (λ slot. Flush slot) slots)
below_flushes n [] = tt
below_flushes n (slot ∷ slots) = below_flushes n slots

below_publish : (table : Table) (sectors : ℕ → Bytes) → WriteBelow 2 (publish_calls table None sectors)
below_publish table sectors =
    below_both 2 (written_and_flushed table sectors (first_slots table None)) [] (below_both 2
    (map (λ slot. Write slot (place_of table) (sectors slot)) (first_slots table None)) (map (λ slot. Flush slot) (first_slots table None))
    (below_writes 2 (place_of table) sectors (first_slots table None) (omega arith)) (below_flushes 2 (first_slots table None))) tt

-- they leave the sectors beyond
seen_beyond : (n : ℕ) (calls : List Call) (old new : History) (device at : ℕ) → WriteBelow n calls → Performs calls true old new → n ≤ at
    → sector_of (seen new device) at ≡ sector_of (seen old device) at
seen_beyond n [] old new device at below (all, is) beyond = ap (λ (h : History). sector_of (seen h device) at) is
seen_beyond n (call ∷ calls) old new device at below (inl (none, is)) beyond = absurd (cc)
seen_beyond n (Read other place ∷ calls) old new device at below (inr (up, rest)) beyond =
    seen_beyond n calls (after_call (Read other place) true old) new device at below rest beyond
seen_beyond n (Write other place bytes ∷ calls) old new device at below (inr (up, rest)) beyond =
    seen_beyond n calls (after_call (Write other place bytes) true old) new device at below.1 rest beyond
    ∙ seen_elsewhere other place bytes old device at (λ same is. omega (arith, below.0, beyond, is))
seen_beyond n (Flush other ∷ calls) old new device at below (inr (up, rest)) beyond =
    seen_beyond n calls (after_call (Flush other) true old) new device at below rest beyond

-- what reads give after the superblocks, of devices that are as up as before
own_beyond : (old new : History) (device at : ℕ) → is_down new device ≡ is_down old device → sector_of (seen new device) at ≡ sector_of (seen old device) at
    → sector_of (disk_of (readable new device)) at ≡ sector_of (disk_of (readable old device)) at
own_beyond old new device at down same = by_state (is_down old device) refl
  where
    by_state : (b : Bool) → is_down old device ≡ b → sector_of (disk_of (readable new device)) at ≡ sector_of (disk_of (readable old device)) at
    by_state true is = ap (λ (c : Option (List Bytes)). sector_of (disk_of c) at) (readable_down new device (down ∙ is) ∙ sym (readable_down old device is))
    by_state false is =
        ap (λ (c : Option (List Bytes)). sector_of (disk_of c) at) (readable_up new device (down ∙ is)) ∙ same
        ∙ ap (λ (c : Option (List Bytes)). sector_of (disk_of c) at) (sym (readable_up old device is))

-- ---- a slot that is down is marked missing, all others being in sync

record HasMarkedDown (slot : ℕ) (table new_table : Table) (old new : History) : Type 0 where
  of_set : slot < slots_of table
  others : (other : ℕ) → other < slots_of table → other ≢ slot → state_at table.states other ≡ InSync
  marked : IsMarked table slot new_table
  down : is_down old slot ≡ true
  own : (device at : ℕ) → SUPERBLOCK_PLACES ≤ at → sector_of (disk_of (readable new device)) at ≡ sector_of (disk_of (readable old device)) at

ok_if : (result : Result (Unit {0}) Stop) → answer_of result ≡ Ok tt → is_ok result ≡ true
ok_if (Ok done) is = refl
ok_if (Err (stop.Down device)) is = absurd (cc)
ok_if (Err stop.Worn) is = absurd (cc)

module _ (slot : ℕ) (table new_table : Table) (old new : History) (has : HasMarkedDown slot table new_table old new) where
  trusted_same : (row other : ℕ) → other < slots_of table → (other ≡ slot → trusts (state_at table.states slot) row table.position ≡ false)
      → trusts (state_at new_table.states other) row new_table.position ≡ trusts (state_at table.states other) row table.position
  trusted_same row other of_set out = elim (cases_eq other slot) [
    | inl same ↦ ap (λ (k : ℕ). trusts (state_at new_table.states k) row new_table.position) same
        ∙ ap (λ (s : State). trusts s row new_table.position) (missing_then table new_table slot has.marked has.of_set)
        ∙ sym (ap (λ (k : ℕ). trusts (state_at table.states k) row table.position) same ∙ out same)
    | inr apart ↦
        let in_sync = has.others other of_set apart in
        ap (λ (s : State). trusts s row new_table.position) (state_stays table new_table slot has.marked other apart ∙ in_sync)
        ∙ sym (ap (λ (s : State). trusts s row table.position) in_sync)
  ]

  same_width : new_table.geometry.members ≡ table.geometry.members
  same_width = ap (λ (g : Geometry). g.members) has.marked.same_geometry

  -- the slot itself: nothing is read of it
  own_stays : (row : ℕ) (b : Bool) → trusts (state_at table.states slot) row table.position ≡ b → slot < table.geometry.members
      → length (value (rows_by table (readable old)) row slot) ≡ 512
      → value (rows_by new_table (readable new)) row slot ≡ value (rows_by table (readable old)) row slot
  own_stays row true is below whole =
      let none : value (rows_by table (readable old)) row slot ≡ [] =
      value-own (rows_by table (readable old)) row slot refl is
      ∙ ap (λ (c : Option (List Bytes)). sector_of (disk_of c) (FIRST_ROW + row)) (readable_down old slot has.down) in
      absurd (omega (arith, ap length none, whole))
  own_stays row false is below whole = value-agree row slot (rows_by new_table (readable new)) (rows_by table (readable old)) record {
    width = same_width;
    entries = λ member within. refl;
    trusts = λ member within. trusted_same row member (omega (arith, within)) (λ same. is);
    owns = λ member within none counts. has.own member (FIRST_ROW + row) (omega arith);
  } below

  values_stay : ValuesStay table new_table old new
  values_stay row member below whole = elim (cases_eq member slot) [
    | inl same ↦
        subst (λ (m : ℕ). value (rows_by new_table (readable new)) row m ≡ value (rows_by table (readable old)) row m) (sym same)
        (own_stays row (trusts (state_at table.states slot) row table.position) refl (subst (λ (m : ℕ). m < table.geometry.members) same below)
        (subst (λ (m : ℕ). length (value (rows_by table (readable old)) row m) ≡ 512) same whole))
    | inr apart ↦
        let of_set : member < slots_of table = omega (arith, below) in
        let in_sync = has.others member of_set apart in
        let now : trusts (state_at new_table.states member) row new_table.position ≡ true =
        ap (λ (s : State). trusts s row new_table.position) (state_stays table new_table slot has.marked member apart ∙ in_sync) in
        let was : trusts (state_at table.states member) row table.position ≡ true = ap (λ (s : State). trusts s row table.position) in_sync in
        value-own (rows_by new_table (readable new)) row member refl now ∙ has.own member (FIRST_ROW + row) (omega arith)
        ∙ sym (value-own (rows_by table (readable old)) row member refl was)
  ]

-- ---- one try to read a value, and two

differ : ¬ (true ≡ false)
differ is = cc

module _ (honest : Type 0) (table new_table : Table) (old_panel new_panel : Panel) (old new : History)
    (is : IsFailureMarked honest table new_table old_panel new_panel old new (Ok tt))
    (true_old : honest → IsTrueTo old_panel old) (of_bank : slots_of table ≤ old_panel.devices) where
  failed_already : honest → NoDeviceFailed old_panel new_panel → is_down old is.slot ≡ true
  failed_already fair none = sym ((true_old fair).down is.slot) ∙ by_state (old_panel.down is.slot) refl
    where
      down_then : new_panel.down is.slot ≡ true
      down_then = elim is.marks [
        | inl left ↦ ap (λ (p : Panel). p.down is.slot) left.same_panel ∙ is.calls.cause (stop.Down is.slot) refl
        | inr marked ↦ marked.publishes.later.down is.slot (is.calls.cause (stop.Down is.slot) refl)
      ]

      by_state : (b : Bool) → old_panel.down is.slot ≡ b → old_panel.down is.slot ≡ true
      by_state true down = down
      by_state false up = absurd (differ (sym down_then ∙ none is.slot (omega (arith, is.counted.of_set, of_bank)) up))

  down_in_mid : honest → is_down is.mid is.slot ≡ true
  down_in_mid fair = sym ((is.true_mid fair).down is.slot) ∙ is.calls.cause (stop.Down is.slot) refl

  same_before : honest → NoDeviceFailed old_panel new_panel → readable is.mid ≡ readable old
  same_before fair none = same_readable old is.mid (is.reads fair) (λ d. elim (cases_eq d is.slot) [
    | inl same ↦ ap (is_down is.mid) same ∙ down_in_mid fair ∙ sym (ap (is_down old) same ∙ failed_already fair none)
    | inr apart ↦ (is.calls.off fair).others_down d apart
  ])

  why_not : IsWhyLeft table is.slot (Ok tt) → ⊥
  why_not (inl (missing, ok)) = is.counted.there missing
  why_not (inr (inl (there, beside, two))) = absurd (cc)
  why_not (inr (inr (there, worn, others, is_worn))) = absurd (cc)

  has_marked : honest → HasMarkedDown is.slot table new_table is.mid new
  has_marked fair = elim is.marks [
    | inl left ↦ absurd (why_not left.why)
    | inr marked ↦
        let calls = publish_calls new_table None marked.publishes.sectors in
        let made = subst (λ (b : Bool). Made calls b is.mid new) (ok_if marked.result (sym marked.answered)) (marked.publishes.made fair) in
        record {
          of_set = is.counted.of_set;
          others = marked.others;
          marked = marked.marked;
          down = down_in_mid fair;
          own = λ device at beyond. own_beyond is.mid new device at (all_answered_down calls is.mid new device made.performed)
              (seen_beyond 2 calls is.mid new device at (below_publish new_table marked.publishes.sectors) made.performed beyond);
        }
  ]

  -- where no device failed in it, a try that marked a slot changes no whole value
  failure_stays : honest → NoDeviceFailed old_panel new_panel → ValuesStay table new_table old new
  failure_stays fair none = subst (λ (i : Slots). (row member : ℕ) → member < table.geometry.members → length (value (rows_by table i) row member) ≡ 512
      → value (rows_by new_table (readable new)) row member ≡ value (rows_by table i) row member) (same_before fair none)
      (values_stay is.slot table new_table is.mid new (has_marked fair))

-- a try that answered the value read it
value_read : (honest : Type 0) (table new_table : Table) (member row : ℕ) (old_panel new_panel : Panel) (old new : History) (to : Bytes)
    (result : Result Bool Refusal)
    → ReadsOrFailsSlot honest table new_table member row old_panel new_panel old new to result → result ≡ Ok true → (new_table ≡ table)
    × IsValueRead honest table member row old_panel new_panel old new to
value_read honest table new_table member row old_panel new_panel old new to result reads read = elim reads [
  | inl is ↦ (is.1, is.2)
  | inr rest ↦ elim rest [
    | inl is ↦ absurd (cc)
    | inr others ↦ elim others [
      | inl is ↦ absurd (cc)
      | inr is ↦ absurd (cc)
    ]
  ]
]

-- the value was read by the first try
pub first_whole : (honest : Type 0) (table new_table : Table) (member row : ℕ) (old_panel new_panel : Panel) (old new : History) (to : Bytes)
    (result : Result Bool Refusal)
    → ReadsOrFailsSlot honest table new_table member row old_panel new_panel old new to result → result ≡ Ok true → honest
    → ReadsValue table new_table member row old new to
first_whole honest table new_table member row old_panel new_panel old new to result reads read fair =
    let is = value_read honest table new_table member row old_panel new_panel old new to result reads read in
    record {
      given = λ whole. is.1.gives fair;
      stays = λ r m below whole. ap (λ (t : Table). value (rows_by t (readable new)) r m) is.0
          ∙ ap (λ (i : Slots). value (rows_by table i) r m) (same_readable old new (is.1.reads fair) (is.1.stays fair));
    }

-- none failed in the first part of a run in which none failed
none_failed_before : (old mid new : Panel) → IsLater mid new → NoDeviceFailed old new → NoDeviceFailed old mid
none_failed_before old mid new later none slot of_bank up = by_state (mid.down slot) refl
  where
    by_state : (b : Bool) → mid.down slot ≡ b → mid.down slot ≡ false
    by_state true down = absurd (differ (sym (later.down slot down) ∙ none slot of_bank up))
    by_state false still = still

-- it was read by the second
pub second_whole : (honest still : Type 0) → (honest → still)
    → (table mid_table new_table : Table) (member row : ℕ) (old_panel mid_panel new_panel : Panel) (old mid new : History) (to : Bytes)
    (second : Result Bool Refusal) → IsFailureMarked honest table mid_table old_panel mid_panel old mid (Ok tt) → (honest → IsTrueTo old_panel old)
    → slots_of table ≤ old_panel.devices
    → member < table.geometry.members → ReadsOrFailsSlot still mid_table new_table member row mid_panel new_panel mid new to second → second ≡ Ok true → honest
    → NoDeviceFailed old_panel new_panel
    → ReadsValue table new_table member row old new to
second_whole honest still more table mid_table new_table member row old_panel mid_panel new_panel old mid new to second is true_old of_bank below reads read
    fair none =
    let was = value_read still mid_table new_table member row mid_panel new_panel mid new to second reads read in
    let now = first_whole still mid_table new_table member row mid_panel new_panel mid new to second reads read (more fair) in
    let first = failure_stays honest table mid_table old_panel mid_panel old mid is true_old of_bank fair
    (none_failed_before old_panel mid_panel new_panel was.1.later none) in
    record {
      given = λ whole. now.given (ap length (first row member below whole) ∙ whole) ∙ first row member below whole;
      stays = λ r m within whole. now.stays r m (subst (λ (g : Geometry). m < g.members) (sym same) within) (ap length (first r m within whole) ∙ whole)
          ∙ first r m within whole;
    }
  where
    same : mid_table.geometry ≡ table.geometry
    same = elim is.marks [
      | inl left ↦ ap (λ (t : Table). t.geometry) left.same_table
      | inr marked ↦ marked.marked.same_geometry
    ]

-- ---- a logical sector

at_place : (geometry : Geometry) (rows : Rows) (logical member row : ℕ) → logical < data_sectors_of geometry.members geometry.chunk geometry.stripes
    → IsPlace geometry.members geometry.chunk logical member row
    → get_or (logical_list geometry rows) logical [] ≡ value rows row member
at_place geometry rows logical member row below place =
    sector_of_logical_list geometry rows logical below
    ∙ sym (ap (λ (r : ℕ). value rows r member) place.on_row
    ∙ ap (λ (m : ℕ). value rows (stripe_of_chunk geometry.members (logical / geometry.chunk) * geometry.chunk + logical % geometry.chunk) m) place.on_member)

module _ (table new_table : Table) (member row : ℕ) (old_panel new_panel : Panel) (old new : History) (number new_number : ℕ) (to : Bytes)
    (same : new_table.geometry ≡ table.geometry)
    (read : ReadsValue table new_table member row old new to) where
  abbrev Was : ArrayView
  Was = view_of old_panel old table number

  abbrev Now : ArrayView
  Now = view_of new_panel new new_table new_number

  sectors_stay : SectorsStay Was Now
  sectors_stay sector whole = elim (cases_lt sector (data_sectors_of table.geometry.members table.geometry.chunk table.geometry.stripes)) [
    | inl below ↦
        let g = table.geometry in
        let r = stripe_of_chunk g.members (sector / g.chunk) * g.chunk + sector % g.chunk in
        let m = member_of_chunk g.members (sector / g.chunk) in
        let within : m < g.members = omega (arith, g.limits.members_least) in
        let was : get_or (list_read Was) sector [] ≡ value (rows_by table (readable old)) r m =
        sector_of_logical_list g (rows_by table (readable old)) sector below in
        let now : get_or (list_read Now) sector [] ≡ value (rows_by new_table (readable new)) r m =
        ap (λ (s : Geometry). get_or (logical_list s (rows_by new_table (readable new))) sector []) same
        ∙ sector_of_logical_list g (rows_by new_table (readable new)) sector below in
        now ∙ read.stays r m within (ap length (sym was) ∙ whole) ∙ sym was
    | inr past ↦
        let none : get_or (list_read Was) sector [] ≡ [] =
        get_or_past (list_read Was) sector [] (omega (arith, past, length-logical_list table.geometry (rows_by table (readable old)))) in
        absurd (omega (arith, ap length none, whole))
  ]

  pub reads_whole : (logical : ℕ) → logical < data_sectors_of table.geometry.members table.geometry.chunk table.geometry.stripes
      → IsPlace table.geometry.members table.geometry.chunk logical member row
      → ReadsWhole logical Was Now to
  reads_whole logical below place =
      let was : get_or (list_read Was) logical [] ≡ value (rows_by table (readable old)) row member =
      at_place table.geometry (rows_by table (readable old)) logical member row below place in
      record {
        given = λ whole. read.given (ap length (sym was) ∙ whole) ∙ sym was;
        stays = sectors_stay;
      }

-- the same of an answer
pub whole_if : (old_panel new_panel : Panel) (table new_table : Table) (member row : ℕ) (old new : History) (number new_number : ℕ) (to : Bytes)
    → new_table.geometry ≡ table.geometry → (logical : ℕ)
    → logical < data_sectors_of table.geometry.members table.geometry.chunk table.geometry.stripes
    → IsPlace table.geometry.members table.geometry.chunk logical member row → (answer : Answer)
    → OnOk answer (NoDeviceFailed old_panel new_panel → ReadsValue table new_table member row old new to)
    → OnOk answer (NoDeviceFailed old_panel new_panel → ReadsWhole logical (view_of old_panel old table number) (view_of new_panel new new_table new_number) to)
whole_if old_panel new_panel table new_table member row old new number new_number to same logical below place (Ok done) read =
    λ none. reads_whole table new_table member row old_panel new_panel old new number new_number to same (read none) logical below place
whole_if old_panel new_panel table new_table member row old new number new_number to same logical below place (Err refusal) read = read
