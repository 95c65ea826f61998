-- Assembling a set that is safe: what a crash in it leaves, what it gives, and that it is refused for a counter alone.
use Rattle.std.proofs.Common.{◌≡◌, ◌≢◌, ◌⊎◌, inl, inr, ℕ, ◌+◌, ◌<◌, Bool, true, false, List, [], Option, Some, None, refl, sym, ◌∙◌, subst, subst₂, ◌==◌, ◌||◌}
use Rattle.std.proofs.Common.{cond}
use Rattle.std.specs.Prelude.{nat_lt}
use Rattle.std.proofs.lemmas.Bool.{cases_eq}
use Rattle.sector_model.specs.declared.event.Event.{Event}
use Rattle.sector_model.specs.declared.event.Event.TheVariants.{Quiet, Wrote, Lost, Flushed, DeviceFailed}
use Rattle.sector_model.specs.declared.refusal.Refusal.{Refusal}
use Rattle.sector_model.specs.declared.refusal.Refusal.TheVariants.{NoSet, TwoLost, Worn}
use Rattle.sector_model.specs.Bank.{Panel}
use Rattle.sector_model.specs.History.{After, Began, Bytes, History, Slots, calls_of, cut_at, is_down}
use Rattle.sector_model.specs.Moments.{Throughout}
use Rattle.sector_model.specs.Readable.{readable}
use Rattle.sector_model.specs.Reads.{HasRead}
use Rattle.sector_model.proofs.Readable.{readable_left}
use Rattle.sector_model.proofs.Steps.{throughout_cut, throughout_last, throughout_more}
use Rattle.superblock.specs.declared.table.Table.{Table}
use Rattle.superblock.specs.Cases as cases
use Rattle.superblock.specs.Cases.{HasNone, MayBeOut, with_slot}
use Rattle.superblock.specs.Counted.{Counts, IsChosen, IsInFull}
use Rattle.superblock.specs.Losses.{IsLostAt, IsSingleFailure, OthersAreUp}
use Rattle.superblock.specs.NextTables.{slots_of}
use Rattle.array_io.specs.Believed.Holds.{Holds}
use Rattle.array_io.specs.Believed.Moments.{HoldsNow, HoldsThroughout}
use Rattle.array_io.proofs.Laws.Beginning.{a_run_begins}
use Rattle.array_io.proofs.Laws.Begun.{chosen_is_one}
use Rattle.array_io.proofs.Images.Codecs.{spellings}
use Rattle.array_io.proofs.Images.Counting.{none_is_out}
use Rattle.array_io.proofs.Images.Put.{put_elsewhere, put_there}
use Rattle.recovery.proofs.AssembledLaw.{reads_hold}
use Rattle.recovery.specs.Making as recovery
use Rattle.recovery.specs.Making.{Opened, Outcome, Returned, bank_after}
use Rattle.recovery.specs.Assembling.{Assembles, IsNoAssembly, IsOfAssembly, IsTwoLostThen, MayAssemble}
use Rattle.volume_table.specs.Volumes.{VolumeMap}
use Rattle.volume_table.specs.Stands.{StandsNow}
use Rattle.volume_table.specs.Runs.{World, begun_with}
use Rattle.volume_table.specs.Headline.{IsAssembledUnlessWorn}
use Rattle.volume_table.proofs.SafeWorlds.{IsSafe, same_slots}

or_false : (a b : Bool) → (a || b) ≡ false → b ≡ false
or_false true b is = let never : true ≡ false = is in cc
or_false false b is = is

-- a device that is up after an event was up before it
up_before : (e : Event) (h : History) (d : ℕ) → is_down (After e h) d ≡ false → is_down h d ≡ false
up_before Quiet h d up = up
up_before (Wrote device at value) h d up = up
up_before (Lost device at value) h d up = or_false (d == device) (is_down h d) up
up_before (Flushed device) h d up = up
up_before (DeviceFailed device) h d up = or_false (d == device) (is_down h d) up

up_cut : (t : ℕ) (h : History) (d : ℕ) → is_down h d ≡ false → is_down (cut_at t h) d ≡ false
up_cut t (Began start) d up = up
up_cut t (After e h) d up = by_case (nat_lt t (calls_of h + 1)) (up_cut t h d (up_before e h d up))
  where
    by_case : (b : Bool) → is_down (cut_at t h) d ≡ false → is_down (cond b (cut_at t h) (After e h)) d ≡ false
    by_case true before = before
    by_case false before = up

-- Two slots that are not in full, or down later, are the slot that may be out.
record AtOnce (devices : ℕ) (table : Table) (image : Slots) (out : ℕ) : Type 0 where
  pub without : (first second : ℕ) → first < slots_of table → second < slots_of table
      → ¬ IsInFull devices table first (with_slot image out None first) → ¬ IsInFull devices table second (with_slot image out None second) → first ≡ second
  pub of_set : out < slots_of table

is_out_slot : (devices : ℕ) (table : Table) (image : Slots) (out slot : ℕ) → AtOnce devices table image out → slot < slots_of table
    → ¬ IsInFull devices table slot (image slot) → slot ≡ out
is_out_slot devices table image out slot once below not_full = elim (cases_eq slot out) [
  | inl is ↦ is
  | inr apart ↦ once.without slot out below once.of_set
      (λ full. not_full (subst (IsInFull devices table slot) (put_elsewhere image out None slot apart) full))
      (λ full. none_is_out spellings devices table out (subst (IsInFull devices table out) (put_there image out None) full).live)
]

-- whatever is out by the end is the slot
lost_or_out : (devices : ℕ) (table : Table) (image : Slots) (h : History) (slots out slot : ℕ) → slots_of table ≡ slots → AtOnce devices table image out
    → OthersAreUp slots h out
    → slot < slots_of table → (is_down h slot ≡ true) ⊎ ¬ IsInFull devices table slot (image slot) → slot ≡ out
lost_or_out devices table image h slots out slot same once up below (inr not_full) = is_out_slot devices table image out slot once below not_full
lost_or_out devices table image h slots out slot same once up below (inl down) = elim (cases_eq slot out) [
  | inl is ↦ is
  | inr apart ↦ absurd (differ (sym down ∙ up slot (subst (λ (n : ℕ). slot < n) same below) apart))
]
  where
    differ : true ≡ false → ⊥
    differ is = cc

-- what was assumed of the two slots, by the table of the case
record TwoAre (devices : ℕ) (table : Table) (image : Slots) (h : History) : Type 0 where
  pub first : ℕ
  pub second : ℕ
  pub apart : first ≢ second
  pub first_of_set : first < slots_of table
  pub second_of_set : second < slots_of table
  pub first_out : (is_down h first ≡ true) ⊎ ¬ IsInFull devices table first (image first)
  pub second_out : (is_down h second ≡ true) ⊎ ¬ IsInFull devices table second (image second)

two_of : (id : List ℕ) (devices : ℕ) (old new : History) (two : IsTwoLostThen id devices old new) (table : Table) → two.table ≡ table
    → TwoAre devices table (readable (cut_at two.t new)) new
two_of id devices old new two table is = subst (λ (t : Table). TwoAre devices t (readable (cut_at two.t new)) new) is (record {
  first = two.first;
  second = two.second;
  apart = two.apart;
  first_of_set = two.first_of_set;
  second_of_set = two.second_of_set;
  first_out = two.first_out;
  second_out = two.second_out;
})

once_by : (base : Table) (devices : ℕ) (image : Slots) (lost : Option cases.Lost) (X : List (List Bytes))
    (holds : Holds base devices record { image = image; lost = lost } X) (out : ℕ)
    → MayBeOut lost out → out < slots_of base → AtOnce devices holds.table image out
once_by base devices image lost X holds out may below = record {
  without = (holds.weakened out None may (inl refl)).one_out;
  of_set = subst (λ (n : ℕ). out < n) (sym (same_slots base holds.table holds.not_older)) below;
}

-- with one slot that may be out, both are that one
not_two_at : (base : Table) (devices : ℕ) (image : Slots) (h : History) (lost : Option cases.Lost) (X : List (List Bytes))
    (holds : Holds base devices record { image = image; lost = lost } X)
    (out : ℕ) → MayBeOut lost out → out < slots_of base → OthersAreUp (slots_of base) h out → TwoAre devices holds.table image h → ⊥
not_two_at base devices image h lost X holds out may below up two =
    let once = once_by base devices image lost X holds out may below in
    let same = same_slots base holds.table holds.not_older in
    two.apart (lost_or_out devices holds.table image h (slots_of base) out two.first same once up two.first_of_set two.first_out
    ∙ sym (lost_or_out devices holds.table image h (slots_of base) out two.second same once up two.second_of_set two.second_out))

-- with all devices up, at most one slot was not in full
not_two_up : (base : Table) (devices : ℕ) (image : Slots) (h : History) (lost : Option cases.Lost) (X : List (List Bytes))
    (holds : Holds base devices record { image = image; lost = lost } X)
    → ((other : ℕ) → other < slots_of base → is_down h other ≡ false) → TwoAre devices holds.table image h → ⊥
not_two_up base devices image h lost X holds up two =
    two.apart (holds.whole.one_out two.first two.second two.first_of_set two.second_of_set
    (not_full two.first two.first_of_set two.first_out) (not_full two.second two.second_of_set two.second_out))
  where
    differ : true ≡ false → ⊥
    differ is = cc

    not_full : (slot : ℕ) → slot < slots_of holds.table → (is_down h slot ≡ true) ⊎ ¬ IsInFull devices holds.table slot (image slot)
        → ¬ IsInFull devices holds.table slot (image slot)
    not_full slot below (inl down) = absurd (differ (sym down ∙ up slot (subst (λ (n : ℕ). slot < n) (same_slots base holds.table holds.not_older) below)))
    not_full slot below (inr not) = not

-- the table that was chosen then is that of the case
then_table : (base : Table) (devices : ℕ) (image : Slots) (lost : Option cases.Lost) (X : List (List Bytes))
    (holds : Holds base devices record { image = image; lost = lost } X)
    (table : Table) → IsChosen base.id devices image table → table ≡ holds.table
then_table base devices image lost X holds table chosen =
    chosen_is_one devices holds.table X image holds.whole table (subst (λ (i : List ℕ). IsChosen i devices image table) (sym holds.not_older.same_id) chosen)

-- Two slots are not lost, where one is lost at most at the end.
not_two_then : (base : Table) (devices : ℕ) (lost : Option cases.Lost) (X : List (List Bytes)) (old new : History) → HoldsThroughout base devices lost X old new
    → IsSingleFailure (slots_of base) lost new → IsTwoLostThen base.id devices old new → ⊥
not_two_then base devices None X old new moments (after, inl (none, up)) two =
    let holds = throughout_cut new moments two.t two.from None (readable (cut_at two.t new))
    (inl (refl, λ other below. up_cut two.t new other (up other below))) (readable_left (cut_at two.t new)) in
    not_two_up base devices (readable (cut_at two.t new)) new None X holds up
    (two_of base.id devices old new two holds.table (then_table base devices (readable (cut_at two.t new)) None X holds two.table two.chosen))
not_two_then base devices None X old new moments (after, inr failure) two = by_then (is_down (cut_at two.t new) failure.slot) refl
  where
    others : OthersAreUp (slots_of base) (cut_at two.t new) failure.slot
    others other below apart = up_cut two.t new other (failure.others other below apart)

    all_up : is_down (cut_at two.t new) failure.slot ≡ false → (other : ℕ) → other < slots_of base → is_down (cut_at two.t new) other ≡ false
    all_up up other below = elim (cases_eq other failure.slot) [
      | inl is ↦ subst (λ (d : ℕ). is_down (cut_at two.t new) d ≡ false) (sym is) up
      | inr apart ↦ others other below apart
    ]

    by_lost : (lost : Option cases.Lost) → IsLostAt (slots_of base) None (cut_at two.t new) lost → MayBeOut lost failure.slot → ⊥
    by_lost lost is may =
        let holds = throughout_cut new moments two.t two.from lost (readable (cut_at two.t new)) is (readable_left (cut_at two.t new)) in
        not_two_at base devices (readable (cut_at two.t new)) new lost X holds failure.slot may failure.of_set failure.others
        (two_of base.id devices old new two holds.table (then_table base devices (readable (cut_at two.t new)) lost X holds two.table two.chosen))

    by_then : (b : Bool) → is_down (cut_at two.t new) failure.slot ≡ b → ⊥
    by_then true down = by_lost (Some record { slot = failure.slot; away = [] })
        (inr record { slot = failure.slot; of_set = failure.of_set; failed = down; others = others; lost = refl }) refl
    by_then false up = by_lost None (inl (refl, all_up up)) tt
not_two_then base devices (Some lost) X old new moments (after, (of_set, is, up)) two =
    let holds = throughout_cut new moments two.t two.from (Some lost) (readable (cut_at two.t new))
    (of_set, refl, λ other below apart. up_cut two.t new other (up other below apart)) (readable_left (cut_at two.t new)) in
    not_two_at base devices (readable (cut_at two.t new)) new (Some lost) X holds lost.slot refl of_set up
    (two_of base.id devices old new two holds.table (then_table base devices (readable (cut_at two.t new)) (Some lost) X holds two.table two.chosen))

-- there is a superblock that counts
not_none : (base : Table) (devices : ℕ) (lost : Option cases.Lost) (X : List (List Bytes)) (h : History) → HoldsNow base devices lost X h
    → IsSingleFailure (slots_of base) lost h
    → ((slot : ℕ) → HasNone base.id devices slot (readable h slot)) → ⊥
not_none base devices lost X h now (after, is) none =
    let holds = now after (readable h) is (readable_left h) in
    let chosen = holds.whole.chosen in
    none chosen.slot chosen.place chosen.best
    (subst (λ (i : List ℕ). Counts i devices chosen.slot (readable h chosen.slot) chosen.place chosen.best) holds.not_older.same_id chosen.counted)

-- A run that begins safely: what assembling starts from, and what holds at each moment of it.
pub may_start : (made : Table) (devices : ℕ) (maps : List VolumeMap) (world : World) (panel : Panel) → panel.devices ≡ devices
    → (safe : IsSafe made devices maps world)
    → MayAssemble safe.base world.fate.lost safe.stands.lists (begun_with panel world.image)
may_start made devices maps world panel of_bank safe =
    let begun = a_run_begins safe.base devices world.image world.fate.lost safe.stands.lists safe.stands.holds in
    record {
      nothing_pending = begun.nothing_pending;
      holds = subst (λ (d : ℕ). HoldsNow safe.base d world.fate.lost safe.stands.lists (Began world.image)) (sym of_bank) begun.holds;
    }

pub assembling_holds : (made : Table) (devices : ℕ) (maps : List VolumeMap) (world : World) (panel : Panel) (outcome : Outcome) → panel.devices ≡ devices
    → (safe : IsSafe made devices maps world) → Assembles (Unit {0}) made.id (begun_with panel world.image) outcome
    → HoldsThroughout safe.base devices world.fate.lost safe.stands.lists (Began world.image) (bank_after outcome).history
assembling_holds made devices maps world panel outcome of_bank safe assembles =
    subst (λ (d : ℕ). HoldsThroughout safe.base d world.fate.lost safe.stands.lists (Began world.image) (bank_after outcome).history) of_bank
    (assembles.moments tt safe.base world.fate.lost safe.stands.lists safe.not_older.same_id (may_start made devices maps world panel of_bank safe))

-- reads leave what holds
pub reading_holds : (made : Table) (devices : ℕ) (maps : List VolumeMap) (world : World) (h : History) (safe : IsSafe made devices maps world)
    → HasRead (Began world.image) h → HoldsThroughout safe.base devices world.fate.lost safe.stands.lists (Began world.image) h
reading_holds made devices maps world h safe reads =
    let begun = a_run_begins safe.base devices world.image world.fate.lost safe.stands.lists safe.stands.holds in
    reads_hold spellings safe.base devices world.fate.lost safe.stands.lists (Began world.image) h reads begun.nothing_pending begun.holds

pub assembling_stands : (made : Table) (devices : ℕ) (maps : List VolumeMap) (world : World) (h : History) (safe : IsSafe made devices maps world)
    → HoldsThroughout safe.base devices world.fate.lost safe.stands.lists (Began world.image) h
    → Throughout (StandsNow safe.base devices world.fate.lost maps) (Began world.image) h
assembling_stands made devices maps world h safe moments =
    throughout_more (λ g now after image is may. record { lists = safe.stands.lists; holds = now after image is may; shown = safe.stands.shown }) h moments

single_failure_by : (slots : ℕ) (base : Table) (lost : Option cases.Lost) (h : History) → slots ≡ slots_of base → IsSingleFailure slots lost h
    → IsSingleFailure (slots_of base) lost h
single_failure_by slots base lost h same one = subst (λ (n : ℕ). IsSingleFailure n lost h) same one

refused_for : (made : Table) (devices : ℕ) (maps : List VolumeMap) (world : World) (panel : Panel) (bank : recovery.BankView) (refusal : Refusal)
    (safe : IsSafe made devices maps world)
    → bank.panel.devices ≡ devices
    → HoldsThroughout safe.base devices world.fate.lost safe.stands.lists (Began world.image) bank.history
    → IsSingleFailure (slots_of safe.base) world.fate.lost bank.history
    → IsOfAssembly refusal → IsNoAssembly made.id (begun_with panel world.image) bank refusal
    → (refusal ≡ Worn) × IsNoAssembly made.id (begun_with panel world.image) bank Worn
refused_for made devices maps world panel bank NoSet safe of_bank moments one of why =
    absurd (not_none safe.base devices world.fate.lost safe.stands.lists bank.history (throughout_last bank.history moments) one
    (λ slot. subst₂ (λ (i : List ℕ) (d : ℕ). HasNone i d slot (readable bank.history slot)) (sym safe.not_older.same_id) of_bank (why.0 slot)))
refused_for made devices maps world panel bank TwoLost safe of_bank moments one of why =
    absurd (not_two_then safe.base devices world.fate.lost safe.stands.lists (Began world.image) bank.history moments one
    (subst₂ (λ (i : List ℕ) (d : ℕ). IsTwoLostThen i d (Began world.image) bank.history) (sym safe.not_older.same_id) of_bank why))
refused_for made devices maps world panel bank Worn safe of_bank moments one of why = (refl, why)
refused_for made devices maps world panel bank refusal safe of_bank moments one of why = absurd of

-- with one slot lost at most, assembling is refused only for a counter
pub assembled_unless_worn : (made : Table) (devices : ℕ) (maps : List VolumeMap) (world : World) (panel : Panel) (outcome : Outcome) → panel.devices ≡ devices
    → IsSafe made devices maps world → Assembles (Unit {0}) made.id (begun_with panel world.image) outcome
    → IsAssembledUnlessWorn made.id (slots_of made) world.fate.lost (begun_with panel world.image) outcome
assembled_unless_worn made devices maps world panel (Opened array) of_bank safe assembles = tt
assembled_unless_worn made devices maps world panel (Returned bank refusal) of_bank safe assembles = λ one.
    refused_for made devices maps world panel bank refusal safe (assembles.later.devices ∙ of_bank)
    (assembling_holds made devices maps world panel (Returned bank refusal) of_bank safe assembles)
    (single_failure_by (slots_of made) safe.base world.fate.lost bank.history (sym (same_slots made safe.base safe.not_older)) one)
    (assembles.refused bank refusal refl) (assembles.cause tt bank refusal refl)
