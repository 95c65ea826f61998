-- What holds when a run crashes holds when the next begins.
use Rattle.std.proofs.Common.{◌≡◌, ◌≢◌, inl, inr, ℕ, ◌<◌, ◌≤◌, List, [], ◌∷◌, ◌++◌, subst, sym, ap, ◌∙◌, arith}
use Rattle.std.proofs.lemmas.List.Elements.{Contains-append_left, Contains-append_right, Contains-append_cases, Contains-push, Contains-push_cases}
use Rattle.std.specs.Prelude.{refl, Option, Some, None, Contains, option_to_list}
use Rattle.sector_model.specs.History.{Bytes, Slots}
use Rattle.superblock.specs.declared.state.State.TheVariants.{Missing}
use Rattle.superblock.specs.declared.table.Table.{Table}
use Rattle.superblock.specs.Tables.{state_at}
use Rattle.superblock.specs.Counted.{Content, IsChosen, IsStale}
use Rattle.superblock.specs.NextTables.{slots_of}
use Rattle.superblock.specs.Cases.{Case, Lost, MayBeOut, MayStand, away_of, with_slot}
use Rattle.array_io.specs.Believed.Holds.{AllButOneStale, Holds, HoldsIn, OneCounts, devices_of}
use Rattle.array_io.specs.Laws.Starts.{IsFound, Starts}
use Rattle.array_io.specs.Laws.Law.{ACrashThenAStart}
use Rattle.array_io.proofs.Images.Put.{put_same, put_there, put_twice}
use Rattle.array_io.proofs.Images.Beyond.{holds_beyond, table_beyond}
use Rattle.array_io.proofs.Images.Live.{one_to_front}

pub between : (a b : ℕ) → a ≤ b → b ≤ a → a ≡ b
between a b up down = omega (arith, up, down)

-- an image that holds chooses one table
pub chosen_is_one : (devices : ℕ) (table : Table) (X : List (List Bytes)) (image : Slots) → HoldsIn devices table X image
    → (other : Table) → IsChosen table.id devices image other → other ≡ table
chosen_is_one devices table X image holds other is =
    let mine = holds.chosen in
    let same : is.best.table.generation ≡ table.generation =
    ap (λ (t : Table). t.generation) is.carried
    ∙ between other.generation table.generation
    (subst (λ (t : Table). t.generation ≤ table.generation) is.carried (mine.greatest is.slot is.place is.best is.counted))
    (subst (λ (t : Table). t.generation ≤ other.generation) mine.carried (is.greatest mine.slot mine.place mine.best mine.counted)) in
    sym is.carried ∙ holds.one_content is.slot is.place is.best is.counted same

-- What is known of one slot that may be out: the image holds whatever may stand there, and with each known device there.
record Slot (devices : ℕ) (table : Table) (X : List (List Bytes)) (image : Slots) (known : List (List Bytes)) (slot : ℕ) : Type 0 where
  pub none : HoldsIn devices table X (with_slot image slot None)
  pub stale : (content : Content) → IsStale devices table slot content → HoldsIn devices table X (with_slot image slot content)
  pub device : (disk : List Bytes) → Contains known disk → HoldsIn devices table X (with_slot image slot (Some disk))
  pub one_counts : state_at table.states slot ≢ Missing → AllButOneStale devices table slot known

no_element : (disk : List Bytes) → Contains [] disk → ⊥
no_element disk (k, below, is) = omega (arith, below)

-- a device that stands in a slot
pub stands_there : (content : Content) (disk : List Bytes) → Contains (option_to_list content) disk → content ≡ Some disk
stands_there None disk among = absurd (no_element disk among)
stands_there (Some there) disk among = elim (Contains-push_cases [] there disk among) [
  | inl none ↦ absurd (no_element disk none)
  | inr is ↦ ap (λ (d : List Bytes). Some d) is
]

-- a device that is left is a known one
among_known : (before : List (List Bytes)) (disk : List Bytes) (after : List (List Bytes)) (other : List Bytes)
    → Contains (before ++ after) other → Contains (before ++ disk ∷ after) other
among_known before disk after other among = elim (Contains-append_cases before after other among) [
  | inl first ↦ Contains-append_left before (disk ∷ after) other first
  | inr second ↦ Contains-append_right before (disk ∷ after) other (Contains-append_right (disk ∷ []) after other second)
]

at_front : (disk : List Bytes) (after : List (List Bytes)) → Contains (disk ∷ after) disk
at_front disk after = Contains-append_left (disk ∷ []) after disk (Contains-push [] disk)

-- one device at most is not stale where no slot was lost
pub one_at_most : (devices : ℕ) (table : Table) (slot : ℕ) (content : Content) → AllButOneStale devices table slot (option_to_list content ++ [])
one_at_most devices table slot None = tt
one_at_most devices table slot (Some disk) = inl tt

one_of_known : (devices : ℕ) (table : Table) (image : Slots) (lost : Option Lost) (slot : ℕ) → MayBeOut lost slot
    → OneCounts devices table record { image = image; lost = lost } lost → state_at table.states slot ≢ Missing
    → AllButOneStale devices table slot (option_to_list (image slot) ++ away_of lost)
one_of_known devices table image None slot may one there = one_at_most devices table slot (image slot)
one_of_known devices table image (Some lost) slot may one there =
    subst (λ (s : ℕ). AllButOneStale devices table s (option_to_list (image s) ++ lost.away)) (sym may)
    (one (subst (λ (s : ℕ). state_at table.states s ≢ Missing) may there))

-- what a case that holds knows of a slot that may be out
slot_of : (base : Table) (devices : ℕ) (case : Case) (X : List (List Bytes)) (holds : Holds base devices case X) (slot : ℕ)
    → MayBeOut case.lost slot → Slot devices holds.table X case.image (devices_of case slot) slot
slot_of base devices case X holds slot may = record {
  none = holds.weakened slot None may (inl refl);
  stale = λ content is. holds.weakened slot content may (inr (inl is));
  device = λ disk among. elim (Contains-append_cases (option_to_list (case.image slot)) (away_of case.lost) disk among) [
    | inl there ↦ subst (λ (content : Content). HoldsIn devices holds.table X (with_slot case.image slot content)) (stands_there (case.image slot) disk there)
        (subst (λ (image : Slots). HoldsIn devices holds.table X image) (sym (put_same case.image slot)) holds.whole)
    | inr away ↦ holds.weakened slot (Some disk) may (inr (inr record { disk = disk; holds = refl; listed = away }))
  ];
  one_counts = one_of_known devices holds.table case.image case.lost slot may holds.one_counts;
}

-- what a run finds in the slot, as an image that holds, with the devices that are then away
record Found (devices : ℕ) (table : Table) (X : List (List Bytes)) (image : Slots) (slot : ℕ) (content : Content) (away : List (List Bytes)) : Type 0 where
  pub whole : HoldsIn devices table X (with_slot image slot content)
  pub device : (disk : List Bytes) → Contains away disk → HoldsIn devices table X (with_slot image slot (Some disk))
  pub one_counts : state_at table.states slot ≢ Missing → AllButOneStale devices table slot (option_to_list content ++ away)

found_none : (devices : ℕ) (table : Table) (X : List (List Bytes)) (image : Slots) (known : List (List Bytes)) (slot : ℕ)
    → Slot devices table X image known slot → Found devices table X image slot None known
found_none devices table X image known slot has = record { whole = has.none; device = has.device; one_counts = has.one_counts }

found_back : (devices : ℕ) (table : Table) (X : List (List Bytes)) (image : Slots) (slot : ℕ) (before : List (List Bytes)) (disk : List Bytes)
    (after : List (List Bytes))
    → Slot devices table X image (before ++ disk ∷ after) slot → Found devices table X image slot (Some disk) (before ++ after)
found_back devices table X image slot before disk after has = record {
  whole = has.device disk (Contains-append_right before (disk ∷ after) disk (at_front disk after));
  device = λ other among. has.device other (among_known before disk after other among);
  one_counts = λ there. one_to_front devices table slot before disk after (has.one_counts there);
}

stale_in_front : (devices : ℕ) (table : Table) (slot : ℕ) (content : Content) (known : List (List Bytes)) → IsStale devices table slot content
    → AllButOneStale devices table slot known → AllButOneStale devices table slot (option_to_list content ++ known)
stale_in_front devices table slot None known stale one = one
stale_in_front devices table slot (Some disk) known stale one = inr (stale, one)

found_stale : (devices : ℕ) (table : Table) (X : List (List Bytes)) (image : Slots) (known : List (List Bytes)) (slot : ℕ) (content : Content)
    → Slot devices table X image known slot → IsStale devices table slot content → Found devices table X image slot content known
found_stale devices table X image known slot content has stale = record {
  whole = has.stale content stale;
  device = has.device;
  one_counts = λ there. stale_in_front devices table slot content known stale (has.one_counts there);
}

found_any : (devices : ℕ) (table : Table) (X : List (List Bytes)) (image : Slots) (known : List (List Bytes)) (slot : ℕ) (content : Content)
    (away : List (List Bytes))
    → Slot devices table X image known slot → IsFound devices table slot known content away → Found devices table X image slot content away
found_any devices table X image known slot content away has (inl (none, rest)) =
    subst (λ (c : Content). Found devices table X image slot c away) (sym none)
    (subst (λ (a : List (List Bytes)). Found devices table X image slot None a) (sym rest) (found_none devices table X image known slot has))
found_any devices table X image known slot content away has (inr (inl back)) =
    subst (λ (c : Content). Found devices table X image slot c away) (sym back.holds)
    (subst (λ (a : List (List Bytes)). Found devices table X image slot (Some back.disk) a) (sym back.left)
    (found_back devices table X image slot back.before back.disk back.after
    (subst (λ (k : List (List Bytes)). Slot devices table X image k slot) back.among has)))
found_any devices table X image known slot content away has (inr (inr (stale, rest))) =
    subst (λ (a : List (List Bytes)). Found devices table X image slot content a) (sym rest) (found_stale devices table X image known slot content has stale)

-- the image with the slot changed once more is the image with the slot changed so
put_again : (devices : ℕ) (table : Table) (X : List (List Bytes)) (image : Slots) (slot : ℕ) (first second : Content)
    → HoldsIn devices table X (with_slot image slot second) → HoldsIn devices table X (with_slot (with_slot image slot first) slot second)
put_again devices table X image slot first second = subst (λ (i : Slots). HoldsIn devices table X i) (sym (put_twice image slot first second))

weakened_again : (devices : ℕ) (table : Table) (X : List (List Bytes)) (image : Slots) (known : List (List Bytes)) (slot : ℕ) (content : Content)
    (away : List (List Bytes))
    → Slot devices table X image known slot → Found devices table X image slot content away → (other : Content)
    → MayStand devices table (Some record { slot = slot; away = away }) slot other
    → HoldsIn devices table X (with_slot (with_slot image slot content) slot other)
weakened_again devices table X image known slot content away has found other (inl none) =
    put_again devices table X image slot content other (subst (λ (c : Content). HoldsIn devices table X (with_slot image slot c)) (sym none) has.none)
weakened_again devices table X image known slot content away has found other (inr (inl stale)) =
    put_again devices table X image slot content other (has.stale other stale)
weakened_again devices table X image known slot content away has found other (inr (inr is)) =
    put_again devices table X image slot content other
    (subst (λ (c : Content). HoldsIn devices table X (with_slot image slot c)) (sym is.holds) (found.device is.disk is.listed))

-- the case with which the run begins holds
begun : (base : Table) (devices : ℕ) (case : Case) (X : List (List Bytes)) (holds : Holds base devices case X) (slot : ℕ)
    (content : Content) (away : List (List Bytes)) → slot < slots_of holds.table → MayBeOut case.lost slot
    → IsFound devices holds.table slot (devices_of case slot) content away
    → Holds base devices record { image = with_slot case.image slot content; lost = Some record { slot = slot; away = away } } X
begun base devices case X holds slot content away in_set may is =
    let has = slot_of base devices case X holds slot may in
    let found = found_any devices holds.table X case.image (devices_of case slot) slot content away has is in
    record {
      table = holds.table;
      not_older = holds.not_older;
      lost_in_set = in_set;
      whole = found.whole;
      weakened = λ other_slot other same stand. subst (λ (s : ℕ). HoldsIn devices holds.table X (with_slot (with_slot case.image slot content) s other))
          (sym same)
          (weakened_again devices holds.table X case.image (devices_of case slot) slot content away has found other
          (subst (λ (s : ℕ). MayStand devices holds.table (Some record { slot = slot; away = away }) s other) same stand));
      one_counts = λ there. subst (λ (c : Content). AllButOneStale devices holds.table slot (option_to_list c ++ away))
          (sym (put_there case.image slot content)) (found.one_counts there);
    }

as_begun : (case : Case) (image : Slots) (lost : Option Lost) → case.image ≡ image → case.lost ≡ lost → case ≡ record { image = image; lost = lost }
as_begun case image lost images losts = λ i. record { image = images i; lost = losts i }

-- the next run begins with what the old case left, by the table of that case
begun_by : (base : Table) (devices : ℕ) (old new : Case) (X : List (List Bytes)) (holds : Holds base devices old X)
    → Starts devices holds.table old new → Holds base devices new X
begun_by base devices old new X holds starts =
    let beyond = holds_beyond base devices old X holds starts.image starts.differs in
    elim starts.begins [
      | inl same ↦ subst (λ (case : Case). Holds base devices case X) (sym same) beyond
      | inr begins ↦ subst (λ (case : Case). Holds base devices case X)
          (sym (as_begun new (with_slot starts.image begins.slot begins.content) (Some record { slot = begins.slot; away = begins.away }) begins.image
          begins.lost))
          (begun base devices record { image = starts.image; lost = old.lost } X beyond begins.slot begins.content begins.away
          (subst (λ (t : Table). begins.slot < slots_of t) (sym (table_beyond base devices old X holds starts.image starts.differs)) begins.of_set)
          begins.may_be_out
          (subst (λ (t : Table). IsFound devices t begins.slot (devices_of record { image = starts.image; lost = old.lost } begins.slot) begins.content
          begins.away)
          (sym (table_beyond base devices old X holds starts.image starts.differs)) begins.found))
    ]

pub a_crash_then_a_start : ACrashThenAStart
a_crash_then_a_start base devices table old new X holds chosen starts =
    let one = chosen_is_one devices holds.table X old.image holds.whole table
    (subst (λ (i : List ℕ). IsChosen i devices old.image table) (sym holds.not_older.same_id) chosen) in
    begun_by base devices old new X holds (subst (λ (t : Table). Starts devices t old new) one starts)
