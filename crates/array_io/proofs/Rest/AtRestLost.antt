-- A case at rest holds for what reads say alone, whether a slot of the set is out or none is.
use Rattle.std.proofs.Common.{◌≡◌, ◌≢◌, ◌⊎◌, inl, inr, ℕ, zero, suc, ◌%◌, ◌<◌, ◌≤◌, List, [], ◌∷◌, ◌++◌, Option, Some, None, refl, sym, ◌∙◌, ap, subst, arith}
use Rattle.std.specs.Prelude.{Contains, option_to_list}
use Rattle.std.proofs.lemmas.Bool.{cases_eq, cases_lt}
use Rattle.std.proofs.lemmas.List.Elements.{Contains-append_cases, Contains-push_cases}
use Rattle.sector_model.specs.History.{Bytes, Slots, disk_of, sector_of}
use Rattle.layout_map.specs.declared.sizes.TheConstants.{SUPERBLOCK_PLACES}
use Rattle.superblock.specs.declared.state.State.{State}
use Rattle.superblock.specs.declared.state.State.TheVariants.{InSync, Missing, Rebuilding}
use Rattle.superblock.specs.declared.table.Table.{Table}
use Rattle.superblock.specs.Tables.{state_at}
use Rattle.superblock.specs.Cases.{IsLostIn, Lost, MayBeOut, away_of, with_slot}
use Rattle.superblock.specs.Counted.{Content, Counts, IsChosen, IsInFull, IsLive, IsStale}
use Rattle.superblock.specs.NextTables.{IsComplete, IsOut, slots_of}
use Rattle.superblock.specs.Publishing.{StandsAt, place_of}
use Rattle.degraded.specs.RowValue.{AreSound, logical_list}
use Rattle.array_io.specs.Steps.Bringing.{CarriesAll}
use Rattle.array_io.specs.Laws.Core.{Core, IsKept, IsKnown}
use Rattle.array_io.specs.Believed.Holds.{AllStale, HoldsIn, OneCounts, row_count}
use Rattle.array_io.specs.Believed.Settled.{NoneComesBack, rows_by}
use Rattle.array_io.proofs.Rest.AtRestImages.{Held, known_away, known_in}
use Rattle.array_io.proofs.Rest.AtRestRows.{IsRestImage, has_rows_at_rest}
use Rattle.array_io.proofs.Laws.AwayStale.{complete_is_there}
use Rattle.array_io.proofs.Laws.Begun.{stands_there}
use Rattle.array_io.proofs.Laws.Beginning.{state_in_sync}
use Rattle.array_io.proofs.Images.Counting.{stale_is_out}
use Rattle.array_io.proofs.Rest.EntryAtRest.{in_step_at_rest}
use Rattle.array_io.proofs.Laws.Fresh.{counts_elsewhere, in_sync_not_missing, lowest_apart, lowest_but, lowest_least, lowest_of_set, no_device}
use Rattle.array_io.proofs.Images.Put.{put_elsewhere}
use Rattle.array_io.proofs.Images.Spellings.{Spellings}

-- each of the first slots is in sync, or one of the set is out
below_or_out : (table : Table) (n : ℕ) → n ≤ slots_of table → ((slot : ℕ) → slot < n → state_at table.states slot ≡ InSync) ⊎ ((slot : ℕ) × IsOut table slot)
below_or_out table zero most = inl (λ slot below. absurd (omega (arith, below)))
below_or_out table (suc n) most = elim (below_or_out table n (omega (arith, most))) [
  | inl before ↦ elim (state_in_sync (state_at table.states n)) [
    | inl is ↦ inl (λ slot below. elim (cases_eq slot n) [
      | inl same ↦ subst (λ (k : ℕ). state_at table.states k ≡ InSync) (sym same) is
      | inr apart ↦ before slot (omega (arith, below, apart))
    ])
    | inr out ↦ inr (n, record { of_set = omega (arith, most); out = out })
  ]
  | inr out ↦ inr out
]

-- a table is complete, or one slot is out
pub complete_or_out : (table : Table) → IsComplete table ⊎ ((slot : ℕ) × IsOut table slot)
complete_or_out table = elim (below_or_out table (slots_of table) (omega arith)) [
  | inl all ↦ inl (record { in_sync = all })
  | inr out ↦ inr out
]

-- a slot apart from the one that is out is in sync
pub in_sync_apart : (table : Table) (out slot : ℕ) → IsOut table out → slot < slots_of table → slot ≢ out → state_at table.states slot ≡ InSync
in_sync_apart table out slot is of_set apart = elim (state_in_sync (state_at table.states slot)) [
  | inl in_sync ↦ in_sync
  | inr not_in_sync ↦ absurd (apart (table.allowed.one_out slot out of_set is.of_set not_in_sync is.out))
]

-- one device of those that are stale
one_is_stale : (devices : ℕ) (table : Table) (slot : ℕ) (disks : List (List Bytes)) → AllStale devices table slot disks → (disk : List Bytes)
    → Contains disks disk
    → IsStale devices table slot (Some disk)
one_is_stale devices table slot [] all disk among = absurd (no_device disk among)
one_is_stale devices table slot (first ∷ rest) all disk among = elim (Contains-append_cases (first ∷ []) rest disk among) [
  | inl front ↦ elim (Contains-push_cases [] first disk front) [
    | inl none ↦ absurd (no_device disk none)
    | inr is ↦ subst (λ (d : List Bytes). IsStale devices table slot (Some d)) is all.0
  ]
  | inr later ↦ one_is_stale devices table slot rest all.1 disk later
]

-- no device that is away is live, where none comes back
pub away_is_out : (devices : ℕ) (table : Table) (lost : Option Lost) → NoneComesBack devices table lost → (slot : ℕ) (disk : List Bytes) → MayBeOut lost slot
    → Contains (away_of lost) disk → ¬ IsLive devices table slot (Some disk)
away_is_out devices table None back slot disk may among live = no_device disk among
away_is_out devices table (Some lost) back slot disk may among live =
    let here = subst (λ (s : ℕ). IsLive devices table s (Some disk)) may live in
    stale_is_out devices table lost.slot (Some disk) (one_is_stale devices table lost.slot lost.away (back here.not_missing) disk among) here

pub state_missing : (state : State) → (state ≡ Missing) ⊎ (state ≢ Missing)
state_missing Missing = inl refl
state_missing InSync = inr in_sync_not_missing
state_missing Rebuilding = inr differ
  where
    differ : ¬ (Rebuilding ≡ Missing)
    differ e = cc

-- where what the table counts on is there, it is settled which slots are live
pub rest_decided : (devices : ℕ) (table : Table) (image : Slots)
    → ((slot : ℕ) → slot < slots_of table → state_at table.states slot ≢ Missing → IsLive devices table slot (image slot)) → (slot : ℕ)
    → IsLive devices table slot (image slot) ⊎ ¬ IsLive devices table slot (image slot)
rest_decided devices table image there slot = elim (cases_lt slot (slots_of table)) [
  | inl of_set ↦ elim (state_missing (state_at table.states slot)) [
    | inl missing ↦ inr (λ live. live.not_missing missing)
    | inr counted ↦ inl (there slot of_set counted)
  ]
  | inr beyond ↦ inr (λ live. live.not_missing (table.allowed.missing_beyond slot beyond))
]

-- A case at rest, with what is known of the slot that may be out.
pub record RestCase (devices : ℕ) (table : Table) (number : ℕ) (X : List (List Bytes)) (reads image : Slots) (lost : Option Lost) : Type 0 where
  pub rest : IsRestImage devices table number reads image
  pub whole : HoldsIn devices table X image
  pub lost_in_set : IsLostIn (slots_of table) lost
  pub in_sync : (slot : ℕ) → slot < slots_of table → IsKept lost slot → state_at table.states slot ≡ InSync
  pub chosen_without : (slot : ℕ) → MayBeOut lost slot → IsChosen table.id devices (with_slot image slot None) table
  pub known_away : (slot : ℕ) (disk : List Bytes) → MayBeOut lost slot → Contains (away_of lost) disk → IsKnown devices table slot (Some disk)
  pub none_back : NoneComesBack devices table lost
  pub one_counts : OneCounts devices table record { image = image; lost = lost } lost

-- what a case at rest says
abbrev pub listed_by : Table → Slots → List Bytes
listed_by table reads = logical_list table.geometry (rows_by table reads)

in_full_at_rest : (devices : ℕ) (table : Table) (number : ℕ) (reads image : Slots) → IsRestImage devices table number reads image → (slot : ℕ)
    → slot < slots_of table
    → state_at table.states slot ≡ InSync → IsInFull devices table slot (image slot)
in_full_at_rest devices table number reads image rest slot of_set in_sync =
    record { live = rest.live slot of_set (λ missing. in_sync_not_missing (sym in_sync ∙ missing)); in_sync = in_sync }

-- it is settled which devices are live
decided_at_rest : (devices : ℕ) (table : Table) (number : ℕ) (X : List (List Bytes)) (reads image : Slots) (lost : Option Lost)
    → RestCase devices table number X reads image lost
    → (slot : ℕ) (disk : List Bytes) → MayBeOut lost slot → Contains (option_to_list (image slot) ++ away_of lost) disk
    → IsLive devices table slot (Some disk) ⊎ ¬ IsLive devices table slot (Some disk)
decided_at_rest devices table number X reads image lost case slot disk may among =
    elim (Contains-append_cases (option_to_list (image slot)) (away_of lost) disk among) [
      | inl there ↦ subst (λ (c : Content). IsLive devices table slot c ⊎ ¬ IsLive devices table slot c) (stands_there (image slot) disk there)
          (rest_decided devices table image case.rest.live slot)
      | inr away ↦ inr (away_is_out devices table lost case.none_back slot disk may away)
    ]

-- the core of a case at rest, in sound rows
pub core_at_rest : Spellings → (devices : ℕ) (table : Table) (number : ℕ) (X : List (List Bytes)) (reads image : Slots) (lost : Option Lost)
    → RestCase devices table number X reads image lost
    → AreSound (rows_by table reads) (row_count table) → Core devices table record { image = image; lost = lost } (listed_by table reads ∷ [])
core_at_rest spellings devices table number X reads image lost case sound = record {
  lost_in_set = case.lost_in_set;
  chosen = case.whole.chosen;
  chosen_without = case.chosen_without;
  known = known_in devices table X image case.whole;
  known_away = case.known_away;
  in_full = λ slot of_set kept. in_full_at_rest devices table number reads image case.rest slot of_set (case.in_sync slot of_set kept);
  whole = case.rest.whole;
  rows = has_rows_at_rest spellings devices table number reads image case.rest sound _ (λ journal live. live);
  rows_without = λ slot may. has_rows_at_rest spellings devices table number reads image case.rest sound _ (λ journal live. live.0);
  in_step = in_step_at_rest spellings devices table number image case.rest.entry;
  rows_away = λ slot disk may away live. absurd (away_is_out devices table lost case.none_back slot disk may away live);
  in_step_away = λ slot disk may away live. absurd (away_is_out devices table lost case.none_back slot disk may away live);
  decided = decided_at_rest devices table number X reads image lost case;
  one_counts = case.one_counts;
}

-- so it is chosen without any one slot
chosen_without_any : Spellings → (devices : ℕ) (table : Table) (image : Slots) → IsChosen table.id devices image table → CarriesAll table image → (out : ℕ)
    → IsChosen table.id devices (with_slot image out None) table
chosen_without_any spellings devices table image chosen carries out = record {
  slot = lowest_but out;
  place = place_of table;
  best = own.superblock;
  counted = subst (λ (c : Content). Counts table.id devices (lowest_but out) c (place_of table) own.superblock)
      (sym (put_elsewhere image out None (lowest_but out) (lowest_apart out))) counts;
  carried = own.carries;
  greatest = λ other at superblock counted.
      chosen.greatest other at superblock (counts_elsewhere spellings devices table image out other at superblock counted).counts;
  first = λ other at superblock counted equal.
      lowest_least out other (counts_elsewhere spellings devices table image out other at superblock counted).apart;
}
  where
    own : StandsAt table (lowest_but out) (sector_of (disk_of (image (lowest_but out))) (place_of table))
    own = carries.stands (lowest_but out) (lowest_of_set out table.geometry.members)

    room : slots_of table ≤ devices
    room = subst (λ (t : Table). slots_of t ≤ devices) chosen.carried chosen.counted.has_slots

    counts : Counts table.id devices (lowest_but out) (image (lowest_but out)) (place_of table) own.superblock
    counts = record {
      stands = own.spelled;
      of_set = ap (λ (t : Table). t.id) own.carries;
      own_place = ap (λ (t : Table). t.generation % SUPERBLOCK_PLACES) own.carries;
      own_slot = own.own_slot;
      has_slots = subst (λ (t : Table). slots_of t ≤ devices) (sym own.carries) room;
    }

-- so it is in each image of a complete table at rest
pub carried_without : Spellings → (devices : ℕ) (table : Table) (number : ℕ) (reads image : Slots) → IsChosen table.id devices image table
    → IsRestImage devices table number reads image → IsComplete table → CarriesAll table reads → (slot : ℕ)
    → IsChosen table.id devices (with_slot image slot None) table
carried_without spellings devices table number reads image chosen rest complete carries slot = chosen_without_any spellings devices table image chosen record {
  stands = λ other of_set. subst (λ (c : Content). StandsAt table other (sector_of (disk_of c) (place_of table)))
      (sym (rest.same other of_set (complete_is_there table complete other of_set))) (carries.stands other of_set);
} slot

-- a case of a complete table, with none lost, where the table is chosen without any one slot
pub complete_case : (devices : ℕ) (table : Table) (number : ℕ) (X : List (List Bytes)) (reads image : Slots) → HoldsIn devices table X image
    → IsRestImage devices table number reads image → IsComplete table → ((slot : ℕ) → IsChosen table.id devices (with_slot image slot None) table)
    → RestCase devices table number X reads image None
complete_case devices table number X reads image holds rest complete chosen_without = record {
  rest = rest;
  whole = holds;
  lost_in_set = tt;
  in_sync = λ slot of_set kept. complete.in_sync slot of_set;
  chosen_without = λ slot may. chosen_without slot;
  known_away = λ slot disk may away. absurd (no_device disk away);
  none_back = tt;
  one_counts = tt;
}

-- a case with the slot lost that is out
pub lost_case : (base : Table) (devices : ℕ) (table : Table) (number : ℕ) (X : List (List Bytes)) (reads image : Slots) (lost : Lost)
    → Held base devices table X image (Some lost)
    → IsRestImage devices table number reads image → IsOut table lost.slot → NoneComesBack devices table (Some lost)
    → RestCase devices table number X reads image (Some lost)
lost_case base devices table number X reads image lost held rest out back = record {
  rest = rest;
  whole = held.whole;
  lost_in_set = held.lost_in_set;
  in_sync = λ slot of_set kept. in_sync_apart table lost.slot slot out of_set kept;
  chosen_without = λ slot may. (held.weakened slot None may (inl refl)).chosen;
  known_away = λ slot disk may away. known_away base devices table X image (Some lost) held slot disk may
      (inr (inr record { disk = disk; holds = refl; listed = away }));
  none_back = back;
  one_counts = held.one_counts;
}
