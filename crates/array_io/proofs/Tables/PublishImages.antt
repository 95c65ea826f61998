-- What may stand in a slot while a table is published: what might stand there before, or that with the new superblock in its place.
use Rattle.std.proofs.Common.{◌≡◌, ◌≢◌, ◌⊎◌, inl, inr, ℕ, ◌+◌, ◌%◌, ◌<◌, ◌≤◌, Bool, true, false, List, [], length, Option, Some, None, refl, sym, ◌∙◌, ap}
use Rattle.std.proofs.Common.{subst, arith}
use Rattle.std.specs.Prelude.{slice_set}
use Rattle.std.proofs.lemmas.Bool.{cases_eq, cases_lt}
use Rattle.std.proofs.lemmas.List.{get_or_past, get_or-set_same, get_or-set_other, length-set}
use Rattle.std.proofs.lemmas.List.Elements.{Contains-append_left, Contains-append_right, Contains-append_cases}
use Rattle.sector_model.specs.History.{Bytes, History, MayHold, SlotMayHold, disk_of, is_down, sector_of, seen}
use Rattle.sector_model.proofs.Steps.{up_seen}
use Rattle.layout_map.specs.declared.sizes.TheConstants.{SUPERBLOCK_PLACES}
use Rattle.superblock.specs.declared.table.Table.{Table}
use Rattle.superblock.specs.declared.table.Superblock.{Superblock}
use Rattle.superblock.specs.Counted.{Content, Counts}
use Rattle.superblock.specs.NextTables.{slots_of}
use Rattle.superblock.specs.Publishing.{StandsAt, first_slots, last_slots, place_of}
use Rattle.superblock.specs.Tables.{state_at}
use Rattle.superblock.proofs.PublishedSlots.{IsFirst, first_has, first_is, last_is}
use Rattle.superblock.proofs.PublishSteps.{GetsIt, IsInPublish}
use Rattle.array_io.proofs.Laws.Beginning.{state_in_sync}
use Rattle.array_io.proofs.Images.SameBeyond.{AgreeBeyond, agree_same}
use Rattle.array_io.proofs.Images.Spellings.{Spellings}

-- whether a slot gets the superblock is settled

none_differ : (slot : ℕ) → ¬ (None ≡ Some slot)
none_differ slot is = cc

other_differs : (last slot : ℕ) → last ≢ slot → Some last ≢ Some slot
other_differs last slot apart is = let one : last ≡ slot = cc in apart one

is_last_or_not : (last : Option ℕ) (slot : ℕ) → (last ≡ Some slot) ⊎ (last ≢ Some slot)
is_last_or_not None slot = inr (none_differ slot)
is_last_or_not (Some other) slot = elim (cases_eq other slot) [
  | inl same ↦ inl (ap (λ (n : ℕ). Some n) same)
  | inr apart ↦ inr (other_differs other slot apart)
]

pub gets_last : (table : Table) (slot : ℕ) → GetsIt table (Some slot) slot
gets_last table slot = Contains-append_right (first_slots table (Some slot)) (last_slots (Some slot)) slot (0, omega arith, refl)

pub gets_first : (table : Table) (last : Option ℕ) (slot : ℕ) → IsFirst table last slot → GetsIt table last slot
gets_first table last slot first = Contains-append_left (first_slots table last) (last_slots last) slot (first_has table last slot first)

-- a slot that gets it is one of the first, or the last
pub gets_how : (table : Table) (last : Option ℕ) (slot : ℕ) → GetsIt table last slot → IsFirst table last slot ⊎ (last ≡ Some slot)
gets_how table last slot gets = elim (Contains-append_cases (first_slots table last) (last_slots last) slot gets) [
  | inl first ↦ inl (first_is table last slot first)
  | inr is ↦ inr (last_is last slot is)
]

pub gets_or_not_last : (table : Table) (last : Option ℕ) (slot : ℕ) → GetsIt table last slot ⊎ ¬ GetsIt table last slot
gets_or_not_last table last slot = elim (is_last_or_not last slot) [
  | inl is ↦ inl (subst (λ (l : Option ℕ). GetsIt table l slot) (sym is) (gets_last table slot))
  | inr not_last ↦ elim (cases_lt slot (slots_of table)) [
    | inr beyond ↦ inr (λ gets. elim (gets_how table last slot gets) [
      | inl first ↦ omega (arith, beyond, first.of_set)
      | inr is ↦ not_last is
    ])
    | inl of_set ↦ elim (state_in_sync (state_at table.states slot)) [
      | inl in_sync ↦ inl (gets_first table last slot (record { of_set = of_set; in_sync = in_sync; not_last = not_last }))
      | inr out ↦ inr (λ gets. elim (gets_how table last slot gets) [
        | inl first ↦ out first.in_sync
        | inr is ↦ not_last is
      ])
    ]
  ]
]

-- what may stand in a slot

-- the content after is the one before with the new superblock in its place
pub record IsReplaced (new : Table) (last : Option ℕ) (sectors : ℕ → Bytes) (slot : ℕ) (before after : Content) : Type 0 where
  pub gets : GetsIt new last slot
  pub stands : sector_of (disk_of after) (place_of new) ≡ sectors slot
  pub others : (at : ℕ) → at ≢ place_of new → sector_of (disk_of after) at ≡ sector_of (disk_of before) at
  pub long : length (disk_of after) ≡ length (disk_of before)

-- the content stood there before, but for the new superblock at most
abbrev pub IsBefore : Table → Option ℕ → (ℕ → Bytes) → (slot : ℕ) → (before after : Content) → Type 0
IsBefore new last sectors slot before after = (before ≡ after) ⊎ IsReplaced new last sectors slot before after

-- what a crash before might have left in the slot
pub record WasBefore (new : Table) (last : Option ℕ) (sectors : ℕ → Bytes) (old : History) (slot : ℕ) (after : Content) : Type 0 where
  pub before : Content
  pub may : SlotMayHold old slot before
  pub is : IsBefore new last sectors slot before after

differ : true ≡ false → ⊥
differ is = cc

-- a device that is up was up
pub was_up : (new : Table) (last : Option ℕ) (sectors : ℕ → Bytes) (old h : History) → IsInPublish new last sectors old h → (slot : ℕ) → is_down h slot ≡ false
    → is_down old slot ≡ false
was_up new last sectors old h publish slot up = by_state (is_down old slot) refl
  where
    by_state : (b : Bool) → is_down old slot ≡ b → is_down old slot ≡ false
    by_state true down = absurd (differ (sym (publish.stays_down slot down) ∙ up))
    by_state false is = is

other_sector : (new : Table) (last : Option ℕ) (sectors : ℕ → Bytes) (old h : History) → IsInPublish new last sectors old h → (slot : ℕ) (disk : List Bytes)
    → ((a : ℕ) → MayHold h slot a (sector_of disk a))
    → (a : ℕ) → a ≢ place_of new → MayHold old slot a (sector_of disk a)
other_sector new last sectors old h publish slot disk may a apart = elim (publish.holds slot a (sector_of disk a) (may a)) [
  | inl was ↦ was
  | inr is_new ↦ absurd (apart is_new.in_place)
]

-- where the place has what it might have before
kept_before : (new : Table) (last : Option ℕ) (sectors : ℕ → Bytes) (old h : History) → IsInPublish new last sectors old h → (slot : ℕ) (disk : List Bytes)
    → SlotMayHold h slot (Some disk)
    → MayHold old slot (place_of new) (sector_of disk (place_of new)) → WasBefore new last sectors old slot (Some disk)
kept_before new last sectors old h publish slot disk may was = record {
  before = Some disk;
  may = (
    λ none. may.0 (publish.start slot ∙ none),
    may.1 ∙ ap (λ (c : Content). length (disk_of c)) (publish.start slot),
    λ a. elim (cases_eq a (place_of new)) [
      | inl is ↦ subst (λ (k : ℕ). MayHold old slot k (sector_of disk k)) (sym is) was
      | inr apart ↦ other_sector new last sectors old h publish slot disk may.2 a apart
    ],
  );
  is = inl refl;
}

-- where it has the new superblock
replaced_before : (new : Table) (last : Option ℕ) (sectors : ℕ → Bytes) (old h : History) → IsInPublish new last sectors old h → (slot : ℕ) (disk : List Bytes)
    → SlotMayHold h slot (Some disk)
    → GetsIt new last slot → is_down old slot ≡ false → place_of new < length disk → sector_of disk (place_of new) ≡ sectors slot
    → WasBefore new last sectors old slot (Some disk)
replaced_before new last sectors old h publish slot disk may gets up within stands = record {
  before = Some (slice_set disk place value);
  may = (
    λ none. may.0 (publish.start slot ∙ none),
    length-set disk place value ∙ may.1 ∙ ap (λ (c : Content). length (disk_of c)) (publish.start slot),
    λ a. elim (cases_eq a place) [
      | inl is ↦ subst (λ (k : ℕ). MayHold old slot k (sector_of (slice_set disk place value) k)) (sym is)
          (subst (MayHold old slot place) (sym (get_or-set_same disk place value [] within)) (up_seen old slot place up))
      | inr apart ↦ subst (MayHold old slot a) (sym (get_or-set_other disk place a value [] apart))
          (other_sector new last sectors old h publish slot disk may.2 a apart)
    ],
  );
  is = inr record {
    gets = gets;
    stands = stands;
    others = λ at apart. sym (get_or-set_other disk place at value [] apart);
    long = sym (length-set disk place value);
  };
}
  where
    place : ℕ
    place = place_of new

    value : Bytes
    value = sector_of (seen old slot) place

-- What a moment may leave in a slot stood there before, but for the new superblock at most; or the slot is empty.
pub slot_or_none : Spellings → (new : Table) (last : Option ℕ) (sectors : ℕ → Bytes) (old h : History) → IsInPublish new last sectors old h → (slot : ℕ)
    → (GetsIt new last slot → StandsAt new slot (sectors slot)) → (GetsIt new last slot → is_down old slot ≡ false) → (after : Content)
    → SlotMayHold h slot after
    → (after ≡ None) ⊎ WasBefore new last sectors old slot after
slot_or_none spellings new last sectors old h publish slot spelled up None may = inl refl
slot_or_none spellings new last sectors old h publish slot spelled up (Some disk) may =
    elim (publish.holds slot (place_of new) (sector_of disk (place_of new)) (may.2 (place_of new))) [
      | inl was ↦ inr (kept_before new last sectors old h publish slot disk may was)
      | inr is_new ↦ elim (cases_lt (place_of new) (length disk)) [
        | inl within ↦ inr (replaced_before new last sectors old h publish slot disk may is_new.gets (up is_new.gets) within is_new.is)
        | inr beyond ↦ absurd (omega (
          arith,
          ap length (sym (get_or_past disk (place_of new) [] beyond) ∙ is_new.is ∙ (spelled is_new.gets).spelled),
          spellings.superblock_long (spelled is_new.gets).superblock,
        ))
      ]
    ]

-- of a device that is up, or gets none, it stood there before
pub slot_before : Spellings → (new : Table) (last : Option ℕ) (sectors : ℕ → Bytes) (old h : History) → IsInPublish new last sectors old h → (slot : ℕ)
    → (GetsIt new last slot → StandsAt new slot (sectors slot)) → (GetsIt new last slot → is_down h slot ≡ false) → (after : Content) → SlotMayHold h slot after
    → WasBefore new last sectors old slot after
slot_before spellings new last sectors old h publish slot spelled up after may =
    elim (slot_or_none spellings new last sectors old h publish slot spelled (λ gets. was_up new last sectors old h publish slot (up gets)) after may) [
      | inl none ↦ elim (gets_or_not_last new last slot) [
        | inl gets ↦ absurd (differ (sym (subst (SlotMayHold h slot) none may) ∙ up gets))
        | inr not_got ↦ record { before = None; may = sym (publish.others_stay slot not_got) ∙ subst (SlotMayHold h slot) none may; is = inl (sym none) }
      ]
      | inr was ↦ was
    ]

-- after the superblocks the contents agree
pub agree_before : (new : Table) (last : Option ℕ) (sectors : ℕ → Bytes) (slot : ℕ) (before after : Content) → IsBefore new last sectors slot before after
    → AgreeBeyond before after
agree_before new last sectors slot before after (inl same) = subst (AgreeBeyond before) same (agree_same before)
agree_before new last sectors slot before after (inr replaced) = record {
  same = λ at beyond. sym (replaced.others at (λ is. absurd (omega (arith, is, beyond))));
}

-- they are as long
pub long_before : (new : Table) (last : Option ℕ) (sectors : ℕ → Bytes) (slot : ℕ) (before after : Content) → IsBefore new last sectors slot before after
    → length (disk_of after) ≡ length (disk_of before)
long_before new last sectors slot before after (inl same) = ap (λ (c : Content). length (disk_of c)) (sym same)
long_before new last sectors slot before after (inr replaced) = replaced.long

-- what counts in the content after carries the new table, or counted before
pub counted_before : Spellings → (new : Table) (last : Option ℕ) (sectors : ℕ → Bytes) (slot : ℕ) (before after : Content)
    → (GetsIt new last slot → StandsAt new slot (sectors slot))
    → IsBefore new last sectors slot before after → (id : List ℕ) (devices place : ℕ) (superblock : Superblock) → Counts id devices slot after place superblock
    → (superblock.table ≡ new) ⊎ Counts id devices slot before place superblock
counted_before spellings new last sectors slot before after spelled (inl same) id devices place superblock counts =
    inr (subst (λ (c : Content). Counts id devices slot c place superblock) (sym same) counts)
counted_before spellings new last sectors slot before after spelled (inr replaced) id devices place superblock counts =
    let stands = spelled replaced.gets in
    elim (cases_eq place (place_of new)) [
      | inl is ↦ inl (ap (λ (s : Superblock). s.table)
          (spellings.one_superblock superblock stands.superblock
          (sym counts.stands ∙ ap (λ (p : ℕ). sector_of (disk_of after) p) is ∙ replaced.stands ∙ stands.spelled))
          ∙ stands.carries)
      | inr apart ↦ inr record {
        stands = sym (replaced.others place apart) ∙ counts.stands;
        of_set = counts.of_set;
        own_place = counts.own_place;
        own_slot = counts.own_slot;
        has_slots = counts.has_slots;
      }
    ]

-- the new superblock counts where it stands
pub new_counts : (devices : ℕ) (new : Table) (slot : ℕ) (sector : Bytes) (content : Content) → slots_of new ≤ devices → (stands : StandsAt new slot sector)
    → sector_of (disk_of content) (place_of new) ≡ sector → Counts new.id devices slot content (place_of new) stands.superblock
new_counts devices new slot sector content room stands is = record {
  stands = is ∙ stands.spelled;
  of_set = ap (λ (t : Table). t.id) stands.carries;
  own_place = ap (λ (t : Table). t.generation % SUPERBLOCK_PLACES) stands.carries;
  own_slot = stands.own_slot;
  has_slots = subst (λ (t : Table). t.geometry.members + 2 ≤ devices) (sym stands.carries) room;
}
