-- Images that differ in places which have the table's own superblock: the same table is chosen, and the same is live.
use Rattle.std.proofs.Common.{◌≡◌, ◌≢◌, ◌⊎◌, inl, inr, ℕ, zero, suc, ◌%◌, ◌<◌, ◌≤◌, List, length, refl, sym, ◌∙◌, ap, subst, arith}
use Rattle.std.proofs.lemmas.Bool.{cases_eq}
use Rattle.sector_model.specs.History.{Bytes, Slots, disk_of, sector_of}
use Rattle.layout_map.specs.declared.sizes.TheConstants.{SUPERBLOCK_PLACES}
use Rattle.superblock.specs.declared.table.Table.{Table}
use Rattle.superblock.specs.declared.table.Superblock.{Superblock}
use Rattle.superblock.specs.Counted.{Content, Counts, HasIncarnation, IsChosen, IsInFull, IsLive}
use Rattle.superblock.specs.NextTables.{slots_of}
use Rattle.superblock.specs.Publishing.{StandsAt, place_of}
use Rattle.superblock.specs.Tables.{incarnation_at}
use Rattle.array_io.specs.Laws.Core.{HasRows, IsKnown}
use Rattle.array_io.specs.Believed.Holds.{HoldsIn, IsLiveJournal}
use Rattle.array_io.proofs.Images.Choice.{IsAsNew, as_new_or_not}
use Rattle.array_io.proofs.Images.SameBeyond.{AgreeBeyond, AreSameBeyond, rows_beyond, steps_beyond}
use Rattle.array_io.proofs.Images.Spellings.{Spellings}

-- the least number of a kind that is settled for each

least_below : (P : ℕ → Type 0) → ((n : ℕ) → P n ⊎ ¬ P n) → (n : ℕ) → ((m : ℕ) × P m × ((k : ℕ) → P k → m ≤ k)) ⊎ ((k : ℕ) → k < n → ¬ P k)
least_below P decide zero = inr (λ k below. absurd (omega arith))
least_below P decide (suc n) = elim (least_below P decide n) [
  | inl found ↦ inl found
  | inr none ↦ elim (decide n) [
    | inl is ↦ inl (n, is, λ k other. not_below n k (λ below. none k below other))
    | inr not ↦ inr (λ k below. elim (cases_eq k n) [
      | inl same ↦ λ is. not (subst P same is)
      | inr apart ↦ none k (omega (arith, below, apart))
    ])
  ]
]
  where
    not_below : (n k : ℕ) → ¬ (k < n) → n ≤ k
    not_below n k not = omega (arith, not)

least_one : (P : ℕ → Type 0) → ((n : ℕ) → P n ⊎ ¬ P n) → (n : ℕ) → P n → (m : ℕ) × P m × ((k : ℕ) → P k → m ≤ k)
least_one P decide n is = elim (least_below P decide (suc n)) [
  | inl found ↦ found
  | inr none ↦ absurd (none n (omega arith) is)
]

-- one slot

-- the place of a slot that was live has the table's own superblock now
pub record IsReplaced (devices : ℕ) (table : Table) (sectors : ℕ → Bytes) (slot : ℕ) (before after : Content) : Type 0 where
  pub stands : StandsAt table slot (sectors slot)
  pub was_live : IsLive devices table slot before
  pub is : sector_of (disk_of after) (place_of table) ≡ sectors slot

-- what stands in a slot stood there before, but for the table's own superblock at most
pub record IsBrought (devices : ℕ) (table : Table) (sectors : ℕ → Bytes) (slot : ℕ) (before after : Content) : Type 0 where
  pub long : length (disk_of after) ≡ length (disk_of before)
  pub others : (at : ℕ) → at ≢ place_of table → sector_of (disk_of after) at ≡ sector_of (disk_of before) at
  pub place : (sector_of (disk_of after) (place_of table) ≡ sector_of (disk_of before) (place_of table)) ⊎ IsReplaced devices table sectors slot before after

pub brought_same : (devices : ℕ) (table : Table) (sectors : ℕ → Bytes) (slot : ℕ) (content : Content) → IsBrought devices table sectors slot content content
brought_same devices table sectors slot content = record { long = refl; others = λ at apart. refl; place = inl refl }

-- what counts now carries the table, or counted before
pub counted_before : Spellings → (devices : ℕ) (table : Table) (sectors : ℕ → Bytes) (slot : ℕ) (before after : Content)
    → IsBrought devices table sectors slot before after
    → (id : List ℕ) (place : ℕ) (superblock : Superblock) → Counts id devices slot after place superblock → (superblock.table ≡ table)
    ⊎ Counts id devices slot before place superblock
counted_before spellings devices table sectors slot before after brought id place superblock counts = elim (cases_eq place (place_of table)) [
  | inr apart ↦ inr (with_sector (brought.others place apart))
  | inl is ↦ elim brought.place [
    | inl same ↦ inr (with_sector (subst (λ (p : ℕ). sector_of (disk_of after) p ≡ sector_of (disk_of before) p) (sym is) same))
    | inr replaced ↦ inl (ap (λ (s : Superblock). s.table)
        (spellings.one_superblock superblock replaced.stands.superblock
        (sym counts.stands ∙ ap (λ (p : ℕ). sector_of (disk_of after) p) is ∙ replaced.is ∙ replaced.stands.spelled))
        ∙ replaced.stands.carries)
  ]
]
  where
    with_sector : sector_of (disk_of after) place ≡ sector_of (disk_of before) place → Counts id devices slot before place superblock
    with_sector same = record {
      stands = sym same ∙ counts.stands;
      of_set = counts.of_set;
      own_place = counts.own_place;
      own_slot = counts.own_slot;
      has_slots = counts.has_slots;
    }

-- the own superblock counts where it stands
own_counts : (devices : ℕ) (table : Table) (slot : ℕ) (sector : Bytes) (content : Content) → slots_of table ≤ devices → (stands : StandsAt table slot sector)
    → sector_of (disk_of content) (place_of table) ≡ sector → Counts table.id devices slot content (place_of table) stands.superblock
own_counts devices table slot sector content room stands is = record {
  stands = is ∙ stands.spelled;
  of_set = ap (λ (t : Table). t.id) stands.carries;
  own_place = ap (λ (t : Table). t.generation % SUPERBLOCK_PLACES) stands.carries;
  own_slot = stands.own_slot;
  has_slots = omega (arith, room, ap (λ (t : Table). t.geometry.members) stands.carries);
}

-- what counted before in a place that has the same counts now
counted_after : (devices : ℕ) (id : List ℕ) (slot : ℕ) (before after : Content) (place : ℕ) (superblock : Superblock)
    → sector_of (disk_of after) place ≡ sector_of (disk_of before) place
    → Counts id devices slot before place superblock → Counts id devices slot after place superblock
counted_after devices id slot before after place superblock same counts = record {
  stands = same ∙ counts.stands;
  of_set = counts.of_set;
  own_place = counts.own_place;
  own_slot = counts.own_slot;
  has_slots = counts.has_slots;
}

-- what stands after the superblocks is the same
pub brought_beyond : (devices : ℕ) (table : Table) (sectors : ℕ → Bytes) (slot : ℕ) (before after : Content) → IsBrought devices table sectors slot before after
    → AgreeBeyond before after
brought_beyond devices table sectors slot before after brought = record {
  same = λ at beyond. sym (brought.others at (λ is. absurd (omega (arith, is, beyond))));
}

-- it says no more to the table
brought_known : Spellings → (devices : ℕ) (table : Table) (sectors : ℕ → Bytes) (slot : ℕ) (before after : Content)
    → IsBrought devices table sectors slot before after
    → IsKnown devices table slot before → IsKnown devices table slot after
brought_known spellings devices table sectors slot before after brought known = record {
  no_newer = λ place superblock counts. elim (was place superblock counts) [
    | inl own ↦ omega (arith, ap (λ (t : Table). t.generation) own)
    | inr counted ↦ known.no_newer place superblock counted
  ];
  as_new = λ place superblock counts equal. elim (was place superblock counts) [
    | inl own ↦ own
    | inr counted ↦ known.as_new place superblock counted equal
  ];
  no_higher = λ place superblock counts. elim (was place superblock counts) [
    | inl own ↦ omega (arith, ap (λ (t : Table). incarnation_at t.incarnations slot) own)
    | inr counted ↦ known.no_higher place superblock counted
  ];
}
  where
    was : (place : ℕ) (superblock : Superblock) → Counts table.id devices slot after place superblock → (superblock.table ≡ table)
        ⊎ Counts table.id devices slot before place superblock
    was = counted_before spellings devices table sectors slot before after brought table.id

-- where it was as new as the table, it is
brought_new : (devices : ℕ) (table : Table) (sectors : ℕ → Bytes) (slot : ℕ) (before after : Content) → slots_of table ≤ devices
    → IsBrought devices table sectors slot before after
    → IsAsNew devices table slot before → IsAsNew devices table slot after
brought_new devices table sectors slot before after room brought new = elim (cases_eq new.place (place_of table)) [
  | inr apart ↦ kept (brought.others new.place apart)
  | inl is ↦ elim brought.place [
    | inl same ↦ kept (subst (λ (p : ℕ). sector_of (disk_of after) p ≡ sector_of (disk_of before) p) (sym is) same)
    | inr replaced ↦ record {
      place = place_of table;
      superblock = replaced.stands.superblock;
      counts = own_counts devices table slot (sectors slot) after room replaced.stands replaced.is;
      equal = ap (λ (t : Table). t.generation) replaced.stands.carries;
    }
  ]
]
  where
    kept : sector_of (disk_of after) new.place ≡ sector_of (disk_of before) new.place → IsAsNew devices table slot after
    kept same = record {
      place = new.place;
      superblock = new.superblock;
      counts = counted_after devices table.id slot before after new.place new.superblock same new.counts;
      equal = new.equal;
    }

-- the same sectors in both places: what counts is the same
both_places : (table : Table) (before after : Content) → ((at : ℕ) → at ≢ place_of table → sector_of (disk_of after) at ≡ sector_of (disk_of before) at)
    → sector_of (disk_of after) (place_of table) ≡ sector_of (disk_of before) (place_of table) → (at : ℕ)
    → sector_of (disk_of after) at ≡ sector_of (disk_of before) at
both_places table before after others same at = elim (cases_eq at (place_of table)) [
  | inl is ↦ subst (λ (p : ℕ). sector_of (disk_of after) p ≡ sector_of (disk_of before) p) (sym is) same
  | inr apart ↦ others at apart
]

same_incarnation : (devices : ℕ) (id : List ℕ) (slot incarnation : ℕ) (before after : Content)
    → ((at : ℕ) → sector_of (disk_of after) at ≡ sector_of (disk_of before) at)
    → HasIncarnation id devices slot before incarnation → HasIncarnation id devices slot after incarnation
same_incarnation devices id slot incarnation before after same has = record {
  place = has.place;
  newest = has.newest;
  counted = counted_after devices id slot before after has.place has.newest (same has.place) has.counted;
  greatest = λ at superblock counts. has.greatest at superblock (counted_after devices id slot after before at superblock (sym (same at)) counts);
  own = has.own;
}

-- what was live is live, and nothing else
pub brought_live : Spellings → (devices : ℕ) (table : Table) (sectors : ℕ → Bytes) (slot : ℕ) (before after : Content) → slots_of table ≤ devices
    → IsKnown devices table slot before
    → IsBrought devices table sectors slot before after → IsLive devices table slot before → IsLive devices table slot after
brought_live spellings devices table sectors slot before after room known brought live = record {
  long_enough = omega (arith, live.long_enough, brought.long);
  not_missing = live.not_missing;
  incarnation = elim brought.place [
    | inl same ↦ same_incarnation devices table.id slot (incarnation_at table.incarnations slot) before after
        (both_places table before after brought.others same) live.incarnation
    | inr replaced ↦ record {
      place = place_of table;
      newest = replaced.stands.superblock;
      counted = own_counts devices table slot (sectors slot) after room replaced.stands replaced.is;
      greatest = λ at superblock counts.
          let most : superblock.table.generation ≤ table.generation =
          (brought_known spellings devices table sectors slot before after brought known).no_newer at superblock counts in
          omega (arith, most, ap (λ (t : Table). t.generation) replaced.stands.carries);
      own = ap (λ (t : Table). incarnation_at t.incarnations slot) replaced.stands.carries;
    }
  ];
}

pub brought_was_live : (devices : ℕ) (table : Table) (sectors : ℕ → Bytes) (slot : ℕ) (before after : Content)
    → IsBrought devices table sectors slot before after
    → IsLive devices table slot after → IsLive devices table slot before
brought_was_live devices table sectors slot before after brought live = elim brought.place [
  | inl same ↦ record {
    long_enough = omega (arith, live.long_enough, brought.long);
    not_missing = live.not_missing;
    incarnation = same_incarnation devices table.id slot (incarnation_at table.incarnations slot) after before
        (λ at. sym (both_places table before after brought.others same at)) live.incarnation;
  }
  | inr replaced ↦ replaced.was_live
]

-- all slots

abbrev pub AreBrought : ℕ → Table → (ℕ → Bytes) → (before after : Slots) → Type 0
AreBrought devices table sectors before after = (slot : ℕ) → IsBrought devices table sectors slot (before slot) (after slot)

holds_known : (devices : ℕ) (table : Table) (X : List (List Bytes)) (image : Slots) → HoldsIn devices table X image → (slot : ℕ)
    → IsKnown devices table slot (image slot)
holds_known devices table X image holds slot = record {
  no_newer = λ place superblock counts. holds.chosen.greatest slot place superblock counts;
  as_new = λ place superblock counts equal. holds.one_content slot place superblock counts equal;
  no_higher = λ place superblock counts. holds.none_higher slot place superblock counts;
}

-- the table is chosen, by the lowest slot that has its own superblock now
chosen_brought : (devices : ℕ) (table : Table) (sectors : ℕ → Bytes) (before after : Slots) → slots_of table ≤ devices → IsChosen table.id devices before table
    → AreBrought devices table sectors before after → ((slot : ℕ) → IsKnown devices table slot (after slot)) → IsChosen table.id devices after table
chosen_brought devices table sectors before after room chosen brought known = record {
  slot = lowest.0;
  place = new.place;
  best = new.superblock;
  counted = new.counts;
  carried = (known lowest.0).as_new new.place new.superblock new.counts new.equal;
  greatest = λ other at superblock counts. (known other).no_newer at superblock counts;
  first = λ other at superblock counts equal. lowest.2 other (record { place = at; superblock = superblock; counts = counts; equal = equal });
}
  where
    there : IsAsNew devices table chosen.slot (after chosen.slot)
    there = brought_new devices table sectors chosen.slot (before chosen.slot) (after chosen.slot) room (brought chosen.slot)
        (record { place = chosen.place; superblock = chosen.best; counts = chosen.counted; equal = ap (λ (t : Table). t.generation) chosen.carried })

    lowest : (m : ℕ) × IsAsNew devices table m (after m) × ((k : ℕ) → IsAsNew devices table k (after k) → m ≤ k)
    lowest = least_one (λ slot. IsAsNew devices table slot (after slot)) (λ slot. as_new_or_not devices table slot (after slot) room (known slot)) chosen.slot
        there

    new : IsAsNew devices table lowest.0 (after lowest.0)
    new = lowest.1

module _ (spellings : Spellings) (devices : ℕ) (table : Table) (sectors : ℕ → Bytes) (X : List (List Bytes)) (before after : Slots)
    (holds : HoldsIn devices table X before)
    (brought : AreBrought devices table sectors before after) where
  room_is : slots_of table ≤ devices
  room_is = omega (arith, holds.chosen.counted.has_slots, ap (λ (t : Table). t.geometry.members) holds.chosen.carried)

  known_is : (slot : ℕ) → IsKnown devices table slot (after slot)
  known_is slot = brought_known spellings devices table sectors slot (before slot) (after slot) (brought slot) (holds_known devices table X before holds slot)

  live_is : (slot : ℕ) → IsLive devices table slot (before slot) → IsLive devices table slot (after slot)
  live_is slot = brought_live spellings devices table sectors slot (before slot) (after slot) room_is (holds_known devices table X before holds slot)
      (brought slot)

  live_was : (slot : ℕ) → IsLive devices table slot (after slot) → IsLive devices table slot (before slot)
  live_was slot = brought_was_live devices table sectors slot (before slot) (after slot) (brought slot)

  full_is : (slot : ℕ) → IsInFull devices table slot (before slot) → IsInFull devices table slot (after slot)
  full_is slot full = record { live = live_is slot full.live; in_sync = full.in_sync }

  same_is : AreSameBeyond devices table table before after
  same_is = record {
    same_id = refl;
    same_geometry = refl;
    live = live_is;
    live_back = live_was;
    trusted = λ row member trusted. record { live = live_is member trusted.live; rebuilt = trusted.rebuilt };
    trusted_back = λ row member trusted. record { live = live_was member trusted.live; rebuilt = trusted.rebuilt };
    agree = λ slot is_live. brought_beyond devices table sectors slot (before slot) (after slot) (brought slot);
  }

  rows_are : HasRows devices table X (IsLiveJournal devices table after) after
  rows_are = rows_beyond devices table table before after X same_is (record { sound = holds.sound; listed = holds.listed })

-- an image that has to be so still is
pub holds_brought : Spellings → (devices : ℕ) (table : Table) (sectors : ℕ → Bytes) (X : List (List Bytes)) (before after : Slots)
    → HoldsIn devices table X before
    → AreBrought devices table sectors before after → HoldsIn devices table X after
holds_brought spellings devices table sectors X before after holds brought = record {
  chosen = chosen_brought devices table sectors before after room holds.chosen brought known;
  one_out = λ first second of_set of_set' out out'. holds.one_out first second of_set of_set' (λ full. out (in_full first full))
      (λ full. out' (in_full second full));
  none_higher = λ slot. (known slot).no_higher;
  one_content = λ slot. (known slot).as_new;
  sound = rows.sound;
  listed = rows.listed;
  in_step = steps_beyond devices table table before after (same_is spellings devices table sectors X before after holds brought) holds.in_step;
}
  where
    room : slots_of table ≤ devices
    room = room_is spellings devices table sectors X before after holds brought

    known : (slot : ℕ) → IsKnown devices table slot (after slot)
    known = known_is spellings devices table sectors X before after holds brought

    in_full : (slot : ℕ) → IsInFull devices table slot (before slot) → IsInFull devices table slot (after slot)
    in_full = full_is spellings devices table sectors X before after holds brought

    rows : HasRows devices table X (IsLiveJournal devices table after) after
    rows = rows_are spellings devices table sectors X before after holds brought

-- what was live is live
pub live_brought : Spellings → (devices : ℕ) (table : Table) (sectors : ℕ → Bytes) (X : List (List Bytes)) (before after : Slots)
    → HoldsIn devices table X before
    → AreBrought devices table sectors before after → (slot : ℕ) → IsLive devices table slot (before slot) → IsLive devices table slot (after slot)
live_brought spellings devices table sectors X before after holds brought = live_is spellings devices table sectors X before after holds brought
