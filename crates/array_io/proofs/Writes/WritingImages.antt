-- Images that were written after the superblocks: the same table is chosen, and the same is live, known and stale.
use Rattle.std.proofs.Common.{◌≡◌, inl, inr, ℕ, ◌<◌, List, length, refl, sym, ◌∙◌, arith}
use Rattle.sector_model.specs.History.{Bytes, Slots, disk_of, sector_of}
use Rattle.sector_model.specs.Moments.{Contents}
use Rattle.layout_map.specs.declared.sizes.TheConstants.{SUPERBLOCK_PLACES}
use Rattle.superblock.specs.declared.table.Table.{Table}
use Rattle.superblock.specs.declared.table.Superblock.{Superblock}
use Rattle.superblock.specs.Tables.{incarnation_at}
use Rattle.superblock.specs.Counted.{Content, Counts, HasIncarnation, IsChosen, IsInFull, IsLive}
use Rattle.array_io.specs.Laws.Core.{AreJournalsInStep, HasRows}
use Rattle.array_io.specs.Believed.Holds.{HoldsIn, IsLiveJournal}
use Rattle.array_io.proofs.Writes.Written.{IsWritten, IsWrittenFrom}
use Rattle.array_io.proofs.Images.SayingTheSame.{HaveLiveAlike}

-- two contents are as long, and have the same in the places of superblocks
pub record HaveSameFront (first second : Content) : Type 0 where
  pub long : length (disk_of second) ≡ length (disk_of first)
  pub same : (at : ℕ) → at < SUPERBLOCK_PLACES → sector_of (disk_of second) at ≡ sector_of (disk_of first) at

pub front_back : (first second : Content) → HaveSameFront first second → HaveSameFront second first
front_back first second front = record { long = sym front.long; same = λ at below. sym (front.same at below) }

-- what was written after the superblocks has the same there
pub written_front : (puts : Contents) (slot : ℕ) (before after : Content) → IsWritten puts slot before after → HaveSameFront before after
written_front puts slot before after written = record {
  long = written.long;
  same = λ at below. elim (written.each at) [
    | inl same ↦ same
    | inr put ↦ absurd (omega (arith, below, put.0))
  ];
}

-- what is as it was is written
pub written_same : (puts : Contents) (slot : ℕ) (content : Content) → IsWritten puts slot content content
written_same puts slot content = record { long = refl; each = λ at. inl refl }

-- the same superblocks count
pub counts_front : (id : List ℕ) (devices slot : ℕ) (first second : Content) → HaveSameFront first second → (place : ℕ) (superblock : Superblock)
    → Counts id devices slot first place superblock → Counts id devices slot second place superblock
counts_front id devices slot first second front place superblock counts = record {
  stands = front.same place (omega (arith, counts.own_place)) ∙ counts.stands;
  of_set = counts.of_set;
  own_place = counts.own_place;
  own_slot = counts.own_slot;
  has_slots = counts.has_slots;
}

counts_back : (id : List ℕ) (devices slot : ℕ) (first second : Content) → HaveSameFront first second → (place : ℕ) (superblock : Superblock)
    → Counts id devices slot second place superblock → Counts id devices slot first place superblock
counts_back id devices slot first second front = counts_front id devices slot second first (front_back first second front)

-- the own incarnation is the same
pub incarnation_front : (id : List ℕ) (devices slot : ℕ) (first second : Content) → HaveSameFront first second → (incarnation : ℕ)
    → HasIncarnation id devices slot first incarnation → HasIncarnation id devices slot second incarnation
incarnation_front id devices slot first second front incarnation has = record {
  place = has.place;
  newest = has.newest;
  counted = counts_front id devices slot first second front has.place has.newest has.counted;
  greatest = λ at superblock counts. has.greatest at superblock (counts_back id devices slot first second front at superblock counts);
  own = has.own;
}

-- what was live is live
pub live_front : (devices : ℕ) (table : Table) (slot : ℕ) (first second : Content) → HaveSameFront first second
    → IsLive devices table slot first → IsLive devices table slot second
live_front devices table slot first second front live = record {
  long_enough = omega (arith, live.long_enough, front.long);
  not_missing = live.not_missing;
  incarnation = incarnation_front table.id devices slot first second front (incarnation_at table.incarnations slot) live.incarnation;
}

pub full_front : (devices : ℕ) (table : Table) (slot : ℕ) (first second : Content) → HaveSameFront first second
    → IsInFull devices table slot first → IsInFull devices table slot second
full_front devices table slot first second front full = record {
  live = live_front devices table slot first second front full.live;
  in_sync = full.in_sync;
}

-- all slots

-- the chosen table stays chosen
pub chosen_front : (id : List ℕ) (devices : ℕ) (table : Table) (before after : Slots) → ((slot : ℕ) → HaveSameFront (before slot) (after slot))
    → IsChosen id devices before table → IsChosen id devices after table
chosen_front id devices table before after front chosen = record {
  slot = chosen.slot;
  place = chosen.place;
  best = chosen.best;
  counted = counts_front id devices chosen.slot (before chosen.slot) (after chosen.slot) (front chosen.slot) chosen.place chosen.best chosen.counted;
  carried = chosen.carried;
  greatest = λ other at superblock counts. chosen.greatest other at superblock (was other at superblock counts);
  first = λ other at superblock counts. chosen.first other at superblock (was other at superblock counts);
}
  where
    was : (other at : ℕ) (superblock : Superblock) → Counts id devices other (after other) at superblock → Counts id devices other (before other) at superblock
    was other = counts_back id devices other (before other) (after other) (front other)

-- all slots are written
abbrev pub AreWritten : Contents → (before after : Slots) → Type 0
AreWritten puts before after = (slot : ℕ) → IsWritten puts slot (before slot) (after slot)

-- An image that was written has to be so still: its rows and entries by those who write, the rest as it was.
pub holds_written : (devices : ℕ) (table : Table) (puts : Contents) (reads : Slots) (X X' : List (List Bytes)) (whole before image : Slots)
    → HasRows devices table X' (IsLiveJournal devices table image) image × AreJournalsInStep devices table image
    → IsWrittenFrom devices table puts reads X whole before image → HoldsIn devices table X' image
holds_written devices table puts reads X X' whole before image rows from = record {
  chosen = chosen_front table.id devices table before image front from.holds.chosen;
  one_out = λ first second of_set of_set' out out'. from.holds.one_out first second of_set of_set' (λ full. out (full_now first full))
      (λ full. out' (full_now second full));
  none_higher = λ slot place superblock counts. from.holds.none_higher slot place superblock (was slot place superblock counts);
  one_content = λ slot place superblock counts. from.holds.one_content slot place superblock (was slot place superblock counts);
  sound = rows.0.sound;
  listed = rows.0.listed;
  in_step = rows.1;
}
  where
    front : (slot : ℕ) → HaveSameFront (before slot) (image slot)
    front slot = written_front puts slot (before slot) (image slot) (from.put slot)

    was : (slot place : ℕ) (superblock : Superblock) → Counts table.id devices slot (image slot) place superblock
        → Counts table.id devices slot (before slot) place superblock
    was slot = counts_back table.id devices slot (before slot) (image slot) (front slot)

    full_now : (slot : ℕ) → IsInFull devices table slot (before slot) → IsInFull devices table slot (image slot)
    full_now slot = full_front devices table slot (before slot) (image slot) (front slot)

-- the same slots are live in an image that was written
pub written_alive : (devices : ℕ) (table : Table) (puts : Contents) (before image : Slots) → AreWritten puts before image
    → HaveLiveAlike devices table image before
written_alive devices table puts before image written = record {
  live = λ slot live. live_front devices table slot (image slot) (before slot)
      (front_back (before slot) (image slot) (written_front puts slot (before slot) (image slot) (written slot))) live;
  back = λ slot live. live_front devices table slot (before slot) (image slot) (written_front puts slot (before slot) (image slot) (written slot)) live;
}
