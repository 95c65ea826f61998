-- An image with some of the new superblocks, by the new table, which differs from the old one in one slot: what it has to be, where the image without
-- that slot was so by the old one.
use Rattle.std.proofs.Common.{◌≡◌, ◌≢◌, ◌⊎◌, inl, inr, ℕ, ◌+◌, ◌<◌, ◌≤◌, List, length, Option, Some, None, sym, ◌∙◌, ap, subst, arith}
use Rattle.std.proofs.lemmas.Bool.{cases_eq, cases_lt}
use Rattle.layout_map.specs.declared.geometry.Geometry.{Geometry}
use Rattle.sector_model.specs.History.{Bytes, Slots, disk_of, sector_of}
use Rattle.superblock.specs.declared.state.State.TheVariants.{InSync, Missing}
use Rattle.superblock.specs.declared.table.Table.{Table}
use Rattle.superblock.specs.declared.table.Superblock.{Superblock}
use Rattle.superblock.specs.Counted.{Content, Counts, HasIncarnation, IsChosen, IsInFull, IsLive, least_sectors}
use Rattle.superblock.specs.NextTables.{IsNotOlder, slots_of}
use Rattle.superblock.specs.Publishing.{StandsAt, place_of}
use Rattle.superblock.specs.SlotSteps.{IsStepAt}
use Rattle.superblock.specs.Tables.{incarnation_at, state_at}
use Rattle.superblock.proofs.PublishSteps.{GetsIt}
use Rattle.array_io.specs.Laws.Core.{AreJournalsInStep, HasRows, IsKnown}
use Rattle.array_io.specs.Believed.Holds.{HoldsIn, IsLiveJournal}
use Rattle.array_io.proofs.Images.Counting.{none_is_out}
use Rattle.array_io.proofs.Laws.Fresh.{in_sync_not_missing, in_sync_not_rebuilding}
use Rattle.array_io.proofs.Tables.PublishImages.{IsBefore, agree_before, counted_before, gets_how, long_before, new_counts}
use Rattle.array_io.proofs.Images.SameBeyond.{AreSameBeyond}
use Rattle.array_io.proofs.Images.SameBeyondStable.{not_false_below, rows_stay_beyond, steps_stay_beyond}
use Rattle.array_io.proofs.Images.Spellings.{Spellings}

-- The next table differs in one slot, which gets its superblock last, if at all; the superblocks are spelled, and the bank has the set's slots.
pub record StepsSlot (devices : ℕ) (old_table new_table : Table) (slot : ℕ) (last : Option ℕ) (sectors : ℕ → Bytes) : Type 0 where
  pub step : IsStepAt old_table new_table slot
  pub only_last : (other : ℕ) → last ≡ Some other → other ≡ slot
  pub last_there : last ≡ Some slot → state_at new_table.states slot ≢ Missing
  pub gets_last : GetsIt new_table last slot → last ≡ Some slot
  pub has_slots : slots_of old_table ≤ devices
  pub spelled : (other : ℕ) → other < slots_of new_table → state_at new_table.states other ≢ Missing → StandsAt new_table other (sectors other)

-- no incarnation is lower
pub step_incarnation : (old new : Table) (slot : ℕ) → IsStepAt old new slot → (other : ℕ)
    → incarnation_at old.incarnations other ≤ incarnation_at new.incarnations other
step_incarnation old new slot step other = elim (cases_eq other slot) [
  | inl same ↦ subst (λ (k : ℕ). incarnation_at old.incarnations k ≤ incarnation_at new.incarnations k) (sym same) step.incarnation
  | inr apart ↦ omega (arith, step.incarnations other apart)
]

pub step_not_older : (old new : Table) (slot : ℕ) → IsStepAt old new slot → IsNotOlder old new
step_not_older old new slot step = record {
  same_id = step.same_id;
  same_geometry = step.same_geometry;
  generation = omega (arith, step.generation);
  incarnation = step_incarnation old new slot step;
}

pub step_slots : (old new : Table) (slot : ℕ) → IsStepAt old new slot → slots_of new ≡ slots_of old
step_slots old new slot step = ap (λ (g : Geometry). g.members + 2) step.same_geometry

-- a live slot is one of the set
pub live_of_set : (devices : ℕ) (table : Table) (slot : ℕ) (content : Content) → IsLive devices table slot content → slot < slots_of table
live_of_set devices table slot content live = elim (cases_lt slot (slots_of table)) [
  | inl of_set ↦ of_set
  | inr beyond ↦ absurd (live.not_missing (table.allowed.missing_beyond slot beyond))
]

module _ (spellings : Spellings) (devices : ℕ) (old_table new_table : Table) (slot : ℕ) (last : Option ℕ) (sectors : ℕ → Bytes)
    (steps : StepsSlot devices old_table new_table slot last sectors) where
  pub same_slots : slots_of new_table ≡ slots_of old_table
  same_slots = step_slots old_table new_table slot steps.step

  pub in_sync_then : (other : ℕ) → other < slots_of old_table → other ≢ slot → state_at new_table.states other ≡ InSync
  in_sync_then other of_set apart = steps.step.states other apart ∙ steps.step.others_in_sync other of_set apart

  -- a slot that gets a superblock is one of the set
  pub gets_of_set : (other : ℕ) → GetsIt new_table last other → other < slots_of old_table
  gets_of_set other gets = elim (gets_how new_table last other gets) [
    | inl first ↦ omega (arith, first.of_set, same_slots)
    | inr is ↦ omega (arith, steps.only_last other is, steps.step.of_set)
  ]

  -- its superblock
  pub spelled_there : (other : ℕ) → GetsIt new_table last other → StandsAt new_table other (sectors other)
  spelled_there other gets = steps.spelled other (omega (arith, gets_of_set other gets, same_slots)) (elim (gets_how new_table last other gets) [
    | inl first ↦ λ missing. in_sync_not_missing (sym first.in_sync ∙ missing)
    | inr is ↦
        let same = steps.only_last other is in
        λ missing. steps.last_there (is ∙ ap (λ (k : ℕ). Some k) same) (ap (λ (k : ℕ). state_at new_table.states k) (sym same) ∙ missing)
  ])

  pub room_then : slots_of new_table ≤ devices
  room_then = omega (arith, steps.has_slots, same_slots)

  -- what counts of the new set counts of the old one
  pub of_old : (other place : ℕ) (content : Content) (superblock : Superblock) → Counts new_table.id devices other content place superblock
      → Counts old_table.id devices other content place superblock
  of_old other place content superblock = subst (λ (i : List ℕ). Counts i devices other content place superblock) steps.step.same_id

  -- what has the new superblock has the new table's incarnation
  pub incarnation_new : (other : ℕ) (after : Content) → GetsIt new_table last other → sector_of (disk_of after) (place_of new_table) ≡ sectors other
      → ((place : ℕ) (superblock : Superblock) → Counts new_table.id devices other after place superblock → superblock.table.generation ≤ new_table.generation)
      → HasIncarnation new_table.id devices other after (incarnation_at new_table.incarnations other)
  incarnation_new other after gets there greatest =
      let stands = spelled_there other gets in
      record {
        place = place_of new_table;
        newest = stands.superblock;
        counted = new_counts devices new_table other (sectors other) after room_then stands there;
        greatest = λ place superblock counts.
            subst (λ (t : Table). superblock.table.generation ≤ t.generation) (sym stands.carries) (greatest place superblock counts);
        own = ap (λ (t : Table). incarnation_at t.incarnations other) stands.carries;
      }

  incarnation_then : (other : ℕ) (before after : Content) → other ≢ slot → IsBefore new_table last sectors other before after
      → ((place : ℕ) (superblock : Superblock) → Counts new_table.id devices other after place superblock → superblock.table.generation ≤ new_table.generation)
      → HasIncarnation old_table.id devices other before (incarnation_at old_table.incarnations other)
      → HasIncarnation new_table.id devices other after (incarnation_at new_table.incarnations other)
  incarnation_then other before after apart (inl same) greatest has =
      subst (λ (i : List ℕ). HasIncarnation i devices other after (incarnation_at new_table.incarnations other)) (sym steps.step.same_id)
      (subst (λ (n : ℕ). HasIncarnation old_table.id devices other after n) (sym (steps.step.incarnations other apart))
      (subst (λ (c : Content). HasIncarnation old_table.id devices other c (incarnation_at old_table.incarnations other)) same has))
  incarnation_then other before after apart (inr replaced) greatest has = incarnation_new other after replaced.gets replaced.stands greatest

  -- another slot that was live is live
  pub live_then : (other : ℕ) (before after : Content) → other < slots_of old_table → other ≢ slot → IsBefore new_table last sectors other before after
      → ((place : ℕ) (superblock : Superblock) → Counts new_table.id devices other after place superblock → superblock.table.generation ≤ new_table.generation)
      → IsLive devices old_table other before → IsLive devices new_table other after
  live_then other before after of_set apart is greatest live = record {
    long_enough = subst (λ (g : Geometry). least_sectors g other ≤ length (disk_of after)) (sym steps.step.same_geometry)
        (omega (arith, live.long_enough, long_before new_table last sectors other before after is));
    not_missing = λ missing. in_sync_not_missing (sym (in_sync_then other of_set apart) ∙ missing);
    incarnation = incarnation_then other before after apart is greatest live.incarnation;
  }

  -- what was known to the old table, or is its next one, is known to the new one
  pub known_then : (X : List (List Bytes)) (image : Slots) → HoldsIn devices old_table X image → (other : ℕ) (after : Content)
      → IsBefore new_table last sectors other (image other) after → IsKnown devices new_table other after
  known_then X image holds other after is = record {
    no_newer = λ place superblock counts. elim (cases place superblock counts) [
      | inl new ↦ let same : superblock.table.generation ≡ new_table.generation = ap (λ (t : Table). t.generation) new in omega (arith, same)
      | inr was ↦ omega (arith, older place superblock was)
    ];
    as_new = λ place superblock counts equal. elim (cases place superblock counts) [
      | inl new ↦ new
      | inr was ↦ absurd (omega (arith, older place superblock was, equal))
    ];
    no_higher = λ place superblock counts. elim (cases place superblock counts) [
      | inl new ↦
          let same : incarnation_at superblock.table.incarnations other ≡ incarnation_at new_table.incarnations other =
          ap (λ (t : Table). incarnation_at t.incarnations other) new in
          omega (arith, same)
      | inr was ↦ omega (arith, holds.none_higher other place superblock was, step_incarnation old_table new_table slot steps.step other)
    ];
  }
    where
      cases : (place : ℕ) (superblock : Superblock) → Counts new_table.id devices other after place superblock
          → (superblock.table ≡ new_table) ⊎ Counts old_table.id devices other (image other) place superblock
      cases place superblock counts =
          elim (counted_before spellings new_table last sectors other (image other) after (spelled_there other) is new_table.id devices place superblock
          counts) [
            | inl new ↦ inl new
            | inr was ↦ inr (of_old other place (image other) superblock was)
          ]

      older : (place : ℕ) (superblock : Superblock) → Counts old_table.id devices other (image other) place superblock
          → superblock.table.generation < new_table.generation
      older place superblock counts = omega (arith, holds.chosen.greatest other place superblock counts, steps.step.generation)

  -- An image by the old table, with nothing in the slot, and one with some of the new superblocks that chooses the new table: what is in
  -- the slot is known to it.
  pub record AreAround (X : List (List Bytes)) (before after : Slots) : Type 0 where
    pub holds : HoldsIn devices old_table X before
    pub empty : before slot ≡ None
    pub each : (other : ℕ) → other ≢ slot → IsBefore new_table last sectors other (before other) (after other)
    pub chosen : IsChosen new_table.id devices after new_table
    pub known : IsKnown devices new_table slot (after slot)

  module _ (X : List (List Bytes)) (before after : Slots) (around : AreAround X before after) where
    live_at : (other : ℕ) → other < slots_of old_table → other ≢ slot → IsLive devices old_table other (before other)
        → IsLive devices new_table other (after other)
    live_at other of_set apart live =
        live_then other (before other) (after other) of_set apart (around.each other apart)
        (λ place superblock counts. around.chosen.greatest other place superblock counts) live

    slot_is_out : ¬ IsLive devices old_table slot (before slot)
    slot_is_out live = none_is_out spellings devices old_table slot (subst (IsLive devices old_table slot) around.empty live)

    apart_before : (other : ℕ) → IsLive devices old_table other (before other) → other ≢ slot
    apart_before other live same = slot_is_out (subst (λ (k : ℕ). IsLive devices old_table k (before k)) same live)

    of_set_after : (other : ℕ) → IsLive devices new_table other (after other) → other < slots_of old_table
    of_set_after other live = omega (arith, live_of_set devices new_table other (after other) live, same_slots)

    -- it is not false of any other slot that it was live
    others_in_full : (other : ℕ) → other < slots_of old_table → other ≢ slot → ¬ ¬ IsInFull devices old_table other (before other)
    others_in_full other of_set apart out =
        apart (around.holds.one_out other slot of_set steps.step.of_set out (λ full. slot_is_out full.live))

    not_false_live : ¬ ¬ ((other : ℕ) → other < slots_of old_table → other ≢ slot → IsLive devices old_table other (before other))
    not_false_live none =
        not_false_below (λ other. other ≢ slot → IsLive devices old_table other (before other)) (slots_of old_table)
        (λ other of_set out. elim (cases_eq other slot) [
          | inl same ↦ out (λ apart. absurd (apart same))
          | inr apart ↦ others_in_full other of_set apart (λ full. out (λ again. full.live))
        ])
        none

    only_slot_out : (other : ℕ) → other < slots_of old_table → ¬ IsInFull devices new_table other (after other) → other ≡ slot
    only_slot_out other of_set out = elim (cases_eq other slot) [
      | inl same ↦ same
      | inr apart ↦ absurd (others_in_full other of_set apart
          (λ full. out record { live = live_at other of_set apart full.live; in_sync = in_sync_then other of_set apart }))
    ]

    known_at : (other : ℕ) → IsKnown devices new_table other (after other)
    known_at other = elim (cases_eq other slot) [
      | inl same ↦ subst (λ (k : ℕ). IsKnown devices new_table k (after k)) (sym same) around.known
      | inr apart ↦ known_then X before around.holds other (after other) (around.each other apart)
    ]

    -- the image is what it has to be, by the new table, where its rows are
    pub holds_by_rows : HasRows devices new_table X (IsLiveJournal devices new_table after) after → AreJournalsInStep devices new_table after
        → HoldsIn devices new_table X after
    holds_by_rows rows in_step = record {
      chosen = around.chosen;
      one_out = λ first second in_set in_set' out out'.
          only_slot_out first (omega (arith, in_set, same_slots)) out ∙ sym (only_slot_out second (omega (arith, in_set', same_slots)) out');
      none_higher = λ other. (known_at other).no_higher;
      one_content = λ other. (known_at other).as_new;
      sound = rows.sound;
      listed = rows.listed;
      in_step = in_step;
    }

    module _ (out : ¬ IsLive devices new_table slot (after slot)) where
      apart_after : (other : ℕ) → IsLive devices new_table other (after other) → other ≢ slot
      apart_after other live same = out (subst (λ (k : ℕ). IsLive devices new_table k (after k)) same live)

      -- where all other slots were live, both images have the same after the superblocks
      same_where_live : ((other : ℕ) → other < slots_of old_table → other ≢ slot → IsLive devices old_table other (before other))
          → AreSameBeyond devices old_table new_table before after
      same_where_live all = record {
        same_id = steps.step.same_id;
        same_geometry = steps.step.same_geometry;
        live = λ other live. live_at other (live_of_set devices old_table other (before other) live) (apart_before other live) live;
        live_back = λ other live. all other (of_set_after other live) (apart_after other live);
        trusted = λ row member trusted.
            let of_set = live_of_set devices old_table member (before member) trusted.live in
            let apart = apart_before member trusted.live in
            record {
              live = live_at member of_set apart trusted.live;
              rebuilt = λ is. absurd (in_sync_not_rebuilding (sym (in_sync_then member of_set apart) ∙ is));
            };
        trusted_back = λ row member trusted.
            let of_set = of_set_after member trusted.live in
            let apart = apart_after member trusted.live in
            record {
              live = all member of_set apart;
              rebuilt = λ is. absurd (in_sync_not_rebuilding (sym (steps.step.others_in_sync member of_set apart) ∙ is));
            };
        agree = λ other live. agree_before new_table last sectors other (before other) (after other) (around.each other (apart_before other live));
      }

      -- so it is not false that they have the same
      pub not_false_same : ¬ ¬ AreSameBeyond devices old_table new_table before after
      not_false_same none = not_false_live (λ all. none (same_where_live all))

      -- the image is what it has to be, by the new table, where what is in the slot is not live
      pub holds_then : HoldsIn devices new_table X after
      holds_then = holds_by_rows
          (rows_stay_beyond devices old_table new_table before after X not_false_same record { sound = around.holds.sound; listed = around.holds.listed })
          (steps_stay_beyond spellings devices old_table new_table before after not_false_same around.holds.in_step)
