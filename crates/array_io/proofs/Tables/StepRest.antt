-- A settled array's next table, which differs in the lost slot alone, is published with that slot's device last: every case keeps holding, and the array
-- is settled by the next table then.
use Rattle.std.proofs.Common.{◌≡◌, ◌≢◌, ◌⊎◌, inl, inr, ℕ, ◌+◌, ◌<◌, ◌≤◌, true, false, List, [], ◌∷◌, length, Option, Some, None, refl, sym, ◌∙◌, ap, subst}
use Rattle.std.proofs.Common.{arith}
use Rattle.std.proofs.lemmas.Bool.{cases_eq}
use Rattle.layout_map.specs.declared.geometry.Geometry.{Geometry}
use Rattle.sector_model.specs.History.{Bytes, History, IsSector, MayLeave, Slots, disk_of, is_down, sector_of}
use Rattle.sector_model.specs.Readable.{readable}
use Rattle.layout_map.specs.declared.sizes.TheConstants.{FIRST_ROW}
use Rattle.superblock.specs.declared.state.State.TheVariants.{Missing}
use Rattle.superblock.specs.declared.table.Table.{Table}
use Rattle.superblock.specs.Cases.{HasWholeSectors, Lost}
use Rattle.superblock.specs.Counted.{Content, IsChosen, IsLive, least_sectors}
use Rattle.superblock.specs.Losses.{OthersAreUp}
use Rattle.superblock.specs.NextTables.{slots_of}
use Rattle.superblock.specs.Publishing.{StandsAt, place_of}
use Rattle.superblock.specs.SlotSteps.{IsStepAt}
use Rattle.superblock.specs.Tables.{state_at}
use Rattle.superblock.proofs.PublishSteps.{GetsIt, IsInPublish}
use Rattle.stripe_journal.specs.declared.seal.Seal.{Seal}
use Rattle.stripe_journal.specs.LastEntry.{IsLastSealed, sector_in}
use Rattle.degraded.specs.RowValue.{AreSound, logical_list, value}
use Rattle.array_io.specs.Laws.Core.{AreJournalsInStep, HasRows}
use Rattle.array_io.specs.Steps.EntryAtRest.{HasEntryAtRest}
use Rattle.array_io.specs.Believed.Holds.{AllStale, HaveEqualBodies, IsLiveJournal, row_count}
use Rattle.array_io.specs.Believed.Settled.{IsSettled, rows_by}
use Rattle.array_io.proofs.Rest.AtRestImages.{LeavesSectors, content_left, slot_whole}
use Rattle.array_io.proofs.Rest.AtRestRows.{IsRestImage, has_rows_at_rest}
use Rattle.array_io.proofs.Laws.Beginning.{live_is_up}
use Rattle.array_io.proofs.Images.Counting.{none_is_out}
use Rattle.array_io.proofs.Rest.EntryAtRest.{in_step_at_rest}
use Rattle.array_io.proofs.Laws.Fresh.{in_sync_not_missing}
use Rattle.array_io.proofs.Tables.PublishImages.{IsBefore, WasBefore, agree_before, slot_before, slot_or_none}
use Rattle.array_io.proofs.Images.Rows.{sound_alike}
use Rattle.array_io.proofs.Images.SameBeyond.{AgreeBeyond, same_count, sealed_beyond, sector_beyond}
use Rattle.array_io.proofs.Rest.SettledEntry.{entry_of_settled}
use Rattle.array_io.proofs.Images.Spellings.{Spellings}
use Rattle.array_io.proofs.Tables.StepHolds.{StepsSlot, gets_of_set, live_then, same_slots, spelled_there}
use Rattle.array_io.proofs.Tables.StepRows.{MoreCounts, counts_in, rows_stay, values_stay}
use Rattle.array_io.proofs.Tables.Stepping.{SlotSays}

-- From what such a table is published: the array is settled, the slot's device is up, and says by the next table what the others do. A newly joined device is
-- live once it has the superblock, and one that stays is live; of a member each own sector that begins to count is its value; a journal
-- has the last entry; and no device that is away comes back.
pub record TakesFrom (devices number : ℕ) (table next : Table) (slot : ℕ) (one : Lost) (V : List Bytes) (sectors : ℕ → Bytes) (mid : History) : Type 0 where
  pub settled : IsSettled devices table number mid (Some one) V
  pub leaves : LeavesSectors mid
  pub own : one.slot ≡ slot
  pub steps : StepsSlot devices table next slot (Some slot) sectors
  pub there : state_at next.states slot ≢ Missing
  pub up : is_down mid slot ≡ false
  pub long : least_sectors table.geometry slot ≤ length (disk_of (readable mid slot))
  pub more : (row : ℕ) → counts_in table slot row ≡ true → counts_in next slot row ≡ true
  pub rows : (row : ℕ) → slot < table.geometry.members → row < row_count table → counts_in next slot row ≡ true
      → sector_of (disk_of (readable mid slot)) (FIRST_ROW + row) ≡ value (rows_by table (readable mid)) row slot
  pub live : (image : Slots) → IsBefore next (Some slot) sectors slot (readable mid slot) (image slot) → IsChosen next.id devices image next
      → IsLive devices next slot (image slot) ⊎ ¬ IsLive devices next slot (image slot)
  pub away : AllStale devices next slot one.away
  pub sealed : table.geometry.members ≤ slot → (journal : ℕ) (last : Option Seal) → IsLiveJournal devices table (readable mid) journal
      → IsLastSealed table.id table.geometry (readable mid journal) last → IsLastSealed table.id table.geometry (readable mid slot) last
  pub bodies : table.geometry.members ≤ slot → (journal : ℕ) (seal : Seal) → IsLiveJournal devices table (readable mid) journal
      → IsLastSealed table.id table.geometry (readable mid journal) (Some seal)
      → HaveEqualBodies table.geometry.members (readable mid journal) (readable mid slot) seal

-- a sector that may have got the new superblock is whole
whole_before : Spellings → (new : Table) (last : Option ℕ) (sectors : ℕ → Bytes) (slot : ℕ) (before after : Content)
    → (GetsIt new last slot → StandsAt new slot (sectors slot))
    → IsBefore new last sectors slot before after → ((a : ℕ) → a < length (disk_of before) → IsSector (sector_of (disk_of before) a))
    → (a : ℕ) → a < length (disk_of after) → IsSector (sector_of (disk_of after) a)
whole_before spellings new last sectors slot before after spelled (inl same) whole a below =
    subst (λ (c : Content). IsSector (sector_of (disk_of c) a)) same (whole a (subst (λ (c : Content). a < length (disk_of c)) (sym same) below))
whole_before spellings new last sectors slot before after spelled (inr replaced) whole a below = elim (cases_eq a (place_of new)) [
  | inl is ↦ ap (λ (p : ℕ). length (sector_of (disk_of after) p)) is ∙ ap length (replaced.stands ∙ (spelled replaced.gets).spelled)
      ∙ spellings.superblock_long (spelled replaced.gets).superblock
  | inr apart ↦ ap length (replaced.others a apart) ∙ whole a (omega (arith, below, replaced.long))
]

module _ (spellings : Spellings) (devices number : ℕ) (table next : Table) (slot : ℕ) (one : Lost) (V : List Bytes) (sectors : ℕ → Bytes) (mid : History)
    (from : TakesFrom devices number table next slot one V sectors mid) where
  step : IsStepAt table next slot
  step = from.steps.step

  entry : HasEntryAtRest devices table number (readable mid)
  entry = entry_of_settled spellings devices table number mid (Some one) V from.settled from.leaves

  -- the other slots of the set are live, and their devices up
  live_before : (other : ℕ) → other < slots_of table → other ≢ slot → IsLive devices table other (readable mid other)
  live_before other of_set apart = from.settled.there other of_set (λ missing. in_sync_not_missing (sym (step.others_in_sync other of_set apart) ∙ missing))

  pub up_at_first : (other : ℕ) → other < slots_of table → other ≢ slot → is_down mid other ≡ false
  up_at_first other of_set apart = live_is_up spellings devices table mid other (live_before other of_set apart)

  -- An image with some of the new superblocks that chooses the next table.
  pub record IsAfter (image : Slots) : Type 0 where
    pub each : (other : ℕ) → other < slots_of table → other ≢ slot → IsBefore next (Some slot) sectors other (readable mid other) (image other)
    pub here : IsBefore next (Some slot) sectors slot (readable mid slot) (image slot)
    pub chosen : IsChosen next.id devices image next
    pub whole : HasWholeSectors image

  -- the other slots are live by the next table
  pub live_next : (image : Slots) → IsAfter image → (other : ℕ) → other < slots_of table → other ≢ slot → IsLive devices next other (image other)
  live_next image is other of_set apart =
      live_then spellings devices table next slot (Some slot) sectors from.steps other (readable mid other) (image other) of_set apart
      (is.each other of_set apart)
      (λ place superblock counts. is.chosen.greatest other place superblock counts) (live_before other of_set apart)

  agree : (image : Slots) → IsAfter image → (other : ℕ) → other < slots_of table → AgreeBeyond (readable mid other) (image other)
  agree image is other of_set = elim (cases_eq other slot) [
    | inl same ↦ subst (λ (k : ℕ). AgreeBeyond (readable mid k) (image k)) (sym same)
        (agree_before next (Some slot) sectors slot (readable mid slot) (image slot) is.here)
    | inr apart ↦ agree_before next (Some slot) sectors other (readable mid other) (image other) (is.each other of_set apart)
  ]

  counts_more : (image : Slots) → IsAfter image → MoreCounts table next slot (readable mid) image
  counts_more image is = record {
    step = step;
    beyond = λ member within. agree image is member (omega (arith, within));
    more = from.more;
    own = from.rows;
  }

  of_table : (journal : ℕ) → journal < slots_of next → journal < slots_of table
  of_table journal below = omega (arith, below, same_slots spellings devices table next slot (Some slot) sectors from.steps)

  members_same : next.geometry.members ≡ table.geometry.members
  members_same = ap (λ (g : Geometry). g.members) step.same_geometry

  -- the last seal of a journal, by the one table and by the next
  sealed_next : (content : Content) (last : Option Seal) → IsLastSealed table.id table.geometry content last → IsLastSealed next.id next.geometry content last
  sealed_next content last sealed =
      subst (λ (g : Geometry). IsLastSealed next.id g content last) (sym step.same_geometry)
      (subst (λ (i : List ℕ). IsLastSealed i table.geometry content last) (sym step.same_id) sealed)

  -- the other journal, which is live by the old table
  record OtherJournal : Type 0 where
    journal : ℕ
    apart : journal ≢ slot
    is_live : IsLiveJournal devices table (readable mid) journal

  other_journal : OtherJournal
  other_journal = elim (cases_eq slot table.geometry.members) [
    | inl is ↦ record {
      journal = table.geometry.members + 1;
      apart = λ same. omega (arith, same, is);
      is_live = record {
        beyond_members = omega arith;
        of_set = omega arith;
        live =
            live_before (table.geometry.members + 1) (omega arith) (λ same. omega (arith, same, is));
      };
    }
    | inr differs ↦ record {
      journal = table.geometry.members;
      apart = λ same. differs (sym same);
      is_live = record {
        beyond_members = omega arith;
        of_set = omega arith;
        live =
            live_before table.geometry.members (omega arith) (λ same. differs (sym same));
      };
    }
  ]

  module _ (image : Slots) (is : IsAfter image) where
    -- another journal that is live now was live before
    was_live : (journal : ℕ) → IsLiveJournal devices next image journal → journal ≢ slot → IsLiveJournal devices table (readable mid) journal
    was_live journal on apart =
        let of_set = of_table journal on.of_set in
        record { beyond_members = omega (arith, on.beyond_members, members_same); of_set = of_set; live = live_before journal of_set apart }

    sealed_after : (journal : ℕ) → IsLiveJournal devices next image journal → IsLastSealed next.id next.geometry (image journal) entry.last
    sealed_after journal on = sealed_next (image journal) entry.last
        (sealed_beyond table.id table.geometry (readable mid journal) (image journal) (agree image is journal (of_table journal on.of_set)) entry.last
        (elim (cases_eq journal slot) [
          | inr apart ↦ entry.sealed journal (was_live journal on apart)
          | inl same ↦
              let other = other_journal in
              subst (λ (k : ℕ). IsLastSealed table.id table.geometry (readable mid k) entry.last) (sym same)
              (from.sealed (omega (arith, on.beyond_members, members_same, same)) other.journal entry.last other.is_live
              (entry.sealed other.journal other.is_live))
        ]))

    body_before : (journal : ℕ) → IsLiveJournal devices next image journal → (seal : Seal) → entry.last ≡ Some seal → (row member : ℕ) (sector : Bytes)
        → row < row_count table → member < table.geometry.members → sector_in table.geometry.members (readable mid journal) seal row member ≡ Some sector
        → sector ≡ value (rows_by table (readable mid)) row member
    body_before journal on seal last row member sector below within has = elim (cases_eq journal slot) [
      | inr apart ↦ entry.bodies journal seal (was_live journal on apart) last row member sector below within has
      | inl same ↦
          let other = other_journal in
          let beyond : table.geometry.members ≤ slot = omega (arith, on.beyond_members, members_same, same) in
          let sealed = subst (λ (l : Option Seal). IsLastSealed table.id table.geometry (readable mid other.journal) l) last
          (entry.sealed other.journal other.is_live) in
          entry.bodies other.journal seal other.is_live last row member sector below within
          (from.bodies beyond other.journal seal other.is_live sealed row member within
          ∙ ap (λ (k : ℕ). sector_in table.geometry.members (readable mid k) seal row member) (sym same) ∙ has)
    ]

    -- the last entry says what the members hold by the next table
    pub entry_after : HasEntryAtRest devices next number image
    entry_after = record {
      last = entry.last;
      numbered = entry.numbered;
      sealed = sealed_after;
      bodies = λ journal seal on last row member sector below within has.
          let below_before : row < row_count table = subst (λ (n : ℕ). row < n) (same_count table next step.same_geometry) below in
          let within_before : member < table.geometry.members = omega (arith, within, members_same) in
          body_before journal on seal last row member sector below_before within_before
          (sector_beyond table.geometry.members (readable mid journal) (image journal) (agree image is journal (of_table journal on.of_set)) seal row member
          ∙ ap (λ (n : ℕ). sector_in n (image journal) seal row member) (sym members_same) ∙ has)
          ∙ sym (values_stay table next slot (readable mid) image (counts_more image is) row member below_before within_before);
    }

    sound_after : AreSound (rows_by next image) (row_count next)
    sound_after = subst (λ (n : ℕ). AreSound (rows_by next image) n) (sym (same_count table next step.same_geometry))
        (sound_alike table (rows_by table (readable mid)) (rows_by next image) refl members_same
        (rows_stay table next slot (readable mid) image (counts_more image is)) from.settled.sound)

    listed_after : logical_list next.geometry (rows_by next image) ≡ V
    listed_after = ap (λ (g : Geometry). logical_list g (rows_by next image)) step.same_geometry
        ∙ sym (rows_stay table next slot (readable mid) image (counts_more image is)).lists ∙ from.settled.listed

    module _ (live : IsLive devices next slot (image slot)) where
      pub rest_after : IsRestImage devices next number image image
      rest_after = record {
        live = λ other of_set not_missing. elim (cases_eq other slot) [
          | inl same ↦ subst (λ (k : ℕ). IsLive devices next k (image k)) (sym same) live
          | inr apart ↦ live_next image is other (of_table other of_set) apart
        ];
        same = λ other of_set not_missing. refl;
        entry = entry_after;
        whole = is.whole;
      }

      -- so the image's rows are as they have to be
      pub rows_after : HasRows devices next (V ∷ []) (IsLiveJournal devices next image) image × AreJournalsInStep devices next image
      rows_after = (
        subst (λ (l : List Bytes). HasRows devices next (l ∷ []) (IsLiveJournal devices next image) image) listed_after
            (has_rows_at_rest spellings devices next number image image rest_after sound_after (IsLiveJournal devices next image) (λ journal on. on)),
        in_step_at_rest spellings devices next number image entry_after,
      )

  -- at a moment of the publish
  module _ (h : History) (publish : IsInPublish next (Some slot) sectors mid h) (up : OthersAreUp (slots_of table) h slot) (image : Slots)
      (may : MayLeave h image)
      (chosen : IsChosen next.id devices image next) where
    spelled : (other : ℕ) → GetsIt next (Some slot) other → StandsAt next other (sectors other)
    spelled = spelled_there spellings devices table next slot (Some slot) sectors from.steps

    was : (other : ℕ) → other ≢ slot → WasBefore next (Some slot) sectors mid other (image other)
    was other apart = slot_before spellings next (Some slot) sectors mid h publish other (spelled other)
        (λ gets. up other (gets_of_set spellings devices table next slot (Some slot) sectors from.steps other gets) apart) (image other) (may other)

    whole_was : (other : ℕ) → WasBefore next (Some slot) sectors mid other (image other) → (a : ℕ) → a < length (disk_of (image other))
        → IsSector (sector_of (disk_of (image other)) a)
    whole_was other was = whole_before spellings next (Some slot) sectors other was.before (image other) (spelled other) was.is
        (λ a below. slot_whole mid other a was.before from.leaves was.may below)

    read : (other : ℕ) → is_down mid other ≡ false → WasBefore next (Some slot) sectors mid other (image other)
        → IsBefore next (Some slot) sectors other (readable mid other) (image other)
    read other there was = subst (λ (c : Content). IsBefore next (Some slot) sectors other c (image other))
        (content_left mid other was.before from.settled.nothing_pending was.may there) was.is

    -- the other slots are live
    pub live_there : (other : ℕ) → other < slots_of table → other ≢ slot → IsLive devices next other (image other)
    live_there other of_set apart =
        live_then spellings devices table next slot (Some slot) sectors from.steps other (readable mid other) (image other) of_set apart
        (read other (up_at_first other of_set apart) (was other apart)) (λ place superblock counts. chosen.greatest other place superblock counts)
        (live_before other of_set apart)

    -- such an image, unless the slot is empty
    pub after_or_none : (image slot ≡ None) ⊎ IsAfter image
    after_or_none = elim (slot_or_none spellings next (Some slot) sectors mid h publish slot (spelled slot) (λ gets. from.up) (image slot) (may slot)) [
      | inl none ↦ inl none
      | inr its ↦ inr record {
        each = λ other of_set apart. read other (up_at_first other of_set apart) (was other apart);
        here = read slot from.up its;
        chosen = chosen;
        whole = λ other a below. elim (cases_eq other slot) [
          | inl same ↦ subst (λ (k : ℕ). IsSector (sector_of (disk_of (image k)) a)) (sym same)
              (whole_was slot its a (subst (λ (k : ℕ). a < length (disk_of (image k))) same below))
          | inr apart ↦ whole_was other (was other apart) a below
        ];
      }
    ]

    pub says : SlotSays devices next (V ∷ []) slot image
    says = elim after_or_none [
      | inl none ↦ inl (λ live. none_is_out spellings devices next slot (subst (IsLive devices next slot) none live))
      | inr is ↦ elim (from.live image is.here chosen) [
        | inl live ↦ inr (rows_after image is live)
        | inr out ↦ inl out
      ]
    ]
