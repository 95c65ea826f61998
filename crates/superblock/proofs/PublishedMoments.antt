-- At a moment of a publish the images of a case choose the old table, or all of them the new one.
use Rattle.std.proofs.Common.{◌≡◌, ◌≢◌, ◌⊎◌, inl, inr, ℕ, ◌+◌, ◌%◌, ◌<◌, ◌≤◌, Bool, true, false, List, [], length, length-set, Option, Some, None, refl, sym}
use Rattle.std.proofs.Common.{◌∙◌, ap, subst, arith}
use Rattle.std.specs.Prelude.{slice_set}
use Rattle.std.proofs.lemmas.Bool.{cases_eq, cases_lt}
use Rattle.std.proofs.lemmas.List.Elements.{Contains-append_left}
use Rattle.std.proofs.lemmas.List.{get_or-set_other, get_or-set_same}
use Rattle.sector_model.specs.History.{Bytes, History, MayHold, MayLeave, SlotMayHold, Slots, disk_of, is_down, sector_of, seen, start_of}
use Rattle.sector_model.specs.MemoryLaw.{length-seen}
use Rattle.sector_model.specs.Readable.{readable}
use Rattle.sector_model.proofs.Readable.{readable_left}
use Rattle.sector_model.proofs.Steps.{is_there, may_hold_seen}
use Rattle.layout_map.specs.declared.geometry.Geometry.{Geometry}
use Rattle.layout_map.specs.declared.sizes.TheConstants.{SUPERBLOCK_PLACES}
use Rattle.superblock.specs.declared.table.Superblock.{Superblock}
use Rattle.superblock.specs.declared.table.Table.{Table}
use Rattle.superblock.specs.Cases.{Lost, MayStand, with_slot}
use Rattle.superblock.specs.Counted.{Content, Counts, IsChosen}
use Rattle.superblock.specs.Losses.{AllChoose, IsLostAt, OthersAreUp}
use Rattle.superblock.specs.NextTables.{slots_of}
use Rattle.superblock.specs.Publishing.{IsLastToSee, IsSafeAt, LacksIt, MayPublish, StandsAt, first_slots, last_slots, place_of}
use Rattle.superblock.proofs.PublishSteps.{GetsIt, IsInPublish, IsNewThere}
use Rattle.superblock.proofs.PublishedChoice.{IsNewIn, IsOldIn, choose_new, counts_within, find_first, with_here, with_left, with_same, with_there, with_twice}
use Rattle.superblock.proofs.PublishedSlots.{lost_gets, other_first}
use Rattle.superblock.proofs.Spelled.{one_superblock}

-- a moment of a publish at which one slot is lost, and no other slot of the set is down
pub record IsMoment (devices : ℕ) (before table : Table) (last : Option ℕ) (lost : Lost) (sectors : ℕ → Bytes) (old h : History) : Type 0 where
  pub publish : IsInPublish table last sectors old h
  pub may : MayPublish devices before table last lost old
  pub stands : (slot : ℕ) → GetsIt table last slot → StandsAt table slot (sectors slot)
  pub in_set : (slot : ℕ) → GetsIt table last slot → slot < slots_of before
  pub lost_in : lost.slot < slots_of before
  pub up : OthersAreUp (slots_of before) h lost.slot
  pub sees : LacksIt table last sectors old → IsLastToSee table last sectors h

no_content : {disk : List Bytes} → None ≡ Some disk → ⊥
no_content is = cc

differ : true ≡ false → ⊥
differ is = cc

same_some : (a b : ℕ) → Some a ≡ Some b → a ≡ b
same_some a b both = cc

module _ (devices : ℕ) (before table : Table) (last : Option ℕ) (lost : Lost) (sectors : ℕ → Bytes) (old h : History)
    (m : IsMoment devices before table last lost sectors old h) where
  abbrev place : ℕ
  place = place_of table

  -- the table's superblock stands in its place of a slot
  abbrev HasNew : ℕ → Content → Type 0
  HasNew d content = IsNewThere table last sectors d (place_of table) (sector_of (disk_of content) (place_of table))

  up_before : OthersAreUp (slots_of before) old lost.slot
  up_before other below apart = by_state (is_down old other) refl
    where
      by_state : (b : Bool) → is_down old other ≡ b → b ≡ false
      by_state true is = absurd (differ (sym (m.publish.stays_down other is) ∙ m.up other below apart))
      by_state false is = refl

  lost_old : IsLostAt (slots_of before) (Some lost) old (Some lost)
  lost_old = (m.lost_in, refl, up_before)

  -- all images from before the publish choose the old table
  chosen_old : (image : Slots) → MayLeave old image → AllChoose devices before record { image = image; lost = Some lost }
  chosen_old image left = m.may.chosen (Some lost) image lost_old left

  as_many : slots_of table ≡ slots_of before
  as_many = ap (λ (g : Geometry). g.members + 2) m.may.not_older.same_geometry

  -- the bank has all slots of the set, since the old table is chosen
  of_bank : slots_of table ≤ devices
  of_bank =
      let chosen = (chosen_old (readable old) (readable_left old)).whole in
      omega (arith, as_many, chosen.counted.has_slots, ap slots_of chosen.carried)

  as_old_id : (d : ℕ) (content : Content) (at : ℕ) (s : Superblock) → Counts table.id devices d content at s → Counts before.id devices d content at s
  as_old_id d content at s counts = subst (λ (id : List ℕ). Counts id devices d content at s) m.may.not_older.same_id counts

  -- what a crash might have left in one sector before, in a whole image
  put_there : (d at : ℕ) (value : Bytes) → start_of old d ≢ None → at < length (seen old d) → MayHold old d at value
      → SlotMayHold old d (Some (slice_set (seen old d) at value))
  put_there d at value there within may = (
    there,
    length-set (seen old d) at value ∙ length-seen old d,
    λ a. elim (cases_eq a at) [
      | inl same ↦
          let is : sector_of (slice_set (seen old d) at value) a ≡ value = ap (sector_of (slice_set (seen old d) at value)) same
          ∙ get_or-set_same (seen old d) at value [] within in
          subst (MayHold old d a) (sym is) (subst (λ (k : ℕ). MayHold old d k value) (sym same) may)
      | inr other ↦ subst (MayHold old d a) (sym (get_or-set_other (seen old d) at a value [] other)) (may_hold_seen old d a there)
    ],
  )

  -- a superblock that a crash might have left before is not newer than the old table
  old_bound : (d at : ℕ) (s : Superblock) (disk : List Bytes) → SlotMayHold h d (Some disk) → MayHold old d at (sector_of disk at)
      → Counts table.id devices d (Some disk) at s → s.table.generation ≤ before.generation
  old_bound d at s disk held may counts =
      let start = m.publish.start d in
      let there : start_of old d ≢ None = λ none. held.0 (start ∙ none) in
      let within : at < length (seen old d) = omega (
        arith,
        counts_within table.id devices d (Some disk) at s counts,
        held.1,
        ap (λ (c : Content). length (disk_of c)) start,
        length-seen old d,
      ) in
      let content = Some (slice_set (seen old d) at (sector_of disk at)) in
      let image = with_slot (readable old) d content in
      let left = with_left old (readable old) d content (λ k _. readable_left old k) (put_there d at (sector_of disk at) there within may) in
      let counts' : Counts before.id devices d content at s = record {
        stands = get_or-set_same (seen old d) at (sector_of disk at) [] within ∙ counts.stands;
        of_set = counts.of_set ∙ m.may.not_older.same_id;
        own_place = counts.own_place;
        own_slot = counts.own_slot;
        has_slots = counts.has_slots;
      } in
      (chosen_old image left).whole.greatest d at s (subst (λ (c : Content). Counts before.id devices d c at s) (sym (with_here (readable old) d content))
      counts')

  -- the new superblock is the table's
  new_carries : (d at : ℕ) (s : Superblock) (content : Content) → IsNewThere table last sectors d at (sector_of (disk_of content) at)
      → Counts table.id devices d content at s → s.table ≡ table
  new_carries d at s content new counts =
      let stands = m.stands d new.gets in
      ap (λ (t : Superblock). t.table) (one_superblock s stands.superblock (sym counts.stands ∙ new.is ∙ stands.spelled)) ∙ stands.carries

  -- it counts
  new_counts : (d : ℕ) (content : Content) (new : HasNew d content) → Counts table.id devices d content (place_of table) (m.stands d new.gets).superblock
  new_counts d content new =
      let stands = m.stands d new.gets in
      record {
        stands = new.is ∙ stands.spelled;
        of_set = ap (λ (t : Table). t.id) stands.carries;
        own_place = ap (λ (t : Table). t.generation % SUPERBLOCK_PLACES) stands.carries;
        own_slot = stands.own_slot;
        has_slots = omega (arith, of_bank, ap (λ (t : Table). t.geometry.members) stands.carries);
      }

  generation_of : (s : Superblock) → s.table ≡ table → s.table.generation ≡ before.generation + 1
  generation_of s carries = ap (λ (t : Table). t.generation) carries ∙ m.may.generation

  -- and a crash could not have left it before
  not_before : (d : ℕ) (content : Content) → SlotMayHold h d content → HasNew d content
      → MayHold old d (place_of table) (sector_of (disk_of content) (place_of table)) → ⊥
  not_before d None held new may = absurd (omega (arith, counts_within table.id devices d None place (m.stands d new.gets).superblock (new_counts d None new)))
  not_before d (Some disk) held new may =
      let stands = m.stands d new.gets in
      omega (arith, old_bound d place stands.superblock disk held may (new_counts d (Some disk) new), generation_of stands.superblock stands.carries)

  bounded : (d : ℕ) (disk : List Bytes) → SlotMayHold h d (Some disk) → (at : ℕ) (s : Superblock) → Counts table.id devices d (Some disk) at s
      → s.table.generation ≤ table.generation
  bounded d disk held at s counts = elim (m.publish.holds d at (sector_of disk at) (held.2 at)) [
    | inl was ↦ omega (arith, old_bound d at s disk held was counts, m.may.generation)
    | inr new ↦ omega (arith, generation_of s (new_carries d at s (Some disk) new counts), m.may.generation)
  ]

  content_either : (d : ℕ) (content : Content) → SlotMayHold h d content → IsOldIn devices table d content ⊎ IsNewIn devices table d content
  content_either d None held = inl record { older = λ at s counts. absurd (omega (arith, counts_within table.id devices d None at s counts)) }
  content_either d (Some disk) held = elim (m.publish.holds d place (sector_of disk place) (held.2 place)) [
    | inl was ↦ inl record {
      older = λ at s counts. elim (m.publish.holds d at (sector_of disk at) (held.2 at)) [
        | inl was' ↦ omega (arith, old_bound d at s disk held was' counts, m.may.generation)
        | inr new ↦ omega (
          arith,
          old_bound d at s disk held (subst (λ (k : ℕ). MayHold old d k (sector_of disk k)) (sym new.in_place) was) counts,
          m.may.generation,
        )
      ];
    }
    | inr new ↦ inr record {
      superblock = (m.stands d new.gets).superblock;
      counted = new_counts d (Some disk) new;
      carried = (m.stands d new.gets).carries;
      most = bounded d disk held;
    }
  ]

  new_in : (d : ℕ) (content : Content) → SlotMayHold h d content → HasNew d content → IsNewIn devices table d content
  new_in d content held new = elim (content_either d content held) [
    | inl is ↦
        let stands = m.stands d new.gets in
        absurd (omega (arith, is.older place stands.superblock (new_counts d content new), ap (λ (t : Table). t.generation) stands.carries))
    | inr is ↦ is
  ]

  -- what is left in a slot: nothing, what a crash might have left before, or the new superblock
  slot_either : (d : ℕ) (content : Content) → SlotMayHold h d content → (content ≡ None) ⊎ (SlotMayHold old d content ⊎ HasNew d content)
  slot_either d None held = inl refl
  slot_either d (Some disk) held = elim (m.publish.holds d place (sector_of disk place) (held.2 place)) [
    | inr new ↦ inr (inr new)
    | inl was ↦
        let start = m.publish.start d in
        inr (inl (
          λ none. held.0 (start ∙ none),
          held.1 ∙ ap (λ (c : Content). length (disk_of c)) start,
          λ a. elim (m.publish.holds d a (sector_of disk a) (held.2 a)) [
            | inl is ↦ is
            | inr new ↦ subst (λ (k : ℕ). MayHold old d k (sector_of disk k)) (sym new.in_place) was
          ],
        ))
  ]

  no_device : (d : ℕ) (content : Content) → content ≡ None → SlotMayHold h d content → is_down h d ≡ true
  no_device d content none held = subst (SlotMayHold h d) none held

  -- in a slot that is not the lost one
  other_either : (d : ℕ) (content : Content) → SlotMayHold h d content → d ≢ lost.slot → SlotMayHold old d content ⊎ HasNew d content
  other_either d content held apart = elim (slot_either d content held) [
    | inl none ↦ elim (cases_lt d (slots_of before)) [
      | inl below ↦ absurd (differ (sym (no_device d content none held) ∙ m.up d below apart))
      | inr past ↦
          let same = m.publish.others_stay d (λ gets. absurd (omega (arith, past, m.in_set d gets))) in
          inl (subst (SlotMayHold old d) (sym none) (sym same ∙ no_device d content none held))
    ]
    | inr either ↦ either
  ]

  seen_new : (content : Content) → SlotMayHold h lost.slot content → HasNew lost.slot content → MayHold h lost.slot (place_of table) (sectors lost.slot)
  seen_new None held new = absurd (omega (
    arith,
    counts_within table.id devices lost.slot None place (m.stands lost.slot new.gets).superblock
        (new_counts lost.slot None new),
  ))
  seen_new (Some disk) held new = subst (MayHold h lost.slot (place_of table)) new.is (held.2 (place_of table))

  -- if a crash leaves the new superblock in the lost slot, the slot is the last one, and didn't have it before
  lost_lacks : (content : Content) → SlotMayHold h lost.slot content → HasNew lost.slot content → (last ≡ Some lost.slot) × LacksIt table last sectors old
  lost_lacks content held new =
      let is_last = lost_gets table last lost.slot m.may.lost_last new.gets in (
        is_last,
        λ slot is may.
            let same : slot ≡ lost.slot = same_some slot lost.slot (sym is ∙ is_last) in
            not_before lost.slot content held new
            (subst (MayHold old lost.slot (place_of table)) (sym new.is) (subst (λ (k : ℕ). MayHold old k (place_of table) (sectors k)) same may)),
      )

  -- a slot that is up, safe with the new superblock, isn't as it might have been before
  safe_new : (d : ℕ) → GetsIt table last d → (content : Content) (disk : List Bytes) → content ≡ Some disk → IsSafeAt h d (place_of table) (sectors d)
      → SlotMayHold h d content → SlotMayHold old d content → ⊥
  safe_new d gets None disk is safe held was = no_content is
  safe_new d gets (Some other) disk is safe held was =
      not_before d (Some other) held record { gets = gets; in_place = refl; is = safe (sector_of other (place_of table)) (held.2 (place_of table)) }
      (was.2 (place_of table))

  module _ (image : Slots) (left : MayLeave h image) where
    -- where no other slot has the new superblock, the lost one doesn't
    lost_without : ((d : ℕ) → d ≢ lost.slot → SlotMayHold old d (image d)) → HasNew lost.slot (image lost.slot) → ⊥
    lost_without olds new =
        let lacks = lost_lacks (image lost.slot) (left lost.slot) new in
        let other = other_first table last lost.slot lacks.0 in
        let gets = Contains-append_left (first_slots table last) (last_slots last) other.0 other.2 in
        let there = is_there h other.0 image (m.up other.0 (m.in_set other.0 gets) other.1) left in
        safe_new other.0 gets (image other.0) there.0 there.1
        (m.sees lacks.1 lost.slot other.0 lacks.0 (seen_new (image lost.slot) (left lost.slot) new) other.2) (left other.0) (olds other.0 other.1)

    -- and the images choose the old table
    choose_old : ((d : ℕ) → d ≢ lost.slot → SlotMayHold old d (image d)) → AllChoose devices before record { image = image; lost = Some lost }
    choose_old olds = elim (slot_either lost.slot (image lost.slot) (left lost.slot)) [
      | inl none ↦
          let stood = readable old lost.slot in
          let whole = with_slot image lost.slot stood in
          let chosen = chosen_old whole (with_left old image lost.slot stood olds (readable_left old lost.slot)) in
          let as_is : with_slot whole lost.slot None ≡ image = with_twice image lost.slot stood None ∙ with_same image lost.slot None none in
          record {
            whole = subst (λ (i : Slots). IsChosen before.id devices i before) as_is (chosen.weakened lost.slot None refl (inl refl));
            weakened = λ slot content same stand.
                let back : with_slot whole slot content ≡ with_slot image slot content =
                ap (λ (k : ℕ). with_slot whole k content) same ∙ with_twice image lost.slot stood content
                ∙ ap (λ (k : ℕ). with_slot image k content) (sym same) in
                subst (λ (i : Slots). IsChosen before.id devices i before) back (chosen.weakened slot content same stand);
          }
      | inr (inl was) ↦ chosen_old image (λ d. elim (cases_eq d lost.slot) [
        | inl same ↦ subst (λ (k : ℕ). SlotMayHold old k (image k)) (sym same) was
        | inr apart ↦ olds d apart
      ])
      | inr (inr new) ↦ absurd (lost_without olds new)
    ]

    -- what stands in the lost slot instead is older
    instead_older : (content : Content) → MayStand devices table (Some lost) lost.slot content → IsOldIn devices table lost.slot content
    instead_older content (inl none) = record {
      older = λ at s counts. absurd (omega (
        arith,
        counts_within table.id devices lost.slot content at s counts,
        ap (λ (c : Content). length (disk_of c)) none,
      ));
    }
    instead_older content (inr (inl stale)) = record { older = λ at s counts. stale.older at s counts }
    instead_older content (inr (inr away)) = record {
      older = λ at s counts.
          let chosen = (chosen_old (readable old) (readable_left old)).weakened lost.slot content refl (inr (inr away)) in
          let counts' = subst (λ (c : Content). Counts before.id devices lost.slot c at s) (sym (with_here (readable old) lost.slot content))
          (as_old_id lost.slot content at s counts) in
          omega (arith, chosen.greatest lost.slot at s counts', m.may.generation);
    }

    -- where another slot has the new superblock, they choose the new one
    choose_with : (k : ℕ) → k ≢ lost.slot → HasNew k (image k) → AllChoose devices table record { image = image; lost = Some lost }
    choose_with k apart new =
        let new_k = new_in k (image k) (left k) new in
        record {
          whole = choose_new devices table image (λ d. content_either d (image d) (left d)) k new_k;
          weakened = λ slot content same stand.
              let older = instead_older content (subst (λ (n : ℕ). MayStand devices table (Some lost) n content) same stand) in
              let mixed = with_slot image lost.slot content in
              let each : (d : ℕ) → IsOldIn devices table d (mixed d) ⊎ IsNewIn devices table d (mixed d) = λ d. elim (cases_eq d lost.slot) [
                | inl here ↦ inl (subst (λ (n : ℕ). IsOldIn devices table n (with_slot image lost.slot content n)) (sym here)
                    (subst (IsOldIn devices table lost.slot) (sym (with_here image lost.slot content)) older))
                | inr there ↦ subst (λ (c : Content). IsOldIn devices table d c ⊎ IsNewIn devices table d c) (sym (with_there image lost.slot content d there))
                    (content_either d (image d) (left d))
              ] in
              subst (λ (n : ℕ). IsChosen table.id devices (with_slot image n content) table) (sym same)
              (choose_new devices table (with_slot image lost.slot content) each k
              (subst (IsNewIn devices table k) (sym (with_there image lost.slot content k apart)) new_k));
        }

    abbrev IsWithout : ℕ → Type 0
    IsWithout d = d ≢ lost.slot → SlotMayHold old d (image d)

    abbrev HasIt : ℕ → Type 0
    HasIt d = (d ≢ lost.slot) × HasNew d (image d)

    without_or_has : (d : ℕ) → IsWithout d ⊎ HasIt d
    without_or_has d = elim (cases_eq d lost.slot) [
      | inl same ↦ inl (λ apart. absurd (apart same))
      | inr apart ↦ elim (other_either d (image d) (left d) apart) [
        | inl was ↦ inl (λ _. was)
        | inr new ↦ inr (apart, new)
      ]
    ]

    all_without : ((d : ℕ) → d < slots_of before → IsWithout d) → (d : ℕ) → d ≢ lost.slot → SlotMayHold old d (image d)
    all_without without d apart = elim (cases_lt d (slots_of before)) [
      | inl below ↦ without d below apart
      | inr past ↦ elim (other_either d (image d) (left d) apart) [
        | inl was ↦ was
        | inr new ↦ absurd (omega (arith, past, m.in_set d new.gets))
      ]
    ]

    -- all images of a case choose the one table or the other
    pub choose_either : AllChoose devices before record { image = image; lost = Some lost } ⊎ AllChoose devices table record { image = image; lost = Some lost }
    choose_either = elim (find_first IsWithout HasIt (slots_of before) (λ d _. without_or_has d)) [
      | inl without ↦ inl (choose_old (all_without without))
      | inr found ↦ inr (choose_with found.at found.is.0 found.is.1)
    ]
