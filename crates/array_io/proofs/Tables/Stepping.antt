-- While a table is published that differs from the old one in one slot, the lost one, every case keeps holding: each is an instance of CaseAfter, with the
-- old table, and then nothing was put, or with the new one.
use Rattle.std.proofs.Common.{◌≡◌, ◌≢◌, ◌⊎◌, inl, inr, ℕ, ◌<◌, Bool, true, false, List, Option, Some, None, refl, sym, ◌∙◌, ap, subst, arith}
use Rattle.std.proofs.lemmas.Bool.{cases_eq}
use Rattle.sector_model.specs.History.{Bytes, History, MayLeave, Slots, SlotMayHold, disk_of, is_down, sector_of}
use Rattle.sector_model.specs.Moments.{Throughout}
use Rattle.sector_model.proofs.Steps.{is_there, throughout_more}
use Rattle.superblock.specs.declared.state.State.TheVariants.{Missing}
use Rattle.superblock.specs.declared.table.Table.{Table}
use Rattle.superblock.specs.Cases.{IsAway, Lost, MayBeOut, MayStand, with_slot}
use Rattle.superblock.specs.Counted.{Content, IsChosen, IsLive, IsStale}
use Rattle.superblock.specs.Losses.{AllChoose, InEachImage, IsLostAt, OthersAreUp}
use Rattle.superblock.specs.NextTables.{slots_of}
use Rattle.superblock.specs.Publishing.{ChooseEither, IsSafeAt, StandsAt, place_of}
use Rattle.superblock.specs.Tables.{state_at}
use Rattle.superblock.proofs.PublishSteps.{GetsIt, IsInPublish}
use Rattle.array_io.specs.Laws.Core.{AreJournalsInStep, HasRows, IsKnown}
use Rattle.array_io.specs.Believed.Holds.{AllStale, HoldsIn, IsLiveJournal}
use Rattle.array_io.specs.Believed.Moments.{HoldsNow, HoldsThroughout}
use Rattle.array_io.specs.Believed.Settled.{NoneComesBack}
use Rattle.array_io.proofs.Images.CaseAfter.{IsOfCase, NothingPut, StepsCase, StoodBefore, StoodFor, StoodThere, none_back_counts, of_case_chosen}
use Rattle.array_io.proofs.Images.CaseAfter.{of_case_holds, of_case_with, stands_not_live, steps_hold, unchanged}
use Rattle.array_io.proofs.Laws.FromCore.{stale_known}
use Rattle.array_io.proofs.Images.LossBefore.{HasGone, WasLost}
use Rattle.array_io.proofs.Tables.PublishImages.{IsBefore, WasBefore, new_counts, slot_before, slot_or_none}
use Rattle.array_io.proofs.Images.Put.{put_elsewhere, put_there}
use Rattle.array_io.proofs.Images.Spellings.{Spellings}
use Rattle.array_io.proofs.Tables.StepHolds.{AreAround, StepsSlot, gets_of_set, holds_by_rows, holds_then, known_then, of_old, room_then, spelled_there}
use Rattle.array_io.proofs.Tables.StepHolds.{step_not_older}

-- what stands in the slot is not live by the new table, or the image's rows are as they have to be with it
abbrev pub SlotSays : (devices : ℕ) (table : Table) (X : List (List Bytes)) (slot : ℕ) → Slots → Type 0
SlotSays devices table X slot image = ¬ IsLive devices table slot (image slot)
    ⊎ (HasRows devices table X (IsLiveJournal devices table image) image × AreJournalsInStep devices table image)

-- A moment `h` of a publish, begun at `old`: a crash leaves what it might have left before, or new superblocks; the images of each case choose one of
-- the two tables; where they choose the new one, what stands in the slot says what the others do; and no device that is away comes back by it.
pub record IsStepping (devices : ℕ) (old_table new_table : Table) (slot : ℕ) (last : Option ℕ) (lost : Lost) (X : List (List Bytes)) (sectors : ℕ → Bytes)
    (old h : History) : Type 0 where
  pub steps : StepsSlot devices old_table new_table slot last sectors
  pub own : lost.slot ≡ slot
  pub up : last ≡ Some slot → is_down old slot ≡ false
  pub in_publish : IsInPublish new_table last sectors old h
  pub either : ChooseEither devices old_table new_table lost h
  pub says : (image : Slots) → MayLeave h image → OthersAreUp (slots_of old_table) h slot → IsChosen new_table.id devices image new_table
      → SlotSays devices new_table X slot image
  pub away : state_at new_table.states slot ≢ Missing → AllStale devices new_table slot lost.away

module _ (spellings : Spellings) (devices : ℕ) (old_table new_table : Table) (slot : ℕ) (last : Option ℕ) (lost : Lost) (X : List (List Bytes))
    (sectors : ℕ → Bytes)
    (old h : History) (is : IsStepping devices old_table new_table slot last lost X sectors old h) where
  steps : StepsSlot devices old_table new_table slot last sectors
  steps = is.steps

  -- where a new superblock stands, the old table is not chosen
  pub not_old : (image : Slots) → IsChosen old_table.id devices image old_table → (other : ℕ) → GetsIt new_table last other
      → sector_of (disk_of (image other)) (place_of new_table) ≡ sectors other → ⊥
  not_old image chosen other gets there =
      let stands = spelled_there spellings devices old_table new_table slot last sectors steps other gets in
      let least = chosen.greatest other (place_of new_table) stands.superblock
      (of_old spellings devices old_table new_table slot last sectors steps other (place_of new_table) (image other) stands.superblock
      (new_counts devices new_table other (sectors other) (image other) (room_then spellings devices old_table new_table slot last sectors steps) stands there))
      in
      let same : stands.superblock.table.generation ≡ new_table.generation = ap (λ (t : Table). t.generation) stands.carries in
      omega (arith, least, same, is.steps.step.generation)

  -- no device that is away comes back by the new table
  none_back : NoneComesBack devices new_table (Some lost)
  none_back = subst (λ (k : ℕ). state_at new_table.states k ≢ Missing → AllStale devices new_table k lost.away) (sym is.own) is.away

  -- what is put where: in the slot something stale may stand besides
  abbrev pub StepPuts : ℕ → Content → Content → Type 0
  StepPuts other before after = IsBefore new_table last sectors other before after ⊎ ((other ≡ slot) × IsStale devices new_table slot after)

  -- a case by the old table in which nothing was put, or by the new one
  abbrev pub Steps : Option Lost → Slots → Type 0
  Steps after image = StepsCase devices old_table old_table old_table (Some lost) X X NothingPut old h after image
      ⊎ StepsCase devices old_table old_table new_table (Some lost) X X StepPuts old h after image

  -- the devices of the other slots are up, and so they were
  module _ (up : OthersAreUp (slots_of old_table) h slot) (image : Slots) (may : MayLeave h image) where
    spelled : (other : ℕ) → GetsIt new_table last other → StandsAt new_table other (sectors other)
    spelled = spelled_there spellings devices old_table new_table slot last sectors steps

    was : (other : ℕ) → other ≢ slot → WasBefore new_table last sectors old other (image other)
    was other apart = slot_before spellings new_table last sectors old h is.in_publish other (spelled other)
        (λ gets. up other (gets_of_set spellings devices old_table new_table slot last sectors steps other gets) apart) (image other) (may other)

    -- the slot is empty, and was, or its device is gone
    none_or_gone : image slot ≡ None → SlotMayHold old slot (image slot) ⊎ HasGone old_table old h slot (image slot)
    none_or_gone none = by_state (is_down old slot) refl
      where
        by_state : (b : Bool) → is_down old slot ≡ b → SlotMayHold old slot (image slot) ⊎ HasGone old_table old h slot (image slot)
        by_state true down = inl (subst (SlotMayHold old slot) (sym none) down)
        by_state false there = inr record { of_set = is.steps.step.of_set; up = there; down = subst (SlotMayHold h slot) none (may slot); none = none }

    slot_was : (SlotMayHold old slot (image slot) ⊎ HasGone old_table old h slot (image slot)) ⊎ WasBefore new_table last sectors old slot (image slot)
    slot_was = elim (slot_or_none spellings new_table last sectors old h is.in_publish slot (spelled slot) (λ gets. is.up (is.steps.gets_last gets))
        (image slot) (may slot)) [
          | inl none ↦ inl (none_or_gone none)
          | inr one ↦ inr one
        ]

    -- where the old table is chosen, no new superblock stands there
    left_by : IsChosen old_table.id devices image old_table → (other : ℕ) → WasBefore new_table last sectors old other (image other)
        → SlotMayHold old other (image other)
    left_by chosen_old other one = elim one.is [
      | inl same ↦ subst (SlotMayHold old other) same one.may
      | inr replaced ↦ absurd (not_old image chosen_old other replaced.gets replaced.stands)
    ]

    -- so it is a case of before
    by_old : IsChosen old_table.id devices image old_table → StepsCase devices old_table old_table old_table (Some lost) X X NothingPut old h (Some lost) image
    by_old chosen_old = unchanged devices old_table old_table (Some lost) X old h (Some lost) image (λ other. elim (cases_eq other slot) [
      | inl same ↦ subst (λ (k : ℕ). SlotMayHold old k (image k) ⊎ HasGone old_table old h k (image k)) (sym same) (elim slot_was [
        | inl left ↦ left
        | inr one ↦ inl (left_by chosen_old slot one)
      ])
      | inr apart ↦ inl (left_by chosen_old other (was other apart))
    ])

    abbrev Stood : ℕ → Type 0
    Stood other = StoodThere StepPuts old other (image other) ⊎ HasGone old_table old h other (image other)

    stood_there : (other : ℕ) → WasBefore new_table last sectors old other (image other) → StoodThere StepPuts old other (image other)
    stood_there other one = record { before = one.before; may = one.may; put = inl one.is }

    each : (other : ℕ) → Stood other
    each other = elim (cases_eq other slot) [
      | inl same ↦ subst Stood (sym same) (elim slot_was [
        | inl left ↦ elim left [
          | inl may_hold ↦ inl record { before = image slot; may = may_hold; put = inl (inl refl) }
          | inr gone ↦ inr gone
        ]
        | inr one ↦ inl (stood_there slot one)
      ])
      | inr apart ↦ inl (stood_there other (was other apart))
    ]

    -- an image that was put from one by the old table, where the new one is chosen
    module _ (all : AllChoose devices new_table record { image = image; lost = Some lost })
        (was_lost : WasLost (slots_of old_table) (Some lost) old h (Some lost)) (before : Slots)
        (stood : StoodBefore devices old_table old_table X StepPuts old h image was_lost.before before) (there now : Slots)
        (of_old : IsOfCase devices old_table (record { image = before; lost = was_lost.before }) there)
        (of_new : IsOfCase devices new_table (record { image = image; lost = Some lost }) now)
        (put : (other : ℕ) → StepPuts other (there other) (now other)) where
      only : (out : ℕ) → MayBeOut was_lost.before out → out ≡ slot
      only out may_be = subst (λ (l : Option Lost). MayBeOut l out) was_lost.was.1 may_be ∙ is.own

      -- without what the slot had it holds
      without : HoldsIn devices old_table X (with_slot there slot None)
      without = subst (HoldsIn devices old_table X)
          (sym (of_case_with devices old_table (record { image = before; lost = was_lost.before }) slot only there of_old None))
          (stood.by.weakened slot None (subst (λ (l : Option Lost). MayBeOut l slot) (sym was_lost.was.1) (sym is.own)) (inl refl))

      -- what the slot has is known to the new table
      known : IsKnown devices new_table slot (now slot)
      known = elim (put slot) [
        | inl is_before ↦ known_then spellings devices old_table new_table slot last sectors steps X there
            (of_case_holds old_table devices old_table X (record { image = before; lost = was_lost.before }) stood.by there of_old) slot (now slot) is_before
        | inr stale ↦ stale_known devices new_table slot (now slot) stale.1
      ]

      around : AreAround spellings devices old_table new_table slot last sectors steps X (with_slot there slot None) now
      around = record {
        holds = without;
        empty = put_there there slot None;
        each = λ other apart. subst (λ (c : Content). IsBefore new_table last sectors other c (now other)) (sym (put_elsewhere there slot None other apart))
            (elim (put other) [
              | inl is_before ↦ is_before
              | inr stale ↦ absurd (apart stale.0)
            ]);
        chosen = of_case_chosen devices new_table (record { image = image; lost = Some lost }) all now of_new;
        known = known;
      }

      says : IsOfCase devices new_table (record { image = image; lost = Some lost }) now → SlotSays devices new_table X slot now
      says (inl same) = subst (SlotSays devices new_table X slot) (sym same) (is.says image may up all.whole)
      says (inr weak) = inl (λ live. stands_not_live spellings devices new_table (Some lost) none_back weak.slot weak.content weak.out weak.stands
          (subst (IsLive devices new_table weak.slot) (ap (λ (i : Slots). i weak.slot) weak.is ∙ put_there image weak.slot weak.content)
          (subst (λ (k : ℕ). IsLive devices new_table k (now k)) (sym (weak.out ∙ is.own)) live)))

      holds_after : HoldsIn devices new_table X now
      holds_after = elim (says of_new) [
        | inl out ↦ holds_then spellings devices old_table new_table slot last sectors steps X (with_slot there slot None) now around out
        | inr rows ↦ holds_by_rows spellings devices old_table new_table slot last sectors steps X (with_slot there slot None) now around rows.0 rows.1
      ]

    -- where the new table is chosen, the case is one with some of the new superblocks
    by_new : AllChoose devices new_table record { image = image; lost = Some lost }
        → StepsCase devices old_table old_table new_table (Some lost) X X StepPuts old h (Some lost) image
    by_new all = record {
      not_older = step_not_older old_table new_table slot is.steps.step;
      each = each;
      stands = stands;
      one_counts = λ was_lost before stood. none_back_counts devices new_table image (Some lost) none_back;
      keeps = holds_after all;
    }
      where
        stands : (was_lost : WasLost (slots_of old_table) (Some lost) old h (Some lost)) (other : ℕ) (content : Content) → other ≡ lost.slot
            → MayStand devices new_table (Some lost) other content → StoodFor devices old_table StepPuts was_lost.before other content
        stands was_lost other content out (inl none) = record { before = content; stands = inl none; put = inl (inl refl) }
        stands was_lost other content out (inr (inl stale)) =
            record { before = None; stands = inl refl; put = inr (out ∙ is.own, subst (λ (k : ℕ). IsStale devices new_table k content) (out ∙ is.own) stale) }
        stands was_lost other content out (inr (inr away)) =
            record { before = content; stands = inr (inr (subst (λ (l : List (List Bytes)). IsAway l content) was_lost.away away)); put = inl (inl refl) }

    -- the one or the other
    pub by_either : Steps (Some lost) image
    by_either = elim (is.either (Some lost) image lost_now may) [
      | inl all ↦ inl (by_old all.whole)
      | inr all ↦ inr (by_new all)
    ]
      where
        lost_now : IsLostAt (slots_of old_table) (Some lost) h (Some lost)
        lost_now = (
          subst (λ (k : ℕ). k < slots_of old_table) (sym is.own) is.steps.step.of_set,
          refl,
          λ other below apart. up other below (λ same. apart (same ∙ sym is.own)),
        )

-- where all cases held before the call, each choosing the old table, they hold at each moment of it
pub stepping_holds : Spellings → (devices : ℕ) (old_table new_table : Table) (slot : ℕ) (last : Option ℕ) (lost : Lost) (X : List (List Bytes))
    (sectors : ℕ → Bytes) (old h : History)
    → IsStepping devices old_table new_table slot last lost X sectors old h
    → InEachImage devices old_table old (Some lost) (λ image. IsChosen old_table.id devices image old_table)
    → HoldsNow old_table devices (Some lost) X old → HoldsNow old_table devices (Some lost) X h
stepping_holds spellings devices old_table new_table slot last lost X sectors old h is chosen now =
    steps_hold devices old_table old_table new_table (Some lost) X X (StepPuts spellings devices old_table new_table slot last lost X sectors old h is) old h
    (record { same_id = refl; holds = now; chosen = λ before there at left. chosen.whole there left }) is.in_publish.stays_down (λ after image lost_at may.
    subst (λ (l : Option Lost). Steps spellings devices old_table new_table slot last lost X sectors old h is l image) (sym lost_at.1)
    (by_either spellings devices old_table new_table slot last lost X sectors old h is
    (λ other below apart. lost_at.2 other below (λ here. apart (here ∙ is.own))) image may))

-- the same of a whole run
pub stepping_throughout : Spellings → (devices : ℕ) (old_table new_table : Table) (slot : ℕ) (last : Option ℕ) (lost : Lost) (X : List (List Bytes))
    (sectors : ℕ → Bytes) (old new : History)
    → Throughout (IsStepping devices old_table new_table slot last lost X sectors old) old new
    → InEachImage devices old_table old (Some lost) (λ image. IsChosen old_table.id devices image old_table)
    → HoldsNow old_table devices (Some lost) X old → HoldsThroughout old_table devices (Some lost) X old new
stepping_throughout spellings devices old_table new_table slot last lost X sectors old new moments chosen now =
    throughout_more (λ h is. stepping_holds spellings devices old_table new_table slot last lost X sectors old h is chosen now) new moments

-- Where another device that is up has the new superblock for sure, each image chooses the new table.
pub stepping_chosen : Spellings → (devices : ℕ) (old_table new_table : Table) (slot : ℕ) (last : Option ℕ) (lost : Lost) (X : List (List Bytes))
    (sectors : ℕ → Bytes) (old h : History)
    → IsStepping devices old_table new_table slot last lost X sectors old h → OthersAreUp (slots_of old_table) h slot
    → (other : ℕ) → GetsIt new_table last other → is_down h other ≡ false → IsSafeAt h other (place_of new_table) (sectors other)
    → InEachImage devices new_table h (Some lost) (λ image. IsChosen new_table.id devices image new_table)
stepping_chosen spellings devices old_table new_table slot last lost X sectors old h is up other gets there safe = record {
  whole = λ image may. (all_choose image may).whole;
  weakened = λ image at content may out stands. (all_choose image may).weakened at content out stands;
}
  where
    stands_new : (image : Slots) → MayLeave h image → sector_of (disk_of (image other)) (place_of new_table) ≡ sectors other
    stands_new image may =
        let is_disk = is_there h other image there may in
        let left = subst (SlotMayHold h other) is_disk.1 (may other) in
        ap (λ (c : Content). sector_of (disk_of c) (place_of new_table)) is_disk.1
        ∙ safe (sector_of is_disk.0 (place_of new_table)) (left.2 (place_of new_table))

    all_choose : (image : Slots) → MayLeave h image → AllChoose devices new_table record { image = image; lost = Some lost }
    all_choose image may = elim (is.either (Some lost) image
        (subst (λ (k : ℕ). k < slots_of old_table) (sym is.own) is.steps.step.of_set, refl, λ one below apart. up one below (λ same. apart (same ∙ sym is.own)))
        may) [
          | inl all ↦ absurd (not_old spellings devices old_table new_table slot last lost X sectors old h is image all.whole other gets (stands_new image may))
          | inr all ↦ all
        ]
