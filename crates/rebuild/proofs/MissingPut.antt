-- While the device of a slot that the table calls missing is written, every case of a settled array keeps holding, and
-- the table stays chosen.
use Rattle.std.proofs.Common.{◌≡◌, ◌≢◌, ◌⊎◌, inl, inr, ℕ, ◌<◌, ◌≤◌, true, false, List, [], ◌∷◌, length}
use Rattle.std.proofs.Common.{replicate, Option, Some, None, refl, sym, ◌∙◌, ap, subst, arith}
use Rattle.std.specs.Prelude.{IfSome, IsSome}
use Rattle.std.proofs.Math.Path.{fun_ext}
use Rattle.std.proofs.lemmas.Bool.{cases_eq, cases_lt}
use Rattle.sector_model.specs.History.{Bytes, History, MayHold, MayLeave, SlotMayHold, Slots, disk_of, is_down}
use Rattle.sector_model.specs.History.{sector_of, seen, start_of}
use Rattle.sector_model.specs.Readable.{readable}
use Rattle.sector_model.proofs.Readable.{readable_left, readable_up}
use Rattle.sector_model.proofs.Steps.{up_seen}
use Rattle.layout_map.specs.declared.sizes.TheConstants.{SUPERBLOCK_PLACES}
use Rattle.superblock.specs.declared.state.State.TheVariants.{Missing}
use Rattle.superblock.specs.declared.table.Table.{Table}
use Rattle.superblock.specs.declared.table.Superblock.{Superblock}
use Rattle.superblock.specs.Cases.{Lost, MayBeOut, with_slot}
use Rattle.superblock.specs.Counted.{Content, Counts, IsChosen, IsInFull, IsLive}
use Rattle.superblock.specs.Losses.{InEachImage, IsLostAt, OthersAreUp}
use Rattle.superblock.specs.NextTables.{slots_of}
use Rattle.superblock.specs.Tables.{state_at}
use Rattle.superblock.proofs.LaterTables.{not_older_same}
use Rattle.array_io.specs.Laws.Core.{IsKnown}
use Rattle.array_io.specs.Believed.Holds.{Holds, HoldsIn}
use Rattle.array_io.specs.Believed.Moments.{HoldsNow}
use Rattle.array_io.specs.Believed.Settled.{HaveNumber, IsLostSlot, IsSettled}
use Rattle.array_io.proofs.Rest.AtRestImages.{known_in}
use Rattle.array_io.proofs.Images.CaseAfter.{HoldsFrom, IsOfCase, StepsCase, StoodThere, is_after, of_case_each, of_case_holds}
use Rattle.array_io.proofs.Images.CaseAfter.{of_case_with, stands_same, steps_case, stood, stood_before, was_before, was_put}
use Rattle.array_io.proofs.Images.Choice.{chosen_with}
use Rattle.array_io.proofs.Images.Counting.{none_counts}
use Rattle.array_io.proofs.Laws.Fresh.{in_sync_not_missing}
use Rattle.array_io.proofs.Images.LossBefore.{HoldsBy, WasLost, holds_by_table}
use Rattle.array_io.proofs.Images.Put.{put_elsewhere, put_same, put_there}
use Rattle.array_io.proofs.Images.SameBeyond.{AgreeBeyond, AreSameBeyond, agree_same, numbers_beyond, rows_beyond}
use Rattle.array_io.proofs.Images.SameBeyond.{steps_beyond}
use Rattle.array_io.proofs.Laws.SettledFresh.{zeros_are}
use Rattle.array_io.proofs.Images.Spellings.{Spellings}

-- A moment while the device of a missing slot is written since `old`: a crash leaves in each sector what it might have
-- left before, or on that device zeros in the two places of superblocks, and anything after them; the devices are the
-- same, and of the others reads give the same; what was down is down, and after the set's slots no device failed.
pub record IsMissingPut (slots slot : ℕ) (old h : History) : Type 0 where
  pub holds : (device at : ℕ) (value : Bytes) → MayHold h device at value
      → MayHold old device at value ⊎ ((device ≡ slot) × (at < SUPERBLOCK_PLACES → value ≡ replicate 512 0))
  pub start : (device : ℕ) → start_of h device ≡ start_of old device
  pub stays_down : (device : ℕ) → is_down old device ≡ true → is_down h device ≡ true
  pub others_seen : (device : ℕ) → device ≢ slot → seen h device ≡ seen old device
  pub beyond_stay : (device : ℕ) → slots ≤ device → is_down h device ≡ is_down old device

differ : true ≡ false → ⊥
differ is = cc

-- the slot that a settled array's table calls missing is the lost one
pub lost_is_missing : (table : Table) (lost : Option Lost) (slot : ℕ) → IsLostSlot table lost → slot < slots_of table
    → state_at table.states slot ≡ Missing
    → (one : Lost) × (lost ≡ Some one) × (one.slot ≡ slot)
lost_is_missing table lost slot is of_set missing =
    by_lost lost (is.out slot record { of_set = of_set; out = λ in_sync. in_sync_not_missing (sym in_sync ∙ missing) })
  where
    by_lost : (lost : Option Lost) → IfSome lost (λ one. one.slot ≡ slot) × IsSome lost
        → (one : Lost) × (lost ≡ Some one) × (one.slot ≡ slot)
    by_lost None (same, some) = absurd (cc)
    by_lost (Some one) (same, some) = (one, refl, same)

-- an array that is settled with this slot missing, whose device is up
pub record RestsWithout (devices : ℕ) (table : Table) (number slot : ℕ) (old : History) (one : Lost)
    (V : List Bytes) : Type 0 where
  pub settled : IsSettled devices table number old (Some one) V
  pub of_set : slot < slots_of table
  pub missing : state_at table.states slot ≡ Missing
  pub is_lost : one.slot ≡ slot
  pub up : is_down old slot ≡ false

-- What is put where: elsewhere what stood there, and on the slot's device what counts counted there before.
pub record IsPutMissing (devices : ℕ) (table : Table) (slot d : ℕ) (before after : Content) : Type 0 where
  pub elsewhere : d ≢ slot → before ≡ after
  pub here : d ≡ slot → (place : ℕ) (superblock : Superblock) → Counts table.id devices d after place superblock
      → Counts table.id devices d before place superblock

put_none : (devices : ℕ) (table : Table) (slot d : ℕ) (content : Content) → IsPutMissing devices table slot d content content
put_none devices table slot d content =
    record { elsewhere = λ apart. refl; here = λ same place superblock counts. counts }

-- an image that was put so from one that holds, with anything in the slot or nothing

module _ (spellings : Spellings) (devices : ℕ) (table : Table) (slot : ℕ)
    (missing : state_at table.states slot ≡ Missing) (X : List (List Bytes)) (before image : Slots)
    (holds : HoldsIn devices table X before) (without : HoldsIn devices table X (with_slot before slot None))
    (put : (d : ℕ) → IsPutMissing devices table slot d (before d) (image d)) where
  all_known : (d : ℕ) → IsKnown devices table d (image d)
  all_known d =
      let known = known_in devices table X before holds d in
      elim (cases_eq d slot) [
        | inr apart ↦ subst (IsKnown devices table d) ((put d).elsewhere apart) known
        | inl same ↦ record {
          no_newer = λ place superblock counts.
              known.no_newer place superblock ((put d).here same place superblock counts);
          as_new = λ place superblock counts. known.as_new place superblock ((put d).here same place superblock counts);
          no_higher = λ place superblock counts.
              known.no_higher place superblock ((put d).here same place superblock counts);
        }
      ]

  -- the slot is live in neither image
  live_apart : (d : ℕ) (content : Content) → IsLive devices table d content → d ≢ slot
  live_apart d content live same = live.not_missing (ap (state_at table.states) same ∙ missing)

  live_there : (d : ℕ) → IsLive devices table d (before d) → before d ≡ image d
  live_there d live = (put d).elsewhere (live_apart d (before d) live)

  live_back : (d : ℕ) → IsLive devices table d (image d) → image d ≡ before d
  live_back d live = sym ((put d).elsewhere (live_apart d (image d) live))

  same_live : AreSameBeyond devices table table before image
  same_live = record {
    same_id = refl;
    same_geometry = refl;
    live = λ d live. subst (IsLive devices table d) (live_there d live) live;
    live_back = λ d live. subst (IsLive devices table d) (live_back d live) live;
    trusted = λ row member trusted. record {
      live = subst (IsLive devices table member) (live_there member trusted.live) trusted.live;
      rebuilt = trusted.rebuilt;
    };
    trusted_back = λ row member trusted. record {
      live = subst (IsLive devices table member) (live_back member trusted.live) trusted.live;
      rebuilt = trusted.rebuilt;
    };
    agree = λ d live. subst (AgreeBeyond (before d)) (live_there d live) (agree_same (before d));
  }

  in_full_there : (d : ℕ) → IsInFull devices table d (before d) → IsInFull devices table d (image d)
  in_full_there d full =
      record { live = subst (IsLive devices table d) (live_there d full.live) full.live; in_sync = full.in_sync }

  -- with something else in the slot they are one image
  same_with : (content : Content) → with_slot before slot content ≡ with_slot image slot content
  same_with content = fun_ext (λ d. elim (cases_eq d slot) [
    | inl same ↦ there before d same ∙ sym (there image d same)
    | inr apart ↦ put_elsewhere before slot content d apart ∙ (put d).elsewhere apart
        ∙ sym (put_elsewhere image slot content d apart)
  ])
    where
      there : (slots : Slots) (d : ℕ) → d ≡ slot → with_slot slots slot content d ≡ content
      there slots d same = ap (with_slot slots slot content) same ∙ put_there slots slot content

  -- the table is chosen with whatever the slot has
  chosen_now : IsChosen table.id devices image table
  chosen_now = subst (λ (i : Slots). IsChosen table.id devices i table) (put_same image slot)
      (chosen_with spellings devices table image slot (image slot)
      (subst (λ (i : Slots). IsChosen table.id devices i table) (same_with None) without.chosen) (all_known slot))

  holds_put : HoldsIn devices table X image
  holds_put =
      let rows = rows_beyond devices table table before image X same_live
      (record { sound = holds.sound; listed = holds.listed }) in
      record {
        chosen = chosen_now;
        one_out = λ first second first_in second_in first_out second_out.
            holds.one_out first second first_in second_in (λ full. first_out (in_full_there first full))
            (λ full. second_out (in_full_there second full));
        none_higher = λ d. (all_known d).no_higher;
        one_content = λ d. (all_known d).as_new;
        sound = rows.sound;
        listed = rows.listed;
        in_step = steps_beyond devices table table before image same_live holds.in_step;
      }

  number_put : (number : ℕ) → HaveNumber devices table number before → HaveNumber devices table number image
  number_put number = numbers_beyond devices table table before image number same_live

-- one case that a crash leaves at such a moment

module _ (spellings : Spellings) (devices : ℕ) (table : Table) (number slot : ℕ) (old : History) (one : Lost)
    (V : List Bytes)
    (rests : RestsWithout devices table number slot old one V) (h : History)
    (is : IsMissingPut (slots_of table) slot old h)
    (others_up : OthersAreUp (slots_of table) h slot) (image : Slots) (may : MayLeave h image) where
  abbrev X : List (List Bytes)
  X = V ∷ []

  abbrev Puts : ℕ → Content → Content → Type 0
  Puts = IsPutMissing devices table slot

  begins : HoldsFrom devices table table (Some one) X old
  begins = record {
    same_id = refl;
    holds = λ after before lost_at left.
        subst (λ (l : Option Lost). Holds table devices (record { image = before; lost = l }) X) (sym lost_at.1)
        (rests.settled.holds before left);
    chosen = λ after before lost_at left. rests.settled.chosen.whole before left;
  }

  lost_at : IsLostAt (slots_of table) (Some one) h (Some one)
  lost_at = (
    subst (λ (k : ℕ). k < slots_of table) (sym rests.is_lost) rests.of_set,
    refl,
    subst (OthersAreUp (slots_of table) h) (sym rests.is_lost) others_up,
  )

  slot_back : (d : ℕ) → d ≢ slot → (content : Content) → SlotMayHold h d content → SlotMayHold old d content
  slot_back d apart None down = elim (cases_lt d (slots_of table)) [
    | inl within ↦ absurd (differ (sym down ∙ others_up d within apart))
    | inr beyond ↦ sym (is.beyond_stay d beyond) ∙ down
  ]
  slot_back d apart (Some disk) held = (
    λ none. held.0 (is.start d ∙ none),
    held.1 ∙ ap (λ (c : Content). length (disk_of c)) (is.start d),
    λ a. elim (is.holds d a (sector_of disk a) (held.2 a)) [
      | inl was ↦ was
      | inr put ↦ absurd (apart put.0)
    ],
  )

  -- a superblock that counts on the slot's device counted there before
  counts_back : (content : Content) → SlotMayHold h slot content → (place : ℕ) (superblock : Superblock)
      → Counts table.id devices slot content place superblock
      → Counts table.id devices slot (readable old slot) place superblock
  counts_back None held place superblock counts =
      absurd (none_counts spellings table.id devices slot place superblock counts)
  counts_back (Some disk) held place superblock counts =
      subst (λ (c : Content). Counts table.id devices slot c place superblock) (sym (readable_up old slot rests.up))
      record {
        stands = sym same ∙ counts.stands;
        of_set = counts.of_set;
        own_place = counts.own_place;
        own_slot = counts.own_slot;
        has_slots = counts.has_slots;
      }
    where
      same : sector_of disk place ≡ sector_of (seen old slot) place
      same = elim (is.holds slot place (sector_of disk place) (held.2 place)) [
        | inl was ↦ rests.settled.nothing_pending slot place (sector_of disk place)
            (sector_of (seen old slot) place) rests.up was (up_seen old slot place rests.up)
        | inr put ↦ absurd (spellings.zero_no_superblock superblock
            (sym zeros_are ∙ sym (put.1 (omega (arith, counts.own_place))) ∙ counts.stands))
      ]

  stood_there : (d : ℕ) → StoodThere Puts old d (image d)
  stood_there d = elim (cases_eq d slot) [
    | inr apart ↦ record {
      before = image d;
      may = slot_back d apart (image d) (may d);
      put = put_none devices table slot d (image d);
    }
    | inl same ↦ subst (λ (k : ℕ). StoodThere Puts old k (image k)) (sym same) record {
      before = readable old slot;
      may = readable_left old slot;
      put = record { elsewhere = λ apart. absurd (apart refl); here = λ here. counts_back (image slot) (may slot) };
    }
  ]

  -- the slot that may be out is this one, and each image of before holds with nothing in it
  module _ (was : WasLost (slots_of table) (Some one) old h (Some one)) (before : Slots)
      (by : HoldsBy table devices table X (record { image = before; lost = was.before })) (there : Slots)
      (of_old : IsOfCase devices table (record { image = before; lost = was.before }) there) where
    only : (out : ℕ) → MayBeOut was.before out → out ≡ slot
    only out may_be = subst (λ (l : Option Lost). MayBeOut l out) was.was.1 may_be ∙ rests.is_lost

    without : HoldsIn devices table X (with_slot there slot None)
    without = subst (HoldsIn devices table X)
        (sym (of_case_with devices table (record { image = before; lost = was.before }) slot only there of_old None))
        (by.weakened slot None
        (subst (λ (l : Option Lost). MayBeOut l slot) (sym was.was.1) (sym rests.is_lost)) (inl refl))

    holds_there : HoldsIn devices table X there
    holds_there = of_case_holds table devices table X (record { image = before; lost = was.before }) by there of_old

  steps : StepsCase devices table table table (Some one) X X Puts old h (Some one) image
  steps = record {
    not_older = not_older_same table;
    each = λ d. inl (stood_there d);
    stands = λ was d content out.
        stands_same devices table Puts (put_none devices table slot) (slots_of table) (Some one) old h (Some one) was
        d content;
    one_counts = λ was before stood there. absurd (there (ap (state_at table.states) rests.is_lost ∙ rests.missing));
    keeps = λ was before stood there now of_old of_new put.
        holds_put spellings devices table slot rests.missing X there now
        (holds_there was before stood.by there of_old) (without was before stood.by there of_old) put;
  }

  -- the case holds by the table
  pub missing_by : HoldsBy table devices table X (record { image = image; lost = Some one })
  missing_by = steps_case devices table table table (Some one) X X Puts old h begins is.stays_down (Some one) image
      lost_at steps

  -- and each image of it has the number
  pub missing_number : (weak : Slots)
      → IsOfCase devices table (record { image = image; lost = Some one }) weak → HaveNumber devices table number weak
  missing_number weak of_new =
      let was = was_before devices table table table (Some one) X X Puts old h begins is.stays_down (Some one) image
      lost_at steps in
      let before = stood devices table table table (Some one) X X Puts old h begins is.stays_down (Some one) image
      lost_at steps in
      let held = stood_before devices table table table (Some one) X X Puts old h begins is.stays_down (Some one) image
      lost_at steps in
      let put = was_put devices table table Puts (record { image = before; lost = was.before })
      (record { image = image; lost = Some one })
      (is_after devices table table table (Some one) X X Puts old h begins is.stays_down (Some one) image lost_at steps)
      weak of_new in
      number_put spellings devices table slot rests.missing X put.before weak
      (holds_there was before held.by put.before put.of_old) (without was before held.by put.before put.of_old)
      put.put number
      (of_case_each devices table old was.before (HaveNumber devices table number)
      (subst (λ (l : Option Lost). InEachImage devices table old l (HaveNumber devices table number)) (sym was.was.1)
      rests.settled.numbered) before held.left put.before put.of_old)

-- at each such moment every case holds
pub missing_holds : Spellings
    → (devices : ℕ) (table : Table) (number slot : ℕ) (old : History) (one : Lost) (V : List Bytes)
    → RestsWithout devices table number slot old one V → (h : History) → IsMissingPut (slots_of table) slot old h
    → HoldsNow table devices (Some one) (V ∷ []) h
missing_holds spellings devices table number slot old one V rests h is after image (of_set, same, up) may =
    subst (λ (l : Option Lost). Holds table devices (record { image = image; lost = l }) (V ∷ [])) (sym same)
    (holds_by_table table devices table (V ∷ []) (record { image = image; lost = Some one })
    (missing_by spellings devices table number slot old one V rests h is
    (subst (λ (k : ℕ). OthersAreUp (slots_of table) h k) rests.is_lost up) image may))
