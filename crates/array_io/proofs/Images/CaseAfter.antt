-- Each case now holds where the one before it did: each of its images was put, slot by slot, from one that a crash might
-- have left before. Stated once, over what may be put where, and over the step of tables: the same one, or the next.
use Rattle.std.proofs.Common.{◌≡◌, ◌≢◌, ◌⊎◌, inl, inr, ℕ, ◌+◌, ◌<◌, true, List, ◌++◌, option_to_list, Option, Some, None, refl, sym, ◌∙◌, ap, subst}
use Rattle.std.proofs.Math.Path.{fun_ext}
use Rattle.std.proofs.lemmas.Bool.{cases_eq}
use Rattle.layout_map.specs.declared.geometry.Geometry.{Geometry}
use Rattle.sector_model.specs.History.{Bytes, History, MayLeave, SlotMayHold, Slots, is_down}
use Rattle.sector_model.specs.Readable.{readable}
use Rattle.sector_model.proofs.Readable.{readable_left}
use Rattle.superblock.specs.declared.table.Table.{Table}
use Rattle.superblock.specs.Cases.{Case, IsLostIn, Lost, MayBeOut, MayStand, away_of, with_slot}
use Rattle.superblock.specs.Counted.{Content, IsChosen, IsLive}
use Rattle.superblock.specs.Losses.{AllChoose, InEachImage, IsLostAt}
use Rattle.superblock.specs.NextTables.{IsNotOlder, slots_of}
use Rattle.superblock.proofs.LaterTables.{not_older_both, not_older_same}
use Rattle.array_io.specs.Believed.Holds.{AllButOneStale, AllStale, HoldsIn, OneCounts}
use Rattle.array_io.specs.Believed.Moments.{HoldsNow}
use Rattle.array_io.specs.Believed.Settled.{NoneComesBack}
use Rattle.array_io.proofs.Rest.AtRestLost.{away_is_out}
use Rattle.array_io.proofs.Laws.Begun.{one_at_most}
use Rattle.array_io.proofs.Images.Counting.{none_is_out, stale_is_out}
use Rattle.array_io.proofs.Images.LossBefore.{HasGone, HoldsBy, IsTheLost, WasLost, by_table, holds_by_table, lost_is_out, one_of_stale, one_with}
use Rattle.array_io.proofs.Images.LossBefore.{stands_before, was_lost}
use Rattle.array_io.proofs.Images.Put.{put_elsewhere, put_same, put_there, put_twice}
use Rattle.array_io.proofs.Images.Spellings.{Spellings}

-- the images of a case

-- its image with what may stand in a slot that may be out
pub record IsWeakened (devices : ℕ) (table : Table) (case : Case) (image : Slots) : Type 0 where
  pub slot : ℕ
  pub content : Content
  pub out : MayBeOut case.lost slot
  pub stands : MayStand devices table case.lost slot content
  pub is : image ≡ with_slot case.image slot content

-- its own image, or one of these
abbrev pub IsOfCase : ℕ → Table → Case → Slots → Type 0
IsOfCase devices table case image = (image ≡ case.image) ⊎ IsWeakened devices table case image

-- each of them holds where the case does
pub of_case_holds : (base : Table) (devices : ℕ) (table : Table) (X : List (List Bytes)) (case : Case)
    → HoldsBy base devices table X case → (image : Slots) → IsOfCase devices table case image
    → HoldsIn devices table X image
of_case_holds base devices table X case by image (inl same) = subst (HoldsIn devices table X) (sym same) by.whole
of_case_holds base devices table X case by image (inr weak) =
    subst (HoldsIn devices table X) (sym weak.is) (by.weakened weak.slot weak.content weak.out weak.stands)

-- and chooses what all of them choose
pub of_case_chosen : (devices : ℕ) (table : Table) (case : Case) → AllChoose devices table case
    → (image : Slots) → IsOfCase devices table case image → IsChosen table.id devices image table
of_case_chosen devices table case all image (inl same) =
    subst (λ (i : Slots). IsChosen table.id devices i table) (sym same) all.whole
of_case_chosen devices table case all image (inr weak) =
    subst (λ (i : Slots). IsChosen table.id devices i table) (sym weak.is)
    (all.weakened weak.slot weak.content weak.out weak.stands)

-- and is what each image is that a crash may leave, and each weakened one
pub of_case_each : (devices : ℕ) (table : Table) (h : History) (lost : Option Lost) (P : Slots → Type 0)
    → InEachImage devices table h lost P → (image : Slots) → MayLeave h image → (one : Slots)
    → IsOfCase devices table (record { image = image; lost = lost }) one → P one
of_case_each devices table h lost P each image may one (inl same) = subst P (sym same) (each.whole image may)
of_case_each devices table h lost P each image may one (inr weak) =
    subst P (sym weak.is) (each.weakened image weak.slot weak.content may weak.out weak.stands)

-- with something else in the lost slot each is the case's image with that in it
pub of_case_with : (devices : ℕ) (table : Table) (case : Case) (slot : ℕ)
    → ((out : ℕ) → MayBeOut case.lost out → out ≡ slot) → (image : Slots) → IsOfCase devices table case image
    → (content : Content) → with_slot image slot content ≡ with_slot case.image slot content
of_case_with devices table case slot only image (inl same) content = ap (λ (i : Slots). with_slot i slot content) same
of_case_with devices table case slot only image (inr weak) content =
    ap (λ (i : Slots). with_slot i slot content) weak.is
    ∙ ap (λ (k : ℕ). with_slot (with_slot case.image k weak.content) slot content) (only weak.slot weak.out)
    ∙ put_twice case.image slot weak.content content

-- a case after another

-- what may stand in a slot now was put for what might stand there before
pub record StoodFor (devices : ℕ) (table : Table) (Puts : ℕ → Content → Content → Type 0) (lost : Option Lost)
    (slot : ℕ) (content : Content) : Type 0 where
  pub before : Content
  pub stands : MayStand devices table lost slot before
  pub put : Puts slot before content

-- A case, by a table, after another one by the table of the same set or a later one: what stands in each slot was put
-- for what stood there, but where the slot is lost and empty; the slots that may be out might be out; what may stand in
-- them was put for what might stand there; and of the lost slot's devices one counts.
pub record IsCaseAfter (devices : ℕ) (table next : Table) (Puts : ℕ → Content → Content → Type 0)
    (old new : Case) : Type 0 where
  pub not_older : IsNotOlder table next
  pub lost_in_set : IsLostIn (slots_of next) new.lost
  pub put : (slot : ℕ) → Puts slot (old.image slot) (new.image slot)
      ⊎ (IsTheLost new.lost slot × (new.image slot ≡ None))
  pub out : (slot : ℕ) → MayBeOut new.lost slot → MayBeOut old.lost slot
  pub stands : (slot : ℕ) (content : Content) → MayBeOut new.lost slot → MayStand devices next new.lost slot content
      → StoodFor devices table Puts old.lost slot content
  pub one_counts : OneCounts devices next new new.lost

-- an image that was put from one of the case before
pub record WasPut (devices : ℕ) (table : Table) (Puts : ℕ → Content → Content → Type 0) (old : Case)
    (image : Slots) : Type 0 where
  pub before : Slots
  pub of_old : IsOfCase devices table old before
  pub put : (slot : ℕ) → Puts slot (before slot) (image slot)

-- an image with another content in one slot
put_with : (Puts : ℕ → Content → Content → Type 0) (before image : Slots) (slot : ℕ) (was now : Content)
    → Puts slot was now → ((d : ℕ) → d ≢ slot → Puts d (before d) (image d))
    → (d : ℕ) → Puts d (with_slot before slot was d) (with_slot image slot now d)
put_with Puts before image slot was now here others d = elim (cases_eq d slot) [
  | inl is ↦ pair was now (at_slot before was is) (at_slot image now is)
      (subst (λ (k : ℕ). Puts k was now) (sym is) here)
  | inr apart ↦ pair (before d) (image d) (put_elsewhere before slot was d apart)
      (put_elsewhere image slot now d apart) (others d apart)
]
  where
    at_slot : (slots : Slots) (content : Content) → d ≡ slot → with_slot slots slot content d ≡ content
    at_slot slots content is = ap (with_slot slots slot content) is ∙ put_there slots slot content

    pair : (first second : Content) → with_slot before slot was d ≡ first → with_slot image slot now d ≡ second
        → Puts d first second → Puts d (with_slot before slot was d) (with_slot image slot now d)
    pair first second stood stands put =
        subst (λ (c : Content). Puts d c (with_slot image slot now d)) (sym stood)
        (subst (λ (c : Content). Puts d first c) (sym stands) put)

module _ (devices : ℕ) (table next : Table) (Puts : ℕ → Content → Content → Type 0) (old new : Case)
    (is : IsCaseAfter devices table next Puts old new) where
  abbrev Was : Slots → Type 0
  Was = WasPut devices table Puts old

  -- with something else in a slot that may be out
  weak_put : (slot : ℕ) (content : Content) → MayBeOut new.lost slot → MayStand devices next new.lost slot content
      → Was (with_slot new.image slot content)
  weak_put slot content out stands =
      let stood = is.stands slot content out stands in
      record {
        before = with_slot old.image slot stood.before;
        of_old = inr record {
          slot = slot;
          content = stood.before;
          out = is.out slot out;
          stands = stood.stands;
          is = refl;
        };
        put = put_with Puts old.image new.image slot stood.before content stood.put (λ d apart. elim (is.put d) [
          | inl put ↦ put
          | inr gone ↦ absurd (apart (lost_is_out new.lost d slot gone.0 out))
        ]);
      }

  -- where no slot is empty since
  all_put : ((slot : ℕ) → Puts slot (old.image slot) (new.image slot)) → Was new.image
  all_put put = record { before = old.image; of_old = inl refl; put = put }

  whole_put : (lost : Option Lost) → new.lost ≡ lost → Was new.image
  whole_put None none = all_put (λ d. elim (is.put d) [
    | inl put ↦ put
    | inr gone ↦ absurd (subst (λ (o : Option Lost). IsTheLost o d) none gone.0)
  ])
  whole_put (Some one) some = elim (is.put one.slot) [
    | inl here ↦ all_put (λ d. elim (is.put d) [
      | inl put ↦ put
      | inr gone ↦
          let same : d ≡ one.slot = subst (λ (o : Option Lost). IsTheLost o d) some gone.0 in
          subst (λ (k : ℕ). Puts k (old.image k) (new.image k)) (sym same) here
    ])
    | inr gone ↦ subst Was
        (ap (λ (c : Content). with_slot new.image one.slot c) (sym gone.1) ∙ put_same new.image one.slot)
        (weak_put one.slot None (subst (λ (o : Option Lost). MayBeOut o one.slot) (sym some) refl) (inl refl))
  ]

  -- each image of the case was put from one of the case before
  pub was_put : (image : Slots) → IsOfCase devices next new image → Was image
  was_put image (inl same) = subst Was (sym same) (whole_put new.lost refl)
  was_put image (inr weak) = subst Was (sym weak.is) (weak_put weak.slot weak.content weak.out weak.stands)

-- So the case holds by its table, where each image does that was put from one that held.
pub case_after : (devices : ℕ) (base table next : Table) (X X' : List (List Bytes))
    (Puts : ℕ → Content → Content → Type 0) (old new : Case) → HoldsBy base devices table X old
    → IsCaseAfter devices table next Puts old new
    → ((before image : Slots) → IsOfCase devices table old before → IsOfCase devices next new image
    → ((slot : ℕ) → Puts slot (before slot) (image slot)) → HoldsIn devices next X' image)
    → HoldsBy base devices next X' new
case_after devices base table next X X' Puts old new by is keeps = record {
  not_older = not_older_both base table next by.not_older is.not_older;
  lost_in_set = is.lost_in_set;
  whole = holds new.image (inl refl);
  weakened = λ slot content out stands. holds (with_slot new.image slot content)
      (inr record { slot = slot; content = content; out = out; stands = stands; is = refl });
  one_counts = is.one_counts;
}
  where
    holds : (image : Slots) → IsOfCase devices next new image → HoldsIn devices next X' image
    holds image of_new =
        let was = was_put devices table next Puts old new is image of_new in
        keeps was.before image was.of_old of_new was.put

-- of the lost slot's devices one counts, where none that is away comes back
pub none_back_counts : (devices : ℕ) (table : Table) (image : Slots) (lost : Option Lost)
    → NoneComesBack devices table lost → OneCounts devices table (record { image = image; lost = lost }) lost
none_back_counts devices table image None back = tt
none_back_counts devices table image (Some one) back =
    λ there. one_with devices table one.slot (image one.slot) one.away (back there)

-- without what a slot has, one counts at most among the rest
one_fewer : (devices : ℕ) (table : Table) (slot : ℕ) (content : Content) (away : List (List Bytes))
    → AllButOneStale devices table slot (option_to_list content ++ away) → AllButOneStale devices table slot away
one_fewer devices table slot None away counts = counts
one_fewer devices table slot (Some disk) away (inl all) = one_of_stale devices table slot away all
one_fewer devices table slot (Some disk) away (inr rest) = rest.1

-- or where what stands in each slot stood there before, or it is empty
pub counts_since : (devices : ℕ) (table : Table) (slots : ℕ) (lost : Option Lost) (old h : History)
    (after : Option Lost) (was : WasLost slots lost old h after) (before image : Slots)
    → ((slot : ℕ) → (image slot ≡ before slot) ⊎ (image slot ≡ None))
    → OneCounts devices table (record { image = before; lost = was.before }) was.before
    → (one : Option Lost) → after ≡ one → OneCounts devices table (record { image = image; lost = after }) one
counts_since devices table slots lost old h after was before image same counts None none = tt
counts_since devices table slots lost old h after was before image same counts (Some one) some = λ there.
    subst (λ (l : List (List Bytes)). AllButOneStale devices table one.slot (option_to_list (image one.slot) ++ l))
    (sym (ap away_of some)) (elim (was.kept one some) [
      | inr none ↦ subst
          (λ (l : List (List Bytes)). AllButOneStale devices table one.slot (option_to_list (image one.slot) ++ l))
          (sym none) (one_at_most devices table one.slot (image one.slot))
      | inl is ↦ left one.slot one.away (same one.slot)
          (subst
          (λ (l : List (List Bytes)). AllButOneStale devices table one.slot (option_to_list (before one.slot) ++ l))
          (ap away_of is)
          (subst (OneCounts devices table (record { image = before; lost = was.before })) is counts there))
    ])
  where
    left : (slot : ℕ) (away : List (List Bytes)) → (image slot ≡ before slot) ⊎ (image slot ≡ None)
        → AllButOneStale devices table slot (option_to_list (before slot) ++ away)
        → AllButOneStale devices table slot (option_to_list (image slot) ++ away)
    left slot away (inl same) counts =
        subst (λ (c : Content). AllButOneStale devices table slot (option_to_list c ++ away)) (sym same) counts
    left slot away (inr none) counts =
        subst (λ (c : Content). AllButOneStale devices table slot (option_to_list c ++ away)) (sym none)
        (one_fewer devices table slot (before slot) away counts)

-- no device that is away comes back where none did before
pub none_back_since : (devices : ℕ) (table : Table) (slots : ℕ) (lost : Option Lost) (old h : History)
    (after : Option Lost) (was : WasLost slots lost old h after) → NoneComesBack devices table was.before
    → (one : Option Lost) → after ≡ one → NoneComesBack devices table one
none_back_since devices table slots lost old h after was back None none = tt
none_back_since devices table slots lost old h after was back (Some one) some = λ there. elim (was.kept one some) [
  | inr none ↦ subst (AllStale devices table one.slot) (sym none) tt
  | inl same ↦ subst (NoneComesBack devices table) same back there
]

-- what may stand in a slot that may be out is not live then
pub stands_not_live : Spellings → (devices : ℕ) (table : Table) (lost : Option Lost) → NoneComesBack devices table lost
    → (slot : ℕ) (content : Content) → MayBeOut lost slot → MayStand devices table lost slot content
    → ¬ IsLive devices table slot content
stands_not_live spellings devices table lost back slot content out (inl none) live =
    none_is_out spellings devices table slot (subst (IsLive devices table slot) none live)
stands_not_live spellings devices table lost back slot content out (inr (inl stale)) live =
    stale_is_out devices table slot content stale live
stands_not_live spellings devices table lost back slot content out (inr (inr away)) live =
    away_is_out devices table lost back slot away.disk out away.listed
    (subst (IsLive devices table slot) away.holds live)

-- a moment after another

-- From where it begins: the cases that a crash may leave hold for X, and their images choose the table.
pub record HoldsFrom (devices : ℕ) (base table : Table) (lost : Option Lost) (X : List (List Bytes))
    (old : History) : Type 0 where
  pub same_id : table.id ≡ base.id
  pub holds : HoldsNow base devices lost X old
  pub chosen : (before : Option Lost) (image : Slots) → IsLostAt (slots_of base) lost old before
      → MayLeave old image → IsChosen table.id devices image table

-- what stands in a slot was put for what might have been left there
pub record StoodThere (Puts : ℕ → Content → Content → Type 0) (old : History) (slot : ℕ) (content : Content) : Type 0 where
  pub before : Content
  pub may : SlotMayHold old slot before
  pub put : Puts slot before content

-- What stood before a case of `h`: an image that might have been left, in a case that holds; what stands in a slot was
-- put for what stood there, or its device is gone.
pub record StoodBefore (devices : ℕ) (base table : Table) (X : List (List Bytes))
    (Puts : ℕ → Content → Content → Type 0) (old h : History) (image : Slots) (lost : Option Lost)
    (before : Slots) : Type 0 where
  pub left : MayLeave old before
  pub by : HoldsBy base devices table X (record { image = before; lost = lost })
  pub put : (slot : ℕ) → Puts slot (before slot) (image slot) ⊎ HasGone table old h slot (image slot)

-- One case of a moment `h` since `old`, by the same table or a later one: what stands in each slot was put for what
-- might have been left there, or its device is gone; and whatever stood before, what may stand in a slot that may be out
-- was put for what might, one device counts, and an image that was put from one that held holds.
pub record StepsCase (devices : ℕ) (base table next : Table) (lost : Option Lost) (X X' : List (List Bytes))
    (Puts : ℕ → Content → Content → Type 0) (old h : History) (after : Option Lost) (image : Slots) : Type 0 where
  pub not_older : IsNotOlder table next
  pub each : (slot : ℕ) → StoodThere Puts old slot (image slot) ⊎ HasGone table old h slot (image slot)
  pub stands : (was : WasLost (slots_of base) lost old h after) (slot : ℕ) (content : Content) → MayBeOut after slot
      → MayStand devices next after slot content → StoodFor devices table Puts was.before slot content
  pub one_counts : (was : WasLost (slots_of base) lost old h after) (before : Slots)
      → StoodBefore devices base table X Puts old h image was.before before
      → OneCounts devices next (record { image = image; lost = after }) after
  pub keeps : (was : WasLost (slots_of base) lost old h after) (before : Slots)
      → StoodBefore devices base table X Puts old h image was.before before → (there now : Slots)
      → IsOfCase devices table (record { image = before; lost = was.before }) there
      → IsOfCase devices next (record { image = image; lost = after }) now
      → ((slot : ℕ) → Puts slot (there slot) (now slot)) → HoldsIn devices next X' now

-- what stood there: of a device that is gone what reads gave
stood_at : (table : Table) (Puts : ℕ → Content → Content → Type 0) (old h : History) (slot : ℕ) (content : Content)
    → StoodThere Puts old slot content ⊎ HasGone table old h slot content → Content
stood_at table Puts old h slot content (inl stood) = stood.before
stood_at table Puts old h slot content (inr gone) = readable old slot

stood_left : (table : Table) (Puts : ℕ → Content → Content → Type 0) (old h : History) (slot : ℕ) (content : Content)
    → (each : StoodThere Puts old slot content ⊎ HasGone table old h slot content)
    → SlotMayHold old slot (stood_at table Puts old h slot content each)
unfolding stood_at
stood_left table Puts old h slot content (inl stood) = stood.may
stood_left table Puts old h slot content (inr gone) = readable_left old slot

stood_put : (table : Table) (Puts : ℕ → Content → Content → Type 0) (old h : History) (slot : ℕ) (content : Content)
    → (each : StoodThere Puts old slot content ⊎ HasGone table old h slot content)
    → Puts slot (stood_at table Puts old h slot content each) content ⊎ HasGone table old h slot content
unfolding stood_at
stood_put table Puts old h slot content (inl stood) = inl stood.put
stood_put table Puts old h slot content (inr gone) = inr gone

module _ (devices : ℕ) (base table next : Table) (lost : Option Lost) (X X' : List (List Bytes))
    (Puts : ℕ → Content → Content → Type 0) (old h : History) (from : HoldsFrom devices base table lost X old)
    (stays : (d : ℕ) → is_down old d ≡ true → is_down h d ≡ true) (after : Option Lost) (image : Slots)
    (lost_at : IsLostAt (slots_of base) lost h after)
    (is : StepsCase devices base table next lost X X' Puts old h after image) where
  pub was_before : WasLost (slots_of base) lost old h after
  was_before = was_lost (slots_of base) lost old h after stays lost_at

  pub stood : Slots
  stood d = stood_at table Puts old h d (image d) (is.each d)

  pub stood_before : StoodBefore devices base table X Puts old h image was_before.before stood
  unfolding stood
  stood_before =
      let left : MayLeave old stood = λ d. stood_left table Puts old h d (image d) (is.each d) in
      record {
        left = left;
        by = by_table base devices table X (record { image = stood; lost = was_before.before }) from.same_id
            (from.holds was_before.before stood was_before.was left)
            (from.chosen was_before.before stood was_before.was left);
        put = λ d. stood_put table Puts old h d (image d) (is.each d);
      }

  old_slots : slots_of table ≡ slots_of base
  old_slots = ap (λ (g : Geometry). g.members + 2) stood_before.by.not_older.same_geometry

  next_slots : slots_of next ≡ slots_of base
  next_slots = ap (λ (g : Geometry). g.members + 2) is.not_older.same_geometry ∙ old_slots

  pub is_after : IsCaseAfter devices table next Puts (record { image = stood; lost = was_before.before })
      (record { image = image; lost = after })
  is_after = record {
    not_older = is.not_older;
    lost_in_set = subst (λ (n : ℕ). IsLostIn n after) (sym next_slots) was_before.in_set;
    put = λ d. elim (stood_before.put d) [
      | inl put ↦ inl put
      | inr gone ↦ inr (
        was_before.gone d (subst (λ (n : ℕ). d < n) old_slots gone.of_set) gone.up gone.down,
        gone.none,
      )
    ];
    out = was_before.out;
    stands = is.stands was_before;
    one_counts = is.one_counts was_before stood stood_before;
  }

  -- the case holds by the table of the step
  pub steps_case : HoldsBy base devices next X' (record { image = image; lost = after })
  steps_case = case_after devices base table next X X' Puts
      (record { image = stood; lost = was_before.before }) (record { image = image; lost = after }) stood_before.by
      is_after (is.keeps was_before stood stood_before)

-- where nothing was put

-- what may stand in a slot by the same table might have stood there
pub stands_same : (devices : ℕ) (table : Table) (Puts : ℕ → Content → Content → Type 0)
    → ((slot : ℕ) (content : Content) → Puts slot content content) → (slots : ℕ) (lost : Option Lost) (old h : History)
    (after : Option Lost) (was : WasLost slots lost old h after) (slot : ℕ) (content : Content)
    → MayStand devices table after slot content → StoodFor devices table Puts was.before slot content
stands_same devices table Puts same slots lost old h after was slot content stands = record {
  before = content;
  stands = stands_before devices table was.before after slot content was.away stands;
  put = same slot content;
}

abbrev pub NothingPut : ℕ → Content → Content → Type 0
NothingPut slot before after = before ≡ after

-- the case is one of before, but for a device that is gone
pub unchanged : (devices : ℕ) (base table : Table) (lost : Option Lost) (X : List (List Bytes)) (old h : History)
    (after : Option Lost) (image : Slots)
    → ((slot : ℕ) → SlotMayHold old slot (image slot) ⊎ HasGone table old h slot (image slot))
    → StepsCase devices base table table lost X X NothingPut old h after image
unchanged devices base table lost X old h after image each = record {
  not_older = not_older_same table;
  each = λ d. elim (each d) [
    | inl may ↦ inl record { before = image d; may = may; put = refl }
    | inr gone ↦ inr gone
  ];
  stands = λ was slot content out.
      stands_same devices table NothingPut (λ k c. refl) (slots_of base) lost old h after was slot content;
  one_counts = λ was before stood. counts_since devices table (slots_of base) lost old h after was before image
      (λ slot. elim (stood.put slot) [
        | inl same ↦ inl (sym same)
        | inr gone ↦ inr gone.none
      ]) stood.by.one_counts after refl;
  keeps = λ was before stood there now of_old of_new put. subst (HoldsIn devices table X) (fun_ext put)
      (of_case_holds base devices table X (record { image = before; lost = was.before }) stood.by there of_old);
}

-- So all cases of a moment hold, where each is one by the same table, in which nothing was put, or one by the table of the
-- step.
pub steps_hold : (devices : ℕ) (base table next : Table) (lost : Option Lost) (X X' : List (List Bytes))
    (Puts : ℕ → Content → Content → Type 0) (old h : History) → HoldsFrom devices base table lost X old
    → ((d : ℕ) → is_down old d ≡ true → is_down h d ≡ true)
    → ((after : Option Lost) (image : Slots) → IsLostAt (slots_of base) lost h after → MayLeave h image
    → StepsCase devices base table table lost X X' NothingPut old h after image
    ⊎ StepsCase devices base table next lost X X' Puts old h after image)
    → HoldsNow base devices lost X' h
steps_hold devices base table next lost X X' Puts old h from stays each after image lost_at may =
    elim (each after image lost_at may) [
      | inl same ↦ holds_by_table base devices table X' (record { image = image; lost = after })
          (steps_case devices base table table lost X X' NothingPut old h from stays after image lost_at same)
      | inr step ↦ holds_by_table base devices next X' (record { image = image; lost = after })
          (steps_case devices base table next lost X X' Puts old h from stays after image lost_at step)
    ]
