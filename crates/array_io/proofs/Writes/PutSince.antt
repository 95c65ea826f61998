-- While something is put on devices of a set since an earlier moment, every case keeps holding, and the table stays
-- chosen: over what may stand in a slot for what stood there, an instance of CaseAfter with the same table, from where
-- nothing is pending and what the table counts on is there.
use Rattle.std.proofs.Common.{◌≡◌, ◌≢◌, ◌⊎◌, inl, inr, ℕ, Bool, true, false, cond, List, ◌++◌, length, option_to_list, Option, Some, None, refl, sym, ◌∙◌, ap}
use Rattle.std.proofs.Common.{subst, arith}
use Rattle.std.proofs.lemmas.Bool.{cases_lt}
use Rattle.sector_model.specs.History.{Bytes, History, MayHold, MayLeave, SlotMayHold, Slots, disk_of, is_down, sector_of, seen, start_of}
use Rattle.sector_model.specs.Readable.{readable}
use Rattle.sector_model.proofs.Readable.{readable_down, readable_left, readable_up}
use Rattle.superblock.specs.declared.table.Table.{Table}
use Rattle.superblock.specs.Cases.{Lost}
use Rattle.superblock.specs.Counted.{Content, IsChosen, IsLive}
use Rattle.superblock.specs.Losses.{InEachImage, IsLostAt}
use Rattle.superblock.specs.NextTables.{slots_of}
use Rattle.superblock.proofs.LaterTables.{not_older_same}
use Rattle.array_io.specs.Steps.Bringing.{CountsOn}
use Rattle.array_io.specs.Believed.Holds.{AllButOneStale, HoldsIn}
use Rattle.array_io.specs.Believed.Moments.{HoldsNow}
use Rattle.array_io.specs.Believed.Settled.{IsAllThere, NoneComesBack}
use Rattle.array_io.specs.Steps.Writing.{WritesFrom}
use Rattle.array_io.proofs.Rest.AtRestImages.{same_left}
use Rattle.array_io.proofs.Images.CaseAfter.{HoldsFrom, IsOfCase, StepsCase, none_back_counts, none_back_since, of_case_holds, stands_not_live, stands_same}
use Rattle.array_io.proofs.Images.CaseAfter.{steps_case, steps_hold}
use Rattle.array_io.proofs.Images.Counting.{none_is_out}
use Rattle.array_io.proofs.Images.LossBefore.{HasGone, HoldsBy, away_is_stale, before_of}
use Rattle.array_io.proofs.Images.Put.{put_elsewhere, put_there}
use Rattle.array_io.proofs.Images.Spellings.{Spellings}

-- A moment since `old`: what stands in a slot may have been put for what stood there, in a slot that the table counts
-- on. `Puts slot before after` says for which content which other may stand; each may stay.
pub record IsPutting (table : Table) (Puts : ℕ → Content → Content → Type 0) (old h : History) : Type 0 where
  pub back : (device at : ℕ) (value : Bytes) → MayHold h device at value
      → MayHold old device at value ⊎ CountsOn table device
  pub start : (device : ℕ) → start_of h device ≡ start_of old device
  pub stays_down : (device : ℕ) → is_down old device ≡ true → is_down h device ≡ true
  pub others_stay : (device : ℕ) → ¬ CountsOn table device → is_down h device ≡ is_down old device
  pub same : (slot : ℕ) (content : Content) → Puts slot content content
  pub put : (slot : ℕ) (disk : List Bytes) → is_down old slot ≡ false → SlotMayHold h slot (Some disk)
      → Puts slot (Some (seen old slot)) (Some disk)

-- An image that was put from one before. `whole` is what stood before, in each slot that the table counts on what reads
-- gave, which is live; and `before` is the same but for one slot at most, in which stands what is not live.
pub record IsPutFrom (devices : ℕ) (table : Table) (Puts : ℕ → Content → Content → Type 0) (reads : Slots)
    (X : List (List Bytes)) (whole before image : Slots) : Type 0 where
  pub whole_holds : HoldsIn devices table X whole
  pub read : (slot : ℕ) → CountsOn table slot → whole slot ≡ reads slot
  pub there : (slot : ℕ) → CountsOn table slot → IsLive devices table slot (reads slot)
  pub holds : HoldsIn devices table X before
  pub out : ℕ
  pub others : (slot : ℕ) → slot ≢ out → before slot ≡ whole slot
  pub here : (before out ≡ whole out) ⊎ ¬ IsLive devices table out (before out)
  pub put : (slot : ℕ) → Puts slot (before slot) (image slot)

-- each image that was put from one that holds for X holds for X'
abbrev pub PutKeeps : (devices : ℕ) (table : Table) (Puts : ℕ → Content → Content → Type 0) (reads : Slots)
    (X X' : List (List Bytes)) → Type 0
PutKeeps devices table Puts reads X X' = (whole before image : Slots)
    → IsPutFrom devices table Puts reads X whole before image → HoldsIn devices table X' image

differ : true ≡ false → ⊥
differ is = cc

-- what the table counts on

-- a device that the table counts on was up
pub counted_up : Spellings → (devices : ℕ) (table : Table) (old : History) → IsAllThere devices table old
    → (slot : ℕ) → CountsOn table slot → is_down old slot ≡ false
counted_up spellings devices table old there slot counted = by_state (is_down old slot) refl
  where
    by_state : (b : Bool) → is_down old slot ≡ b → b ≡ false
    by_state true down = absurd (none_is_out spellings devices table slot
        (subst (IsLive devices table slot) (readable_down old slot down) (there slot counted.of_set counted.there)))
    by_state false up = refl

-- an image that a crash leaves now, and what stood in its slots

module _ (spellings : Spellings) (devices : ℕ) (table : Table) (Puts : ℕ → Content → Content → Type 0) (old h : History)
    (there : IsAllThere devices table old) (is : IsPutting table Puts old h) where
  slot_back : (d : ℕ) → is_down old d ≡ true → (content : Content) → SlotMayHold h d content → SlotMayHold old d content
  slot_back d down None may = down
  slot_back d down (Some disk) may = (
    λ none. may.0 (is.start d ∙ none),
    may.1 ∙ ap (λ (c : Content). length (disk_of c)) (is.start d),
    λ a. elim (is.back d a (sector_of disk a) (may.2 a)) [
      | inl was ↦ was
      | inr counted ↦ absurd (differ (sym down ∙ counted_up spellings devices table old there d counted))
    ],
  )

  -- what stood before was one that might have been left
  pub put_left : (image : Slots) → MayLeave h image → MayLeave old (before_of old image)
  put_left image may = λ d. by_state d (is_down old d) refl
    where
      by_state : (d : ℕ) (b : Bool) → is_down old d ≡ b → SlotMayHold old d (cond b (image d) (Some (seen old d)))
      by_state d true down = slot_back d down (image d) (may d)
      by_state d false up = subst (SlotMayHold old d) (readable_up old d up) (readable_left old d)

-- of a device that was up: what stands in its slot was put for what reads gave, or it is gone
pub put_found_up : (table : Table) (Puts : ℕ → Content → Content → Type 0) (old h : History)
    → IsPutting table Puts old h → (d : ℕ) → is_down old d ≡ false → (content : Content) → SlotMayHold h d content
    → Puts d (Some (seen old d)) content ⊎ HasGone table old h d content
put_found_up table Puts old h is d up None may = elim (cases_lt d (slots_of table)) [
  | inl within ↦ inr record { of_set = within; up = up; down = may; none = refl }
  | inr beyond ↦
      absurd (differ (sym may ∙ is.others_stay d (λ counted. absurd (omega (arith, beyond, counted.of_set))) ∙ up))
]
put_found_up table Puts old h is d up (Some disk) may = inl (is.put d disk up may)

-- what stands in a slot was put for what stood there, or its device is gone
pub put_found : (table : Table) (Puts : ℕ → Content → Content → Type 0) (old h : History) → IsPutting table Puts old h
    → (image : Slots) → MayLeave h image
    → (d : ℕ) → Puts d (before_of old image d) (image d) ⊎ HasGone table old h d (image d)
put_found table Puts old h is image may d = by_state (is_down old d) refl
  where
    by_state : (b : Bool) → is_down old d ≡ b
        → Puts d (cond b (image d) (Some (seen old d))) (image d) ⊎ HasGone table old h d (image d)
    by_state true down = inl (is.same d (image d))
    by_state false up = put_found_up table Puts old h is d up (image d) (may d)

-- what reads give of a device that is up was put for what they gave
pub put_read : (table : Table) (Puts : ℕ → Content → Content → Type 0) (old h : History) → IsPutting table Puts old h
    → (d : ℕ) → is_down old d ≡ false → is_down h d ≡ false → Puts d (readable old d) (readable h d)
put_read table Puts old h is d was_up up =
    elim (put_found_up table Puts old h is d was_up (readable h d) (readable_left h d)) [
      | inl put ↦ subst (λ (c : Content). Puts d c (readable h d)) (sym (readable_up old d was_up)) put
      | inr gone ↦ absurd (differ (sym gone.down ∙ up))
    ]

-- each case now

module _ (spellings : Spellings) (devices : ℕ) (base table : Table) (lost : Option Lost) (X X' : List (List Bytes))
    (Puts : ℕ → Content → Content → Type 0) (old h : History)
    (from : WritesFrom devices base table lost X old) (keeps : PutKeeps devices table Puts (readable old) X X')
    (is : IsPutting table Puts old h) where
  begins : HoldsFrom devices base table lost X old
  begins = record {
    same_id = from.same_id;
    holds = from.holds;
    chosen = λ before image lost_at may. (from.chosen before lost_at).whole image may;
  }

  -- what stood in a slot that the table counts on was what reads gave, and so it was live
  read_before : (before : Slots) → MayLeave old before → (slot : ℕ) → CountsOn table slot
      → before slot ≡ readable old slot
  read_before before left slot counted = same_left old before slot from.nothing_pending left
      (counted_up spellings devices table old from.there slot counted)

  live_before : (before : Slots) → MayLeave old before → (slot : ℕ) → CountsOn table slot
      → IsLive devices table slot (before slot)
  live_before before left slot counted = subst (IsLive devices table slot) (sym (read_before before left slot counted))
      (from.there slot counted.of_set counted.there)

  -- no device that is away comes back
  none_back : (one : Option Lost) (before : Slots) → MayLeave old before
      → HoldsBy base devices table X (record { image = before; lost = one }) → NoneComesBack devices table one
  none_back None before left by = tt
  none_back (Some one) before left by = λ there.
      let counted : CountsOn table one.slot = record { of_set = by.lost_in_set; there = there } in
      let stood = read_before before left one.slot counted
      ∙ readable_up old one.slot (counted_up spellings devices table old from.there one.slot counted) in
      away_is_stale devices table one.slot (seen old one.slot) one.away
      (subst (IsLive devices table one.slot) stood (live_before before left one.slot counted))
      (subst (λ (c : Content). AllButOneStale devices table one.slot (option_to_list c ++ one.away)) stood
      (by.one_counts there))

  -- an image of the case before, with what was put for it
  put_from : (one : Option Lost) (whole : Slots) → MayLeave old whole
      → HoldsBy base devices table X (record { image = whole; lost = one }) → (before image : Slots)
      → IsOfCase devices table (record { image = whole; lost = one }) before
      → ((slot : ℕ) → Puts slot (before slot) (image slot))
      → IsPutFrom devices table Puts (readable old) X whole before image
  put_from one whole left by before image (inl same) put = record {
    whole_holds = by.whole;
    read = read_before whole left;
    there = λ slot counted. from.there slot counted.of_set counted.there;
    holds = subst (HoldsIn devices table X) (sym same) by.whole;
    out = 0;
    others = λ slot apart. ap (λ (i : Slots). i slot) same;
    here = inl (ap (λ (i : Slots). i 0) same);
    put = put;
  }
  put_from one whole left by before image (inr weak) put = record {
    whole_holds = by.whole;
    read = read_before whole left;
    there = λ slot counted. from.there slot counted.of_set counted.there;
    holds = of_case_holds base devices table X (record { image = whole; lost = one }) by before (inr weak);
    out = weak.slot;
    others = λ slot apart. ap (λ (i : Slots). i slot) weak.is ∙ put_elsewhere whole weak.slot weak.content slot apart;
    here = inr (λ live. stands_not_live spellings devices table one (none_back one whole left by) weak.slot weak.content
        weak.out weak.stands (subst (IsLive devices table weak.slot)
        (ap (λ (i : Slots). i weak.slot) weak.is ∙ put_there whole weak.slot weak.content) live));
    put = put;
  }

  -- one case, by the same table
  steps : (after : Option Lost) (image : Slots) → MayLeave h image
      → StepsCase devices base table table lost X X' Puts old h after image
  steps after image may = record {
    not_older = not_older_same table;
    each = λ d. elim (put_found table Puts old h is image may d) [
      | inl put ↦ inl record {
        before = before_of old image d;
        may = put_left spellings devices table Puts old h from.there is image may d;
        put = put;
      }
      | inr gone ↦ inr gone
    ];
    stands = λ was slot content out.
        stands_same devices table Puts is.same (slots_of base) lost old h after was slot content;
    one_counts = λ was before stood. none_back_counts devices table image after
        (none_back_since devices table (slots_of base) lost old h after was
        (none_back was.before before stood.left stood.by) after refl);
    keeps = λ was before stood there now of_old of_new put.
        keeps before there now (put_from was.before before stood.left stood.by there now of_old put);
  }

  -- the case holds by the table
  pub put_holds_at : (after : Option Lost) (image : Slots) → IsLostAt (slots_of base) lost h after → MayLeave h image
      → HoldsBy base devices table X' (record { image = image; lost = after })
  put_holds_at after image lost_at may =
      steps_case devices base table table lost X X' Puts old h begins is.stays_down after image lost_at
      (steps after image may)

  -- every case holds
  pub put_holds : HoldsNow base devices lost X' h
  put_holds = steps_hold devices base table table lost X X' Puts old h begins is.stays_down
      (λ after image lost_at may. inr (steps after image may))

  -- and each image chooses the table
  pub put_chosen : (after : Option Lost) → IsLostAt (slots_of base) lost h after
      → InEachImage devices table h after (λ image. IsChosen table.id devices image table)
  put_chosen after lost_at = record {
    whole = λ image may. (put_holds_at after image lost_at may).whole.chosen;
    weakened = λ image slot content may out stands.
        ((put_holds_at after image lost_at may).weakened slot content out stands).chosen;
  }
