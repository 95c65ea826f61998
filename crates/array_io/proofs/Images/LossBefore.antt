-- What was lost at an earlier moment by what is lost now, what stood in the slots then, and a case by the table that
-- its image chooses.
use Rattle.std.proofs.Common.{◌≡◌, ◌≢◌, ◌⊎◌, inl, inr, ℕ, ◌<◌, Bool, true, false, cond, List, [], ◌∷◌, ◌++◌, option_to_list, Option, Some, None, refl, sym, ◌∙◌}
use Rattle.std.proofs.Common.{ap, subst}
use Rattle.std.proofs.lemmas.Bool.{cases_eq}
use Rattle.sector_model.specs.History.{Bytes, History, Slots, is_down, seen}
use Rattle.superblock.specs.declared.table.Table.{Table}
use Rattle.superblock.specs.Cases.{Case, IsAway, IsLostIn, Lost, MayBeOut, MayStand, away_of, with_slot}
use Rattle.superblock.specs.Counted.{Content, IsChosen, IsLive}
use Rattle.superblock.specs.Losses.{IsLostAt}
use Rattle.superblock.specs.NextTables.{IsNotOlder, slots_of}
use Rattle.array_io.specs.Believed.Holds.{AllButOneStale, AllStale, Holds, HoldsIn, OneCounts}
use Rattle.array_io.proofs.Laws.Begun.{chosen_is_one}
use Rattle.array_io.proofs.Images.Counting.{stale_is_out}

differ : true ≡ false → ⊥
differ is = cc

-- what is lost

-- the slot is the one that is lost
abbrev pub IsTheLost : Option Lost → ℕ → Type 0
IsTheLost None slot = ⊥
IsTheLost (Some lost) slot = slot ≡ lost.slot

-- what was lost before, by what is lost now
pub record WasLost (slots : ℕ) (lost : Option Lost) (old h : History) (after : Option Lost) : Type 0 where
  pub before : Option Lost
  pub was : IsLostAt slots lost old before
  pub away : away_of after ≡ away_of before
  pub out : (slot : ℕ) → MayBeOut after slot → MayBeOut before slot
  pub in_set : IsLostIn slots after
  -- a device that failed since is that of the lost slot
  pub gone : (slot : ℕ) → slot < slots → is_down old slot ≡ false → is_down h slot ≡ true → IsTheLost after slot
  pub kept : (one : Lost) → after ≡ Some one → (before ≡ Some one) ⊎ (one.away ≡ [])

pub up_before : (old h : History) → ((d : ℕ) → is_down old d ≡ true → is_down h d ≡ true)
    → (d : ℕ) → is_down h d ≡ false → is_down old d ≡ false
up_before old h stays d up = by_state (is_down old d) refl
  where
    by_state : (b : Bool) → is_down old d ≡ b → b ≡ false
    by_state true was = absurd (differ (sym (stays d was) ∙ up))
    by_state false was = refl

one_failed : (slots : ℕ) (h : History) (lost slot : ℕ)
    → ((other : ℕ) → other < slots → other ≢ lost → is_down h other ≡ false)
    → slot < slots → is_down h slot ≡ true → slot ≡ lost
one_failed slots h lost slot up within down = elim (cases_eq slot lost) [
  | inl same ↦ same
  | inr apart ↦ absurd (differ (sym down ∙ up slot within apart))
]

pub was_lost : (slots : ℕ) (lost : Option Lost) (old h : History) (after : Option Lost)
    → ((d : ℕ) → is_down old d ≡ true → is_down h d ≡ true) → IsLostAt slots lost h after
    → WasLost slots lost old h after
was_lost slots None old h after stays (inl (none, up)) = record {
  before = None;
  was = inl (refl, λ other within. up_before old h stays other (up other within));
  away = ap away_of none;
  out = λ slot may. tt;
  in_set = subst (IsLostIn slots) (sym none) tt;
  gone = λ slot within was_up down. absurd (differ (sym down ∙ up slot within));
  kept = λ one is. absurd (cc);
}
was_lost slots None old h after stays (inr failure) = by_state (is_down old failure.slot) refl
  where
    others : (other : ℕ) → other < slots → other ≢ failure.slot → is_down old other ≡ false
    others other within apart = up_before old h stays other (failure.others other within apart)

    gone : (slot : ℕ) → slot < slots → is_down old slot ≡ false → is_down h slot ≡ true → IsTheLost after slot
    gone slot within up down = subst (λ (o : Option Lost). IsTheLost o slot) (sym failure.lost)
        (one_failed slots h failure.slot slot failure.others within down)

    in_set : IsLostIn slots after
    in_set = subst (IsLostIn slots) (sym failure.lost) failure.of_set

    by_state : (b : Bool) → is_down old failure.slot ≡ b → WasLost slots None old h after
    by_state true down = record {
      before = after;
      was = inr record { slot = failure.slot; of_set = failure.of_set; failed = down; others = others; lost = failure.lost };
      away = refl;
      out = λ slot may. may;
      in_set = in_set;
      gone = gone;
      kept = λ one is. inl is;
    }
    by_state false up = record {
      before = None;
      was = inl (
        refl,
        λ other within. elim (cases_eq other failure.slot) [
          | inl same ↦ ap (is_down old) same ∙ up
          | inr apart ↦ others other within apart
        ],
      );
      away = ap away_of failure.lost;
      out = λ slot may. tt;
      in_set = in_set;
      gone = gone;
      kept = λ one is. inr (ap away_of (sym is ∙ failure.lost));
    }
was_lost slots (Some lost) old h after stays (of_set, is, up) = record {
  before = after;
  was = (of_set, is, λ other within apart. up_before old h stays other (up other within apart));
  away = refl;
  out = λ slot may. may;
  in_set = subst (IsLostIn slots) (sym is) of_set;
  gone = λ slot within was_up down.
      subst (λ (o : Option Lost). IsTheLost o slot) (sym is) (one_failed slots h lost.slot slot up within down);
  kept = λ one same. inl same;
}

-- an image before

-- what may have stood in the slots before: of a device that was up, what reads gave
abbrev pub before_of : History → Slots → Slots
before_of old image = λ d. cond (is_down old d) (image d) (Some (seen old d))

-- the device of a slot is gone since
pub record HasGone (table : Table) (old h : History) (slot : ℕ) (content : Content) : Type 0 where
  pub of_set : slot < slots_of table
  pub up : is_down old slot ≡ false
  pub down : is_down h slot ≡ true
  pub none : content ≡ None

-- a case that holds by this table
pub record HoldsBy (base : Table) (devices : ℕ) (table : Table) (X : List (List Bytes)) (case : Case) : Type 0 where
  pub not_older : IsNotOlder base table
  pub lost_in_set : IsLostIn (slots_of table) case.lost
  pub whole : HoldsIn devices table X case.image
  pub weakened : (slot : ℕ) (content : Content) → MayBeOut case.lost slot
      → MayStand devices table case.lost slot content → HoldsIn devices table X (with_slot case.image slot content)
  pub one_counts : OneCounts devices table case case.lost

-- as does each case that holds, by its own
pub by_own_table : (base : Table) (devices : ℕ) (X : List (List Bytes)) (case : Case) (holds : Holds base devices case X)
    → HoldsBy base devices holds.table X case
by_own_table base devices X case holds = record {
  not_older = holds.not_older;
  lost_in_set = holds.lost_in_set;
  whole = holds.whole;
  weakened = holds.weakened;
  one_counts = holds.one_counts;
}

pub by_table : (base : Table) (devices : ℕ) (table : Table) (X : List (List Bytes)) (case : Case) → table.id ≡ base.id
    → Holds base devices case X → IsChosen table.id devices case.image table → HoldsBy base devices table X case
by_table base devices table X case same_id holds chosen =
    let one = chosen_is_one devices holds.table X case.image holds.whole table
    (subst (λ (i : List ℕ). IsChosen i devices case.image table) (same_id ∙ sym holds.not_older.same_id) chosen) in
    subst (λ (t : Table). HoldsBy base devices t X case) (sym one) (by_own_table base devices X case holds)

pub holds_by_table : (base : Table) (devices : ℕ) (table : Table) (X : List (List Bytes)) (case : Case)
    → HoldsBy base devices table X case → Holds base devices case X
holds_by_table base devices table X case by = record {
  table = table;
  not_older = by.not_older;
  lost_in_set = by.lost_in_set;
  whole = by.whole;
  weakened = by.weakened;
  one_counts = by.one_counts;
}

-- what may stand in a slot now might have before
pub stands_before : (devices : ℕ) (table : Table) (before after : Option Lost) (slot : ℕ) (content : Content)
    → away_of after ≡ away_of before → MayStand devices table after slot content
    → MayStand devices table before slot content
stands_before devices table before after slot content same (inl none) = inl none
stands_before devices table before after slot content same (inr (inl stale)) = inr (inl stale)
stands_before devices table before after slot content same (inr (inr away)) =
    inr (inr (subst (λ (l : List (List Bytes)). IsAway l content) same away))

-- the lost slot is the one that may be out
pub lost_is_out : (after : Option Lost) (lost slot : ℕ) → IsTheLost after lost → MayBeOut after slot → lost ≡ slot
lost_is_out None lost slot is out = absurd is
lost_is_out (Some one) lost slot is out = is ∙ sym out

-- one device of a slot at most counts where all that are away are stale
pub one_of_stale : (devices : ℕ) (table : Table) (slot : ℕ) (away : List (List Bytes))
    → AllStale devices table slot away → AllButOneStale devices table slot away
one_of_stale devices table slot [] all = tt
one_of_stale devices table slot (disk ∷ disks) all = inl all.1

pub one_with : (devices : ℕ) (table : Table) (slot : ℕ) (content : Content) (away : List (List Bytes))
    → AllStale devices table slot away → AllButOneStale devices table slot (option_to_list content ++ away)
one_with devices table slot None away all = one_of_stale devices table slot away all
one_with devices table slot (Some disk) away all = inl all

-- all that are away are stale where the device that is there is live
pub away_is_stale : (devices : ℕ) (table : Table) (slot : ℕ) (disk : List Bytes) (away : List (List Bytes))
    → IsLive devices table slot (Some disk) → AllButOneStale devices table slot (disk ∷ away)
    → AllStale devices table slot away
away_is_stale devices table slot disk away live (inl all) = all
away_is_stale devices table slot disk away live (inr (stale, rest)) =
    absurd (stale_is_out devices table slot (Some disk) stale live)
