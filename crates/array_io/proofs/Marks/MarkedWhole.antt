-- While a slot is marked missing that is not there, every case keeps holding.
use Rattle.std.proofs.Common.{◌≡◌, ◌⊎◌, inl, inr, ℕ, ◌+◌, ◌<◌, ◌≤◌, true, false, List, [], ◌∷◌, ◌++◌, Contains, Option, Some, None, Result, Ok, refl, sym, ◌∙◌}
use Rattle.std.proofs.Common.{ap, subst, arith}
use Rattle.std.specs.Prelude.{is_ok, map}
use Rattle.std.proofs.lemmas.Bool.{cases_eq}
use Rattle.std.proofs.lemmas.List.Elements.{Contains-append_cases, Contains-push_cases}
use Rattle.sector_model.specs.declared.sector.Stop.{Stop}
use Rattle.sector_model.specs.Bank.{Panel}
use Rattle.sector_model.specs.Calls.{Call, Flush, Made, Performs, Write, after_call}
use Rattle.sector_model.specs.History.{Bytes, History, MayHold, MayLeave, Slots, cut_at, is_down, sector_of, seen}
use Rattle.sector_model.specs.Moments.{Throughout}
use Rattle.sector_model.specs.Readable.{readable}
use Rattle.sector_model.proofs.Readable.{readable_left}
use Rattle.sector_model.proofs.Steps.{throughout_cut, throughout_last, throughout_more}
use Rattle.layout_map.specs.declared.geometry.Geometry.{Geometry}
use Rattle.superblock.specs.declared.table.Table.{Table}
use Rattle.superblock.specs.Cases.{Lost}
use Rattle.superblock.specs.Counted.{IsChosen, IsLive}
use Rattle.superblock.specs.Losses.{InEachImage, IsLostAt}
use Rattle.superblock.specs.NextTables.{IsMarked, IsNotOlder, slots_of}
use Rattle.superblock.specs.Publishing.{Publishes, first_slots, place_of, publish_calls, written_and_flushed}
use Rattle.superblock.proofs.LaterTables.{not_older_both, not_older_same}
use Rattle.superblock.proofs.PublishSteps.{GetsIt, in_publish}
use Rattle.array_io.specs.Believed.Moments.{HoldsNow, HoldsThroughout}
use Rattle.array_io.specs.Steps.CallSteps.{StaysDown}
use Rattle.array_io.proofs.Rest.AtRestImages.{Held}
use Rattle.array_io.proofs.Images.Counting.{none_is_out}
use Rattle.array_io.proofs.Laws.Fresh.{lowest_apart, lowest_but, lowest_of_set}
use Rattle.array_io.proofs.Images.LossBefore.{IsTheLost, was_lost}
use Rattle.array_io.proofs.Marks.MarkingMoments.{with_cuts}
use Rattle.array_io.proofs.Marks.MarkingPublished.{GivesUp, published_chosen, published_throughout}
use Rattle.array_io.proofs.Images.Put.{put_elsewhere, put_there}
use Rattle.array_io.proofs.Images.Spellings.{Spellings}

differ : true ≡ false → ⊥
differ is = cc

-- What holds at each moment, if one slot at most is lost at the first, holds at each moment: two that are lost stay so.
pub throughout_if_lost : (base : Table) (devices : ℕ) (lost : Option Lost) (X : List (List Bytes)) (old new : History) → Throughout (StaysDown old) old new
    → ((before : Option Lost) → IsLostAt (slots_of base) lost old before → HoldsThroughout base devices lost X old new)
    → HoldsThroughout base devices lost X old new
throughout_if_lost base devices lost X old new stays then_holds =
    throughout_more (λ h both. both.1) new (with_cuts new stays (λ t from to after image lost_at may.
    let was = was_lost (slots_of base) lost old (cut_at t new) after (throughout_cut new stays t from) lost_at in
    throughout_cut new (then_holds was.before was.was) t from after image lost_at may))

-- a lost slot with nothing away
abbrev pub alone : ℕ → Lost
alone slot = record { slot = slot; away = [] }

-- it was lost before, or its device is down
abbrev pub IsLostBy : Option Lost → History → ℕ → Lost → Type 0
IsLostBy lost h slot one = (lost ≡ Some one) ⊎ ((lost ≡ None) × (one ≡ alone slot) × (is_down h slot ≡ true))

-- the slot is the lost one
pub record IsLostThen (lost : Option Lost) (h : History) (after : Option Lost) (slot : ℕ) : Type 0 where
  pub one : Lost
  pub is : after ≡ Some one
  pub own : one.slot ≡ slot
  pub by : IsLostBy lost h slot one

same_lost : (a b : Lost) → Some a ≡ Some b → a ≡ b
same_lost a b both = cc

some_lost : (a : Lost) → Some a ≡ None → ⊥
some_lost a is = cc

lost_then : (slots : ℕ) (lost after : Option Lost) (h : History) (slot : ℕ) → IsLostAt slots lost h after → IsTheLost after slot → IsLostThen lost h after slot
lost_then slots lost None h slot lost_at is = absurd is
lost_then slots None (Some one) h slot (inl (none, up)) is = absurd (some_lost one none)
lost_then slots None (Some one) h slot (inr failure) is =
    let same : one ≡ alone failure.slot = same_lost one (alone failure.slot) failure.lost in
    let here : failure.slot ≡ slot = sym (is ∙ ap (λ (l : Lost). l.slot) same) in
    record {
      one = one;
      is = refl;
      own = sym is;
      by = inr (refl, same ∙ ap alone here, subst (λ (k : ℕ). is_down h k ≡ true) here failure.failed);
    }
lost_then slots (Some lost) (Some one) h slot (of_set, same, up) is = record { one = one; is = refl; own = sym is; by = inl (sym same) }

-- a slot that is not live is the lost one
the_lost : Spellings → (base table : Table) (devices : ℕ) (X : List (List Bytes)) (image : Slots) (after : Option Lost) → Held base devices table X image after
    → (slot : ℕ)
    → slot < slots_of table → ¬ IsLive devices table slot (image slot) → IsTheLost after slot
the_lost spellings base table devices X image None held slot of_set out =
    absurd (lowest_apart slot (sym ((held.weakened (lowest_but slot) None tt (inl refl)).one_out slot (lowest_but slot) of_set
    (lowest_of_set slot table.geometry.members)
    (λ full. out (subst (IsLive devices table slot) (put_elsewhere image (lowest_but slot) None slot (λ is. lowest_apart slot (sym is))) full.live))
    (λ full. none_is_out spellings devices table (lowest_but slot)
    (subst (IsLive devices table (lowest_but slot)) (put_there image (lowest_but slot) None) full.live)))))
the_lost spellings base table devices X image (Some one) held slot of_set out = elim (cases_eq slot one.slot) [
  | inl same ↦ same
  | inr apart ↦ (held.weakened one.slot None refl (inl refl)).one_out slot one.slot of_set held.lost_in_set
      (λ full. out (subst (IsLive devices table slot) (put_elsewhere image one.slot None slot apart) full.live))
      (λ full. none_is_out spellings devices table one.slot (subst (IsLive devices table one.slot) (put_there image one.slot None) full.live))
]

-- a slot that is not live in what reads give
pub out_is_lost : Spellings → (base table : Table) (devices : ℕ) (lost : Option Lost) (X : List (List Bytes)) (h : History) (after : Option Lost)
    → Held base devices table X (readable h) after → IsLostAt (slots_of base) lost h after → (slot : ℕ) → slot < slots_of table
    → ¬ IsLive devices table slot (readable h slot) → IsLostThen lost h after slot
out_is_lost spellings base table devices lost X h after held lost_at slot of_set out =
    lost_then (slots_of base) lost after h slot lost_at (the_lost spellings base table devices X (readable h) after held slot of_set out)

-- it is the lost one at each later moment
lost_later : (slots : ℕ) (lost : Option Lost) (one : Lost) (slot : ℕ) (h later : History) (after : Option Lost) → one.slot ≡ slot → slot < slots
    → IsLostBy lost h slot one → StaysDown h later → IsLostAt slots lost later after → IsLostAt slots (Some one) later after
lost_later slots lost one slot h later after own of_set (inl same) stays lost_at = subst (λ (l : Option Lost). IsLostAt slots l later after) same lost_at
lost_later slots lost one slot h later after own of_set (inr (none, is_alone, down)) stays lost_at =
    by_failure (subst (λ (l : Option Lost). IsLostAt slots l later after) none lost_at)
  where
    by_failure : IsLostAt slots None later after → IsLostAt slots (Some one) later after
    by_failure (inl (is_none, up)) = absurd (differ (sym (stays slot down) ∙ up slot of_set))
    by_failure (inr failure) = elim (cases_eq slot failure.slot) [
      | inr apart ↦ absurd (differ (sym (stays slot down) ∙ failure.others slot of_set apart))
      | inl same ↦ (
        subst (λ (k : ℕ). k < slots) (sym own) of_set,
        failure.lost ∙ sym (ap (λ (l : Lost). Some l) (is_alone ∙ ap alone same)),
        λ other within apart. failure.others other within (λ is. apart (is ∙ sym same ∙ sym own)),
      )
    ]

-- From what a slot is marked missing: it is the lost one, and each image that a crash may leave is held by the old table.
pub record MarksFrom (base table new_table : Table) (devices slot : ℕ) (lost : Option Lost) (X : List (List Bytes)) (one : Lost) (h : History) : Type 0 where
  pub not_older : IsNotOlder base table
  pub marked : IsMarked table slot new_table
  pub of_set : slot < slots_of table
  pub has_slots : slots_of table ≤ devices
  pub own : one.slot ≡ slot
  pub by : IsLostBy lost h slot one
  pub held : (image : Slots) → MayLeave h image → Held base devices table X image (Some one)

module _ (spellings : Spellings) (honest : Type 0) (devices : ℕ) (base table new_table : Table) (slot : ℕ) (lost : Option Lost) (X : List (List Bytes))
    (one : Lost)
    (old_panel new_panel : Panel) (old new : History) (result : Result (Unit {0}) Stop)
    (published : Publishes honest new_table None old_panel new_panel old new result)
    (from : MarksFrom base table new_table devices slot lost X one old) where
  gives : GivesUp devices table new_table slot one old
  gives = record {
    marked = from.marked;
    of_set = from.of_set;
    own = from.own;
    has_slots = from.has_slots;
    chosen = record {
      whole = λ image may. (from.held image may).whole.chosen;
      weakened = λ image other content may out stands. ((from.held image may).weakened other content out stands).chosen;
    };
  }

  by_old : HoldsNow table devices (Some one) X old
  by_old after image lost_at may =
      let held = subst (Held base devices table X image) (sym lost_at.1) (from.held image may) in
      record {
        table = table;
        not_older = not_older_same table;
        lost_in_set = held.lost_in_set;
        whole = held.whole;
        weakened = held.weakened;
        one_counts = held.one_counts;
      }

  same_slots : slots_of table ≡ slots_of base
  same_slots = ap (λ (g : Geometry). g.members + 2) from.not_older.same_geometry

  by_base : (h : History) → StaysDown old h → HoldsNow table devices (Some one) X h → HoldsNow base devices lost X h
  by_base h stays now after image lost_at may =
      let holds = now after image (subst (λ (n : ℕ). IsLostAt n (Some one) h after) (sym same_slots)
      (lost_later (slots_of base) lost one slot old h after from.own (subst (λ (n : ℕ). slot < n) same_slots from.of_set) from.by stays lost_at)) may in
      record {
        table = holds.table;
        not_older = not_older_both base table holds.table from.not_older holds.not_older;
        lost_in_set = holds.lost_in_set;
        whole = holds.whole;
        weakened = holds.weakened;
        one_counts = holds.one_counts;
      }

  stays_down : honest → Throughout (StaysDown old) old new
  stays_down is_honest = throughout_more (λ h is. is.stays_down) new
      (in_publish new_table None published.sectors (is_ok result) old new (published.made is_honest))

  -- at each moment all cases hold
  pub marks_throughout : honest → HoldsThroughout base devices lost X old new
  marks_throughout is_honest =
      let moments = published_throughout spellings honest devices table new_table slot one old_panel new_panel old new result published gives is_honest X
      by_old in
      throughout_more (λ h both. both.1) new
      (with_cuts new (stays_down is_honest) (λ t from' to. by_base (cut_at t new) (throughout_cut new (stays_down is_honest) t from')
      (throughout_cut new moments t from')))

  -- and at Ok each image chooses the new table
  pub marks_each : honest → result ≡ Ok tt → (after : Option Lost) → IsLostAt (slots_of base) lost new after
      → InEachImage devices new_table new after (λ image. IsChosen new_table.id devices image new_table)
  marks_each is_honest ok after lost_at =
      let of_base = lost_later (slots_of base) lost one slot old new after from.own (subst (λ (n : ℕ). slot < n) same_slots from.of_set) from.by
      (throughout_last new (stays_down is_honest)) lost_at in
      subst (λ (l : Option Lost). InEachImage devices new_table new l (λ image. IsChosen new_table.id devices image new_table)) (sym of_base.1)
      (published_chosen spellings honest devices table new_table slot one old_panel new_panel old new result published gives is_honest ok)

  -- as do reads
  pub marks_chosen : honest → result ≡ Ok tt → IsChosen new_table.id devices (readable new) new_table
  marks_chosen is_honest ok =
      (published_chosen spellings honest devices table new_table slot one old_panel new_panel old new result published gives is_honest ok).whole (readable new)
      (readable_left new)

-- what a crash may leave of a device is what reads of it give
abbrev pub IsFlushed : History → ℕ → Type 0
IsFlushed h device = (at : ℕ) (value : Bytes) → MayHold h device at value → value ≡ sector_of (seen h device) at

-- it or one of the list
is_first_or : (slot : ℕ) (slots : List ℕ) (device : ℕ) → Contains (slot ∷ slots) device → (slot ≡ device) ⊎ Contains slots device
is_first_or slot slots device has = elim (Contains-append_cases (slot ∷ []) slots device has) [
  | inl here ↦ elim (Contains-push_cases [] slot device here) [
    | inl (k, below, is) ↦ absurd (omega (arith, below))
    | inr same ↦ inl same
  ]
  | inr later ↦ inr later
]

flush_each : (slots : List ℕ) (old new : History) (device : ℕ) → Performs (map (λ slot. Flush slot) slots) true old new → Contains slots device
    ⊎ IsFlushed old device → IsFlushed new device
flush_each [] old new device (all, is) (inl (k, below, at)) = absurd (omega (arith, below))
flush_each [] old new device (all, is) (inr flushed) = subst (λ (h : History). IsFlushed h device) (sym is) flushed
flush_each (slot ∷ slots) old new device (inl (none, is)) given = absurd (cc)
flush_each (slot ∷ slots) old new device (inr (up, rest)) (inr flushed) =
    flush_each slots (after_call (Flush slot) true old) new device rest (inr (λ at value may. flushed at value may.0))
flush_each (slot ∷ slots) old new device (inr (up, rest)) (inl has) = elim (is_first_or slot slots device has) [
  | inl same ↦ flush_each slots (after_call (Flush slot) true old) new device rest (inr (λ at value may. may.1 (sym same)))
  | inr later ↦ flush_each slots (after_call (Flush slot) true old) new device rest (inl later)
]

-- calls that were all answered, in two parts
in_two : (first second : List Call) (old new : History) → Performs (first ++ second) true old new → (mid : History) × Performs first true old mid
    × Performs second true mid new
in_two [] second old new performed = (old, (refl, refl), performed)
in_two (call ∷ first) second old new (inl (none, is)) = absurd (cc)
in_two (call ∷ first) second old new (inr (up, rest)) =
    let parts = in_two first second (after_call call true old) new rest in
    (parts.0, inr (up, parts.1), parts.2)

-- the devices that got the superblock are flushed then
pub published_flushed : (table : Table) (sectors : ℕ → Bytes) (old new : History) → Made (publish_calls table None sectors) true old new → (device : ℕ)
    → GetsIt table None device → IsFlushed new device
published_flushed table sectors old new made device gets =
    let slots = first_slots table None in
    let all = in_two (written_and_flushed table sectors slots) (written_and_flushed table sectors []) old new made.performed in
    let parts = in_two (map (λ slot. Write slot (place_of table) (sectors slot)) slots) (map (λ slot. Flush slot) slots) old all.0 all.1 in
    let flushed = flush_each slots parts.0 all.0 device parts.2 (inl (first gets)) in
    subst (λ (h : History). IsFlushed h device) (sym all.2.1) flushed
  where
    first : GetsIt table None device → Contains (first_slots table None) device
    first gets = elim (Contains-append_cases (first_slots table None) [] device gets) [
      | inl is ↦ is
      | inr (k, below, is) ↦ absurd (omega (arith, below))
    ]
