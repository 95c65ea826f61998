-- The laws of publishing a table.
use Rattle.std.proofs.Common.{◌≡◌, ◌≢◌, ◌⊎◌, inl, inr, ℕ, ◌+◌, ◌<◌, ◌≤◌, Bool, true, false, List, [], ◌∷◌, ◌++◌, length, Option, Some, refl, sym, ◌∙◌, ap}
use Rattle.std.proofs.Common.{subst, arith, mod-lt}
use Rattle.std.specs.Prelude.{Contains, map}
use Rattle.std.proofs.lemmas.List.Elements.{Contains-append_cases, Contains-append_left, Contains-append_right}
use Rattle.sector_model.specs.Bank.{IsTrueTo, Panel}
use Rattle.sector_model.specs.Calls.{Call, Flush, Made, after_all, after_call, device_of}
use Rattle.sector_model.specs.History.{Bytes, History, MayHold, disk_of, is_down, seen, start_of}
use Rattle.sector_model.specs.MemoryLaw.{length-seen}
use Rattle.sector_model.specs.Moments.{Contents, LeavesWithin, Throughout}
use Rattle.sector_model.proofs.Sequences.{AllKeep, AllUp, IsSafe, after_both, down_after, kept_after, made_all, made_up, safe_kept_as, sizes_after}
use Rattle.sector_model.proofs.Sequences.{throughout_kept, throughout_made, up_after}
use Rattle.sector_model.proofs.Steps.{throughout_last, throughout_more}
use Rattle.layout_map.specs.declared.geometry.Geometry.{Geometry}
use Rattle.layout_map.specs.declared.sizes.TheConstants.{SUPERBLOCK_PLACES}
use Rattle.superblock.specs.declared.state.State.TheVariants.{Missing}
use Rattle.superblock.specs.declared.table.Table.{Table}
use Rattle.superblock.specs.Cases.{Lost}
use Rattle.superblock.specs.Losses.{AllChoose}
use Rattle.superblock.specs.NextTables.{slots_of}
use Rattle.superblock.specs.Publishing.{CanPublish, ChooseEither, IsLastToSee, IsSafeAt, LacksIt, MayPublish, StandsAt, first_slots, last_slots, place_of}
use Rattle.superblock.specs.Publishing.{publish_calls, written_and_flushed}
use Rattle.superblock.specs.Tables.{state_at}
use Rattle.superblock.proofs.PublishSteps.{GetsIt, IsInPublish, in_publish_first, publish_keeps}
use Rattle.superblock.proofs.PublishedMoments.{IsMoment, choose_either}
use Rattle.superblock.proofs.PublishedSlots.{IsGiven, first_is, gets_given, phase_safe, phase_up, phase_within}

-- each device that gets the superblock and is up has both places
abbrev pub HavePlaces : Table → Option ℕ → History → Type 0
HavePlaces table last h = (slot : ℕ) → GetsIt table last slot → is_down h slot ≡ false → SUPERBLOCK_PLACES ≤ length (disk_of (start_of h slot))

-- those of a bank in which a table may be published
pub have_places : (panel : Panel) (table : Table) (last : Option ℕ) (h : History) → CanPublish panel table last → IsTrueTo panel h → HavePlaces table last h
have_places panel table last h can is_true slot gets up =
    let given = gets_given table last can.last_in_set can.last_there slot gets in
    omega (arith, can.has_places slot given.of_set given.there (is_true.down slot ∙ up), is_true.sectors slot)

-- rows of calls

up_before : (call : Call) (calls : List Call) (h : History) → AllUp calls (after_call call true h) → AllUp calls h
up_before call [] h up = tt
up_before call (next ∷ calls) h (up, others) = (sym (down_after (call ∷ []) h (device_of next)) ∙ up, up_before call calls h others)

-- a phase: calls that keep what makes P hold, and then, if all of them were answered, the others
safe_phase_up : (P S : History → Type 0) (calls rest : List Call) (h : History) → ((g : History) → S g → P g) → AllKeep S calls → S h
    → (AllUp calls h → IsSafe P rest (after_all calls h)) → IsSafe P (calls ++ rest) h
safe_phase_up P S [] rest h more keep is safe = safe tt
safe_phase_up P S (call ∷ calls) rest h more (keep, others) is safe = (
  more h is,
  more (after_call call false h) (keep.keeps false h is),
  λ up. safe_phase_up P S calls rest (after_call call true h) more others (keep.keeps true h is) (λ all. safe (up, up_before call calls h all)),
)

up_front : (first second : List Call) (h : History) → AllUp (first ++ second) h → AllUp first h
up_front [] second h up = tt
up_front (call ∷ first) second h (up, others) = (up, up_front first second h others)

-- two properties that both hold at each moment
safe_both : (P R : History → Type 0) (calls : List Call) (h : History) → IsSafe P calls h → IsSafe R calls h → IsSafe (λ g. P g × R g) calls h
safe_both P R [] h one two = (one, two)
safe_both P R (call ∷ calls) h one two = ((one.0, two.0), (one.1, two.1), λ up. safe_both P R calls (after_call call true h) (one.2 up) (two.2 up))

-- one that holds at each moment under a condition
safe_if : (G : Type 0) (P : History → Type 0) (calls : List Call) (h : History) → (G → IsSafe P calls h) → IsSafe (λ g. G → P g) calls h
safe_if G P [] h safe = safe
safe_if G P (call ∷ calls) h safe = (
  λ given. (safe given).0,
  λ given. (safe given).1,
  λ up. safe_if G P calls (after_call call true h) (λ given. (safe given).2 up),
)

module _ (table : Table) (last : Option ℕ) (sectors : ℕ → Bytes) (old : History) (places : HavePlaces table last old) where
  abbrev first : List ℕ
  first = first_slots table last

  abbrev lasts : List ℕ
  lasts = last_slots last

  abbrev first_calls : List Call
  first_calls = written_and_flushed table sectors (first_slots table last)

  abbrev last_calls : List Call
  last_calls = written_and_flushed table sectors (last_slots last)

  abbrev flushes_of : List ℕ → List Call
  flushes_of slots = map (λ slot. Flush slot) slots

  -- what may stand in the sectors of the first slots once they are safe
  abbrev SafeOnFirst : Contents
  SafeOnFirst d a v = Contains (first_slots table last) d → a ≡ place_of table → v ≡ sectors d

  -- and in those of the last one until it is written
  abbrev NotOnLast : Contents
  NotOnLast d a v = last ≡ Some d → a ≡ place_of table → v ≢ sectors d

  room : (slot : ℕ) → GetsIt table last slot → is_down old slot ≡ false → place_of table < length (seen old slot)
  room slot gets up = omega (arith, mod-lt, length-seen old slot, places slot gets up)

  first_safe : AllUp (written_and_flushed table sectors (first_slots table last)) old
      → LeavesWithin SafeOnFirst (after_all (written_and_flushed table sectors (first_slots table last)) old)
  first_safe up = record {
    each = λ d a v may has at.
        phase_safe table sectors first old d has (room d (Contains-append_left first lasts d has)
        (phase_up table sectors first (flushes_of first) old up d has)) v
        (subst (λ (k : ℕ). MayHold (after_all first_calls old) d k v) at may);
  }

  first_stay : AllKeep (LeavesWithin SafeOnFirst) (written_and_flushed table sectors (last_slots last))
  first_stay = phase_within table sectors SafeOnFirst lasts (λ slot has _ _. refl)

  last_stays : AllKeep (LeavesWithin NotOnLast) (written_and_flushed table sectors (first_slots table last))
  last_stays = phase_within table sectors NotOnLast first (λ slot has is. absurd ((first_is table last slot has).not_last is))

  lacking : LacksIt table last sectors old → LeavesWithin NotOnLast old
  lacking lacks = record {
    each = λ d a v may is at same. lacks d is (subst (MayHold old d (place_of table)) same (subst (λ (k : ℕ). MayHold old d k v) at may));
  }

  -- the last device sees the superblock once it is safe on the others, whatever is answered
  pub last_safe : LacksIt table last sectors old → IsSafe (IsLastToSee table last sectors) (publish_calls table last sectors) old
  last_safe lacks =
      safe_phase_up (IsLastToSee table last sectors) (LeavesWithin NotOnLast) first_calls last_calls old
      (λ g left slot other is may has. absurd (left.each slot (place_of table) (sectors slot) may is refl refl)) last_stays (lacking lacks)
      (λ up. safe_kept_as (IsLastToSee table last sectors) (LeavesWithin SafeOnFirst) last_calls (after_all first_calls old)
      (λ g left slot other is may has value may'. left.each other (place_of table) value may' has refl) first_stay (first_safe up))

  first_end : (new : History) → Made (publish_calls table last sectors) true old new → (slot : ℕ) → Contains (first_slots table last) slot
      → IsSafeAt new slot (place_of table) (sectors slot)
  first_end new made slot has value may =
      let up = up_front first_calls last_calls old (made_up made) in
      let is : new ≡ after_all last_calls (after_all first_calls old) = made_all made ∙ after_both first_calls last_calls old in
      (kept_after (LeavesWithin SafeOnFirst) last_calls (after_all first_calls old) first_stay (first_safe up)).each slot (place_of table) value
      (subst (λ (h : History). MayHold h slot (place_of table) value) is may) has refl

  first_still : (mid new : History) (answered : Bool) → Made (written_and_flushed table sectors (first_slots table last)) true old mid
      → Made (written_and_flushed table sectors (last_slots last)) answered mid new → (slot : ℕ) → Contains (first_slots table last) slot
      → IsSafeAt new slot (place_of table) (sectors slot)
  first_still mid new answered done rest slot has value may =
      let at_mid : LeavesWithin SafeOnFirst mid = subst (LeavesWithin SafeOnFirst) (sym (made_all done)) (first_safe (made_up done)) in
      let still : LeavesWithin SafeOnFirst new = throughout_last new (throughout_kept (LeavesWithin SafeOnFirst) first_stay at_mid rest) in
      still.each slot (place_of table) value may has refl

  last_end : (new : History) → Made (publish_calls table last sectors) true old new → (slot : ℕ) → Contains (last_slots last) slot
      → IsSafeAt new slot (place_of table) (sectors slot)
  last_end new made slot has value may =
      let mid = after_all first_calls old in
      let up = phase_up table sectors lasts (flushes_of lasts) old (up_after first_calls last_calls old (made_up made)) slot has in
      let is : new ≡ after_all last_calls mid = made_all made ∙ after_both first_calls last_calls old in
      let within = room slot (Contains-append_right first lasts slot has) up in
      phase_safe table sectors lasts mid slot has (omega (arith, within, sizes_after first_calls old slot)) value
      (subst (λ (h : History). MayHold h slot (place_of table) value) is may)

-- once a publish is done, the superblock is safe on each device that gets it
pub published_safe : (table : Table) (last : Option ℕ) (sectors : ℕ → Bytes) (old new : History) → HavePlaces table last old
    → Made (publish_calls table last sectors) true old new
    → (slot : ℕ) → GetsIt table last slot → IsSafeAt new slot (place_of table) (sectors slot)
published_safe table last sectors old new places made slot gets = elim (Contains-append_cases (first_slots table last) (last_slots last) slot gets) [
  | inl has ↦ first_end table last sectors old places new made slot has
  | inr has ↦ last_end table last sectors old places new made slot has
]

-- the calls of the first are all answered, and then some of the last one's may be made
pub record FirstAreDone (table : Table) (last : Option ℕ) (sectors : ℕ → Bytes) (answered : Bool) (old new : History) : Type 0 where
  pub mid : History
  pub first : Made (written_and_flushed table sectors (first_slots table last)) true old mid
  pub rest : Made (written_and_flushed table sectors (last_slots last)) answered mid new

-- so the superblock is safe on each of the first
pub published_first : (table : Table) (last : Option ℕ) (sectors : ℕ → Bytes) (answered : Bool) (old new : History) → HavePlaces table last old
    → FirstAreDone table last sectors answered old new → (slot : ℕ) → Contains (first_slots table last) slot → IsSafeAt new slot (place_of table) (sectors slot)
published_first table last sectors answered old new places done = first_still table last sectors old places done.mid new answered done.first done.rest

-- at each moment the last device sees the superblock only once it is safe on the others
pub published_last : (table : Table) (last : Option ℕ) (sectors : ℕ → Bytes) (old new : History) (answered : Bool) → HavePlaces table last old
    → LacksIt table last sectors old
    → Made (publish_calls table last sectors) answered old new → Throughout (IsLastToSee table last sectors) old new
published_last table last sectors old new answered places lacks made =
    throughout_made (IsLastToSee table last sectors) (last_safe table last sectors old places lacks) made

-- at each moment the images of a case choose the old table, or all of them the new one
pub published_either : (devices : ℕ) (before table : Table) (last : Option ℕ) (lost : Lost) (sectors : ℕ → Bytes) (old new : History) (answered : Bool)
    → ((slot : ℕ) → slot < slots_of table → state_at table.states slot ≢ Missing → StandsAt table slot (sectors slot))
    → ((slot : ℕ) → last ≡ Some slot → slot < slots_of table) → ((slot : ℕ) → last ≡ Some slot → state_at table.states slot ≢ Missing)
    → MayPublish devices before table last lost old → HavePlaces table last old → Made (publish_calls table last sectors) answered old new
    → Throughout (ChooseEither devices before table lost) old new
published_either devices before table last lost sectors old new answered spelled last_in_set last_there may places made =
    throughout_more at_moment new
    (throughout_made (λ h. In h × Sees h)
    (safe_both In Sees (publish_calls table last sectors) old (safe_kept_as In In (publish_calls table last sectors) old (λ h is. is)
    (publish_keeps table last sectors old) (in_publish_first table last sectors old))
    (safe_if (LacksIt table last sectors old) (IsLastToSee table last sectors) (publish_calls table last sectors) old
    (last_safe table last sectors old places)))
    made)
  where
    In : History → Type 0
    In = IsInPublish table last sectors old

    Sees : History → Type 0
    Sees h = LacksIt table last sectors old → IsLastToSee table last sectors h

    as_many : slots_of table ≡ slots_of before
    as_many = ap (λ (g : Geometry). g.members + 2) may.not_older.same_geometry

    given : (slot : ℕ) → GetsIt table last slot → IsGiven table slot
    given = gets_given table last last_in_set last_there

    at_moment : (h : History) → In h × Sees h → ChooseEither devices before table lost h
    at_moment h (is, sees) after image lost_at left =
        let m : IsMoment devices before table last lost sectors old h = record {
          publish = is;
          may = may;
          stands = λ slot gets. spelled slot (given slot gets).of_set (given slot gets).there;
          in_set = λ slot gets. omega (arith, (given slot gets).of_set, as_many);
          lost_in = lost_at.0;
          up = lost_at.2;
          sees = sees;
        } in
        subst (λ (l : Option Lost). AllChoose devices before record { image = image; lost = l } ⊎ AllChoose devices table record { image = image; lost = l })
        (sym lost_at.1)
        (choose_either devices before table last lost sectors old h m image left)
