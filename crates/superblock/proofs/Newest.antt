-- What counts in a sector of a slot, and which of what counts is the newest.
use Rattle.std.proofs.Common.{◌≡◌, ◌≢◌, ◌↔◌, ◌⊎◌, inl, inr, ℕ, ◌+◌, ◌%◌, ◌<◌, ◌≤◌, List, [], length, refl, subst, sym, ap, ◌∙◌, arith, Option, Some, None}
use Rattle.std.specs.Prelude.{IsTrue, nat_le, ◌==◌}
use Rattle.std.proofs.lemmas.Bool.{cases_lt, cases_eq, cond_below, cond_above}
use Rattle.std.proofs.lemmas.Bool.Decides.{nat_tests}
use Rattle.std.proofs.lemmas.List.{get_or_past}
use Rattle.layout_map.specs.declared.sizes.TheConstants.{SUPERBLOCK_PLACES}
use Rattle.sector_model.specs.History.{Bytes, Slots, disk_of, sector_of}
use Rattle.superblock.specs.declared.table.Superblock.{Superblock}
use Rattle.superblock.specs.Spelling.{superblock_sector}
use Rattle.superblock.specs.Counted.{Content, Counts, HasIncarnation, IsChosen}
use Rattle.superblock.specs.Newest.{BelongsAt, CountsIn, CountsNone, ImageCountsNone, IsNewest, IsOfSet, SlotCountsNone, newer_of}
use Rattle.superblock.specs.Tables.{incarnation_at}
use Rattle.superblock.proofs.Spelled.{length-superblock_sector, one_superblock}

-- no bytes spell no superblock
pub nothing_spells : (superblock : Superblock) → [] ≢ superblock_sector superblock
nothing_spells superblock is = omega (arith, ap length is, length-superblock_sector superblock)

-- the last of two tests decides
pub set_iff : (id : List ℕ) (devices : ℕ) (superblock : Superblock) → superblock.table.id ≡ id
    → IsTrue (nat_le (superblock.table.geometry.members + 2) devices) ↔ IsOfSet id devices superblock
set_iff id devices superblock of_set = (
  (λ fits. record { of_set = of_set; has_slots = grind (arith, nat_tests, fits) }),
  (λ own. let fits = own.has_slots in grind (arith, nat_tests, fits)),
)

pub place_iff : (slot place : ℕ) (superblock : Superblock) → superblock.role ≡ slot
    → IsTrue (superblock.table.generation % SUPERBLOCK_PLACES == place) ↔ BelongsAt slot place superblock
place_iff slot place superblock own_slot = (
  (λ same. record { own_slot = own_slot; own_place = grind (arith, nat_tests, same) }),
  (λ own. let same = own.own_place in grind (arith, nat_tests, same)),
)

-- a superblock that a sector spells counts where the sector stands
pub counts_in : (id : List ℕ) (devices slot place : ℕ) (sector : Bytes) (superblock : Superblock) (content : Content)
    → sector_of (disk_of content) place ≡ sector
    → CountsIn id devices slot place sector superblock → Counts id devices slot content place superblock
counts_in id devices slot place sector superblock content stands is = record {
  stands = stands ∙ is.spelled;
  of_set = is.of_set.of_set;
  own_place = is.belongs.own_place;
  own_slot = is.belongs.own_slot;
  has_slots = is.of_set.has_slots;
}

pub in_counts : (id : List ℕ) (devices slot place : ℕ) (sector : Bytes) (superblock : Superblock) (content : Content)
    → sector_of (disk_of content) place ≡ sector
    → Counts id devices slot content place superblock → CountsIn id devices slot place sector superblock
in_counts id devices slot place sector superblock content stands is = record {
  spelled = sym stands ∙ is.stands;
  of_set = record { of_set = is.of_set; has_slots = is.has_slots };
  belongs = record { own_slot = is.own_slot; own_place = is.own_place };
}

-- nothing counts where there are no bytes
pub none_beyond : (id : List ℕ) (devices slot place : ℕ) (content : Content) → length (disk_of content) ≤ place → CountsNone id devices slot content place
none_beyond id devices slot place content short superblock counts =
    nothing_spells superblock (sym (get_or_past (disk_of content) place [] short) ∙ counts.stands)

-- the same of what was found in a sector that is known to stand there
pub counted_there : (id : List ℕ) (devices slot place : ℕ) (content : Content) (sector : Bytes) (superblock : Superblock)
    → sector ≡ sector_of (disk_of content) place
    → CountsIn id devices slot place sector superblock → Counts id devices slot content place superblock
counted_there id devices slot place content sector superblock stands is = counts_in id devices slot place sector superblock content (sym stands) is

pub none_counted_there : (id : List ℕ) (devices slot place : ℕ) (content : Content) (sector : Bytes) → sector ≡ sector_of (disk_of content) place
    → ((superblock : Superblock) → ¬ CountsIn id devices slot place sector superblock) → CountsNone id devices slot content place
none_counted_there id devices slot place content sector stands none superblock counts =
    none superblock (in_counts id devices slot place sector superblock content (sym stands) counts)

-- what counts is in one of the slots of the bank
pub counted_within : (id : List ℕ) (devices slot : ℕ) (content : Content) (place : ℕ) (superblock : Superblock)
    → Counts id devices slot content place superblock → slot < devices
counted_within id devices slot content place superblock counts =
    let within = superblock.of_set in let role = counts.own_slot in let slots = counts.has_slots in omega arith

-- one superblock counts in a place
one_counted : (id : List ℕ) (devices slot : ℕ) (content : Content) (place : ℕ) (first second : Superblock)
    → Counts id devices slot content place first → Counts id devices slot content place second → first ≡ second
one_counted id devices slot content place first second is_first is_second = one_superblock first second (sym is_first.stands ∙ is_second.stands)

-- there are two places
two_places : (generation place : ℕ) → generation % SUPERBLOCK_PLACES ≡ place → (place ≡ 0) ⊎ (place ≡ 1)
two_places generation place is = elim (cases_eq place 0) [
  | inl first ↦ inl first
  | inr other ↦ inr (omega arith)
]

in_two : (id : List ℕ) (devices slot : ℕ) (content : Content) (most : ℕ)
    → ((s : Superblock) → Counts id devices slot content 0 s → s.table.generation ≤ most)
    → ((s : Superblock) → Counts id devices slot content 1 s → s.table.generation ≤ most)
    → (place : ℕ) (s : Superblock) → Counts id devices slot content place s → s.table.generation ≤ most
in_two id devices slot content most first second place s counts = elim (two_places s.table.generation place counts.own_place) [
  | inl is ↦ first s (subst (λ (at : ℕ). Counts id devices slot content at s) is counts)
  | inr is ↦ second s (subst (λ (at : ℕ). Counts id devices slot content at s) is counts)
]

-- the superblock that counts in a place, or that there is none
abbrev pub CountedAt : List ℕ → ℕ → ℕ → Content → ℕ → Option Superblock → Type 0
CountedAt id devices slot content place None = CountsNone id devices slot content place
CountedAt id devices slot content place (Some superblock) = Counts id devices slot content place superblock

-- the newest that counts in what a slot has, or that there is none
abbrev pub NewestOf : List ℕ → ℕ → ℕ → Content → Option Superblock → Type 0
NewestOf id devices slot content None = SlotCountsNone id devices slot content
NewestOf id devices slot content (Some newest) = IsNewest id devices slot content newest

at_most : (id : List ℕ) (devices slot : ℕ) (content : Content) (place : ℕ) (most : ℕ) (one other : Superblock)
    → Counts id devices slot content place one → one.table.generation ≤ most → Counts id devices slot content place other → other.table.generation ≤ most
at_most id devices slot content place most one other is_one below is_other =
    let same : one.table.generation ≡ other.table.generation =
    ap (λ (s : Superblock). s.table.generation) (one_counted id devices slot content place one other is_one is_other) in
    omega arith

-- the newer of two, as it is looked for
pub newer_second : (first second : Option Superblock) (old new : Superblock) → first ≡ Some old → second ≡ Some new
    → old.table.generation < new.table.generation
    → second ≡ newer_of first second
newer_second first second old new is_first is_second below =
    is_second ∙ cond_below old.table.generation new.table.generation (Some new) (Some old) below
    ∙ sym (ap (λ (f : Option Superblock). newer_of f second) is_first ∙ ap (λ (s : Option Superblock). newer_of (Some old) s) is_second)

pub newer_first : (first second : Option Superblock) (old new : Superblock) → first ≡ Some old → second ≡ Some new → new.table.generation ≤ old.table.generation
    → first ≡ newer_of first second
newer_first first second old new is_first is_second above =
    is_first ∙ cond_above old.table.generation new.table.generation (Some new) (Some old) (Some old) above refl
    ∙ sym (ap (λ (f : Option Superblock). newer_of f second) is_first ∙ ap (λ (s : Option Superblock). newer_of (Some old) s) is_second)

pub newer_alone : (first second : Option Superblock) (old : Superblock) → first ≡ Some old → second ≡ None → first ≡ newer_of first second
newer_alone first second old is_first is_second =
    is_first ∙ sym (ap (λ (f : Option Superblock). newer_of f second) is_first ∙ ap (λ (s : Option Superblock). newer_of (Some old) s) is_second)

-- the newer of those in the two places is the newest
pub newest_of_two : (id : List ℕ) (devices slot : ℕ) (content : Content) (even odd : Option Superblock)
    → CountedAt id devices slot content 0 even → CountedAt id devices slot content 1 odd → NewestOf id devices slot content (newer_of even odd)
newest_of_two id devices slot content None None none_even none_odd = λ place s counts. elim (two_places s.table.generation place counts.own_place) [
  | inl is ↦ none_even s (subst (λ (at : ℕ). Counts id devices slot content at s) is counts)
  | inr is ↦ none_odd s (subst (λ (at : ℕ). Counts id devices slot content at s) is counts)
]
newest_of_two id devices slot content None (Some b) none_even is_odd = record {
  place = 1;
  counted = is_odd;
  greatest = in_two id devices slot content b.table.generation
      (λ s counts. absurd (none_even s counts))
      (λ s counts. at_most id devices slot content 1 b.table.generation b s is_odd (omega arith) counts);
}
newest_of_two id devices slot content (Some a) None is_even none_odd = record {
  place = 0;
  counted = is_even;
  greatest = in_two id devices slot content a.table.generation
      (λ s counts. at_most id devices slot content 0 a.table.generation a s is_even (omega arith) counts)
      (λ s counts. absurd (none_odd s counts));
}
newest_of_two id devices slot content (Some a) (Some b) is_even is_odd = elim (cases_lt a.table.generation b.table.generation) [
  | inl below ↦ subst (λ (o : Option Superblock). NewestOf id devices slot content o) (cond_below a.table.generation b.table.generation (Some b) (Some a) below)
      record {
        place = 1;
        counted = is_odd;
        greatest = in_two id devices slot content b.table.generation
            (λ s counts. at_most id devices slot content 0 b.table.generation a s is_even (omega arith) counts)
            (λ s counts. at_most id devices slot content 1 b.table.generation b s is_odd (omega arith) counts);
      }
  | inr above ↦ subst (λ (o : Option Superblock). NewestOf id devices slot content o)
      (cond_above a.table.generation b.table.generation (Some b) (Some a) (Some a) above refl)
      record {
        place = 0;
        counted = is_even;
        greatest = in_two id devices slot content a.table.generation
            (λ s counts. at_most id devices slot content 0 a.table.generation a s is_even (omega arith) counts)
            (λ s counts. at_most id devices slot content 1 a.table.generation b s is_odd (omega arith) counts);
      }
]

-- the newest says the own incarnation
pub own_of_newest : (id : List ℕ) (devices slot : ℕ) (content : Content) (newest : Superblock) → IsNewest id devices slot content newest
    → HasIncarnation id devices slot content (incarnation_at newest.table.incarnations slot)
own_of_newest id devices slot content newest is = record { place = is.place; newest = newest; counted = is.counted; greatest = is.greatest; own = refl }

-- what counts is in one of the ten slots
pub newest_within : (id : List ℕ) (devices slot : ℕ) (content : Content) (newest : Superblock) → IsNewest id devices slot content newest → slot < 10
newest_within id devices slot content newest is =
    let within = newest.of_set in let role = is.counted.own_slot in let most = newest.table.geometry.limits.members_most in omega arith

pub incarnation_within : (id : List ℕ) (devices slot : ℕ) (content : Content) (incarnation : ℕ) → HasIncarnation id devices slot content incarnation → slot < 10
incarnation_within id devices slot content incarnation has =
    newest_within id devices slot content has.newest record { place = has.place; counted = has.counted; greatest = has.greatest }

-- there is one own incarnation
pub one_incarnation : (id : List ℕ) (devices slot : ℕ) (content : Content) (first second : ℕ)
    → HasIncarnation id devices slot content first → HasIncarnation id devices slot content second → first ≡ second
one_incarnation id devices slot content first second is_first is_second =
    let at_least = is_first.greatest is_second.place is_second.newest is_second.counted in
    let at_most = is_second.greatest is_first.place is_first.newest is_first.counted in
    let generations : is_first.newest.table.generation ≡ is_second.newest.table.generation = omega arith in
    let places : is_first.place ≡ is_second.place = sym is_first.counted.own_place ∙ ap (λ (g : ℕ). g % SUPERBLOCK_PLACES) generations
    ∙ is_second.counted.own_place in
    let newest = one_counted id devices slot content is_second.place is_first.newest is_second.newest
    (subst (λ (at : ℕ). Counts id devices slot content at is_first.newest) places is_first.counted) is_second.counted in
    sym is_first.own ∙ ap (λ (s : Superblock). incarnation_at s.table.incarnations slot) newest ∙ is_second.own

-- the newest of the first n slots, and of several equally new ones that in the lowest slot
pub record BestTo (id : List ℕ) (devices : ℕ) (image : Slots) (n : ℕ) (best : Superblock) : Type 0 where
  pub slot : ℕ
  pub place : ℕ
  pub within : slot < n
  pub counted : Counts id devices slot (image slot) place best
  pub greatest : (other at : ℕ) (s : Superblock) → other < n → Counts id devices other (image other) at s → s.table.generation ≤ best.table.generation
  pub first : (other at : ℕ) (s : Superblock) → other < slot → Counts id devices other (image other) at s → s.table.generation < best.table.generation

-- the same, or that there is none in these slots
abbrev pub IsBestTo : List ℕ → ℕ → Slots → ℕ → Option Superblock → Type 0
IsBestTo id devices image n None = (slot place : ℕ) (s : Superblock) → slot < n → ¬ Counts id devices slot (image slot) place s
IsBestTo id devices image n (Some best) = BestTo id devices image n best

-- what holds of the slots below and of the next one
next_at_most : (id : List ℕ) (devices : ℕ) (image : Slots) (n most : ℕ)
    → ((other at : ℕ) (s : Superblock) → other < n → Counts id devices other (image other) at s → s.table.generation ≤ most)
    → ((at : ℕ) (s : Superblock) → Counts id devices n (image n) at s → s.table.generation ≤ most)
    → (other at : ℕ) (s : Superblock) → other < n + 1 → Counts id devices other (image other) at s → s.table.generation ≤ most
next_at_most id devices image n most below here other at s within counts = elim (cases_eq other n) [
  | inl same ↦ here at s (subst (λ (k : ℕ). Counts id devices k (image k) at s) same counts)
  | inr less ↦ below other at s (omega arith) counts
]

pub best_step : (id : List ℕ) (devices : ℕ) (image : Slots) (n : ℕ) (best next : Option Superblock)
    → IsBestTo id devices image n best → NewestOf id devices n (image n) next → IsBestTo id devices image (n + 1) (newer_of best next)
best_step id devices image n None None below here = λ slot place s within counts. elim (cases_eq slot n) [
  | inl same ↦ here place s (subst (λ (k : ℕ). Counts id devices k (image k) place s) same counts)
  | inr less ↦ below slot place s (omega arith) counts
]
best_step id devices image n None (Some b) below here = record {
  slot = n;
  place = here.place;
  within = omega arith;
  counted = here.counted;
  greatest = next_at_most id devices image n b.table.generation (λ other at s within counts. absurd (below other at s within counts)) here.greatest;
  first = λ other at s within counts. absurd (below other at s within counts);
}
best_step id devices image n (Some a) None below here = record {
  slot = below.slot;
  place = below.place;
  within = omega arith;
  counted = below.counted;
  greatest = next_at_most id devices image n a.table.generation below.greatest (λ at s counts. absurd (here at s counts));
  first = below.first;
}
best_step id devices image n (Some a) (Some b) below here = elim (cases_lt a.table.generation b.table.generation) [
  | inl older ↦ subst (λ (o : Option Superblock). IsBestTo id devices image (n + 1) o)
      (cond_below a.table.generation b.table.generation (Some b) (Some a) older)
      record {
        slot = n;
        place = here.place;
        within = omega arith;
        counted = here.counted;
        greatest = next_at_most id devices image n b.table.generation
            (λ other at s within counts. let most = below.greatest other at s within counts in omega arith) here.greatest;
        first = λ other at s within counts. let most = below.greatest other at s within counts in omega arith;
      }
  | inr newer ↦ subst (λ (o : Option Superblock). IsBestTo id devices image (n + 1) o)
      (cond_above a.table.generation b.table.generation (Some b) (Some a) (Some a) newer refl)
      record {
        slot = below.slot;
        place = below.place;
        within = omega arith;
        counted = below.counted;
        greatest = next_at_most id devices image n a.table.generation below.greatest (λ at s counts. let most = here.greatest at s counts in omega arith);
        first = below.first;
      }
]

-- at the end it is the best of all
pub chosen_at_end : (id : List ℕ) (devices n : ℕ) (image : Slots) (found : Option Superblock) (best : Superblock) → devices ≤ n
    → IsBestTo id devices image n found → found ≡ Some best → IsChosen id devices image best.table
chosen_at_end id devices n image found best all below is_best =
    let is : BestTo id devices image n best = subst (λ (o : Option Superblock). IsBestTo id devices image n o) is_best below in
    record {
      slot = is.slot;
      place = is.place;
      best = best;
      counted = is.counted;
      carried = refl;
      greatest = λ other at s counts. let within = counted_within id devices other (image other) at s counts in is.greatest other at s (omega arith) counts;
      first = λ other at s counts same. elim (cases_lt other is.slot) [
        | inl before ↦ let less = is.first other at s before counts in absurd (omega arith)
        | inr beyond ↦ beyond
      ];
    }

pub none_at_end : (id : List ℕ) (devices n : ℕ) (image : Slots) (found : Option Superblock) → devices ≤ n
    → IsBestTo id devices image n found → found ≡ None → ImageCountsNone id devices image
none_at_end id devices n image found all below is_none slot place s counts =
    let none : IsBestTo id devices image n None = subst (λ (o : Option Superblock). IsBestTo id devices image n o) is_none below in
    let within = counted_within id devices slot (image slot) place s counts in
    none slot place s (omega arith) counts
