-- Which table is chosen with something else in a slot.
use Rattle.std.proofs.Common.{◌≡◌, ◌≢◌, ◌⊎◌, inl, inr, ℕ, ◌+◌, ◌%◌, ◌<◌, ◌≤◌, None, refl, sym, ◌∙◌, ap, subst, arith}
use Rattle.std.proofs.Props.{props}
use Rattle.std.proofs.lemmas.Bool.{cases_eq, cases_lt}
use mathlib.Core.HLevel.{is_prop→PathP}
use mathlib.Core.List.{List-discrete}
use native.Mathlib.Decide.{ℕ_discrete}
use Rattle.sector_model.specs.History.{Slots, disk_of, sector_of}
use Rattle.layout_map.specs.declared.sizes.TheConstants.{SUPERBLOCK_PLACES}
use Rattle.superblock.specs.declared.state.State.{State}
use Rattle.superblock.specs.declared.state.State.TheVariants.{Missing, InSync, Rebuilding}
use Rattle.superblock.specs.declared.table.Table.{Table}
use Rattle.superblock.specs.declared.table.Superblock.{Superblock}
use Rattle.superblock.specs.Tables.{state_at}
use Rattle.superblock.specs.Counted.{Content, Counts, IsChosen}
use Rattle.superblock.specs.Spelling.{superblock_sector}
use Rattle.superblock.specs.Cases.{with_slot}
use Rattle.array_io.specs.Laws.Core.{IsKnown}
use Rattle.array_io.proofs.Images.Counting.{none_counts}
use Rattle.array_io.proofs.Images.Put.{put_there, put_elsewhere}
use Rattle.array_io.proofs.Images.Spellings.{Spellings}

-- a superblock is known by its table and its role
same_superblock : (a b : Superblock) → a.table ≡ b.table → a.role ≡ b.role → a ≡ b
same_superblock a b table role = λ i. record {
  table = table i;
  role = role i;
  of_set = is_prop→PathP (λ j. role j < (table j).geometry.members + 2) (λ j. hlevel props) a.of_set b.of_set i;
  there = is_prop→PathP (λ j. state_at (table j).states (role j) ≢ Missing) (λ j. hlevel props) a.there b.there i;
}

-- a counted superblock that is as new as the table
pub record IsAsNew (devices : ℕ) (table : Table) (slot : ℕ) (content : Content) : Type 0 where
  pub place : ℕ
  pub superblock : Superblock
  pub counts : Counts table.id devices slot content place superblock
  pub equal : superblock.table.generation ≡ table.generation

-- the superblock that a slot would have of the table, if it may have one
one_or_none : (table : Table) (slot : ℕ) → ((superblock : Superblock) × (superblock.table ≡ table) × (superblock.role ≡ slot))
    ⊎ ((superblock : Superblock) → superblock.table ≡ table → superblock.role ≢ slot)
one_or_none table slot = elim (cases_lt slot (table.geometry.members + 2)) [
  | inl in_set ↦ by_state (state_at table.states slot) refl in_set
  | inr beyond ↦ inr (λ superblock carried is. absurd (omega (arith, superblock.of_set, ap (λ (t : Table). t.geometry.members) carried, is, beyond)))
]
  where
    there : slot < table.geometry.members + 2 → state_at table.states slot ≢ Missing
        → ((superblock : Superblock) × (superblock.table ≡ table) × (superblock.role ≡ slot))
    there in_set not_missing = (record { table = table; role = slot; of_set = in_set; there = not_missing }, refl, refl)

    by_state : (state : State) → state_at table.states slot ≡ state → slot < table.geometry.members + 2
        → ((superblock : Superblock) × (superblock.table ≡ table) × (superblock.role ≡ slot))
        ⊎ ((superblock : Superblock) → superblock.table ≡ table → superblock.role ≢ slot)
    by_state Missing missing in_set = inr (λ superblock carried is.
        superblock.there (ap (λ (r : ℕ). state_at superblock.table.states r) is ∙ ap (λ (t : Table). state_at t.states slot) carried ∙ missing))
    by_state InSync in_sync in_set = inl (there in_set (λ missing. absurd (differ (sym in_sync ∙ missing))))
      where
        differ : ¬ (InSync ≡ Missing)
        differ is = cc
    by_state Rebuilding rebuilding in_set = inl (there in_set (λ missing. absurd (differ (sym rebuilding ∙ missing))))
      where
        differ : ¬ (Rebuilding ≡ Missing)
        differ is = cc

-- it is settled whether what is known has one
pub as_new_or_not : (devices : ℕ) (table : Table) (slot : ℕ) (content : Content) → table.geometry.members + 2 ≤ devices → IsKnown devices table slot content
    → IsAsNew devices table slot content ⊎ ¬ IsAsNew devices table slot content
as_new_or_not devices table slot content room known = elim (one_or_none table slot) [
  | inl own ↦ by_sector own (List-discrete ℕ_discrete (sector_of (disk_of content) (table.generation % SUPERBLOCK_PLACES)) (superblock_sector own.0))
  | inr none ↦ inr (λ new. none new.superblock (known.as_new new.place new.superblock new.counts new.equal) new.counts.own_slot)
]
  where
    by_sector : (own : (superblock : Superblock) × (superblock.table ≡ table) × (superblock.role ≡ slot))
        → Dec (sector_of (disk_of content) (table.generation % SUPERBLOCK_PLACES) ≡ superblock_sector own.0) → IsAsNew devices table slot content
        ⊎ ¬ IsAsNew devices table slot content
    by_sector own (yes stands) = inl (record {
      place = table.generation % SUPERBLOCK_PLACES;
      superblock = own.0;
      counts = record {
        stands = stands;
        of_set = ap (λ (t : Table). t.id) own.1;
        own_place = ap (λ (t : Table). t.generation % SUPERBLOCK_PLACES) own.1;
        own_slot = own.2;
        has_slots = omega (arith, ap (λ (t : Table). t.geometry.members) own.1, room);
      };
      equal = ap (λ (t : Table). t.generation) own.1;
    })
    by_sector own (no other) = inr (λ new. other (
        ap (λ (p : ℕ). sector_of (disk_of content) p) (sym (ap (λ (g : ℕ). g % SUPERBLOCK_PLACES) new.equal) ∙ new.counts.own_place)
        ∙ new.counts.stands
        ∙ ap superblock_sector (same_superblock new.superblock own.0 (known.as_new new.place new.superblock new.counts new.equal ∙ sym own.1)
        (new.counts.own_slot ∙ sym own.2))))

-- the table that is chosen without a slot is chosen with what is known to it in that slot
pub chosen_with : Spellings → (devices : ℕ) (table : Table) (image : Slots) (slot : ℕ) (content : Content)
    → IsChosen table.id devices (with_slot image slot None) table
    → IsKnown devices table slot content → IsChosen table.id devices (with_slot image slot content) table
chosen_with spellings devices table image slot content chosen known =
    elim (cases_lt slot chosen.slot) [
      | inl below ↦ elim (as_new_or_not devices table slot content room known) [
        | inl new ↦ by_own new below
        | inr not_new ↦ by_same (λ at superblock counts equal.
            absurd (not_new (record { place = at; superblock = superblock; counts = counts; equal = equal })))
      ]
      | inr beyond ↦ by_same (λ at superblock counts equal. beyond)
    ]
  where
    room : table.geometry.members + 2 ≤ devices
    room = omega (arith, chosen.counted.has_slots, ap (λ (t : Table). t.geometry.members) chosen.carried)

    -- what counts in another slot counts there without the slot too
    apart_from : (other at : ℕ) (superblock : Superblock) → other ≢ slot → Counts table.id devices other (with_slot image slot content other) at superblock
        → Counts table.id devices other (with_slot image slot None other) at superblock
    apart_from other at superblock apart counts =
        subst (λ (c : Content). Counts table.id devices other c at superblock)
        (put_elsewhere image slot content other apart ∙ sym (put_elsewhere image slot None other apart)) counts

    here : (other at : ℕ) (superblock : Superblock) → other ≡ slot → Counts table.id devices other (with_slot image slot content other) at superblock
        → Counts table.id devices slot content at superblock
    here other at superblock is counts = subst (λ (c : Content). Counts table.id devices slot c at superblock) (put_there image slot content)
        (subst (λ (k : ℕ). Counts table.id devices k (with_slot image slot content k) at superblock) is counts)

    greatest : (other at : ℕ) (superblock : Superblock) → Counts table.id devices other (with_slot image slot content other) at superblock
        → superblock.table.generation ≤ table.generation
    greatest other at superblock counts = elim (cases_eq other slot) [
      | inl is ↦ known.no_newer at superblock (here other at superblock is counts)
      | inr apart ↦ chosen.greatest other at superblock (apart_from other at superblock apart counts)
    ]

    not_slot : chosen.slot ≢ slot
    not_slot is = none_counts spellings table.id devices slot chosen.place chosen.best
        (subst (λ (c : Content). Counts table.id devices slot c chosen.place chosen.best) (put_there image slot None)
        (subst (λ (k : ℕ). Counts table.id devices k (with_slot image slot None k) chosen.place chosen.best) is chosen.counted))

    by_same : ((at : ℕ) (superblock : Superblock) → Counts table.id devices slot content at superblock → superblock.table.generation ≡ table.generation
        → chosen.slot ≤ slot)
        → IsChosen table.id devices (with_slot image slot content) table
    by_same first = record {
      slot = chosen.slot;
      place = chosen.place;
      best = chosen.best;
      counted = subst (λ (c : Content). Counts table.id devices chosen.slot c chosen.place chosen.best)
          (put_elsewhere image slot None chosen.slot not_slot ∙ sym (put_elsewhere image slot content chosen.slot not_slot)) chosen.counted;
      carried = chosen.carried;
      greatest = greatest;
      first = λ other at superblock counts equal. elim (cases_eq other slot) [
        | inl is ↦ omega (arith, first at superblock (here other at superblock is counts) equal, is)
        | inr apart ↦ chosen.first other at superblock (apart_from other at superblock apart counts) equal
      ];
    }

    by_own : IsAsNew devices table slot content → slot < chosen.slot → IsChosen table.id devices (with_slot image slot content) table
    by_own new below = record {
      slot = slot;
      place = new.place;
      best = new.superblock;
      counted = subst (λ (c : Content). Counts table.id devices slot c new.place new.superblock) (sym (put_there image slot content)) new.counts;
      carried = known.as_new new.place new.superblock new.counts new.equal;
      greatest = greatest;
      first = λ other at superblock counts equal. elim (cases_eq other slot) [
        | inl is ↦ omega (arith, is)
        | inr apart ↦ let least : chosen.slot ≤ other =
            chosen.first other at superblock (apart_from other at superblock apart counts) equal in omega (arith, least, below)
      ];
    }
