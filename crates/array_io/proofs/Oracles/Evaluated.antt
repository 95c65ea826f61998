-- The parts of what an image says of a set's rows.
use Rattle.std.proofs.Common.{◌≡◌, ◌⊎◌, inl, inr, ℕ, ◌+◌, ◌<◌, ◌≤◌, List, refl, subst, sym, ap, arith, Option, Some, None}
use Rattle.std.specs.Prelude.{slice_get}
use Rattle.std.proofs.lemmas.Bool.{cases_eq}
use Rattle.sector_model.specs.History.{Slots}
use Rattle.sector_model.specs.Memory.{Disk, sectors_in, slot_in, slots_of}
use Rattle.superblock.specs.declared.table.Table.{Table}
use Rattle.superblock.specs.Counted.{Content, IsLive}
use Rattle.superblock.proofs.Newest.{counted_within}
use Rattle.stripe_journal.specs.declared.seal.Seal.{Seal}
use Rattle.stripe_journal.specs.LastEntry.{Counts, IsGreatest, IsLastEntry, IsLastSealed}
use Rattle.array_io.specs.Oracle.{IsSealedAt}
use Rattle.array_io.specs.Believed.Holds.{IsLiveJournal}

-- what is live stands in a slot of the bank
pub live_within : (devices : ℕ) (table : Table) (slot : ℕ) (content : Content) → IsLive devices table slot content → slot < devices
live_within devices table slot content live =
    counted_within table.id devices slot content live.incarnation.place live.incarnation.newest live.incarnation.counted

-- what holds of the content of a slot
pub at_slot : (items : List (Option Disk)) (slot : ℕ) (content : Option Disk) → slice_get items slot ≡ Some content → sectors_in content ≡ slots_of items slot
at_slot items slot content is = sym (ap slot_in is)

pub sealed_live : (devices : ℕ) (table : Table) (image : Slots) (slot : ℕ) (content : Content) (found : Option Seal) → content ≡ image slot
    → IsLive devices table slot (image slot) → IsLastSealed table.id table.geometry content found → IsSealedAt devices table image slot found
sealed_live devices table image slot content None is live last = λ place seal _ counts.
    last place seal (subst (λ (c : Content). Counts table.id table.geometry c place seal) (sym is) counts)
sealed_live devices table image slot content (Some seal) is live last =
    (live, subst (λ (c : Content). IsGreatest table.id table.geometry c seal) is last)

-- one of the two journals
which_journal : (devices : ℕ) (table : Table) (image : Slots) (slot : ℕ) → IsLiveJournal devices table image slot
    → (slot ≡ table.geometry.members) ⊎ (slot ≡ table.geometry.members + 1)
which_journal devices table image slot live = let beyond = live.beyond_members in let within = live.of_set in
    elim (cases_eq slot table.geometry.members) [
      | inl lower ↦ inl lower
      | inr upper ↦ inr (omega arith)
    ]

-- an image, the last seals of its two journals, and what is to be shown of a seal on either
abbrev pub NumberMost : Option Seal → ℕ → Type 0
NumberMost None most = Unit {0}
NumberMost (Some seal) most = seal.number ≤ most

-- a live journal's greatest seal has the number of the one that was found, and none was found where none counts
same_number : (devices : ℕ) (table : Table) (image : Slots) (slot most : ℕ) (found : Option Seal) (seal : Seal) → IsSealedAt devices table image slot found
    → NumberMost found most → IsLive devices table slot (image slot) → IsGreatest table.id table.geometry (image slot) seal → seal.number ≤ most
same_number devices table image slot most None seal none below live greatest = absurd (none greatest.place seal live greatest.counted)
same_number devices table image slot most (Some s) seal is below live greatest =
    let most_of = is.1.greatest greatest.place seal greatest.counted in omega arith

journals_most : (devices : ℕ) (table : Table) (image : Slots) (most : ℕ) (lower upper : Option Seal)
    → IsSealedAt devices table image table.geometry.members lower → IsSealedAt devices table image (table.geometry.members + 1) upper
    → NumberMost lower most → NumberMost upper most
    → (journal : ℕ) (seal : Seal) → IsLiveJournal devices table image journal → IsGreatest table.id table.geometry (image journal) seal → seal.number ≤ most
journals_most devices table image most lower upper is_lower is_upper below_lower below_upper journal seal live greatest =
    elim (which_journal devices table image journal live) [
      | inl is ↦ same_number devices table image table.geometry.members most lower seal is_lower below_lower
          (subst (λ (j : ℕ). IsLive devices table j (image j)) is live.live)
          (subst (λ (j : ℕ). IsGreatest table.id table.geometry (image j) seal) is greatest)
      | inr is ↦ same_number devices table image (table.geometry.members + 1) most upper seal is_upper below_upper
          (subst (λ (j : ℕ). IsLive devices table j (image j)) is live.live)
          (subst (λ (j : ℕ). IsGreatest table.id table.geometry (image j) seal) is greatest)
    ]

-- the lower journal has it
pub lower_is_last : (devices : ℕ) (table : Table) (image : Slots) (lower : Seal) (upper : Option Seal)
    → IsSealedAt devices table image table.geometry.members (Some lower) → IsSealedAt devices table image (table.geometry.members + 1) upper
    → NumberMost upper lower.number
    → IsLastEntry table.id table.geometry (IsLiveJournal devices table image) image (Some record { journal = table.geometry.members; seal = lower })
lower_is_last devices table image lower upper is_lower is_upper below =
    let live : IsLiveJournal devices table image table.geometry.members = record { beyond_members = omega arith; of_set = omega arith; live = is_lower.0 } in
    let greatest = journals_most devices table image lower.number (Some lower) upper is_lower is_upper (omega arith) below in
    record { on_live = live; sealed = is_lower.1; greatest = greatest; lowest = λ other s is_live _ _. is_live.beyond_members }

-- the upper journal has it
pub upper_is_last : (devices : ℕ) (table : Table) (image : Slots) (lower : Option Seal) (upper : Seal)
    → IsSealedAt devices table image table.geometry.members lower → IsSealedAt devices table image (table.geometry.members + 1) (Some upper)
    → ((s : Seal) → lower ≡ Some s → s.number < upper.number)
    → IsLastEntry table.id table.geometry (IsLiveJournal devices table image) image (Some record { journal = table.geometry.members + 1; seal = upper })
upper_is_last devices table image None upper is_lower is_upper above =
    let live : IsLiveJournal devices table image (table.geometry.members + 1) =
    record { beyond_members = omega arith; of_set = omega arith; live = is_upper.0 } in
    let greatest = journals_most devices table image upper.number None (Some upper) is_lower is_upper tt (omega arith) in
    record {
      on_live = live;
      sealed = is_upper.1;
      greatest = greatest;
      lowest = λ other s is_live great _. elim (which_journal devices table image other is_live) [
        | inl is ↦ absurd (is_lower great.place s (subst (λ (j : ℕ). IsLive devices table j (image j)) is is_live.live)
            (subst (λ (j : ℕ). Counts table.id table.geometry (image j) great.place s) is great.counted))
        | inr is ↦ omega arith
      ];
    }
upper_is_last devices table image (Some low) upper is_lower is_upper above =
    let less : low.number < upper.number = above low refl in
    let live : IsLiveJournal devices table image (table.geometry.members + 1) =
    record { beyond_members = omega arith; of_set = omega arith; live = is_upper.0 } in
    let greatest = journals_most devices table image upper.number (Some low) (Some upper) is_lower is_upper (omega arith) (omega arith) in
    record {
      on_live = live;
      sealed = is_upper.1;
      greatest = greatest;
      lowest = λ other s is_live great equal. elim (which_journal devices table image other is_live) [
        | inl is ↦ let most = is_lower.1.greatest great.place s (subst (λ (j : ℕ). Counts table.id table.geometry (image j) great.place s) is great.counted) in
            absurd (omega arith)
        | inr is ↦ omega arith
      ];
    }

-- no journal has one
pub none_is_last : (devices : ℕ) (table : Table) (image : Slots) → IsSealedAt devices table image table.geometry.members None
    → IsSealedAt devices table image (table.geometry.members + 1) None
    → IsLastEntry table.id table.geometry (IsLiveJournal devices table image) image None
none_is_last devices table image no_lower no_upper = λ journal place seal live counts. elim (which_journal devices table image journal live) [
  | inl is ↦ no_lower place seal (subst (λ (j : ℕ). IsLive devices table j (image j)) is live.live)
      (subst (λ (j : ℕ). Counts table.id table.geometry (image j) place seal) is counts)
  | inr is ↦ no_upper place seal (subst (λ (j : ℕ). IsLive devices table j (image j)) is live.live)
      (subst (λ (j : ℕ). Counts table.id table.geometry (image j) place seal) is counts)
]

-- what was found is what it says
pub sealed_as : (devices : ℕ) (table : Table) (image : Slots) (slot : ℕ) (found same : Option Seal) → found ≡ same
    → IsSealedAt devices table image slot found → IsSealedAt devices table image slot same
sealed_as devices table image slot found same is sealed = subst (λ (o : Option Seal). IsSealedAt devices table image slot o) is sealed
