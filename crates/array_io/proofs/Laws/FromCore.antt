-- The core is enough.
use Rattle.std.proofs.Common.{◌≡◌, ◌≢◌, ◌⊎◌, inl, inr, ℕ, ◌+◌, ◌<◌, List, [], Contains, Option, Some, None, option_to_list, refl, sym, ◌∙◌, subst, arith}
use Rattle.std.proofs.lemmas.Bool.{cases_eq}
use Rattle.std.proofs.lemmas.List.Elements.{Contains-append_left, Contains-append_right, Contains-push}
use Rattle.sector_model.specs.History.{Bytes}
use Rattle.superblock.specs.declared.table.Table.{Table}
use Rattle.superblock.specs.Counted.{Content, IsInFull, IsLive, IsStale}
use Rattle.superblock.specs.Cases.{Case, Lost, MayBeOut, MayStand, away_of, with_slot}
use Rattle.array_io.specs.Believed.Holds.{HoldsIn, IsLiveJournal}
use Rattle.array_io.specs.Laws.Core.{AreJournalsInStep, Core, HasRows, IsKept, IsKnown}
use Rattle.array_io.specs.Laws.Law.{HoldsFromCore}
use Rattle.array_io.proofs.Images.Back.{MayLose, in_step_with_lost, rows_with_lost}
use Rattle.array_io.proofs.Images.Choice.{chosen_with}
use Rattle.array_io.proofs.Images.Counting.{none_counts, none_is_out, stale_is_out}
use Rattle.array_io.proofs.Images.Parts.{holds_by_parts}
use Rattle.array_io.proofs.Images.Put.{put_there, put_elsewhere}
use Rattle.array_io.proofs.Images.Spellings.{Spellings}

-- a slot that may be out
some_slot : (lost : Option Lost) → (slot : ℕ) × MayBeOut lost slot
some_slot None = (0, tt)
some_slot (Some lost) = (lost.slot, refl)

-- any other slot is kept
other_is_kept : (lost : Option Lost) (slot other : ℕ) → MayBeOut lost slot → other ≢ slot → IsKept lost other
other_is_kept None slot other may apart = tt
other_is_kept (Some lost) slot other may apart = λ is. apart (is ∙ sym may)

others_in_full : (devices : ℕ) (table : Table) (case : Case) (X : List (List Bytes)) → Core devices table case X → (slot : ℕ) → MayBeOut case.lost slot
    → (other : ℕ) → other < table.geometry.members + 2 → other ≢ slot → IsInFull devices table other (case.image other)
others_in_full devices table case X core slot may other in_set apart = core.in_full other in_set (other_is_kept case.lost slot other may apart)

-- the whole image
holds_whole : (devices : ℕ) (table : Table) (case : Case) (X : List (List Bytes)) → Core devices table case X → HoldsIn devices table X case.image
holds_whole devices table case X core =
    let out = some_slot case.lost in
    holds_by_parts devices table X case.image (record {
      chosen = core.chosen;
      known = core.known;
      rows = core.rows;
      in_step = core.in_step;
      out = out.0;
      in_full = others_in_full devices table case X core out.0 out.1;
    })

-- nothing is known
pub none_known : Spellings → (devices : ℕ) (table : Table) (slot : ℕ) → IsKnown devices table slot None
none_known spellings devices table slot = record {
  no_newer = λ place superblock counts. absurd (none_counts spellings table.id devices slot place superblock counts);
  as_new = λ place superblock counts equal. absurd (none_counts spellings table.id devices slot place superblock counts);
  no_higher = λ place superblock counts. absurd (none_counts spellings table.id devices slot place superblock counts);
}

-- so is what is stale
pub stale_known : (devices : ℕ) (table : Table) (slot : ℕ) (content : Content) → IsStale devices table slot content → IsKnown devices table slot content
stale_known devices table slot content stale = record {
  no_newer = λ place superblock counts. omega (arith, stale.older place superblock counts);
  as_new = λ place superblock counts equal. absurd (omega (arith, stale.older place superblock counts, equal));
  no_higher = λ place superblock counts. omega (arith, stale.earlier place superblock counts);
}

-- it is settled whether a slot that may be out is live
slot_decided : Spellings → (devices : ℕ) (table : Table) (case : Case) (X : List (List Bytes)) → Core devices table case X → (slot : ℕ)
    → MayBeOut case.lost slot
    → IsLive devices table slot (case.image slot) ⊎ ¬ IsLive devices table slot (case.image slot)
slot_decided spellings devices table case X core slot may = go (case.image slot) refl
  where
    go : (content : Content) → case.image slot ≡ content → IsLive devices table slot content ⊎ ¬ IsLive devices table slot content
    go None is = inr (none_is_out spellings devices table slot)
    go (Some disk) is = core.decided slot disk may
        (Contains-append_left (option_to_list (case.image slot)) (away_of case.lost) disk
        (subst (λ (c : Content). Contains (option_to_list c) disk) (sym is) (Contains-push [] disk)))

may_lose : Spellings → (devices : ℕ) (table : Table) (case : Case) (X : List (List Bytes)) → Core devices table case X → (slot : ℕ) → MayBeOut case.lost slot
    → MayLose devices table X case.image slot
may_lose spellings devices table case X core slot may = record {
  rows = core.rows_without slot may;
  in_step = core.in_step;
  whole = core.whole;
  in_full = others_in_full devices table case X core slot may;
  decided = slot_decided spellings devices table case X core slot may;
}

-- a weakened image, by what is known of the content, and by its rows
holds_with : Spellings → (devices : ℕ) (table : Table) (case : Case) (X : List (List Bytes)) → Core devices table case X → (slot : ℕ) (content : Content)
    → MayBeOut case.lost slot
    → IsKnown devices table slot content
    → HasRows devices table X (IsLiveJournal devices table (with_slot case.image slot content)) (with_slot case.image slot content)
    → AreJournalsInStep devices table (with_slot case.image slot content) → HoldsIn devices table X (with_slot case.image slot content)
holds_with spellings devices table case X core slot content may content_known rows in_step =
    holds_by_parts devices table X (with_slot case.image slot content) (record {
      chosen = chosen_with spellings devices table case.image slot content (core.chosen_without slot may) content_known;
      known = known;
      rows = rows;
      in_step = in_step;
      out = slot;
      in_full = λ other in_set apart. subst (IsInFull devices table other) (sym (put_elsewhere case.image slot content other apart))
          (others_in_full devices table case X core slot may other in_set apart);
    })
  where
    known : (other : ℕ) → IsKnown devices table other (with_slot case.image slot content other)
    known other = elim (cases_eq other slot) [
      | inl is ↦ subst (λ (k : ℕ). IsKnown devices table k (with_slot case.image slot content k)) (sym is)
          (subst (IsKnown devices table slot) (sym (put_there case.image slot content)) content_known)
      | inr apart ↦ subst (IsKnown devices table other) (sym (put_elsewhere case.image slot content other apart)) (core.known other)
    ]

-- with something that is not live
holds_lost : Spellings → (devices : ℕ) (table : Table) (case : Case) (X : List (List Bytes)) → Core devices table case X → (slot : ℕ) (content : Content)
    → MayBeOut case.lost slot → IsKnown devices table slot content → ¬ IsLive devices table slot content
    → HoldsIn devices table X (with_slot case.image slot content)
holds_lost spellings devices table case X core slot content may known out =
    holds_with spellings devices table case X core slot content may known
    (rows_with_lost devices table X case.image slot content (may_lose spellings devices table case X core slot may) out)
    (in_step_with_lost devices table X case.image slot content (may_lose spellings devices table case X core slot may) out)

-- with what an away device holds
holds_away : Spellings → (devices : ℕ) (table : Table) (case : Case) (X : List (List Bytes)) → Core devices table case X → (slot : ℕ) (disk : List Bytes)
    → MayBeOut case.lost slot → Contains (away_of case.lost) disk → HoldsIn devices table X (with_slot case.image slot (Some disk))
holds_away spellings devices table case X core slot disk may listed =
    elim (core.decided slot disk may (Contains-append_right (option_to_list (case.image slot)) (away_of case.lost) disk listed)) [
      | inl live ↦ holds_with spellings devices table case X core slot (Some disk) may (core.known_away slot disk may listed)
          (core.rows_away slot disk may listed live) (core.in_step_away slot disk may listed live)
      | inr out ↦ holds_lost spellings devices table case X core slot (Some disk) may (core.known_away slot disk may listed) out
    ]

-- each weakened image
holds_weakened : Spellings → (devices : ℕ) (table : Table) (case : Case) (X : List (List Bytes)) → Core devices table case X → (slot : ℕ) (content : Content)
    → MayBeOut case.lost slot → MayStand devices table case.lost slot content → HoldsIn devices table X (with_slot case.image slot content)
holds_weakened spellings devices table case X core slot content may stands = elim stands [
  | inl none ↦ subst (λ (c : Content). HoldsIn devices table X (with_slot case.image slot c)) (sym none)
      (holds_lost spellings devices table case X core slot None may (none_known spellings devices table slot) (none_is_out spellings devices table slot))
  | inr rest ↦ elim rest [
    | inl stale ↦ holds_lost spellings devices table case X core slot content may (stale_known devices table slot content stale)
        (stale_is_out devices table slot content stale)
    | inr away ↦ subst (λ (c : Content). HoldsIn devices table X (with_slot case.image slot c)) (sym away.holds)
        (holds_away spellings devices table case X core slot away.disk may away.listed)
  ]
]

-- the law
pub holds_from_core : Spellings → HoldsFromCore
holds_from_core spellings base devices table case X not_older core = record {
  table = table;
  not_older = not_older;
  lost_in_set = core.lost_in_set;
  whole = holds_whole devices table case X core;
  weakened = holds_weakened spellings devices table case X core;
  one_counts = core.one_counts;
}
