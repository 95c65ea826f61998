-- What a crash leaves on one journal while an entry is put on it.
use Rattle.std.proofs.Common.{◌≡◌, ◌≢◌, inl, inr, ℕ, ◌+◌, ◌%◌, ◌<◌, ◌≤◌, List, Option, Some, None, refl, sym, ◌∙◌, ap, subst, arith}
use Rattle.std.proofs.lemmas.Bool.{cases_eq}
use Rattle.layout_map.specs.declared.sizes.TheConstants.{FIRST_SEAL, HALVES, MOST_MEMBERS}
use Rattle.layout_map.specs.declared.format.Format.{Format}
use Rattle.layout_map.specs.declared.geometry.Geometry.{Geometry}
use Rattle.layout_map.specs.Formats.{body_sectors}
use Rattle.sector_model.specs.History.{Bytes, sector_of}
use Rattle.stripe_journal.specs.declared.seal.Seal.{Seal}
use Rattle.stripe_journal.specs.Body.{place_by_seal, seal_place}
use Rattle.stripe_journal.specs.Entries.{body_start, half_start}
use Rattle.stripe_journal.specs.Forms.{format_of}
use Rattle.stripe_journal.specs.LastEntry.{Counts, IsGreatest, IsLastSealed, number_of, sector_in}
use Rattle.stripe_journal.specs.OneEntry.{ACrashLeavesEither, EntryStage, HasEntryBefore, HasThisEntry, IsInHalf, IsNextOn, MayStandOn, CrashLeavesEither}
use Rattle.stripe_journal.specs.OneEntry.{Writing, Staged, Sealing, Sealed}
use Rattle.stripe_journal.specs.Spelling.{seal_sector}
use Rattle.stripe_journal.proofs.Bodies.{in_own_half}
use Rattle.stripe_journal.proofs.CountedSeals.{one_counted}
use Rattle.stripe_journal.proofs.EntrySectors.{same_sectors}
use Rattle.stripe_journal.proofs.Halves.{one_half, seal_before, start_least}
use Rattle.stripe_journal.proofs.LastOfOne.{last_is_one}

-- no seal that counts has a greater number than the last
most_counted : (id : List ℕ) (geometry : Geometry) (content : Option (List Bytes)) (last : Option Seal) → IsLastSealed id geometry content last
    → (place : ℕ) (seal : Seal) → Counts id geometry content place seal → seal.number ≤ number_of last
most_counted id geometry content None is place seal counts = absurd (is place seal counts)
most_counted id geometry content (Some last) is place seal counts = is.greatest place seal counts

-- the same seals count in two journals: so the last of the one is that of the other
same_last : (id : List ℕ) (geometry : Geometry) (one other : Option (List Bytes))
    → ((place : ℕ) (seal : Seal) → Counts id geometry one place seal → Counts id geometry other place seal)
    → ((place : ℕ) (seal : Seal) → Counts id geometry other place seal → Counts id geometry one place seal) → (last : Option Seal)
    → IsLastSealed id geometry one last → IsLastSealed id geometry other last
same_last id geometry one other on back None is = λ place seal counts. is place seal (back place seal counts)
same_last id geometry one other on back (Some last) is = record {
  place = is.place;
  counted = on is.place last is.counted;
  greatest = λ at seal counts. is.greatest at seal (back at seal counts);
}

-- the last seal has the number before that of the next
next_number : (id : List ℕ) (geometry : Geometry) (old : List Bytes) (seal last : Seal) → IsNextOn id geometry old seal
    → IsLastSealed id geometry (Some old) (Some last) → seal.number ≡ last.number + 1
next_number id geometry old seal last next is = next.number
    ∙ ap (λ (s : Option Seal). number_of s + 1) (last_is_one id geometry (Some old) next.last (Some last) next.id_long next.is_last is)

-- it is even where that of the next is odd
pub other_half : (id : List ℕ) (geometry : Geometry) (old : List Bytes) (seal last : Seal) → IsNextOn id geometry old seal
    → IsLastSealed id geometry (Some old) (Some last) → last.number % HALVES ≢ seal.number % HALVES
other_half id geometry old seal last next is same = absurd (omega (arith, same, next_number id geometry old seal last next is))

-- its form is one of the set's format
of_format : (id : List ℕ) (geometry : Geometry) (old : List Bytes) (last : Seal) → IsLastSealed id geometry (Some old) (Some last)
    → format_of last.form ≡ geometry.format
of_format id geometry old last is = is.counted.belongs.of_format

-- the body of the last entry is neither in the half of the next entry nor in its seal's place
pub body_apart : (id : List ℕ) (geometry : Geometry) (old : List Bytes) (seal last : Seal) → IsNextOn id geometry old seal
    → IsLastSealed id geometry (Some old) (Some last)
    → (members row member place : ℕ) → members ≤ MOST_MEMBERS → member < members → place_by_seal members last row member ≡ Some place
    → (¬ IsInHalf seal place) × (place ≢ seal_place seal.number)
body_apart id geometry old seal last next is members row member place few below found =
    let format : format_of last.form ≡ format_of seal.form = of_format id geometry old last is ∙ sym next.belongs.of_format in
    let own = subst (λ (f : Format). (half_start f last.number ≤ place) × (place < half_start f last.number + body_sectors f)) format
    (in_own_half members last row member place few below found) in (
      λ half. other_half id geometry old seal last next is (one_half (format_of seal.form) last.number seal.number place own.0 own.1 half.0 half.1),
      λ same. seal_before last seal.number place (in_own_half members last row member place few below found).0 same,
    )

-- so a journal that has the entry before has its sectors
pub same_body : (id : List ℕ) (geometry : Geometry) (old disk : List Bytes) (seal last : Seal) → IsNextOn id geometry old seal
    → IsLastSealed id geometry (Some old) (Some last) → HasEntryBefore id geometry old disk seal
    → (members row member : ℕ) → members ≤ MOST_MEMBERS → member < members
    → sector_in members (Some disk) last row member ≡ sector_in members (Some old) last row member
same_body id geometry old disk seal last next is has members row member few below = same_sectors members (Some disk) (Some old) last row member (λ place found.
    let apart = body_apart id geometry old seal last next is members row member place few below found in
    has.elsewhere place apart.0 apart.1)

module _ (id : List ℕ) (geometry : Geometry) (old disk : List Bytes) (seal : Seal) (next : IsNextOn id geometry old seal)
    (elsewhere : (at : ℕ) → ¬ IsInHalf seal at → at ≢ seal_place seal.number → sector_of disk at ≡ sector_of old at) where
  -- the other place has what it had
  other_place : (place : ℕ) (s : Seal) → s.number % HALVES ≡ place → place ≢ seal.number % HALVES
      → sector_of disk (FIRST_SEAL + place) ≡ sector_of old (FIRST_SEAL + place)
  other_place place s own other = elsewhere (FIRST_SEAL + place) (λ half. absurd (omega (arith, half.0, own, start_least seal)))
      (λ same. other (omega (arith, same)))

  -- where the new seal doesn't stand, the entry is that before
  has_before : sector_of disk (seal_place seal.number) ≡ sector_of old (seal_place seal.number) → HasEntryBefore id geometry old disk seal
  has_before same = record {
    last = same_last id geometry (Some old) (Some disk)
        (λ place s counts. record { stands = stood place s counts.belongs.own_place ∙ counts.stands; belongs = counts.belongs })
        (λ place s counts. record { stands = sym (stood place s counts.belongs.own_place) ∙ counts.stands; belongs = counts.belongs });
    elsewhere = elsewhere;
  }
    where
      stood : (place : ℕ) (s : Seal) → s.number % HALVES ≡ place → sector_of disk (FIRST_SEAL + place) ≡ sector_of old (FIRST_SEAL + place)
      stood place s own = elim (cases_eq place (seal.number % HALVES)) [
        | inl is ↦ ap (λ (p : ℕ). sector_of disk (FIRST_SEAL + p)) is ∙ same ∙ ap (λ (p : ℕ). sector_of old (FIRST_SEAL + p)) (sym is)
        | inr other ↦ other_place place s own other
      ]

  -- where the new seal stands, it is the last
  is_last_now : sector_of disk (seal_place seal.number) ≡ seal_sector seal → IsGreatest id geometry (Some disk) seal
  is_last_now stands = record {
    place = seal.number % HALVES;
    counted = counted;
    greatest = λ at s counts. elim (cases_eq at (seal.number % HALVES)) [
      | inl is ↦
          let one = one_counted id geometry (Some disk) (seal.number % HALVES) s seal next.id_long
          (subst (λ (p : ℕ). Counts id geometry (Some disk) p s) is counts) counted in
          omega (arith, ap (λ (k : Seal). k.number) one)
      | inr other ↦
          let before : Counts id geometry (Some old) at s =
          record { stands = sym (other_place at s counts.belongs.own_place other) ∙ counts.stands; belongs = counts.belongs } in
          omega (arith, most_counted id geometry (Some old) next.last next.is_last at s before, next.number)
    ];
  }
    where
      counted : Counts id geometry (Some disk) (seal.number % HALVES) seal
      counted = record { stands = stands; belongs = next.belongs }

-- a crash leaves the entry before, or this one
pub a_crash_leaves_either : ACrashLeavesEither
a_crash_leaves_either id geometry old disk seal body stage next stand = by_stage stage stand
  where
    before : (reached : EntryStage) → ((at : ℕ) → MayStandOn old seal body reached at (sector_of disk at))
        → sector_of disk (seal_place seal.number) ≡ sector_of old (seal_place seal.number) → HasEntryBefore id geometry old disk seal
    before reached stand = has_before id geometry old disk seal next (λ at. (stand at).elsewhere)

    this : (reached : EntryStage) → ((at : ℕ) → MayStandOn old seal body reached at (sector_of disk at)) → reached ≢ Writing
        → sector_of disk (seal_place seal.number) ≡ seal_sector seal → HasThisEntry id geometry disk seal body
    this reached stand staged stands = record {
      last = is_last_now id geometry old disk seal next (λ at. (stand at).elsewhere) stands;
      has_body = λ k within. (stand (body_start seal + k)).in_half staged k within refl;
    }

    by_stage : (stage : EntryStage) → ((at : ℕ) → MayStandOn old seal body stage at (sector_of disk at))
        → CrashLeavesEither id geometry old disk seal body stage
    by_stage Writing stand =
        let is = before Writing stand ((stand (seal_place seal.number)).in_place refl) in
        record { either = inl is; before = λ early. is; this = λ late. absurd (cc) }
    by_stage Staged stand =
        let is = before Staged stand ((stand (seal_place seal.number)).in_place refl) in
        record { either = inl is; before = λ early. is; this = λ late. absurd (cc) }
    by_stage Sealing stand = record {
      either = elim ((stand (seal_place seal.number)).in_place refl) [
        | inl same ↦ inl (before Sealing stand same)
        | inr stands ↦ inr (this Sealing stand (λ same. cc) stands)
      ];
      before = λ early. elim early [
        | inl same ↦ absurd (cc)
        | inr same ↦ absurd (cc)
      ];
      this = λ late. absurd (cc);
    }
    by_stage Sealed stand =
        let is = this Sealed stand (λ same. cc) ((stand (seal_place seal.number)).in_place refl) in
        record {
          either = inr is;
          before = λ early. elim early [
            | inl same ↦ absurd (cc)
            | inr same ↦ absurd (cc)
          ];
          this = λ late. is;
        }
