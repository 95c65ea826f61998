-- What an image says while the seal of an entry comes onto a journal that has its body.
use Rattle.std.proofs.Common.{◌≡◌, ◌≢◌, ◌⊎◌, inl, inr, ℕ, ◌+◌, ◌<◌, ◌≤◌, List, [], length, Some, None, refl, sym, ◌∙◌, ap, subst, arith}
use Rattle.std.specs.Prelude.{slice_index_or}
use Rattle.std.proofs.lemmas.Bool.{cases_eq}
use Rattle.sector_model.specs.History.{Bytes, Slots, disk_of, sector_of}
use Rattle.sector_model.specs.Moments.{Contents}
use Rattle.layout_map.specs.declared.geometry.Geometry.{Geometry}
use Rattle.layout_map.specs.declared.sizes.TheConstants.{FIRST_ROW, FIRST_SEAL}
use Rattle.superblock.specs.declared.table.Table.{Table}
use Rattle.superblock.specs.Counted.{Content, IsLive}
use Rattle.superblock.specs.NextTables.{slots_of}
use Rattle.stripe_journal.specs.declared.seal.Seal.{Seal}
use Rattle.stripe_journal.specs.Body.{seal_place}
use Rattle.stripe_journal.specs.Entries.{body_start}
use Rattle.stripe_journal.specs.LastEntry.{IsGreatest}
use Rattle.stripe_journal.specs.OneEntry.{ACrashLeavesEither, HasThisEntry, IsNextOn, Sealed}
use Rattle.stripe_journal.specs.Spelling.{seal_sector}
use Rattle.stripe_journal.proofs.Halves.{seal_before}
use Rattle.array_io.specs.Steps.Bringing.{CountsOn}
use Rattle.array_io.proofs.Writes.Written.{IsWrittenFrom}
use Rattle.array_io.proofs.Commits.EntryPhases.{is_read, live_or_not}
use Rattle.array_io.proofs.Images.SayingTheSame.{HaveLiveAlike, SayTheSame}

-- The seal is written in its place of one journal, on which its body stands and whose last entry is the one before.
pub record IsSealedNext (table : Table) (puts : Contents) (reads : Slots) (target : ℕ) (seal : Seal) (body : List Bytes) : Type 0 where
  pub only : (device at : ℕ) (value : Bytes) → puts device at value → (device ≡ target) × (at ≡ seal_place seal.number) × (value ≡ seal_sector seal)
  pub beyond : table.geometry.members ≤ target
  pub of_set : target < slots_of table
  pub next : IsNextOn table.id table.geometry (disk_of (reads target)) seal
  pub its_body : (k : ℕ) → k < length body → sector_of (disk_of (reads target)) (body_start seal + k) ≡ slice_index_or body k []

-- either an image says what it said, or the new seal stands on the journal, which is live
pub record StandsSealed (devices : ℕ) (table : Table) (target : ℕ) (seal : Seal) (body : List Bytes) (before image : Slots) : Type 0 where
  pub was_live : IsLive devices table target (before target)
  pub has : HasThisEntry table.id table.geometry (disk_of (image target)) seal body
  pub others : (slot at : ℕ) → slot ≢ target → sector_of (disk_of (image slot)) at ≡ sector_of (disk_of (before slot)) at

-- what is last on the sectors of a slot is last on what the slot has
pub greatest_there : (id : List ℕ) (geometry : Geometry) (content : Content) (seal : Seal) → IsGreatest id geometry (Some (disk_of content)) seal
    → IsGreatest id geometry content seal
greatest_there id geometry (Some disk) seal is = is
greatest_there id geometry None seal is = record {
  place = is.place;
  counted = record { stands = is.counted.stands; belongs = is.counted.belongs };
  greatest = λ at other counts. is.greatest at other record { stands = counts.stands; belongs = counts.belongs };
}

module _ (law : ACrashLeavesEither) (devices : ℕ) (table : Table) (puts : Contents) (reads : Slots) (X : List (List Bytes)) (whole before image : Slots)
    (from : IsWrittenFrom devices table puts reads X whole before image) (alive : HaveLiveAlike devices table image before)
    (target : ℕ) (seal : Seal) (body : List Bytes) (next : IsSealedNext table puts reads target seal body) where
  other_slots : (slot at : ℕ) → slot ≢ target → sector_of (disk_of (image slot)) at ≡ sector_of (disk_of (before slot)) at
  other_slots slot at apart = elim ((from.put slot).each at) [
    | inl same ↦ same
    | inr put ↦ absurd (apart (next.only slot at (sector_of (disk_of (image slot)) at) put.1).0)
  ]

  other_places : (at : ℕ) → at ≢ seal_place seal.number → sector_of (disk_of (image target)) at ≡ sector_of (disk_of (before target)) at
  other_places at apart = elim ((from.put target).each at) [
    | inl same ↦ same
    | inr put ↦ absurd (apart (next.only target at (sector_of (disk_of (image target)) at) put.1).1)
  ]

  -- where the sectors of each live journal are the same, the image says the same
  same_journals_say : ((slot at : ℕ) → IsLive devices table slot (before slot) → sector_of (disk_of (image slot)) at ≡ sector_of (disk_of (before slot)) at)
      → SayTheSame devices table image before
  same_journals_say same = record {
    alive = alive;
    seals = λ j place below live. same j (FIRST_SEAL + place) live.live;
    bodies = λ j last live is row member place below found. same j place live.live;
    owns = λ last is row member below within none trusted. same member (FIRST_ROW + row) trusted.live;
  }

  -- the new seal stands on the live journal
  stands_sealed : IsLive devices table target (before target) → sector_of (disk_of (image target)) (seal_place seal.number) ≡ seal_sector seal
      → StandsSealed devices table target seal body before image
  stands_sealed live stands = record {
    was_live = live;
    has = (law table.id table.geometry (disk_of (reads target)) (disk_of (image target)) seal body Sealed next.next (λ at. record {
      elsewhere = λ outside apart. other_places at apart ∙ ap (λ (c : Content). sector_of (disk_of c) at) read;
      in_half = λ later k within is. ap (sector_of (disk_of (image target))) is
          ∙ other_places (body_start seal + k) (apart_from_seal k) ∙ ap (λ (c : Content). sector_of (disk_of c) (body_start seal + k)) read
          ∙ next.its_body k within;
      in_place = λ is. ap (sector_of (disk_of (image target))) is ∙ stands;
    })).this refl;
    others = other_slots;
  }
    where
      counted : CountsOn table target
      counted = record { of_set = next.of_set; there = live.not_missing }

      read : before target ≡ reads target
      read = is_read devices table puts reads X whole before image from alive target counted live

      apart_from_seal : (k : ℕ) → body_start seal + k ≢ seal_place seal.number
      apart_from_seal k same = seal_before seal seal.number (body_start seal + k) (omega arith) same

  -- so it is the one or the other
  pub sealed_or_same : SayTheSame devices table image before ⊎ StandsSealed devices table target seal body before image
  sealed_or_same = elim (live_or_not devices table puts reads X whole before image from alive target next.of_set) [
    | inr out ↦ inl (same_journals_say (λ slot at live. other_slots slot at (λ is. out (subst (λ (k : ℕ). IsLive devices table k (before k)) is live))))
    | inl live ↦ elim ((from.put target).each (seal_place seal.number)) [
      | inr put ↦ inr (stands_sealed live (next.only target (seal_place seal.number) (sector_of (disk_of (image target)) (seal_place seal.number)) put.1).2)
      | inl same ↦ inl (same_journals_say (λ slot at alive_there. elim (cases_eq slot target) [
        | inr apart ↦ other_slots slot at apart
        | inl is ↦ subst (λ (k : ℕ). sector_of (disk_of (image k)) at ≡ sector_of (disk_of (before k)) at) (sym is)
            (elim (cases_eq at (seal_place seal.number)) [
              | inl there ↦ subst (λ (a : ℕ). sector_of (disk_of (image target)) a ≡ sector_of (disk_of (before target)) a) (sym there) same
              | inr apart ↦ other_places at apart
            ])
      ]))
    ]
  ]

  -- Its entry is then the last of each live journal whose number is the seal's or more.
  pub sealed_number : StandsSealed devices table target seal body before image → IsGreatest table.id table.geometry (image target) seal
  sealed_number sealed = greatest_there table.id table.geometry (image target) seal sealed.has.last
