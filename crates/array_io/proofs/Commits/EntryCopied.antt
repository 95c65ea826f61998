-- What an image says while the seal of a copied entry comes onto the other journal.
use Rattle.std.proofs.Common.{◌≡◌, ◌≢◌, ◌⊎◌, inl, inr, ℕ, ◌+◌, ◌<◌, ◌≤◌, true, List, [], length, Option, Some, None, refl, sym, ◌∙◌, ap, subst, arith}
use Rattle.std.specs.Prelude.{slice_index_or}
use Rattle.std.proofs.lemmas.Bool.{cases_eq}
use Rattle.sector_model.specs.History.{Bytes, Slots, disk_of, sector_of}
use Rattle.sector_model.specs.Moments.{Contents}
use Rattle.layout_map.specs.declared.sizes.TheConstants.{FIRST_ROW, FIRST_SEAL}
use Rattle.superblock.specs.declared.table.Table.{Table}
use Rattle.superblock.specs.Counted.{Content, IsLive}
use Rattle.superblock.specs.NextTables.{slots_of}
use Rattle.stripe_journal.specs.declared.seal.Seal.{Seal}
use Rattle.stripe_journal.specs.Body.{place_by_seal}
use Rattle.stripe_journal.specs.Entries.{body_start}
use Rattle.stripe_journal.specs.Forms.{in_body, rank, rows_in}
use Rattle.stripe_journal.specs.LastEntry.{Entry, IsGreatest, IsLastEntry, IsLastSealed, number_of, sector_in, sector_of_last}
use Rattle.stripe_journal.specs.OneEntry.{ACrashLeavesEither}
use Rattle.stripe_journal.proofs.Bodies.{is_placed}
use Rattle.stripe_journal.proofs.EntrySectors.{same_sectors}
use Rattle.stripe_journal.proofs.Masks.{rank_before}
use Rattle.stripe_journal.proofs.LastOfOne.{greatest_is_one, last_is_one}
use Rattle.array_io.specs.Steps.Bringing.{CountsOn}
use Rattle.array_io.specs.Steps.Putting.{IsBodyLong}
use Rattle.array_io.specs.Laws.Core.{AreJournalsInStep, HasRows}
use Rattle.array_io.specs.Believed.Holds.{AreInStep, HoldsIn, IsLiveJournal}
use Rattle.array_io.proofs.Writes.Written.{IsWrittenFrom}
use Rattle.array_io.proofs.Commits.EntryPhases.{is_read, live_or_out}
use Rattle.array_io.proofs.Commits.EntrySealing.{IsSealedNext, StandsSealed, sealed_number, sealed_or_same}
use Rattle.array_io.proofs.Images.SayingTheSame.{HaveLiveAlike, HaveTrustAlike, TellsAs, same_greatest, says_the_same, steps_the_same, tells_the_same}

-- The entry is the last one of another journal.
pub record IsCopiedFrom (table : Table) (reads : Slots) (source target : ℕ) (seal : Seal) (body : List Bytes) : Type 0 where
  pub apart : source ≢ target
  pub beyond : table.geometry.members ≤ source
  pub counted : CountsOn table source
  pub says : IsGreatest table.id table.geometry (reads source) seal
  pub long : IsBodyLong table.geometry.members seal body
  pub same_body : (k : ℕ) → k < length body → sector_of (disk_of (reads source)) (body_start seal + k) ≡ slice_index_or body k []

-- of two journals each is the one or the other
pub two_journals : (members journal first second : ℕ) → members ≤ journal → journal < members + 2 → members ≤ first → first < members + 2 → members ≤ second
    → second < members + 2
    → first ≢ second → (journal ≡ first) ⊎ (journal ≡ second)
two_journals members journal first second least most least' most' least'' most'' apart = elim (cases_eq journal first) [
  | inl is ↦ inl is
  | inr other ↦ elim (cases_eq journal second) [
    | inl is ↦ inr is
    | inr neither ↦ absurd (omega (arith, least, most, least', most', least'', most'', apart, other, neither))
  ]
]

-- a sector that a seal's entry holds is one of its body
pub in_the_body : (members : ℕ) (seal : Seal) (body : List Bytes) (i member : ℕ) → IsBodyLong members seal body → i < length (rows_in seal.form)
    → member < members
    → in_body members seal.form i member ≡ true
    → rank members seal.form i member < length body
in_the_body members seal body i member long within below held =
    omega (arith, long, rank_before members seal.form i member (length (rows_in seal.form)) held below within)

-- where a journal has the sectors of its body
record HasPart (seal : Seal) (body : List Bytes) (place : ℕ) : Type 0 where
  part : ℕ
  within : part < length body
  is : place ≡ body_start seal + part

part_of_body : (members : ℕ) (seal : Seal) (body : List Bytes) (row member place : ℕ) → IsBodyLong members seal body → member < members
    → place_by_seal members seal row member ≡ Some place
    → HasPart seal body place
part_of_body members seal body row member place long below found =
    let at = is_placed members seal row member place found in
    record { part = rank members seal.form at.i member; within = in_the_body members seal body at.i member long at.within below at.held; is = at.place_is }

-- an image in which the source is live, and what it has is what reads gave
record HasTheSource (devices : ℕ) (table : Table) (reads : Slots) (X : List (List Bytes)) (source target : ℕ) (before other : Slots) : Type 0 where
  holds : HoldsIn devices table X other
  source_read : other source ≡ reads source
  source_live : IsLive devices table source (other source)
  target_read : IsLive devices table target (other target) → other target ≡ reads target
  members : (member : ℕ) → member < table.geometry.members → other member ≡ before member

module _ (law : ACrashLeavesEither) (devices : ℕ) (table : Table) (puts : Contents) (reads : Slots) (X : List (List Bytes)) (whole before image : Slots)
    (from : IsWrittenFrom devices table puts reads X whole before image) (alive : HaveLiveAlike devices table image before)
    (source target : ℕ) (seal : Seal) (body : List Bytes) (next : IsSealedNext table puts reads target seal body)
    (copied : IsCopiedFrom table reads source target seal body) where
  -- such an image: the one before, or the whole one where the source is out
  has_source : (other : Slots) × HasTheSource devices table reads X source target before other
  has_source = elim (live_or_out devices table puts reads X whole before image from alive source copied.counted) [
    | inl live ↦ (
      before,
      record {
        holds = from.holds;
        source_read = is_read devices table puts reads X whole before image from alive source copied.counted live;
        source_live = live;
        target_read = λ is. is_read devices table puts reads X whole before image from alive target record { of_set = next.of_set; there = is.not_missing } is;
        members = λ member within. refl;
      },
    )
    | inr out ↦ (
      whole,
      record {
        holds = from.whole_holds;
        source_read = from.read source copied.counted;
        source_live = subst (IsLive devices table source) (sym (from.read source copied.counted)) (from.there source copied.counted);
        target_read = λ is. from.read target record { of_set = next.of_set; there = is.not_missing };
        members = λ member within. sym (from.others member (λ is. absurd (omega (arith, within, is, out.0, copied.beyond))));
      },
    )
  ]

  module _ (sealed : StandsSealed devices table target seal body before image) where
    which : (journal : ℕ) → table.geometry.members ≤ journal → journal < slots_of table → (journal ≡ source) ⊎ (journal ≡ target)
    which journal beyond of_set =
        two_journals table.geometry.members journal source target beyond of_set copied.beyond copied.counted.of_set next.beyond next.of_set copied.apart

    -- what the source has in the image, where it is live there
    source_is : (at : ℕ) → IsLive devices table source (image source) → sector_of (disk_of (image source)) at ≡ sector_of (disk_of (reads source)) at
    source_is at live = sealed.others source at copied.apart
        ∙ ap (λ (c : Content). sector_of (disk_of c) at)
        (is_read devices table puts reads X whole before image from alive source copied.counted (alive.live source live))

    -- each live journal has the seal as its last
    has_seal : (journal : ℕ) → IsLiveJournal devices table image journal → IsGreatest table.id table.geometry (image journal) seal
    has_seal journal live = elim (which journal live.beyond_members live.of_set) [
      | inl is ↦ subst (λ (j : ℕ). IsGreatest table.id table.geometry (image j) seal) (sym is)
          (same_greatest table.id table.geometry (image source) (reads source)
          (λ place below. source_is (FIRST_SEAL + place) (subst (λ (j : ℕ). IsLive devices table j (image j)) is live.live)) seal copied.says)
      | inr is ↦ subst (λ (j : ℕ). IsGreatest table.id table.geometry (image j) seal) (sym is)
          (sealed_number law devices table puts reads X whole before image from alive target seal body next sealed)
    ]

    -- and its body
    has_body : (journal : ℕ) → IsLiveJournal devices table image journal → (k : ℕ) → k < length body
        → sector_of (disk_of (image journal)) (body_start seal + k) ≡ slice_index_or body k []
    has_body journal live k within = elim (which journal live.beyond_members live.of_set) [
      | inl is ↦ ap (λ (j : ℕ). sector_of (disk_of (image j)) (body_start seal + k)) is
          ∙ source_is (body_start seal + k) (subst (λ (j : ℕ). IsLive devices table j (image j)) is live.live)
          ∙ copied.same_body k within
      | inr is ↦ ap (λ (j : ℕ). sector_of (disk_of (image j)) (body_start seal + k)) is ∙ sealed.has.has_body k within
    ]

    -- so it has the entry's sectors
    its_sectors : (journal : ℕ) → IsLiveJournal devices table image journal → (row member : ℕ) → member < table.geometry.members
        → sector_in table.geometry.members (image journal) seal row member ≡ sector_in table.geometry.members (reads source) seal row member
    its_sectors journal live row member below = same_sectors table.geometry.members (image journal) (reads source) seal row member (λ place found.
        let at = part_of_body table.geometry.members seal body row member place copied.long below found in
        ap (sector_of (disk_of (image journal))) at.is ∙ has_body journal live at.part at.within
        ∙ sym (ap (sector_of (disk_of (reads source))) at.is ∙ copied.same_body at.part at.within))

    -- its number is above that of what stood on the target
    above : (other : Seal) → IsGreatest table.id table.geometry (reads target) other → other.number + 1 ≡ seal.number
    above other is = of_content (reads target) refl
      where
        of_content : (content : Content) → reads target ≡ content → other.number + 1 ≡ seal.number
        of_content (Some disk) same =
            let its = subst (λ (c : Content). IsGreatest table.id table.geometry c other) same is in
            let last = subst (λ (c : Content). IsLastSealed table.id table.geometry (Some (disk_of c)) next.next.last) same next.next.is_last in
            let one = last_is_one table.id table.geometry (Some disk) next.next.last (Some other) table.id_long last its in
            omega (arith, next.next.number, ap number_of one)
        of_content None same =
            let its = subst (λ (c : Content). IsGreatest table.id table.geometry c other) same is in
            let last = subst (λ (c : Content). IsLastSealed table.id table.geometry (Some (disk_of c)) next.next.last) same next.next.is_last in
            let also : IsGreatest table.id table.geometry (Some []) other = record {
              place = its.place;
              counted = record { stands = its.counted.stands; belongs = its.counted.belongs };
              greatest = λ at another counts. its.greatest at another record { stands = counts.stands; belongs = counts.belongs };
            } in
            let one = last_is_one table.id table.geometry (Some []) next.next.last (Some other) table.id_long last also in
            omega (arith, next.next.number, ap number_of one)

    -- the last entry of the other image is that of the source
    latest : (other : Slots) → HasTheSource devices table reads X source target before other
        → IsLastEntry table.id table.geometry (IsLiveJournal devices table other) other (Some record { journal = source; seal = seal })
    latest other has = record {
      on_live = record { beyond_members = copied.beyond; of_set = copied.counted.of_set; live = has.source_live };
      sealed = subst (λ (c : Content). IsGreatest table.id table.geometry c seal) (sym has.source_read) copied.says;
      greatest = λ journal last live is. elim (which journal live.beyond_members live.of_set) [
        | inl same ↦ omega (arith, ap (λ (s : Seal). s.number) (on_source journal last is same))
        | inr same ↦ omega (arith, above last (on_target journal last live is same))
      ];
      lowest = λ journal last live is equal. elim (which journal live.beyond_members live.of_set) [
        | inl same ↦ omega (arith, same)
        | inr same ↦ absurd (omega (arith, equal, above last (on_target journal last live is same)))
      ];
    }
      where
        on_source : (journal : ℕ) (last : Seal) → IsGreatest table.id table.geometry (other journal) last → journal ≡ source → last ≡ seal
        on_source journal last is same = greatest_is_one table.id table.geometry (reads source) last seal table.id_long
            (subst (λ (c : Content). IsGreatest table.id table.geometry c last) (ap other same ∙ has.source_read) is) copied.says

        on_target : (journal : ℕ) (last : Seal) → IsLiveJournal devices table other journal → IsGreatest table.id table.geometry (other journal) last
            → journal ≡ target
            → IsGreatest table.id table.geometry (reads target) last
        on_target journal last live is same = subst (λ (c : Content). IsGreatest table.id table.geometry c last)
            (ap other same ∙ has.target_read (subst (λ (j : ℕ). IsLive devices table j (other j)) same live.live)) is

    target_live : IsLiveJournal devices table image target
    target_live = record { beyond_members = next.beyond; of_set = next.of_set; live = alive.back target sealed.was_live }

    tells : (other : Slots) → HasTheSource devices table reads X source target before other → (last : Option Entry)
        → IsLastEntry table.id table.geometry (IsLiveJournal devices table image) image last → TellsAs devices table image other last
    tells other has None none =
        let its = has_seal target target_live in
        absurd (none target its.place seal target_live its.counted)
    tells other has (Some entry) is = record {
      other_last = Some record { journal = source; seal = seal };
      is_last = latest other has;
      entries = λ row member below.
          ap (λ (s : Seal). sector_of_last table.geometry.members image (Some record { journal = entry.journal; seal = s }) row member)
          (greatest_is_one table.id table.geometry (image entry.journal) entry.seal seal table.id_long is.sealed (has_seal entry.journal is.on_live))
          ∙ its_sectors entry.journal is.on_live row member below
          ∙ sym (ap (λ (c : Content). sector_in table.geometry.members c seal row member) has.source_read);
      owns = λ row member below within none trusted.
          sealed.others member (FIRST_ROW + row) (λ same. absurd (omega (arith, same, within, next.beyond)))
          ∙ ap (λ (c : Content). sector_of (disk_of c) (FIRST_ROW + row)) (sym (has.members member within));
    }

    trust : (other : Slots) → HasTheSource devices table reads X source target before other → HaveTrustAlike devices table image other
    trust other has = record {
      there = λ row member within trusted. record {
        live = subst (IsLive devices table member) (sym (has.members member within)) (alive.live member trusted.live);
        rebuilt = trusted.rebuilt;
      };
      back = λ row member within trusted. record {
        live = alive.back member (subst (IsLive devices table member) (has.members member within) trusted.live);
        rebuilt = trusted.rebuilt;
      };
    }

    rows_of_sealed : HasRows devices table X (IsLiveJournal devices table image) image
    rows_of_sealed = tells_the_same devices table image has_source.0 (trust has_source.0 has_source.1) (tells has_source.0 has_source.1) X
        record { sound = has_source.1.holds.sound; listed = has_source.1.holds.listed }

    steps_of_sealed : AreJournalsInStep devices table image
    steps_of_sealed first second a b live live' last last' =
        subst (λ (o : Option Seal). AreInStep table.geometry.members (image first) (image second) o b) (sym (is_seal first a live last))
        (subst (λ (o : Option Seal). AreInStep table.geometry.members (image first) (image second) (Some seal) o) (sym (is_seal second b live' last')) (inl (
          refl,
          λ row member below. its_sectors first live row member below ∙ sym (its_sectors second live' row member below),
        )))
      where
        is_seal : (journal : ℕ) (o : Option Seal) → IsLiveJournal devices table image journal → IsLastSealed table.id table.geometry (image journal) o
            → o ≡ Some seal
        is_seal journal o on is = last_is_one table.id table.geometry (image journal) o (Some seal) table.id_long is (has_seal journal on)

  -- so every image keeps its rows
  pub copied_keeps : HasRows devices table X (IsLiveJournal devices table image) image × AreJournalsInStep devices table image
  copied_keeps = elim (sealed_or_same law devices table puts reads X whole before image from alive target seal body next) [
    | inl same ↦ (
      says_the_same devices table image before same X record { sound = from.holds.sound; listed = from.holds.listed },
      steps_the_same devices table image before same from.holds.in_step,
    )
    | inr sealed ↦ (rows_of_sealed sealed, steps_of_sealed sealed)
  ]
