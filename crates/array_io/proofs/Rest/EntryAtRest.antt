-- The last entry of a set at rest: it is one on all live journals, and has the values that the members give.
use Rattle.std.proofs.Common.{◌≡◌, inl, inr, ℕ, ◌<◌, ◌≤◌, List, Option, Some, None, refl, sym, ◌∙◌, ap, subst, arith}
use Rattle.std.proofs.lemmas.Option.{none-some}
use Rattle.std.proofs.lemmas.Bool.{cases_eq}
use Rattle.sector_model.specs.History.{Slots, disk_of, sector_of}
use Rattle.layout_map.specs.declared.geometry.Geometry.{Geometry}
use Rattle.superblock.specs.declared.table.Table.{Table}
use Rattle.superblock.specs.Cases.{with_slot}
use Rattle.superblock.specs.Counted.{Content, IsLive}
use Rattle.stripe_journal.specs.declared.seal.Seal.{Seal}
use Rattle.stripe_journal.specs.LastEntry.{IsGreatest, IsLastSealed, number_of, sector_in}
use Rattle.stripe_journal.proofs.Bodies.{is_placed}
use Rattle.stripe_journal.proofs.EntrySectors.{same_sectors, sector_placed}
use Rattle.array_io.specs.Laws.Core.{AreJournalsInStep}
use Rattle.array_io.specs.Steps.EntryAtRest.{HasEntryAtRest}
use Rattle.array_io.specs.Believed.Holds.{AreInStep, HaveEqualBodies, IsLiveJournal, row_count}
use Rattle.array_io.proofs.Images.NoEntry.{HasNoEntry}
use Rattle.array_io.specs.Believed.Settled.{HaveNumber}
use Rattle.array_io.proofs.Images.Entries.{seal_is_one}
use Rattle.array_io.proofs.Images.Put.{put_elsewhere, put_there}
use Rattle.array_io.proofs.Images.Spellings.{Spellings}

-- an image without an entry has none as its last
pub no_entry_at_rest : (devices : ℕ) (table : Table) (image : Slots) → HasNoEntry devices table image → HasEntryAtRest devices table 0 image
no_entry_at_rest devices table image no_entry = record {
  last = None;
  numbered = refl;
  sealed = λ journal live. no_entry.none journal live;
  bodies = λ journal seal live is row member sector below within has. absurd (none-some seal is);
}

-- two greatest seals of one journal are one
greatest_is_one : Spellings → (id : List ℕ) (geometry : Geometry) (content : Content) (first second : Seal) → IsGreatest id geometry content first
    → IsGreatest id geometry content second
    → first ≡ second
greatest_is_one spellings id geometry content first second one two =
    let below : second.number ≤ first.number = one.greatest two.place second two.counted in
    let above : first.number ≤ second.number = two.greatest one.place first one.counted in
    seal_is_one spellings id geometry content first second one two (omega (arith, below, above))

-- a journal has one last seal, or none
pub sealed_is_one : Spellings → (id : List ℕ) (geometry : Geometry) (content : Content) (first second : Option Seal) → IsLastSealed id geometry content first
    → IsLastSealed id geometry content second → first ≡ second
sealed_is_one spellings id geometry content None None one two = refl
sealed_is_one spellings id geometry content None (Some second) one two = absurd (one two.place second two.counted)
sealed_is_one spellings id geometry content (Some first) None one two = absurd (two one.place first one.counted)
sealed_is_one spellings id geometry content (Some first) (Some second) one two = ap Some (greatest_is_one spellings id geometry content first second one two)

module _ (spellings : Spellings) (devices : ℕ) (table : Table) (number : ℕ) (image : Slots) (entry : HasEntryAtRest devices table number image) where
  -- what is last on a live journal is the last entry's seal
  pub last_at_rest : (journal : ℕ) (last : Option Seal) → IsLiveJournal devices table image journal → IsLastSealed table.id table.geometry (image journal) last
      → last ≡ entry.last
  last_at_rest journal last live is = sealed_is_one spellings table.id table.geometry (image journal) last entry.last is (entry.sealed journal live)

  -- the live journals have its number
  pub number_at_rest : HaveNumber devices table number image
  number_at_rest journal last live is = ap number_of (last_at_rest journal last live is) ∙ entry.numbered

  -- also with something in one slot that is not live
  pub number_with : (slot : ℕ) (content : Content) → ¬ IsLive devices table slot content → HaveNumber devices table number (with_slot image slot content)
  number_with slot content out journal last live is = elim (cases_eq journal slot) [
    | inl same ↦ absurd (out (subst (IsLive devices table slot) (put_there image slot content)
        (subst (λ (k : ℕ). IsLive devices table k (with_slot image slot content k)) same live.live)))
    | inr apart ↦ let stays = put_elsewhere image slot content journal apart in
        number_at_rest journal last record {
          beyond_members = live.beyond_members;
          of_set = live.of_set;
          live =
              subst (IsLive devices table journal) stays live.live;
        }
        (subst (λ (c : Content). IsLastSealed table.id table.geometry c last) stays is)
  ]

  -- the bodies of the last seal's entry are equal on all live journals
  equal_bodies : (first second : ℕ) (seal : Seal) → IsLiveJournal devices table image first → IsLiveJournal devices table image second → entry.last ≡ Some seal
      → IsGreatest table.id table.geometry (image first) seal → HaveEqualBodies table.geometry.members (image first) (image second) seal
  equal_bodies first second seal live live' is greatest row member within =
      same_sectors table.geometry.members (image first) (image second) seal row member (λ place found.
      let at = is_placed table.geometry.members seal row member place found in
      let below : row < row_count table = subst (λ (k : ℕ). k < row_count table) at.row_is (greatest.counted.belongs.below at.i at.within) in
      let here : (journal : ℕ) → sector_in table.geometry.members (image journal) seal row member ≡ Some (sector_of (disk_of (image journal)) place) =
      λ journal. sector_placed table.geometry.members (image journal) seal row member place found in
      entry.bodies first seal live is row member (sector_of (disk_of (image first)) place) below within (here first)
      ∙ sym (entry.bodies second seal live' is row member (sector_of (disk_of (image second)) place) below within (here second)))

  in_step_by : (first second : ℕ) → IsLiveJournal devices table image first → IsLiveJournal devices table image second → (last : Option Seal)
      → entry.last ≡ last
      → IsLastSealed table.id table.geometry (image first) last → AreInStep table.geometry.members (image first) (image second) last last
  in_step_by first second live live' None is sealed = tt
  in_step_by first second live live' (Some seal) is sealed = inl (refl, equal_bodies first second seal live live' is sealed)

  -- so they are in step
  pub in_step_at_rest : AreJournalsInStep devices table image
  in_step_at_rest first second a b live live' last last' =
      subst (λ (s : Option Seal). AreInStep table.geometry.members (image first) (image second) s b) (sym (last_at_rest first a live last))
      (subst (AreInStep table.geometry.members (image first) (image second) entry.last) (sym (last_at_rest second b live' last'))
      (in_step_by first second live live' entry.last refl (entry.sealed first live)))
