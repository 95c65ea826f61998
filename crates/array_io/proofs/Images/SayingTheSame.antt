-- Images whose live journals and members say the same.
use Rattle.std.proofs.Common.{◌≡◌, inl, inr, ℕ, ◌+◌, ◌<◌, List, Option, Some, None, refl, sym, ◌∙◌, ap, subst, arith}
use Rattle.std.specs.Prelude.{Contains, unwrap_or}
use Rattle.sector_model.specs.History.{Bytes, Slots, disk_of, sector_of}
use Rattle.layout_map.specs.declared.geometry.Geometry.{Geometry}
use Rattle.layout_map.specs.declared.sizes.TheConstants.{FIRST_ROW, FIRST_SEAL, HALVES}
use Rattle.superblock.specs.declared.table.Table.{Table}
use Rattle.superblock.specs.Counted.{Content, IsLive}
use Rattle.stripe_journal.specs.declared.seal.Seal.{Seal}
use Rattle.stripe_journal.specs.Body.{place_by_seal}
use Rattle.stripe_journal.specs.LastEntry.{Counts, Entry, IsGreatest, IsLastEntry, IsLastSealed, sector_in, sector_of_last}
use Rattle.stripe_journal.proofs.EntrySectors.{same_sectors}
use Rattle.array_io.specs.Laws.Core.{AreJournalsInStep, HasRows}
use Rattle.array_io.specs.Believed.Holds.{AreInStep, AreRowsOf, IsLiveJournal, IsTrusted, row_count}
use Rattle.degraded.specs.RowValue.{Rows, value}
use Rattle.degraded.proofs.Values.{value-agree}
use Rattle.array_io.proofs.Images.Rows.{alike, sound_alike}

-- two images have the same live slots
pub record HaveLiveAlike (devices : ℕ) (table : Table) (image other : Slots) : Type 0 where
  pub live : (slot : ℕ) → IsLive devices table slot (image slot) → IsLive devices table slot (other slot)
  pub back : (slot : ℕ) → IsLive devices table slot (other slot) → IsLive devices table slot (image slot)

-- the seal that an image's journal has in a place, 0 or 1
abbrev pub seal_in : Content → ℕ → Bytes
seal_in content place = sector_of (disk_of content) (FIRST_SEAL + place)

-- What the live journals and members of an image say is what those of another say: the same slots are live, their journals have the same seals and the same
-- bodies beside the last ones, and the members have the same sectors where the last entry has none.
pub record SayTheSame (devices : ℕ) (table : Table) (image other : Slots) : Type 0 where
  pub alive : HaveLiveAlike devices table image other
  pub seals : (journal place : ℕ) → place < HALVES → IsLiveJournal devices table other journal → seal_in (image journal) place ≡ seal_in (other journal) place
  pub bodies : (journal : ℕ) (seal : Seal) → IsLiveJournal devices table other journal → IsGreatest table.id table.geometry (other journal) seal
      → (row member place : ℕ) → member < table.geometry.members → place_by_seal table.geometry.members seal row member ≡ Some place
      → sector_of (disk_of (image journal)) place ≡ sector_of (disk_of (other journal)) place
  pub owns : (last : Option Entry) → IsLastEntry table.id table.geometry (IsLiveJournal devices table other) other last
      → (row member : ℕ) → row < row_count table → member < table.geometry.members → sector_of_last table.geometry.members other last row member ≡ None
      → IsTrusted devices table other row member → sector_of (disk_of (image member)) (FIRST_ROW + row) ≡ sector_of (disk_of (other member)) (FIRST_ROW + row)

-- a live journal of one image is one of the other
journal_of : (devices : ℕ) (table : Table) (image other : Slots)
    → ((slot : ℕ) → IsLive devices table slot (image slot) → IsLive devices table slot (other slot))
    → (journal : ℕ) → IsLiveJournal devices table image journal → IsLiveJournal devices table other journal
journal_of devices table image other live journal is = record { beyond_members = is.beyond_members; of_set = is.of_set; live = live journal is.live }

-- contents with the same seals
abbrev pub HaveSameSeals : Content → Content → Type 0
HaveSameSeals first second = (place : ℕ) → place < HALVES → seal_in first place ≡ seal_in second place

same_counts : (id : List ℕ) (geometry : Geometry) (first second : Content) → HaveSameSeals first second → (place : ℕ) (seal : Seal)
    → Counts id geometry second place seal → Counts id geometry first place seal
same_counts id geometry first second same place seal counts = record {
  stands = same place (omega (arith, counts.belongs.own_place)) ∙ counts.stands;
  belongs = counts.belongs;
}

back_seals : (first second : Content) → HaveSameSeals first second → HaveSameSeals second first
back_seals first second same place below = sym (same place below)

pub same_greatest : (id : List ℕ) (geometry : Geometry) (first second : Content) → HaveSameSeals first second → (seal : Seal)
    → IsGreatest id geometry second seal → IsGreatest id geometry first seal
same_greatest id geometry first second same seal is = record {
  place = is.place;
  counted = same_counts id geometry first second same is.place seal is.counted;
  greatest = λ at other counts. is.greatest at other (same_counts id geometry second first (back_seals first second same) at other counts);
}

pub same_sealed : (id : List ℕ) (geometry : Geometry) (first second : Content) → HaveSameSeals first second → (last : Option Seal)
    → IsLastSealed id geometry second last → IsLastSealed id geometry first last
same_sealed id geometry first second same None none = λ place seal counts.
    none place seal (same_counts id geometry second first (back_seals first second same) place seal counts)
same_sealed id geometry first second same (Some seal) is = same_greatest id geometry first second same seal is

-- the same last entry
pub same_entry : (id : List ℕ) (geometry : Geometry) (journals others : ℕ → Type 0) (image other : Slots) → ((journal : ℕ) → journals journal → others journal)
    → ((journal : ℕ) → others journal → journals journal) → ((journal : ℕ) → others journal → HaveSameSeals (image journal) (other journal))
    → (last : Option Entry) → IsLastEntry id geometry journals image last → IsLastEntry id geometry others other last
same_entry id geometry journals others image other there back same None none = λ journal place seal on counts.
    none journal place seal (back journal on) (same_counts id geometry (image journal) (other journal) (same journal on) place seal counts)
same_entry id geometry journals others image other there back same (Some entry) latest = record {
  on_live = there entry.journal latest.on_live;
  sealed = same_greatest id geometry (other entry.journal) (image entry.journal)
      (back_seals (image entry.journal) (other entry.journal) (same entry.journal (there entry.journal latest.on_live))) entry.seal latest.sealed;
  greatest = λ journal seal on sealed. latest.greatest journal seal (back journal on)
      (same_greatest id geometry (image journal) (other journal) (same journal on) seal sealed);
  lowest = λ journal seal on sealed equal. latest.lowest journal seal (back journal on)
      (same_greatest id geometry (image journal) (other journal) (same journal on) seal sealed) equal;
}

-- contents with the same body of a last entry
abbrev HasSameBody : ℕ → Content → Content → Option Seal → Type 0
HasSameBody members first second last = (seal : Seal) → last ≡ Some seal → (row member : ℕ) → member < members
    → sector_in members first seal row member ≡ sector_in members second seal row member

step_same : (members : ℕ) (first second other_first other_second : Content) (a b : Option Seal) → HasSameBody members first other_first a
    → HasSameBody members second other_second b → AreInStep members other_first other_second a b → AreInStep members first second a b
step_same members first second other_first other_second None None one two step = tt
step_same members first second other_first other_second (Some a) None one two step = step
step_same members first second other_first other_second None (Some b) one two step = step
step_same members first second other_first other_second (Some a) (Some b) one two (inl (same, equal)) = inl (
  same,
  λ row member within. one a refl row member within ∙ equal row member within
      ∙ sym (subst (λ (s : Seal). sector_in members second s row member ≡ sector_in members other_second s row member) (sym same)
      (two b refl row member within)),
)
step_same members first second other_first other_second (Some a) (Some b) one two (inr next) = inr next

-- What an image tells by its last entry another tells by one that it has: the same members are trusted, the entries have the same sectors, and where they
-- have none the trusted members have the same sectors.
pub record TellsAs (devices : ℕ) (table : Table) (image other : Slots) (last : Option Entry) : Type 0 where
  pub other_last : Option Entry
  pub is_last : IsLastEntry table.id table.geometry (IsLiveJournal devices table other) other other_last
  pub entries : (row member : ℕ) → member < table.geometry.members
      → sector_of_last table.geometry.members image last row member ≡ sector_of_last table.geometry.members other other_last row member
  pub owns : (row member : ℕ) → row < row_count table → member < table.geometry.members
      → sector_of_last table.geometry.members other other_last row member ≡ None
      → IsTrusted devices table other row member → sector_of (disk_of (image member)) (FIRST_ROW + row) ≡ sector_of (disk_of (other member)) (FIRST_ROW + row)

-- the same members are trusted in both
pub record HaveTrustAlike (devices : ℕ) (table : Table) (image other : Slots) : Type 0 where
  pub there : (row member : ℕ) → member < table.geometry.members → IsTrusted devices table image row member → IsTrusted devices table other row member
  pub back : (row member : ℕ) → member < table.geometry.members → IsTrusted devices table other row member → IsTrusted devices table image row member

module _ (devices : ℕ) (table : Table) (image other : Slots) (trust : HaveTrustAlike devices table image other)
    (tells : (last : Option Entry) → IsLastEntry table.id table.geometry (IsLiveJournal devices table image) image last
    → TellsAs devices table image other last) where
  -- the rows of the other image, by the same tests
  abbrev rows_of_other : Rows → Option Entry → Rows
  rows_of_other rows last = record {
    members = rows.members;
    entry = λ row member. sector_of_last table.geometry.members other last row member;
    trusted = rows.trusted;
    own = λ row member. sector_of (disk_of (other member)) (FIRST_ROW + row);
  }

  are_of_other : (rows : Rows) (are : AreRowsOf devices table image rows)
      → AreRowsOf devices table other (rows_of_other rows (tells are.last are.is_last).other_last)
  are_of_other rows are = record {
    width = are.width;
    own_sector = λ row member within. refl;
    trust = λ row member within. (
      λ counts. trust.there row member within ((are.trust row member within).0 counts),
      λ trusted. (are.trust row member within).1 (trust.back row member within trusted),
    );
    last = (tells are.last are.is_last).other_last;
    is_last = (tells are.last are.is_last).is_last;
    in_entry = λ row member. refl;
  }

  same_value : (rows : Rows) (are : AreRowsOf devices table image rows) (row member : ℕ) → row < row_count table → member < table.geometry.members
      → value (rows_of_other rows (tells are.last are.is_last).other_last) row member ≡ value rows row member
  same_value rows are row member below within = value-agree row member (rows_of_other rows told.other_last) rows record {
    width = refl;
    entries = λ m inside. sym (are.in_entry row m ∙ told.entries row m (omega (arith, inside, are.width)));
    trusts = λ m inside. refl;
    owns = λ m inside none counts.
        let in_set : m < table.geometry.members = omega (arith, inside, are.width) in
        let is_none = sym (told.entries row m in_set) ∙ sym (are.in_entry row m) ∙ none in
        sym (told.owns row m below in_set is_none (trust.there row m in_set ((are.trust row m in_set).0 counts)))
        ∙ sym (are.own_sector row m in_set);
  } (omega (arith, within, are.width))
    where
      told : TellsAs devices table image other are.last
      told = tells are.last are.is_last

  -- so its rows are sound and listed too
  pub tells_the_same : (X : List (List Bytes)) → HasRows devices table X (IsLiveJournal devices table other) other
      → HasRows devices table X (IsLiveJournal devices table image) image
  tells_the_same X has = record {
    sound = λ rows are.
        sound_alike table (rows_of_other rows (tells are.last are.is_last).other_last) rows are.width are.width
        (alike table (rows_of_other rows (tells are.last are.is_last).other_last) rows (same_value rows are))
        (has.sound (rows_of_other rows (tells are.last are.is_last).other_last) (are_of_other rows are));
    listed = λ rows are.
        subst (Contains X) (alike table (rows_of_other rows (tells are.last are.is_last).other_last) rows (same_value rows are)).lists
        (has.listed (rows_of_other rows (tells are.last are.is_last).other_last) (are_of_other rows are));
  }

module _ (devices : ℕ) (table : Table) (image other : Slots) (same : SayTheSame devices table image other) where
  there : (journal : ℕ) → IsLiveJournal devices table image journal → IsLiveJournal devices table other journal
  there = journal_of devices table image other same.alive.live

  back : (journal : ℕ) → IsLiveJournal devices table other journal → IsLiveJournal devices table image journal
  back = journal_of devices table other image same.alive.back

  seals : (journal : ℕ) → IsLiveJournal devices table other journal → HaveSameSeals (image journal) (other journal)
  seals journal on = λ place below. same.seals journal place below on

  entry_there : (last : Option Entry) → IsLastEntry table.id table.geometry (IsLiveJournal devices table image) image last
      → IsLastEntry table.id table.geometry (IsLiveJournal devices table other) other last
  entry_there last is = same_entry table.id table.geometry (IsLiveJournal devices table image) (IsLiveJournal devices table other) image other there back seals
      last is

  sectors_are : (last : Option Entry) → IsLastEntry table.id table.geometry (IsLiveJournal devices table other) other last → (row member : ℕ)
      → member < table.geometry.members
      → sector_of_last table.geometry.members image last row member ≡ sector_of_last table.geometry.members other last row member
  sectors_are None is row member below = refl
  sectors_are (Some entry) is row member below =
      same_sectors table.geometry.members (image entry.journal) (other entry.journal) entry.seal row member
      (λ place found. same.bodies entry.journal entry.seal is.on_live is.sealed row member place below found)

  trust : HaveTrustAlike devices table image other
  trust = record {
    there = λ row member within trusted. record { live = same.alive.live member trusted.live; rebuilt = trusted.rebuilt };
    back = λ row member within trusted. record { live = same.alive.back member trusted.live; rebuilt = trusted.rebuilt };
  }

  -- so its rows are sound and listed too
  pub says_the_same : (X : List (List Bytes)) → HasRows devices table X (IsLiveJournal devices table other) other
      → HasRows devices table X (IsLiveJournal devices table image) image
  says_the_same X has = tells_the_same devices table image other trust (λ last is. record {
    other_last = last;
    is_last = entry_there last is;
    entries = sectors_are last (entry_there last is);
    owns = same.owns last (entry_there last is);
  }) X has

  -- and its journals are in step
  pub steps_the_same : AreJournalsInStep devices table other → AreJournalsInStep devices table image
  steps_the_same steps first second a b live live' last last' =
      let one = same_sealed table.id table.geometry (other first) (image first) (back_seals (image first) (other first) (seals first (there first live))) a
      last in
      let two = same_sealed table.id table.geometry (other second) (image second) (back_seals (image second) (other second) (seals second (there second live')))
      b last' in
      step_same table.geometry.members (image first) (image second) (other first) (other second) a b (bodies first (there first live) a one)
      (bodies second (there second live') b two)
      (steps first second a b (there first live) (there second live') one two)
    where
      bodies : (journal : ℕ) → IsLiveJournal devices table other journal → (last : Option Seal) → IsLastSealed table.id table.geometry (other journal) last
          → HasSameBody table.geometry.members (image journal) (other journal) last
      bodies journal live None is seal none = absurd (cc)
      bodies journal live (Some greatest) is seal same_seal = λ row member within.
          let one : greatest ≡ seal = ap (λ (o : Option Seal). unwrap_or o greatest) same_seal in
          same_sectors table.geometry.members (image journal) (other journal) seal row member
          (λ place found. same.bodies journal seal live (subst (IsGreatest table.id table.geometry (other journal)) one is) row member place within found)
