-- Images that agree after the superblocks, and have the same live slots, have the same rows and entries.
use Rattle.std.proofs.Common.{◌≡◌, inl, inr, ℕ, ◌+◌, ◌<◌, ◌≤◌, List, Contains, Option, Some, None, refl, sym, ◌∙◌, ap, subst, arith}
use Rattle.sector_model.specs.History.{Bytes, Slots, disk_of, sector_of}
use Rattle.layout_map.specs.declared.geometry.Geometry.{Geometry}
use Rattle.layout_map.specs.Placement.{rows_of}
use Rattle.layout_map.specs.declared.sizes.TheConstants.{FIRST_ROW, FIRST_SEAL, SUPERBLOCK_PLACES}
use Rattle.superblock.specs.declared.table.Table.{Table}
use Rattle.superblock.specs.Counted.{Content, IsLive}
use Rattle.stripe_journal.specs.declared.seal.Seal.{Seal}
use Rattle.stripe_journal.specs.LastEntry.{Entry, IsLastEntry, IsLastSealed, sector_in, sector_of_last}
use Rattle.stripe_journal.proofs.Bodies.{is_placed}
use Rattle.stripe_journal.proofs.EntrySectors.{same_sectors}
use Rattle.degraded.specs.RowValue.{Rows, AreSound, logical_list}
use Rattle.degraded.proofs.Values.{AgreeInRow, value-agree}
use Rattle.stripe_journal.proofs.Halves.{start_least}
use Rattle.array_io.specs.Laws.Core.{AreJournalsInStep, HasRows}
use Rattle.array_io.specs.Believed.Holds.{AreInStep, AreRowsOf, IsLiveJournal, IsTrusted, row_count}
use Rattle.array_io.specs.Laws.Law.{AreAlike}
use Rattle.array_io.specs.Believed.Settled.{HaveNumber}
use Rattle.array_io.proofs.Images.Rows.{alike, sound_alike}
use Rattle.array_io.proofs.Images.SayingTheSame.{HaveSameSeals, same_entry, same_sealed}

-- two contents have the same sectors from sector 2 on
pub record AgreeBeyond (first second : Content) : Type 0 where
  pub same : (at : ℕ) → SUPERBLOCK_PLACES ≤ at → sector_of (disk_of first) at ≡ sector_of (disk_of second) at

pub agree_same : (content : Content) → AgreeBeyond content content
agree_same content = record { same = λ at beyond. refl }

pub agree_back : (first second : Content) → AgreeBeyond first second → AgreeBeyond second first
agree_back first second agree = record { same = λ at beyond. sym (agree.same at beyond) }

-- they have the same seals
seals_beyond : (first second : Content) → AgreeBeyond first second → HaveSameSeals second first
seals_beyond first second agree place below = sym (agree.same (FIRST_SEAL + place) (omega arith))

-- and the same last seal
pub sealed_beyond : (id : List ℕ) (geometry : Geometry) (first second : Content) → AgreeBeyond first second → (last : Option Seal)
    → IsLastSealed id geometry first last → IsLastSealed id geometry second last
sealed_beyond id geometry first second agree last is = same_sealed id geometry second first (seals_beyond first second agree) last is

-- and the same sectors in a seal's body
pub sector_beyond : (members : ℕ) (first second : Content) → AgreeBeyond first second → (seal : Seal) (row member : ℕ)
    → sector_in members first seal row member ≡ sector_in members second seal row member
sector_beyond members first second agree seal row member = same_sectors members first second seal row member (λ place found.
    let at = is_placed members seal row member place found in
    agree.same place (omega (arith, at.place_is, start_least seal)))

-- journals that agree with two that are in step are in step
pub step_beyond : (members : ℕ) (a b c d : Content) → AgreeBeyond a c → AgreeBeyond b d → (x y : Option Seal)
    → AreInStep members a b x y → AreInStep members c d x y
step_beyond members a b c d first second None None step = tt
step_beyond members a b c d first second (Some x) None step = step
step_beyond members a b c d first second None (Some y) step = step
step_beyond members a b c d first second (Some x) (Some y) (inl (same, bodies)) = inl (
  same,
  λ row member within.
      sym (sector_beyond members a c first x row member) ∙ bodies row member within ∙ sector_beyond members b d second x row member,
)
step_beyond members a b c d first second (Some x) (Some y) (inr next) = inr next

-- two images have the same journals, and each of them the same after the superblocks
pub record HaveJournalsBeyond (journals others : ℕ → Type 0) (image other : Slots) : Type 0 where
  pub there : (slot : ℕ) → journals slot → others slot
  pub back : (slot : ℕ) → others slot → journals slot
  pub agree : (slot : ℕ) → journals slot → AgreeBeyond (image slot) (other slot)

-- such images have the same last entry
pub entry_beyond : (id : List ℕ) (geometry : Geometry) (journals others : ℕ → Type 0) (image other : Slots) → HaveJournalsBeyond journals others image other
    → (last : Option Entry) → IsLastEntry id geometry others other last → IsLastEntry id geometry journals image last
entry_beyond id geometry journals others image other same last is = same_entry id geometry others journals other image same.back same.there
    (λ journal on. seals_beyond (image journal) (other journal) (same.agree journal on)) last is

-- and the same sectors in it
pub sectors_beyond : (members : ℕ) (id : List ℕ) (geometry : Geometry) (journals others : ℕ → Type 0) (image other : Slots)
    → HaveJournalsBeyond journals others image other
    → (last : Option Entry) → IsLastEntry id geometry others other last → (row member : ℕ)
    → sector_of_last members other last row member ≡ sector_of_last members image last row member
sectors_beyond members id geometry journals others image other same None none row member = refl
sectors_beyond members id geometry journals others image other same (Some entry) latest row member =
    sym (sector_beyond members (image entry.journal) (other entry.journal) (same.agree entry.journal (same.back entry.journal latest.on_live)) entry.seal row
    member)

-- An image by a table, and another one by a table of the same shape: the same slots are live, the same sectors of members count, and in each
-- live slot is the same after the superblocks.
pub record AreSameBeyond (devices : ℕ) (table new : Table) (image other : Slots) : Type 0 where
  pub same_id : new.id ≡ table.id
  pub same_geometry : new.geometry ≡ table.geometry
  pub live : (slot : ℕ) → IsLive devices table slot (image slot) → IsLive devices new slot (other slot)
  pub live_back : (slot : ℕ) → IsLive devices new slot (other slot) → IsLive devices table slot (image slot)
  pub trusted : (row member : ℕ) → IsTrusted devices table image row member → IsTrusted devices new other row member
  pub trusted_back : (row member : ℕ) → IsTrusted devices new other row member → IsTrusted devices table image row member
  pub agree : (slot : ℕ) → IsLive devices table slot (image slot) → AgreeBeyond (image slot) (other slot)

journal_there : (devices : ℕ) (table new : Table) (image other : Slots) → AreSameBeyond devices table new image other → (slot : ℕ)
    → IsLiveJournal devices table image slot → IsLiveJournal devices new other slot
journal_there devices table new image other same slot journal = record {
  beyond_members = omega (arith, journal.beyond_members, ap (λ (g : Geometry). g.members) same.same_geometry);
  of_set = omega (arith, journal.of_set, ap (λ (g : Geometry). g.members) same.same_geometry);
  live = same.live slot journal.live;
}

-- a live journal of the other image is one of this
pub journal_back : (devices : ℕ) (table new : Table) (image other : Slots) → AreSameBeyond devices table new image other → (slot : ℕ)
    → IsLiveJournal devices new other slot → IsLiveJournal devices table image slot
journal_back devices table new image other same slot journal = record {
  beyond_members = omega (arith, journal.beyond_members, ap (λ (g : Geometry). g.members) same.same_geometry);
  of_set = omega (arith, journal.of_set, ap (λ (g : Geometry). g.members) same.same_geometry);
  live = same.live_back slot journal.live;
}

pub same_journals : (devices : ℕ) (table new : Table) (image other : Slots) → AreSameBeyond devices table new image other
    → HaveJournalsBeyond (IsLiveJournal devices table image) (IsLiveJournal devices new other) image other
same_journals devices table new image other same = record {
  there = journal_there devices table new image other same;
  back = journal_back devices table new image other same;
  agree = λ slot journal. same.agree slot journal.live;
}

-- the sets have as many rows
pub same_count : (table new : Table) → new.geometry ≡ table.geometry → row_count new ≡ row_count table
same_count table new same = ap (λ (g : Geometry). rows_of g.chunk g.stripes) same

-- a last entry or a last seal of the other image is one by this table
entry_here : (devices : ℕ) (table new : Table) (image other : Slots) → AreSameBeyond devices table new image other → (last : Option Entry)
    → IsLastEntry new.id new.geometry (IsLiveJournal devices new other) other last
    → IsLastEntry table.id table.geometry (IsLiveJournal devices table image) image last
entry_here devices table new image other same last is =
    entry_beyond table.id table.geometry (IsLiveJournal devices table image) (IsLiveJournal devices new other) image other
    (same_journals devices table new image other same) last
    (subst (λ (g : Geometry). IsLastEntry table.id g (IsLiveJournal devices new other) other last) same.same_geometry
    (subst (λ (i : List ℕ). IsLastEntry i new.geometry (IsLiveJournal devices new other) other last) same.same_id is))

pub sealed_here : (table new : Table) (first second : Content) → new.id ≡ table.id → new.geometry ≡ table.geometry → AgreeBeyond first second
    → (last : Option Seal)
    → IsLastSealed new.id new.geometry second last → IsLastSealed table.id table.geometry first last
sealed_here table new first second same_id same_geometry agree last is =
    sealed_beyond table.id table.geometry second first (agree_back first second agree) last
    (subst (λ (g : Geometry). IsLastSealed table.id g second last) same_geometry
    (subst (λ (i : List ℕ). IsLastSealed i new.geometry second last) same_id is))

-- rows of this image that are like those of the other
pub record RowsHere (devices : ℕ) (table : Table) (image : Slots) (after : Rows) : Type 0 where
  pub rows : Rows
  pub are : AreRowsOf devices table image rows
  pub are_alike : AreAlike table rows after
  pub width : after.members ≡ table.geometry.members

pub rows_here : (devices : ℕ) (table new : Table) (image other : Slots) → AreSameBeyond devices table new image other → (after : Rows)
    → AreRowsOf devices new other after → RowsHere devices table image after
rows_here devices table new image other same after are = record {
  rows = rows;
  are = record {
    width = refl;
    own_sector = λ row member within. refl;
    trust = λ row member within. (
      λ counts. same.trusted_back row member ((are.trust row member (in_new member within)).0 counts),
      λ trusted. (are.trust row member (in_new member within)).1 (same.trusted row member trusted),
    );
    last = are.last;
    is_last = entry_here devices table new image other same are.last are.is_last;
    in_entry = λ row member. refl;
  };
  are_alike = alike table rows after (λ row member below within. value-agree row member rows after (agree row) (omega (arith, width, within)));
  width = width;
}
  where
    rows : Rows
    rows = record {
      members = table.geometry.members;
      entry = λ row member. sector_of_last table.geometry.members image are.last row member;
      trusted = after.trusted;
      own = λ row member. sector_of (disk_of (image member)) (FIRST_ROW + row);
    }

    members : new.geometry.members ≡ table.geometry.members
    members = ap (λ (g : Geometry). g.members) same.same_geometry

    width : after.members ≡ table.geometry.members
    width = are.width ∙ members

    in_new : (member : ℕ) → member < table.geometry.members → member < new.geometry.members
    in_new member within = omega (arith, members, within)

    entries : (row member : ℕ) → sector_of_last table.geometry.members image are.last row member ≡ after.entry row member
    entries row member =
        sym (sectors_beyond table.geometry.members new.id new.geometry (IsLiveJournal devices table image) (IsLiveJournal devices new other) image other
        (same_journals devices table new image other same) are.last are.is_last row member)
        ∙ ap (λ (n : ℕ). sector_of_last n other are.last row member) (sym members)
        ∙ sym (are.in_entry row member)

    agree : (row : ℕ) → AgreeInRow row rows after
    agree row = record {
      width = sym width;
      entries = λ member within. entries row member;
      trusts = λ member within. refl;
      owns = λ member within none counts.
          let within_new : member < new.geometry.members = omega (arith, within, are.width) in
          let live : IsLive devices table member (image member) = (same.trusted_back row member ((are.trust row member within_new).0 counts)).live in
          (same.agree member live).same (FIRST_ROW + row) (omega arith) ∙ sym (are.own_sector row member within_new);
    }

-- Where the rows of this image are sound and in X, so are those of the other.
pub rows_beyond : (devices : ℕ) (table new : Table) (image other : Slots) (X : List (List Bytes)) → AreSameBeyond devices table new image other
    → HasRows devices table X (IsLiveJournal devices table image) image → HasRows devices new X (IsLiveJournal devices new other) other
rows_beyond devices table new image other X same has = record {
  sound = λ after are.
      let here = rows_here devices table new image other same after are in
      subst (λ (n : ℕ). AreSound after n) (sym (same_count table new same.same_geometry))
      (sound_alike table here.rows after here.are.width here.width here.are_alike (has.sound here.rows here.are));
  listed = λ after are.
      let here = rows_here devices table new image other same after are in
      subst (λ (g : Geometry). Contains X (logical_list g after)) (sym same.same_geometry)
      (subst (Contains X) here.are_alike.lists (has.listed here.rows here.are));
}

-- Where the live journals of this image are in step, so are those of the other.
pub steps_beyond : (devices : ℕ) (table new : Table) (image other : Slots) → AreSameBeyond devices table new image other
    → AreJournalsInStep devices table image → AreJournalsInStep devices new other
steps_beyond devices table new image other same in_step first second a b live live' last last' =
    let one = journal_back devices table new image other same first live in
    let two = journal_back devices table new image other same second live' in
    let agree = same.agree first one.live in
    let agree' = same.agree second two.live in
    step_beyond new.geometry.members (image first) (image second) (other first) (other second) agree agree' a b
    (subst (λ (g : Geometry). AreInStep g.members (image first) (image second) a b) (sym same.same_geometry)
    (in_step first second a b one two
    (sealed_here table new (image first) (other first) same.same_id same.same_geometry agree a last)
    (sealed_here table new (image second) (other second) same.same_id same.same_geometry agree' b last')))

-- Where the last entry of each live journal of this image has a number, it has that number in the other.
pub numbers_beyond : (devices : ℕ) (table new : Table) (image other : Slots) (number : ℕ) → AreSameBeyond devices table new image other
    → HaveNumber devices table number image → HaveNumber devices new number other
numbers_beyond devices table new image other number same have journal last live sealed =
    let one = journal_back devices table new image other same journal live in
    have journal last one
    (sealed_here table new (image journal) (other journal) same.same_id same.same_geometry (same.agree journal one.live) last sealed)
