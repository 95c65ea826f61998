-- The loss of one member.
use Rattle.std.proofs.Common.{◌≡◌, ◌≢◌, ℕ, ◌+◌, ◌<◌, ◌≤◌, Bool, true, length, Option, Some, None, IsSome, refl, sym, ◌∙◌, ap, subst, arith}
use Rattle.std.proofs.lemmas.Bool.{false_from_ne_true}
use Rattle.sector_model.specs.History.{Bytes, Slots, disk_of, sector_of}
use Rattle.layout_map.specs.Placement.{rows_of}
use Rattle.layout_map.specs.declared.sizes.TheConstants.{FIRST_ROW}
use Rattle.superblock.proofs.LeastSectors.{member_least}
use Rattle.superblock.specs.declared.state.State.TheVariants.{InSync, Rebuilding}
use Rattle.superblock.specs.declared.table.Table.{Table}
use Rattle.superblock.specs.Counted.{Content, IsInFull, IsLive, least_sectors}
use Rattle.stripe_journal.specs.LastEntry.{Entry, sector_of_last}
use Rattle.degraded.specs.RowValue.{Rows, AreSound, direct_of}
use Rattle.degraded.specs.Law.{DoesWithout}
use Rattle.degraded.proofs.Loss.{one_member_may_go as row_values_stay}
use Rattle.superblock.specs.Cases.{HasWholeSectors, with_slot}
use Rattle.array_io.specs.Believed.Holds.{AreRowsBy, IsLiveJournal, IsTrusted, row_count}
use Rattle.array_io.specs.Laws.Law.{AreAlike, OneMemberMayGo}
use Rattle.array_io.proofs.Images.Counting.{none_is_out}
use Rattle.array_io.proofs.Images.Entries.{HaveSameJournals, entry_stays, last_is_one, sectors_stay}
use Rattle.array_io.proofs.Images.Rows.{alike, same_test}
use Rattle.array_io.proofs.Images.Put.{put_there, put_elsewhere}
use Rattle.array_io.proofs.Images.Spellings.{Spellings}

-- another member counts as before
pub trusted_before : (devices : ℕ) (table : Table) (image : Slots) (slot : ℕ) (content : Content) (row member : ℕ) → member ≢ slot
    → IsTrusted devices table (with_slot image slot content) row member → IsTrusted devices table image row member
trusted_before devices table image slot content row member apart trusted = record {
  live = subst (IsLive devices table member) (put_elsewhere image slot content member apart) trusted.live;
  rebuilt = trusted.rebuilt;
}

pub trusted_after : (devices : ℕ) (table : Table) (image : Slots) (slot : ℕ) (content : Content) (row member : ℕ) → member ≢ slot
    → IsTrusted devices table image row member → IsTrusted devices table (with_slot image slot content) row member
trusted_after devices table image slot content row member apart trusted = record {
  live = subst (IsLive devices table member) (sym (put_elsewhere image slot content member apart)) trusted.live;
  rebuilt = trusted.rebuilt;
}

-- Rows of an image, and of one with something in a member's slot that is not live, by the same last entry.
pub record ByOneEntry (devices : ℕ) (table : Table) (journals others : ℕ → Type 0) (image other : Slots) (whole without : Rows) : Type 0 where
  pub one : AreRowsBy devices table journals image whole
  pub two : AreRowsBy devices table others other without
  pub last : one.last ≡ two.last
  pub same : (slot : ℕ) → journals slot → image slot ≡ other slot

entries_stay : (devices : ℕ) (table : Table) (journals others : ℕ → Type 0) (image other : Slots) (whole without : Rows)
    → ByOneEntry devices table journals others image other whole without → (row member : ℕ) → without.entry row member ≡ whole.entry row member
entries_stay devices table journals others image other whole without by row member =
    sym (by.one.in_entry row member
    ∙ sectors_stay table.geometry.members table.id table.geometry journals image other by.same by.one.last by.one.is_last row member
    ∙ ap (λ (l : Option Entry). sector_of_last table.geometry.members other l row member) by.last
    ∙ sym (by.two.in_entry row member))

does_without : (devices : ℕ) (table : Table) (journals others : ℕ → Type 0) (image : Slots) (member : ℕ) (content : Content) (whole without : Rows)
    → member < table.geometry.members → ¬ IsLive devices table member content
    → ByOneEntry devices table journals others image (with_slot image member content) whole without
    → DoesWithout member whole without
does_without devices table journals others image member content whole without within out by = record {
  width = by.two.width ∙ sym by.one.width;
  entries = entries_stay devices table journals others image (with_slot image member content) whole without by;
  trusts = λ row other below apart. same_test (without.trusted row other) (whole.trusted row other)
      (IsTrusted devices table (with_slot image member content) row other) (IsTrusted devices table image row other)
      (by.two.trust row other (in_set other below)) (by.one.trust row other (in_set other below))
      (trusted_before devices table image member content row other apart) (trusted_after devices table image member content row other apart);
  owns = λ row other below apart. by.two.own_sector row other (in_set other below)
      ∙ ap (λ (c : Content). sector_of (disk_of c) (FIRST_ROW + row)) (put_elsewhere image member content other apart)
      ∙ sym (by.one.own_sector row other (in_set other below));
  out = λ row. false_from_ne_true (without.trusted row member)
      (λ counts. out (subst (IsLive devices table member) (put_there image member content) ((by.two.trust row member within).0 counts).live));
}
  where
    in_set : (other : ℕ) → other < whole.members → other < table.geometry.members
    in_set other below = omega (arith, by.one.width, below)

-- a member's own sectors are whole where they count
own_is_whole : (devices : ℕ) (table : Table) (image : Slots) (member row : ℕ) → HasWholeSectors image → member < table.geometry.members → row < row_count table
    → IsLive devices table member (image member) → length (sector_of (disk_of (image member)) (FIRST_ROW + row)) ≡ 512
own_is_whole devices table image member row whole within below live = whole member (FIRST_ROW + row) reached
  where
    least : least_sectors table.geometry member ≡ FIRST_ROW + rows_of table.geometry.chunk table.geometry.stripes
    least = member_least table.geometry member within

    reached : FIRST_ROW + row < length (disk_of (image member))
    reached = omega (arith, least, live.long_enough, below)

some_direct : (entry : Option Bytes) (trusted : Bool) (own : Bytes) → trusted ≡ true → IsSome (direct_of entry trusted own)
some_direct (Some sector) trusted own is = refl
some_direct None trusted own is = subst (λ (t : Bool). IsSome (direct_of None t own)) (sym is) refl

-- all of a member that is in full counts
in_full_counts : (devices : ℕ) (table : Table) (image : Slots) (row member : ℕ) → IsInFull devices table member (image member)
    → IsTrusted devices table image row member
in_full_counts devices table image row member full = record {
  live = full.live;
  rebuilt = λ is. absurd (differ (sym full.in_sync ∙ is));
}
  where
    differ : ¬ (InSync ≡ Rebuilding)
    differ is = cc

-- With all other members in full and sound rows, a member may go: the rows stay alike.
pub rows_without : (devices : ℕ) (table : Table) (journals others : ℕ → Type 0) (image : Slots) (member : ℕ) (content : Content) (whole without : Rows)
    → member < table.geometry.members → ¬ IsLive devices table member content → HasWholeSectors image
    → ((slot : ℕ) → slot < table.geometry.members + 2 → slot ≢ member → IsInFull devices table slot (image slot))
    → ByOneEntry devices table journals others image (with_slot image member content) whole without
    → AreSound whole (row_count table) → AreAlike table whole without
rows_without devices table journals others image member content whole without within out sectors full by sound =
    alike table whole without (λ row other below in_set. sym (row_values_stay member (row_count table) whole without (omega (arith, by.one.width, within))
    (does_without devices table journals others image member content whole without within out by) sound
    (λ r r_below counts. ap length (by.one.own_sector r member within)
    ∙ own_is_whole devices table image member r sectors within r_below ((by.one.trust r member within).0 counts).live)
    (λ r o r_below o_below apart. some_direct (whole.entry r o) (whole.trusted r o) (whole.own r o)
    ((by.one.trust r o (omega (arith, by.one.width, o_below))).1
    (in_full_counts devices table image r o (full o (omega (arith, by.one.width, o_below)) apart))))
    row other below (omega (arith, by.one.width, in_set))))

-- the law
pub one_member_may_go : Spellings → OneMemberMayGo
one_member_may_go spellings devices table image member whole without within sectors full one sound two =
    rows_without devices table (IsLiveJournal devices table image) (IsLiveJournal devices table other) image member None whole without within
    (none_is_out spellings devices table member) sectors (λ slot in_set apart. full slot in_set)
    (record { one = one; two = two; last = last; same = journals.same })
    sound
  where
    other : Slots
    other = with_slot image member None

    apart : (slot : ℕ) → table.geometry.members ≤ slot → slot ≢ member
    apart slot beyond is = absurd (omega (arith, is, beyond, within))

    journals : HaveSameJournals (IsLiveJournal devices table image) (IsLiveJournal devices table other) image other
    journals = record {
      there = λ slot j. record {
        beyond_members = j.beyond_members;
        of_set = j.of_set;
        live = subst (IsLive devices table slot) (sym (put_elsewhere image member None slot (apart slot j.beyond_members))) j.live;
      };
      back = λ slot j. record {
        beyond_members = j.beyond_members;
        of_set = j.of_set;
        live = subst (IsLive devices table slot) (put_elsewhere image member None slot (apart slot j.beyond_members)) j.live;
      };
      same = λ slot j. sym (put_elsewhere image member None slot (apart slot j.beyond_members));
    }

    last : one.last ≡ two.last
    last = last_is_one spellings table.id table.geometry (IsLiveJournal devices table other) other one.last two.last
        (entry_stays table.id table.geometry (IsLiveJournal devices table image) (IsLiveJournal devices table other) image other journals one.last one.is_last)
        two.is_last
