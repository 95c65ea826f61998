-- While rows of the rebuilding member are written that don't count so far, every image keeps what it says, and so do
-- reads.
use Rattle.std.proofs.Common.{◌≡◌, ◌≢◌, inl, inr, ℕ, ◌+◌, ◌<◌, Bool, true, false, cond, List, Some, None, refl, sym, ◌∙◌, ap, subst, arith}
use Rattle.std.proofs.lemmas.Bool.{cases_eq}
use Rattle.sector_model.specs.History.{Bytes, History, Slots, disk_of, is_down, sector_of, seen}
use Rattle.sector_model.specs.Readable.{readable}
use Rattle.layout_map.specs.declared.sizes.TheConstants.{FIRST_ROW, FIRST_SEAL}
use Rattle.superblock.specs.declared.state.State.TheVariants.{Rebuilding}
use Rattle.superblock.specs.declared.table.Table.{Table}
use Rattle.superblock.specs.Counted.{Content, IsLive}
use Rattle.superblock.specs.Tables.{state_at}
use Rattle.stripe_journal.specs.LastEntry.{IsLastSealed, sector_in}
use Rattle.stripe_journal.specs.OneEntry.{StaysOff}
use Rattle.degraded.specs.RowValue.{value}
use Rattle.degraded.proofs.Values.{value-agree}
use Rattle.array_io.specs.Steps.EntryAtRest.{HasEntryAtRest}
use Rattle.array_io.specs.Believed.Holds.{IsLiveJournal}
use Rattle.array_io.specs.Believed.Settled.{rows_by}
use Rattle.array_io.proofs.Writes.Written.{KeepsRows}
use Rattle.array_io.proofs.Rest.AtRestRows.{trusts_tells}
use Rattle.array_io.proofs.Images.SayingTheSame.{SayTheSame, says_the_same, steps_the_same}
use Rattle.array_io.proofs.Writes.WritingImages.{written_alive}
use Rattle.rebuild.specs.RowSteps.{OwnRows}

-- images

-- no image says anything else
pub own_rows_keep : (devices : ℕ) (table : Table) (member : ℕ) (reads : Slots) (X : List (List Bytes))
    → member < table.geometry.members
    → state_at table.states member ≡ Rebuilding → KeepsRows devices table (OwnRows table member) reads X X
own_rows_keep devices table member reads X within rebuilding whole before image from = (
  says_the_same devices table image before says X record { sound = from.holds.sound; listed = from.holds.listed },
  steps_the_same devices table image before says from.holds.in_step,
)
  where
    -- another slot has what it had
    other : (slot at : ℕ) → slot ≢ member → sector_of (disk_of (image slot)) at ≡ sector_of (disk_of (before slot)) at
    other slot at apart = elim ((from.put slot).each at) [
      | inl same ↦ same
      | inr put ↦ absurd (apart put.1.0)
    ]

    beyond : (journal : ℕ) → IsLiveJournal devices table before journal → journal ≢ member
    beyond journal live same = absurd (omega (arith, live.beyond_members, within, same))

    -- a member's own sector that counts
    own : (row slot : ℕ) → (state_at table.states slot ≡ Rebuilding → row < table.position)
        → sector_of (disk_of (image slot)) (FIRST_ROW + row) ≡ sector_of (disk_of (before slot)) (FIRST_ROW + row)
    own row slot rebuilt = elim ((from.put slot).each (FIRST_ROW + row)) [
      | inl same ↦ same
      | inr put ↦ absurd (omega (arith, put.1.1, rebuilt (ap (state_at table.states) put.1.0 ∙ rebuilding)))
    ]

    says : SayTheSame devices table image before
    says = record {
      alive = written_alive devices table (OwnRows table member) before image from.put;
      seals = λ journal place below live. other journal (FIRST_SEAL + place) (beyond journal live);
      bodies = λ journal seal live is row slot place below found. other journal place (beyond journal live);
      owns = λ last is row slot below of_members none trusted. own row slot trusted.rebuilt;
    }

-- reads

module _ (table : Table) (member : ℕ) (old new : History) (rebuilding : state_at table.states member ≡ Rebuilding)
    (off : StaysOff (λ d. d ≡ member) old new)
    (stays : (device : ℕ) → is_down new device ≡ is_down old device) where
  -- reads give of another slot what they gave
  pub others_read : (slot : ℕ) → slot ≢ member → readable new slot ≡ readable old slot
  others_read slot apart = ap (λ (b : Bool). cond b None (Some (seen new slot))) (stays slot)
      ∙ ap (λ (s : List Bytes). cond (is_down old slot) None (Some s)) (off.others_seen slot apart)

  -- the member's sectors as they are read
  own_read : (at : ℕ) → sector_of (seen new member) at ≡ sector_of (seen old member) at
      → sector_of (disk_of (readable new member)) at ≡ sector_of (disk_of (readable old member)) at
  own_read at same = ap (λ (b : Bool). sector_of (disk_of (cond b None (Some (seen new member)))) at) (stays member)
      ∙ by_state (is_down old member)
    where
      by_state : (b : Bool) → sector_of (disk_of (cond b None (Some (seen new member))))
          at ≡ sector_of (disk_of (cond b None (Some (seen old member)))) at
      by_state true = refl
      by_state false = same

  -- The values of a row stay, where its own sector on the member stays or doesn't count.
  pub row_value_stays : (row other : ℕ) → other < table.geometry.members
      → (row < table.position → sector_of (seen new member) (FIRST_ROW + row) ≡ sector_of (seen old member) (FIRST_ROW + row))
      → value (rows_by table (readable new)) row other ≡ value (rows_by table (readable old)) row other
  row_value_stays row other within same = value-agree row other (rows_by table (readable new))
      (rows_by table (readable old)) record {
        width = refl;
        entries = λ slot below. refl;
        trusts = λ slot below. refl;
        owns = λ slot below none counts. elim (cases_eq slot member) [
          | inr apart ↦ ap (λ (c : Content). sector_of (disk_of c) (FIRST_ROW + row)) (others_read slot apart)
          | inl is ↦
              let rebuilt : row < table.position =
              ((trusts_tells (state_at table.states slot) row table.position).0 counts).rebuilt
              (ap (state_at table.states) is ∙ rebuilding) in
              subst (λ (k : ℕ). sector_of (disk_of (readable new k)) (FIRST_ROW + row) ≡ sector_of (disk_of (readable old k))
              (FIRST_ROW + row)) (sym is) (own_read (FIRST_ROW + row) (same rebuilt))
        ];
      } within

  -- What the last entry says stays, where the rows that count stay on the member.
  pub entry_stays : (devices number : ℕ) → member < table.geometry.members
      → ((row : ℕ) → row < table.position → sector_of (seen new member) (FIRST_ROW + row) ≡ sector_of (seen old member)
      (FIRST_ROW + row))
      → HasEntryAtRest devices table number (readable old) → HasEntryAtRest devices table number (readable new)
  entry_stays devices number of_members same entry = record {
    last = entry.last;
    numbered = entry.numbered;
    sealed = λ journal live. subst (λ (c : Content). IsLastSealed table.id table.geometry c entry.last)
        (sym (journal_read journal live)) (entry.sealed journal (was journal live));
    bodies = λ journal seal live is row slot sector below within stands.
        entry.bodies journal seal (was journal live) is row slot sector below within
        (subst (λ (c : Content). sector_in table.geometry.members c seal row slot ≡ Some sector)
        (journal_read journal live) stands)
        ∙ sym (row_value_stays row slot within (same row));
  }
    where
      journal_read : (journal : ℕ) → IsLiveJournal devices table (readable new) journal
          → readable new journal ≡ readable old journal
      journal_read journal live = others_read journal (λ is. absurd
          (omega (arith, live.beyond_members, of_members, is)))

      was : (journal : ℕ) → IsLiveJournal devices table (readable new) journal
          → IsLiveJournal devices table (readable old) journal
      was journal live = record {
        beyond_members = live.beyond_members;
        of_set = live.of_set;
        live = subst (λ (c : Content). IsLive devices table journal c) (journal_read journal live) live.live;
      }
