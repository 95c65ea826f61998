-- What is known at the end of the table that was surveyed in the middle.
use Rattle.std.proofs.Common.{◌≡◌, ◌≢◌, ◌⊎◌, inl, inr, ℕ, ◌<◌, ◌≤◌, true, List, sym, ◌∙◌, subst}
use Rattle.std.proofs.lemmas.Bool.{cases_eq}
use Rattle.sector_model.specs.Bank.{Panel}
use Rattle.sector_model.specs.History.{History, calls_of, cut_at, is_down}
use Rattle.sector_model.specs.Readable.{readable}
use Rattle.superblock.specs.declared.state.State.TheVariants.{InSync}
use Rattle.superblock.specs.declared.table.Table.{Table}
use Rattle.superblock.specs.Tables.{state_at}
use Rattle.superblock.specs.Counted.{IsChosen, IsInFull}
use Rattle.superblock.specs.NextTables.{IsMarked, slots_of}
use Rattle.array_io.specs.Believed.Settled.{IsAllThere}
use Rattle.array_io.specs.Believed.Views.{view_of}
use Rattle.array_io.proofs.Laws.Fresh.{in_sync_not_missing}
use Rattle.recovery.specs.Making.{BankView, IsCarried}
use Rattle.recovery.specs.PuttingInOrder.{IsSince}

-- one slot at most is not live and in sync
abbrev pub IsOneOut : (devices : ℕ) → Table → History → Type 0
IsOneOut devices table h = (first second : ℕ) → first < slots_of table → second < slots_of table → ¬ IsInFull devices table first (readable h first)
    → ¬ IsInFull devices table second (readable h second) → first ≡ second

-- a slot that a later table does not call in sync is down now, or was not live and in sync
abbrev pub AreOutFrom : (devices : ℕ) (table new_table : Table) (mid new : History) → Type 0
AreOutFrom devices table new_table mid new = (slot : ℕ) → slot < slots_of table → state_at new_table.states slot ≢ InSync
    → (is_down new slot ≡ true) ⊎ ¬ IsInFull devices table slot (readable mid slot)

-- what led from the survey's end on
pub record IsSeen (id : List ℕ) (devices : ℕ) (old mid new : History) (table new_table : Table) : Type 0 where
  pub from : calls_of old ≤ calls_of mid
  pub until : calls_of mid ≤ calls_of new
  pub cut : cut_at (calls_of mid) new ≡ mid
  pub chosen : IsChosen id devices (readable mid) table
  pub carried : IsCarried id devices (readable old) table
  pub marked : (new_table ≡ table) ⊎ ((slot : ℕ) × (slot < slots_of table) × IsMarked table slot new_table)
  pub out : AreOutFrom devices table new_table mid new
  pub one : IsOneOut devices table mid

-- of the array's devices
is_since : (id : List ℕ) (old : BankView) (mid new : History) (table new_table : Table) (panel : Panel)
    → IsSeen id panel.devices old.history mid new table new_table
    → IsSince id old (view_of panel new new_table 0)
is_since id old mid new table new_table panel is = record {
  t = calls_of mid;
  from = is.from;
  until = is.until;
  table = table;
  chosen = subst (λ (h : History). IsChosen id panel.devices (readable h) table) (sym is.cut) is.chosen;
  carried = is.carried;
  marked = is.marked;
  out = subst (λ (h : History). AreOutFrom panel.devices table new_table h new) (sym is.cut) is.out;
  one = subst (λ (h : History). IsOneOut panel.devices table h) (sym is.cut) is.one;
}

pub since : (id : List ℕ) (devices : ℕ) (old : BankView) (mid new : History) (table new_table : Table) (panel : Panel) → panel.devices ≡ devices
    → IsSeen id devices old.history mid new table new_table → IsSince id old (view_of panel new new_table 0)
since id devices old mid new table new_table panel same is =
    is_since id old mid new table new_table panel (subst (λ (n : ℕ). IsSeen id n old.history mid new table new_table) (sym same) is)

-- where all is there, a slot that is not live and in sync is not in sync
not_in_sync : (devices : ℕ) (table : Table) (h : History) (slot : ℕ) → IsAllThere devices table h → slot < slots_of table
    → ¬ IsInFull devices table slot (readable h slot)
    → state_at table.states slot ≢ InSync
not_in_sync devices table h slot there of_set not_full in_sync =
    not_full record { live = there slot of_set (λ missing. in_sync_not_missing (sym in_sync ∙ missing)); in_sync = in_sync }

-- so one is at most
pub one_out_there : (devices : ℕ) (table : Table) (h : History) → IsAllThere devices table h → IsOneOut devices table h
one_out_there devices table h there first second of_set of_set' not_full not_full' =
    table.allowed.one_out first second of_set of_set' (not_in_sync devices table h first there of_set not_full)
    (not_in_sync devices table h second there of_set' not_full')

-- and one where all others are live and in sync
pub one_out_but : (devices : ℕ) (table : Table) (h : History) (slot : ℕ)
    → ((other : ℕ) → other < slots_of table → other ≢ slot → IsInFull devices table other (readable h other)) → IsOneOut devices table h
one_out_but devices table h slot others first second of_set of_set' not_full not_full' = is_slot first of_set not_full ∙ sym (is_slot second of_set' not_full')
  where
    is_slot : (other : ℕ) → other < slots_of table → ¬ IsInFull devices table other (readable h other) → other ≡ slot
    is_slot other of_set not_full = elim (cases_eq other slot) [
      | inl same ↦ same
      | inr apart ↦ absurd (not_full (others other of_set apart))
    ]
