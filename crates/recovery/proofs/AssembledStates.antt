-- Which states the table of an assembled set has, by the table that was chosen.
use Rattle.std.proofs.Common.{◌≡◌, ◌≢◌, ◌⊎◌, inl, inr, ℕ, ◌<◌, Bool, true, false, cond, zero, suc, List, [], ◌∷◌, ◌||◌, refl, sym, ◌∙◌, ap, subst}
use Rattle.std.proofs.lemmas.Bool.{cases_eq}
use Rattle.sector_model.specs.Bank.{Panel}
use Rattle.sector_model.specs.History.{History, is_down}
use Rattle.sector_model.specs.Readable.{readable}
use Rattle.superblock.specs.declared.state.State.{State}
use Rattle.superblock.specs.declared.state.State.TheVariants.{InSync, Missing, Rebuilding}
use Rattle.superblock.specs.declared.table.Table.{Table}
use Rattle.superblock.specs.Tables.{state_at}
use Rattle.superblock.specs.Counted.{IsLive}
use Rattle.superblock.specs.NextTables.{IsMarked, slots_of}
use Rattle.superblock.specs.States.{has_rebuilding, is_rebuilding, position_in}
use Rattle.array_io.specs.Believed.Settled.{IsAllThere}
use Rattle.array_io.specs.Believed.Views.{view_of}
use Rattle.array_io.proofs.Laws.Beginning.{live_is_up}
use Rattle.array_io.proofs.Marks.MarkingHolds.{missing_then, state_stays}
use Rattle.array_io.proofs.Images.Spellings.{Spellings}
use Rattle.recovery.specs.Assembling.{HasStatesOf}
use Rattle.recovery.specs.Making.{BankView}
use Rattle.recovery.proofs.AssembledReads.{IsRead, readable_read}

differ : true ≡ false → ⊥
differ is = cc

right_false : (a b : Bool) → (a || b) ≡ false → b ≡ false
right_false true b is = absurd (cc)
right_false false b is = is

-- a list of states of which none is rebuilding
pub none_rebuilding : (states : List State) → has_rebuilding states ≡ false → (slot : ℕ) → state_at states slot ≢ Rebuilding
none_rebuilding [] none slot is = cc
none_rebuilding (state ∷ states) none zero is = differ (sym (ap (λ (s : State). is_rebuilding s || has_rebuilding states) is) ∙ none)
none_rebuilding (state ∷ states) none (suc slot) is = none_rebuilding states (right_false (is_rebuilding state) (has_rebuilding states) none) slot is

-- a table's position counts
position_counts : (table : Table) → table.position ≡ position_in table.states table.position
position_counts table = by_case (has_rebuilding table.states) refl
  where
    by_case : (b : Bool) → has_rebuilding table.states ≡ b → table.position ≡ cond b table.position 0
    by_case true is = refl
    by_case false is = table.allowed.no_position (none_rebuilding table.states is)

missing_or : (state : State) → (state ≡ Missing) ⊎ (state ≢ Missing)
missing_or Missing = inl refl
missing_or InSync = inr (λ is. cc)
missing_or Rebuilding = inr (λ is. cc)

-- what is live after reads was so before
pub was_live : Spellings → (devices : ℕ) (table : Table) (old mid : History) → IsRead old mid → (slot : ℕ) → IsLive devices table slot (readable mid slot)
    → IsLive devices table slot (readable old slot)
was_live spellings devices table old mid is slot live =
    subst (IsLive devices table slot) (readable_read old mid is slot (live_is_up spellings devices table mid slot live)) live

-- and still is, if its device is up
pub still_live : (devices : ℕ) (table : Table) (old mid : History) → IsRead old mid → (slot : ℕ) → is_down mid slot ≡ false
    → IsLive devices table slot (readable old slot)
    → IsLive devices table slot (readable mid slot)
still_live devices table old mid is slot up live = subst (IsLive devices table slot) (sym (readable_read old mid is slot up)) live

-- the table of a set that is all there
pub states_whole : Spellings → (table : Table) (old : BankView) (mid new : History) (panel : Panel) → IsRead old.history mid
    → IsAllThere old.panel.devices table mid
    → ((device : ℕ) → is_down new device ≡ is_down mid device) → HasStatesOf table old (view_of panel new table 0)
states_whole spellings table old mid new panel is there stay = record {
  incarnations = refl;
  live_stays = λ slot of_set live up. refl;
  not_live = λ slot of_set out. elim (missing_or (state_at table.states slot)) [
    | inl missing ↦ missing
    | inr counted ↦ absurd (out (was_live spellings old.panel.devices table old.history mid is slot (there slot of_set counted)))
  ];
  failure = λ slot of_set down. elim (missing_or (state_at table.states slot)) [
    | inl missing ↦ missing
    | inr counted ↦ absurd (differ (sym (sym (stay slot) ∙ down) ∙ live_is_up spellings old.panel.devices table mid slot (there slot of_set counted)))
  ];
  position = position_counts table;
}

-- A slot was marked missing: each other is there, and the device of this one is down, or what it has is not live.
pub record HasLeftOne (table new_table : Table) (slot : ℕ) (devices : ℕ) (old mid new : History) : Type 0 where
  pub marked : IsMarked table slot new_table
  pub of_set : slot < slots_of table
  pub live : (other : ℕ) → other < slots_of table → other ≢ slot → IsLive devices table other (readable mid other)
  pub gone : is_down new slot ≡ false → ¬ IsLive devices table slot (readable old slot)
  pub up : (other : ℕ) → other < slots_of table → other ≢ slot → is_down new other ≡ false

pub states_without : Spellings → (table new_table : Table) (slot : ℕ) (old : BankView) (mid new : History) (panel : Panel) → IsRead old.history mid
    → HasLeftOne table new_table slot old.panel.devices old.history mid new → HasStatesOf table old (view_of panel new new_table 0)
states_without spellings table new_table slot old mid new panel is has = record {
  incarnations = has.marked.has_incarnations;
  live_stays = λ other of_set live up. elim (cases_eq other slot) [
    | inl same ↦ absurd (has.gone (subst (λ (k : ℕ). is_down new k ≡ false) same up)
        (subst (λ (k : ℕ). IsLive old.panel.devices table k (readable old.history k)) same live))
    | inr apart ↦ state_stays table new_table slot has.marked other apart
  ];
  not_live = λ other of_set out. elim (cases_eq other slot) [
    | inl same ↦ missing other same
    | inr apart ↦ absurd (out (was_live spellings old.panel.devices table old.history mid is other (has.live other of_set apart)))
  ];
  failure = λ other of_set down. elim (cases_eq other slot) [
    | inl same ↦ missing other same
    | inr apart ↦ absurd (differ (sym down ∙ has.up other of_set apart))
  ];
  position = has.marked.has_position ∙ ap (λ (states : List State). position_in states table.position) (sym has.marked.has_states);
}
  where
    missing : (other : ℕ) → other ≡ slot → state_at new_table.states other ≡ Missing
    missing other same = ap (λ (k : ℕ). state_at new_table.states k) same ∙ missing_then table new_table slot has.marked has.of_set
