-- The table in which a slot is marked missing, all others being in sync: what it has of the old one.
use Rattle.std.proofs.Common.{◌≡◌, ◌≢◌, ℕ, ◌<◌, ◌≤◌, List, Some, None, sym, ◌∙◌, ap, arith}
use Rattle.std.proofs.lemmas.List.{get_or-set_same, get_or-set_other}
use Rattle.sector_model.specs.History.{Bytes}
use Rattle.superblock.specs.declared.state.State.{State}
use Rattle.superblock.specs.declared.state.State.TheVariants.{InSync, Missing}
use Rattle.superblock.specs.declared.table.Table.{Table}
use Rattle.superblock.specs.NextTables.{IsMarked, IsNotOlder, slots_of, without_slot}
use Rattle.superblock.specs.Publishing.{StandsAt}
use Rattle.superblock.specs.SlotSteps.{IsStepAt}
use Rattle.superblock.specs.Tables.{incarnation_at, state_at}
use Rattle.superblock.proofs.LaterTables.{next_not_older}
use Rattle.array_io.proofs.Laws.Fresh.{in_sync_not_missing}
use Rattle.array_io.proofs.Marks.MarkingImages.{gets_is}
use Rattle.array_io.proofs.Tables.StepHolds.{StepsSlot}

-- the new table

pub missing_then : (old new : Table) (slot : ℕ) → IsMarked old slot new → slot < slots_of old → state_at new.states slot ≡ Missing
missing_then old new slot marked of_set =
    ap (λ (l : List State). state_at l slot) marked.has_states
    ∙ get_or-set_same old.states slot Missing Missing (omega (arith, of_set, old.allowed.ten_states, old.geometry.limits.members_most))

pub state_stays : (old new : Table) (slot : ℕ) → IsMarked old slot new → (other : ℕ) → other ≢ slot → state_at new.states other ≡ state_at old.states other
state_stays old new slot marked other apart =
    ap (λ (l : List State). state_at l other) marked.has_states ∙ get_or-set_other old.states slot other Missing Missing apart

pub incarnation_stays : (old new : Table) (slot : ℕ) → IsMarked old slot new → (other : ℕ)
    → incarnation_at new.incarnations other ≡ incarnation_at old.incarnations other
incarnation_stays old new slot marked other = ap (λ (l : List ℕ). incarnation_at l other) marked.has_incarnations

pub marked_not_older : (old new : Table) (slot : ℕ) → IsMarked old slot new → IsNotOlder old new
marked_not_older old new slot marked = next_not_older old (without_slot old slot) old.incarnations _ new marked (λ other. omega arith)

-- it differs in that slot alone
pub marked_step : (old new : Table) (slot : ℕ) → IsMarked old slot new → slot < slots_of old
    → ((other : ℕ) → other < slots_of old → other ≢ slot → state_at old.states other ≡ InSync) → IsStepAt old new slot
marked_step old new slot marked of_set others = record {
  of_set = of_set;
  same_id = marked.same_id;
  same_geometry = marked.same_geometry;
  generation = marked.generation;
  others_in_sync = others;
  states = λ other apart. state_stays old new slot marked other apart;
  incarnations = λ other apart. incarnation_stays old new slot marked other;
  incarnation = omega (arith, incarnation_stays old new slot marked slot);
}

none_is_some : (slot : ℕ) → ¬ (None ≡ Some slot)
none_is_some slot is = cc

-- and the slot gets no superblock
pub marks_slot : (devices : ℕ) (old new : Table) (slot : ℕ) (sectors : ℕ → Bytes) → IsMarked old slot new → slot < slots_of old
    → ((other : ℕ) → other < slots_of old → other ≢ slot → state_at old.states other ≡ InSync) → slots_of old ≤ devices
    → ((other : ℕ) → other < slots_of new → state_at new.states other ≢ Missing → StandsAt new other (sectors other))
    → StepsSlot devices old new slot None sectors
marks_slot devices old new slot sectors marked of_set others room spelled = record {
  step = marked_step old new slot marked of_set others;
  only_last = λ other is. absurd (none_is_some other is);
  last_there = λ is. absurd (none_is_some slot is);
  gets_last = λ gets. absurd (in_sync_not_missing (sym (gets_is new slot gets).1 ∙ missing_then old new slot marked of_set));
  has_slots = room;
  spelled = spelled;
}
