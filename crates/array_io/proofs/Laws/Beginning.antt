-- What a run begins with; and which cases hold, and by which table, where an array is settled.
use Rattle.std.proofs.Common.{◌≡◌, ◌≢◌, ◌⊎◌, inl, inr, ℕ, ◌+◌, ◌<◌, Bool, true, false, List, [], ◌∷◌, Option, Some, None, refl, sym, ◌∙◌, subst}
use Rattle.std.specs.Prelude.{IfSome, IsSome}
use Rattle.sector_model.specs.History.{Began, Bytes, History, Slots, is_down}
use Rattle.sector_model.specs.Readable.{readable}
use Rattle.sector_model.proofs.Readable.{began_left, none_pending_began, readable_down, readable_left}
use Rattle.layout_map.specs.declared.geometry.Geometry.{Geometry}
use Rattle.superblock.specs.declared.state.State.{State}
use Rattle.superblock.specs.declared.state.State.TheVariants.{InSync, Missing, Rebuilding}
use Rattle.superblock.specs.declared.table.Table.{Table}
use Rattle.superblock.specs.Tables.{state_at}
use Rattle.superblock.specs.Cases.{Lost}
use Rattle.superblock.specs.Counted.{Content, IsChosen, IsLive}
use Rattle.superblock.specs.Losses.{IsLostAt}
use Rattle.superblock.specs.NextTables.{IsNotOlder, slots_of}
use Rattle.array_io.specs.Laws.Core.{IsKept}
use Rattle.array_io.specs.Believed.Holds.{Holds}
use Rattle.array_io.specs.Believed.Moments.{HoldsNow}
use Rattle.array_io.specs.Laws.RunLaw.{ARunBegins}
use Rattle.array_io.specs.Believed.Settled.{IsLostSlot, IsSettled}
use Rattle.array_io.proofs.Laws.Begun.{chosen_is_one, one_at_most}
use Rattle.array_io.proofs.Images.Counting.{none_is_out}
use Rattle.array_io.proofs.Laws.Fresh.{in_sync_not_missing, in_sync_not_rebuilding}
use Rattle.array_io.proofs.Images.Spellings.{Spellings}

-- a slot of the set may be lost where none is: its weakened images are among those of the case with none lost
slot_may_go : (base : Table) (devices : ℕ) (image : Slots) (X : List (List Bytes)) → Holds base devices record { image = image; lost = None } X
    → (slot : ℕ) → slot < slots_of base → Holds base devices record { image = image; lost = Some record { slot = slot; away = [] } } X
slot_may_go base devices image X holds slot of_set = record {
  table = holds.table;
  not_older = holds.not_older;
  lost_in_set = subst (λ (g : Geometry). slot < g.members + 2) (sym holds.not_older.same_geometry) of_set;
  whole = holds.whole;
  weakened = λ other content may stands. holds.weakened other content tt stands;
  one_counts = λ there. one_at_most devices holds.table slot (image slot);
}

-- the case of each loss that a moment may have
holds_at : (base : Table) (devices : ℕ) (image : Slots) (h : History) (before after : Option Lost) (X : List (List Bytes))
    → Holds base devices record { image = image; lost = before } X → IsLostAt (slots_of base) before h after
    → Holds base devices record { image = image; lost = after } X
holds_at base devices image h None after X holds (inl (none, up)) =
    subst (λ (l : Option Lost). Holds base devices record { image = image; lost = l } X) (sym none) holds
holds_at base devices image h None after X holds (inr failure) =
    subst (λ (l : Option Lost). Holds base devices record { image = image; lost = l } X) (sym failure.lost)
    (slot_may_go base devices image X holds failure.slot failure.of_set)
holds_at base devices image h (Some lost) after X holds (of_set, same, up) =
    subst (λ (l : Option Lost). Holds base devices record { image = image; lost = l } X) (sym same) holds

-- the law of what a run begins with
pub a_run_begins : ARunBegins
a_run_begins base devices image lost X holds = record {
  nothing_pending = none_pending_began image;
  holds = λ after left is may. holds_at base devices left (Began image) lost after X
      (subst (λ (i : Slots). Holds base devices record { image = i; lost = lost } X) (sym (began_left image left may)) holds) is;
}

-- each case that a crash may leave of a settled array holds, whichever slot is then lost
pub holds_at_rest : (devices : ℕ) (table : Table) (number : ℕ) (h : History) (lost : Option Lost) (V : List Bytes)
    → IsSettled devices table number h lost V → HoldsNow table devices lost (V ∷ []) h
holds_at_rest devices table number h lost V settled after image is may = holds_at table devices image h lost after (V ∷ []) (settled.holds image may) is

pub state_in_sync : (state : State) → (state ≡ InSync) ⊎ (state ≢ InSync)
state_in_sync Missing = inr (λ is. in_sync_not_missing (sym is))
state_in_sync InSync = inl refl
state_in_sync Rebuilding = inr (λ is. in_sync_not_rebuilding (sym is))

not_kept : (lost : Option Lost) (slot : ℕ) → IfSome lost (λ one. one.slot ≡ slot) × IsSome lost → ¬ IsKept lost slot
not_kept None slot (same, some) kept = let no : false ≡ true = some in cc
not_kept (Some one) slot (same, some) kept = kept (sym same)

-- each slot but the lost one is in sync
in_sync_but_lost : (table : Table) (lost : Option Lost) → IsLostSlot table lost → (slot : ℕ) → slot < slots_of table → IsKept lost slot
    → state_at table.states slot ≡ InSync
in_sync_but_lost table lost is slot of_set kept = elim (state_in_sync (state_at table.states slot)) [
  | inl in_sync ↦ in_sync
  | inr out ↦ absurd (not_kept lost slot (is.out slot record { of_set = of_set; out = out }) kept)
]

pub live_is_up : Spellings → (devices : ℕ) (table : Table) (h : History) (slot : ℕ) → IsLive devices table slot (readable h slot) → is_down h slot ≡ false
live_is_up spellings devices table h slot live = by_state (is_down h slot) refl
  where
    by_state : (b : Bool) → is_down h slot ≡ b → is_down h slot ≡ false
    by_state true is = absurd (none_is_out spellings devices table slot (subst (λ (c : Content). IsLive devices table slot c) (readable_down h slot is) live))
    by_state false is = is

-- where an array is settled, the device of each slot but the lost one is up
pub up_at_rest : Spellings → (devices : ℕ) (table : Table) (number : ℕ) (h : History) (lost : Option Lost) (V : List Bytes)
    → IsSettled devices table number h lost V → (slot : ℕ) → slot < slots_of table → IsKept lost slot → is_down h slot ≡ false
up_at_rest spellings devices table number h lost V settled slot of_set kept =
    live_is_up spellings devices table h slot (settled.there slot of_set
    (λ missing. in_sync_not_missing (sym (in_sync_but_lost table lost settled.lost_slot slot of_set kept) ∙ missing)))

-- so at that moment its lost slot is lost
pub lost_at_rest : Spellings → (devices : ℕ) (table : Table) (number : ℕ) (h : History) (lost : Option Lost) (V : List Bytes)
    → IsSettled devices table number h lost V → IsLostAt (slots_of table) lost h lost
lost_at_rest spellings devices table number h None V settled =
    inl (refl, λ other of_set. up_at_rest spellings devices table number h None V settled other of_set tt)
lost_at_rest spellings devices table number h (Some lost) V settled =
    let holds = settled.holds (readable h) (readable_left h) in (
      subst (λ (g : Geometry). lost.slot < g.members + 2) holds.not_older.same_geometry holds.lost_in_set,
      refl,
      λ other of_set apart. up_at_rest spellings devices table number h (Some lost) V settled other of_set apart,
    )

-- and no other
pub one_lost_at_rest : Spellings → (devices : ℕ) (table : Table) (number : ℕ) (h : History) (lost after : Option Lost) (V : List Bytes)
    → IsSettled devices table number h lost V → IsLostAt (slots_of table) lost h after → after ≡ lost
one_lost_at_rest spellings devices table number h None after V settled (inl (none, up)) = none
one_lost_at_rest spellings devices table number h None after V settled (inr failure) =
    absurd (differ (sym failure.failed ∙ up_at_rest spellings devices table number h None V settled failure.slot failure.of_set tt))
  where
    differ : true ≡ false → ⊥
    differ is = cc
one_lost_at_rest spellings devices table number h (Some lost) after V settled (of_set, same, up) = same

-- the table of a settled array is not older than one by which its cases held before
pub settled_table : (base : Table) (devices : ℕ) (table : Table) (number : ℕ) (h : History) (lost : Option Lost) (V : List Bytes) (after : Option Lost)
    (X : List (List Bytes))
    → table.id ≡ base.id → IsSettled devices table number h lost V → (holds : Holds base devices record { image = readable h; lost = after } X)
    → table ≡ holds.table
settled_table base devices table number h lost V after X same settled holds =
    chosen_is_one devices holds.table X (readable h) holds.whole table
    (subst (λ (i : List ℕ). IsChosen i devices (readable h) table) (same ∙ sym holds.not_older.same_id)
    (settled.chosen.whole (readable h) (readable_left h)))

pub not_older_at_rest : (base : Table) (devices : ℕ) (before after : Option Lost) (X : List (List Bytes)) (table : Table) (number : ℕ) (h : History)
    (lost : Option Lost) (V : List Bytes)
    → table.id ≡ base.id → HoldsNow base devices before X h → IsLostAt (slots_of base) before h after → IsSettled devices table number h lost V
    → IsNotOlder base table
not_older_at_rest base devices before after X table number h lost V same now is settled =
    let holds = now after (readable h) is (readable_left h) in
    subst (λ (t : Table). IsNotOlder base t) (sym (settled_table base devices table number h lost V after X same settled holds)) holds.not_older
