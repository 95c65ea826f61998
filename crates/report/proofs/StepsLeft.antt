-- How many steps a status has left, by which slot is rebuilding.
use Rattle.std.proofs.Common.{◌≡◌, ◌≢◌, ℕ, zero, suc, ◌+◌, ◌<◌, ◌||◌, Bool, true, false, cond, List, [], ◌∷◌, take, refl, ap, arith}
use Rattle.superblock.specs.declared.state.State.{State}
use Rattle.superblock.specs.declared.state.State.TheVariants.{InSync, Missing, Rebuilding}
use Rattle.superblock.specs.States.{has_rebuilding, is_rebuilding}
use Rattle.superblock.specs.Tables.{state_at}
use Rattle.rebuild.specs.Rebuilding.{steps_left}
use Rattle.volume_table.specs.declared.status.Status.{Status}
use Rattle.report.specs.Report.{IsRebuildingSlot, left}

true_after : (b rest : Bool) → rest ≡ true → (b || rest) ≡ true
true_after true rest is = refl
true_after false rest is = is

-- one of the first states is that of a rebuilding slot
some_rebuilding : (states : List State) (few slot : ℕ) → slot < few → state_at states slot ≡ Rebuilding → has_rebuilding (take few states) ≡ true
some_rebuilding [] few slot below is = absurd (cc)
some_rebuilding (state ∷ states) zero slot below is = absurd (omega (arith, below))
some_rebuilding (state ∷ states) (suc few) zero below is = ap (λ (s : State). is_rebuilding s || has_rebuilding (take few states)) is
some_rebuilding (state ∷ states) (suc few) (suc slot) below is =
    true_after (is_rebuilding state) (has_rebuilding (take few states)) (some_rebuilding states few slot (omega (arith, below)) is)

-- or none of them is
none_rebuilding : (states : List State) (few : ℕ) → ((slot : ℕ) → slot < few → state_at states slot ≢ Rebuilding) → has_rebuilding (take few states) ≡ false
none_rebuilding [] zero none = refl
none_rebuilding [] (suc few) none = refl
none_rebuilding (state ∷ states) zero none = refl
none_rebuilding (Missing ∷ states) (suc few) none = none_rebuilding states few (λ slot below. none (suc slot) (omega (arith, below)))
none_rebuilding (InSync ∷ states) (suc few) none = none_rebuilding states few (λ slot below. none (suc slot) (omega (arith, below)))
none_rebuilding (Rebuilding ∷ states) (suc few) none = absurd (none 0 (omega arith) refl)

-- what is left, by whether a slot of the set is rebuilding
pub left_while_rebuilding : (status : Status) (slot : ℕ) → IsRebuildingSlot status slot → left status
    ≡ steps_left status.format status.position status.rows
left_while_rebuilding status slot is =
    ap (λ (b : Bool). cond b (steps_left status.format status.position status.rows) 0)
    (some_rebuilding status.states (status.members + 2) slot is.of_set is.state)

pub left_at_rest : (status : Status) → ((slot : ℕ) → IsRebuildingSlot status slot → ⊥) → left status ≡ 0
left_at_rest status none =
    ap (λ (b : Bool). cond b (steps_left status.format status.position status.rows) 0)
    (none_rebuilding status.states (status.members + 2) (λ slot below is. none slot (record { of_set = below; state = is })))
