-- What assembling answers, put together.
use Rattle.std.proofs.Common.{◌≡◌, ℕ, List, Option, subst}
use Rattle.sector_model.specs.declared.refusal.Refusal.{Refusal}
use Rattle.sector_model.specs.Bank.{IsLater}
use Rattle.sector_model.specs.History.{Bytes}
use Rattle.sector_model.specs.Readable.{readable}
use Rattle.superblock.specs.declared.table.Table.{Table}
use Rattle.superblock.specs.Cases.{Lost}
use Rattle.superblock.specs.Counted.{IsChosen}
use Rattle.superblock.specs.Losses.{IsSingleFailure}
use Rattle.superblock.specs.NextTables.{slots_of}
use Rattle.array_io.specs.Believed.Moments.{HoldsThroughout}
use Rattle.array_io.specs.Believed.Views.{ArrayView, HasItsSlots}
use Rattle.recovery.specs.Assembling.{AssemblesTo, HasStatesOf, IsNoAssembly, IsOfAssembly, MayAssemble}
use Rattle.recovery.specs.Making.{BankView, Opened, Outcome, Returned}
use Rattle.recovery.specs.PuttingInOrder.{IsInOrder, IsSince, PutsInOrder}
use Rattle.recovery.specs.Unwritten.{RefusesUnwritten}
use Rattle.recovery.proofs.AssembledCause.{HasOne}

-- what is said of the array of an outcome, and of none
abbrev OnOpened : (ArrayView → Type 0) → Outcome → Type 0
OnOpened P (Opened array) = P array
OnOpened P (Returned bank refusal) = ⊥

-- what is said of a bank that is given back, and of none
abbrev OnReturned : (BankView → Refusal → Type 0) → Outcome → Type 0
OnReturned P (Opened array) = ⊥
OnReturned P (Returned bank refusal) = P bank refusal

pub of_opened : (P : ArrayView → Type 0) (given array : ArrayView) → Opened given ≡ Opened array → P given → P array
of_opened P given array is of_given = subst (OnOpened P) is of_given

pub of_returned : (P : BankView → Refusal → Type 0) (given bank : BankView) (why refusal : Refusal) → Returned given why ≡ Returned bank refusal → P given why
    → P bank refusal
of_returned P given bank why refusal is of_given = subst (OnReturned P) is of_given

pub not_both : (array : ArrayView) (bank : BankView) (refusal : Refusal) → Opened array ≡ Returned bank refusal → ⊥
not_both array bank refusal is = subst (OnOpened (λ a. Unit {0})) is tt

pub not_opened : (array : ArrayView) (bank : BankView) (refusal : Refusal) → Returned bank refusal ≡ Opened array → ⊥
not_opened array bank refusal is = subst (OnReturned (λ b r. Unit {0})) is tt

-- what an array is that is reached from lists for which all cases held
abbrev pub Reached : Type 1
Reached = (base : Table) (lost : Option Lost) (X : List (List Bytes)) → ArrayView → Type 0

-- An array was opened, which is as it has to be.
pub record IsOpening (Reaches : Reached) (honest : Type 0) (id : List ℕ) (old : BankView) (array : ArrayView) : Type 0 where
  pub later : IsLater old.panel array.panel
  pub of_id : array.table.id ≡ id
  pub its_slots : HasItsSlots array.table array.panel
  pub moments : honest → (base : Table) (lost : Option Lost) (X : List (List Bytes)) → base.id ≡ id → MayAssemble base lost X old
      → HoldsThroughout base old.panel.devices lost X old.history array.history
  pub rests : honest → (base : Table) (lost : Option Lost) (X : List (List Bytes)) → base.id ≡ id → MayAssemble base lost X old
      → IsSingleFailure (slots_of base) lost array.history → Reaches base lost X array
  pub states : honest → (base : Table) (lost : Option Lost) (X : List (List Bytes)) → base.id ≡ id → MayAssemble base lost X old
      → IsSingleFailure (slots_of base) lost array.history
      → (table : Table) → IsChosen id old.panel.devices (readable old.history) table → HasStatesOf table old array
  pub one : honest → HasOne id old.panel.devices array.history
  pub unwritten : RefusesUnwritten honest id old (Opened array)

pub opening : (Reaches : Reached) (honest : Type 0) (id : List ℕ) (old : BankView) (array : ArrayView) → IsOpening Reaches honest id old array
    → AssemblesTo Reaches honest id old (Opened array)
opening Reaches honest id old array is = record {
  later = is.later;
  of_id = λ other same. of_opened (λ a. a.table.id ≡ id) array other same is.of_id;
  its_slots = λ other same. of_opened (λ a. HasItsSlots a.table a.panel) array other same is.its_slots;
  moments = is.moments;
  rests = λ is_honest base lost X same_id may other same. of_opened (λ a. IsSingleFailure (slots_of base) lost a.history → Reaches base lost X a) array other
      same
      (is.rests is_honest base lost X same_id may);
  states = λ is_honest base lost X same_id may other same.
      of_opened (λ a. IsSingleFailure (slots_of base) lost a.history → (table : Table) → IsChosen id old.panel.devices (readable old.history) table
      → HasStatesOf table old a) array other same
      (is.states is_honest base lost X same_id may);
  refused = λ bank refusal same. absurd (not_both array bank refusal same);
  cause = λ is_honest bank refusal same. absurd (not_both array bank refusal same);
  no_set = λ is_honest none other same. let one = is.one is_honest in none one.slot one.place one.superblock one.counts;
}

-- The bank was given back, for this reason.
pub record IsReturning (honest : Type 0) (id : List ℕ) (old bank : BankView) (refusal : Refusal) : Type 0 where
  pub later : IsLater old.panel bank.panel
  pub moments : honest → (base : Table) (lost : Option Lost) (X : List (List Bytes)) → base.id ≡ id → MayAssemble base lost X old
      → HoldsThroughout base old.panel.devices lost X old.history bank.history
  pub refused : IsOfAssembly refusal
  pub cause : honest → IsNoAssembly id old bank refusal
  pub unwritten : RefusesUnwritten honest id old (Returned bank refusal)

pub returning : (Reaches : Reached) (honest : Type 0) (id : List ℕ) (old bank : BankView) (refusal : Refusal) → IsReturning honest id old bank refusal
    → AssemblesTo Reaches honest id old (Returned bank refusal)
returning Reaches honest id old bank refusal is = record {
  later = is.later;
  of_id = λ array same. absurd (not_opened array bank refusal same);
  its_slots = λ array same. absurd (not_opened array bank refusal same);
  moments = is.moments;
  rests = λ is_honest base lost X same_id may array same. absurd (not_opened array bank refusal same);
  states = λ is_honest base lost X same_id may array same. absurd (not_opened array bank refusal same);
  refused = λ other why same. of_returned (λ b r. IsOfAssembly r) bank other refusal why same is.refused;
  cause = λ is_honest other why same. of_returned (λ b r. IsNoAssembly id old b r) bank other refusal why same (is.cause is_honest);
  no_set = λ is_honest none array same. absurd (not_opened array bank refusal same);
}

-- the superblocks were put in order
pub put_in_order : (honest : Type 0) (id : List ℕ) (old : BankView) (array : ArrayView) → IsOpening IsInOrder honest id old array
    → (honest → IsSince id old array)
    → PutsInOrder honest id old (Opened array)
put_in_order honest id old array is since = record {
  assembles = opening IsInOrder honest id old array is;
  since = λ is_honest other same. of_opened (λ a. IsSince id old a) array other same (since is_honest);
  unwritten = is.unwritten;
}

-- they were not
pub not_in_order : (honest : Type 0) (id : List ℕ) (old bank : BankView) (refusal : Refusal) → IsReturning honest id old bank refusal
    → PutsInOrder honest id old (Returned bank refusal)
not_in_order honest id old bank refusal is = record {
  assembles = returning IsInOrder honest id old bank refusal is;
  since = λ is_honest array same. absurd (not_opened array bank refusal same);
  unwritten = is.unwritten;
}
