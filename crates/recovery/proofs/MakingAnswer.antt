-- What making a set answers, put together.
use Rattle.std.proofs.Common.{◌≡◌, ℕ, ◌+◌, List, false, not, refl, sym, ◌∙◌, ap, subst}
use Rattle.std.specs.Prelude.{None}
use Rattle.sector_model.specs.declared.refusal.Refusal.{Refusal}
use Rattle.sector_model.specs.Bank.{IsLater, Panel}
use Rattle.sector_model.specs.History.{History}
use Rattle.layout_map.specs.declared.geometry.Geometry.{Geometry}
use Rattle.superblock.specs.declared.table.Table.{Table}
use Rattle.superblock.specs.NextTables.{slots_of}
use Rattle.array_io.specs.Believed.Fresh.{zeros_of}
use Rattle.array_io.specs.Believed.Settled.{IsSettled}
use Rattle.array_io.specs.Believed.Views.{ArrayView, HasItsSlots, RestsOn, view_of}
use Rattle.recovery.specs.Making.{BankView, IsFirstTable, IsQuietBeyond, Makes, Opened, Outcome, Returned, opened}

-- what is said of the array of an outcome, and of none
abbrev OnOpened : (ArrayView → Type 0) → Outcome → Type 0
OnOpened P (Opened array) = P array
OnOpened P (Returned bank refusal) = ⊥

of_opened : (P : ArrayView → Type 0) (given array : ArrayView) → Opened given ≡ Opened array → P given → P array
of_opened P given array is of_given = subst (OnOpened P) is of_given

not_both : (array : ArrayView) (bank : BankView) (refusal : Refusal) → Opened array ≡ Returned bank refusal → ⊥
not_both array bank refusal is = subst (OnOpened (λ a. Unit {0})) is tt

-- the set of this first table is there
pub made_opened : (honest : Type 0) (id : List ℕ) (geometry : Geometry) (old : BankView) (panel : Panel) (history : History) (table : Table)
    → IsFirstTable id geometry table → IsLater old.panel panel → HasItsSlots table panel
    → (honest → IsQuietBeyond table.id (slots_of table) old → IsSettled panel.devices table 0 history None (zeros_of table.geometry))
    → Makes honest id geometry old (opened panel history table 0)
made_opened honest id geometry old panel history table first later its_slots rests =
    let made : ArrayView = view_of panel history table 0 in
    record {
      later = later;
      first = λ array is. of_opened (λ a. IsFirstTable id geometry a.table) made array is first;
      number = λ array is. of_opened (λ a. a.number ≡ 0) made array is refl;
      its_slots = λ array is. of_opened (λ a. HasItsSlots a.table a.panel) made array is its_slots;
      rests = λ true_bank quiet array is. of_opened (λ a. RestsOn a None (zeros_of geometry)) made array is
          (subst (λ (g : Geometry). IsSettled panel.devices table 0 history None (zeros_of g)) first.of_geometry
          (rests true_bank (subst (λ (g : Geometry). IsQuietBeyond table.id (g.members + 2) old) (sym first.of_geometry)
          (subst (λ (i : List ℕ). IsQuietBeyond i (geometry.members + 2) old) (sym first.of_id) quiet))));
      cause = λ bank refusal is. absurd (not_both made bank refusal is);
    }
