-- A case that meets what reading a member promises.
use Rattle.std.proofs.Common.{◌≡◌, ℕ, refl}
use Rattle.std.specs.Prelude.{Result, Ok, Err}
use Rattle.sector_model.specs.declared.sector.Stop.{Stop}
use Rattle.sector_model.specs.declared.sector.Stop.TheVariants.{Down}
use Rattle.sector_model.specs.Bank.{IsLater, Panel}
use Rattle.sector_model.specs.History.{History, is_down}
use Rattle.sector_model.specs.Readable.{readable}
use Rattle.sector_model.specs.Reads.{HasRead}
use Rattle.degraded.specs.ReadMember.{LiveSlots, ReadsMember, rows_of}
use Rattle.degraded.specs.RowValue.{value}

-- an answer that is none
never : (result : Result (Unit {0}) Stop) (stop : Stop) → result ≡ Ok tt → result ≡ Err stop → ⊥
never result stop answered is = cc

-- reads that were all answered, in which no device went down, after which the value is given
pub member_is_read : (honest : Type 0) (slots : LiveSlots) (member row : ℕ) (old_panel new_panel : Panel) (old new : History) → IsLater old_panel new_panel
    → HasRead old new
    → ((device : ℕ) → is_down new device ≡ is_down old device)
    → ReadsMember honest slots member row old_panel new_panel old new (value (rows_of slots (readable old)) row member) (Ok tt)
member_is_read honest slots member row old_panel new_panel old new later reads none_failed = record {
  later = later;
  reads = λ fair. reads;
  gives = λ fair answered. refl;
  stays = λ fair device other. none_failed device;
  cause = λ stop is. absurd (never (Ok tt) stop refl is);
  named = λ device is. absurd (never (Ok tt) (Down device) refl is);
}
