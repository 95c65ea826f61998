-- What a contract sees of a bank, and of what becomes of it.
use Rattle.std.specs.Prelude.{Result, Ok, Err}
use Rattle.sector_model.specs.declared.bank.Bank.{Ghosts}
use Rattle.array_io.specs.declared.array.Array.{Array}
use Rattle.array_io.specs.Believed.OpenArray.{array_view}
use Rattle.recovery.specs.declared.returned.Returned.{Returned}
use Rattle.recovery.specs.Making.{BankView, Opened, Outcome, bank_view, given_back}

-- a bank, by what it shows
abbrev pub bank_seen : {B : Type 0} (shown : Ghosts B) → B → BankView
bank_seen shown bank = bank_view (shown.panel bank) (shown.history bank)

-- a call ended with this array
abbrev pub opened_as : {B : Type 0} {shown : Ghosts B} → Array B shown → Outcome
opened_as array = Opened (array_view array)

-- a call ended with this bank given back, and a refusal
abbrev pub given_back_as : {B : Type 0} (shown : Ghosts B) → Returned B → Outcome
given_back_as shown returned = given_back (shown.panel returned.bank) (shown.history returned.bank) returned.refusal

-- a call ended so
abbrev pub ended_as : {B : Type 0} (shown : Ghosts B) → Result (Array B shown) (Returned B) → Outcome
ended_as shown (Ok array) = opened_as array
ended_as shown (Err returned) = given_back_as shown returned
