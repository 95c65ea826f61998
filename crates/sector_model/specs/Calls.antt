-- Device calls in a row, up to the first that is not answered.
use Rattle.std.specs.Prelude.{◌≡◌, ◌⊎◌, ◌+◌, ℕ, zero, suc, Bool, true, false, List, [], ◌∷◌}
use Rattle.sector_model.specs.Bank.{after_read, after_write, after_flush}
use Rattle.sector_model.specs.History.{History, Bytes, is_down}

-- a call of a device
pub data Call : Type 0 where
  Read : (device at : ℕ) → Call
  Write : (device at : ℕ) (value : Bytes) → Call
  Flush : (device : ℕ) → Call

abbrev pub device_of : Call → ℕ
device_of (Read device at) = device
device_of (Write device at value) = device
device_of (Flush device) = device

-- the run after it, by whether it was answered
abbrev pub after_call : Call → Bool → History → History
after_call (Read device at) = after_read device
after_call (Write device at value) = after_write device at value
after_call (Flush device) = after_flush device

-- The calls were made in order up to the first that was not answered, or up to one that was not made; why it ended there is said by the
-- function's clause on its error. Each that was answered was of a device that is up.
abbrev pub Performs : List Call → Bool → History → History → Type 0
Performs [] answered old new = (answered ≡ true) × (new ≡ old)
Performs (call ∷ calls) answered old new =
    ((answered ≡ false) × ((new ≡ old) ⊎ (new ≡ after_call call false old)))
    ⊎ ((is_down old (device_of call) ≡ false) × Performs calls answered (after_call call true old) new)

-- the same, as a record; `answered` says whether all of them were
pub record Made (calls : List Call) (answered : Bool) (old new : History) : Type 0 where
  pub performed : Performs calls answered old new

-- the run after these calls, all of them answered
abbrev pub after_all : List Call → History → History
after_all [] h = h
after_all (call ∷ calls) h = after_all calls (after_call call true h)

-- writes of these values to the sectors of a device from one on
abbrev pub writes_from : (device at : ℕ) → List Bytes → List Call
writes_from device at [] = []
writes_from device at (value ∷ values) = Write device at value ∷ writes_from device (at + 1) values

-- writes of one sector each, at one place, to the devices from one on
abbrev pub writes_across : (device at : ℕ) → List Bytes → List Call
writes_across device at [] = []
writes_across device at (value ∷ values) = Write device at value ∷ writes_across (device + 1) at values

-- flushes of so many devices from one on
abbrev pub flushes : (device count : ℕ) → List Call
flushes device zero = []
flushes device (suc count) = Flush device ∷ flushes (device + 1) count
