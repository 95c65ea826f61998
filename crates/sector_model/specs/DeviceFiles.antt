-- What a device file tells of itself.
use Rattle.std.specs.Prelude.{◌≡◌, ℕ, ◌+◌, ◌<◌, ◌≤◌, List, slice_index_or}

-- how many bytes the file has; each byte, by its place, as reads give it; and each as it was at the last sync
pub record Contents : Type 0 where
  pub size : ℕ
  pub byte : ℕ → ℕ
  pub safe : ℕ → ℕ

-- the first n of these bytes are those of a file from a place on
pub record AreAt (byte : ℕ → ℕ) (place n : ℕ) (bytes : List ℕ) : Type 0 where
  pub each : (k : ℕ) → k < n → slice_index_or bytes k 0 ≡ byte (place + k)

-- The first n of these bytes were written from a place on: the file has them there, and no other byte changed. None is safe by that.
pub record IsWritten (place n : ℕ) (bytes : List ℕ) (old new : Contents) : Type 0 where
  pub size : new.size ≡ old.size
  pub put : (k : ℕ) → k < n → new.byte (place + k) ≡ slice_index_or bytes k 0
  pub below : (p : ℕ) → p < place → new.byte p ≡ old.byte p
  pub above : (p : ℕ) → place + n ≤ p → new.byte p ≡ old.byte p
  pub safe : (p : ℕ) → new.safe p ≡ old.safe p

-- all bytes are synced, and none changed
pub record IsSynced (old new : Contents) : Type 0 where
  pub size : new.size ≡ old.size
  pub byte : (p : ℕ) → new.byte p ≡ old.byte p
  pub safe : (p : ℕ) → new.safe p ≡ old.byte p
