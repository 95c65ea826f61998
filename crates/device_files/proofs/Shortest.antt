-- The shortest of the files of slots, one after another.
use Rattle.std.proofs.Common.{◌≡◌, ◌+◌, ◌<◌, ◌≤◌, ⊎_elim, ℕ, List, None, Option, Some, arith, below_more, length, min}
use Rattle.std.specs.Prelude.{IsSomeAnd}
use Rattle.std.proofs.lemmas.Bool.{cases_lt}
use Rattle.device_files.specs.DeviceFiles.{IsShortest, file_in}

-- what holds of a file that is there
so_of : {F : Type 0} (P Q : F → Type 0) (file : Option F) → ((it : F) → P it → Q it) → IsSomeAnd file P → IsSomeAnd file Q
so_of P Q (Some it) so is = so it is
so_of P Q None so is = absurd is

-- one more than those below it
pub shortest_next : {F : Type 0} (told : F → List ℕ) (files : List (Option F)) (n least bytes shortest : ℕ) → IsShortest told files n least
    → IsSomeAnd (file_in files n) (λ file. length (told file) ≡ bytes) → shortest ≡ min least bytes → IsShortest told files (n + 1) shortest
shortest_next told files n least bytes shortest was here is = ⊎_elim
    (λ (lt : bytes < least). record {
      slot = n;
      among = omega arith;
      here = so_of _ _ (file_in files n) (λ file same. omega (arith, same, is, lt)) here;
      each = all;
    })
    (λ (ge : least ≤ bytes). record {
      slot = was.slot;
      among = omega (arith, was.among);
      here = so_of _ _ (file_in files was.slot) (λ file same. omega (arith, same, is, ge)) was.here;
      each = all;
    })
    (cases_lt bytes least)
  where
    all : (other : ℕ) → other < n + 1 → IsSomeAnd (file_in files other) (λ file. shortest ≤ length (told file))
    all = below_more (λ (k : ℕ). IsSomeAnd (file_in files k) (λ file. shortest ≤ length (told file))) n
        (λ k under. so_of _ _ (file_in files k) (λ file most. omega (arith, most, is)) (was.each k under))
        (so_of _ _ (file_in files n) (λ file same. omega (arith, same, is)) here)
