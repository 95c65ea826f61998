-- A run in memory begins with the files whose sectors it was given.
use Rattle.std.proofs.Common.{◌≡◌, ◌∙◌, ⊎_elim, ℕ, ◌+◌, ◌*◌, ◌<◌, ◌≤◌, List, [], ◌∷◌, ◌++◌, Option, Some, None, IfSome, ap, arith}
use Rattle.std.proofs.Common.{get_or, length, refl, subst, sym, zero, suc}
use Rattle.std.specs.Prelude.{is_none}
use Rattle.std.proofs.lemmas.Bool.{cases_lt}
use Rattle.std.proofs.lemmas.Grind.{common_steps}
use Rattle.std.proofs.lemmas.List.{get_or_append_left}
use Rattle.std.proofs.Math.Seq.{get_or-append_seam}
use Rattle.sector_model.specs.DeviceFiles.{AreAt}
use Rattle.sector_model.specs.Files.{BeginsIn, BeginsWith, HoldsDisk, told_in}
use Rattle.sector_model.specs.History.{Began, Bytes, History, IsSector, disk_of, sector_of, start_of}
use Rattle.sector_model.specs.Memory.{Disk, sectors_in, slots_of}
use Rattle.sector_model.proofs.Copies.{slots_past}
use Rattle.device_files.specs.BankFiles.{AreAllSafe, contents_by}
use Rattle.device_files.specs.DeviceFiles.{file_in}
use Rattle.device_files.specs.HeldFiles.{IsDiskOf}

-- one sector more
pub sectors_more : (byte : ℕ → ℕ) (disk : List Bytes) (sector : Bytes) (n : ℕ) → length disk ≡ n → HoldsDisk byte disk → AreAt byte (512 * n) 512 sector
    → HoldsDisk byte (disk ++ sector ∷ [])
sectors_more byte disk sector n len holds at = record {
  each = λ a k there small. ⊎_elim
      (λ (lt : a < n). holds.each a k (omega (arith, lt, len)) small
      ∙ ap (λ (one : Bytes). get_or one k 0) (sym (get_or_append_left disk (sector ∷ []) [] a (omega (arith, lt, len)))))
      (λ (ge : n ≤ a). last a k (omega (arith, ge, there, len, count)) small)
      (cases_lt a n);
}
  where
    count : length (disk ++ sector ∷ []) ≡ length disk + 1
    count = grind (arith, common_steps)

    last : (a k : ℕ) → a ≡ n → k < 512 → byte (512 * a + k) ≡ get_or (get_or (disk ++ sector ∷ []) a []) k 0
    last a k is small =
        ap (λ (i : ℕ). byte (512 * i + k)) is ∙ sym (at.each k small)
        ∙ ap (λ (one : Bytes). get_or one k 0)
        (sym (ap (λ (i : ℕ). get_or (disk ++ sector ∷ []) i []) (is ∙ sym len) ∙ get_or-append_seam disk sector [] []))

slots_at : (slots : List (Option Disk)) (d : ℕ) → slots_of slots d ≡ sectors_in (get_or slots d None)
slots_at [] d = refl
slots_at (slot ∷ slots) zero = refl
slots_at (slot ∷ slots) (suc d) = slots_at slots d

-- in a slot
begins_in : {F : Type 0} (told left : F → List ℕ) (file : Option F) (slot : Option Disk) (h : History) (d : ℕ) → start_of h d ≡ sectors_in slot
    → IsDiskOf told file slot → IfSome file (λ it. left it ≡ told it) → BeginsIn (told_in (contents_by told left) file) (is_none file) h d
begins_in told left None None h d is holds safe = record {
  slot = sym (ap is_none is);
  sectors = λ up. absurd (cc);
  holds = record { each = λ a k there small. absurd (omega (arith, there, ap (λ (s : Option (List Bytes)). length (disk_of s)) is)) };
  synced = λ p. refl;
  whole = λ a there. absurd (omega (arith, there, ap (λ (s : Option (List Bytes)). length (disk_of s)) is));
}
begins_in told left None (Some disk) h d is holds safe = absurd holds
begins_in told left (Some file) None h d is holds safe = absurd holds
begins_in told left (Some file) (Some disk) h d is holds safe = record {
  slot = sym (ap is_none is);
  sectors = λ up. ap (λ (s : Option (List Bytes)). length (disk_of s)) is ∙ holds.count;
  holds = subst (HoldsDisk (contents_by told left file).byte) (sym (ap disk_of is)) holds.holds;
  synced = λ p. ap (λ (all : List ℕ). get_or all p 0) safe;
  whole = subst (λ (l : List Bytes). (a : ℕ) → a < length l → IsSector (sector_of l a)) (sym (ap disk_of is)) holds.whole.each;
}

-- in all
pub begins_with : {F : Type 0} (told left : F → List ℕ) (files : List (Option F)) (slots : List (Option Disk)) (h : History) → h ≡ Began (slots_of slots)
    → length slots ≡ 10 → ((slot : ℕ) → slot < 10 → IsDiskOf told (file_in files slot) (get_or slots slot None))
    → AreAllSafe (λ it. left it ≡ told it) files → BeginsWith (contents_by told left) files h
begins_with told left files slots h is ten each safe =
    let start : (d : ℕ) → start_of h d ≡ slots_of slots d = λ d. ap (λ (k : History). start_of k d) is in record {
      began = is ∙ sym (ap (λ (k : History). Began (start_of k)) is);
      beyond = λ d past. start d ∙ slots_past slots d (omega (arith, past, ten));
      each = λ d under. begins_in told left (file_in files d) (get_or slots d None) h d (start d ∙ slots_at slots d) (each d under) (safe d under);
    }
