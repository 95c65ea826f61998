-- The files that a run in memory begins with.
use Rattle.std.proofs.Common.{◌≡◌, ⊎_elim, ℕ, zero, suc, ◌+◌, ◌<◌, ◌≤◌, List, [], ◌∷◌, ◌++◌, length, get_or, Option, None, Some, is_none, refl, sym, ◌∙◌, ap}
use Rattle.std.proofs.Common.{subst, arith}
use Rattle.std.proofs.lemmas.List.{get_or_append_left}
use Rattle.std.proofs.Math.Seq.{get_or-append_seam}
use Rattle.std.proofs.lemmas.Bool.{cases_lt}
use Rattle.sector_model.specs.DeviceFiles.{Contents}
use Rattle.sector_model.specs.Files.{IsFileOf, HoldsDisk, BeginsIn, BeginsWith, file_at, told_in}
use Rattle.sector_model.specs.History.{History, Began, Bytes, IsSector, disk_of, sector_of, start_of}
use Rattle.sector_model.specs.Memory.{Disk, sectors_in, slots_of}
use Rattle.sector_model.proofs.Copies.{slots_past}

-- one more file
pub files_more : {F : Type 0} (told : F → Contents) (slots : List (Option Disk)) (files : List (Option F)) (file : Option F) (n : ℕ) → length files ≡ n
    → ((d : ℕ) → d < n → IsFileOf told (get_or slots d None) (file_at files d)) → IsFileOf told (get_or slots n None) file
    → (d : ℕ) → d < n + 1 → IsFileOf told (get_or slots d None) (file_at (files ++ file ∷ []) d)
files_more {F = F} told slots files file n len each last d within = ⊎_elim
    (λ (lt : d < n). subst (λ (f : Option F). IsFileOf told (get_or slots d None) f)
    (sym (get_or_append_left files (file ∷ []) None d (omega (arith, lt, len)))) (each d lt))
    (λ (ge : n ≤ d). at_end (omega (arith, within, ge)))
    (cases_lt d n)
  where
    at_end : d ≡ n → IsFileOf told (get_or slots d None) (file_at (files ++ file ∷ []) d)
    at_end is = subst (λ (k : ℕ). IsFileOf told (get_or slots k None) (file_at (files ++ file ∷ []) k)) (sym is)
        (subst (λ (f : Option F). IsFileOf told (get_or slots n None) f)
        (sym (ap (λ (k : ℕ). get_or (files ++ file ∷ []) k None) (sym len) ∙ get_or-append_seam files file [] None)) last)

slots_at : (slots : List (Option Disk)) (d : ℕ) → slots_of slots d ≡ sectors_in (get_or slots d None)
slots_at [] d = refl
slots_at (slot ∷ slots) zero = refl
slots_at (slot ∷ slots) (suc d) = slots_at slots d

begins_in : {F : Type 0} (told : F → Contents) (slot : Option Disk) (file : Option F) (h : History) (d : ℕ) → start_of h d ≡ sectors_in slot
    → IsFileOf told slot file
    → BeginsIn (told_in told file) (is_none file) h d
begins_in told None None h d is holds = record {
  slot = sym (ap is_none is);
  sectors = λ up. absurd (cc);
  holds = record { each = λ a k there small. absurd (omega (arith, there, ap (λ (s : Option (List Bytes)). length (disk_of s)) is)) };
  synced = λ p. refl;
  whole = λ a there. absurd (omega (arith, there, ap (λ (s : Option (List Bytes)). length (disk_of s)) is));
}
begins_in told None (Some file) h d is holds = absurd holds
begins_in told (Some disk) None h d is holds = absurd holds
begins_in told (Some disk) (Some file) h d is holds = record {
  slot = sym (ap is_none is);
  sectors = λ up. ap (λ (s : Option (List Bytes)). length (disk_of s)) is ∙ omega (arith, holds.size);
  holds = subst (HoldsDisk (told file).byte) (sym (ap disk_of is)) holds.holds;
  synced = holds.synced;
  whole = subst (λ (l : List Bytes). (a : ℕ) → a < length l → IsSector (sector_of l a)) (sym (ap disk_of is)) holds.whole.each;
}

-- a run that begins with these slots begins with their files
pub begins_with : {F : Type 0} (told : F → Contents) (slots : List (Option Disk)) (files : List (Option F)) (h : History) → h ≡ Began (slots_of slots)
    → length slots ≤ 10
    → ((d : ℕ) → d < 10 → IsFileOf told (get_or slots d None) (file_at files d)) → BeginsWith told files h
begins_with told slots files h is most each =
    let start : (d : ℕ) → start_of h d ≡ slots_of slots d = λ d. ap (λ (k : History). start_of k d) is in record {
      began = is ∙ sym (ap (λ (k : History). Began (start_of k)) is);
      beyond = λ d past. start d ∙ slots_past slots d (omega (arith, past, most));
      each = λ d lt. begins_in told (get_or slots d None) (file_at files d) h d (start d ∙ slots_at slots d) (each d lt);
    }
