-- A bank in memory shows what its run says.
use Rattle.std.specs.Prelude.{◌≡◌, ℕ, zero, suc, ◌+◌, ◌-◌, ◌^◌, ◌<◌, ◌≤◌, min, Bool, true, false, List, length, refl, slice_set, cond, ◌==◌, Option}
use Rattle.std.proofs.Common.{sym, ◌∙◌, ap, subst, add-one}
use Rattle.std.proofs.lemmas.List.{length-set}
use Rattle.sector_model.specs.declared.memory.Entry.{Entry}
use Rattle.sector_model.specs.declared.event.Event.TheVariants.{Quiet, Wrote, Lost, Flushed, DeviceFailed}
use Rattle.sector_model.specs.History.{History, Began, After, Bytes, Slots, seen, start_of, disk_of, calls_of}
use Rattle.sector_model.specs.Bank.{IsTrueTo}
use Rattle.sector_model.specs.Memory.{Disk, contents_of, down_at, run_of, slots_of, IsReplayed}

length-cond : (b : Bool) (l : List Bytes) (at : ℕ) (value : Bytes) → length (cond b (slice_set l at value) l) ≡ length l
length-cond true l at value = length-set l at value
length-cond false l at value = refl

-- a device keeps its number of sectors
pub length-seen : (h : History) (d : ℕ) → length (seen h d) ≡ length (disk_of (start_of h d))
length-seen (Began start) d = refl
length-seen (After Quiet h) d = length-seen h d
length-seen (After (Wrote device at value) h) d = length-cond (d == device) (seen h d) at value ∙ length-seen h d
length-seen (After (Lost device at value) h) d = length-seen h d
length-seen (After (Flushed device) h) d = length-seen h d
length-seen (After (DeviceFailed device) h) d = length-seen h d

pub start-run : (start : Slots) (log : List Entry) (n : ℕ) → start_of (run_of start log n) ≡ start
start-run start log zero = refl
start-run start log (suc n) = start-run start log n

pub calls-run : (start : Slots) (log : List Entry) (n : ℕ) → calls_of (run_of start log n) ≡ n
calls-run start log zero = refl
calls-run start log (suc n) = ap (λ k. k + 1) (calls-run start log n) ∙ add-one n

pub replayed_is_true : (start : List (Option Disk)) (log : List Entry) (calls : ℕ) (disks : List Disk) (flags : List Bool) (devices : ℕ)
    → length flags ≡ devices → IsReplayed start log calls disks flags
    → IsTrueTo record { devices = devices; sectors = λ d. min (length (contents_of disks d)) (2 ^ 32 - 1); down = λ d. down_at flags d; calls = calls }
    (run_of (slots_of start) log calls)
replayed_is_true start log calls disks flags devices size was = record {
  down = was.down;
  sectors = λ d. ap (λ (l : List Bytes). min (length l) (2 ^ 32 - 1)) (was.seen d)
      ∙ ap (λ (n : ℕ). min n (2 ^ 32 - 1)) (length-seen (run_of (slots_of start) log calls) d);
  calls = sym (calls-run (slots_of start) log calls);
  beyond = λ d past. ap (λ (slots : Slots). slots d) (start-run (slots_of start) log calls) ∙ was.beyond d (subst (λ (n : ℕ). n ≤ d) (sym size) past);
  whole = λ d a v within may. was.whole d a v (subst (λ (slots : Slots). a < length (disk_of (slots d))) (start-run (slots_of start) log calls) within) may;
}
