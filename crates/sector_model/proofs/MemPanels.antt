-- What a call of a bank in memory does to its panel and to its run.
use Rattle.std.proofs.Common.{◌≡◌, ℕ, ◌+◌, ◌-◌, ◌^◌, ◌<◌, min, Bool, true, false, not, ◌||◌, ◌==◌, ◌⊎◌, inl, inr, List, length, get_or, Vec, Global, vec_len}
use Rattle.std.proofs.Common.{refl, sym, ◌∙◌, ap, subst}
use Rattle.std.specs.Prelude.{if◌then◌else◌, slice_set}
use Rattle.std.proofs.lemmas.List.{length-set, get_or_default, get_or-set_same, get_or-set_other}
use Rattle.std.proofs.lemmas.Bool.{ne_eqb}
use Rattle.sector_model.specs.declared.memory.MemBank.{MemBank}
use Rattle.sector_model.specs.declared.plan.Plan.{Plan}
use Rattle.sector_model.specs.declared.event.Event.{Event}
use Rattle.sector_model.specs.declared.event.Event.TheVariants.{Quiet}
use Rattle.sector_model.specs.History.{History, After, is_down}
use Rattle.sector_model.specs.Bank.{Panel, AfterCall, fault_at}
use Rattle.sector_model.specs.Memory.{Disk, contents_of, down_at, run_of, slots_of}

abbrev Disks : Type 0
Disks = Vec Disk Global

abbrev Flags : Type 0
Flags = Vec Bool Global

abbrev panel_of : Disks → Flags → ℕ → Panel
panel_of disks flags calls = record {
  devices = vec_len flags;
  sectors = λ d. min (length (contents_of disks.items d)) (2 ^ 32 - 1);
  down =
      λ d. down_at flags.items d;
  calls = calls;
}

-- whether a device is down, as the code reads it
pub read_down : (flags : Flags) (dev : ℕ) (read is : Bool) → dev < vec_len flags → read ≡ get_or flags.items dev read → read ≡ is → down_at flags.items dev ≡ is
read_down flags dev read is device found same = get_or_default flags.items dev true read (subst (λ (n : ℕ). dev < n) flags.ok.0 device) ∙ sym found ∙ same

-- the device was down, and nothing changed
pub after_down : (dev calls more : ℕ) {a b : Disks} {f g : Flags} → down_at f.items dev ≡ true → b ≡ a → g ≡ f → more ≡ calls + 1
    → AfterCall dev false (panel_of a f calls) (panel_of b g more)
after_down dev calls more is disks flags count = record {
  devices = ap (λ (v : Flags). vec_len v) flags;
  sectors = λ d. ap (λ (v : Disks). min (length (contents_of v.items d)) (2 ^ 32 - 1)) disks;
  calls = count;
  answer = ap (λ (v : Flags). down_at v.items dev) flags ∙ is;
  others = λ d other. ap (λ (v : Flags). down_at v.items d) flags;
  stays = λ was. refl;
}

-- the device goes down
pub after_failure : (dev calls more : ℕ) {a b : Disks} (f g : Flags) → dev < vec_len f → b ≡ a → g.items ≡ slice_set f.items dev true → more ≡ calls + 1
    → AfterCall dev false (panel_of a f calls) (panel_of b g more)
after_failure dev calls more f g device disks flags count = record {
  devices = g.ok.0 ∙ ap length flags ∙ length-set f.items dev true ∙ sym f.ok.0;
  sectors = λ d. ap (λ (v : Disks). min (length (contents_of v.items d)) (2 ^ 32 - 1)) disks;
  calls = count;
  answer = ap (λ (l : List Bool). down_at l dev) flags ∙ get_or-set_same f.items dev true true (subst (λ (n : ℕ). dev < n) f.ok.0 device);
  others = λ d other. ap (λ (l : List Bool). down_at l d) flags ∙ get_or-set_other f.items dev d true true other;
  stays = λ was. refl;
}

-- the device answers
pub after_answer : (dev calls more : ℕ) (a b : Disks) {f g : Flags} → down_at f.items dev ≡ false
    → ((d : ℕ) → length (contents_of b.items d) ≡ length (contents_of a.items d)) → g ≡ f → more ≡ calls + 1
    → AfterCall dev true (panel_of a f calls) (panel_of b g more)
after_answer dev calls more a b is sizes flags count = record {
  devices = ap (λ (v : Flags). vec_len v) flags;
  sectors = λ d. ap (λ (n : ℕ). min n (2 ^ 32 - 1)) (sizes d);
  calls = count;
  answer = ap (λ (v : Flags). down_at v.items dev) flags ∙ is;
  others = λ d other. ap (λ (v : Flags). down_at v.items d) flags;
  stays = λ was. sym was ∙ is;
}

-- the run after a fault of a device that was down, and of one that goes down by it
pub run_down : (dev : ℕ) (fault : Event) {h n : History} → is_down h dev ≡ true → n ≡ After Quiet h → n ≡ After (fault_at dev fault h) h
run_down dev fault {h = h} is run = run ∙ ap (λ (b : Bool). After (if b then Quiet else fault) h) (sym is)

pub run_failure : (dev : ℕ) (fault : Event) {h n : History} → is_down h dev ≡ false → n ≡ After fault h → n ≡ After (fault_at dev fault h) h
run_failure dev fault {h = h} is run = run ∙ ap (λ (b : Bool). After (if b then Quiet else fault) h) (sym is)

-- why a call was answered or not
pub cause_down : {a : Bool} (b : Bool) → a ≡ true → false ≡ not (a || b)
cause_down b is = ap (λ (a : Bool). not (a || b)) (sym is)

pub cause_up : {a answered : Bool} (b : Bool) → a ≡ false → answered ≡ not b → answered ≡ not (a || b)
cause_up b is rest = rest ∙ ap (λ (a : Bool). not (a || b)) (sym is)

-- a call that needs room for its entry
pub some_fault : {n : ℕ} {b : Bool} → (n ≡ 0) ⊎ (b ≡ true) → true ≡ (n == 0 || b)
some_fault {b = b} (inl none) = ap (λ (k : ℕ). k == 0 || b) (sym none)
some_fault {n = n} (inr fails) = sym (any_true (n == 0) fails)
  where
    any_true : (a : Bool) {b : Bool} → b ≡ true → (a || b) ≡ true
    any_true true is = refl
    any_true false is = is

pub no_fault : {n : ℕ} {b : Bool} → (n ≡ 0 → ⊥) → b ≡ false → false ≡ (n == 0 || b)
no_fault {n = n} {b = b} some is = sym (ap (λ (a : Bool). a || b) (ne_eqb n 0 some) ∙ is)

-- the data of a bank, without what is known of it
pub record HasData (b : MemBank) (ds : Vec Disk Global) (fs : Vec Bool Global) (n r : ℕ) (p : Plan) (h : History) : Type 0 where
  pub disks : b.disks ≡ ds
  pub down : b.down ≡ fs
  pub calls : b.calls ≡ n
  pub room : b.room ≡ r
  pub plan : b.plan ≡ p
  pub run : run_of (slots_of b.start.items) b.log.items b.calls ≡ h

pub has_data : {b m : MemBank} → b ≡ m → HasData b m.disks m.down m.calls m.room m.plan (run_of (slots_of m.start.items) m.log.items m.calls)
has_data same = record {
  disks = ap (λ (b : MemBank). b.disks) same;
  down = ap (λ (b : MemBank). b.down) same;
  calls = ap (λ (b : MemBank). b.calls) same;
  room = ap (λ (b : MemBank). b.room) same;
  plan = ap (λ (b : MemBank). b.plan) same;
  run = ap (λ (b : MemBank). run_of (slots_of b.start.items) b.log.items b.calls) same;
}
