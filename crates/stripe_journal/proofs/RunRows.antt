-- The rows of an entry's runs in a set: those that the set has, and what they hold of them.
use Rattle.std.proofs.Common.{◌≡◌, ◌≢◌, inl, inr, ℕ, ◌-◌, ◌<◌, ◌≤◌, Bool, cond, nat_lt, List, length, Some}
use Rattle.std.proofs.Common.{sym, subst, ap, ◌∙◌, arith}
use Rattle.std.proofs.lemmas.Bool.{cases_eq, eq-eqb, ltb-true, lt-ltb, ne_eqb}
use Rattle.entry_runs.specs.declared.run.Run.{Run}
use Rattle.entry_runs.specs.declared.runs.Runs as of_runs
use Rattle.entry_runs.specs.Body.{has_bit, run_of}
use Rattle.entry_runs.specs.Runs.{FitEntry, end_of, end_of_runs, run_at}
use Rattle.entry_runs.specs.WrittenOut.{masks_of_runs, rows_of_runs}
use Rattle.entry_runs.proofs.ByRun.{run_found}
use Rattle.entry_runs.proofs.Joins.{end_at}
use Rattle.entry_runs.proofs.Lookups.{fit_rise, row_in, row_is_in, run_among}
use Rattle.entry_runs.proofs.Rows.{mask_of_row, row_written, rows_end}
use Rattle.layout_map.specs.declared.geometry.Geometry.{Geometry}
use Rattle.layout_map.specs.Placement.{rows_of}
use Rattle.stripe_journal.specs.declared.form.Form.TheVariants.{Runs}
use Rattle.stripe_journal.specs.Forms.{HoldsRow, holds, mask_at}
use Rattle.stripe_journal.specs.LastSealed.{AreBelow, FitsRun, RowsHold}
use Rattle.stripe_journal.specs.Seals.{row_at}

-- rows that hold the same members fit a set alike
pub fits_alike : (geometry : Geometry) (row : ℕ) (held other : ℕ → Bool) → ((m : ℕ) → held m ≡ other m) → HoldsRow geometry row held
    → HoldsRow geometry row other
fits_alike geometry row held other same fits = record {
  of_set = λ m is. fits.of_set m (same m ∙ is);
  has_parity = λ m parity. sym (same m) ∙ fits.has_parity m parity;
}

-- a row of all members fits
pub all_fit : (geometry : Geometry) (row : ℕ) → HoldsRow geometry row (λ m. nat_lt m geometry.members)
all_fit geometry row = record {
  of_set = λ m is. ltb-true m geometry.members is;
  has_parity = λ m one. lt-ltb m geometry.members one.in_set;
}

-- a row of zeros holds all, another one what its mask has

pub holds_zeros : (members : ℕ) (runs : of_runs.Runs) (i : ℕ) → mask_at (masks_of_runs runs.list.items) i ≡ 0 → (m : ℕ)
    → nat_lt m members ≡ holds members (Runs runs) i m
holds_zeros members runs i none m =
    sym (ap (λ (b : Bool). cond b (nat_lt m members) (has_bit (mask_at (masks_of_runs runs.list.items) i) m))
    (eq-eqb (mask_at (masks_of_runs runs.list.items) i) 0 none))

pub holds_masked : (members : ℕ) (runs : of_runs.Runs) (i mask : ℕ) → mask ≡ mask_at (masks_of_runs runs.list.items) i → mask ≢ 0 → (m : ℕ)
    → has_bit mask m ≡ holds members (Runs runs) i m
holds_masked members runs i mask is some m =
    ap (λ (k : ℕ). has_bit k m) is
    ∙ sym (ap (λ (b : Bool). cond b (nat_lt m members) (has_bit (mask_at (masks_of_runs runs.list.items) i) m))
    (ne_eqb (mask_at (masks_of_runs runs.list.items) i) 0 (λ none. some (is ∙ none))))

-- runs fit a set where their rows do

pub runs_hold : (geometry : Geometry) (runs : of_runs.Runs) → ((i : ℕ) → i < length runs.list.items → FitsRun geometry (run_at runs.list.items i))
    → RowsHold geometry (Runs runs) (rows_of_runs runs.list.items)
runs_hold geometry runs each i within =
    let list = runs.list.items in
    let row = row_at (rows_of_runs list) i in
    let found = mask_of_row list i (fit_rise list runs.allowed.fit) within in
    let among = run_among list row found.0 found.1 in
    elim (cases_eq found.0.mask 0) [
      | inl none ↦
          fits_alike geometry row (λ m. nat_lt m geometry.members) (holds geometry.members (Runs runs) i)
          (holds_zeros geometry.members runs i (sym found.2 ∙ none)) (all_fit geometry row)
      | inr some ↦
          let fits = subst (FitsRun geometry) among.2 (each among.0 among.1) in
          let rows = row_in found.0 row among.3 in
          fits_alike geometry row (has_bit found.0.mask) (holds geometry.members (Runs runs) i)
          (holds_masked geometry.members runs i found.0.mask found.2 some) (fits some row rows.0 rows.1)
    ]

-- where a row of the i-th run is written out
pub record IsWritten (list : List Run) (i row : ℕ) : Type 0 where
  pub at : ℕ
  pub within : at < length (rows_of_runs list)
  pub is : row_at (rows_of_runs list) at ≡ row
  pub mask_is : (run_at list i).mask ≡ mask_at (masks_of_runs list) at

pub is_written : (list : List Run) (i row : ℕ) → FitEntry list → i < length list → (run_at list i).first ≤ row → row < end_of (run_at list i)
    → IsWritten list i row
is_written list i row fit within least below =
    let rise = fit_rise list fit in
    let found : run_of list row ≡ Some (run_at list i) = run_found list i row rise within (row_is_in (run_at list i) row least below) in
    let written = row_written list row (run_at list i) found in
    let there = mask_of_row list written.0 rise written.1 in
    let same : run_at list i ≡ there.0 = one_run (sym found ∙ ap (run_of list) (sym written.2) ∙ there.1) in
    record { at = written.0; within = written.1; is = written.2; mask_is = ap (λ (r : Run). r.mask) same ∙ there.2 }
  where
    one_run : {a b : Run} → Some a ≡ Some b → a ≡ b
    one_run is = cc

pub hold_runs : (geometry : Geometry) (runs : of_runs.Runs) → RowsHold geometry (Runs runs) (rows_of_runs runs.list.items)
    → (i : ℕ) → i < length runs.list.items → FitsRun geometry (run_at runs.list.items i)
hold_runs geometry runs all i within some row least below =
    let list = runs.list.items in
    let there = is_written list i row runs.allowed.fit within least below in
    let mask = (run_at list i).mask in
    subst (λ (r : ℕ). HoldsRow geometry r (has_bit mask)) there.is
    (fits_alike geometry (row_at (rows_of_runs list) there.at) (holds geometry.members (Runs runs) there.at) (has_bit mask)
    (λ m. sym (holds_masked geometry.members runs there.at mask there.mask_is some m)) (all there.at there.within))

-- each run ends where all do, or before
pub ends_within : (list : List Run) (i : ℕ) → FitEntry list → i < length list → end_of (run_at list i) ≤ end_of_runs list
ends_within list i fit within =
    let long = (fit.each i within).long in
    let last = end_of (run_at list i) - 1 in
    let there = is_written list i last fit within (omega (arith, long)) (omega (arith, long)) in
    let below = rows_end list there.at (fit_rise list fit) there.within in
    omega (arith, below, there.is, long)

-- the rows are a set's where the runs end within it

pub runs_below : (geometry : Geometry) (list : List Run) → FitEntry list → end_of_runs list ≤ rows_of geometry.chunk geometry.stripes
    → AreBelow geometry (rows_of_runs list)
runs_below geometry list fit few i within = omega (arith, rows_end list i (fit_rise list fit) within, few)

pub below_runs : (geometry : Geometry) (list : List Run) → FitEntry list → 1 ≤ length list → AreBelow geometry (rows_of_runs list)
    → end_of_runs list ≤ rows_of geometry.chunk geometry.stripes
below_runs geometry list fit some below =
    let i = length list - 1 in
    let within : i < length list = omega (arith, some) in
    let long = (fit.each i within).long in
    let end : end_of_runs list ≡ end_of (run_at list i) = end_at list i (omega (arith, some)) in
    let there = is_written list i (end_of (run_at list i) - 1) fit within (omega (arith, long)) (omega (arith, long)) in
    omega (arith, below there.at there.within, there.is, end, long)
