use Rattle.std.proofs.Common.{◌↔◌, ◌<◌, ◌≤◌, ℕ, List, IsTrue, length, subst, arith}
use Rattle.std.proofs.lemmas.Bool.{leb-true}
use Rattle.entry_runs.specs.Body.{has_bit}
use Rattle.entry_runs.specs.Runs.{end_of_runs}
use Rattle.layout_map.specs.Placement.{rows_of}
use Rattle.stripe_journal.specs.Forms.{HoldsRow, mask_at}
use Rattle.stripe_journal.specs.LastSealed.{AreBelow}
use Rattle.stripe_journal.specs.Seals.{row_at}
use Rattle.stripe_journal.proofs.RunRows.{below_runs, hold_runs, runs_below, runs_hold}
use Rattle.stripe_journal.proofs.counting.is_of_set.Goals as goal

pub returns-in-Held : goal.returns-in-Held
returns-in-Held c =
    let geometry = c.args.geometry.now in
    rw c.in-Held.is (subst (λ (rows : List ℕ). IsTrue c.are_held_of.result ↔ (AreBelow geometry rows × ((i : ℕ) → i < length rows
    → HoldsRow geometry (row_at rows i) (has_bit (mask_at c.in-Held.masks i))))) c.as_slice-in-Held.ensures.value c.are_held_of.ensures)

pub returns-then-end-rows : goal.returns-then-end-rows
returns-then-end-rows c =
    let geometry = c.args.geometry.now in
    let runs = c.in-Runs.runs in
    let few : end_of_runs runs.list.items ≤ rows_of geometry.chunk geometry.stripes =
    omega (arith, c.end.ensures.row, c.rows-in-Runs.ensures, c.if-end-rows.true) in
    rw c.in-Runs.is (
      (λ is. (runs_below geometry runs.list.items runs.allowed.fit few, runs_hold geometry runs (c.are_runs_of.ensures.0 is))),
      (λ both. c.are_runs_of.ensures.1 (hold_runs geometry runs both.1)),
    )

pub returns-else-end-rows : goal.returns-else-end-rows
returns-else-end-rows c =
    let runs = c.in-Runs.runs in
    let beyond = c.if-end-rows.false in
    rw c.in-Runs.is (
      (λ is. absurd (omega (arith, leb-true c.end.result c.rows-in-Runs.result is, beyond))),
      (λ both. absurd (omega (
        arith,
        below_runs c.args.geometry.now runs.list.items runs.allowed.fit runs.allowed.some both.0,
        c.end.ensures.row,
        c.rows-in-Runs.ensures,
        beyond,
      ))),
    )
