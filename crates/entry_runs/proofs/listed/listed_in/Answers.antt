use Rattle.std.proofs.Common.{◌+◌, ◌-◌, ℕ, arith, drop, subst, sym}
use Rattle.entry_runs.specs.Runs.{held_of, run_at}
use Rattle.entry_runs.proofs.Listings.{IsAmong, among_first, among_next, among_rest}
use Rattle.entry_runs.proofs.listed.listed_in.Goals as goal

pub returns-then-left-length : goal.returns-then-left-length
returns-then-left-length c =
    let runs = c.args.runs.now in
    let k = c.loop-run.run-index in
    among_first runs (drop (k + 1) runs) (run_at runs k) c.args.i c.loop-run.left c.loop-run.before
    (among_next runs k c.args.i c.loop-run.left c.loop-run.before c.loop-run-test.true c.loop-run.invariant)
    (omega (arith, c.if-left-length.true, c.from-length.ensures)) c.requires.fit.held_most

pub loop-run-preserved : goal.loop-run-preserved
loop-run-preserved c =
    let runs = c.args.runs.now in
    let k = c.loop-run.run-index in
    let left = c.loop-run.left in
    let before = c.loop-run.before in
    let next = among_rest runs (drop (k + 1) runs) (run_at runs k) c.args.i left before
    (among_next runs k c.args.i left before c.loop-run-test.true c.loop-run.invariant)
    (omega (arith, c.if-left-length.false, c.from-length.ensures)) in
    subst (λ (held : ℕ). IsAmong runs (drop (k + 1) runs) c.args.i (left - c.from-length.result) (before + held)) (sym c.held-before.ensures.sectors)
    (subst (λ (long : ℕ). IsAmong runs (drop (k + 1) runs) c.args.i (left - long) (before + held_of (run_at runs k))) (sym c.from-length.ensures) next)
