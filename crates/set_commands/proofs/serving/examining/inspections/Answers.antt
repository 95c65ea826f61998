-- What is told of one set, or of each, stands in a text that was empty.
use Rattle.std.proofs.Common.{◌≡◌, ◌∙◌, ℕ, List, [], ◌++◌, ap, sym, subst}
use Rattle.set_commands.specs.Examining.{Puts}
use Rattle.set_commands.proofs.serving.examining.inspections.Goals as goal
use Rattle.set_commands.proofs.serving.examining.inspections.Goals.{in-Some+in_ok-inspect_one-in-Some, in-None+in_ok-inspect_above-in-None}

-- after nothing stands what was put
all_put : (old new : List ℕ) (Is : List ℕ → Type 0) → old ≡ [] → Puts old new Is → Is new
all_put old new Is empty puts = subst Is (sym (puts.appended ∙ ap (λ (bytes : List ℕ). bytes ++ puts.part) empty)) puts.is

pub returns-clause-inspections : goal.returns-clause-inspections
returns-clause-inspections g c = elim c.match-id.branch [
  | in-Some+in_ok-inspect_one-in-Some w ↦ rw (w.in-Some.is, w.text-is) (_, all_put _ _ _ c.new-text.ensures.bytes w.in_ok-inspect_one-in-Some.ensures.puts)
  | in-None+in_ok-inspect_above-in-None w ↦ rw (w.in-None.is, w.text-is) (_, all_put _ _ _ c.new-text.ensures.bytes w.in_ok-inspect_above-in-None.ensures.puts)
]

pub returns-clause-health : goal.returns-clause-health
returns-clause-health g c = elim c.match-id.branch [
  | in-Some+in_ok-inspect_one-in-Some w ↦ rw (w.in-Some.is, w.health-is) (_, w.in_ok-inspect_one-in-Some.ensures.health)
  | in-None+in_ok-inspect_above-in-None w ↦ rw (w.in-None.is, w.health-is) (_, w.in_ok-inspect_above-in-None.ensures.health)
]
