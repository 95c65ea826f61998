-- the numbers so far are put in
use Rattle.std.proofs.Common.{◌≡◌, ℕ, List, Bor, take, fold}
use Rattle.serde_json.specs.Data.{Members, put}
use Rattle.serde_json.specs.View.{members_view}
use Rattle.report.specs.Report.{whole}
use Rattle.report.proofs.value.put_numbers.Given as goal

abbrev pub invariant-loop-key : goal.invariant-loop-key
invariant-loop-key l = members_view l.object.entries
    ≡ fold (λ (done : Members) (number : Bor (List ℕ) × ℕ). put number.0.now (whole number.1) done) (members_view l.initial.object.entries)
    (take l.key-index l.numbers)
