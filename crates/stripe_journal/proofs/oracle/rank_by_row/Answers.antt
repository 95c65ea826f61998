use Rattle.std.proofs.Common.{◌≡◌, ℕ, ◌+◌, ◌*◌, List, Some, take, ap, sym, ◌∙◌, arith}
use Rattle.stripe_journal.specs.declared.form.Form.{Form}
use Rattle.stripe_journal.specs.Body.{place_in, rank_by_row}
use Rattle.stripe_journal.specs.Forms.{held_by_masks}
use Rattle.stripe_journal.proofs.Places.{row_of_place}
use Rattle.stripe_journal.proofs.RankRuns.{held_rank, rank_few, whole_rank}
use Rattle.stripe_journal.proofs.oracle.rank_by_row.Goals as goal

pub returns-in_ok-i-in-Whole-clause-rank : goal.returns-in_ok-i-in-Whole-clause-rank
returns-in_ok-i-in-Whole-clause-rank c =
    let i = c.in_ok-i-in-Whole.i in
    let there = ap (λ (rows : List ℕ). place_in rows c.args.row) (sym c.as_slice.ensures.value) ∙ sym c.place_in.ensures.place ∙ c.in_ok-i-in-Whole.was in
    rw c.in-Whole.is (ap (λ (n : ℕ). Some (i * n + c.from-in-Whole.result)) c.from.ensures
    ∙ ap (λ (n : ℕ). Some (i * c.args.members + n)) c.from-in-Whole.ensures
    ∙ sym (whole_rank c.in-Whole.rows c.args.members c.args.row i c.args.member c.requires.member there))

pub returns-else-not-has_bit-clause-rank : goal.returns-else-not-has_bit-clause-rank
returns-else-not-has_bit-clause-rank c =
    let i = c.in_ok-i-in-Held.i in
    let of = c.requires.formed.held c.in-Held.rows c.in-Held.masks c.in-Held.is in
    let there : place_in c.in-Held.rows.items c.args.row ≡ Some i =
    ap (λ (rows : List ℕ). place_in rows c.args.row) (sym c.as_slice-in-Held.ensures.value) ∙ sym c.place_in-in-Held.ensures.place
    ∙ c.in_ok-i-in-Held.was in
    rw c.in-Held.is (ap (λ (n : ℕ). Some (n + c.bits_below.result)) c.held_by_masks.ensures.count
    ∙ ap (λ (n : ℕ). Some (held_by_masks c.args.members (take i c.in-Held.masks) + n)) c.bits_below.ensures.bits
    ∙ sym (held_rank c.in-Held.rows c.in-Held.masks c.args.members c.args.row i c.args.member
    (omega (arith, (row_of_place c.in-Held.rows.items c.args.row i there).0, of.0, of.1.long)) there (sym c.has_bit.ensures ∙ c.if-not-has_bit.false)))

pub returns-in-Runs-clause-most : goal.returns-in-Runs-clause-most
returns-in-Runs-clause-most c =
    rank_few c.args.members c.args.form.now c.args.row c.args.member c.rank_by_runs.result c.requires.members c.requires.member c.requires.formed
    (c.rank_by_runs.ensures ∙ ap (λ (f : Form). rank_by_row c.args.members f c.args.row c.args.member) (sym c.in-Runs.is))
