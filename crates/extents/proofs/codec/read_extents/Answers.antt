use Rattle.std.proofs.Common.{◌≡◌, ℕ, List, Bool, Option, ◌+◌, ◌*◌, ◌/◌, ◌%◌, [], ◌∷◌, ◌++◌, Some, None, length, get_or, sym, ap, ◌∙◌, subst, length-append}
use Rattle.std.proofs.Common.{arith}
use Rattle.extents.specs.declared.owned.Owned.{Owned}
use Rattle.extents.specs.Cells.{IsSaid, cell, extent_cell}
use Rattle.extents.specs.Versions.{record_sectors, tells_dirty}
use Rattle.extents.proofs.Cells.{all_found, all_read, cut, first_more}
use Rattle.extents.proofs.Readings.{one_more_read}
use Rattle.extents.proofs.codec.read_extents.Goals as goal
use Rattle.layout_map.specs.declared.sizes.TheConstants.{MOST_EXTENTS}

-- what is said by the bytes of a cell
said_by : (marks tells : Bool) (bytes cell_bytes : List ℕ) (owner : Option Owned) → marks ≡ tells → bytes ≡ cell_bytes → IsSaid tells cell_bytes owner
    → IsSaid marks bytes owner
said_by marks tells bytes cell_bytes owner same is said =
    subst (λ (m : Bool). IsSaid m bytes owner) (sym same) (subst (λ (xs : List ℕ). IsSaid tells xs owner) (sym is) said)

pub loop-number-preserved : goal.loop-number-preserved
loop-number-preserved c =
    let number = c.loop-number.number in
    let items = c.loop-number.extents.items in
    let now = c.push.new.self.items in
    let one = c.in_ok-read_owner.field-0 in
    let marks = c.tells_dirty-marks.result in
    let first = 1 + c.record_sectors-first.result in
    let place : first ≡ 1 + record_sectors c.args.version = ap (λ (n : ℕ). 1 + n) c.record_sectors-first.ensures.number in
    let read = cut (4 * (number % 128)) 4 (get_or c.args.from.now (first + number / 128) []) in
    let pushed : now ≡ items ++ one ∷ [] = c.push.ensures.items in
    record {
      count = omega (arith, ap length pushed, length-append items (one ∷ []));
      said = one_more_read (λ k o. IsSaid marks (cell 4 128 first c.args.from.now k) o) items now number one pushed c.loop-number.invariant.count
          c.loop-number.invariant.said (subst (λ (xs : List ℕ). IsSaid marks xs one) (sym read) c.in_ok-read_owner.ensures.some);
      first = λ all long room say.
          let found : c.read_owner.result ≡ Some (get_or all number None) =
          c.read_owner.ensures.exact (get_or all number None) (room number)
          (said_by marks (tells_dirty c.args.version) _ (extent_cell c.args.version c.args.from.now number) (get_or all number None) c.tells_dirty-marks.ensures
          (sym read ∙ ap (λ (n : ℕ). cell 4 128 n c.args.from.now number) place) (say number c.loop-number-test.true)) in
          let was : c.read_owner.result ≡ Some one = c.in_ok-read_owner.was in
          let same : one ≡ get_or all number None = cc in
          first_more all items now number one pushed (c.loop-number.invariant.first all long room say) (omega arith) same;
    }

pub returns-clause-some : goal.returns-clause-some
returns-clause-some c =
    let last = c.loop-number-test.false in
    let long : length c.loop-number.extents.items ≡ MOST_EXTENTS = omega (arith, c.loop-number.invariant.count, last, c.loop-number.auto.number-end) in
    rw (all_read c.into_inner.result c.ok.result c.loop-number.extents.items MOST_EXTENTS c.ok.ensures.value c.into_inner.ensures.variant
    c.into_inner.ensures.ok long)
    (λ number within.
    said_by (tells_dirty c.args.version) c.tells_dirty-marks.result (extent_cell c.args.version c.args.from.now number)
    (cell 4 128 (1 + c.record_sectors-first.result) c.args.from.now number) (get_or c.loop-number.extents.items number None)
    (sym c.tells_dirty-marks.ensures)
    (ap (λ (n : ℕ). cell 4 128 n c.args.from.now number) (ap (λ (n : ℕ). 1 + n) (sym c.record_sectors-first.ensures.number)))
    (c.loop-number.invariant.said number (omega (arith, within, last))))

pub returns-clause-exact : goal.returns-clause-exact
returns-clause-exact c = λ all many room say.
    let last = c.loop-number-test.false in
    let items = c.loop-number.extents.items in
    let long : length items ≡ MOST_EXTENTS = omega (arith, c.loop-number.invariant.count, last, c.loop-number.auto.number-end) in
    all_read c.into_inner.result c.ok.result items MOST_EXTENTS c.ok.ensures.value c.into_inner.ensures.variant c.into_inner.ensures.ok long
    ∙ ap (λ (xs : List _). Some xs) (all_found all items c.loop-number.number MOST_EXTENTS (c.loop-number.invariant.first all many room say) many last)
