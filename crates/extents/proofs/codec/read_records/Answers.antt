use Rattle.std.proofs.Common.{◌≡◌, List, [], ◌∷◌, ◌++◌, Some, None, length, get_or, ap, ◌∙◌, length-append, arith}
use Rattle.extents.specs.Cells.{IsRecordAt}
use Rattle.extents.proofs.Cells.{all_found, all_read, first_more}
use Rattle.extents.proofs.Readings.{one_more_read}
use Rattle.extents.proofs.codec.read_records.Goals as goal
use Rattle.extents.specs.declared.volume_table.TheConstants.{MOST_VOLUMES}

pub loop-number-preserved : goal.loop-number-preserved
loop-number-preserved c =
    let number = c.loop-number.number in
    let items = c.loop-number.records.items in
    let now = c.push.new.self.items in
    let one = c.in_ok-record_at.field-0 in
    let pushed : now ≡ items ++ one ∷ [] = c.push.ensures.items in
    record {
      count = omega (arith, ap length pushed, length-append items (one ∷ []));
      read = one_more_read (IsRecordAt c.args.version c.args.from.now) items now number one pushed c.loop-number.invariant.count c.loop-number.invariant.read
          c.in_ok-record_at.ensures.some;
      first = λ all long read.
          let found : c.record_at.result ≡ Some (get_or all number None) =
          c.record_at.ensures.exact (get_or all number None) (read number c.loop-number-test.true) in
          let was : c.record_at.result ≡ Some one = c.in_ok-record_at.was in
          let same : one ≡ get_or all number None = cc in
          first_more all items now number one pushed (c.loop-number.invariant.first all long read) (omega arith) same;
    }

pub returns-clause-some : goal.returns-clause-some
returns-clause-some c =
    let last = c.loop-number-test.false in
    let long : length c.loop-number.records.items ≡ MOST_VOLUMES = omega (arith, c.loop-number.invariant.count, last, c.loop-number.auto.number-end) in
    rw (all_read c.into_inner.result c.ok.result c.loop-number.records.items MOST_VOLUMES c.ok.ensures.value c.into_inner.ensures.variant
    c.into_inner.ensures.ok long)
    (λ number within. c.loop-number.invariant.read number (omega (arith, within, last)))

pub returns-clause-exact : goal.returns-clause-exact
returns-clause-exact c = λ all many read.
    let last = c.loop-number-test.false in
    let items = c.loop-number.records.items in
    let long : length items ≡ MOST_VOLUMES = omega (arith, c.loop-number.invariant.count, last, c.loop-number.auto.number-end) in
    all_read c.into_inner.result c.ok.result items MOST_VOLUMES c.ok.ensures.value c.into_inner.ensures.variant c.into_inner.ensures.ok long
    ∙ ap (λ (xs : List _). Some xs) (all_found all items c.loop-number.number MOST_VOLUMES (c.loop-number.invariant.first all many read) many last)
