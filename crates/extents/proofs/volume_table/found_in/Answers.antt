use Rattle.std.proofs.Common.{◌≡◌, Some, ◌∙◌, sym, refl, below_more, arith}
use Rattle.std.proofs.lemmas.Slice.Eq.{bytes_eq-Decides}
use Rattle.extents.specs.VolumeTables.{record_of}
use Rattle.extents.proofs.Tables.{read_at, some_within, not_named}
use Rattle.extents.proofs.volume_table.found_in.Goals as goal
use Rattle.extents.proofs.volume_table.found_in.Goals.{in-Some+else-eq, in_default}

pub returns-then-eq : goal.returns-then-eq
returns-then-eq c =
    let records = c.args.records.now in
    let number = c.loop-number.number in
    let one = c.in-Some.record in
    let at : record_of records number ≡ Some one = read_at records number c.index-records-number.result c.loop-number-test.true c.index-records-number.is
    ∙ c.in-Some.is in
    let same : one.name.bytes.items ≡ c.args.name.now = sym c.bytes.ensures
    ∙ (bytes_eq-Decides c.bytes.result.now c.args.name.now).0 (sym c.eq.ensures ∙ c.if-eq.true) in
    record { entry = one; used = at; named = same; as_long = refl }

pub loop-number-preserved : goal.loop-number-preserved
loop-number-preserved c =
    let records = c.args.records.now in
    let number = c.loop-number.number in
    let read : record_of records number ≡ c.index-records-number.result =
    read_at records number c.index-records-number.result c.loop-number-test.true c.index-records-number.is in
    below_more _ _ c.loop-number.invariant (elim c.match-record.branch [
      | in-Some+else-eq w ↦ not_named records number w.in-Some.record c.args.name.now (read ∙ w.in-Some.is)
          (rw (← w.bytes.ensures) (sym w.eq.ensures ∙ w.if-eq.false))
      | in_default w ↦ λ named. w.in_default.not-Some named.0 (sym read ∙ named.1)
    ])

pub returns : goal.returns
returns c = λ has.
    let within = some_within c.args.records.now has.number has.entry has.used in
    c.loop-number.invariant has.number (omega arith) (has.entry, has.used, has.named)
