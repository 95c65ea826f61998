use Rattle.std.proofs.Common.{◌≡◌, ◌≤◌, false, Some, ◌∙◌, sym, ap, refl, below_more, arith}
use Rattle.std.specs.Option.{option_eq}
use Rattle.std.proofs.Common.{eqb}
use Rattle.extents.specs.declared.record.Record.{Record}
use Rattle.extents.specs.VolumeTables.{record_of}
use Rattle.extents.specs.Checks.{IsFirstNamed}
use Rattle.extents.proofs.Tables.{read_at, some_within, first_is_itself, found_named, is_number, is_not_number, not_true, not_false}
use Rattle.extents.proofs.checks.are_distinct.Goals as goal
use Rattle.extents.proofs.checks.are_distinct.Goals.{in-Some+else-ne, in_default}

pub returns-then-ne : goal.returns-then-ne
returns-then-ne c =
    let records = c.args.records.now in
    let number = c.loop-number.number in
    let at : record_of records number ≡ Some c.in-Some.record =
    read_at records number c.index-records-number.result c.loop-number-test.true c.index-records-number.is ∙ c.in-Some.is in
    let other : option_eq eqb c.first_named.result (Some number) ≡ false = not_true (sym c.ne.ensures ∙ c.if-ne.true) in (
      λ yes. absurd (let no : ⊥ = cc in no),
      λ distinct. absurd (is_not_number c.first_named.result number other
          (first_is_itself records number c.in-Some.record at distinct c.first_named.result c.first_named.ensures)),
    )

pub loop-number-preserved : goal.loop-number-preserved
loop-number-preserved c =
    let records = c.args.records.now in
    let number = c.loop-number.number in
    let read : record_of records number ≡ c.index-records-number.result =
    read_at records number c.index-records-number.result c.loop-number-test.true c.index-records-number.is in
    below_more _ _ c.loop-number.invariant (elim c.match-record.branch [
      | in-Some+else-ne w ↦ λ one at j named.
          let first : IsFirstNamed records w.in-Some.record.name.bytes.items number =
          found_named records number w.in-Some.record.name.bytes.items w.first_named.result w.first_named.ensures
          (is_number w.first_named.result number (not_false (sym w.ne.ensures ∙ w.if-ne.false))) in
          let same : one ≡ w.in-Some.record = let is = w.in-Some.is in cc in
          first.first j (named.0, named.1, named.2 ∙ ap (λ (r : Record). r.name.bytes.items) same)
      | in_default w ↦ λ one at j named. absurd (w.in_default.not-Some one (sym read ∙ at))
    ])

pub returns : goal.returns
returns c = (
  λ yes i j first second one other same.
      let up : i ≤ j = c.loop-number.invariant i (let within = some_within c.args.records.now i first one in omega arith) first one j
      (second, other, sym same) in
      let down : j ≤ i = c.loop-number.invariant j (let within = some_within c.args.records.now j second other in omega arith) second other i
      (first, one, same) in
      omega arith,
  λ distinct. refl,
)
