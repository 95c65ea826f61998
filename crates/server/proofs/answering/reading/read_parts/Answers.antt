use Rattle.std.proofs.Common.{◌≡◌, ℕ, ◌+◌, ◌-◌, drop, length, refl, take, arith}
use Rattle.std.proofs.lemmas.List.{length-drop, length-take}
use Rattle.std.proofs.lemmas.Result.{err_from_is_err_and}
use Rattle.server.proofs.ReadRanges.{read_all, read_next, read_none, stops_next}
use Rattle.server.proofs.answering.reading.read_parts.Goals as goal

pub parts-init : goal.parts-init
parts-init g c = record {
  within = omega arith;
  long = refl;
  honest = λ honest. honest;
  still = λ honest. honest;
  reads = read_none _ c.args.name.now c.args.at c.args.to.now _;
}

pub parts-preserved : goal.parts-preserved
parts-preserved g c =
    let was = c.parts.invariant in
    let places = length (take (length c.parts.to - c.parts.done) (drop c.parts.done c.parts.to)) in
    let left : places + c.parts.done ≡ length c.parts.to = omega (
      arith,
      length-take (length c.parts.to - c.parts.done) (drop c.parts.done c.parts.to),
      length-drop c.parts.done c.parts.to,
      c.parts-test.true,
    ) in
    record {
      within = omega (arith, was.within, c.parts-test.true, c.in_ok-count.ensures.count);
      long = omega (arith, was.long, c.read_part.auto.to);
      honest = λ honest. c.in_ok-count.ensures.honest.0 (was.honest honest);
      still = λ honest. was.still (c.in_ok-count.ensures.honest.1 honest);
      reads = read_next _ _ c.args.name.now c.args.at c.parts.done c.in_ok-count.count places c.parts.to c.read_part.new.to _ _ _ _ was.honest was.reads
          c.parts-test.true left c.read_part.auto.to c.in_ok-count.ensures.count c.in_ok-count.ensures.read;
    }

pub returns-in_err-count-clause-honest : goal.returns-in_err-count-clause-honest
returns-in_err-count-clause-honest g c = (
  λ honest. c.in_err-count.ensures.honest.0 (c.parts.invariant.honest honest),
  λ honest. c.parts.invariant.still (c.in_err-count.ensures.honest.1 honest),
)

pub returns-in_err-count-clause-reads : goal.returns-in_err-count-clause-reads
returns-in_err-count-clause-reads g c = rw (err_from_is_err_and c.from_residual.result c.from_residual.ensures.1).1 tt

pub returns-in_err-count-clause-stops : goal.returns-in_err-count-clause-stops
returns-in_err-count-clause-stops g c =
    let p = err_from_is_err_and c.from_residual.result c.from_residual.ensures.1 in
    let was = c.parts.invariant in
    let places = length (take (length c.parts.to - c.parts.done) (drop c.parts.done c.parts.to)) in
    let left : places + c.parts.done ≡ length c.parts.to = omega (
      arith,
      length-take (length c.parts.to - c.parts.done) (drop c.parts.done c.parts.to),
      length-drop c.parts.done c.parts.to,
      c.parts-test.true,
    ) in
    rw (p.1, p.2) (stops_next _ _ c.args.name.now c.args.at c.parts.done _ places _ c.parts.to _ _ _ _ was.honest was.reads c.parts-test.true left was.long
    refl c.in_err-count.ensures.refused)

pub returns-clause-honest : goal.returns-clause-honest
returns-clause-honest g c = (c.parts.invariant.honest, c.parts.invariant.still)

pub returns-clause-reads : goal.returns-clause-reads
returns-clause-reads g c =
    let was = c.parts.invariant in
    read_all _ c.args.name.now c.args.at c.parts.done c.parts.to _ _ (omega (arith, was.within, c.parts-test.false)) was.reads
