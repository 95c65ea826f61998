use Rattle.std.proofs.Common.{refl, ◌∙◌, arith, rules}
use Rattle.sector_model.proofs.DeviceParts.{written_more, written_same}
use Rattle.sector_model.proofs.device_file.write_whole.Goals as goal
use Rattle.sector_model.proofs.device_file.write_whole.Goals.{in-Ok, in-Err+else-ne}

pub loop-preserved : goal.loop-preserved
loop-preserved g c = elim c.match-write_part.branch [
  | in-Ok w ↦ record {
    done = omega (arith, w.done-is, w.in-Ok.ensures.bound);
    written = λ tells. written_more _ _ _ _ _ _ w.done-is w.in-Ok.ensures.bound c.rest_of.ensures.each (c.loop.invariant.written tells)
        (w.in-Ok.ensures.written tells);
    length = λ tells. c.write_part.ensures.length tells ∙ c.loop.invariant.length tells;
  }
  | in-Err+else-ne w ↦ record {
    done = omega (arith, w.done-is, c.loop.invariant.done);
    written = λ tells. written_same _ _ _ _ w.done-is (w.in-Err.ensures.interrupted tells (search rules)) (c.loop.invariant.written tells);
    length = λ tells. c.write_part.ensures.length tells ∙ c.loop.invariant.length tells;
  }
]

pub loop-init : goal.loop-init
loop-init g c = record {
  done = omega arith;
  written = λ tells. record { size = refl; put = λ k within. absurd (omega (arith, within)); below = λ p lt. refl; above = λ p ge. refl; safe = λ p. refl };
  length = λ tells. refl;
}

pub returns-then-done-from : goal.returns-then-done-from
returns-then-done-from g c = record {
  written = λ tells. written_same _ _ _ _ (omega (arith, c.if-done-from.true, c.loop.invariant.done)) refl (c.loop.invariant.written tells);
  length = c.loop.invariant.length;
  retried = tt;
}

pub returns-in-Ok-eq0 : goal.returns-in-Ok-eq0
returns-in-Ok-eq0 g c = record {
  written = λ tells. tt;
  length = λ tells. c.write_part.ensures.length tells ∙ c.loop.invariant.length tells;
  retried = search rules;
}

pub returns-then-ne : goal.returns-then-ne
returns-then-ne g c = record {
  written = λ tells. tt;
  length = λ tells. c.write_part.ensures.length tells ∙ c.loop.invariant.length tells;
  retried = search rules;
}

pub returns : goal.returns
returns g c = record {
  written = λ tells. tt;
  length = c.loop.invariant.length;
  retried = search rules;
}
