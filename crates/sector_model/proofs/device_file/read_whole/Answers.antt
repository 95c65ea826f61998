use Rattle.std.proofs.Common.{arith, rules, refl, ◌∙◌}
use Rattle.sector_model.proofs.DeviceParts.{read_more, read_same}
use Rattle.sector_model.proofs.device_file.read_whole.Goals as goal
use Rattle.sector_model.proofs.device_file.read_whole.Goals.{in-Ok, in-Err+else-ne}

pub loop-preserved : goal.loop-preserved
loop-preserved g c = elim c.match-read_rest.branch [
  | in-Ok w ↦ record {
    done = omega (arith, w.done-is, w.in-Ok.ensures.bound);
    same = λ tells. c.read_rest.ensures.same tells ∙ c.loop.invariant.same tells;
    read = λ tells. read_more _ _ _ _ _ _ w.done-is (c.loop.invariant.same tells) (c.loop.invariant.read tells) c.read_rest.ensures.front
        (w.in-Ok.ensures.read tells);
  }
  | in-Err+else-ne w ↦ record {
    done = omega (arith, w.done-is, c.loop.invariant.done);
    same = λ tells. c.read_rest.ensures.same tells ∙ c.loop.invariant.same tells;
    read = λ tells. read_same _ _ _ _ _ _ w.done-is (c.loop.invariant.read tells) c.read_rest.ensures.front;
  }
]

pub loop-init : goal.loop-init
loop-init g c = record { done = omega arith; same = λ tells. refl; read = λ tells. record { each = λ k within. absurd (omega (arith, within)) } }

pub returns-then-done-ge-SECTOR_BYTES : goal.returns-then-done-ge-SECTOR_BYTES
returns-then-done-ge-SECTOR_BYTES g c = record {
  read = λ tells. read_same _ _ _ _ _ _ (omega (arith, c.if-done-ge-SECTOR_BYTES.true, c.loop.invariant.done)) (c.loop.invariant.read tells) (λ k within. refl);
  same = c.loop.invariant.same;
  retried = tt;
}

pub returns-in-Ok-eq0 : goal.returns-in-Ok-eq0
returns-in-Ok-eq0 g c = record {
  read = λ tells. tt;
  same = λ tells. c.read_rest.ensures.same tells ∙ c.loop.invariant.same tells;
  retried = search rules;
}

pub returns-then-ne : goal.returns-then-ne
returns-then-ne g c = record {
  read = λ tells. tt;
  same = λ tells. c.read_rest.ensures.same tells ∙ c.loop.invariant.same tells;
  retried = search rules;
}

pub returns : goal.returns
returns g c = record {
  read = λ tells. tt;
  same = c.loop.invariant.same;
  retried = search rules;
}
