use Rattle.std.proofs.Common.{[], List, ap, arith, length, refl, sym, take, ◌∷◌, ◌++◌, ◌+◌, ◌∙◌, ◌≡◌, ◌≤◌, ℕ}
use Rattle.std.proofs.lemmas.List.{take_all}
use Rattle.std.proofs.lemmas.Result.{err_from_is_err_and}
use Rattle.extents.specs.declared.volume_table.VolumeTable.{VolumeTable}
use Rattle.volume_table.specs.VolumeStep.{Write}
use Rattle.server.proofs.Parts.{no_parts_yet, part_is_within, part_joined, part_length, part_more, part_of}
use Rattle.server.proofs.waiting.stage_parts.Goals as goal

pub loop-staged-init : goal.loop-staged-init
loop-staged-init g c = record {
  honest = λ fair. fair;
  still = λ fair. fair;
  going = c.requires.going;
  of_set = c.requires.of_set;
  holds = c.requires.holds;
  table = refl;
  scrubbed = refl;
  geometry = refl;
  same_set = refl;
  room = omega (arith);
  within = omega (arith);
  comes = λ first start was left ahead remaining name so has come. ([], no_parts_yet name c.args.at, come);
}

pub stage_one-requires-clause-within : goal.stage_one-requires-clause-within
stage_one-requires-clause-within g c = (
  c.requires.has.0,
  part_is_within c.args.store.now.table.records c.loop-staged.store.table.records c.requires.has.0 c.args.volume c.args.at c.args.blocks.now
      c.loop-staged.staged c.min.result (ap (λ (t : VolumeTable). t.records) c.loop-staged.invariant.table) c.requires.has.1 c.loop-staged-test.true
      c.min.ensures,
)

pub returns-in_err-stage_one-clause-comes : goal.returns-in_err-stage_one-clause-comes
returns-in_err-stage_one-clause-comes g c = λ first start was left ahead remaining name so has come.
    let p = err_from_is_err_and c.from_residual.result c.from_residual.ensures.1 in
    let inv = c.loop-staged.invariant in
    let before = inv.comes first start was left ahead remaining name so has come in
    rw (p.1, p.2) (c.in_err-stage_one.ensures.comes first start was before.0 left ahead remaining name (λ fair. inv.honest (so fair))
    (part_is_within c.args.store.now.table.records c.loop-staged.store.table.records name c.args.volume c.args.at c.args.blocks.now
    c.loop-staged.staged c.min.result (ap (λ (t : VolumeTable). t.records) inv.table) has c.loop-staged-test.true c.min.ensures) before.2)

pub loop-staged-preserved : goal.loop-staged-preserved
loop-staged-preserved g c =
    let inv = c.loop-staged.invariant in
    let one = c.in_ok-stage_one.ensures in
    let blocks = c.args.blocks.now in
    let staged : ℕ = c.loop-staged.staged in
    let end : ℕ = c.min.result in
    let is = c.min.ensures in
    record {
      honest = λ fair. one.honest.0 (inv.honest fair);
      still = λ fair. inv.still (one.honest.1 fair);
      going = one.going;
      of_set = one.geometry ∙ inv.of_set ∙ sym one.of_set;
      holds = one.holds;
      table = one.table ∙ inv.table;
      scrubbed = one.scrubbed ∙ inv.scrubbed;
      geometry = one.geometry ∙ inv.geometry;
      same_set = one.of_set ∙ inv.same_set;
      room = omega (arith, one.room, inv.room);
      within = omega (arith, part_length blocks staged end c.loop-staged-test.true is, is, c.loop-staged-test.true);
      comes = λ first start was left ahead remaining name so has come.
          let before = inv.comes first start was left ahead remaining name so has come in (
            before.0 ++ Write name (c.args.at + staged) (part_of blocks staged end) ∷ [],
            part_more name c.args.at staged (take staged blocks) (part_of blocks staged end)
                (take (staged + length (part_of blocks staged end)) blocks) before.0
                before.1
                (omega (arith, part_length blocks staged end c.loop-staged-test.true is, is, c.loop-staged-test.true))
                (omega (arith, part_length blocks staged end c.loop-staged-test.true is, is, c.loop-staged-test.true))
                (part_joined blocks staged end c.loop-staged-test.true is),
            one.comes first start was before.0 left ahead remaining name (λ fair. inv.honest (so fair))
                (part_is_within c.args.store.now.table.records c.loop-staged.store.table.records name c.args.volume c.args.at blocks staged end
                (ap (λ (t : VolumeTable). t.records) inv.table) has c.loop-staged-test.true is) before.2,
          );
    }

pub returns-clause-comes : goal.returns-clause-comes
returns-clause-comes g c = λ first start was left ahead remaining name so has come.
    let all : c.loop-staged.staged ≡ length c.args.blocks.now = omega (arith, c.loop-staged.invariant.within, c.loop-staged-test.false) in
    let is = c.loop-staged.invariant.comes first start was left ahead remaining name so has come in
    (is.0, rw all at (rw (take_all c.loop-staged.staged c.args.blocks.now (omega (arith, all))) at is.1), is.2)
