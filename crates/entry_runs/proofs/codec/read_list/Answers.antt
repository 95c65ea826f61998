use Rattle.std.proofs.Common.{length, ap, ◌∙◌, ◌++◌, ◌∷◌, [], List, sym, arith}
use Rattle.std.specs.Prelude.{map}
use Rattle.std.specs.List.{range_with_len}
use Rattle.std.proofs.lemmas.List.FromFn.{length-map-range_with_len, map-range_with_len_more}
use Rattle.entry_runs.specs.declared.run.Run.{Run}
use Rattle.entry_runs.specs.Spelling.{run_in}
use Rattle.entry_runs.proofs.codec.read_list.Goals as goal

pub push-requires : goal.push-requires
push-requires c =
    let long = length-map-range_with_len (run_in c.args.from.now) 0 c.loop-number.number in
    omega (arith, ap length c.loop-number.invariant, long, c.loop-number-test.true, c.requires)

pub loop-number-preserved : goal.loop-number-preserved
loop-number-preserved c =
    c.push.ensures.items
    ∙ ap (λ (xs : List Run). xs ++ c.read_run.result ∷ []) c.loop-number.invariant
    ∙ ap (λ (r : Run). map (run_in c.args.from.now) (range_with_len 0 c.loop-number.number) ++ r ∷ []) c.read_run.ensures
    ∙ sym (map-range_with_len_more (run_in c.args.from.now) 0 c.loop-number.number c.loop-number.number (omega arith))
