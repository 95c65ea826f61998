use Rattle.std.proofs.Common.{List, length, sym, subst, ap, ◌∙◌, refl}
use Rattle.entry_runs.specs.declared.run.Run.{Run}
use Rattle.entry_runs.specs.Runs.{FitEntry}
use Rattle.batch.specs.ZeroRows.{AreZeroRuns, HasMore, with_joined}
use Rattle.batch.proofs.ZeroLists.{one_more}
use Rattle.batch.proofs.ZeroOrder.{zero_spread}
use Rattle.batch.proofs.ZeroPut.{alone_fits, has_more, joined_fits, still_spread}
use Rattle.batch.proofs.zero_rows.ZeroRows.add.Goals as goal

pub invariant_of-self : goal.invariant_of-self
invariant_of-self c =
    let runs = c.as_slice-runs.result.now in
    let are = subst AreZeroRuns (sym c.as_slice-runs.ensures.value) c.args.self.now.zero in
    record {
      zero = subst AreZeroRuns (sym (c.in-Some.ensures.some))
          (joined_fits runs c.args.first c.args.count c.join-joined.result are c.requires.least c.join-joined.ensures c.in-Some.ensures.few
          c.in-Some.ensures.short);
    }

pub returns-in-Some-clause-more : goal.returns-in-Some-clause-more
returns-in-Some-clause-more c = λ yes.
    let runs = c.as_slice-runs.result.now in
    let are = subst AreZeroRuns (sym c.as_slice-runs.ensures.value) c.args.self.now.zero in
    subst (λ (new : List Run). HasMore c.args.self.now.list.items c.args.first c.args.count new) (sym (c.in-Some.ensures.some))
    (subst (λ (old : List Run). HasMore old c.args.first c.args.count (with_joined runs c.join-joined.result)) c.as_slice-runs.ensures.value
    (has_more runs c.args.first c.args.count c.join-joined.result are c.requires.least c.join-joined.ensures))

pub returns-in-None-clause-none : goal.returns-in-None-clause-none
returns-in-None-clause-none c = λ no fit is more.
    let runs = c.as_slice-runs.result.now in
    let joined = c.join-joined.result in
    let are = subst AreZeroRuns (sym c.as_slice-runs.ensures.value) c.args.self.now.zero in
    let here = subst (λ (old : List Run). HasMore old c.args.first c.args.count fit) (sym c.as_slice-runs.ensures.value) more in
    let same = one_more runs fit (with_joined runs joined) c.args.first c.args.count (zero_spread fit is)
    (still_spread runs c.args.first c.args.count joined are c.requires.least c.join-joined.ensures) here
    (has_more runs c.args.first c.args.count joined are c.requires.least c.join-joined.ensures) in
    c.in-None.ensures.none refl (subst FitEntry same is.fit)

pub returns-in-None-clause-at_once : goal.returns-in-None-clause-at_once
returns-in-None-clause-at_once c = λ none.
    let runs = c.as_slice-runs.result.now in
    let are = subst AreZeroRuns (sym c.as_slice-runs.ensures.value) c.args.self.now.zero in
    absurd (c.in-None.ensures.none refl
    (alone_fits runs c.args.first c.args.count c.join-joined.result (ap length (c.as_slice-runs.ensures.value ∙ none)) are c.requires.least c.requires.most
    c.join-joined.ensures))
