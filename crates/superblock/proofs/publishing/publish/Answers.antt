use Rattle.std.proofs.Common.{◌≡◌, ◌∙◌, ap}
use Rattle.std.specs.Prelude.{Err}
use Rattle.std.proofs.lemmas.Result.{IfErr-weaker, err_from_is_err_and}
use Rattle.sector_model.specs.declared.sector.Stop.TheVariants.{Down}
use Rattle.sector_model.specs.Bank.{IsCauseOf}
use Rattle.sector_model.proofs.Panels.{later_both}
use Rattle.superblock.proofs.PublishCode.{can_later, first_in_bank, last_is_up, last_made, last_named, no_last_made, publishes_short, publishes_then}
use Rattle.superblock.proofs.PublishCode.{short_in_first, short_in_flushes, then_last}
use Rattle.superblock.proofs.publishing.publish.Goals as goal

pub returns-in_err-write_first-clause-publishes : goal.returns-in_err-write_first-clause-publishes
returns-in_err-write_first-clause-publishes g c =
    let table = c.args.new.now in
    let p = err_from_is_err_and c.from_residual.result c.from_residual.ensures.1 in
    let stop = c.in_err-write_first.field-0.0 in
    let is = p.1 ∙ ap (λ s. Err s) p.2 in
    publishes_short table c.args.last (g.B.Bank.panel c.args.bank.now) (g.B.Bank.panel c.write_first.new.bank) c.from_residual.result stop is
    c.requires (g.met.B.Bank.true_to _) c.write_first.ensures.panel
    (λ sectors spelled honest. short_in_first table c.args.last sectors (c.in_err-write_first.ensures.made sectors honest spelled))
    c.in_err-write_first.ensures.cause
    (λ device down. c.write_first.ensures.named device (let was = c.in_err-write_first.was in let named : c.write_first.result ≡ Err (Down device) =
    cc in named))

pub returns-in_err-flush_first-clause-publishes : goal.returns-in_err-flush_first-clause-publishes
returns-in_err-flush_first-clause-publishes g c =
    let table = c.args.new.now in
    let p = err_from_is_err_and c.from_residual-in_err-flush_first.result c.from_residual-in_err-flush_first.ensures.1 in
    let stop = c.in_err-flush_first.field-0.0 in
    let is = p.1 ∙ ap (λ s. Err s) p.2 in
    publishes_short table c.args.last (g.B.Bank.panel c.args.bank.now) (g.B.Bank.panel c.flush_first.new.bank) c.from_residual-in_err-flush_first.result stop is
    c.requires (g.met.B.Bank.true_to _) (later_both _ _ _ c.write_first.ensures.panel c.flush_first.ensures.panel)
    (λ sectors spelled honest.
    short_in_flushes table c.args.last sectors (c.in_ok-write_first.ensures.made sectors honest spelled)
    (c.in_err-flush_first.ensures.made (c.write_first.ensures.honest.0 honest)))
    c.in_err-flush_first.ensures.cause
    (λ device down. c.flush_first.ensures.named device (let was = c.in_err-flush_first.was in let named : c.flush_first.result ≡ Err (Down device) =
    cc in named))

pub returns-in-Some-clause-publishes : goal.returns-in-Some-clause-publishes
returns-in-Some-clause-publishes g c =
    let table = c.args.new.now in
    let last = c.args.last in
    let slot = c.in-Some.slot in
    publishes_then table last (g.B.Bank.panel c.args.bank.now) (g.B.Bank.panel c.write_last.new.bank) c.write_last.result
    c.requires (g.met.B.Bank.true_to _) (later_both _ _ _ (later_both _ _ _ c.write_first.ensures.panel c.flush_first.ensures.panel) c.write_last.ensures.panel)
    (λ sectors spelled honest.
    let written = c.write_first.ensures.honest.0 honest in
    let safe = c.flush_first.ensures.honest.0 written in
    let stands = spelled slot (c.requires.last_in_set slot c.in-Some.is) (c.requires.last_there slot c.in-Some.is) in
    then_last table last sectors (c.in_ok-write_first.ensures.made sectors honest spelled) (c.in_ok-flush_first.ensures.made written)
    (last_made table last slot sectors c.in-Some.is (c.write_last.ensures.made sectors safe stands)))
    (IfErr-weaker c.write_last.result _ (IsCauseOf (g.B.Bank.panel c.write_last.new.bank)) (λ stop cause. cause.0) c.write_last.ensures.err)
    (λ device down. last_named table last slot device (g.B.Bank.panel c.write_last.new.bank) c.write_last.result c.in-Some.is c.write_last.ensures.err down)
    (λ other. last_is_up last slot other (g.B.Bank.panel c.write_last.new.bank) c.write_last.result c.in-Some.is c.write_last.ensures.up)

pub returns-in-None-clause-publishes : goal.returns-in-None-clause-publishes
returns-in-None-clause-publishes g c =
    let table = c.args.new.now in
    let last = c.args.last in
    publishes_then table last (g.B.Bank.panel c.args.bank.now) (g.B.Bank.panel c.flush_first.new.bank) _
    c.requires (g.met.B.Bank.true_to _) (later_both _ _ _ c.write_first.ensures.panel c.flush_first.ensures.panel)
    (λ sectors spelled honest.
    let written = c.write_first.ensures.honest.0 honest in
    then_last table last sectors (c.in_ok-write_first.ensures.made sectors honest spelled) (c.in_ok-flush_first.ensures.made written)
    (no_last_made table last sectors _ c.in-None.is))
    tt (λ device down. absurd (cc)) (λ other ok of_last. absurd (let none = c.in-None.is in cc))

pub write_first-requires : goal.write_first-requires
write_first-requires g c = c.requires

pub returns-in_err-write_first-clause-honest : goal.returns-in_err-write_first-clause-honest
returns-in_err-write_first-clause-honest g c = c.write_first.ensures.honest

pub flush_first-requires : goal.flush_first-requires
flush_first-requires g c = can_later c.requires c.write_first.ensures.panel

pub returns-in_err-flush_first-clause-honest : goal.returns-in_err-flush_first-clause-honest
returns-in_err-flush_first-clause-honest g c = (
  λ honest. c.flush_first.ensures.honest.0 (c.write_first.ensures.honest.0 honest),
  λ honest. c.write_first.ensures.honest.1 (c.flush_first.ensures.honest.1 honest),
)

pub write_last-requires-clause-of_set : goal.write_last-requires-clause-of_set
write_last-requires-clause-of_set g c = c.requires.last_in_set c.in-Some.slot c.in-Some.is

pub write_last-requires-clause-there : goal.write_last-requires-clause-there
write_last-requires-clause-there g c = c.requires.last_there c.in-Some.slot c.in-Some.is

pub write_last-requires-clause-device : goal.write_last-requires-clause-device
write_last-requires-clause-device g c =
    first_in_bank c.in-Some.slot c.requires (later_both _ _ _ c.write_first.ensures.panel c.flush_first.ensures.panel)
    (c.requires.last_in_set c.in-Some.slot c.in-Some.is)

pub write_last-requires-clause-within : goal.write_last-requires-clause-within
write_last-requires-clause-within g c =
    let can = can_later c.requires (later_both _ _ _ c.write_first.ensures.panel c.flush_first.ensures.panel) in
    can.has_places c.in-Some.slot (c.requires.last_in_set c.in-Some.slot c.in-Some.is) (c.requires.last_there c.in-Some.slot c.in-Some.is)

pub returns-in-Some-clause-honest : goal.returns-in-Some-clause-honest
returns-in-Some-clause-honest g c = (
  (λ honest. c.write_last.ensures.honest.0 (c.flush_first.ensures.honest.0 (c.write_first.ensures.honest.0 honest))),
  (λ honest. c.write_first.ensures.honest.1 (c.flush_first.ensures.honest.1 (c.write_last.ensures.honest.1 honest))),
)

pub returns-in-None-clause-honest : goal.returns-in-None-clause-honest
returns-in-None-clause-honest g c = (
  λ honest. c.flush_first.ensures.honest.0 (c.write_first.ensures.honest.0 honest),
  λ honest. c.write_first.ensures.honest.1 (c.flush_first.ensures.honest.1 honest),
)
