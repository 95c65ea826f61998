use Rattle.std.proofs.Common.{refl}
use Rattle.set_commands.proofs.Served.{opening_is_end}
use Rattle.server.proofs.Opened.{last_ends, none_served, replaced_ends, served_replaced}
use Rattle.server.proofs.on_bank.serve_replaced.Goals as goal

pub serve_after_replacing-requires : goal.serve_after_replacing-requires
serve_after_replacing-requires g c = record { going = c.in-Ok.ensures.opened.opens.going _ refl }

pub returns-in-Ok-clause-serves : goal.returns-in-Ok-clause-serves
returns-in-Ok-clause-serves g c = served_replaced _ _ _ _ _ _ _ _ c.serve_after_replacing.result c.in-Ok.ensures.opened
    (c.serve_after_replacing.ensures.serves c.args.bank c.in-Ok.ensures.honest.0)

pub returns-in-Ok-clause-end : goal.returns-in-Ok-clause-end
returns-in-Ok-clause-end g c = replaced_ends _ _ _ _ _ _ c.serve_after_replacing.result (c.serve_after_replacing.ensures.serves c.args.bank c.in-Ok.ensures.honest.0)

pub returns-in-Err-clause-serves : goal.returns-in-Err-clause-serves
returns-in-Err-clause-serves g c = none_served _ _ _ _ _ _ _ c.write_last.result c.in-Err.ensures.refused c.write_last.ensures

pub returns-in-Err-clause-end : goal.returns-in-Err-clause-end
returns-in-Err-clause-end g c = last_ends _ _ _ c.write_last.result (opening_is_end _ c.in-Err.ensures.err) c.write_last.ensures
