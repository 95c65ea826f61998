use Rattle.clap.specs.Words.{with_subcommand}
use Rattle.command_line.specs.Commands.{bare_app, create_app, examine_app, extend_app, fail_app, list_app, make_app, rebuild_app, remove_app, rename_app}
use Rattle.command_line.specs.Commands.{replace_app, run_app, scrub_app, serve_app, set_apps, status_app, upgrade_app}
use Rattle.command_line.proofs.commands.raidtool_command.Goals as goal

pub returns-clause-ok : goal.returns-clause-ok
returns-clause-ok c =
    let with_run = with_subcommand bare_app run_app.top in
    let with_serve = with_subcommand with_run serve_app.top in
    let with_make = with_subcommand with_serve make_app.top in
    let with_status = with_subcommand with_make status_app.top in
    let with_fail = with_subcommand with_status fail_app.top in
    let with_replace = with_subcommand with_fail replace_app.top in
    let with_rebuild = with_subcommand with_replace rebuild_app.top in
    let with_scrub = with_subcommand with_rebuild scrub_app.top in
    let with_upgrade = with_subcommand with_scrub upgrade_app.top in
    let with_create = with_subcommand (set_apps bare_app) create_app.top in
    let with_extend = with_subcommand with_create extend_app.top in
    let with_remove = with_subcommand with_extend remove_app.top in
    let with_rename = with_subcommand with_remove rename_app.top in
    let first = c.added-with_run.ensures.ok bare_app run_app c.bare_command.ensures.ok c.run_command.ensures in
    let second = c.added-with_serve.ensures.ok with_run serve_app first c.serve_command.ensures in
    let third = c.added-with_make.ensures.ok with_serve make_app second c.make_command.ensures in
    let fourth = c.added-with_status.ensures.ok with_make status_app third c.status_command.ensures in
    let fifth = c.added-with_fail.ensures.ok with_status fail_app fourth c.fail_command.ensures in
    let sixth = c.added-with_replace.ensures.ok with_fail replace_app fifth c.replace_command.ensures in
    let seventh = c.added-with_rebuild.ensures.ok with_replace rebuild_app sixth c.rebuild_command.ensures in
    let eighth = c.added-with_scrub.ensures.ok with_rebuild scrub_app seventh c.scrub_command.ensures in
    let ninth = c.added-with_upgrade.ensures.ok with_scrub upgrade_app eighth c.upgrade_command.ensures in
    let tenth = c.added-with_examine.ensures.ok with_upgrade examine_app ninth c.examine_command.ensures in
    let eleventh = c.added-with_create.ensures.ok (set_apps bare_app) create_app tenth c.create_command.ensures in
    let twelfth = c.added-with_extend.ensures.ok with_create extend_app eleventh c.extend_command.ensures in
    let thirteenth = c.added-with_remove.ensures.ok with_extend remove_app twelfth c.remove_command.ensures in
    let fourteenth = c.added-with_rename.ensures.ok with_remove rename_app thirteenth c.rename_command.ensures in
    c.added.ensures.ok with_rename list_app fourteenth c.list_command.ensures

pub returns-clause-err : goal.returns-clause-err
returns-clause-err c =
    let second = c.added-with_serve.ensures.err (c.added-with_run.ensures.err c.bare_command.ensures.err) in
    let fourth = c.added-with_status.ensures.err (c.added-with_make.ensures.err second) in
    let sixth = c.added-with_replace.ensures.err (c.added-with_fail.ensures.err fourth) in
    let ninth = c.added-with_upgrade.ensures.err (c.added-with_scrub.ensures.err (c.added-with_rebuild.ensures.err sixth)) in
    let eleventh = c.added-with_create.ensures.err (c.added-with_examine.ensures.err ninth) in
    c.added.ensures.err (c.added-with_rename.ensures.err (c.added-with_remove.ensures.err (c.added-with_extend.ensures.err eleventh)))
