use Rattle.std.proofs.Common.{◌≡◌, Some, rules, codes}
use Rattle.clap.specs.Matches.{subcommand_name_of}
use Rattle.command_line.proofs.Entered.{asks_as, fails_as, is_known, make_values, none_of}
use Rattle.command_line.proofs.reading.read_invocation.Goals as goal
use Rattle.command_line.proofs.reading.read_invocation.Goals.{in_default-via-in-Some+in_default, in_default-via-in_default}

pub read_make-requires-clause-values : goal.read_make-requires-clause-values
read_make-requires-clause-values c =
    let arm = c.in-Some-make-default in
    make_values c.args.matches.now arm.make.now _ c.requires arm.ensures.name arm.ensures.rows arm.is-make

pub unreachable-requires : goal.unreachable-requires
unreachable-requires c = elim c.in_default.branch [
  | in_default-via-in-Some+in_default w ↦
      let name = w.in_default.field-0.0.now in
      let named : Some name ≡ subcommand_name_of c.args.matches.now = rw w.in_default.is at c.subcommand.ensures.name in
      none_of name (is_known c.args.matches.now c.requires name named)
      (search rules) (search rules) (search rules) (search rules) (search rules)
      (search rules) (search rules) (search rules) (search rules) (search rules)
      (search rules) (search rules) (search rules) (search rules) (search rules)
  | in_default-via-in_default w ↦ search rules
]

pub returns-in-Some-run-default-clause-ok : goal.returns-in-Some-run-default-clause-ok
returns-in-Some-run-default-clause-ok c =
    let arm = c.in-Some-run-default in
    asks_as c.args.matches.now arm.run'.now _ (codes "run") arm.ensures.name arm.ensures.rows arm.is-run
    c.read_run.result c.read_run.ensures.ok

pub returns-in-Some-run-default-clause-err : goal.returns-in-Some-run-default-clause-err
returns-in-Some-run-default-clause-err c =
    let arm = c.in-Some-run-default in
    fails_as c.args.matches.now arm.run'.now _ (codes "run") arm.ensures.name arm.ensures.rows arm.is-run
    c.read_run.result c.read_run.ensures.err

pub returns-in-Some-serve-default-clause-ok : goal.returns-in-Some-serve-default-clause-ok
returns-in-Some-serve-default-clause-ok c =
    let arm = c.in-Some-serve-default in
    asks_as c.args.matches.now arm.serve.now _ (codes "serve") arm.ensures.name arm.ensures.rows arm.is-serve
    c.read_serve.result c.read_serve.ensures.ok

pub returns-in-Some-serve-default-clause-err : goal.returns-in-Some-serve-default-clause-err
returns-in-Some-serve-default-clause-err c =
    let arm = c.in-Some-serve-default in
    fails_as c.args.matches.now arm.serve.now _ (codes "serve") arm.ensures.name arm.ensures.rows arm.is-serve
    c.read_serve.result c.read_serve.ensures.err

pub returns-in-Some-make-default-clause-ok : goal.returns-in-Some-make-default-clause-ok
returns-in-Some-make-default-clause-ok c =
    let arm = c.in-Some-make-default in
    asks_as c.args.matches.now arm.make.now _ (codes "make") arm.ensures.name arm.ensures.rows arm.is-make
    c.read_make.result c.read_make.ensures.ok

pub returns-in-Some-make-default-clause-err : goal.returns-in-Some-make-default-clause-err
returns-in-Some-make-default-clause-err c =
    let arm = c.in-Some-make-default in
    fails_as c.args.matches.now arm.make.now _ (codes "make") arm.ensures.name arm.ensures.rows arm.is-make
    c.read_make.result c.read_make.ensures.err

pub returns-in-Some-status-default-clause-ok : goal.returns-in-Some-status-default-clause-ok
returns-in-Some-status-default-clause-ok c =
    let arm = c.in-Some-status-default in
    asks_as c.args.matches.now arm.status.now _ (codes "status") arm.ensures.name arm.ensures.rows arm.is-status
    c.read_status.result c.read_status.ensures.ok

pub returns-in-Some-status-default-clause-err : goal.returns-in-Some-status-default-clause-err
returns-in-Some-status-default-clause-err c =
    let arm = c.in-Some-status-default in
    fails_as c.args.matches.now arm.status.now _ (codes "status") arm.ensures.name arm.ensures.rows arm.is-status
    c.read_status.result c.read_status.ensures.err

pub returns-in-Some-fail-default-clause-ok : goal.returns-in-Some-fail-default-clause-ok
returns-in-Some-fail-default-clause-ok c =
    let arm = c.in-Some-fail-default in
    asks_as c.args.matches.now arm.fail.now _ (codes "fail") arm.ensures.name arm.ensures.rows arm.is-fail
    c.read_fail.result c.read_fail.ensures.ok

pub returns-in-Some-fail-default-clause-err : goal.returns-in-Some-fail-default-clause-err
returns-in-Some-fail-default-clause-err c =
    let arm = c.in-Some-fail-default in
    fails_as c.args.matches.now arm.fail.now _ (codes "fail") arm.ensures.name arm.ensures.rows arm.is-fail
    c.read_fail.result c.read_fail.ensures.err

pub returns-in-Some-replace-default-clause-ok : goal.returns-in-Some-replace-default-clause-ok
returns-in-Some-replace-default-clause-ok c =
    let arm = c.in-Some-replace-default in
    asks_as c.args.matches.now arm.replace.now _ (codes "replace") arm.ensures.name arm.ensures.rows arm.is-replace
    c.read_replace.result c.read_replace.ensures.ok

pub returns-in-Some-replace-default-clause-err : goal.returns-in-Some-replace-default-clause-err
returns-in-Some-replace-default-clause-err c =
    let arm = c.in-Some-replace-default in
    fails_as c.args.matches.now arm.replace.now _ (codes "replace") arm.ensures.name arm.ensures.rows arm.is-replace
    c.read_replace.result c.read_replace.ensures.err

pub returns-in-Some-rebuild-default-clause-ok : goal.returns-in-Some-rebuild-default-clause-ok
returns-in-Some-rebuild-default-clause-ok c =
    let arm = c.in-Some-rebuild-default in
    asks_as c.args.matches.now arm.rebuild.now _ (codes "rebuild") arm.ensures.name arm.ensures.rows arm.is-rebuild
    c.read_rebuild.result c.read_rebuild.ensures.ok

pub returns-in-Some-rebuild-default-clause-err : goal.returns-in-Some-rebuild-default-clause-err
returns-in-Some-rebuild-default-clause-err c =
    let arm = c.in-Some-rebuild-default in
    fails_as c.args.matches.now arm.rebuild.now _ (codes "rebuild") arm.ensures.name arm.ensures.rows arm.is-rebuild
    c.read_rebuild.result c.read_rebuild.ensures.err

pub returns-in-Some-scrub-default-clause-ok : goal.returns-in-Some-scrub-default-clause-ok
returns-in-Some-scrub-default-clause-ok c =
    let arm = c.in-Some-scrub-default in
    asks_as c.args.matches.now arm.scrub.now _ (codes "scrub") arm.ensures.name arm.ensures.rows arm.is-scrub
    c.read_scrub.result c.read_scrub.ensures.ok

pub returns-in-Some-scrub-default-clause-err : goal.returns-in-Some-scrub-default-clause-err
returns-in-Some-scrub-default-clause-err c =
    let arm = c.in-Some-scrub-default in
    fails_as c.args.matches.now arm.scrub.now _ (codes "scrub") arm.ensures.name arm.ensures.rows arm.is-scrub
    c.read_scrub.result c.read_scrub.ensures.err

pub returns-in-Some-upgrade-default-clause-ok : goal.returns-in-Some-upgrade-default-clause-ok
returns-in-Some-upgrade-default-clause-ok c =
    let arm = c.in-Some-upgrade-default in
    asks_as c.args.matches.now arm.upgrade.now _ (codes "upgrade") arm.ensures.name arm.ensures.rows arm.is-upgrade
    c.read_upgrade.result c.read_upgrade.ensures.ok

pub returns-in-Some-upgrade-default-clause-err : goal.returns-in-Some-upgrade-default-clause-err
returns-in-Some-upgrade-default-clause-err c =
    let arm = c.in-Some-upgrade-default in
    fails_as c.args.matches.now arm.upgrade.now _ (codes "upgrade") arm.ensures.name arm.ensures.rows arm.is-upgrade
    c.read_upgrade.result c.read_upgrade.ensures.err

pub returns-in-Some-examine-default-clause-ok : goal.returns-in-Some-examine-default-clause-ok
returns-in-Some-examine-default-clause-ok c =
    let arm = c.in-Some-examine-default in
    asks_as c.args.matches.now arm.examine.now _ (codes "examine") arm.ensures.name arm.ensures.rows arm.is-examine
    c.read_examine.result c.read_examine.ensures.ok

pub returns-in-Some-examine-default-clause-err : goal.returns-in-Some-examine-default-clause-err
returns-in-Some-examine-default-clause-err c =
    let arm = c.in-Some-examine-default in
    fails_as c.args.matches.now arm.examine.now _ (codes "examine") arm.ensures.name arm.ensures.rows arm.is-examine
    c.read_examine.result c.read_examine.ensures.err

pub returns-in-Some-create-default-clause-ok : goal.returns-in-Some-create-default-clause-ok
returns-in-Some-create-default-clause-ok c =
    let arm = c.in-Some-create-default in
    asks_as c.args.matches.now arm.create.now _ (codes "create") arm.ensures.name arm.ensures.rows arm.is-create
    c.read_create.result c.read_create.ensures.ok

pub returns-in-Some-create-default-clause-err : goal.returns-in-Some-create-default-clause-err
returns-in-Some-create-default-clause-err c =
    let arm = c.in-Some-create-default in
    fails_as c.args.matches.now arm.create.now _ (codes "create") arm.ensures.name arm.ensures.rows arm.is-create
    c.read_create.result c.read_create.ensures.err

pub returns-in-Some-extend-default-clause-ok : goal.returns-in-Some-extend-default-clause-ok
returns-in-Some-extend-default-clause-ok c =
    let arm = c.in-Some-extend-default in
    asks_as c.args.matches.now arm.extend.now _ (codes "extend") arm.ensures.name arm.ensures.rows arm.is-extend
    c.read_extend.result c.read_extend.ensures.ok

pub returns-in-Some-extend-default-clause-err : goal.returns-in-Some-extend-default-clause-err
returns-in-Some-extend-default-clause-err c =
    let arm = c.in-Some-extend-default in
    fails_as c.args.matches.now arm.extend.now _ (codes "extend") arm.ensures.name arm.ensures.rows arm.is-extend
    c.read_extend.result c.read_extend.ensures.err

pub returns-in-Some-remove-default-clause-ok : goal.returns-in-Some-remove-default-clause-ok
returns-in-Some-remove-default-clause-ok c =
    let arm = c.in-Some-remove-default in
    asks_as c.args.matches.now arm.remove.now _ (codes "remove") arm.ensures.name arm.ensures.rows arm.is-remove
    c.read_remove.result c.read_remove.ensures.ok

pub returns-in-Some-remove-default-clause-err : goal.returns-in-Some-remove-default-clause-err
returns-in-Some-remove-default-clause-err c =
    let arm = c.in-Some-remove-default in
    fails_as c.args.matches.now arm.remove.now _ (codes "remove") arm.ensures.name arm.ensures.rows arm.is-remove
    c.read_remove.result c.read_remove.ensures.err

pub returns-in-Some-rename-default-clause-ok : goal.returns-in-Some-rename-default-clause-ok
returns-in-Some-rename-default-clause-ok c =
    let arm = c.in-Some-rename-default in
    asks_as c.args.matches.now arm.rename.now _ (codes "rename") arm.ensures.name arm.ensures.rows arm.is-rename
    c.read_rename.result c.read_rename.ensures.ok

pub returns-in-Some-rename-default-clause-err : goal.returns-in-Some-rename-default-clause-err
returns-in-Some-rename-default-clause-err c =
    let arm = c.in-Some-rename-default in
    fails_as c.args.matches.now arm.rename.now _ (codes "rename") arm.ensures.name arm.ensures.rows arm.is-rename
    c.read_rename.result c.read_rename.ensures.err

pub returns-in-Some-list-default-clause-ok : goal.returns-in-Some-list-default-clause-ok
returns-in-Some-list-default-clause-ok c =
    let arm = c.in-Some-list-default in
    asks_as c.args.matches.now arm.list.now _ (codes "list") arm.ensures.name arm.ensures.rows arm.is-list
    c.read_list.result c.read_list.ensures.ok

pub returns-in-Some-list-default-clause-err : goal.returns-in-Some-list-default-clause-err
returns-in-Some-list-default-clause-err c =
    let arm = c.in-Some-list-default in
    fails_as c.args.matches.now arm.list.now _ (codes "list") arm.ensures.name arm.ensures.rows arm.is-list
    c.read_list.result c.read_list.ensures.err
