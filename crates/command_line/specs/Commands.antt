-- The program's commands, as clap is told of them.
use Rattle.std.specs.Prelude.{◌≡◌, true, ℕ, pos, Result, Some, IfOk, false, codes}
use Rattle.std.specs.declared.alloc.AllocError.{AllocError}
use Rattle.clap.specs.Words.{App, Rule, Text, app_of, new_app, new_rule}
use Rattle.clap.specs.Words.{with_rule, with_subcommand}
use Rattle.clap.specs.Simple.{on_top}
use Rattle.clap.specs.declared.builder.action.ArgAction.TheVariants.{SetTrue}
use Rattle.clap.specs.declared.builder.command.Command.{Command}
use Rattle.clap.specs.declared.builder.command.Command.TheViews.{out-Command}
use Rattle.clap.specs.declared.builder.value_parser.ValueParser.{ValueParser}
use Rattle.clap.specs.declared.builder.value_parser.ValueParser.TheVariants.{Signed, Unsigned}

-- an argument of this name that is no option's value
abbrev pub word_rule : Text → Rule
word_rule name = record (new_rule name) { value_names = 1; required = true }

-- the argument FOLDER: the first word that is no option's value
abbrev pub folder_rule : Rule
folder_rule = word_rule (codes "folder")

-- the option `--id H`
abbrev pub id_rule : Rule
id_rule = record (new_rule (codes "id")) {
  long = Some (codes "id");
  value_names = 1;
  required = true;
}

-- a command of this name with FOLDER and `--id H`
abbrev pub set_app : Text → App
set_app name = with_rule (with_rule (new_app name) folder_rule) id_rule

-- the command `run FOLDER --id H`
abbrev pub run_app : App
run_app = set_app (codes "run")

-- the command `serve FOLDER --id H`
abbrev pub serve_app : App
serve_app = set_app (codes "serve")

-- an option of this name, whose value passes this parser, and which may be left out
abbrev pub some_number_rule : Text → ValueParser → Rule
some_number_rule name parser = record (new_rule name) {
  long = Some name;
  value_names = 1;
  parser = Some parser;
}

-- the same where it may not
abbrev pub number_rule : Text → ValueParser → Rule
number_rule name parser = record (some_number_rule name parser) { required = true }

-- a flag of this name
abbrev pub flag_rule : Text → Rule
flag_rule name = record (new_rule name) { long = Some name; action = Some SetTrue }

-- numbers from 0 to this
abbrev pub up_to : ℕ → ValueParser
up_to most = Signed (pos 0) (pos most)

-- the option `--members N`
abbrev pub members_rule : Rule
members_rule = number_rule (codes "members") (up_to 255)

-- the option `--chunk C`, which may be left out
abbrev pub chunk_rule : Rule
chunk_rule = some_number_rule (codes "chunk") (up_to 65535)

-- the option `--stripes S`, which may be left out
abbrev pub stripes_rule : Rule
stripes_rule = some_number_rule (codes "stripes") (up_to 4294967295)

-- the option `--size SIZE`, which may be left out
abbrev pub size_rule : Rule
size_rule = record (new_rule (codes "size")) { long = Some (codes "size"); value_names = 1 }

-- the flag `--over`
abbrev pub over_rule : Rule
over_rule = flag_rule (codes "over")

-- the flag `--reserve`
abbrev pub reserve_rule : Rule
reserve_rule = flag_rule (codes "reserve")

-- the command `make FOLDER --id H --members N [--chunk C] [--stripes S] [--size SIZE] [--over] [--reserve]`
abbrev pub make_app : App
make_app = with_rule (with_rule (with_rule (with_rule (with_rule (with_rule (set_app (codes "make")) members_rule) chunk_rule) stripes_rule) size_rule)
    over_rule) reserve_rule

-- the flag `--json`
abbrev pub json_rule : Rule
json_rule = flag_rule (codes "json")

-- the flag `--check`
abbrev pub check_rule : Rule
check_rule = flag_rule (codes "check")

-- the command `status FOLDER --id H [--json] [--check]`
abbrev pub status_app : App
status_app = with_rule (with_rule (set_app (codes "status")) json_rule) check_rule

-- the option `--slot K`
abbrev pub slot_rule : Rule
slot_rule = number_rule (codes "slot") (up_to 255)

-- a command of this name with FOLDER, `--id H` and `--slot K`
abbrev pub slot_app : Text → App
slot_app name = with_rule (set_app name) slot_rule

-- the command `fail FOLDER --id H --slot K`
abbrev pub fail_app : App
fail_app = slot_app (codes "fail")

-- the command `replace FOLDER --id H --slot K`
abbrev pub replace_app : App
replace_app = slot_app (codes "replace")

-- numbers of 64 bits from 1
abbrev pub from_one : ValueParser
from_one = Unsigned 1 18446744073709551615

-- the option `--steps T`, which may be left out
abbrev pub steps_rule : Rule
steps_rule = some_number_rule (codes "steps") from_one

-- the command `rebuild FOLDER --id H [--steps T]`
abbrev pub rebuild_app : App
rebuild_app = with_rule (set_app (codes "rebuild")) steps_rule

-- the command `scrub FOLDER --id H`
abbrev pub scrub_app : App
scrub_app = set_app (codes "scrub")

-- the command `upgrade FOLDER --id H`
abbrev pub upgrade_app : App
upgrade_app = set_app (codes "upgrade")

-- the option `--id H`, which may be left out
abbrev pub some_id_rule : Rule
some_id_rule = record (new_rule (codes "id")) { long = Some (codes "id"); value_names = 1 }

-- the command `examine FOLDER [--id H] [--json] [--check]`
abbrev pub examine_app : App
examine_app = with_rule (with_rule (with_rule (with_rule (new_app (codes "examine")) folder_rule) some_id_rule) json_rule) check_rule

-- the argument NAME
abbrev pub name_rule : Rule
name_rule = word_rule (codes "name")

-- the argument SIZE
abbrev pub blocks_rule : Rule
blocks_rule = word_rule (codes "size")

-- the argument NEW
abbrev pub new_name_rule : Rule
new_name_rule = word_rule (codes "new")

-- a command of this name with FOLDER, NAME and `--id H`
abbrev pub volume_app : Text → App
volume_app name = with_rule (set_app name) name_rule

-- a command of this name with FOLDER, NAME, SIZE and `--id H`
abbrev pub sized_app : Text → App
sized_app name = with_rule (volume_app name) blocks_rule

-- the command `create FOLDER NAME SIZE --id H`
abbrev pub create_app : App
create_app = sized_app (codes "create")

-- the command `extend FOLDER NAME SIZE --id H`
abbrev pub extend_app : App
extend_app = sized_app (codes "extend")

-- the command `remove FOLDER NAME --id H`
abbrev pub remove_app : App
remove_app = volume_app (codes "remove")

-- the command `rename FOLDER NAME NEW --id H`
abbrev pub rename_app : App
rename_app = with_rule (volume_app (codes "rename")) new_name_rule

-- the command `list FOLDER --id H`
abbrev pub list_app : App
list_app = set_app (codes "list")

-- the program's command, before its subcommands
abbrev pub bare_app : App
bare_app = on_top (λ s. record s {
  no_binary_name = true;
  subcommand_required = true;
  disable_help_subcommand = true;
  has_version = true;
}) (new_app (codes "raidtool"))

-- with the commands on a set
abbrev pub set_apps : App → App
set_apps app = with_subcommand (with_subcommand (with_subcommand (with_subcommand (with_subcommand (with_subcommand (with_subcommand
    (with_subcommand (with_subcommand (with_subcommand app run_app.top) serve_app.top) make_app.top) status_app.top) fail_app.top)
    replace_app.top) rebuild_app.top) scrub_app.top) upgrade_app.top) examine_app.top

-- the program's command: its words begin with the name of a subcommand
abbrev pub raidtool_app : App
raidtool_app = with_subcommand (with_subcommand (with_subcommand (with_subcommand (with_subcommand (set_apps bare_app) create_app.top) extend_app.top)
    remove_app.top) rename_app.top) list_app.top

-- where there was memory for it, a command is as this says, and none of its arguments is its subcommands' too
abbrev pub HasApp : App → Result Command AllocError → Type 0
HasApp app made = IfOk made (λ command. (app_of command ≡ app) × ((out-Command command).has_globals ≡ false))
