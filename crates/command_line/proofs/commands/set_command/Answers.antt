use Rattle.std.proofs.Common.{◌≡◌, ◌∙◌, ap, false}
use Rattle.std.proofs.lemmas.Result.{IfOk-weaker}
use Rattle.clap.specs.Simple.{app_of_fields}
use Rattle.clap.specs.Words.{app_of, new_app}
use Rattle.clap.specs.declared.builder.command.Command.TheViews.{out-Command}
use Rattle.command_line.proofs.Building.{with_one}
use Rattle.command_line.proofs.commands.set_command.Goals as goal

pub returns : goal.returns
returns c =
    let bare : (app_of c.about.result ≡ new_app c.args.name.now) × ((out-Command c.about.result).has_globals ≡ false) =
    (ap app_of_fields c.about.ensures ∙ c.new.ensures.app, ap (λ f. f.has_globals) c.about.ensures ∙ c.new.ensures.local) in
    let folder = with_one _ _ _ _ _ c.in_ok-arg.ensures c.folder_argument.ensures.local c.folder_argument.ensures.rule bare in
    IfOk-weaker c.arg-2.result _ _ (λ r h. with_one _ r _ _ _ h c.id_option.ensures.local c.id_option.ensures.rule folder) c.arg-2.ensures
