use Rattle.std.proofs.Common.{◌≡◌, ◌∙◌, ap, codes, false}
use Rattle.std.proofs.lemmas.Result.{IfOk-weaker}
use Rattle.clap.specs.Simple.{app_of_fields}
use Rattle.clap.specs.Words.{app_of, new_app}
use Rattle.clap.specs.declared.builder.command.Command.TheViews.{out-Command}
use Rattle.command_line.proofs.Building.{with_one}
use Rattle.command_line.proofs.commands.make_command.Goals as goal

pub returns : goal.returns
returns c =
    let bare : (app_of c.about.result ≡ new_app (codes "make")) × ((out-Command c.about.result).has_globals ≡ false) =
    (ap app_of_fields c.about.ensures ∙ c.new.ensures.app, ap (λ f. f.has_globals) c.about.ensures ∙ c.new.ensures.local) in
    let folder = with_one _ _ _ _ _ c.in_ok-arg.ensures c.folder_argument.ensures.local c.folder_argument.ensures.rule bare in
    let id = with_one _ _ _ _ _ c.in_ok-arg-2.ensures c.id_option.ensures.local c.id_option.ensures.rule folder in
    let members = with_one _ _ _ _ _ c.in_ok-arg-3.ensures c.members_option.ensures.local c.members_option.ensures.rule id in
    let chunk = with_one _ _ _ _ _ c.in_ok-arg-4.ensures c.chunk_option.ensures.local c.chunk_option.ensures.rule members in
    let stripes = with_one _ _ _ _ _ c.in_ok-arg-5.ensures c.stripes_option.ensures.local c.stripes_option.ensures.rule chunk in
    let size = with_one _ _ _ _ _ c.in_ok-arg-6.ensures c.size_option.ensures.local c.size_option.ensures.rule stripes in
    let over = with_one _ _ _ _ _ c.in_ok-arg-7.ensures c.over_flag.ensures.local c.over_flag.ensures.rule size in
    IfOk-weaker c.arg-8.result _ _ (λ r h. with_one _ r _ _ _ h c.reserve_flag.ensures.local c.reserve_flag.ensures.rule over) c.arg-8.ensures
