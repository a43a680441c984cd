-- Four settings, and the commands of the tables.
use Rattle.std.proofs.Common.{◌≡◌, ◌∙◌, ap, true, codes}
use Rattle.std.proofs.lemmas.Result.{IfOk-weaker}
use Rattle.clap.specs.Words.{App, Shape, app_of, new_app}
use Rattle.clap.specs.Simple.{app_of_fields, on_top}
use Rattle.mp_words.specs.Command.{bare, command_app, with_audit, with_others, with_runs}
use Rattle.mp_words.proofs.command.command.Goals as goal

pub returns : goal.returns
unfolding command_app
returns c =
    let first = ap app_of_fields c.disable_help_flag.ensures ∙ ap (on_top (λ (s : Shape). record s { disable_help_flag = true })) c.new.ensures.app in
    let second = ap app_of_fields c.disable_version_flag.ensures ∙ ap (on_top (λ (s : Shape). record s { disable_version_flag = true })) first in
    let third = ap app_of_fields c.disable_help_subcommand.ensures ∙ ap (on_top (λ (s : Shape). record s { disable_help_subcommand = true })) second in
    let top : app_of c.subcommand_required-program.result ≡ on_top bare (new_app (codes "megaphone")) =
    ap app_of_fields c.subcommand_required-program.ensures ∙ ap (on_top (λ (s : Shape). record s { subcommand_required = true })) third in
    IfOk-weaker c.with_commands.result _ _ (λ whole made. made ∙ ap (λ (a : App). with_audit (with_others (with_runs a))) top) c.with_commands.ensures
