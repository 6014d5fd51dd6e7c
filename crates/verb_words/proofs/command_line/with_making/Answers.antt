use Rattle.std.proofs.Common.{ap, ap₂, ◌≡◌, ◌∙◌}
use Rattle.std.proofs.lemmas.Result.{IfOk-weaker}
use Rattle.clap.specs.Simple.{App, app_of}
use Rattle.verb_words.specs.Words.{with_verb, table_app, scenario_app, build_app, check_app}
use Rattle.verb_words.proofs.command_line.with_making.Goals as goal

pub returns : goal.returns
returns c =
    let with_table : app_of c.in_ok-program.program ≡ with_verb (app_of c.args.program) table_app = c.in_ok-program.ensures ∙ ap (λ (verb : App). with_verb (app_of c.args.program) verb) c.in_ok-table.ensures in
    let with_scenario : app_of c.in_ok-program-2.program ≡ with_verb (with_verb (app_of c.args.program) table_app) scenario_app = c.in_ok-program-2.ensures ∙ ap₂ with_verb with_table c.in_ok-scenario.ensures in
    let with_build : app_of c.in_ok-program-3.program ≡ with_verb (with_verb (with_verb (app_of c.args.program) table_app) scenario_app) build_app = c.in_ok-program-3.ensures ∙ ap₂ with_verb with_scenario c.in_ok-build.ensures in
    let with_check : app_of c.in_ok-program-4.program ≡ with_verb (with_verb (with_verb (with_verb (app_of c.args.program) table_app) scenario_app) build_app) check_app = c.in_ok-program-4.ensures ∙ ap₂ with_verb with_build c.in_ok-check.ensures in
    IfOk-weaker c.with_verb-5.result _ _ (λ command added. added ∙ ap₂ with_verb with_check c.in_ok-show.ensures) c.with_verb-5.ensures
