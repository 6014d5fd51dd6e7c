use Rattle.std.proofs.Common.{ap, ap₂, ◌≡◌, ◌∙◌}
use Rattle.std.proofs.lemmas.Result.{IfOk-weaker}
use Rattle.clap.specs.Simple.{App, app_of}
use Rattle.verb_words.specs.Words.{with_verb, completions_app}
use Rattle.verb_words.proofs.command_line.with_pages.Goals as goal

pub returns : goal.returns
returns c =
    let names = c.in_ok-completions.ensures.0 in
    let with_completions : app_of c.in_ok-program.program ≡ with_verb (app_of c.args.program) (completions_app names) = c.in_ok-program.ensures ∙ ap (λ (verb : App). with_verb (app_of c.args.program) verb) c.in_ok-completions.ensures.1 in
    IfOk-weaker c.with_verb-2.result _ _ (λ command added. (names, added ∙ ap₂ with_verb with_completions c.in_ok-man.ensures)) c.with_verb-2.ensures
