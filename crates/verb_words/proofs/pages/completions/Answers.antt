use Rattle.std.proofs.Common.{rules, codes, ap₂, ◌≡◌, ◌∙◌}
use Rattle.std.proofs.lemmas.Result.{IfOk-weaker}
use Rattle.clap.specs.Walk.{rule_of}
use Rattle.clap.specs.Simple.{app_of, new_app, with_rule}
use Rattle.verb_words.specs.Words.{output_rule, shell_rule}
use Rattle.verb_words.proofs.pages.completions.Goals as goal

pub returns : goal.returns
returns c =
    let names = c.value_parser-shell.result.value_parser in
    let shell_is : rule_of c.value_parser-shell.result ≡ shell_rule names = search rules in
    let bare_is : app_of c.about.result ≡ new_app (codes "completions") = search rules in
    let output_is : app_of c.in_ok-arg.field-0 ≡ with_rule (new_app (codes "completions")) output_rule = c.in_ok-arg.ensures.shape (search rules) ∙ ap₂ with_rule bare_is c.output.ensures.rule in
    IfOk-weaker c.arg-2.result _ _ (λ command added. (names, added.shape (search rules) ∙ ap₂ with_rule output_is shell_is)) c.arg-2.ensures
