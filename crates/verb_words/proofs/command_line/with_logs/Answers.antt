use Rattle.std.proofs.Common.{ap, ap₂, ◌≡◌, ◌∙◌}
use Rattle.std.proofs.lemmas.Result.{IfOk-weaker}
use Rattle.clap.specs.Simple.{App, app_of}
use Rattle.verb_words.specs.Words.{with_verb, run_app, words_app, csv_app, pcap_app}
use Rattle.verb_words.proofs.command_line.with_logs.Goals as goal

pub returns : goal.returns
returns c =
    let with_run : app_of c.in_ok-program.program ≡ with_verb (app_of c.args.program) run_app = c.in_ok-program.ensures ∙ ap (λ (verb : App). with_verb (app_of c.args.program) verb) c.in_ok-run.ensures in
    let with_words : app_of c.in_ok-program-2.program ≡ with_verb (with_verb (app_of c.args.program) run_app) words_app = c.in_ok-program-2.ensures ∙ ap₂ with_verb with_run c.in_ok-words.ensures in
    let with_csv : app_of c.in_ok-program-3.program ≡ with_verb (with_verb (with_verb (app_of c.args.program) run_app) words_app) csv_app = c.in_ok-program-3.ensures ∙ ap₂ with_verb with_words c.in_ok-csv.ensures in
    let with_pcap : app_of c.in_ok-program-4.program ≡ with_verb (with_verb (with_verb (with_verb (app_of c.args.program) run_app) words_app) csv_app) pcap_app = c.in_ok-program-4.ensures ∙ ap₂ with_verb with_csv c.in_ok-pcap.ensures in
    IfOk-weaker c.with_verb-5.result _ _ (λ command added. added ∙ ap₂ with_verb with_pcap c.in_ok-diff.ensures) c.with_verb-5.ensures
