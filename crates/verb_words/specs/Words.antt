-- The command line of groundkit: its verbs, and the words of each.
use Rattle.std.specs.Prelude.{true, Option, Some, pos, codes}
use Rattle.clap.specs.Walk.{Rule, Text}
use Rattle.clap.specs.Simple.{App, Shape, new_app, new_rule, with_rule, with_subcommand}
use Rattle.clap.specs.declared.builder.action.ArgAction.TheVariants as actions
use Rattle.clap.specs.declared.builder.value_parser.ValueParser.{ValueParser}
use Rattle.clap.specs.declared.builder.value_parser.ValueParser.TheVariants as parsers

-- an option `--NAME VALUE`
abbrev pub option_rule : Text → Rule
option_rule name = record (new_rule name) { long = Some name; value_names = 1 }

-- a flag `--NAME`
abbrev pub flag_rule : Text → Rule
flag_rule name = record (new_rule name) { long = Some name; action = Some actions.SetTrue }

-- a word that has to stand there
abbrev pub word_rule : Text → Rule
word_rule name = record (new_rule name) { value_names = 1; required = true }

-- `--epoch SECONDS`
abbrev pub epoch_rule : Rule
epoch_rule = record (option_rule (codes "epoch")) { parser = Some (parsers.Signed (pos 0) (pos 4294967295)) }

-- `-o FILE`
abbrev pub output_rule : Rule
output_rule = record (option_rule (codes "output")) { short = Some 111 }

-- the FILEs
abbrev pub files_rule : Rule
files_rule = record (new_rule (codes "files")) { value_names = 1; action = Some actions.Append }

-- the FILEs of a verb that wants some
abbrev pub some_files_rule : Rule
some_files_rule = record files_rule { required = true }

-- `--allow WHAT`, as often as one likes
abbrev pub allow_rule : Rule
allow_rule = record (option_rule (codes "allow")) { action = Some actions.Append }

-- SHELL, one of some names
abbrev pub shell_rule : Option ValueParser → Rule
shell_rule names = record (word_rule (codes "shell")) { parser = names }

-- the words of the verbs that make something of one input
abbrev pub table_app : App
table_app = with_rule (with_rule (with_rule (new_app (codes "table")) epoch_rule) output_rule) (word_rule (codes "input"))

abbrev pub scenario_app : App
scenario_app = with_rule (with_rule (new_app (codes "scenario")) output_rule) (word_rule (codes "input"))

abbrev pub build_app : App
build_app = with_rule (with_rule (new_app (codes "build")) output_rule) (word_rule (codes "input"))

-- of those that look at files
abbrev pub check_app : App
check_app = with_rule (with_rule (new_app (codes "check")) (option_rule (codes "map"))) some_files_rule

abbrev pub show_app : App
show_app = with_rule (with_rule (with_rule (new_app (codes "show")) epoch_rule) output_rule) some_files_rule

-- of the one that rehearses
abbrev pub run_options_app : App
run_options_app = with_rule (with_rule (with_rule (with_rule (new_app (codes "run")) (option_rule (codes "workers")))
    (flag_rule (codes "subjects"))) (flag_rule (codes "no-inputs"))) epoch_rule

abbrev pub run_outputs_app : App
run_outputs_app = with_rule (with_rule run_options_app (option_rule (codes "log"))) output_rule

abbrev pub run_judged_app : App
run_judged_app = with_rule (with_rule run_outputs_app (flag_rule (codes "strict"))) allow_rule

abbrev pub run_app : App
run_app = with_rule (with_rule run_judged_app (word_rule (codes "scenario"))) files_rule

-- of those that make something of a log
abbrev pub words_app : App
words_app = with_rule (with_rule (with_rule (new_app (codes "words")) epoch_rule) output_rule) (word_rule (codes "input"))

abbrev pub csv_app : App
csv_app = with_rule (with_rule (new_app (codes "csv")) output_rule) (word_rule (codes "input"))

abbrev pub pcap_app : App
pcap_app = with_rule (with_rule (with_rule (new_app (codes "pcap")) (record epoch_rule { required = true })) output_rule) (word_rule (codes "input"))

abbrev pub diff_app : App
diff_app = with_rule (with_rule (with_rule (with_rule (new_app (codes "diff")) epoch_rule) output_rule) (word_rule (codes "one"))) (word_rule (codes "other"))

-- of those that describe the command line
abbrev pub completions_app : Option ValueParser → App
completions_app names = with_rule (with_rule (new_app (codes "completions")) output_rule) (shell_rule names)

abbrev pub man_app : App
man_app = with_rule (new_app (codes "man")) output_rule

-- a command line with one verb more
unfoldable pub with_verb : App → App → App
with_verb program verb = with_subcommand program verb.top

abbrev pub with_making : App → App
with_making program = with_verb (with_verb (with_verb (with_verb (with_verb program table_app) scenario_app) build_app) check_app) show_app

abbrev pub with_logs : App → App
with_logs program = with_verb (with_verb (with_verb (with_verb (with_verb program run_app) words_app) csv_app) pcap_app) diff_app

abbrev pub with_pages : Option ValueParser → App → App
with_pages names program = with_verb (with_verb program (completions_app names)) man_app

-- the program without its verbs: it has a version, and wants a verb
abbrev pub bare_top : Shape
bare_top = record (new_app (codes "groundkit")).top { has_version = true; subcommand_required = true; arg_required_else_help = true }

abbrev pub bare_app : App
bare_app = record (new_app (codes "groundkit")) { top = bare_top }

-- the command line, by the names of the shells
abbrev pub groundkit_app : Option ValueParser → App
groundkit_app names = with_pages names (with_logs (with_making bare_app))
