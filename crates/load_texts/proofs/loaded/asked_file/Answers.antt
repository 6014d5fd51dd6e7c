use Rattle.std.proofs.Common.{◌∙◌, ap}
use Rattle.load_texts.specs.Loaded.{named_on}
use Rattle.load_texts.proofs.LoadedLemmas.{asked_none, asked_one, asked_two}
use Rattle.load_texts.proofs.loaded.asked_file.Goals as goal

pub returns-in_default : goal.returns-in_default
returns-in_default c = asked_none c.args.text.now c.in_default.ensures.line

pub returns-in_default-next_line : goal.returns-in_default-next_line
returns-in_default-next_line c = asked_one c.args.text.now _ _ c.in-Some.ensures.line c.in_default-next_line.ensures.line

pub returns-in-Some-path_in : goal.returns-in-Some-path_in
returns-in-Some-path_in c = asked_two c.args.text.now _ _ _ _ c.in-Some.ensures.line c.in-Some-next_line.ensures.line ∙ ap (named_on c.in-Some-next_line.second.number) c.in-Some-path_in.ensures

pub returns-in-None : goal.returns-in-None
returns-in-None c = asked_two c.args.text.now _ _ _ _ c.in-Some.ensures.line c.in-Some-next_line.ensures.line ∙ ap (named_on c.in-Some-next_line.second.number) c.in-None.ensures
