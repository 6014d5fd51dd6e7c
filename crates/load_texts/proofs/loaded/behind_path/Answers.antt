use Rattle.std.proofs.Common.{ap, sym, ◌∙◌}
use Rattle.table_texts.specs.Endings.{behind_first}
use Rattle.load_texts.specs.Loaded.{path_said}
use Rattle.load_texts.proofs.loaded.behind_path.Goals as goal

pub returns-in-Some-behind_key : goal.returns-in-Some-behind_key
returns-in-Some-behind_key c =
    ((c.in-Some-behind_key.field-0.now, ap path_said c.in-Some.ensures.words ∙ c.in-Some-behind_key.ensures), sym (ap behind_first c.in-Some.ensures.words))
