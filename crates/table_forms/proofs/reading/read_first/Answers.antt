use Rattle.table_forms.proofs.ReadingLemmas.{first_none, first_other, first_nameless, first_kind}
use Rattle.table_forms.proofs.reading.read_first.Goals as goal

pub returns-in_default-clause-said : goal.returns-in_default-clause-said
returns-in_default-clause-said c = first_none _ c.in_default.ensures.line

pub returns-in_default-behind_word-clause-said : goal.returns-in_default-behind_word-clause-said
returns-in_default-behind_word-clause-said c = first_other _ _ _ _ c.in-Some.ensures.line c.in_default-behind_word.ensures

pub returns-in_default-split_word-clause-said : goal.returns-in_default-split_word-clause-said
returns-in_default-split_word-clause-said c =
    first_nameless _ _ _ _ _ c.in-Some.ensures.line c.in-Some-behind_word.ensures.0 c.in-Some-behind_word.ensures.1 c.in_default-split_word.ensures.words

pub returns-in-Some-table_kind-clause-said : goal.returns-in-Some-table_kind-clause-said
returns-in-Some-table_kind-clause-said c =
    first_kind _ _ _ _ _ _ _ _ c.in-Some.ensures.line c.in-Some-behind_word.ensures.0 c.in-Some-behind_word.ensures.1 c.in-Some-split_word.ensures.words c.in-Some-table_kind.ensures.kind

pub returns-in-None-clause-said : goal.returns-in-None-clause-said
returns-in-None-clause-said c =
    first_kind _ _ _ _ _ _ _ _ c.in-Some.ensures.line c.in-Some-behind_word.ensures.0 c.in-Some-behind_word.ensures.1 c.in-Some-split_word.ensures.words c.in-None.ensures.kind
