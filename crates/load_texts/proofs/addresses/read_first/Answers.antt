use Rattle.std.proofs.Common.{ap, sym, ◌∙◌}
use Rattle.std.specs.Prelude.{Err}
use Rattle.load_texts.specs.declared.fault.LoadFault.{LoadFault}
use Rattle.load_texts.proofs.AddressLemmas.{first_none, first_other, first_missing, first_address}
use Rattle.load_texts.proofs.addresses.read_first.Goals as goal

pub returns-in_default-clause-said : goal.returns-in_default-clause-said
returns-in_default-clause-said c = first_none _ c.in_default.ensures.line

pub returns-in_default-behind_word-clause-said : goal.returns-in_default-behind_word-clause-said
returns-in_default-behind_word-clause-said c = first_other _ _ _ _ c.in-Some.ensures.line c.in_default-behind_word.ensures

pub returns-in_default-split_word-clause-said : goal.returns-in_default-split_word-clause-said
returns-in_default-split_word-clause-said c =
    first_missing _ _ _ _ _ c.in-Some.ensures.line c.in-Some-behind_word.ensures.0 c.in-Some-behind_word.ensures.1 c.in_default-split_word.ensures.words
    ∙ ap (λ (f : LoadFault). Err f) (sym c.address_fault.ensures)

pub returns-in-Ok-clause-said : goal.returns-in-Ok-clause-said
returns-in-Ok-clause-said c =
    first_address _ _ _ _ _ _ _ _ c.in-Some.ensures.line c.in-Some-behind_word.ensures.0 c.in-Some-behind_word.ensures.1 c.in-Some-split_word.ensures.words c.in-Ok.ensures

pub returns-in-Err-clause-said : goal.returns-in-Err-clause-said
returns-in-Err-clause-said c =
    first_address _ _ _ _ _ _ _ _ c.in-Some.ensures.line c.in-Some-behind_word.ensures.0 c.in-Some-behind_word.ensures.1 c.in-Some-split_word.ensures.words c.in-Err.ensures
    ∙ ap (λ (f : LoadFault). Err f) (sym c.address_fault-in-Err.ensures)
