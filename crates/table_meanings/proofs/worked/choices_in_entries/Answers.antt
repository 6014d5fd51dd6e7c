use Rattle.std.proofs.Common.{refl}
use Rattle.std.specs.Fmt.{digits as written}
use Rattle.table_forms.specs.Layouts.{operators, steps}
use Rattle.table_meanings.proofs.worked.choices_in_entries.Goals as goal

pub returns-clause-operators : goal.returns-clause-operators
unfolding operators
returns-clause-operators c = refl

pub returns-clause-compared : goal.returns-clause-compared
unfolding operators
returns-clause-compared c = refl

pub returns-clause-steps : goal.returns-clause-steps
unfolding written steps
returns-clause-steps c = refl

pub returns-clause-worked : goal.returns-clause-worked
unfolding steps
returns-clause-worked c = refl
