use Rattle.std.proofs.Common.{refl}
use Rattle.load_books.specs.Contents.{place_of, all_added}
use Rattle.load_books.proofs.laws.worked_faults.Goals as goal

pub returns-clause-kind : goal.returns-clause-kind
unfolding place_of all_added
returns-clause-kind c = refl

pub returns-clause-extra : goal.returns-clause-extra
unfolding place_of all_added
returns-clause-extra c = refl

pub returns-clause-name : goal.returns-clause-name
unfolding place_of all_added
returns-clause-name c = refl

pub returns-clause-twice : goal.returns-clause-twice
unfolding place_of all_added
returns-clause-twice c = refl

pub returns-clause-plans : goal.returns-clause-plans
unfolding place_of all_added
returns-clause-plans c = refl
