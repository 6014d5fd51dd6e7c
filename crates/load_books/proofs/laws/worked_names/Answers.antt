use Rattle.std.proofs.Common.{refl}
use Rattle.std.specs.Fmt.{digits as written}
use Rattle.row_forms.specs.Rows.{behind_key}
use Rattle.load_books.specs.Contents.{place_of}
use Rattle.load_books.specs.Worked.{files}
use Rattle.load_books.proofs.laws.worked_names.Goals as goal

pub returns-clause-table : goal.returns-clause-table
unfolding written behind_key place_of files
returns-clause-table c = refl

pub returns-clause-load : goal.returns-clause-load
unfolding written behind_key place_of files
returns-clause-load c = refl

pub returns-clause-number : goal.returns-clause-number
unfolding written behind_key place_of files
returns-clause-number c = refl

pub returns-clause-other : goal.returns-clause-other
unfolding written behind_key place_of files
returns-clause-other c = refl

pub returns-clause-unknown : goal.returns-clause-unknown
unfolding written behind_key place_of files
returns-clause-unknown c = refl

pub returns-clause-activates : goal.returns-clause-activates
unfolding written behind_key place_of files
returns-clause-activates c = refl

pub returns-clause-loads : goal.returns-clause-loads
unfolding written behind_key place_of files
returns-clause-loads c = refl
