use Rattle.std.proofs.Common.{refl}
use Rattle.std.specs.Fmt.{digits as written}
use Rattle.row_forms.specs.Words.{words}
use Rattle.row_forms.specs.Rows.{behind_key, spaced}
use Rattle.load_books.specs.Cuts.{bare}
use Rattle.load_books.specs.Contents.{place_of}
use Rattle.load_books.specs.Naming.{plan_said}
use Rattle.load_books.specs.Worked.{files}
use Rattle.load_books.proofs.laws.worked_plan.Goals as goal

pub returns-clause-text : goal.returns-clause-text
unfolding written words behind_key spaced bare place_of plan_said files
returns-clause-text c = refl

pub returns-clause-fault : goal.returns-clause-fault
unfolding written words behind_key spaced bare place_of plan_said files
returns-clause-fault c = refl
