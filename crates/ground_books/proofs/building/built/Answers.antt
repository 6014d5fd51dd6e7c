use Rattle.ground_books.proofs.CauseLemmas.{unbuilt}
use Rattle.ground_books.proofs.building.built.Goals as goal

pub returns-in-Err-clause-refused : goal.returns-in-Err-clause-refused
returns-in-Err-clause-refused c =
    unbuilt c.in-Err.error c.from.result c.book_forms.result c.args.text.now c.book_forms.ensures.listed_commands c.book_forms.ensures.listed_layouts c.book_forms.ensures.listed_fields c.in-Err.ensures c.from.ensures
