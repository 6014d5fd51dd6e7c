use Rattle.load_books.proofs.NamingLemmas.{load_none, load_plain, load_named, load_fault}
use Rattle.load_books.proofs.naming.show_loading.Goals as goal

pub returns-in_default : goal.returns-in_default
returns-in_default c = load_none _ _ _ c.in_default.ensures.words c.plain_line.ensures

pub returns-in_default-behind_key : goal.returns-in_default-behind_key
returns-in_default-behind_key c = load_plain _ _ _ c.in-Some.word.now c.in-Some.ensures.words c.in_default-behind_key.ensures

pub returns-in-Ok : goal.returns-in-Ok
returns-in-Ok c = load_named _ _ _ c.in-Some.word.now c.in-Some-behind_key.name.now c.in-Ok.number c.in-Some.ensures.words c.in-Some-behind_key.ensures c.in-Ok.ensures

pub returns-in-Err : goal.returns-in-Err
returns-in-Err c = load_fault _ _ _ c.in-Some.word.now c.in-Some-behind_key.name.now c.in-Err.reason c.in-Some.ensures.words c.in-Some-behind_key.ensures c.in-Err.ensures
