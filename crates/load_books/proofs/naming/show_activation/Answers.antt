use Rattle.load_books.proofs.NamingLemmas.{activate_none, activate_named, activate_fault}
use Rattle.load_books.proofs.naming.show_activation.Goals as goal

pub returns-in_default : goal.returns-in_default
returns-in_default c = activate_none _ _ _ c.in_default.ensures.words c.plain_line.ensures

pub returns-in-Ok : goal.returns-in-Ok
returns-in-Ok c = activate_named _ _ _ c.in-Some.word.now c.in-Ok.number c.in-Some.ensures.words c.in-Ok.ensures

pub returns-in-Err : goal.returns-in-Err
returns-in-Err c = activate_fault _ _ _ c.in-Some.word.now c.in-Err.reason c.in-Some.ensures.words c.in-Err.ensures
