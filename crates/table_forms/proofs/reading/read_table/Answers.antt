use Rattle.table_forms.proofs.TakenLemmas.{texts_are_taken, said_taken}
use Rattle.table_forms.proofs.reading.read_table.Goals as goal

pub returns-in-None-clause-accepted : goal.returns-in-None-clause-accepted
returns-in-None-clause-accepted c =
    texts_are_taken c.args.forms.now c.args.text.now _ (said_taken c.args.forms.now c.args.text.now _ _ _ c.in-Ok.ensures c.deref.ensures.value c.find_refusal.ensures c.in-None.is)
