use Rattle.ground_differences.proofs.DifferenceLemmas.{told_ends, said_ends}
use Rattle.ground_differences.proofs.comparing.write_differences.Goals as goal

pub returns-in-Ok-compared-clause-told : goal.returns-in-Ok-compared-clause-told
returns-in-Ok-compared-clause-told g c = λ now told.
    told_ends c.compare-compared.result c.settle-settled.result c.args.pair.now.output.now c.in-Ok-compared.compared c.is_ok.result
    c.in-Ok-compared.compared.is_whole c.in-Ok-compared.compared.found.first c.tell_found-status.result c.status_made.result now _ _ _ _ _
    c.in-Ok-compared.is c.is_ok.ensures.value c.tell_found-status.ensures told c.in-Ok.ensures.held c.in-Ok.ensures.empty
    c.compare-compared.ensures.written c.settle-settled.ensures.held c.settle-settled.ensures.dropped c.status_made.ensures

pub returns-in-Ok-compared-clause-found : goal.returns-in-Ok-compared-clause-found
returns-in-Ok-compared-clause-found g c = λ text text_other is is_other.
    said_ends c.compare-compared.result c.settle-settled.result c.in-Ok-compared.compared c.tell_found-status.result c.status_made.result _ _ text text_other
    c.in-Ok-compared.is c.tell_found-status.ensures is is_other c.compare-compared.ensures.found c.status_made.ensures
