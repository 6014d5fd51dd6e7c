use Rattle.std.proofs.Common.{◌∙◌, sym}
use Rattle.table_forms.proofs.NameLemmas.{said_called, called_found, called_passed, called_none, said_known}
use Rattle.table_forms.proofs.names.table_kind.Goals as goal

pub loop-table-init : goal.loop-table-init
loop-table-init c = said_called _ _ c.table_names-names.ensures

pub returns-then-eq-clause-kind : goal.returns-then-eq-clause-kind
returns-then-eq-clause-kind c = sym (c.loop-table.invariant ∙ called_found _ _ _ _ _ c.loop-table-test.true c.as_bytes.ensures.value c.if-eq.ensures)

pub loop-table-preserved : goal.loop-table-preserved
loop-table-preserved c = c.loop-table.invariant ∙ called_passed _ _ _ _ _ c.loop-table-test.true c.as_bytes.ensures.value c.if-eq.ensures

pub returns-clause-kind : goal.returns-clause-kind
returns-clause-kind c = sym (c.loop-table.invariant ∙ called_none _ _ _ c.loop-table-test.false)

pub returns-then-eq-clause-known : goal.returns-then-eq-clause-known
returns-then-eq-clause-known c = (said_known _ _ (c.loop-table.invariant ∙ called_found _ _ _ _ _ c.loop-table-test.true c.as_bytes.ensures.value c.if-eq.ensures)).0
