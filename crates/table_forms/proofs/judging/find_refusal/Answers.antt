use Rattle.std.proofs.Common.{◌∙◌, sym}
use Rattle.table_forms.proofs.JudgingLemmas.{file_refused, load_taken, table_refused, table_taken, shown_table, shown_load}
use Rattle.table_forms.proofs.judging.find_refusal.Goals as goal

pub returns-in-Some : goal.returns-in-Some
returns-in-Some c =
    let is = shown_table _ _ _ _ c.in-Ok-Table.field-0-is c.in-Ok-Table.ensures.image in
    table_refused _ _ _ _ c.in-Ok-Table.ensures.fault is.kind_is is.payload_is (sym c.in-Some.is ∙ c.entry_fault.ensures)

pub returns-in-None : goal.returns-in-None
returns-in-None c =
    let is = shown_table _ _ _ _ c.in-Ok-Table.field-0-is c.in-Ok-Table.ensures.image in
    table_taken _ _ _ c.in-Ok-Table.ensures.fault is.kind_is is.payload_is (sym c.in-None.is ∙ c.entry_fault.ensures)

pub returns-in-Ok-Load : goal.returns-in-Ok-Load
returns-in-Ok-Load c = load_taken _ c.in-Ok-Load.ensures.fault (shown_load _ _ _ _ c.in-Ok-Load.field-0-is c.in-Ok-Load.ensures.image).kind_is

pub returns-in-Err : goal.returns-in-Err
returns-in-Err c = file_refused _ _ c.in-Err.ensures.fault
