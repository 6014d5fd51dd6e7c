use Rattle.std.proofs.Common.{true, false}
use Rattle.ground_files.specs.declared.verb_status.Status.TheVariants as statuses
use Rattle.ground_exports.proofs.ExportLemmas.{export_ends}
use Rattle.ground_exports.proofs.exporting.export_log.Goals as goal

pub returns-in-Ok-true : goal.returns-in-Ok-true
returns-in-Ok-true g c = λ before told.
    export_ends c.write_export-made.result c.settle-settled.result c.args.asked.now c.in-Ok-true.field-0 true c.is_ok.result statuses.Done c.status_made.result
    before _ _ _ _ _ _ (λ now made. made) c.in-Ok-true.is c.in-Ok-true.field-0-test c.is_ok.ensures.value told c.in-Ok.ensures.held c.write_export-made.ensures.held
    c.in-Ok.ensures.empty c.write_export-made.ensures.made c.settle-settled.ensures.held c.settle-settled.ensures.dropped c.status_made.ensures

pub returns-in-Ok-false : goal.returns-in-Ok-false
returns-in-Ok-false g c = λ before told.
    export_ends c.write_export-made.result c.settle-settled.result c.args.asked.now c.in-Ok-false.field-0 false c.is_ok.result statuses.FileRefused
    c.status_made-in-Ok-false.result before _ _ _ _ _ _ (λ now made. made) c.in-Ok-false.is c.in-Ok-false.field-0-test c.is_ok.ensures.value told
    c.in-Ok.ensures.held c.write_export-made.ensures.held c.in-Ok.ensures.empty c.write_export-made.ensures.made c.settle-settled.ensures.held
    c.settle-settled.ensures.dropped c.status_made-in-Ok-false.ensures

pub returns-then-replaces : goal.returns-then-replaces
returns-then-replaces g c = λ before is. record { over = c.replaces.ensures c.if-replaces.true before is; same = is }
