use Rattle.std.proofs.Common.{◌<◌, ◌≤◌, length, arith}
use Rattle.std.proofs.lemmas.Result.{IfOk-weaker}
use Rattle.table_forms.proofs.JudgingLemmas.{shown_load}
use Rattle.ground_checks.proofs.FoundLemmas.{long_first, table_first, load_first, error_first}
use Rattle.ground_checks.proofs.finding.find_faults.Goals as goal

pub returns-then-file-gt-MOST_BYTES : goal.returns-then-file-gt-MOST_BYTES
returns-then-file-gt-MOST_BYTES c =
    let long : 65700 < length c.args.file.now = omega (arith, c.if-file-gt-MOST_BYTES.true) in
    IfOk-weaker c.one_fault.result _ _ (λ found is. long_first _ c.args.file.now found.items long is) c.one_fault.ensures

pub returns-in-Ok-Table : goal.returns-in-Ok-Table
returns-in-Ok-Table c =
    let short : length c.args.file.now ≤ 65700 = omega (arith, c.if-file-gt-MOST_BYTES.false) in
    IfOk-weaker c.table_faults.result _ _ (λ found is. table_first _ c.args.file.now found.items short c.in-Ok-Table.ensures.fault is) c.table_faults.ensures

pub returns-in-Ok-Load : goal.returns-in-Ok-Load
returns-in-Ok-Load c =
    let short : length c.args.file.now ≤ 65700 = omega (arith, c.if-file-gt-MOST_BYTES.false) in
    load_first _ c.args.file.now c.new.result.items short c.in-Ok-Load.ensures.fault (shown_load _ _ _ _ c.in-Ok-Load.field-0-is c.in-Ok-Load.ensures.image).kind_is c.new.ensures.items

pub returns-in-Err : goal.returns-in-Err
returns-in-Err c =
    let short : length c.args.file.now ≤ 65700 = omega (arith, c.if-file-gt-MOST_BYTES.false) in
    IfOk-weaker c.one_fault-in-Err.result _ _ (λ found is. error_first _ c.args.file.now found.items c.in-Err.fault short c.in-Err.ensures.fault is) c.one_fault-in-Err.ensures
