use Rattle.std.proofs.Common.{◌++◌, List, sym, ap, ◌∙◌, append-nil}
use Rattle.table_warnings.specs.declared.warning.Warning.{Warning}
use Rattle.table_warnings.proofs.WarnedLemmas.{no_absolute}
use Rattle.table_warnings.proofs.finding.warn_of_absolute.Goals as goal

pub returns-in-Err : goal.returns-in-Err
returns-in-Err c = sym (ap (λ (ws : List Warning). c.args.warnings.now.items ++ ws) (no_absolute c.args.payload.now c.in-Err.field-0 c.in-Err.ensures.fault) ∙ append-nil c.args.warnings.now.items)
