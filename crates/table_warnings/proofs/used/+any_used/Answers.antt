use Rattle.std.proofs.Common.{sym, arith}
use Rattle.table_warnings.proofs.WarningLemmas.{none_used, used_here, used_later}
use Rattle.table_warnings.proofs.used.+any_used.Goals as goal

pub returns-then-count-eq0 : goal.returns-then-count-eq0
returns-then-count-eq0 t c = none_used c.args.kind c.args.payload.now c.args.from c.args.count c.if-count-eq0.true

pub returns-then-is_used : goal.returns-then-is_used
returns-then-is_used t c = used_here c.args.kind c.args.payload.now c.args.from c.args.count (omega arith) (sym c.if-is_used.ensures)

pub returns : goal.returns
returns t c = used_later c.args.kind c.args.payload.now c.args.from c.args.count c.any_used.result (omega arith) (sym c.if-is_used.ensures) c.any_used.ensures
