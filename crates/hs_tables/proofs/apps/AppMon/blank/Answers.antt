use Rattle.std.proofs.Common.{◌≤◌, refl, arith}
use Rattle.std.proofs.lemmas.List.Elements.{All-replicate}
use Rattle.hs_tables.specs.Apps.{blank_row}
use Rattle.hs_tables.specs.declared.apps.AppRow.{AppRow}
use Rattle.hs_tables.proofs.apps.AppMon.blank.Goals as goal

pub invariant_of-result : goal.invariant_of-result
invariant_of-result c = (refl, All-replicate (λ (row : AppRow). row.action ≤ 11) 32 blank_row (omega arith))
