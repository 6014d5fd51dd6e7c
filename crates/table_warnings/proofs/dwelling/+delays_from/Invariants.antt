use Rattle.table_warnings.proofs.dwelling.+delays_from.Given as goal

abbrev pub decreases-delays_from : goal.decreases-delays_from
decreases-delays_from l = l.left
