use Rattle.table_warnings.proofs.used.+any_used.Given as goal

abbrev pub decreases-any_used : goal.decreases-any_used
decreases-any_used l = l.count
