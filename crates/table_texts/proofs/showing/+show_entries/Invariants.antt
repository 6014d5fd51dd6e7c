use Rattle.table_texts.proofs.showing.+show_entries.Given as goal

abbrev pub decreases-show_entries : goal.decreases-show_entries
decreases-show_entries l = l.count
