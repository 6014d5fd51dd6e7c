use Rattle.table_files.proofs.Accepted.{long}
use Rattle.load_texts.proofs.showing.show_load.Goals as goal

pub show_first-requires-clause-long : goal.show_first-requires-clause-long
show_first-requires-clause-long c = long c.args.file.now c.requires.well
