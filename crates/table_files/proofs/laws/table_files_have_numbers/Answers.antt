use Rattle.table_files.proofs.Lists.{numbers_of_tables}
use Rattle.table_files.proofs.laws.table_files_have_numbers.Goals as goal

pub returns : goal.returns
returns c = numbers_of_tables
