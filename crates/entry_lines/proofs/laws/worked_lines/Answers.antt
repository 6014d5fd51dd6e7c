use Rattle.std.proofs.Common.{refl}
use Rattle.row_forms.specs.Words.{words, digits, number}
use Rattle.row_forms.specs.Rows.{behind_key}
use Rattle.table_texts.specs.Lines.{lines_of, kept}
use Rattle.entry_lines.specs.Words.{entry_said_in, command_said_in}
use Rattle.entry_lines.specs.Found.{line_saying, line_of_command, line_of_entry}
use Rattle.entry_lines.specs.Worked.{dwell_text, sequence_text}
use Rattle.entry_lines.proofs.laws.worked_lines.Goals as goal

pub returns-clause-entries : goal.returns-clause-entries
unfolding words digits number lines_of kept entry_said_in line_saying line_of_entry dwell_text
returns-clause-entries c = refl

pub returns-clause-behind : goal.returns-clause-behind
unfolding words digits number lines_of kept entry_said_in line_saying dwell_text
returns-clause-behind c = refl

pub returns-clause-places : goal.returns-clause-places
unfolding words digits number lines_of kept line_of_command line_of_entry sequence_text
returns-clause-places c = refl

pub returns-clause-numbers : goal.returns-clause-numbers
unfolding words digits number behind_key lines_of kept command_said_in line_saying sequence_text
returns-clause-numbers c = refl
