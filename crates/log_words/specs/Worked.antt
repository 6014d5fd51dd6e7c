-- Words of lines that are written out.
use Rattle.std.specs.Prelude.{ℕ, List, Option, Result, Ok, Err}
use Rattle.telecommands.specs.Dictionary.{dictionary as command_dictionary}
use Rattle.telemetry.specs.Dictionary.{dictionary as telemetry_dictionary}
use Rattle.events.specs.Tables.{event_table}
use Rattle.std.proofs.Common.{Bor}
use Rattle.log_lines.specs.Lines.{line_said}
use Rattle.log_lines.specs.declared.fault.LineFault.{LineFault}
use Rattle.log_lines.specs.declared.line.LogLine.{LogLine}
use Rattle.log_words.specs.declared.vocabulary.Vocabulary.{Vocabulary}
use Rattle.log_words.specs.Sentences.{sentence_of}

-- a reference to rows, wherever they lie
abbrev pub at_any_place : {A : Type 0} → A → Bor A
at_any_place rows = record { ref_ptr = (0, 0); now = rows }

-- the rows of the applications
abbrev pub own_words : Vocabulary
own_words = record { commands = at_any_place command_dictionary; telemetry = at_any_place telemetry_dictionary; events = at_any_place event_table }

abbrev pub said_by : Option ℕ → Result LogLine LineFault → Result (List ℕ) LineFault
said_by epoch (Ok line) = Ok (sentence_of own_words epoch line)
said_by epoch (Err fault) = Err fault

-- the sentence of a line that is written out
abbrev pub sentence : Option ℕ → List ℕ → Result (List ℕ) LineFault
sentence epoch bytes = said_by epoch (line_said bytes)
