-- What MD sends in a wakeup.
use Rattle.std.specs.Prelude.{ℕ, List, [], ◌∷◌, ◌++◌}
use Rattle.histories.specs.Entries.{wakeups}
use Rattle.histories.specs.Entries.Entry.{Woken}
use Rattle.bus_pipes.specs.declared.names.Out.{Out}
use Rattle.commands.specs.Inputs.{Wakeup, heard_of}
use Rattle.commands.specs.Answering.{Answers, command_items}
use Rattle.commands.specs.declared.verdicts.Verdict.{Verdict}
use Rattle.md_dwell.specs.Messages.{md_name}
use Rattle.md_dwell.specs.Tables.{DwellTable}
use Rattle.md_dwell.specs.Rounds.{dwell_at}
use Rattle.md_dwell.specs.Verdicts.{md_protocol}
use Rattle.md_dwell.specs.Orders.{Input, heard_at}
use Rattle.md_dwell.specs.Histories.{MdEntry, started_at, images_of}
use Rattle.md_dwell.specs.Answers.{dwell_items}
use Rattle.md_dwell.specs.Housekeeping.{entries_now, is_on, enabled_bits, housekeeping_of}
use Rattle.md_dwell.specs.declared.instructions.Instruction.{Instruction}

-- The verdicts on all packets of a history.
unfoldable pub md_heard : List MdEntry → List (Verdict Instruction)
md_heard history = heard_of md_protocol (λ earlier input. input.seen) (wakeups history)

-- A wakeup of MD, whose history began with these tables.
abbrev pub Turn : Type 0
Turn = Wakeup (List DwellTable) MdEntry Input

abbrev pub turn_of : List DwellTable → List MdEntry → Input → Turn
turn_of tables history input = record { setup = tables; history = history; input = input }

-- What MD answers: no command has a packet of its own.
abbrev pub md_answers : Answers Turn Instruction
md_answers = record {
  time = λ turn. turn.input.time;
  earlier = λ turn. md_heard turn.history;
  housekeeping = λ turn counts orders. housekeeping_of turn.input.time counts (enabled_bits turn.setup turn.history orders);
  replies = λ turn orders instruction. [];
}

-- What table n gives in the wakeup with which a history ends.
unfoldable pub table_items : List DwellTable → List MdEntry → ℕ → ℕ → List Out
table_items tables history time n = dwell_items time n (dwell_at (is_on tables history [] n) (entries_now tables history [] n) (started_at n history) (images_of history))

-- What MD sends in a wakeup, by the tables with which its history began, the history and its input: the items of its commands, and then the
-- dwell packets, table 1 first.
unfoldable pub md_items : List DwellTable → List MdEntry → Input → List Out
md_items tables history input =
    command_items md_answers md_name (turn_of tables history input) (heard_at input)
    ++ (table_items tables (history ++ Woken input ∷ []) input.time 1 ++ table_items tables (history ++ Woken input ∷ []) input.time 2
    ++ table_items tables (history ++ Woken input ∷ []) input.time 3 ++ table_items tables (history ++ Woken input ∷ []) input.time 4)
