-- A made-up application for worked rows: a machine that code 2 starts where it doesn't run, and code 3 stops where it runs.
use Rattle.std.specs.Prelude.{ℕ, Bool, true, false, not, ◌==◌, ◌&&◌, if◌then◌else◌, List, [], ◌∷◌, filter_map, Option, Some, None, codes}
use Rattle.histories.specs.Words.{last_or}
use Rattle.histories.specs.Masks.{bits_of}
use Rattle.packet_forms.specs.Names.{name_of}
use Rattle.packet_forms.specs.Built.{telemetry_of}
use Rattle.commands.specs.Rows.{code_row}
use Rattle.commands.specs.Verdicts.{Language, Protocol, protocol_of}
use Rattle.commands.specs.Answering.{Answers}
use Rattle.commands.specs.declared.verdicts.CodeRow.{CodeRow}
use Rattle.commands.specs.declared.verdicts.Verdict.{Verdict}

unfoldable pub machine_name : List ℕ
machine_name = name_of (codes "MM")

unfoldable pub machine_codes : List CodeRow
machine_codes = code_row 0 0 0 ∷ code_row 1 0 0 ∷ code_row 2 0 0 ∷ code_row 3 0 0 ∷ code_row 4 7 206 ∷ []

-- What a command asks for is its code.
abbrev pub machine_language : Language ℕ
machine_language = record { name = machine_name; command_id = 0x1888; request_id = 0x1889; codes = machine_codes; decode = λ code payload. code }

-- Whether the machine runs, which did so or didn't before these orders.
abbrev pub switch_in : ℕ → Option Bool
switch_in code = if code == 2 then Some true else if code == 3 then Some false else None

unfoldable pub runs_after : Bool → List ℕ → Bool
runs_after ran orders = last_or ran (filter_map switch_in orders)

-- 5 it runs already, 6 it doesn't run.
abbrev pub machine_refuses : Bool → List ℕ → ℕ → Option ℕ
machine_refuses ran orders code =
    if (code == 2) && runs_after ran orders then Some 5
    else if (code == 3) && not (runs_after ran orders) then Some 6
    else None

abbrev pub machine_protocol : Protocol Bool ℕ ℕ
machine_protocol = protocol_of machine_language (λ reason. reason) machine_refuses

-- A wakeup: its time, whether the machine ran before it, and the verdicts before it.
pub record Turn : Type 0 where
  pub time : ℕ
  pub ran : Bool
  pub earlier : List (Verdict ℕ)

-- Housekeeping tells whether the machine runs; no command has a packet of its own.
abbrev pub machine_answers : Answers Turn ℕ
machine_answers = record {
  time = λ turn. turn.time;
  earlier = λ turn. turn.earlier;
  housekeeping = λ turn counts orders. telemetry_of 0x0887 turn.time (counts.accepted ∷ counts.errors ∷ bits_of (runs_after turn.ran orders ∷ []) ∷ []);
  replies = λ turn orders code. [];
}
