-- What Stored Command's commands ask for.
use Rattle.std.specs.Prelude.{ℕ, ◌==◌, if◌then◌else◌, List}
use Rattle.packet_forms.specs.MessageIds.{sc_command, sc_request}
use Rattle.packet_forms.specs.Numbers.{be16_at, be32_at}
use Rattle.commands.specs.Verdicts.{Language}
use Rattle.sc_sequences.specs.Messages.{sc_name, sc_codes}
use Rattle.sc_sequences.specs.declared.instructions.Instruction.{Instruction}
use Rattle.sc_sequences.specs.declared.instructions.Instruction.TheVariants.{Plain, StartAts, StopAts, StartRts, StopRts, DisableRts, EnableRts, SwitchAts, JumpAts}

-- What a command of this code asks for with this payload: codes 2 and 4 to 7 have the number of a sequence, code 9 a time.
unfoldable pub instruction_of : ℕ → List ℕ → Instruction
instruction_of code payload =
    if code == 2 then StartAts (be16_at payload 0)
    else if code == 3 then StopAts
    else if code == 4 then StartRts (be16_at payload 0)
    else if code == 5 then StopRts (be16_at payload 0)
    else if code == 6 then DisableRts (be16_at payload 0)
    else if code == 7 then EnableRts (be16_at payload 0)
    else if code == 8 then SwitchAts
    else if code == 9 then JumpAts (be32_at payload 0)
    else Plain

-- Stored Command's commands.
abbrev pub sc_language : Language Instruction
sc_language = record { name = sc_name; command_id = sc_command; request_id = sc_request; codes = sc_codes; decode = instruction_of }
