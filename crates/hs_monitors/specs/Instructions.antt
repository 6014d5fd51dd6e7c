-- What Health and Safety's commands ask for.
use Rattle.std.specs.Prelude.{ℕ, ◌==◌, true, false, if◌then◌else◌, List}
use Rattle.packet_forms.specs.MessageIds.{hs_command, hs_request}
use Rattle.packet_forms.specs.Numbers.{be16_at}
use Rattle.commands.specs.Verdicts.{Language}
use Rattle.hs_actions.specs.Messages.{hs_name}
use Rattle.hs_monitors.specs.Messages.{hs_codes}
use Rattle.hs_monitors.specs.declared.instructions.Instruction.{Instruction}
use Rattle.hs_monitors.specs.declared.instructions.Instruction.TheVariants.{Plain, Monitor, Listen, Clear, Limit}

-- What a command of this code asks for with this payload: code 9 has the maximum of resets.
unfoldable pub instruction_of : ℕ → List ℕ → Instruction
instruction_of code payload =
    if code == 2 then Monitor true
    else if code == 3 then Monitor false
    else if code == 4 then Listen true
    else if code == 5 then Listen false
    else if code == 8 then Clear
    else if code == 9 then Limit (be16_at payload 0)
    else Plain

-- Health and Safety's commands.
abbrev pub hs_language : Language Instruction
hs_language = record { name = hs_name; command_id = hs_command; request_id = hs_request; codes = hs_codes; decode = instruction_of }
