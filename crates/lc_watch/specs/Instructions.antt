-- What LC's commands ask for.
use Rattle.std.specs.Prelude.{ℕ, ◌==◌, ◌≤◌, true, false, if◌then◌else◌, List}
use Rattle.packet_forms.specs.MessageIds.{lc_command, lc_request}
use Rattle.packet_forms.specs.Numbers.{be16_at}
use Rattle.commands.specs.Verdicts.{Language}
use Rattle.lc_watch.specs.Messages.{lc_name, lc_codes}
use Rattle.lc_watch.specs.declared.instructions.Instruction.{Instruction}
use Rattle.lc_watch.specs.declared.instructions.Instruction.TheVariants.{Plain, Switch}

-- What a command of this code asks for with this payload: codes 2 and 3 have an actionpoint.
unfoldable pub instruction_of : ℕ → List ℕ → Instruction
instruction_of code payload =
    if code == 2 then Switch (be16_at payload 0) true
    else if code == 3 then Switch (be16_at payload 0) false
    else Plain

-- LC's commands.
abbrev pub lc_language : Language Instruction
lc_language = record { name = lc_name; command_id = lc_command; request_id = lc_request; codes = lc_codes; decode = instruction_of }

-- A switch names an actionpoint of the 16.
abbrev pub NamesPoint : Instruction → Type 0
NamesPoint Plain = Unit {0}
NamesPoint (Switch number on) = (1 ≤ number) × (number ≤ 16)
