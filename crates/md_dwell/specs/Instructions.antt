-- What MD's commands ask for.
use Rattle.std.specs.Prelude.{ℕ, ◌==◌, ◌<◌, ◌≤◌, if◌then◌else◌, List}
use Rattle.packet_forms.specs.MessageIds.{md_command, md_request}
use Rattle.packet_forms.specs.Numbers.{be16_at, be32_at}
use Rattle.commands.specs.Verdicts.{Language}
use Rattle.md_dwell.specs.Messages.{md_name, md_codes}
use Rattle.md_dwell.specs.declared.tables.DwellEntry.{DwellEntry}
use Rattle.md_dwell.specs.declared.instructions.Instruction.{Instruction}
use Rattle.md_dwell.specs.declared.instructions.Instruction.TheVariants.{Plain, Start, Stop, Jam}

-- The entry that a jam writes.
abbrev pub jammed_entry : List ℕ → DwellEntry
jammed_entry payload = record { len = be16_at payload 4; delay = be16_at payload 6; at = be32_at payload 8 }

-- What a command of this code asks for with this payload: start and stop have a mask of tables, a jam a table, an entry's number and the entry.
unfoldable pub instruction_of : ℕ → List ℕ → Instruction
instruction_of code payload =
    if code == 2 then Start (be16_at payload 0)
    else if code == 3 then Stop (be16_at payload 0)
    else if code == 4 then Jam (be16_at payload 0) (be16_at payload 2) (jammed_entry payload)
    else Plain

-- MD's commands.
abbrev pub md_language : Language Instruction
md_language = record { name = md_name; command_id = md_command; request_id = md_request; codes = md_codes; decode = instruction_of }

-- A jam names an entry of the 25.
abbrev pub NamesEntry : Instruction → Type 0
NamesEntry Plain = Unit {0}
NamesEntry (Start mask) = Unit {0}
NamesEntry (Stop mask) = Unit {0}
NamesEntry (Jam table number e) = (0 < number) × (number ≤ 25)
