-- What CS's commands ask for.
use Rattle.std.specs.Prelude.{ℕ, ◌+◌, ◌-◌, ◌*◌, ◌≤◌, ◌==◌, true, false, if◌then◌else◌, List}
use Rattle.packet_forms.specs.MessageIds.{cs_command, cs_request}
use Rattle.packet_forms.specs.Numbers.{be16_at}
use Rattle.commands.specs.Verdicts.{Language}
use Rattle.cs_slices.specs.Messages.{cs_name, cs_codes}
use Rattle.cs_slices.specs.declared.instructions.Instruction.{Instruction}
use Rattle.cs_slices.specs.declared.instructions.Instruction.TheVariants.{Plain, Whole, Table, Entry, Report}

-- What a command of this code asks for with this payload: a table, 1 EEPROM or 2 memory, and behind it an entry's number.
unfoldable pub instruction_of : ℕ → List ℕ → Instruction
instruction_of code payload =
    if code == 2 then Whole true
    else if code == 3 then Whole false
    else if code == 4 then Table (be16_at payload 0) true
    else if code == 5 then Table (be16_at payload 0) false
    else if code == 6 then Entry (be16_at payload 0) (be16_at payload 2) true
    else if code == 7 then Entry (be16_at payload 0) (be16_at payload 2) false
    else if code == 8 then Report (be16_at payload 0) (be16_at payload 2)
    else Plain

-- CS's commands.
abbrev pub cs_language : Language Instruction
cs_language = record { name = cs_name; command_id = cs_command; request_id = cs_request; codes = cs_codes; decode = instruction_of }

-- The place, from 0, of an entry from 1 to 16 of table 1, EEPROM, or 2, memory.
abbrev pub entry_place : ℕ → ℕ → ℕ
entry_place table number = 16 * (table - 1) + (number - 1)

-- A table that there is.
abbrev pub IsTable : ℕ → Type 0
IsTable table = (1 ≤ table) × (table ≤ 2)

-- An entry that there is.
abbrev pub IsEntry : ℕ → ℕ → Type 0
IsEntry table number = (1 ≤ table) × (table ≤ 2) × (1 ≤ number) × (number ≤ 16)

-- An instruction names a table and an entry that there are.
abbrev pub IsNamed : Instruction → Type 0
IsNamed Plain = Unit {0}
IsNamed (Whole on) = Unit {0}
IsNamed (Table table on) = IsTable table
IsNamed (Entry table number on) = IsEntry table number
IsNamed (Report table number) = IsEntry table number
