-- Which of CS's commands are refused, by its tables.
use Rattle.std.specs.Prelude.{ℕ, ◌==◌, not, ◌||◌, nat_lt, Bool, if◌then◌else◌, Option, Some, None}
use Rattle.commands.specs.Verdicts.{Protocol, protocol_of}
use Rattle.cs_slices.specs.Tables.{TablePair, entry_in}
use Rattle.cs_slices.specs.Instructions.{cs_language, entry_place}
use Rattle.cs_slices.specs.declared.verdicts.Refusal.{Refusal}
use Rattle.cs_slices.specs.declared.verdicts.Refusal.TheVariants as refusals
use Rattle.cs_slices.specs.declared.instructions.Instruction.{Instruction}
use Rattle.cs_slices.specs.declared.instructions.Instruction.TheVariants.{Plain, Whole, Table, Entry, Report}

-- The number of a refusal: 4 there is no such table, 5 no such entry, 6 the entry is empty.
abbrev pub number_of : Refusal → ℕ
number_of refusals.Table = 4
number_of refusals.Entry = 5
number_of refusals.Empty = 6

-- Whether there is a table of this number.
abbrev pub is_table : ℕ → Bool
is_table table = (table == 1) || (table == 2)

-- The refusal of a table that there isn't.
abbrev pub table_refusal : ℕ → Option Refusal
table_refusal table = if is_table table then None else Some refusals.Table

-- The refusal of an entry.
abbrev pub entry_refusal : TablePair → ℕ → ℕ → Option Refusal
entry_refusal tables table number =
    if not (is_table table) then Some refusals.Table
    else if (number == 0) || nat_lt 16 number then Some refusals.Entry
    else if (entry_in tables (entry_place table number)).state == 0 then Some refusals.Empty
    else None

-- A command's own refusal.
abbrev pub own_refusal : TablePair → Instruction → Option Refusal
own_refusal tables Plain = None
own_refusal tables (Whole on) = None
own_refusal tables (Table table on) = table_refusal table
own_refusal tables (Entry table number on) = entry_refusal tables table number
own_refusal tables (Report table number) = entry_refusal tables table number

-- What CS makes of its packets.
abbrev pub cs_protocol : Protocol TablePair Instruction Refusal
cs_protocol = protocol_of cs_language number_of (λ tables orders instruction. own_refusal tables instruction)
