-- Which of MD's commands are refused, by the image of their wakeup.
use Rattle.std.specs.Prelude.{ℕ, ◌==◌, not, ◌||◌, nat_lt, is_ok, Bool, if◌then◌else◌, Option, Some, None}
use Rattle.commands.specs.Verdicts.{Protocol, protocol_of}
use Rattle.memory_window.specs.Memory.{Memory}
use Rattle.md_dwell.specs.Tables.{is_length}
use Rattle.md_dwell.specs.Reading.{value_of}
use Rattle.md_dwell.specs.Instructions.{md_language}
use Rattle.md_dwell.specs.declared.tables.DwellEntry.{DwellEntry}
use Rattle.md_dwell.specs.declared.verdicts.Refusal.{Refusal}
use Rattle.md_dwell.specs.declared.verdicts.Refusal.TheVariants.{Table, Entry, Length, Read}
use Rattle.md_dwell.specs.declared.instructions.Instruction.{Instruction}
use Rattle.md_dwell.specs.declared.instructions.Instruction.TheVariants.{Plain, Start, Stop, Jam}

-- The number of a refusal: 4 there is no such table, 5 no such entry, 6 a length that isn't 0, 1, 2 or 4, 7 a read that is refused.
abbrev pub number_of : Refusal → ℕ
number_of Table = 4
number_of Entry = 5
number_of Length = 6
number_of Read = 7

-- The refusal of a mask that names no table or one over 4.
abbrev pub mask_refusal : ℕ → Option Refusal
mask_refusal mask = if (mask == 0) || nat_lt 15 mask then Some Table else None

-- Whether an entry has length 0, or the image gives its read.
unfoldable pub is_readable : Memory → DwellEntry → Bool
is_readable image e = (e.len == 0) || is_ok (value_of image e)

-- The refusal of a jam.
abbrev pub jam_refusal : Memory → ℕ → ℕ → DwellEntry → Option Refusal
jam_refusal image table number e =
    if (table == 0) || nat_lt 4 table then Some Table
    else if (number == 0) || nat_lt 25 number then Some Entry
    else if not (is_length e.len) then Some Length
    else if is_readable image e then None
    else Some Read

-- A command's own refusal.
abbrev pub own_refusal : Memory → Instruction → Option Refusal
own_refusal image Plain = None
own_refusal image (Start mask) = mask_refusal mask
own_refusal image (Stop mask) = mask_refusal mask
own_refusal image (Jam table number e) = jam_refusal image table number e

-- What MD makes of its packets.
abbrev pub md_protocol : Protocol Memory Instruction Refusal
md_protocol = protocol_of md_language number_of (λ image orders instruction. own_refusal image instruction)
