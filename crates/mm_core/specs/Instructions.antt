-- What MM's commands ask for.
use Rattle.std.specs.Prelude.{ℕ, ◌%◌, ◌^◌, ◌==◌, Bool, true, false, ◌&&◌, nat_lt, nat_le, if◌then◌else◌, List, length, drop, slice_index, Option, Some, None}
use Rattle.packet_forms.specs.MessageIds.{mm_command, mm_request}
use Rattle.packet_forms.specs.Numbers.{be16_at, be32_at}
use Rattle.table_files.specs.Files.{nth}
use Rattle.commands.specs.Verdicts.{Language}
use Rattle.memory_window.specs.Operations.{is_size}
use Rattle.memory_window.specs.declared.operations.MemOp.{MemOp}
use Rattle.memory_window.specs.declared.operations.MemOp.TheVariants as ops
use Rattle.mm_core.specs.Messages.{mm_name, mm_codes}
use Rattle.mm_core.specs.declared.instructions.Instruction.{Instruction}
use Rattle.mm_core.specs.declared.instructions.Instruction.TheVariants.{Plain, Peek, Poke, Load, LoadFile, Fill, Protect, Dump}

-- What a command of this code asks for with this payload: a peek has a size and an address, a poke a value behind them; a load has an
-- address, a check and bytes, a load of a file its number; a fill has an address, a length and a byte, a dump an address and a length;
-- EEPROM enable takes away the protection of a region that disable sets.
unfoldable pub instruction_of : ℕ → List ℕ → Instruction
instruction_of code payload =
    if code == 2 then Peek (slice_index payload 0) (be32_at payload 1)
    else if code == 3 then Poke (slice_index payload 0) (be32_at payload 1) (be32_at payload 5)
    else if code == 4 then Load (be32_at payload 0) (be16_at payload 4) (drop 6 payload)
    else if code == 5 then LoadFile (be16_at payload 0)
    else if code == 8 then Fill (be32_at payload 0) (be32_at payload 4) (slice_index payload 8)
    else if code == 11 then Protect (slice_index payload 0) false
    else if code == 12 then Protect (slice_index payload 0) true
    else if code == 13 then Dump (be32_at payload 0) (be32_at payload 4)
    else Plain

-- MM's commands.
abbrev pub mm_language : Language Instruction
mm_language = record { name = mm_name; command_id = mm_command; request_id = mm_request; codes = mm_codes; decode = instruction_of }

-- The operation that loads a file, where there is one: all its bytes, at its address.
abbrev pub file_operation : ℕ → Option (ℕ × List ℕ) → Option MemOp
file_operation n None = None
file_operation n (Some load) = Some (ops.FromFile n load.0 (length load.1))

-- The operation on memory that a command leaves, with these load files: a poke writes the low bits of its value.
abbrev pub operation_of : List (ℕ × List ℕ) → Instruction → Option MemOp
operation_of loads Plain = None
operation_of loads (Peek size at) = None
operation_of loads (Poke size at value) = Some (ops.Poke size at (value % 2 ^ size))
operation_of loads (Load at crc part) = Some (ops.Bytes at part)
operation_of loads (LoadFile n) = file_operation n (nth loads n)
operation_of loads (Fill at len byte) = Some (ops.Fill at len byte)
operation_of loads (Protect region on) = Some (ops.Protect region on)
operation_of loads (Dump at len) = None

-- Whether so many bytes may be filled, or dumped, by one command.
abbrev pub is_fill_len : ℕ → Bool
is_fill_len len = nat_lt 0 len && nat_le len 65536

abbrev pub is_dump_len : ℕ → Bool
is_dump_len len = nat_lt 0 len && nat_le len 2048

-- Whether an instruction's size, where it has one, is 8, 16 or 32, and a dump has a length that may be dumped.
abbrev pub is_sized : Instruction → Bool
is_sized Plain = true
is_sized (Peek size at) = is_size size
is_sized (Poke size at value) = is_size size
is_sized (Load at crc part) = true
is_sized (LoadFile n) = true
is_sized (Fill at len byte) = true
is_sized (Protect region on) = true
is_sized (Dump at len) = is_dump_len len
