-- Which of MM's commands are refused, by the image and the protection with which the frame began.
use Rattle.std.specs.Prelude.{◌≡◌, ℕ, ◌%◌, ◌^◌, ◌<◌, ◌==◌, is_none, if◌then◌else◌, List, length, Option, Some, None, Result, Ok, Err}
use Rattle.packet_forms.specs.Crc.{crc_of}
use Rattle.table_files.specs.Files.{nth}
use Rattle.commands.specs.Verdicts.{Protocol, protocol_of}
use Rattle.memory_window.specs.Memory.{Memory}
use Rattle.memory_window.specs.Operations.{is_size, load_bytes}
use Rattle.memory_window.specs.declared.access.AccessFault.{AccessFault}
use Rattle.memory_window.specs.declared.access.AccessFault.TheVariants.{Outside, Unaligned, WrongSize, Protected}
use Rattle.memory_window.specs.declared.operations.MemOp.TheVariants as ops
use Rattle.mm_core.specs.Reading.{Seen, value_at, range_at, admission_of, protection_of}
use Rattle.mm_core.specs.Instructions.{mm_language, is_fill_len, is_dump_len}
use Rattle.mm_core.specs.declared.verdicts.Refusal.{Refusal}
use Rattle.mm_core.specs.declared.verdicts.Refusal.TheVariants.{Access, Size, Length, Crc, File, Region}
use Rattle.mm_core.specs.declared.instructions.Instruction.{Instruction}
use Rattle.mm_core.specs.declared.instructions.Instruction.TheVariants.{Plain, Peek, Poke, Load, LoadFile, Fill, Protect, Dump}

-- The number of a fault of access.
abbrev pub fault_number : AccessFault → ℕ
fault_number Outside = 4
fault_number Unaligned = 5
fault_number WrongSize = 6
fault_number Protected = 7

-- The number of a refusal: 4 to 7 a fault of access, 8 a size that isn't 8, 16 or 32, 9 a length that may not be filled or dumped,
-- 10 another check than that of the bytes, 11 no load file of the number, 12 a number that isn't an EEPROM region's.
abbrev pub number_of : Refusal → ℕ
number_of (Access fault) = fault_number fault
number_of Size = 8
number_of Length = 9
number_of Crc = 10
number_of File = 11
number_of Region = 12

-- The refusal where an access met a fault.
abbrev pub access_refusal : {A : Type 0} → Result A AccessFault → Option Refusal
access_refusal (Ok a) = None
access_refusal (Err fault) = Some (Access fault)

-- The refusal to load the file of a number: there is none, or its access meets a fault.
abbrev pub file_refusal : Memory → ℕ → Option (ℕ × List ℕ) → Option Refusal
file_refusal image n None = Some File
file_refusal image n (Some load) = access_refusal (admission_of image (ops.FromFile n load.0 (length load.1)))

-- A command's own refusal, by the image of memory and the load files: that of its access comes last.
abbrev pub own_refusal : Seen → Instruction → Option Refusal
own_refusal seen Plain = None
own_refusal seen (Peek size at) = if is_size size then access_refusal (value_at seen.image size at) else Some Size
own_refusal seen (Poke size at value) = if is_size size then access_refusal (admission_of seen.image (ops.Poke size at (value % 2 ^ size))) else Some Size
own_refusal seen (Load at crc part) = if crc_of 0 part == crc then access_refusal (admission_of seen.image (ops.Bytes at part)) else Some Crc
own_refusal seen (LoadFile n) = file_refusal seen.image n (nth seen.loads n)
own_refusal seen (Fill at len byte) = if is_fill_len len then access_refusal (admission_of seen.image (ops.Fill at len byte)) else Some Length
own_refusal seen (Protect region on) = if is_none (protection_of seen.image region) then Some Region else None
own_refusal seen (Dump at len) = if is_dump_len len then access_refusal (range_at seen.image at len) else Some Length

-- What MM makes of its packets.
abbrev pub mm_protocol : Protocol Seen Instruction Refusal
mm_protocol = protocol_of mm_language number_of (λ seen orders instruction. own_refusal seen instruction)

-- A load has bytes.
abbrev pub HasBytes : List (ℕ × List ℕ) → Instruction → Type 0
HasBytes loads Plain = Unit {0}
HasBytes loads (Peek size at) = Unit {0}
HasBytes loads (Poke size at value) = Unit {0}
HasBytes loads (Load at crc part) = 0 < length part
HasBytes loads (LoadFile n) = 0 < length (load_bytes loads n)
HasBytes loads (Fill at len byte) = Unit {0}
HasBytes loads (Protect region on) = Unit {0}
HasBytes loads (Dump at len) = Unit {0}

-- A command that can be obeyed: its own refusals let it pass, and a load has bytes.
pub record CanObey (seen : Seen) (instruction : Instruction) : Type 0 where
  pub passes : own_refusal seen instruction ≡ None
  pub has_bytes : HasBytes seen.loads instruction
