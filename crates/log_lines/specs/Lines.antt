-- What a line of the log says, without the LF at its end.
use Rattle.std.specs.Prelude.{ℕ, ◌+◌, ◌-◌, ◌*◌, ◌==◌, Bool, true, false, ◌&&◌, if◌then◌else◌, nat_lt, List, [], ◌∷◌, length, codes, decimal, Option, Some, None, option_and_then, Result, Ok, Err}
use Rattle.std.specs.List.{slice_split}
use Rattle.std.specs.Str.{bytes_eq}
use Rattle.std.proofs.Common.{Bor}
use Rattle.packet_forms.specs.Faults.{fault_of}
use Rattle.packet_forms.specs.declared.packet.PacketFault.{PacketFault}
use Rattle.bus_pipes.specs.declared.names.PipeName.{PipeName}
use Rattle.bus_pipes.specs.declared.names.PipeName.TheVariants as pipes
use Rattle.row_forms.specs.Words.{digits, before, name_said}
use Rattle.log_lines.specs.declared.fault.LineFault.{LineFault}
use Rattle.log_lines.specs.declared.fault.LineFault.TheVariants as faults
use Rattle.log_lines.specs.declared.line.LineItem.{LineItem}
use Rattle.log_lines.specs.declared.line.LineItem.TheVariants as items
use Rattle.log_lines.specs.declared.line.LogLine.{LogLine}

-- the words of a line: its parts between single spaces
unfoldable pub line_words : List ℕ → List (List ℕ)
line_words line = slice_split (λ b. b == 32) line

-- the words behind a word, where a space follows it
abbrev pub words_behind : Option (Bor (List ℕ)) → List (List ℕ)
words_behind None = []
words_behind (Some rest) = line_words rest.now

-- ---- what a word says

-- a number below 2^32, where this is the word for it
abbrev pub if_written : List ℕ → ℕ → Option ℕ
if_written word n = if nat_lt n 4294967296 && bytes_eq (decimal n) word then Some n else None

-- the number of a frame: decimal digits without a zero in front of others
unfoldable pub frame_said : List ℕ → Option ℕ
frame_said word = option_and_then (if_written word) (digits 10 10 word)

-- the value of a hexadecimal digit in upper case, and 16 for any other byte
abbrev pub digit_number : ℕ → ℕ
digit_number c =
    if nat_lt c 48 then 16 else if nat_lt c 58 then c - 48 else if nat_lt c 65 then 16 else if nat_lt c 71 then c - 55 else 16

-- the bytes that pairs of hexadecimal digits in upper case write
unfoldable pub bytes_said : List ℕ → Option (List ℕ)
bytes_said [] = Some []
bytes_said (c ∷ []) = None
bytes_said (c ∷ d ∷ more) =
    if nat_lt (digit_number c) 16 && nat_lt (digit_number d) 16
    then before (16 * digit_number c + digit_number d) (bytes_said more) else None

abbrev pub unless_fault : List ℕ → Option PacketFault → Result (List ℕ) LineFault
unless_fault bytes None = Ok bytes
unless_fault bytes (Some fault) = Err (faults.Packet fault)

abbrev pub packet_of : Option (List ℕ) → Result (List ℕ) LineFault
packet_of None = Err faults.Digits
packet_of (Some bytes) = unless_fault bytes (fault_of bytes)

-- a packet: its bytes in hexadecimal digits
unfoldable pub packet_said : List ℕ → Result (List ℕ) LineFault
packet_said word = packet_of (bytes_said word)

abbrev pub name_or_fault : Option (List ℕ) → Result (List ℕ) LineFault
name_or_fault None = Err faults.Name
name_or_fault (Some name) = Ok name

unfoldable pub pipe_said : List ℕ → Option PipeName
pipe_said word =
    if bytes_eq word (codes "HS") then Some pipes.Hs
    else if bytes_eq word (codes "HS.EV") then Some pipes.HsEv
    else if bytes_eq word (codes "CS") then Some pipes.Cs
    else if bytes_eq word (codes "SC") then Some pipes.Sc
    else if bytes_eq word (codes "MM") then Some pipes.Mm
    else if bytes_eq word (codes "MD") then Some pipes.Md
    else if bytes_eq word (codes "LC") then Some pipes.Lc
    else if bytes_eq word (codes "LC.TLM") then Some pipes.LcTlm
    else None

-- why a packet was dropped: whether its pipe was full
unfoldable pub cause_said : List ℕ → Option Bool
cause_said word =
    if bytes_eq word (codes "limit") then Some false
    else if bytes_eq word (codes "full") then Some true
    else None

-- ---- what the words of a line say

-- the last word of a line
abbrev pub last_word : List (List ℕ) → Result (List ℕ) LineFault
last_word [] = Err faults.Missing
last_word (word ∷ []) = Ok word
last_word (word ∷ next ∷ more) = Err faults.Extra

abbrev pub packet_in : Result (List ℕ) LineFault → Result (List ℕ) LineFault
packet_in (Ok word) = packet_said word
packet_in (Err fault) = Err fault

abbrev pub name_in : Result (List ℕ) LineFault → Result (List ℕ) LineFault
name_in (Ok word) = name_or_fault (name_said word)
name_in (Err fault) = Err fault

abbrev pub as_item : (List ℕ → LineItem) → Result (List ℕ) LineFault → Result LineItem LineFault
as_item item (Ok bytes) = Ok (item bytes)
as_item item (Err fault) = Err fault

abbrev pub dropped : PipeName → Bool → List ℕ → LineItem
dropped pipe full packet = items.Drop (record { pipe = pipe; full = full; packet = packet })

abbrev pub drop_for : PipeName → Option Bool → List (List ℕ) → Result LineItem LineFault
drop_for pipe None words = Err faults.Cause
drop_for pipe (Some full) words = as_item (dropped pipe full) (packet_in (last_word words))

abbrev pub drop_at : Option PipeName → List (List ℕ) → Result LineItem LineFault
drop_at None words = Err faults.Pipe
drop_at (Some pipe) [] = Err faults.Missing
drop_at (Some pipe) (cause ∷ words) = drop_for pipe (cause_said cause) words

unfoldable pub drop_said : List (List ℕ) → Result LineItem LineFault
drop_said [] = Err faults.Missing
drop_said (pipe ∷ words) = drop_at (pipe_said pipe) words

abbrev pub reset_said : List (List ℕ) → Result LineItem LineFault
reset_said [] = Ok items.Reset
reset_said (word ∷ words) = Err faults.Extra

-- what the words behind the frame's number say
unfoldable pub item_said : List (List ℕ) → Result LineItem LineFault
item_said [] = Err faults.Missing
item_said (word ∷ words) =
    if bytes_eq word (codes "pkt") then as_item items.Packet (packet_in (last_word words))
    else if bytes_eq word (codes "drop") then drop_said words
    else if bytes_eq word (codes "reset") then reset_said words
    else if bytes_eq word (codes "restart") then as_item items.Restart (name_in (last_word words))
    else if bytes_eq word (codes "delete") then as_item items.Delete (name_in (last_word words))
    else Err faults.Word

-- the line of an item in a frame
abbrev pub at_frame : ℕ → LineItem → LogLine
at_frame frame item = record { frame = frame; item = item }

abbrev pub in_frame : ℕ → Result LineItem LineFault → Result LogLine LineFault
in_frame frame (Ok item) = Ok (at_frame frame item)
in_frame frame (Err fault) = Err fault

abbrev pub line_at : Option ℕ → List (List ℕ) → Result LogLine LineFault
line_at None words = Err faults.Frame
line_at (Some frame) words = in_frame frame (item_said words)

unfoldable pub words_said : List (List ℕ) → Result LogLine LineFault
words_said [] = Err faults.Frame
words_said (number ∷ words) = line_at (frame_said number) words

-- what a line says, or the first fault for which it is none
unfoldable pub line_said : List ℕ → Result LogLine LineFault
line_said line = if nat_lt 640 (length line) then Err faults.Long else words_said (line_words line)
