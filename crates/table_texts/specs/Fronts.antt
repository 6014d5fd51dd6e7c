-- Fields with a telecommand behind them, in words and in bytes.
use Rattle.std.specs.Prelude.{◌≡◌, ℕ, ◌+◌, ◌==◌, Bool, true, false, ◌&&◌, nat_lt, nat_le, List, [], ◌∷◌, ◌++◌, length, take, drop, Option, Some, None, is_none, Result, Ok, Err}
use Rattle.std.specs.List.{list_all}
use Rattle.std.proofs.Common.{Bor}
use Rattle.packet_forms.specs.Faults.{fault_of}
use Rattle.packet_forms.specs.Numbers.{be16_at}
use Rattle.row_forms.specs.Words.{words}
use Rattle.row_forms.specs.Rows.{fault_at, row_said, is_row, row_size, are_fields}
use Rattle.row_forms.specs.declared.field.Field.{Field}
use Rattle.row_forms.specs.declared.field.Field.TheVariants.{Value, Zeros, Check}
use Rattle.row_forms.specs.declared.fault.Reason.TheVariants as reasons
use Rattle.row_forms.specs.declared.fault.RowFault.{RowFault}
use Rattle.row_forms.specs.declared.fault.ReadError.{ReadError}
use Rattle.row_forms.specs.declared.fault.ReadError.TheVariants as row_errors
use Rattle.telecommands.specs.declared.command.Command.{Command}
use Rattle.telecommands.specs.declared.fault.CommandFault.{CommandFault}
use Rattle.telecommands.specs.Commands.{command_said}
use Rattle.table_texts.specs.declared.fault.LineFault.{LineFault}
use Rattle.table_texts.specs.declared.fault.LineFault.TheVariants as faults
use Rattle.table_texts.specs.declared.fault.LineError.{LineError}
use Rattle.table_texts.specs.declared.fault.LineError.TheVariants as line_errors

abbrev pub has_size : Option ℕ → ℕ → Bool
has_size None n = false
has_size (Some m) n = m == n

-- fields that have a word each, of fixed sizes
abbrev pub is_value : Field → Bool
is_value (Value key kind) = true
is_value (Zeros count) = false
is_value Check = false

-- the fields in front of a telecommand: they have this many bytes
unfoldable pub is_front : List Field → ℕ → Bool
is_front fs size = nat_le (length fs) 16 && nat_lt size 65536 && are_fields fs && list_all is_value fs && has_size (row_size fs) size

-- the bytes of fields, and the words behind them
pub record Front : Type 0 where
  pub bytes : List ℕ
  pub rest : List (List ℕ)

abbrev pub then_front : Result (List ℕ) RowFault → Result Front RowFault → Result Front RowFault
then_front (Ok bytes) (Ok front) = Ok (record { bytes = bytes ++ front.bytes; rest = front.rest })
then_front (Ok bytes) (Err fault) = Err fault
then_front (Err fault) said = Err fault

-- what the first words say as these fields, a word each, the first being word n
unfoldable pub front_said : Option ℕ → ℕ → List Field → List (List ℕ) → Result Front RowFault
front_said epoch n [] ws = Ok (record { bytes = []; rest = ws })
front_said epoch n (f ∷ fs) [] = Err (fault_at n reasons.Missing)
front_said epoch n (f ∷ fs) (w ∷ ws) = then_front (row_said epoch n (f ∷ []) (w ∷ [])) (front_said epoch (n + 1) fs ws)

abbrev pub stored : List ℕ → Result (List ℕ) CommandFault → Result (List ℕ) LineFault
stored front (Ok packet) = Ok (front ++ packet)
stored front (Err fault) = Err (faults.Command fault)

-- a telecommand behind its fields, whose words begin with word n
abbrev pub behind_front : Option ℕ → List Command → ℕ → Result Front RowFault → Result (List ℕ) LineFault
behind_front epoch cs n (Ok front) = stored front.bytes (command_said epoch n cs front.rest)
behind_front epoch cs n (Err fault) = Err (faults.Row fault)

-- how many bytes the packet has with which these begin, by its length field
abbrev pub packet_size : List ℕ → ℕ
packet_size bytes = be16_at bytes 4 + 7

-- whether bytes begin with fields of this size and a packet
unfoldable pub is_command_at : List Field → ℕ → List ℕ → Bool
is_command_at fs size bytes =
    nat_le (size + 8) (length bytes) && is_row fs (take size bytes)
    && nat_le (packet_size (drop size bytes)) (length (drop size bytes))
    && is_none (fault_of (take (packet_size (drop size bytes)) (drop size bytes)))

-- the packet behind fields of this size
abbrev pub packet_behind : ℕ → List ℕ → List ℕ
packet_behind size bytes = take (packet_size (drop size bytes)) (drop size bytes)

-- ---- what the code gives

abbrev pub front_behind : List ℕ → Result Front RowFault → Result Front RowFault
front_behind old (Ok front) = Ok (record { bytes = old ++ front.bytes; rest = front.rest })
front_behind old (Err fault) = Err fault

-- the fields' bytes are the new ones, and these words are left
abbrev pub GivesFront : Result Front RowFault → List ℕ → Result (Bor (List ℕ)) ReadError → Type 0
GivesFront said new (Ok rest) = said ≡ Ok (record { bytes = new; rest = words rest.now })
GivesFront said new (Err (row_errors.Memory e)) = Unit {0}
GivesFront said new (Err (row_errors.Row fault)) = said ≡ Err fault

abbrev pub GivesItem : Result (List ℕ) LineFault → List ℕ → Result (Unit {0}) LineError → Type 0
GivesItem said new (Ok done) = said ≡ Ok new
GivesItem said new (Err (line_errors.Memory e)) = Unit {0}
GivesItem said new (Err (line_errors.Fault fault)) = said ≡ Err fault
