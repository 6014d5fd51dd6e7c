-- What an application makes of a telecommand's words.
use Rattle.std.specs.Prelude.{◌≡◌, ℕ, ◌==◌, true, List, [], ◌∷◌, map, filter, Option, Some, None, Ok}
use Rattle.packet_forms.specs.Packets.{message_id, function_code, is_checksum_right, payload_of}
use Rattle.row_forms.specs.declared.field.Field.{Field}
use Rattle.row_forms.specs.RowNumbers.{numbers_said}
use Rattle.commands.specs.Rows.{row_of, is_allowed}
use Rattle.commands.specs.Verdicts.{Language}
use Rattle.telecommands.specs.declared.command.Command.{Command}
use Rattle.telecommands.specs.Commands.{named, command_said}
use Rattle.telecommands.specs.Dictionary.{dictionary}

abbrev pub fields_in : Option Command → List Field
fields_in None = []
fields_in (Some c) = c.fields.now

-- the fields of the dictionary's command of a name
unfoldable pub fields_of : List ℕ → List Field
fields_of name = fields_in (named dictionary name)

-- A packet is an application's command of this code: its checksum is right, its payload has a length that the application takes, and
-- is decoded as the instruction of these numbers.
pub record IsDecoded {I : Type 0} (language : Language I) (code : ℕ) (instruction : List ℕ → I) (numbers : Option (List ℕ)) (packet : List ℕ) : Type 0 where
  pub id : message_id packet ≡ language.command_id
  pub number : function_code packet ≡ code
  pub checksum : is_checksum_right packet ≡ true
  pub allowed : is_allowed (row_of language.codes code) (payload_of packet) ≡ true
  pub decoded : (ns : List ℕ) → numbers ≡ Some ns → language.decode code (payload_of packet) ≡ instruction ns

-- Whatever words stand behind a name: the packet that they say is the command of this code, with the numbers that they say.
abbrev pub Decodes : {I : Type 0} → Language I → List ℕ → ℕ → (List ℕ → I) → Type 0
Decodes language name code instruction =
    (epoch : Option ℕ) (n : ℕ) (ws : List (List ℕ)) (packet : List ℕ) → command_said epoch n dictionary (name ∷ ws) ≡ Ok packet
    → IsDecoded language code instruction (numbers_said epoch (fields_of name) ws) packet

-- the codes of the dictionary's commands with an id, in their order
abbrev pub codes_of : ℕ → List ℕ
codes_of id = map (λ c. c.code) (filter (λ c. c.id == id) dictionary)
