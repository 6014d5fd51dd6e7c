-- Files to be loaded, as their texts say them.
use Rattle.std.specs.Prelude.{◌≡◌, ℕ, ◌+◌, if◌then◌else◌, List, [], ◌∷◌, ◌++◌, length, take, drop, codes, Bool, false, Result, Ok, Err}
use Rattle.std.proofs.Common.{Vec, Global}
use Rattle.packet_forms.specs.Crc.{crc_of}
use Rattle.packet_forms.specs.Hex.{hex}
use Rattle.packet_forms.specs.Numbers.{be32_at, be32_bytes}
use Rattle.table_files.specs.Headers.{is_load_size, address_of_file, payload_of_file, IsLoadOf}
use Rattle.table_texts.specs.Lines.{Numbered, kept_of}
use Rattle.row_forms.specs.declared.field.Field.{Field}
use Rattle.load_texts.specs.Headers.{begins, header_said, header_shown}
use Rattle.load_texts.specs.declared.fault.LoadFault.{LoadFault}
use Rattle.load_texts.specs.declared.fault.LoadFault.TheVariants as faults
use Rattle.load_texts.specs.declared.fault.ReadError.{ReadError}
use Rattle.load_texts.specs.declared.fault.ReadError.TheVariants as errors
use Rattle.load_texts.specs.Addresses.{Addressed, addressed_said}
use Rattle.load_texts.specs.Loaded.{body_said, loaded_text}

-- the first 64 bytes of a file to be loaded, by the header's row: six numbers, the last number, and the description
abbrev pub first_header : List ℕ → List ℕ
first_header row = 0x63 ∷ 0x46 ∷ 0x45 ∷ 0x31 ∷ 0 ∷ 0 ∷ 0 ∷ 100 ∷ (take 24 row ++ drop 28 row)

-- a file to be loaded: both headers, with the number of the bytes and their check, and the bytes
abbrev pub load_of : List ℕ → List ℕ → List ℕ → List ℕ
load_of address row bytes =
    first_header row ++ (address ++ (be32_bytes (length bytes) ++ (be32_bytes (crc_of 0 bytes) ++ (take 4 (drop 24 row) ++ bytes))))

-- the row of a file's headers: what stands behind content type and subtype, and the number behind the check in front of the description
abbrev pub load_row : List ℕ → List ℕ
load_row file = take 24 (drop 8 file) ++ (take 4 (drop 76 file) ++ take 32 (drop 32 file))

abbrev pub if_sized : List ℕ → List ℕ → List ℕ → Result (List ℕ) LoadFault
if_sized address row bytes = if is_load_size (length bytes) then Ok (load_of address row bytes) else Err (faults.Size (length bytes))

abbrev pub loaded_filed : List ℕ → List ℕ → Result (List ℕ) LoadFault → Result (List ℕ) LoadFault
loaded_filed address row (Ok bytes) = if_sized address row bytes
loaded_filed address row (Err fault) = Err fault

-- the file of the bytes that stand behind the first line, with these headers
abbrev pub bytes_filed : List ℕ → Addressed → List ℕ → Result (List ℕ) LoadFault
bytes_filed named first row = loaded_filed first.address row (body_said named (first.number + 1) first.more)

abbrev pub row_filed : List ℕ → Addressed → Result (List ℕ) LoadFault → Result (List ℕ) LoadFault
row_filed named first (Ok row) = bytes_filed named first row
row_filed named first (Err fault) = Err fault

abbrev pub addressed_filed : List Field → List ℕ → Result Addressed LoadFault → Result (List ℕ) LoadFault
addressed_filed fs named (Err fault) = Err fault
addressed_filed fs named (Ok first) = row_filed named first (header_said fs first.number first.words)

-- the file that a text says, where the file that it asks for has the bytes `named`
unfoldable pub load_said : List Field → List ℕ → List ℕ → Result (List ℕ) LoadFault
load_said fs named text = addressed_filed fs named (addressed_said (kept_of 1 text))

-- the first line of a text
abbrev pub load_line : List Field → List ℕ → List ℕ
load_line fs file = (codes "load address=0x" ++ (hex (take 4 (drop 64 file)) ++ header_shown fs (load_row file))) ++ 10 ∷ []

-- the text of a file to be loaded
unfoldable pub load_text : List Field → List ℕ → List ℕ
load_text fs file = load_line fs file ++ loaded_text (drop 80 file)

-- whether a text begins with `load`
abbrev pub begins_load : List Numbered → Bool
begins_load [] = false
begins_load (line ∷ more) = begins (codes "load") line.words

unfoldable pub is_load_text : List ℕ → Bool
is_load_text text = begins_load (kept_of 1 text)

-- a file is loaded as the text says: it is accepted, and its address and its bytes are those of the text
pub record SaysLoad (named text file : List ℕ) : Type 0 where
  pub first : Addressed
  pub first_is : addressed_said (kept_of 1 text) ≡ Ok first
  pub load : IsLoadOf file
  pub address : address_of_file file ≡ be32_at first.address 0
  pub bytes : body_said named (first.number + 1) first.more ≡ Ok (payload_of_file file)

-- the file is what is said; a fault is told only where there is one; and memory may end
abbrev pub GivesLoad : Result (List ℕ) LoadFault → Result (Vec ℕ Global) ReadError → Type 0
GivesLoad said (Ok file) = said ≡ Ok file.items
GivesLoad said (Err (errors.Memory e)) = Unit {0}
GivesLoad said (Err (errors.Fault fault)) = said ≡ Err fault
