-- What a book gives, a line for each file.
use Rattle.std.specs.Prelude.{ℕ, List, [], ◌∷◌, ◌++◌, length, codes, decimal}
use Rattle.packet_forms.specs.Crc.{crc_of}
use Rattle.packet_forms.specs.Hex.{hex}
use Rattle.packet_forms.specs.Numbers.{be16_bytes}
use Rattle.load_books.specs.declared.titles.FileKind.{FileKind}
use Rattle.load_books.specs.declared.titles.FileKind.TheVariants as kinds
use Rattle.load_books.specs.Files.{FileMade}
use Rattle.load_books.specs.Books.{BookMade}

abbrev pub kind_word : FileKind → List ℕ
kind_word kinds.Table = codes "table"
kind_word kinds.Load = codes "load"

-- a word with a space in front
abbrev pub field : List ℕ → List ℕ
field word = 32 ∷ word

-- a line: kind, name, how many bytes there are, and their CRC
abbrev pub entry : List ℕ → List ℕ → List ℕ → List ℕ
entry kind name bytes = kind ++ (field name ++ (field (decimal (length bytes)) ++ (field (hex (be16_bytes (crc_of 0 bytes))) ++ 10 ∷ [])))

-- a line for each file
unfoldable pub entries : List FileMade → List ℕ
entries [] = []
entries (m ∷ more) = entry (kind_word m.kind) m.name m.bytes ++ entries more

-- a line for each file, and one for the scenario
abbrev pub manifest_said : BookMade → List ℕ
manifest_said b = entries b.files ++ entry (codes "scenario") b.name b.scenario
