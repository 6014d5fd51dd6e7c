-- The manifest of a book's files, a line for each.
use Rattle.std.specs.Prelude.{ℕ, List, [], ◌∷◌, ◌++◌, length, codes, decimal}
use Rattle.packet_forms.specs.Crc.{crc_of}
use Rattle.packet_forms.specs.Hex.{hex}
use Rattle.packet_forms.specs.Numbers.{be16_bytes}
use Rattle.load_books.specs.declared.titles.FileKind.{FileKind}
use Rattle.load_books.specs.declared.titles.FileKind.TheVariants as kinds
use Rattle.load_books.specs.Files.{FileMade}
use Rattle.load_books.specs.Books.{BookMade}
use Rattle.load_books.specs.Manifests.{kind_word, field}

-- how the name of a file of a kind ends
abbrev pub ending_of : FileKind → List ℕ
ending_of kinds.Table = codes ".table"
ending_of kinds.Load = codes ".load"

-- a line: kind, name, how many bytes there are, their CRC, and the name of the file that has them
abbrev pub entry : List ℕ → List ℕ → List ℕ → List ℕ → List ℕ
entry kind name ending bytes = kind ++ (field name ++ (field (decimal (length bytes)) ++ (field (hex (be16_bytes (crc_of 0 bytes))) ++ (field (name ++ ending) ++ 10 ∷ []))))

-- a line for each file
unfoldable pub entries : List FileMade → List ℕ
entries [] = []
entries (m ∷ more) = entry (kind_word m.kind) m.name (ending_of m.kind) m.bytes ++ entries more

-- a line for each file, and one for the scenario
abbrev pub manifest_said : BookMade → List ℕ
manifest_said b = entries b.files ++ entry (codes "scenario") b.name (codes ".scenario") b.scenario
