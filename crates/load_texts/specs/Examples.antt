-- Texts of files to be loaded and the files that they say, byte by byte.
use Rattle.std.specs.Prelude.{ℕ, List, [], ◌∷◌, ◌++◌, replicate, codes}

-- lines, each with its LF
abbrev pub joined : List (List ℕ) → List ℕ
joined [] = []
joined (line ∷ more) = line ++ 10 ∷ joined more

-- three bytes at 0x12345678, with all words of the headers
unfoldable pub load_words : List ℕ
load_words = joined (
    codes "load address=0x12345678 length=90 spacecraft=66 processor=1 application=2 seconds=305419896 subseconds=2596069104 reserved=0xB1B2B3B4 description=2122232425262728292A2B2C2D2E2F303132333435363738393A3B3C3D3E3F40"
    ∷ codes "bytes C1C2C3" ∷ codes "end" ∷ [])

-- the example of docs/FILES.md: eight bytes at 0x1004, in two lines
unfoldable pub short_words : List ℕ
short_words = joined (codes "# a patch" ∷ codes "load address=4100" ∷ codes "bytes 0102030405" ∷ codes "bytes 060708" ∷ codes "end" ∷ [])

abbrev pub load_headers : List ℕ → List ℕ
load_headers rest = (0x63 ∷ 0x46 ∷ 0x45 ∷ 0x31 ∷ 0x00 ∷ 0x00 ∷ 0x00 ∷ 0x64 ∷ []) ++ (replicate 56 0 ++ rest)

unfoldable pub short_file : List ℕ
short_file = load_headers (0x00 ∷ 0x00 ∷ 0x10 ∷ 0x04 ∷ 0x00 ∷ 0x00 ∷ 0x00 ∷ 0x08 ∷ 0x00 ∷ 0x00 ∷ 0xC4 ∷ 0xF0 ∷ 0x00 ∷ 0x00 ∷ 0x00 ∷ 0x00 ∷ 0x01 ∷ 0x02 ∷ 0x03 ∷ 0x04 ∷ 0x05 ∷ 0x06 ∷ 0x07 ∷ 0x08 ∷ [])

-- nine bytes of a file, whose check is 0xBB3D, and none behind them
unfoldable pub named_words : List ℕ
named_words = joined (codes "load address=0x20000" ∷ codes "file=patch.bin" ∷ codes "end" ∷ [])

unfoldable pub named_bytes : List ℕ
named_bytes = codes "123456789"

unfoldable pub named_load : List ℕ
named_load = load_headers ((0x00 ∷ 0x02 ∷ 0x00 ∷ 0x00 ∷ 0x00 ∷ 0x00 ∷ 0x00 ∷ 0x09 ∷ 0x00 ∷ 0x00 ∷ 0xBB ∷ 0x3D ∷ 0x00 ∷ 0x00 ∷ 0x00 ∷ 0x00 ∷ []) ++ codes "123456789")
