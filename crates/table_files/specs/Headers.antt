-- Files: their headers (made after the cFE's), and the first fault that they have.
use Rattle.std.specs.Prelude.{◌≡◌, ℕ, ◌-◌, ◌<◌, ◌≤◌, IsTrue, ◌==◌, Bool, true, not, ◌&&◌, nat_lt, nat_le, if◌then◌else◌, List, length, take, drop, Option, Some, None, is_none}
use Rattle.packet_forms.specs.Numbers.{be32_at}
use Rattle.packet_forms.specs.Crc.{crc_of}
use Rattle.table_files.specs.declared.fault.FileFault.{FileFault}
use Rattle.table_files.specs.declared.fault.FileFault.TheVariants.{Short, ContentType, Subtype, Partial, Name, Size, LoadCrc}
use Rattle.table_files.specs.declared.kinds.TableKind.{TableKind}
use Rattle.table_files.specs.declared.headers.TheConstants.{CONTENT_TYPE, TABLE, LOAD, HEADER, TABLE_HEADERS, LOAD_HEADERS}
use Rattle.table_files.specs.declared.headers.FileImage.{FileImage}
use Rattle.table_files.specs.declared.headers.FileImage.TheVariants.{Table, Load}
use Rattle.table_files.specs.Kinds.{named_kind, fits_kind, IsTable}

-- the header of every file has 64 bytes: the content type first, then the subtype
unfoldable pub content_type : List ℕ → ℕ
content_type file = be32_at file 0

unfoldable pub subtype : List ℕ → ℕ
subtype file = be32_at file 4

-- the header of a table has 52 bytes more: reserved, the offset, the number of bytes, the name in 40 bytes
unfoldable pub table_offset : List ℕ → ℕ
table_offset file = be32_at file 68

unfoldable pub table_size : List ℕ → ℕ
table_size file = be32_at file 72

unfoldable pub table_name : List ℕ → List ℕ
table_name file = take 40 (drop 76 file)

-- the fault of a table whose name says this kind, if any: how many bytes its header says, and how many there are
abbrev pub table_fault : Option TableKind → ℕ → ℕ → Option FileFault
table_fault None said size = Some Name
table_fault (Some kind) said size = if (said == size) && fits_kind kind size then None else Some Size

-- the header of bytes to be loaded has 16 bytes more: the address, the number of bytes, their check, reserved
unfoldable pub address_of_file : List ℕ → ℕ
address_of_file file = be32_at file 64

unfoldable pub load_size : List ℕ → ℕ
load_size file = be32_at file 68

unfoldable pub load_crc : List ℕ → ℕ
load_crc file = be32_at file 72

-- whether so many bytes may be loaded
abbrev pub is_load_size : ℕ → Bool
is_load_size size = nat_lt 0 size && nat_le size 65536

-- the fault of bytes to be loaded, if any: how many their header says, and which check of theirs
abbrev pub load_fault : List ℕ → ℕ → ℕ → Option FileFault
load_fault bytes said check =
    if not ((said == length bytes) && is_load_size (length bytes)) then Some Size
    else if not (check == crc_of 0 bytes) then Some LoadCrc
    else None

-- the fault of a table's file, and of a file that is to be loaded, behind its subtype
unfoldable pub fault_of_table : List ℕ → Option FileFault
fault_of_table file =
    if nat_lt (length file) TABLE_HEADERS then Some Short
    else if not (table_offset file == 0) then Some Partial
    else table_fault (named_kind (table_name file)) (table_size file) (length file - TABLE_HEADERS)

unfoldable pub fault_of_load : List ℕ → Option FileFault
fault_of_load file =
    if nat_lt (length file) LOAD_HEADERS then Some Short
    else load_fault (drop LOAD_HEADERS file) (load_size file) (load_crc file)

-- the first fault of a file, in the order in which they are asked, or none where it is accepted
unfoldable pub file_fault_of : List ℕ → Option FileFault
file_fault_of file =
    if nat_lt (length file) HEADER then Some Short
    else if not (content_type file == CONTENT_TYPE) then Some ContentType
    else if subtype file == TABLE then fault_of_table file
    else if subtype file == LOAD then fault_of_load file
    else Some Subtype

-- a file has no fault
abbrev pub IsFile : List ℕ → Type 0
IsFile file = file_fault_of file ≡ None

-- a file has the headers of a known table, and as many bytes behind them as they and the table say
pub record IsTableOf (file : List ℕ) (kind : TableKind) : Type 0 where
  pub long : TABLE_HEADERS ≤ length file
  pub content : content_type file ≡ CONTENT_TYPE
  pub sort : subtype file ≡ TABLE
  pub whole : table_offset file ≡ 0
  pub name : named_kind (table_name file) ≡ Some kind
  pub said : table_size file ≡ length file - TABLE_HEADERS
  pub fits : IsTrue (fits_kind kind (length file - TABLE_HEADERS))

-- a file has the headers of bytes to be loaded, 1 to 65,536 bytes behind them, as many as they say, and the check of these
pub record IsLoadOf (file : List ℕ) : Type 0 where
  pub long : LOAD_HEADERS ≤ length file
  pub content : content_type file ≡ CONTENT_TYPE
  pub sort : subtype file ≡ LOAD
  pub said : load_size file ≡ length file - LOAD_HEADERS
  pub some_bytes : 0 < length file - LOAD_HEADERS
  pub few : length file - LOAD_HEADERS ≤ 65536
  pub check : load_crc file ≡ crc_of 0 (drop LOAD_HEADERS file)

-- whether a file's bytes are to be loaded into memory, where it has no fault
unfoldable pub is_load : List ℕ → Bool
is_load file = subtype file == LOAD

-- the kind of a table file; none where the file has a fault or is no table
unfoldable pub kind_of_file : List ℕ → Option TableKind
kind_of_file file = if is_none (file_fault_of file) && not (is_load file) then named_kind (table_name file) else None

-- the bytes behind the headers
unfoldable pub payload_of_file : List ℕ → List ℕ
payload_of_file file = drop (if is_load file then LOAD_HEADERS else TABLE_HEADERS) file

-- what a table file is read as
pub record IsTableFile (file : List ℕ) (kind : TableKind) (payload : List ℕ) : Type 0 where
  pub kind_is : kind_of_file file ≡ Some kind
  pub payload_is : payload ≡ payload_of_file file
  pub size : IsTable kind (length payload)

-- what a load file is read as
pub record IsLoadFile (file : List ℕ) (at : ℕ) (bytes : List ℕ) : Type 0 where
  pub kind_is : kind_of_file file ≡ None
  pub load : is_load file ≡ true
  pub at_is : at ≡ address_of_file file
  pub bytes_are : bytes ≡ payload_of_file file
  pub size : (0 < length bytes) × (length bytes ≤ 65536)

-- an image shows what a file is
abbrev pub Shows : List ℕ → FileImage → Type 0
Shows file (Table kind payload) = IsTableFile file kind payload.now
Shows file (Load at bytes) = IsLoadFile file at bytes.now
