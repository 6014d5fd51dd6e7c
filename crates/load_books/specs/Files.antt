-- The files of a book.
use Rattle.std.specs.Prelude.{◌≡◌, ℕ, if◌then◌else◌, nat_lt, List, [], ◌∷◌, ◌++◌, length, map, Option, Some, None, Result, Ok, Err}
use Rattle.std.specs.List.{AllByRecursion}
use Rattle.std.proofs.Common.{Vec, Global}
use Rattle.table_files.specs.declared.kinds.TableKind.{TableKind}
use Rattle.table_files.specs.Headers.{IsLoadOf}
use Rattle.row_forms.specs.declared.field.Field.{Field}
use Rattle.table_forms.specs.declared.fault.TableFault.{TableFault}
use Rattle.table_forms.specs.declared.forms.TextForms.{TextForms}
use Rattle.table_forms.specs.Judging.{IsTaken}
use Rattle.table_forms.specs.Reading.{table_said}
use Rattle.load_texts.specs.declared.fault.LoadFault.{LoadFault}
use Rattle.load_texts.specs.Loaded.{Named, file_asked}
use Rattle.load_texts.specs.Loads.{load_said}
use Rattle.load_books.specs.declared.fault.BookReason.TheVariants as reasons
use Rattle.load_books.specs.declared.fault.BookFault.{BookFault}
use Rattle.load_books.specs.declared.fault.BookFault.TheVariants as faults
use Rattle.load_books.specs.declared.fault.BookError.{BookError}
use Rattle.load_books.specs.declared.fault.BookError.TheVariants as errors
use Rattle.load_books.specs.declared.titles.FileKind.{FileKind}
use Rattle.load_books.specs.declared.titles.FileKind.TheVariants as kinds
use Rattle.load_books.specs.declared.forms.BookForms.{BookForms}
use Rattle.load_books.specs.declared.files.BookFile.{BookFile}
use Rattle.load_books.specs.Lines.{book_line, table_fault, load_fault}
use Rattle.load_books.specs.Contents.{FileText}

-- what is said of a text that has at most 16,777,216 bytes, of the part that begins at this line
abbrev pub sized : {A : Type 0} → ℕ → List ℕ → Result A BookFault → Result A BookFault
sized part text said = if nat_lt 16777216 (length text) then Err (faults.Line part reasons.Long) else said

-- what tables are read by, with times counted from an epoch
abbrev pub text_forms : BookForms → Option ℕ → TextForms
text_forms f epoch = record { epoch = epoch; commands = f.commands; layouts = f.layouts }

-- faults by the lines of the book
abbrev pub as_table : ℕ → Result (List ℕ) TableFault → Result (List ℕ) BookFault
as_table part (Ok bytes) = Ok bytes
as_table part (Err fault) = Err (faults.Table part (table_fault part fault))

abbrev pub as_load : ℕ → Result (List ℕ) LoadFault → Result (List ℕ) BookFault
as_load part (Ok bytes) = Ok bytes
as_load part (Err fault) = Err (faults.Load part (load_fault part fault))

-- no load of a book asks for a file
abbrev pub unless_asked : ℕ → Option Named → Result (List ℕ) BookFault → Result (List ℕ) BookFault
unless_asked part None said = said
unless_asked part (Some named) said = Err (faults.Line (book_line part named.line) reasons.Asks)

abbrev pub load_filed : List Field → ℕ → List ℕ → Result (List ℕ) BookFault
load_filed fs part text = unless_asked part (file_asked text) (as_load part (load_said fs [] text))

abbrev pub by_kind : BookForms → Option ℕ → FileKind → ℕ → List ℕ → Result (List ℕ) BookFault
by_kind f epoch kinds.Table part text = as_table part (table_said (text_forms f epoch) text)
by_kind f epoch kinds.Load part text = load_filed f.fields.now part text

-- the file of a part, with times counted from an epoch
abbrev pub file_said : BookForms → Option ℕ → FileText → Result (List ℕ) BookFault
file_said f epoch t = sized t.number t.text (by_kind f epoch t.kind t.number t.text)

-- a file that is made
pub record FileMade : Type 0 where
  pub kind : FileKind
  pub name : List ℕ
  pub bytes : List ℕ

abbrev pub file_of : FileText → List ℕ → FileMade
file_of t bytes = record { kind = t.kind; name = t.name; bytes = bytes }

abbrev pub then_files : FileText → Result (List ℕ) BookFault → Result (List FileMade) BookFault → Result (List FileMade) BookFault
then_files t (Ok bytes) (Ok files) = Ok (file_of t bytes ∷ files)
then_files t (Ok bytes) (Err fault) = Err fault
then_files t (Err fault) said = Err fault

-- the files of parts, in their order
unfoldable pub files_said : BookForms → Option ℕ → List FileText → Result (List FileMade) BookFault
files_said f epoch [] = Ok []
files_said f epoch (t ∷ more) = then_files t (file_said f epoch t) (files_said f epoch more)

-- a file that `read_file` accepts as one of its kind: a table whose entries have no fault, or bytes to be loaded
abbrev pub IsAccepted : FileKind → List ℕ → Type 0
IsAccepted kinds.Table file = (kind : TableKind) × IsTaken file kind
IsAccepted kinds.Load file = IsLoadOf file

abbrev pub AreAccepted : List FileMade → Type 0
AreAccepted files = AllByRecursion (λ (m : FileMade). IsAccepted m.kind m.bytes) files

-- ---- what the code gives

abbrev pub file_made : BookFile → FileMade
file_made f = record { kind = f.kind; name = f.name.now; bytes = f.bytes.items }

-- what is said are these bytes; a fault is told only where there is one; and memory may end
abbrev pub GivesBytes : Result (List ℕ) BookFault → Result (Vec ℕ Global) BookError → Type 0
GivesBytes said (Ok bytes) = said ≡ Ok bytes.items
GivesBytes said (Err (errors.Memory e)) = Unit {0}
GivesBytes said (Err (errors.Book fault)) = said ≡ Err fault

abbrev pub GivesFiles : Result (List FileMade) BookFault → Result (Vec BookFile Global) BookError → Type 0
GivesFiles said (Ok files) = said ≡ Ok (map file_made files.items)
GivesFiles said (Err (errors.Memory e)) = Unit {0}
GivesFiles said (Err (errors.Book fault)) = said ≡ Err fault

-- files in front of others
abbrev pub with_files : List FileMade → Result (List FileMade) BookFault → Result (List FileMade) BookFault
with_files front (Ok files) = Ok (front ++ files)
with_files front (Err fault) = Err fault
