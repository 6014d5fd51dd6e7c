-- The lines of a plan, in which names of files give way to their numbers.
use Rattle.std.specs.Prelude.{◌≡◌, ℕ, ◌+◌, if◌then◌else◌, List, [], ◌∷◌, ◌++◌, codes, decimal, Option, Some, None, Result, Ok, Err}
use Rattle.std.specs.Str.{bytes_eq}
use Rattle.row_forms.specs.Words.{words}
use Rattle.row_forms.specs.Rows.{behind_key, spaced}
use Rattle.plan_text.specs.Lines.{line_text}
use Rattle.load_books.specs.declared.fault.BookReason.{BookReason}
use Rattle.load_books.specs.declared.fault.BookReason.TheVariants as reasons
use Rattle.load_books.specs.declared.fault.BookFault.{BookFault}
use Rattle.load_books.specs.declared.fault.BookFault.TheVariants as faults
use Rattle.load_books.specs.declared.fault.BookError.{BookError}
use Rattle.load_books.specs.declared.fault.BookError.TheVariants as errors
use Rattle.load_books.specs.declared.fault.LineError.{LineError}
use Rattle.load_books.specs.declared.fault.LineError.TheVariants as line_errors
use Rattle.load_books.specs.declared.titles.FileKind.{FileKind}
use Rattle.load_books.specs.declared.titles.FileKind.TheVariants as kinds
use Rattle.load_books.specs.declared.contents.Place.{Place}
use Rattle.load_books.specs.declared.naming.ShownLine.{ShownLine}
use Rattle.load_books.specs.Cuts.{words_in}
use Rattle.load_books.specs.Titles.{is_part_name}
use Rattle.load_books.specs.Contents.{FileText, place_of}
use Rattle.load_books.specs.Lines.{book_line}

-- the number of a file of the kind that is wanted, by the kind that it has: among all files, or among loads
abbrev pub of_kind : FileKind → FileKind → Place → Result ℕ BookReason
of_kind kinds.Table kinds.Table place = Ok place.file
of_kind kinds.Table kinds.Load place = Err reasons.Activates
of_kind kinds.Load kinds.Table place = Err reasons.Loads
of_kind kinds.Load kinds.Load place = Ok place.load

abbrev pub numbered : FileKind → Option Place → Result ℕ BookReason
numbered wanted None = Err reasons.Unknown
numbered wanted (Some place) = of_kind wanted place.kind place

abbrev pub some_number : Result ℕ BookReason → Result (Option ℕ) BookReason
some_number (Ok n) = Ok (Some n)
some_number (Err reason) = Err reason

-- the number that a word stands for, where it is a name
abbrev pub name_said : FileKind → List FileText → List ℕ → Result (Option ℕ) BookReason
name_said wanted files word = if is_part_name word then some_number (numbered wanted (place_of 1 1 word files)) else Ok None

-- a word as it stands, or behind a key the number that it stands for
abbrev pub word_shown : List ℕ → List ℕ → Option ℕ → List ℕ
word_shown key word None = word
word_shown key word (Some n) = key ++ decimal n

-- words of which the first may stand for a number
abbrev pub first_shown : List ℕ → List ℕ → Result (Option ℕ) BookReason → List (List ℕ) → Result (List (List ℕ)) BookReason
first_shown key word (Ok number) ws = Ok (word_shown key word number ∷ ws)
first_shown key word (Err reason) ws = Err reason

-- the words behind `activate`: the name of a table is its number among all files
abbrev pub activate_others : List FileText → List (List ℕ) → Result (List (List ℕ)) BookReason
activate_others files [] = Ok []
activate_others files (word ∷ ws) = first_shown [] word (name_said kinds.Table files word) ws

abbrev pub keyed_others : List FileText → Option (List ℕ) → List ℕ → List (List ℕ) → Result (List (List ℕ)) BookReason
keyed_others files None word ws = Ok (word ∷ ws)
keyed_others files (Some name) word ws = first_shown (codes "load=") word (name_said kinds.Load files name) ws

-- the words behind `mm.load_file`: behind `load=` the name of a load is its number among loads
abbrev pub load_others : List FileText → List (List ℕ) → Result (List (List ℕ)) BookReason
load_others files [] = Ok []
load_others files (word ∷ ws) = keyed_others files (behind_key (codes "load") word) word ws

-- a word in front of others
abbrev pub onto_line : List ℕ → Result (List (List ℕ)) BookReason → Result (List (List ℕ)) BookReason
onto_line word (Ok ws) = Ok (word ∷ ws)
onto_line word (Err reason) = Err reason

-- the words behind `send`
abbrev pub send_others : List FileText → List (List ℕ) → Result (List (List ℕ)) BookReason
send_others files [] = Ok []
send_others files (command ∷ ws) = if bytes_eq command (codes "mm.load_file") then onto_line command (load_others files ws) else Ok (command ∷ ws)

-- the words of a plan's line, in which a name gives way to its number
abbrev pub line_said : List FileText → List (List ℕ) → Result (List (List ℕ)) BookReason
line_said files [] = Ok []
line_said files (first ∷ others) =
    if bytes_eq first (codes "activate") then onto_line first (activate_others files others)
    else if bytes_eq first (codes "send") then onto_line first (send_others files others)
    else Ok (first ∷ others)

-- the text of a line's words
abbrev pub line_shown : Result (List (List ℕ)) BookReason → Result (List ℕ) BookReason
line_shown (Ok ws) = Ok (line_text ws)
line_shown (Err reason) = Err reason

abbrev pub then_plan : ℕ → Result (List ℕ) BookReason → Result (List ℕ) BookFault → Result (List ℕ) BookFault
then_plan line (Ok text) (Ok more) = Ok (text ++ more)
then_plan line (Ok text) (Err fault) = Err fault
then_plan line (Err reason) said = Err (faults.Line line reason)

-- lines of the plan whose part begins at this line of the book, the first being its line n: line by line, names give way to numbers
unfoldable pub plan_said : ℕ → List FileText → ℕ → List (List ℕ) → Result (List ℕ) BookFault
plan_said part files n [] = Ok []
plan_said part files n (line ∷ more) = then_plan (book_line part n) (line_shown (line_said files (words_in line))) (plan_said part files (n + 1) more)

-- ---- what the code gives

-- the text of a line as the code holds it
abbrev pub shown_text : ShownLine → List ℕ
shown_text l = l.begin.now ++ (word_shown l.key.now l.word.now l.number ++ (spaced (words l.rest.now) ++ 10 ∷ []))

abbrev pub GivesShown : Result (List ℕ) BookReason → Result ShownLine BookReason → Type 0
GivesShown said (Ok l) = said ≡ Ok (shown_text l)
GivesShown said (Err reason) = said ≡ Err reason

-- what is said are the new bytes; a reason is told only where there is one; and memory may end
abbrev pub GivesLine : Result (List ℕ) BookReason → List ℕ → Result (Unit {0}) LineError → Type 0
GivesLine said new (Ok done) = said ≡ Ok new
GivesLine said new (Err (line_errors.Memory e)) = Unit {0}
GivesLine said new (Err (line_errors.Because reason)) = said ≡ Err reason

abbrev pub GivesPlan : Result (List ℕ) BookFault → List ℕ → Result (Unit {0}) BookError → Type 0
GivesPlan said new (Ok done) = said ≡ Ok new
GivesPlan said new (Err (errors.Memory e)) = Unit {0}
GivesPlan said new (Err (errors.Book fault)) = said ≡ Err fault
