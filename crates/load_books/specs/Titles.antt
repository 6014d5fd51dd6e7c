-- The lines that begin parts, and the names of files.
use Rattle.std.specs.Prelude.{ℕ, ◌==◌, Bool, false, ◌&&◌, ◌||◌, if◌then◌else◌, nat_le, nat_lt, List, [], ◌∷◌, length, codes, Result, Ok, Err}
use Rattle.std.specs.List.{list_all}
use Rattle.std.specs.Str.{bytes_eq}
use Rattle.load_books.specs.declared.fault.BookReason.{BookReason}
use Rattle.load_books.specs.declared.fault.BookReason.TheVariants as reasons
use Rattle.load_books.specs.declared.titles.FileKind.{FileKind}
use Rattle.load_books.specs.declared.titles.FileKind.TheVariants as kinds
use Rattle.load_books.specs.declared.titles.Title.{Title}
use Rattle.load_books.specs.declared.titles.Title.TheVariants as titles

abbrev pub is_letter : ℕ → Bool
is_letter b = (nat_le 65 b && nat_le b 90) || (nat_le 97 b && nat_le b 122)

abbrev pub is_name_byte : ℕ → Bool
is_name_byte b = is_letter b || (nat_le 48 b && nat_le b 57) || (b == 95) || (b == 46) || (b == 45)

-- a name: a letter, and behind it letters, digits, `_`, `.` and `-`, 64 bytes in all at most
abbrev pub is_part_name : List ℕ → Bool
is_part_name [] = false
is_part_name (b ∷ more) = is_letter b && list_all is_name_byte more && nat_lt (length more) 64

-- what a part is: a file by its kind and its name, or the plan
pub data Titled : Type 0 where
  NamedFile : FileKind → List ℕ → Titled
  ThePlan : Titled

abbrev pub if_named : FileKind → List ℕ → Result Titled BookReason
if_named kind name = if is_part_name name then Ok (NamedFile kind name) else Err reasons.Name

-- the words behind the kind of a file
abbrev pub file_titled : FileKind → List (List ℕ) → Result Titled BookReason
file_titled kind [] = Err reasons.Name
file_titled kind (name ∷ []) = if_named kind name
file_titled kind (name ∷ w ∷ ws) = Err reasons.Kind

-- the words behind `plan`
abbrev pub plan_titled : List (List ℕ) → Result Titled BookReason
plan_titled [] = Ok ThePlan
plan_titled (w ∷ ws) = Err reasons.Kind

-- the words behind `part`
abbrev pub title_said : List (List ℕ) → Result Titled BookReason
title_said [] = Err reasons.Kind
title_said (kind ∷ ws) =
    if bytes_eq kind (codes "table") then file_titled kinds.Table ws
    else if bytes_eq kind (codes "load") then file_titled kinds.Load ws
    else if bytes_eq kind (codes "plan") then plan_titled ws
    else Err reasons.Kind

-- ---- what the code gives

abbrev pub titled_by : Title → Titled
titled_by (titles.File kind name) = NamedFile kind name.now
titled_by titles.Plan = ThePlan
