-- Loops over files and entries: what is left says what all of them say.
use Rattle.std.proofs.Common.{◌≡◌, Bool, ◌||◌, false, ℕ, ◌+◌, ◌-◌, ◌<◌, ◌≤◌, List, [], ◌∷◌, length, drop, get_or, Option, Some, None, option_map, refl, sym, ◌∙◌, ap, arith}
use Rattle.std.specs.List.{list_any}
use Rattle.std.proofs.lemmas.List.{drop_more, drop_all}
use Rattle.table_files.specs.Files.{file_at}
use Rattle.table_files.specs.Headers.{IsTableFile, IsLoadFile}
use Rattle.table_files.specs.declared.kinds.TableKind.{TableKind}
use Rattle.memory_window.specs.declared.regions.Region.{Region}
use Rattle.active_tables.specs.declared.loading.TablesFault.{TablesFault}
use Rattle.active_tables.specs.Tables.{said_or, first_said, entry_fault_in, fault_at, tables_fault, refused_in, region_fault, TableSet, blank_tables, by_file, with_file, tables_of}

-- the front of what is left
front : {A : Type 0} (xs : List A) (i : ℕ) (d x : A) → i < length xs → x ≡ get_or xs i d → drop i xs ≡ x ∷ drop (i + 1) xs
front xs i d x within is = drop_more xs i d within ∙ ap (λ y. y ∷ drop (i + 1) xs) (sym is)

-- the file of a number
pub file_back : (files : List (List ℕ)) (i : ℕ) → file_at files (i + 1) ≡ get_or files i []
file_back files i = ap (λ (n : ℕ). get_or files n []) (omega arith)

-- of a file of which nothing is said
pub said_on : {A : Type 0} (say : List ℕ → Option A) (files : List (List ℕ)) (i : ℕ) → i < length files → say (file_at files (i + 1)) ≡ None
    → first_said say (1 + i) (drop i files) ≡ first_said say (1 + (i + 1)) (drop (i + 1) files)
unfolding first_said
said_on say files i within none =
    rw (front files i [] (file_at files (i + 1)) within (file_back files i), none) (ap (λ (k : ℕ). first_said say k (drop (i + 1) files)) (omega arith))

-- of a file of which something is said
pub said_here : {A : Type 0} (say : List ℕ → Option A) (files : List (List ℕ)) (i : ℕ) (said : A) → i < length files → say (file_at files (i + 1)) ≡ Some said
    → first_said say (1 + i) (drop i files) ≡ Some (i + 1, said)
unfolding first_said
said_here {A} say files i said within some =
    rw (front files i [] (file_at files (i + 1)) within (file_back files i), some) (ap (λ (k : ℕ). Some (k, said)) (omega arith))

-- of no files
pub said_none : {A : Type 0} (say : List ℕ → Option A) (files : List (List ℕ)) (n i : ℕ) → length files ≤ i → first_said say n (drop i files) ≡ None
unfolding first_said
said_none say files n i end = rw (drop_all i files end) refl

-- the entry that is refused
pub region_is : (regions : List Region) (files : List (List ℕ)) (place : Option (ℕ × ℕ)) → first_said (refused_in regions) 1 files ≡ place → place ≡ region_fault regions files
unfolding region_fault
region_is regions files place is = sym is

-- what is said of what is left, one file more
said_step : {A : Type 0} (say : List ℕ → Option A) (files : List (List ℕ)) (i : ℕ) → i < length files
    → first_said say (i + 1) (drop i files) ≡ said_or (i + 1) (say (file_at files (i + 1))) (first_said say (i + 1 + 1) (drop (i + 1) files))
unfolding first_said
said_step say files i within = rw (front files i [] (file_at files (i + 1)) within (file_back files i)) refl

-- what is said of the files from number n on, by what is said behind it
pub said_before : {A : Type 0} (say : List ℕ → Option A) (files : List (List ℕ)) (n : ℕ) → 0 < n → n ≤ length files
    → said_or n (say (file_at files n)) (first_said say (n + 1) (drop n files)) ≡ first_said say ((n - 1) + 1) (drop (n - 1) files)
said_before say files n some within =
    let back : (n - 1) + 1 ≡ n = omega arith in
    ap (λ (k : ℕ). said_or k (say (file_at files k)) (first_said say (k + 1) (drop k files))) (sym back)
    ∙ sym (said_step say files (n - 1) (omega arith))

-- the fault of all files
pub fault_of_all : (files : List (List ℕ)) (left : ℕ) (found : Option TablesFault) → left ≤ 0 → found ≡ option_map fault_at (first_said entry_fault_in (left + 1) (drop left files)) → found ≡ tables_fault files
unfolding tables_fault
fault_of_all files left found none is =
    let first : left ≡ 0 = omega (arith, none) in
    is ∙ ap (λ (k : ℕ). option_map fault_at (first_said entry_fault_in (k + 1) (drop k files))) first

-- the tables of what is left, one file more
pub tables_on : (files : List (List ℕ)) (i : ℕ) → i < length files → tables_of (drop i files) ≡ with_file (tables_of (drop (i + 1) files)) (file_at files (i + 1))
unfolding tables_of
tables_on files i within = rw (front files i [] (file_at files (i + 1)) within (file_back files i)) refl

-- and of no files
pub tables_none : (files : List (List ℕ)) (i : ℕ) → length files ≤ i → tables_of (drop i files) ≡ blank_tables
unfolding tables_of
tables_none files i end = rw (drop_all i files end) refl

-- what is said of a file, by its image
pub of_table : {A : Type 0} (none : A) (say : TableKind → List ℕ → A) (file payload : List ℕ) (kind : TableKind) → IsTableFile file kind payload → say kind payload ≡ by_file none say file
unfolding by_file
of_table none say file payload kind table = rw (table.kind_is) (ap (say kind) table.payload_is)

pub of_load : {A : Type 0} (none : A) (say : TableKind → List ℕ → A) (file bytes : List ℕ) (at : ℕ) → IsLoadFile file at bytes → none ≡ by_file none say file
unfolding by_file
of_load none say file bytes at load = rw (load.kind_is) refl

-- the tables of the files from number n on, by those behind it
pub tables_before : (files : List (List ℕ)) (n : ℕ) (tables : TableSet) → 0 < n → n ≤ length files → tables ≡ tables_of (drop n files) → with_file tables (file_at files n) ≡ tables_of (drop (n - 1) files)
tables_before files n tables some within is =
    let back : (n - 1) + 1 ≡ n = omega arith in
    ap (λ (t : TableSet). with_file t (file_at files n)) is
    ∙ ap (λ (k : ℕ). with_file (tables_of (drop k files)) (file_at files k)) (sym back)
    ∙ sym (tables_on files (n - 1) (omega arith))

-- whether something holds of one of the files that are left, by the first of them
pub any_step : (holds : List ℕ → Bool) (files : List (List ℕ)) (i : ℕ) → i < length files → list_any holds (drop i files) ≡ (holds (file_at files (i + 1)) || list_any holds (drop (i + 1) files))
any_step holds files i within = ap (list_any holds) (front files i [] (file_at files (i + 1)) within (file_back files i))

pub any_none : (holds : List ℕ → Bool) (files : List (List ℕ)) (i : ℕ) → length files ≤ i → list_any holds (drop i files) ≡ false
any_none holds files i end = ap (list_any holds) (drop_all i files end)
