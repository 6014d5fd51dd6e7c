-- Lemmas on the shelf that gets the files of a book.
use Rattle.std.proofs.Common.{◌≡◌, ℕ, ◌+◌, ◌<◌, ◌≤◌, ◌^◌, List, [], ◌∷◌, ◌++◌, length, take, get_or, map, None, ap, sym, subst, ◌∙◌, append_assoc, arith}
use Rattle.std.specs.Prelude.{decimal}
use Rattle.std.proofs.lemmas.List.{map-append, map_more, length-map, length-take-le, take_all}
use Rattle.fsw_outside.specs.Files.{Stored, Content, file_named}
use Rattle.fsw_outside.specs.MemShelf.{content_of, fault_count}
use Rattle.fsw_outside.specs.declared.mem_shelf.MemShelf.{MemShelf}
use Rattle.book_rehearsals.specs.Shelves.{under_number, by_numbers, stored_names, never_opened, file_bytes, IsAdded, HasFiles}
use Rattle.load_books.specs.declared.files.BookFile.{BookFile}
use Rattle.book_rehearsals.proofs.NumberedLemmas.{not_there, numbers_more}

-- the file of number 0 on an empty shelf
pub first_added : (bytes : List ℕ) (old new : MemShelf) (front now : List (List ℕ)) → content_of old ≡ never_opened [] → fault_count old ≡ 0 → IsAdded 0 bytes old new front now → HasFiles front (bytes ∷ []) new now
unfolding by_numbers
first_added bytes old new front now empty well added = record {
  content = added.content ∙ ap (λ (c : Content). record c { files = c.files ++ under_number 0 bytes ∷ [] }) empty;
  faults = added.faults ∙ well;
  closed = added.closed;
  words = added.words;
}

-- one file more, under the next number
pub next_added : (number : ℕ) (bytes : List ℕ) (files front before now : List (List ℕ)) (old new : MemShelf) → number ≡ length files → HasFiles front files old before → IsAdded number bytes old new before now → HasFiles front (files ++ bytes ∷ []) new now
next_added number bytes files front before now old new is has added =
    let last : 0 + length files ≡ number = omega (arith, is) in
    let more : by_numbers 0 (files ++ bytes ∷ []) ≡ by_numbers 0 files ++ under_number number bytes ∷ [] =
    numbers_more 0 files bytes ∙ ap (λ (k : ℕ). by_numbers 0 files ++ under_number k bytes ∷ []) last in
    record {
      content = added.content ∙ ap (λ (c : Content). record c { files = c.files ++ under_number number bytes ∷ [] }) has.content ∙ ap never_opened (sym more);
      faults = added.faults ∙ has.faults;
      closed = added.closed;
      words = added.words ∙ ap (λ (ws : List (List ℕ)). ws ++ decimal number ∷ []) has.words
          ∙ append_assoc front (stored_names (by_numbers 0 files)) (decimal number ∷ [])
          ∙ ap (λ (ws : List (List ℕ)). front ++ ws) (sym (ap stored_names more ∙ map-append (λ (f : Stored). f.name) (by_numbers 0 files) (under_number number bytes ∷ [])));
    }

-- the scenario and the files up to one of them
abbrev pub files_to : List ℕ → List BookFile → ℕ → List (List ℕ)
files_to scenario files i = scenario ∷ map file_bytes (take i files)

length_to : (scenario : List ℕ) (files : List BookFile) (i : ℕ) → i < length files → length (files_to scenario files i) ≡ i + 1
length_to scenario files i within =
    let few : length (map file_bytes (take i files)) ≡ i = length-map (take i files) file_bytes ∙ length-take-le i files (omega (arith, within)) in
    omega (arith, few)

-- no file has the next number
pub next_not_there : (shelf : MemShelf) (front words : List (List ℕ)) (scenario : List ℕ) (files : List BookFile) (i : ℕ) → i < length files → i + 1 < 2 ^ 64 → HasFiles front (files_to scenario files i) shelf words
    → file_named (content_of shelf).files (decimal (i + 1)) ≡ None
next_not_there shelf front words scenario files i within small has =
    let long = length_to scenario files i within in
    ap (λ (c : Content). file_named c.files (decimal (i + 1))) has.content
    ∙ not_there (i + 1) 0 (files_to scenario files i) (omega (arith, long)) small

-- the next file of the book
pub next_of_book : (scenario : List ℕ) (files : List BookFile) (i : ℕ) (file : BookFile) (bytes : List ℕ) (front before now : List (List ℕ)) (old new : MemShelf) → i < length files → file ≡ get_or files i file → bytes ≡ file.bytes.items
    → HasFiles front (files_to scenario files i) old before → IsAdded (i + 1) bytes old new before now → HasFiles front (files_to scenario files (i + 1)) new now
next_of_book scenario files i file bytes front before now old new within found filled has added =
    let long = length_to scenario files i within in
    let more : files_to scenario files i ++ bytes ∷ [] ≡ files_to scenario files (i + 1) =
    ap (λ (l : List (List ℕ)). scenario ∷ l)
    (ap (λ (b : List ℕ). map file_bytes (take i files) ++ b ∷ []) (filled ∙ ap file_bytes found) ∙ sym (map_more file_bytes files i file within)) in
    subst (λ (l : List (List ℕ)). HasFiles front l new now) more (next_added (i + 1) bytes (files_to scenario files i) front before now old new (sym long) has added)

-- the last one
pub all_of_book : (scenario : List ℕ) (files : List BookFile) (i : ℕ) (front words : List (List ℕ)) (shelf : MemShelf) → length files ≤ i → HasFiles front (files_to scenario files i) shelf words → HasFiles front (scenario ∷ map file_bytes files) shelf words
all_of_book scenario files i front words shelf past has =
    subst (λ (fs : List BookFile). HasFiles front (scenario ∷ map file_bytes fs) shelf words) (take_all i files past) has
