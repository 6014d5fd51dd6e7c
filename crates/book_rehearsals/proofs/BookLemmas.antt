-- Lemmas on books on a shelf, and on their rehearsals.
use Rattle.std.proofs.Common.{◌≡◌, ℕ, ◌+◌, ◌<◌, ◌^◌, ◌&&◌, List, [], ◌∷◌, ◌++◌, length, map, Some, None, refl, ap, sym, subst, ◌∙◌, arith}
use Rattle.std.specs.Prelude.{if◌then◌else◌}
use Rattle.std.specs.Fmt.{digits as written}
use Rattle.std.proofs.lemmas.List.{map-append, length-map}
use Rattle.fsw_outside.specs.Files.{Stored, Content, file_named}
use Rattle.fsw_outside.specs.Memory.{can_rise}
use Rattle.fsw_outside.specs.TellingLaws.{same_content}
use Rattle.fsw_outside.specs.MemShelf.{content_of, told_content, fault_count}
use Rattle.fsw_outside.specs.declared.mem_shelf.MemShelf.{MemShelf}
use Rattle.subjects.specs.Plans.{Simulated}
use Rattle.rehearsal.specs.Words.{Asked, drill_in}
use Rattle.rehearsal.specs.Beside.{crowd_for}
use Rattle.rehearsal.specs.Promise.{ShelfUse, SinkUse, NoneFailed, Promise}
use Rattle.rehearsal.specs.declared.report.Report.{Report}
use Rattle.load_books.specs.declared.files.BookFile.{BookFile}
use Rattle.load_books.specs.declared.reading.Book.{Book}
use Rattle.load_books.specs.Files.{FileMade, file_made}
use Rattle.load_books.specs.Books.{BookMade, book_made}
use Rattle.ground_books.specs.Manifests.{manifest_said}
use Rattle.ground_books.specs.Built.{Built, file_built, built_said}
use Rattle.ground_runs.specs.Rehearsing.{silent}
use Rattle.book_rehearsals.specs.Shelves.{by_numbers, stored_names, never_opened, file_bytes, HasFiles}
use Rattle.book_rehearsals.specs.ShelvedBooks.{files_in_book, stored_in_book, scenario_name, names_in_book, IsShelved}
use Rattle.book_rehearsals.specs.Rehearsed.{AsksForBook, CanBeRehearsed, CompletesBook}
use Rattle.book_rehearsals.proofs.NumberedLemmas.{names_found}

-- ---- books on a shelf

told_where : (m n : ℕ) (a b : Content) → m ≡ 0 → n ≡ 0 → a ≡ b → (if can_rise m && can_rise n then Some a else None) ≡ Some b
told_where m n a b none no_openings same = rw (none, no_openings) (ap Some same)

told_files : (shelf : MemShelf) (files : List Stored) → content_of shelf ≡ never_opened files → fault_count shelf ≡ 0 → told_content shelf ≡ Some (never_opened files)
told_files shelf files is well = told_where (fault_count shelf) (content_of shelf).openings (content_of shelf) (never_opened files) well (ap (λ (c : Content). c.openings) is) is

same_files : (files : List BookFile) → map file_bytes files ≡ map (λ (m : FileMade). m.bytes) (map file_made files)
same_files [] = refl
same_files (f ∷ more) = ap (λ (l : List (List ℕ)). file_bytes f ∷ l) (same_files more)

found_one : {A : Type 0} (x y : A) (xs ys : List A) → x ∷ xs ≡ y ∷ ys → (x ≡ y) × (xs ≡ ys)
found_one x y xs ys same = (cc, cc)

found_parts : (b : BookMade) → 0 + length (b.scenario ∷ files_in_book b) < 2 ^ 64 → (file_named (stored_in_book b) scenario_name ≡ Some b.scenario) × (map (file_named (stored_in_book b)) (names_in_book b) ≡ map Some (files_in_book b))
unfolding by_numbers
found_parts b small = found_one (file_named (stored_in_book b) scenario_name) (Some b.scenario) (map (file_named (stored_in_book b)) (names_in_book b)) (map Some (files_in_book b)) (names_found 0 (b.scenario ∷ files_in_book b) small)

first_name : (b : BookMade) → stored_names (stored_in_book b) ≡ scenario_name ∷ names_in_book b
unfolding by_numbers
first_name b = refl

-- the shelf that has the files of a book
pub book_shelved : (book : Book) (scenario : List ℕ) (files : List BookFile) (front given : List (List ℕ)) (shelf : MemShelf) → scenario ≡ book.scenario.items → files ≡ book.files.items → 1 + length files < 2 ^ 64
    → HasFiles front (scenario ∷ map file_bytes files) shelf given → IsShelved (book_made book) front shelf given
book_shelved book scenario files front given shelf scenario_is files_are small has =
    let b = book_made book in
    let same : scenario ∷ map file_bytes files ≡ b.scenario ∷ files_in_book b =
    ap (λ (s : List ℕ). s ∷ map file_bytes files) scenario_is ∙ ap (λ (l : List (List ℕ)). b.scenario ∷ l) (same_files files ∙ ap (λ (fs : List BookFile). map (λ (m : FileMade). m.bytes) (map file_made fs)) files_are) in
    let now = subst (λ (l : List (List ℕ)). HasFiles front l shelf given) same has in
    let few : 0 + length (b.scenario ∷ files_in_book b) < 2 ^ 64 = subst (λ (l : List (List ℕ)). 0 + length l < 2 ^ 64) same (omega (arith, small, length-map files file_bytes)) in
    let found = found_parts b few in
    record {
      words = now.words ∙ ap (λ (ws : List (List ℕ)). front ++ ws) (first_name b);
      told = told_files shelf (stored_in_book b) now.content now.faults;
      scenario = found.0;
      files = found.1;
    }

-- ---- files that are built

built_bytes : (files : List FileMade) → map (λ (f : Built). f.bytes) (map file_built files) ≡ map (λ (m : FileMade). m.bytes) files
built_bytes [] = refl
built_bytes (m ∷ more) = ap (λ (l : List (List ℕ)). m.bytes ∷ l) (built_bytes more)

pub built_in_book : (b : BookMade) → map (λ (f : Built). f.bytes) (built_said b) ≡ files_in_book b ++ (b.scenario ∷ manifest_said b ∷ [])
built_in_book b =
    map-append (λ (f : Built). f.bytes) (map file_built b.files) _
    ∙ ap (λ (l : List (List ℕ)). l ++ (b.scenario ∷ manifest_said b ∷ [])) (built_bytes b.files)

-- ---- rehearsals

no_drill : drill_in scenario_name ≡ None
unfolding written drill_in
no_drill = refl

pub book_rehearsed : {O : Type 0} (b : BookMade) (front words : List (List ℕ)) (shelf : MemShelf) (asked : Asked) (report : Report) (subjects : List Simulated) (seen : ShelfUse MemShelf) (out : SinkUse O)
    → IsShelved b front shelf words → seen.told_before ≡ told_content shelf → AsksForBook b words asked → CanBeRehearsed b → NoneFailed seen out → Promise report words subjects seen out silent
    → CompletesBook report b (crowd_for asked.subjects subjects) seen out
book_rehearsed b front words shelf asked report subjects seen out is tells asks can none promise after now =
    let file : drill_in asked.scenario ≡ None = ap drill_in asks.scenario ∙ no_drill in
    let complete = (promise.accepted asked asks.accepted).complete (files_in_book b) b.scenario file can.run none in
    let earlier = complete after now in
    let same : earlier.0 ≡ never_opened (stored_in_book b) = same_content earlier.0 (never_opened (stored_in_book b)) (sym earlier.1 ∙ tells ∙ is.told) in
    let scenario : file_named earlier.0.files asked.scenario ≡ Some b.scenario = ap (λ (c : Content). file_named c.files asked.scenario) same ∙ ap (file_named (stored_in_book b)) asks.scenario ∙ is.scenario in
    let files : map (file_named earlier.0.files) asked.files ≡ map Some (files_in_book b) = ap (λ (c : Content). map (file_named c.files) asked.files) same ∙ ap (λ (ns : List (List ℕ)). map (file_named (stored_in_book b)) ns) asks.files ∙ is.files in
    (earlier.0, earlier.1, earlier.2 (record { named = files; taken = can.taken }) scenario)
