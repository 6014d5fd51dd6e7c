-- Lemmas on the files of a book.
use Rattle.std.proofs.Common.{◌≡◌, ℕ, zero, suc, ◌+◌, ◌<◌, ◌≤◌, List, [], ◌∷◌, ◌++◌, length, drop, map, get_or, Option, refl, ap, sym, subst, ◌∙◌, append_assoc, append-nil, arith}
use Rattle.std.specs.Prelude.{Result, Ok, Err}
use Rattle.std.proofs.lemmas.List.{map-append}
use Rattle.table_files.specs.declared.kinds.TableKind.{TableKind}
use Rattle.table_forms.specs.declared.fault.TableFault.{TableFault}
use Rattle.table_forms.specs.Judging.{IsTaken}
use Rattle.table_forms.specs.Reading.{First, IsTakenAs}
use Rattle.load_books.specs.declared.fault.BookFault.{BookFault}
use Rattle.load_books.specs.declared.fault.BookError.{BookError}
use Rattle.load_books.specs.declared.fault.BookError.TheVariants as errors
use Rattle.load_books.specs.declared.forms.BookForms.{BookForms}
use Rattle.load_books.specs.declared.contents.FilePart.{FilePart}
use Rattle.load_books.specs.declared.files.BookFile.{BookFile}
use Rattle.load_books.specs.Contents.{FileText, file_text}
use Rattle.load_books.specs.Files.{FileMade, file_of, file_made, file_said, then_files, files_said, with_files, IsAccepted, AreAccepted, GivesBytes, GivesFiles}

-- a table that is taken as one that its text names is one
pub taken_as : (r : Result First TableFault) (file : List ℕ) → IsTakenAs r file → (kind : TableKind) × IsTaken file kind
taken_as (Ok first) file h = (first.kind, h)
taken_as (Err fault) file h = absurd h

-- ---- all files

files_first : (f : BookForms) (epoch : Option ℕ) (t : FileText) (more : List FileText) → files_said f epoch (t ∷ more) ≡ then_files t (file_said f epoch t) (files_said f epoch more)
unfolding files_said
files_first f epoch t more = refl

files_none : (f : BookForms) (epoch : Option ℕ) → files_said f epoch [] ≡ Ok []
unfolding files_said
files_none f epoch = refl

part_next : (ps : List FilePart) (i : ℕ) (d : FilePart) → i < length ps → drop i ps ≡ get_or ps i d ∷ drop (suc i) ps
part_next [] i d h = absurd (omega (arith, h))
part_next (p ∷ ps) zero d h = refl
part_next (p ∷ ps) (suc i) d h = part_next ps i d (omega (arith, h))

files_next : (f : BookForms) (epoch : Option ℕ) (ps : List FilePart) (i : ℕ) (d : FilePart) → i < length ps → files_said f epoch (map file_text (drop i ps)) ≡ then_files (file_text (get_or ps i d)) (file_said f epoch (file_text (get_or ps i d))) (files_said f epoch (map file_text (drop (i + 1) ps)))
files_next f epoch ps i d h =
    let one : i + 1 ≡ suc i = omega arith in
    rw one (ap (λ (qs : List FilePart). files_said f epoch (map file_text qs)) (part_next ps i d h) ∙ files_first f epoch (file_text (get_or ps i d)) (map file_text (drop (suc i) ps)))

fronts_join : (front : List FileMade) (t : FileText) (bytes : List ℕ) (more : Result (List FileMade) BookFault) → with_files front (then_files t (Ok bytes) more) ≡ with_files (front ++ file_of t bytes ∷ []) more
fronts_join front t bytes (Ok files) = ap (λ (fs : List FileMade). Ok fs) (sym (append_assoc front (file_of t bytes ∷ []) files))
fronts_join front t bytes (Err fault) = refl

-- a file was made
pub file_follows : (f : BookForms) (epoch : Option ℕ) (ps : List FilePart) (i : ℕ) (d : FilePart) (old new : List BookFile) (file : BookFile) → i < length ps → file_said f epoch (file_text (get_or ps i d)) ≡ Ok file.bytes.items → file_made file ≡ file_of (file_text (get_or ps i d)) file.bytes.items → new ≡ old ++ file ∷ [] → with_files (map file_made old) (files_said f epoch (map file_text (drop i ps))) ≡ with_files (map file_made new) (files_said f epoch (map file_text (drop (i + 1) ps)))
file_follows f epoch ps i d old new file h said is added =
    let t = file_text (get_or ps i d) in
    let rest = files_said f epoch (map file_text (drop (i + 1) ps)) in
    ap (with_files (map file_made old)) (files_next f epoch ps i d h ∙ ap (λ (r : Result (List ℕ) BookFault). then_files t r rest) said)
    ∙ fronts_join (map file_made old) t file.bytes.items rest
    ∙ ap (λ (m : FileMade). with_files (map file_made old ++ m ∷ []) rest) (sym is)
    ∙ ap (λ (fs : List FileMade). with_files fs rest) (sym (map-append file_made old (file ∷ [])) ∙ ap (map file_made) (sym added))

-- a file is refused
pub file_fails : (f : BookForms) (epoch : Option ℕ) (ps : List FilePart) (i : ℕ) (d : FilePart) (front : List FileMade) (fault : BookFault) → i < length ps → file_said f epoch (file_text (get_or ps i d)) ≡ Err fault → with_files front (files_said f epoch (map file_text (drop i ps))) ≡ Err fault
file_fails f epoch ps i d front fault h said =
    ap (with_files front) (files_next f epoch ps i d h ∙ ap (λ (r : Result (List ℕ) BookFault). then_files (file_text (get_or ps i d)) r (files_said f epoch (map file_text (drop (i + 1) ps)))) said)

past_all : (ps : List FilePart) (i : ℕ) → length ps ≤ i → drop i ps ≡ []
past_all [] zero h = refl
past_all [] (suc i) h = refl
past_all (p ∷ ps) zero h = absurd (omega (arith, h))
past_all (p ∷ ps) (suc i) h = past_all ps i (omega (arith, h))

-- all files were made
pub files_end : (f : BookForms) (epoch : Option ℕ) (ps : List FilePart) (i : ℕ) (front : List FileMade) → length ps ≤ i → with_files front (files_said f epoch (map file_text (drop i ps))) ≡ Ok front
files_end f epoch ps i front h =
    ap (λ (qs : List FilePart). with_files front (files_said f epoch (map file_text qs))) (past_all ps i h)
    ∙ ap (with_files front) (files_none f epoch)
    ∙ ap (λ (fs : List FileMade). Ok fs) (append-nil front)

pub files_begin : (r : Result (List FileMade) BookFault) → r ≡ with_files [] r
files_begin (Ok files) = refl
files_begin (Err fault) = refl

accepted_last : (ms : List FileMade) (m : FileMade) → AreAccepted ms → IsAccepted m.kind m.bytes → AreAccepted (ms ++ m ∷ [])
accepted_last [] m all h = (h, tt)
accepted_last (n ∷ ms) m all h = (all.0, accepted_last ms m all.1 h)

-- one accepted file more
pub accepted_more : (old new : List BookFile) (file : BookFile) → AreAccepted (map file_made old) → IsAccepted file.kind file.bytes.items → new ≡ old ++ file ∷ [] → AreAccepted (map file_made new)
accepted_more old new file all h added =
    subst AreAccepted (sym (map-append file_made old (file ∷ [])) ∙ ap (map file_made) (sym added)) (accepted_last (map file_made old) (file_made file) all h)

-- the first file that is refused
pub file_refused : (said : Result (List FileMade) BookFault) (f : BookForms) (epoch : Option ℕ) (ps : List FilePart) (i : ℕ) (d : FilePart) (front : List FileMade) (e : BookError) → said ≡ with_files front (files_said f epoch (map file_text (drop i ps))) → i < length ps → GivesBytes (file_said f epoch (file_text (get_or ps i d))) (Err e) → GivesFiles said (Err e)
file_refused said f epoch ps i d front (errors.Memory e) so_far h given = tt
file_refused said f epoch ps i d front (errors.Book fault) so_far h given = so_far ∙ file_fails f epoch ps i d front fault h given
