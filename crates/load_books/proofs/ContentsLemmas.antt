-- Lemmas on the parts of a book.
use Rattle.std.proofs.Common.{◌≡◌, ℕ, zero, suc, ◌+◌, ◌<◌, ◌≤◌, true, false, List, [], ◌∷◌, length, drop, map, get_or, Option, Some, None, refl, ap, sym, ◌∙◌, arith}
use Rattle.std.specs.Prelude.{if◌then◌else◌, ◌^◌, IfSome, Result, Ok, Err}
use Rattle.std.specs.Str.{bytes_eq}
use Rattle.load_books.specs.declared.cuts.PartLine.{PartLine}
use Rattle.load_books.specs.declared.contents.FilePart.{FilePart}
use Rattle.load_books.specs.declared.contents.Place.{Place}
use Rattle.load_books.specs.declared.titles.FileKind.{FileKind}
use Rattle.load_books.specs.declared.titles.FileKind.TheVariants as kinds
use Rattle.row_forms.specs.Words.{words}
use Rattle.load_books.specs.declared.contents.BookParts.{BookParts}
use Rattle.load_books.specs.declared.fault.BookReason.{BookReason}
use Rattle.load_books.specs.declared.fault.BookFault.{BookFault}
use Rattle.load_books.specs.declared.fault.LineError.{LineError}
use Rattle.load_books.specs.declared.fault.LineError.TheVariants as line_errors
use Rattle.load_books.specs.Cuts.{Part, part_of, cut_of, parts_from}
use Rattle.load_books.specs.Contents.{FileText, BookText, file_text, loads_behind, place_of, part_added, then_added, all_added, error_on, GivesPart, GivesParts}

-- how much is left behind a line that begins a part
abbrev pub left_behind : Option PartLine → ℕ
left_behind None = 0
left_behind (Some p) = 1 + length p.rest.now

-- ---- places

place_first : (n m : ℕ) (name : List ℕ) (f : FileText) (more : List FileText) → place_of n m name (f ∷ more) ≡ (if bytes_eq f.name name then Some (record { kind = f.kind; file = n; load = m }) else place_of (n + 1) (loads_behind f.kind m) name more)
unfolding place_of
place_first n m name f more = refl

place_nowhere : (n m : ℕ) (name : List ℕ) → place_of n m name [] ≡ None
unfolding place_of
place_nowhere n m name = refl

abbrev place_at : ℕ → ℕ → List ℕ → FilePart → Option Place → Option Place
place_at n m name f other = if bytes_eq f.name.now name then Some (record { kind = f.kind; file = n; load = m }) else other

place_next : (fs : List FilePart) (i : ℕ) (d : FilePart) (n m : ℕ) (name : List ℕ) → i < length fs → place_of n m name (map file_text (drop i fs)) ≡ place_at n m name (get_or fs i d) (place_of (n + 1) (loads_behind (get_or fs i d).kind m) name (map file_text (drop (suc i) fs)))
place_next [] i d n m name h = absurd (omega (arith, h))
place_next (f ∷ fs) zero d n m name h = place_first n m name (file_text f) (map file_text fs)
place_next (f ∷ fs) (suc i) d n m name h = place_next fs i d n m name (omega (arith, h))

place_step : (fs : List FilePart) (i : ℕ) (d : FilePart) (n m : ℕ) (name : List ℕ) → i < length fs → place_of n m name (map file_text (drop i fs)) ≡ place_at n m name (get_or fs i d) (place_of (n + 1) (loads_behind (get_or fs i d).kind m) name (map file_text (drop (i + 1) fs)))
place_step fs i d n m name h = let one : i + 1 ≡ suc i = omega arith in rw one (place_next fs i d n m name h)

pub place_found : (fs : List FilePart) (i : ℕ) (d : FilePart) (n m : ℕ) (name : List ℕ) → i < length fs → true ≡ bytes_eq (get_or fs i d).name.now name → place_of n m name (map file_text (drop i fs)) ≡ Some (record { kind = (get_or fs i d).kind; file = n; load = m })
place_found fs i d n m name h found = place_step fs i d n m name h ∙ (let t = sym found in rw t refl)

pub place_passed : (fs : List FilePart) (i : ℕ) (d : FilePart) (n m r : ℕ) (name : List ℕ) → i < length fs → false ≡ bytes_eq (get_or fs i d).name.now name → r ≡ loads_behind (get_or fs i d).kind m → place_of n m name (map file_text (drop i fs)) ≡ place_of (n + 1) r name (map file_text (drop (i + 1) fs))
place_passed fs i d n m r name h found e =
    place_step fs i d n m name h ∙ (let t = sym found in rw t refl) ∙ ap (λ (k : ℕ). place_of (n + 1) k name (map file_text (drop (i + 1) fs))) (sym e)

pub place_none : (fs : List FilePart) (i n m : ℕ) (name : List ℕ) → length fs ≤ i → place_of n m name (map file_text (drop i fs)) ≡ None
place_none [] zero n m name h = place_nowhere n m name
place_none [] (suc i) n m name h = place_nowhere n m name
place_none (f ∷ fs) zero n m name h = absurd (omega (arith, h))
place_none (f ∷ fs) (suc i) n m name h = place_none fs i n m name (omega (arith, h))

pub few_loads : (kind : FileKind) (m r n : ℕ) → r ≡ loads_behind kind m → m ≤ n → r ≤ n + 1
few_loads kinds.Table m r n e h = omega (arith, e, h)
few_loads kinds.Load m r n e h = omega (arith, e, h)

-- ---- all parts

added_first : (b : BookText) (p : Part) (more : List Part) → all_added b (p ∷ more) ≡ then_added p.number (part_added b p) (λ c. all_added c more)
unfolding all_added
added_first b p more = refl

pub none_added : (b : BookText) → all_added b [] ≡ Ok b
unfolding all_added
none_added b = refl

part_is : (line : PartLine) (text : List ℕ) → (cut_of (line.number + 1) line.rest.now).front ≡ text → (b : BookText) → parts_from (Some line) ≡ part_of line.number (words line.title.now) text ∷ (cut_of (line.number + 1) line.rest.now).parts
part_is line text front b = ap (λ (t : List ℕ). part_of line.number (words line.title.now) t ∷ (cut_of (line.number + 1) line.rest.now).parts) front

-- a part was added
pub part_follows : (line : PartLine) (text : List ℕ) (next : Option PartLine) (old new : BookText) → (cut_of (line.number + 1) line.rest.now).front ≡ text → (cut_of (line.number + 1) line.rest.now).parts ≡ parts_from next → part_added old (part_of line.number (words line.title.now) text) ≡ Ok new → all_added old (parts_from (Some line)) ≡ all_added new (parts_from next)
part_follows line text next old new front parts added =
    ap (all_added old) (part_is line text front old)
    ∙ added_first old (part_of line.number (words line.title.now) text) (cut_of (line.number + 1) line.rest.now).parts
    ∙ ap (λ (r : Result BookText BookReason). then_added line.number r (λ c. all_added c (cut_of (line.number + 1) line.rest.now).parts)) added
    ∙ ap (all_added new) parts

-- a part is refused
pub part_fails : (said : Result BookText BookFault) (line : PartLine) (text : List ℕ) (old : BookText) (parts : BookParts) (e : LineError) → said ≡ all_added old (parts_from (Some line)) → (cut_of (line.number + 1) line.rest.now).front ≡ text → GivesPart (part_added old (part_of line.number (words line.title.now) text)) parts (Err e) → GivesParts said (Err (error_on line.number e))
part_fails said line text old parts (line_errors.Memory e) is front given = tt
part_fails said line text old parts (line_errors.Because reason) is front given =
    is ∙ ap (all_added old) (part_is line text front old)
    ∙ added_first old (part_of line.number (words line.title.now) text) (cut_of (line.number + 1) line.rest.now).parts
    ∙ ap (λ (r : Result BookText BookReason). then_added line.number r (λ c. all_added c (cut_of (line.number + 1) line.rest.now).parts)) given

-- numbers of lines stay small
abbrev pub IsShort : PartLine → Type 0
IsShort p = p.number + 1 + length p.rest.now < 2 ^ 32

pub short_behind : (next part : Option PartLine) (line : PartLine) → part ≡ Some line → IfSome part IsShort → IfSome next (λ p. p.number + 1 + length p.rest.now ≤ (line.number + 1) + length line.rest.now) → IfSome next IsShort
short_behind None part line e h less = tt
short_behind (Some p) part line e h less = let k : IsShort line = (rw e at h) in omega (arith, k, less)
