-- The parts of a book: its files, and its plan.
use Rattle.std.specs.Prelude.{◌≡◌, ℕ, ◌+◌, if◌then◌else◌, List, [], ◌∷◌, ◌++◌, map, Option, Some, None, Result, Ok, Err}
use Rattle.std.specs.Str.{bytes_eq}
use Rattle.load_books.specs.declared.fault.BookReason.{BookReason}
use Rattle.load_books.specs.declared.fault.BookReason.TheVariants as reasons
use Rattle.load_books.specs.declared.fault.BookFault.{BookFault}
use Rattle.load_books.specs.declared.fault.BookFault.TheVariants as faults
use Rattle.load_books.specs.declared.fault.BookError.{BookError}
use Rattle.load_books.specs.declared.fault.BookError.TheVariants as errors
use Rattle.load_books.specs.declared.fault.LineError.{LineError}
use Rattle.load_books.specs.declared.fault.LineError.TheVariants as line_errors
use Rattle.load_books.specs.declared.titles.FileKind.{FileKind}
use Rattle.load_books.specs.declared.titles.FileKind.TheVariants as kinds
use Rattle.load_books.specs.declared.contents.FilePart.{FilePart}
use Rattle.load_books.specs.declared.contents.PlanPart.{PlanPart}
use Rattle.load_books.specs.declared.contents.BookParts.{BookParts}
use Rattle.load_books.specs.declared.contents.Place.{Place}
use Rattle.load_books.specs.Cuts.{Part}
use Rattle.load_books.specs.Titles.{Titled, NamedFile, ThePlan, title_said}

-- a file: the number of the line that begins its part, its kind, its name, and its text
pub record FileText : Type 0 where
  pub number : ℕ
  pub kind : FileKind
  pub name : List ℕ
  pub text : List ℕ

-- the plan: the number of the line that begins its part, and its text
pub record PlanText : Type 0 where
  pub number : ℕ
  pub text : List ℕ

-- the files in the order of their parts, and the plan, where there is one
pub record BookText : Type 0 where
  pub files : List FileText
  pub plan : Option PlanText

abbrev pub no_parts : BookText
no_parts = record { files = []; plan = None }

-- the number of the next load behind a file
abbrev pub loads_behind : FileKind → ℕ → ℕ
loads_behind kinds.Table m = m
loads_behind kinds.Load m = m + 1

-- the first file of a name: its kind, its number, where the first of these files is file n, and the number that the next load has
-- there, where the first of these is load m
unfoldable pub place_of : ℕ → ℕ → List ℕ → List FileText → Option Place
place_of n m name [] = None
place_of n m name (f ∷ more) =
    if bytes_eq f.name name then Some (record { kind = f.kind; file = n; load = m }) else place_of (n + 1) (loads_behind f.kind m) name more

abbrev pub unless_there : Option Place → BookText → FileText → Result BookText BookReason
unless_there (Some place) b f = Err reasons.Twice
unless_there None b f = Ok (record { files = b.files ++ f ∷ []; plan = b.plan })

-- a file more, whose name no other has
abbrev pub file_added : BookText → FileText → Result BookText BookReason
file_added b f = unless_there (place_of 1 1 f.name b.files) b f

abbrev pub unless_planned : Option PlanText → BookText → PlanText → Result BookText BookReason
unless_planned (Some other) b p = Err reasons.Plans
unless_planned None b p = Ok (record { files = b.files; plan = Some p })

-- the plan, where there is none yet
abbrev pub plan_added : BookText → PlanText → Result BookText BookReason
plan_added b p = unless_planned b.plan b p

abbrev pub titled_added : BookText → ℕ → Result Titled BookReason → List ℕ → Result BookText BookReason
titled_added b n (Ok (NamedFile kind name)) text = file_added b (record { number = n; kind = kind; name = name; text = text })
titled_added b n (Ok ThePlan) text = plan_added b (record { number = n; text = text })
titled_added b n (Err reason) text = Err reason

-- a part more
abbrev pub part_added : BookText → Part → Result BookText BookReason
part_added b p = titled_added b p.number (title_said p.title) p.text

abbrev pub then_added : ℕ → Result BookText BookReason → (BookText → Result BookText BookFault) → Result BookText BookFault
then_added n (Ok b) next = next b
then_added n (Err reason) next = Err (faults.Line n reason)

-- these parts behind others, or the first line that is no part's
unfoldable pub all_added : BookText → List Part → Result BookText BookFault
all_added b [] = Ok b
all_added b (p ∷ more) = then_added p.number (part_added b p) (λ c. all_added c more)

-- ---- what the code gives

abbrev pub file_text : FilePart → FileText
file_text f = record { number = f.number; kind = f.kind; name = f.name.now; text = f.text.now }

abbrev pub plan_text : PlanPart → PlanText
plan_text p = record { number = p.number; text = p.text.now }

abbrev pub plan_held : Option PlanPart → Option PlanText
plan_held None = None
plan_held (Some p) = Some (plan_text p)

abbrev pub held_by : BookParts → BookText
held_by b = record { files = map file_text b.files.items; plan = plan_held b.plan }

-- what is said are the new parts; a reason is told only where there is one; and memory may end
abbrev pub GivesPart : Result BookText BookReason → BookParts → Result (Unit {0}) LineError → Type 0
GivesPart said new (Ok done) = said ≡ Ok (held_by new)
GivesPart said new (Err (line_errors.Memory e)) = Unit {0}
GivesPart said new (Err (line_errors.Because reason)) = said ≡ Err reason

abbrev pub GivesParts : Result BookText BookFault → Result BookParts BookError → Type 0
GivesParts said (Ok b) = said ≡ Ok (held_by b)
GivesParts said (Err (errors.Memory e)) = Unit {0}
GivesParts said (Err (errors.Book fault)) = said ≡ Err fault

-- why line n wasn't read
abbrev pub error_on : ℕ → LineError → BookError
error_on n (line_errors.Memory e) = errors.Memory e
error_on n (line_errors.Because reason) = errors.Book (faults.Line n reason)
