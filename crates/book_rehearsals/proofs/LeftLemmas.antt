-- Lemmas on what the rehearsal of a book leaves.
use Rattle.std.proofs.Common.{◌≡◌, ℕ, List, Option, Some, ap, sym, subst, ◌∙◌, inl, inr}
use Rattle.std.specs.Prelude.{option_map}
use Rattle.fsw_outside.specs.declared.mem_shelf.MemShelf.{MemShelf}
use Rattle.ground_files.specs.declared.verb_status.Status.{Status}
use Rattle.ground_files.specs.declared.verb_status.Status.TheVariants as statuses
use Rattle.ground_files.specs.Workspaces.{Held, input_bytes, input_taken, files_of}
use Rattle.ground_files.specs.Verbs.{KeepsAllFiles}
use Rattle.ground_runs.specs.declared.asked_run.Run.{Run}
use Rattle.ground_runs.specs.AskedWords.{front_of}
use Rattle.ground_runs.specs.KeptLogs.{Staged, staged, EndsRun}
use Rattle.book_rehearsals.specs.LeftByBooks.{memory_use, ShelvesText, IsUnready, RehearsesBook, EndsBook}

-- ---- the files

pub all_kept : (before : Held) (after : Option Held) → after ≡ Some before → KeepsAllFiles before after
all_kept before after same = ap (option_map files_of) same

-- standard input was taken at most
pub taken : (name : List ℕ) (before : Held) (old after : Option Held) → old ≡ Some before → after ≡ option_map (input_taken name) old → after ≡ Some (input_taken name before)
taken name before old after was is = is ∙ ap (option_map (input_taken name)) was

-- memory ran out before the rehearsal began
pub without_memory : {S : Type 0} (what : Staged S) (run : Run) (status : Status) (before : Held) (after : Option Held) → status ≡ statuses.NoMemory → KeepsAllFiles before after → EndsRun what run status before after
without_memory what run status before after is keeps = subst (λ (s : Status). EndsRun what run s before after) (sym is) keeps

-- ---- how the verb ends

-- the text couldn't be read
pub ends_unread : (run : Run) (status : Status) (before : Held) (old after : Option Held) → status ≡ statuses.ReadFailed → old ≡ Some before → after ≡ option_map (input_taken run.scenario.now) old → EndsBook run status before after
ends_unread run status before old after is was taken_is = subst (λ (s : Status). EndsBook run s before after) (sym is) (inl (ap (option_map files_of) (taken run.scenario.now before old after was taken_is)))

-- the text was read, and its book isn't made ready
pub ends_unready : (run : Run) (status : Status) (before : Held) (old after : Option Held) (read text : List ℕ) → IsUnready text status → input_bytes run.scenario.now before ≡ Some read → text ≡ read
    → old ≡ Some before → after ≡ option_map (input_taken run.scenario.now) old → EndsBook run status before after
ends_unready run status before old after read text unready is_input same was taken_is =
    let keeps : KeepsAllFiles before after = ap (option_map files_of) (taken run.scenario.now before old after was taken_is) in
    elim unready [
      | inl refused ↦ subst (λ (s : Status). EndsBook run s before after) (sym refused.0) (inl (record {
        text = text;
        is_input = is_input ∙ ap Some (sym same);
        is_refused = refused.1;
        kept = keeps;
      }))
      | inr is ↦ subst (λ (s : Status). EndsBook run s before after) (sym is) keeps
    ]

ends_rehearsed : (run : Run) (status : Status) (before : Held) (after : Option Held) → RehearsesBook run status before after → EndsBook run status before after
ends_rehearsed run statuses.Done before after rehearses = rehearses
ends_rehearsed run statuses.WordsRefused before after rehearses = inr rehearses
ends_rehearsed run statuses.FileRefused before after rehearses = inr rehearses
ends_rehearsed run statuses.ScenarioRefused before after rehearses = rehearses
ends_rehearsed run statuses.ReadFailed before after rehearses = inr rehearses
ends_rehearsed run statuses.WriteFailed before after rehearses = rehearses
ends_rehearsed run statuses.NoMemory before after rehearses = rehearses.ended
ends_rehearsed run statuses.Unwanted before after rehearses = rehearses

-- the book of a text that was read was rehearsed
pub ends_read : (run : Run) (status : Status) (before : Held) (after : Option Held) (read text : List ℕ) (shelf : MemShelf) (words : List (List ℕ)) → input_bytes run.scenario.now before ≡ Some read → text ≡ read
    → ShelvesText text (front_of run.workers run.has_subjects) shelf words → EndsRun (staged words (memory_use shelf)) run status (input_taken run.scenario.now before) after → EndsBook run status before after
ends_read run status before after read text shelf words is_input same shelves ended =
    ends_rehearsed run status before after (record {
      text = text;
      is_input = is_input ∙ ap Some (sym same);
      shelf = shelf;
      words = words;
      shelves = shelves;
      ended = ended;
    })

-- the words in front are those that were made
pub front_shelved : (text : List ℕ) (front made : List (List ℕ)) (shelf : MemShelf) (words : List (List ℕ)) → made ≡ front → ShelvesText text made shelf words → ShelvesText text front shelf words
front_shelved text front made shelf words same shelves = subst (λ (f : List (List ℕ)). ShelvesText text f shelf words) same shelves
