-- Lemmas on what a status says of why a verb ended so.
use Rattle.std.proofs.Common.{◌≡◌, ℕ, ◌+◌, ◌≤◌, ◌<◌, true, false, List, length, Option, Some, Result, Ok, Err, Vec, Global, refl, sym, subst, ◌∙◌, inl, inr, arith}
use Rattle.std.proofs.lemmas.Bool.{cases_lt}
use Rattle.std.specs.Prelude.{◌⊎◌, ◌^◌, IfOk, IfErr}
use Rattle.fsw_outside.specs.Files.{Stored, file_named}
use Rattle.ground_files.specs.declared.verb_status.Status.{Status}
use Rattle.ground_files.specs.declared.verb_status.Status.TheVariants as statuses
use Rattle.ground_files.specs.Workspaces.{Held, input_bytes, input_taken}
use Rattle.ground_files.specs.Verbs.{IsOver}
use Rattle.load_texts.specs.Loaded.{Named}
use Rattle.load_texts.specs.Loads.{is_load_text}
use Rattle.ground_making.specs.declared.making.Making.{Making}
use Rattle.ground_making.specs.declared.making.Making.TheVariants as makings
use Rattle.ground_making.specs.Refused.{IsLong, IsRefusedAs}
use Rattle.ground_making.specs.Causes.{IsCaused}
use Rattle.ground_making.specs.Named.{path_beside, IsTooLarge, IsUnloaded, AsksForUnloaded, SaysNoLoad}
use Rattle.ground_making.specs.MadeFiles.{Asked, IsRefusedAmong, IsRefusedIn, IsRefusedInput, IsOverIn, IsOverNamed, IsOverRead}

-- ---- causes

pub cause_map : (words file other_words other_file : Type 0) (status : Status) → (words → other_words) → (file → other_file) → IsCaused words file status → IsCaused other_words other_file status
cause_map words file other_words other_file statuses.Done on_words on_file cause = tt
cause_map words file other_words other_file statuses.WordsRefused on_words on_file cause = on_words cause
cause_map words file other_words other_file statuses.FileRefused on_words on_file cause = on_file cause
cause_map words file other_words other_file statuses.ScenarioRefused on_words on_file cause = cause
cause_map words file other_words other_file statuses.ReadFailed on_words on_file cause = tt
cause_map words file other_words other_file statuses.WriteFailed on_words on_file cause = tt
cause_map words file other_words other_file statuses.NoMemory on_words on_file cause = tt
cause_map words file other_words other_file statuses.Unwanted on_words on_file cause = cause

-- ---- the file that a load's text asks for

-- more was read than can be loaded
pub large_named : {E : Type 0} (r : Result (Vec ℕ Global) E) (path : List ℕ) (left : Option (List ℕ)) (told : Option Held) → IfOk r (λ bytes. (given : List ℕ) → left ≡ Some given → length bytes.items ≤ length given)
    → ((before : Held) → told ≡ Some before → (bytes : List ℕ) × (file_named before.files path ≡ Some bytes) × (left ≡ Some bytes))
    → IfOk r (λ bytes. 65536 < length bytes.items → (before : Held) → told ≡ Some before → IsTooLarge path before.files)
large_named (Ok bytes) path left told few there = λ large before is.
    let found = there before is in
    let no_more : length bytes.items ≤ length found.0 = few found.0 found.2 in
    record { bytes = found.0; there = found.1; large = omega arith }
large_named (Err error) path left told few there = few

-- the file at a path that was made beside the text
pub named_caused : {A : Type 0} (r : Result A Status) (output name given path : List ℕ) (asked : Named) (told : Option Held) → given ≡ path → path ≡ path_beside name asked.path
    → IfErr r (λ status. (before : Held) → told ≡ Some before → IsCaused (IsOver output given before) (IsTooLarge given before.files) status)
    → IfErr r (λ status. (before : Held) → told ≡ Some before → IsCaused (IsOver output (path_beside name asked.path) before) (IsUnloaded name before.files asked) status)
named_caused (Ok a) output name given path asked told same beside cause = cause
named_caused (Err status) output name given path asked told same beside cause = λ before was.
    cause_map (IsOver output (path_beside name asked.path) before) (IsTooLarge (path_beside name asked.path) before.files) (IsOver output (path_beside name asked.path) before) (IsUnloaded name before.files asked) status
    (λ over. over) (λ large. inr large)
    (subst (λ (at : List ℕ). IsCaused (IsOver output at before) (IsTooLarge at before.files) status) (same ∙ beside) (cause before was))

-- ---- what was read and is refused

-- bytes of no load that are refused
refused_among : (making : Making) (epoch : Option ℕ) (name : List ℕ) (files : List Stored) (bytes : List ℕ) → (making ≡ makings.Table → 1 + length bytes < 2 ^ 32 → is_load_text bytes ≡ false) → IsRefusedAs making epoch bytes → IsRefusedAmong making epoch name files bytes
refused_among makings.Table epoch name files bytes not refused = record {
  load = λ is. long is (cases_lt (1 + length bytes) 4294967296);
  table = λ _. refused;
}
  where
    long : is_load_text bytes ≡ true → (1 + length bytes < 4294967296) ⊎ (4294967296 ≤ 1 + length bytes) → IsLong bytes ⊎ (AsksForUnloaded name files bytes ⊎ SaysNoLoad name files bytes)
    long is (inl short) = absurd (let wrong : true ≡ false = sym is ∙ not refl short in cc)
    long is (inr large) = inl (omega arith)
refused_among makings.Text epoch name files bytes not refused = refused
refused_among makings.Scenario epoch name files bytes not refused = refused

-- ---- the input

over_before : (output input name : List ℕ) (before : Held) → IsOver output input (input_taken name before) → IsOver output input before
over_before output input name before over = record { is_name = over.is_name; same = over.same; there = over.there }

over_input : (asked : Asked) (before : Held) (read : List ℕ) → input_bytes asked.file before ≡ Some read → IsOverIn asked (input_taken asked.file before) read → IsOverNamed asked before
over_input asked before read here over = record {
  read = read;
  is_input = here;
  is_over = record {
    making = over.making;
    load = over.load;
    over = (over.over.0, over.over.1, over_before asked.output _ asked.file before over.over.2);
  };
}

-- what was read is the input
pub cause_read : (asked : Asked) (before : Held) (read : List ℕ) (status : Status) → input_bytes asked.file before ≡ Some read
    → IsCaused (IsOverIn asked (input_taken asked.file before) read) (IsRefusedIn asked (input_taken asked.file before) read) status → IsCaused (IsOverRead asked before) (IsRefusedInput asked before) status
cause_read asked before read status here cause =
    cause_map (IsOverIn asked (input_taken asked.file before) read) (IsRefusedIn asked (input_taken asked.file before) read) (IsOverRead asked before) (IsRefusedInput asked before) status
    (λ over. inr (over_input asked before read here over)) (λ refused. record { read = read; is_input = here; is_refused = refused }) cause

-- nothing is made of the bytes that were read
pub text_unmade : {A : Type 0} (r : Result A Status) (asked : Asked) (read given : List ℕ) (told : Option Held) → asked.making ≡ makings.Text → given ≡ read → ((before : Held) → told ≡ Some before → input_bytes asked.file before ≡ Some read)
    → IfErr r (IsCaused ⊥ (IsRefusedAs asked.making asked.epoch given)) → IfErr r (λ status. (before : Held) → told ≡ Some before → IsCaused ⊥ (IsRefusedInput asked before) status)
text_unmade (Ok a) asked read given told text same here cause = cause
text_unmade (Err status) asked read given told text same here cause = λ before was.
    cause_map ⊥ (IsRefusedAs asked.making asked.epoch given) ⊥ (IsRefusedInput asked before) status (λ never. never)
    (λ refused. record {
      read = read;
      is_input = here before was;
      is_refused = refused_among asked.making asked.epoch asked.file before.files read (λ table. absurd (let wrong : makings.Text ≡ makings.Table = sym text ∙ table in cc))
          (subst (λ (bytes : List ℕ). IsRefusedAs asked.making asked.epoch bytes) same refused);
    }) cause
