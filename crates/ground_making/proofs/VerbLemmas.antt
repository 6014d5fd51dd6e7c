-- Lemmas on what the verbs do to what a workspace holds.
use Rattle.std.proofs.Common.{◌≡◌, ◌≢◌, ℕ, true, false, List, [], ◌∷◌, ◌++◌, Option, Some, None, refl, ap, sym, subst, ◌∙◌, inl, inr, length, map, take, get_or, ◌+◌, ◌<◌, arith, Bor}
use Rattle.std.proofs.lemmas.Grind.{common_steps}
use Rattle.std.specs.Prelude.{option_map, ◌⊎◌, if◌then◌else◌}
use Rattle.fsw_outside.specs.Files.{Stored}
use Rattle.ground_files.specs.declared.verb_status.Status.{Status}
use Rattle.ground_files.specs.declared.verb_status.Status.TheVariants as statuses
use Rattle.ground_files.specs.Workspaces.{Held, is_dash, input_bytes, input_taken, inputs_taken, file_put, put_at, files_of, input_of, KeepsFiles}
use Rattle.ground_files.proofs.InputLemmas.{taken_append, all_taken_files}
use Rattle.ground_files.specs.Verbs.{MakesOutput, KeepsAllFiles, KeepsOtherFiles, IsOver}
use Rattle.load_texts.specs.Loaded.{file_asked}
use Rattle.load_texts.specs.Loads.{is_load_text, SaysLoad}
use Rattle.ground_making.specs.declared.making.Making.TheVariants as makings
use Rattle.ground_making.specs.declared.shown_files.Shown.{Shown}
use Rattle.ground_making.specs.Made.{IsMadeAs}
use Rattle.ground_making.specs.Named.{asked_bytes}
use Rattle.ground_making.specs.MadeFiles.{Asked, IsMadeIn, PutsMade, IsRefusedIn, IsRefusedInput, IsOverIn, IsOverRead, EndsMaking}
use Rattle.ground_making.specs.Causes.{IsCaused}
use Rattle.ground_making.proofs.MadeLemmas.{load_made, bytes_made}
use Rattle.ground_making.proofs.CauseLemmas.{cause_map, cause_read}
use Rattle.ground_making.specs.ShownFiles.{asked_of, AppendsText, ShowsAll, RefusesOne, IsOverOne, some_put, EndsShowingSeveral, EndsShowing}

-- ---- one file

pub taken_files : (name : List ℕ) (o : Option Held) → option_map files_of (option_map (input_taken name) o) ≡ option_map files_of o
taken_files name None = refl
taken_files name (Some held) = refl

pub kept_all : (before : Held) (old new : Option Held) → old ≡ Some before → option_map files_of new ≡ option_map files_of old → KeepsAllFiles before new
kept_all before old new was same = same ∙ ap (option_map files_of) was

pub kept_same : (old new : Option Held) → new ≡ old → KeepsFiles old new
kept_same old new same = record { files = ap (option_map files_of) same; input = ap (option_map input_of) same }

-- the file to be loaded of a text was put
pub load_put : (asked : Asked) (text named given file written : List ℕ) (before : Held) (old mid new : Option Held) → asked.making ≡ makings.Table → is_load_text text ≡ true → ((held : Held) → old ≡ Some held → asked_bytes asked.file held.files (file_asked text) ≡ Some named) → given ≡ named → SaysLoad given text file → written ≡ file → mid ≡ old → ((held : Held) → mid ≡ Some held → new ≡ Some (put_at asked.output written held)) → old ≡ Some before → PutsMade asked text before new
load_put asked text named given file written before old mid new making is found same says whole kept put was = record {
  made = file;
  is_made = load_made asked.making asked.epoch asked.file before.files text file named making is (found before was) (subst (λ (bytes : List ℕ). SaysLoad bytes text file) same says);
  is_put = put before (kept ∙ was) ∙ ap (λ (bytes : List ℕ). Some (put_at asked.output bytes before)) whole;
}

-- what bytes are made into was put
pub bytes_put : (asked : Asked) (bytes made written : List ℕ) (before : Held) (old new : Option Held) → (asked.making ≡ makings.Table → is_load_text bytes ≡ false) → IsMadeAs asked.making asked.epoch bytes made → written ≡ made → ((held : Held) → old ≡ Some held → new ≡ Some (put_at asked.output written held)) → old ≡ Some before → PutsMade asked bytes before new
bytes_put asked bytes made written before old new not is whole put was = record {
  made = made;
  is_made = bytes_made asked.making asked.epoch asked.file before.files bytes made not is;
  is_put = put before was ∙ ap (λ (all : List ℕ). Some (put_at asked.output all before)) whole;
}

-- nothing was made
ends_kept : (asked : Asked) (status : Status) (before : Held) (old new : Option Held) → status ≢ statuses.Done → old ≡ Some before → option_map files_of new ≡ option_map files_of old → IsCaused (IsOverRead asked before) (IsRefusedInput asked before) status → EndsMaking asked status before new
ends_kept asked status before old new undone was same cause = record {
  done = λ done. absurd (undone done);
  undone = λ _. kept_all before old new was same;
  cause = cause;
}

pub ends_over : (asked : Asked) (before : Held) (old : Option Held) → old ≡ Some before → ((now : Held) → old ≡ Some now → IsOver asked.output asked.file now) → EndsMaking asked statuses.WordsRefused before old
ends_over asked before old was over = ends_kept asked statuses.WordsRefused before old old (λ done. cc) was refl (inl (over before was))

pub ends_unread : (asked : Asked) (status : Status) (before : Held) (old new : Option Held) → status ≡ statuses.ReadFailed → old ≡ Some before → option_map files_of new ≡ option_map files_of old → EndsMaking asked status before new
ends_unread asked status before old new unread was same =
    ends_kept asked status before old new (λ done. let wrong : statuses.ReadFailed ≡ statuses.Done = sym unread ∙ done in cc) was same
    (subst (IsCaused (IsOverRead asked before) (IsRefusedInput asked before)) (sym unread) tt)

taken : (name : List ℕ) (before : Held) (old mid : Option Held) → old ≡ Some before → mid ≡ option_map (input_taken name) old → mid ≡ Some (input_taken name before)
taken name before old mid was is = is ∙ ap (option_map (input_taken name)) was

pub ends_made : (asked : Asked) (status : Status) (before : Held) (read given : List ℕ) (old mid new : Option Held) → old ≡ Some before → mid ≡ option_map (input_taken asked.file) old → input_bytes asked.file before ≡ Some read → given ≡ read → (status ≡ statuses.Done → (now : Held) → mid ≡ Some now → PutsMade asked given now new) → (status ≢ statuses.Done → KeepsFiles mid new)
    → ((now : Held) → mid ≡ Some now → IsCaused (IsOverIn asked now given) (IsRefusedIn asked now given) status) → EndsMaking asked status before new
ends_made asked status before read given old mid new was is here same done undone cause = record {
  done = λ d. by_put (done d (input_taken asked.file before) (taken asked.file before old mid was is));
  undone = λ u. (undone u).files ∙ ap (option_map files_of) (taken asked.file before old mid was is);
  cause = cause_read asked before read status here
      (subst (λ (bytes : List ℕ). IsCaused (IsOverIn asked (input_taken asked.file before) bytes) (IsRefusedIn asked (input_taken asked.file before) bytes) status) same
      (cause (input_taken asked.file before) (taken asked.file before old mid was is)));
}
  where
    by_put : PutsMade asked given (input_taken asked.file before) new → MakesOutput asked.file asked.output (IsMadeIn asked) before new
    by_put p = record {
      read = read;
      made = p.made;
      is_input = here;
      is_made = subst (λ (bytes : List ℕ). IsMadeIn asked before bytes p.made) same p.is_made;
      is_put = p.is_put;
    }

-- ---- several files

pub more_taken : (names : List (List ℕ)) (name : List ℕ) (first mid new : Option Held) → mid ≡ option_map (inputs_taken names) first → new ≡ option_map (input_taken name) mid → new ≡ option_map (inputs_taken (names ++ name ∷ [])) first
more_taken names name first mid new was is = is ∙ ap (option_map (input_taken name)) was ∙ by_held first
  where
    by_held : (o : Option Held) → option_map (input_taken name) (option_map (inputs_taken names) o) ≡ option_map (inputs_taken (names ++ name ∷ [])) o
    by_held None = refl
    by_held (Some held) = ap (λ (h : Held). Some h) (sym (taken_append names name held))

-- the names of one file more
pub names_more : (files : List (Bor (List ℕ))) (i : ℕ) (d : Bor (List ℕ)) → i < length files → map (λ (file : Bor (List ℕ)). file.now) (take (i + 1) files) ≡ map (λ (file : Bor (List ℕ)). file.now) (take i files) ++ (get_or files i d).now ∷ []
names_more files i d lt = grind (arith, common_steps)

pub held_more : (shown : Shown) (asked : Asked) (name : List ℕ) (names more : List (List ℕ)) (first mid new : Option Held) → asked ≡ asked_of shown name → more ≡ names ++ name ∷ [] → mid ≡ option_map (inputs_taken names) first → new ≡ option_map (input_taken asked.file) mid → new ≡ option_map (inputs_taken more) first
held_more shown asked name names more first mid new same are was is =
    let step : new ≡ option_map (input_taken name) mid = is ∙ ap (λ (a : Asked). option_map (input_taken a.file) mid) same in
    subst (λ (ns : List (List ℕ)). new ≡ option_map (inputs_taken ns) first) (sym are) (more_taken names name first mid new was step)

pub taken_all_files : (names : List (List ℕ)) (old new : Option Held) → new ≡ option_map (inputs_taken names) old → option_map files_of new ≡ option_map files_of old
taken_all_files names old new is = ap (option_map files_of) is ∙ by_held old
  where
    by_held : (o : Option Held) → option_map files_of (option_map (inputs_taken names) o) ≡ option_map files_of o
    by_held None = refl
    by_held (Some held) = ap (λ (files : List Stored). Some files) (all_taken_files names held)

pub shows_more : (shown : Shown) (before : Held) (front : List ℕ) (names : List (List ℕ)) (name all next : List ℕ) → ShowsAll shown before front names all → AppendsText (asked_of shown name) (inputs_taken names before) all next → ShowsAll shown before front (names ++ name ∷ []) next
shows_more shown before front [] name all next same more = (next, subst (λ (f : List ℕ). AppendsText (asked_of shown name) before f next) same more, refl)
shows_more shown before front (n ∷ names) name all next shows more = (shows.0, shows.1, shows_more shown (input_taken n before) shows.0 names name all next shows.2 more)

pub texts_more : (shown : Shown) (asked : Asked) (name : List ℕ) (names more : List (List ℕ)) (first mid : Option Held) (before : Held) (front all next : List ℕ) → asked ≡ asked_of shown name → more ≡ names ++ name ∷ [] → mid ≡ option_map (inputs_taken names) first → first ≡ Some before → ShowsAll shown before front names all → ((held : Held) → mid ≡ Some held → AppendsText asked held all next) → ShowsAll shown before front more next
texts_more shown asked name names more first mid before front all next same are was is shows appends =
    let there : mid ≡ Some (inputs_taken names before) = was ∙ ap (option_map (inputs_taken names)) is in
    let appended : AppendsText (asked_of shown name) (inputs_taken names before) all next =
    subst (λ (a : Asked). AppendsText a (inputs_taken names before) all next) same (appends (inputs_taken names before) there) in
    subst (λ (ns : List (List ℕ)). ShowsAll shown before front ns next) (sym are) (shows_more shown before front names name all next shows appended)

done_or_not : (status : Status) → (status ≡ statuses.Done) ⊎ (status ≢ statuses.Done)
done_or_not statuses.Done = inl refl
done_or_not statuses.WordsRefused = inr (λ e. absurd (cc))
done_or_not statuses.FileRefused = inr (λ e. absurd (cc))
done_or_not statuses.ScenarioRefused = inr (λ e. absurd (cc))
done_or_not statuses.ReadFailed = inr (λ e. absurd (cc))
done_or_not statuses.WriteFailed = inr (λ e. absurd (cc))
done_or_not statuses.NoMemory = inr (λ e. absurd (cc))
done_or_not statuses.Unwanted = inr (λ e. absurd (cc))

-- ---- files that are refused

refuses_front : (shown : Shown) (held : Held) (names more : List (List ℕ)) → RefusesOne shown held names → RefusesOne shown held (names ++ more)
refuses_front shown held [] more one = absurd one
refuses_front shown held (name ∷ names) more (inl here) = inl here
refuses_front shown held (name ∷ names) more (inr later) = inr (refuses_front shown (input_taken name held) names more later)

refuses_last : (shown : Shown) (held : Held) (names : List (List ℕ)) (name : List ℕ) → IsRefusedInput (asked_of shown name) (inputs_taken names held) → RefusesOne shown held (names ++ name ∷ [])
refuses_last shown held [] name refused = inl refused
refuses_last shown held (n ∷ names) name refused = inr (refuses_last shown (input_taken n held) names name refused)

cause_earlier : (shown : Shown) (before : Held) (names : List (List ℕ)) (name : List ℕ) (status one result : Status) → (status ≡ statuses.Done) ⊎ (status ≢ statuses.Done) → (status ≢ statuses.Done → result ≡ status) → (status ≡ statuses.Done → result ≡ one)
    → IsCaused ⊥ (RefusesOne shown before names) status → IsCaused ⊥ (IsRefusedInput (asked_of shown name) (inputs_taken names before)) one → IsCaused ⊥ (RefusesOne shown before (names ++ name ∷ [])) result
cause_earlier shown before names name status one result (inl done) first next cause last =
    cause_map ⊥ (IsRefusedInput (asked_of shown name) (inputs_taken names before)) ⊥ (RefusesOne shown before (names ++ name ∷ [])) result (λ never. never) (refuses_last shown before names name)
    (subst (IsCaused ⊥ (IsRefusedInput (asked_of shown name) (inputs_taken names before))) (sym (next done)) last)
cause_earlier shown before names name status one result (inr undone) first next cause last =
    cause_map ⊥ (RefusesOne shown before names) ⊥ (RefusesOne shown before (names ++ name ∷ [])) result (λ never. never) (refuses_front shown before names (name ∷ []))
    (subst (IsCaused ⊥ (RefusesOne shown before names)) (sym (first undone)) cause)

pub cause_more : (shown : Shown) (asked : Asked) (name : List ℕ) (names more : List (List ℕ)) (first mid : Option Held) (before : Held) (status one result : Status) → asked ≡ asked_of shown name → more ≡ names ++ name ∷ [] → mid ≡ option_map (inputs_taken names) first → first ≡ Some before
    → (status ≢ statuses.Done → result ≡ status) → (status ≡ statuses.Done → result ≡ one) → IsCaused ⊥ (RefusesOne shown before names) status → ((held : Held) → mid ≡ Some held → IsCaused ⊥ (IsRefusedInput asked held) one) → IsCaused ⊥ (RefusesOne shown before more) result
cause_more shown asked name names more first mid before status one result same are was is undone done cause last =
    let there : mid ≡ Some (inputs_taken names before) = was ∙ ap (option_map (inputs_taken names)) is in
    let of_one : IsCaused ⊥ (IsRefusedInput (asked_of shown name) (inputs_taken names before)) one =
    subst (λ (a : Asked). IsCaused ⊥ (IsRefusedInput a (inputs_taken names before)) one) same (last (inputs_taken names before) there) in
    subst (λ (ns : List (List ℕ)). IsCaused ⊥ (RefusesOne shown before ns) result) (sym are)
    (cause_earlier shown before names name status one result (done_or_not status) undone done cause of_one)

-- the output is a file that is reached
pub over_one : (shown : Shown) (files : List (Bor (List ℕ))) (place : ℕ) (d : Bor (List ℕ)) (held : Held) → place < length files → IsOver shown.output.now (get_or files place d).now held → IsOverOne shown held (map (λ (file : Bor (List ℕ)). file.now) files)
over_one shown files place d held within over = (place, (get_or files place d).now, grind (arith, common_steps), grind (arith, common_steps), over)

-- ---- what is put

pub others_kept : (output : List ℕ) (before : Held) (old new : Option Held) → old ≡ Some before → KeepsFiles old new → KeepsOtherFiles output before new
others_kept output before old new was kept = inl (kept_all before old new was kept.files)

pub others_put : (output bytes : List ℕ) (before : Held) (new : Option Held) → new ≡ Some (put_at output bytes before) → KeepsOtherFiles output before new
others_put output bytes before new is = inr (bytes, ap (option_map files_of) is)

pub others_written : (status : Status) (output bytes : List ℕ) (before : Held) (old new : Option Held) → old ≡ Some before → (status ≡ statuses.Done → (held : Held) → old ≡ Some held → new ≡ Some (put_at output bytes held)) → (status ≢ statuses.Done → KeepsFiles old new) → KeepsOtherFiles output before new
others_written status output bytes before old new was put kept = by_status (done_or_not status)
  where
    by_status : (status ≡ statuses.Done) ⊎ (status ≢ statuses.Done) → KeepsOtherFiles output before new
    by_status (inl done) = others_put output bytes before new (put done before was)
    by_status (inr undone) = others_kept output before old new was (kept undone)

put_files : (output bytes : List ℕ) (one other : Held) → one.files ≡ other.files → (put_at output bytes one).files ≡ (put_at output bytes other).files
put_files output bytes one other same = ap (λ (files : List Stored). if is_dash output then files else file_put output bytes files) same

others_from : (output : List ℕ) (names : List (List ℕ)) (before : Held) (new : Option Held) → KeepsOtherFiles output (inputs_taken names before) new → KeepsOtherFiles output before new
others_from output names before new (inl kept) = inl (kept ∙ ap (λ (files : List Stored). Some files) (all_taken_files names before))
others_from output names before new (inr put) = inr (put.0, put.1 ∙ ap (λ (files : List Stored). Some files) (put_files output put.0 (inputs_taken names before) before (all_taken_files names before)))

-- ---- how the verb ends

several_kept : (shown : Shown) (names : List (List ℕ)) (status : Status) (before : Held) (old new : Option Held) → status ≢ statuses.Done → old ≡ Some before → option_map files_of new ≡ option_map files_of old → IsCaused (IsOverOne shown before names) (RefusesOne shown before names) status → EndsShowingSeveral shown names status before new
several_kept shown names status before old new undone was same cause = record {
  done = λ done. absurd (undone done);
  undone = λ _. inl (kept_all before old new was same);
  over = λ _. kept_all before old new was same;
  cause = cause;
}

pub several_over : (shown : Shown) (names : List (List ℕ)) (before : Held) (old : Option Held) → old ≡ Some before → ((now : Held) → old ≡ Some now → IsOverOne shown now names) → EndsShowingSeveral shown names statuses.WordsRefused before old
several_over shown names before old was over = several_kept shown names statuses.WordsRefused before old old (λ done. cc) was refl (over before was)

pub several_unmade : (shown : Shown) (names : List (List ℕ)) (status : Status) (before : Held) (old new : Option Held) → status ≡ statuses.NoMemory → old ≡ Some before → option_map files_of new ≡ option_map files_of old → EndsShowingSeveral shown names status before new
several_unmade shown names status before old new memory was same =
    several_kept shown names status before old new (λ done. let wrong : statuses.NoMemory ≡ statuses.Done = sym memory ∙ done in cc) was same
    (subst (IsCaused (IsOverOne shown before names) (RefusesOne shown before names)) (sym memory) tt)

-- the status of what was written is that of what was read, or the write failed
done_before : (status result : Status) → (result ≡ status) ⊎ (result ≡ statuses.WriteFailed) → result ≡ statuses.Done → status ≡ statuses.Done
done_before status result (inl same) done = sym same ∙ done
done_before status result (inr failed) done = absurd (let wrong : statuses.WriteFailed ≡ statuses.Done = sym failed ∙ done in cc)

cause_shown : (shown : Shown) (names : List (List ℕ)) (before : Held) (status result : Status) → (result ≡ status) ⊎ (result ≡ statuses.WriteFailed) → IsCaused ⊥ (RefusesOne shown before names) status → IsCaused (IsOverOne shown before names) (RefusesOne shown before names) result
cause_shown shown names before status result (inl same) cause =
    cause_map ⊥ (RefusesOne shown before names) (IsOverOne shown before names) (RefusesOne shown before names) result (λ never. absurd never) (λ refused. refused)
    (subst (IsCaused ⊥ (RefusesOne shown before names)) (sym same) cause)
cause_shown shown names before status result (inr failed) cause = subst (IsCaused (IsOverOne shown before names) (RefusesOne shown before names)) (sym failed) tt

never_over : (status result : Status) (file : Type 0) → (result ≡ status) ⊎ (result ≡ statuses.WriteFailed) → IsCaused ⊥ file status → result ≡ statuses.WordsRefused → ⊥
never_over status result file (inl same) cause over = subst (IsCaused ⊥ file) (sym same ∙ over) cause
never_over status result file (inr failed) cause over = absurd (let wrong : statuses.WriteFailed ≡ statuses.WordsRefused = sym failed ∙ over in cc)

pub several_put : (shown : Shown) (names : List (List ℕ)) (status result : Status) (text : List ℕ) (before : Held) (old mid new : Option Held) → old ≡ Some before → mid ≡ option_map (inputs_taken names) old → (result ≡ status) ⊎ (result ≡ statuses.WriteFailed) → (status ≡ statuses.Done → ShowsAll shown before [] names text) → (result ≡ statuses.Done → (now : Held) → mid ≡ Some now → new ≡ Some (some_put shown.output.now text now)) → ((now : Held) → mid ≡ Some now → KeepsOtherFiles shown.output.now now new)
    → IsCaused ⊥ (RefusesOne shown before names) status → EndsShowingSeveral shown names result before new
several_put shown names status result text before old mid new was is same shows put kept cause =
    let there : mid ≡ Some (inputs_taken names before) = is ∙ ap (option_map (inputs_taken names)) was in
    record {
      done = λ d. record { text = text; is_text = shows (done_before status result same d); is_put = put d (inputs_taken names before) there };
      undone = λ _. others_from shown.output.now names before new (kept (inputs_taken names before) there);
      over = λ over. absurd (never_over status result (RefusesOne shown before names) same cause over);
      cause = cause_shown shown names before status result same cause;
    }

pub shows_one : (shown : Shown) (names : List (List ℕ)) (name : List ℕ) (status : Status) (before : Held) (after : Option Held) → names ≡ name ∷ [] → EndsMaking (asked_of shown name) status before after → EndsShowing shown names status before after
shows_one shown names name status before after is ends = subst (λ (ns : List (List ℕ)). EndsShowing shown ns status before after) (sym is) ends

pub shows_several : (shown : Shown) (names : List (List ℕ)) (status : Status) (before : Held) (after : Option Held) → length names ≢ 1 → EndsShowingSeveral shown names status before after → EndsShowing shown names status before after
shows_several shown [] status before after not ends = ends
shows_several shown (name ∷ []) status before after not ends = absurd (not refl)
shows_several shown (name ∷ other ∷ names) status before after not ends = ends
