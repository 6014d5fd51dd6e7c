-- Lemmas on what a comparison leaves in a workspace.
use Rattle.std.proofs.Common.{◌≡◌, ℕ, Bool, true, false, List, [], Option, Some, None, Result, Ok, Err, refl, ap, sym, ◌∙◌, subst}
use Rattle.std.specs.Prelude.{IfOk, OnOk, MatchResult, option_map, is_ok, ◌&&◌}
use Rattle.ground_files.specs.Workspaces.{Held, input_bytes, input_taken, settled_at, files_of, KeepsFiles}
use Rattle.ground_files.specs.Verbs.{KeepsAllFiles}
use Rattle.ground_files.specs.declared.verb_status.Status.{Status}
use Rattle.ground_files.specs.declared.verb_status.Status.TheVariants as statuses
use Rattle.ground_differences.specs.declared.comparing.Compared.{Compared}
use Rattle.ground_differences.specs.declared.comparing.LogPair.{LogPair}
use Rattle.ground_differences.specs.Written.{IsWrittenOn}
use Rattle.ground_differences.specs.Compared.{IsFoundOf}
use Rattle.ground_differences.specs.Differences.{status_found, logs_taken, PutsOutput, HasTold, IsSaidOf, IsCompared}
use Rattle.ground_differences.proofs.WrittenLemmas.{written_known}

-- an output that isn't kept leaves the files that there were
pub files_stay : (now : Held) (old new : Option Held) → old ≡ Some now → KeepsFiles old new → KeepsAllFiles now new
files_stay now old new is keeps = keeps.files ∙ ap (option_map files_of) is

-- what was told is in its place
told : (output : List ℕ) (is_whole : Bool) (first : Option ℕ) (now : Held) (after : Option Held) → PutsOutput output now after
    → HasTold output (status_found is_whole first) now after
told output false first now after puts = puts
told output true None now after puts = puts
told output true (Some frame) now after puts = puts

-- the end of a comparison, by how its output settled
ends_by : {T E : Type 0} (settled : Result T E) (output : List ℕ) (is_whole : Bool) (first : Option ℕ) (ending status : Status) (now : Held)
    (begun new : Option Held) (written : Option (List ℕ))
    → ending ≡ status_found is_whole first → begun ≡ Some now → (made : List ℕ) × (written ≡ Some made)
    → OnOk settled ((bytes : List ℕ) → written ≡ Some bytes → new ≡ option_map (settled_at output bytes true) begun)
    → ((true && is_ok settled) ≡ false → KeepsFiles begun new)
    → MatchResult settled (λ done. status ≡ ending) (λ error. status ≡ statuses.WriteFailed)
    → HasTold output status now new
ends_by (Ok done) output is_whole first ending status now begun new written is_found is made settles drops ends =
    let put = settles made.0 made.1 ∙ ap (option_map (settled_at output made.0 true)) is in
    subst (λ (s : Status). HasTold output s now new) (sym (ends ∙ is_found)) (told output is_whole first now new (record { made = made.0; is_put = put }))
ends_by (Err error) output is_whole first ending status now begun new written is_found is made settles drops ends =
    subst (λ (s : Status). HasTold output s now new) (sym ends) (files_stay now begun new is (drops refl))

pub told_ends : {C F T E : Type 0} (made : Result C F) (settled : Result T E) (output : List ℕ) (compared : C) (kept is_whole : Bool) (first : Option ℕ)
    (ending status : Status) (now : Held) (old begun new : Option Held) (empty written : Option (List ℕ))
    → made ≡ Ok compared → kept ≡ is_ok made → ending ≡ status_found is_whole first → old ≡ Some now → begun ≡ old
    → ((held : Held) → old ≡ Some held → empty ≡ Some [])
    → OnOk made (IsWrittenOn empty written)
    → OnOk settled ((bytes : List ℕ) → written ≡ Some bytes → new ≡ option_map (settled_at output bytes kept) begun)
    → ((kept && is_ok settled) ≡ false → KeepsFiles begun new)
    → MatchResult settled (λ done. status ≡ ending) (λ error. status ≡ statuses.WriteFailed)
    → HasTold output status now new
told_ends (Ok done) settled output compared kept is_whole first ending status now old begun new empty written is keeps is_found told begins none writes settles drops ends =
    ends_by settled output is_whole first ending status now begun new written is_found (begins ∙ told) (written_known empty written (none now told) writes)
    (subst (λ (k : Bool). OnOk settled ((bytes : List ℕ) → written ≡ Some bytes → new ≡ option_map (settled_at output bytes k) begun)) keeps settles)
    (subst (λ (k : Bool). (k && is_ok settled) ≡ false → KeepsFiles begun new) keeps drops) ends
told_ends (Err fault) settled output compared kept is_whole first ending status now old begun new empty written is keeps is_found told begins none writes settles drops ends =
    let wrong : ⊥ = cc in absurd wrong

-- ---- what a status says of the logs

both_true : (a b : Bool) → true ≡ (a && b) → (a ≡ true) × (b ≡ true)
both_true true b h = (refl, sym h)
both_true false b h = let wrong : ⊥ = cc in absurd wrong

-- the status of a comparison says what was found of the texts
said_of : (text text_other : List ℕ) (whole : Bool) (first : Option ℕ) → IsFoundOf text text_other whole first → IsSaidOf (status_found whole first) text text_other
said_of text text_other false first found = sym found.both
said_of text text_other true None found =
    let logs = both_true _ _ found.both in
    record { one_log = logs.0; other_log = logs.1; same = found.same.0 refl }
said_of text text_other true (Some frame) found =
    let logs = both_true _ _ found.both in
    record { one_log = logs.0; other_log = logs.1; differ = λ same. let none = found.same.1 same in let wrong : ⊥ = cc in absurd wrong }

said_by : {T E : Type 0} (settled : Result T E) (compared : Compared) (ending status : Status) (text text_other : List ℕ)
    → ending ≡ status_found compared.is_whole compared.found.first → IsFoundOf text text_other compared.is_whole compared.found.first
    → MatchResult settled (λ done. status ≡ ending) (λ error. status ≡ statuses.WriteFailed) → IsSaidOf status text text_other
said_by (Ok done) compared ending status text text_other is_found found ends =
    subst (λ (s : Status). IsSaidOf s text text_other) (sym (ends ∙ is_found)) (said_of text text_other compared.is_whole compared.found.first found)
said_by (Err error) compared ending status text text_other is_found found ends =
    subst (λ (s : Status). IsSaidOf s text text_other) (sym ends) tt

pub said_ends : {F T E : Type 0} (made : Result Compared F) (settled : Result T E) (compared : Compared) (ending status : Status) (one other : Option (List ℕ)) (text text_other : List ℕ)
    → made ≡ Ok compared → ending ≡ status_found compared.is_whole compared.found.first → one ≡ Some text → other ≡ Some text_other
    → IfOk made (λ c. (xs ys : List ℕ) → one ≡ Some xs → other ≡ Some ys → IsFoundOf xs ys c.is_whole c.found.first)
    → MatchResult settled (λ done. status ≡ ending) (λ error. status ≡ statuses.WriteFailed) → IsSaidOf status text text_other
said_ends (Ok done) settled compared ending status one other text text_other is is_found one_is other_is found ends =
    let same : done ≡ compared = cc in
    said_by settled compared ending status text text_other is_found
    (subst (λ (c : Compared). IsFoundOf text text_other c.is_whole c.found.first) same (found text text_other one_is other_is)) ends
said_ends (Err fault) settled compared ending status one other text text_other is is_found one_is other_is found ends =
    let wrong : ⊥ = cc in absurd wrong

-- what was told, and what is said of the bytes that were read, is what is said of the logs
pub compared_by : (pair : LogPair) (status : Status) (before : Held) (after : Option Held) (one other : List ℕ)
    → input_bytes pair.one.now before ≡ Some one → input_bytes pair.other.now (input_taken pair.one.now before) ≡ Some other
    → HasTold pair.output.now status (logs_taken pair before) after → IsSaidOf status one other → IsCompared pair status before after
compared_by pair statuses.Done before after one other is_one is_other told said =
    record { found = record { one = one; other = other; is_one = is_one; is_other = is_other; said = said }; told = told }
compared_by pair statuses.Unwanted before after one other is_one is_other told said =
    record { found = record { one = one; other = other; is_one = is_one; is_other = is_other; said = said }; told = told }
compared_by pair statuses.FileRefused before after one other is_one is_other told said =
    record { found = record { one = one; other = other; is_one = is_one; is_other = is_other; said = said }; told = told }
compared_by pair statuses.WordsRefused before after one other is_one is_other told said = absurd told
compared_by pair statuses.ScenarioRefused before after one other is_one is_other told said = told
compared_by pair statuses.ReadFailed before after one other is_one is_other told said = told
compared_by pair statuses.WriteFailed before after one other is_one is_other told said = told
compared_by pair statuses.NoMemory before after one other is_one is_other told said = told
