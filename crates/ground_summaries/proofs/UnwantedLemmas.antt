-- Lemmas on what is told of a log that no `--allow` names.
use Rattle.std.proofs.Common.{◌≡◌, ℕ, Bool, true, false, ◌||◌, not, List, [], ◌∷◌, ◌++◌, map, append_assoc, Option, Some, None, refl, ap, sym, ◌∙◌, subst, Bor}
use Rattle.std.specs.Prelude.{if◌then◌else◌, codes, decimal, bytes_eq, Result, Ok, Err, IfOk, OnOk, is_ok}
use Rattle.std.specs.List.{flat_map, list_any}
use Rattle.events.specs.Events.{is_event, event_row, event_said}
use Rattle.events.specs.Tables.{placed_event, event_table}
use Rattle.events.proofs.PlaceLemmas.{placed_sentence}
use Rattle.events.specs.declared.event.Event.{Event}
use Rattle.ground_tools.specs.Noted.{noted}
use Rattle.ground_tools.specs.Surveys.{notables_in, Counts}
use Rattle.ground_tools.specs.declared.survey.NotableCount.{NotableCount}
use Rattle.ground_tools.specs.declared.survey.Survey.{Survey}
use Rattle.ground_summaries.specs.Allowed.{word_pair, event_name_words, error_words, is_among, is_allowed, is_unwanted, has_unwanted}
use Rattle.ground_summaries.specs.Told.{error_said, allow_said, counted_said, unwanted_said, has_text}

-- ---- lines of what is unwanted

longer : (line rest : List ℕ) → has_text line ≡ true → has_text (line ++ rest) ≡ true
longer [] rest some = let wrong : ⊥ = cc in absurd wrong
longer (c ∷ line) rest some = refl

one_line : (allowed : Bool) (line rest : List ℕ) (found : Bool) → has_text line ≡ true → has_text rest ≡ found → has_text ((if allowed then [] else line) ++ rest) ≡ (not allowed || found)
one_line true line rest found some is = is
one_line false line rest found some is = longer line rest some

told_some : (allowed : List (Bor (List ℕ))) (counts : List NotableCount) → has_text (flat_map (unwanted_said allowed) counts) ≡ is_unwanted allowed (notables_in counts)
unfolding unwanted_said is_unwanted
told_some allowed [] = refl
told_some allowed (c ∷ cs) = one_line (is_allowed allowed c.what) _ (flat_map (unwanted_said allowed) cs) (is_unwanted allowed (notables_in cs)) refl (told_some allowed cs)

-- something is told exactly where a log that was counted has what is unwanted
pub told_unwanted : (allowed : List (Bor (List ℕ))) (s : Survey) (told log : List ℕ) → told ≡ flat_map (unwanted_said allowed) s.notables.items → Counts s log → has_text told ≡ has_unwanted allowed log
unfolding is_unwanted
told_unwanted allowed s told log is counts = ap has_text is ∙ told_some allowed s.notables.items ∙ counts _

pub where_made : {V E : Type 0} (r : Result V E) (P Q : V → Type 0) → ((v : V) → P v → Q v) → IfOk r P → IfOk r Q
where_made (Ok v) P Q gives holds = gives v holds
where_made (Err error) P Q gives holds = tt

-- a line of what isn't allowed, as it is appended
pub unwanted_line : {E : Type 0} (r : Result (Unit {0}) E) (allowed : List (Bor (List ℕ))) (counted : NotableCount) (out one two three four : List ℕ) → false ≡ is_allowed allowed counted.what
    → one ≡ out ++ codes "not allowed, --allow '" → two ≡ one ++ allow_said counted.what → three ≡ two ++ codes "':" → OnOk r (four ≡ three ++ counted_said counted)
    → OnOk r (four ≡ out ++ unwanted_said allowed counted)
unfolding unwanted_said
unwanted_line (Ok done) allowed counted out one two three four not a b c d = d ∙ rw (c, b, a, sym not) (simp append_assoc)
unwanted_line (Err error) allowed counted out one two three four not a b c d = tt

pub appended : {A E : Type 0} (r : Result A E) (new old more : List ℕ) → new ≡ (if is_ok r then old ++ more else old) → OnOk r (new ≡ old ++ more)
appended (Ok done) new old more is = is
appended (Err error) new old more is = tt

-- an event's sentence and its number, as they are appended
pub error_told : {E : Type 0} (r : Result (Unit {0}) E) (es : List Event) (app named bytes out one two three four : List ℕ) (number : ℕ) → map placed_event es ≡ event_table → bytes ≡ named → named ≡ app
    → one ≡ out ++ event_said es bytes number 3 → two ≡ one ++ codes " (event " → three ≡ two ++ decimal number → OnOk r (four ≡ three ++ codes ")") → OnOk r (four ≡ out ++ error_said app number)
unfolding error_said
error_told (Ok done) es app named bytes out one two three four number table same is a b c d =
    let said : event_said es bytes number 3 ≡ event_said event_table app number 3 =
    sym (placed_sentence es bytes number 3) ∙ ap (λ (rows : List Event). event_said rows bytes number 3) table ∙ ap (λ (xs : List ℕ). event_said event_table xs number 3) (same ∙ is) in
    d ∙ rw (c, b, a, said) (simp append_assoc)
error_told (Err error) es app named bytes out one two three four number table same is a b c d = tt

-- ---- words for an error

placed_name : (es : List Event) (application : List ℕ) (number : ℕ) → event_name_words application (event_row (map placed_event es) application number 3) ≡ event_name_words application (event_row es application number 3)
unfolding event_row
placed_name [] application number = refl
placed_name (e ∷ es) application number = by (is_event application number 3 e) (placed_name es application number) where
  by : (b : Bool) → event_name_words application (event_row (map placed_event es) application number 3) ≡ event_name_words application (event_row es application number 3)
      → event_name_words application (if b then Some (placed_event e) else event_row (map placed_event es) application number 3) ≡ event_name_words application (if b then Some e else event_row es application number 3)
  by true h = refl
  by false h = h

found_true : (a b : Bool) → true ≡ a → true ≡ (a || b)
found_true true b is = refl
found_true false b is = let wrong : ⊥ = cc in absurd wrong

then_true : (a b c : Bool) → true ≡ b → true ≡ (a || (b || c))
then_true true b c is = refl
then_true false true c is = refl
then_true false false c is = let wrong : ⊥ = cc in absurd wrong

passed : (a b c : Bool) → false ≡ a → false ≡ b → c ≡ (a || (b || c))
passed false false c first second = refl
passed false true c first second = let wrong : ⊥ = cc in absurd wrong
passed true b c first second = let wrong : ⊥ = cc in absurd wrong

-- the words name all errors of the application
pub all_named : (text app named : List ℕ) (number : ℕ) → named ≡ app → true ≡ bytes_eq text (word_pair named (codes "any")) → true ≡ is_among (error_words app number) text
all_named text app named number is first =
    subst (λ (a : List ℕ). true ≡ is_among (error_words a number) text) is (found_true (bytes_eq text (word_pair named (codes "any"))) _ first)

-- they name it by its number
pub number_named : (text app named digits : List ℕ) (number : ℕ) → named ≡ app → digits ≡ decimal number → true ≡ bytes_eq text (word_pair named digits) → true ≡ is_among (error_words app number) text
number_named text app named digits number is written second =
    subst (λ (a : List ℕ). true ≡ is_among (error_words a number) text) is
    (then_true (bytes_eq text (word_pair named (codes "any"))) (bytes_eq text (word_pair named (decimal number))) _ (second ∙ ap (λ (word : List ℕ). bytes_eq text (word_pair named word)) written))

-- they name it by its name, or they don't
pub event_named : (text app named digits : List ℕ) (number : ℕ) (es : List Event) (found : Option Event) (r : Bool) → named ≡ app → digits ≡ decimal number → map placed_event es ≡ event_table → found ≡ event_row es named number 3
    → false ≡ bytes_eq text (word_pair named (codes "any")) → false ≡ bytes_eq text (word_pair named digits) → r ≡ is_among (event_name_words named found) text → r ≡ is_among (error_words app number) text
event_named text app named digits number es found r is written table row first second third =
    let names : event_name_words named found ≡ event_name_words named (event_row event_table named number 3) =
    ap (event_name_words named) row ∙ sym (placed_name es named number) ∙ ap (λ (rows : List Event). event_name_words named (event_row rows named number 3)) table in
    let other : false ≡ bytes_eq text (word_pair named (decimal number)) = second ∙ ap (λ (word : List ℕ). bytes_eq text (word_pair named word)) written in
    subst (λ (a : List ℕ). r ≡ is_among (error_words a number) text) is
    (third ∙ ap (λ (ws : List (List ℕ)). is_among ws text) names
    ∙ passed (bytes_eq text (word_pair named (codes "any"))) (bytes_eq text (word_pair named (decimal number))) (is_among (event_name_words named (event_row event_table named number 3)) text) first other)

-- a single name
pub one_named : (b : Bool) → b ≡ (b || false)
one_named true = refl
one_named false = refl
