-- Lemmas on what a scenario's reader gives of lines, by their words alone.
use Rattle.std.proofs.Common.{◌≡◌, ℕ, ◌+◌, Bool, true, false, List, [], ◌∷◌, ◌++◌, length, map, inl, inr, Option, Some, None, refl, ap, sym, ◌∙◌, arith}
use Rattle.std.specs.Prelude.{◌==◌, ◌||◌, if◌then◌else◌, nat_lt, Result, Ok, Err}
use Rattle.std.specs.List.{slice_split}
use Rattle.std.proofs.lemmas.Bool.Decides.{nat_tests}
use Rattle.row_forms.specs.Words.{words}
use Rattle.row_forms.proofs.TextLemmas.{no_words}
use Rattle.table_texts.specs.Lines.{Numbered, lines_of, is_skipped, unless_skipped, kept, kept_of}
use Rattle.scenario.specs.declared.reason.Reason.{Reason}
use Rattle.scenario.specs.declared.reason.Reason.TheVariants as reasons
use Rattle.scenario.specs.declared.sentence.Place.{Place}
use Rattle.scenario.specs.declared.sentence.Place.TheVariants as places
use Rattle.scenario.specs.declared.sentence.Sentence.{Sentence}
use Rattle.scenario.specs.Words.{words as scenario_words}
use Rattle.scenario.specs.Sentences.{said, line_says}
use Rattle.scenario.specs.Frames.{place_after}
use Rattle.scenario.specs.Texts.{Line, Before, nothing, Given, Reading, Ending, Bad, Ended, Unended, whole_lines, is_too_long, then_unless, reads, passed, given, with_items, read, read_bytes, reading, end_of}
use Rattle.scenario.specs.LineLaws.{read_good, read_bad}
use Rattle.shown_plans.specs.KeptFrames.{whole_reading, GivesOrIsLong}

-- ---- what words give

-- the sentences behind a line that says this
abbrev behind : List Sentence → Option Sentence → List Sentence
behind old None = old
behind old (Some s) = s ∷ old

-- items in front of those of the lines behind
abbrev in_front : List Given → Option (List Given) → Option (List Given)
in_front items None = None
in_front items (Some more) = Some (items ++ more)

-- the items of a line and of those behind it
abbrev then_given : List Sentence → Result (Option Sentence) Reason → (List Sentence → Option (List Given)) → Option (List Given)
then_given old (Ok found) next = in_front (given old found) (next (behind old found))
then_given old (Err reason) next = None

-- no items, where a text may end at the place
abbrev given_at : Place → Option (List Given)
given_at places.Opening = None
given_at places.Header = None
given_at places.Between = None
given_at places.Inside = None
given_at places.Ended = Some []

-- the items of lines by their words, behind these sentences: none where one of them is bad, or `end` is missing
pub words_given : List Sentence → List (List (List ℕ)) → Option (List Given)
words_given old [] = given_at (place_after old)
words_given old (line ∷ more) = then_given old (then_unless old (said (place_after old) line)) (λ old. words_given old more)

words_cons : (old : List Sentence) (line : List (List ℕ)) (more : List (List (List ℕ))) → words_given old (line ∷ more) ≡ then_given old (then_unless old (said (place_after old) line)) (λ old. words_given old more)
unfolding words_given
words_cons old line more = refl

then_same : (old : List Sentence) (r : Result (Option Sentence) Reason) (f g : List Sentence → Option (List Given)) → ((old : List Sentence) → f old ≡ g old) → then_given old r f ≡ then_given old r g
then_same old (Ok found) f g same = ap (in_front (given old found)) (same (behind old found))
then_same old (Err reason) f g same = refl

-- a line that says the sentence of another one, in front of lines that give the items of others
pub cons_alike : (old : List Sentence) (made line : List (List ℕ)) (others more : List (List (List ℕ))) → ((place : Place) → said place made ≡ said place line) → ((old : List Sentence) → words_given old others ≡ words_given old more) → words_given old (made ∷ others) ≡ words_given old (line ∷ more)
cons_alike old made line others more says same =
    words_cons old made others
    ∙ ap (λ (r : Result (Option Sentence) Reason). then_given old (then_unless old r) (λ old. words_given old others)) (says (place_after old))
    ∙ then_same old (then_unless old (said (place_after old) line)) (λ old. words_given old others) (λ old. words_given old more) same
    ∙ sym (words_cons old line more)

front_none : (found : Option (List Given)) → in_front [] found ≡ found
front_none None = refl
front_none (Some items) = refl

skipped_said : (place : Place) (line : List (List ℕ)) → is_skipped line ≡ true → said place line ≡ Ok None
unfolding said
skipped_said place [] e = refl
skipped_said place (w ∷ ws) e = rw e refl

-- a line that is skipped gives nothing
skipped_given : (old : List Sentence) (line : List (List ℕ)) (more : List (List (List ℕ))) → is_skipped line ≡ true → words_given old (line ∷ more) ≡ words_given old more
skipped_given old line more e =
    words_cons old line more
    ∙ ap (λ (r : Result (Option Sentence) Reason). then_given old (then_unless old r) (λ old. words_given old more)) (skipped_said (place_after old) line e)
    ∙ front_none (words_given old more)

-- ---- the lines of a text

abbrev pub words_in : Line → List (List ℕ)
words_in line = words line.bytes

abbrev words_of : Numbered → List (List ℕ)
words_of line = line.words

empty_is : (xs : List ℕ) → length xs ≡ 0 → xs ≡ []
empty_is [] e = refl
empty_is (x ∷ xs) e = absurd (omega (arith, e))

last_given : (old : List Sentence) (last : List ℕ) → words_given old (map words_in (whole_lines true (last ∷ []))) ≡ words_given old (words last ∷ [])
last_given old last = by (nat_lt 640 (length last) || nat_lt 0 (length last)) refl where
  by : (b : Bool) → (nat_lt 640 (length last) || nat_lt 0 (length last)) ≡ b → words_given old (map words_in (if b then record { bytes = last; takes = length last } ∷ [] else [])) ≡ words_given old (words last ∷ [])
  by true e = refl
  by false e =
      let size : length last ≡ 0 = grind (arith, nat_tests) in
      let none : words last ≡ [] = ap words (empty_is last size) ∙ no_words in
      sym (skipped_given old (words last) [] (ap is_skipped none))

-- whole lines give what the parts between LFs give
lines_given : (old : List Sentence) (parts : List (List ℕ)) → words_given old (map words_in (whole_lines true parts)) ≡ words_given old (map words parts)
lines_given old [] = refl
lines_given old (last ∷ []) = last_given old last
lines_given old (part ∷ next ∷ more) = cons_alike old (words part) (words part) _ _ (λ place. refl) (λ old. lines_given old (next ∷ more))

kept_step : (old : List Sentence) (n : ℕ) (line : List (List ℕ)) (more : List Numbered) (others : List (List (List ℕ))) → ((old : List Sentence) → words_given old (map words_of more) ≡ words_given old others) → words_given old (map words_of (unless_skipped n line more)) ≡ words_given old (line ∷ others)
kept_step old n line more others same = by (is_skipped line) refl where
  by : (b : Bool) → is_skipped line ≡ b → words_given old (map words_of (if b then more else record { number = n; words = line } ∷ more)) ≡ words_given old (line ∷ others)
  by true e = same old ∙ sym (skipped_given old line others e)
  by false e = cons_alike old line line (map words_of more) others (λ place. refl) same

-- so do the lines that aren't skipped
kept_given : (old : List Sentence) (n : ℕ) (parts : List (List ℕ)) → words_given old (map words_of (kept n parts)) ≡ words_given old (map words parts)
unfolding kept
kept_given old n [] = refl
kept_given old n (part ∷ more) = kept_step old n (words part) (kept (n + 1) more) (map words more) (λ old. kept_given old (n + 1) more)

-- the words of a text's lines that aren't skipped
abbrev pub kept_words : List Numbered → List (List (List ℕ))
kept_words lines = map words_of lines

-- ---- what a reader gives of whole lines

same_words : (line : List ℕ) → scenario_words line ≡ words line
unfolding scenario_words words
same_words line = refl

reads_long : (old : Before) (line : Line) → is_too_long old line ≡ true → reads old line ≡ Err reasons.TooLong
unfolding reads
reads_long old line long = rw long refl

-- a line that isn't too long is read by its words
reads_words : (old : Before) (line : Line) → is_too_long old line ≡ false → reads old line ≡ then_unless old.sentences (said (place_after old.sentences) (words_in line))
unfolding reads line_says
reads_words old line short = rw (short, same_words line.bytes) refl

read_by : (old : Before) (line : Line) (found : Option Sentence) → reads old line ≡ Ok found → then_unless old.sentences (said (place_after old.sentences) (words_in line)) ≡ Ok found
read_by old line found e = by (is_too_long old line) refl where
  by : (b : Bool) → is_too_long old line ≡ b → then_unless old.sentences (said (place_after old.sentences) (words_in line)) ≡ Ok found
  by true long = let bad = reads_long old line long in absurd (cc)
  by false short = sym (reads_words old line short) ∙ e

passed_behind : (old : Before) (line : Line) (found : Option Sentence) → (passed old line found).sentences ≡ behind old.sentences found
passed_behind old line None = refl
passed_behind old line (Some s) = refl

abbrev ending_by : Place → ℕ → Ending
ending_by place lines = elim place [
  | places.Opening ↦ Unended lines
  | places.Header ↦ Unended lines
  | places.Between ↦ Unended lines
  | places.Inside ↦ Unended lines
  | places.Ended ↦ Ended
]

ended_given : (place : Place) (lines : ℕ) → ending_by place lines ≡ Ended → given_at place ≡ Some []
ended_given places.Opening lines e = absurd (cc)
ended_given places.Header lines e = absurd (cc)
ended_given places.Between lines e = absurd (cc)
ended_given places.Inside lines e = absurd (cc)
ended_given places.Ended lines e = refl

pub bad_ends : (n : ℕ) (reason : Reason) → Bad n reason ≡ Ended → ⊥
bad_ends n reason e = cc

good_step : (old : Before) (line : Line) (more : List Line) (r : Result (Option Sentence) Reason) → reads old line ≡ r → (read true old (line ∷ more)).ending ≡ Ended
    → ((found : Option Sentence) → (read true (passed old line found) more).ending ≡ Ended → words_given (passed old line found).sentences (map words_in more) ≡ Some (read true (passed old line found) more).items)
    → words_given old.sentences (map words_in (line ∷ more)) ≡ Some (read true old (line ∷ more)).items
good_step old line more (Err reason) e ends next = absurd (bad_ends (old.lines + 1) reason (sym (ap (λ (r : Reading). r.ending) (read_bad true old line more reason e)) ∙ ends))
good_step old line more (Ok found) e ends next =
    let same = read_good true old line more found e in
    words_cons old.sentences (words_in line) (map words_in more)
    ∙ ap (λ (r : Result (Option Sentence) Reason). then_given old.sentences r (λ old. words_given old (map words_in more))) (read_by old line found e)
    ∙ ap (λ (old' : List Sentence). in_front (given old.sentences found) (words_given old' (map words_in more))) (sym (passed_behind old line found))
    ∙ ap (in_front (given old.sentences found)) (next found (sym (ap (λ (r : Reading). r.ending) same) ∙ ends))
    ∙ ap (λ (r : Reading). Some r.items) (sym same)

-- lines that end well give the items of their words
pub good_given : (old : Before) (lines : List Line) → (read true old lines).ending ≡ Ended → words_given old.sentences (map words_in lines) ≡ Some (read true old lines).items
unfolding read words_given
good_given old [] ends = ended_given (place_after old.sentences) old.lines ends
good_given old (line ∷ more) ends = good_step old line more (reads old line) refl ends (λ found. good_given (passed old line found) more)

some_is : {A : Type 0} (a b : A) → (let x : Option A = Some a in x) ≡ Some b → a ≡ b
some_is a b e = cc

end_given : (place : Place) (lines : ℕ) (items : List Given) → given_at place ≡ Some items → GivesOrIsLong items (record { items = []; ending = ending_by place lines; stops = [] })
end_given places.Opening lines items e = absurd (cc)
end_given places.Header lines items e = absurd (cc)
end_given places.Between lines items e = absurd (cc)
end_given places.Inside lines items e = absurd (cc)
end_given places.Ended lines items e = inl (refl, some_is [] items e)

front_some : (front items : List Given) (found : Option (List Given)) → in_front front found ≡ Some items → (rest : List Given) × (found ≡ Some rest) × (front ++ rest ≡ items)
front_some front items None e = absurd (cc)
front_some front items (Some rest) e = (rest, refl, some_is (front ++ rest) items e)

onto_given : (front rest items : List Given) (ends : List ℕ) (r q : Reading) → front ++ rest ≡ items → q ≡ with_items front ends r → GivesOrIsLong rest r → GivesOrIsLong items q
onto_given front rest items ends r q all is (inl g) = inl (ap (λ (x : Reading). x.ending) is ∙ g.0, ap (λ (x : Reading). x.items) is ∙ ap (λ (xs : List Given). front ++ xs) g.1 ∙ all)
onto_given front rest items ends r q all is (inr long) = inr (long.0, ap (λ (x : Reading). x.ending) is ∙ long.1)

short_step : (old : Before) (line : Line) (more : List Line) (items : List Given) (r : Result (Option Sentence) Reason) → reads old line ≡ r → then_given old.sentences r (λ old. words_given old (map words_in more)) ≡ Some items
    → ((found : Option Sentence) (rest : List Given) → words_given (passed old line found).sentences (map words_in more) ≡ Some rest → GivesOrIsLong rest (read true (passed old line found) more))
    → GivesOrIsLong items (read true old (line ∷ more))
short_step old line more items (Err reason) e is next = absurd (cc)
short_step old line more items (Ok found) e is next =
    let parts = front_some (given old.sentences found) items (words_given (behind old.sentences found) (map words_in more)) is in
    let behind_it = ap (λ (old' : List Sentence). words_given old' (map words_in more)) (passed_behind old line found) ∙ parts.1 in
    onto_given (given old.sentences found) parts.0 items (map (λ _. end_of old line) (given old.sentences found)) (read true (passed old line found) more) (read true old (line ∷ more)) parts.2 (read_good true old line more found e) (next found parts.0 behind_it)

long_step : (old : Before) (line : Line) (more : List Line) (items : List Given) (b : Bool) → is_too_long old line ≡ b → words_given old.sentences (map words_in (line ∷ more)) ≡ Some items
    → ((found : Option Sentence) (rest : List Given) → words_given (passed old line found).sentences (map words_in more) ≡ Some rest → GivesOrIsLong rest (read true (passed old line found) more))
    → GivesOrIsLong items (read true old (line ∷ more))
long_step old line more items true long is next = inr (old.lines + 1, ap (λ (r : Reading). r.ending) (read_bad true old line more reasons.TooLong (reads_long old line long)))
long_step old line more items false short is next =
    let same = reads_words old line short in
    short_step old line more items (then_unless old.sentences (said (place_after old.sentences) (words_in line))) same (sym (words_cons old.sentences (words_in line) (map words_in more)) ∙ is) next

-- lines whose words give items end well with these, or one of them is too long
pub given_or_long : (old : Before) (lines : List Line) (items : List Given) → words_given old.sentences (map words_in lines) ≡ Some items → GivesOrIsLong items (read true old lines)
unfolding read words_given
given_or_long old [] items e = end_given (place_after old.sentences) old.lines items e
given_or_long old (line ∷ more) items e = long_step old line more items (is_too_long old line) refl e (λ found rest. given_or_long (passed old line found) more rest)

-- ---- a whole text

parts_given : (text : List ℕ) → words_given [] (map words_in (whole_lines true (slice_split (λ b. b == 10) text))) ≡ words_given [] (kept_words (kept_of 1 text))
unfolding lines_of
parts_given text = lines_given [] (slice_split (λ b. b == 10) text) ∙ sym (kept_given [] 1 (slice_split (λ b. b == 10) text))

-- a text that ends well gives the items of its words
pub text_given : (text : List ℕ) → (whole_reading text).ending ≡ Ended → words_given [] (kept_words (kept_of 1 text)) ≡ Some (whole_reading text).items
unfolding reading read_bytes
text_given text ends = sym (parts_given text) ∙ good_given nothing (whole_lines true (slice_split (λ b. b == 10) text)) ends

-- a text whose words give items ends well with these, or one of its lines is too long
pub text_or_long : (text : List ℕ) (items : List Given) → words_given [] (kept_words (kept_of 1 text)) ≡ Some items → GivesOrIsLong items (whole_reading text)
unfolding reading read_bytes
text_or_long text items e = given_or_long nothing (whole_lines true (slice_split (λ b. b == 10) text)) items (parts_given text ∙ e)
