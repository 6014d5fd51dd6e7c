-- Lemmas on the lines of a scenario as its plan's scenario has them: a scenario's reader finds in both the header and the frames of the other.
use Rattle.std.proofs.Common.{◌≡◌, ℕ, ◌+◌, ◌*◌, ◌<◌, Bool, true, false, ◌&&◌, List, [], ◌∷◌, ◌++◌, length, map, Option, Some, None, refl, ap, sym, ◌∙◌, arith, subst, inl, inr, Vec, Global}
use Rattle.std.specs.Prelude.{if◌then◌else◌, codes, Result, Ok, Err}
use Rattle.std.specs.Char.{is_digit, digit_value}
use Rattle.std.specs.List.{AllByRecursion}
use Rattle.std.specs.Str.{bytes_eq}
use Rattle.std.proofs.lemmas.Bool.Decides.{nat_tests}
use Rattle.packet_forms.specs.Hex.{hex}
use Rattle.row_forms.specs.Words.{words, before, hex_said}
use Rattle.row_forms.proofs.TextLemmas.{and_both}
use Rattle.row_forms.proofs.HexLemmas.{hex_is_plain, hex_length, hex_is_bytes}
use Rattle.telecommands.specs.declared.command.Command.{Command}
use Rattle.telecommands.proofs.CommandLemmas.{same_bytes}
use Rattle.table_texts.specs.Lines.{Numbered, kept_of}
use Rattle.scenario.specs.declared.sentence.Place.{Place}
use Rattle.scenario.specs.declared.sentence.Sentence.{Sentence}
use Rattle.scenario.specs.Words.{hex as scenario_hex}
use Rattle.scenario.specs.Sentences.{is_in_frames, verb_of, verb_at, send_line, sentence_of, said}
use Rattle.scenario.specs.declared.item.Item.TheVariants as answers
use Rattle.scenario.specs.declared.reason.Reason.TheVariants as reasons
use Rattle.scenario.specs.Answers.{answer_at_end}
use Rattle.scenario.specs.Texts.{nothing, Reading, Ending, Bad, Ended, Unended, Open, read, read_bytes, reading}
use Rattle.plan_text.specs.Lines.{line_bytes, line_text, text_of, sent_line}
use Rattle.plan_text.specs.Readings.{as_line, IsTextLine}
use Rattle.plan_text.proofs.WritingLemmas.{text_nil, text_cons}
use Rattle.plan_text.proofs.WordLemmas.{text_lines, line_words, whole_text}
use Rattle.plan_text.proofs.MadeLemmas.{plain_word}
use Rattle.timed_plans.specs.Checks.{answered, scenario_said}
use Rattle.timed_plans.proofs.FrameLemmas.{made_ends}
use Rattle.shown_plans.specs.Shown.{plain_packet, plain_sent, plain_line, plain_words, plain_lines, plain_of, plan_shown, GivesShown}
use Rattle.shown_plans.specs.declared.plan.ShowError.{ShowError}
use Rattle.shown_plans.specs.KeptFrames.{whole_reading, GivesOrIsLong, HaveSameFrames, GivesPlanOf}
use Rattle.shown_plans.proofs.ShownLemmas.{plain_nil, plain_cons}
use Rattle.shown_plans.proofs.ReadLemmas.{words_given, cons_alike, kept_words, words_in, bad_ends, good_given, given_or_long, text_given, text_or_long}

-- ---- digits

hex_same : (word : List ℕ) → hex_said word ≡ scenario_hex word
unfolding hex_said scenario_hex
hex_same [] = refl
hex_same (c ∷ []) = refl
hex_same (c ∷ d ∷ more) = rw (hex_same more) refl

-- what digits write is bytes, one for each two of them
abbrev WritesBytes : List ℕ → Option (List ℕ) → Type 0
WritesBytes word None = Unit {0}
WritesBytes word (Some bytes) = AllByRecursion (λ b. b < 256) bytes × (length word ≡ 2 * length bytes)

pair_small : (c d : ℕ) → is_digit c 16 ≡ true → is_digit d 16 ≡ true → 16 * digit_value c + digit_value d < 256
pair_small c d first second =
    let a : digit_value c < 16 = grind (arith, nat_tests, first) in
    let b : digit_value d < 16 = grind (arith, nat_tests, second) in
    omega (arith, a, b)

pair_writes : (b c d : ℕ) (more : List ℕ) (found : Option (List ℕ)) → b < 256 → WritesBytes more found → WritesBytes (c ∷ d ∷ more) (before b found)
pair_writes b c d more None small all = tt
pair_writes b c d more (Some bytes) small all = let size = all.1 in ((small, all.0), omega (arith, size))

hex_writes : (word : List ℕ) → WritesBytes word (hex_said word)
unfolding hex_said
hex_writes [] = (tt, refl)
hex_writes (c ∷ []) = tt
hex_writes (c ∷ d ∷ more) = by (is_digit c 16 && is_digit d 16) refl (hex_writes more) where
  by : (b : Bool) → (is_digit c 16 && is_digit d 16) ≡ b → WritesBytes more (hex_said more) → WritesBytes (c ∷ d ∷ more) (if b then before (16 * digit_value c + digit_value d) (hex_said more) else None)
  by true e all = let parts = and_both (is_digit c 16) (is_digit d 16) e in pair_writes (16 * digit_value c + digit_value d) c d more (hex_said more) (pair_small c d parts.0 parts.1) all
  by false e all = tt

-- ---- one line

-- `send` says what its digits write
send_says : (place : Place) (word digits bytes : List ℕ) → scenario_hex word ≡ Some bytes → scenario_hex digits ≡ Some bytes → said place (codes "send" ∷ digits ∷ []) ≡ said place (codes "send" ∷ word ∷ [])
unfolding said verb_at verb_of sentence_of send_line
send_says place word digits bytes one other = by (is_in_frames place) refl where
  by : (b : Bool) → is_in_frames place ≡ b → said place (codes "send" ∷ digits ∷ []) ≡ said place (codes "send" ∷ word ∷ [])
  by true e = rw (e, one, other) refl
  by false e = rw e refl

sent_line_is : (bytes : List ℕ) → 0 < length bytes → IsTextLine (sent_line bytes)
sent_line_is bytes some =
    let size = hex_length bytes in
    ((omega arith, (refl, (refl, (refl, (refl, tt)))), (refl, (refl, (refl, (refl, tt))))), refl, (plain_word (hex bytes) (omega (arith, some, size)) (hex_is_plain bytes), tt))

-- a text is that of a line which says what another line says
record Retold (line : List (List ℕ)) (text : List ℕ) : Type 0 where
  made : List (List ℕ)
  text_is : text ≡ line_text made
  is : IsTextLine made
  says : (place : Place) → said place made ≡ said place line

itself : (line : List (List ℕ)) → IsTextLine line → Retold line (line_text line)
itself line is = record { made = line; text_is = refl; is = is; says = λ place. refl }

digits_retold : (first word bytes : List ℕ) → IsTextLine (first ∷ word ∷ []) → first ≡ codes "send" → hex_said word ≡ Some bytes → Retold (first ∷ word ∷ []) (line_text (sent_line bytes))
digits_retold first word bytes is send digits =
    let writes = subst (WritesBytes word) digits (hex_writes word) in
    let some : 0 < length word = is.2.0.0 in
    let size = writes.1 in
    let own : scenario_hex word ≡ Some bytes = sym (hex_same word) ∙ digits in
    let made : scenario_hex (hex bytes) ≡ Some bytes = sym (hex_same (hex bytes)) ∙ hex_is_bytes bytes writes.0 in
    record {
      made = sent_line bytes;
      text_is = refl;
      is = sent_line_is bytes (omega (arith, some, size));
      says = λ place. send_says place word (hex bytes) bytes own made ∙ ap (λ (w : List ℕ). said place (w ∷ word ∷ [])) (sym send);
    }

packet_retold : (first word : List ℕ) → IsTextLine (first ∷ word ∷ []) → first ≡ codes "send" → (found : Option (List ℕ)) → hex_said word ≡ found → Retold (first ∷ word ∷ []) (plain_packet (first ∷ word ∷ []) found)
packet_retold first word is send None e = itself (first ∷ word ∷ []) is
packet_retold first word is send (Some bytes) e = digits_retold first word bytes is send e

sent_retold : (first : List ℕ) (others : List (List ℕ)) → IsTextLine (first ∷ others) → first ≡ codes "send" → Retold (first ∷ others) (plain_sent (first ∷ others) others)
sent_retold first [] is send = itself (first ∷ []) is
sent_retold first (word ∷ []) is send = packet_retold first word is send (hex_said word) refl
sent_retold first (word ∷ w ∷ ws) is send = itself (first ∷ word ∷ w ∷ ws) is

line_retold : (line : List (List ℕ)) → IsTextLine line → Retold line (plain_words line)
unfolding plain_line
line_retold [] is = absurd is
line_retold (first ∷ others) is = by (bytes_eq first (codes "send")) refl where
  by : (b : Bool) → bytes_eq first (codes "send") ≡ b → Retold (first ∷ others) (if b then plain_sent (first ∷ others) others else line_text (first ∷ others))
  by true e = sent_retold first others is (same_bytes first (codes "send") e)
  by false e = itself (first ∷ others) is

-- ---- all lines

-- lines that aren't skipped, and lines with their text that give their items
record AllRetold (lines : List Numbered) : Type 0 where
  made : List (List (List ℕ))
  text : plain_lines lines ≡ text_of made
  are : AllByRecursion IsTextLine made
  gives : (old : List Sentence) → words_given old made ≡ words_given old (kept_words lines)

lines_retold : (lines : List Numbered) → AllByRecursion (λ (l : Numbered). IsTextLine l.words) lines → AllRetold lines
lines_retold [] all = record { made = []; text = plain_nil ∙ sym text_nil; are = tt; gives = λ old. refl }
lines_retold (line ∷ more) all =
    let first = line_retold line.words all.0 in
    let rest = lines_retold more all.1 in
    record {
      made = first.made ∷ rest.made;
      text =
          plain_cons line more
          ∙ ap (λ (x : List ℕ). x ++ plain_lines more) first.text_is
          ∙ ap (λ (x : List ℕ). line_text first.made ++ x) rest.text
          ∙ sym (text_cons first.made rest.made);
      are = (first.is, rest.are);
      gives = λ old. cons_alike old first.made line.words rest.made (kept_words more) first.says rest.gives;
    }

text_retold : (text : List ℕ) → AllRetold (kept_of 1 text)
text_retold text = lines_retold (kept_of 1 text) (text_lines 1 text)

as_words : (lines : List (List (List ℕ))) → AllByRecursion IsTextLine lines → map words_in (map as_line lines) ≡ lines
as_words [] all = refl
as_words (line ∷ more) all =
    ap (λ (ls : List (List (List ℕ))). words (line_bytes line) ∷ ls) (as_words more all.1)
    ∙ ap (λ (l : List (List ℕ)). l ∷ more) (line_words line all.0)

-- ---- whole texts

reading_is : (lines : List (List (List ℕ))) → AllByRecursion IsTextLine lines → whole_reading (text_of lines) ≡ read true nothing (map as_line lines)
unfolding reading read_bytes
reading_is lines all = ap (read true nothing) (whole_text lines all)

plain_reading : (text : List ℕ) → whole_reading (plain_of text) ≡ read true nothing (map as_line (text_retold text).made)
plain_reading text = let told = text_retold text in ap whole_reading told.text ∙ reading_is told.made told.are

-- where no fault is found in the lines of a plan's scenario, they give what the scenario gives that is shown
pub plain_keeps : (text : List ℕ) → (whole_reading (plain_of text)).ending ≡ Ended → GivesOrIsLong (whole_reading (plain_of text)).items (whole_reading text)
plain_keeps text ends =
    let told = text_retold text in
    let same = plain_reading text in
    let lines = map as_line told.made in
    text_or_long text (whole_reading (plain_of text)).items (
    sym (told.gives [])
    ∙ ap (words_given []) (sym (as_words told.made told.are))
    ∙ good_given nothing lines (sym (ap (λ (r : Reading). r.ending) same) ∙ ends)
    ∙ ap (λ (r : Reading). Some r.items) (sym same)
    )

-- where no fault is found in a scenario, its lines as a plan's scenario has them give what it gives
pub scenario_keeps : (text : List ℕ) → (whole_reading text).ending ≡ Ended → GivesOrIsLong (whole_reading text).items (whole_reading (plain_of text))
scenario_keeps text ends =
    let told = text_retold text in
    let items = (whole_reading text).items in
    subst (GivesOrIsLong items) (sym (plain_reading text)) (given_or_long nothing (map as_line told.made) items (ap (words_given []) (as_words told.made told.are) ∙ told.gives [] ∙ text_given text ends))

same_frames : (made text : List ℕ) → (whole_reading made).ending ≡ Ended → (whole_reading text).ending ≡ Ended → GivesOrIsLong (whole_reading made).items (whole_reading text) → HaveSameFrames made text
same_frames made text ends good (inl both) = (ends, good, sym both.1)
same_frames made text ends good (inr long) = absurd (bad_ends long.0 reasons.TooLong (sym long.1 ∙ good))

end_ended : (e : Ending) → answer_at_end e ≡ answers.End → e ≡ Ended
end_ended (Bad n reason) e = absurd (cc)
end_ended Ended e = refl
end_ended (Unended n) e = absurd (cc)
end_ended Open e = absurd (cc)

-- a plan that is given says a scenario with the frames of the one that was shown
pub plan_is : (cs : List Command) (text : List ℕ) (r : Result (Vec ℕ Global) ShowError) → answered text ≡ answers.End → GivesShown cs text r → GivesPlanOf cs text r
plan_is cs text (Ok shown) good is =
    let ends = made_ends cs (plan_shown cs text) (plain_of text) is.1 in
    let same = same_frames (plain_of text) text ends (end_ended (whole_reading text).ending good) (plain_keeps text ends) in
    (plain_of text, ap (scenario_said cs) is.0 ∙ is.1, same)
plan_is cs text (Err error) good is = tt
