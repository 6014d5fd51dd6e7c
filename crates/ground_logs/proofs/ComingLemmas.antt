-- Lemmas on what is still to come of a log.
use Rattle.std.proofs.Common.{◌≡◌, ℕ, ◌+◌, ◌-◌, ◌^◌, ◌<◌, ◌≤◌, ◌==◌, min, Bool, true, false, cond, ◌&&◌, List, [], ◌∷◌, ◌++◌, length, take, drop, map, Option, Some, None, Ok, Err, refl, ap, sym, ◌∙◌, subst, arith, append_assoc, append-nil, length-take, length-drop, take-append-drop}
use Rattle.std.specs.List.{slice_split, onto_first}
use Rattle.std.specs.Io.KnownBytes.{Consumes, IsAtEnd, prepend_known}
use Rattle.std.proofs.lemmas.List.{append_cancel_left, map-append, drop-drop, drop_all}
use Rattle.log_lines.specs.declared.fault.LogFault.{LogFault}
use Rattle.log_lines.specs.declared.line.LogLine.{LogLine}
use Rattle.log_lines.specs.declared.log_reader.Answer.{Answer}
use Rattle.log_lines.specs.declared.log_reader.Answer.TheVariants as answers
use Rattle.log_lines.specs.declared.log_reader.LogReader.{LogReader}
use Rattle.log_lines.specs.Lines.{line_said}
use Rattle.log_lines.specs.Texts.{lf_parts}
use Rattle.log_lines.specs.Logs.{Said, ended, log_said, cut_in, given, Stands as ReaderStands}
use Rattle.log_lines.proofs.LogLemmas.{gave_all}
use Rattle.ground_logs.specs.Making.{good_lines, lines_of, are_good, is_whole_end, is_log}
use Rattle.ground_logs.specs.Coming.{end_said, all_said, bytes_left, IsToSay, SaysFirst, SaysNothing, HasLines, GivesFirst, GivesNone}
use Rattle.ground_logs.specs.declared.good_lines.GoodLines.{GoodLines}
use Rattle.ground_logs.specs.declared.log_source.LogSource.{LogSource}
use Rattle.ground_logs.proofs.MakingLemmas.{good_lines_behind, are_good_behind, and_true, and_false}

-- ---- the lines of a text, and those of what comes behind it

abbrev is_lf : ℕ → Bool
is_lf b = b == 10

-- a byte in front of the first line that ended
abbrev onto_line : ℕ → List (List ℕ) → List (List ℕ)
onto_line x [] = []
onto_line x (line ∷ lines) = (x ∷ line) ∷ lines

-- lines are the first ones of others
abbrev IsFront : {A : Type 0} → List A → List A → Type 0
IsFront {A} xs ys = (more : List A) × (ys ≡ xs ++ more)

ended_onto : (x : ℕ) (ps : List (List ℕ)) → ended (onto_first x ps) ≡ onto_line x (ended ps)
ended_onto x [] = refl
ended_onto x (p ∷ []) = refl
ended_onto x (p ∷ q ∷ ps) = refl

ended_part : (ps : List (List ℕ)) → 0 < length ps → ended ([] ∷ ps) ≡ [] ∷ ended ps
ended_part [] h = absurd (omega (arith, h))
ended_part (p ∷ ps) h = refl

onto_front : (x : ℕ) (ls ms : List (List ℕ)) → IsFront ls ms → IsFront (onto_line x ls) (onto_line x ms)
onto_front x [] ms h = (onto_line x ms, refl)
onto_front x (l ∷ ls) ms h = (h.0, ap (onto_line x) h.1)

some_one : (x : ℕ) (b : Bool) (ps : List (List ℕ)) → 0 < length ps → 0 < length (cond b ([] ∷ ps) (onto_first x ps))
some_one x true ps h = omega arith
some_one x false [] h = omega arith
some_one x false (p ∷ ps) h = omega arith

parts_some : (xs : List ℕ) → 0 < length (slice_split is_lf xs)
parts_some [] = omega arith
parts_some (x ∷ xs) = some_one x (is_lf x) (slice_split is_lf xs) (parts_some xs)

front_one : (x : ℕ) (b : Bool) (ps qs : List (List ℕ)) → 0 < length ps → 0 < length qs → IsFront (ended ps) (ended qs)
    → IsFront (ended (cond b ([] ∷ ps) (onto_first x ps))) (ended (cond b ([] ∷ qs) (onto_first x qs)))
front_one x true ps qs some more h =
    (h.0, ended_part qs more ∙ ap (λ (ls : List (List ℕ)). [] ∷ ls) h.1 ∙ ap (λ (ls : List (List ℕ)). ls ++ h.0) (sym (ended_part ps some)))
front_one x false ps qs some more h =
    let k = onto_front x (ended ps) (ended qs) h in
    (k.0, ended_onto x qs ∙ k.1 ∙ ap (λ (ls : List (List ℕ)). ls ++ k.0) (sym (ended_onto x ps)))

front_lines : (xs ys : List ℕ) → IsFront (ended (slice_split is_lf xs)) (ended (slice_split is_lf (xs ++ ys)))
front_lines [] ys = (ended (slice_split is_lf ys), refl)
front_lines (x ∷ xs) ys =
    front_one x (is_lf x) (slice_split is_lf xs) (slice_split is_lf (xs ++ ys)) (parts_some xs) (parts_some (xs ++ ys)) (front_lines xs ys)

-- what a text's lines say is the first of what they say with more behind them
front_said : (xs ys : List ℕ) → IsFront (log_said xs) (log_said (xs ++ ys))
unfolding log_said lf_parts
front_said xs ys =
    let h = front_lines xs ys in
    (map line_said h.0, ap (map line_said) h.1 ∙ map-append line_said (ended (slice_split is_lf xs)) h.0)

front_all : (xs ys : List ℕ) → IsFront (log_said xs) (all_said (xs ++ ys))
unfolding all_said
front_all xs ys =
    let h = front_said xs ys in
    let end : List Said = end_said (cut_in (xs ++ ys)) in
    (h.0 ++ end, ap (λ (said : List Said). said ++ end) h.1 ∙ append_assoc (log_said xs) h.0 end)

-- ---- what is left of a source

known_left : (front : List ℕ) (known : Option (List ℕ)) (left : List ℕ) → prepend_known front known ≡ Some left
    → (back : List ℕ) × (known ≡ Some back) × (left ≡ front ++ back)
known_left front None left is = let wrong : ⊥ = cc in absurd wrong
known_left front (Some back) left is = let same : left ≡ front ++ back = cc in (back, refl, same)

nothing_behind : (count at : ℕ) (piece : List ℕ) → count ≤ at → drop at (take count piece) ≡ []
nothing_behind count at piece few =
    let size : length (take count piece) ≡ min count (length piece) = length-take count piece in
    drop_all at (take count piece) (omega arith)

read_known : (old new : Option (List ℕ)) (taken back : List ℕ) → old ≡ Some back → Consumes old new taken → prepend_known taken new ≡ Some back
read_known None new taken back is h = let wrong : ⊥ = cc in absurd wrong
read_known (Some xs) None taken back is h = absurd h
read_known (Some xs) (Some ys) taken back is h = ap Some (sym h) ∙ is

end_known : (known : Option (List ℕ)) (back : List ℕ) → known ≡ Some back → IsAtEnd known → back ≡ []
end_known None back is end = let wrong : ⊥ = cc in absurd wrong
end_known (Some xs) back is end = let same : back ≡ xs = cc in same ∙ end

-- ---- what a source has to say

-- a source of which nothing was read
pub to_say_all : {L : Type 0} (remaining : L → Option (List ℕ)) (source : LogSource L) (text : List ℕ)
    → ReaderStands source.reader [] [] → drop source.at (take source.count source.piece) ≡ [] → source.has_ended ≡ false
    → remaining source.log ≡ Some text → IsToSay remaining source (all_said text)
to_say_all remaining source text reader none goes_on is =
    let said : [] ≡ log_said [] = gave_all source.reader [] [] reader in
    record {
      fed = [];
      left = text;
      reader = subst (λ (gave : List Said). ReaderStands source.reader [] gave) said reader;
      rest = ap (λ (front : List ℕ). prepend_known front (remaining source.log)) none ∙ ap (prepend_known []) is;
      more = λ e. ap (λ (gave : List Said). gave ++ all_said text) said;
      none = λ e. let wrong : ⊥ = cc in absurd wrong;
    }

-- the next piece was read
pub to_say_read : {L : Type 0} (remaining : L → Option (List ℕ)) (old new : LogSource L) (said : List Said) → old.count ≤ old.at
    → Consumes (remaining old.log) (remaining new.log) (take new.count new.piece) → new.at ≡ 0 → new.reader ≡ old.reader → new.has_ended ≡ old.has_ended
    → IsToSay remaining old said → IsToSay remaining new said
to_say_read remaining old new said few reads at reader ended s =
    let k = known_left (drop old.at (take old.count old.piece)) (remaining old.log) s.left s.rest in
    let all : s.left ≡ k.0 = k.2 ∙ ap (λ (front : List ℕ). front ++ k.0) (nothing_behind old.count old.at old.piece few) in
    record {
      fed = s.fed;
      left = s.left;
      reader = subst (λ (r : LogReader). ReaderStands r s.fed (log_said s.fed)) (sym reader) s.reader;
      rest = ap (λ (n : ℕ). prepend_known (drop n (take new.count new.piece)) (remaining new.log)) at
          ∙ read_known (remaining old.log) (remaining new.log) (take new.count new.piece) k.0 k.1 reads ∙ ap Some (sym all);
      more = λ e. s.more (sym ended ∙ e);
      none = λ e. s.none (sym ended ∙ e);
    }

-- where the place behind what was taken of a piece is
moved : (piece rest : List ℕ) (at n to : ℕ) → rest ≡ drop at piece → to ≡ min (at + n) (2 ^ 64 - 1) → n ≤ length rest → at < 2 ^ 64 → length piece < 2 ^ 64
    → drop to piece ≡ drop n rest
moved piece rest at n to is to_is few small short =
    let size : length rest ≡ length piece - at = rw is (length-drop at piece) in
    let sum : to ≡ at + n = omega (arith, size, to_is, few, small, short) in
    rw (sum, is) (sym (drop-drop n at piece))

-- What was said of what a source had to say, with what is left.
pub record SaysFront {L : Type 0} (remaining : L → Option (List ℕ)) (new : LogSource L) (said gave : List Said) : Type 0 where
  pub others : List Said
  pub whole : said ≡ gave ++ others
  pub left : IsToSay remaining new others

-- the reader took bytes of the piece
to_say_fed : {L : Type 0} (remaining : L → Option (List ℕ)) (old new : LogSource L) (rest : List ℕ) (n : ℕ) (gave said : List Said)
    → old.has_ended ≡ false → new.has_ended ≡ old.has_ended → new.log ≡ old.log → rest ≡ drop old.at (take old.count old.piece)
    → drop new.at (take new.count new.piece) ≡ drop n rest
    → ((text : List ℕ) (before : List Said) → ReaderStands old.reader text before → ReaderStands new.reader (text ++ take n rest) (before ++ gave))
    → IsToSay remaining old said → SaysFront remaining new said gave
to_say_fed {L} remaining old new rest n gave said goes_on ended log is moves feeds s =
    let k = known_left (drop old.at (take old.count old.piece)) (remaining old.log) s.left s.rest in
    let fed : List ℕ = s.fed ++ take n rest in
    let left : List ℕ = drop n rest ++ k.0 in
    let reader : ReaderStands new.reader fed (log_said s.fed ++ gave) = feeds s.fed (log_said s.fed) s.reader in
    let same : log_said s.fed ++ gave ≡ log_said fed = gave_all new.reader fed (log_said s.fed ++ gave) reader in
    let front = front_all fed left in
    let joined : fed ++ left ≡ s.fed ++ s.left =
    append_assoc s.fed (take n rest) left
    ∙ ap (λ (xs : List ℕ). s.fed ++ xs) (sym (append_assoc (take n rest) (drop n rest) k.0) ∙ ap (λ (xs : List ℕ). xs ++ k.0) (take-append-drop n rest ∙ is) ∙ sym k.2) in
    let whole : log_said s.fed ++ said ≡ log_said s.fed ++ (gave ++ front.0) =
    sym (s.more goes_on) ∙ ap all_said (sym joined) ∙ front.1 ∙ ap (λ (xs : List Said). xs ++ front.0) (sym same) ∙ append_assoc (log_said s.fed) gave front.0 in
    record {
      others = front.0;
      whole = append_cancel_left (log_said s.fed) said (gave ++ front.0) whole;
      left = record {
        fed = fed;
        left = left;
        reader = subst (λ (xs : List Said). ReaderStands new.reader fed xs) same reader;
        rest = ap (λ (xs : List ℕ). prepend_known xs (remaining new.log)) moves ∙ ap (λ (l : L). prepend_known (drop n rest) (remaining l)) log ∙ ap (prepend_known (drop n rest)) k.1;
        more = λ e. front.1;
        none = λ e. let wrong : ⊥ = cc in absurd wrong;
      };
    }

-- the reader was fed what is left of the piece, and answered this
pub says_fed : {L : Type 0} (remaining : L → Option (List ℕ)) (old new : LogSource L) (rest : List ℕ) (n : ℕ) (answer : Answer) (said : List Said)
    → new.has_ended ≡ old.has_ended → new.log ≡ old.log → new.piece ≡ old.piece → new.count ≡ old.count → new.at ≡ min (old.at + n) (2 ^ 64 - 1)
    → rest ≡ drop old.at (take old.count old.piece) → n ≤ length rest → old.at < 2 ^ 64 → length old.piece < 2 ^ 64
    → ((text : List ℕ) (before : List Said) → ReaderStands old.reader text before → ReaderStands new.reader (text ++ take n rest) (before ++ given answer new.line))
    → old.has_ended ≡ false → IsToSay remaining old said → SaysFront remaining new said (given answer new.line)
says_fed remaining old new rest n answer said ended log piece count at is few small short feeds goes_on s =
    let size : length (take old.count old.piece) ≡ min old.count (length old.piece) = length-take old.count old.piece in
    let moves : drop new.at (take new.count new.piece) ≡ drop n rest =
    ap (λ (p : List ℕ). drop new.at (take new.count p)) piece ∙ ap (λ (c : ℕ). drop new.at (take c old.piece)) count
    ∙ moved (take old.count old.piece) rest old.at n new.at is at few small (omega (arith, size, short)) in
    to_say_fed remaining old new rest n (given answer new.line) said goes_on ended log is moves feeds s

-- no line ended in the bytes that were taken
pub says_more : {L : Type 0} (remaining : L → Option (List ℕ)) (new : LogSource L) (said : List Said) (answer : Answer) → answer ≡ answers.More
    → SaysFront remaining new said (given answer new.line) → IsToSay remaining new said
says_more remaining new said answer is s =
    let front : SaysFront remaining new said [] = subst (λ (a : Answer). SaysFront remaining new said (given a new.line)) is s in
    subst (λ (xs : List Said). IsToSay remaining new xs) (sym front.whole) front.left

-- a line ended in the bytes that were taken
pub says_line : {L : Type 0} (remaining : L → Option (List ℕ)) (new : LogSource L) (said : List Said) (answer : Answer) → answer ≡ answers.Line
    → SaysFront remaining new said (given answer new.line) → SaysFirst remaining new said (Ok new.line)
says_line remaining new said answer is s =
    let front : SaysFront remaining new said (Ok new.line ∷ []) = subst (λ (a : Answer). SaysFront remaining new said (given a new.line)) is s in
    record { others = front.others; whole = front.whole; left = front.left }

-- a line ended that is none of a log's
pub says_fault : {L : Type 0} (remaining : L → Option (List ℕ)) (new : LogSource L) (said : List Said) (answer : Answer) (fault : LogFault) → answer ≡ answers.Fault fault
    → SaysFront remaining new said (given answer new.line) → SaysFirst remaining new said (Err fault.fault)
says_fault remaining new said answer fault is s =
    let front : SaysFront remaining new said (Err fault.fault ∷ []) = subst (λ (a : Answer). SaysFront remaining new said (given a new.line)) is s in
    record { others = front.others; whole = front.whole; left = front.left }

-- nothing is left, and it was said
to_say_none : {L : Type 0} (remaining : L → Option (List ℕ)) (old new : LogSource L) (said : List Said) → new.reader ≡ old.reader → bytes_left remaining new ≡ bytes_left remaining old
    → new.has_ended ≡ true → IsToSay remaining old said → IsToSay remaining new []
to_say_none remaining old new said reader bytes ended s = record {
  fed = s.fed;
  left = s.left;
  reader = subst (λ (r : LogReader). ReaderStands r s.fed (log_said s.fed)) (sym reader) s.reader;
  rest = bytes ∙ s.rest;
  more = λ e. let wrong : ⊥ = cc in absurd wrong;
  none = λ e. refl;
}

-- what is said at the end of a log
said_at_end : {L : Type 0} (remaining : L → Option (List ℕ)) (old : LogSource L) (said : List Said) (end : Option LogFault) → old.has_ended ≡ false → old.count ≡ 0
    → IsAtEnd (remaining old.log) → ((text : List ℕ) (gave : List Said) → ReaderStands old.reader text gave → (gave ≡ log_said text) × (end ≡ cut_in text))
    → IsToSay remaining old said → said ≡ end_said end
unfolding all_said
said_at_end remaining old said end goes_on empty at_end finishes s =
    let k = known_left (drop old.at (take old.count old.piece)) (remaining old.log) s.left s.rest in
    let none : drop old.at (take old.count old.piece) ≡ [] = nothing_behind old.count old.at old.piece (omega arith) in
    let left : s.left ≡ [] = k.2 ∙ ap (λ (front : List ℕ). front ++ k.0) none ∙ end_known (remaining old.log) k.0 k.1 at_end in
    let all : s.fed ++ s.left ≡ s.fed = ap (λ (xs : List ℕ). s.fed ++ xs) left ∙ append-nil s.fed in
    let whole : log_said s.fed ++ said ≡ log_said s.fed ++ end_said (cut_in s.fed) = sym (s.more goes_on) ∙ ap all_said all in
    append_cancel_left (log_said s.fed) said (end_said (cut_in s.fed)) whole ∙ ap end_said (sym (finishes s.fed (log_said s.fed) s.reader).1)

-- the last line is cut off
pub says_last : {L : Type 0} (remaining : L → Option (List ℕ)) (old new : LogSource L) (said : List Said) (end : Option LogFault) (fault : LogFault) → end ≡ Some fault
    → new.reader ≡ old.reader → bytes_left remaining new ≡ bytes_left remaining old → new.has_ended ≡ true → old.has_ended ≡ false → old.count ≡ 0 → IsAtEnd (remaining old.log)
    → ((text : List ℕ) (gave : List Said) → ReaderStands old.reader text gave → (gave ≡ log_said text) × (end ≡ cut_in text))
    → IsToSay remaining old said → SaysFirst remaining new said (Err fault.fault)
says_last remaining old new said end fault is reader bytes ended goes_on empty at_end finishes s = record {
  others = [];
  whole = said_at_end remaining old said end goes_on empty at_end finishes s ∙ ap end_said is;
  left = to_say_none remaining old new said reader bytes ended s;
}

-- no line is cut off
pub says_end : {L : Type 0} (remaining : L → Option (List ℕ)) (old new : LogSource L) (said : List Said) (end : Option LogFault) → end ≡ None
    → new.reader ≡ old.reader → bytes_left remaining new ≡ bytes_left remaining old → new.has_ended ≡ true → old.has_ended ≡ false → old.count ≡ 0 → IsAtEnd (remaining old.log)
    → ((text : List ℕ) (gave : List Said) → ReaderStands old.reader text gave → (gave ≡ log_said text) × (end ≡ cut_in text))
    → IsToSay remaining old said → SaysNothing remaining new said
says_end remaining old new said end is reader bytes ended goes_on empty at_end finishes s = record {
  none = said_at_end remaining old said end goes_on empty at_end finishes s ∙ ap end_said is;
  left = to_say_none remaining old new said reader bytes ended s;
}

-- the end was said before
pub says_end_again : {L : Type 0} (remaining : L → Option (List ℕ)) (source : LogSource L) (said : List Said) → source.has_ended ≡ true → IsToSay remaining source said
    → SaysNothing remaining source said
says_end_again remaining source said ended s = record { none = s.none ended; left = to_say_none remaining source source said refl refl ended s }

-- ---- the lines that are a log's

no_line_at_end : (end : Option LogFault) → good_lines (end_said end) ≡ []
no_line_at_end None = refl
no_line_at_end (Some fault) = refl

good_at_end : (end : Option LogFault) → are_good (end_said end) ≡ is_whole_end end
good_at_end None = refl
good_at_end (Some fault) = refl

lines_said : (text : List ℕ) → lines_of text ≡ good_lines (all_said text)
unfolding lines_of all_said
lines_said text =
    sym (good_lines_behind (log_said text) (end_said (cut_in text)) ∙ ap (λ (lines : List LogLine). good_lines (log_said text) ++ lines) (no_line_at_end (cut_in text))
    ∙ append-nil (good_lines (log_said text)))

whole_said : (text : List ℕ) → is_log text ≡ are_good (all_said text)
unfolding is_log all_said
whole_said text =
    sym (are_good_behind (log_said text) (end_said (cut_in text)) ∙ ap (λ (b : Bool). are_good (log_said text) && b) (good_at_end (cut_in text)))

-- the lines of a log of which nothing was read
pub has_all_lines : {L E : Type 0} (remaining : L → Option (List ℕ)) (log : GoodLines L E) (text : List ℕ) → log.is_whole ≡ true
    → IsToSay remaining log.source (all_said text) → HasLines remaining log (lines_of text) (is_log text)
has_all_lines remaining log text whole source = record {
  said = all_said text;
  source = source;
  good = lines_said text;
  all = whole_said text ∙ ap (λ (b : Bool). b && are_good (all_said text)) (sym whole);
}

-- a line that is none was passed over
pub passes_over : {L E : Type 0} (remaining : L → Option (List ℕ)) (old new : GoodLines L E) (lines : List LogLine) (whole : Bool) (fault : LogFault) → new.is_whole ≡ false
    → ((said : List Said) → IsToSay remaining old.source said → SaysFirst remaining new.source said (Err fault.fault))
    → HasLines remaining old lines whole → HasLines remaining new lines whole
passes_over remaining old new lines whole fault strange says s =
    let first = says s.said s.source in
    record {
      said = first.others;
      source = first.left;
      good = s.good ∙ ap good_lines first.whole;
      all = s.all ∙ ap (λ (said : List Said). old.is_whole && are_good said) first.whole ∙ sym (and_false old.is_whole)
          ∙ ap (λ (b : Bool). b && are_good first.others) (sym strange);
    }

-- a line was given
pub gives_first : {L E : Type 0} (remaining : L → Option (List ℕ)) (old new : GoodLines L E) (lines : List LogLine) (whole : Bool) (line : LogLine) → new.is_whole ≡ old.is_whole
    → ((said : List Said) → IsToSay remaining old.source said → SaysFirst remaining new.source said (Ok line))
    → HasLines remaining old lines whole → GivesFirst remaining new lines whole line
gives_first remaining old new lines whole line same says s =
    let first = says s.said s.source in
    record {
      others = good_lines first.others;
      whole_list = s.good ∙ ap good_lines first.whole;
      left = record {
        said = first.others;
        source = first.left;
        good = refl;
        all = s.all ∙ ap (λ (said : List Said). old.is_whole && are_good said) first.whole ∙ ap (λ (b : Bool). b && are_good first.others) (sym same);
      };
    }

-- no line is left
pub gives_none : {L E : Type 0} (remaining : L → Option (List ℕ)) (old new : GoodLines L E) (lines : List LogLine) (whole : Bool) → new.is_whole ≡ old.is_whole
    → ((said : List Said) → IsToSay remaining old.source said → SaysNothing remaining new.source said)
    → HasLines remaining old lines whole → GivesNone new lines whole
gives_none remaining old new lines whole same says s =
    let last = says s.said s.source in
    record {
      none = s.good ∙ ap good_lines last.none;
      all = same ∙ and_true old.is_whole ∙ ap (λ (said : List Said). old.is_whole && are_good said) (sym last.none) ∙ sym s.all;
    }
