-- Lemmas on logs that come in pieces.
use Rattle.std.proofs.Common.{◌≡◌, ◌==◌, ℕ, suc, ◌+◌, ◌-◌, ◌^◌, ◌<◌, ◌≤◌, min, Bool, true, false, cond, List, [], ◌∷◌, ◌++◌, length, take, map, Some, None, refl, ap, sym, ◌∙◌, arith, append_assoc, append-nil, length-append, length-take, if◌then◌else◌}
use Rattle.std.specs.Prelude.{nat_lt, Result, Ok, Err, flat_map}
use Rattle.std.specs.List.{AllByRecursion, slice_split, onto_first, position, position_or_len, join_with_byte}
use Rattle.std.proofs.lemmas.List.Splits.{join_with_byte-slice_split}
use Rattle.std.proofs.lemmas.Bool.Decides.{nat_tests}
use Rattle.std.proofs.lemmas.List.{take_all, map-append, take-append-le}
use Rattle.std.proofs.Math.Seq.{take-append-add}
use Rattle.log_lines.specs.declared.fault.LineFault.{LineFault}
use Rattle.log_lines.specs.declared.fault.LineFault.TheVariants as faults
use Rattle.log_lines.specs.declared.fault.LogFault.{LogFault}
use Rattle.log_lines.specs.declared.line.LogLine.{LogLine}
use Rattle.log_lines.specs.declared.log_reader.Answer.{Answer}
use Rattle.log_lines.specs.declared.log_reader.Answer.TheVariants as answers
use Rattle.log_lines.specs.declared.log_reader.LogReader.{LogReader}
use Rattle.log_lines.specs.Lines.{line_words, words_said, line_said}
use Rattle.log_lines.specs.Texts.{lf_parts, line_text, IsLine}
use Rattle.log_lines.specs.Logs.{ended, begun, log_said, number_behind, fault_in, cut_in, Stands, given, Tells}
use Rattle.row_forms.proofs.WordsLemmas.{position_is}
use Rattle.log_lines.proofs.PartsLemmas.{whole_part}
use Rattle.log_lines.proofs.LineLemmas.{line_body, body_back, body_first, line_exact}

abbrev is_lf : ℕ → Bool
is_lf b = b == 10

-- ---- parts of a text and of what comes behind it

-- parts in front of parts, the last one and the first one joined
abbrev join : List (List ℕ) → List (List ℕ) → List (List ℕ)
join [] qs = qs
join (p ∷ []) [] = p ∷ []
join (p ∷ []) (q ∷ qs) = (p ++ q) ∷ qs
join (p ∷ next ∷ ps) qs = p ∷ join (next ∷ ps) qs

some_one : (x : ℕ) (b : Bool) (ps : List (List ℕ)) → 0 < length ps → 0 < length (cond b ([] ∷ ps) (onto_first x ps))
some_one x true ps h = omega arith
some_one x false [] h = omega arith
some_one x false (p ∷ ps) h = omega arith

parts_some : (xs : List ℕ) → 0 < length (slice_split is_lf xs)
parts_some [] = omega arith
parts_some (x ∷ xs) = some_one x (is_lf x) (slice_split is_lf xs) (parts_some xs)

join_none : (qs : List (List ℕ)) → 0 < length qs → qs ≡ join ([] ∷ []) qs
join_none [] h = absurd (omega (arith, h))
join_none (q ∷ qs) h = refl

join_part : (ps qs : List (List ℕ)) → 0 < length ps → [] ∷ join ps qs ≡ join ([] ∷ ps) qs
join_part [] qs h = absurd (omega (arith, h))
join_part (p ∷ ps) qs h = refl

join_onto : (x : ℕ) (ps qs : List (List ℕ)) → 0 < length ps → 0 < length qs → onto_first x (join ps qs) ≡ join (onto_first x ps) qs
join_onto x [] qs h k = absurd (omega (arith, h))
join_onto x (p ∷ []) [] h k = refl
join_onto x (p ∷ []) (q ∷ qs) h k = refl
join_onto x (p ∷ next ∷ ps) qs h k = refl

join_one : (x : ℕ) (xs ys : List ℕ) (b : Bool) → is_lf x ≡ b → slice_split is_lf (xs ++ ys) ≡ join (slice_split is_lf xs) (slice_split is_lf ys)
    → slice_split is_lf (x ∷ xs ++ ys) ≡ join (slice_split is_lf (x ∷ xs)) (slice_split is_lf ys)
join_one x xs ys true e h = rw e (ap (λ ps. [] ∷ ps) h ∙ join_part _ _ (parts_some xs))
join_one x xs ys false e h = rw e (ap (onto_first x) h ∙ join_onto x _ _ (parts_some xs) (parts_some ys))

split_append : (xs ys : List ℕ) → slice_split is_lf (xs ++ ys) ≡ join (slice_split is_lf xs) (slice_split is_lf ys)
split_append [] ys = join_none _ (parts_some ys)
split_append (x ∷ xs) ys = join_one x xs ys (is_lf x) refl (split_append xs ys)

join_more : (part : List ℕ) (ps qs : List (List ℕ)) → 0 < length ps → join (part ∷ ps) qs ≡ part ∷ join ps qs
join_more part [] qs h = absurd (omega (arith, h))
join_more part (p ∷ ps) qs h = refl

pushed_some : (lines : List (List ℕ)) (last : List ℕ) → 0 < length (lines ++ last ∷ [])
pushed_some [] last = omega arith
pushed_some (line ∷ lines) last = omega arith

join_last : (lines : List (List ℕ)) (last q : List ℕ) (qs : List (List ℕ)) → join (lines ++ last ∷ []) (q ∷ qs) ≡ lines ++ (last ++ q) ∷ qs
join_last [] last q qs = refl
join_last (line ∷ lines) last q qs = join_more line (lines ++ last ∷ []) (q ∷ qs) (pushed_some lines last) ∙ ap (λ (ps : List (List ℕ)). line ∷ ps) (join_last lines last q qs)

-- bytes behind a text, of which the parts are these
parts_behind : (text bytes last q : List ℕ) (lines qs : List (List ℕ)) → lf_parts text ≡ lines ++ last ∷ [] → slice_split is_lf bytes ≡ q ∷ qs → lf_parts (text ++ bytes) ≡ lines ++ (last ++ q) ∷ qs
unfolding lf_parts
parts_behind text bytes last q lines qs e f = split_append text bytes ∙ rw (e, f) (join_last lines last q qs)

-- ---- the lines that ended, and the one that has begun

ended_more : (part : List ℕ) (ps : List (List ℕ)) → 0 < length ps → ended (part ∷ ps) ≡ part ∷ ended ps
ended_more part [] h = absurd (omega (arith, h))
ended_more part (p ∷ ps) h = refl

ended_is : (lines : List (List ℕ)) (last : List ℕ) → ended (lines ++ last ∷ []) ≡ lines
ended_is [] last = refl
ended_is (line ∷ lines) last = ended_more line (lines ++ last ∷ []) (pushed_some lines last) ∙ ap (λ (ps : List (List ℕ)). line ∷ ps) (ended_is lines last)

begun_more : (part : List ℕ) (ps : List (List ℕ)) → 0 < length ps → begun (part ∷ ps) ≡ begun ps
begun_more part [] h = absurd (omega (arith, h))
begun_more part (p ∷ ps) h = refl

begun_is : (lines : List (List ℕ)) (last : List ℕ) → begun (lines ++ last ∷ []) ≡ last
begun_is [] last = refl
begun_is (line ∷ lines) last = begun_more line (lines ++ last ∷ []) (pushed_some lines last) ∙ begun_is lines last

-- ---- a line of which no more is kept than tells whether it is too long

cut_if : (last : List ℕ) (b : Bool) → nat_lt 640 (length last) ≡ b → line_said (take 641 last) ≡ line_said last
unfolding line_said
cut_if last true e =
    let long : 640 < length last = grind (arith, nat_tests) in
    let size : length (take 641 last) ≡ 641 = simp length-take (omega (arith, long)) in
    rw (e, size) refl
cut_if last false e = ap (λ (xs : List ℕ). if nat_lt 640 (length xs) then Err faults.Long else words_said (line_words xs)) (take_all 641 last (let few : length last ≤ 640 = grind (arith, nat_tests) in omega (arith, few)))

cut_says : (last : List ℕ) → line_said (take 641 last) ≡ line_said last
cut_says last = cut_if last (nat_lt 640 (length last)) refl

keep_if : (last bytes : List ℕ) (b : Bool) → nat_lt 640 (length last) ≡ b → take 641 last ++ take (641 - length (take 641 last)) bytes ≡ take 641 (last ++ bytes)
keep_if last bytes true e =
    let long : 641 ≤ length last = grind (arith, nat_tests) in
    let none : 641 - length (take 641 last) ≡ 0 = simp length-take (omega (arith, long)) in
    rw none (append-nil (take 641 last) ∙ sym (take-append-le 641 last bytes long))
keep_if last bytes false e =
    let few : length last ≤ 641 = grind (arith, nat_tests) in
    let whole : take 641 last ≡ last = take_all 641 last few in
    let size : length last + (641 - length last) ≡ 641 = omega (arith, few) in
    rw whole (sym (take-append-add last bytes (641 - length last)) ∙ ap (λ (n : ℕ). take n (last ++ bytes)) size)

-- bytes that are kept behind others, as far as there is room
pub keeps : (last bytes kept new : List ℕ) (room : ℕ) → kept ≡ take 641 last → room ≡ 641 - length kept → new ≡ kept ++ take room bytes → new ≡ take 641 (last ++ bytes)
keeps last bytes kept new room k r n = rw (n, r, k) (keep_if last bytes (nat_lt 640 (length last)) refl)

-- ---- readers

-- a reader of which nothing was fed
pub starts : (r : LogReader) → r.lines ≡ 0 → r.kept ≡ [] → Stands r [] []
unfolding lf_parts
starts r none empty = record { lines = []; last = []; parts = refl; says = refl; count = none; kept = empty }

-- bytes without an LF were fed
pub stands_more : (old new : LogReader) (text piece : List ℕ) (gave : List (Result LogLine LineFault)) (said : LogLine) → Stands old text gave → position (λ b. b == 10) piece ≡ None
    → ((last : List ℕ) → old.kept ≡ take 641 last → new.kept ≡ take 641 (last ++ piece)) → new.lines ≡ old.lines → Stands new (text ++ piece) (gave ++ given answers.More said)
stands_more old new text piece gave said s none keeps same = record {
  lines = s.lines;
  last = s.last ++ piece;
  parts = parts_behind text piece s.last piece s.lines [] s.parts (whole_part is_lf piece none);
  says = append-nil gave ∙ s.says;
  count = same ∙ s.count;
  kept = keeps s.last s.kept;
}

take_more : (n x : ℕ) (xs : List ℕ) → take (1 + n) (x ∷ xs) ≡ x ∷ take n xs
take_more n x xs = let e : 1 + n ≡ suc n = omega arith in rw e refl

take_two : (n x : ℕ) (xs : List ℕ) → take (1 + n + 1) (x ∷ xs) ≡ x ∷ take (n + 1) xs
take_two n x xs = let e : 1 + n + 1 ≡ suc (n + 1) = omega arith in rw e refl

lf_one : (x : ℕ) (xs : List ℕ) (b : Bool) → is_lf x ≡ b → (position_or_len is_lf xs < length xs → slice_split is_lf (take (position_or_len is_lf xs + 1) xs) ≡ take (position_or_len is_lf xs) xs ∷ [] ∷ [])
    → position_or_len is_lf (x ∷ xs) < length (x ∷ xs) → slice_split is_lf (take (position_or_len is_lf (x ∷ xs) + 1) (x ∷ xs)) ≡ take (position_or_len is_lf (x ∷ xs)) (x ∷ xs) ∷ [] ∷ []
lf_one x xs true e ih h = rw e (rw e refl)
lf_one x xs false e ih h =
    let k = rw e at h in
    rw e (rw (take_two, take_more, e) (ap (onto_first x) (ih (omega (arith, k)))))

lf_at : (xs : List ℕ) → position_or_len is_lf xs < length xs → slice_split is_lf (take (position_or_len is_lf xs + 1) xs) ≡ take (position_or_len is_lf xs) xs ∷ [] ∷ []
lf_at [] h = absurd (omega (arith, h))
lf_at (x ∷ xs) h = lf_one x xs (is_lf x) refl (lf_at xs) h

-- what was fed as far as an LF
lf_line : (piece : List ℕ) (at : ℕ) → position (λ b. b == 10) piece ≡ Some at → slice_split is_lf (take (at + 1) piece) ≡ take at piece ∷ [] ∷ []
lf_line piece at found =
    let here = position_is is_lf piece at found in
    let within : position_or_len is_lf piece < length piece = omega (arith, here.0, here.1) in
    ap (slice_split is_lf) (ap (λ (n : ℕ). take (n + 1) piece) here.0) ∙ lf_at piece within ∙ ap (λ (n : ℕ). take n piece ∷ [] ∷ []) (sym here.0)

given_of : (lines : ℕ) (r : Result LogLine LineFault) (said : LogLine) (answer : Answer) → Tells lines r said answer → given answer said ≡ r ∷ []
given_of lines (Ok line) said answer h = rw (h.0, h.1) refl
given_of lines (Err fault) said answer h = rw h refl

-- a piece was fed as far as its first LF
pub stands_line : (old middle new : LogReader) (text piece : List ℕ) (gave : List (Result LogLine LineFault)) (said : LogLine) (answer : Answer) (at : ℕ) → Stands old text gave → position (λ b. b == 10) piece ≡ Some at
    → ((last : List ℕ) → old.kept ≡ take 641 last → middle.kept ≡ take 641 (last ++ take at piece)) → middle.lines ≡ old.lines
    → Tells middle.lines (line_said middle.kept) said answer → new.lines ≡ number_behind middle.lines → new.kept ≡ [] → Stands new (text ++ take (at + 1) piece) (gave ++ given answer said)
stands_line old middle new text piece gave said answer at s found keeps same tells lines empty =
    let line = s.last ++ take at piece in
    let says : line_said middle.kept ≡ line_said line = ap line_said (keeps s.last s.kept) ∙ cut_says line in
    record {
      lines = s.lines ++ line ∷ [];
      last = [];
      parts = parts_behind text (take (at + 1) piece) s.last (take at piece) s.lines ([] ∷ []) s.parts (lf_line piece at found) ∙ sym (append_assoc s.lines (line ∷ []) ([] ∷ []));
      says =
          rw (given_of middle.lines (line_said middle.kept) said answer tells, says, s.says) (sym (map-append line_said s.lines (line ∷ [])));
      count =
          let size = length-append s.lines (line ∷ []) in
          let had = s.count in
          rw (lines, same, had) (omega (arith, size));
      kept = empty;
    }

-- no more bytes come
pub gave_all : (r : LogReader) (text : List ℕ) (gave : List (Result LogLine LineFault)) → Stands r text gave → gave ≡ log_said text
unfolding log_said
gave_all r text gave s = s.says ∙ ap (map line_said) (sym (ended_is s.lines s.last) ∙ ap ended (sym s.parts))

cut_is : (r : LogReader) (text : List ℕ) (gave : List (Result LogLine LineFault)) (s : Stands r text gave) → cut_in text ≡ fault_in (length s.lines) s.last
unfolding cut_in
cut_is r text gave s = rw (s.parts, ended_is s.lines s.last, begun_is s.lines s.last) refl

nothing_begun : (last : List ℕ) (n lines : ℕ) → n ≡ length (take 641 last) → n ≡ 0 → fault_in lines last ≡ None
nothing_begun [] n lines e z = refl
nothing_begun (b ∷ bytes) n lines e z = absurd (omega (arith, e, z))

pub finish_none : (r : LogReader) (text : List ℕ) (gave : List (Result LogLine LineFault)) (n : ℕ) → n ≡ length r.kept → n ≡ 0 → Stands r text gave → (gave ≡ log_said text) × (None ≡ cut_in text)
finish_none r text gave n size none s =
    (gave_all r text gave s, sym (cut_is r text gave s ∙ nothing_begun s.last n (length s.lines) (size ∙ ap length s.kept) none))

something_begun : (last : List ℕ) (n lines : ℕ) → n ≡ length (take 641 last) → (n ≡ 0 → ⊥) → fault_in lines last ≡ Some (record { line = number_behind lines; fault = faults.Cut })
something_begun [] n lines e z = absurd (z e)
something_begun (b ∷ bytes) n lines e z = refl

fault_is : (f : LogFault) (line : ℕ) (fault : LineFault) → f.line ≡ line → f.fault ≡ fault → f ≡ record { line = line; fault = fault }
fault_is f line fault e h = rw (← e, ← h) refl

number_same : (lines count : ℕ) → lines ≡ min count (2 ^ 64 - 1) → number_behind lines ≡ number_behind count
number_same lines count e = rw e (omega arith)

pub finish_cut : (r : LogReader) (text : List ℕ) (gave : List (Result LogLine LineFault)) (n : ℕ) (f : LogFault) → n ≡ length r.kept → (n ≡ 0 → ⊥) → f.line ≡ number_behind r.lines → f.fault ≡ faults.Cut
    → Stands r text gave → (gave ≡ log_said text) × (Some f ≡ cut_in text)
finish_cut r text gave n f size some line fault s = (
  gave_all r text gave s,
  sym (cut_is r text gave s ∙ something_begun s.last n (length s.lines) (size ∙ ap length s.kept) some
      ∙ ap Some (sym (fault_is f (number_behind (length s.lines)) faults.Cut (line ∙ number_same r.lines (length s.lines) s.count) fault))),
)

-- ---- whole logs

parts_text : (lines : List LogLine) (rest : List ℕ) → AllByRecursion IsLine lines → lf_parts (flat_map line_text lines ++ rest) ≡ map line_body lines ++ lf_parts rest
parts_text [] rest all = refl
parts_text (line ∷ lines) rest all =
    ap lf_parts (append_assoc (line_text line) (flat_map line_text lines) rest) ∙ body_first line (flat_map line_text lines ++ rest) all.0 ∙ ap (λ (ps : List (List ℕ)). line_body line ∷ ps) (parts_text lines rest all.1)

some_parts : (text : List ℕ) → 0 < length (lf_parts text)
unfolding lf_parts
some_parts text = parts_some text

behind_some : (front ps : List (List ℕ)) → 0 < length ps → 0 < length (front ++ ps)
behind_some [] ps h = h
behind_some (p ∷ front) ps h = omega arith

ended_behind : (front ps : List (List ℕ)) → 0 < length ps → ended (front ++ ps) ≡ front ++ ended ps
ended_behind [] ps h = refl
ended_behind (p ∷ front) ps h = ended_more p (front ++ ps) (behind_some front ps h) ∙ ap (λ (qs : List (List ℕ)). p ∷ qs) (ended_behind front ps h)

begun_behind : (front ps : List (List ℕ)) → 0 < length ps → begun (front ++ ps) ≡ begun ps
begun_behind [] ps h = refl
begun_behind (p ∷ front) ps h = begun_more p (front ++ ps) (behind_some front ps h) ∙ begun_behind front ps h

bodies_say : (lines : List LogLine) → AllByRecursion IsLine lines → map line_said (map line_body lines) ≡ map (λ line. Ok line) lines
bodies_say [] all = refl
bodies_say (line ∷ lines) all = rw (body_back line all.0, bodies_say lines all.1) refl

no_fault_in : (m n : ℕ) (last : List ℕ) → fault_in m last ≡ None → fault_in n last ≡ None
no_fault_in m n [] h = refl
no_fault_in m n (b ∷ bytes) h = absurd (cc)

pub log_back : (lines : List LogLine) (rest : List ℕ) → AllByRecursion IsLine lines
    → (log_said (flat_map line_text lines ++ rest) ≡ map Ok lines ++ log_said rest) × ((cut_in rest ≡ None) → cut_in (flat_map line_text lines ++ rest) ≡ None)
unfolding log_said cut_in
log_back lines rest all =
    let some = some_parts rest in (
      ap (λ (ps : List (List ℕ)). map line_said (ended ps)) (parts_text lines rest all)
          ∙ ap (map line_said) (ended_behind (map line_body lines) (lf_parts rest) some)
          ∙ map-append line_said (map line_body lines) (ended (lf_parts rest))
          ∙ ap (λ (rs : List (Result LogLine LineFault)). rs ++ map line_said (ended (lf_parts rest))) (bodies_say lines all),
      λ h. ap (λ (ps : List (List ℕ)). fault_in (length (ended ps)) (begun ps)) (parts_text lines rest all)
          ∙ ap (fault_in _) (begun_behind (map line_body lines) (lf_parts rest) some)
          ∙ no_fault_in _ _ (begun (lf_parts rest)) h,
    )

-- a text is its lines, each with an LF, and the line that has begun
whole_text : (ps : List (List ℕ)) → 0 < length ps → join_with_byte 10 ps ≡ flat_map (λ line. line ++ 10 ∷ []) (ended ps) ++ begun ps
whole_text [] h = absurd (omega (arith, h))
whole_text (last ∷ []) h = refl
whole_text (part ∷ next ∷ more) h =
    ap (λ (xs : List ℕ). part ++ 10 ∷ xs) (whole_text (next ∷ more) (omega arith))
    ∙ sym (ap (λ (xs : List ℕ). xs ++ begun (next ∷ more)) (append_assoc part (10 ∷ []) (flat_map (λ line. line ++ 10 ∷ []) (ended (next ∷ more)))) ∙ append_assoc part (10 ∷ flat_map (λ line. line ++ 10 ∷ []) (ended (next ∷ more))) (begun (next ∷ more)))

text_of : (text : List ℕ) → text ≡ flat_map (λ line. line ++ 10 ∷ []) (ended (lf_parts text)) ++ begun (lf_parts text)
unfolding lf_parts
text_of text = sym (join_with_byte-slice_split 10 text) ∙ whole_text (slice_split is_lf text) (parts_some text)

one_written : (bytes : List ℕ) (line : LogLine) → line_said bytes ≡ Ok line → bytes ++ 10 ∷ [] ≡ line_text line
one_written bytes line h = sym (line_exact bytes line h).0

all_written : (parts : List (List ℕ)) (lines : List LogLine) → map line_said parts ≡ map Ok lines → flat_map (λ line. line ++ 10 ∷ []) parts ≡ flat_map line_text lines
all_written [] [] h = refl
all_written [] (line ∷ lines) h = absurd (cc)
all_written (part ∷ parts) [] h = absurd (cc)
all_written (part ∷ parts) (line ∷ lines) h =
    let first : line_said part ≡ Ok line = cc in
    let more : map line_said parts ≡ map Ok lines = cc in
    rw (one_written part line first, all_written parts lines more) refl

no_last : (n : ℕ) (last : List ℕ) → fault_in n last ≡ None → last ≡ []
no_last n [] h = refl
no_last n (b ∷ bytes) h = absurd (cc)

pub log_exact : (text : List ℕ) (lines : List LogLine) → log_said text ≡ map Ok lines → cut_in text ≡ None → text ≡ flat_map line_text lines
unfolding log_said cut_in
log_exact text lines said none =
    text_of text ∙ rw (no_last _ (begun (lf_parts text)) none, all_written (ended (lf_parts text)) lines said) (append-nil (flat_map line_text lines))
