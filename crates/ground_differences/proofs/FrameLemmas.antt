-- Lemmas on logs that are read frame by frame.
use Rattle.std.proofs.Common.{◌≡◌, ℕ, zero, suc, ◌+◌, ◌-◌, ◌≤◌, Bool, true, false, cond, List, [], ◌∷◌, ◌++◌, length, take, drop, Option, Some, None, Result, Ok, Err, refl, ap, sym, ◌∙◌, subst, arith, add-one, length-drop}
use Rattle.std.proofs.lemmas.Bool.{eq-eqb, ne_eqb}
use Rattle.std.specs.Prelude.{MatchResult, IsErrAnd, is_ok, if◌then◌else◌}
use Rattle.std.specs.List.{prefix_len}
use Rattle.std.proofs.lemmas.List.Sums.{prefix_len-le-length}
use Rattle.log_lines.specs.declared.line.LogLine.{LogLine}
use Rattle.ground_logs.specs.Coming.{HasLines, GivesFirst, GivesNone, GivesLine}
use Rattle.ground_differences.specs.declared.frame_source.FrameSource.{FrameSource}
use Rattle.ground_differences.specs.Frames.{is_of, frame_count, HasLeft, ReadsFrame}

-- ---- the place of an element in a list

taken_more : {A : Type 0} (i : ℕ) (xs : List A) (x : A) (ys : List A) → drop i xs ≡ x ∷ ys → take (suc i) xs ≡ take i xs ++ x ∷ []
taken_more zero [] x ys e = let wrong : ⊥ = cc in absurd wrong
taken_more zero (z ∷ zs) x ys e = let same : z ≡ x = cc in ap (λ k. k ∷ []) same
taken_more (suc i) [] x ys e = let wrong : ⊥ = cc in absurd wrong
taken_more (suc i) (z ∷ zs) x ys e = ap (λ ks. z ∷ ks) (taken_more i zs x ys e)

left_more : {A : Type 0} (i : ℕ) (xs : List A) (x : A) (ys : List A) → drop i xs ≡ x ∷ ys → drop (suc i) xs ≡ ys
left_more zero [] x ys e = let wrong : ⊥ = cc in absurd wrong
left_more zero (z ∷ zs) x ys e = cc
left_more (suc i) [] x ys e = let wrong : ⊥ = cc in absurd wrong
left_more (suc i) (z ∷ zs) x ys e = left_more i zs x ys e

within : (i n : ℕ) (b : Bool) → suc i ≤ cond b (1 + n) 0 → (b ≡ true) × (i ≤ n)
within i n true h = (refl, omega (arith, h))
within i n false h = absurd (omega (arith, h))

prefix_more : {A : Type 0} (p : A → Bool) (i : ℕ) (xs : List A) (x : A) (ys : List A) → drop i xs ≡ x ∷ ys → p x ≡ true → i ≤ prefix_len p xs → suc i ≤ prefix_len p xs
prefix_more p zero [] x ys e passes h = let wrong : ⊥ = cc in absurd wrong
prefix_more p zero (z ∷ zs) x ys e passes h =
    let same : z ≡ x = cc in
    let here : p z ≡ true = ap p same ∙ passes in
    rw here (omega arith)
prefix_more p (suc i) [] x ys e passes h = let wrong : ⊥ = cc in absurd wrong
prefix_more p (suc i) (z ∷ zs) x ys e passes h =
    let k = within i (prefix_len p zs) (p z) h in
    let more : suc i ≤ prefix_len p zs = prefix_more p i zs x ys e passes k.1 in
    rw k.0 (omega (arith, more))

prefix_stops : {A : Type 0} (p : A → Bool) (i : ℕ) (xs : List A) (x : A) (ys : List A) → drop i xs ≡ x ∷ ys → p x ≡ false → i ≤ prefix_len p xs → prefix_len p xs ≡ i
prefix_stops p zero [] x ys e fails h = let wrong : ⊥ = cc in absurd wrong
prefix_stops p zero (z ∷ zs) x ys e fails h =
    let same : z ≡ x = cc in
    let here : p z ≡ false = ap p same ∙ fails in
    rw here refl
prefix_stops p (suc i) [] x ys e fails h = let wrong : ⊥ = cc in absurd wrong
prefix_stops p (suc i) (z ∷ zs) x ys e fails h =
    let k = within i (prefix_len p zs) (p z) h in
    let more : prefix_len p zs ≡ i = prefix_stops p i zs x ys e fails k.1 in
    rw k.0 (omega (arith, more))

prefix_ends : {A : Type 0} (p : A → Bool) (i : ℕ) (xs : List A) → drop i xs ≡ [] → i ≤ prefix_len p xs → prefix_len p xs ≡ i
prefix_ends p i xs e h =
    let size : length xs - i ≡ 0 = sym (length-drop i xs) ∙ ap length e in
    omega (arith, size, h, prefix_len-le-length p xs)

-- ---- a frame that is read line by line

-- So many lines of a frame were read so far, of those that a log had left.
pub record ReadSoFar {L E : Type 0} (remaining : L → Option (List ℕ)) (log : FrameSource L E) (frame : ℕ) (lines : List LogLine) (whole : Bool) (count : ℕ) : Type 0 where
  pub read : log.lines.items ≡ take count lines
  pub left : HasLeft remaining log (drop count lines) whole
  pub front : count ≤ prefix_len (is_of frame) lines

-- a line was kept, where there was memory for it
pub pushed : {T E D : Type 0} (result : Result T E) (mapped : Result T D) (value : T) (Q : E → D → Type 0) (old new : List LogLine) (line : LogLine)
    → MatchResult result (λ x. mapped ≡ Ok x) (λ error. IsErrAnd mapped (Q error)) → mapped ≡ Ok value
    → new ≡ (if is_ok result then old ++ line ∷ [] else old) → new ≡ old ++ line ∷ []
pushed (Ok x) mapped value Q old new line h is items = items
pushed (Err error) (Ok x) value Q old new line h is items = absurd h
pushed (Err error) (Err other) value Q old new line h is items = let wrong : ⊥ = cc in absurd wrong

-- no line was read yet
pub read_none : {L E : Type 0} (remaining : L → Option (List ℕ)) (log : FrameSource L E) (frame : ℕ) (lines : List LogLine) (whole : Bool) → log.lines.items ≡ []
    → HasLeft remaining log lines whole → ReadSoFar remaining log frame lines whole 0
read_none remaining log frame lines whole empty left = record { read = empty; left = left; front = omega arith }

-- a line was read, and the next one behind it
pub read_more : {L E : Type 0} (remaining : L → Option (List ℕ)) (old new : FrameSource L E) (frame : ℕ) (lines : List LogLine) (whole : Bool) (count : ℕ) (line : LogLine)
    → old.next ≡ Some line → line.frame ≡ frame → new.lines.items ≡ old.lines.items ++ line ∷ []
    → ((others : List LogLine) (all : Bool) → HasLines remaining old.source others all → GivesLine remaining new.source others all new.next)
    → ReadSoFar remaining old frame lines whole count → ReadSoFar remaining new frame lines whole (count + 1)
read_more remaining old new frame lines whole count line next is_in keeps gives s =
    let first : GivesFirst remaining old.source (drop count lines) whole line =
    subst (λ (o : Option LogLine). GivesLine remaining old.source (drop count lines) whole o) next s.left in
    let at : drop count lines ≡ line ∷ first.others = first.whole_list in
    record {
      read = keeps ∙ ap (λ (xs : List LogLine). xs ++ line ∷ []) s.read ∙ sym (rw (add-one count) (taken_more count lines line first.others at));
      left =
          subst (λ (xs : List LogLine). GivesLine remaining new.source xs whole new.next) (sym (rw (add-one count) (left_more count lines line first.others at)))
          (gives first.others whole first.left);
      front = rw (add-one count) (prefix_more (is_of frame) count lines line first.others at (eq-eqb line.frame frame is_in) s.front);
    }

ends_frame : {L E : Type 0} (remaining : L → Option (List ℕ)) (log : FrameSource L E) (frame : ℕ) (lines : List LogLine) (whole : Bool) (count : ℕ)
    → frame_count frame lines ≡ count → ReadSoFar remaining log frame lines whole count → ReadsFrame remaining log frame lines whole
ends_frame remaining log frame lines whole count is s = record {
  read = rw is s.read;
  left = subst (λ (n : ℕ). HasLeft remaining log (drop n lines) whole) (sym is) s.left;
}

-- no line is left
pub read_to_end : {L E : Type 0} (remaining : L → Option (List ℕ)) (log : FrameSource L E) (frame : ℕ) (lines : List LogLine) (whole : Bool) (count : ℕ) → count ≤ 4096
    → log.next ≡ None → ReadSoFar remaining log frame lines whole count → ReadsFrame remaining log frame lines whole
read_to_end remaining log frame lines whole count few next s =
    let last : GivesNone log.source (drop count lines) whole =
    subst (λ (o : Option LogLine). GivesLine remaining log.source (drop count lines) whole o) next s.left in
    let all : prefix_len (is_of frame) lines ≡ count = prefix_ends (is_of frame) count lines last.none s.front in
    ends_frame remaining log frame lines whole count (omega (arith, all, few)) s

-- the next line is of another frame
pub read_to_other : {L E : Type 0} (remaining : L → Option (List ℕ)) (log : FrameSource L E) (frame : ℕ) (lines : List LogLine) (whole : Bool) (count : ℕ) (line : LogLine) → count ≤ 4096
    → log.next ≡ Some line → (line.frame ≡ frame → ⊥) → ReadSoFar remaining log frame lines whole count → ReadsFrame remaining log frame lines whole
read_to_other remaining log frame lines whole count line few next other s =
    let first : GivesFirst remaining log.source (drop count lines) whole line =
    subst (λ (o : Option LogLine). GivesLine remaining log.source (drop count lines) whole o) next s.left in
    let all : prefix_len (is_of frame) lines ≡ count =
    prefix_stops (is_of frame) count lines line first.others first.whole_list (ne_eqb line.frame frame other) s.front in
    ends_frame remaining log frame lines whole count (omega (arith, all, few)) s

-- as many lines were read as are read at once
pub read_most : {L E : Type 0} (remaining : L → Option (List ℕ)) (log : FrameSource L E) (frame : ℕ) (lines : List LogLine) (whole : Bool) (count : ℕ) → count ≡ 4096
    → ReadSoFar remaining log frame lines whole count → ReadsFrame remaining log frame lines whole
read_most remaining log frame lines whole count most s = ends_frame remaining log frame lines whole count (let front = s.front in omega (arith, most, front)) s
