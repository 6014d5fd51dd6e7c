-- Lemmas on texts by their beginnings.
use Rattle.std.proofs.Common.{◌≡◌, ℕ, suc, ◌+◌, ◌<◌, ◌==◌, Bool, true, false, List, [], ◌∷◌, ◌++◌, length, take, drop, get_or, Option, Some, None, refl, ap, sym, subst, ◌∙◌, inl, inr, arith, length-append}
use Rattle.std.specs.Prelude.{is_some, option_map, MatchOption, nat_lt}
use Rattle.std.specs.List.{slice_split, onto_first}
use Rattle.std.specs.Io.KnownBytes.{Consumes, IsAtEnd}
use Rattle.std.proofs.lemmas.List.{take-append-drop, append_assoc, append-nil}
use Rattle.std.proofs.lemmas.List.Splits.{slice_split-cons_yes, slice_split-cons_no}
use Rattle.std.proofs.Math.Seq.{drop-cons}
use Rattle.std.proofs.lemmas.Bool.Decides.{nat_tests}
use Rattle.row_forms.specs.Words.{words}
use Rattle.table_texts.specs.Lines.{Numbered, lines_of, is_skipped, unless_skipped, kept, kept_of}
use Rattle.load_books.specs.Books.{begins_book, is_book_text}
use Rattle.load_books.specs.Scenarios.{epoch_in, epoch_said}
use Rattle.ground_files.specs.Workspaces.{Held}
use Rattle.ground_runs.specs.declared.asked_run.Run.{Run}
use Rattle.book_rehearsals.specs.Beginnings.{IsShort, HasText, SharesFirst, BeginsText, TakesMore, GivesBeginning, TellsBook, TellsEpoch}

-- ---- lines

abbrev is_end : ℕ → Bool
is_end b = b == 10

onto_behind : (x : ℕ) (ls ms : List (List ℕ)) → 0 < length ls → onto_first x (ls ++ ms) ≡ onto_first x ls ++ ms
onto_behind x [] ms some = absurd (omega (arith, some))
onto_behind x (l ∷ ls) ms some = refl

onto_some : (x : ℕ) (ls : List (List ℕ)) → 0 < length (onto_first x ls)
onto_some x [] = omega arith
onto_some x (l ∷ ls) = omega arith

some_lines : (text : List ℕ) → 0 < length (lines_of text)
unfolding lines_of
some_lines [] = omega arith
some_lines (x ∷ xs) = by (is_end x) refl where
  by : (b : Bool) → is_end x ≡ b → 0 < length (slice_split is_end (x ∷ xs))
  by true e = rw (slice_split-cons_yes is_end x xs e) (omega arith)
  by false e = rw (slice_split-cons_no is_end x xs e) (onto_some x (slice_split is_end xs))

lines_more : (x : ℕ) (xs behind : List ℕ) (b : Bool) → is_end x ≡ b → lines_of (xs ++ 10 ∷ behind) ≡ lines_of xs ++ lines_of behind → lines_of (x ∷ (xs ++ 10 ∷ behind)) ≡ lines_of (x ∷ xs) ++ lines_of behind
unfolding lines_of
lines_more x xs behind true e more =
    slice_split-cons_yes is_end x (xs ++ 10 ∷ behind) e ∙ ap (λ (ls : List (List ℕ)). [] ∷ ls) more
    ∙ sym (ap (λ (ls : List (List ℕ)). ls ++ slice_split is_end behind) (slice_split-cons_yes is_end x xs e))
lines_more x xs behind false e more =
    slice_split-cons_no is_end x (xs ++ 10 ∷ behind) e ∙ ap (onto_first x) more
    ∙ onto_behind x (slice_split is_end xs) (slice_split is_end behind) (some_lines xs)
    ∙ sym (ap (λ (ls : List (List ℕ)). ls ++ slice_split is_end behind) (slice_split-cons_no is_end x xs e))

lines_here : (behind : List ℕ) → lines_of (10 ∷ behind) ≡ lines_of [] ++ lines_of behind
unfolding lines_of
lines_here behind = slice_split-cons_yes is_end 10 behind refl

-- the lines of a text are those in front of an LF and those behind it
lines_at : (front behind : List ℕ) → lines_of (front ++ 10 ∷ behind) ≡ lines_of front ++ lines_of behind
lines_at [] behind = lines_here behind
lines_at (x ∷ xs) behind = lines_more x xs behind (is_end x) refl (lines_at xs behind)

-- what a first line that says something has behind it
abbrev HasFirst : List Numbered → Numbered → Type 0
HasFirst says first = (behind : List Numbered) × (says ≡ first ∷ behind)

one_first : (head first : Numbered) (xs ys zs : List Numbered) → head ∷ xs ≡ first ∷ ys → head ∷ zs ≡ first ∷ zs
one_first head first xs ys zs is = let same : head ≡ first = cc in ap (λ (f : Numbered). f ∷ zs) same

first_unless : (b : Bool) (n : ℕ) (ws : List (List ℕ)) (says others : List Numbered) (first : Numbered) → is_skipped ws ≡ b → (HasFirst says first → HasFirst others first) → HasFirst (unless_skipped n ws says) first → HasFirst (unless_skipped n ws others) first
first_unless true n ws says others first e more here = let now : HasFirst says first = rw e at here in rw e (more now)
first_unless false n ws says others first e more here =
    let head : Numbered = record { number = n; words = ws } in
    let now : HasFirst (head ∷ says) first = rw e at here in
    rw e (others, one_first head first says now.0 others now.1)

-- the first line that says something is there, whatever stands behind
kept_first : (ls ms : List (List ℕ)) (n : ℕ) (first : Numbered) → HasFirst (kept n ls) first → HasFirst (kept n (ls ++ ms)) first
unfolding kept
kept_first [] ms n first here = let is = here.1 in let wrong : ⊥ = cc in absurd wrong
kept_first (l ∷ ls) ms n first here = first_unless (is_skipped (words l)) n (words l) (kept (n + 1) ls) (kept (n + 1) (ls ++ ms)) first refl (kept_first ls ms (n + 1) first) here

first_behind : (front behind : List ℕ) (first : Numbered) (more : List Numbered) → kept_of 1 front ≡ first ∷ more → (later : List Numbered) × (kept_of 1 (front ++ 10 ∷ behind) ≡ first ∷ later)
first_behind front behind first more is =
    let found = kept_first (lines_of front) (lines_of behind) 1 first (more, is) in
    (found.0, ap (kept 1) (lines_at front behind) ∙ found.1)

-- whole lines that say something are the beginning of any text that begins with them
pub shares_first : (text lines behind more : List ℕ) (first : Numbered) (later : List Numbered) → text ≡ lines ++ 10 ∷ behind → kept_of 1 lines ≡ first ∷ later → SharesFirst text (text ++ more)
shares_first text lines behind more first later is says =
    let one = first_behind lines behind first later says in
    let other = first_behind lines (behind ++ more) first later says in
    let same : text ++ more ≡ lines ++ 10 ∷ (behind ++ more) = ap (λ (t : List ℕ). t ++ more) is ∙ append_assoc lines (10 ∷ behind) more in
    record {
      first = first;
      behind_one = one.0;
      behind_other = other.0;
      in_one = ap (kept_of 1) is ∙ one.1;
      in_other = ap (kept_of 1) same ∙ other.1;
    }

-- what stands in front of an LF, and what behind it
pub cut_at : (text : List ℕ) (end d : ℕ) → end < length text → get_or text end d ≡ 10 → (behind : List ℕ) × (text ≡ take end text ++ 10 ∷ behind)
cut_at text end d within is =
    (drop (suc end) text, sym (take-append-drop end text) ∙ ap (λ (t : List ℕ). take end text ++ t) (drop-cons text end d within ∙ ap (λ (b : ℕ). b ∷ drop (suc end) text) is))

-- a line was found
pub some_line : {L : Type 0} (found : Option L) (some : Bool) (says : List Numbered) (line_of : L → Numbered) (behind_of : L → List Numbered) → some ≡ is_some found → some ≡ true
    → MatchOption found (says ≡ []) (λ line. says ≡ line_of line ∷ behind_of line) → (first : Numbered) × HasFirst says first
some_line None some says line_of behind_of is there none = let wrong : ⊥ = cc in absurd wrong
some_line (Some line) some says line_of behind_of is there found = (line_of line, (behind_of line, found))

-- ---- reading

at_end : (now : Option (List ℕ)) (behind : List ℕ) → now ≡ Some behind → IsAtEnd now → behind ≡ []
at_end None behind is end = let wrong : ⊥ = cc in absurd wrong
at_end (Some left) behind is end = let same : left ≡ behind = cc in sym same ∙ end

took_some : (left now : Option (List ℕ)) (rest bytes : List ℕ) → left ≡ Some rest → Consumes left now bytes → (behind : List ℕ) × (now ≡ Some behind) × (rest ≡ bytes ++ behind)
took_some None now rest bytes is takes = let wrong : ⊥ = cc in absurd wrong
took_some (Some xs) None rest bytes is takes = absurd takes
took_some (Some xs) (Some ys) rest bytes is takes = (ys, refl, (let same : xs ≡ rest = cc in sym same) ∙ takes)

-- what a read gave was put behind what was there
pub takes_more : (left now : Option (List ℕ)) (rest old new buf : List ℕ) (count : ℕ) → left ≡ Some rest → Consumes left now (take count buf) → (count ≡ 0 → 0 < length buf → IsAtEnd now) → 0 < length buf
    → new ≡ old ++ take count buf → TakesMore now old new (nat_lt 0 count) rest
takes_more left now rest old new buf count is takes ends room put =
    let took = took_some left now rest (take count buf) is takes in
    record {
      more = take count buf;
      behind = took.0;
      is_left = took.1;
      parts = took.2;
      is_put = put;
      end = λ none. at_end now took.0 took.1 (ends (grind (arith, nat_tests, none)) room);
    }

-- nothing was left behind what was read
pub read_all : (whole old new rest : List ℕ) (some : Bool) (now : Option (List ℕ)) → whole ≡ old ++ rest → TakesMore now old new some rest → some ≡ false → BeginsText new whole
read_all whole old new rest some now is takes none =
    let same : whole ≡ new ++ [] =
    is ∙ ap (λ (t : List ℕ). old ++ t) (takes.parts ∙ ap (λ (t : List ℕ). takes.more ++ t) (takes.end none)) ∙ sym (append_assoc old takes.more [])
    ∙ ap (λ (t : List ℕ). t ++ []) (sym takes.is_put) in
    record { more = []; parts = same; enough = inl (sym (same ∙ append-nil new)) }

-- what was read stands in front of what is left
pub read_on : (whole old new rest : List ℕ) (some : Bool) (now : Option (List ℕ)) → whole ≡ old ++ rest → TakesMore now old new some rest → (behind : List ℕ) × (now ≡ Some behind) × (whole ≡ new ++ behind)
read_on whole old new rest some now is takes =
    (takes.behind, takes.is_left, is ∙ ap (λ (t : List ℕ). old ++ t) takes.parts ∙ sym (append_assoc old takes.more takes.behind) ∙ ap (λ (t : List ℕ). t ++ takes.behind) (sym takes.is_put))

-- the first line that says something was read
pub read_enough : (whole new text : List ℕ) (behind : List ℕ) → text ≡ new → whole ≡ new ++ behind → IsShort whole → ((more : List ℕ) → IsShort (text ++ more) → SharesFirst text (text ++ more)) → BeginsText new whole
read_enough whole new text behind same is short shares =
    let parts : whole ≡ text ++ behind = is ∙ ap (λ (t : List ℕ). t ++ behind) (sym same) in
    let begins : SharesFirst text (text ++ behind) = shares behind (subst IsShort parts short) in
    let P : List ℕ → Type 0 = λ t. SharesFirst t whole in
    record { more = behind; parts = is; enough = inr (subst P same (subst (SharesFirst text) (sym parts) begins)) }

-- ---- what begins alike

same_book : (front text : List ℕ) → BeginsText front text → is_book_text front ≡ is_book_text text
unfolding is_book_text
same_book front text begins =
    elim begins.enough [
      | inl same ↦ ap (λ (t : List ℕ). begins_book (kept_of 1 t)) same
      | inr shares ↦ ap begins_book shares.in_one ∙ sym (ap begins_book shares.in_other)
    ]

same_epoch : (front text : List ℕ) → BeginsText front text → epoch_said front ≡ epoch_said text
unfolding epoch_said
same_epoch front text begins =
    elim begins.enough [
      | inl same ↦ ap (λ (t : List ℕ). epoch_in (kept_of 1 t)) same
      | inr shares ↦ ap epoch_in shares.in_one ∙ sym (ap epoch_in shares.in_other)
    ]

short_front : (front text : List ℕ) → BeginsText front text → IsShort text → IsShort front
short_front front text begins short = omega (arith, ap length begins.parts, length-append front begins.more)

one_text : (run : Run) (held : Held) (one other : List ℕ) → HasText run held one → HasText run held other → one ≡ other
one_text run held one other first second = let a = first.is_there in let b = second.is_there in cc

-- ---- what is answered

pub gives_some : {V : Type 0} (run : Run) (held : Held) (items : V → List ℕ) (found : Option V) (v : V) (front : List ℕ) → found ≡ Some v → front ≡ items v → GivesBeginning run held (option_map items found) → GivesBeginning run held (Some front)
gives_some run held items None v front is same gives = let wrong : ⊥ = cc in absurd wrong
gives_some run held items (Some w) v front is same gives =
    let one : items w ≡ front = (let e : w ≡ v = cc in ap items e) ∙ sym same in
    let P : List ℕ → Type 0 = λ t. GivesBeginning run held (Some t) in
    subst P one gives

pub tells_book : (run : Run) (held : Held) (front : List ℕ) (result : Bool) → GivesBeginning run held (Some front) → (IsShort front → result ≡ is_book_text front) → TellsBook run held result
tells_book run held front true gives exact =
    (gives.0, gives.1, λ short. let begins = gives.2 short in sym (same_book front gives.0 begins) ∙ sym (exact (short_front front gives.0 begins short)))
tells_book run held front false gives exact = λ text has short.
    let same : text ≡ gives.0 = one_text run held text gives.0 has gives.1 in
    let begins = gives.2 (subst IsShort same short) in
    ap is_book_text same ∙ sym (same_book front gives.0 begins) ∙ sym (exact (short_front front gives.0 begins (subst IsShort same short)))

pub tells_epoch : (run : Run) (held : Held) (said : Option ℕ) (front : List ℕ) (epoch : Option ℕ) → is_some said ≡ false → GivesBeginning run held (Some front) → (IsShort front → epoch ≡ epoch_said front) → TellsEpoch said run held epoch
tells_epoch run held (Some said) front epoch none gives exact = let wrong : ⊥ = cc in absurd wrong
tells_epoch run held None front epoch none gives exact = (
  λ text has short.
      let same : text ≡ gives.0 = one_text run held text gives.0 has gives.1 in
      let begins = gives.2 (subst IsShort same short) in
      exact (short_front front gives.0 begins (subst IsShort same short)) ∙ same_epoch front gives.0 begins ∙ sym (ap epoch_said same),
  λ some. (gives.0, gives.1),
)
