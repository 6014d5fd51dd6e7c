-- Lemmas on the lines of bytes, and on what they give.
use Rattle.std.proofs.Common.{◌≡◌, ℕ, ◌+◌, min, Bool, true, false, ◌&&◌, ◌||◌, nat_lt, List, [], ◌∷◌, ◌++◌, length, map, Option, Ok, Err, refl, ap, sym, ◌∙◌, arith}
use Rattle.std.specs.List.{slice_split, All, AllByRecursion}
use Rattle.std.proofs.lemmas.List.Elements.{All-cons}
use Rattle.std.proofs.lemmas.List.Splits.{slice_split_at, slice_split_none}
use Rattle.scenario.specs.declared.reason.Reason.{Reason}
use Rattle.scenario.specs.declared.sentence.Sentence.{Sentence}
use Rattle.scenario.specs.Texts.{Before, Bad, whole_lines, with_items, reads, passed, given, read, read_bytes, ending_at}
use Rattle.scenario.specs.Standing.{is_lf, IsNoLf}
use Rattle.scenario.specs.LineLaws.{read_good, read_bad, whole_first, parts_some}

no_lf_all : (bytes : List ℕ) → AllByRecursion IsNoLf bytes → All (λ b. is_lf b ≡ false) bytes
no_lf_all [] h = λ k d below. absurd (omega (arith, below))
no_lf_all (b ∷ bytes) h = All-cons (λ b. is_lf b ≡ false) b bytes h.0 (no_lf_all bytes h.1)

-- bytes without LF are one part
pub one_part : (bytes : List ℕ) → AllByRecursion IsNoLf bytes → slice_split is_lf bytes ≡ bytes ∷ []
one_part bytes h = slice_split_none is_lf bytes (no_lf_all bytes h)

-- and with an LF behind them they are the first part
pub first_part : (bytes more : List ℕ) → AllByRecursion IsNoLf bytes → slice_split is_lf (bytes ++ 10 ∷ more) ≡ bytes ∷ slice_split is_lf more
first_part bytes more h = slice_split_at is_lf bytes 10 more (no_lf_all bytes h) refl

-- a line that its LF ends, in front of others
pub read_line : (end : Bool) (old : Before) (bytes more : List ℕ) (said : Option Sentence) → AllByRecursion IsNoLf bytes
    → reads old (record { bytes = bytes; takes = length bytes + 1 }) ≡ Ok said
    → read_bytes end old (bytes ++ 10 ∷ more)
    ≡ with_items (given old.sentences said) (map (λ _. old.bytes + (length bytes + 1)) (given old.sentences said)) (read_bytes end (passed old (record { bytes = bytes; takes = length bytes + 1 }) said) more)
unfolding read_bytes
read_line end old bytes more said plain e =
    ap (λ parts. read end old (whole_lines end parts)) (first_part bytes more plain)
    ∙ ap (read end old) (whole_first end bytes (slice_split is_lf more) (parts_some more))
    ∙ read_good end old _ _ said e

-- a bad line that its LF ends, in front of others
pub read_line_bad : (end : Bool) (old : Before) (bytes more : List ℕ) (reason : Reason) → AllByRecursion IsNoLf bytes
    → reads old (record { bytes = bytes; takes = length bytes + 1 }) ≡ Err reason
    → read_bytes end old (bytes ++ 10 ∷ more) ≡ record { items = []; ending = Bad (old.lines + 1) reason; stops = (old.bytes + min 641 (length bytes + 1)) ∷ [] }
unfolding read_bytes
read_line_bad end old bytes more reason plain e =
    ap (λ parts. read end old (whole_lines end parts)) (first_part bytes more plain)
    ∙ ap (read end old) (whole_first end bytes (slice_split is_lf more) (parts_some more))
    ∙ read_bad end old _ _ reason e

-- no bytes give nothing
pub read_nothing : (end : Bool) (old : Before) → read_bytes end old [] ≡ record { items = []; ending = ending_at end old; stops = [] }
unfolding read_bytes read
read_nothing true old = refl
read_nothing false old = refl

-- a last line without an LF
pub read_last : (end : Bool) (old : Before) (bytes : List ℕ) (said : Option Sentence) → AllByRecursion IsNoLf bytes
    → (nat_lt 640 (length bytes) || (end && nat_lt 0 (length bytes))) ≡ true
    → reads old (record { bytes = bytes; takes = length bytes }) ≡ Ok said
    → read_bytes end old bytes
    ≡ with_items (given old.sentences said) (map (λ _. old.bytes + length bytes) (given old.sentences said)) (read_bytes end (passed old (record { bytes = bytes; takes = length bytes }) said) [])
unfolding read_bytes
read_last end old bytes said plain whole e =
    ap (λ parts. read end old (whole_lines end parts)) (one_part bytes plain)
    ∙ rw whole (read_good end old _ [] said e)
    ∙ ap (with_items _ _) (sym (nothing_left end _)) where
      nothing_left : (end : Bool) (old : Before) → read end old (whole_lines end (slice_split is_lf [])) ≡ read end old []
      nothing_left true old = refl
      nothing_left false old = refl

-- a bad last line without an LF
pub read_last_bad : (end : Bool) (old : Before) (bytes : List ℕ) (reason : Reason) → AllByRecursion IsNoLf bytes
    → (nat_lt 640 (length bytes) || (end && nat_lt 0 (length bytes))) ≡ true
    → reads old (record { bytes = bytes; takes = length bytes }) ≡ Err reason
    → read_bytes end old bytes ≡ record { items = []; ending = Bad (old.lines + 1) reason; stops = (old.bytes + min 641 (length bytes)) ∷ [] }
unfolding read_bytes
read_last_bad end old bytes reason plain whole e =
    ap (λ parts. read end old (whole_lines end parts)) (one_part bytes plain)
    ∙ rw whole (read_bad end old _ [] reason e)

-- where no line is whole there is nothing
pub read_rest : (end : Bool) (old : Before) (bytes : List ℕ) → AllByRecursion IsNoLf bytes
    → (nat_lt 640 (length bytes) || (end && nat_lt 0 (length bytes))) ≡ false
    → read_bytes end old bytes ≡ record { items = []; ending = ending_at end old; stops = [] }
unfolding read_bytes read
read_rest end old bytes plain none =
    ap (λ parts. read end old (whole_lines end parts)) (one_part bytes plain) ∙ rw none refl
