-- Laws of whole lines, and of what they give.
use Rattle.std.proofs.Common.{◌≡◌, ℕ, ◌+◌, ◌<◌, ◌≤◌, Bool, true, false, nat_lt, List, [], ◌∷◌, ◌++◌, length, map, Option, Some, None, Ok, Err, refl, arith, append_assoc}
use Rattle.std.specs.List.{slice_split}
use Rattle.std.proofs.lemmas.Bool.Decides.{nat_tests}
use Rattle.std.proofs.lemmas.List.Splits.{length-slice_split}
use Rattle.scenario.specs.declared.reason.Reason.{Reason}
use Rattle.scenario.specs.declared.sentence.Place.{Place}
use Rattle.scenario.specs.declared.sentence.Place.TheVariants as places
use Rattle.scenario.specs.declared.sentence.Sentence.{Sentence}
use Rattle.scenario.specs.Frames.{place_after}
use Rattle.scenario.specs.Texts.{Line, Before, Given, Reading, Bad, Ended, Unended, whole_lines, with_items, reads, passed, given, read, end_of, bad_end_of, ending_at}
use Rattle.scenario.specs.Standing.{is_lf}

-- what one whole line gives, in front of others
pub read_good : (end : Bool) (old : Before) (line : Line) (more : List Line) (said : Option Sentence) → reads old line ≡ Ok said
    → read end old (line ∷ more) ≡ with_items (given old.sentences said) (map (λ _. end_of old line) (given old.sentences said)) (read end (passed old line said) more)
unfolding read
read_good end old line more said e = rw (e, read) refl

pub read_bad : (end : Bool) (old : Before) (line : Line) (more : List Line) (reason : Reason) → reads old line ≡ Err reason
    → read end old (line ∷ more) ≡ record { items = []; ending = Bad (old.lines + 1) reason; stops = bad_end_of old line ∷ [] }
unfolding read
read_bad end old line more reason e = rw (e, read) refl

-- a part with others behind it is a whole line
pub whole_first : (end : Bool) (part : List ℕ) (parts : List (List ℕ)) → 0 < length parts → whole_lines end (part ∷ parts) ≡ record { bytes = part; takes = length part + 1 } ∷ whole_lines end parts
whole_first end part [] h = absurd (omega (arith, h))
whole_first end part (next ∷ more) h = refl

-- there is always a part
pub parts_some : (bytes : List ℕ) → 0 < length (slice_split is_lf bytes)
parts_some bytes = omega (arith, length-slice_split is_lf bytes)

-- items in front of items in front
pub with_items-with_items : (xs ys : List Given) (ms ns : List ℕ) (r : Reading) → with_items xs ms (with_items ys ns r) ≡ with_items (xs ++ ys) (ms ++ ns) r
with_items-with_items xs ys ms ns r = rw (append_assoc, append_assoc) refl

short_when : (old : Before) (line : Line) (said : Option Sentence) (a b : Bool) → nat_lt 640 (length line.bytes) ≡ a → nat_lt 16777216 (old.bytes + line.takes) ≡ b → reads old line ≡ Ok said → (length line.bytes ≤ 640) × (old.bytes + line.takes ≤ 16777216)
unfolding reads
short_when old line said true b e1 e2 e = absurd (let k = rw e1 at e in cc)
short_when old line said false true e1 e2 e = absurd (let k = rw (e1, e2) at e in cc)
short_when old line said false false e1 e2 e = (grind (arith, nat_tests), grind (arith, nat_tests))

-- a line that isn't too long has 640 bytes at most, and ends by the text's largest byte
pub reads_short : (old : Before) (line : Line) (said : Option Sentence) → reads old line ≡ Ok said → (length line.bytes ≤ 640) × (old.bytes + line.takes ≤ 16777216)
reads_short old line said e = short_when old line said (nat_lt 640 (length line.bytes)) (nat_lt 16777216 (old.bytes + line.takes)) refl refl e

-- the bytes of a good line are passed
pub passed_bytes : (old : Before) (line : Line) (said : Option Sentence) → (passed old line said).bytes ≡ old.bytes + line.takes
passed_bytes old line None = refl
passed_bytes old line (Some s) = refl

-- where no line is bad the ending names none
pub never_bad : (end : Bool) (old : Before) (line : ℕ) (reason : Reason) → ending_at end old ≡ Bad line reason → ⊥
never_bad false old line reason e = cc
never_bad true old line reason e = by_place (place_after old.sentences) old.lines line reason e where
  by_place : (place : Place) (lines line : ℕ) (reason : Reason) → elim place [ places.Ended ↦ Ended | _ ↦ Unended lines ] ≡ Bad line reason → ⊥
  by_place places.Opening lines line reason e = cc
  by_place places.Header lines line reason e = cc
  by_place places.Between lines line reason e = cc
  by_place places.Inside lines line reason e = cc
  by_place places.Ended lines line reason e = cc
