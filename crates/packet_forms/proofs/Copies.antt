-- Lists of bytes behind which zeros stand: short copies, other lengths, and pieces that are put into their places.
use Rattle.std.proofs.Common.{◌≡◌, ◌≤◌, ◌+◌, ◌-◌, ℕ, List, ◌++◌, length, take, drop, replicate, sym, ap, ap₂, ◌∙◌, arith}
use Rattle.std.proofs.lemmas.List.{length-take-le, take-append-drop, drop-replicate}
use Rattle.std.proofs.Math.Seq.{drop-append-add}

-- behind the first places of a short list there are zeros alone
zeros_behind : (room few : ℕ) (places : List ℕ) (count : ℕ) → count ≤ few → few ≤ room → length places ≡ room → places ≡ take count places ++ replicate (room - count) 0 → drop few places ≡ replicate (room - few) 0
zeros_behind room few places count short fits size padded =
    let front : length (take count places) ≡ count = length-take-le count places (omega (arith, short, fits, size)) in
    let far : few ≡ length (take count places) + (few - count) = omega (arith, front, short) in
    let left : room - count - (few - count) ≡ room - few = omega (arith, short, fits) in
    ap (drop few) padded
    ∙ ap (λ (n : ℕ). drop n (take count places ++ replicate (room - count) 0)) far
    ∙ drop-append-add (take count places) (replicate (room - count) 0) (few - count)
    ∙ drop-replicate (few - count) (room - count) 0
    ∙ ap (λ (n : ℕ). replicate n 0) left

-- a short list's first places, over those of another short list
pub short_copied : (room few : ℕ) (old places copied : List ℕ) (before count : ℕ) → few ≤ room
    → before ≤ few → length old ≡ room → old ≡ take before old ++ replicate (room - before) 0
    → count ≤ few → length places ≡ room → places ≡ take count places ++ replicate (room - count) 0
    → copied ≡ take few places → copied ++ drop few old ≡ places
short_copied room few old places copied before count fits short_old size_old padded_old short size padded are =
    ap₂ (λ (xs ys : List ℕ). xs ++ ys) are (zeros_behind room few old before short_old fits size_old padded_old ∙ sym (zeros_behind room few places count short fits size padded))
    ∙ take-append-drop few places

-- a list that becomes longer, or stays as long as it is
pub longer : (room : ℕ) (places : List ℕ) (before len : ℕ) → before ≤ len → len ≤ room → length places ≡ room → places ≡ take before places ++ replicate (room - before) 0
    → places ≡ take len places ++ replicate (room - len) 0
longer room places before len more fits size padded = sym (take-append-drop len places) ∙ ap (λ (rest : List ℕ). take len places ++ rest) (zeros_behind room len places before more fits size padded)

-- the pieces so far, once one more is put behind them
pub piece_put : (old now front piece : List ℕ) (at next : ℕ) → take at old ≡ front → at + length piece ≡ next → take (at + length piece) now ≡ take at old ++ piece → take next now ≡ front ++ piece
piece_put old now front piece at next before far after = ap (λ (n : ℕ). take n now) (sym far) ∙ after ∙ ap (λ (xs : List ℕ). xs ++ piece) before
