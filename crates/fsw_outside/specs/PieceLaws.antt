-- Texts that are appended piece by piece.
use Rattle.std.proofs.Common.{◌≡◌, ℕ, ◌+◌, ◌≤◌, List, ◌++◌, length, take, drop, sym, ap, ◌∙◌, append_assoc, length-append, arith}
use Rattle.std.proofs.Math.Seq.{take-append-add, take-add}
use Rattle.std.proofs.lemmas.List.{take-append-le}
use Rattle.fsw_outside.specs.Written.{AppendsPart}

-- one text whole and then another whole
pub appends_more : (first second old middle new : List ℕ) → middle ≡ old ++ first → new ≡ middle ++ second → new ≡ old ++ (first ++ second)
appends_more first second old middle new one two = two ∙ ap (λ bytes. bytes ++ second) one ∙ append_assoc old first second

-- one text whole and then a part of another
pub appends_part : (first second old middle new : List ℕ) → middle ≡ old ++ first → AppendsPart second middle new → AppendsPart (first ++ second) old new
appends_part first second old middle new one part = record {
  count = length first + part.count;
  short = simp length-append (omega arith);
  appended = part.appended ∙ ap (λ bytes. bytes ++ take part.count second) one ∙ append_assoc old first (take part.count second) ∙ ap (λ bytes. old ++ bytes) (sym (take-append-add first second part.count));
}

-- a part of one text is a part of that text with more behind it
pub part_of_more : (first second old new : List ℕ) → AppendsPart first old new → AppendsPart (first ++ second) old new
part_of_more first second old new part =
    let within : part.count ≤ length first = omega arith in
    record {
      count = part.count;
      short = simp length-append (omega arith);
      appended = part.appended ∙ ap (λ bytes. old ++ bytes) (sym (take-append-le part.count first second within));
    }

-- the front of a text, and then some bytes from where it ends
pub grown : (text old middle new : List ℕ) (at count : ℕ) → middle ≡ old ++ take at text → new ≡ middle ++ take count (drop at text) → new ≡ old ++ take (at + count) text
grown text old middle new at count one two = two ∙ ap (λ bytes. bytes ++ take count (drop at text)) one ∙ append_assoc old (take at text) (take count (drop at text)) ∙ ap (λ bytes. old ++ bytes) (sym (take-add at count text))
