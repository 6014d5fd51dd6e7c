-- Inputs that are read whole.
use Rattle.std.proofs.Common.{◌≡◌, ℕ, ◌<◌, min, List, [], ◌++◌, length, take, Option, Some, None, sym, ap, ◌∙◌, arith, length-take}
use Rattle.std.specs.Prelude.{option_map, IfSome}
use Rattle.std.proofs.lemmas.List.{take_all}

-- what was read is all, where it is less than what may be read
all_given : (bytes read : List ℕ) (limit : ℕ) → read ≡ take limit bytes → length read < limit → bytes ≡ read
all_given bytes read limit gave short =
    let size : length read ≡ min limit (length bytes) = ap length gave ∙ length-take limit bytes in
    sym (gave ∙ take_all limit bytes (omega arith))

all_left : (left : Option (List ℕ)) (bytes front read : List ℕ) (limit : ℕ) → left ≡ Some bytes → front ≡ [] → IfSome (option_map (take limit) left) (λ given. read ≡ front ++ given) → length read < limit → read ≡ bytes
all_left None bytes front read limit is none gave short = cc
all_left (Some given) bytes front read limit is none gave short =
    let same : given ≡ bytes = cc in
    let all : read ≡ take limit given = gave ∙ ap (λ begin. begin ++ take limit given) none in
    sym (all_given given read limit all short) ∙ same

pub all_read : {R : Type 0} (remaining : R → Option (List ℕ)) (from inner : R) (bytes front read : List ℕ) (limit most : ℕ) → inner ≡ from → limit ≡ most → remaining from ≡ Some bytes → front ≡ []
    → IfSome (option_map (take limit) (remaining inner)) (λ given. read ≡ front ++ given) → length read < most → read ≡ bytes
all_read remaining from inner bytes front read limit most same same_limit is none gave short =
    all_left (remaining inner) bytes front read limit (ap remaining same ∙ is) none gave (omega arith)
