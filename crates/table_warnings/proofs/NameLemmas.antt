-- Whether one of some names is wanted, name by name.
use Rattle.std.proofs.Common.{◌≡◌, ℕ, ◌+◌, ◌<◌, ◌≤◌, true, false, List, length, take, get_or, refl, ap, sym, ◌∙◌}
use Rattle.std.specs.List.{list_any}
use Rattle.std.specs.Str.{bytes_eq}
use Rattle.std.proofs.lemmas.List.{take_all}
use Rattle.std.proofs.lemmas.List.Folds.{list_any_more, list_any_at}

pub not_yet : (known : List (List ℕ)) (name : List ℕ) (i : ℕ) (o : List ℕ) → i < length known → o ≡ get_or known i o → bytes_eq o name ≡ false → list_any (λ other. bytes_eq other name) (take i known) ≡ false → list_any (λ other. bytes_eq other name) (take (i + 1) known) ≡ false
not_yet known name i o inside is other before = list_any_more (λ other. bytes_eq other name) known i o inside ∙ rw (before, ← is, other) refl

pub named_here : (known : List (List ℕ)) (name : List ℕ) (i : ℕ) (o : List ℕ) → i < length known → o ≡ get_or known i o → bytes_eq o name ≡ true → true ≡ list_any (λ other. bytes_eq other name) known
named_here known name i o inside is same = sym (list_any_at (λ other. bytes_eq other name) known i o inside (ap (λ other. bytes_eq other name) (sym is) ∙ same))

pub nowhere : (known : List (List ℕ)) (name : List ℕ) (i : ℕ) → length known ≤ i → list_any (λ other. bytes_eq other name) (take i known) ≡ false → false ≡ list_any (λ other. bytes_eq other name) known
nowhere known name i all none = sym none ∙ ap (list_any (λ other. bytes_eq other name)) (take_all i known all)
