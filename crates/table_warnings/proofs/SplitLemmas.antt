-- Ranges over two regions.
use Rattle.std.proofs.Common.{◌≡◌, ℕ, Bool, true, false, List, [], ◌∷◌, None, refl, sym}
use Rattle.std.specs.Prelude.{◌&&◌, ◌||◌, not, find}
use Rattle.std.specs.List.{list_any}
use Rattle.std.proofs.lemmas.Bool.{and_parts}
use Rattle.memory_window.specs.declared.regions.Region.{Region}
use Rattle.memory_window.specs.Regions.{holds, spans}
use Rattle.memory_window.specs.Access.{gives_bytes}
use Rattle.memory_window.proofs.Given.{gives_bytes_is}
use Rattle.table_warnings.specs.Ranges.{has_last, is_split}

both_false : (a b : Bool) → (a || b) ≡ false → (a ≡ false) × (b ≡ false)
both_false true b e = absurd (cc)
both_false false b e = (refl, e)

none_found : (p : Region → Bool) (regions : List Region) → list_any p regions ≡ false → find p regions ≡ None
none_found p [] e = refl
none_found p (r ∷ regions) e =
    let both = both_false (p r) (list_any p regions) e in
    rw both.0 (none_found p regions both.1)

is_none : (b : Bool) → not b ≡ true → b ≡ false
is_none true e = absurd (cc)
is_none false e = refl

none_has : (regions : List Region) (at len : ℕ) → is_split regions at len ≡ true → list_any (spans at len) regions ≡ false
unfolding is_split
none_has regions at len e =
    is_none (list_any (spans at len) regions) (and_parts (list_any (holds at) regions && list_any (has_last at len) regions) (not (list_any (spans at len) regions)) e).1

-- memory gives no range over two regions
pub split_refused : (regions : List Region) (at len : ℕ) → is_split regions at len ≡ true → gives_bytes regions at len ≡ false
split_refused regions at len e = sym (gives_bytes_is regions at len None false (sym (none_found (spans at len) regions (none_has regions at len e))) refl)
