-- What is tallied of what is told.
use Rattle.std.proofs.Common.{◌≡◌, ℕ, ◌+◌, ◌%◌, ◌^◌, ◌==◌, List, [], ◌++◌, length, take, Option, Some, None, Result, Ok, Err, refl, sym, ap, ◌∙◌, subst, length-append}
use Rattle.std.specs.Prelude.{option_map, cond}
use Rattle.std.specs.List.{fold, flat_map}
use Rattle.std.proofs.Math.Nat.{mod-add-mod}
use Rattle.std.proofs.lemmas.List.Sums.{fold-append, sum_by-append}
use Rattle.std.proofs.lemmas.Grind.{flat_map-append}
use Rattle.packet_forms.specs.Crc.{crc_of, crc_bit, low_bits}
use Rattle.fsw_outside.specs.Told.{WhereTold}
use Rattle.fsw_outside.specs.Bytes.{Writes}
use Rattle.fsw_outside.specs.Tally.{Tally, tally_of, added, line_ends, Adds}

line_ends_append : (xs ys : List ℕ) → line_ends (xs ++ ys) ≡ line_ends xs + line_ends ys
line_ends_append xs ys = sum_by-append (λ b. cond (b == 10) 1 0) xs ys

crc_append : (c : ℕ) (xs ys : List ℕ) → crc_of c (xs ++ ys) ≡ crc_of (crc_of c xs) ys
unfolding crc_of
crc_append c xs ys = ap (fold crc_bit c) (flat_map-append (low_bits 8) xs ys) ∙ fold-append crc_bit c (flat_map (low_bits 8) xs) (flat_map (low_bits 8) ys)

-- nothing is tallied of no bytes
pub tally_none : tally_of [] ≡ record { lines = 0; bytes = 0; crc = 0 }
unfolding tally_of crc_of
tally_none = refl

-- the tally of bytes and of more bytes behind them
pub tally_append : (xs ys : List ℕ) → tally_of (xs ++ ys) ≡ added (tally_of xs) ys
unfolding tally_of added
tally_append xs ys =
    let lines : line_ends (xs ++ ys) % 2 ^ 64 ≡ (line_ends xs % 2 ^ 64 + line_ends ys) % 2 ^ 64 = ap (λ (n : ℕ). n % 2 ^ 64) (line_ends_append xs ys) ∙ sym (mod-add-mod (line_ends xs) (2 ^ 64) (line_ends ys)) in
    let bytes : length (xs ++ ys) % 2 ^ 64 ≡ (length xs % 2 ^ 64 + length ys) % 2 ^ 64 = ap (λ (n : ℕ). n % 2 ^ 64) (length-append xs ys) ∙ sym (mod-add-mod (length xs) (2 ^ 64) (length ys)) in
    let crc : crc_of 0 (xs ++ ys) ≡ crc_of (crc_of 0 xs) ys = crc_append 0 xs ys in
    cc

-- what is tallied is the tally of what is told
pub tallied_of : (told : Option (List ℕ)) (t : Tally) → option_map tally_of told ≡ Some t → (bytes : List ℕ) × (told ≡ Some bytes) × (t ≡ tally_of bytes)
tallied_of None t tells = let wrong : ⊥ = cc in absurd wrong
tallied_of (Some bytes) t tells = (bytes, refl, cc)

writes_add : {E : Type 0} (result : Result ℕ E) (piece old new : List ℕ) → Writes result piece old new → Adds result piece (tally_of old) (tally_of new)
writes_add (Ok n) piece old new writes = ap tally_of writes ∙ tally_append old (take n piece)
writes_add (Err e) piece old new writes = ap tally_of writes

-- what a write adds to the bytes told is added to their tally
pub writes_are_tallied : {E : Type 0} (result : Result ℕ E) (piece : List ℕ) (old new : Option (List ℕ)) → WhereTold old new (Writes result piece)
    → WhereTold (option_map tally_of old) (option_map tally_of new) (Adds result piece)
writes_are_tallied result piece old new writes after tells =
    let now = tallied_of new after tells in
    let earlier = writes now.0 now.1 in
    (tally_of earlier.0, ap (option_map tally_of) earlier.1, subst (Adds result piece (tally_of earlier.0)) (sym now.2) (writes_add result piece earlier.0 now.0 earlier.2))
