-- Lemmas on files by their numbers.
use Rattle.std.proofs.Common.{◌≡◌, ℕ, ◌+◌, ◌<◌, ◌≤◌, ◌^◌, Bool, true, false, List, [], ◌∷◌, ◌++◌, length, map, Option, Some, None, refl, ap, ◌∙◌, arith}
use Rattle.std.specs.Prelude.{decimal, bytes_eq}
use Rattle.std.proofs.lemmas.Fmt.{decimal_injective}
use Rattle.std.proofs.lemmas.Slice.Eq.{bytes_eq-Decides}
use Rattle.fsw_outside.specs.Files.{Stored, file_named}
use Rattle.book_rehearsals.specs.Shelves.{under_number, by_numbers, stored_names}

names_differ : (m n : ℕ) → m < n → n < 2 ^ 64 → bytes_eq (decimal m) (decimal n) ≡ false
names_differ m n less small = by (bytes_eq (decimal m) (decimal n)) refl where
  by : (b : Bool) → bytes_eq (decimal m) (decimal n) ≡ b → bytes_eq (decimal m) (decimal n) ≡ false
  by false e = e
  by true e = let same : m ≡ n = decimal_injective m n (omega (arith, less, small)) small ((bytes_eq-Decides (decimal m) (decimal n)).0 e) in absurd (omega (arith, same, less))

name_is : (n : ℕ) → bytes_eq (decimal n) (decimal n) ≡ true
name_is n = (bytes_eq-Decides (decimal n) (decimal n)).1 refl

-- no file has a later number
pub not_there : (m n : ℕ) (files : List (List ℕ)) → n + length files ≤ m → m < 2 ^ 64 → file_named (by_numbers n files) (decimal m) ≡ None
unfolding by_numbers
not_there m n [] behind small = refl
not_there m n (bytes ∷ more) behind small = rw (names_differ n m (omega (arith, behind)) small) (not_there m (n + 1) more (omega (arith, behind)) small)

-- one file more
pub numbers_more : (n : ℕ) (files : List (List ℕ)) (bytes : List ℕ) → by_numbers n (files ++ bytes ∷ []) ≡ by_numbers n files ++ under_number (n + length files) bytes ∷ []
unfolding by_numbers
numbers_more n [] bytes = let none : n ≡ n + 0 = omega arith in ap (λ (k : ℕ). under_number k bytes ∷ []) none
numbers_more n (first ∷ more) bytes =
    let one : (n + 1) + length more ≡ n + length (first ∷ more) = omega arith in
    ap (λ (t : List Stored). under_number n first ∷ t) (numbers_more (n + 1) more bytes ∙ ap (λ (k : ℕ). by_numbers (n + 1) more ++ under_number k bytes ∷ []) one)

-- a file in front with an earlier number hides none
others_found : (m n : ℕ) (bytes : List ℕ) (stored : List Stored) (files : List (List ℕ)) → m < n → n + length files < 2 ^ 64
    → map (file_named (under_number m bytes ∷ stored)) (stored_names (by_numbers n files)) ≡ map (file_named stored) (stored_names (by_numbers n files))
unfolding by_numbers
others_found m n bytes stored [] less small = refl
others_found m n bytes stored (first ∷ more) less small =
    let here : file_named (under_number m bytes ∷ stored) (decimal n) ≡ file_named stored (decimal n) = rw (names_differ m n less (omega (arith, small))) refl in
    let names = stored_names (by_numbers (n + 1) more) in
    ap (λ (o : Option (List ℕ)). o ∷ map (file_named (under_number m bytes ∷ stored)) names) here
    ∙ ap (λ (os : List (Option (List ℕ))). file_named stored (decimal n) ∷ os) (others_found m (n + 1) bytes stored more (omega (arith, less)) (omega (arith, small)))

-- each name gives its file
pub names_found : (n : ℕ) (files : List (List ℕ)) → n + length files < 2 ^ 64 → map (file_named (by_numbers n files)) (stored_names (by_numbers n files)) ≡ map Some files
unfolding by_numbers
names_found n [] small = refl
names_found n (first ∷ more) small =
    let here : file_named (under_number n first ∷ by_numbers (n + 1) more) (decimal n) ≡ Some first = rw (name_is n) refl in
    let names = stored_names (by_numbers (n + 1) more) in
    let next : n < n + 1 = omega arith in
    ap (λ (o : Option (List ℕ)). o ∷ map (file_named (under_number n first ∷ by_numbers (n + 1) more)) names) here
    ∙ ap (λ (os : List (Option (List ℕ))). Some first ∷ os) (others_found n (n + 1) first (by_numbers (n + 1) more) more next (omega (arith, small)) ∙ names_found (n + 1) more (omega (arith, small)))
