-- Lists of files: a file of the list, one file more, and the files of numbers.
use Rattle.std.proofs.Common.{◌↔◌, All, cond, slice_get, ◌≡◌, ℕ, ◌-◌, ◌<◌, ◌≤◌, nat_le, Bool, true, false, List, [], ◌∷◌, ◌++◌, length, map, get_or, refl, sym, ap, ◌∙◌, arith, zero, suc, Option, Some, None, length-append}
use Rattle.std.proofs.lemmas.Bool.Decides.{nat_tests}
use Rattle.std.specs.Prelude.{filter, option_map}
use Rattle.std.proofs.lemmas.List.Elements.{All-append}
use Rattle.table_files.specs.declared.kinds.TableKind.{TableKind}
use Rattle.table_files.specs.Headers.{file_fault_of, IsFile, is_load, kind_of_file}
use Rattle.table_files.proofs.Accepted.{loaded_size}
use Rattle.table_files.specs.Files.{file_at, kind_in, kind_at, load_in, nth, loads_of, IsLoadable, AreFiles}

-- the file of a place, whatever would stand for one that isn't there
pub at_place : (files : List (List ℕ)) (i : ℕ) (one other : List ℕ) → i < length files → get_or files i one ≡ get_or files i other
at_place [] i one other within = absurd (omega arith)
at_place (file ∷ files) zero one other within = refl
at_place (file ∷ files) (suc i) one other within = at_place files i one other (omega arith)

-- one file more
pub one_more : (files : List (List ℕ)) (file : List ℕ) → AreFiles files → length files < 100 → file_fault_of file ≡ None → AreFiles (files ++ file ∷ [])
one_more files file are room ok = record {
  accepted = All-append IsFile files (file ∷ []) are.accepted (λ k d lt. one k d lt);
  few = simp length-append (omega arith);
}
  where
    one : (k : ℕ) (d : List ℕ) → k < 1 → IsFile (get_or (file ∷ []) k d)
    one zero d lt = ok
    one (suc k) d lt = absurd (omega arith)

-- an element of a list with each changed
get_map : {A B : Type 0} (f : A → B) (xs : List A) (i : ℕ) → slice_get (map f xs) i ≡ option_map f (slice_get xs i)
get_map f [] i = refl
get_map f (x ∷ xs) zero = refl
get_map f (x ∷ xs) (suc i) = get_map f xs i

nth_map : {A B : Type 0} (f : A → B) (xs : List A) (n : ℕ) → nth (map f xs) n ≡ option_map f (nth xs n)
nth_map f xs zero = refl
nth_map f xs (suc i) = get_map f xs i

-- address and bytes of the n-th load file
pub load_there : (held lent files : List (List ℕ)) (n : ℕ) (found : Option (List ℕ)) → held ≡ files → lent ≡ held
    → found ≡ nth (filter is_load lent) n → option_map load_in found ≡ nth (loads_of files) n
unfolding loads_of
load_there held lent files n found view is same =
    ap (option_map load_in) (same ∙ ap (λ (fs : List (List ℕ)). nth (filter is_load fs) n) (is ∙ view)) ∙ sym (nth_map load_in (filter is_load files) n)

-- the load files of files without a fault have 1 to 65,536 bytes each
all_more : {A : Type 0} (P : A → Type 0) (x : A) (xs : List A) → P x → All P xs → All P (x ∷ xs)
all_more P x xs here behind zero d within = here
all_more P x xs here behind (suc k) d within = behind k d (omega arith)

pub loads_fit : (files : List (List ℕ)) → All IsFile files → All IsLoadable (loads_of files)
unfolding loads_of
loads_fit [] all = λ k d within. absurd (omega arith)
loads_fit (file ∷ files) all = by_load (is_load file) refl (loads_fit files (λ k d within. all (suc k) d (omega arith)))
  where
    by_load : (b : Bool) → is_load file ≡ b → All IsLoadable (map load_in (filter is_load files)) → All IsLoadable (map load_in (cond b (file ∷ filter is_load files) (filter is_load files)))
    by_load true load rest = all_more IsLoadable (load_in file) (map load_in (filter is_load files)) (loaded_size file (all 0 [] (omega arith)) load) rest
    by_load false table rest = rest

-- the file of a number is there
get_there : (files : List (List ℕ)) (i : ℕ) → i < length files → slice_get files i ≡ Some (get_or files i [])
get_there [] i within = absurd (omega arith)
get_there (file ∷ files) zero within = refl
get_there (file ∷ files) (suc i) within = get_there files i (omega arith)

get_past : (files : List (List ℕ)) (i : ℕ) → length files ≤ i → slice_get files i ≡ None
get_past [] i past = refl
get_past (file ∷ files) zero past = absurd (omega arith)
get_past (file ∷ files) (suc i) past = get_past files i (omega arith)

-- a number of a file has the kind of that file, and another has none
pub kind_there : (files : List (List ℕ)) (n : ℕ) → 1 ≤ n → n ≤ length files → kind_at files n ≡ kind_of_file (file_at files n)
unfolding kind_at
kind_there files zero least most = absurd (omega arith)
kind_there files (suc i) least most =
    let back : suc i - 1 ≡ i = omega arith in
    ap kind_in (get_there files i (omega arith)) ∙ ap (λ (k : ℕ). kind_of_file (get_or files k [])) (sym back)

pub kind_past : (files : List (List ℕ)) (n : ℕ) → length files < n → kind_at files n ≡ None
unfolding kind_at
kind_past files zero past = absurd (omega arith)
kind_past files (suc i) past = ap kind_in (get_past files i (omega arith))

pub kind_before : (files : List (List ℕ)) (n : ℕ) → n ≡ 0 → kind_at files n ≡ None
unfolding kind_at
kind_before files n is = rw is refl

-- the number of a table file
numbered : (files : List (List ℕ)) (n : ℕ) (kind : TableKind) → kind_at files n ≡ Some kind → (1 ≤ n) × (n ≤ length files) × (kind_of_file (file_at files n) ≡ Some kind)
numbered files zero kind is = let none = kind_before files 0 refl in let wrong : ⊥ = cc in absurd wrong
numbered files (suc i) kind is = by_place (nat_le (suc i) (length files)) refl
  where
    by_place : (b : Bool) → nat_le (suc i) (length files) ≡ b → (1 ≤ suc i) × (suc i ≤ length files) × (kind_of_file (file_at files (suc i)) ≡ Some kind)
    by_place true within =
        let most : suc i ≤ length files = grind (arith, nat_tests) in
        (omega arith, most, sym (kind_there files (suc i) (omega arith) most) ∙ is)
    by_place false past =
        let none = kind_past files (suc i) (grind (arith, nat_tests)) in
        let wrong : ⊥ = cc in absurd wrong

pub numbers_of_tables : (files : List (List ℕ)) (n : ℕ) (kind : TableKind) → (kind_at files n ≡ Some kind) ↔ ((1 ≤ n) × (n ≤ length files) × (kind_of_file (file_at files n) ≡ Some kind))
numbers_of_tables files n kind = (numbered files n kind, λ there. kind_there files n there.0 there.1 ∙ there.2)
