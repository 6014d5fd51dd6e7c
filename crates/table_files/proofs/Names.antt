-- Names of tables, one after another.
use Rattle.std.proofs.Common.{◌≡◌, ℕ, suc, ◌+◌, ◌-◌, ◌<◌, Bool, true, false, cond, List, [], ◌∷◌, ◌++◌, map, Some, None, refl, ap, ◌∙◌, arith}
use Rattle.std.specs.List.{range_with_len}
use Rattle.table_files.specs.declared.kinds.TableKind.{TableKind}
use Rattle.table_files.specs.declared.kinds.TableKind.TheVariants.{Rts}
use Rattle.table_files.specs.Kinds.{KnownTable, is_padded, kind_among, rts_name, rts_table}

-- a name that is among the first of two lists, and one that is among none of them
pub among_first : (tables others : List KnownTable) (field : List ℕ) (kind : TableKind) → kind_among tables field ≡ Some kind → kind_among (tables ++ others) field ≡ Some kind
among_first [] others field kind is = cc
among_first (table ∷ tables) others field kind is = by_name (is_padded table.name field) is (λ behind. among_first tables others field kind behind)
  where
    by_name : (b : Bool) → cond b (Some table.kind) (kind_among tables field) ≡ Some kind → (kind_among tables field ≡ Some kind → kind_among (tables ++ others) field ≡ Some kind)
        → cond b (Some table.kind) (kind_among (tables ++ others) field) ≡ Some kind
    by_name true here behind = here
    by_name false later behind = behind later

pub among_others : (tables others : List KnownTable) (field : List ℕ) → kind_among tables field ≡ None → kind_among (tables ++ others) field ≡ kind_among others field
among_others [] others field is = refl
among_others (table ∷ tables) others field is = by_name (is_padded table.name field) is (λ behind. among_others tables others field behind)
  where
    by_name : (b : Bool) → cond b (Some table.kind) (kind_among tables field) ≡ None → (kind_among tables field ≡ None → kind_among (tables ++ others) field ≡ kind_among others field)
        → cond b (Some table.kind) (kind_among (tables ++ others) field) ≡ kind_among others field
    by_name true here behind = cc
    by_name false later behind = behind later

rest_more : (n : ℕ) → n < 65 → map rts_table (range_with_len n (65 - n)) ≡ rts_table n ∷ map rts_table (range_with_len (n + 1) (65 - (n + 1)))
rest_more n below = let size : 65 - n ≡ suc (65 - (n + 1)) = omega arith in ap (λ (k : ℕ). map rts_table (range_with_len n k)) size

-- the name of number n, and a name that is another
pub sequence_here : (field : List ℕ) (n : ℕ) → n < 65 → is_padded (rts_name n) field ≡ true → kind_among (map rts_table (range_with_len n (65 - n))) field ≡ Some (Rts n)
sequence_here field n below is =
    ap (λ (tables : List KnownTable). kind_among tables field) (rest_more n below)
    ∙ ap (λ (b : Bool). cond b (Some (Rts n)) (kind_among (map rts_table (range_with_len (n + 1) (65 - (n + 1)))) field)) is

pub sequence_later : (field : List ℕ) (n : ℕ) → n < 65 → is_padded (rts_name n) field ≡ false → kind_among (map rts_table (range_with_len n (65 - n))) field ≡ kind_among (map rts_table (range_with_len (n + 1) (65 - (n + 1)))) field
sequence_later field n below is =
    ap (λ (tables : List KnownTable). kind_among tables field) (rest_more n below)
    ∙ ap (λ (b : Bool). cond b (Some (Rts n)) (kind_among (map rts_table (range_with_len (n + 1) (65 - (n + 1)))) field)) is

-- behind the last there is none
pub sequences_end : (field : List ℕ) (n : ℕ) → 65 - n ≡ 0 → kind_among (map rts_table (range_with_len n (65 - n))) field ≡ None
sequences_end field n end = ap (λ (k : ℕ). kind_among (map rts_table (range_with_len n k)) field) end
