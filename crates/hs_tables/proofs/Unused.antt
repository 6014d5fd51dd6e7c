-- Where a payload has no fault, an entry answers nothing exactly where it isn't used.
use Rattle.std.proofs.Common.{◌≡◌, ◌↔◌, ℕ, Bool, true, false, ◌&&◌, List, length, Option, Some, None, refl, subst, sym, get_or}
use Rattle.std.proofs.Math.ListN.{get_or-eq_default}
use Rattle.std.specs.Prelude.{if◌then◌else◌, is_none, option_map, nat_lt}
use Rattle.std.specs.List.{All}
use Rattle.std.proofs.lemmas.Bool.{ltb-true, ltb-false}
use Rattle.std.proofs.lemmas.List.Elements.{All-get_or, All-weaker}
use Rattle.table_files.specs.Entries.{first_fault}
use Rattle.hs_tables.proofs.Listed.{no_reason}

pub unused : {N E : Type 0} (used : Bool) (name : Option N) (rest : Option ℕ) (make : N → E) (reason : ℕ) → (if used && is_none name then Some reason else rest) ≡ None → ((if used then option_map make name else None) ≡ None) ↔ (used ≡ false)
unused true (Some name) rest make reason none = (λ is. cc, λ is. cc)
unused true None rest make reason none = cc
unused false name rest make reason none = (λ is. refl, λ is. refl)

pub unused_name : {N : Type 0} (used : Bool) (name : Option N) (rest : Option ℕ) (reason : ℕ) → (if used && is_none name then Some reason else rest) ≡ None → ((if used then name else None) ≡ None) ↔ (used ≡ false)
unused_name true (Some name) rest reason none = (λ is. cc, λ is. cc)
unused_name true None rest reason none = cc
unused_name false name rest reason none = (λ is. refl, λ is. refl)

-- what holds of each row of a list holds at each place, behind its end by the row that stands for none
at_place : {E : Type 0} (P : E → Type 0) (xs : List E) (i : ℕ) (d : E) → P d → All P xs → P (get_or xs i d)
at_place P xs i d blank all = by_test (nat_lt i (length xs)) refl
  where
    by_test : (t : Bool) → nat_lt i (length xs) ≡ t → P (get_or xs i d)
    by_test true within = All-get_or P xs i d (ltb-true i (length xs) within) all
    by_test false past = subst P (sym (get_or-eq_default xs d (ltb-false i (length xs) past))) blank

pub where_faultless : {E : Type 0} (P : E → Type 0) (reason_of : E → Option ℕ) (row : (e : E) → reason_of e ≡ None → P e) (blank : E) (silent : reason_of blank ≡ None) (xs : List E) (i n : ℕ)
    → first_fault reason_of n xs ≡ None → P (get_or xs i blank)
where_faultless P reason_of row blank silent xs i n none =
    at_place P xs i blank (row blank silent) (All-weaker (λ e. reason_of e ≡ None) P row xs (no_reason reason_of n xs none))
