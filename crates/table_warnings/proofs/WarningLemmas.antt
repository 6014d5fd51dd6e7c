-- Lemmas on entries that are used, and on the list of a dwell table.
use Rattle.std.proofs.Common.{◌≡◌, ℕ, zero, suc, ◌+◌, ◌-◌, ◌*◌, ◌<◌, Bool, true, false, List, refl, sym, ap, ◌∙◌, arith}
use Rattle.std.specs.Prelude.{◌||◌, ◌==◌}
use Rattle.std.proofs.lemmas.Bool.Decides.{nat_tests}
use Rattle.packet_forms.specs.Numbers.{be16_at}
use Rattle.table_files.specs.declared.kinds.TableKind.{TableKind}
use Rattle.table_warnings.specs.Used.{used_at, any_used}
use Rattle.table_warnings.specs.Dwelling.{delays_from}

pub none_used : (kind : TableKind) (payload : List ℕ) (from count : ℕ) → count ≡ 0 → false ≡ any_used kind payload from count
unfolding any_used
none_used kind payload from count e = rw e refl

any_suc : (kind : TableKind) (payload : List ℕ) (from count : ℕ) → any_used kind payload from (suc count) ≡ (used_at kind payload from || any_used kind payload (from + 1) count)
unfolding any_used
any_suc kind payload from count = refl

any_more : (kind : TableKind) (payload : List ℕ) (from count : ℕ) → 0 < count → any_used kind payload from count ≡ (used_at kind payload from || any_used kind payload (from + 1) (count - 1))
any_more kind payload from zero some = absurd (omega (arith, some))
any_more kind payload from (suc count) some = let e : count ≡ suc count - 1 = omega arith in rw (← e) (any_suc kind payload from count)

or_true : (a b : Bool) → a ≡ true → (a || b) ≡ true
or_true a b e = rw e refl

or_other : (a b : Bool) → a ≡ false → (a || b) ≡ b
or_other a b e = rw e refl

pub used_here : (kind : TableKind) (payload : List ℕ) (from count : ℕ) → 0 < count → used_at kind payload from ≡ true → true ≡ any_used kind payload from count
used_here kind payload from count some here = sym (any_more kind payload from count some ∙ or_true (used_at kind payload from) (any_used kind payload (from + 1) (count - 1)) here)

pub used_later : (kind : TableKind) (payload : List ℕ) (from count : ℕ) (b : Bool) → 0 < count → used_at kind payload from ≡ false → b ≡ any_used kind payload (from + 1) (count - 1) → b ≡ any_used kind payload from count
used_later kind payload from count b some here later = later ∙ sym (any_more kind payload from count some ∙ or_other (used_at kind payload from) (any_used kind payload (from + 1) (count - 1)) here)

-- ---- delays

pub no_entries : (payload : List ℕ) (place left : ℕ) → left ≡ 0 → 0 ≡ delays_from payload place left
unfolding delays_from
no_entries payload place left e = rw e refl

end_suc : (payload : List ℕ) (place left : ℕ) → (be16_at payload (4 + 8 * place) == 0) ≡ true → delays_from payload place (suc left) ≡ 0
unfolding delays_from
end_suc payload place left e = rw e refl

more_suc : (payload : List ℕ) (place left : ℕ) → (be16_at payload (4 + 8 * place) == 0) ≡ false → delays_from payload place (suc left) ≡ be16_at payload (6 + 8 * place) + delays_from payload (place + 1) left
unfolding delays_from
more_suc payload place left e = rw e refl

pub list_ends : (payload : List ℕ) (place left : ℕ) → 0 < left → be16_at payload (4 + 8 * place) ≡ 0 → 0 ≡ delays_from payload place left
list_ends payload place zero some e = absurd (omega (arith, some))
list_ends payload place (suc left) some e = let is : (be16_at payload (4 + 8 * place) == 0) ≡ true = grind (arith, nat_tests) in sym (end_suc payload place left is)

pub list_goes_on : (payload : List ℕ) (place left : ℕ) → 0 < left → (be16_at payload (4 + 8 * place) ≡ 0 → ⊥) → delays_from payload place left ≡ be16_at payload (6 + 8 * place) + delays_from payload (place + 1) (left - 1)
list_goes_on payload place zero some e = absurd (omega (arith, some))
list_goes_on payload place (suc left) some e =
    let is : (be16_at payload (4 + 8 * place) == 0) ≡ false = grind (arith, nat_tests) in
    let same : left ≡ suc left - 1 = omega arith in
    more_suc payload place left is ∙ ap (λ (n : ℕ). be16_at payload (6 + 8 * place) + delays_from payload (place + 1) n) same
