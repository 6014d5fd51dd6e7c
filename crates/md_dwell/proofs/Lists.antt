-- Laws of the list of a table and of its delays.
use Rattle.std.proofs.Common.{◌≡◌, ℕ, ◌+◌, ◌<◌, ◌≤◌, List, [], length, take, drop, get_or, refl, sym, ap, ◌∙◌, arith, eq-eqb, not}
use Rattle.std.specs.Prelude.{◌==◌}
use Rattle.std.specs.List.{position_or_len}
use Rattle.std.proofs.lemmas.List.{take_all, take-take}
use Rattle.std.proofs.lemmas.List.Folds.{length-prefix_len}
use Rattle.std.proofs.lemmas.List.Sums.{prefix_len-drop_no, prefix_len-drop_all, prefix_len-le-length, sum_by_more, sum_by-take-le}
use Rattle.md_dwell.specs.Lists.{list_of, delays}
use Rattle.md_dwell.specs.declared.tables.DwellEntry.{DwellEntry}

-- the place of the first entry of length 0
abbrev pub end_of : List DwellEntry → ℕ
end_of entries = position_or_len (λ (e : DwellEntry). e.len == 0) entries

-- the list is as long as the place of the first entry of length 0 says
pub list_is : (entries : List DwellEntry) (n : ℕ) → n ≡ end_of entries → (n ≡ length (list_of entries)) × (take n entries ≡ list_of entries)
unfolding list_of
list_is entries n is = (is ∙ sym (length-prefix_len (λ (e : DwellEntry). not (e.len == 0)) entries), ap (λ k. take k entries) is)

-- the first entry of length 0 was found
pub end_found : (entries : List DwellEntry) (i : ℕ) (d : DwellEntry) → i < length entries → i + end_of (drop i entries) ≡ end_of entries → (get_or entries i d).len ≡ 0 → i ≡ end_of entries
end_found entries i d within so_far none =
    let here : end_of (drop i entries) ≡ 0 = prefix_len-drop_no (λ (e : DwellEntry). not (e.len == 0)) entries i d within (ap not (eq-eqb (get_or entries i d).len 0 none)) in
    omega arith

-- there is none
pub end_missing : (entries : List DwellEntry) (i : ℕ) → length entries ≤ i → i + end_of (drop i entries) ≡ end_of entries → i ≡ end_of entries
end_missing entries i past so_far =
    let here : end_of (drop i entries) ≡ 0 = prefix_len-drop_all (λ (e : DwellEntry). not (e.len == 0)) entries i past in
    omega arith

-- the list is no longer than the entries
pub list_short : (entries : List DwellEntry) → length (list_of entries) ≤ length entries
unfolding list_of
list_short entries =
    let few = prefix_len-le-length (λ (e : DwellEntry). not (e.len == 0)) entries in
    let long = length-prefix_len (λ (e : DwellEntry). not (e.len == 0)) entries in
    omega arith

-- the first entries, as many as the list has
pub list_front : (entries : List DwellEntry) (n : ℕ) → n ≡ length (list_of entries) → take n entries ≡ list_of entries
unfolding list_of
list_front entries n is = (list_is entries n (is ∙ length-prefix_len (λ (e : DwellEntry). not (e.len == 0)) entries)).1

-- the delays of one entry more
pub delays_more : (list : List DwellEntry) (i : ℕ) (d : DwellEntry) → i < length list → delays (take (i + 1) list) ≡ delays (take i list) + (get_or list i d).delay
unfolding delays
delays_more list i d within = sum_by_more (λ (e : DwellEntry). e.delay) list i d within

-- of all
pub delays_all : (list : List DwellEntry) (n : ℕ) → length list ≤ n → delays (take n list) ≡ delays list
delays_all list n past = ap delays (take_all n list past)

-- more entries have no smaller delays together
pub delays_rise : (list : List DwellEntry) (i j : ℕ) → i ≤ j → delays (take i list) ≤ delays (take j list)
unfolding delays
delays_rise list i j below = rw (← take-take i j list below) (sum_by-take-le (λ (e : DwellEntry). e.delay) (take j list) i)

-- no entries
pub delays_none : delays [] ≡ 0
unfolding delays
delays_none = refl
