-- Lemmas on the warnings of sequences, at one command more.
use Rattle.std.proofs.Common.{◌≡◌, ℕ, ◌+◌, ◌<◌, Bool, true, false, List, [], ◌∷◌, ◌++◌, length, take, map, Option, Some, None, refl, ap, sym, ◌∙◌, arith, append_assoc}
use Rattle.std.specs.Prelude.{find, min, sum_by, option_map, flat_map, if◌then◌else◌, slice_index_or, Result, Ok, Err}
use Rattle.std.specs.List.{range_with_len}
use Rattle.std.proofs.lemmas.List.{take_more, map-append}
use Rattle.std.proofs.lemmas.List.FromFn.{map-range_with_len_more}
use Rattle.std.proofs.lemmas.List.Sums.{sum_by_more}
use Rattle.sc_tables.specs.declared.absolute.Timed.{Timed}
use Rattle.sc_tables.specs.declared.relative.Relative.{Relative}
use Rattle.table_files.specs.declared.fault.EntryFault.{EntryFault}
use Rattle.sc_tables.specs.Grammar.{fault_in, entries_in}
use Rattle.sc_tables.specs.Absolute.{no_timed, in_order, stored_ats, ats_of, ats_fault_of}
use Rattle.sc_tables.specs.Relative.{no_relative, stored_rts, rts_of, rts_fault_of}
use Rattle.table_warnings.specs.declared.warning.Warning.{Warning}
use Rattle.table_warnings.specs.Commands.{ends_absolute}
use Rattle.table_warnings.specs.Warned.{end_in, end_behind, tags_in, timed_warnings, absolute_at, absolute_in, time_at, relative_warnings, relative_at, relative_in}
use Rattle.table_warnings.proofs.RangeLemmas.{all_more}

-- ---- absolute sequences

end_one : (c : Timed) (b : Bool) → option_map (λ (c : Timed). c.tag) (if b then Some c else None) ≡ (if b then Some c.tag else None)
end_one c true = refl
end_one c false = refl

end_behind_one : (xs : List Timed) (x c : Timed) (b : Bool) → end_in (xs ++ c ∷ []) ≡ end_behind (end_in xs) c → option_map (λ (c : Timed). c.tag) (if b then Some x else find (λ (c : Timed). ends_absolute c.packet) (xs ++ c ∷ [])) ≡ end_behind (option_map (λ (c : Timed). c.tag) (if b then Some x else find (λ (c : Timed). ends_absolute c.packet) xs)) c
end_behind_one xs x c true e = refl
end_behind_one xs x c false e = e

end_push : (xs : List Timed) (c : Timed) → end_in (xs ++ c ∷ []) ≡ end_behind (end_in xs) c
end_push [] c = end_one c (ends_absolute c.packet)
end_push (x ∷ xs) c = end_behind_one xs x c (ends_absolute x.packet) (end_push xs c)

pub end_more : (commands : List Timed) (k : ℕ) (c : Timed) (end : Option ℕ) → k < length commands → c ≡ slice_index_or commands k no_timed → end ≡ end_in (take k commands) → end_behind end c ≡ end_in (take (k + 1) commands)
end_more commands k c end inside is e =
    rw (e, is) (sym (end_push (take k commands) (slice_index_or commands k no_timed)) ∙ ap end_in (sym (take_more commands k no_timed inside)))

pub tags_more : (commands : List Timed) (k : ℕ) (c : Timed) (times : List ℕ) → k < length commands → c ≡ slice_index_or commands k no_timed → times ≡ tags_in (take k commands) → times ++ c.tag ∷ [] ≡ tags_in (take (k + 1) commands)
tags_more commands k c times inside is e =
    rw (e, is) (sym (map-append (λ (c : Timed). c.tag) (take k commands) (slice_index_or commands k no_timed ∷ [])) ∙ ap tags_in (sym (take_more commands k no_timed inside)))

absolute_here : (commands : List Timed) (k : ℕ) (c : Timed) (end : Option ℕ) (times : List ℕ) → k < length commands → c ≡ slice_index_or commands k no_timed → end ≡ end_in (take k commands) → times ≡ tags_in (take k commands) → timed_warnings c end (times ++ c.tag ∷ []) ≡ absolute_at commands k
unfolding absolute_at
absolute_here commands k c end times inside is e t =
    ap (timed_warnings c end) (tags_more commands k c times inside is t)
    ∙ ap (λ (end : Option ℕ). timed_warnings c end (tags_in (take (k + 1) commands))) e
    ∙ ap (λ (c : Timed). timed_warnings c (end_in (take k commands)) (tags_in (take (k + 1) commands))) is

-- what is told of one place more
told_more : (f : ℕ → List Warning) (k : ℕ) (old now new more : List Warning) → now ≡ old ++ flat_map f (range_with_len 0 k) → new ≡ now ++ more → more ≡ f k → new ≡ old ++ flat_map f (range_with_len 0 (k + 1))
told_more f k old now new more before told is =
    told
    ∙ ap (λ (ws : List Warning). ws ++ more) before
    ∙ ap (λ (ws : List Warning). (old ++ flat_map f (range_with_len 0 k)) ++ ws) is
    ∙ append_assoc old (flat_map f (range_with_len 0 k)) (f k)
    ∙ ap (λ (ws : List Warning). old ++ ws) (sym (all_more f k))

pub absolute_more : (commands : List Timed) (k : ℕ) (c : Timed) (end : Option ℕ) (times : List ℕ) (old now new : List Warning) → k < length commands → c ≡ slice_index_or commands k no_timed → end ≡ end_in (take k commands) → times ≡ tags_in (take k commands) → now ≡ old ++ flat_map (absolute_at commands) (range_with_len 0 k) → new ≡ now ++ timed_warnings c end (times ++ c.tag ∷ []) → new ≡ old ++ flat_map (absolute_at commands) (range_with_len 0 (k + 1))
absolute_more commands k c end times old now new inside is e t before told =
    told_more (absolute_at commands) k old now new (timed_warnings c end (times ++ c.tag ∷ [])) before told (absolute_here commands k c end times inside is e t)

-- ---- relative sequences

min_more : (a b most : ℕ) → min (min most a + b) most ≡ min most (a + b)
min_more a b most = omega arith

sum_more : (commands : List Relative) (k : ℕ) → k < length commands → sum_by (λ (c : Relative). c.tag) (take (k + 1) commands) ≡ sum_by (λ (c : Relative). c.tag) (take k commands) + (slice_index_or commands k no_relative).tag
sum_more commands k inside = sum_by_more (λ (c : Relative). c.tag) commands k no_relative inside

-- seconds behind the start of the commands in front of a place
abbrev pub time_before : List Relative → ℕ → ℕ
time_before commands k = min 4294967295 (sum_by (λ (c : Relative). c.tag) (take k commands))

pub time_more : (commands : List Relative) (k : ℕ) (c : Relative) (time : ℕ) → k < length commands → c ≡ slice_index_or commands k no_relative → time ≡ time_before commands k → min (time + c.tag) 4294967295 ≡ time_at commands k
unfolding time_at
time_more commands k c time inside is e =
    rw (e, is, sum_more commands k inside) (min_more (sum_by (λ (c : Relative). c.tag) (take k commands)) (slice_index_or commands k no_relative).tag 4294967295)

pub times_more : (commands : List Relative) (k time : ℕ) (times : List ℕ) → time ≡ time_at commands k → times ≡ map (time_at commands) (range_with_len 0 k) → times ++ time ∷ [] ≡ map (time_at commands) (range_with_len 0 (k + 1))
times_more commands k time times t e = rw (t, e) (sym (map-range_with_len_more (time_at commands) 0 k k (omega arith)))

relative_here : (n : ℕ) (commands : List Relative) (k : ℕ) (c : Relative) (times : List ℕ) → c ≡ slice_index_or commands k no_relative → times ≡ map (time_at commands) (range_with_len 0 (k + 1)) → relative_warnings n c (k + 1) times ≡ relative_at n commands k
unfolding relative_at
relative_here n commands k c times is e =
    ap (relative_warnings n c (k + 1)) e ∙ ap (λ (c : Relative). relative_warnings n c (k + 1) (map (time_at commands) (range_with_len 0 (k + 1)))) is

pub relative_more : (n : ℕ) (commands : List Relative) (k : ℕ) (c : Relative) (time : ℕ) (times : List ℕ) (old now new : List Warning) → c ≡ slice_index_or commands k no_relative → time ≡ time_at commands k → times ≡ map (time_at commands) (range_with_len 0 k) → now ≡ old ++ flat_map (relative_at n commands) (range_with_len 0 k) → new ≡ now ++ relative_warnings n c (k + 1) (times ++ time ∷ []) → new ≡ old ++ flat_map (relative_at n commands) (range_with_len 0 (k + 1))
relative_more n commands k c time times old now new is t all before told =
    told_more (relative_at n commands) k old now new (relative_warnings n c (k + 1) (times ++ time ∷ [])) before told (relative_here n commands k c (times ++ time ∷ []) is (times_more commands k time times t all))

pub before_next : (commands : List Relative) (k : ℕ) → time_at commands k ≡ time_before commands (k + 1)
unfolding time_at
before_next commands k = refl

-- ---- sequences that are refused

nothing_in : {E : Type 0} (r : Result (List E) EntryFault) (fault : EntryFault) → fault_in r ≡ Some fault → entries_in r ≡ []
nothing_in (Ok entries) fault e = absurd (cc)
nothing_in (Err other) fault e = refl

pub no_absolute : (payload : List ℕ) (fault : EntryFault) → ats_fault_of payload ≡ Some fault → absolute_in (ats_of payload) ≡ []
unfolding ats_fault_of ats_of absolute_in in_order
no_absolute payload fault e = ap (λ (cs : List Timed). flat_map (absolute_at (in_order cs)) (range_with_len 0 (length (in_order cs)))) (nothing_in (stored_ats payload) fault e)

pub no_relatives : (n : ℕ) (payload : List ℕ) (fault : EntryFault) → rts_fault_of payload ≡ Some fault → relative_in n (rts_of payload) ≡ []
unfolding rts_fault_of rts_of relative_in
no_relatives n payload fault e = ap (λ (cs : List Relative). flat_map (relative_at n cs) (range_with_len 0 (length cs))) (nothing_in (stored_rts payload) fault e)
