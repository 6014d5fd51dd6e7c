-- Lists of seats, and what their subjects are.
use Rattle.std.proofs.Common.{◌≡◌, ℕ, ◌+◌, ◌-◌, ◌<◌, ◌≤◌, suc, List, [], ◌∷◌, ◌++◌, length, map, take, drop, set, get_or, refl, sym, ap, ◌∙◌, append-nil, arith}
use Rattle.std.proofs.lemmas.List.{get_or-map, get_or-drop, get_or-append_right, length-map, length-take-le, map-set, map_more, take_all, drop_all}
use Rattle.std.proofs.lemmas.List.Edits.{map_over_more}
use Rattle.packet_forms.specs.declared.name.Counter.{Counter}
use Rattle.subjects.specs.declared.seat.Seat.{Seat}
use Rattle.subjects.specs.Plans.{Simulated, reading_of}
use Rattle.subjects.specs.Seats.{held}
use Rattle.subjects.specs.Crowds.{counter_of}

abbrev with_value : ℕ → List ℕ → Counter
with_value value name = record { name = name; value = value }

-- the counter that a subject gives, under its name
pub counter_told : (was : Simulated) (name : List ℕ) (value : ℕ) → name ≡ was.name → value ≡ reading_of was → with_value value name ≡ counter_of was
counter_told was name value named read = ap (with_value value) named ∙ ap (λ (v : ℕ). with_value v was.name) read

module _ {S : Type 0} (seen : S → Simulated) where
  -- what the subjects of these seats are
  abbrev pub seen_in : List (Seat S) → List Simulated
  seen_in seats = map seen (held seats)

  pub seen_seats : (seats : List (Seat S)) → map (λ (s : Seat S). seen s.subject) seats ≡ seen_in seats
  seen_seats [] = refl
  seen_seats (s ∷ seats) = ap (λ (rest : List Simulated). seen s.subject ∷ rest) (seen_seats seats)

  -- seats of each of which f gives what h gives of the subject that was there
  pub each_seat : {C : Type 0} (f : Seat S → C) (h : Simulated → C) (ys xs : List (Seat S))
      → length ys ≡ length xs → ((i : ℕ) (d : Seat S) → i < length xs → f (get_or ys i d) ≡ h (seen (get_or xs i d).subject)) → map f ys ≡ map h (seen_in xs)
  each_seat f h [] [] count each = refl
  each_seat f h [] (x ∷ xs) count each = absurd (omega arith)
  each_seat f h (y ∷ ys) [] count each = absurd (omega arith)
  each_seat {C} f h (y ∷ ys) (x ∷ xs) count each =
      ap (λ (one : C). one ∷ map f ys) (each 0 y (omega arith))
      ∙ ap (λ (rest : List C). h (seen x.subject) ∷ rest) (each_seat f h ys xs (omega arith) (λ i d below. each (suc i) d (omega arith)))

  -- seats as the subjects of the first so many of those before were changed by h
  abbrev pub AreChanged : (Simulated → Simulated) → ℕ → List (Seat S) → List (Seat S) → Type 0
  AreChanged h count before seats = seen_in seats ≡ map h (take count (seen_in before)) ++ drop count (seen_in before)

  same_length : (seats : List (Seat S)) → length (seen_in seats) ≡ length seats
  same_length seats = length-map (held seats) seen ∙ length-map seats (λ (s : Seat S). s.subject)

  seen_at : (seats : List (Seat S)) (i : ℕ) (d : Seat S) (e : Simulated) → i < length seats → get_or (seen_in seats) i e ≡ seen (get_or seats i d).subject
  seen_at seats i d e inside =
      let in_held : i < length (held seats) = (let len = length-map seats (λ (s : Seat S). s.subject) in omega arith) in
      get_or-map seen (held seats) i d.subject e in_held ∙ ap seen (get_or-map (λ (s : Seat S). s.subject) seats i d d.subject inside)

  pub one_changed : (h : Simulated → Simulated) (before seats : List (Seat S)) (i : ℕ) (old new : Seat S)
      → i < length before → length seats ≡ length before → old ≡ get_or seats i old → seen new.subject ≡ h (seen (get_or seats i old).subject)
      → AreChanged h i before seats → AreChanged h (i + 1) before (set seats i new)
  one_changed h before seats i old new below count here changed so_far =
      let inside : i < length seats = omega arith in
      let in_before : i < length (seen_in before) = (let len = same_length before in omega arith) in
      ap (map seen) (map-set (λ (s : Seat S). s.subject) seats i new)
      ∙ map-set seen (held seats) i new.subject
      ∙ ap (set (seen_in seats) i) (changed ∙ ap (λ (s : Seat S). h (seen s.subject)) (sym here))
      ∙ map_over_more h (seen_in before) (seen_in seats) i (seen old.subject) in_before so_far
      (ap (λ (s : Seat S). seen s.subject) here ∙ sym (seen_at seats i old (seen old.subject) inside))

  -- the subject at the next place is as it was
  pub untouched : (h : Simulated → Simulated) (before seats : List (Seat S)) (i : ℕ) (d : Seat S) (e : Simulated)
      → i < length before → length seats ≡ length before → AreChanged h i before seats → seen (get_or seats i d).subject ≡ get_or (seen_in before) i e
  untouched h before seats i d e below count changed =
      let inside : i < length seats = omega arith in
      let front : length (map h (take i (seen_in before))) ≡ i =
      (let len = same_length before in length-map (take i (seen_in before)) h ∙ length-take-le i (seen_in before) (omega arith)) in
      sym (seen_at seats i d e inside)
      ∙ ap (λ (seen_now : List Simulated). get_or seen_now i e) changed
      ∙ get_or-append_right (map h (take i (seen_in before))) (drop i (seen_in before)) i i e front (omega arith)
      ∙ get_or-drop i (seen_in before) (i - i) e
      ∙ ap (λ (k : ℕ). get_or (seen_in before) k e) (omega arith)

  -- what f gives of the first so many of those before, at one more
  pub one_more : {C : Type 0} (f : Simulated → C) (h : Simulated → Simulated) (before seats : List (Seat S)) (i : ℕ) (d : Seat S)
      → i < length before → length seats ≡ length before → AreChanged h i before seats
      → map f (take i (seen_in before)) ++ f (seen (get_or seats i d).subject) ∷ [] ≡ map f (take (i + 1) (seen_in before))
  one_more {C} f h before seats i d below count changed =
      let e : Simulated = seen d.subject in
      let in_before : i < length (seen_in before) = (let len = same_length before in omega arith) in
      ap (λ (s : Simulated). map f (take i (seen_in before)) ++ f s ∷ []) (untouched h before seats i d e below count changed)
      ∙ sym (map_more f (seen_in before) i e in_before)

  pub all_changed : (h : Simulated → Simulated) (before seats : List (Seat S)) (i : ℕ) → length before ≤ i → AreChanged h i before seats → seen_in seats ≡ map h (seen_in before)
  all_changed h before seats i past changed =
      let behind : length (seen_in before) ≤ i = (let len = same_length before in omega arith) in
      changed
      ∙ ap (λ (front : List Simulated). map h front ++ drop i (seen_in before)) (take_all i (seen_in before) behind)
      ∙ ap (λ (rest : List Simulated). map h (seen_in before) ++ rest) (drop_all i (seen_in before) behind)
      ∙ append-nil (map h (seen_in before))

  -- and what f gives of all of them
  pub all_listed : {C : Type 0} (f : Simulated → C) (before : List (Seat S)) (i : ℕ) → length before ≤ i → map f (take i (seen_in before)) ≡ map f (seen_in before)
  all_listed f before i past = ap (map f) (take_all i (seen_in before) (let len = same_length before in omega arith))
