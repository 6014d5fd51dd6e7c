-- The search for a counter, one counter at a time.
use Rattle.std.proofs.Common.{◌≡◌, ℕ, ◌+◌, ◌<◌, ◌≤◌, true, false, List, length, drop, get_or, find, Option, Some, None, refl, ap}
use Rattle.std.specs.Prelude.{option_map}
use Rattle.packet_forms.specs.declared.name.Counter.{Counter}
use Rattle.hs_monitors.specs.Acting.{is_same, counter_in}
use Rattle.hs_monitors.proofs.Lists.{find_on, find_here, find_end}

-- the counter of a name from a place on
abbrev pub found_from : List Counter → List ℕ → ℕ → Option ℕ
found_from counters name i = option_map (λ (c : Counter). c.value) (find (λ (c : Counter). is_same c.name name) (drop i counters))

module _ (counters : List Counter) (name : List ℕ) where
  pub found_first : counter_in counters name ≡ found_from counters name 0
  unfolding counter_in
  found_first = refl

  pub found_later : (i : ℕ) (c : Counter) → i < length counters → c ≡ get_or counters i c → is_same c.name name ≡ false → found_from counters name i ≡ found_from counters name (i + 1)
  found_later i c within is other = ap (option_map (λ (x : Counter). x.value)) (find_on (λ (x : Counter). is_same x.name name) counters i c within is other)

  pub found_here : (i : ℕ) (c : Counter) → i < length counters → c ≡ get_or counters i c → is_same c.name name ≡ true → found_from counters name i ≡ Some c.value
  found_here i c within is same = ap (option_map (λ (x : Counter). x.value)) (find_here (λ (x : Counter). is_same x.name name) counters i c within is same)

  pub found_end : (i : ℕ) → length counters ≤ i → found_from counters name i ≡ None
  found_end i past = ap (option_map (λ (x : Counter). x.value)) (find_end (λ (x : Counter). is_same x.name name) counters i past)
