-- Histories of wakeups and activations at one more entry.
use Rattle.std.proofs.Common.{◌≡◌, ℕ, Bool, true, false, cond, List, [], ◌∷◌, ◌++◌, length, take, Option, Some, None, refl, ap, ◌∙◌, append-nil}
use Rattle.std.specs.Prelude.{filter_map}
use Rattle.std.specs.List.{cons_option}
use Rattle.std.proofs.lemmas.List.Elements.{filter_map-append}
use Rattle.std.proofs.lemmas.List.{take-append-le}
use Rattle.std.proofs.Math.Seq.{take-append_seam}
use Rattle.histories.specs.Words.{last_or, last_place}
use Rattle.histories.specs.Entries.{Entry, wakeup_in, activation_in, wakeups, activations, in_force, wakeups_before, replaced_by}
use Rattle.histories.specs.Entries.Entry.{Woken, Activated}
use Rattle.histories.proofs.Lasts.{last_or_more, last_place_more, last_place_within}

module _ {W A : Type 0} where
  -- a wakeup more
  pub wakeups_woken : (entries : List (Entry W A)) (w : W) → wakeups (entries ++ Woken w ∷ []) ≡ wakeups entries ++ w ∷ []
  unfolding wakeups
  wakeups_woken entries w = filter_map-append wakeup_in entries (Woken w ∷ [])

  pub activations_woken : (entries : List (Entry W A)) (w : W) → activations (entries ++ Woken w ∷ []) ≡ activations entries
  unfolding activations
  activations_woken entries w = filter_map-append activation_in entries (Woken w ∷ []) ∙ append-nil (filter_map activation_in entries)

  pub in_force_woken : {X : Type 0} (of_kind : A → Option X) (before : X) (entries : List (Entry W A)) (w : W) → in_force of_kind before (entries ++ Woken w ∷ []) ≡ in_force of_kind before entries
  unfolding in_force
  in_force_woken of_kind before entries w = ap (λ (given : List A). last_or before (filter_map of_kind given)) (activations_woken entries w)

  -- an activation more
  pub wakeups_activated : (entries : List (Entry W A)) (a : A) → wakeups (entries ++ Activated a ∷ []) ≡ wakeups entries
  unfolding wakeups
  wakeups_activated entries a = filter_map-append wakeup_in entries (Activated a ∷ []) ∙ append-nil (filter_map wakeup_in entries)

  pub activations_activated : (entries : List (Entry W A)) (a : A) → activations (entries ++ Activated a ∷ []) ≡ activations entries ++ a ∷ []
  unfolding activations
  activations_activated entries a = filter_map-append activation_in entries (Activated a ∷ [])

  pub in_force_activated : {X : Type 0} (of_kind : A → Option X) (before : X) (entries : List (Entry W A)) (a : A) → in_force of_kind before (entries ++ Activated a ∷ []) ≡ replaced_by (of_kind a) (in_force of_kind before entries)
  unfolding in_force
  in_force_activated {X} of_kind before entries a =
      ap (λ (given : List A). last_or before (filter_map of_kind given)) (activations_activated entries a)
      ∙ ap (last_or before) (filter_map-append of_kind (activations entries) (a ∷ []))
      ∙ by_kind (of_kind a)
    where
      by_kind : (kind : Option X) → last_or before (filter_map of_kind (activations entries) ++ cons_option kind []) ≡ replaced_by kind (last_or before (filter_map of_kind (activations entries)))
      by_kind None = ap (last_or before) (append-nil (filter_map of_kind (activations entries)))
      by_kind (Some x) = last_or_more before (filter_map of_kind (activations entries)) x

  -- the wakeups before the last entry that passes, at one more entry
  pub wakeups_before_more : (test : Entry W A → Bool) (entries : List (Entry W A)) (e : Entry W A)
      → wakeups_before test (entries ++ e ∷ []) ≡ cond (test e) (length (wakeups entries)) (wakeups_before test entries)
  unfolding wakeups_before
  wakeups_before_more test entries e = ap (λ (n : ℕ). length (wakeups (take n (entries ++ e ∷ [])))) (last_place_more test entries e) ∙ by_case (test e)
    where
      by_case : (b : Bool) → length (wakeups (take (cond b (length entries) (last_place test entries)) (entries ++ e ∷ []))) ≡ cond b (length (wakeups entries)) (length (wakeups (take (last_place test entries) entries)))
      by_case true = ap (λ (es : List (Entry W A)). length (wakeups es)) (take-append_seam entries (e ∷ []))
      by_case false = ap (λ (es : List (Entry W A)). length (wakeups es)) (take-append-le (last_place test entries) entries (e ∷ []) (last_place_within test entries))

-- no entries
pub wakeups_none : (W A : Type 0) → ◌≡◌ {A = List W} (wakeups {W = W} {A = A} []) []
unfolding wakeups
wakeups_none W A = refl

pub in_force_none : (W : Type 0) {A X : Type 0} (of_kind : A → Option X) (before : X) → in_force {W = W} of_kind before [] ≡ before
unfolding in_force activations last_or
in_force_none W of_kind before = refl

pub wakeups_before_none : {W A : Type 0} (test : Entry W A → Bool) → wakeups_before test [] ≡ 0
unfolding wakeups_before wakeups last_place
wakeups_before_none test = refl
