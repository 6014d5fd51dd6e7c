-- What is kept of all entries, place by place.
use Rattle.std.proofs.Common.{◌≡◌, ◌≢◌, ℕ, ◌+◌, ◌<◌, ◌≤◌, cond, List, [], ◌∷◌, ◌++◌, length, set, inl, inr, Some, refl, sym, ap, subst, ◌∙◌, arith}
use Rattle.std.specs.Prelude.{nat_lt}
use Rattle.std.proofs.lemmas.Bool.{cases_eq, cases_lt, lt-ltb, le-ltb}
use Rattle.std.proofs.lemmas.List.{get_or-set_same, get_or-set_other}
use Rattle.packet_forms.specs.declared.name.Counter.{Counter}
use Rattle.hs_tables.specs.Apps.{entry_of}
use Rattle.hs_tables.specs.declared.apps.AppRow.{AppRow}
use Rattle.hs_tables.specs.declared.apps.AppEntry.{AppEntry}
use Rattle.hs_monitors.specs.Monitors.{row_at, places_of}
use Rattle.hs_monitors.specs.Entries.{EntryStands, watched_at, EntriesStand}
use Rattle.hs_monitors.specs.declared.watches.Watched.{Watched}
use Rattle.hs_monitors.proofs.Places.{unused_behind, no_entry}

-- the watch of each place, of which those below i are one check further
unfoldable pub half_way : List (List Counter) → List Counter → ℕ → ℕ → List (List Counter)
half_way checks more i k = cond (nat_lt k i) (checks ++ more ∷ []) checks

half_below : (checks : List (List Counter)) (more : List Counter) (i k : ℕ) → k < i → half_way checks more i k ≡ checks ++ more ∷ []
unfolding half_way
half_below checks more i k below = rw (lt-ltb k i below) refl

half_from : (checks : List (List Counter)) (more : List Counter) (i k : ℕ) → i ≤ k → half_way checks more i k ≡ checks
unfolding half_way
half_from checks more i k past = rw (le-ltb k i past) refl

module _ (rows : List AppRow) (checks : List (List Counter)) (more : List Counter) where
  -- before the first place
  pub half_none : (kept : List Watched) → EntriesStand rows (λ (k : ℕ). checks) kept → EntriesStand rows (half_way checks more 0) kept
  half_none kept stood = record {
    each = λ k e within is. subst (λ (cs : List (List Counter)). EntryStands e cs (watched_at kept k)) (sym (half_from checks more 0 k (omega arith))) (stood.each k e within is);
  }

  -- the next place before its check
  pub half_here : (kept : List Watched) (i : ℕ) (e : AppEntry) → i < 32 → EntriesStand rows (half_way checks more i) kept → entry_of (row_at rows i) ≡ Some e → EntryStands e checks (watched_at kept i)
  half_here kept i e within stood is = subst (λ (cs : List (List Counter)). EntryStands e cs (watched_at kept i)) (half_from checks more i i (omega arith)) (stood.each i e within is)

  -- and behind it
  pub half_more : (kept : List Watched) (i : ℕ) (w : Watched) → i < length kept → ((e : AppEntry) → entry_of (row_at rows i) ≡ Some e → EntryStands e (checks ++ more ∷ []) w)
      → EntriesStand rows (half_way checks more i) kept → EntriesStand rows (half_way checks more (i + 1)) (set kept i w)
  half_more kept i w inside here stood = record {
    each = λ k e within is. elim (cases_eq i k) [
      | inl same ↦ this k e same is
      | inr other ↦ elsewhere k e within other is
    ];
  }
    where
      this : (k : ℕ) (e : AppEntry) → i ≡ k → entry_of (row_at rows k) ≡ Some e → EntryStands e (half_way checks more (i + 1) k) (watched_at (set kept i w) k)
      this k e same is =
          let at : watched_at (set kept i w) k ≡ w = ap (λ (j : ℕ). watched_at (set kept i w) j) (sym same) ∙ get_or-set_same kept i w (record { last = 0; countdown = 0 }) inside in
          let row : entry_of (row_at rows i) ≡ Some e = ap (λ (j : ℕ). entry_of (row_at rows j)) same ∙ is in
          subst (λ (cs : List (List Counter)). EntryStands e cs (watched_at (set kept i w) k)) (sym (half_below checks more (i + 1) k (omega arith)))
          (subst (λ (x : Watched). EntryStands e (checks ++ more ∷ []) x) (sym at) (here e row))

      same_half : (k : ℕ) → i ≢ k → half_way checks more i k ≡ half_way checks more (i + 1) k
      same_half k other = elim (cases_lt k i) [
        | inl below ↦ half_below checks more i k below ∙ sym (half_below checks more (i + 1) k (omega arith))
        | inr past ↦ half_from checks more i k past ∙ sym (half_from checks more (i + 1) k (omega arith))
      ]

      elsewhere : (k : ℕ) (e : AppEntry) → k < 32 → i ≢ k → entry_of (row_at rows k) ≡ Some e → EntryStands e (half_way checks more (i + 1) k) (watched_at (set kept i w) k)
      elsewhere k e within other is =
          let at : watched_at (set kept i w) k ≡ watched_at kept k = get_or-set_other kept i k w (record { last = 0; countdown = 0 }) (λ back. other (sym back)) in
          subst (λ (cs : List (List Counter)). EntryStands e cs (watched_at (set kept i w) k)) (same_half k other)
          (subst (λ (x : Watched). EntryStands e (half_way checks more i k) x) (sym at) (stood.each k e within is))

  -- behind the last used entry
  pub half_whole : (kept : List Watched) (i : ℕ) → places_of rows ≤ i → EntriesStand rows (half_way checks more i) kept → EntriesStand rows (λ (k : ℕ). checks ++ more ∷ []) kept
  half_whole kept i past stood = record {
    each = λ k e within is. elim (cases_lt k i) [
      | inl below ↦ subst (λ (cs : List (List Counter)). EntryStands e cs (watched_at kept k)) (half_below checks more i k below) (stood.each k e within is)
      | inr over ↦ absurd (no_entry (entry_of (row_at rows k)) e (unused_behind rows k (omega arith)) is)
    ];
  }

-- before the first check, one place more
pub begun_more : (rows : List AppRow) (kept : List Watched) (i : ℕ) (w : Watched) → i < length kept → ((k : ℕ) (e : AppEntry) → k < i → entry_of (row_at rows k) ≡ Some e → EntryStands e [] (watched_at kept k))
    → ((e : AppEntry) → entry_of (row_at rows i) ≡ Some e → EntryStands e [] w) → (k : ℕ) (e : AppEntry) → k < i + 1 → entry_of (row_at rows k) ≡ Some e → EntryStands e [] (watched_at (set kept i w) k)
begun_more rows kept i w inside before here k e below is = elim (cases_eq i k) [
  | inl same ↦
      subst (λ (x : Watched). EntryStands e [] x) (sym (ap (λ (j : ℕ). watched_at (set kept i w) j) (sym same) ∙ get_or-set_same kept i w (record { last = 0; countdown = 0 }) inside))
      (here e (ap (λ (j : ℕ). entry_of (row_at rows j)) same ∙ is))
  | inr other ↦
      let apart : i ≢ k = other in
      subst (λ (x : Watched). EntryStands e [] x) (sym (get_or-set_other kept i k w (record { last = 0; countdown = 0 }) (λ back. other (sym back)))) (before k e (omega arith) is)
]
