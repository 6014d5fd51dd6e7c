-- The countdowns that begin anew, counter by counter.
use Rattle.std.proofs.Common.{◌≡◌, ℕ, ◌+◌, ◌<◌, ◌≤◌, List, [], ◌∷◌, ◌++◌, length, get_or, set, inl, inr, Some, refl, sym, ap, subst, ◌∙◌, arith}
use Rattle.std.proofs.lemmas.Bool.{cases_eq}
use Rattle.std.proofs.lemmas.List.{get_or-set_same, get_or-set_other}
use Rattle.packet_forms.specs.declared.name.Counter.{Counter}
use Rattle.hs_tables.specs.Apps.{entry_of}
use Rattle.hs_tables.specs.declared.apps.AppRow.{AppRow}
use Rattle.hs_tables.specs.declared.apps.AppEntry.{AppEntry}
use Rattle.hs_monitors.specs.Acting.{counter_in}
use Rattle.hs_monitors.specs.Monitors.{row_at, name_where}
use Rattle.hs_monitors.specs.Heads.{head_of, slot_stretch}
use Rattle.hs_monitors.specs.Entries.{EntryStands, KeptStands, watched_at, later, kept_with}
use Rattle.hs_monitors.specs.Renewing.{IsNth, Turned, Renewing}
use Rattle.hs_monitors.specs.declared.watches.Watched.{Watched}
use Rattle.hs_monitors.specs.declared.heads.Heads.{Heads}
use Rattle.hs_monitors.proofs.Finding.{found_first, found_later, found_end}
use Rattle.hs_monitors.proofs.Naming.{others_differ}
use Rattle.hs_monitors.proofs.Passing.{ends_later, none_stands}
use Rattle.hs_monitors.proofs.Performing.{entry_cycles}

abbrev no_watch : Watched
no_watch = record { last = 0; countdown = 0 }

module _ (rows : List AppRow) (checks : List (List Counter)) (counters : List Counter) (passed most : ℕ) (heads : Heads) (from : List Watched) (stood : KeptStands rows checks (kept_with heads from passed most)) (soon : passed + 1 < most) where
  abbrev Stood : AppEntry → Watched → Type 0
  Stood e w = EntryStands e (checks ++ counters ∷ []) (later (passed + 1) w)

  abbrev Before : AppEntry → Watched → Type 0
  Before e w = EntryStands e checks (later passed w)

  -- no counter was looked at
  pub renewing_none : Renewing rows checks counters 0 passed from from most
  unfolding counter_in
  renewing_none = record {
    each = λ k e within is. inr (refl, found_first counters e.name);
    low = stood.least;
    above = soon;
  }

  -- all were
  pub renewing_all : (n : ℕ) (new : List Watched) (fewest : ℕ) → length counters ≤ n → Renewing rows checks counters n passed from new fewest → KeptStands rows (checks ++ counters ∷ []) (kept_with heads new (passed + 1) fewest)
  unfolding counter_in
  renewing_all n new fewest past turning = record {
    whole = stood.whole;
    heads = stood.heads;
    each = λ k e within is. elim (turning.each k e within is) [
      | inl done ↦ done
      | inr left ↦
          subst (Stood e) (sym left.0)
          (none_stands e checks counters (watched_at from k) passed (entry_cycles (row_at rows k) e is) (stood.each k e within is) (ends_later rows checks (kept_with heads from passed most) stood soon k within)
          (sym (left.1 ∙ found_end counters e.name n past)))
    ];
    least = turning.low;
    within = turning.above;
  }

  -- the head that is noted of an entry
  pub noted_head : (k : ℕ) (e : AppEntry) → k < 32 → entry_of (row_at rows k) ≡ Some e → get_or heads.heads k 0 ≡ head_of e.name
  noted_head k e within is = (stood.heads.each k e.name within (ap name_where is)).head

  -- one entry more, at a counter
  module _ (n : ℕ) (before : List Watched) (fewest : ℕ) (turning : Renewing rows checks counters n passed from before fewest) where
    -- its countdown doesn't end
    pub far_off : (k : ℕ) → k < 32 → 0 < (watched_at before k).countdown → passed + 1 < (watched_at before k).countdown
    far_off k within runs =
        let most_of = turning.low k within runs in
        let far = turning.above in
        omega (arith, most_of, far)

    module _ (place : ℕ) (one : Watched) (next : ℕ) (long : length before ≡ 32) (inside : place < 32) (less : next ≤ fewest) (here : 0 < one.countdown → next ≤ one.countdown) (above : passed + 1 < next)
        (stands : (e : AppEntry) → entry_of (row_at rows place) ≡ Some e → Before e (watched_at before place) → Stood e one)
        (again : (e : AppEntry) → entry_of (row_at rows place) ≡ Some e → Stood e (watched_at before place) → Stood e one) where
      pub turned_here : (e : AppEntry) → entry_of (row_at rows place) ≡ Some e → Stood e one
      turned_here e is = elim (turning.each place e inside is) [
        | inl done ↦ again e is done
        | inr left ↦ stands e is (subst (Before e) (sym left.0) (stood.each place e inside is))
      ]

      pub renewing_more : Renewing rows checks counters n passed from (set before place one) next
      renewing_more = record {
        each = λ k e within is. elim (cases_eq place k) [
          | inl same ↦
              subst (λ (j : ℕ). entry_of (row_at rows j) ≡ Some e → Turned checks counters n passed e (watched_at from j) (watched_at (set before place one) j)) same
              (λ known. subst (Turned checks counters n passed e (watched_at from place)) (sym (get_or-set_same before place one no_watch (omega arith))) (inl (turned_here e known))) is
          | inr apart ↦
              subst (Turned checks counters n passed e (watched_at from k)) (sym (get_or-set_other before place k one no_watch (λ back. apart (sym back)))) (turning.each k e within is)
        ];
        low = λ k within. elim (cases_eq place k) [
          | inl same ↦
              subst (λ (j : ℕ). 0 < (watched_at (set before place one) j).countdown → next ≤ (watched_at (set before place one) j).countdown) same
              (subst (λ (w : Watched). 0 < w.countdown → next ≤ w.countdown) (sym (get_or-set_same before place one no_watch (omega arith))) here)
          | inr apart ↦
              subst (λ (w : Watched). 0 < w.countdown → next ≤ w.countdown) (sym (get_or-set_other before place k one no_watch (λ back. apart (sym back))))
              (λ runs. let most_of = turning.low k within runs in omega (arith, most_of, less))
        ];
        above = above;
      }

    -- once all places of the counter's name were looked at
    pub renewing_next : (c : Counter) → IsNth counters n c
        → ((k : ℕ) (e : AppEntry) → (slot_stretch heads (head_of c.name)).from ≤ k → k < (slot_stretch heads (head_of c.name)).end → k < 32 → head_of e.name ≡ head_of c.name → entry_of (row_at rows k) ≡ Some e → Stood e (watched_at before k))
        → Renewing rows checks counters (n + 1) passed from before fewest
    unfolding counter_in
    renewing_next c nth named = record {
      each = λ k e within is. elim (turning.each k e within is) [
        | inl done ↦ inl done
        | inr left ↦ elim (cases_eq (head_of e.name) (head_of c.name)) [
          | inl headed ↦
              let noted = stood.heads.each k e.name within (ap name_where is) in
              inl (
              named k e (subst (λ (h : ℕ). (slot_stretch heads h).from ≤ k) headed noted.from) (subst (λ (h : ℕ). k < (slot_stretch heads h).end) headed noted.end) within headed is)
          | inr apart ↦ inr (left.0, left.1 ∙ found_later counters e.name n c nth.within nth.here (others_differ head_of c.name e.name (λ same. apart (sym same))))
        ]
      ];
      low = turning.low;
      above = turning.above;
    }
