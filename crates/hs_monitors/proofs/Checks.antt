-- What is kept of an entry at one more check.
use Rattle.std.proofs.Common.{◌≡◌, ◌≢◌, ℕ, ◌-◌, ◌<◌, Bool, true, false, not, cond, List, [], ◌∷◌, ◌++◌, length, Option, Some, None, refl, sym, ap, ◌∙◌, arith, eq-eqb, ne_eqb}
use Rattle.std.specs.Prelude.{◌==◌, filter_map, unwrap_or}
use Rattle.histories.specs.Words.{last_or}
use Rattle.histories.proofs.Along.{along_more, along_none}
use Rattle.histories.proofs.Lasts.{last_or_more}
use Rattle.commands.proofs.Heard.{no_packets}
use Rattle.packet_forms.specs.declared.name.Counter.{Counter}
use Rattle.hs_tables.specs.declared.apps.AppEntry.{AppEntry}
use Rattle.hs_monitors.specs.Acting.{counter_in, last_counter, differs, changes, acts_now, has_acted, countdown_of}
use Rattle.hs_monitors.specs.Entries.{EntryStands}
use Rattle.hs_monitors.specs.declared.watches.Watched.{Watched}
use Rattle.hs_monitors.proofs.Lists.{filter_map_none, filter_map_some}
use Rattle.hs_monitors.proofs.Acting.{acts_at_last, resting, counting, stays_acted, rests_on, countdown_steps, acts_at_end, countdown_none}

-- the changed checks and the last counter, before the first check
pub changes_none : (name : List ℕ) → changes name [] ≡ []
unfolding changes
changes_none name = along_none (λ (earlier : List (List Counter)) (counters : List Counter). differs (counter_in counters name) (last_counter name earlier))

last_none : (name : List ℕ) → last_counter name [] ≡ 0
unfolding last_counter last_or
last_none name = refl

-- and at one more
changes_more : (name : List ℕ) (checks : List (List Counter)) (counters : List Counter)
    → changes name (checks ++ counters ∷ []) ≡ changes name checks ++ differs (counter_in counters name) (last_counter name checks) ∷ []
unfolding changes
changes_more name checks counters = along_more (λ (earlier : List (List Counter)) (c : List Counter). differs (counter_in c name) (last_counter name earlier)) checks counters

last_more : (name : List ℕ) (checks : List (List Counter)) (counters : List Counter) → last_counter name (checks ++ counters ∷ []) ≡ unwrap_or (counter_in counters name) (last_counter name checks)
unfolding last_counter
last_more name checks counters = by_counter (counter_in counters name) refl
  where
    by_counter : (o : Option ℕ) → counter_in counters name ≡ o
        → last_or 0 (filter_map (λ (c : List Counter). counter_in c name) (checks ++ counters ∷ [])) ≡ unwrap_or o (last_or 0 (filter_map (λ (c : List Counter). counter_in c name) checks))
    by_counter None is = ap (last_or 0) (filter_map_none (λ (c : List Counter). counter_in c name) checks counters is)
    by_counter (Some value) is =
        ap (last_or 0) (filter_map_some (λ (c : List Counter). counter_in c name) checks counters value is)
        ∙ last_or_more 0 (filter_map (λ (c : List Counter). counter_in c name) checks) value

-- a counter differs where what it leaves as the last one does
differs_is : (found : Option ℕ) (last : ℕ) → differs found last ≡ not (unwrap_or found last == last)
differs_is None last = sym (ap not (eq-eqb last last refl))
differs_is (Some value) last = refl

-- before the first check
pub begun_stands : (e : AppEntry) (w : Watched) → w.last ≡ 0 → w.countdown ≡ e.cycles → EntryStands e [] w
begun_stands e w last countdown = record {
  countdown = countdown ∙ countdown_none e.cycles ∙ sym (ap (countdown_of e.cycles) (changes_none e.name));
  last = λ not_yet. last ∙ sym (last_none e.name);
}

module _ (e : AppEntry) (checks : List (List Counter)) (counters : List Counter) (w : Watched) (stood : EntryStands e checks w) (some : 0 < e.cycles) where
  this : Bool
  this = differs (counter_in counters e.name) (last_counter e.name checks)

  grown : changes e.name (checks ++ counters ∷ []) ≡ changes e.name checks ++ this ∷ []
  unfolding this
  grown = changes_more e.name checks counters

  -- an entry that acted
  rests : w.countdown ≡ 0 → has_acted e.cycles (changes e.name checks) ≡ true
  rests zero = resting e.cycles (changes e.name checks) some (sym stood.countdown ∙ zero)

  pub rested_stands : w.countdown ≡ 0 → EntryStands e (checks ++ counters ∷ []) w
  rested_stands zero =
      let next = rests_on e.cycles (changes e.name checks) this (rests zero) in
      record {
        countdown = zero ∙ sym (ap (countdown_of e.cycles) grown ∙ next.0);
        last = λ not_yet.
            absurd (apart (sym (stays_acted e.cycles (changes e.name checks) this (rests zero)) ∙ sym (ap (has_acted e.cycles) grown) ∙ not_yet));
      }
    where
      apart : true ≡ false → ⊥
      apart same = cc

  pub rested_acts : w.countdown ≡ 0 → false ≡ acts_now e.cycles (changes e.name (checks ++ counters ∷ []))
  rested_acts zero =
      let next = rests_on e.cycles (changes e.name checks) this (rests zero) in
      sym (ap (acts_now e.cycles) grown ∙ acts_at_last e.cycles (changes e.name checks) this ∙ next.1)

  -- another, by the last counter that the check leaves
  module _ (runs : 0 < w.countdown) (last : ℕ) (found : Option ℕ) (found_is : found ≡ counter_in counters e.name) (last_is : last ≡ unwrap_or found w.last) where
    not_yet : has_acted e.cycles (changes e.name checks) ≡ false
    not_yet = counting e.cycles (changes e.name checks) (let is = stood.countdown in omega (arith, is))

    kept : w.last ≡ last_counter e.name checks
    kept = stood.last not_yet

    this_is : this ≡ not (last == w.last)
    unfolding this
    this_is =
        ap (λ (o : Option ℕ). differs o (last_counter e.name checks)) (sym found_is) ∙ ap (differs found) (sym kept) ∙ differs_is found w.last
        ∙ ap (λ (n : ℕ). not (n == w.last)) (sym last_is)

    leaves : last ≡ last_counter e.name (checks ++ counters ∷ [])
    leaves =
        last_is ∙ ap (λ (o : Option ℕ). unwrap_or o w.last) found_is ∙ ap (unwrap_or (counter_in counters e.name)) kept
        ∙ sym (last_more e.name checks counters)

    checked_stands : (countdown : ℕ) (b : Bool) → this ≡ b → countdown ≡ cond b e.cycles (w.countdown - 1) → EntryStands e (checks ++ counters ∷ []) (record { last = last; countdown = countdown })
    checked_stands countdown b is becomes = record {
      countdown =
          becomes ∙ ap (λ (n : ℕ). cond b e.cycles (n - 1)) stood.countdown
          ∙ sym (ap (countdown_of e.cycles) grown ∙ countdown_steps e.cycles (changes e.name checks) this some not_yet ∙ ap (λ (t : Bool). cond t e.cycles (countdown_of e.cycles (changes e.name checks) - 1)) is);
      last = λ still_not. leaves;
    }

    checked_acts : (countdown : ℕ) (b : Bool) → this ≡ b → countdown ≡ cond b e.cycles (w.countdown - 1) → (countdown == 0) ≡ acts_now e.cycles (changes e.name (checks ++ counters ∷ []))
    checked_acts countdown b is becomes =
        let stands = checked_stands countdown b is becomes in
        ap (λ (n : ℕ). n == 0) (stands.countdown ∙ ap (countdown_of e.cycles) grown)
        ∙ sym (ap (acts_now e.cycles) grown ∙ acts_at_last e.cycles (changes e.name checks) this ∙ acts_at_end e.cycles (changes e.name checks) this some not_yet)

    -- a changed check
    pub changed_stands : last ≢ w.last → EntryStands e (checks ++ counters ∷ []) (record { last = last; countdown = e.cycles })
    changed_stands other = checked_stands e.cycles true (this_is ∙ ap not (ne_eqb last w.last other)) refl

    pub changed_acts : last ≢ w.last → false ≡ acts_now e.cycles (changes e.name (checks ++ counters ∷ []))
    changed_acts other =
        let apart : e.cycles ≢ 0 = omega arith in
        sym (ne_eqb e.cycles 0 apart) ∙ checked_acts e.cycles true (this_is ∙ ap not (ne_eqb last w.last other)) refl

    -- an unchanged one
    pub unchanged_stands : last ≡ w.last → (countdown : ℕ) → countdown ≡ w.countdown - 1 → EntryStands e (checks ++ counters ∷ []) (record { last = last; countdown = countdown })
    unchanged_stands same countdown becomes = checked_stands countdown false (this_is ∙ ap not (eq-eqb last w.last same)) becomes

    pub unchanged_acts : last ≡ w.last → (countdown : ℕ) → countdown ≡ w.countdown - 1 → (countdown == 0) ≡ acts_now e.cycles (changes e.name (checks ++ counters ∷ []))
    unchanged_acts same countdown becomes = checked_acts countdown false (this_is ∙ ap not (eq-eqb last w.last same)) becomes

-- there is no counter without counters
pub counter_none : (counters : List Counter) (name : List ℕ) → (length counters == 0) ≡ true → None ≡ counter_in counters name
unfolding counter_in
counter_none counters name none = rw (no_packets counters none) refl

-- where an entry stands behind these counters and didn't act, its last counter is what they leave
pub last_kept : (e : AppEntry) (checks : List (List Counter)) (counters : List Counter) (w : Watched) → EntryStands e (checks ++ counters ∷ []) w → 0 < w.countdown → unwrap_or (counter_in counters e.name) w.last ≡ w.last
last_kept e checks counters w stood runs = by_counter (counter_in counters e.name) refl
  where
    is : w.last ≡ unwrap_or (counter_in counters e.name) (last_counter e.name checks)
    is =
        stood.last (counting e.cycles (changes e.name (checks ++ counters ∷ [])) (let left = stood.countdown in omega (arith, left, runs)))
        ∙ last_more e.name checks counters

    by_counter : (o : Option ℕ) → counter_in counters e.name ≡ o → unwrap_or o w.last ≡ w.last
    by_counter None found = refl
    by_counter (Some value) found = sym (is ∙ ap (λ (o : Option ℕ). unwrap_or o (last_counter e.name checks)) found)
