-- The state stands again, after each thing that can happen.
use Rattle.std.proofs.Common.{◌≡◌, ◌≢◌, ℕ, ◌+◌, ◌-◌, ◌%◌, ◌<◌, ◌≤◌, max, Bool, true, false, cond, ◌&&◌, List, [], ◌∷◌, ◌++◌, length, get_or, set, replicate, Option, Some, None, inl, inr, refl, sym, ap, ◌∙◌, arith, eq-eqb, ne_eqb}
use Rattle.std.proofs.lemmas.Bool.{cases_eq, lt-ltb, le-ltb}
use Rattle.std.proofs.lemmas.List.{get_or-set_same, get_or-set_other, get_or-replicate}
use Rattle.histories.specs.Words.{decided, last_or}
use Rattle.hs_tables.specs.Actions.{entry_of}
use Rattle.hs_tables.specs.declared.actions.ActRow.{ActRow}
use Rattle.hs_tables.specs.declared.actions.ActEntry.{ActEntry}
use Rattle.hs_actions.specs.Happenings.{Attempt, is_reset, is_message, is_message_in}
use Rattle.hs_actions.specs.Happenings.Happening.{Clears, Limits, Attempts}
use Rattle.hs_actions.specs.Outcomes.{Outcomes, Past, past_from, in_next_wakeup, with_more, outcomes_in, goes_after, outcomes, made_of, max_of, sendings, sent_of, sending_in, act_at, message_goes}
use Rattle.hs_actions.specs.State.{left_of, left_by, ActionsStand}
use Rattle.hs_actions.specs.declared.action.Action.TheVariants.{Reset, Restart, Report, Message}
use Rattle.hs_actions.specs.declared.state.Actions.{Actions}
use Rattle.hs_actions.proofs.Parts.{made_cleared, made_other, max_same, max_set, sendings_same, sendings_one, sent_more, sent_small, outcomes_more}
use Rattle.hs_actions.proofs.Cooldowns.{left_more, left_next, goes_over, goes_not, goes_unused}
use Rattle.hs_actions.proofs.Entries.{row_unused, row_whole, row_cooldown}

-- before the first wakeup
pub stands_first : (acts : List ActRow) (made limit : ℕ) (new : Actions) → new.cooldowns ≡ replicate 8 0 → new.made ≡ made → new.max ≡ limit → new.sent ≡ 0 → ActionsStand acts (past_from made limit) new
unfolding ActionsStand outcomes decided made_of max_of last_or sendings sent_of left_of
stands_first acts made limit new cooldowns made_is limit_is sent = record {
  cooldowns = λ place within. ap (λ (xs : List ℕ). get_or xs place 0) cooldowns ∙ get_or-replicate 8 place 0 0 within;
  made = omega (arith, made_is);
  max = limit_is;
  sent = sent;
}

module _ (acts : List ActRow) (past : Past) (old new : Actions) where
  -- the next wakeup
  pub stands_next : ((place : ℕ) → place < 8 → get_or new.cooldowns place 0 ≡ get_or old.cooldowns place 0 - 1) → new.made ≡ old.made → new.max ≡ old.max → new.sent ≡ old.sent
      → ActionsStand acts past old → ActionsStand acts (in_next_wakeup past) new
  unfolding ActionsStand
  stands_next cooled made limit sent stood = record {
    cooldowns = λ place within.
        cooled place within ∙ ap (λ (n : ℕ). n - 1) (stood.cooldowns place within)
        ∙ sym (left_next (act_at acts place).cooldown past.wakeups (sendings place (outcomes_in acts past)));
    made = made ∙ stood.made;
    max = limit ∙ stood.max;
    sent = sent ∙ stood.sent;
  }

  -- the resets made are cleared
  pub stands_cleared : new.cooldowns ≡ old.cooldowns → new.made ≡ 0 → new.max ≡ old.max → new.sent ≡ old.sent → ActionsStand acts past old → ActionsStand acts (with_more past (Clears ∷ [])) new
  unfolding ActionsStand
  stands_cleared cooldowns made limit sent stood =
      let earlier = outcomes_in acts past in
      let grown = outcomes_more acts past.begins past.happened Clears true refl in
      let small = sent_small earlier in
      let none : (sent_of earlier + 0) % 65536 ≡ sent_of earlier = omega arith in
      record {
        cooldowns = λ place within.
            ap (λ (xs : List ℕ). get_or xs place 0) cooldowns ∙ stood.cooldowns place within
            ∙ sym (ap (λ (o : Outcomes). left_of (act_at acts place).cooldown past.wakeups (sendings place o)) grown ∙ ap (left_of (act_at acts place).cooldown past.wakeups) (sendings_same place earlier (Clears, true) refl));
        made = made ∙ made_cleared past.begins earlier (Clears, true) refl ∙ sym (ap (made_of past.begins) grown);
        max = limit ∙ stood.max ∙ sym (ap (max_of past.begins) grown ∙ max_same past.begins earlier (Clears, true) refl);
        sent = sent ∙ stood.sent ∙ sym (ap sent_of grown ∙ sent_more earlier (Clears, true) ∙ none);
      }

  -- their maximum is set
  pub stands_limited : (n : ℕ) → new.cooldowns ≡ old.cooldowns → new.made ≡ old.made → new.max ≡ n → new.sent ≡ old.sent → ActionsStand acts past old → ActionsStand acts (with_more past (Limits n ∷ [])) new
  unfolding ActionsStand
  stands_limited n cooldowns made limit sent stood =
      let earlier = outcomes_in acts past in
      let grown = outcomes_more acts past.begins past.happened (Limits n) true refl in
      let small = sent_small earlier in
      let none : (sent_of earlier + 0) % 65536 ≡ sent_of earlier = omega arith in
      let same : made_of past.begins (earlier ++ (Limits n, true) ∷ []) ≡ made_of past.begins earlier = let more = made_other past.begins earlier (Limits n, true) refl in omega (arith, more) in
      record {
        cooldowns = λ place within.
            ap (λ (xs : List ℕ). get_or xs place 0) cooldowns ∙ stood.cooldowns place within
            ∙ sym (ap (λ (o : Outcomes). left_of (act_at acts place).cooldown past.wakeups (sendings place o)) grown ∙ ap (left_of (act_at acts place).cooldown past.wakeups) (sendings_same place earlier (Limits n, true) refl));
        made = made ∙ stood.made ∙ sym (ap (made_of past.begins) grown ∙ same);
        max = limit ∙ max_set past.begins earlier (Limits n, true) n refl ∙ sym (ap (max_of past.begins) grown);
        sent = sent ∙ stood.sent ∙ sym (ap sent_of grown ∙ sent_more earlier (Limits n, true) ∙ none);
      }

  -- an attempt, by the parts of the new state
  pub stands_after : (a : Attempt) (went : Bool) → went ≡ goes_after acts past (Attempts a)
      → ((place : ℕ) → place < 8 → get_or new.cooldowns place 0 ≡ left_of (act_at acts place).cooldown past.wakeups (sendings place (outcomes_in acts past ++ (Attempts a, went) ∷ [])))
      → new.made ≡ old.made + cond (is_reset a.action && went) 1 0 → new.max ≡ old.max → new.sent ≡ (old.sent + cond (is_message a.action && went) 1 0) % 65536
      → ActionsStand acts past old → ActionsStand acts (with_more past (Attempts a ∷ [])) new
  unfolding ActionsStand
  stands_after a went goes_is cooldowns made limit sent stood =
      let earlier = outcomes_in acts past in
      let grown = outcomes_more acts past.begins past.happened (Attempts a) went goes_is in
      record {
        cooldowns = λ place within.
            cooldowns place within ∙ sym (ap (λ (o : Outcomes). left_of (act_at acts place).cooldown past.wakeups (sendings place o)) grown);
        made = made ∙ ap (λ (n : ℕ). n + cond (is_reset a.action && went) 1 0) stood.made ∙ sym (ap (made_of past.begins) grown ∙ made_other past.begins earlier (Attempts a, went) refl);
        max = limit ∙ stood.max ∙ sym (ap (max_of past.begins) grown ∙ max_same past.begins earlier (Attempts a, went) refl);
        sent = sent ∙ ap (λ (n : ℕ). (n + cond (is_message a.action && went) 1 0) % 65536) stood.sent ∙ sym (ap sent_of grown ∙ sent_more earlier (Attempts a, went));
      }

module _ (acts : List ActRow) (past : Past) (old : Actions) (a : Attempt) where
  -- an attempt after which the state is what it was
  pub stands_same : (went : Bool) → went ≡ goes_after acts past (Attempts a) → (is_reset a.action && went) ≡ false → (is_message a.action && went) ≡ false
      → ((place : ℕ) → (is_message_in place a.action && went) ≡ false) → ActionsStand acts past old → ActionsStand acts (with_more past (Attempts a ∷ [])) old
  unfolding ActionsStand
  stands_same went goes_is no_reset no_message none stood =
      let earlier = outcomes_in acts past in
      let small = sent_small earlier in
      let same : old.sent ≡ (old.sent + 0) % 65536 = rw stood.sent (omega arith) in
      let kept : old.made ≡ old.made + 0 = omega arith in
      stands_after acts past old old a went goes_is
      (λ place within.
      stood.cooldowns place within
      ∙ sym (ap (left_of (act_at acts place).cooldown past.wakeups) (sendings_same place earlier (Attempts a, went) (not_sent place (none place)))))
      (kept ∙ sym (ap (λ (b : Bool). old.made + cond b 1 0) no_reset))
      refl
      (same ∙ sym (ap (λ (b : Bool). (old.sent + cond b 1 0) % 65536) no_message))
      stood
    where
      not_sent : (place : ℕ) → (is_message_in place a.action && went) ≡ false → sending_in place (Attempts a, went) ≡ None
      not_sent place none = ap (λ (b : Bool). cond {A = Option ℕ} b (Some a.wakeup) None) none

  -- one that doesn't go
  pub stands_not : false ≡ goes_after acts past (Attempts a) → ActionsStand acts past old → ActionsStand acts (with_more past (Attempts a ∷ [])) old
  stands_not goes_is stood = stands_same false goes_is (never (is_reset a.action)) (never (is_message a.action)) (λ place. never (is_message_in place a.action)) stood
    where
      never : (b : Bool) → (b && false) ≡ false
      never true = refl
      never false = refl

  -- a restart and a report
  pub goes_restart : a.action ≡ Restart → true ≡ goes_after acts past (Attempts a)
  goes_restart is = rw is refl

  pub stands_restart : a.action ≡ Restart → ActionsStand acts past old → ActionsStand acts (with_more past (Attempts a ∷ [])) old
  stands_restart is stood = stands_same true (goes_restart is) (rw is refl) (rw is refl) (λ place. rw is refl) stood

  pub goes_report : a.action ≡ Report → true ≡ goes_after acts past (Attempts a)
  goes_report is = rw is refl

  pub stands_report : a.action ≡ Report → ActionsStand acts past old → ActionsStand acts (with_more past (Attempts a ∷ [])) old
  stands_report is stood = stands_same true (goes_report is) (rw is refl) (rw is refl) (λ place. rw is refl) stood

  -- a reset, where fewer were made than the maximum and where not
  pub goes_reset : a.action ≡ Reset → old.made < old.max → ActionsStand acts past old → true ≡ goes_after acts past (Attempts a)
  unfolding ActionsStand
  goes_reset is fewer stood = rw (is, ← stood.made, ← stood.max, lt-ltb old.made old.max fewer) refl

  pub goes_no_reset : a.action ≡ Reset → old.max ≤ old.made → ActionsStand acts past old → false ≡ goes_after acts past (Attempts a)
  unfolding ActionsStand
  goes_no_reset is many stood = rw (is, ← stood.made, ← stood.max, le-ltb old.made old.max many) refl

  pub stands_reset : (new : Actions) → a.action ≡ Reset → old.made < old.max → new.cooldowns ≡ old.cooldowns → new.made ≡ old.made + 1 → new.max ≡ old.max → new.sent ≡ old.sent
      → ActionsStand acts past old → ActionsStand acts (with_more past (Attempts a ∷ [])) new
  unfolding ActionsStand
  stands_reset new is fewer cooldowns made limit sent stood =
      let earlier = outcomes_in acts past in
      let small = sent_small earlier in
      let same : old.sent ≡ (old.sent + 0) % 65536 = rw stood.sent (omega arith) in
      stands_after acts past old new a true (goes_reset is fewer stood)
      (λ place within.
      ap (λ (xs : List ℕ). get_or xs place 0) cooldowns ∙ stood.cooldowns place within
      ∙ sym (ap (left_of (act_at acts place).cooldown past.wakeups) (sendings_same place earlier (Attempts a, true) (rw is refl))))
      (made ∙ rw is refl)
      limit
      (sent ∙ same ∙ rw is refl)
      stood

  -- a message action, where its entry isn't used, where its cooldown runs, and where it goes
  goes_message : (place : ℕ) → a.action ≡ Message place → message_goes (act_at acts place) (sendings place (outcomes_in acts past)) a.wakeup ≡ goes_after acts past (Attempts a)
  goes_message place is = rw is refl

  pub goes_no_entry : (place : ℕ) (found : Option ActEntry) → a.action ≡ Message place → found ≡ entry_of (act_at acts place) → found ≡ None → false ≡ goes_after acts past (Attempts a)
  goes_no_entry place found is found_is none =
      goes_unused (act_at acts place) a.wakeup (sendings place (outcomes_in acts past)) (row_unused (act_at acts place) found found_is none) ∙ goes_message place is

  pub goes_cooling : (place : ℕ) → a.action ≡ Message place → a.wakeup + 1 ≡ past.wakeups → place < 8 → 0 < get_or old.cooldowns place 0 → ActionsStand acts past old → false ≡ goes_after acts past (Attempts a)
  unfolding ActionsStand
  goes_cooling place is now within runs stood =
      goes_not (act_at acts place) a.wakeup past.wakeups (get_or old.cooldowns place 0) (sendings place (outcomes_in acts past)) now (stood.cooldowns place within) runs ∙ goes_message place is

  pub goes_sent : (place : ℕ) (found : Option ActEntry) (entry : ActEntry) → a.action ≡ Message place → a.wakeup + 1 ≡ past.wakeups → place < 8 → found ≡ entry_of (act_at acts place) → found ≡ Some entry
      → get_or old.cooldowns place 0 ≡ 0 → ActionsStand acts past old → true ≡ goes_after acts past (Attempts a)
  unfolding ActionsStand
  goes_sent place found entry is now within found_is used over stood =
      goes_over (act_at acts place) a.wakeup past.wakeups (get_or old.cooldowns place 0) (sendings place (outcomes_in acts past)) now (row_whole (act_at acts place) found entry found_is used) (stood.cooldowns place within) over ∙ goes_message place is

  -- the state after one that goes
  pub stands_sent : (new : Actions) (place cooldown : ℕ) (found : Option ActEntry) (entry : ActEntry) → a.action ≡ Message place → a.wakeup + 1 ≡ past.wakeups → place < 8 → length old.cooldowns ≡ 8
      → found ≡ entry_of (act_at acts place) → found ≡ Some entry → cooldown ≡ entry.cooldown → get_or old.cooldowns place 0 ≡ 0
      → new.cooldowns ≡ set old.cooldowns place cooldown → new.made ≡ old.made → new.max ≡ old.max → new.sent ≡ (old.sent + 1) % 65536
      → ActionsStand acts past old → ActionsStand acts (with_more past (Attempts a ∷ [])) new
  unfolding ActionsStand
  stands_sent new place cooldown found entry is now within long found_is used left over cooldowns made limit sent stood =
      let earlier = outcomes_in acts past in
      stands_after acts past old new a true (goes_sent place found entry is now within found_is used over stood)
      (λ p inside. ap (λ (xs : List ℕ). get_or xs p 0) cooldowns ∙ elim (cases_eq place p) [
        | inl same ↦ here p same
        | inr other ↦ elsewhere p inside other
      ])
      (made ∙ rw is (omega arith))
      limit
      (sent ∙ rw is refl)
      stood
    where
      begun : (c : ℕ) → a.wakeup + 1 + c - past.wakeups ≡ c
      begun c = omega (arith, now)

      here : (p : ℕ) → place ≡ p → get_or (set old.cooldowns place cooldown) p 0 ≡ left_of (act_at acts p).cooldown past.wakeups (sendings p (outcomes_in acts past ++ (Attempts a, true) ∷ []))
      here p same =
          let c = (act_at acts p).cooldown in
          let earlier = sendings p (outcomes_in acts past) in
          let none : left_of c past.wakeups earlier ≡ 0 = sym (stood.cooldowns p (omega (arith, within, same))) ∙ ap (λ (x : ℕ). get_or old.cooldowns x 0) (sym same) ∙ over in
          let this : sending_in p (Attempts a, true) ≡ Some a.wakeup = rw (is, eq-eqb place p same) refl in
          let most : max (left_of c past.wakeups earlier) (left_by c past.wakeups a.wakeup) ≡ c = let whole = begun c in omega (arith, none, whole) in
          ap (λ (x : ℕ). get_or (set old.cooldowns place cooldown) x 0) (sym same)
          ∙ get_or-set_same old.cooldowns place cooldown 0 (omega (arith, within, long))
          ∙ left ∙ row_cooldown (act_at acts place) found entry found_is used ∙ ap (λ (x : ℕ). (act_at acts x).cooldown) same
          ∙ sym (ap (left_of c past.wakeups) (sendings_one p (outcomes_in acts past) (Attempts a, true) a.wakeup this) ∙ left_more c past.wakeups earlier a.wakeup ∙ most)

      elsewhere : (p : ℕ) → p < 8 → place ≢ p → get_or (set old.cooldowns place cooldown) p 0 ≡ left_of (act_at acts p).cooldown past.wakeups (sendings p (outcomes_in acts past ++ (Attempts a, true) ∷ []))
      elsewhere p inside other =
          get_or-set_other old.cooldowns place p cooldown 0 (λ same. other (sym same)) ∙ stood.cooldowns p inside
          ∙ sym (ap (left_of (act_at acts p).cooldown past.wakeups) (sendings_same p (outcomes_in acts past) (Attempts a, true) (rw (is, ne_eqb place p other) refl)))
