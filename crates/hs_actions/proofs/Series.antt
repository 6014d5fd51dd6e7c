-- Performing none, one, both, and along a list.
use Rattle.std.proofs.Common.{◌≡◌, ℕ, ◌+◌, ◌<◌, ◌≤◌, Bool, List, [], ◌∷◌, ◌++◌, length, take, get_or, refl, sym, ap, ◌∙◌, subst, append-nil, append_assoc}
use Rattle.std.specs.Prelude.{flat_map}
use Rattle.std.proofs.lemmas.List.{take_all}
use Rattle.histories.proofs.Along.{joined_none, joined_more, joined_both, joined_same}
use Rattle.histories.proofs.Fronts.{flat_map_front}
use Rattle.bus_pipes.specs.Held.{Held, adding}
use Rattle.bus_pipes.specs.declared.names.Out.{Out}
use Rattle.bus_pipes.proofs.Deliveries.{adding_none, adding_more}
use Rattle.hs_tables.specs.declared.actions.ActRow.{ActRow}
use Rattle.hs_actions.specs.Happenings.{Happening, Attempt, action_of, attempt_by}
use Rattle.hs_actions.specs.Happenings.Happening.{Attempts}
use Rattle.hs_actions.specs.Outcomes.{Past, with_more, goes_after}
use Rattle.hs_actions.specs.Answers.{performed, happening_items, items_of}
use Rattle.hs_actions.specs.State.{ActionsStand}
use Rattle.hs_actions.specs.Performs.{Performs}
use Rattle.hs_actions.specs.declared.action.Action.{Action}
use Rattle.hs_actions.specs.declared.action.Source.{Source}
use Rattle.hs_actions.specs.declared.state.Actions.{Actions}

-- what was before, where nothing more happened, and where one thing and then another did
abbrev with_happened : Past → List Happening → Past
with_happened past happened = record { begins = past.begins; wakeups = past.wakeups; happened = happened }

pub more_none : (past : Past) → with_more past [] ≡ past
more_none past = ap (with_happened past) (append-nil past.happened)

pub more_both : (past : Past) (first second : List Happening) → with_more (with_more past first) second ≡ with_more past (first ++ second)
more_both past first second = ap (with_happened past) (append_assoc past.happened first second)

-- what an attempt gives is what it gives as the next happening
pub performed_is : (time : ℕ) (acts : List ActRow) (past : Past) (a : Attempt) (source : Source) (name : List ℕ) (action : Action) (went : Bool)
    → a.source ≡ source → a.name ≡ name → a.action ≡ action → went ≡ goes_after acts past (Attempts a) → performed time acts source name action went ≡ happening_items time acts past (Attempts a)
unfolding happening_items
performed_is time acts past a source name action went source_is name_is action_is went_is =
    ap (λ (s : Source). performed time acts s name action went) (sym source_is)
    ∙ ap (λ (n : List ℕ). performed time acts a.source n action went) (sym name_is)
    ∙ ap (λ (x : Action). performed time acts a.source a.name x went) (sym action_is)
    ∙ ap (λ (b : Bool). performed time acts a.source a.name a.action b) went_is

module _ (time : ℕ) (acts : List ActRow) where
  -- what they give
  pub items_none : (past : Past) → items_of time acts past [] ≡ []
  unfolding items_of
  items_none past = joined_none (λ (done : List Happening) (h : Happening). happening_items time acts (with_more past done) h)

  pub items_one : (past : Past) (h : Happening) → items_of time acts past (h ∷ []) ≡ happening_items time acts past h
  unfolding items_of
  items_one past h =
      let give = λ (done : List Happening) (h : Happening). happening_items time acts (with_more past done) h in
      joined_more give [] h
      ∙ ap (λ (front : List Out). front ++ give [] h) (joined_none give)
      ∙ ap (λ (p : Past). happening_items time acts p h) (more_none past)

  pub items_both : (past : Past) (first second : List Happening) → items_of time acts past (first ++ second) ≡ items_of time acts past first ++ items_of time acts (with_more past first) second
  unfolding items_of
  items_both past first second =
      let give = λ (done : List Happening) (h : Happening). happening_items time acts (with_more past done) h in
      joined_both give first second
      ∙ ap (λ (behind : List Out). items_of time acts past first ++ behind) (joined_same (λ (done : List Happening) (h : Happening). happening_items time acts (with_more past (first ++ done)) h) (λ (done : List Happening) (h : Happening). happening_items time acts (with_more (with_more past first) done) h)
      (λ done h. sym (ap (λ (p : Past). happening_items time acts p h) (more_both past first done))) second)

module _ (acts : List ActRow) (time : ℕ) where
  -- nothing happens
  pub performs_none : (happened : ℕ → List Happening) (old : Actions) (before : Held Out) → ((k : ℕ) → happened k ≡ []) → Performs acts time happened old old before before
  performs_none happened old before none = record {
    stands = λ past k now stood. subst (λ (p : Past). ActionsStand acts p old) (sym (ap (with_more past) (none k) ∙ more_none past)) stood;
    items = λ past k now stood. sym (ap (λ (h : List Happening). adding before (items_of time acts past h)) (none k) ∙ ap (adding before) (items_none time acts past) ∙ adding_none before);
  }

  -- an entry acts, by the clauses of `perform`
  pub performs_one : (source : Source) (name : List ℕ) (number : ℕ) (old new : Actions) (before after : Held Out)
      → ((past : Past) (a : Attempt) → a.source ≡ source → a.name ≡ name → a.action ≡ action_of number → a.wakeup + 1 ≡ past.wakeups → ActionsStand acts past old → ActionsStand acts (with_more past (Attempts a ∷ [])) new)
      → ((past : Past) (a : Attempt) → a.source ≡ source → a.name ≡ name → a.action ≡ action_of number → a.wakeup + 1 ≡ past.wakeups → ActionsStand acts past old → after ≡ adding before (happening_items time acts past (Attempts a)))
      → Performs acts time (λ k. Attempts (attempt_by source name number k) ∷ []) old new before after
  performs_one source name number old new before after stands items = record {
    stands = λ past k now stood. stands past (attempt_by source name number k) refl refl refl now stood;
    items = λ past k now stood.
        items past (attempt_by source name number k) refl refl refl now stood
        ∙ sym (ap (adding before) (items_one time acts past (Attempts (attempt_by source name number k))));
  }

  -- one thing and then another
  pub performs_both : (first second : ℕ → List Happening) (old mid new : Actions) (before between after : Held Out)
      → Performs acts time first old mid before between → Performs acts time second mid new between after → Performs acts time (λ k. first k ++ second k) old new before after
  performs_both first second old mid new before between after p q = record {
    stands = λ past k now stood. subst (λ (x : Past). ActionsStand acts x new) (more_both past (first k) (second k)) (q.stands (with_more past (first k)) k now (p.stands past k now stood));
    items = λ past k now stood.
        q.items (with_more past (first k)) k now (p.stands past k now stood)
        ∙ ap (λ (held : Held Out). adding held (items_of time acts (with_more past (first k)) (second k))) (p.items past k now stood)
        ∙ adding_more before (items_of time acts past (first k)) (items_of time acts (with_more past (first k)) (second k))
        ∙ sym (ap (adding before) (items_both time acts past (first k) (second k)));
  }

  -- what happens may be written in another way
  pub performs_same : (first second : ℕ → List Happening) (old new : Actions) (before after : Held Out) → ((k : ℕ) → first k ≡ second k) → Performs acts time first old new before after → Performs acts time second old new before after
  performs_same first second old new before after same p = record {
    stands = λ past k now stood. subst (λ (h : List Happening). ActionsStand acts (with_more past h) new) (same k) (p.stands past k now stood);
    items = λ past k now stood. p.items past k now stood ∙ ap (λ (h : List Happening). adding before (items_of time acts past h)) (same k);
  }

  module _ {X : Type 0} (f : ℕ → X → List Happening) (xs : List X) where
    -- a loop over a list, before its first element, one element further, and at its end
    pub performs_begin : (old : Actions) (before : Held Out) → Performs acts time (λ k. flat_map (f k) (take 0 xs)) old old before before
    performs_begin old before = performs_none (λ k. flat_map (f k) (take 0 xs)) old before (λ k. refl)

    pub performs_front : (i : ℕ) (x : X) (old mid new : Actions) (before between after : Held Out) → i < length xs → x ≡ get_or xs i x
        → Performs acts time (λ k. flat_map (f k) (take i xs)) old mid before between → Performs acts time (λ k. f k x) mid new between after
        → Performs acts time (λ k. flat_map (f k) (take (i + 1) xs)) old new before after
    performs_front i x old mid new before between after within is p q =
        performs_same (λ k. flat_map (f k) (take i xs) ++ f k x) (λ k. flat_map (f k) (take (i + 1) xs)) old new before after
        (λ k. sym (flat_map_front (f k) xs i x within is))
        (performs_both (λ k. flat_map (f k) (take i xs)) (λ k. f k x) old mid new before between after p q)

    pub performs_whole : (i : ℕ) (old new : Actions) (before after : Held Out) → length xs ≤ i
        → Performs acts time (λ k. flat_map (f k) (take i xs)) old new before after → Performs acts time (λ k. flat_map (f k) xs) old new before after
    performs_whole i old new before after past p =
        performs_same (λ k. flat_map (f k) (take i xs)) (λ k. flat_map (f k) xs) old new before after (λ k. ap (flat_map (f k)) (take_all i xs past)) p
