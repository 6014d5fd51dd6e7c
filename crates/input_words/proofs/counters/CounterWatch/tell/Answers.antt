use Rattle.std.proofs.Common.{◌≡◌, ◌++◌, false, ℕ, List, map, ap, sym, ◌∙◌, append-nil, subst}
use Rattle.std.specs.List.{list_any}
use Rattle.input_words.specs.declared.counters.WatchedCounter.{WatchedCounter}
use Rattle.input_words.specs.Counters.{counter_named, kept_behind, with_counters, watched_behind}
use Rattle.input_words.proofs.CounterLemmas.{nothing_told, none_changed}
use Rattle.input_words.proofs.counters.CounterWatch.tell.Goals as goal

pub returns-then-is_resting-clause-told : goal.returns-then-is_resting-clause-told
returns-then-is_resting-clause-told c =
    let off : list_any (λ (w : WatchedCounter). w.advances) c.args.self.now.watched.items ≡ false =
    subst (λ (ws : List WatchedCounter). list_any (λ (w : WatchedCounter). w.advances) ws ≡ false) c.as_slice.ensures.value (c.is_resting.ensures.watched c.if-is_resting.true) in
    sym (ap (λ (xs : List ℕ). c.args.out.now.items ++ xs) (nothing_told c.args.time c.args.self.now.watched.items c.args.counters.now (c.is_resting.ensures.counters c.if-is_resting.true) off) ∙ append-nil c.args.out.now.items)

pub returns-then-is_resting-clause-watched : goal.returns-then-is_resting-clause-watched
returns-then-is_resting-clause-watched c =
    let off : list_any (λ (w : WatchedCounter). w.advances) c.args.self.now.watched.items ≡ false =
    subst (λ (ws : List WatchedCounter). list_any (λ (w : WatchedCounter). w.advances) ws ≡ false) c.as_slice.ensures.value (c.is_resting.ensures.watched c.if-is_resting.true) in
    sym (none_changed c.args.self.now.watched.items c.args.counters.now (c.is_resting.ensures.counters c.if-is_resting.true) off)

pub returns-clause-watched : goal.returns-clause-watched
unfolding watched_behind
returns-clause-watched c =
    c.in_ok-add_counters.ensures
    ∙ ap (λ (ws : List WatchedCounter). with_counters ws c.args.counters.now)
    (c.in_ok-kept.ensures ∙ ap (map (λ (w : WatchedCounter). kept_behind w (counter_named c.args.counters.now w.name))) c.as_slice-3.ensures.value)
