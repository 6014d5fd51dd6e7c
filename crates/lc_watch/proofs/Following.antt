-- A history at one more order of the next wakeup, and at one more wakeup.
use Rattle.std.proofs.Common.{◌≡◌, ℕ, ◌+◌, ◌%◌, Bool, List, [], ◌∷◌, ◌++◌, length, Option, Some, None, option_to_list, refl, sym, ap, ◌∙◌, append_assoc, length-append}
use Rattle.std.specs.List.{cons_option}
use Rattle.std.proofs.lemmas.List.Elements.{filter_map-append}
use Rattle.histories.specs.Words.{along}
use Rattle.histories.proofs.Along.{along_more, along_none, decided_more, decided_none, joined_more, joined_none}
use Rattle.histories.proofs.Fronts.{flat_map_more}
use Rattle.commands.proofs.Heard.{heard_more, heard_none}
use Rattle.lc_watch.specs.Actionpoints.{act_at}
use Rattle.lc_watch.specs.Verdicts.{lc_protocol}
use Rattle.lc_watch.specs.Failing.{Moment, by_firing, set_in, set_by, fires_in, fired_along}
use Rattle.lc_watch.specs.Histories.{Input, Setup, heard_at, ordered_at, switch_of, switches_in, telemetry_of, evaluation_at, evaluations_of}
use Rattle.lc_watch.specs.Firing.{moment_at, starts_active, settings_of, fires, fired_at, fired_of, fired_count}
use Rattle.lc_watch.specs.Step.{lc_heard}
use Rattle.lc_watch.specs.declared.instructions.Instruction.{Instruction}

-- the telemetry
pub telemetry_none : telemetry_of [] ≡ []
unfolding telemetry_of
telemetry_none = refl

pub telemetry_more : (history : List Input) (input : Input) → telemetry_of (history ++ input ∷ []) ≡ telemetry_of history ++ input.seen
unfolding telemetry_of
telemetry_more history input = flat_map_more (λ (i : Input). i.seen) history input

-- the verdicts
pub heard_before_all : (setup : Setup) → lc_heard setup [] ≡ []
unfolding lc_heard
heard_before_all setup = heard_none lc_protocol (λ (earlier : List Input) (i : Input). setup.actions) (λ i. i.commands)

pub heard_woken : (setup : Setup) (history : List Input) (input : Input) → lc_heard setup (history ++ input ∷ []) ≡ lc_heard setup history ++ heard_at setup input
unfolding lc_heard
heard_woken setup history input = heard_more lc_protocol (λ (earlier : List Input) (i : Input). setup.actions) (λ i. i.commands) history input

-- what the commands set an actionpoint to
pub switches_more : (place : ℕ) (orders : List Instruction) (o : Instruction) → switches_in place (orders ++ o ∷ []) ≡ switches_in place orders ++ option_to_list (switch_of place o)
switches_more place orders o = filter_map-append (switch_of place) orders (o ∷ []) ∙ ap (λ (more : List Bool). switches_in place orders ++ more) (by_option (switch_of place o))
  where
    by_option : (found : Option Bool) → cons_option found [] ≡ option_to_list found
    by_option None = refl
    by_option (Some on) = refl

module _ (setup : Setup) (place : ℕ) where
  start : Bool
  start = starts_active (act_at setup.actions place)

  -- the evaluations
  pub evaluations_none : evaluations_of setup place [] ≡ []
  unfolding evaluations_of
  evaluations_none = joined_none (λ (earlier : List Input) (i : Input). option_to_list (evaluation_at setup place (earlier ++ i ∷ [])))

  pub evaluations_more : (history : List Input) (input : Input) → evaluations_of setup place (history ++ input ∷ []) ≡ evaluations_of setup place history ++ option_to_list (evaluation_at setup place (history ++ input ∷ []))
  unfolding evaluations_of
  evaluations_more history input = joined_more (λ (earlier : List Input) (i : Input). option_to_list (evaluation_at setup place (earlier ++ i ∷ []))) history input

  -- what sets it active or passive
  pub settings_none : settings_of setup place [] ≡ []
  unfolding settings_of set_by fired_along start
  settings_none = ap (λ (moments : List Moment). set_by (fired_along start moments)) (along_none (moment_at setup place)) ∙ ap set_by (decided_none (fires_in start))

  pub settings_more : (history : List Input) (input : Input)
      → settings_of setup place (history ++ input ∷ []) ≡ (settings_of setup place history ++ switches_in place (ordered_at setup input)) ++ by_firing (fires setup history input place)
  unfolding settings_of set_by fired_along start
  settings_more history input =
      let moments = along (moment_at setup place) history in
      let m : Moment = moment_at setup place history input in
      ap (λ (ms : List Moment). set_by (fired_along start ms)) (along_more (moment_at setup place) history input)
      ∙ ap set_by (decided_more (fires_in start) moments m)
      ∙ flat_map_more set_in (fired_along start moments) (m, fires_in start (fired_along start moments) m)
      ∙ sym (append_assoc (set_by (fired_along start moments)) m.switches (by_firing (fires_in start (fired_along start moments) m)))

-- the firings
pub fired_none : (setup : Setup) → fired_count setup [] ≡ 0
unfolding fired_count fired_of
fired_none setup = ap (λ (places : List ℕ). length places % 65536) (joined_none (fired_at setup))

pub fired_more : (setup : Setup) (history : List Input) (input : Input) → fired_count setup (history ++ input ∷ []) ≡ (length (fired_of setup history) + length (fired_at setup history input)) % 65536
unfolding fired_count fired_of
fired_more setup history input = ap (λ (places : List ℕ). length places % 65536) (joined_more (fired_at setup) history input) ∙ ap (λ (n : ℕ). n % 65536) (length-append (fired_of setup history) (fired_at setup history input))
