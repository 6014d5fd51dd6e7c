-- Which attempts go, by what happened before them.
use Rattle.std.specs.Prelude.{ℕ, ◌+◌, ◌%◌, ◌==◌, nat_le, nat_lt, Bool, true, not, ◌&&◌, if◌then◌else◌, List, [], ◌++◌, count_by, filter_map, slice_index_or, Option, Some, None, is_some}
use Rattle.std.specs.List.{after_last, list_all, list_any}
use Rattle.histories.specs.Words.{decided, last_or}
use Rattle.hs_tables.specs.Actions.{blank_row}
use Rattle.hs_tables.specs.declared.actions.ActRow.{ActRow}
use Rattle.hs_actions.specs.Happenings.{Happening, clears, limit_in, attempts, wakeup_in, is_reset, is_message, is_message_in}
use Rattle.hs_actions.specs.Happenings.Happening.{Clears, Limits, Attempts}
use Rattle.hs_actions.specs.declared.action.Action.{Action}
use Rattle.hs_actions.specs.declared.action.Action.TheVariants.{Reset, Restart, Report, Message}

-- The resets made and the maximum of resets at the beginning.
pub record Beginning : Type 0 where
  pub made : ℕ
  pub max : ℕ

-- What happened, each with whether it went, the oldest first.
abbrev pub Outcomes : Type 0
Outcomes = List (Happening × Bool)

-- What an outcome is to the resets and to the message actions.
abbrev pub cleared : (Happening × Bool) → Bool
cleared outcome = clears outcome.0

abbrev pub limit_set : (Happening × Bool) → Option ℕ
limit_set outcome = limit_in outcome.0

abbrev pub reset_went : (Happening × Bool) → Bool
reset_went outcome = attempts is_reset outcome.0 && outcome.1

abbrev pub message_went : (Happening × Bool) → Bool
message_went outcome = attempts is_message outcome.0 && outcome.1

abbrev pub sending_in : ℕ → (Happening × Bool) → Option ℕ
sending_in place outcome = if attempts (is_message_in place) outcome.0 && outcome.1 then Some (wakeup_in outcome.0) else None

-- The resets made: those that went since the last clearing; where there is none, all that went and those of the beginning.
unfoldable pub made_of : Beginning → Outcomes → ℕ
made_of begins earlier = count_by reset_went (after_last cleared earlier) + (if list_any cleared earlier then 0 else begins.made)

-- The maximum of resets: the last that was set, or that of the beginning.
unfoldable pub max_of : Beginning → Outcomes → ℕ
max_of begins earlier = last_or begins.max (filter_map limit_set earlier)

-- The wakeups of the attempts of a message action that went.
unfoldable pub sendings : ℕ → Outcomes → List ℕ
sendings place earlier = filter_map (sending_in place) earlier

-- How many message actions went, modulo 65,536.
unfoldable pub sent_of : Outcomes → ℕ
sent_of earlier = count_by message_went earlier % 65536

-- The entry in a place of the table, from 0.
abbrev pub act_at : List ActRow → ℕ → ActRow
act_at acts place = slice_index_or acts place blank_row

-- Whether an entry is used, so that it has a packet: a table that was loaded gives each used entry its packet.
abbrev pub is_whole : ActRow → Bool
is_whole act = not (act.state == 0) && is_some act.packet

-- Whether an attempt of a message action goes in wakeup k: its entry is used, and each earlier sending and the cooldown behind it are over.
unfoldable pub message_goes : ActRow → List ℕ → ℕ → Bool
message_goes act earlier k = is_whole act && list_all (λ j. nat_le (j + act.cooldown) k) earlier

-- Whether an attempt goes in wakeup k: a reset where fewer were made than the maximum, a restart and a report always.
abbrev pub action_goes : List ActRow → Beginning → Outcomes → ℕ → Action → Bool
action_goes acts begins earlier k Reset = nat_lt (made_of begins earlier) (max_of begins earlier)
action_goes acts begins earlier k Restart = true
action_goes acts begins earlier k Report = true
action_goes acts begins earlier k (Message place) = message_goes (act_at acts place) (sendings place earlier) k

-- Whether a happening goes: an attempt by its action, a clearing and a new maximum always.
abbrev pub goes : List ActRow → Beginning → Outcomes → Happening → Bool
goes acts begins earlier Clears = true
goes acts begins earlier (Limits n) = true
goes acts begins earlier (Attempts a) = action_goes acts begins earlier a.wakeup a.action

-- What happened, each with whether it went.
unfoldable pub outcomes : List ActRow → Beginning → List Happening → Outcomes
outcomes acts begins happened = decided (goes acts begins) happened

-- What was before: the beginning, how many wakeups have begun, and what happened.
pub record Past : Type 0 where
  pub begins : Beginning
  pub wakeups : ℕ
  pub happened : List Happening

-- What was before the first wakeup: so many resets made, of at most so many.
abbrev pub past_from : ℕ → ℕ → Past
past_from made max = record { begins = record { made = made; max = max }; wakeups = 0; happened = [] }

-- What was before, once the next wakeup has begun.
abbrev pub in_next_wakeup : Past → Past
in_next_wakeup past = record { begins = past.begins; wakeups = past.wakeups + 1; happened = past.happened }

-- What was before, once this happened too.
abbrev pub with_more : Past → List Happening → Past
with_more past more = record { begins = past.begins; wakeups = past.wakeups; happened = past.happened ++ more }

-- The outcomes of what was before.
abbrev pub outcomes_in : List ActRow → Past → Outcomes
outcomes_in acts past = outcomes acts past.begins past.happened

-- Whether what happens next goes.
abbrev pub goes_after : List ActRow → Past → Happening → Bool
goes_after acts past h = goes acts past.begins (outcomes_in acts past) h
