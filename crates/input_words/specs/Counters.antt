-- What execution counters do from frame to frame, in lines that stand among the sentences of the log.
use Rattle.std.specs.Prelude.{ℕ, ◌==◌, Bool, true, false, not, ◌||◌, if◌then◌else◌, nat_le, List, [], ◌∷◌, ◌++◌, length, map, codes, decimal, Option, Some, None, unwrap_or, bytes_eq}
use Rattle.std.specs.List.{flat_map, list_any}
use Rattle.packet_forms.specs.Names.{name_text}
use Rattle.packet_forms.specs.declared.name.Counter.{Counter}
use Rattle.input_words.specs.declared.inputs.FrameTime.{FrameTime}
use Rattle.input_words.specs.declared.counters.WatchedCounter.{WatchedCounter}
use Rattle.input_words.specs.Inputs.{input_line}

-- whether two names are the same
unfoldable pub are_same : List ℕ → List ℕ → Bool
are_same a b = bytes_eq a b

-- the counter of a name in a frame: the first of the name counts
unfoldable pub counter_named : List Counter → List ℕ → Option ℕ
counter_named [] name = None
counter_named (c ∷ cs) name = if are_same c.name name then Some c.value else counter_named cs name

-- whether a counter advances in a frame: it is there, and isn't its last value
abbrev pub is_advanced : ℕ → Option ℕ → Bool
is_advanced last None = false
is_advanced last (Some value) = not (value == last)

-- what a counter does that it didn't do in the frame before: it stands still, or goes on
abbrev pub conduct_words : WatchedCounter → Option ℕ → List ℕ
conduct_words w now =
    name_text w.name ++ (if w.advances then codes "'s execution counter stands still with the value " else codes "'s execution counter goes on with the value ") ++ decimal (unwrap_or now w.value)

-- the line of a counter whose conduct changes in a frame, and none of another
abbrev pub conduct_told : FrameTime → WatchedCounter → Option ℕ → List ℕ
conduct_told t w now = if w.advances then (if is_advanced w.value now then [] else input_line t (conduct_words w now)) else (if is_advanced w.value now then input_line t (conduct_words w now) else [])

-- a counter behind a frame: its last value, and whether it advanced there
abbrev pub kept_behind : WatchedCounter → Option ℕ → WatchedCounter
kept_behind w now = record { name = w.name; value = unwrap_or now w.value; advances = is_advanced w.value now }

-- whether a name is among counters
unfoldable pub is_watched : List WatchedCounter → List ℕ → Bool
is_watched ws name = list_any (λ w. are_same w.name name) ws

-- counters with one more, where its name is new and there are fewer than 64; where a counter comes first it advances
abbrev pub with_counter : List WatchedCounter → Counter → List WatchedCounter
with_counter ws c = if is_watched ws c.name || nat_le 64 (length ws) then ws else ws ++ record { name = c.name; value = c.value; advances = true } ∷ []

-- counters with those of a frame whose names are new
unfoldable pub with_counters : List WatchedCounter → List Counter → List WatchedCounter
with_counters ws [] = ws
with_counters ws (c ∷ cs) = with_counters (with_counter ws c) cs

-- what the counters that are watched do in a frame
unfoldable pub counters_told : FrameTime → List WatchedCounter → List Counter → List ℕ
counters_told t ws cs = flat_map (λ w. conduct_told t w (counter_named cs w.name)) ws

-- the counters that are watched behind a frame
unfoldable pub watched_behind : List WatchedCounter → List Counter → List WatchedCounter
watched_behind ws cs = with_counters (map (λ w. kept_behind w (counter_named cs w.name)) ws) cs
