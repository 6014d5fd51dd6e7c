-- The commands of the sequence in a place.
use Rattle.std.proofs.Common.{◌≡◌, ℕ, ◌-◌, ◌<◌, ◌≤◌, List, [], ◌++◌, length, map, take, drop, get_or, set, Option, Some, None, inl, inr, ◌⊎◌, sym, ap, ◌∙◌, arith, length-append, length-take}
use Rattle.std.specs.List.{All}
use Rattle.std.specs.List.Sorted.{IsNonDecreasingBy}
use Rattle.std.proofs.lemmas.Bool.{cases_lt}
use Rattle.std.proofs.lemmas.List.{get_or-map, get_or_append_left, get_or-append_right, get_or_past, length-map, map-set, set-append_left, set-append_right}
use Rattle.std.proofs.lemmas.List.Elements.{All-append, All-map}
use Rattle.std.proofs.lemmas.List.Sorted.{IsNonDecreasingBy-short}
use Rattle.packet_forms.specs.Packets.{shortest_packet}
use Rattle.sc_tables.specs.declared.absolute.Timed.{Timed}
use Rattle.sc_tables.specs.declared.absolute.Place.{Place}
use Rattle.sc_tables.specs.declared.relative.Relative.{Relative}
use Rattle.sc_tables.specs.declared.ats.Ats.{Ats}
use Rattle.sc_tables.specs.declared.rts.Rts.{Rts}
use Rattle.sc_tables.specs.Absolute.{timed_at, no_timed}
use Rattle.sc_tables.specs.Relative.{relative_at, no_relative}
use Rattle.sc_tables.specs.Places.{AreInOrder}
use Rattle.sc_tables.specs.Commands.{TimedCommand, of_timed, of_relative, commands_in, command_at, AreTables}
use Rattle.sc_tables.specs.Sequences.{timed_commands, relative_commands, ats_commands, rts_commands, commands_of}
use Rattle.sc_tables.proofs.Orders.{IsBefore, before_tells}

module _ (ats : List (Option Ats)) (rts : List (Option Rts)) (two : length ats ≡ 2) where
  long : length (map ats_commands ats) ≡ 2
  long = length-map ats ats_commands ∙ two

  pub absolute_in : (place : ℕ) → place < 2 → commands_in (commands_of ats rts) place ≡ ats_commands (get_or ats place None)
  absolute_in place below =
      get_or_append_left (map ats_commands ats) (map rts_commands rts) [] place (omega (arith, long))
      ∙ get_or-map ats_commands ats place None [] (omega (arith, two))

  pub relative_in : (place : ℕ) → 2 ≤ place → place - 2 < length rts → commands_in (commands_of ats rts) place ≡ rts_commands (get_or rts (place - 2) None)
  relative_in place above below =
      get_or-append_right (map ats_commands ats) (map rts_commands rts) 2 place [] long above
      ∙ get_or-map rts_commands rts (place - 2) None [] below

  pub absolute_set : (place : ℕ) (a : Option Ats) → place < 2 → commands_of (set ats place a) rts ≡ set (commands_of ats rts) place (ats_commands a)
  absolute_set place a below =
      ap (λ (cs : List (List TimedCommand)). cs ++ map rts_commands rts) (map-set ats_commands ats place a)
      ∙ sym (set-append_left (map ats_commands ats) (map rts_commands rts) place (ats_commands a) (omega (arith, long)))

  pub relative_set : (place : ℕ) (r : Option Rts) → 2 ≤ place → commands_of ats (set rts (place - 2) r) ≡ set (commands_of ats rts) place (rts_commands r)
  relative_set place r above =
      ap (λ (cs : List (List TimedCommand)). map ats_commands ats ++ cs) (map-set rts_commands rts (place - 2) r)
      ∙ sym (set-append_right (map ats_commands ats) (map rts_commands rts) 2 place (rts_commands r) long above)

  -- command k of the relative sequence in a place
  pub relative_command : (place k : ℕ) (r : Rts) → 2 ≤ place → place - 2 < length rts → Some r ≡ get_or rts (place - 1 - 1) None → k < length (commands_in (commands_of ats rts) place)
      → command_at (commands_of ats rts) place k ≡ of_relative (get_or (relative_commands r) k no_relative)
  relative_command place k r above below is within =
      let same : place - 1 - 1 ≡ place - 2 = omega arith in
      let there : get_or rts (place - 2) None ≡ Some r = rw same at (sym is) in
      let commands : commands_in (commands_of ats rts) place ≡ map of_relative (relative_commands r) = relative_in place above below ∙ ap rts_commands there in
      rw commands (get_or-map of_relative (relative_commands r) k no_relative (record { tag = 0; packet = shortest_packet }) (omega (arith, rw commands at within, length-map (relative_commands r) of_relative)))

-- every sequence has at most 1,000 commands
ats_few : (a : Option Ats) → length (ats_commands a) ≤ 1000
unfolding timed_commands
ats_few None = omega arith
ats_few (Some ats) =
    let few = ats.few in
    let f : Place → Timed = λ (p : Place). timed_at (drop p.at ats.payload.now) in
    omega (arith, length-map (map f (take ats.count ats.places)) of_timed, length-map (take ats.count ats.places) f, length-take ats.count ats.places)

rts_few : (r : Option Rts) → length (rts_commands r) ≤ 1000
unfolding relative_commands
rts_few None = omega arith
rts_few (Some rts) =
    let few = rts.few in
    let f : ℕ → Relative = λ (at : ℕ). relative_at (drop at rts.payload.now) in
    omega (arith, length-map (map f (take rts.count rts.places)) of_relative, length-map (take rts.count rts.places) f, length-take rts.count rts.places)

-- and those of an absolute one rise
later_tag : (a b : Timed) → IsBefore a b → a.tag ≤ b.tag
later_tag a b (inl earlier) = omega arith
later_tag a b (inr same) = omega arith

tags_rise : (commands : List Timed) → AreInOrder commands → IsNonDecreasingBy (λ (c : TimedCommand). c.tag) (map of_timed commands)
tags_rise commands up i j d upto within = by_order (cases_lt i j)
  where
    long : length (map of_timed commands) ≡ length commands
    long = length-map commands of_timed

    at : (k : ℕ) → k < length commands → get_or (map of_timed commands) k d ≡ of_timed (get_or commands k no_timed)
    at k below = get_or-map of_timed commands k no_timed d below

    by_order : (i < j) ⊎ (j ≤ i) → (get_or (map of_timed commands) i d).tag ≤ (get_or (map of_timed commands) j d).tag
    by_order (inl below) =
        rw (at i (omega (arith, long)), at j (omega (arith, long))) (later_tag (get_or commands i no_timed) (get_or commands j no_timed) (before_tells (get_or commands i no_timed) (get_or commands j no_timed) (up i j no_timed below (omega (arith, long)))))
    by_order (inr above) = let same : i ≡ j = omega arith in rw same (omega arith)

ats_rise : (a : Option Ats) → IsNonDecreasingBy (λ (c : TimedCommand). c.tag) (ats_commands a)
unfolding timed_commands
ats_rise None = IsNonDecreasingBy-short (λ (c : TimedCommand). c.tag) [] (omega arith)
ats_rise (Some ats) = tags_rise (timed_commands ats) ats.in_order

pub are_tables : (ats : List (Option Ats)) (rts : List (Option Rts)) → length ats ≡ 2 → length rts ≡ 64 → AreTables (commands_of ats rts)
are_tables ats rts two all = record {
  whole = omega (arith, length-append (map ats_commands ats) (map rts_commands rts), length-map ats ats_commands, length-map rts rts_commands);
  few = λ place. at_most (commands_of ats rts) every place;
  in_order = λ place below. rw (absolute_in ats rts two place below) (ats_rise (get_or ats place None));
}
  where
    every : All (λ (cs : List TimedCommand). length cs ≤ 1000) (commands_of ats rts)
    every = All-append (λ (cs : List TimedCommand). length cs ≤ 1000) (map ats_commands ats) (map rts_commands rts)
        (All-map (λ (cs : List TimedCommand). length cs ≤ 1000) ats_commands ats (λ k d below. ats_few (get_or ats k d)))
        (All-map (λ (cs : List TimedCommand). length cs ≤ 1000) rts_commands rts (λ k d below. rts_few (get_or rts k d)))

    at_most : (tables : List (List TimedCommand)) → All (λ (cs : List TimedCommand). length cs ≤ 1000) tables → (place : ℕ) → length (commands_in tables place) ≤ 1000
    at_most tables every place = by_order (cases_lt place (length tables))
      where
        by_order : (place < length tables) ⊎ (length tables ≤ place) → length (get_or tables place []) ≤ 1000
        by_order (inl below) = every place [] below
        by_order (inr past) = rw (get_or_past tables place [] past) (omega arith)
