-- The k-th command of those that stand in some first places.
use Rattle.std.proofs.Common.{◌≡◌, ℕ, ◌+◌, ◌<◌, ◌≤◌, true, List, [], length, map, take, drop, get_or, refl, sym, ap, ◌∙◌, subst, arith, get_or-take, length-take-le, length-drop}
use Rattle.std.specs.Prelude.{is_none}
use Rattle.std.proofs.lemmas.List.{get_or-map, length-map}
use Rattle.packet_forms.specs.Numbers.{be32_at}
use Rattle.sc_tables.specs.declared.absolute.Timed.{Timed}
use Rattle.sc_tables.specs.declared.absolute.Place.{Place}
use Rattle.sc_tables.specs.declared.relative.Relative.{Relative}
use Rattle.sc_tables.specs.declared.ats.Ats.{Ats}
use Rattle.sc_tables.specs.declared.rts.Rts.{Rts}
use Rattle.sc_tables.specs.Absolute.{timed_at, timed_reason, no_timed}
use Rattle.sc_tables.specs.Relative.{relative_at, relative_reason, no_relative}
use Rattle.sc_tables.specs.Places.{IsPlaced}
use Rattle.sc_tables.specs.Sequences.{timed_commands, relative_commands}
use Rattle.sc_tables.proofs.Fronts.{timed_front, relative_front}

module _ {P C : Type 0} (command : P → C) (places : List P) (count : ℕ) (whole : count ≤ length places) where
  pub length_in : length (map command (take count places)) ≡ count
  length_in = length-map (take count places) command ∙ length-take-le count places whole

  pub command_in : (k : ℕ) (d : P) (none : C) → k < count → get_or (map command (take count places)) k none ≡ command (get_or places k d)
  command_in k d none below =
      get_or-map command (take count places) k d none (omega (arith, length-take-le count places whole)) ∙ ap command (get_or-take count places k d below)

-- The entry of command k of an absolute time sequence.
pub record IsTimedEntry (ats : Ats) (k : ℕ) (p : Place) : Type 0 where
  pub below : k < 1000
  pub within : p.at + 14 ≤ length ats.payload.now
  pub whole : is_none (timed_reason [] (drop p.at ats.payload.now)) ≡ true
  pub tag : p.tag ≡ (get_or (timed_commands ats) k no_timed).tag
  pub command : timed_at (drop p.at ats.payload.now) ≡ get_or (timed_commands ats) k no_timed

tag_at : (bytes : List ℕ) → be32_at bytes 2 ≡ (timed_at bytes).tag
unfolding timed_at
tag_at bytes = refl

pub timed_entry : (ats : Ats) (k : ℕ) (d : Place) → length ats.places ≡ 1000 → k < length (timed_commands ats) → IsTimedEntry ats k (get_or ats.places k d)
unfolding timed_commands
timed_entry ats k d long within =
    let f : Place → Timed = λ (p : Place). timed_at (drop p.at ats.payload.now) in
    let p : Place = get_or ats.places k d in
    let few = ats.few in
    let counted = length_in f ats.places ats.count (omega arith) in
    let before : k < ats.count = omega arith in
    let placed : IsPlaced ats.payload.now p = subst (IsPlaced ats.payload.now) (get_or-take ats.count ats.places k d before) (ats.placed k d (omega (arith, length-take-le ats.count ats.places (omega arith)))) in
    let command : get_or (timed_commands ats) k no_timed ≡ f p = command_in f ats.places ats.count (omega arith) k d no_timed before in
    record {
      below = omega arith;
      within = omega (arith, length-drop p.at ats.payload.now, (timed_front [] (drop p.at ats.payload.now) placed.whole).long);
      whole = placed.whole;
      tag = placed.tag ∙ (tag_at (drop p.at ats.payload.now) ∙ ap (λ (c : Timed). c.tag) (sym command));
      command = sym command;
    }

-- And of a relative one.
pub record IsRelativeEntry (rts : Rts) (k at : ℕ) : Type 0 where
  pub below : k < 204
  pub within : at + 10 ≤ length rts.payload.now
  pub whole : is_none (relative_reason (drop at rts.payload.now)) ≡ true
  pub long : 10 ≤ length (drop at rts.payload.now)
  pub command : relative_at (drop at rts.payload.now) ≡ get_or (relative_commands rts) k no_relative

pub relative_entry : (rts : Rts) (k : ℕ) → length rts.places ≡ 204 → k < length (relative_commands rts) → IsRelativeEntry rts k (get_or rts.places k 0)
unfolding relative_commands
relative_entry rts k long within =
    let f : ℕ → Relative = λ (at : ℕ). relative_at (drop at rts.payload.now) in
    let at : ℕ = get_or rts.places k 0 in
    let few = rts.few in
    let counted = length_in f rts.places rts.count (omega arith) in
    let before : k < rts.count = omega arith in
    let whole : is_none (relative_reason (drop at rts.payload.now)) ≡ true
    = subst (λ (a : ℕ). is_none (relative_reason (drop a rts.payload.now)) ≡ true) (get_or-take rts.count rts.places k 0 before) (rts.whole k 0 (omega (arith, length-take-le rts.count rts.places (omega arith)))) in
    let front = relative_front (drop at rts.payload.now) whole in
    record {
      below = omega arith;
      within = omega (arith, length-drop at rts.payload.now, front.long);
      whole = whole;
      long = front.long;
      command = sym (command_in f rts.places rts.count (omega arith) k 0 no_relative before);
    }
