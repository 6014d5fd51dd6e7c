-- The items of a text: one header, and then frames within the limits.
use Rattle.std.proofs.Common.{◌≡◌, ℕ, ◌+◌, ◌<◌, ◌≤◌, Bool, true, false, nat_lt, if◌then◌else◌, List, [], ◌∷◌, ◌++◌, length, Option, Some, None, is_some, is_none, Result, Ok, Err, refl, ap, sym, ◌∙◌, subst, arith, length-append}
use Rattle.std.specs.List.{AllByRecursion, slice_split}
use Rattle.std.proofs.lemmas.Bool.{false≢true}
use Rattle.std.proofs.lemmas.Bool.Decides.{nat_tests}
use Rattle.memory_window.specs.declared.regions.MapFault.{MapFault}
use Rattle.memory_window.specs.declared.regions.Region.{Region as MemRegion}
use Rattle.memory_window.specs.Regions.{map_fault_of, is_mapped}
use Rattle.scenario.specs.declared.frame.Upset.{Upset as UpsetByte}
use Rattle.scenario.specs.declared.progress.Header.{Header}
use Rattle.scenario.specs.declared.reason.Reason.{Reason}
use Rattle.scenario.specs.declared.reason.Reason.TheVariants as reasons
use Rattle.scenario.specs.declared.sentence.Sentence.{Sentence}
use Rattle.scenario.specs.declared.sentence.Sentence.TheVariants as says
use Rattle.scenario.specs.FrameLists.{Frame, items_in}
use Rattle.scenario.specs.Sentences.{line_says}
use Rattle.scenario.specs.Frames.{place_after, epoch_of, regions_of, ticks_of, frame_of, header_of, room_for_item, refusal}
use Rattle.scenario.specs.Texts.{Text, Line, Before, nothing, Given, Head, Whole, Reading, IsGoodFrame, AreGood, whole_lines, unless_refused, then_unless, is_too_long, reads, passed, given, read, read_bytes, reading}
use Rattle.scenario.specs.Standing.{is_lf}
use Rattle.scenario.specs.LineLaws.{read_good, read_bad}
use Rattle.scenario.specs.PlaceLaws.{HasPlace, place_on, not_started_region, not_started_start, started_tick}
use Rattle.scenario.specs.SaidLaws.{IsSaid, line_said}

-- an upset lies in the regions
abbrev IsIn : List MemRegion → UpsetByte → Type 0
IsIn regions u = is_mapped regions u.at ≡ true

-- the regions are those of the header, and make a map
abbrev HasMap : Option Header → List MemRegion → Type 0
HasMap None regions = Unit {0}
HasMap (Some h) regions = (h.map ≡ regions) × (map_fault_of regions ≡ None)

-- what holds of good sentences
record Good (old : List Sentence) : Type 0 where
  place : HasPlace old
  before : is_some (header_of old) ≡ false → ticks_of old ≡ 0
  epoch : epoch_of old ≤ 4294000000
  ticks : ticks_of old ≤ 100000
  few : items_in (frame_of old) ≤ 64
  upsets : AllByRecursion (IsIn (regions_of old)) (frame_of old).upsets
  map : HasMap (header_of old) (regions_of old)

good_nothing : Good []
good_nothing = record { place = refl; before = λ _. refl; epoch = omega arith; ticks = omega arith; few = omega arith; upsets = tt; map = tt }

no_map : (h : Option Header) (regions : List MemRegion) → is_some h ≡ false → HasMap h regions
no_map None regions e = tt
no_map (Some h) regions e = absurd (false≢true (sym e))

has_room : (n : ℕ) → (if nat_lt n 64 then (let x : Option Reason = None in x) else Some reasons.TooMany) ≡ None → n < 64
has_room n e = within (nat_lt n 64) refl e where
  within : (b : Bool) → nat_lt n 64 ≡ b → (if b then (let x : Option Reason = None in x) else Some reasons.TooMany) ≡ None → n < 64
  within true h e = grind (arith, nat_tests)
  within false h e = absurd (cc)

has_ticks : (n : ℕ) → (if nat_lt n 100000 then (let x : Option Reason = None in x) else Some reasons.TooLong) ≡ None → n < 100000
has_ticks n e = within (nat_lt n 100000) refl e where
  within : (b : Bool) → nat_lt n 100000 ≡ b → (if b then (let x : Option Reason = None in x) else Some reasons.TooLong) ≡ None → n < 100000
  within true h e = grind (arith, nat_tests)
  within false h e = absurd (cc)

no_fault : (o : Option MapFault) → (if is_none o then (let x : Option Reason = None in x) else Some reasons.Map) ≡ None → o ≡ None
no_fault None e = refl
no_fault (Some fault) e = absurd (cc)

is_in : (b : Bool) (o : Option Reason) → (if b then o else Some reasons.Map) ≡ None → (b ≡ true) × (o ≡ None)
is_in true o e = (refl, e)
is_in false o e = absurd (cc)

all_push : (regions : List MemRegion) (us : List UpsetByte) (u : UpsetByte) → AllByRecursion (IsIn regions) us → IsIn regions u → AllByRecursion (IsIn regions) (us ++ u ∷ [])
all_push regions [] u h k = (k, tt)
all_push regions (x ∷ us) u h k = (h.0, all_push regions us u h.1 k)

good_on : (old : List Sentence) (s : Sentence) → IsSaid (place_after old) s → refusal old s ≡ None → Good old → Good (s ∷ old)
unfolding refusal
good_on old (says.Epoch n) h r g = record { place = place_on old (says.Epoch n) h.placed g.place; before = g.before; epoch = h.bounded; ticks = g.ticks; few = omega arith; upsets = tt; map = g.map }
good_on old (says.Region m) h r g = record {
  place = place_on old (says.Region m) h.placed g.place;
  before = g.before;
  epoch = g.epoch;
  ticks = g.ticks;
  few = omega arith;
  upsets = tt;
  map = no_map (header_of old) _ (sym g.place ∙ not_started_region _ h.placed);
}
good_on old says.Start h r g = record {
  place = place_on old says.Start h.placed g.place;
  before = λ e. absurd (false≢true (sym e));
  epoch = g.epoch;
  ticks = g.ticks;
  few = omega arith;
  upsets = tt;
  map = (refl, no_fault (map_fault_of (regions_of old)) r);
}
good_on old (says.Send p) h r g =
    let room = has_room (items_in (frame_of old)) r in
    let size = length-append (frame_of old).sends (p ∷ []) in
    record { place = place_on old (says.Send p) h.placed g.place; before = g.before; epoch = g.epoch; ticks = g.ticks; few = omega arith; upsets = g.upsets; map = g.map }
good_on old (says.Count c) h r g =
    let room = has_room (items_in (frame_of old)) r in
    let size = length-append (frame_of old).counters (c ∷ []) in
    record { place = place_on old (says.Count c) h.placed g.place; before = g.before; epoch = g.epoch; ticks = g.ticks; few = omega arith; upsets = g.upsets; map = g.map }
good_on old (says.Upset u) h r g =
    let inside = is_in (is_mapped (regions_of old) u.at) (room_for_item old) r in
    let room = has_room (items_in (frame_of old)) inside.1 in
    let size = length-append (frame_of old).upsets (u ∷ []) in
    record { place = place_on old (says.Upset u) h.placed g.place; before = g.before; epoch = g.epoch; ticks = g.ticks; few = omega arith; upsets = all_push (regions_of old) (frame_of old).upsets u g.upsets inside.0; map = g.map }
good_on old (says.Hold a) h r g =
    let room = has_room (items_in (frame_of old)) r in
    let size = length-append (frame_of old).held (a ∷ []) in
    record { place = place_on old (says.Hold a) h.placed g.place; before = g.before; epoch = g.epoch; ticks = g.ticks; few = omega arith; upsets = g.upsets; map = g.map }
good_on old (says.Activate n) h r g =
    let room = has_room (items_in (frame_of old)) r in
    let size = length-append (frame_of old).activations (n ∷ []) in
    record { place = place_on old (says.Activate n) h.placed g.place; before = g.before; epoch = g.epoch; ticks = g.ticks; few = omega arith; upsets = g.upsets; map = g.map }
good_on old says.Tick h r g =
    let room = has_ticks (ticks_of old) r in
    record {
      place = place_on old says.Tick h.placed g.place;
      before = λ e. absurd (false≢true (sym e ∙ sym g.place ∙ started_tick _ h.placed));
      epoch = g.epoch;
      ticks = omega arith;
      few = omega arith;
      upsets = tt;
      map = g.map;
    }
good_on old says.End h r g = record { place = place_on old says.End h.placed g.place; before = g.before; epoch = g.epoch; ticks = g.ticks; few = omega arith; upsets = tt; map = g.map }

-- what a good line has come to
abbrev IsGoodSaid : List Sentence → Option Sentence → Type 0
IsGoodSaid old None = Unit {0}
IsGoodSaid old (Some s) = IsSaid (place_after old) s × (refusal old s ≡ None)

-- what is said where this refuses it
abbrev allowed : Option Reason → Sentence → Result (Option Sentence) Reason
allowed None s = Ok (Some s)
allowed (Some reason) s = Err reason

allowed_by : (old : List Sentence) (s : Sentence) (o : Option Reason) → refusal old s ≡ o → unless_refused old (Some s) ≡ allowed o s
allowed_by old s None e = rw (e, unless_refused) refl
allowed_by old s (Some reason) e = rw (e, unless_refused) refl

not_refused : (o : Option Reason) (s t : Sentence) → allowed o s ≡ Ok (Some t) → (o ≡ None) × (s ≡ t)
not_refused None s t e = (refl, cc)
not_refused (Some reason) s t e = absurd (cc)

said_of_line : (old : List Sentence) (line : List ℕ) (found : Result (Option Sentence) Reason) (said : Option Sentence) → line_says (place_after old) line ≡ found → then_unless old found ≡ Ok said → IsGoodSaid old said
said_of_line old line found None h e = tt
said_of_line old line (Ok None) (Some s) h e = absurd (cc)
said_of_line old line (Ok (Some t)) (Some s) h e =
    let n = not_refused (refusal old t) t s (sym (allowed_by old t (refusal old t) refl) ∙ e) in
    (line_said _ line s (h ∙ ap (λ (x : Sentence). let o : Result (Option Sentence) Reason = Ok (Some x) in o) n.1), ap (refusal old) (sym n.1) ∙ n.0)
said_of_line old line (Err reason) (Some s) h e = absurd (cc)

good_said_when : (b : Bool) (old : Before) (line : Line) (said : Option Sentence) → is_too_long old line ≡ b → reads old line ≡ Ok said → IsGoodSaid old.sentences said
unfolding reads
good_said_when true old line said h e = absurd (let k = rw h at e in cc)
good_said_when false old line said h e = said_of_line old.sentences line.bytes (line_says (place_after old.sentences) line.bytes) said refl (rw h at e)

good_said : (old : Before) (line : Line) (said : Option Sentence) → reads old line ≡ Ok said → IsGoodSaid old.sentences said
good_said old line said e = good_said_when (is_too_long old line) old line said refl e

good_passed : (old : Before) (line : Line) (said : Option Sentence) → IsGoodSaid old.sentences said → Good old.sentences → Good (passed old line said).sentences
good_passed old line None h g = g
good_passed old line (Some s) h g = good_on old.sentences s h.0 h.1 g

-- ---- what is given

-- what may still be given: behind the header, after so many frames
abbrev GoodRest : Option Header → ℕ → List Given → Type 0
GoodRest None n items = AreGood items
GoodRest (Some h) n items = (n + length items ≤ 100000) × AllByRecursion (IsGoodFrame h.map) items

rest_none : (h : Option Header) (n : ℕ) → n ≤ 100000 → GoodRest h n []
rest_none None n e = tt
rest_none (Some h) n e = (omega arith, tt)

none_is : (h : Option Header) → is_some h ≡ false → h ≡ None
none_is None e = refl
none_is (Some h) e = absurd (false≢true (sym e))

tick_step : (h : Option Header) (regions : List MemRegion) (frame : Frame) (n : ℕ) (rest : List Given) → is_some h ≡ true → HasMap h regions → items_in frame ≤ 64
    → AllByRecursion (IsIn regions) frame.upsets → GoodRest h (n + 1) rest → GoodRest h n (Whole frame ∷ rest)
tick_step None regions frame n rest e m few upsets r = absurd (false≢true e)
tick_step (Some h) regions frame n rest e m few upsets r = (omega (arith, r.0), ((few, rw m.0 upsets), r.1))

start_step : (h : Option Header) (epoch n : ℕ) (regions : List MemRegion) (rest : List Given) → is_some h ≡ false → epoch ≤ 4294000000 → map_fault_of regions ≡ None
    → GoodRest (Some (record { epoch = epoch; map = regions })) n rest → GoodRest h n (Head epoch regions ∷ rest)
start_step None epoch n regions rest e bounded fault r = (bounded, fault, omega (arith, r.0), r.1)
start_step (Some h) epoch n regions rest e bounded fault r = absurd (false≢true (sym e))

said_step : (old : List Sentence) (s : Sentence) (rest : List Given) → IsSaid (place_after old) s → refusal old s ≡ None → Good old
    → GoodRest (header_of (s ∷ old)) (ticks_of (s ∷ old)) rest → GoodRest (header_of old) (ticks_of old) (given old (Some s) ++ rest)
unfolding refusal
said_step old says.Start rest h r g k = start_step (header_of old) (epoch_of old) (ticks_of old) (regions_of old) rest (sym g.place ∙ not_started_start _ h.placed) g.epoch (no_fault (map_fault_of (regions_of old)) r) k
said_step old says.Tick rest h r g k = tick_step (header_of old) (regions_of old) (frame_of old) (ticks_of old) rest (sym g.place ∙ started_tick _ h.placed) g.map g.few g.upsets k
said_step old (says.Epoch n) rest h r g k = k
said_step old (says.Region m) rest h r g k = k
said_step old (says.Send p) rest h r g k = k
said_step old (says.Count c) rest h r g k = k
said_step old (says.Upset u) rest h r g k = k
said_step old (says.Hold a) rest h r g k = k
said_step old (says.Activate n) rest h r g k = k
said_step old says.End rest h r g k = k

line_step : (old : Before) (line : Line) (said : Option Sentence) (rest : List Given) → IsGoodSaid old.sentences said → Good old.sentences
    → GoodRest (header_of (passed old line said).sentences) (ticks_of (passed old line said).sentences) rest
    → GoodRest (header_of old.sentences) (ticks_of old.sentences) (given old.sentences said ++ rest)
line_step old line None rest h g k = k
line_step old line (Some s) rest h g k = said_step old.sentences s rest h.0 h.1 g k

rest_of_line : (end : Bool) (old : Before) (line : Line) (more : List Line) (found : Result (Option Sentence) Reason) → reads old line ≡ found → Good old.sentences
    → ((next : Before) → Good next.sentences → GoodRest (header_of next.sentences) (ticks_of next.sentences) (read end next more).items)
    → GoodRest (header_of old.sentences) (ticks_of old.sentences) (read end old (line ∷ more)).items
rest_of_line end old line more (Ok said) e g ih =
    let h = good_said old line said e in
    subst (λ (x : Reading). GoodRest (header_of old.sentences) (ticks_of old.sentences) x.items) (sym (read_good end old line more said e))
    (line_step old line said _ h g (ih (passed old line said) (good_passed old line said h g)))
rest_of_line end old line more (Err reason) e g ih =
    subst (λ (x : Reading). GoodRest (header_of old.sentences) (ticks_of old.sentences) x.items) (sym (read_bad end old line more reason e))
    (rest_none (header_of old.sentences) (ticks_of old.sentences) g.ticks)

rest_good : (end : Bool) (lines : List Line) (old : Before) → Good old.sentences → GoodRest (header_of old.sentences) (ticks_of old.sentences) (read end old lines).items
unfolding read
rest_good end [] old g = rest_none (header_of old.sentences) (ticks_of old.sentences) g.ticks
rest_good end (line ∷ more) old g = rest_of_line end old line more (reads old line) refl g (λ next. rest_good end more next)

-- the items of a text: a header, and then frames within the limits
pub items_are_good : (t : Text) → AreGood (reading t).items
unfolding reading read_bytes
items_are_good t = rest_good t.closed (whole_lines t.closed (slice_split is_lf t.bytes)) nothing good_nothing

frames_front : (regions : List MemRegion) (xs ys : List Given) → AllByRecursion (IsGoodFrame regions) (xs ++ ys) → AllByRecursion (IsGoodFrame regions) xs
frames_front regions [] ys h = tt
frames_front regions (x ∷ xs) ys h = (h.0, frames_front regions xs ys h.1)

-- a first part of them is good too
pub front_is_good : (gave rest : List Given) → AreGood (gave ++ rest) → AreGood gave
front_is_good [] rest h = tt
front_is_good (Head epoch regions ∷ frames) rest h = (h.0, h.1, omega (arith, h.2, length-append frames rest), frames_front regions frames rest h.3)
front_is_good (Whole frame ∷ more) rest h = h
