-- Laws of the places of lines: which lie behind `start`, and that they do where the header is there.
use Rattle.std.proofs.Common.{◌≡◌, true, false, List, ◌∷◌, is_some, refl, sym, ◌∙◌}
use Rattle.std.proofs.lemmas.Bool.{false≢true}
use Rattle.scenario.specs.declared.sentence.Place.{Place}
use Rattle.scenario.specs.declared.sentence.Place.TheVariants as places
use Rattle.scenario.specs.declared.sentence.Sentence.{Sentence}
use Rattle.scenario.specs.declared.sentence.Sentence.TheVariants as says
use Rattle.scenario.specs.declared.sentence.Verb.TheVariants as verbs
use Rattle.scenario.specs.Sentences.{stands_at, verb_said}
use Rattle.scenario.specs.Frames.{place_after, header_of, is_started}

pub not_started_epoch : (p : Place) → stands_at p verbs.Epoch ≡ true → is_started p ≡ false
not_started_epoch places.Opening h = refl
not_started_epoch _ h = absurd (false≢true h)

pub not_started_region : (p : Place) → stands_at p verbs.Region ≡ true → is_started p ≡ false
not_started_region places.Header h = refl
not_started_region _ h = absurd (false≢true h)

pub not_started_start : (p : Place) → stands_at p verbs.Start ≡ true → is_started p ≡ false
not_started_start places.Header h = refl
not_started_start _ h = absurd (false≢true h)

started_send : (p : Place) → stands_at p verbs.Send ≡ true → is_started p ≡ true
started_send places.Between h = refl
started_send places.Inside h = refl
started_send _ h = absurd (false≢true h)

started_app : (p : Place) → stands_at p verbs.App ≡ true → is_started p ≡ true
started_app places.Between h = refl
started_app places.Inside h = refl
started_app _ h = absurd (false≢true h)

started_upset : (p : Place) → stands_at p verbs.Upset ≡ true → is_started p ≡ true
started_upset places.Between h = refl
started_upset places.Inside h = refl
started_upset _ h = absurd (false≢true h)

started_hold : (p : Place) → stands_at p verbs.Hold ≡ true → is_started p ≡ true
started_hold places.Between h = refl
started_hold places.Inside h = refl
started_hold _ h = absurd (false≢true h)

started_activate : (p : Place) → stands_at p verbs.Activate ≡ true → is_started p ≡ true
started_activate places.Between h = refl
started_activate places.Inside h = refl
started_activate _ h = absurd (false≢true h)

pub started_tick : (p : Place) → stands_at p verbs.Tick ≡ true → is_started p ≡ true
started_tick places.Between h = refl
started_tick places.Inside h = refl
started_tick _ h = absurd (false≢true h)

started_end : (p : Place) → stands_at p verbs.End ≡ true → is_started p ≡ true
started_end places.Between h = refl
started_end _ h = absurd (false≢true h)

-- the place lies behind `start` where the header is there
abbrev pub HasPlace : List Sentence → Type 0
HasPlace old = is_started (place_after old) ≡ is_some (header_of old)

pub place_on : (old : List Sentence) (s : Sentence) → stands_at (place_after old) (verb_said s) ≡ true → HasPlace old → HasPlace (s ∷ old)
place_on old (says.Epoch n) h k = sym (not_started_epoch _ h) ∙ k
place_on old (says.Region r) h k = sym (not_started_region _ h) ∙ k
place_on old says.Start h k = refl
place_on old (says.Send p) h k = sym (started_send _ h) ∙ k
place_on old (says.Count c) h k = sym (started_app _ h) ∙ k
place_on old (says.Upset u) h k = sym (started_upset _ h) ∙ k
place_on old (says.Hold a) h k = sym (started_hold _ h) ∙ k
place_on old (says.Activate n) h k = sym (started_activate _ h) ∙ k
place_on old says.Tick h k = sym (started_tick _ h) ∙ k
place_on old says.End h k = sym (started_end _ h) ∙ k
