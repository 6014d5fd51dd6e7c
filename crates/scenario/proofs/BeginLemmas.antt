-- The two commonest lines.
use Rattle.std.proofs.Common.{◌≡◌, ℕ, ◌++◌, true, false, List, [], take, drop, codes, bytes_eq, Option, Some, Result, Ok, Err, refl, sym, ap, ◌∙◌, take-append-drop}
use Rattle.std.proofs.lemmas.Slice.Eq.{bytes_eq-Decides}
use Rattle.scenario.specs.declared.reason.Reason.{Reason}
use Rattle.scenario.specs.declared.reason.Reason.TheVariants as reasons
use Rattle.scenario.specs.declared.sentence.Place.{Place}
use Rattle.scenario.specs.declared.sentence.Sentence.{Sentence}
use Rattle.scenario.specs.declared.sentence.Sentence.TheVariants as says
use Rattle.scenario.specs.declared.sentence.Verb.{Verb}
use Rattle.scenario.specs.declared.sentence.Verb.TheVariants as verbs
use Rattle.scenario.specs.Words.{words}
use Rattle.scenario.specs.Sentences.{◌>>=◌, Begins, placed, stands_at, verb_of, verb_at, sentence_of, as_said, said, line_says}

pub tick_begins : (line : List ℕ) → bytes_eq line (codes "tick") ≡ true → Begins line verbs.Tick []
unfolding words verb_of
tick_begins line e = (codes "tick", ap words ((bytes_eq-Decides line (codes "tick")).0 e), refl, refl)

pub send_begins : (line rest : List ℕ) → bytes_eq (take 5 line) (codes "send ") ≡ true → rest ≡ drop 5 line → Begins line verbs.Send (words rest)
unfolding words verb_of
send_begins line rest e r =
    let front : take 5 line ≡ codes "send " = (bytes_eq-Decides (take 5 line) (codes "send ")).0 e in
    let whole : line ≡ codes "send " ++ rest = sym (take-append-drop 5 line) ∙ ap (λ (xs : List ℕ). xs ++ drop 5 line) front ∙ ap (λ (xs : List ℕ). codes "send " ++ xs) (sym r) in
    (codes "send", ap words whole, refl, refl)

-- what a line says whose kind is known
says_begun : (place : Place) (line : List ℕ) (verb : Verb) (others : List (List ℕ)) → Begins line verb others
    → line_says place line ≡ (placed place verb >>= (λ v. as_said (sentence_of v others)))
unfolding line_says said verb_at
says_begun place line verb others b =
    ap (said place) b.1 ∙ rw (b.2, b.3) (said_both (placed place verb) others) where
      said_one : (r : Result Sentence Reason) → (r >>= (λ s. (let x : Result (Option Sentence) Reason = Ok (Some s) in x))) ≡ as_said r
      said_one (Ok s) = refl
      said_one (Err reason) = refl

      said_both : (r : Result Verb Reason) (others : List (List ℕ)) → (r >>= (λ v. sentence_of v others >>= (λ s. (let x : Result (Option Sentence) Reason = Ok (Some s) in x)))) ≡ (r >>= (λ v. as_said (sentence_of v others)))
      said_both (Ok v) others = said_one (sentence_of v others)
      said_both (Err reason) others = refl

-- a line whose kind may stand there says what its words behind the first say
pub begun_well : (place : Place) (line : List ℕ) (verb : Verb) (others : List (List ℕ)) → Begins line verb others → stands_at place verb ≡ true → line_says place line ≡ as_said (sentence_of verb others)
begun_well place line verb others b stands = says_begun place line verb others b ∙ rw stands refl

-- a line whose kind can't stand there is bad
pub begun_badly : (place : Place) (line : List ℕ) (verb : Verb) (others : List (List ℕ)) → Begins line verb others → stands_at place verb ≡ false → line_says place line ≡ Err reasons.Word
begun_badly place line verb others b stands = says_begun place line verb others b ∙ rw stands refl

-- a line `tick` says so where it may stand
pub tick_well : (place : Place) (line : List ℕ) → Begins line verbs.Tick [] → stands_at place verbs.Tick ≡ true → line_says place line ≡ Ok (Some says.Tick)
unfolding sentence_of
tick_well place line b stands = begun_well place line verbs.Tick [] b stands
