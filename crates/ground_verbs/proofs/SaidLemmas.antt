-- What the values of words come to.
use Rattle.std.proofs.Common.{◌≡◌, ℕ, ◌<◌, ◌^◌, List, Option, Some, None, Result, Ok, Err, refl, sym, subst, codes, Bor}
use Rattle.std.specs.Prelude.{[], option_map, unwrap_or}
use Rattle.std.specs.Str.Parse.{ParsesUnsigned}
use Rattle.clap.specs.Matches.{found_of, one_text, ReadsOne}
use Rattle.clap.specs.Walk.{one_of}
use Rattle.clap.specs.declared.parser.matches.ArgMatches.{ArgMatches}
use Rattle.clap.proofs.WalkLemmas.{one_text-rows}
use Rattle.ground_verbs.specs.Said.{rows_in, word_texts, SaysTime, SaysEpoch}

module _ {E : Type 0} (G : List ℕ → Result ℕ E → Type 0) (parses : (t : List ℕ) (r : Result ℕ E) → G t r → ParsesUnsigned 32 10 t r) where
  -- what std reads of a text is the time in it
  pub time_read : (t : List ℕ) (epoch : Option ℕ) → ReadsOne G t epoch → SaysTime (Some t) epoch
  time_read t (Some seconds) read =
      let said = parses t (Ok seconds) read in
      record { digits = said.0.0; small = subst (λ (n : ℕ). n < 2 ^ 32) (sym said.1) said.0.1; value = said.1 }
  time_read t None read = λ seconds is. parses t (Err read.0) read.1 (is.digits, subst (λ (n : ℕ). n < 2 ^ 32) is.value is.small)

  -- and of the words that may have one
  pub epoch_read : (m : ArgMatches) (epoch : Option ℕ) → (one_text (found_of m) (codes "epoch") ≡ None → epoch ≡ None)
      → ((t : List ℕ) → one_text (found_of m) (codes "epoch") ≡ Some t → ReadsOne G t epoch) → SaysEpoch (rows_in m) epoch
  epoch_read m epoch none some = go (one_of (codes "epoch") (rows_in m)) (one_text-rows (found_of m) (codes "epoch"))
    where
      go : (said : Option (List ℕ)) → one_text (found_of m) (codes "epoch") ≡ said → SaysTime said epoch
      go None is = none is
      go (Some t) is = time_read t epoch (some t is)

-- the names that were found, or none
pub names_found : (found : Option (Bor (List (Bor (List ℕ))))) (other : Bor (List (Bor (List ℕ)))) (said : Option (List (List ℕ))) → word_texts other.now ≡ []
    → option_map (λ (names : Bor (List (Bor (List ℕ)))). word_texts names.now) found ≡ said → word_texts (unwrap_or found other).now ≡ unwrap_or said []
names_found None other said empty is = rw (sym is) empty
names_found (Some names) other said empty is = rw (sym is) refl
