-- What clap found, and what its definitions say of the words.
use Rattle.std.proofs.Common.{◌≡◌, ◌∙◌, ◌⊎◌, ℕ, true, List, [], Option, Some, None, refl, sym, ap, subst}
use Rattle.std.specs.Prelude.{option_map, Box}
use Rattle.std.specs.Box.{box_value}
use Rattle.clap.specs.Walk.{Row}
use Rattle.clap.specs.Kinds.{IsAmong}
use Rattle.clap.specs.Faults.{fault_of, is_simple_and_free}
use Rattle.clap.specs.Matches.{subcommand_name_of}
use Rattle.clap.specs.Simple.{App, is_simple, subcommand_of, subcommand_rows, subcommand_rows_of, HasMatchesOf}
use Rattle.clap.specs.declared.builder.value_parser.ValueParser.{ValueParser}
use Rattle.clap.specs.declared.error.kind.ErrorKind.{ErrorKind}
use Rattle.clap.specs.declared.error.kind.ErrorKind.TheVariants as kinds
use Rattle.clap.specs.declared.parser.matches.ArgMatches.{ArgMatches}
use Rattle.clap.specs.declared.parser.matches.ArgMatches.TheViews.{out-ArgMatches, out-SubCommand}
use Rattle.clap.specs.declared.parser.matches.SubCommand.{SubCommand}
use Rattle.clap.proofs.OnLiterals.{clap_on_literals}
use Rattle.verb_words.specs.Words.{with_verb, groundkit_app}
use Rattle.verb_words.specs.Reading.{verb_in}
use Rattle.verb_words.proofs.SimpleLemmas.{reads_simply}

-- a subcommand that was found, by its name and its values
pub both_found : (m : ArgMatches) (name : List ℕ) (rows : List Row) → Some name ≡ subcommand_name_of m → Some rows ≡ option_map (λ p. p.1) (subcommand_rows_of m)
    → subcommand_rows_of m ≡ Some (name, rows)
both_found m name rows = go (out-ArgMatches m).subcommand
  where
    go : {Z : Type 0} (found : Option (Box SubCommand Z)) → Some name ≡ option_map (λ b. (out-SubCommand (box_value b)).name.now) found
        → Some rows ≡ option_map (λ p. p.1) (subcommand_rows found) → subcommand_rows found ≡ Some (name, rows)
    go None is_name are_rows = cc
    go (Some sub) is_name are_rows = cc

-- none was found
pub none_found : (m : ArgMatches) → None ≡ subcommand_name_of m → subcommand_rows_of m ≡ None
none_found m = go (out-ArgMatches m).subcommand
  where
    go : {Z : Type 0} (found : Option (Box SubCommand Z)) → None ≡ option_map (λ b. (out-SubCommand (box_value b)).name.now) found → subcommand_rows found ≡ None
    go None is_name = refl
    go (Some sub) is_name = cc

-- no word of the command line has a rule on another
reads_freely : (shells : Option ValueParser) → is_simple_and_free (groundkit_app shells) ≡ true
unfolding clap_on_literals with_verb
reads_freely shells = refl

-- what was found in the words is what the definitions say
pub found_as_said : (shells : Option ValueParser) (app : App) (words : List (List ℕ)) (m : ArgMatches) → app ≡ groundkit_app shells
    → HasMatchesOf app words m → subcommand_rows_of m ≡ verb_in shells words
found_as_said shells app words m is matches = (matches (ap is_simple is ∙ reads_simply shells)).1 ∙ ap (λ (a : App). subcommand_of a words) is

-- no fault of the words
pub no_fault : (shells : Option ValueParser) (app : App) (words : List (List ℕ)) → app ≡ groundkit_app shells
    → (is_simple_and_free app ≡ true → fault_of app words ≡ []) → fault_of (groundkit_app shells) words ≡ []
no_fault shells app words is none = ap (λ (a : App). fault_of a words) (sym is) ∙ none (ap is_simple_and_free is ∙ reads_freely shells)

-- one of their faults
pub some_fault : (shells : Option ValueParser) (app : App) (words : List (List ℕ)) (kind : ErrorKind) → app ≡ groundkit_app shells
    → (is_simple_and_free app ≡ true → (kind ≡ kinds.OutOfMemory) ⊎ IsAmong kind (fault_of app words))
    → (kind ≡ kinds.OutOfMemory) ⊎ IsAmong kind (fault_of (groundkit_app shells) words)
some_fault shells app words kind is some = subst (λ (a : App). (kind ≡ kinds.OutOfMemory) ⊎ IsAmong kind (fault_of a words)) is
    (some (ap is_simple_and_free is ∙ reads_freely shells))
