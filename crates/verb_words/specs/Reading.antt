-- What the words of groundkit's command line say.
use Rattle.std.specs.Prelude.{ℕ, List, Option}
use Rattle.clap.specs.Walk.{Row, Text}
use Rattle.clap.specs.Simple.{subcommand_of}
use Rattle.clap.specs.declared.builder.value_parser.ValueParser.{ValueParser}
use Rattle.verb_words.specs.Words.{groundkit_app}

-- the name of the verb in the words, of which the first is the program's, and the values of what stands behind it, as clap reads them
abbrev pub verb_in : Option ValueParser → List (List ℕ) → Option (Text × List Row)
verb_in names words = subcommand_of (groundkit_app names) words
