-- How the command line is read.
use Rattle.std.proofs.Common.{◌≡◌, true, Option, refl}
use Rattle.clap.specs.Simple.{is_simple}
use Rattle.clap.specs.declared.builder.value_parser.ValueParser.{ValueParser}
use Rattle.clap.proofs.OnLiterals.{clap_on_literals}
use Rattle.verb_words.specs.Words.{with_verb, groundkit_app}

-- each verb, each word and each option has its own name, and nothing of the command line changes how words are read
pub reads_simply : (names : Option ValueParser) → is_simple (groundkit_app names) ≡ true
unfolding clap_on_literals with_verb
reads_simply names = refl
