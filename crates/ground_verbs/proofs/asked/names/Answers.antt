use Rattle.std.proofs.Common.{◌∙◌, ℕ, List, Bor, refl, ap}
use Rattle.clap.specs.Matches.{found_of}
use Rattle.clap.proofs.WalkLemmas.{raw_values-rows}
use Rattle.ground_verbs.specs.Said.{word_texts}
use Rattle.ground_verbs.proofs.SaidLemmas.{names_found}
use Rattle.ground_verbs.proofs.asked.names.Goals as goal

pub returns : goal.returns
returns c = ap (λ (names : Bor (List (Bor (List ℕ)))). word_texts names.now) c.unwrap_or.ensures
    ∙ names_found c.get_strs.result _ _ refl (c.get_strs.ensures ∙ raw_values-rows (found_of c.args.words.now) c.args.word.now)
