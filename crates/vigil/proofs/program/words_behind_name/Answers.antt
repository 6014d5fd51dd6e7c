use Rattle.std.proofs.Common.{◌∙◌, sym, subst, Option, String, Global}
use Rattle.std.specs.Prelude.{string_bytes}
use Rattle.std.specs.Vec.Iter.{into_iter_steps}
use Rattle.vigil.proofs.GivenWords.{first_gone, all_gone}
use Rattle.vigil.proofs.program.words_behind_name.Goals as goal

pub words-init : goal.words-init
words-init c =
    first_gone string_bytes _ _ c.next-name.result c.in_ok-words.words c.next-name.ensures.items
    (λ none. sym c.args.given.rest.ok.0 ∙ (subst (λ (r : Option (String Global)). into_iter_steps c.args.given r c.next-name.new.self) none c.next-name.ensures.cases).0) c.in_ok-words.ensures

pub returns : goal.returns
returns c = all_gone string_bytes _ c.words.words _ (sym c.words.given.rest.ok.0 ∙ c.in_default.ensures.cases.0) c.words.invariant
