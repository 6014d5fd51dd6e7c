use Rattle.std.proofs.Common.{◌≡◌, ◌∷◌, ℕ, List, Option, codes, map, sym, ◌∙◌, ap, subst, Bor}
use Rattle.std.specs.Prelude.{IfOk}
use Rattle.clap.specs.Matches.{found_of}
use Rattle.clap.specs.Values.{kind_of}
use Rattle.clap.specs.Walk.{rows_of}
use Rattle.clap.specs.Simple.{app_of}
use Rattle.rehearsal.specs.Words.{Asked, accepted_words}
use Rattle.rehearsal.proofs.Matched.{matched_is, refused_is, refused_unless}
use Rattle.rehearsal.proofs.words.accept.Goals as goal

abbrev shown : Bor (List ℕ) → List ℕ
shown text = text.now

pub returns-in-Ok : goal.returns-in-Ok
returns-in-Ok c =
    let texts : map shown c.as_slice.result.now ≡ codes "vigil" ∷ c.args.words.now = ap (map shown) c.as_slice.ensures.value ∙ c.in_ok-texts.ensures in
    subst (λ (from : Option Asked). IfOk c.plan_of.result (λ plan. from ≡ plan))
    (sym (matched_is c.args.words.now (map shown c.as_slice.result.now) (app_of c.in_ok-command.command) (rows_of (found_of c.in-Ok.matches)) c.in_ok-command.ensures texts c.in-Ok.ensures.kinds (λ simple. (c.in-Ok.ensures.matches simple).0))) c.plan_of.ensures

pub returns : goal.returns
returns c =
    let texts : map shown c.as_slice.result.now ≡ codes "vigil" ∷ c.args.words.now = ap (map shown) c.as_slice.ensures.value ∙ c.in_ok-texts.ensures in
    refused_unless c.refused_by.result (accepted_words c.args.words.now) (kind_of c.in-Err.error) c.refused_by.ensures
    (refused_is c.args.words.now (map shown c.as_slice.result.now) (app_of c.in_ok-command.command) (kind_of c.in-Err.error) c.in_ok-command.ensures texts c.in-Err.ensures.kinds)
