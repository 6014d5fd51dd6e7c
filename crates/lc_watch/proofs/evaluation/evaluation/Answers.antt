use Rattle.std.proofs.Common.{◌≡◌, ◌+◌, Bool, true, ◌∷◌, [], List, Some, None, take, sym, ap, subst, ◌∙◌, arith, refl}
use Rattle.std.specs.List.{list_all}
use Rattle.std.proofs.lemmas.List.{take_all}
use Rattle.histories.specs.Masks.{bits_of}
use Rattle.histories.proofs.Masks.{twice}
use Rattle.lc_watch.specs.Outcomes.{kept_at}
use Rattle.lc_watch.specs.Expressions.{names_known, tripped_in, values_left, value_of}
use Rattle.lc_watch.specs.Actionpoints.{is_used, expression}
use Rattle.lc_watch.specs.declared.expressions.Word.{Word}
use Rattle.lc_watch.proofs.Stacks.{last_is, none_standing}
use Rattle.lc_watch.proofs.Evaluating.{known_more, known_fails, stack_more, value_known, entry_unused, entry_used}
use Rattle.lc_watch.proofs.evaluation.evaluation.Goals as goal

pub returns-then-not-is_used : goal.returns-then-not-is_used
returns-then-not-is_used c = entry_unused (kept_at c.args.outcomes.now) c.args.row.now (sym c.is_used.ensures ∙ c.if-not-is_used.true)

pub loop-word-init : goal.loop-word-init
loop-word-init c = record { small = omega arith; known = refl; stack = λ values is. none_standing _ values is }

pub loop-word-preserved : goal.loop-word-preserved
loop-word-preserved c =
    let outcome = kept_at c.args.outcomes.now in
    let items : List Word = c.expression-word-items.result.now in
    let is : items ≡ expression c.args.row.now = c.expression-word-items.ensures.words in
    let i = c.loop-word.word-index in
    let held = c.loop-word.invariant in
    let next = c.in-Some.next in
    record {
      small = let most = c.in-Some.ensures.small in let double = twice i in let before = held.small in omega (arith, most, double, before);
      known =
          subst (λ (words : List Word). list_all (names_known outcome) (take (i + 1) words) ≡ true) is
          (known_more outcome items i c.loop-word-test.true (subst (λ (words : List Word). list_all (names_known outcome) (take i words) ≡ true) (sym is) held.known) (c.stack_after.ensures.known next c.in-Some.is));
      stack =
          subst (λ (words : List Word). (values : List Bool) → values_left (tripped_in outcome) (take (i + 1) words) ≡ Some values → next ≡ bits_of values) is
          (stack_more outcome items i c.loop-word-test.true c.loop-word.stack next
          (subst (λ (words : List Word). (values : List Bool) → values_left (tripped_in outcome) (take i words) ≡ Some values → c.loop-word.stack ≡ bits_of values) (sym is) held.stack)
          (λ values left stands done. c.stack_after.ensures.left values left next stands done c.in-Some.is));
    }

pub returns-in_default : goal.returns-in_default
returns-in_default c =
    let outcome = kept_at c.args.outcomes.now in
    let items : List Word = c.expression-word-items.result.now in
    let is : items ≡ expression c.args.row.now = c.expression-word-items.ensures.words in
    entry_used outcome c.args.row.now None (sym c.is_used.ensures ∙ c.if-not-is_used.false)
    (ap (value_of outcome) (sym is) ∙ known_fails outcome items c.loop-word.word-index c.loop-word-test.true (c.stack_after.ensures.unknown c.in_default.is))

pub returns : goal.returns
returns c =
    let outcome = kept_at c.args.outcomes.now in
    let items : List Word = c.expression-word-items.result.now in
    let is : items ≡ expression c.args.row.now = c.expression-word-items.ensures.words in
    let used : is_used c.args.row.now ≡ true = sym c.is_used.ensures ∙ c.if-not-is_used.false in
    let one = (c.requires used).whole (tripped_in outcome) in
    let all : take c.loop-word.word-index (expression c.args.row.now) ≡ expression c.args.row.now =
    subst (λ (words : List Word). take c.loop-word.word-index words ≡ words) is (take_all c.loop-word.word-index items c.loop-word-test.false) in
    let stands = c.loop-word.invariant.stack (one.0 ∷ []) (ap (values_left (tripped_in outcome)) all ∙ one.1) in
    let known = ap (list_all (names_known outcome)) (sym all) ∙ c.loop-word.invariant.known in
    ap (λ (b : Bool). Some b) (last_is one.0 c.loop-word.stack stands) ∙ entry_used outcome c.args.row.now (Some one.0) used (value_known outcome (expression c.args.row.now) one.0 known one.1)
