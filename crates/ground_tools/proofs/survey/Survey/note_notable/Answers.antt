use Rattle.std.proofs.Common.{◌≡◌, ◌<◌, List, length, get_or, refl, subst}
use Rattle.ground_tools.specs.declared.survey.NotableCount.{NotableCount}
use Rattle.ground_tools.proofs.SurveyLemmas.{alike_again}
use Rattle.ground_tools.proofs.survey.Survey.note_notable.Goals as goal

pub returns-in-Some : goal.returns-in-Some
returns-in-Some c = record {
  reader = refl;
  notables = alike_again c.args.self.now.notables.items c.in-Some.place _ c.args.what
      (subst (λ (counts : List NotableCount). c.in-Some.place < length counts) c.as_slice.ensures.value c.in-Some.ensures.0)
      (subst (λ (counts : List NotableCount). (other : NotableCount) → (get_or counts c.in-Some.place other).what ≡ c.args.what) c.as_slice.ensures.value c.in-Some.ensures.1);
}
