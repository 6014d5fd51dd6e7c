use Rattle.std.proofs.Common.{◌∙◌, ap}
use Rattle.std.specs.List.{flat_map}
use Rattle.ground_summaries.specs.Told.{unwanted_said}
use Rattle.ground_summaries.proofs.UnwantedLemmas.{told_unwanted, where_made}
use Rattle.ground_summaries.proofs.allowed.unwanted_of.Goals as goal

pub returns-clause-some : goal.returns-clause-some
returns-clause-some c = λ log counts.
    where_made c.told_unwanted.result _ _ (λ told is.
    told_unwanted c.args.allowed.now c.args.survey.now told.items log (is ∙ ap (flat_map (unwanted_said c.args.allowed.now)) c.notables.ensures) counts) c.told_unwanted.ensures
