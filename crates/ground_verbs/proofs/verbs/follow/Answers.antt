use Rattle.std.proofs.Common.{refl}
use Rattle.ground_verbs.specs.Said.{rows_in}
use Rattle.ground_verbs.proofs.FoundLemmas.{both_found, none_found}
use Rattle.ground_verbs.proofs.verbs.follow.Goals as goal

pub returns-in-Some : goal.returns-in-Some
returns-in-Some g c = λ before is.
    rw (both_found c.args.found.now c.in-Some.name.now (rows_in c.in-Some.behind.now) c.in-Some.ensures.name c.in-Some.ensures.rows) (c.carry_out_verb.ensures before is)

pub returns-in-None : goal.returns-in-None
returns-in-None g c = λ before is. rw (none_found c.args.found.now c.in-None.ensures.name) (record { is_status = refl; same = is })
