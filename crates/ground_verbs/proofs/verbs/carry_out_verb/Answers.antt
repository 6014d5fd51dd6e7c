use Rattle.std.proofs.Common.{refl, sym}
use Rattle.ground_verbs.proofs.verbs.carry_out_verb.Goals as goal

pub returns-in-Some : goal.returns-in-Some
returns-in-Some g c = λ before is. rw (sym c.in-Some.ensures)
    (record { asked = c.read_verb.result; is_asked = c.read_verb.ensures; is_done = c.carry_out.ensures before is })

pub returns-in-None : goal.returns-in-None
returns-in-None g c = λ before is. rw (sym c.in-None.ensures) (record { is_status = refl; same = is })
