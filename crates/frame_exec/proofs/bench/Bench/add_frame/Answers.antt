use Rattle.frame_exec.proofs.Obeying.{still_some}
use Rattle.frame_exec.proofs.bench.Bench.add_frame.Goals as goal

-- no crowd is there
pub returns-in-None-clause-follows : goal.returns-in-None-clause-follows
returns-in-None-clause-follows g c = rw c.in-None.is (λ setup earlier later follows. (c.add_alone.ensures.adds setup earlier later follows).follows)

pub returns-in-None-clause-told : goal.returns-in-None-clause-told
returns-in-None-clause-told g c = rw c.in-None.is (λ setup earlier later follows. (c.add_alone.ensures.adds setup earlier later follows).told)

pub returns-in-None-clause-cut : goal.returns-in-None-clause-cut
returns-in-None-clause-cut g c = rw c.in-None.is (λ setup earlier later follows. (c.add_alone.ensures.adds setup earlier later follows).cut)

-- the crowd gave them
pub returns-in-Some-clause-follows : goal.returns-in-Some-clause-follows
returns-in-Some-clause-follows g c = rw c.in-Some.is c.add_beside.ensures.follows

pub returns-in-Some-clause-told : goal.returns-in-Some-clause-told
returns-in-Some-clause-told g c = rw c.in-Some.is c.add_beside.ensures.told

pub returns-in-Some-clause-cut : goal.returns-in-Some-clause-cut
returns-in-Some-clause-cut g c = rw c.in-Some.is c.add_beside.ensures.cut

pub returns-in-Some-clause-crowd : goal.returns-in-Some-clause-crowd
returns-in-Some-clause-crowd g c = rw c.in-Some.is (λ setup earlier later follows. still_some c.add_beside.result _ _ (c.add_beside.ensures.crowd setup earlier later follows))
