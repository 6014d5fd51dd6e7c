use Rattle.frame_runs.proofs.Calling.{course_none, course_more, course_number}
use Rattle.frame_runs.proofs.laws.courses_go_on.Goals as goal

pub returns-clause-none : goal.returns-clause-none
returns-clause-none c = course_none

pub returns-clause-more : goal.returns-clause-more
returns-clause-more c = course_more

pub returns-clause-number : goal.returns-clause-number
returns-clause-number c = course_number
