use Rattle.std.proofs.Common.{arith}
use Rattle.std.proofs.lemmas.Bool.Decides.{nat_tests}
use Rattle.bus_pipes.specs.Pipes.{pipe_of, watched_pipe_of}
use Rattle.bus_pipes.proofs.laws.other_ids_go_nowhere.Goals as goal

pub returns-clause-away : goal.returns-clause-away
unfolding pipe_of
returns-clause-away c id h = grind (arith, nat_tests)

pub returns-clause-watched : goal.returns-clause-watched
unfolding pipe_of watched_pipe_of
returns-clause-watched c id away h = grind (arith, nat_tests)
