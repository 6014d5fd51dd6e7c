use Rattle.std.proofs.Common.{refl}
use Rattle.bus_pipes.specs.Pipes.{pipe_of, watched_pipe_of}
use Rattle.bus_pipes.proofs.laws.worked_watched_routes.Goals as goal

pub returns : goal.returns
unfolding pipe_of watched_pipe_of
returns c = record { command = refl; request = refl; telemetry = refl; neither = refl }
