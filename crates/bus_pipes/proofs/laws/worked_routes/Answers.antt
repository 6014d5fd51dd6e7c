use Rattle.std.proofs.Common.{refl}
use Rattle.bus_pipes.specs.Pipes.{pipe_of}
use Rattle.bus_pipes.proofs.laws.worked_routes.Goals as goal

pub returns : goal.returns
unfolding pipe_of
returns c = record { hs_command = λ watched. refl; hs_request = λ watched. refl; event = λ watched. refl; cs_command = λ watched. refl; cs_request = λ watched. refl; sc_command = λ watched. refl; sc_request = λ watched. refl; mm_command = λ watched. refl; mm_request = λ watched. refl; md_command = λ watched. refl; md_request = λ watched. refl }
