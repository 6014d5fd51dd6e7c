use Rattle.std.proofs.Common.{length, ap, refl, arith}
use Rattle.bus_pipes.specs.Held.{Held}
use Rattle.bus_pipes.specs.declared.names.Out.{Out}
use Rattle.frame_exec.proofs.Frames.{ready_by}
use Rattle.frame_exec.proofs.Naming.{activates_one}
use Rattle.frame_exec.proofs.bench.Bench.name_file.Goals as goal

pub tell-requires : goal.tell-requires
tell-requires c =
    let same = ap (λ (held : Held Out). length held.items) c.make_active-naming.ensures.names.told in
    omega (arith, same, c.make_active-naming.new.self.activations_room, c.requires.room)

pub returns-clause-activates : goal.returns-clause-activates
returns-clause-activates c =
    activates_one c.args.self.now c.make_active-naming.new.self c.args.file c.make_active-naming.result _ c.tell.new.self _ _ _ c.make_active-naming.ensures.naming refl c.make_active-naming.ensures.names c.tell.ensures.told c.tell.ensures.apps

pub returns-clause-ready : goal.returns-clause-ready
returns-clause-ready c = ready_by c.make_active-naming.new.self _ refl refl c.tell.ensures.apps c.make_active-naming.ensures.ready
