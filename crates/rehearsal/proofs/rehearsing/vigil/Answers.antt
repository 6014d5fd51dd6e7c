use Rattle.rehearsal.proofs.rehearsing.vigil.Goals as goal

pub returns : goal.returns
returns g c = rw c.new-nobody.ensures.items at c.vigil_with.ensures
