use Rattle.std.proofs.Common.{◌∙◌, ◌/◌, ap, find, List}
use Rattle.memory_window.specs.declared.regions.Region.{Region}
use Rattle.memory_window.specs.Regions.{spans}
use Rattle.memory_window.proofs.Given.{gives_read_is}
use Rattle.memory_window.proofs.regions.Map.gives_read.Goals as goal

pub returns : goal.returns
returns c = gives_read_is c.args.self.now c.args.size c.args.at c.home.result c.fits_read.result
    (c.home.ensures ∙ rw c.from-len.ensures (ap (λ (rs : List Region). find (spans (c.args.at) (c.args.size / 8)) rs) c.regions.ensures.regions)) c.fits_read.ensures
