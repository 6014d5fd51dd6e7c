use Rattle.std.proofs.Common.{◌∙◌, ap, find, List}
use Rattle.memory_window.specs.declared.regions.Region.{Region}
use Rattle.memory_window.specs.Regions.{spans}
use Rattle.memory_window.proofs.Given.{gives_bytes_is}
use Rattle.memory_window.proofs.regions.Map.gives_bytes.Goals as goal

pub returns : goal.returns
returns c = gives_bytes_is c.args.self.now c.args.at c.args.len c.home.result c.fits_range.result
    (c.home.ensures ∙ ap (λ (rs : List Region). find (spans c.args.at c.args.len) rs) c.regions.ensures.regions) c.fits_range.ensures
