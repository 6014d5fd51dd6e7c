use Rattle.std.proofs.Common.{◌∙◌, sym}
use Rattle.cs_slices.specs.Happenings.{slices_among, since_slice}
use Rattle.cs_slices.proofs.Passes.{offset_elsewhere}
use Rattle.cs_slices.proofs.passing.Passing.offset_at.Goals as goal

pub returns-else-place-self : goal.returns-else-place-self
returns-else-place-self c = λ happened stood.
    sym (offset_elsewhere c.args.place (slices_among happened) (since_slice happened) (λ same. c.if-place-self.false (same ∙ sym stood.place)))
